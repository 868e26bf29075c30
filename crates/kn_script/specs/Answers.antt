-- What the calls of the reader may answer, where a definition says what is expected and memory may lack.
use Rattle.std.specs.Prelude.{ℕ, ◌≡◌, ◌≤◌, Bool, true, ⊤, Option, Some, None, Result, Ok, Err}
use Rattle.kn_world.specs.declared.event.WorldEvent.{WorldEvent}
use Rattle.kn_script.specs.Script.{Events, has_room, made_by}
use Rattle.kn_script.specs.declared.fault.ScriptReason.{ScriptReason}
use Rattle.kn_script.specs.declared.fault.ScriptError.{ScriptError}
use Rattle.kn_script.specs.declared.fault.ScriptError.TheVariants as script_error
use Rattle.kn_script.specs.declared.fault.LineError.{LineError}
use Rattle.kn_script.specs.declared.fault.LineError.TheVariants as line_error
use Rattle.kn_script.specs.declared.made.Made.{Made}
use Rattle.kn_script.specs.declared.made.TheConstants.{MAX_AGENTS, MAX_CLIENTS, MAX_APPS}

-- an answer of a call that reads a line, or a part of one, is what is expected
abbrev pub LineGives : {A : Type 0} → Result A ScriptReason → Result A LineError → Type 0
LineGives expected (Ok found) = expected ≡ Ok found
LineGives expected (Err (line_error.Fault why)) = expected ≡ Err why
LineGives expected (Err line_error.NoMemory) = ⊤

-- a fault that a call answers is the one that is expected
abbrev pub IsFaultOf : Events → ScriptError → Type 0
IsFaultOf expected (script_error.Fault fault) = expected ≡ Err fault
IsFaultOf expected script_error.NoMemory = ⊤

-- the fault of a line, where the call that read it did not only lack memory
abbrev pub IsFaultAt : ℕ → LineError → ScriptError → Type 0
IsFaultAt number (line_error.Fault why) error = error ≡ script_error.Fault (record { line = number; reason = why })
IsFaultAt number line_error.NoMemory error = error ≡ script_error.NoMemory

-- no more is made than the limits allow
pub record IsWithin (made : Made) : Type 0 where
  pub agents : made.agents ≤ MAX_AGENTS
  pub clients : made.clients ≤ MAX_CLIENTS
  pub apps : made.apps ≤ MAX_APPS

abbrev pub may_add : Made → Option WorldEvent → Bool
may_add made None = true
may_add made (Some event) = has_room made event

abbrev pub made_with : Option WorldEvent → Made → Made
made_with None made = made
made_with (Some event) made = made_by event made
