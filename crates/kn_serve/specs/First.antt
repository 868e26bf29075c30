-- The first turn of a program: it listens at its gates in their order, and then dials its server.
use Rattle.std.specs.Prelude.{◌≡◌, ℕ, Bool, true, false, List, [], ◌∷◌, ◌++◌, Option, None, Some}
use Rattle.kn_port.specs.declared.names.Gate.{Gate}
use Rattle.kn_port.specs.declared.names.Gate.TheVariants as gate
use Rattle.kn_port.specs.declared.names.Listened.{Listened}
use Rattle.kn_port.specs.declared.names.Listened.TheVariants as listened
use Rattle.kn_port.specs.declared.entry.Entry.{Entry}
use Rattle.kn_port.specs.Journal.{Tells, listen_entries, dial_entries}
use Rattle.kn_port.specs.Answers.{ListenCounts}
use Rattle.kn_loop.specs.declared.gates.Gates.{Gates}
use Rattle.kn_loop.specs.declared.course.Course.{Course}
use Rattle.kn_loop.specs.Gates.{no_gates, gate_listened}
use Rattle.kn_options.specs.declared.options.ServerOptions.{ServerOptions}

-- ---- gates: each is opened only where all before it were

-- what comes of one gate behind others
abbrev pub after : Listened → Listened → Listened
after listened.Done answer = answer
after listened.Failed answer = listened.Failed
after listened.NoMemory answer = listened.NoMemory

abbrev pub entries_after : Listened → Gate → List ℕ → Listened → List Entry
entries_after listened.Done g a answer = listen_entries g a answer
entries_after listened.Failed g a answer = []
entries_after listened.NoMemory g a answer = []

abbrev pub gates_after : Listened → Gate → Listened → Gates → Gates
gates_after listened.Done g answer gs = gate_listened g answer gs
gates_after listened.Failed g answer gs = gs
gates_after listened.NoMemory g answer gs = gs

-- a gate that the options leave out is none
abbrev pub after_any : Option (List ℕ) → Listened → Listened → Listened
after_any None before answer = before
after_any (Some a) before answer = after before answer

abbrev pub entries_after_any : Option (List ℕ) → Listened → Gate → Listened → List Entry
entries_after_any None before g answer = []
entries_after_any (Some a) before g answer = entries_after before g a answer

abbrev pub gates_after_any : Option (List ℕ) → Listened → Gate → Listened → Gates → Gates
gates_after_any None before g answer gs = gs
gates_after_any (Some a) before g answer gs = gates_after before g answer gs

-- a server listens for agents, for clients, and where the options have it for HTTP CONNECT
pub record ServerListens (options : ServerOptions) (told0 told1 : Option (List Entry)) (opened : Gates) (result : Listened) : Type 0 where
  pub agents : Listened
  pub clients : Listened
  pub connect : Listened
  pub told : Tells told0 told1 (listen_entries gate.Agents options.agents agents ++ (entries_after agents gate.Clients options.clients clients
      ++ entries_after_any options.connect (after agents clients) gate.Connect connect))
  pub gates : opened ≡ gates_after_any options.connect (after agents clients) gate.Connect connect
      (gates_after agents gate.Clients clients (gate_listened gate.Agents agents no_gates))
  pub answer : result ≡ after_any options.connect (after agents clients) connect

-- one gate more fails only where the count of faults rose, or one before it did
abbrev pub FailsWith : Listened → Listened → ℕ → ℕ → Type 0
FailsWith listened.Done result f0 f1 = ListenCounts result f0 f1
FailsWith listened.Failed result f0 f1 = result ≡ listened.Failed
FailsWith listened.NoMemory result f0 f1 = result ≡ listened.NoMemory

-- ---- the answer of a first turn

-- the first turn has the number 1
abbrev pub first_course : ℕ → ℕ → Course
first_course tunnels turns = record { tunnels = tunnels; turns = turns; turn = 1 }
