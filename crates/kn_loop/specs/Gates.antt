-- What the answers of a port say so far of its gates.
use Rattle.std.specs.Prelude.{◌≡◌, ℕ, Bool, true, false, not, ◌&&◌, List, [], ◌∷◌}
use Rattle.kn_port.specs.declared.names.Gate.{Gate}
use Rattle.kn_port.specs.declared.names.Gate.TheVariants as gate
use Rattle.kn_port.specs.declared.names.Ready.{Ready}
use Rattle.kn_port.specs.declared.names.Ready.TheVariants as ready
use Rattle.kn_port.specs.declared.names.Listened.{Listened}
use Rattle.kn_port.specs.declared.names.Listened.TheVariants as listened
use Rattle.kn_port.specs.declared.names.Accepted.{Accepted}
use Rattle.kn_port.specs.declared.names.Accepted.TheVariants as accepted
use Rattle.kn_port.specs.declared.entry.Entry.{Entry}
use Rattle.kn_port.specs.declared.entry.Entry.TheVariants as entry
use Rattle.kn_loop.specs.declared.gates.GateState.{GateState}
use Rattle.kn_loop.specs.declared.gates.GateState.TheVariants as state
use Rattle.kn_loop.specs.declared.gates.Gates.{Gates}

-- no gate takes connections
abbrev pub no_gates : Gates
no_gates = record { agents = state.Closed; clients = state.Closed; connect = state.Closed; apps = state.Closed }

abbrev pub gate_of : Gates → Gate → GateState
gate_of gs gate.Agents = gs.agents
gate_of gs gate.Clients = gs.clients
gate_of gs gate.Connect = gs.connect
gate_of gs gate.Apps = gs.apps

abbrev pub with_gate : Gate → GateState → Gates → Gates
with_gate gate.Agents s gs = record gs { agents = s }
with_gate gate.Clients s gs = record gs { clients = s }
with_gate gate.Connect s gs = record gs { connect = s }
with_gate gate.Apps s gs = record gs { apps = s }

-- its next accept may give something
abbrev pub is_unsettled : GateState → Bool
is_unsettled state.Closed = false
is_unsettled state.Open = true
is_unsettled state.Waits = false

-- a wait names the gate: its last answer counts no more
abbrev pub state_named : GateState → GateState
state_named state.Closed = state.Closed
state_named state.Open = state.Open
state_named state.Waits = state.Open

abbrev pub gate_named : Ready → Gates → Gates
gate_named (ready.Conn n) gs = gs
gate_named (ready.Gate g) gs = with_gate g (state_named (gate_of gs g)) gs

abbrev pub gates_named : List Ready → Gates → Gates
gates_named [] gs = gs
gates_named (r ∷ rs) gs = gates_named rs (gate_named r gs)

abbrev pub gate_listened : Gate → Listened → Gates → Gates
gate_listened g listened.Done gs = with_gate g state.Open gs
gate_listened g listened.Failed gs = gs
gate_listened g listened.NoMemory gs = gs

abbrev pub gate_accepted : Gate → Accepted → Gates → Gates
gate_accepted g (accepted.Conn n) gs = with_gate g state.Open gs
gate_accepted g accepted.NotYet gs = with_gate g state.Waits gs
gate_accepted g accepted.Failed gs = with_gate g state.Waits gs
gate_accepted g accepted.NoMemory gs = gs

-- what is known of the gates after one more entry of the journal
abbrev pub gates_after : Entry → Gates → Gates
gates_after (entry.Listen g address answer) gs = gate_listened g answer gs
gates_after (entry.Wait names answer) gs = gates_named names gs
gates_after (entry.Accept g answer) gs = gate_accepted g answer gs
gates_after (entry.Dial address answer) gs = gs
gates_after (entry.DialEnd n answer) gs = gs
gates_after (entry.Read n room bytes answer) gs = gs
gates_after (entry.Write n given bytes answer) gs = gs
gates_after (entry.Shut n) gs = gs

abbrev pub gates_from : List Entry → Gates → Gates
gates_from [] gs = gs
gates_from (e ∷ es) gs = gates_from es (gates_after e gs)

-- no gate that the node takes connections of has something to give, by what is known
abbrev pub are_gates_settled : (Gate → Bool) → Gates → Bool
are_gates_settled takes gs =
    not (takes gate.Agents && is_unsettled gs.agents) && not (takes gate.Clients && is_unsettled gs.clients)
    && not (takes gate.Connect && is_unsettled gs.connect) && not (takes gate.Apps && is_unsettled gs.apps)
