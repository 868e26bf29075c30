-- What is written is many steps, and steps follow on one another.
use Rattle.std.proofs.Common.{◌≡◌, Bool, true, false, List, [], ◌∷◌, ◌++◌, refl, sym, ap, ◌∙◌, Option, Some, None, IsTrue}
use Rattle.kn_h2_state.specs.declared.event.H2Event.{H2Event}
use Rattle.kn_h2_state.specs.declared.moves.Move.{Move}
use Rattle.kn_h2_state.specs.declared.state.State as h2
use Rattle.kn_h2_state.specs.Moves as moves
use Rattle.kn_ends.specs.declared.carrier.Carrier.{Carrier}
use Rattle.kn_ends.specs.Carriers.{can_write, after_write, on_conn, events_then, Fills}
use Rattle.kn_agent_node.specs.declared.arrival.Arrival.{Arrival}
use Rattle.kn_agent_node.specs.declared.node.Node.{Node}
use Rattle.kn_ends.specs.Queues.{is_empty}
use Rattle.kn_agent_node.specs.Nodes.{on_carrier}
use Rattle.kn_agent_node.specs.Steps.{Step, Follow, Hear, Handle, Admit, Write, MayDo, after_step, Makes, Reaches, events_of, with_events, arrival, handle, handle_front, lose, hear, heard, can_admit, admit}

-- ---- steps follow on one another

pub makes_append : (a b c : Node) (ss ts : List Step) → Makes a ss b → Makes b ts c → Makes a (ss ++ ts) c
makes_append a b c [] ts made more = rw (sym made) more
makes_append a b c (s ∷ ss) ts made more = (made.0, makes_append (after_step a s) b c ss ts made.1 more)

pub reaches_none : (a : Node) → Reaches a a
reaches_none a = ([], refl)

pub reaches_more : (a b c : Node) → Reaches a b → Reaches b c → Reaches a c
reaches_more a b c first later = (first.0 ++ later.0, makes_append a b c first.0 later.0 first.1 later.1)

-- ---- what is written

abbrev pub writes : List Move → List Step
writes [] = []
writes (m ∷ ms) = Write m ∷ writes ms

-- the carrier with another state of its connection
abbrev pub in_state : h2.State → Carrier → Carrier
in_state t c = on_conn (λ s. t) c

pub writes_steps : (node : Node) (t : h2.State) (ms : List Move) → node.carrier.lost ≡ false → moves.Makes node.carrier.conn.state ms t
    → Makes node (writes ms) (on_carrier (in_state t) node)
unfolding after_step can_write
writes_steps node t [] live made = rw made refl
writes_steps node t (m ∷ ms) live made = (rw live made.0, writes_steps (on_carrier (after_write m) node) t ms live made.1)

-- what was written was written by steps
pub fills_reach : (node : Node) (c : Carrier) → Fills node.carrier c → (IsTrue node.carrier.lost → c ≡ node.carrier) → Reaches node (record node { carrier = c })
fills_reach node c fills stays = by_lost node.carrier.lost refl stays
  where
    by_lost : (b : Bool) → node.carrier.lost ≡ b → (IsTrue b → c ≡ node.carrier) → Reaches node (record node { carrier = c })
    by_lost true l same = ([], rw (same refl) refl)
    by_lost false l same = (writes fills.1.0, rw fills.0 (writes_steps node c.conn.state fills.1.0 l fills.1.1))

-- ---- each step

pub follow_reaches : (a b : Node) → a.losing ≡ true → b ≡ lose a → Reaches a b
unfolding after_step
follow_reaches a b may is = (Follow ∷ [], (may, is))

pub handle_reaches : (a b : Node) (x : Arrival) → a.losing ≡ false → events_of a ≡ [] → arrival a ≡ Some x → b ≡ handle x a → Reaches a b
unfolding after_step
handle_reaches a b x followed told some is = (Handle ∷ [], ((followed, told, rw some refl), rw some is))

pub admit_reaches : (a b : Node) → can_admit a ≡ true → b ≡ admit a.behind a → Reaches a b
unfolding after_step
admit_reaches a b may is = (Admit ∷ [], (may, is))

pub hear_reaches : (a b : Node) (e : H2Event) (es : List H2Event) → a.losing ≡ false → events_of a ≡ e ∷ es → b ≡ heard e (with_events es a) → Reaches a b
unfolding after_step hear
hear_reaches a b e es followed told is = (Hear ∷ [], ((followed, rw told refl), rw told is))
