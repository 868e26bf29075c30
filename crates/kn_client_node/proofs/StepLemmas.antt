-- Steps follow on one another, and what is written on the server's connection is steps.
use Rattle.std.proofs.Common.{◌≡◌, Bool, true, false, List, [], ◌∷◌, ◌++◌, refl, sym, ap, ◌∙◌, Option, Some, None, IsTrue}
use Rattle.kn_h2_state.specs.declared.event.H2Event.{H2Event}
use Rattle.kn_h2_state.specs.declared.moves.Move.{Move}
use Rattle.kn_h2_state.specs.declared.state.State as h2
use Rattle.kn_h2_state.specs.Moves as moves
use Rattle.kn_ends.specs.declared.carrier.Carrier.{Carrier}
use Rattle.kn_ends.specs.Carriers.{can_write, after_write, on_conn, events_then, Fills}
use Rattle.kn_client_node.specs.declared.arrival.Arrival.{Arrival}
use Rattle.kn_client_node.specs.declared.node.Node.{Node}
use Rattle.kn_client_node.specs.Steps.{Step, Hear, Handle, Admit, Write, MayDo, after_step, on_carrier, told, hear, heard, arrival, handle_at, handle_front, can_admit, admit, Makes, Reaches}

-- ---- steps follow on one another

pub makes_append : (a b c : Node) (ss ts : List Step) → Makes a ss b → Makes b ts c → Makes a (ss ++ ts) c
makes_append a b c [] ts made more = rw (sym made) more
makes_append a b c (s ∷ ss) ts made more = (made.0, makes_append (after_step a s) b c ss ts made.1 more)

pub reaches_none : (a : Node) → Reaches a a
reaches_none a = ([], refl)

pub reaches_more : (a b c : Node) → Reaches a b → Reaches b c → Reaches a c
reaches_more a b c first later = (first.0 ++ later.0, makes_append a b c first.0 later.0 first.1 later.1)

-- ---- what is written

abbrev pub writes : List Move → List Step
writes [] = []
writes (m ∷ ms) = Write m ∷ writes ms

pub writes_steps : (node : Node) (t : h2.State) (ms : List Move) → node.carrier.lost ≡ false → moves.Makes node.carrier.conn.state ms t
    → Makes node (writes ms) (on_carrier (on_conn (λ s. t)) node)
unfolding after_step can_write
writes_steps node t [] live made = rw made refl
writes_steps node t (m ∷ ms) live made = (rw live made.0, writes_steps (on_carrier (after_write m) node) t ms live made.1)

pub fills_reach : (node : Node) (c : Carrier) → Fills node.carrier c → (IsTrue node.carrier.lost → c ≡ node.carrier) → Reaches node (record node { carrier = c })
fills_reach node c fills stays = by_lost node.carrier.lost refl stays
  where
    by_lost : (b : Bool) → node.carrier.lost ≡ b → (IsTrue b → c ≡ node.carrier) → Reaches node (record node { carrier = c })
    by_lost true l same = ([], ap (λ (x : Carrier). record node { carrier = x }) (same refl))
    by_lost false l same =
        let state : record node { carrier = c } ≡ on_carrier (on_conn (λ s. c.conn.state)) node = ap (λ (x : Carrier). record node { carrier = x }) fills.0 in
        (writes fills.1.0, rw state (writes_steps node c.conn.state fills.1.0 l fills.1.1))

-- ---- one step

pub hear_reaches : (a mid b : Node) (e : H2Event) → a ≡ on_carrier (events_then (e ∷ told mid)) mid → b ≡ heard e mid → Reaches a b
unfolding after_step hear
hear_reaches a mid b e first is = rw first (Hear ∷ [], (refl, is))

pub handle_reaches : (a b : Node) (x : Arrival) → told a ≡ [] → arrival a ≡ Some x → b ≡ handle_at a.stream x a → Reaches a b
unfolding after_step
handle_reaches a b x heard_all found is =
    let same : handle_front (arrival a) a ≡ handle_at a.stream x a = rw found refl in
    (Handle ∷ [], ((heard_all, rw found refl), is ∙ sym same))

pub admit_reaches : (a b : Node) → can_admit a ≡ true → b ≡ admit a.behind a → Reaches a b
unfolding after_step
admit_reaches a b can is = (Admit ∷ [], (can, is))
