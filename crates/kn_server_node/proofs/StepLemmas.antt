-- What is written on a connection is many steps, and steps follow on one another.
use Rattle.std.proofs.Common.{◌≡◌, ℕ, Bool, true, false, List, [], ◌∷◌, ◌++◌, refl, sym, ap, ◌∙◌, Option, Some, None, IsTrue}
use Rattle.kn_h2_state.specs.declared.moves.Move.{Move}
use Rattle.kn_h2_state.specs.declared.state.State as h2
use Rattle.kn_h2_state.specs.Moves as moves
use Rattle.kn_ends.specs.declared.carrier.Carrier.{Carrier}
use Rattle.kn_ends.specs.Carriers.{can_write, after_write, on_conn, Fills}
use Rattle.kn_rising.specs.Members.{Members, at, with, change, without}
use Rattle.kn_rising.specs.Stirring.{is_stirred}
use Rattle.kn_server_node.specs.declared.end.End.{End}
use Rattle.kn_server_node.specs.declared.end.End.TheVariants.{Streams, Connect}
use Rattle.kn_server_node.specs.declared.node.Node.{Node}
use Rattle.kn_server_node.specs.declared.standing.Standing.{Standing}
use Rattle.kn_server_node.specs.Ends.{on_carrier, inlet_in, is_over, FilledOne, Filled, FillsAt}
use Rattle.kn_server_node.specs.Steps.{Step, Follow, Hear, Handle, Look, Write, Forget, MayDo, after_step, follow, hear, handle_inlet, handle_on, Makes, Reaches}
use Rattle.kn_ends.specs.declared.inlet.Inlet.{Inlet}
use Rattle.kn_server_node.specs.Fronts.{IsStanding, IsInletStanding, handle_standing}
use Rattle.kn_ends.specs.Queues.{is_empty}
use Rattle.kn_server_node.proofs.MemberLemmas.{at_with, with_with, with_same}

-- ---- steps follow on one another

pub makes_append : (a b c : Node) (ss ts : List Step) → Makes a ss b → Makes b ts c → Makes a (ss ++ ts) c
makes_append a b c [] ts made more = rw (sym made) more
makes_append a b c (s ∷ ss) ts made more = (made.0, makes_append (after_step a s) b c ss ts made.1 more)

pub reaches_none : (a : Node) → Reaches a a
reaches_none a = ([], refl)

pub reaches_more : (a b c : Node) → Reaches a b → Reaches b c → Reaches a c
reaches_more a b c first later = (first.0 ++ later.0, makes_append a b c first.0 later.0 first.1 later.1)

-- ---- what is written

abbrev pub writes : ℕ → List Move → List Step
writes n [] = []
writes n (m ∷ ms) = Write n m ∷ writes n ms

-- a connection with another state
abbrev pub in_state : h2.State → Carrier → Carrier
in_state t c = on_conn (λ s. t) c

pub writes_steps : (node : Node) (n : ℕ) (k : Bool) (c : Carrier) (t : h2.State) (ms : List Move) → is_stirred n node.stirred ≡ true → at node.ends n ≡ Some (Streams k c) → c.lost ≡ false → moves.Makes c.conn.state ms t
    → Makes node (writes n ms) (record node { ends = with node.ends n (Streams k (in_state t c)) })
unfolding after_step can_write
writes_steps node n k c t [] stirred found live made =
    let same : in_state t c ≡ c = rw made refl in
    let stays : with node.ends n (Streams k (in_state t c)) ≡ node.ends = rw same (with_same node.ends n (Streams k c) found) in
    ap (λ es. record node { ends = es }) stays
writes_steps node n k c t (m ∷ ms) stirred found live made =
    let next : Carrier = after_write m c in
    let ends : Members End = with node.ends n (Streams k next) in
    let changed : change node.ends n (on_carrier (after_write m)) ≡ ends = rw found refl in
    let there : at ends n ≡ Some (Streams k next) = at_with node.ends n (Streams k c) (Streams k next) found in
    let rest : Makes (record node { ends = ends }) (writes n ms) (record node { ends = with ends n (Streams k (in_state t next)) })
    = writes_steps (record node { ends = ends }) n k next t ms stirred there live made.1 in
    let last : with ends n (Streams k (in_state t c)) ≡ with node.ends n (Streams k (in_state t c))
    = with_with node.ends n (Streams k next) (Streams k (in_state t c)) in
    ((stirred, rw (found, live) made.0), rw (changed, ← last) rest)

-- what was written on a connection was written by steps
pub fills_reach : (node : Node) (n : ℕ) (ends : Members End) → is_stirred n node.stirred ≡ true → FillsAt n node.ends ends → Reaches node (record node { ends = ends })
fills_reach node n ends stirred filled = by_found (at node.ends n) refl filled
  where
    by_lost : (k : Bool) (c d : Carrier) (b : Bool) → c.lost ≡ b → at node.ends n ≡ Some (Streams k c) → Fills c d → (IsTrue b → d ≡ c)
        → ends ≡ with node.ends n (Streams k d) → Reaches node (record node { ends = ends })
    by_lost k c d true l found fills stays is =
        let same : ends ≡ node.ends = is ∙ (rw (stays refl) (with_same node.ends n (Streams k c) found)) in
        ([], ap (λ es. record node { ends = es }) same)
    by_lost k c d false l found fills stays is =
        let state : Streams k d ≡ Streams k (in_state d.conn.state c) = ap (λ (x : Carrier). Streams k x) fills.0 in
        (writes n fills.1.0, rw (is, state) (writes_steps node n k c d.conn.state fills.1.0 stirred found l fills.1.1))

    by_end : (e f : End) → at node.ends n ≡ Some e → FilledOne e f → ends ≡ with node.ends n f → Reaches node (record node { ends = ends })
    by_end (Streams k c) f found one is = by_lost k c one.0 c.lost refl found one.1 one.2 (is ∙ ap (λ x. with node.ends n x) one.3)
    by_end (Connect d) f found one is = ([], ap (λ es. record node { ends = es }) (is ∙ (rw one (with_same node.ends n (Connect d) found))))

    by_found : (found : Option End) → at node.ends n ≡ found → Filled found node.ends n ends → Reaches node (record node { ends = ends })
    by_found None is same = ([], ap (λ es. record node { ends = es }) same)
    by_found (Some e) is f = by_end e f.0 is f.1 f.2

-- ---- each step

pub follow_reaches : (a b : Node) → is_empty a.todo ≡ false → b ≡ follow a.todo a → Reaches a b
unfolding after_step
follow_reaches a b some is = (Follow ∷ [], (some, is))

pub hear_reaches : (a b : Node) → (a.todo ≡ []) × (is_empty a.told ≡ false) → b ≡ hear a.told a → Reaches a b
unfolding after_step
hear_reaches a b may is = (Hear ∷ [], (may, is))

pub forget_reaches : (a b : Node) (c : ℕ) → is_stirred c a.stirred ≡ true → a.todo ≡ [] → a.told ≡ [] → is_over (at a.ends c) ≡ true → b ≡ record a { ends = without a.ends c } → Reaches a b
unfolding after_step
forget_reaches a b c stirred todo told over is = (Forget c ∷ [], ((stirred, todo, told, over), is))

pub look_reaches : (a b : Node) (c : ℕ) → b ≡ record a { stirred = a.stirred ++ c ∷ [] } → Reaches a b
unfolding after_step
look_reaches a b c is = (Look c ∷ [], (tt, is))

pub handle_reaches : (a b : Node) (c s : ℕ) (x : Standing) → MayDo a (Handle c s) → IsStanding (at a.ends c) s x → ((rest : List ℕ) → b ≡ handle_standing c s x rest a) → Reaches a b
unfolding after_step handle_on
handle_reaches a b c s x may stands done = by_end (at a.ends c) refl stands
  where
    made : b ≡ handle_on (at a.ends c) c s a → Reaches a b
    made is = (Handle c s ∷ [], (may, is))

    by_inlet : (i : Option Inlet) → IsInletStanding i x → b ≡ handle_inlet c s i a
    by_inlet None is = done [] ∙ (rw is refl)
    by_inlet (Some i) is = done is.0 ∙ (rw (is.2, is.3) refl)

    by_end : (e : Option End) → at a.ends c ≡ e → IsStanding e s x → Reaches a b
    by_end None is found = made (rw is (done [] ∙ (rw found refl)))
    by_end (Some (Streams k c2)) is found = made (rw is (by_inlet (inlet_in (Some (Streams k c2)) s) found))
    by_end (Some (Connect d)) is found = made (rw is (done [] ∙ (rw found refl)))
