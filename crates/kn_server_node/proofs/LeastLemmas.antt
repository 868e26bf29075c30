-- The least of some candidates, and of the streams of connections.
use Rattle.std.proofs.Common.{◌≡◌, ℕ, Bool, true, false, cond, eqb, List, [], ◌∷◌, ◌++◌, Option, Some, None, refl, sym, ◌∙◌, subst, arith}
use Rattle.std.specs.Prelude.{◌&&◌, ◌||◌, not, MatchOption}
use Rattle.std.proofs.lemmas.Bool.{eqb-true, eq-eqb}
use Rattle.kn_packet.specs.declared.packet.Packet.{Packet}
use Rattle.kn_grpc.specs.Readers.{First, Less, Whole, Bad}
use Rattle.kn_grpc.specs.Packets.{first_of}
use Rattle.kn_ends.specs.declared.inlet.Inlet.{Inlet}
use Rattle.kn_ends.specs.Numbers.{at as inlet_by}
use Rattle.kn_ends.specs.Carriers.{inlet_at}
use Rattle.kn_ends.specs.Queues.{is_empty}
use Rattle.kn_rising.specs.Members.{Members, at}
use Rattle.kn_server_node.specs.declared.candidate.Candidate.{Candidate}
use Rattle.kn_server_node.specs.declared.end.End.{End}
use Rattle.kn_server_node.specs.declared.end.End.TheVariants.{Streams, Connect}
use Rattle.kn_server_node.specs.declared.node.Node.{Node}
use Rattle.kn_server_node.specs.Least.{is_before, earlier, better, least_from, Passed, AllPassed, Can, is_listed, can_in, of_inlets, streams_in, streams_of, least_of, AreListed}
use Rattle.kn_server_node.specs.Nodes.{can_handle, can_on, can_take, inlet_can, early_goes}
use Rattle.kn_server_node.specs.Nodes.{is_before as before}
use Rattle.kn_server_node.specs.Noting.{is_in, has_front, inlet_has, first_stands}
use Rattle.kn_server_node.specs.Tasks.{NoneCan, IsLeastToHandle}

-- the best so far is no later than another, which passes or is none
abbrev pub NoLater : (Candidate → Bool) → Option Candidate → Option Candidate → Type 0
NoLater can old new = (x : Candidate) → Passed can old x → Passed can new x

pub before_through : (a b c : Candidate) → is_before a b ≡ true → is_before b c ≡ true → is_before a c ≡ true
before_through a b c x y = grind arith

pub better_no_later : (can : Candidate → Bool) (best : Option Candidate) (x : Candidate) → NoLater can best (better can best x)
better_no_later can best x = by_can (can x) best
  where
    by_before : (b : Candidate) (t : Bool) → is_before x b ≡ t → NoLater can (Some b) (cond t (Some x) (Some b))
    by_before b true h = λ y p e. p (before_through y x b e h)
    by_before b false h = λ y p. p

    by_can : (t : Bool) (best : Option Candidate) → NoLater can best (cond t (earlier best x) best)
    by_can false best = λ y p. p
    by_can true None = λ y p e. p
    by_can true (Some b) = by_before b (is_before x b) refl

pub better_passed : (can : Candidate → Bool) (best : Option Candidate) (x : Candidate) → Passed can (better can best x) x
better_passed can best x = by_can (can x) refl best
  where
    irreflexive : is_before x x ≡ true → ⊥
    irreflexive h = grind arith

    by_before : (b : Candidate) (t : Bool) → is_before x b ≡ t → Passed can (cond t (Some x) (Some b)) x
    by_before b true h = λ e. absurd (irreflexive e)
    by_before b false h = λ e. absurd cc

    by_none : (t : Bool) → can x ≡ false → (best : Option Candidate) → Passed can best x
    by_none t h None = h
    by_none t h (Some b) = λ e. h

    by_can : (t : Bool) → can x ≡ t → (best : Option Candidate) → Passed can (cond t (earlier best x) best) x
    by_can false h best = by_none false h best
    by_can true h None = λ e. absurd (irreflexive e)
    by_can true h (Some b) = by_before b (is_before x b) refl

pub better_can : (can : Candidate → Bool) (best : Option Candidate) (x : Candidate) → Can can best → Can can (better can best x)
better_can can best x p = by_can (can x) refl best p
  where
    by_before : (b : Candidate) (t : Bool) → can x ≡ true → can b ≡ true → Can can (cond t (Some x) (Some b))
    by_before b true h p = h
    by_before b false h p = p

    by_can : (t : Bool) → can x ≡ t → (best : Option Candidate) → Can can best → Can can (cond t (earlier best x) best)
    by_can false h best p = p
    by_can true h None p = h
    by_can true h (Some b) p = by_before b (is_before x b) h p

pub least_no_later : (can : Candidate → Bool) (best : Option Candidate) (xs : List Candidate) → NoLater can best (least_from can best xs)
least_no_later can best [] = λ y p. p
least_no_later can best (x ∷ xs) = λ y p. least_no_later can (better can best x) xs y (better_no_later can best x y p)

pub least_passed : (can : Candidate → Bool) (best : Option Candidate) (xs : List Candidate) → AllPassed can (least_from can best xs) xs
least_passed can best [] = tt
least_passed can best (x ∷ xs) = (least_no_later can (better can best x) xs x (better_passed can best x), least_passed can (better can best x) xs)

pub least_can : (can : Candidate → Bool) (best : Option Candidate) (xs : List Candidate) → Can can best → Can can (least_from can best xs)
least_can can best [] p = p
least_can can best (x ∷ xs) p = least_can can (better can best x) xs (better_can can best x p)

-- ---- of the node

-- what is listed passed
pub passed_at : (node : Node) (best : Option Candidate) (xs : List Candidate) (c s : ℕ) → AllPassed (can_in node) best xs → is_listed xs c s ≡ true
    → (x : Candidate) × (x.conn ≡ c) × (x.stream ≡ s) × Passed (can_in node) best x
passed_at node best [] c s all listed = absurd cc
passed_at node best (x ∷ xs) c s all listed = by_test (eqb x.conn c) refl (eqb x.stream s) refl (passed_at node best xs c s all.1) listed
  where
    by_test : (a : Bool) → eqb x.conn c ≡ a → (b : Bool) → eqb x.stream s ≡ b
        → (is_listed xs c s ≡ true → (y : Candidate) × (y.conn ≡ c) × (y.stream ≡ s) × Passed (can_in node) best y)
        → ((a && b) || is_listed xs c s) ≡ true
        → (y : Candidate) × (y.conn ≡ c) × (y.stream ≡ s) × Passed (can_in node) best y
    by_test true p true q rest h = (x, eqb-true _ _ p, eqb-true _ _ q, all.0)
    by_test true p false q rest h = rest h
    by_test false p b q rest h = rest h

pub false_by : (b : Bool) → (b ≡ true → b ≡ false) → b ≡ false
false_by true h = h refl
false_by false h = refl

pub cannot_at : (node : Node) (x : Candidate) (c s : ℕ) → x.conn ≡ c → x.stream ≡ s → can_in node x ≡ false → can_handle node c s ≡ false
cannot_at node x c s p q h = rw (← p, ← q) h

pub none_can : (node : Node) (xs : List Candidate) → AreListed node xs → least_from (can_in node) None xs ≡ None → (c s : ℕ) → can_handle node c s ≡ false
none_can node xs noted none c s = false_by (can_handle node c s) (λ h.
    let found = passed_at node None xs c s (subst (λ b. AllPassed (can_in node) b xs) none (least_passed (can_in node) None xs)) (noted c s h) in
    cannot_at node found.0 c s found.1 found.2 found.3)

pub least_can_be : (node : Node) (xs : List Candidate) (x : Candidate) → least_from (can_in node) None xs ≡ Some x → can_handle node x.conn x.stream ≡ true
least_can_be node xs x some = subst (λ b. Can (can_in node) b) some (least_can (can_in node) None xs tt)

pub before_is : (x y : Candidate) (c s : ℕ) → y.conn ≡ c → y.stream ≡ s → before c s x.conn x.stream ≡ true → is_before y x ≡ true
before_is x y c s p q h = rw (p, q) h

pub before_cannot : (node : Node) (xs : List Candidate) (x : Candidate) → AreListed node xs → least_from (can_in node) None xs ≡ Some x
    → (c s : ℕ) → before c s x.conn x.stream ≡ true → can_handle node c s ≡ false
before_cannot node xs x noted some c s earlier_one = false_by (can_handle node c s) (λ h.
    let found = passed_at node (Some x) xs c s (subst (λ b. AllPassed (can_in node) b xs) some (least_passed (can_in node) None xs)) (noted c s h) in
    cannot_at node found.0 c s found.1 found.2 (found.3 (before_is x found.0 c s found.1 found.2 earlier_one)))

-- ---- the streams of connections

listed_left : (xs ys : List Candidate) (c s : ℕ) → is_listed xs c s ≡ true → is_listed (xs ++ ys) c s ≡ true
listed_left [] ys c s h = absurd cc
listed_left (x ∷ xs) ys c s h = by_test (eqb x.conn c && eqb x.stream s) h (listed_left xs ys c s)
  where
    by_test : (b : Bool) → (b || is_listed xs c s) ≡ true → (is_listed xs c s ≡ true → is_listed (xs ++ ys) c s ≡ true) → (b || is_listed (xs ++ ys) c s) ≡ true
    by_test true h rest = refl
    by_test false h rest = rest h

listed_right : (xs ys : List Candidate) (c s : ℕ) → is_listed ys c s ≡ true → is_listed (xs ++ ys) c s ≡ true
listed_right [] ys c s h = h
listed_right (x ∷ xs) ys c s h = by_test (eqb x.conn c && eqb x.stream s) (listed_right xs ys c s h)
  where
    by_test : (b : Bool) → is_listed (xs ++ ys) c s ≡ true → (b || is_listed (xs ++ ys) c s) ≡ true
    by_test true h = refl
    by_test false h = h

listed_inlet : (is : List Inlet) (c s : ℕ) → inlet_has (inlet_at is s) ≡ true → is_listed (of_inlets c is) c s ≡ true
unfolding inlet_by
listed_inlet [] c s h = absurd cc
listed_inlet (i ∷ is) c s h = by_test (eqb i.stream s) h (listed_inlet is c s)
  where
    by_test : (b : Bool) → inlet_has (cond b (Some i) (inlet_at is s)) ≡ true → (inlet_has (inlet_at is s) ≡ true → is_listed (of_inlets c is) c s ≡ true)
        → ((eqb c c && b) || is_listed (of_inlets c is) c s) ≡ true
    by_test true h rest = rw (eq-eqb c c refl) refl
    by_test false h rest = rw (eq-eqb c c refl) (rest h)

listed_in : (c s : ℕ) (e : Option End) → has_front e s ≡ true → is_listed (streams_in c e) c s ≡ true
unfolding has_front
listed_in c s None h = absurd cc
listed_in c s (Some (Streams k carrier)) h = listed_inlet carrier.inlets c s h
listed_in c s (Some (Connect d)) h = by_test (eqb s 0) refl h
  where
    by_test : (b : Bool) → eqb s 0 ≡ b → (b && not (is_empty d.early)) ≡ true → ((eqb c c && eqb 0 s) || false) ≡ true
    by_test true e h = rw (eq-eqb c c refl, eqb-true s 0 e) refl
    by_test false e h = absurd cc

streams_listed : (ends : Members End) (cs : List ℕ) (c s : ℕ) → is_in c cs ≡ true → is_listed (streams_in c (at ends c)) c s ≡ true → is_listed (streams_of ends cs) c s ≡ true
streams_listed ends [] c s h listed = absurd cc
streams_listed ends (x ∷ xs) c s h listed = by_test (eqb x c) refl h (λ i. streams_listed ends xs c s i listed)
  where
    by_test : (b : Bool) → eqb x c ≡ b → (b || is_in c xs) ≡ true → (is_in c xs ≡ true → is_listed (streams_of ends xs) c s ≡ true)
        → is_listed (streams_in x (at ends x) ++ streams_of ends xs) c s ≡ true
    by_test true e h rest = listed_left (streams_in x (at ends x)) (streams_of ends xs) c s (rw (eqb-true x c e) listed)
    by_test false e h rest = listed_right (streams_in x (at ends x)) (streams_of ends xs) c s (rest h)

-- what can be handled stands at a front
pub can_has : (node : Node) (c s : ℕ) → can_handle node c s ≡ true → has_front (at node.ends c) s ≡ true
unfolding can_handle has_front
can_has node c s h = by_end (at node.ends c) h
  where
    by_first : (i : Inlet) (f : First Packet ℕ) → can_take node i.who i.ended f ≡ true → first_stands i.ended f ≡ true
    by_first i Less h = h
    by_first i (Whole p rest) h = refl
    by_first i (Bad status) h = refl

    by_inlet : (i : Option Inlet) → inlet_can node i ≡ true → inlet_has i ≡ true
    by_inlet None h = absurd cc
    by_inlet (Some i) h = by_first i (first_of i.messages.kept) h

    by_tests : (a b g : Bool) → (a && (b && g)) ≡ true → (a && b) ≡ true
    by_tests true true g h = refl
    by_tests true false g h = absurd cc
    by_tests false b g h = absurd cc

    by_end : (e : Option End) → can_on node e s ≡ true → has_front e s ≡ true
    by_end None h = absurd cc
    by_end (Some (Streams k carrier)) h = by_inlet (inlet_at carrier.inlets s) h
    by_end (Some (Connect d)) h = by_tests (eqb s 0) (not (is_empty d.early)) (early_goes node d) h

least_append : (can : Candidate → Bool) (best : Option Candidate) (xs ys : List Candidate) → least_from can best (xs ++ ys) ≡ least_from can (least_from can best xs) ys
least_append can best [] ys = refl
least_append can best (x ∷ xs) ys = least_append can (better can best x) xs ys

least_of_streams : (node : Node) (best : Option Candidate) (cs : List ℕ) → least_of node best cs ≡ least_from (can_in node) best (streams_of node.ends cs)
least_of_streams node best [] = refl
least_of_streams node best (c ∷ cs) =
    least_of_streams node (least_from (can_in node) best (streams_in c (at node.ends c))) cs
    ∙ sym (least_append (can_in node) best (streams_in c (at node.ends c)) (streams_of node.ends cs))

-- all that have something to handle are among these connections
abbrev pub AreReady : Node → List ℕ → Type 0
AreReady node cs = (c s : ℕ) → has_front (at node.ends c) s ≡ true → is_in c cs ≡ true

pub are_listed : (node : Node) (cs : List ℕ) → AreReady node cs → AreListed node (streams_of node.ends cs)
are_listed node cs ready c s h =
    let front = can_has node c s h in
    streams_listed node.ends cs c s (ready c s front) (listed_in c s (at node.ends c) front)

pub least_is : (node : Node) (cs : List ℕ) (r : Option Candidate) → r ≡ least_of node None cs → AreReady node cs → MatchOption r (NoneCan node) (λ x. IsLeastToHandle node x)
least_is node cs None is ready = none_can node (streams_of node.ends cs) (are_listed node cs ready) (sym (is ∙ least_of_streams node None cs))
least_is node cs (Some x) is ready =
    let some = sym (is ∙ least_of_streams node None cs) in
    record { can = least_can_be node (streams_of node.ends cs) x some; least = before_cannot node (streams_of node.ends cs) x (are_listed node cs ready) some }
