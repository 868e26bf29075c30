-- What the node answers of a connection that it does not keep.
use Rattle.std.proofs.Common.{◌≡◌, ◌==◌, ℕ, suc, ◌≤◌, Bool, true, false, eqb, ◌||◌, List, [], ◌∷◌, length, refl, sym, ◌∙◌, ap, Option, None, arith}
use Rattle.std.specs.List.{list_any, slice_get}
use Rattle.std.proofs.lemmas.Bool.{eq-eqb}
use Rattle.std.proofs.lemmas.Option.{slice_get_past}
use Rattle.kn_rising.specs.Members.{Members, AreMembers, place_in, at}
use Rattle.kn_rising.proofs.PlaceLemmas.{place-skip}
use Rattle.kn_agent_node.specs.declared.side.Side.{Side}
use Rattle.kn_agent_node.specs.declared.node.Node.{Node}
use Rattle.kn_agent_node.specs.Answers.{IsUnknown, wants_of, out_of, shuts_of}

or_false : (a b : Bool) → (a || b) ≡ false → (a ≡ false) × (b ≡ false)
or_false true b h = absurd cc
or_false false b h = (refl, h)

true_is_not : {a : Bool} → a ≡ true → a ≡ false → ⊥
true_is_not p q = absurd cc

-- a number that is not among those that rise has the place behind them
pub place_of_none : (ns : List ℕ) (c : ℕ) → list_any (eqb c) ns ≡ false → place_in ns c ≡ length ns
unfolding place_in
place_of_none [] c h = refl
place_of_none (x ∷ xs) c h =
    let parts = or_false (eqb c x) (list_any (eqb c) xs) h in
    place-skip x xs c (λ same. true_is_not (eq-eqb c x (sym same)) parts.0) ∙ ap (λ n. suc n) (place_of_none xs c parts.1)

pub at_none : {T : Type 0} (m : Members T) (c : ℕ) → AreMembers m → list_any (eqb c) m.numbers ≡ false → at m c ≡ None
at_none m c are h = slice_get_past m.items (place_in m.numbers c) (let place = place_of_none m.numbers c h in let same = are.same in omega (arith, place, same))

pub unknown : (node : Node) (c : ℕ) → AreMembers node.sides → list_any (eqb c) node.sides.numbers ≡ false → (c == node.server) ≡ false → IsUnknown node c
unknown node c are h other =
    let none : at node.sides c ≡ None = at_none node.sides c are h in
    (rw (other, none) refl, rw (other, none) refl, rw (other, none) refl)
