-- Who stands on a connection is lost, the last one first put down.
use Rattle.std.proofs.Common.{◌≡◌, ℕ, zero, suc, ◌-◌, ◌<◌, ◌≤◌, List, [], ◌∷◌, length, get_or, take, refl, sym, ap, ◌∙◌, arith}
use Rattle.kn_ends.specs.declared.inlet.Inlet.{Inlet}
use Rattle.kn_server_node.specs.declared.loss.Loss.{Loss}
use Rattle.kn_server_node.specs.Steps.{loss_of, losses}

lost_at : (is : List Inlet) (k : ℕ) (d : Inlet) (todo : List Loss) → k < length is → losses (take (suc k) is) todo ≡ losses (take k is) (loss_of 0 (get_or is k d).who todo)
lost_at [] k d todo l = absurd (omega (arith, l))
lost_at (i ∷ is) zero d todo l = refl
lost_at (i ∷ is) (suc k) d todo l = ap (λ rest. loss_of 0 i.who rest) (lost_at is k d todo (omega (arith, l)))

pub lost_before : (is : List Inlet) (left : ℕ) (d : Inlet) (todo new all : List Loss) → 0 < left → left ≤ length is → new ≡ loss_of 0 (get_or is (left - 1) d).who todo → losses (take left is) todo ≡ all → losses (take (left - 1) is) new ≡ all
lost_before is zero d todo new all some within put before = absurd (omega (arith, some))
lost_before is (suc k) d todo new all some within put before =
    let e : suc k - 1 ≡ k = omega arith in
    let put_at : new ≡ loss_of 0 (get_or is k d).who todo = rw e at put in
    rw (e, put_at) (sym (lost_at is k d todo (omega (arith, within))) ∙ before)
