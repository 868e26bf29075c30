-- What the checker computes over the tree.
use Rattle.std.proofs.Common.{◌≡◌, ℕ, ◌<◌, ◌≤◌, Bool, true, nat_le, refl, arith}
use Rattle.std.proofs.lemmas.Bool.{agree_below, agree_below_at}
use Rattle.std.proofs.lemmas.Bool.Decides.{nat_tests}
use Rattle.kn_hpack.specs.Walks.{entry_at}

abbrev entry_ok : ℕ → Bool
entry_ok i = nat_le (entry_at i) 512

entries_ok : agree_below entry_ok (λ _. true) 512 ≡ true
unfolding entry_at
entries_ok = refl

pub entry_small : (i : ℕ) → i < 512 → entry_at i ≤ 512
entry_small i h = let e : nat_le (entry_at i) 512 ≡ true = agree_below_at entry_ok (λ _. true) 512 i entries_ok h in grind (arith, nat_tests, e)
