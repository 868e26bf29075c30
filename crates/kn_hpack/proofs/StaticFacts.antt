-- The texts and ends that the code reads are the static table.
use Rattle.std.proofs.Common.{◌≡◌, refl, ap, ◌∙◌, ℕ, zero, suc, ◌+◌, ◌*◌, ◌<◌, ◌≤◌, Bool, true, nat_le, List, [], ◌∷◌, length, Option, Some, arith, slice_range}
use Rattle.std.specs.List.{slice_get}
use Rattle.std.proofs.lemmas.Bool.{agree_below, agree_below_at}
use Rattle.std.proofs.lemmas.Bool.Decides.{nat_tests}
use Rattle.kn_hpack.specs.Fields.{Field, pair}
use Rattle.kn_hpack.specs.StaticTable.{static_table}
use Rattle.kn_hpack.specs.StaticText.{static_text, end_at}

abbrev rise_ok : ℕ → Bool
rise_ok i = nat_le (end_at i) (end_at (i + 1))

abbrev fit_ok : ℕ → Bool
fit_ok i = nat_le (end_at i) (length static_text)

rises_ok : agree_below rise_ok (λ _. true) 122 ≡ true
unfolding end_at
rises_ok = refl

fits_ok : agree_below fit_ok (λ _. true) 123 ≡ true
unfolding end_at static_text
fits_ok = refl

pub ends_rise : (i : ℕ) → i < 122 → end_at i ≤ end_at (i + 1)
ends_rise i h = let e : nat_le (end_at i) (end_at (i + 1)) ≡ true = agree_below_at rise_ok (λ _. true) 122 i rises_ok h in grind (arith, nat_tests, e)

pub ends_fit : (i : ℕ) → i < 123 → end_at i ≤ length static_text
ends_fit i h = let e : nat_le (end_at i) (length static_text) ≡ true = agree_below_at fit_ok (λ _. true) 123 i fits_ok h in grind (arith, nat_tests, e)

-- the field between three ends
abbrev pub cut : ℕ → Field
cut i = pair (slice_range static_text (end_at (2 * i)) (end_at (2 * i + 1))) (slice_range static_text (end_at (2 * i + 1)) (end_at (2 * i + 1 + 1)))

abbrev pub cuts : ℕ → ℕ → List Field
cuts zero i = []
cuts (suc k) i = cut i ∷ cuts k (i + 1)

abbrev some_cut : ℕ → Option Field
some_cut i = Some (cut i)

pub table_is_cuts : static_table ≡ cuts 61 0
unfolding static_table static_text end_at
table_is_cuts = refl

cuts_at : (k i j : ℕ) → j < k → slice_get (cuts k i) j ≡ Some (cut (i + j))
cuts_at zero i j h = absurd (omega arith)
cuts_at (suc k) i zero h = let e : i + 0 ≡ i = omega arith in rw e refl
cuts_at (suc k) i (suc j) h = let l : j < k = omega arith in let e : i + 1 + j ≡ i + suc j = omega arith in rw (← e) (cuts_at k (i + 1) j l)

pub static_at : (j : ℕ) → j < 61 → slice_get static_table j ≡ Some (cut j)
static_at j h = let z : 0 + j ≡ j = omega arith in ap (λ (xs : List Field). slice_get xs j) table_is_cuts ∙ (cuts_at 61 0 j h ∙ ap (λ (i : ℕ). some_cut i) z)
