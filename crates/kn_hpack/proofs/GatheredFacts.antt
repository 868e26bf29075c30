-- One more field of a list.
use Rattle.std.proofs.Common.{◌≡◌, refl, sym, ◌∙◌, ap, ◌+◌, ◌<◌, ◌≤◌, List, [], ◌∷◌, ◌++◌, Result, Ok, Err, arith, nat_lt, true, false}
use Rattle.std.proofs.lemmas.Bool.{lt-ltb, le-ltb}
use Rattle.kn_hpack.specs.Fields.{Field, size, total}
use Rattle.kn_hpack.specs.Blocks.{one_more}
use Rattle.kn_hpack.specs.declared.fault.HpackReason.{HpackReason}
use Rattle.kn_hpack.specs.declared.fault.HpackReason.TheVariants.{TooLarge}
use Rattle.kn_hpack.proofs.TableFacts.{total_append}

abbrev pub listed : List Field → Result (List Field) HpackReason
listed fs = Ok fs

pub too_large : (xs : List Field) (f : Field) → 16384 < total xs + size f → one_more xs f ≡ Err TooLarge
unfolding one_more
too_large xs f h = let t : nat_lt 16384 (total (xs ++ f ∷ [])) ≡ true = lt-ltb 16384 (total (xs ++ f ∷ [])) (omega (arith, total_append xs (f ∷ []))) in rw t refl

pub kept_one : (xs ys hs : List Field) (f : Field) → hs ≡ xs → ys ≡ hs ++ f ∷ [] → total xs + size f ≤ 16384 → one_more xs f ≡ listed ys
unfolding one_more
kept_one xs ys hs f e g h =
    let t : nat_lt 16384 (total (xs ++ f ∷ [])) ≡ false = le-ltb 16384 (total (xs ++ f ∷ [])) (omega (arith, total_append xs (f ∷ []))) in
    rw t (ap listed (ap (λ (zs : List Field). zs ++ f ∷ []) (sym e) ∙ sym g))
