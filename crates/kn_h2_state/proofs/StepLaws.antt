-- The header blocks of one encoder, and the decoder that reads them in their order.
use Rattle.std.proofs.Common.{◌≡◌, Bool, true, false, nat_le, List, [], ◌∷◌, Ok, refl, ap, ◌∙◌, arith}
use Rattle.std.proofs.lemmas.Bool.{leb-true}
use Rattle.kn_hpack.specs.Fields.{Field, Table, table_of, size, kept}
use Rattle.kn_hpack.specs.Blocks.{progress}
use Rattle.kn_hpack.specs.Encoding.{block_of}
use Rattle.kn_hpack.specs.Representations.{BlockIsRead}
use Rattle.kn_hpack.specs.RoundTrip.{table_after, EncodedIsBlock}
use Rattle.kn_h2_state.specs.InStep.{no_table, IsInStep, NextIsRead}

-- there is no room for a field
nothing_kept : (fs : List Field) → kept 0 fs ≡ []
unfolding kept
nothing_kept [] = refl
nothing_kept (f ∷ fs) = by_test (nat_le (size f) 0) refl
  where
    by_test : (b : Bool) → nat_le (size f) 0 ≡ b → kept 0 (f ∷ fs) ≡ []
    by_test true e = absurd (omega (arith, leb-true (size f) 0 e))
    by_test false e = rw e refl

then_none : (wrote : Bool) (t : Table) → IsInStep wrote t → table_after wrote t ≡ no_table
then_none true t e = e
then_none false t e = ap (table_of 0) (nothing_kept t.fields)

pub next_is_read : EncodedIsBlock → BlockIsRead → NextIsRead
next_is_read encoded reads wrote t fields small step =
    reads t (table_after wrote t) (block_of wrote fields) fields (encoded t wrote fields small) ∙ ap (λ u. Ok (progress u fields)) (then_none wrote t step)
