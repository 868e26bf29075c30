-- A reader of messages holds no more than one message.
use Rattle.std.proofs.Common.{◌≡◌, ℕ, suc, ◌+◌, ◌<◌, ◌≤◌, Bool, true, false, cond, eqb, ltb, slice_index, List, [], ◌∷◌, ◌++◌, length, take, drop, Option, Some, None, refl, subst, append_assoc, length-append, length-drop, arith}
use Rattle.std.proofs.lemmas.Bool.{ltb-true, ltb-false}
use Rattle.kn_grpc.specs.declared.fault.MessageReason.{MessageReason}
use Rattle.kn_grpc.specs.declared.fault.MessageReason.TheVariants.{Compressed, Flag, TooLong}
use Rattle.kn_grpc.specs.Messages.{length_of}
use Rattle.kn_grpc.specs.Readers.{First, Less, Whole, Reading, first_by, first_message, is_less, taken, popped_by, popped}
use Rattle.kn_grpc.specs.Kept.{KeptIsBounded}

-- less than a message, or one and what follows it
abbrev found : Bool → List ℕ → First (List ℕ) MessageReason
found d bytes = cond d Less (Whole (take (length_of bytes) (drop 5 bytes)) (drop (5 + length_of bytes) bytes))

-- less than a message is shorter than the longest
less_short : (bytes : List ℕ) → is_less (first_message bytes) ≡ true → length bytes < 4194309
unfolding first_message
less_short bytes e = by_flag (eqb (slice_index bytes 0) 0) (eqb (slice_index bytes 0) 1) (ltb 4194304 (length_of bytes)) refl e
  where
    by_end : (d : Bool) → ltb (length bytes) (5 + length_of bytes) ≡ d → length_of bytes ≤ 4194304
        → is_less (found d bytes) ≡ true → length bytes < 4194309
    by_end true t small h = let short = ltb-true (length bytes) (5 + length_of bytes) t in omega (arith, short, small)
    by_end false t small h = absurd cc

    by_flag : (a c b : Bool) → ltb 4194304 (length_of bytes) ≡ b → is_less (first_by (cond a (cond b (Some TooLong) None) (cond c (Some Compressed) (Some Flag))) bytes) ≡ true → length bytes < 4194309
    by_flag true c true t h = absurd cc
    by_flag true c false t h = by_end (ltb (length bytes) (5 + length_of bytes)) refl (ltb-false 4194304 (length_of bytes) t) h
    by_flag false true b t h = absurd cc
    by_flag false false b t h = absurd cc

taken_within : (kept piece : List ℕ) → length kept ≤ 4194309 → length (kept ++ take (taken kept piece) piece) ≤ 4194309
taken_within kept [] h = let e = length-append kept [] in omega (arith, e, h)
taken_within kept (x ∷ piece) h = by_less (is_less (first_message kept)) refl (taken_within (kept ++ x ∷ []) piece)
  where
    by_less : (b : Bool) → is_less (first_message kept) ≡ b → (length (kept ++ x ∷ []) ≤ 4194309 → length ((kept ++ x ∷ []) ++ take (taken (kept ++ x ∷ []) piece) piece) ≤ 4194309)
        → length (kept ++ take (cond b (suc (taken (kept ++ x ∷ []) piece)) 0) (x ∷ piece)) ≤ 4194309
    by_less true t rest =
        let short = less_short kept t in
        let one = length-append kept (x ∷ []) in
        subst (λ (q : List ℕ). length q ≤ 4194309) (append_assoc kept (x ∷ []) (take (taken (kept ++ x ∷ []) piece) piece)) (rest (omega (arith, short, one)))
    by_less false t rest = let e = length-append kept [] in omega (arith, e, h)

popped_shorter : (r : Reading) → length (popped r).kept ≤ length r.kept
unfolding first_message
popped_shorter r = by_first (eqb (slice_index r.kept 0) 0) (eqb (slice_index r.kept 0) 1) (ltb 4194304 (length_of r.kept)) (ltb (length r.kept) (5 + length_of r.kept))
  where
    by_reason : (o : Option MessageReason) (d : Bool) → length (popped_by (first_by o r.kept) r).kept ≤ length r.kept
    by_reason (Some reason) d = omega arith
    by_reason None d = by_end (ltb (length r.kept) (5 + length_of r.kept))
      where
        by_end : (c : Bool) → length (popped_by (found c r.kept) r).kept ≤ length r.kept
        by_end true = omega arith
        by_end false = let e = length-drop (5 + length_of r.kept) r.kept in omega (arith, e)

    by_first : (a c b d : Bool) → length (popped_by (first_by (cond a (cond b (Some TooLong) None) (cond c (Some Compressed) (Some Flag))) r.kept) r).kept ≤ length r.kept
    by_first a c b d = by_reason (cond a (cond b (Some TooLong) None) (cond c (Some Compressed) (Some Flag))) d

pub kept_is_bounded : KeptIsBounded
kept_is_bounded = record {
  start = omega arith;
  fed = λ r piece h. taken_within r.kept piece h;
  popped = λ r h. let e = popped_shorter r in omega (arith, e, h);
}
