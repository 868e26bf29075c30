-- What becomes of bytes that are queued, and how many wait in packets.
use Rattle.std.proofs.Common.{◌≡◌, ℕ, ◌+◌, ◌-◌, ◌<◌, ◌≤◌, nat_lt, Bool, true, false, cond, List, [], ◌∷◌, length, drop, get_or, refl, sym, Option, Some, None, arith}
use Rattle.std.proofs.lemmas.Bool.{lt-ltb, le-ltb}
use Rattle.std.proofs.lemmas.List.{drop_more, drop_all}
use Rattle.kn_ends.specs.Queues.{total}
use Rattle.std.specs.Prelude.{is_some}
use Rattle.kn_h2_state.specs.Limits.{queue_limit}
use Rattle.kn_h2_state.specs.declared.refusal.QueueRefusal.{QueueRefusal}
use Rattle.kn_h2_state.specs.declared.refusal.QueueRefusal.TheVariants.{Full}
use Rattle.kn_h2_state.specs.Calls.{or_full}

pub keeps : {T : Type 0} (s t : T) (held : ℕ) (r : Option QueueRefusal) → or_full held r ≡ None → cond (is_some r) s (cond (nat_lt queue_limit held) s t) ≡ t
keeps s t held (Some r) e = absurd cc
keeps s t held None e = by_room (nat_lt queue_limit held) e
  where
    by_room : (b : Bool) → cond b (Some (Full held)) None ≡ None → cond b s t ≡ t
    by_room true e = absurd cc
    by_room false e = refl

pub drops : {T : Type 0} (s t : T) (held : ℕ) (r : Option QueueRefusal) (e : QueueRefusal) → or_full held r ≡ Some e → cond (is_some r) s (cond (nat_lt queue_limit held) s t) ≡ s
drops s t held (Some r) e h = refl
drops s t held None e h = by_room (nat_lt queue_limit held) h
  where
    by_room : (b : Bool) → cond b (Some (Full held)) None ≡ Some e → cond b s t ≡ s
    by_room true h = refl
    by_room false h = absurd cc

-- ---- the bytes of packets that wait

pub total-cons : (x : List ℕ) (xs : List (List ℕ)) → total (x ∷ xs) ≡ length x + total xs
unfolding total
total-cons x xs = refl

pub total-nil : total [] ≡ 0
unfolding total
total-nil = refl

pub total_from : (xs ys : List (List ℕ)) (i : ℕ) (x : List ℕ) → ys ≡ xs → i < length xs → x ≡ get_or xs i x → total (drop i ys) ≡ length x + total (drop (i + 1) ys)
total_from xs ys i x same l is = rw (same, drop_more xs i x l, ← is) (total-cons x (drop (i + 1) xs))

pub is_more : (xs ys : List (List ℕ)) (i limit left len : ℕ) (x : List ℕ) → ys ≡ xs → i < length xs → x ≡ get_or xs i x → len ≡ length x → limit + total (drop i ys) ≡ left + total ys → left < len → true ≡ nat_lt limit (total ys)
is_more xs ys i limit left len x same l is long e more =
    let step = total_from xs ys i x same l is in
    sym (lt-ltb limit (total ys) (omega arith))

pub goes_on : (xs ys : List (List ℕ)) (i limit left len : ℕ) (x : List ℕ) → ys ≡ xs → i < length xs → x ≡ get_or xs i x → len ≡ length x → limit + total (drop i ys) ≡ left + total ys → len ≤ left → limit + total (drop (i + 1) ys) ≡ (left - len) + total ys
goes_on xs ys i limit left len x same l is long e fits = let step = total_from xs ys i x same l is in omega arith

pub is_within : (xs ys : List (List ℕ)) (i limit left : ℕ) → ys ≡ xs → length xs ≤ i → limit + total (drop i ys) ≡ left + total ys → false ≡ nat_lt limit (total ys)
is_within xs ys i limit left same l e =
    let past : drop i ys ≡ [] = rw same (drop_all i xs l) in
    let rest : total (drop i ys) ≡ 0 = rw past total-nil in
    sym (le-ltb limit (total ys) (omega arith))
