-- The newest fields for which there is room.
use Rattle.std.proofs.Common.{◌≡◌, refl, ap, ℕ, ◌+◌, ◌-◌, ◌<◌, ◌≤◌, Bool, true, false, List, [], ◌∷◌, ◌++◌, nat_le, arith}
use Rattle.std.proofs.lemmas.Bool.{leb-true, le-leb, lt-leb}
use Rattle.kn_hpack.specs.Fields.{Field, size, total, kept}

pub total_append : (xs ys : List Field) → total (xs ++ ys) ≡ total xs + total ys
total_append [] ys = omega arith
total_append (x ∷ xs) ys = let e : total (xs ++ ys) ≡ total xs + total ys = total_append xs ys in omega arith

pub kept_all : (room : ℕ) (es : List Field) → total es ≤ room → kept room es ≡ es
unfolding kept
kept_all room [] h = refl
kept_all room (e ∷ es) h =
    let t : nat_le (size e) room ≡ true = le-leb (size e) room (omega arith) in
    rw t (ap (λ (xs : List Field). e ∷ xs) (kept_all (room - size e) es (omega arith)))

kept_last_by : (b : Bool) (room : ℕ) (x : Field) (xs : List Field) (e : Field) → nat_le (size x) room ≡ b
    → (size x ≤ room → kept (room - size x) (xs ++ e ∷ []) ≡ kept (room - size x) xs) → kept room (x ∷ xs ++ e ∷ []) ≡ kept room (x ∷ xs)
unfolding kept
kept_last_by true room x xs e t f = rw t (ap (λ (ys : List Field). x ∷ ys) (f (leb-true (size x) room t)))
kept_last_by false room x xs e t f = rw t refl

pub kept_last : (room : ℕ) (es : List Field) (e : Field) → room < total (es ++ e ∷ []) → kept room (es ++ e ∷ []) ≡ kept room es
unfolding kept
kept_last room [] e h = let l : room < size e + 0 = h in let t : nat_le (size e) room ≡ false = lt-leb (size e) room (omega arith) in rw t refl
kept_last room (x ∷ xs) e h =
    kept_last_by (nat_le (size x) room) room x xs e refl (λ l. kept_last (room - size x) xs e (omega arith))

pub kept_more : (room : ℕ) (f : Field) (fs : List Field) → size f ≤ room → kept room (f ∷ fs) ≡ f ∷ kept (room - size f) fs
unfolding kept
kept_more room f fs h = rw (le-leb (size f) room h) refl

pub kept_none : (room : ℕ) (f : Field) (fs : List Field) → room < size f → kept room (f ∷ fs) ≡ []
unfolding kept
kept_none room f fs h = rw (lt-leb (size f) room h) refl

pub last_counts : (old new : List Field) (p : Field) → old ≡ new ++ p ∷ [] → total old ≡ total new + size p
last_counts old new p e = omega (arith, ap total e, total_append new (p ∷ []))
