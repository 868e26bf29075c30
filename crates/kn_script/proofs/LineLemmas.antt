-- The first line of bytes, and the first piece of a line.
use Rattle.std.proofs.Common.{◌≡◌, ℕ, ◌+◌, ◌-◌, ◌<◌, ◌≤◌, suc, Bool, true, false, cond, List, [], ◌∷◌, length, take, drop, Some, None, refl, ◌∙◌, arith, ⊎_elim}
use Rattle.std.proofs.lemmas.List.{take_all, drop_all, length-drop}
use Rattle.std.proofs.lemmas.Bool.{cases_Bool}
use Rattle.std.proofs.lemmas.Bool.Decides.{nat_tests}
use Rattle.std.specs.List.{position, position_or_len, before_first, after_first, onto_first, slice_split}
use Rattle.kn_script.specs.Lines.{lines_of, is_line_feed, is_space, pieces_of}
use Rattle.kn_script.specs.Words.{one_word, no_word}

ends : (byte : ℕ) (bytes : List ℕ) → is_line_feed byte ≡ true → lines_of (byte ∷ bytes) ≡ before_first is_line_feed (byte ∷ bytes) ∷ lines_of (after_first is_line_feed (byte ∷ bytes))
ends byte bytes h = rw h refl

take-more : (n x : ℕ) (xs : List ℕ) → take (1 + n) (x ∷ xs) ≡ x ∷ take n xs
take-more n x xs = let e : 1 + n ≡ suc n = omega arith in rw e refl

drop-more : (n x : ℕ) (xs : List ℕ) → drop (1 + n + 1) (x ∷ xs) ≡ drop (n + 1) xs
drop-more n x xs = let e : 1 + n + 1 ≡ suc (n + 1) = omega arith in rw e refl

goes_on : (byte : ℕ) (bytes : List ℕ) → is_line_feed byte ≡ false → (lines_of bytes ≡ before_first is_line_feed bytes ∷ lines_of (after_first is_line_feed bytes)) → lines_of (byte ∷ bytes) ≡ before_first is_line_feed (byte ∷ bytes) ∷ lines_of (after_first is_line_feed (byte ∷ bytes))
goes_on byte bytes h rest =
    let n = position_or_len is_line_feed bytes in
    rw h (rw rest (rw (take-more n byte bytes) (rw (drop-more n byte bytes) refl)))

goes_last : (byte : ℕ) → is_line_feed byte ≡ false → lines_of (byte ∷ []) ≡ before_first is_line_feed (byte ∷ []) ∷ lines_of (after_first is_line_feed (byte ∷ []))
goes_last byte h = rw h refl

-- the first line goes up to the first line feed, and the others stand after it
pub first_line : (bytes : List ℕ) → 0 < length bytes → lines_of bytes ≡ before_first is_line_feed bytes ∷ lines_of (after_first is_line_feed bytes)
first_line [] some = absurd (omega arith)
first_line (byte ∷ []) some = ⊎_elim (ends byte []) (goes_last byte) (cases_Bool (is_line_feed byte))
first_line (byte ∷ next ∷ bytes) some =
    let rest = first_line (next ∷ bytes) (omega arith) in
    ⊎_elim (ends byte (next ∷ bytes)) (λ h. goes_on byte (next ∷ bytes) h rest) (cases_Bool (is_line_feed byte))

cond_some : (b : Bool) (n at : ℕ) → cond b (Some n) None ≡ Some at → (b ≡ true) × (at ≡ n)
cond_some b n at = elim b as (λ v. cond v (Some n) None ≡ Some at → (v ≡ true) × (at ≡ n)) [ true ↦ λ h. (refl, (cc)) | false ↦ λ h. (cc) ]

cond_none : (b : Bool) (n : ℕ) → cond b (Some n) None ≡ None → b ≡ false
cond_none b n = elim b as (λ v. cond v (Some n) None ≡ None → v ≡ false) [ true ↦ λ h. (cc) | false ↦ λ h. refl ]

pub position_found : (p : ℕ → Bool) (xs : List ℕ) (at : ℕ) → position p xs ≡ Some at → (at ≡ position_or_len p xs) × (at < length xs)
position_found p xs at h =
    let found = cond_some _ _ _ h in
    let within = found.0 in
    let same = found.1 in
    (same, grind (arith, nat_tests))

pub position_none : (p : ℕ → Bool) (xs : List ℕ) → position p xs ≡ None → length xs ≤ position_or_len p xs
position_none p xs h = let past = cond_none _ _ h in grind (arith, nat_tests)

-- a line without a space is one piece
alone_head : (p : ℕ → Bool) (x : ℕ) (xs : List ℕ) → p x ≡ true → length (x ∷ xs) ≤ position_or_len p (x ∷ xs) → slice_split p (x ∷ xs) ≡ (x ∷ xs) ∷ []
alone_head p x xs h past = absurd (let none = rw h at past in omega arith)

alone_tail : (p : ℕ → Bool) (x : ℕ) (xs : List ℕ) → p x ≡ false → slice_split p xs ≡ xs ∷ [] → slice_split p (x ∷ xs) ≡ (x ∷ xs) ∷ []
alone_tail p x xs h rest = rw h (rw rest refl)

shorter : (p : ℕ → Bool) (x : ℕ) (xs : List ℕ) → p x ≡ false → length (x ∷ xs) ≤ position_or_len p (x ∷ xs) → length xs ≤ position_or_len p xs
shorter p x xs h past = let less = rw h at past in omega arith

pub one_piece : (p : ℕ → Bool) (xs : List ℕ) → length xs ≤ position_or_len p xs → slice_split p xs ≡ xs ∷ []
one_piece p [] past = refl
one_piece p (x ∷ xs) past =
    let rest : length xs ≤ position_or_len p xs → slice_split p xs ≡ xs ∷ [] = one_piece p xs in
    ⊎_elim (λ h. alone_head p x xs h past) (λ h. alone_tail p x xs h (rest (shorter p x xs h past))) (cases_Bool (p x))

first_of_onto : (x : ℕ) (pieces : List (List ℕ)) → (first : List ℕ) × ((more : List (List ℕ)) × (onto_first x pieces ≡ first ∷ more))
first_of_onto x [] = (x ∷ [], ([], refl))
first_of_onto x (piece ∷ pieces) = (x ∷ piece, (pieces, refl))

first_of_cond : (b : Bool) (x : ℕ) (pieces : List (List ℕ)) → (first : List ℕ) × ((more : List (List ℕ)) × (cond b ([] ∷ pieces) (onto_first x pieces) ≡ first ∷ more))
first_of_cond true x pieces = ([], (pieces, refl))
first_of_cond false x pieces = first_of_onto x pieces

first_of_pieces : (p : ℕ → Bool) (line : List ℕ) → (first : List ℕ) × ((more : List (List ℕ)) × (slice_split p line ≡ first ∷ more))
first_of_pieces p [] = ([], ([], refl))
first_of_pieces p (x ∷ xs) = first_of_cond (p x) x (slice_split p xs)

-- where a space follows, there is more than one word
pub one_word-more : (word line : List ℕ) → None ≡ one_word (word ∷ pieces_of line)
one_word-more word line = let pieces = first_of_pieces is_space line in rw pieces.1.1 refl

pub no_word-more : (line : List ℕ) → false ≡ no_word (pieces_of line)
no_word-more line = let pieces = first_of_pieces is_space line in rw pieces.1.1 refl

-- the same, as the code cuts
pub line_here : (bytes : List ℕ) (at : ℕ) → position is_line_feed bytes ≡ Some at → lines_of bytes ≡ take at bytes ∷ lines_of (take (length bytes - (at + 1)) (drop (at + 1) bytes))
line_here bytes at h =
    let found = position_found is_line_feed bytes at h in
    let within = found.1 in
    let whole : take (length bytes - (at + 1)) (drop (at + 1) bytes) ≡ drop (at + 1) bytes = take_all _ _ (simp length-drop (omega arith)) in
    rw whole (rw found.0 (first_line bytes (omega arith)))

pub line_alone : (bytes : List ℕ) → 0 < length bytes → position is_line_feed bytes ≡ None → lines_of bytes ≡ bytes ∷ lines_of (take (length bytes - length bytes) (drop (length bytes) bytes))
line_alone bytes some h =
    let past = position_none is_line_feed bytes h in
    let nothing : length bytes - length bytes ≡ 0 = omega arith in
    let before : before_first is_line_feed bytes ≡ bytes = take_all (position_or_len is_line_feed bytes) bytes past in
    let after : after_first is_line_feed bytes ≡ [] = drop_all (position_or_len is_line_feed bytes + 1) bytes (omega arith) in
    rw nothing (first_line bytes some ∙ rw (before, after) refl)
