-- Pieces of text, one behind the other, and lines with their numbers.
use Rattle.std.proofs.Common.{◌≡◌, ℕ, ◌+◌, ◌-◌, ◌<◌, zero, suc, List, [], ◌∷◌, ◌++◌, length, take, get_or, append_assoc, refl, sym, ap, ◌∙◌, arith}
use Rattle.kn_world.specs.Shown.{AppShown, DialShown}
use Rattle.kn_world.specs.declared.event.AppPhase.TheVariants as app
use Rattle.kn_world.specs.declared.event.DialPhase.TheVariants as dial
use Rattle.kn_script.specs.Report.{numbered}

-- what stands past the end of a list
abbrev pub no_app : AppShown
no_app = record { phase = app.Ended; sent = []; got = []; error = [] }

abbrev pub no_dial : DialShown
no_dial = record { link = 0; app = 0; phase = dial.Ended; sent = []; got = [] }

pub ruleset in_pieces = append_assoc

-- five pieces, one behind the other
pub five_pieces : (old first second third fourth fifth at1 at2 at3 at4 new : List ℕ) → at1 ≡ old ++ first → at2 ≡ at1 ++ second → at3 ≡ at2 ++ third → at4 ≡ at3 ++ fourth → new ≡ at4 ++ fifth → new ≡ old ++ (first ++ second ++ third ++ fourth ++ fifth)
five_pieces old first second third fourth fifth at1 at2 at3 at4 new h1 h2 h3 h4 h5 = rw (h5, h4, h3, h2, h1) (simp append_assoc)

append-nil : (xs : List ℕ) → xs ++ [] ≡ xs
append-nil [] = refl
append-nil (x ∷ xs) = ap (λ ys. x ∷ ys) (append-nil xs)

-- one line more
numbered_more : {A : Type 0} (line : ℕ → A → List ℕ) (number : ℕ) (xs : List A) (i : ℕ) (d : A) → i < length xs → numbered line number (take (suc i) xs) ≡ numbered line number (take i xs) ++ line (number + i) (get_or xs i d)
numbered_more line number [] i d within = absurd (omega arith)
numbered_more line number (x ∷ xs) zero d within =
    let same : number ≡ number + 0 = omega arith in
    append-nil (line number x) ∙ ap (λ n. line n x) same
numbered_more line number (x ∷ xs) (suc i) d within =
    let same : number + 1 + i ≡ number + suc i = omega arith in
    ap (λ lines. line number x ++ lines) (numbered_more line (number + 1) xs i d (omega arith))
    ∙ sym (append_assoc (line number x) (numbered line (number + 1) (take i xs)) (line (number + 1 + i) (get_or xs i d)))
    ∙ ap (λ n. line number x ++ numbered line (number + 1) (take i xs) ++ line n (get_or xs i d)) same

-- one line more is written
pub line_written : {A : Type 0} (line : ℕ → A → List ℕ) (xs : List A) (old now new : List ℕ) (i : ℕ) (d : A) → i < length xs → now ≡ old ++ numbered line 1 (take i xs) → new ≡ now ++ line (i + 1) (get_or xs (i + 1 - 1) d) → new ≡ old ++ numbered line 1 (take (i + 1) xs)
line_written line xs old now new i d within so_far added =
    let next : i + 1 ≡ suc i = omega arith in
    let place : i + 1 - 1 ≡ i = omega arith in
    let number : i + 1 ≡ 1 + i = omega arith in
    added
    ∙ ap (λ text. text ++ line (i + 1) (get_or xs (i + 1 - 1) d)) so_far
    ∙ append_assoc old (numbered line 1 (take i xs)) (line (i + 1) (get_or xs (i + 1 - 1) d))
    ∙ ap (λ k. old ++ (numbered line 1 (take i xs) ++ line (i + 1) (get_or xs k d))) place
    ∙ ap (λ k. old ++ (numbered line 1 (take i xs) ++ line k (get_or xs i d))) number
    ∙ ap (λ lines. old ++ lines) (sym (numbered_more line 1 xs i d within))
    ∙ ap (λ k. old ++ numbered line 1 (take k xs)) (sym next)
