-- Header blocks as frames, part by part.
use Rattle.std.proofs.Common.{◌≡◌, ℕ, zero, suc, ◌+◌, ◌-◌, ◌<◌, ◌≤◌, List, ◌++◌, length, take, drop, refl, subst, arith, append_assoc, length-drop, length-take}
use Rattle.std.proofs.lemmas.Bool.{le-leb, lt-leb}
use Rattle.std.proofs.lemmas.List.{take_all}
use Rattle.kn_frames.specs.Frames.{spelled}
use Rattle.kn_h2_state.specs.Moves.{more_headers, headers_frames}

-- what stands behind the first part, as a slice gives it
pub behind : (rest : List ℕ) → take (length rest - 16384) (drop 16384 rest) ≡ drop 16384 rest
behind rest = take_all _ _ (omega (arith, length-drop 16384 rest))

pub part_fits : (rest : List ℕ) → length (take 16384 rest) < 16777216
part_fits rest = omega (arith, length-take 16384 rest)

pub more_last : (fuel n : ℕ) (rest : List ℕ) → length rest ≤ 16384 → length rest < fuel → more_headers fuel n rest ≡ spelled 9 4 n rest
unfolding more_headers
more_last zero n rest le l = absurd (omega arith)
more_last (suc fuel) n rest le l = let test = le-leb (length rest) 16384 le in rw test refl

more_next : (fuel n : ℕ) (rest : List ℕ) → 16384 < length rest → more_headers (suc fuel) n rest ≡ spelled 9 0 n (take 16384 rest) ++ more_headers fuel n (drop 16384 rest)
unfolding more_headers
more_next fuel n rest lt = let test = lt-leb (length rest) 16384 lt in rw test refl

-- a part was written, and then the rest
pub more_pushed : (fuel n : ℕ) (rest old mid : List ℕ) (P : List ℕ → Type 0) → 16384 < length rest → length rest < fuel → mid ≡ old ++ spelled 9 0 n (take 16384 rest)
    → ((f : ℕ) → length (take (length rest - 16384) (drop 16384 rest)) < f → P (mid ++ more_headers f n (take (length rest - 16384) (drop 16384 rest)))) → P (old ++ more_headers fuel n rest)
more_pushed zero n rest old mid P lt l m later = absurd (omega arith)
more_pushed (suc fuel) n rest old mid P lt l m later =
    let tail = behind rest in
    let short : length (take (length rest - 16384) (drop 16384 rest)) < fuel = rw tail (omega (arith, length-drop 16384 rest)) in
    let all : mid ++ more_headers fuel n (take (length rest - 16384) (drop 16384 rest)) ≡ old ++ more_headers (suc fuel) n rest = rw (tail, m, more_next fuel n rest lt) (append_assoc old _ _) in
    subst P all (later fuel short)

pub head_last : (n flags : ℕ) (block : List ℕ) → length block ≤ 16384 → headers_frames n flags block ≡ spelled 1 (flags + 4) n block
unfolding headers_frames
head_last n flags block le = let test = le-leb (length block) 16384 le in rw test refl

head_next : (n flags : ℕ) (block : List ℕ) → 16384 < length block → headers_frames n flags block ≡ spelled 1 flags n (take 16384 block) ++ more_headers (length block) n (drop 16384 block)
unfolding headers_frames
head_next n flags block lt = let test = lt-leb (length block) 16384 lt in rw test refl

pub head_pushed : (n flags : ℕ) (block old mid : List ℕ) (P : List ℕ → Type 0) → 16384 < length block → mid ≡ old ++ spelled 1 flags n (take 16384 block)
    → ((f : ℕ) → length (take (length block - 16384) (drop 16384 block)) < f → P (mid ++ more_headers f n (take (length block - 16384) (drop 16384 block)))) → P (old ++ headers_frames n flags block)
head_pushed n flags block old mid P lt m later =
    let tail = behind block in
    let short : length (take (length block - 16384) (drop 16384 block)) < length block = rw tail (omega (arith, length-drop 16384 block)) in
    let all : mid ++ more_headers (length block) n (take (length block - 16384) (drop 16384 block)) ≡ old ++ headers_frames n flags block = rw (tail, m, head_next n flags block lt) (append_assoc old _ _) in
    subst P all (later (length block) short)
