-- Reading a varint from the front answers by the grammar, and the grammar by reading.
use Rattle.std.proofs.Common.{◌≡◌, ℕ, zero, suc, ◌≤◌, Bool, true, false, cond, ltb, List, [], ◌∷◌, ◌++◌, inl, inr, refl, ap}
use Rattle.std.proofs.lemmas.Bool.{ltb-true, ltb-false, le-ltb, lt-ltb}
use Rattle.kn_packet.specs.Varints.{IsVarintWithin, IsUnfinishedWithin, IsTooLongWithin}
use Rattle.kn_packet.specs.Scanning.{Scan, whole, unfinished, too_long, continued, scanned}

pub varint_scans : (more : ℕ) (spelled rest : List ℕ) (n : ℕ) → IsVarintWithin more spelled n → scanned more (spelled ++ rest) ≡ whole n rest
unfolding IsVarintWithin scanned
varint_scans zero [] rest n h = absurd h
varint_scans (suc more) [] rest n h = absurd h
varint_scans zero (byte ∷ bytes) rest n h =
    let small : ltb 1 byte ≡ false = le-ltb 1 byte h.0 in
    rw (small, h.1, h.2) refl
varint_scans (suc more) (byte ∷ bytes) rest n (inl h) =
    let small : ltb byte 128 ≡ true = lt-ltb byte 128 h.0 in
    rw (small, h.1, h.2) refl
varint_scans (suc more) (byte ∷ bytes) rest n (inr h) =
    let big : ltb byte 128 ≡ false = le-ltb byte 128 h.0 in
    let behind : scanned more (bytes ++ rest) ≡ whole h.1 rest = varint_scans more bytes rest h.1 h.3 in
    rw (big, behind, h.2) refl

pub unfinished_scans : (more : ℕ) (spelled : List ℕ) → IsUnfinishedWithin more spelled → scanned more spelled ≡ unfinished
unfolding IsUnfinishedWithin scanned
unfinished_scans zero [] h = refl
unfinished_scans (suc more) [] h = refl
unfinished_scans zero (byte ∷ bytes) h = absurd h
unfinished_scans (suc more) (byte ∷ bytes) h =
    let big : ltb byte 128 ≡ false = le-ltb byte 128 h.0 in
    rw (big, unfinished_scans more bytes h.1) refl

pub too_long_scans : (more : ℕ) (spelled : List ℕ) → IsTooLongWithin more spelled → scanned more spelled ≡ too_long
unfolding IsTooLongWithin scanned
too_long_scans zero [] h = absurd h
too_long_scans (suc more) [] h = absurd h
too_long_scans zero (byte ∷ bytes) h =
    let big : ltb 1 byte ≡ true = lt-ltb 1 byte h in
    rw big refl
too_long_scans (suc more) (byte ∷ bytes) h =
    let big : ltb byte 128 ≡ false = le-ltb byte 128 h.0 in
    rw (big, too_long_scans more bytes h.1) refl

-- what the grammar says of an answer
abbrev pub Explains : ℕ → List ℕ → Scan → Type 0
Explains more bytes (whole n rest) = (spelled : List ℕ) × IsVarintWithin more spelled n × (bytes ≡ spelled ++ rest)
Explains more bytes unfinished = IsUnfinishedWithin more bytes
Explains more bytes too_long = IsTooLongWithin more bytes

explains_last : (byte : ℕ) (rest : List ℕ) (b : Bool) → ltb 1 byte ≡ b → Explains zero (byte ∷ rest) (cond b too_long (whole byte rest))
unfolding IsVarintWithin IsTooLongWithin
explains_last byte rest true e = ltb-true 1 byte e
explains_last byte rest false e = (byte ∷ [], (ltb-false 1 byte e, refl, refl), refl)

explains_more : (more byte : ℕ) (rest : List ℕ) → 128 ≤ byte → (s : Scan) → Explains more rest s → Explains (suc more) (byte ∷ rest) (continued byte s)
unfolding IsVarintWithin IsTooLongWithin IsUnfinishedWithin
explains_more more byte rest big (whole high after) h = (byte ∷ h.0, inr (big, high, refl, h.1), ap (λ (bs : List ℕ). byte ∷ bs) h.2)
explains_more more byte rest big unfinished h = (big, h)
explains_more more byte rest big too_long h = (big, h)

explains_byte : (more byte : ℕ) (rest : List ℕ) (s : Scan) → Explains more rest s → (b : Bool) → ltb byte 128 ≡ b → Explains (suc more) (byte ∷ rest) (cond b (whole byte rest) (continued byte s))
unfolding IsVarintWithin
explains_byte more byte rest s h true e = (byte ∷ [], inl (ltb-true byte 128 e, refl, refl), refl)
explains_byte more byte rest s h false e = explains_more more byte rest (ltb-false byte 128 e) s h

pub scan_explains : (more : ℕ) (bytes : List ℕ) → Explains more bytes (scanned more bytes)
unfolding scanned IsUnfinishedWithin
scan_explains zero [] = tt
scan_explains (suc more) [] = tt
scan_explains zero (byte ∷ rest) = explains_last byte rest (ltb 1 byte) refl
scan_explains (suc more) (byte ∷ rest) = explains_byte more byte rest (scanned more rest) (scan_explains more rest) (ltb byte 128) refl
