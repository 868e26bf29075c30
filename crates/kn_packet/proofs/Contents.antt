-- Reading the content behind a tag answers by the grammar, and the grammar by reading.
use Rattle.std.proofs.Common.{◌≡◌, ℕ, zero, suc, ◌<◌, ◌≤◌, Bool, true, false, cond, ltb, List, ◌++◌, length, take, drop, inl, inr, refl, sym, ap, ◌∙◌, append_assoc, arith}
use Rattle.std.proofs.lemmas.Bool.{ltb-true, ltb-false, le-ltb, lt-ltb}
use Rattle.std.proofs.lemmas.List.{take_at, drop_at, take-append-drop, length-append, length-take}
use Rattle.kn_packet.specs.declared.fault.PacketReason.TheVariants.{Cut, Varint, Wire, FieldZero, Length, NotUtf8}
use Rattle.kn_packet.specs.Fields.{Content, varint, fixed64, delimited, fixed32, wire_type, IsContent, IsLongBehind, IsBadWire, EndsInside, in_value, in_fixed64, in_length, in_bytes, in_fixed32}
use Rattle.kn_packet.specs.Scanning.{Scan, whole, unfinished, too_long, scanned, Found, found, refused, value_of, delimited_of, fixed_of, content_at}
use Rattle.kn_packet.proofs.Scans.{varint_scans, unfinished_scans, too_long_scans, Explains, scan_explains}

fixed_scans : (size : ℕ) (content : Content) (spelled rest : List ℕ) → length spelled ≡ size → fixed_of size content (spelled ++ rest) ≡ found content rest
fixed_scans size content spelled rest len =
    let long : ltb (length (spelled ++ rest)) size ≡ false = le-ltb _ _ (omega (arith, length-append spelled rest)) in
    rw (long, drop_at spelled rest size len) refl

fixed_cut : (size : ℕ) (content : Content) (rest : List ℕ) → length rest < size → fixed_of size content rest ≡ refused Cut
fixed_cut size content rest short =
    let cut : ltb (length rest) size ≡ true = lt-ltb _ _ short in
    rw cut refl

pub content_scans : (spelled rest : List ℕ) (content : Content) → IsContent spelled content → content_at (wire_type content) (spelled ++ rest) ≡ found content rest
unfolding content_at
content_scans spelled rest (varint n) h = rw (varint_scans 9 spelled rest n h) refl
content_scans spelled rest fixed64 h = fixed_scans 8 fixed64 spelled rest h
content_scans spelled rest (delimited body) h =
    let regrouped : spelled ++ rest ≡ h.0 ++ (body ++ rest) = ap (λ (bs : List ℕ). bs ++ rest) h.2 ∙ append_assoc h.0 body rest in
    let scan : scanned 9 (spelled ++ rest) ≡ whole (length body) (body ++ rest) = rw regrouped (varint_scans 9 h.0 (body ++ rest) (length body) h.1) in
    let long : ltb (length (body ++ rest)) (length body) ≡ false = le-ltb _ _ (omega (arith, length-append body rest)) in
    rw (scan, long, take_at body rest (length body) refl, drop_at body rest (length body) refl) refl
content_scans spelled rest fixed32 h = fixed_scans 4 fixed32 spelled rest h

pub long_scans : (wire : ℕ) (rest : List ℕ) → IsLongBehind wire rest → content_at wire rest ≡ refused Varint
unfolding content_at
long_scans wire rest (inl e, long) = rw (e, too_long_scans 9 rest long) refl
long_scans wire rest (inr e, long) = rw (e, too_long_scans 9 rest long) refl

pub bad_wire_scans : (wire : ℕ) (rest : List ℕ) → IsBadWire wire → content_at wire rest ≡ refused Wire
unfolding content_at
bad_wire_scans wire rest (inl e) = rw e refl
bad_wire_scans wire rest (inr (inl e)) = rw e refl
bad_wire_scans wire rest (inr (inr (inl e))) = rw e refl
bad_wire_scans wire rest (inr (inr (inr e))) = rw e refl

pub cut_scans : (wire : ℕ) (rest : List ℕ) → EndsInside wire rest → content_at wire rest ≡ refused Cut
unfolding content_at
cut_scans wire rest (in_value e cut) = rw (e, unfinished_scans 9 rest cut) refl
cut_scans wire rest (in_fixed64 e short) = rw e (fixed_cut 8 fixed64 rest short)
cut_scans wire rest (in_length e cut) = rw (e, unfinished_scans 9 rest cut) refl
cut_scans wire rest (in_bytes e head body n joined is_varint short) =
    let cut : ltb (length body) n ≡ true = lt-ltb _ _ short in
    rw (e, joined, varint_scans 9 head body n is_varint, cut) refl
cut_scans wire rest (in_fixed32 e short) = rw e (fixed_cut 4 fixed32 rest short)

-- what the grammar says of an answer
abbrev pub ContentExplains : ℕ → List ℕ → Found Content → Type 0
ContentExplains wire bytes (found content rest) = (spelled : List ℕ) × IsContent spelled content × (wire ≡ wire_type content) × (bytes ≡ spelled ++ rest)
ContentExplains wire bytes (refused Varint) = IsLongBehind wire bytes
ContentExplains wire bytes (refused Wire) = IsBadWire wire
ContentExplains wire bytes (refused Cut) = EndsInside wire bytes
ContentExplains wire bytes (refused FieldZero) = ⊥
ContentExplains wire bytes (refused Length) = ⊥
ContentExplains wire bytes (refused NotUtf8) = ⊥

value_explains : (bytes : List ℕ) (s : Scan) → Explains 9 bytes s → ContentExplains 0 bytes (value_of s)
value_explains bytes (whole n rest) h = (h.0, h.1, refl, h.2)
value_explains bytes unfinished h = in_value refl h
value_explains bytes too_long h = (inl refl, h)

delimited_cases : (bytes rest : List ℕ) (n : ℕ) → Explains 9 bytes (whole n rest) → (b : Bool) → ltb (length rest) n ≡ b → ContentExplains 2 bytes (cond b (refused Cut) (found (delimited (take n rest)) (drop n rest)))
delimited_cases bytes rest n h true e = in_bytes refl h.0 rest n h.2 h.1 (ltb-true _ _ e)
delimited_cases bytes rest n h false e =
    let long : n ≤ length rest = ltb-false _ _ e in
    let len : n ≡ length (take n rest) = omega (arith, length-take n rest) in
    let joined : bytes ≡ (h.0 ++ take n rest) ++ drop n rest = h.2 ∙ ap (λ (bs : List ℕ). h.0 ++ bs) (sym (take-append-drop n rest)) ∙ sym (append_assoc h.0 (take n rest) (drop n rest)) in
    (h.0 ++ take n rest, (h.0, rw len at h.1, refl), refl, joined)

delimited_explains : (bytes : List ℕ) (s : Scan) → Explains 9 bytes s → ContentExplains 2 bytes (delimited_of s)
delimited_explains bytes (whole n rest) h = delimited_cases bytes rest n h (ltb (length rest) n) refl
delimited_explains bytes unfinished h = in_length refl h
delimited_explains bytes too_long h = (inr refl, h)

fixed64_explains : (bytes : List ℕ) (b : Bool) → ltb (length bytes) 8 ≡ b → ContentExplains 1 bytes (cond b (refused Cut) (found fixed64 (drop 8 bytes)))
fixed64_explains bytes true e = in_fixed64 refl (ltb-true _ _ e)
fixed64_explains bytes false e =
    let long : 8 ≤ length bytes = ltb-false _ _ e in
    (take 8 bytes, omega (arith, length-take 8 bytes), refl, sym (take-append-drop 8 bytes))

fixed32_explains : (bytes : List ℕ) (b : Bool) → ltb (length bytes) 4 ≡ b → ContentExplains 5 bytes (cond b (refused Cut) (found fixed32 (drop 4 bytes)))
fixed32_explains bytes true e = in_fixed32 refl (ltb-true _ _ e)
fixed32_explains bytes false e =
    let long : 4 ≤ length bytes = ltb-false _ _ e in
    (take 4 bytes, omega (arith, length-take 4 bytes), refl, sym (take-append-drop 4 bytes))

pub content_explains : (wire : ℕ) (bytes : List ℕ) → wire < 8 → ContentExplains wire bytes (content_at wire bytes)
unfolding content_at
content_explains zero bytes small = value_explains bytes (scanned 9 bytes) (scan_explains 9 bytes)
content_explains (suc zero) bytes small = fixed64_explains bytes (ltb (length bytes) 8) refl
content_explains (suc (suc zero)) bytes small = delimited_explains bytes (scanned 9 bytes) (scan_explains 9 bytes)
content_explains (suc (suc (suc zero))) bytes small = inl refl
content_explains (suc (suc (suc (suc zero)))) bytes small = inr (inl refl)
content_explains (suc (suc (suc (suc (suc zero))))) bytes small = fixed32_explains bytes (ltb (length bytes) 4) refl
content_explains (suc (suc (suc (suc (suc (suc zero)))))) bytes small = inr (inr (inl refl))
content_explains (suc (suc (suc (suc (suc (suc (suc zero))))))) bytes small = inr (inr (inr refl))
content_explains (suc (suc (suc (suc (suc (suc (suc (suc wire)))))))) bytes small = absurd (omega arith)
