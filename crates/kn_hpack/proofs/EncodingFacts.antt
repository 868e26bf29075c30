-- Writing goes on where it stands.
use Rattle.std.proofs.Common.{◌≡◌, refl, sym, ◌∙◌, ap, ℕ, zero, suc, ◌+◌, ◌-◌, ◌/◌, ◌%◌, ◌<◌, ◌≤◌, ◌≢◌, List, [], ◌∷◌, ◌++◌, length, drop, IfSome, arith}
use Rattle.std.specs.List.{slice_get, flat_map}
use Rattle.std.proofs.Math.ListN.{drop_of_length-le}
use Rattle.std.proofs.lemmas.Bool.{le-ltb}
use Rattle.std.proofs.lemmas.List.{append_assoc, append-nil}
use Rattle.kn_hpack.specs.Fields.{Field, pair}
use Rattle.kn_hpack.specs.Encoding.{tail_of, field_text}

tail_next : (left n : ℕ) → left ≢ 0 → 128 ≤ n → tail_of left n ≡ (n % 128 + 128) ∷ tail_of (left - 1) (n / 128)
unfolding tail_of
tail_next zero n h l = absurd (h refl)
tail_next (suc k) n h l = let e : suc k - 1 ≡ k = omega arith in rw (e, le-ltb n 128 l) refl

pub tail_more : (left n : ℕ) (old one new : List ℕ) → left ≢ 0 → 128 ≤ n → one ≡ old ++ (n % 128 + 128) ∷ [] → new ≡ one ++ tail_of (left - 1) (n / 128) → new ≡ old ++ tail_of left n
tail_more left n old one new h l e g =
    g ∙ (ap (λ (xs : List ℕ). xs ++ tail_of (left - 1) (n / 128)) e
    ∙ (append_assoc old ((n % 128 + 128) ∷ []) (tail_of (left - 1) (n / 128)) ∙ ap (λ (xs : List ℕ). old ++ xs) (sym (tail_next left n h l))))

fields_next : (hs : List Field) (i : ℕ) (name value : List ℕ) → i < length hs → IfSome (slice_get hs i) (λ f. name ≡ f.name) → IfSome (slice_get hs i) (λ f. value ≡ f.value)
    → drop i hs ≡ pair name value ∷ drop (suc i) hs
fields_next [] i name value h n v = absurd (omega arith)
fields_next (f ∷ fs) zero name value h n v = ap (λ (g : Field). g ∷ fs) (ap (λ (x : List ℕ). pair x f.value) (sym n) ∙ ap (λ (x : List ℕ). pair name x) (sym v))
fields_next (f ∷ fs) (suc i) name value h n v = fields_next fs i name value (omega arith) n v

pub write_on : (out new : List ℕ) (hs : List Field) (i : ℕ) (name value total : List ℕ) → i < length hs
    → IfSome (slice_get hs i) (λ f. name ≡ f.name) → IfSome (slice_get hs i) (λ f. value ≡ f.value)
    → new ≡ out ++ field_text (pair name value) → out ++ flat_map field_text (drop i hs) ≡ total → new ++ flat_map field_text (drop (i + 1) hs) ≡ total
write_on out new hs i name value total h n v e t =
    let z : i + 1 ≡ suc i = omega arith in
    rw z (ap (λ (xs : List ℕ). xs ++ flat_map field_text (drop (suc i) hs)) e
    ∙ (append_assoc out (field_text (pair name value)) (flat_map field_text (drop (suc i) hs))
    ∙ (sym (ap (λ (fs : List Field). out ++ flat_map field_text fs) (fields_next hs i name value h n v)) ∙ t)))

pub write_done : (out : List ℕ) (hs : List Field) (i : ℕ) (total : List ℕ) → length hs ≤ i → out ++ flat_map field_text (drop i hs) ≡ total → out ≡ total
write_done out hs i total h t =
    let e : drop i hs ≡ [] = drop_of_length-le hs h in
    sym (append-nil out) ∙ (sym (ap (λ (fs : List Field). out ++ flat_map field_text fs) e) ∙ t)
