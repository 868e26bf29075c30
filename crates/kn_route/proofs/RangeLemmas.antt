-- `bits_in` and `range_in` read the grammar of ranges, and nothing else.
use Rattle.std.proofs.Common.{◌≡◌, ◌≢◌, ℕ, ◌+◌, ◌^◌, ◌<◌, ◌≤◌, ◌==◌, List, [], ◌∷◌, ◌++◌, length, take_at, lit<, Option, Some, None, decimal, refl, sym, ap, ◌∙◌, subst, append-nil, arith, lit≤, inl, inr, le-leb, leb-true, ne_eqb, true, false, Bool, append_assoc, eqb-true, length-drop, length-append, ◌-◌}
use Rattle.std.proofs.Math.Seq.{drop-append-add}
use Rattle.std.proofs.lemmas.List.Sums.{split_at_first, passes_at_first}
use Rattle.std.specs.Prelude.{IfSome, codes}
use Rattle.std.specs.List.{before_first, after_first, position_or_len}
use Rattle.std.specs.Char.{digit_value}
use Rattle.std.specs.Str.Parse.{AllDigits, IsNumeral, digits_value, without_leading_plus}
use Rattle.std.specs.Net.Grammar.{IsDotted, IsColonHex, IsGroupsAfter}
use Rattle.std.proofs.lemmas.Option.{none-some}
use Rattle.std.proofs.lemmas.Fmt.{decimal_is_IsNumeral, decimal-digits_value, decimal_digit, first_decimal, decimal_nonempty}
use Rattle.std.proofs.lemmas.Str.Parse.{numerals_by_value, tells_digits, without_leading_plus_none}
use Rattle.std.proofs.lemmas.Bool.{cases_lt}
use Rattle.std.proofs.NetLemmas.Options.{cond_some}
use Rattle.std.proofs.NetLemmas.Ipv4.{read_octet_sound, read_octet_complete}
use Rattle.kn_route.specs.declared.address.Address.{Address}
use Rattle.kn_route.specs.declared.address.Address.TheVariants.{V4, V6}
use Rattle.kn_route.specs.declared.address.Range.{Range}
use Rattle.kn_route.specs.Addresses.{IsAddress, address_in}
use Rattle.kn_route.specs.Ranges.{IsRange, IsPlain, bits_in, width_of, range_from, range_in}
use Rattle.kn_route.proofs.AddressLemmas.{whole_value-some, address_in-sound, address_in-complete}

-- ---- the count of bits

pub bits_in-sound : (text : List ℕ) (n : ℕ) → bits_in text ≡ Some n → (n < 256) × (text ≡ decimal n)
unfolding bits_in
bits_in-sound text n h =
    let (small, spelled, stop) = read_octet_sound text [] n (whole_value-some _ _ h) in
    (small, spelled ∙ append-nil (decimal n))

pub bits_in-complete : (text : List ℕ) (n : ℕ) → n < 256 → text ≡ decimal n → bits_in text ≡ Some n
unfolding bits_in
bits_in-complete text n small spelled =
    let read = rw append-nil at (read_octet_complete n [] small (lit≤ tt)) in
    rw (spelled, read)

pub bits_in-none : (text : List ℕ) → ((n : ℕ) → n < 256 → text ≢ decimal n) → None ≡ bits_in text
bits_in-none text other = go (bits_in text) refl where
  go : (o : Option ℕ) → bits_in text ≡ o → None ≡ bits_in text
  go None h = sym h
  go (Some n) h =
      let (small, spelled) = bits_in-sound text n h in
      absurd (other n small spelled)

IsPlain-decimal : (n : ℕ) → n < 256 → IsPlain (decimal n)
IsPlain-decimal n small =
    let fits : n < 2 ^ 64 = omega arith in
    elim (cases_lt n 1) [
      | inl none ↦ rw (decimal_digit n (omega arith)) (lit< tt, λ e. absurd (omega arith), λ e. refl)
      | inr some ↦
          let first = first_decimal n (omega arith) fits in
          (decimal_nonempty n fits, λ e. absurd (omega arith), λ e. absurd (omega arith))
    ]

pub bits_in-unlike : (text : List ℕ) → ¬ (IsPlain text) → None ≡ bits_in text
bits_in-unlike text other =
    bits_in-none text λ n small spelled. other (subst IsPlain (sym spelled) (IsPlain-decimal n small))

-- `parse` of an unsigned byte took the text, without a plus at its front
abbrev IsSmall : List ℕ → Type 0
IsSmall text = IsNumeral 10 (without_leading_plus text) × (digits_value 10 (without_leading_plus text) < 256)

pub bits_in-parsed : (text : List ℕ) (n : ℕ) → IsPlain text → IsSmall text × (n ≡ digits_value 10 (without_leading_plus text)) → Some n ≡ bits_in text
bits_in-parsed text n plain (small, value) =
    let same = without_leading_plus_none text plain.1 in
    let is_numeral : IsNumeral 10 text = subst (IsNumeral 10) same small.0 in
    let number : digits_value 10 text ≡ n = ap (digits_value 10) (sym same) ∙ sym value in
    let fits : n < 256 = subst (λ v. v < 256) (sym value) small.1 in
    let spelled = decimal-digits_value (numerals_by_value _ tells_digits) text is_numeral.1 is_numeral.0 plain.2 (omega arith) in
    sym (bits_in-complete text n fits (sym spelled ∙ ap decimal number))

pub bits_in-refused : (text : List ℕ) → IsPlain text → ¬ (IsSmall text) → None ≡ bits_in text
bits_in-refused text plain refused =
    let same = without_leading_plus_none text plain.1 in
    bits_in-none text λ n small spelled.
    let (numeral, value) = decimal_is_IsNumeral n (omega arith) in
    let whole : without_leading_plus text ≡ decimal n = same ∙ spelled in
    refused (subst (λ t. IsNumeral 10 t × (digits_value 10 t < 2 ^ 8)) (sym whole) (numeral, omega arith))

-- ---- no address has a `/` in it

-- no byte of the text is a `/`
HasNoSlash : List ℕ → Type 0
HasNoSlash [] = Unit {0}
HasNoSlash (c ∷ cs) = (c ≢ 47) × HasNoSlash cs

HasNoSlash-append : (xs ys : List ℕ) → HasNoSlash xs → HasNoSlash ys → HasNoSlash (xs ++ ys)
unfolding HasNoSlash
HasNoSlash-append [] ys p q = q
HasNoSlash-append (x ∷ xs) ys p q = (p.0, HasNoSlash-append xs ys p.1 q)

HasNoSlash-digits : (radix : ℕ) (ds : List ℕ) → radix ≤ 36 → AllDigits radix ds → HasNoSlash ds
unfolding HasNoSlash
HasNoSlash-digits radix [] fits h = tt
HasNoSlash-digits radix (c ∷ cs) fits h = (
  λ slash. let here : digit_value 47 < radix = subst (λ v. digit_value v < radix) slash h.0 in omega (arith, here),
  HasNoSlash-digits radix cs fits h.1,
)

HasNoSlash-decimal : (n : ℕ) → n < 2 ^ 64 → HasNoSlash (decimal n)
HasNoSlash-decimal n small = HasNoSlash-digits 10 (decimal n) (lit≤ tt) (decimal_is_IsNumeral n small).0.1

HasNoSlash-one : (c : ℕ) → c ≢ 47 → HasNoSlash (c ∷ [])
unfolding HasNoSlash
HasNoSlash-one c other = (other, tt)

HasNoSlash-dotted : (text octets : List ℕ) → IsDotted text octets → HasNoSlash text
HasNoSlash-dotted text octets d =
    let dot = HasNoSlash-one 46 (λ e. absurd (omega arith)) in
    let a = HasNoSlash-decimal d.a (omega (arith, d.fit.0)) in
    let b = HasNoSlash-decimal d.b (omega (arith, d.fit.1)) in
    let c = HasNoSlash-decimal d.c (omega (arith, d.fit.2)) in
    let e = HasNoSlash-decimal d.d (omega (arith, d.fit.3)) in
    subst HasNoSlash (sym d.spelled)
    (HasNoSlash-append _ _ (HasNoSlash-append _ _ (HasNoSlash-append _ _ (HasNoSlash-append _ _ (HasNoSlash-append _ _ (HasNoSlash-append _ _ a dot) b) dot) c) dot) e)

HasNoSlash-groups : (ipv4 : Bool) (lead text groups : List ℕ) → HasNoSlash lead → IsGroupsAfter ipv4 lead text groups → HasNoSlash text
unfolding HasNoSlash
HasNoSlash-groups ipv4 lead text [] p h = subst HasNoSlash (sym h) tt
HasNoSlash-groups ipv4 lead text (s ∷ groups) p (inl (group, rest, spelled, is_group, others)) =
    let colon = HasNoSlash-one 58 (λ e. absurd (omega arith)) in
    subst HasNoSlash (sym spelled)
    (HasNoSlash-append _ _ (HasNoSlash-append _ _ p (HasNoSlash-digits 16 group (lit≤ tt) is_group.0.0.1))
    (HasNoSlash-groups ipv4 (codes ":") rest groups colon others))
HasNoSlash-groups ipv4 lead text (s ∷ groups) p (inr (last, octets, allowed, spelled, dotted, value)) =
    subst HasNoSlash (sym spelled) (HasNoSlash-append _ _ p (HasNoSlash-dotted last octets dotted))

no_colon : (c : ℕ) → c ≡ 58 → c ≢ 47
no_colon c colon slash = absurd (omega arith)

HasNoSlash-hex : (text groups : List ℕ) → IsColonHex text groups → HasNoSlash text
unfolding HasNoSlash
HasNoSlash-hex text groups (inl whole) = HasNoSlash-groups true [] text groups tt whole.0
HasNoSlash-hex text groups (inr elided) =
    let colon = HasNoSlash-one 58 (λ e. absurd (omega arith)) in
    let other : 58 ≢ 47 = no_colon 58 refl in
    let head = HasNoSlash-groups false [] elided.head_text elided.head tt elided.head_groups in
    let tail = HasNoSlash-groups true [] elided.tail_text elided.tail tt elided.tail_groups in
    subst HasNoSlash (sym elided.spelled)
    (HasNoSlash-append _ _ (HasNoSlash-append _ (codes "::") head (other, (other, tt))) tail)

HasNoSlash-address : (text : List ℕ) (a : Address) → IsAddress text a → HasNoSlash text
HasNoSlash-address text (V4 n) h = HasNoSlash-dotted text h.0 h.1
HasNoSlash-address text (V6 n) h = HasNoSlash-hex text h.0 h.1

-- ---- the text is cut at its first `/`

slash_at : (xs ys : List ℕ) → HasNoSlash xs → position_or_len (λ b. b == 47) (xs ++ 47 ∷ ys) ≡ length xs
unfolding HasNoSlash
slash_at [] ys h = refl
slash_at (x ∷ xs) ys h = rw (ne_eqb x 47 h.0) (omega (arith, slash_at xs ys h.1))

cut_before : (xs ys : List ℕ) → HasNoSlash xs → before_first (λ b. b == 47) (xs ++ 47 ∷ ys) ≡ xs
cut_before xs ys h = rw (slash_at xs ys h) (take_at xs (47 ∷ ys) _ refl)

cut_after : (xs ys : List ℕ) → HasNoSlash xs → after_first (λ b. b == 47) (xs ++ 47 ∷ ys) ≡ ys
cut_after xs ys h = rw (slash_at xs ys h, drop-append-add xs (47 ∷ ys) 1)

-- ---- ranges

same_width : (a : Address) → width_of a ≤ 128
same_width (V4 n) = lit≤ tt
same_width (V6 n) = lit≤ tt

pub range_in-complete : (text : List ℕ) (r : Range) → IsRange text r → range_in text ≡ Some r
unfolding range_in
range_in-complete text r (base, spelled, address, within) =
    let plain = HasNoSlash-address base r.base address in
    let whole : text ≡ base ++ 47 ∷ decimal r.bits = spelled ∙ append_assoc base (codes "/") (decimal r.bits) in
    let front : before_first (λ b. b == 47) text ≡ base = ap (before_first (λ b. b == 47)) whole ∙ cut_before base _ plain in
    let back : after_first (λ b. b == 47) text ≡ decimal r.bits = ap (after_first (λ b. b == 47)) whole ∙ cut_after base _ plain in
    rw (front, back, address_in-complete base r.base address, bits_in-complete _ r.bits (omega (arith, same_width r.base)) refl, le-leb r.bits (width_of r.base) within)

bits_in-empty : bits_in [] ≡ None
bits_in-empty = sym (bits_in-none [] (λ n small e. absurd (omega (arith, ap length e, decimal_nonempty n (omega arith)))))

range_from-some : (base : Option Address) (bits : Option ℕ) (r : Range) → range_from base bits ≡ Some r → (base ≡ Some r.base) × (bits ≡ Some r.bits) × (r.bits ≤ width_of r.base)
range_from-some None None r h = absurd (none-some r h)
range_from-some None (Some bits) r h = absurd (none-some r h)
range_from-some (Some base) None r h = absurd (none-some r h)
range_from-some (Some base) (Some bits) r h =
    let (test, same) = cond_some _ _ _ h in
    (ap (λ v. Some v.base) same, ap (λ v. Some v.bits) same, subst (λ v. v.bits ≤ width_of v.base) same (leb-true bits (width_of base) test))

pub range_in-sound : (text : List ℕ) (r : Range) → range_in text ≡ Some r → IsRange text r
unfolding range_in
range_in-sound text r h =
    let slash : ℕ → Bool = λ b. b == 47 in
    let front = before_first slash text in
    let back = after_first slash text in
    let (base, bits, within) = range_from-some _ _ r h in
    let number = bits_in-sound back r.bits bits in
    let some : 0 < length back =
    subst (λ t. 0 < length t) (sym number.1) (decimal_nonempty r.bits (omega (arith, number.0))) in
    let long : length back ≡ length text - (position_or_len slash text + 1) = length-drop _ text in
    let inside : position_or_len slash text < length text = omega arith in
    let whole = split_at_first slash text 0 inside in
    let is_slash = eqb-true _ 47 (passes_at_first slash text 0 inside) in
    let ends : text ≡ front ++ 47 ∷ back = subst (λ c. text ≡ front ++ c ∷ back) is_slash whole in
    let spelled : text ≡ front ++ 47 ∷ decimal r.bits = subst (λ t. text ≡ front ++ 47 ∷ t) number.1 ends in
    (front, spelled ∙ sym (append_assoc front (codes "/") (decimal r.bits)), address_in-sound front r.base base, within)

pub IfSome-range_in : (text : List ℕ) (r : Option Range) → r ≡ range_in text → IfSome r (IsRange text)
IfSome-range_in text None h = tt
IfSome-range_in text (Some a) h = range_in-sound text a (sym h)

pub range_in-uncut : (text : List ℕ) → position_or_len (λ b. b == 47) text ≡ length text → None ≡ range_in text
range_in-uncut text none = go (range_in text) refl where
  go : (o : Option Range) → range_in text ≡ o → None ≡ range_in text
  go None h = sym h
  go (Some r) h =
      let (base, spelled, address, within) = range_in-sound text r h in
      let whole : text ≡ base ++ 47 ∷ decimal r.bits = spelled ∙ append_assoc base (codes "/") (decimal r.bits) in
      let place = ap (position_or_len (λ b. b == 47)) whole ∙ slash_at base (decimal r.bits) (HasNoSlash-address base r.base address) in
      absurd (omega (arith, simp length-append at (ap length whole)))

pub range_in-cut : (text base bits : List ℕ) (r : Option Range) → base ≡ before_first (λ b. b == 47) text → bits ≡ after_first (λ b. b == 47) text → r ≡ range_from (address_in base) (bits_in bits) → r ≡ range_in text
unfolding range_in
range_in-cut text base bits r front back made = rw (← front, ← back) made
