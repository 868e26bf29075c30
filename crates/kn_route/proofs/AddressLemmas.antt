-- `v4_in`, `v6_in` and `address_in` read the grammar of addresses, and nothing else.
use Rattle.std.proofs.Common.{◌≡◌, ℕ, List, [], ◌∷◌, length, Option, Some, None, refl, sym, ap, ◌∙◌, subst, append-nil, arith, lit≤, ne_eqb, inl, inr, length-append}
use Rattle.std.proofs.lemmas.List.{length-replicate}
use Rattle.std.proofs.lemmas.Option.{none-some, same_Some}
use Rattle.std.specs.Prelude.{IfSome}
use Rattle.std.specs.Int.{w32, w128, from_be_bytes}
use Rattle.std.specs.Net.Addr.{ipv4_bits, ipv6_bits, ipv4_octets, ipv6_segments, octets_of}
use Rattle.std.specs.Net.Grammar.{IsDotted, IsColonHex, IsIpv4Text, IsIpv6Text}
use Rattle.std.specs.Net.Reader.{Read, read_ipv4, read_ipv6, whole_value}
use Rattle.std.proofs.NetLemmas.Options.{map_some}
use Rattle.std.proofs.NetLemmas.Ipv4.{read_ipv4_sound, read_ipv4_complete}
use Rattle.std.proofs.NetLemmas.Ipv6.{read_ipv6_sound, read_ipv6_complete, EndsGroups-nil, IsDotted-not_colon_hex}
use Rattle.std.proofs.NetLemmas.Arrays.{eight_items}
use Rattle.std.specs.declared.net.ipv4_addr.Ipv4Addr.{Ipv4Addr}
use Rattle.std.specs.declared.net.ipv6_addr.Ipv6Addr.{Ipv6Addr}
use Rattle.kn_route.specs.declared.address.Address.{Address}
use Rattle.kn_route.specs.declared.address.Address.TheVariants.{V4, V6}
use Rattle.kn_route.specs.Addresses.{number_in, IsAddress, v4_in, v6_in, address_in}

-- a value that was read whole left nothing
pub whole_value-some : {A : Type 0} (r : Read A) (x : A) → whole_value r ≡ Some x → r ≡ Some (x, [])
whole_value-some None x h = absurd (none-some x h)
whole_value-some (Some (a, [])) x h = ap (λ v. Some (v, [])) (same_Some a x h)
whole_value-some (Some (a, c ∷ rest)) x h = absurd (none-some x (rw (ne_eqb (length (c ∷ rest)) 0 (omega arith)) at h))

-- ---- version 4

pub v4_in-sound : (text : List ℕ) (n : ℕ) → v4_in text ≡ Some n → IsAddress text (V4 n)
unfolding v4_in
v4_in-sound text n h =
    map_some _ (whole_value (read_ipv4 text)) n h λ octets read number.
    let (front, spelled, dotted) = read_ipv4_sound text octets [] (whole_value-some _ _ read) in
    (octets, subst (λ t. IsDotted t octets) (sym (spelled ∙ append-nil front)) dotted, sym number)

pub v4_in-complete : (text : List ℕ) (n : ℕ) → IsAddress text (V4 n) → v4_in text ≡ Some n
unfolding v4_in
v4_in-complete text n (octets, dotted, number) =
    let read = rw append-nil at (read_ipv4_complete text octets [] dotted (lit≤ tt)) in
    rw (read, number)

-- the number of four octets, as std adds it up
four_octets : (a b c d : ℕ) → from_be_bytes w32 (a ∷ b ∷ c ∷ d ∷ []) ≡ number_in 256 (a ∷ b ∷ c ∷ d ∷ [])
four_octets a b c d = omega arith

pub ipv4_bits-number : (text : List ℕ) (a : Ipv4Addr) → IsIpv4Text text a → ipv4_bits a ≡ number_in 256 (ipv4_octets a)
unfolding ipv4_bits
ipv4_bits-number text a dotted = rw dotted.value (four_octets dotted.a dotted.b dotted.c dotted.d)

pub v4_in-none : (text : List ℕ) → ((a : Ipv4Addr) → ¬ (IsIpv4Text text a)) → None ≡ v4_in text
v4_in-none text other = go (v4_in text) refl where
  go : (o : Option ℕ) → v4_in text ≡ o → None ≡ v4_in text
  go None h = sym h
  go (Some n) h =
      let (octets, dotted, number) = v4_in-sound text n h in
      absurd (other (record { octets = octets }) dotted)

-- ---- version 6

pub v6_in-sound : (text : List ℕ) (n : ℕ) → v6_in text ≡ Some n → IsAddress text (V6 n)
unfolding v6_in
v6_in-sound text n h =
    map_some _ (whole_value (read_ipv6 text)) n h λ groups read number.
    let (front, spelled, hex) = read_ipv6_sound text groups [] (whole_value-some _ _ read) in
    (groups, subst (λ t. IsColonHex t groups) (sym (spelled ∙ append-nil front)) hex, sym number)

-- a text of version 6 spells eight groups
length-segments : (text groups : List ℕ) → IsColonHex text groups → length groups ≡ 8
length-segments text groups (inl whole) = whole.1
length-segments text groups (inr elided) =
    rw (elided.value, length-append, length-append, length-replicate) (omega (arith, elided.room))

pub v6_in-complete : (text : List ℕ) (n : ℕ) → IsAddress text (V6 n) → v6_in text ≡ Some n
unfolding v6_in
v6_in-complete text n (groups, hex, number) =
    let read = rw append-nil at (read_ipv6_complete text groups [] hex EndsGroups-nil) in
    rw (read, number)

-- the number of eight groups, as std adds up their bytes
eight_groups : (a b c d e f g h : ℕ) → from_be_bytes w128 (octets_of (a ∷ b ∷ c ∷ d ∷ e ∷ f ∷ g ∷ h ∷ [])) ≡ number_in 65536 (a ∷ b ∷ c ∷ d ∷ e ∷ f ∷ g ∷ h ∷ [])
eight_groups a b c d e f g h = omega arith

pub ipv6_bits-number : (text : List ℕ) (a : Ipv6Addr) → IsIpv6Text text a → ipv6_bits a ≡ number_in 65536 (ipv6_segments a)
unfolding ipv6_bits
ipv6_bits-number text a hex =
    rw (eight_items (ipv6_segments a) (length-segments text (ipv6_segments a) hex))
    (eight_groups _ _ _ _ _ _ _ _)

pub v6_in-none : (text : List ℕ) → ((a : Ipv6Addr) → ¬ (IsIpv6Text text a)) → None ≡ v6_in text
v6_in-none text other = go (v6_in text) refl where
  go : (o : Option ℕ) → v6_in text ≡ o → None ≡ v6_in text
  go None h = sym h
  go (Some n) h =
      let (groups, hex, number) = v6_in-sound text n h in
      absurd (other (record { segments = groups }) hex)

-- ---- both

pub address_in-sound : (text : List ℕ) (a : Address) → address_in text ≡ Some a → IsAddress text a
address_in-sound text a h = go (v4_in text) (v6_in text) refl refl where
  go : (v4 v6 : Option ℕ) → v4_in text ≡ v4 → v6_in text ≡ v6 → IsAddress text a
  go (Some n) v6 is_v4 is_v6 =
      subst (IsAddress text) (same_Some _ _ (rw is_v4 at h)) (v4_in-sound text n is_v4)
  go None (Some n) is_v4 is_v6 =
      subst (IsAddress text) (same_Some _ _ (rw (is_v4, is_v6) at h)) (v6_in-sound text n is_v6)
  go None None is_v4 is_v6 = absurd (none-some _ (rw (is_v4, is_v6) at h))

pub address_in-complete : (text : List ℕ) (a : Address) → IsAddress text a → address_in text ≡ Some a
address_in-complete text (V4 n) h = rw (v4_in-complete text n h)
address_in-complete text (V6 n) h = go (v4_in text) refl where
  go : (v4 : Option ℕ) → v4_in text ≡ v4 → address_in text ≡ Some (V6 n)
  go None is_v4 = rw (is_v4, v6_in-complete text n h)
  go (Some m) is_v4 =
      let (octets, dotted, number) = v4_in-sound text m is_v4 in
      absurd (IsDotted-not_colon_hex text octets h.0 dotted h.1)

pub IfSome-address_in : (text : List ℕ) (r : Option Address) → r ≡ address_in text → IfSome r (IsAddress text)
IfSome-address_in text None h = tt
IfSome-address_in text (Some a) h = address_in-sound text a (sym h)
