-- The host that is read is the one that the text spells.
use Rattle.std.proofs.Common.{◌≡◌, ◌≢◌, ℕ, ◌+◌, ◌<◌, ◌≤◌, ◌==◌, ◌⊎◌, List, [], ◌∷◌, ◌++◌, length, take, drop, get_or, Bool, true, false, refl, sym, ap, ◌∙◌, subst, arith, inl, inr, eqb-true, ne_eqb, eq-eqb, ltb-true, lt-ltb, le-ltb, le-leb, leb-true, take_at, length-append, cond, length-take-le}
use Rattle.std.specs.Prelude.{Result, Ok, Err, All, IsTrue, ◌&&◌, nat_lt, nat_le}
use Rattle.std.specs.List.{position_or_len, before_first, after_first, list_all}
use Rattle.std.specs.Char.{is_ascii_digit}
use Rattle.std.specs.Str.Parse.{digits_value}
use Rattle.std.proofs.Math.Seq.{drop-append-add}
use Rattle.std.proofs.lemmas.Bool.{and_parts, ltb-false, eqb-false, false≢true}
use Rattle.std.proofs.lemmas.List.Elements.{All-head, All-tail}
use Rattle.std.proofs.lemmas.List.Sums.{split_at_first, fails_before_first, passes_at_first, AllPass-from_list_all, list_all-from_AllPass}
use Rattle.std.proofs.lemmas.List.{get_or-take}
use Rattle.std.specs.Prelude.{slice_index}
use Rattle.kn_route.specs.declared.host.HostFault.{HostFault}
use Rattle.kn_route.specs.declared.host.HostFault.TheVariants.{TooLong, Bracket, NoPort, Empty, PortNumber}
use Rattle.kn_route.specs.Cuts.{has, begins}
use Rattle.kn_route.specs.Hosts.{is_port, has_port_value, host_with_port, host_before_bracket, host_before_colon, host_in}
use Rattle.kn_route.specs.HostTexts.{HasNo, IsPort, IsPlain, IsBracketed, IsHost}

-- ---- a text and the first byte of a value

abbrev pub is_byte : ℕ → ℕ → Bool
is_byte at b = b == at

pub first_at : (at : ℕ) (xs ys : List ℕ) → HasNo at xs → position_or_len (λ b. b == at) (xs ++ at ∷ ys) ≡ length xs
first_at at [] ys none = rw (eq-eqb at at refl) refl
first_at at (x ∷ xs) ys none =
    rw (ne_eqb x at (All-head (λ b. b ≢ at) x xs none))
    (omega (arith, first_at at xs ys (All-tail (λ b. b ≢ at) x xs none)))

pub before_at : (at : ℕ) (xs ys : List ℕ) → HasNo at xs → before_first (λ b. b == at) (xs ++ at ∷ ys) ≡ xs
before_at at xs ys none = rw (first_at at xs ys none) (take_at xs (at ∷ ys) _ refl)

pub after_at : (at : ℕ) (xs ys : List ℕ) → HasNo at xs → after_first (λ b. b == at) (xs ++ at ∷ ys) ≡ ys
after_at at xs ys none = rw (first_at at xs ys none) (drop-append-add xs (at ∷ ys) 1)

pub has_at : (at : ℕ) (xs ys : List ℕ) → HasNo at xs → has at (xs ++ at ∷ ys) ≡ true
has_at at xs ys none =
    lt-ltb _ _ (let place = first_at at xs ys none in let long : length (xs ++ at ∷ ys) ≡ length xs + length (at ∷ ys) = length-append xs (at ∷ ys) in omega arith)

pub has_no : (at : ℕ) (xs : List ℕ) → HasNo at xs → has at xs ≡ false
has_no at xs none =
    let place : position_or_len (λ b. b == at) xs ≡ length xs = go xs none in
    le-ltb _ _ (omega arith) where
      go : (ys : List ℕ) → HasNo at ys → position_or_len (λ b. b == at) ys ≡ length ys
      go [] h = refl
      go (y ∷ ys) h = rw (ne_eqb y at (All-head (λ b. b ≢ at) y ys h)) (omega (arith, go ys (All-tail (λ b. b ≢ at) y ys h)))

pub no_has : (at : ℕ) (xs : List ℕ) → has at xs ≡ false → HasNo at xs
no_has at xs h k d inside =
    let past = ltb-false _ _ h in
    λ same. eqb-false (get_or xs k d) at (fails_before_first (λ b. b == at) xs k d (omega arith)) same

-- a text that has the byte is cut at the first
pub cut_at : (at : ℕ) (xs : List ℕ) → has at xs ≡ true → (xs ≡ before_first (λ b. b == at) xs ++ at ∷ after_first (λ b. b == at) xs) × HasNo at (before_first (λ b. b == at) xs)
cut_at at xs h =
    let inside = ltb-true _ _ h in
    let whole = split_at_first (λ b. b == at) xs 0 inside in
    let there = eqb-true _ at (passes_at_first (λ b. b == at) xs 0 inside) in
    (subst (λ c. xs ≡ before_first (λ b. b == at) xs ++ c ∷ after_first (λ b. b == at) xs) there whole, none) where
      none : HasNo at (before_first (λ b. b == at) xs)
      none k d within =
          let short : length (take (position_or_len (λ b. b == at) xs) xs) ≡ position_or_len (λ b. b == at) xs = length-take-le _ xs (omega (arith, ltb-true _ _ h)) in
          let early : k < position_or_len (λ b. b == at) xs = omega arith in
          let same : get_or (take (position_or_len (λ b. b == at) xs) xs) k d ≡ get_or xs k d = get_or-take _ xs k d early in
          let fails = fails_before_first (λ b. b == at) xs k d early in
          λ equal. eqb-false (get_or xs k d) at fails (sym same ∙ equal)

-- a byte at the front
pub begins_front : (at : ℕ) (text : List ℕ) → 0 < at → begins at text ≡ true → text ≡ at ∷ drop 1 text
begins_front at [] some h = let here = eqb-true 0 at h in absurd (omega (arith, some, here))
begins_front at (c ∷ cs) some h = ap (λ b. b ∷ cs) (eqb-true c at h)

-- ---- ports and hosts

digits_all : (port : List ℕ) → list_all is_ascii_digit port ≡ true → All (λ b. IsTrue (is_ascii_digit b)) port
digits_all port h = AllPass-from_list_all is_ascii_digit port h

port_is : (port : List ℕ) → is_port port ≡ true → IsPort port
port_is port h =
    let outer = and_parts (nat_le (length port) 5 && list_all is_ascii_digit port) (has_port_value port) h in
    let inner = and_parts (nat_le (length port) 5) (list_all is_ascii_digit port) outer.0 in
    let value = and_parts (nat_lt 0 (digits_value 10 port)) (nat_lt (digits_value 10 port) 65536) outer.1 in
    record {
      few = leb-true _ _ inner.0;
      digits = digits_all port inner.1;
      some = ltb-true _ _ value.0;
      fits = ltb-true _ _ value.1;
    }

is_port_of : (port : List ℕ) → IsPort port → is_port port ≡ true
is_port_of port p =
    rw (le-leb _ _ p.few, list_all-from_AllPass is_ascii_digit port p.digits, lt-ltb _ _ p.some, lt-ltb _ _ p.fits) refl

abbrev ok_text : Result (List ℕ) HostFault → List ℕ
ok_text (Ok text) = text
ok_text (Err fault) = []

abbrev is_good : Result (List ℕ) HostFault → Bool
is_good (Ok text) = true
is_good (Err fault) = false

no_ok : {fault : HostFault} {host : List ℕ} → Err fault ≡ Ok host → ⊥
no_ok h = false≢true (ap is_good h)

record Named (host port named : List ℕ) : Type 0 where
  same : host ≡ named
  some : 0 < length host
  is_port : IsPort port

named_with_port : (host port named : List ℕ) → host_with_port host port ≡ Ok named → Named host port named
named_with_port host port named h = go (length host == 0) (is_port port) refl refl h where
  go : (a b : Bool) → (length host == 0) ≡ a → is_port port ≡ b → cond a (Err Empty) (cond b (Ok host) (Err PortNumber)) ≡ Ok named → Named host port named
  go true b empty ported e = absurd (no_ok e)
  go false false empty ported e = absurd (no_ok e)
  go false true empty ported e = record { same = ap ok_text e; some = eqb_some; is_port = port_is port ported } where
    eqb_some : 0 < length host
    eqb_some = let other = eqb-false (length host) 0 empty in omega (arith, other)

with_port : (host port : List ℕ) → 0 < length host → IsPort port → host_with_port host port ≡ Ok host
with_port host port some p = rw (ne_eqb (length host) 0 (λ none. omega (arith, some, none)), is_port_of port p) refl

-- ---- the two forms

before_colon : (address host : List ℕ) → length address ≤ 300 → slice_index address 0 ≢ 91 → host_before_colon address ≡ Ok host → IsHost address host
before_colon address host short front h = go (has 58 address) (has 58 (after_first (λ b. b == 58) address)) refl refl h where
  go : (a b : Bool) → has 58 address ≡ a → has 58 (after_first (λ b. b == 58) address) ≡ b → cond a (cond b (Err Bracket) (host_with_port (before_first (λ b. b == 58) address) (after_first (λ b. b == 58) address))) (Err NoPort) ≡ Ok host → IsHost address host
  go false b one two e = absurd (no_ok e)
  go true true one two e = absurd (no_ok e)
  go true false one two e =
      let cut = cut_at 58 address one in
      let named = named_with_port (before_first (λ b. b == 58) address) (after_first (λ b. b == 58) address) host e in
      let form : IsPlain address host (after_first (λ b. b == 58) address) = subst (λ t. IsPlain address t (after_first (λ b. b == 58) address)) named.same (record { joined = cut.0; host_colon = cut.1; port_colon = no_has 58 _ two; front = front }) in
      record { port = after_first (λ b. b == 58) address; form = inl form; short = short; named = subst (λ t. 0 < length t) named.same named.some; is_port = named.is_port }

before_bracket : (address rest host : List ℕ) → length address ≤ 300 → address ≡ 91 ∷ rest → host_before_bracket rest ≡ Ok host → IsHost address host
before_bracket address rest host short whole h =
    go (has 93 rest) (begins 58 (after_first (λ b. b == 93) rest)) refl refl h where
      go : (a b : Bool) → has 93 rest ≡ a → begins 58 (after_first (λ b. b == 93) rest) ≡ b → cond a (cond b (host_with_port (before_first (λ b. b == 93) rest) (drop 1 (after_first (λ b. b == 93) rest))) (Err NoPort)) (Err Bracket) ≡ Ok host → IsHost address host
      go false b one two e = absurd (no_ok e)
      go true false one two e = absurd (no_ok e)
      go true true one two e =
          let cut = cut_at 93 rest one in
          let port = drop 1 (after_first (λ b. b == 93) rest) in
          let named = named_with_port (before_first (λ b. b == 93) rest) port host e in
          let after : after_first (λ b. b == 93) rest ≡ 58 ∷ port = begins_front 58 _ (omega arith) two in
          let joined : address ≡ 91 ∷ (before_first (λ b. b == 93) rest ++ 93 ∷ 58 ∷ port) =
          whole ∙ ap (λ t. 91 ∷ t) (cut.0 ∙ ap (λ t. before_first (λ b. b == 93) rest ++ 93 ∷ t) after) in
          let form : IsBracketed address host port = subst (λ t. IsBracketed address t port) named.same (record { joined = joined; host_bracket = cut.1 }) in
          record { port = port; form = inr form; short = short; named = subst (λ t. 0 < length t) named.same named.some; is_port = named.is_port }

pub host_spelled : (address host : List ℕ) → host_in address ≡ Ok host → IsHost address host
unfolding host_in
host_spelled address host h = go (nat_lt 300 (length address)) (begins 91 address) refl refl h where
  go : (a b : Bool) → nat_lt 300 (length address) ≡ a → begins 91 address ≡ b → cond a (Err TooLong) (cond b (host_before_bracket (drop 1 address)) (host_before_colon address)) ≡ Ok host → IsHost address host
  go true b long bracket e = absurd (no_ok e)
  go false true long bracket e = before_bracket address (drop 1 address) host (ltb-false _ _ long) (begins_front 91 address (omega arith) bracket) e
  go false false long bracket e = before_colon address host (ltb-false _ _ long) (eqb-false _ _ bracket) e

pub spelled_host : (address host : List ℕ) → IsHost address host → host_in address ≡ Ok host
unfolding host_in
spelled_host address host h = go h.form where
  go : (IsPlain address host h.port) ⊎ (IsBracketed address host h.port) → host_in address ≡ Ok host
  go (inl plain) =
      let one : has 58 address ≡ true = subst (λ t. has 58 t ≡ true) (sym plain.joined) (has_at 58 host h.port plain.host_colon) in
      let front : before_first (λ b. b == 58) address ≡ host = ap (before_first (λ b. b == 58)) plain.joined ∙ before_at 58 host h.port plain.host_colon in
      let back : after_first (λ b. b == 58) address ≡ h.port = ap (after_first (λ b. b == 58)) plain.joined ∙ after_at 58 host h.port plain.host_colon in
      rw (le-ltb _ _ h.short, ne_eqb (slice_index address 0) 91 plain.front, one, back, has_no 58 h.port plain.port_colon, front) (with_port host h.port h.named h.is_port)
  go (inr bracketed) =
      let rest = host ++ 93 ∷ 58 ∷ h.port in
      let opened : begins 91 address ≡ true = ap (begins 91) bracketed.joined in
      let inner : drop 1 address ≡ rest = ap (drop 1) bracketed.joined in
      let one : has 93 rest ≡ true = has_at 93 host (58 ∷ h.port) bracketed.host_bracket in
      let front : before_first (λ b. b == 93) rest ≡ host = before_at 93 host (58 ∷ h.port) bracketed.host_bracket in
      let back : after_first (λ b. b == 93) rest ≡ 58 ∷ h.port = after_at 93 host (58 ∷ h.port) bracketed.host_bracket in
      rw (le-ltb _ _ h.short, opened, inner, one, back, front) (with_port host h.port h.named h.is_port)
