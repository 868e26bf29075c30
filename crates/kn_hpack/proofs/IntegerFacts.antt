-- Reading integers and what their bytes spell.
use Rattle.std.proofs.Common.{◌≡◌, refl, sym, ◌∙◌, ap, ℕ, zero, suc, ◌+◌, ◌*◌, ◌-◌, ◌/◌, ◌%◌, ◌<◌, ◌≤◌, inl, inr, Bool, true, false, nat_lt, List, [], ◌∷◌, ◌++◌, length, Result, Ok, Err, if◌then◌else◌, arith}
use Rattle.std.proofs.lemmas.Bool.{lt-ltb, le-ltb, ltb-true, ltb-false}
use Rattle.std.proofs.lemmas.Nat.{mod-mul-add, div-add-mod'}
use Rattle.std.proofs.Math.Nat.{mod-lt}
use Rattle.kn_hpack.specs.Faults.{◌>>=◌}
use Rattle.kn_hpack.proofs.Reading.{first_is, second_is}
use Rattle.kn_hpack.specs.Strings.{IsBytes}
use Rattle.kn_hpack.specs.Integers.{IsTail, IsInteger, tail_at, integer_at}
use Rattle.kn_hpack.specs.declared.fault.HpackReason.{HpackReason}
use Rattle.kn_hpack.specs.declared.fault.HpackReason.TheVariants.{Integer}

abbrev pub gave : {A : Type 0} → A → Result A HpackReason
gave x = Ok x

abbrev pub NumberRead : Type 0
NumberRead = Result (ℕ × List ℕ) HpackReason

abbrev pub number : ℕ → List ℕ → NumberRead
number n rest = Ok (n, rest)

abbrev pub no_number : HpackReason → NumberRead
no_number r = Err r

-- what is spelled is read

abbrev tail_on : ℕ → NumberRead → NumberRead
tail_on b r = r >>= λ x. Ok (b - 128 + 128 * x.0, x.1)

pub tail_again : (left : ℕ) (bs : List ℕ) (n : ℕ) (rest : List ℕ) → length bs ≤ left → IsTail bs n → tail_at left (bs ++ rest) ≡ number n rest
unfolding tail_at
tail_again left [] n rest h i = absurd i
tail_again zero (b ∷ bs) n rest h i = absurd (omega arith)
tail_again (suc left) (b ∷ []) n rest h i = rw (lt-ltb b 128 i.0, i.1) refl
tail_again (suc left) (b ∷ c ∷ bs) n rest h i =
    rw (le-ltb b 128 i.0) (ap (tail_on b) (tail_again left (c ∷ bs) i.2 rest (omega arith) i.4) ∙ ap (λ (m : ℕ). number m rest) (sym i.3))

integer_short : (kind top b n : ℕ) (bs rest : List ℕ) → n < top → b ≡ kind * suc top + n → bs ≡ [] → integer_at top (b ∷ bs ++ rest) ≡ number n rest
unfolding integer_at
integer_short kind top b n bs rest h e z =
    let m : b % suc top ≡ n = ap (λ (x : ℕ). x % suc top) e ∙ mod-mul-add kind (suc top) n (omega arith) in
    rw (m, lt-ltb n top h, z) refl

abbrev pub long_on : ℕ → NumberRead → NumberRead
long_on top r = r >>= λ x. if nat_lt 2147483647 (top + x.0) then Err Integer else Ok (top + x.0, x.1)

integer_long : (kind top b n more : ℕ) (bs rest : List ℕ) → b ≡ kind * suc top + top → length bs ≤ 5 → n ≡ top + more → IsTail bs more → n ≤ 2147483647 → integer_at top (b ∷ bs ++ rest) ≡ number n rest
unfolding integer_at
integer_long kind top b n more bs rest e len q t small =
    let m : b % suc top ≡ top = ap (λ (x : ℕ). x % suc top) e ∙ mod-mul-add kind (suc top) top (omega arith) in
    let fits : nat_lt 2147483647 (top + more) ≡ false = le-ltb 2147483647 (top + more) (omega arith) in
    rw (m, le-ltb top top (omega arith)) (ap (long_on top) (tail_again 5 bs more rest len t) ∙ (rw (fits, q) refl))

pub integer_again : (kind top : ℕ) (bytes : List ℕ) (n : ℕ) (rest : List ℕ) → IsInteger kind top bytes n → integer_at top (bytes ++ rest) ≡ number n rest
integer_again kind top [] n rest i = absurd i
integer_again kind top (b ∷ bs) n rest i =
    elim i.1 [
      | inl x ↦ integer_short kind top b n bs rest x.0 x.1 x.2
      | inr y ↦ integer_long kind top b n y.2 bs rest y.0 y.1 y.3 y.4 i.0
    ]

-- the first byte has the pattern
pub integer_first : (kind top b n : ℕ) (bs : List ℕ) → IsInteger kind top (b ∷ bs) n → (kind * suc top ≤ b) × (b ≤ kind * suc top + top)
integer_first kind top b n bs i = elim i.1 [ inl x ↦ (omega (arith, x.0, x.1), omega (arith, x.0, x.1)) | inr y ↦ (omega (arith, y.0), omega (arith, y.0)) ]

-- what is read is spelled

pub record TakesTail (left : ℕ) (bytes : List ℕ) (n : ℕ) (rest : List ℕ) : Type 0 where
  pub text : List ℕ
  pub joined : bytes ≡ text ++ rest
  pub short : length text ≤ left
  pub spelled : IsTail text n

bound_number : (r : NumberRead) (f : ℕ × List ℕ → NumberRead) (y : ℕ × List ℕ) → (r >>= f) ≡ gave y → (x : ℕ × List ℕ) × (r ≡ gave x) × (f x ≡ gave y)
bound_number (Ok x) f y e = (x, refl, e)
bound_number (Err r) f y e = absurd cc

tail_longer : (left b high n : ℕ) (bs rest : List ℕ) → 128 ≤ b → b < 256 → n ≡ b - 128 + 128 * high → TakesTail left bs high rest → TakesTail (suc left) (b ∷ bs) n rest
tail_longer left b high n bs rest h l e t = record {
  text = b ∷ t.text;
  joined = ap (λ (xs : List ℕ). b ∷ xs) t.joined;
  short = omega (arith, t.short);
  spelled = spell t.text t.spelled;
} where
  spell : (text : List ℕ) → IsTail text high → IsTail (b ∷ text) n
  spell [] i = absurd i
  spell (c ∷ cs) i = (h, l, high, e, i)

abbrev tail_next : ℕ → ℕ → List ℕ → NumberRead
tail_next left b bs = if nat_lt b 128 then Ok (b, bs) else (tail_at left bs >>= λ x. Ok (b - 128 + 128 * x.0, x.1))

tail_last : (left b n : ℕ) (bs rest : List ℕ) → b < 128 → number b bs ≡ number n rest → TakesTail (suc left) (b ∷ bs) n rest
tail_last left b n bs rest h e =
    let eb : b ≡ n = first_is b n bs rest e in
    let er : bs ≡ rest = second_is b n bs rest e in
    record { text = b ∷ []; joined = ap (λ (xs : List ℕ). b ∷ xs) er; short = omega arith; spelled = (h, sym eb) }

tail_by : (t : Bool) (left b n : ℕ) (bs rest : List ℕ) → b < 256 → nat_lt b 128 ≡ t → (if t then number b bs else tail_on b (tail_at left bs)) ≡ number n rest
    → ((m : ℕ) (more : List ℕ) → tail_at left bs ≡ number m more → TakesTail left bs m more) → TakesTail (suc left) (b ∷ bs) n rest
tail_by true left b n bs rest l t e f = tail_last left b n bs rest (ltb-true b 128 t) e
tail_by false left b n bs rest l t e f =
    let g = bound_number (tail_at left bs) (λ x. Ok (b - 128 + 128 * x.0, x.1)) (n, rest) e in
    let en : b - 128 + 128 * g.0.0 ≡ n = made g.0 g.2 in
    let er : g.0.1 ≡ rest = left_over g.0 g.2 in
    tail_longer left b g.0.0 n bs rest (ltb-false b 128 t) l (sym en) (f g.0.0 rest (g.1 ∙ ap (λ (xs : List ℕ). number g.0.0 xs) er))
  where
    made : (x : ℕ × List ℕ) → number (b - 128 + 128 * x.0) x.1 ≡ number n rest → b - 128 + 128 * x.0 ≡ n
    made x q = first_is (b - 128 + 128 * x.0) n x.1 rest q

    left_over : (x : ℕ × List ℕ) → number (b - 128 + 128 * x.0) x.1 ≡ number n rest → x.1 ≡ rest
    left_over x q = second_is (b - 128 + 128 * x.0) n x.1 rest q

pub tail_takes : (left : ℕ) (bytes : List ℕ) (n : ℕ) (rest : List ℕ) → IsBytes bytes → tail_at left bytes ≡ number n rest → TakesTail left bytes n rest
unfolding tail_at
tail_takes left [] n rest i e = absurd cc
tail_takes zero (b ∷ bs) n rest i e = absurd cc
tail_takes (suc left) (b ∷ bs) n rest i e = tail_by (nat_lt b 128) left b n bs rest i.0 refl e (λ m more q. tail_takes left bs m more i.1 q)

pub record TakesInteger (top first : ℕ) (bytes : List ℕ) (n : ℕ) (rest : List ℕ) : Type 0 where
  pub text : List ℕ
  pub joined : bytes ≡ text ++ rest
  pub spelled : IsInteger (first / suc top) top text n

divided : (b top : ℕ) → b ≡ b / suc top * suc top + b % suc top
divided b top = omega (arith, div-add-mod' b (suc top))

integer_prefix : (top b n : ℕ) (bs rest : List ℕ) → top ≤ 127 → b % suc top < top → number (b % suc top) bs ≡ number n rest → TakesInteger top b (b ∷ bs) n rest
integer_prefix top b n bs rest small h e =
    let en : b % suc top ≡ n = first_is (b % suc top) n bs rest e in
    let er : bs ≡ rest = second_is (b % suc top) n bs rest e in
    record {
      text = b ∷ [];
      joined = ap (λ (xs : List ℕ). b ∷ xs) er;
      spelled = (omega arith, inl (omega arith, omega (arith, divided b top), refl));
    }

long_by : (t : Bool) (top b n : ℕ) (bs rest : List ℕ) (x : ℕ × List ℕ) → top ≤ b % suc top → nat_lt 2147483647 (top + x.0) ≡ t → TakesTail 5 bs x.0 x.1
    → (if t then no_number Integer else number (top + x.0) x.1) ≡ number n rest → TakesInteger top b (b ∷ bs) n rest
long_by true top b n bs rest x h t k e = absurd cc
long_by false top b n bs rest x h t k e =
    let en : top + x.0 ≡ n = first_is (top + x.0) n x.1 rest e in
    let er : x.1 ≡ rest = second_is (top + x.0) n x.1 rest e in
    let m : b % suc top < suc top = mod_small b (suc top) (omega arith) in
    let fits : top + x.0 ≤ 2147483647 = ltb-false 2147483647 (top + x.0) t in
    record {
      text = b ∷ k.text;
      joined = ap (λ (xs : List ℕ). b ∷ xs) (k.joined ∙ ap (λ (xs : List ℕ). k.text ++ xs) er);
      spelled = (omega arith, inr (omega (arith, divided b top), k.short, x.0, sym en, k.spelled));
    }
  where
    mod_small : (x y : ℕ) → 0 < y → x % y < y
    mod_small x y h = mod-lt x h

integer_by : (t : Bool) (top b n : ℕ) (bs rest : List ℕ) → top ≤ 127 → IsBytes bs → nat_lt (b % suc top) top ≡ t
    → (if t then number (b % suc top) bs else long_on top (tail_at 5 bs)) ≡ number n rest → TakesInteger top b (b ∷ bs) n rest
integer_by true top b n bs rest small i t e = integer_prefix top b n bs rest small (ltb-true (b % suc top) top t) e
integer_by false top b n bs rest small i t e =
    let g = bound_number (tail_at 5 bs) (λ x. if nat_lt 2147483647 (top + x.0) then Err Integer else Ok (top + x.0, x.1)) (n, rest) e in
    long_by (nat_lt 2147483647 (top + g.0.0)) top b n bs rest g.0 (ltb-false (b % suc top) top t) refl (tail_takes 5 bs g.0.0 g.0.1 i g.1) g.2

pub integer_takes : (top b : ℕ) (bs : List ℕ) (n : ℕ) (rest : List ℕ) → top ≤ 127 → IsBytes bs → integer_at top (b ∷ bs) ≡ number n rest → TakesInteger top b (b ∷ bs) n rest
unfolding integer_at
integer_takes top b bs n rest small i e = integer_by (nat_lt (b % suc top) top) top b n bs rest small i refl e
