-- Reading strings and what their bytes spell.
use Rattle.std.proofs.Common.{◌≡◌, refl, sym, ◌∙◌, ap, ℕ, zero, suc, ◌+◌, ◌*◌, ◌/◌, ◌<◌, ◌≤◌, inl, inr, Bool, true, false, nat_lt, List, [], ◌∷◌, ◌++◌, length, take, drop, Result, Ok, Err, if◌then◌else◌, arith}
use Rattle.std.proofs.Math.Seq.{take-append_seam, drop-append_seam}
use Rattle.std.proofs.lemmas.Bool.{lt-ltb, le-ltb, ltb-true, ltb-false}
use Rattle.std.proofs.lemmas.List.{append_assoc, length-append, take-append-drop}
use Rattle.kn_hpack.specs.Faults.{◌>>=◌}
use Rattle.kn_hpack.proofs.Reading.{first_is, second_is}
use Rattle.kn_hpack.specs.Integers.{IsInteger, integer_at}
use Rattle.kn_hpack.specs.Codes.{bits_of, bits}
use Rattle.kn_hpack.specs.Walks.{text_of}
use Rattle.kn_hpack.specs.Strings.{IsBytes, IsBody, IsString, text_at, string_at}
use Rattle.kn_hpack.specs.HuffmanLaws.{IsBits}
use Rattle.kn_hpack.specs.declared.fault.HpackReason.{HpackReason}
use Rattle.kn_hpack.specs.declared.fault.HpackReason.TheVariants.{Cut}
use Rattle.kn_hpack.proofs.IntegerFacts.{NumberRead, gave, integer_again, integer_first, integer_takes}
use Rattle.kn_hpack.proofs.HuffmanFacts.{huff_is_read, text_is_huff}
use Rattle.kn_hpack.proofs.Paths.{bits_small}

abbrev pub StringRead : Type 0
StringRead = Result (List ℕ × List ℕ) HpackReason

abbrev pub string : List ℕ → List ℕ → StringRead
string text rest = Ok (text, rest)

abbrev pub TextRead : Type 0
TextRead = Result (List ℕ) HpackReason

abbrev pub a_text : List ℕ → TextRead
a_text t = Ok t

-- what is spelled is read

body_again : (h b : ℕ) (body text : List ℕ) → h * 128 ≤ b → b ≤ h * 128 + 127 → IsBytes text → IsBody h body text → text_at b body ≡ a_text text
unfolding text_at
body_again h b body text low high i m =
    elim m [
      | inl x ↦ (let t : nat_lt b 128 ≡ true = lt-ltb b 128 (omega (arith, x.0)) in rw t (ap a_text x.1))
      | inr y ↦ (let t : nat_lt b 128 ≡ false = le-ltb b 128 (omega (arith, y.0)) in rw t (huff_is_read (bits_of body) text i y.1))
    ]

abbrev pub string_on : ℕ → NumberRead → StringRead
string_on b r = r >>= λ n. if nat_lt (length n.1) n.0 then Err Cut else (text_at b (take n.0 n.1) >>= λ t. Ok (t, drop n.0 n.1))

abbrev pub text_on : List ℕ → TextRead → StringRead
text_on rest r = r >>= λ t. Ok (t, rest)

string_by : (h b : ℕ) (hs body text rest : List ℕ) → IsInteger h 127 (b ∷ hs) (length body) → IsBody h body text → IsBytes text → string_at (b ∷ hs ++ (body ++ rest)) ≡ string text rest
unfolding string_at
string_by h b hs body text rest len m i =
    let f = integer_first h 127 b (length body) hs len in
    let long : nat_lt (length (body ++ rest)) (length body) ≡ false = le-ltb (length (body ++ rest)) (length body) (omega (arith, length-append body rest)) in
    ap (string_on b) (integer_again h 127 (b ∷ hs) (length body) (body ++ rest) len)
    ∙ (rw (long, take-append_seam body rest, drop-append_seam body rest) (ap (text_on rest) (body_again h b body text f.0 f.1 i m)))

string_whole : (h : ℕ) (head body text rest : List ℕ) → IsInteger h 127 head (length body) → IsBody h body text → IsBytes text → string_at (head ++ (body ++ rest)) ≡ string text rest
string_whole h [] body text rest len m i = absurd len
string_whole h (b ∷ hs) body text rest len m i = string_by h b hs body text rest len m i

pub string_again : (bytes text rest : List ℕ) → IsString bytes text → string_at (bytes ++ rest) ≡ string text rest
string_again bytes text rest s =
    ap string_at (ap (λ (xs : List ℕ). xs ++ rest) s.joined ∙ append_assoc s.head s.body rest) ∙ string_whole s.h s.head s.body text rest s.len s.means s.fits

-- what is read is spelled

pub bytes_bits : (bytes : List ℕ) → IsBits (bits_of bytes)
bytes_bits [] = tt
bytes_bits (b ∷ bs) = joined (bits 8 b) (bits_of bs) (bits_small 8 b) (bytes_bits bs) where
  joined : (xs ys : List ℕ) → IsBits xs → IsBits ys → IsBits (xs ++ ys)
  joined [] ys i j = j
  joined (x ∷ xs) ys i j = (i.0, joined xs ys i.1 j)

pub bytes_left : (xs ys : List ℕ) → IsBytes (xs ++ ys) → IsBytes xs
bytes_left [] ys i = tt
bytes_left (x ∷ xs) ys i = (i.0, bytes_left xs ys i.1)

pub bytes_right : (xs ys : List ℕ) → IsBytes (xs ++ ys) → IsBytes ys
bytes_right [] ys i = i
bytes_right (x ∷ xs) ys i = bytes_right xs ys i.1

pub bytes_as : (xs ys : List ℕ) → xs ≡ ys → IsBytes xs → IsBytes ys
bytes_as xs ys e i = rw e at i

pub record TakesString (bytes : List ℕ) (text : List ℕ) (rest : List ℕ) : Type 0 where
  pub part : List ℕ
  pub joined : bytes ≡ part ++ rest
  pub spelled : IsString part text

body_takes : (t : Bool) (b : ℕ) (body text : List ℕ) → b < 256 → IsBytes body → nat_lt b 128 ≡ t → (if t then a_text body else text_of (bits_of body)) ≡ a_text text → IsBytes text × IsBody (b / 128) body text
body_takes true b body text l i t e =
    let same : body ≡ text = cc in
    let low : b < 128 = ltb-true b 128 t in
    (rw same at i, inl (omega arith, same))
body_takes false b body text l i t e =
    let high : 128 ≤ b = ltb-false b 128 t in
    let h = text_is_huff (bits_of body) text (bytes_bits body) e in
    (h.0, inr (omega arith, h.1))

bound_string : (r : NumberRead) (f : ℕ × List ℕ → StringRead) (y : List ℕ × List ℕ) → (r >>= f) ≡ gave y → (x : ℕ × List ℕ) × (r ≡ gave x) × (f x ≡ gave y)
bound_string (Ok x) f y e = (x, refl, e)
bound_string (Err r) f y e = absurd cc

bound_text : (r : TextRead) (rest text more : List ℕ) → text_on rest r ≡ string text more → (r ≡ a_text text) × (rest ≡ more)
bound_text (Ok t) rest text more e = (ap a_text (first_is t text rest more e), second_is t text rest more e)
bound_text (Err r) rest text more e = absurd cc

abbrev no_string : HpackReason → StringRead
no_string r = Err r

cut_by : (t : Bool) (b n : ℕ) (after text rest : List ℕ) → nat_lt (length after) n ≡ t → (if t then no_string Cut else text_on (drop n after) (text_at b (take n after))) ≡ string text rest
    → (n ≤ length after) × (text_at b (take n after) ≡ a_text text) × (drop n after ≡ rest)
cut_by true b n after text rest t e = absurd cc
cut_by false b n after text rest t e = let g = bound_text (text_at b (take n after)) (drop n after) text rest e in (ltb-false (length after) n t, g.0, g.1)

text_cases : (b : ℕ) (body text : List ℕ) → b < 256 → IsBytes body → text_at b body ≡ a_text text → IsBytes text × IsBody (b / 128) body text
unfolding text_at
text_cases b body text l i e = body_takes (nat_lt b 128) b body text l i refl e

pub length_taken : (n : ℕ) (xs : List ℕ) → n ≤ length xs → length (take n xs) ≡ n
length_taken zero xs h = refl
length_taken (suc n) [] h = absurd (omega arith)
length_taken (suc n) (x ∷ xs) h = ap suc (length_taken n xs (omega arith))

pub string_takes : (bytes text rest : List ℕ) → IsBytes bytes → string_at bytes ≡ string text rest → TakesString bytes text rest
unfolding string_at
string_takes [] text rest i e = absurd cc
string_takes (b ∷ bs) text rest i e =
    let g = bound_string (integer_at 127 (b ∷ bs)) (λ n. if nat_lt (length n.1) n.0 then Err Cut else (text_at b (take n.0 n.1) >>= λ t. Ok (t, drop n.0 n.1))) (text, rest) e in
    let c = cut_by (nat_lt (length g.0.1) g.0.0) b g.0.0 g.0.1 text rest refl g.2 in
    let k = integer_takes 127 b bs g.0.0 g.0.1 (omega arith) i.1 g.1 in
    let all : IsBytes (k.text ++ g.0.1) = bytes_as (b ∷ bs) (k.text ++ g.0.1) k.joined i in
    let ia : IsBytes g.0.1 = bytes_right k.text g.0.1 all in
    let cut_up : take g.0.0 g.0.1 ++ drop g.0.0 g.0.1 ≡ g.0.1 = take-append-drop g.0.0 g.0.1 in
    let ib : IsBytes (take g.0.0 g.0.1) = bytes_left (take g.0.0 g.0.1) (drop g.0.0 g.0.1) (bytes_as g.0.1 (take g.0.0 g.0.1 ++ drop g.0.0 g.0.1) (sym cut_up) ia) in
    let m = text_cases b (take g.0.0 g.0.1) text i.0 ib c.1 in
    let len : length (take g.0.0 g.0.1) ≡ g.0.0 = length_taken g.0.0 g.0.1 c.0 in
    record {
      part = k.text ++ take g.0.0 g.0.1;
      joined = k.joined ∙ (ap (λ (xs : List ℕ). k.text ++ xs) (sym cut_up ∙ ap (λ (xs : List ℕ). take g.0.0 g.0.1 ++ xs) c.2) ∙ sym (append_assoc k.text (take g.0.0 g.0.1) rest));
      spelled = record {
        h = b / 128;
        head = k.text;
        body = take g.0.0 g.0.1;
        joined = refl;
        len = (rw len k.spelled);
        means = m.1;
        fits = m.0;
      };
    }
