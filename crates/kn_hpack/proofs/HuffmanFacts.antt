-- Walking the tree is reading codes.
use Rattle.std.proofs.Common.{◌≡◌, refl, sym, ◌∙◌, ap, ℕ, zero, suc, ◌+◌, ◌-◌, ◌<◌, ◌≤◌, ◌⊎◌, inl, inr, Bool, true, false, nat_eq, nat_lt, List, [], ◌∷◌, ◌++◌, replicate, Ok, Err, if◌then◌else◌, arith}
use Rattle.std.proofs.lemmas.Bool.{lt-ltb, le-ltb, ltb-true, ltb-false, ne_eqb, cases_lt}
use Rattle.std.proofs.lemmas.List.{append_assoc, append-nil, append_cancel_left}
use Rattle.kn_hpack.specs.Codes.{code_of, join}
use Rattle.kn_hpack.specs.Walks.{walk, landing, child, text_of}
use Rattle.kn_hpack.specs.Strings.{IsBytes}
use Rattle.kn_hpack.specs.HuffmanLaws.{IsBits, NoCodeBeginsAnother, TextIsHuff, HuffIsRead, EosIsThere, EosIsTold, PaddingIsBad, BadPaddingIsTold}
use Rattle.kn_hpack.specs.declared.fault.HpackReason.{HpackReason}
use Rattle.kn_hpack.specs.declared.fault.HpackReason.TheVariants.{Eos, Padding}
use Rattle.kn_hpack.proofs.Paths.{path, path_zero, path_more, bits_small, code_is, run, next_of, next_past, next_is, stuck, run_is, next_one, low_path, high_path, child_small, below}
use Rattle.kn_hpack.proofs.Reading.{first_is, second_is}
use Rattle.kn_hpack.proofs.Walking.{Walked, TextRead, stands, on, finish}

abbrev fault : HpackReason → Walked
fault r = Err r

abbrev unread : HpackReason → TextRead
unread r = Err r

abbrev reads : List ℕ → TextRead
reads t = Ok t

-- one step

step_in : (n b : ℕ) (t bs : List ℕ) → child n b < 256 → walk n t (b ∷ bs) ≡ walk (child n b) t bs
unfolding walk
step_in n b t bs h = rw (lt-ltb (child n b) 256 h) refl

step_out : (n b c : ℕ) (t bs : List ℕ) → child n b ≡ c → walk n t (b ∷ bs) ≡ on bs (landing t c)
unfolding walk
step_out n b c t bs e = rw e refl

land_symbol : (t : List ℕ) (s : ℕ) → s < 256 → landing t (256 + s) ≡ stands 0 (t ++ s ∷ [])
land_symbol t s h =
    let a : nat_lt (256 + s) 256 ≡ false = le-ltb (256 + s) 256 (omega arith) in
    let b : nat_eq (256 + s) 512 ≡ false = ne_eqb (256 + s) 512 (λ e. omega arith) in
    let d : 256 + s - 256 ≡ s = omega arith in
    rw (a, b, d) refl

step_symbol : (n b s : ℕ) (t bs : List ℕ) → child n b ≡ 256 + s → s < 256 → walk n t (b ∷ bs) ≡ walk 0 (t ++ s ∷ []) bs
step_symbol n b s t bs e h = step_out n b (256 + s) t bs e ∙ ap (on bs) (land_symbol t s h)

step_eos : (n b : ℕ) (t bs : List ℕ) → child n b ≡ 512 → walk n t (b ∷ bs) ≡ fault Eos
step_eos n b t bs e = step_out n b 512 t bs e

outside : (n b : ℕ) → n < 256 → b < 2 → 256 ≤ child n b → (child n b ≡ 512) ⊎ ((s : ℕ) × (s < 256) × (child n b ≡ 256 + s))
outside n b h l o =
    elim (cases_lt (child n b) 512) [ inl below ↦ inr (child n b - 256, omega arith, omega arith) | inr at ↦ inl (omega (arith, child_small n b h l)) ]

-- codes are walked

leaf_only : (bs : List ℕ) (c s : ℕ) → 256 ≤ c → s < 257 → run c bs ≡ 256 + s → (bs ≡ []) × (c ≡ 256 + s)
unfolding run
leaf_only [] c s h l e = (refl, e)
leaf_only (b ∷ bs) c s h l e =
    let x : run (next_of c b) bs ≡ 513 = ap (λ (n : ℕ). run n bs) (next_past c b h) ∙ stuck bs in
    let y : run (next_of c b) bs ≡ 256 + s = e in
    absurd (omega arith)

run_in : (n b : ℕ) (bs : List ℕ) → n < 256 → b < 2 → run n (b ∷ bs) ≡ run (child n b) bs
unfolding run
run_in n b bs h l = ap (λ (m : ℕ). run m bs) (next_is n b h l)

run_end : (n : ℕ) → run n [] ≡ n
unfolding run
run_end n = refl

walk_code : (bs : List ℕ) (n s : ℕ) (t rest : List ℕ) → IsBits bs → n < 256 → s < 257 → run n bs ≡ 256 + s → walk n t (bs ++ rest) ≡ on rest (landing t (256 + s))
walk_code [] n s t rest i h l e = let x : n ≡ 256 + s = sym (run_end n) ∙ e in absurd (omega arith)
walk_code (b ∷ bs) n s t rest i h l e =
    let f : run (child n b) bs ≡ 256 + s = sym (run_in n b bs h i.0) ∙ e in
    elim (cases_lt (child n b) 256) [
      | inl c ↦ step_in n b t (bs ++ rest) c ∙ walk_code bs (child n b) s t rest i.1 c l f
      | inr c ↦ let p = leaf_only bs (child n b) s c l f in
          ap (λ (xs : List ℕ). walk n t (b ∷ (xs ++ rest))) p.0 ∙ step_out n b (256 + s) t rest p.1
    ]

path_bits : (c : ℕ) → IsBits (path c)
unfolding path
path_bits c = bits_small _ _

code_bits : (s : ℕ) → s < 257 → IsBits (code_of s)
code_bits s h = rw (code_is s h) (path_bits (256 + s))

walk_symbol : (s : ℕ) (t rest : List ℕ) → s < 257 → walk 0 t (code_of s ++ rest) ≡ on rest (landing t (256 + s))
walk_symbol s t rest h = walk_code (code_of s) 0 s t rest (code_bits s h) (omega arith) h (run_is s h)

walk_text : (text t rest : List ℕ) → IsBytes text → walk 0 t (join text ++ rest) ≡ walk 0 (t ++ text) rest
walk_text [] t rest i = ap (λ (u : List ℕ). walk 0 u rest) (sym (append-nil t))
walk_text (s ∷ text) t rest i =
    ap (walk 0 t) (append_assoc (code_of s) (join text) rest)
    ∙ (walk_symbol s t (join text ++ rest) (omega (arith, i.0))
    ∙ (ap (on (join text ++ rest)) (land_symbol t s i.0)
    ∙ (walk_text text (t ++ s ∷ []) rest i.1 ∙ ap (λ (u : List ℕ). walk 0 u rest) (append_assoc t (s ∷ []) text))))

walk_end : (n : ℕ) (t : List ℕ) → walk n t [] ≡ stands n t
unfolding walk
walk_end n t = refl

walk_ones : (j n : ℕ) (t : List ℕ) → n + j ≤ 7 → walk n t (replicate j 1) ≡ stands (n + j) t
walk_ones zero n t h = let e : n ≡ n + 0 = omega arith in walk_end n t ∙ ap (λ (m : ℕ). stands m t) e
walk_ones (suc j) n t h =
    let c : child n 1 ≡ suc n = next_one n (omega arith) in
    let e : suc n + j ≡ n + suc j = omega arith in
    step_in n 1 t (replicate j 1) (omega arith)
    ∙ (ap (λ (m : ℕ). walk m t (replicate j 1)) c ∙ (walk_ones j (suc n) t (omega arith) ∙ ap (λ (m : ℕ). stands m t) e))

pub huff_is_read : HuffIsRead
unfolding text_of
huff_is_read bs text i h =
    let z : 0 + h.count ≡ h.count = omega arith in
    let few : h.count ≤ 7 = h.few in
    let e : walk 0 [] bs ≡ stands h.count text =
    ap (walk 0 []) h.joined ∙ (walk_text text [] (replicate h.count 1) i ∙ (walk_ones h.count 0 text (omega arith) ∙ ap (λ (m : ℕ). stands m text) z)) in
    ap finish e ∙ (rw (lt-ltb h.count 8 (omega arith)) refl)

pub eos_is_told : EosIsTold
unfolding text_of
eos_is_told bs h =
    ap finish (ap (walk 0 []) h.joined ∙ (walk_text h.text [] (code_of 256 ++ h.rest) h.bytes ∙ walk_symbol 256 h.text h.rest (omega arith)))

-- what is walked is codes

record Follows (n : ℕ) (t bs : List ℕ) (m : ℕ) (u : List ℕ) : Type 0 where
  more : List ℕ
  told : u ≡ t ++ more
  bytes : IsBytes more
  inner : m < 256
  joined : path n ++ bs ≡ join more ++ path m

path_on : (n b : ℕ) (bs : List ℕ) → n < 256 → b < 2 → path n ++ b ∷ bs ≡ path (child n b) ++ bs
path_on n b bs h l = sym (ap (λ (xs : List ℕ). xs ++ bs) (path_more n b h l) ∙ append_assoc (path n) (b ∷ []) bs)

path_code : (n b s : ℕ) (bs : List ℕ) → n < 256 → b < 2 → child n b ≡ 256 + s → s < 257 → path n ++ b ∷ bs ≡ code_of s ++ bs
path_code n b s bs h l e k = path_on n b bs h l ∙ ap (λ (xs : List ℕ). xs ++ bs) (ap path e ∙ sym (code_is s k))

root : (bs : List ℕ) → path 0 ++ bs ≡ bs
root bs = ap (λ (xs : List ℕ). xs ++ bs) path_zero

follows_in : (n b : ℕ) (t bs : List ℕ) (m : ℕ) (u : List ℕ) → n < 256 → b < 2 → Follows (child n b) t bs m u → Follows n t (b ∷ bs) m u
follows_in n b t bs m u h l f = record { more = f.more; told = f.told; bytes = f.bytes; inner = f.inner; joined = path_on n b bs h l ∙ f.joined }

follows_out : (n b s : ℕ) (t bs : List ℕ) (m : ℕ) (u : List ℕ) → n < 256 → b < 2 → child n b ≡ 256 + s → s < 256 → Follows 0 (t ++ s ∷ []) bs m u → Follows n t (b ∷ bs) m u
follows_out n b s t bs m u h l e k f = record {
  more = s ∷ f.more;
  told = f.told ∙ append_assoc t (s ∷ []) f.more;
  bytes = (k, f.bytes);
  inner = f.inner;
  joined = path_code n b s bs h l e (omega arith) ∙ (ap (λ (xs : List ℕ). code_of s ++ xs) (sym (root bs) ∙ f.joined) ∙ sym (append_assoc (code_of s) (join f.more) (path m)));
}

not_eos : (m : ℕ) (u : List ℕ) → fault Eos ≡ stands m u → ⊥
not_eos m u e = absurd cc

follows : (bs : List ℕ) (n : ℕ) (t : List ℕ) (m : ℕ) (u : List ℕ) → IsBits bs → n < 256 → walk n t bs ≡ stands m u → Follows n t bs m u
follows [] n t m u i h e =
    let f : stands n t ≡ stands m u = sym (walk_end n t) ∙ e in
    let en : n ≡ m = first_is n m t u f in
    let et : t ≡ u = second_is n m t u f in
    record { more = []; told = sym et ∙ sym (append-nil t); bytes = tt; inner = omega arith; joined = append-nil (path n) ∙ ap path en }
follows (b ∷ bs) n t m u i h e =
    elim (cases_lt (child n b) 256) [
      | inl c ↦ follows_in n b t bs m u h i.0 (follows bs (child n b) t m u i.1 c (sym (step_in n b t bs c) ∙ e))
      | inr c ↦ elim (outside n b h i.0 c) [
        | inl eos ↦ absurd (not_eos m u (sym (step_eos n b t bs eos) ∙ e))
        | inr x ↦ follows_out n b x.0 t bs m u h i.0 x.2 x.1 (follows bs 0 (t ++ x.0 ∷ []) m u i.1 (omega arith) (sym (step_symbol n b x.0 t bs x.2 x.1) ∙ e))
      ]
    ]

record Meets (n : ℕ) (bs : List ℕ) (r : HpackReason) : Type 0 where
  reason : r ≡ Eos
  more : List ℕ
  rest : List ℕ
  bytes : IsBytes more
  joined : path n ++ bs ≡ join more ++ (code_of 256 ++ rest)

meets_in : (n b : ℕ) (bs : List ℕ) (r : HpackReason) → n < 256 → b < 2 → Meets (child n b) bs r → Meets n (b ∷ bs) r
meets_in n b bs r h l f = record { reason = f.reason; more = f.more; rest = f.rest; bytes = f.bytes; joined = path_on n b bs h l ∙ f.joined }

meets_out : (n b s : ℕ) (bs : List ℕ) (r : HpackReason) → n < 256 → b < 2 → child n b ≡ 256 + s → s < 256 → Meets 0 bs r → Meets n (b ∷ bs) r
meets_out n b s bs r h l e k f = record {
  reason = f.reason;
  more = s ∷ f.more;
  rest = f.rest;
  bytes = (k, f.bytes);
  joined = path_code n b s bs h l e (omega arith) ∙ (ap (λ (xs : List ℕ). code_of s ++ xs) (sym (root bs) ∙ f.joined) ∙ sym (append_assoc (code_of s) (join f.more) (code_of 256 ++ f.rest)));
}

meets_eos : (n b : ℕ) (bs : List ℕ) (r : HpackReason) → n < 256 → b < 2 → child n b ≡ 512 → fault Eos ≡ fault r → Meets n (b ∷ bs) r
meets_eos n b bs r h l e q = record { reason = cc; more = []; rest = bs; bytes = tt; joined = path_code n b 256 bs h l e (omega arith) }

not_fault : (n : ℕ) (t : List ℕ) (r : HpackReason) → stands n t ≡ fault r → ⊥
not_fault n t r e = absurd cc

meets : (bs : List ℕ) (n : ℕ) (t : List ℕ) (r : HpackReason) → IsBits bs → n < 256 → walk n t bs ≡ fault r → Meets n bs r
meets [] n t r i h e = absurd (not_fault n t r (sym (walk_end n t) ∙ e))
meets (b ∷ bs) n t r i h e =
    elim (cases_lt (child n b) 256) [
      | inl c ↦ meets_in n b bs r h i.0 (meets bs (child n b) t r i.1 c (sym (step_in n b t bs c) ∙ e))
      | inr c ↦ elim (outside n b h i.0 c) [
        | inl eos ↦ meets_eos n b bs r h i.0 eos (sym (step_eos n b t bs eos) ∙ e)
        | inr x ↦ meets_out n b x.0 bs r h i.0 x.2 x.1 (meets bs 0 (t ++ x.0 ∷ []) r i.1 (omega arith) (sym (step_symbol n b x.0 t bs x.2 x.1) ∙ e))
      ]
    ]

-- what a text's end tells

abbrev padded : Bool → List ℕ → TextRead
padded b t = if b then Ok t else Err Padding

padded_ok : (b : Bool) (t text : List ℕ) → padded b t ≡ reads text → (b ≡ true) × (t ≡ text)
padded_ok true t text e = (refl, cc)
padded_ok false t text e = absurd cc

padded_bad : (b : Bool) (t : List ℕ) (r : HpackReason) → padded b t ≡ unread r → (b ≡ false) × (r ≡ Padding)
padded_bad true t r e = absurd cc
padded_bad false t r e = (refl, cc)

finish_ok : (r : Walked) (text : List ℕ) → finish r ≡ reads text → (m : ℕ) × (r ≡ stands m text) × (m < 8)
finish_ok (Ok x) text e = let g = padded_ok (nat_lt x.0 8) x.1 text e in (x.0, ap (λ (t : List ℕ). stands x.0 t) g.1, ltb-true x.0 8 g.0)
finish_ok (Err r) text e = absurd cc

finish_bad : (r : Walked) (f : HpackReason) → finish r ≡ unread f → (r ≡ fault f) ⊎ ((f ≡ Padding) × ((m : ℕ) × (u : List ℕ) × (r ≡ stands m u) × (8 ≤ m)))
finish_bad (Ok x) f e = let g = padded_bad (nat_lt x.0 8) x.1 f e in inr (g.1, (x.0, x.1, refl, ltb-false x.0 8 g.0))
finish_bad (Err r) f e = let q : r ≡ f = cc in inl (ap fault q)

pub text_is_huff : TextIsHuff
unfolding text_of
text_is_huff bs text i e =
    let g = finish_ok (walk 0 [] bs) text e in
    let f = follows bs 0 [] g.0 text i (omega arith) g.1 in
    let told : text ≡ f.more = f.told in (
      rw told f.bytes,
      record {
        count = g.0;
        few = omega (arith, g.2);
        joined = sym (root bs) ∙ (f.joined ∙ (ap (λ (xs : List ℕ). join xs ++ path g.0) (sym told) ∙ ap (λ (xs : List ℕ). join text ++ xs) (low_path g.0 g.2)));
      },
    )

eos_or_padding : Eos ≡ Padding → ⊥
eos_or_padding e = absurd cc

pub eos_is_there : EosIsThere
unfolding text_of
eos_is_there bs i e =
    elim (finish_bad (walk 0 [] bs) Eos e) [
      | inl w ↦ let f = meets bs 0 [] Eos i (omega arith) w in record { text = f.more; rest = f.rest; bytes = f.bytes; joined = sym (root bs) ∙ f.joined }
      | inr x ↦ absurd (eos_or_padding x.0)
    ]

pub padding_is_bad : PaddingIsBad
unfolding text_of
padding_is_bad bs i e =
    elim (finish_bad (walk 0 [] bs) Padding e) [
      | inl w ↦ let f = meets bs 0 [] Padding i (omega arith) w in absurd (eos_or_padding (sym f.reason))
      | inr x ↦ let y = x.1 in let f = follows bs 0 [] y.0 y.1 i (omega arith) y.2 in let d = below y.0 f.inner in
          record {
            text = f.more;
            rest = path y.0;
            bytes = f.bytes;
            joined = sym (root bs) ∙ f.joined;
            front = record { symbol = d.symbol; known = d.known; next = d.next; rest = d.rest; joined = code_is d.symbol d.known ∙ d.joined };
            bad = λ count few q. high_path y.0 count f.inner y.3 few q;
          }
    ]

not_empty : (xs ys : List ℕ) (b : ℕ) → xs ++ b ∷ ys ≡ [] → ⊥
not_empty [] ys b e = absurd cc
not_empty (x ∷ xs) ys b e = absurd cc

stays_in : (xs : List ℕ) (n b s : ℕ) (t ys : List ℕ) → IsBits xs → n < 256 → s < 257 → run n (xs ++ b ∷ ys) ≡ 256 + s → (m : ℕ) × (walk n t xs ≡ stands m t)
stays_in [] n b s t ys i h l e = (n, walk_end n t)
stays_in (x ∷ xs) n b s t ys i h l e =
    let f : run (child n x) (xs ++ b ∷ ys) ≡ 256 + s = sym (run_in n x (xs ++ b ∷ ys) h i.0) ∙ e in
    elim (cases_lt (child n x) 256) [
      | inl c ↦ let r = stays_in xs (child n x) b s t ys i.1 c l f in (r.0, step_in n x t xs c ∙ r.1)
      | inr c ↦ absurd (not_empty xs ys b (leaf_only (xs ++ b ∷ ys) (child n x) s c l f).0)
    ]

bits_right : (xs ys : List ℕ) → IsBits (xs ++ ys) → IsBits ys
bits_right [] ys i = i
bits_right (x ∷ xs) ys i = bits_right xs ys i.1

pub bad_padding_is_told : BadPaddingIsTold
unfolding text_of
bad_padding_is_told bs i h =
    let f = h.front in
    let ir : IsBits h.rest = bits_right (join h.text) h.rest (rw h.joined at i) in
    let r = stays_in h.rest 0 f.next f.symbol h.text f.rest ir (omega arith) f.known (sym (ap (run 0) f.joined) ∙ run_is f.symbol f.known) in
    let g = follows h.rest 0 h.text r.0 h.text ir (omega arith) r.1 in
    let none : g.more ≡ [] = append_cancel_left h.text g.more [] (sym g.told ∙ sym (append-nil h.text)) in
    let at_path : h.rest ≡ path r.0 = sym (root h.rest) ∙ (g.joined ∙ ap (λ (xs : List ℕ). join xs ++ path r.0) none) in
    let e : walk 0 [] bs ≡ stands r.0 h.text = ap (walk 0 []) h.joined ∙ (walk_text h.text [] h.rest h.bytes ∙ r.1) in
    elim (cases_lt r.0 8) [
      | inl low ↦ absurd (h.bad r.0 (omega arith) (at_path ∙ low_path r.0 low))
      | inr high ↦ ap finish e ∙ (rw (le-ltb r.0 8 high) refl)
    ]

run_append : (xs ys : List ℕ) (n : ℕ) → run n (xs ++ ys) ≡ run (run n xs) ys
unfolding run
run_append [] ys n = refl
run_append (x ∷ xs) ys n = run_append xs ys (next_of n x)

pub no_code_begins_another : NoCodeBeginsAnother
no_code_begins_another s t rest hs ht e =
    let r : run (256 + t) rest ≡ 256 + s =
    sym (ap (λ (n : ℕ). run n rest) (run_is t ht)) ∙ (sym (run_append (code_of t) rest 0) ∙ (sym (ap (run 0) e) ∙ run_is s hs)) in
    let p = leaf_only rest (256 + t) s (omega arith) hs r in
    omega (arith, p.1)

pub text_faults : (bs : List ℕ) (r : HpackReason) → IsBits bs → text_of bs ≡ unread r → (r ≡ Eos) ⊎ (r ≡ Padding)
unfolding text_of
text_faults bs r i e = elim (finish_bad (walk 0 [] bs) r e) [ inl w ↦ inl (meets bs 0 [] r i (omega arith) w).reason | inr x ↦ inr x.0 ]
