-- A byte with which a head cannot go on.
use Rattle.std.proofs.Common.{◌≡◌, ◌≢◌, ℕ, ◌+◌, ◌<◌, Bool, true, false, List, [], ◌∷◌, ◌++◌, length, get_or, take, drop, refl, sym, ap, ◌∙◌, subst, arith, append_assoc, append-nil, inl, inr}
use Rattle.std.specs.Prelude.{IsUtf8}
use Rattle.std.proofs.lemmas.List.{append_cancel_left, drop_more, take-append-drop}
use Rattle.std.proofs.lemmas.List.Elements.{All-head, All-tail}
use Rattle.std.proofs.lemmas.Bool.{cases_eq}
use Rattle.httparse.specs.Grammar.{is_token_byte, is_uri_byte, is_value_byte, AllPass, LineEnd, crlf, lf, print_end, print_blank, print_version, Field, EndsInTarget}
use Rattle.httparse.specs.Pieces.{Then, Stops, is_newline, Newline, Blank, Method, Target, Version, BeginsLine, RequestStart, Section}
use Rattle.httparse.proofs.RunLemmas.{run_unique}
use Rattle.httparse.proofs.PieceLemmas.{Blank_deterministic, Method_deterministic, Target_deterministic, RequestStart_deterministic, Name_deterministic, FieldLine_parts, Section_skip, Section_line, print_end_unique, newline_not_stopped, Stops_token, Stops_value, space_ends_token, colon_ends_token, front-append}
use Rattle.httparse.proofs.GrammarLemmas.{RequestTree, request_head, request_tree, request_pieces, request_from_pieces, ReadsRequest-append}
use Rattle.kn_connect.specs.Heads.{IsUnfinished, IsDecided}
use Rattle.kn_connect.specs.Places.{half_end, version_front, IsInEmpty, IsInMethod, IsInTarget, IsAfterTarget, IsAfterVersion, IsAfterLines, IsInName, IsInValue}
use Rattle.kn_connect.proofs.Steps.{after_target_append, lines_append}
use Rattle.kn_connect.proofs.Unfinished.{no_space, line_whole, unfinished_target}

-- ---- what is to be shown

-- no head reads so, and no target is being read
pub record IsStuck (s : List ℕ) : Type 0 where
  pub head : (tree : RequestTree) → Then RequestStart Section tree s [] → ⊥
  pub target : EndsInTarget s → ⊥

pub stuck_decided : (s : List ℕ) (b : ℕ) → ((t : List ℕ) → IsStuck (s ++ b ∷ t)) → IsDecided (s ++ b ∷ [])
stuck_decided s b stuck more x =
    let e : (s ++ b ∷ []) ++ more ≡ s ++ b ∷ more = append_assoc s (b ∷ []) more in
    elim x.may [
      | inl y ↦
          let f : ((s ++ b ∷ []) ++ more) ++ y.0 ≡ s ++ b ∷ (more ++ y.0) = ap (λ (t : List ℕ). t ++ y.0) e ∙ append_assoc s (b ∷ more) y.0 in
          (stuck (more ++ y.0)).head (request_tree y.1) (subst (λ (t : List ℕ). Then RequestStart Section (request_tree y.1) t []) f (request_pieces _ y.1 [] y.2))
      | inr y ↦ (stuck more).target (subst EndsInTarget e y)
    ]

pub decided_append : (s more : List ℕ) → IsDecided s → IsDecided (s ++ more)
decided_append s more d next x = d (more ++ next) (subst IsUnfinished (append_assoc s more next) x)

-- the row of pieces up to a target that is being read
record TargetRow (s : List ℕ) : Type 0 where
  ends : List LineEnd
  method : List ℕ
  line : List ℕ
  target : List ℕ
  lines : Blank ends s line
  word : Method method line target
  visible : AllPass is_uri_byte target

target_row : (s : List ℕ) → EndsInTarget s → TargetRow s
target_row s (ends, method, target, token, visible, is) = record {
  ends = ends;
  method = method;
  line = method ++ 32 ∷ target;
  target = target;
  lines = (is ∙ append_assoc (print_blank ends) method (32 ∷ target), Stops_token method (32 ∷ target) token.0 token.1);
  word = (token.0, token.1, refl);
  visible = visible;
}

-- what begins with no method
pub stuck_from_words : (s : List ℕ) → ((ends : List LineEnd) (method line rest : List ℕ) → Blank ends s line → Method method line rest → ⊥) → IsStuck s
stuck_from_words s none = record {
  head = λ tree x. none tree.0.0 tree.0.1.0 x.1.0 x.1.2.0 x.1.1 x.1.2.1;
  target = λ y. let r = target_row s y in none r.ends r.method r.line r.target r.lines r.word;
}

-- ---- empty lines

blanks_left : (es ends : List LineEnd) (rest line : List ℕ) → print_blank es ++ rest ≡ print_blank ends ++ line → Stops is_newline line
    → (left : List LineEnd) × (rest ≡ print_blank left ++ line)
blanks_left [] ends rest line e stops = (ends, e)
blanks_left (y ∷ es) [] rest line e stops =
    absurd (newline_not_stopped y _ line (sym (append_assoc (print_end y) (print_blank es) rest) ∙ e) stops)
blanks_left (y ∷ es) (z ∷ ends) rest line e stops =
    let tails = print_end_unique y z _ _ (sym (append_assoc (print_end y) (print_blank es) rest) ∙ e ∙ append_assoc (print_end z) (print_blank ends) line) in
    blanks_left es ends rest line tails.1 stops

-- the first byte of a word
begins_word : (b : ℕ) (t word rest : List ℕ) → 0 < length word → AllPass is_token_byte word → b ∷ t ≡ word ++ rest → is_token_byte b ≡ true
begins_word b t [] rest some token e = absurd (omega arith)
begins_word b t (w ∷ word) rest some token e = let first = All-head (λ v. is_token_byte v ≡ true) w word token in cc

return_is_no_token : is_token_byte 13 ≡ true → ⊥
unfolding is_token_byte
return_is_no_token e = cc

empty_left : (left : List LineEnd) (b : ℕ) (t word rest : List ℕ) → 0 < length word → AllPass is_token_byte word
    → b ∷ t ≡ print_blank left ++ (word ++ rest) → b ≢ 10 → b ≢ 13 → is_token_byte b ≡ true
empty_left [] b t word rest some token e no_lf no_cr = begins_word b t word rest some token e
empty_left (lf ∷ left) b t word rest some token e no_lf no_cr = let h : b ≡ 10 = cc in absurd (no_lf h)
empty_left (crlf ∷ left) b t word rest some token e no_lf no_cr = let h : b ≡ 13 = cc in absurd (no_cr h)

half_left : (left : List LineEnd) (b : ℕ) (t word rest : List ℕ) → 0 < length word → AllPass is_token_byte word
    → 13 ∷ b ∷ t ≡ print_blank left ++ (word ++ rest) → b ≢ 10 → ⊥
half_left [] b t word rest some token e no_lf = return_is_no_token (begins_word 13 (b ∷ t) word rest some token e)
half_left (lf ∷ left) b t word rest some token e no_lf = let h : ◌≡◌ {A = ℕ} 13 10 = cc in absurd (omega arith)
half_left (crlf ∷ left) b t word rest some token e no_lf = let h : b ≡ 10 = cc in absurd (no_lf h)

pub empty_refuses : (s : List ℕ) (b : ℕ) → IsInEmpty s false → b ≢ 10 → b ≢ 13 → is_token_byte b ≡ false → IsDecided (s ++ b ∷ [])
empty_refuses s b i no_lf no_cr no_token = stuck_decided s b (λ t. stuck_from_words (s ++ b ∷ t) (λ ends method line rest blank word.
    let row = sym (front-append s (print_blank i.ends) [] (b ∷ t) i.lines) ∙ blank.0 in
    let left = blanks_left i.ends ends (b ∷ t) line row blank.1 in
    let e = left.1 ∙ ap (λ (l : List ℕ). print_blank left.0 ++ l) word.2 in
    let token = empty_left left.0 b t method (32 ∷ rest) word.0 word.1 e no_lf no_cr in
    cc))

pub empty_half_refuses : (s : List ℕ) (b : ℕ) → IsInEmpty s true → b ≢ 10 → IsDecided (s ++ b ∷ [])
empty_half_refuses s b i no_lf = stuck_decided s b (λ t. stuck_from_words (s ++ b ∷ t) (λ ends method line rest blank word.
    let row = sym (front-append s (print_blank i.ends) (13 ∷ []) (b ∷ t) i.lines) ∙ blank.0 in
    let left = blanks_left i.ends ends (13 ∷ b ∷ t) line row blank.1 in
    let e = left.1 ∙ ap (λ (l : List ℕ). print_blank left.0 ++ l) word.2 in
    half_left left.0 b t method (32 ∷ rest) word.0 word.1 e no_lf))

-- ---- the method

pub method_refuses : (s : List ℕ) (b : ℕ) → IsInMethod s → is_token_byte b ≡ false → b ≢ 32 → IsDecided (s ++ b ∷ [])
method_refuses s b i no_token no_blank = stuck_decided s b (λ t. stuck_from_words (s ++ b ∷ t) (λ ends method line rest blank word.
    let same = Blank_deterministic.unique i.ends ends (s ++ b ∷ t) (i.method ++ b ∷ t) line (Blank_deterministic.append i.ends s i.method (b ∷ t) i.lines) blank in
    let ends_at = run_unique is_token_byte i.method method (b ∷ t) (32 ∷ rest) i.token word.1 no_token space_ends_token (same.1 ∙ word.2) in
    let h : b ≡ 32 = let tail = ends_at.1 in cc in
    no_blank h))

-- ---- the target

-- what a row has after the method
target_same : (s target more : List ℕ) → IsInTarget s target → (ends : List LineEnd) (method line rest : List ℕ)
    → Blank ends (s ++ more) line → Method method line rest → target ++ more ≡ rest
target_same s target more i ends method line rest blank word =
    let a = Blank_deterministic.unique i.ends ends (s ++ more) (i.line ++ more) line (Blank_deterministic.append i.ends s i.line more i.lines) blank in
    let w : Method method (i.line ++ more) rest = subst (λ (t : List ℕ). Method method t rest) (sym a.1) word in
    (Method_deterministic.unique i.method method (i.line ++ more) (target ++ more) rest (Method_deterministic.append i.method i.line target more i.word) w).1

-- a byte of the target
visible_at : (front : List ℕ) (b : ℕ) (t : List ℕ) → AllPass is_uri_byte (front ++ b ∷ t) → is_uri_byte b ≡ true
visible_at [] b t all = All-head (λ v. is_uri_byte v ≡ true) b t all
visible_at (x ∷ front) b t all = visible_at front b t (All-tail (λ v. is_uri_byte v ≡ true) x (front ++ b ∷ t) all)

pub target_refuses : (s target : List ℕ) (b : ℕ) → IsInTarget s target → is_uri_byte b ≡ false → (b ≡ 32 → 0 < length target → IsUtf8 target → ⊥)
    → IsDecided (s ++ b ∷ [])
target_refuses s target b i hidden no_text = stuck_decided s b (λ t. record {
  head = λ tree x.
      let row = x.1 in
      let e = target_same s target (b ∷ t) i tree.0.0 tree.0.1.0 row.0 row.2.0 row.1 row.2.1 in
      let word = row.2.2.1 in
      let ends_at = run_unique is_uri_byte target tree.0.1.1.0 (b ∷ t) (32 ∷ row.2.2.0) i.visible word.0.1 hidden refl (e ∙ word.0.2) in
      let h : b ≡ 32 = let tail = ends_at.1 in cc in
      no_text h (subst (λ (u : List ℕ). 0 < length u) (sym ends_at.0) word.0.0) (subst IsUtf8 (sym ends_at.0) word.1);
  target = λ y.
      let r = target_row (s ++ b ∷ t) y in
      let e = target_same s target (b ∷ t) i r.ends r.method r.line r.target r.lines r.word in
      let seen = visible_at target b t (subst (AllPass is_uri_byte) (sym e) r.visible) in
      cc;
})

-- ---- the version

-- after the target no target is read
no_target : (s rest more : List ℕ) → IsAfterTarget s rest → EndsInTarget (s ++ more) → ⊥
no_target s rest more i y =
    let j = after_target_append s rest more i in
    let r = target_row (s ++ more) y in
    let a = Blank_deterministic.unique j.ends r.ends (s ++ more) j.line r.line j.lines r.lines in
    let w : Method r.method j.line r.target = subst (λ (t : List ℕ). Method r.method t r.target) (sym a.1) r.word in
    let e = (Method_deterministic.unique j.method r.method j.line j.words r.target j.first w).1 in
    no_space r.target j.target (rest ++ more) r.visible (sym e ∙ j.second.0.2)

-- what a row has after the target
version_same : (s rest more : List ℕ) (tree : RequestTree) → IsAfterTarget s rest → (x : Then RequestStart Section tree (s ++ more) [])
    → Then Version Newline tree.0.1.1.1 (rest ++ more) x.0
version_same s rest more tree i x =
    let j = after_target_append s rest more i in
    let row = x.1 in
    let a = Blank_deterministic.unique j.ends tree.0.0 (s ++ more) j.line row.0 j.lines row.1 in
    let w : Method tree.0.1.0 j.line row.2.0 = subst (λ (t : List ℕ). Method tree.0.1.0 t row.2.0) (sym a.1) row.2.1 in
    let b = Method_deterministic.unique j.method tree.0.1.0 j.line j.words row.2.0 j.first w in
    let v : Target tree.0.1.1.0 j.words row.2.2.0 = subst (λ (t : List ℕ). Target tree.0.1.1.0 t row.2.2.0) (sym b.1) row.2.2.1 in
    let c = Target_deterministic.unique j.target tree.0.1.1.0 j.words (rest ++ more) row.2.2.0 j.second v in
    subst (λ (t : List ℕ). Then Version Newline tree.0.1.1.1 t x.0) (sym c.1) row.2.2.2

-- the byte of a version at a place
version_at : (count b minor : ℕ) (t rest : List ℕ) → count < 7 → take count version_front ++ b ∷ t ≡ print_version minor ++ rest → b ≡ get_or version_front count 0
version_at count b minor t rest below e =
    let split : print_version minor ++ rest ≡ take count version_front ++ (drop count version_front ++ (48 + minor) ∷ rest)
    = ap (λ (v : List ℕ). v ++ (48 + minor) ∷ rest) (sym (take-append-drop count version_front)) ∙ append_assoc (take count version_front) (drop count version_front) ((48 + minor) ∷ rest) in
    let tail = append_cancel_left (take count version_front) (b ∷ t) (drop count version_front ++ (48 + minor) ∷ rest) (e ∙ split) in
    let first = drop_more version_front count 0 below in
    let joined = tail ∙ ap (λ (v : List ℕ). v ++ (48 + minor) ∷ rest) first in
    cc

pub version_refuses : (s : List ℕ) (count b : ℕ) → count < 7 → IsAfterTarget s (take count version_front) → b ≢ get_or version_front count 0 → IsDecided (s ++ b ∷ [])
version_refuses s count b below i other = stuck_decided s b (λ t. record {
  head = λ tree x.
      let v = version_same s (take count version_front) (b ∷ t) tree i x in
      other (version_at count b tree.0.1.1.1.0 t v.0 below v.1.1);
  target = no_target s (take count version_front) (b ∷ t) i;
})

pub digit_refuses : (s : List ℕ) (b : ℕ) → IsAfterTarget s version_front → b ≢ 48 → b ≢ 49 → IsDecided (s ++ b ∷ [])
digit_refuses s b i no_zero no_one = stuck_decided s b (λ t. record {
  head = λ tree x.
      let v = version_same s version_front (b ∷ t) tree i x in
      let e = append_cancel_left version_front (b ∷ t) ((48 + tree.0.1.1.1.0) ∷ v.0) v.1.1 in
      let h : b ≡ 48 + tree.0.1.1.1.0 = cc in
      let small = v.1.0 in
      absurd (omega arith);
  target = no_target s version_front (b ∷ t) i;
})

-- ---- line ends

line_end_left : (end : LineEnd) (b : ℕ) (t rest : List ℕ) → b ∷ t ≡ print_end end ++ rest → b ≢ 10 → b ≢ 13 → ⊥
line_end_left lf b t rest e no_lf no_cr = let h : b ≡ 10 = cc in no_lf h
line_end_left crlf b t rest e no_lf no_cr = let h : b ≡ 13 = cc in no_cr h

half_end_left : (end : LineEnd) (b : ℕ) (t rest : List ℕ) → 13 ∷ b ∷ t ≡ print_end end ++ rest → b ≢ 10 → ⊥
half_end_left lf b t rest e no_lf = let h : ◌≡◌ {A = ℕ} 13 10 = cc in absurd (omega arith)
half_end_left crlf b t rest e no_lf = let h : b ≡ 10 = cc in no_lf h

-- what a row has after the version
line_end_same : (s : List ℕ) (half : Bool) (more : List ℕ) (tree : RequestTree) (i : IsAfterVersion s half) → (x : Then RequestStart Section tree (s ++ more) [])
    → half_end half ++ more ≡ print_end tree.0.1.1.1.1 ++ x.0
line_end_same s half more tree i x =
    let v = version_same s (print_version i.minor ++ half_end half) more tree i.line x in
    let e = sym (append_assoc (print_version i.minor) (half_end half) more) ∙ v.1.1 in
    let digits = append_cancel_left version_front ((48 + i.minor) ∷ (half_end half ++ more)) ((48 + tree.0.1.1.1.0) ∷ v.0) e in
    let tail : half_end half ++ more ≡ v.0 = cc in
    tail ∙ v.2

pub line_end_refuses : (s : List ℕ) (b : ℕ) → IsAfterVersion s false → b ≢ 10 → b ≢ 13 → IsDecided (s ++ b ∷ [])
line_end_refuses s b i no_lf no_cr = stuck_decided s b (λ t. record {
  head = λ tree x. line_end_left tree.0.1.1.1.1 b t x.0 (line_end_same s false (b ∷ t) tree i x) no_lf no_cr;
  target = no_target s _ (b ∷ t) i.line;
})

pub line_end_half_refuses : (s : List ℕ) (b : ℕ) → IsAfterVersion s true → b ≢ 10 → IsDecided (s ++ b ∷ [])
line_end_half_refuses s b i no_lf = stuck_decided s b (λ t. record {
  head = λ tree x. half_end_left tree.0.1.1.1.1 b t x.0 (line_end_same s true (b ∷ t) tree i x) no_lf;
  target = no_target s _ (b ∷ t) i.line;
})

-- ---- field lines

-- a whole request line has a target
lines_after_target : (s rest : List ℕ) (i : IsAfterLines s rest) → IsAfterTarget s i.start.2.2.0
lines_after_target s rest i = record {
  ends = i.parts.0;
  method = i.parts.1.0;
  target = i.parts.1.1.0;
  line = i.start.0;
  words = i.start.2.0;
  lines = i.start.1;
  first = i.start.2.1;
  second = i.start.2.2.1;
}

-- what a row has after whole lines begins with one more
lines_same : (s rest more : List ℕ) (tree : RequestTree) → IsAfterLines s rest → Then RequestStart Section tree (s ++ more) [] → BeginsLine (rest ++ more)
lines_same s rest more tree i x =
    let j = lines_append s rest more i in
    let a = RequestStart_deterministic.unique j.parts tree.0 (s ++ more) j.text x.0 j.start x.1 in
    let section : Section tree.1 j.text [] = subst (λ (t : List ℕ). Section tree.1 t []) (sym a.1) x.2 in
    let skipped = Section_skip j.fields tree.1.0 tree.1.1 j.text (rest ++ more) [] j.lines section in
    Section_line (skipped.0, tree.1.1) (rest ++ more) [] skipped.2

stuck_lines : (s rest : List ℕ) (b : ℕ) → IsAfterLines s rest → ((t : List ℕ) → BeginsLine (rest ++ b ∷ t) → ⊥) → IsDecided (s ++ b ∷ [])
stuck_lines s rest b i none = stuck_decided s b (λ t. record {
  head = λ tree x. none t (lines_same s rest (b ∷ t) tree i x);
  target = no_target s i.start.2.2.0 (b ∷ t) (lines_after_target s rest i);
})

-- the empty line ends the head
pub line_ends : (s : List ℕ) (half : Bool) → IsAfterLines s (half_end half) → IsDecided (s ++ 10 ∷ [])
line_ends s half i more x =
    let whole = line_whole s half i in
    let reads = request_from_pieces (s ++ 10 ∷ []) whole.0 [] whole.1 in
    x.none (request_head whole.0) more (ReadsRequest-append (s ++ 10 ∷ []) (request_head whole.0) [] more reads)

line_stuck : (s : List ℕ) (b : ℕ) → IsAfterLines s [] → b ≢ 10 → b ≢ 13 → is_token_byte b ≡ false → IsDecided (s ++ b ∷ [])
line_stuck s b i no_lf no_cr no_token = stuck_lines s [] b i (λ t begins. elim begins [
  | inl x ↦ line_end_left x.0 b t x.1 x.2 no_lf no_cr
  | inr x ↦
      let parts = FieldLine_parts x.0 (b ∷ t) x.1 x.2 in
      let token = begins_word b t x.0.name (58 ∷ parts.0) parts.1.0 parts.1.1 parts.1.2 in
      cc
])

line_half_stuck : (s : List ℕ) (b : ℕ) → IsAfterLines s (13 ∷ []) → b ≢ 10 → IsDecided (s ++ b ∷ [])
line_half_stuck s b i no_lf = stuck_lines s (13 ∷ []) b i (λ t begins. elim begins [
  | inl x ↦ half_end_left x.0 b t x.1 x.2 no_lf
  | inr x ↦
      let parts = FieldLine_parts x.0 (13 ∷ b ∷ t) x.1 x.2 in
      return_is_no_token (begins_word 13 (b ∷ t) x.0.name (58 ∷ parts.0) parts.1.0 parts.1.1 parts.1.2)
])

pub line_refuses : (s : List ℕ) (b : ℕ) → IsAfterLines s [] → b ≢ 13 → is_token_byte b ≡ false → IsDecided (s ++ b ∷ [])
line_refuses s b i no_cr no_token = elim (cases_eq b 10) [
  | inl same ↦ subst (λ (x : ℕ). IsDecided (s ++ x ∷ [])) (sym same) (line_ends s false i)
  | inr other ↦ line_stuck s b i other no_cr no_token
]

pub line_half_refuses : (s : List ℕ) (b : ℕ) → IsAfterLines s (13 ∷ []) → IsDecided (s ++ b ∷ [])
line_half_refuses s b i = elim (cases_eq b 10) [
  | inl same ↦ subst (λ (x : ℕ). IsDecided (s ++ x ∷ [])) (sym same) (line_ends s true i)
  | inr other ↦ line_half_stuck s b i other
]

-- a name does not begin with a line end
no_end_in_name : (word rest : List ℕ) (end : LineEnd) (t : List ℕ) → 0 < length word → AllPass is_token_byte word → word ++ rest ≡ print_end end ++ t → ⊥
no_end_in_name word rest end t some token e = newline_not_stopped end t (word ++ rest) (sym e) (Stops_token word rest some token)

pub name_refuses : (s : List ℕ) (b : ℕ) → IsInName s → is_token_byte b ≡ false → b ≢ 58 → IsDecided (s ++ b ∷ [])
name_refuses s b i no_token no_colon = stuck_lines s i.name b i.lines (λ t begins. elim begins [
  | inl x ↦ no_end_in_name i.name (b ∷ t) x.0 x.1 i.some i.token x.2
  | inr x ↦
      let parts = FieldLine_parts x.0 (i.name ++ b ∷ t) x.1 x.2 in
      let ends_at = run_unique is_token_byte i.name x.0.name (b ∷ t) (58 ∷ parts.0) i.token parts.1.1 no_token colon_ends_token parts.1.2 in
      let h : b ≡ 58 = let tail = ends_at.1 in cc in
      no_colon h
])

-- what a field line has after the colon
value_same : (s : List ℕ) (half : Bool) (more : List ℕ) (i : IsInValue s half) → BeginsLine (i.text ++ more)
    → (f : Field) × (rest : List ℕ) × AllPass is_value_byte f.raw × (i.raw ++ (half_end half ++ more) ≡ f.raw ++ (print_end f.end ++ rest))
value_same s half more i begins =
    let word = Name_deterministic.append i.name i.text (i.raw ++ half_end half) more i.word in
    elim begins [
      | inl x ↦ absurd (no_end_in_name i.name (58 ∷ ((i.raw ++ half_end half) ++ more)) x.0 x.1 word.0 word.1 (sym word.2 ∙ x.2))
      | inr x ↦
          let parts = FieldLine_parts x.0 (i.text ++ more) x.1 x.2 in
          let same = Name_deterministic.unique i.name x.0.name (i.text ++ more) ((i.raw ++ half_end half) ++ more) parts.0 word parts.1 in
          (x.0, x.1, parts.2.0, sym (append_assoc i.raw (half_end half) more) ∙ same.1 ∙ parts.2.1)
    ]

pub value_refuses : (s : List ℕ) (b : ℕ) → IsInValue s false → is_value_byte b ≡ false → b ≢ 10 → b ≢ 13 → IsDecided (s ++ b ∷ [])
value_refuses s b i no_value no_lf no_cr = stuck_lines s i.text b i.lines (λ t begins.
    let v = value_same s false (b ∷ t) i begins in
    let ends_at = run_unique is_value_byte i.raw v.0.raw (b ∷ t) (print_end v.0.end ++ v.1) i.value v.2 no_value (Stops_value v.0.end v.1) v.3 in
    line_end_left v.0.end b t v.1 ends_at.1 no_lf no_cr)

pub value_half_refuses : (s : List ℕ) (b : ℕ) → IsInValue s true → b ≢ 10 → IsDecided (s ++ b ∷ [])
value_half_refuses s b i no_lf = stuck_lines s i.text b i.lines (λ t begins.
    let v = value_same s true (b ∷ t) i begins in
    let ends_at = run_unique is_value_byte i.raw v.0.raw (13 ∷ b ∷ t) (print_end v.0.end ++ v.1) i.value v.2 refl (Stops_value v.0.end v.1) v.3 in
    half_end_left v.0.end b t v.1 ends_at.1 no_lf)

-- what is decided ends in no target
pub decided_no_target : (s : List ℕ) → IsDecided s → EndsInTarget s → ⊥
decided_no_target s d y =
    let r = target_row s y in
    let i : IsInTarget s r.target = record { ends = r.ends; method = r.method; line = r.line; lines = r.lines; word = r.word; visible = r.visible } in
    d [] (subst IsUnfinished (sym (append-nil s)) (unfinished_target s r.target i))

-- what is decided is not unfinished
pub decided_now : (s : List ℕ) → IsDecided s → IsUnfinished s → ⊥
decided_now s d x = d [] (subst IsUnfinished (sym (append-nil s)) x)
