-- One byte further in a request's head.
use Rattle.std.proofs.Common.{◌≡◌, ℕ, ◌+◌, ◌<◌, ◌≤◌, Bool, true, false, List, [], ◌∷◌, ◌++◌, length, get_or, take, refl, sym, ap, ◌∙◌, subst, arith, append_assoc, append-nil}
use Rattle.std.specs.Prelude.{IsUtf8}
use Rattle.std.proofs.lemmas.List.{take_more, length_push}
use Rattle.std.proofs.lemmas.List.Elements.{All-nil, All-push}
use Rattle.httparse.specs.Grammar.{is_token_byte, is_uri_byte, is_value_byte, LineEnd, crlf, lf, print_end, print_blank, print_version, Field}
use Rattle.httparse.specs.Pieces.{Newline}
use Rattle.httparse.proofs.PieceLemmas.{front-append, Blank_deterministic, Method_deterministic, Target_deterministic, RequestStart_deterministic, token_is_no_newline, FieldLines-append, FieldLines_push}
use Rattle.httparse.proofs.ReadLemmas.{blank_more, FieldLine_done}
use Rattle.kn_connect.specs.Places.{half_end, version_front, IsInEmpty, IsInMethod, IsInTarget, IsAfterTarget, IsAfterVersion, IsAfterLines, IsInName, IsInValue}

-- the line end that its second half ends
abbrev pub ended : Bool → LineEnd
ended false = lf
ended true = crlf

pub half_ended : (half : Bool) → Newline (ended half) (half_end half ++ 10 ∷ []) []
half_ended false = refl
half_ended true = refl

pub empty_end : (s : List ℕ) (half : Bool) → IsInEmpty s half → IsInEmpty (s ++ 10 ∷ []) false
empty_end s half i = record {
  ends = i.ends ++ ended half ∷ [];
  lines = blank_more i.ends (ended half) (s ++ 10 ∷ []) (half_end half ++ 10 ∷ []) []
      (front-append s (print_blank i.ends) (half_end half) (10 ∷ []) i.lines) (half_ended half);
}

pub empty_half : (s : List ℕ) → IsInEmpty s false → IsInEmpty (s ++ 13 ∷ []) true
empty_half s i = record { ends = i.ends; lines = front-append s (print_blank i.ends) [] (13 ∷ []) i.lines }

pub empty_token : (s : List ℕ) (b : ℕ) → IsInEmpty s false → is_token_byte b ≡ true → IsInMethod (s ++ b ∷ [])
empty_token s b i t = record {
  ends = i.ends;
  method = b ∷ [];
  lines = (front-append s (print_blank i.ends) [] (b ∷ []) i.lines, token_is_no_newline b t);
  some = omega arith;
  token = All-push (λ v. is_token_byte v ≡ true) [] b (All-nil _) t;
}

pub method_token : (s : List ℕ) (b : ℕ) → IsInMethod s → is_token_byte b ≡ true → IsInMethod (s ++ b ∷ [])
method_token s b i t = record {
  ends = i.ends;
  method = i.method ++ b ∷ [];
  lines = Blank_deterministic.append i.ends s i.method (b ∷ []) i.lines;
  some = omega (arith, length_push i.method b);
  token = All-push (λ v. is_token_byte v ≡ true) i.method b i.token t;
}

pub method_space : (s : List ℕ) → IsInMethod s → IsInTarget (s ++ 32 ∷ []) []
method_space s i = record {
  ends = i.ends;
  method = i.method;
  line = i.method ++ 32 ∷ [];
  lines = Blank_deterministic.append i.ends s i.method (32 ∷ []) i.lines;
  word = (i.some, i.token, refl);
  visible = All-nil _;
}

pub target_visible : (s target : List ℕ) (b : ℕ) → IsInTarget s target → is_uri_byte b ≡ true → IsInTarget (s ++ b ∷ []) (target ++ b ∷ [])
target_visible s target b i v = record {
  ends = i.ends;
  method = i.method;
  line = i.line ++ b ∷ [];
  lines = Blank_deterministic.append i.ends s i.line (b ∷ []) i.lines;
  word = Method_deterministic.append i.method i.line target (b ∷ []) i.word;
  visible = All-push (λ v. is_uri_byte v ≡ true) target b i.visible v;
}

pub target_space : (s target : List ℕ) → IsInTarget s target → 0 < length target → IsUtf8 target → IsAfterTarget (s ++ 32 ∷ []) []
target_space s target i some text = record {
  ends = i.ends;
  method = i.method;
  target = target;
  line = i.line ++ 32 ∷ [];
  words = target ++ 32 ∷ [];
  lines = Blank_deterministic.append i.ends s i.line (32 ∷ []) i.lines;
  first = Method_deterministic.append i.method i.line target (32 ∷ []) i.word;
  second = ((some, i.visible, refl), text);
}

pub after_target_append : (s rest more : List ℕ) → IsAfterTarget s rest → IsAfterTarget (s ++ more) (rest ++ more)
after_target_append s rest more i = record {
  ends = i.ends;
  method = i.method;
  target = i.target;
  line = i.line ++ more;
  words = i.words ++ more;
  lines = Blank_deterministic.append i.ends s i.line more i.lines;
  first = Method_deterministic.append i.method i.line i.words more i.first;
  second = Target_deterministic.append i.target i.words rest more i.second;
}

pub version_byte : (s : List ℕ) (count : ℕ) → count < 7 → IsAfterTarget s (take count version_front)
    → IsAfterTarget (s ++ get_or version_front count 0 ∷ []) (take (count + 1) version_front)
version_byte s count below i =
    let b = get_or version_front count 0 ∷ [] in
    subst (λ rest. IsAfterTarget (s ++ b) rest) (sym (take_more version_front count 0 below)) (after_target_append s (take count version_front) b i)

pub version_digit : (s : List ℕ) (minor : ℕ) → minor ≤ 1 → IsAfterTarget s version_front → IsAfterVersion (s ++ (48 + minor) ∷ []) false
version_digit s minor small i = record { minor = minor; small = small; line = after_target_append s version_front ((48 + minor) ∷ []) i }

pub version_half : (s : List ℕ) → IsAfterVersion s false → IsAfterVersion (s ++ 13 ∷ []) true
version_half s i = record { minor = i.minor; small = i.small; line = after_target_append s _ (13 ∷ []) i.line }

version_cut : (minor : ℕ) (half : Bool) → (print_version minor ++ half_end half) ++ 10 ∷ [] ≡ print_version minor ++ (half_end half ++ 10 ∷ [])
version_cut minor half = append_assoc (print_version minor) (half_end half) (10 ∷ [])

pub version_end : (s : List ℕ) (half : Bool) → IsAfterVersion s half → IsAfterLines (s ++ 10 ∷ []) []
version_end s half i =
    let l = after_target_append s _ (10 ∷ []) i.line in
    record {
      parts = (l.ends, (l.method, (l.target, (i.minor, ended half))));
      fields = [];
      text = [];
      start = (l.line, l.lines, (l.words, l.first, (_, l.second, (half_end half ++ 10 ∷ [], (i.small, version_cut i.minor half), half_ended half))));
      lines = (All-nil _, refl);
    }

pub lines_append : (s rest more : List ℕ) → IsAfterLines s rest → IsAfterLines (s ++ more) (rest ++ more)
lines_append s rest more i = record {
  parts = i.parts;
  fields = i.fields;
  text = i.text ++ more;
  start = RequestStart_deterministic.append i.parts s i.text more i.start;
  lines = FieldLines-append i.fields i.text rest more i.lines;
}

pub line_half : (s : List ℕ) → IsAfterLines s [] → IsAfterLines (s ++ 13 ∷ []) (13 ∷ [])
line_half s i = lines_append s [] (13 ∷ []) i

pub line_token : (s : List ℕ) (b : ℕ) → IsAfterLines s [] → is_token_byte b ≡ true → IsInName (s ++ b ∷ [])
line_token s b i t = record {
  name = b ∷ [];
  lines = lines_append s [] (b ∷ []) i;
  some = omega arith;
  token = All-push (λ v. is_token_byte v ≡ true) [] b (All-nil _) t;
}

pub name_token : (s : List ℕ) (b : ℕ) → IsInName s → is_token_byte b ≡ true → IsInName (s ++ b ∷ [])
name_token s b i t = record {
  name = i.name ++ b ∷ [];
  lines = lines_append s i.name (b ∷ []) i.lines;
  some = omega (arith, length_push i.name b);
  token = All-push (λ v. is_token_byte v ≡ true) i.name b i.token t;
}

pub name_colon : (s : List ℕ) → IsInName s → IsInValue (s ++ 58 ∷ []) false
name_colon s i = record {
  name = i.name;
  raw = [];
  text = i.name ++ 58 ∷ [];
  lines = lines_append s i.name (58 ∷ []) i.lines;
  word = (i.some, i.token, refl);
  value = All-nil _;
}

-- the name goes on to stand before what is appended
name_append : (s more : List ℕ) (half : Bool) (i : IsInValue s half)
    → (0 < length i.name) × (i.text ++ more ≡ i.name ++ 58 ∷ ((i.raw ++ half_end half) ++ more))
name_append s more half i =
    (i.word.0, front-append i.text i.name (58 ∷ (i.raw ++ half_end half)) more i.word.2)

pub value_byte : (s : List ℕ) (b : ℕ) → IsInValue s false → is_value_byte b ≡ true → IsInValue (s ++ b ∷ []) false
value_byte s b i v = record {
  name = i.name;
  raw = i.raw ++ b ∷ [];
  text = i.text ++ b ∷ [];
  lines = lines_append s i.text (b ∷ []) i.lines;
  word = (
    i.word.0,
    i.word.1,
    (name_append s (b ∷ []) false i).1
        ∙ ap (λ (t : List ℕ). i.name ++ 58 ∷ t) (ap (λ (t : List ℕ). t ++ b ∷ []) (append-nil i.raw) ∙ sym (append-nil (i.raw ++ b ∷ []))),
  );
  value = All-push (λ w. is_value_byte w ≡ true) i.raw b i.value v;
}

pub value_half : (s : List ℕ) → IsInValue s false → IsInValue (s ++ 13 ∷ []) true
value_half s i = record {
  name = i.name;
  raw = i.raw;
  text = i.text ++ 13 ∷ [];
  lines = lines_append s i.text (13 ∷ []) i.lines;
  word = (
    i.word.0,
    i.word.1,
    (name_append s (13 ∷ []) false i).1 ∙ ap (λ (t : List ℕ). i.name ++ 58 ∷ (t ++ 13 ∷ [])) (append-nil i.raw),
  );
  value = i.value;
}

pub value_end : (s : List ℕ) (half : Bool) → IsInValue s half → IsAfterLines (s ++ 10 ∷ []) []
value_end s half i =
    let l = lines_append s i.text (10 ∷ []) i.lines in
    let end = ended half in
    let field : Field = record { name = i.name; raw = i.raw; end = end } in
    let middle = (i.raw ++ half_end half) ++ 10 ∷ [] in
    let e : middle ≡ i.raw ++ (print_end end ++ []) = append_assoc i.raw (half_end half) (10 ∷ []) ∙ ap (λ (t : List ℕ). i.raw ++ t) (half_ended half) in
    record {
      parts = l.parts;
      fields = l.fields ++ field ∷ [];
      text = l.text;
      start = l.start;
      lines = FieldLines_push l.fields field l.text (i.text ++ 10 ∷ []) [] l.lines
          (FieldLine_done i.name i.raw end (i.text ++ 10 ∷ []) middle [] (i.word.0, i.word.1, (name_append s (10 ∷ []) half i).1) (i.value, e));
    }
