-- Bytes that end at a known place of a head are not whole yet, and may become so.
use Rattle.std.proofs.Common.{◌≡◌, ℕ, zero, suc, ◌+◌, ◌-◌, ◌<◌, Bool, true, false, List, [], ◌∷◌, ◌++◌, length, get_or, take, drop, refl, sym, ap, ◌∙◌, subst, arith, append_assoc, length-append, inl, inr}
use Rattle.std.specs.List.{flat_map}
use Rattle.std.proofs.lemmas.List.{drop_at}
use Rattle.std.proofs.lemmas.List.Elements.{All-drop, All-head}
use Rattle.std.proofs.lemmas.Str.{IsUtf8-from_ascii}
use Rattle.std.proofs.lemmas.Str.Ascii.{IsAscii-cons, IsAscii-nil}
use Rattle.httparse.specs.Grammar.{is_uri_byte, AllPass, print_end, print_field}
use Rattle.httparse.specs.Pieces.{Then, RequestStart, Section, Method}
use Rattle.httparse.proofs.PieceLemmas.{Blank_deterministic, Method_deterministic}
use Rattle.httparse.proofs.OpenLemmas.{ends_in_target, letter_is_token}
use Rattle.httparse.proofs.GrammarLemmas.{RequestTree, request_head, request_pieces, request_from_pieces, request_prefix_free}
use Rattle.kn_connect.specs.declared.walk.Place.{Place}
use Rattle.kn_connect.specs.declared.walk.Place.TheVariants as at
use Rattle.kn_connect.specs.Heads.{IsUnfinished}
use Rattle.kn_connect.specs.Places.{half_end, version_front, IsInEmpty, IsInMethod, IsInTarget, IsAfterTarget, IsAfterVersion, IsAfterLines, IsInName, IsInValue, EndsAt}
use Rattle.kn_connect.proofs.Steps.{ended, half_ended, empty_end, empty_token, method_space, target_visible, target_space, version_byte, version_digit, version_end, lines_append, name_colon, value_end}

-- some bytes, at least one, make a head of these
pub record GoesOn (s : List ℕ) : Type 0 where
  pub more : List ℕ
  pub some : 0 < length more
  pub tree : RequestTree
  pub reads : Then RequestStart Section tree (s ++ more) []

pub before_byte : (s : List ℕ) (b : ℕ) → GoesOn (s ++ b ∷ []) → GoesOn s
before_byte s b g = record {
  more = b ∷ g.more;
  some = omega arith;
  tree = g.tree;
  reads = subst (λ t. Then RequestStart Section g.tree t []) (append_assoc s (b ∷ []) g.more) g.reads;
}

-- an empty line makes the head whole
pub line_whole : (s : List ℕ) (half : Bool) → IsAfterLines s (half_end half) → (tree : RequestTree) × Then RequestStart Section tree (s ++ 10 ∷ []) []
line_whole s half i =
    let l = lines_append s (half_end half) (10 ∷ []) i in
    let end = print_end (ended half) in (
      (l.parts, (l.fields, ended half)),
      (
        l.text,
        l.start,
        (
          l.lines.0,
          l.lines.1 ∙ ap (λ (t : List ℕ). flat_map print_field l.fields ++ t) (half_ended half)
              ∙ sym (append_assoc (flat_map print_field l.fields) end []),
        ),
      ),
    )

pub from_line : (s : List ℕ) (half : Bool) → IsAfterLines s (half_end half) → GoesOn s
from_line s half i =
    let whole = line_whole s half i in
    record { more = 10 ∷ []; some = omega arith; tree = whole.0; reads = whole.1 }

pub from_value : (s : List ℕ) (half : Bool) → IsInValue s half → GoesOn s
from_value s half i = before_byte s 10 (from_line (s ++ 10 ∷ []) false (value_end s half i))

pub from_name : (s : List ℕ) → IsInName s → GoesOn s
from_name s i = before_byte s 58 (from_value (s ++ 58 ∷ []) false (name_colon s i))

pub from_line_end : (s : List ℕ) (half : Bool) → IsAfterVersion s half → GoesOn s
from_line_end s half i = before_byte s 10 (from_line (s ++ 10 ∷ []) false (version_end s half i))

pub from_version : (left count : ℕ) (s : List ℕ) → count + left ≡ 7 → IsAfterTarget s (take count version_front) → GoesOn s
from_version zero count s e i =
    let c : count ≡ 7 = omega arith in
    let j : IsAfterTarget s version_front = subst (λ n. IsAfterTarget s (take n version_front)) c i in
    before_byte s 48 (from_line_end (s ++ 48 ∷ []) false (version_digit s 0 (omega arith) j))
from_version (suc left) count s e i =
    let b = get_or version_front count 0 in
    before_byte s b (from_version left (count + 1) (s ++ b ∷ []) (omega arith) (version_byte s count (omega arith) i))

pub from_method : (s : List ℕ) → IsInMethod s → GoesOn s
from_method s i =
    let t = method_space s i in
    let u = target_visible (s ++ 32 ∷ []) [] 47 t refl in
    let v = target_space ((s ++ 32 ∷ []) ++ 47 ∷ []) (47 ∷ []) u (omega arith) (IsUtf8-from_ascii _ (IsAscii-cons 47 [] (omega arith) IsAscii-nil)) in
    before_byte s 32 (before_byte (s ++ 32 ∷ []) 47 (before_byte ((s ++ 32 ∷ []) ++ 47 ∷ []) 32
    (from_version 7 0 (((s ++ 32 ∷ []) ++ 47 ∷ []) ++ 32 ∷ []) refl v)))

pub from_empty : (s : List ℕ) (half : Bool) → IsInEmpty s half → GoesOn s
from_empty s half i =
    let j = empty_end s half i in
    before_byte s 10 (before_byte (s ++ 10 ∷ []) 65 (from_method ((s ++ 10 ∷ []) ++ 65 ∷ []) (empty_token (s ++ 10 ∷ []) 65 j letter_is_token)))

-- what goes on is not whole
pub unfinished : (s : List ℕ) → GoesOn s → IsUnfinished s
unfinished s g =
    let k = request_from_pieces (s ++ g.more) g.tree [] g.reads in
    record {
      none = λ h rest x.
          let same = request_prefix_free s g.more h (request_head g.tree) rest [] x k in
          let n : length rest + length g.more ≡ 0 = sym (length-append rest g.more) ∙ ap length same.1 in
          let some = g.some in
          absurd (omega arith);
      may = inl (g.more, request_head g.tree, k);
    }

-- a target has no space
pub no_space : (target front rest : List ℕ) → AllPass is_uri_byte target → target ≡ front ++ 32 ∷ rest → ⊥
no_space target front rest all e =
    let P : ℕ → Type 0 = λ v. is_uri_byte v ≡ true in
    let d : drop (length front) target ≡ 32 ∷ rest = ap (drop (length front)) e ∙ drop_at front (32 ∷ rest) (length front) refl in
    let h : false ≡ true = All-head P 32 rest (subst (λ t. AllPass is_uri_byte t) d (All-drop P (length front) target all)) in
    cc

-- inside a target, whatever its bytes
pub unfinished_target : (s target : List ℕ) → IsInTarget s target → IsUnfinished s
unfinished_target s target i = record {
  none = λ h rest x.
      let row = (request_pieces s h rest x).1 in
      let a = Blank_deterministic.unique i.ends h.blank s i.line row.0 i.lines row.1 in
      let word : Method h.method i.line row.2.0 = subst (λ t. Method h.method t row.2.0) (sym a.1) row.2.1 in
      let b = Method_deterministic.unique i.method h.method i.line target row.2.0 i.word word in
      no_space target h.target row.2.2.0 i.visible (b.1 ∙ row.2.2.1.0.2);
  may = inr (ends_in_target i.ends i.method target i.lines i.word i.visible);
}

pub unfinished_at : (s : List ℕ) (place : Place) → EndsAt s place → IsUnfinished s
unfinished_at s (at.Empty half) i = unfinished s (from_empty s half i)
unfinished_at s at.Method i = unfinished s (from_method s i)
unfinished_at s (at.Target start) i = unfinished_target s (drop start s) i.1
unfinished_at s (at.Version count) i =
    let small = i.0 in
    unfinished s (from_version (7 - count) count s (omega arith) i.1)
unfinished_at s (at.LineEnd half) i = unfinished s (from_line_end s half i)
unfinished_at s (at.Line half) i = unfinished s (from_line s half i)
unfinished_at s at.Name i = unfinished s (from_name s i)
unfinished_at s (at.Value half) i = unfinished s (from_value s half i)
