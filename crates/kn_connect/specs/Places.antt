-- Where in a request's head bytes end, by the pieces of its grammar (RFC 9112, sections 2.2, 3 and 5).
use Rattle.std.specs.Prelude.{ℕ, ◌<◌, ◌≤◌, Bool, true, false, List, [], ◌∷◌, ◌++◌, length, take, drop, codes, Option, Some, None}
use Rattle.httparse.specs.Grammar.{is_token_byte, is_uri_byte, is_value_byte, AllPass, LineEnd, print_version, Field}
use Rattle.httparse.specs.Pieces.{BlankLines, Blank, Method, Target, Word, RequestStart, FieldLines}
use Rattle.kn_connect.specs.Heads.{IsDecided}
use Rattle.kn_connect.specs.declared.walk.Place.{Place}
use Rattle.kn_connect.specs.declared.walk.Place.TheVariants as at

-- the CR of a line end whose LF is still to come, if there is one
abbrev pub half_end : Bool → List ℕ
half_end false = []
half_end true = 13 ∷ []

-- what comes before the digit of a version
abbrev pub version_front : List ℕ
version_front = codes "HTTP/1."

-- empty lines, and maybe half of one
pub record IsInEmpty (bytes : List ℕ) (half : Bool) : Type 0 where
  pub ends : List LineEnd
  pub lines : BlankLines ends bytes (half_end half)

-- empty lines, and a front of the method
pub record IsInMethod (bytes : List ℕ) : Type 0 where
  pub ends : List LineEnd
  pub method : List ℕ
  pub lines : Blank ends bytes method
  pub some : 0 < length method
  pub token : AllPass is_token_byte method

-- empty lines, a method, a space, and a front of the target
pub record IsInTarget (bytes target : List ℕ) : Type 0 where
  pub ends : List LineEnd
  pub method : List ℕ
  pub line : List ℕ
  pub lines : Blank ends bytes line
  pub word : Method method line target
  pub visible : AllPass is_uri_byte target

-- a request line up to the space after the target, and then rest
pub record IsAfterTarget (bytes rest : List ℕ) : Type 0 where
  pub ends : List LineEnd
  pub method : List ℕ
  pub target : List ℕ
  pub line : List ℕ
  pub words : List ℕ
  pub lines : Blank ends bytes line
  pub first : Method method line words
  pub second : Target target words rest

-- a request line up to its version, and maybe half of its end
pub record IsAfterVersion (bytes : List ℕ) (half : Bool) : Type 0 where
  pub minor : ℕ
  pub small : minor ≤ 1
  pub line : IsAfterTarget bytes (print_version minor ++ half_end half)

-- a whole request line, whole field lines, and then rest
pub record IsAfterLines (bytes rest : List ℕ) : Type 0 where
  pub parts : List LineEnd × (List ℕ × (List ℕ × (ℕ × LineEnd)))
  pub fields : List Field
  pub text : List ℕ
  pub start : RequestStart parts bytes text
  pub lines : FieldLines fields text rest

-- whole lines, and a front of a field's name
pub record IsInName (bytes : List ℕ) : Type 0 where
  pub name : List ℕ
  pub lines : IsAfterLines bytes name
  pub some : 0 < length name
  pub token : AllPass is_token_byte name

-- whole lines, a field's name, a colon, a front of its value, and maybe half of the line's end
pub record IsInValue (bytes : List ℕ) (half : Bool) : Type 0 where
  pub name : List ℕ
  pub raw : List ℕ
  pub text : List ℕ
  pub lines : IsAfterLines bytes text
  pub word : Word is_token_byte 58 name text (raw ++ half_end half)
  pub value : AllPass is_value_byte raw

-- the bytes end at that place
abbrev pub EndsAt : List ℕ → Place → Type 0
EndsAt bytes (at.Empty half) = IsInEmpty bytes half
EndsAt bytes at.Method = IsInMethod bytes
EndsAt bytes (at.Target start) = (start ≤ length bytes) × IsInTarget bytes (drop start bytes)
EndsAt bytes (at.Version count) = (count ≤ 7) × IsAfterTarget bytes (take count version_front)
EndsAt bytes (at.LineEnd half) = IsAfterVersion bytes half
EndsAt bytes (at.Line half) = IsAfterLines bytes (half_end half)
EndsAt bytes at.Name = IsInName bytes
EndsAt bytes (at.Value half) = IsInValue bytes half

-- where the bytes end, or that with them the head is whole or never will be, whatever follows
abbrev pub Reaches : List ℕ → Option Place → Type 0
Reaches bytes None = IsDecided bytes
Reaches bytes (Some place) = EndsAt bytes place
