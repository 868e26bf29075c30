-- Words of a line: the verb, numbers, and bytes in hexadecimal.
use Rattle.std.specs.Prelude.{ℕ, ◌+◌, ◌-◌, ◌*◌, ◌==◌, nat_le, Bool, true, false, ◌&&◌, not, List, [], ◌∷◌, length, Option, Some, None, if◌then◌else◌, fold, codes}
use Rattle.std.specs.List.{list_all}
use Rattle.std.specs.Option.{option_map, option_and_then, option_or}
use Rattle.std.specs.Str.{bytes_eq}
use Rattle.kn_script.specs.declared.verbs.Verb.{Verb}
use Rattle.kn_script.specs.declared.verbs.Verb.TheVariants as verb
use Rattle.kn_script.specs.declared.verbs.OneWordVerb.{OneWordVerb}
use Rattle.kn_script.specs.declared.verbs.OneWordVerb.TheVariants as one
use Rattle.kn_script.specs.declared.verbs.TwoWordVerb.{TwoWordVerb}
use Rattle.kn_script.specs.declared.verbs.TwoWordVerb.TheVariants as two
use Rattle.kn_script.specs.declared.verbs.ThreeWordVerb.{ThreeWordVerb}
use Rattle.kn_script.specs.declared.verbs.ThreeWordVerb.TheVariants as three
use Rattle.kn_script.specs.declared.places.Peer.{Peer}
use Rattle.kn_script.specs.declared.places.Peer.TheVariants as peer
use Rattle.kn_script.specs.declared.places.Direction.{Direction}
use Rattle.kn_script.specs.declared.places.Direction.TheVariants as direction
use Rattle.kn_script.specs.declared.places.Side.{Side}
use Rattle.kn_script.specs.declared.places.Side.TheVariants as side
use Rattle.kn_script.specs.declared.places.End.{End}
use Rattle.kn_script.specs.declared.places.End.TheVariants as end

abbrev pub is_between : ℕ → ℕ → ℕ → Bool
is_between low high n = nat_le low n && nat_le n high

-- the printable bytes of ASCII, and the space
abbrev pub is_script_byte : ℕ → Bool
is_script_byte byte = is_between 32 126 byte

-- ---- the first word

-- the verbs that one word follows
abbrev pub one_word_verb_of : List ℕ → Option OneWordVerb
one_word_verb_of word =
    if bytes_eq word (codes "agent") then Some one.Agent
    else if bytes_eq word (codes "connect") then Some one.Connect
    else if bytes_eq word (codes "raw") then Some one.Raw
    else if bytes_eq word (codes "up") then Some one.Up
    else if bytes_eq word (codes "refuse") then Some one.Refuse
    else if bytes_eq word (codes "end") then Some one.End
    else if bytes_eq word (codes "hang") then Some one.Hang
    else if bytes_eq word (codes "fail") then Some one.Fail
    else if bytes_eq word (codes "drain") then Some one.Drain
    else None

-- those that two words follow
abbrev pub two_word_verb_of : List ℕ → Option TwoWordVerb
two_word_verb_of word =
    if bytes_eq word (codes "app") then Some two.App
    else if bytes_eq word (codes "send") then Some two.Send
    else if bytes_eq word (codes "answer") then Some two.Answer
    else if bytes_eq word (codes "hold") then Some two.Hold
    else if bytes_eq word (codes "go") then Some two.Go
    else if bytes_eq word (codes "lose") then Some two.Lose
    else None

-- those that three words follow
abbrev pub three_word_verb_of : List ℕ → Option ThreeWordVerb
three_word_verb_of word =
    if bytes_eq word (codes "take") then Some three.Take
    else if bytes_eq word (codes "step") then Some three.Step
    else None

-- those that no word follows, or no more than one
abbrev pub bare_verb_of : List ℕ → Option Verb
bare_verb_of word =
    if bytes_eq word (codes "client") then Some verb.Client
    else if bytes_eq word (codes "pass") then Some verb.Pass
    else None

abbrev pub verb_of : List ℕ → Option Verb
verb_of word =
    option_or (option_map (λ found. verb.OneWord found) (one_word_verb_of word))
    (option_or (option_map (λ found. verb.TwoWord found) (two_word_verb_of word))
    (option_or (option_map (λ found. verb.ThreeWord found) (three_word_verb_of word)) (bare_verb_of word)))

-- ---- the words after it, none of them empty

abbrev pub no_word : List (List ℕ) → Bool
no_word [] = true
no_word (word ∷ words) = false

abbrev pub one_word : List (List ℕ) → Option (List ℕ)
one_word [] = None
one_word (word ∷ []) = if length word == 0 then None else Some word
one_word (word ∷ next ∷ more) = None

abbrev pub with_first : List ℕ → Option (List ℕ) → Option (List ℕ × List ℕ)
with_first first words = if length first == 0 then None else option_map (λ second. (first, second)) words

abbrev pub two_words : List (List ℕ) → Option (List ℕ × List ℕ)
two_words [] = None
two_words (first ∷ words) = with_first first (one_word words)

abbrev pub before_two : List ℕ → Option (List ℕ × List ℕ) → Option (List ℕ × (List ℕ × List ℕ))
before_two first words = if length first == 0 then None else option_map (λ others. (first, others)) words

abbrev pub three_words : List (List ℕ) → Option (List ℕ × (List ℕ × List ℕ))
three_words [] = None
three_words (first ∷ words) = before_two first (two_words words)

-- ---- fixed words

-- a side of a tunnel: an app, or the destination of a dial
abbrev pub side_of : List ℕ → Option Side
side_of word =
    if bytes_eq word (codes "app") then Some side.App
    else if bytes_eq word (codes "dest") then Some side.Dest
    else None

-- an end of a connection: of an agent's the server's or the agent's, of a client's the server's or the client's
abbrev pub end_of : List ℕ → Option End
end_of word =
    if bytes_eq word (codes "server") then Some end.Server
    else if bytes_eq word (codes "agent") then Some end.Agent
    else if bytes_eq word (codes "front") then Some end.Front
    else if bytes_eq word (codes "client") then Some end.Client
    else None

-- who has a connection to the server
abbrev pub peer_of : List ℕ → Option Peer
peer_of word =
    if bytes_eq word (codes "agent") then Some peer.Agent
    else if bytes_eq word (codes "client") then Some peer.Client
    else None

-- towards the server, or from it
abbrev pub direction_of : List ℕ → Option Direction
direction_of word =
    if bytes_eq word (codes "up") then Some direction.Up
    else if bytes_eq word (codes "down") then Some direction.Down
    else None

-- ---- numbers

-- '0' to '9'
abbrev pub is_digit : ℕ → Bool
is_digit byte = is_between 48 57 byte

abbrev pub has_leading_zero : List ℕ → Bool
has_leading_zero [] = false
has_leading_zero (digit ∷ []) = false
has_leading_zero (first ∷ next ∷ digits) = first == 48

-- decimal digits, at least one, without a leading zero
abbrev pub is_number : List ℕ → Bool
is_number word = not (length word == 0) && list_all is_digit word && not (has_leading_zero word)

abbrev pub with_digit : ℕ → ℕ → ℕ
with_digit n digit = n * 10 + (digit - 48)

abbrev pub number_of : List ℕ → Option ℕ
number_of word = if is_number word then Some (fold with_digit 0 word) else None

-- ---- bytes in hexadecimal

-- '0' to '9' and 'a' to 'f'
abbrev pub hex_digit : ℕ → Option ℕ
hex_digit byte =
    if is_between 48 57 byte then Some (byte - 48)
    else if is_between 97 102 byte then Some (byte - 87)
    else None

abbrev pub hex_byte : ℕ → ℕ → Option ℕ
hex_byte high low = option_and_then (λ h. option_map (λ l. h * 16 + l) (hex_digit low)) (hex_digit high)

abbrev pub bytes_of_hex : List ℕ → Option (List ℕ)
bytes_of_hex [] = Some []
bytes_of_hex (digit ∷ []) = None
bytes_of_hex (high ∷ low ∷ digits) = option_and_then (λ byte. option_map (λ bytes. byte ∷ bytes) (bytes_of_hex digits)) (hex_byte high low)
