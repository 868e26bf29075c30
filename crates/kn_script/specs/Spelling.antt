-- How events are spelled as a script, and which of them can be: each is what a line may say after the lines
-- before it.
use Rattle.std.specs.Prelude.{ℕ, ◌≡◌, ◌<◌, ◌≤◌, nat_lt, is_ok, Bool, true, false, List, [], ◌∷◌, ◌++◌, length, ⊤, codes}
use Rattle.std.specs.List.{list_all, flat_map, join_with_byte}
use Rattle.std.specs.Str.{bytes_eq}
use Rattle.std.specs.Fmt.{decimal}
use Rattle.kn_world.specs.declared.event.WorldEvent.{WorldEvent}
use Rattle.kn_world.specs.declared.event.WorldEvent.TheVariants as event
use Rattle.kn_world.specs.declared.event.Pipe.{Pipe}
use Rattle.kn_world.specs.declared.event.Pipe.TheVariants as pipe
use Rattle.kn_route.specs.Identifiers.{identifiers_in}
use Rattle.kn_script.specs.Words.{is_between}
use Rattle.kn_script.specs.Report.{hex_of}
use Rattle.kn_script.specs.Script.{has_room, made_by}
use Rattle.kn_script.specs.declared.made.Made.{Made}
use Rattle.kn_script.specs.declared.made.TheConstants.{MAX_DIAL, MAX_TAKE, MAX_ROUNDS}

-- ---- spelling

-- a dash stands for no identifiers
abbrev pub identifiers_word : List ℕ → List ℕ
identifiers_word [] = codes "-"
identifiers_word (byte ∷ bytes) = byte ∷ bytes

abbrev pub pipe_words : Pipe → List (List ℕ)
pipe_words (pipe.AgentUp agent) = codes "agent" ∷ decimal agent ∷ codes "up" ∷ []
pipe_words (pipe.AgentDown agent) = codes "agent" ∷ decimal agent ∷ codes "down" ∷ []
pipe_words (pipe.ClientUp client) = codes "client" ∷ decimal client ∷ codes "up" ∷ []
pipe_words (pipe.ClientDown client) = codes "client" ∷ decimal client ∷ codes "down" ∷ []

abbrev pub words_of : WorldEvent → List (List ℕ)
words_of (event.Agent identifiers) = codes "agent" ∷ identifiers_word identifiers ∷ []
words_of event.Client = codes "client" ∷ []
words_of (event.App client address) = codes "app" ∷ decimal client ∷ address ∷ []
words_of (event.Connect address) = codes "connect" ∷ address ∷ []
words_of (event.Raw bytes) = codes "raw" ∷ hex_of bytes ∷ []
words_of (event.Up dial) = codes "up" ∷ decimal dial ∷ []
words_of (event.Refuse dial) = codes "refuse" ∷ decimal dial ∷ []
words_of (event.Send app bytes) = codes "send" ∷ decimal app ∷ hex_of bytes ∷ []
words_of (event.Answer dial bytes) = codes "answer" ∷ decimal dial ∷ hex_of bytes ∷ []
words_of (event.End app) = codes "end" ∷ decimal app ∷ []
words_of (event.Hang dial) = codes "hang" ∷ decimal dial ∷ []
words_of (event.Fail dial) = codes "fail" ∷ decimal dial ∷ []
words_of (event.Drain agent) = codes "drain" ∷ decimal agent ∷ []
words_of (event.HoldDest dial) = codes "hold" ∷ codes "dest" ∷ decimal dial ∷ []
words_of (event.HoldApp app) = codes "hold" ∷ codes "app" ∷ decimal app ∷ []
words_of (event.TakeDest dial count) = codes "take" ∷ codes "dest" ∷ decimal dial ∷ decimal count ∷ []
words_of (event.TakeApp app count) = codes "take" ∷ codes "app" ∷ decimal app ∷ decimal count ∷ []
words_of (event.GoDest dial) = codes "go" ∷ codes "dest" ∷ decimal dial ∷ []
words_of (event.GoApp app) = codes "go" ∷ codes "app" ∷ decimal app ∷ []
words_of (event.LoseServer agent) = codes "lose" ∷ codes "server" ∷ decimal agent ∷ []
words_of (event.LoseAgent agent) = codes "lose" ∷ codes "agent" ∷ decimal agent ∷ []
words_of (event.LoseFront client) = codes "lose" ∷ codes "front" ∷ decimal client ∷ []
words_of (event.LoseClient client) = codes "lose" ∷ codes "client" ∷ decimal client ∷ []
words_of (event.Step pipe) = codes "step" ∷ pipe_words pipe
words_of (event.Pass rounds) = codes "pass" ∷ decimal rounds ∷ []

-- the words with a space between them, and a line feed
abbrev pub spelled_line : WorldEvent → List ℕ
spelled_line event = join_with_byte 32 (words_of event) ++ 10 ∷ []

abbrev pub spelled : List WorldEvent → List ℕ
spelled events = flat_map spelled_line events

-- ---- what can be spelled

-- a printable byte of ASCII that is no space
abbrev pub is_word_byte : ℕ → Bool
is_word_byte byte = is_between 33 126 byte

abbrev pub is_byte : ℕ → Bool
is_byte n = nat_lt n 256

pub record IsWord (word : List ℕ) : Type 0 where
  pub some : 0 < length word
  pub printable : list_all is_word_byte word ≡ true

pub record IsBytes (bytes : List ℕ) : Type 0 where
  pub some : 0 < length bytes
  pub all : list_all is_byte bytes ≡ true

-- none, or a word that can be read; a dash alone means none
pub record IsIdentifiers (identifiers : List ℕ) : Type 0 where
  pub printable : list_all is_word_byte identifiers ≡ true
  pub no_dash : bytes_eq identifiers (codes "-") ≡ false
  pub readable : is_ok (identifiers_in identifiers) ≡ true

-- a number from a low one to a high one
pub record IsIn (low high n : ℕ) : Type 0 where
  pub first : low ≤ n
  pub last : n ≤ high

-- the number of one of those that were made
abbrev pub IsName : ℕ → ℕ → Type 0
IsName made n = IsIn 1 made n

abbrev pub IsDial : ℕ → Type 0
IsDial n = n ≤ MAX_DIAL

abbrev pub IsPipe : Made → Pipe → Type 0
IsPipe made (pipe.AgentUp agent) = IsName made.agents agent
IsPipe made (pipe.AgentDown agent) = IsName made.agents agent
IsPipe made (pipe.ClientUp client) = IsName made.clients client
IsPipe made (pipe.ClientDown client) = IsName made.clients client

-- an event that a line may name where so much is made
abbrev pub CanBeNamed : Made → WorldEvent → Type 0
CanBeNamed made (event.Agent identifiers) = IsIdentifiers identifiers
CanBeNamed made event.Client = ⊤
CanBeNamed made (event.App client address) = IsName made.clients client × IsWord address
CanBeNamed made (event.Connect address) = IsWord address
CanBeNamed made (event.Raw bytes) = IsBytes bytes
CanBeNamed made (event.Up dial) = IsDial dial
CanBeNamed made (event.Refuse dial) = IsDial dial
CanBeNamed made (event.Send app bytes) = IsName made.apps app × IsBytes bytes
CanBeNamed made (event.Answer dial bytes) = IsDial dial × IsBytes bytes
CanBeNamed made (event.End app) = IsName made.apps app
CanBeNamed made (event.Hang dial) = IsDial dial
CanBeNamed made (event.Fail dial) = IsDial dial
CanBeNamed made (event.Drain agent) = IsName made.agents agent
CanBeNamed made (event.HoldDest dial) = IsDial dial
CanBeNamed made (event.HoldApp app) = IsName made.apps app
CanBeNamed made (event.TakeDest dial count) = IsDial dial × IsIn 1 MAX_TAKE count
CanBeNamed made (event.TakeApp app count) = IsName made.apps app × IsIn 1 MAX_TAKE count
CanBeNamed made (event.GoDest dial) = IsDial dial
CanBeNamed made (event.GoApp app) = IsName made.apps app
CanBeNamed made (event.LoseServer agent) = IsName made.agents agent
CanBeNamed made (event.LoseAgent agent) = IsName made.agents agent
CanBeNamed made (event.LoseFront client) = IsName made.clients client
CanBeNamed made (event.LoseClient client) = IsName made.clients client
CanBeNamed made (event.Step pipe) = IsPipe made pipe
CanBeNamed made (event.Pass rounds) = IsIn 1 MAX_ROUNDS rounds

-- events that a script may name, one after another, from what is made on
abbrev pub CanBeSpelled : Made → List WorldEvent → Type 0
CanBeSpelled made [] = ⊤
CanBeSpelled made (event ∷ events) = (has_room made event ≡ true) × CanBeNamed made event × CanBeSpelled (made_by event made) events
