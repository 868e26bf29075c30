-- The language of scripts. A script is lines, each of them empty, a comment, or an event's verb with its words.
-- Of bytes that are no script the first line with a fault decides, and in it the first of its faults.
use Rattle.std.specs.Prelude.{ℕ, ◌+◌, ◌==◌, nat_lt, Bool, true, not, is_ok, List, [], ◌∷◌, ◌++◌, Option, Some, None, Result, Ok, Err, if◌then◌else◌, codes}
use Rattle.std.specs.List.{list_all}
use Rattle.std.specs.Str.{bytes_eq}
use Rattle.kn_world.specs.declared.event.WorldEvent.{WorldEvent}
use Rattle.kn_world.specs.declared.event.WorldEvent.TheVariants as event
use Rattle.kn_world.specs.declared.event.Pipe.{Pipe}
use Rattle.kn_world.specs.declared.event.Pipe.TheVariants as pipe
use Rattle.kn_route.specs.Identifiers.{identifiers_in}
use Rattle.kn_script.specs.Lines.{lines_of, pieces_of}
use Rattle.kn_script.specs.Words.{verb_of, side_of, end_of, peer_of, direction_of, no_word, one_word, two_words, three_words, number_of, bytes_of_hex, is_between, is_script_byte}
use Rattle.kn_script.specs.declared.verbs.Verb.{Verb}
use Rattle.kn_script.specs.declared.verbs.Verb.TheVariants as verb
use Rattle.kn_script.specs.declared.verbs.OneWordVerb.{OneWordVerb}
use Rattle.kn_script.specs.declared.verbs.OneWordVerb.TheVariants as one
use Rattle.kn_script.specs.declared.verbs.TwoWordVerb.{TwoWordVerb}
use Rattle.kn_script.specs.declared.verbs.TwoWordVerb.TheVariants as two
use Rattle.kn_script.specs.declared.verbs.ThreeWordVerb.{ThreeWordVerb}
use Rattle.kn_script.specs.declared.verbs.ThreeWordVerb.TheVariants as three
use Rattle.kn_script.specs.declared.places.Side.{Side}
use Rattle.kn_script.specs.declared.places.Side.TheVariants as side
use Rattle.kn_script.specs.declared.places.End.{End}
use Rattle.kn_script.specs.declared.places.End.TheVariants as end
use Rattle.kn_script.specs.declared.places.Peer.{Peer}
use Rattle.kn_script.specs.declared.places.Peer.TheVariants as peer
use Rattle.kn_script.specs.declared.places.Direction.{Direction}
use Rattle.kn_script.specs.declared.places.Direction.TheVariants as direction
use Rattle.kn_script.specs.declared.fault.ScriptReason.{ScriptReason}
use Rattle.kn_script.specs.declared.fault.ScriptReason.TheVariants as reason
use Rattle.kn_script.specs.declared.fault.ScriptFault.{ScriptFault}
use Rattle.kn_script.specs.declared.made.Made.{Made}
use Rattle.kn_script.specs.declared.made.Thing.{Thing}
use Rattle.kn_script.specs.declared.made.Thing.TheVariants as thing
use Rattle.kn_script.specs.declared.made.TheConstants.{MAX_AGENTS, MAX_CLIENTS, MAX_APPS, MAX_DIAL, MAX_TAKE, MAX_ROUNDS, DEFAULT_ROUNDS}

-- ---- words with a meaning

abbrev pub if_ok : {A B : Type 0} → (A → Result B ScriptReason) → Result A ScriptReason → Result B ScriptReason
if_ok next (Ok value) = next value
if_ok next (Err why) = Err why

abbrev pub or_fault : {A : Type 0} → ScriptReason → Option A → Result A ScriptReason
or_fault why (Some value) = Ok value
or_fault why None = Err why

abbrev pub any_number : List ℕ → Result ℕ ScriptReason
any_number word = or_fault reason.Number (number_of word)

abbrev pub between : ScriptReason → ℕ → ℕ → ℕ → Result ℕ ScriptReason
between why low high n = if is_between low high n then Ok n else Err why

-- the number of one of those that were made on earlier lines
abbrev pub named : ℕ → List ℕ → Result ℕ ScriptReason
named made word = if_ok (between reason.Name 1 made) (any_number word)

-- a number with a limit
abbrev pub limited : ℕ → ℕ → List ℕ → Result ℕ ScriptReason
limited low high word = if_ok (between reason.Limit low high) (any_number word)

-- the number of a dial, drawn or not
abbrev pub dial_number : List ℕ → Result ℕ ScriptReason
dial_number word = limited 0 MAX_DIAL word

-- the number of who has a connection to the server
abbrev pub peer_number : Made → Peer → List ℕ → Result ℕ ScriptReason
peer_number made peer.Agent word = named made.agents word
peer_number made peer.Client word = named made.clients word

abbrev pub hex_bytes : List ℕ → Result (List ℕ) ScriptReason
hex_bytes [] = Err reason.Hex
hex_bytes (digit ∷ digits) = or_fault reason.Hex (bytes_of_hex (digit ∷ digits))

-- the word itself, where identifiers can be read from it
abbrev pub readable : List ℕ → Result (List ℕ) ScriptReason
readable word = if is_ok (identifiers_in word) then Ok word else Err reason.Identifiers

-- identifiers of an agent; a dash stands for none
abbrev pub identifiers_of : List ℕ → Result (List ℕ) ScriptReason
identifiers_of word = if bytes_eq word (codes "-") then Ok [] else readable word

-- ---- events by their words, of which the one on the left is looked at first

abbrev pub pipe_of : Peer → Direction → ℕ → Pipe
pipe_of peer.Agent direction.Up number = pipe.AgentUp number
pipe_of peer.Agent direction.Down number = pipe.AgentDown number
pipe_of peer.Client direction.Up number = pipe.ClientUp number
pipe_of peer.Client direction.Down number = pipe.ClientDown number

-- the event of a dial, of one that was made, or of bytes
abbrev pub with_dial : (ℕ → WorldEvent) → List ℕ → Result WorldEvent ScriptReason
with_dial event word = if_ok (λ dial. Ok (event dial)) (dial_number word)

abbrev pub with_named : (ℕ → WorldEvent) → ℕ → List ℕ → Result WorldEvent ScriptReason
with_named event made word = if_ok (λ number. Ok (event number)) (named made word)

abbrev pub with_bytes : (List ℕ → WorldEvent) → List ℕ → Result WorldEvent ScriptReason
with_bytes event word = if_ok (λ bytes. Ok (event bytes)) (hex_bytes word)

-- what follows of a fixed word
abbrev pub with_fixed : {A : Type 0} → (A → Result WorldEvent ScriptReason) → Option A → Result WorldEvent ScriptReason
with_fixed next found = if_ok next (or_fault reason.Word found)

abbrev pub agent_of : List ℕ → Result WorldEvent ScriptReason
agent_of word = if_ok (λ identifiers. Ok (event.Agent identifiers)) (identifiers_of word)

abbrev pub send_of : Made → List ℕ → List ℕ → Result WorldEvent ScriptReason
send_of made app digits = if_ok (λ number. with_bytes (event.Send number) digits) (named made.apps app)

abbrev pub answer_of : List ℕ → List ℕ → Result WorldEvent ScriptReason
answer_of dial digits = if_ok (λ number. with_bytes (event.Answer number) digits) (dial_number dial)

abbrev pub hold_of : Made → List ℕ → Side → Result WorldEvent ScriptReason
hold_of made word side.App = with_named event.HoldApp made.apps word
hold_of made word side.Dest = with_dial event.HoldDest word

abbrev pub go_of : Made → List ℕ → Side → Result WorldEvent ScriptReason
go_of made word side.App = with_named event.GoApp made.apps word
go_of made word side.Dest = with_dial event.GoDest word

abbrev pub lose_of : Made → List ℕ → End → Result WorldEvent ScriptReason
lose_of made word end.Server = with_named event.LoseServer made.agents word
lose_of made word end.Agent = with_named event.LoseAgent made.agents word
lose_of made word end.Front = with_named event.LoseFront made.clients word
lose_of made word end.Client = with_named event.LoseClient made.clients word

abbrev pub with_count : (ℕ → WorldEvent) → List ℕ → Result WorldEvent ScriptReason
with_count event word = if_ok (λ count. Ok (event count)) (limited 1 MAX_TAKE word)

abbrev pub take_app_of : Made → List ℕ → List ℕ → Result WorldEvent ScriptReason
take_app_of made word count = if_ok (λ app. with_count (event.TakeApp app) count) (named made.apps word)

abbrev pub take_dest_of : List ℕ → List ℕ → Result WorldEvent ScriptReason
take_dest_of word count = if_ok (λ dial. with_count (event.TakeDest dial) count) (dial_number word)

abbrev pub take_of : Made → List ℕ → List ℕ → Side → Result WorldEvent ScriptReason
take_of made word count side.App = take_app_of made word count
take_of made word count side.Dest = take_dest_of word count

abbrev pub step_of : Made → List ℕ → List ℕ → Peer → Result WorldEvent ScriptReason
step_of made word way peer =
    if_ok (λ number. with_fixed (λ direction. Ok (event.Step (pipe_of peer direction number))) (direction_of way)) (peer_number made peer word)

abbrev pub pass_of : List ℕ → Result WorldEvent ScriptReason
pass_of word = if_ok (λ count. Ok (event.Pass count)) (limited 1 MAX_ROUNDS word)

-- ---- a line

-- the event of a verb and its words
abbrev pub one_word_event : Made → OneWordVerb → List ℕ → Result WorldEvent ScriptReason
one_word_event made one.Agent word = agent_of word
one_word_event made one.Connect word = Ok (event.Connect word)
one_word_event made one.Raw word = with_bytes event.Raw word
one_word_event made one.Up word = with_dial event.Up word
one_word_event made one.Refuse word = with_dial event.Refuse word
one_word_event made one.End word = with_named event.End made.apps word
one_word_event made one.Hang word = with_dial event.Hang word
one_word_event made one.Fail word = with_dial event.Fail word
one_word_event made one.Drain word = with_named event.Drain made.agents word

abbrev pub two_word_event : Made → TwoWordVerb → List ℕ → List ℕ → Result WorldEvent ScriptReason
two_word_event made two.App first second = with_named (λ client. event.App client second) made.clients first
two_word_event made two.Send first second = send_of made first second
two_word_event made two.Answer first second = answer_of first second
two_word_event made two.Hold first second = with_fixed (hold_of made second) (side_of first)
two_word_event made two.Go first second = with_fixed (go_of made second) (side_of first)
two_word_event made two.Lose first second = with_fixed (lose_of made second) (end_of first)

abbrev pub three_word_event : Made → ThreeWordVerb → List ℕ → List ℕ → List ℕ → Result WorldEvent ScriptReason
three_word_event made three.Take first second third = with_fixed (take_of made second third) (side_of first)
three_word_event made three.Step first second third = with_fixed (step_of made second third) (peer_of first)

-- what follows a verb has so many words
abbrev pub with_one : (List ℕ → Result WorldEvent ScriptReason) → List (List ℕ) → Result WorldEvent ScriptReason
with_one next words = if_ok next (or_fault reason.Count (one_word words))

abbrev pub with_two : (List ℕ → List ℕ → Result WorldEvent ScriptReason) → List (List ℕ) → Result WorldEvent ScriptReason
with_two next words = if_ok (λ found. next found.0 found.1) (or_fault reason.Count (two_words words))

abbrev pub with_three : (List ℕ → List ℕ → List ℕ → Result WorldEvent ScriptReason) → List (List ℕ) → Result WorldEvent ScriptReason
with_three next words = if_ok (λ found. next found.0 found.1.0 found.1.1) (or_fault reason.Count (three_words words))

abbrev pub event_of : Made → Verb → List (List ℕ) → Result WorldEvent ScriptReason
event_of made verb.Client words = if no_word words then Ok event.Client else Err reason.Count
event_of made verb.Pass words = if no_word words then Ok (event.Pass DEFAULT_ROUNDS) else with_one pass_of words
event_of made (verb.OneWord found) words = with_one (one_word_event made found) words
event_of made (verb.TwoWord found) words = with_two (two_word_event made found) words
event_of made (verb.ThreeWord found) words = with_three (three_word_event made found) words

-- what an event makes
abbrev pub thing_of : WorldEvent → Thing
thing_of (event.Agent identifiers) = thing.Agent
thing_of event.Client = thing.Client
thing_of (event.App client address) = thing.App
thing_of (event.Connect address) = thing.App
thing_of (event.Raw bytes) = thing.App
thing_of (event.Up dial) = thing.Nothing
thing_of (event.Refuse dial) = thing.Nothing
thing_of (event.Send app bytes) = thing.Nothing
thing_of (event.Answer dial bytes) = thing.Nothing
thing_of (event.End app) = thing.Nothing
thing_of (event.Hang dial) = thing.Nothing
thing_of (event.Fail dial) = thing.Nothing
thing_of (event.Drain agent) = thing.Nothing
thing_of (event.HoldDest dial) = thing.Nothing
thing_of (event.HoldApp app) = thing.Nothing
thing_of (event.TakeDest dial count) = thing.Nothing
thing_of (event.TakeApp app count) = thing.Nothing
thing_of (event.GoDest dial) = thing.Nothing
thing_of (event.GoApp app) = thing.Nothing
thing_of (event.LoseServer agent) = thing.Nothing
thing_of (event.LoseAgent agent) = thing.Nothing
thing_of (event.LoseFront client) = thing.Nothing
thing_of (event.LoseClient client) = thing.Nothing
thing_of (event.Step pipe) = thing.Nothing
thing_of (event.Pass rounds) = thing.Nothing

-- there is no limit on it, or the limit is not reached
abbrev pub has_room_for : Made → Thing → Bool
has_room_for made thing.Agent = nat_lt made.agents MAX_AGENTS
has_room_for made thing.Client = nat_lt made.clients MAX_CLIENTS
has_room_for made thing.App = nat_lt made.apps MAX_APPS
has_room_for made thing.Nothing = true

abbrev pub has_room : Made → WorldEvent → Bool
has_room made event = has_room_for made (thing_of event)

abbrev pub within_limits : Made → WorldEvent → Result WorldEvent ScriptReason
within_limits made event = if has_room made event then Ok event else Err reason.Limit

abbrev pub event_of_pieces : Made → List (List ℕ) → Result WorldEvent ScriptReason
event_of_pieces made [] = Err reason.Word
event_of_pieces made (first ∷ words) = if_ok (λ verb. if_ok (within_limits made) (event_of made verb words)) (or_fault reason.Word (verb_of first))

-- an empty line, or one that begins with '#'
abbrev pub is_remark : List ℕ → Bool
is_remark [] = true
is_remark (byte ∷ bytes) = byte == 35

-- the event of a line, if it has one
abbrev pub line_event : Made → List ℕ → Result (Option WorldEvent) ScriptReason
line_event made line =
    if not (list_all is_script_byte line) then Err reason.Byte
    else if is_remark line then Ok None
    else if_ok (λ event. Ok (Some event)) (event_of_pieces made (pieces_of line))

-- ---- all lines

-- what is made after one thing more
abbrev pub with_thing : Thing → Made → Made
with_thing thing.Agent made = record made { agents = made.agents + 1 }
with_thing thing.Client made = record made { clients = made.clients + 1 }
with_thing thing.App made = record made { apps = made.apps + 1 }
with_thing thing.Nothing made = made

abbrev pub made_by : WorldEvent → Made → Made
made_by event made = with_thing (thing_of event) made

abbrev pub Events : Type 0
Events = Result (List WorldEvent) ScriptFault

-- these events, and then those that follow
abbrev pub after_events : List WorldEvent → Events → Events
after_events events (Ok more) = Ok (events ++ more)
after_events events (Err fault) = Err fault

-- a line's own fault, or its event before those of the lines after it
abbrev pub with_rest : ℕ → Made → (Made → Events) → Result (Option WorldEvent) ScriptReason → Events
with_rest number made rest (Err why) = Err (record { line = number; reason = why })
with_rest number made rest (Ok None) = rest made
with_rest number made rest (Ok (Some event)) = after_events (event ∷ []) (rest (made_by event made))

-- the events of lines that are numbered from here on
abbrev pub events_of : ℕ → Made → List (List ℕ) → Events
events_of number made [] = Ok []
events_of number made (line ∷ lines) = with_rest number made (λ later. events_of (number + 1) later lines) (line_event made line)

abbrev pub none_made : Made
none_made = record { agents = 0; clients = 0; apps = 0 }

-- the events of a script, or the first fault of what is none
abbrev pub script_of : List ℕ → Events
script_of bytes = events_of 1 none_made (lines_of bytes)
