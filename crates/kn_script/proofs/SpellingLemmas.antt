-- What is spelled is read again.
use Rattle.std.proofs.Common.{◌≡◌, ℕ, ◌+◌, ◌-◌, ◌*◌, ◌/◌, ◌%◌, ◌^◌, ◌<◌, ◌≤◌, ◌==◌, zero, suc, Bool, true, false, ◌&&◌, List, [], ◌∷◌, ◌++◌, length, get_or, Some, Result, Ok, codes, refl, ap, ◌∙◌, append_assoc, arith, rules, ⊎_elim}
use Rattle.std.specs.Prelude.{fold}
use Rattle.std.specs.List.{list_all, join_with_byte}
use Rattle.std.specs.Fmt.{decimal}
use Rattle.std.proofs.lemmas.Bool.{cases_lt}
use Rattle.std.proofs.lemmas.Bool.Decides.{nat_tests}
use Rattle.std.proofs.lemmas.Fmt.{decimal_digit, decimal_nonempty, first_decimal, digits_decimal, digits_value-decimal}
use Rattle.std.proofs.lemmas.Str.Parse.{IsNumeralModel, numerals_by_fold}
use Rattle.kn_world.specs.declared.event.WorldEvent.{WorldEvent}
use Rattle.kn_world.specs.declared.event.WorldEvent.TheVariants as event
use Rattle.kn_world.specs.declared.event.Pipe.TheVariants as pipe
use Rattle.kn_script.specs.declared.fault.ScriptReason.{ScriptReason}
use Rattle.kn_script.specs.declared.fault.ScriptReason.TheVariants as reason
use Rattle.kn_script.specs.declared.made.Made.{Made}
use Rattle.kn_script.specs.declared.made.Thing.{Thing}
use Rattle.kn_script.specs.declared.made.Thing.TheVariants as thing
use Rattle.kn_script.specs.declared.made.TheConstants.{MAX_DIAL, MAX_TAKE, MAX_ROUNDS}
use Rattle.kn_script.specs.declared.verbs.Verb.{Verb}
use Rattle.kn_script.specs.declared.verbs.Verb.TheVariants as verbs
use Rattle.kn_script.specs.declared.verbs.OneWordVerb.{OneWordVerb}
use Rattle.kn_script.specs.declared.verbs.OneWordVerb.TheVariants as one
use Rattle.kn_script.specs.declared.verbs.TwoWordVerb.{TwoWordVerb}
use Rattle.kn_script.specs.declared.verbs.TwoWordVerb.TheVariants as two
use Rattle.kn_script.specs.declared.verbs.ThreeWordVerb.{ThreeWordVerb}
use Rattle.kn_script.specs.declared.verbs.ThreeWordVerb.TheVariants as three
use Rattle.kn_script.specs.declared.places.Direction.{Direction}
use Rattle.kn_script.specs.declared.places.Direction.TheVariants as direction
use Rattle.kn_script.specs.declared.places.Peer.TheVariants as peer
use Rattle.kn_script.specs.Lines.{lines_of, pieces_of, is_line_feed, is_space}
use Rattle.kn_script.specs.Words.{is_between, is_script_byte, verb_of, direction_of, is_digit, has_leading_zero, number_of, with_digit, hex_digit, hex_byte, bytes_of_hex}
use Rattle.kn_script.specs.Report.{hex_glyph, hex_of}
use Rattle.kn_script.specs.Script.{if_ok, or_fault, between, is_remark, within_limits, with_rest, after_events, none_made, named, limited, dial_number, hex_bytes, with_one, with_two, with_three, with_dial, with_named, with_bytes, with_count, with_fixed, agent_of, send_of, answer_of, take_app_of, take_dest_of, step_of, pass_of, pipe_of, one_word_event, two_word_event, three_word_event, event_of, event_of_pieces, thing_of, with_thing, has_room_for, has_room, line_event, made_by, script_of, events_of}
use Rattle.kn_script.specs.Answers.{IsWithin}
use Rattle.kn_script.specs.Spelling.{words_of, spelled, is_word_byte, is_byte, IsWord, IsBytes, IsIdentifiers, IsIn, IsName, IsDial, CanBeNamed, CanBeSpelled}

-- ---- tests

both_true : (x y : Bool) → (x && y) ≡ true → (x ≡ true) × (y ≡ true)
both_true true y h = (refl, h)
both_true false y h = (cc)

from_both : (x y : Bool) → x ≡ true → y ≡ true → (x && y) ≡ true
from_both x y h k = rw (h, k) refl

word_is_script : (byte : ℕ) → is_word_byte byte ≡ true → is_script_byte byte ≡ true
word_is_script byte h = grind (arith, nat_tests)

word_is_no_space : (byte : ℕ) → is_word_byte byte ≡ true → is_space byte ≡ false
word_is_no_space byte h = grind (arith, nat_tests)

script_is_no_feed : (byte : ℕ) → is_script_byte byte ≡ true → is_line_feed byte ≡ false
script_is_no_feed byte h = grind (arith, nat_tests)

digit_is_word : (byte : ℕ) → is_digit byte ≡ true → is_word_byte byte ≡ true
digit_is_word byte h = grind (arith, nat_tests)

-- ---- lines and words

line_first : (line rest : List ℕ) → list_all is_script_byte line ≡ true → lines_of (line ++ 10 ∷ rest) ≡ line ∷ lines_of rest
line_first [] rest h = refl
line_first (byte ∷ line) rest h =
    let both = both_true (is_script_byte byte) (list_all is_script_byte line) h in
    rw (script_is_no_feed byte both.0) (rw (line_first line rest both.1) refl)

word_first : (word rest : List ℕ) → list_all is_word_byte word ≡ true → pieces_of (word ++ 32 ∷ rest) ≡ word ∷ pieces_of rest
word_first [] rest h = refl
word_first (byte ∷ word) rest h =
    let both = both_true (is_word_byte byte) (list_all is_word_byte word) h in
    rw (word_is_no_space byte both.0) (rw (word_first word rest both.1) refl)

word_alone : (word : List ℕ) → list_all is_word_byte word ≡ true → pieces_of word ≡ word ∷ []
word_alone [] h = refl
word_alone (byte ∷ word) h =
    let both = both_true (is_word_byte byte) (list_all is_word_byte word) h in
    rw (word_is_no_space byte both.0) (rw (word_alone word both.1) refl)

pieces_joined : (word : List ℕ) (words : List (List ℕ)) → list_all (list_all is_word_byte) (word ∷ words) ≡ true → pieces_of (join_with_byte 32 (word ∷ words)) ≡ word ∷ words
pieces_joined word [] h = word_alone word (both_true (list_all is_word_byte word) true h).0
pieces_joined word (next ∷ words) h =
    let both = both_true (list_all is_word_byte word) (list_all (list_all is_word_byte) (next ∷ words)) h in
    word_first word (join_with_byte 32 (next ∷ words)) both.0 ∙ ap (λ pieces. word ∷ pieces) (pieces_joined next words both.1)

script_word : (word : List ℕ) → list_all is_word_byte word ≡ true → list_all is_script_byte word ≡ true
script_word [] h = refl
script_word (byte ∷ word) h =
    let both = both_true (is_word_byte byte) (list_all is_word_byte word) h in
    from_both (is_script_byte byte) (list_all is_script_byte word) (word_is_script byte both.0) (script_word word both.1)

script_joined_two : (word rest : List ℕ) → list_all is_word_byte word ≡ true → list_all is_script_byte rest ≡ true → list_all is_script_byte (word ++ 32 ∷ rest) ≡ true
script_joined_two [] rest h k = k
script_joined_two (byte ∷ word) rest h k =
    let both = both_true (is_word_byte byte) (list_all is_word_byte word) h in
    from_both (is_script_byte byte) (list_all is_script_byte (word ++ 32 ∷ rest)) (word_is_script byte both.0) (script_joined_two word rest both.1 k)

script_joined : (word : List ℕ) (words : List (List ℕ)) → list_all (list_all is_word_byte) (word ∷ words) ≡ true → list_all is_script_byte (join_with_byte 32 (word ∷ words)) ≡ true
script_joined word [] h = script_word word (both_true (list_all is_word_byte word) true h).0
script_joined word (next ∷ words) h =
    let both = both_true (list_all is_word_byte word) (list_all (list_all is_word_byte) (next ∷ words)) h in
    script_joined_two word (join_with_byte 32 (next ∷ words)) both.0 (script_joined next words both.1)

-- ---- numbers

own : IsNumeralModel (λ ds. list_all is_digit ds ≡ true) (fold with_digit 0)
own = numerals_by_fold (λ ds. list_all is_digit ds ≡ true) (search rules) (fold with_digit) (search rules)

no_zero_first : (ds : List ℕ) → 48 < get_or ds 0 0 → has_leading_zero ds ≡ false
no_zero_first [] h = refl
no_zero_first (d ∷ []) h = refl
no_zero_first (d ∷ e ∷ ds) h = grind (arith, nat_tests)

zero_alone : has_leading_zero (decimal 0) ≡ false
zero_alone = let one : decimal 0 ≡ 48 ∷ [] = decimal_digit 0 (omega arith) in rw one refl

no_leading_zero : (n : ℕ) → n < 2 ^ 64 → has_leading_zero (decimal n) ≡ false
no_leading_zero zero small = zero_alone
no_leading_zero (suc n) small = no_zero_first (decimal (suc n)) (first_decimal (suc n) (omega arith) small)

some_is_not_none : (n : ℕ) → 0 < n → (n == 0) ≡ false
some_is_not_none n h = grind (arith, nat_tests)

number_of-decimal : (n : ℕ) → n < 2 ^ 64 → number_of (decimal n) ≡ Some n
number_of-decimal n small =
    let digits : list_all is_digit (decimal n) ≡ true = digits_decimal own n small in
    let value : fold with_digit 0 (decimal n) ≡ n = digits_value-decimal own n small in
    let some : (length (decimal n) == 0) ≡ false = some_is_not_none (length (decimal n)) (decimal_nonempty n small) in
    rw (some, digits, no_leading_zero n small, value) refl

digits_are_word : (ds : List ℕ) → list_all is_digit ds ≡ true → list_all is_word_byte ds ≡ true
digits_are_word [] h = refl
digits_are_word (d ∷ ds) h =
    let both = both_true (is_digit d) (list_all is_digit ds) h in
    from_both (is_word_byte d) (list_all is_word_byte ds) (digit_is_word d both.0) (digits_are_word ds both.1)

decimal_is_word : (n : ℕ) → n < 2 ^ 64 → list_all is_word_byte (decimal n) ≡ true
decimal_is_word n small = digits_are_word (decimal n) (digits_decimal own n small)

-- ---- hexadecimal

in_between : (low high n : ℕ) → low ≤ n → n ≤ high → is_between low high n ≡ true
in_between low high n h k = grind (arith, nat_tests)

below : (low high n : ℕ) → high < n → is_between low high n ≡ false
below low high n h = grind (arith, nat_tests)

small_glyph : (n : ℕ) → n < 10 → hex_glyph n ≡ 48 + n
small_glyph n h = grind (arith, nat_tests)

large_glyph : (n : ℕ) → 10 ≤ n → hex_glyph n ≡ 87 + n
large_glyph n h = grind (arith, nat_tests)

small_digit : (byte : ℕ) → 48 ≤ byte → byte ≤ 57 → hex_digit byte ≡ Some (byte - 48)
small_digit byte h k = rw (in_between 48 57 byte h k) refl

large_digit : (byte : ℕ) → 97 ≤ byte → byte ≤ 102 → hex_digit byte ≡ Some (byte - 87)
large_digit byte h k = rw (below 48 57 byte (omega arith), in_between 97 102 byte h k) refl

hex_digit-glyph : (n : ℕ) → n < 16 → hex_digit (hex_glyph n) ≡ Some n
hex_digit-glyph n small =
    ⊎_elim
    (λ (h : n < 10). ap hex_digit (small_glyph n h) ∙ small_digit (48 + n) (omega arith) (omega arith) ∙ ap (λ k. Some k) (omega arith))
    (λ (h : 10 ≤ n). ap hex_digit (large_glyph n h) ∙ large_digit (87 + n) (omega arith) (omega arith) ∙ ap (λ k. Some k) (omega arith))
    (cases_lt n 10)

glyph_is_word : (n : ℕ) → n < 16 → is_word_byte (hex_glyph n) ≡ true
glyph_is_word n small =
    ⊎_elim
    (λ (h : n < 10). ap is_word_byte (small_glyph n h) ∙ in_between 33 126 (48 + n) (omega arith) (omega arith))
    (λ (h : 10 ≤ n). ap is_word_byte (large_glyph n h) ∙ in_between 33 126 (87 + n) (omega arith) (omega arith))
    (cases_lt n 10)

high_small : (byte : ℕ) → is_byte byte ≡ true → byte / 16 < 16
high_small byte h = let small : byte < 256 = grind (arith, nat_tests) in omega arith

low_small : (byte : ℕ) → byte % 16 < 16
low_small byte = omega arith

whole_byte : (byte : ℕ) → byte / 16 * 16 + byte % 16 ≡ byte
whole_byte byte = omega arith

hex_byte-glyphs : (byte : ℕ) → is_byte byte ≡ true → hex_byte (hex_glyph (byte / 16)) (hex_glyph (byte % 16)) ≡ Some byte
hex_byte-glyphs byte h =
    rw (hex_digit-glyph (byte / 16) (high_small byte h), hex_digit-glyph (byte % 16) (low_small byte)) (ap (λ n. Some n) (whole_byte byte))

bytes_of_hex-hex_of : (bytes : List ℕ) → list_all is_byte bytes ≡ true → bytes_of_hex (hex_of bytes) ≡ Some bytes
bytes_of_hex-hex_of [] h = refl
bytes_of_hex-hex_of (byte ∷ bytes) h =
    let both = both_true (is_byte byte) (list_all is_byte bytes) h in
    rw (hex_byte-glyphs byte both.0, bytes_of_hex-hex_of bytes both.1) refl

hex_is_word : (bytes : List ℕ) → list_all is_byte bytes ≡ true → list_all is_word_byte (hex_of bytes) ≡ true
hex_is_word [] h = refl
hex_is_word (byte ∷ bytes) h =
    let both = both_true (is_byte byte) (list_all is_byte bytes) h in
    from_both (is_word_byte (hex_glyph (byte / 16))) _ (glyph_is_word (byte / 16) (high_small byte both.0))
    (from_both (is_word_byte (hex_glyph (byte % 16))) (list_all is_word_byte (hex_of bytes)) (glyph_is_word (byte % 16) (low_small byte)) (hex_is_word bytes both.1))

-- ---- words with a meaning

with_one-word : (next : List ℕ → Result WorldEvent ScriptReason) (word : List ℕ) → 0 < length word → with_one next (word ∷ []) ≡ next word
with_one-word next word some = rw (some_is_not_none (length word) some) refl

with_two-words : (next : List ℕ → List ℕ → Result WorldEvent ScriptReason) (first second : List ℕ) → 0 < length first → 0 < length second → with_two next (first ∷ second ∷ []) ≡ next first second
with_two-words next first second h k = rw (some_is_not_none (length first) h, some_is_not_none (length second) k) refl

with_three-words : (next : List ℕ → List ℕ → List ℕ → Result WorldEvent ScriptReason) (first second third : List ℕ) → 0 < length first → 0 < length second → 0 < length third → with_three next (first ∷ second ∷ third ∷ []) ≡ next first second third
with_three-words next first second third h k l =
    rw (some_is_not_none (length first) h, some_is_not_none (length second) k, some_is_not_none (length third) l) refl

number_word : (n : ℕ) → n < 2 ^ 64 → IsWord (decimal n)
number_word n small = record { some = decimal_nonempty n small; printable = decimal_is_word n small }

named-decimal : (made n : ℕ) → IsName made n → n < 2 ^ 64 → named made (decimal n) ≡ Ok n
named-decimal made n is small =
    ap (λ found. if_ok (between reason.Name 1 made) (or_fault reason.Number found)) (number_of-decimal n small)
    ∙ rw (in_between 1 made n is.first is.last) refl

limited-decimal : (low high n : ℕ) → IsIn low high n → n < 2 ^ 64 → limited low high (decimal n) ≡ Ok n
limited-decimal low high n is small =
    ap (λ found. if_ok (between reason.Limit low high) (or_fault reason.Number found)) (number_of-decimal n small)
    ∙ rw (in_between low high n is.first is.last) refl

dial_small : (n : ℕ) → IsDial n → n < 2 ^ 64
dial_small n last = omega arith

dial_number-decimal : (n : ℕ) → IsDial n → dial_number (decimal n) ≡ Ok n
dial_number-decimal n last = limited-decimal 0 MAX_DIAL n (record { first = omega arith; last = last }) (dial_small n last)

count_small : (n : ℕ) → IsIn 1 MAX_TAKE n → n < 2 ^ 64
count_small n is = let last = is.last in omega arith

rounds_small : (n : ℕ) → IsIn 1 MAX_ROUNDS n → n < 2 ^ 64
rounds_small n is = let last = is.last in omega arith

hex_bytes-hex_of : (bytes : List ℕ) → IsBytes bytes → hex_bytes (hex_of bytes) ≡ Ok bytes
hex_bytes-hex_of [] is = absurd (let some = is.some in omega arith)
hex_bytes-hex_of (byte ∷ bytes) is = ap (or_fault reason.Hex) (bytes_of_hex-hex_of (byte ∷ bytes) is.all)

hex_nonempty : (bytes : List ℕ) → 0 < length bytes → 0 < length (hex_of bytes)
hex_nonempty [] some = some
hex_nonempty (byte ∷ bytes) some = omega arith

hex_word : (bytes : List ℕ) → IsBytes bytes → IsWord (hex_of bytes)
hex_word bytes is = record { some = hex_nonempty bytes is.some; printable = hex_is_word bytes is.all }

agent_small : (made : Made) (n : ℕ) → IsWithin made → IsName made.agents n → n < 2 ^ 64
agent_small made n bound is = let most = bound.agents in let last = is.last in omega arith

client_small : (made : Made) (n : ℕ) → IsWithin made → IsName made.clients n → n < 2 ^ 64
client_small made n bound is = let most = bound.clients in let last = is.last in omega arith

app_small : (made : Made) (n : ℕ) → IsWithin made → IsName made.apps n → n < 2 ^ 64
app_small made n bound is = let most = bound.apps in let last = is.last in omega arith

-- ---- events of words

dial_found : (event : ℕ → WorldEvent) (n : ℕ) → IsDial n → with_dial event (decimal n) ≡ Ok (event n)
dial_found event n last = ap (if_ok (λ dial. Ok (event dial))) (dial_number-decimal n last)

name_found : (event : ℕ → WorldEvent) (made n : ℕ) → IsName made n → n < 2 ^ 64 → with_named event made (decimal n) ≡ Ok (event n)
name_found event made n is small = ap (if_ok (λ number. Ok (event number))) (named-decimal made n is small)

bytes_found : (event : List ℕ → WorldEvent) (bytes : List ℕ) → IsBytes bytes → with_bytes event (hex_of bytes) ≡ Ok (event bytes)
bytes_found event bytes is = ap (if_ok (λ found. Ok (event found))) (hex_bytes-hex_of bytes is)

count_found : (event : ℕ → WorldEvent) (n : ℕ) → IsIn 1 MAX_TAKE n → with_count event (decimal n) ≡ Ok (event n)
count_found event n is = ap (if_ok (λ count. Ok (event count))) (limited-decimal 1 MAX_TAKE n is (count_small n is))

send_found : (made : Made) (app : ℕ) (bytes : List ℕ) → IsName made.apps app → app < 2 ^ 64 → IsBytes bytes → send_of made (decimal app) (hex_of bytes) ≡ Ok (event.Send app bytes)
send_found made app bytes is small spelled =
    ap (if_ok (λ number. with_bytes (event.Send number) (hex_of bytes))) (named-decimal made.apps app is small)
    ∙ bytes_found (event.Send app) bytes spelled

answer_found : (dial : ℕ) (bytes : List ℕ) → IsDial dial → IsBytes bytes → answer_of (decimal dial) (hex_of bytes) ≡ Ok (event.Answer dial bytes)
answer_found dial bytes last spelled =
    ap (if_ok (λ number. with_bytes (event.Answer number) (hex_of bytes))) (dial_number-decimal dial last)
    ∙ bytes_found (event.Answer dial) bytes spelled

take_app_found : (made : Made) (app count : ℕ) → IsName made.apps app → app < 2 ^ 64 → IsIn 1 MAX_TAKE count → take_app_of made (decimal app) (decimal count) ≡ Ok (event.TakeApp app count)
take_app_found made app count is small some =
    ap (if_ok (λ number. with_count (event.TakeApp number) (decimal count))) (named-decimal made.apps app is small)
    ∙ count_found (event.TakeApp app) count some

take_dest_found : (dial count : ℕ) → IsDial dial → IsIn 1 MAX_TAKE count → take_dest_of (decimal dial) (decimal count) ≡ Ok (event.TakeDest dial count)
take_dest_found dial count last some =
    ap (if_ok (λ number. with_count (event.TakeDest number) (decimal count))) (dial_number-decimal dial last)
    ∙ count_found (event.TakeDest dial) count some

step_agent_found : (made : Made) (way : List ℕ) (direction : Direction) (n : ℕ) → direction_of way ≡ Some direction → IsName made.agents n → n < 2 ^ 64 → step_of made (decimal n) way peer.Agent ≡ Ok (event.Step (pipe_of peer.Agent direction n))
step_agent_found made way direction n is_way is small =
    ap (if_ok (λ number. with_fixed (λ found. Ok (event.Step (pipe_of peer.Agent found number))) (direction_of way))) (named-decimal made.agents n is small)
    ∙ ap (with_fixed (λ found. Ok (event.Step (pipe_of peer.Agent found n)))) is_way

step_client_found : (made : Made) (way : List ℕ) (direction : Direction) (n : ℕ) → direction_of way ≡ Some direction → IsName made.clients n → n < 2 ^ 64 → step_of made (decimal n) way peer.Client ≡ Ok (event.Step (pipe_of peer.Client direction n))
step_client_found made way direction n is_way is small =
    ap (if_ok (λ number. with_fixed (λ found. Ok (event.Step (pipe_of peer.Client found number))) (direction_of way))) (named-decimal made.clients n is small)
    ∙ ap (with_fixed (λ found. Ok (event.Step (pipe_of peer.Client found n)))) is_way

agent_found : (word : List ℕ) → IsIdentifiers word → agent_of word ≡ Ok (event.Agent word)
agent_found word is = rw (is.no_dash, is.readable) refl

-- ---- a line

within : (made : Made) (event : WorldEvent) → has_room made event ≡ true → if_ok (within_limits made) (Ok event) ≡ Ok event
within made event room = rw room refl

-- the words of an event are words, and they mean the event
record Reads (made : Made) (event : WorldEvent) (line : List ℕ) : Type 0 where
  script : list_all is_script_byte line ≡ true
  means : line_event made line ≡ Ok (Some event)

words_read : (made : Made) (event : WorldEvent) (word : List ℕ) (words : List (List ℕ)) → list_all (list_all is_word_byte) (word ∷ words) ≡ true → is_remark (join_with_byte 32 (word ∷ words)) ≡ false → event_of_pieces made (word ∷ words) ≡ Ok event → Reads made event (join_with_byte 32 (word ∷ words))
words_read made event word words printable no_remark is =
    let script = script_joined word words printable in
    record {
      script = script;
      means = rw (script, no_remark)
          (ap (λ pieces. if_ok (λ found. Ok (Some found)) (event_of_pieces made pieces)) (pieces_joined word words printable)
          ∙ ap (if_ok (λ found. Ok (Some found))) is);
    }

-- what a verb has to be
record IsVerb (word : List ℕ) (verb : Verb) : Type 0 where
  printable : list_all is_word_byte word ≡ true
  named : verb_of word ≡ Some verb

-- the words of a line after the verb are words
all_printable : (words : List (List ℕ)) (word : List ℕ) → list_all is_word_byte word ≡ true → list_all (list_all is_word_byte) words ≡ true → list_all (list_all is_word_byte) (word ∷ words) ≡ true
all_printable words word h k = from_both (list_all is_word_byte word) (list_all (list_all is_word_byte) words) h k

found_event : (made : Made) (event : WorldEvent) (verb : Verb) (word : List ℕ) (words : List (List ℕ)) → verb_of word ≡ Some verb → event_of made verb words ≡ Ok event → has_room made event ≡ true → event_of_pieces made (word ∷ words) ≡ Ok event
found_event made event verb word words is reads room =
    ap (λ found. if_ok (λ v. if_ok (within_limits made) (event_of made v words)) (or_fault reason.Word found)) is
    ∙ ap (if_ok (within_limits made)) reads
    ∙ within made event room

one_reads : (made : Made) (event : WorldEvent) (word first : List ℕ) (verb : OneWordVerb) → IsVerb word (verbs.OneWord verb) → is_remark (join_with_byte 32 (word ∷ first ∷ [])) ≡ false → IsWord first → one_word_event made verb first ≡ Ok event → has_room made event ≡ true → Reads made event (join_with_byte 32 (word ∷ first ∷ []))
one_reads made event word first verb is no_remark one reads room =
    words_read made event word (first ∷ []) (all_printable (first ∷ []) word is.printable (all_printable [] first one.printable refl)) no_remark
    (found_event made event (verbs.OneWord verb) word (first ∷ []) is.named (with_one-word (one_word_event made verb) first one.some ∙ reads) room)

two_read : (made : Made) (event : WorldEvent) (word first second : List ℕ) (verb : TwoWordVerb) → IsVerb word (verbs.TwoWord verb) → is_remark (join_with_byte 32 (word ∷ first ∷ second ∷ [])) ≡ false → IsWord first → IsWord second → two_word_event made verb first second ≡ Ok event → has_room made event ≡ true → Reads made event (join_with_byte 32 (word ∷ first ∷ second ∷ []))
two_read made event word first second verb is no_remark one two reads room =
    words_read made event word (first ∷ second ∷ [])
    (all_printable (first ∷ second ∷ []) word is.printable (all_printable (second ∷ []) first one.printable (all_printable [] second two.printable refl))) no_remark
    (found_event made event (verbs.TwoWord verb) word (first ∷ second ∷ []) is.named
    (with_two-words (two_word_event made verb) first second one.some two.some ∙ reads) room)

three_read : (made : Made) (event : WorldEvent) (word first second third : List ℕ) (verb : ThreeWordVerb) → IsVerb word (verbs.ThreeWord verb) → is_remark (join_with_byte 32 (word ∷ first ∷ second ∷ third ∷ [])) ≡ false → IsWord first → IsWord second → IsWord third → three_word_event made verb first second third ≡ Ok event → has_room made event ≡ true → Reads made event (join_with_byte 32 (word ∷ first ∷ second ∷ third ∷ []))
three_read made event word first second third verb is no_remark one two three reads room =
    words_read made event word (first ∷ second ∷ third ∷ [])
    (all_printable (first ∷ second ∷ third ∷ []) word is.printable
    (all_printable (second ∷ third ∷ []) first one.printable (all_printable (third ∷ []) second two.printable (all_printable [] third three.printable refl)))) no_remark
    (found_event made event (verbs.ThreeWord verb) word (first ∷ second ∷ third ∷ []) is.named
    (with_three-words (three_word_event made verb) first second third one.some two.some three.some ∙ reads) room)

-- a fixed word
fixed : (word : List ℕ) → 0 < length word → list_all is_word_byte word ≡ true → IsWord word
fixed word some printable = record { some = some; printable = printable }

a_verb : (word : List ℕ) (verb : Verb) → list_all is_word_byte word ≡ true → verb_of word ≡ Some verb → IsVerb word verb
a_verb word verb printable named = record { printable = printable; named = named }

agent_reads : (made : Made) (identifiers : List ℕ) → IsIdentifiers identifiers → has_room made (event.Agent identifiers) ≡ true → Reads made (event.Agent identifiers) (join_with_byte 32 (words_of (event.Agent identifiers)))
agent_reads made [] is room =
    one_reads made (event.Agent []) (codes "agent") (codes "-") one.Agent (a_verb (codes "agent") (verbs.OneWord one.Agent) refl refl) refl (fixed (codes "-") (omega arith) refl) refl room
agent_reads made (byte ∷ bytes) is room =
    one_reads made (event.Agent (byte ∷ bytes)) (codes "agent") (byte ∷ bytes) one.Agent (a_verb (codes "agent") (verbs.OneWord one.Agent) refl refl) refl
    (fixed (byte ∷ bytes) (omega arith) is.printable) (agent_found (byte ∷ bytes) is) room

line_reads : (made : Made) (event : WorldEvent) → IsWithin made → has_room made event ≡ true → CanBeNamed made event → Reads made event (join_with_byte 32 (words_of event))
line_reads made (event.Agent identifiers) bound room plain = agent_reads made identifiers plain room
line_reads made event.Client bound room plain =
    words_read made event.Client (codes "client") [] refl refl (within made event.Client room)
line_reads made (event.App client address) bound room plain =
    let small = client_small made client bound plain.0 in
    two_read made (event.App client address) (codes "app") (decimal client) address two.App (a_verb (codes "app") (verbs.TwoWord two.App) refl refl) refl
    (number_word client small) plain.1 (name_found (λ n. event.App n address) made.clients client plain.0 small) room
line_reads made (event.Connect address) bound room plain =
    one_reads made (event.Connect address) (codes "connect") address one.Connect (a_verb (codes "connect") (verbs.OneWord one.Connect) refl refl) refl plain refl room
line_reads made (event.Raw bytes) bound room plain =
    one_reads made (event.Raw bytes) (codes "raw") (hex_of bytes) one.Raw (a_verb (codes "raw") (verbs.OneWord one.Raw) refl refl) refl
    (hex_word bytes plain) (bytes_found (λ found. event.Raw found) bytes plain) room
line_reads made (event.Up dial) bound room plain =
    one_reads made (event.Up dial) (codes "up") (decimal dial) one.Up (a_verb (codes "up") (verbs.OneWord one.Up) refl refl) refl
    (number_word dial (dial_small dial plain)) (dial_found (λ n. event.Up n) dial plain) room
line_reads made (event.Refuse dial) bound room plain =
    one_reads made (event.Refuse dial) (codes "refuse") (decimal dial) one.Refuse (a_verb (codes "refuse") (verbs.OneWord one.Refuse) refl refl) refl
    (number_word dial (dial_small dial plain)) (dial_found (λ n. event.Refuse n) dial plain) room
line_reads made (event.Send app bytes) bound room plain =
    let small = app_small made app bound plain.0 in
    two_read made (event.Send app bytes) (codes "send") (decimal app) (hex_of bytes) two.Send (a_verb (codes "send") (verbs.TwoWord two.Send) refl refl) refl
    (number_word app small) (hex_word bytes plain.1) (send_found made app bytes plain.0 small plain.1) room
line_reads made (event.Answer dial bytes) bound room plain =
    two_read made (event.Answer dial bytes) (codes "answer") (decimal dial) (hex_of bytes) two.Answer (a_verb (codes "answer") (verbs.TwoWord two.Answer) refl refl) refl
    (number_word dial (dial_small dial plain.0)) (hex_word bytes plain.1) (answer_found dial bytes plain.0 plain.1) room
line_reads made (event.End app) bound room plain =
    let small = app_small made app bound plain in
    one_reads made (event.End app) (codes "end") (decimal app) one.End (a_verb (codes "end") (verbs.OneWord one.End) refl refl) refl
    (number_word app small) (name_found (λ n. event.End n) made.apps app plain small) room
line_reads made (event.Hang dial) bound room plain =
    one_reads made (event.Hang dial) (codes "hang") (decimal dial) one.Hang (a_verb (codes "hang") (verbs.OneWord one.Hang) refl refl) refl
    (number_word dial (dial_small dial plain)) (dial_found (λ n. event.Hang n) dial plain) room
line_reads made (event.Fail dial) bound room plain =
    one_reads made (event.Fail dial) (codes "fail") (decimal dial) one.Fail (a_verb (codes "fail") (verbs.OneWord one.Fail) refl refl) refl
    (number_word dial (dial_small dial plain)) (dial_found (λ n. event.Fail n) dial plain) room
line_reads made (event.Drain agent) bound room plain =
    let small = agent_small made agent bound plain in
    one_reads made (event.Drain agent) (codes "drain") (decimal agent) one.Drain (a_verb (codes "drain") (verbs.OneWord one.Drain) refl refl) refl
    (number_word agent small) (name_found (λ n. event.Drain n) made.agents agent plain small) room
line_reads made (event.HoldDest dial) bound room plain =
    two_read made (event.HoldDest dial) (codes "hold") (codes "dest") (decimal dial) two.Hold (a_verb (codes "hold") (verbs.TwoWord two.Hold) refl refl) refl
    (fixed (codes "dest") (omega arith) refl) (number_word dial (dial_small dial plain)) (dial_found (λ n. event.HoldDest n) dial plain) room
line_reads made (event.HoldApp app) bound room plain =
    let small = app_small made app bound plain in
    two_read made (event.HoldApp app) (codes "hold") (codes "app") (decimal app) two.Hold (a_verb (codes "hold") (verbs.TwoWord two.Hold) refl refl) refl
    (fixed (codes "app") (omega arith) refl) (number_word app small) (name_found (λ n. event.HoldApp n) made.apps app plain small) room
line_reads made (event.TakeDest dial count) bound room plain =
    three_read made (event.TakeDest dial count) (codes "take") (codes "dest") (decimal dial) (decimal count) three.Take (a_verb (codes "take") (verbs.ThreeWord three.Take) refl refl) refl
    (fixed (codes "dest") (omega arith) refl) (number_word dial (dial_small dial plain.0)) (number_word count (count_small count plain.1)) (take_dest_found dial count plain.0 plain.1) room
line_reads made (event.TakeApp app count) bound room plain =
    let small = app_small made app bound plain.0 in
    three_read made (event.TakeApp app count) (codes "take") (codes "app") (decimal app) (decimal count) three.Take (a_verb (codes "take") (verbs.ThreeWord three.Take) refl refl) refl
    (fixed (codes "app") (omega arith) refl) (number_word app small) (number_word count (count_small count plain.1)) (take_app_found made app count plain.0 small plain.1) room
line_reads made (event.GoDest dial) bound room plain =
    two_read made (event.GoDest dial) (codes "go") (codes "dest") (decimal dial) two.Go (a_verb (codes "go") (verbs.TwoWord two.Go) refl refl) refl
    (fixed (codes "dest") (omega arith) refl) (number_word dial (dial_small dial plain)) (dial_found (λ n. event.GoDest n) dial plain) room
line_reads made (event.GoApp app) bound room plain =
    let small = app_small made app bound plain in
    two_read made (event.GoApp app) (codes "go") (codes "app") (decimal app) two.Go (a_verb (codes "go") (verbs.TwoWord two.Go) refl refl) refl
    (fixed (codes "app") (omega arith) refl) (number_word app small) (name_found (λ n. event.GoApp n) made.apps app plain small) room
line_reads made (event.LoseServer agent) bound room plain =
    let small = agent_small made agent bound plain in
    two_read made (event.LoseServer agent) (codes "lose") (codes "server") (decimal agent) two.Lose (a_verb (codes "lose") (verbs.TwoWord two.Lose) refl refl) refl
    (fixed (codes "server") (omega arith) refl) (number_word agent small) (name_found (λ n. event.LoseServer n) made.agents agent plain small) room
line_reads made (event.LoseAgent agent) bound room plain =
    let small = agent_small made agent bound plain in
    two_read made (event.LoseAgent agent) (codes "lose") (codes "agent") (decimal agent) two.Lose (a_verb (codes "lose") (verbs.TwoWord two.Lose) refl refl) refl
    (fixed (codes "agent") (omega arith) refl) (number_word agent small) (name_found (λ n. event.LoseAgent n) made.agents agent plain small) room
line_reads made (event.LoseFront client) bound room plain =
    let small = client_small made client bound plain in
    two_read made (event.LoseFront client) (codes "lose") (codes "front") (decimal client) two.Lose (a_verb (codes "lose") (verbs.TwoWord two.Lose) refl refl) refl
    (fixed (codes "front") (omega arith) refl) (number_word client small) (name_found (λ n. event.LoseFront n) made.clients client plain small) room
line_reads made (event.LoseClient client) bound room plain =
    let small = client_small made client bound plain in
    two_read made (event.LoseClient client) (codes "lose") (codes "client") (decimal client) two.Lose (a_verb (codes "lose") (verbs.TwoWord two.Lose) refl refl) refl
    (fixed (codes "client") (omega arith) refl) (number_word client small) (name_found (λ n. event.LoseClient n) made.clients client plain small) room
line_reads made (event.Step (pipe.AgentUp agent)) bound room plain =
    let small = agent_small made agent bound plain in
    three_read made (event.Step (pipe.AgentUp agent)) (codes "step") (codes "agent") (decimal agent) (codes "up") three.Step (a_verb (codes "step") (verbs.ThreeWord three.Step) refl refl) refl
    (fixed (codes "agent") (omega arith) refl) (number_word agent small) (fixed (codes "up") (omega arith) refl) (step_agent_found made (codes "up") direction.Up agent refl plain small) room
line_reads made (event.Step (pipe.AgentDown agent)) bound room plain =
    let small = agent_small made agent bound plain in
    three_read made (event.Step (pipe.AgentDown agent)) (codes "step") (codes "agent") (decimal agent) (codes "down") three.Step (a_verb (codes "step") (verbs.ThreeWord three.Step) refl refl) refl
    (fixed (codes "agent") (omega arith) refl) (number_word agent small) (fixed (codes "down") (omega arith) refl) (step_agent_found made (codes "down") direction.Down agent refl plain small) room
line_reads made (event.Step (pipe.ClientUp client)) bound room plain =
    let small = client_small made client bound plain in
    three_read made (event.Step (pipe.ClientUp client)) (codes "step") (codes "client") (decimal client) (codes "up") three.Step (a_verb (codes "step") (verbs.ThreeWord three.Step) refl refl) refl
    (fixed (codes "client") (omega arith) refl) (number_word client small) (fixed (codes "up") (omega arith) refl) (step_client_found made (codes "up") direction.Up client refl plain small) room
line_reads made (event.Step (pipe.ClientDown client)) bound room plain =
    let small = client_small made client bound plain in
    three_read made (event.Step (pipe.ClientDown client)) (codes "step") (codes "client") (decimal client) (codes "down") three.Step (a_verb (codes "step") (verbs.ThreeWord three.Step) refl refl) refl
    (fixed (codes "client") (omega arith) refl) (number_word client small) (fixed (codes "down") (omega arith) refl) (step_client_found made (codes "down") direction.Down client refl plain small) room
line_reads made (event.Pass rounds) bound room plain =
    let small = rounds_small rounds plain in
    let word = number_word rounds small in
    words_read made (event.Pass rounds) (codes "pass") (decimal rounds ∷ []) (all_printable (decimal rounds ∷ []) (codes "pass") refl (all_printable [] (decimal rounds) word.printable refl)) refl
    (ap (if_ok (within_limits made)) (with_one-word pass_of (decimal rounds) word.some ∙ ap (if_ok (λ count. Ok (event.Pass count))) (limited-decimal 1 MAX_ROUNDS rounds plain small))
    ∙ within made (event.Pass rounds) room)

-- ---- all lines

within_thing : (made : Made) (thing : Thing) → IsWithin made → has_room_for made thing ≡ true → IsWithin (with_thing thing made)
within_thing made thing.Agent bound room = record { agents = grind (arith, nat_tests); clients = bound.clients; apps = bound.apps }
within_thing made thing.Client bound room = record { agents = bound.agents; clients = grind (arith, nat_tests); apps = bound.apps }
within_thing made thing.App bound room = record { agents = bound.agents; clients = bound.clients; apps = grind (arith, nat_tests) }
within_thing made thing.Nothing bound room = bound

within_next : (made : Made) (event : WorldEvent) → IsWithin made → has_room made event ≡ true → IsWithin (made_by event made)
within_next made event bound room = within_thing made (thing_of event) bound room

spelled_first : (event : WorldEvent) (events : List WorldEvent) → list_all is_script_byte (join_with_byte 32 (words_of event)) ≡ true → lines_of (spelled (event ∷ events)) ≡ join_with_byte 32 (words_of event) ∷ lines_of (spelled events)
spelled_first event events script =
    ap lines_of (append_assoc (join_with_byte 32 (words_of event)) (10 ∷ []) (spelled events))
    ∙ line_first (join_with_byte 32 (words_of event)) (spelled events) script

pub events_read : (events : List WorldEvent) (number : ℕ) (made : Made) → IsWithin made → CanBeSpelled made events → events_of number made (lines_of (spelled events)) ≡ Ok events
events_read [] number made bound named = refl
events_read (event ∷ events) number made bound named =
    let reads = line_reads made event bound named.0 named.1 in
    ap (events_of number made) (spelled_first event events reads.script)
    ∙ ap (with_rest number made (λ later. events_of (number + 1) later (lines_of (spelled events)))) reads.means
    ∙ ap (after_events (event ∷ [])) (events_read events (number + 1) (made_by event made) (within_next made event bound named.0) named.2)

pub spelled_is_read : (events : List WorldEvent) → CanBeSpelled none_made events → script_of (spelled events) ≡ Ok events
spelled_is_read events named = events_read events 1 none_made (record { agents = omega arith; clients = omega arith; apps = omega arith }) named
