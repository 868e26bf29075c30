-- A line at the front of those that are left.
use Rattle.std.proofs.Common.{◌≡◌, ℕ, ◌+◌, List, [], ◌∷◌, ◌++◌, Option, Some, None, Ok, Err, refl, sym, ap, ◌∙◌, append_assoc}
use Rattle.std.specs.Option.{option_to_list}
use Rattle.kn_world.specs.declared.event.WorldEvent.{WorldEvent}
use Rattle.kn_script.specs.declared.fault.ScriptReason.{ScriptReason}
use Rattle.kn_script.specs.declared.made.Made.{Made}
use Rattle.kn_script.specs.Script.{Events, line_event, after_events, events_of, made_by, with_rest}
use Rattle.kn_script.specs.Answers.{made_with}

append-nil : {A : Type 0} (xs : List A) → xs ++ [] ≡ xs
append-nil [] = refl
append-nil (x ∷ xs) = ap (λ ys. x ∷ ys) (append-nil xs)

-- no event is left
pub after_events-done : (events : List WorldEvent) → after_events events (Ok []) ≡ Ok events
after_events-done events = ap (λ xs. Ok xs) (append-nil events)

one_more : (events : List WorldEvent) (event : WorldEvent) (rest : Events) → after_events events (after_events (event ∷ []) rest) ≡ after_events (events ++ event ∷ []) rest
one_more events event (Ok more) = ap (λ xs. Ok xs) (sym (append_assoc events (event ∷ []) more))
one_more events event (Err fault) = refl

none_more : (events : List WorldEvent) (rest : Events) → after_events events rest ≡ after_events (events ++ []) rest
none_more events rest = ap (λ xs. after_events xs rest) (sym (append-nil events))

after_found : (events : List WorldEvent) (number : ℕ) (made : Made) (rest : Made → Events) (found : Option WorldEvent) → after_events events (with_rest number made rest (Ok found)) ≡ after_events (events ++ option_to_list found) (rest (made_with found made))
after_found events number made rest None = none_more events (rest made)
after_found events number made rest (Some event) = one_more events event (rest (made_by event made))

-- the first line's event joins those before it
pub line_found : (events : List WorldEvent) (number : ℕ) (made : Made) (line : List ℕ) (lines : List (List ℕ)) (found : Option WorldEvent) → line_event made line ≡ Ok found → after_events events (events_of number made (line ∷ lines)) ≡ after_events (events ++ option_to_list found) (events_of (number + 1) (made_with found made) lines)
line_found events number made line lines found is =
    ap (λ result. after_events events (with_rest number made (λ later. events_of (number + 1) later lines) result)) is
    ∙ after_found events number made (λ later. events_of (number + 1) later lines) found

-- the first line's fault is that of all
pub line_fault : (events : List WorldEvent) (number : ℕ) (made : Made) (line : List ℕ) (lines : List (List ℕ)) (why : ScriptReason) → line_event made line ≡ Err why → after_events events (events_of number made (line ∷ lines)) ≡ Err (record { line = number; reason = why })
line_fault events number made line lines why is =
    ap (λ result. after_events events (with_rest number made (λ later. events_of (number + 1) later lines) result)) is

-- one line more is read
pub line_more : (all : Events) (events later : List WorldEvent) (number : ℕ) (made then : Made) (line : List ℕ) (lines left : List (List ℕ)) (found : Option WorldEvent) → all ≡ after_events events (events_of number made left) → left ≡ line ∷ lines → line_event made line ≡ Ok found → later ≡ events ++ option_to_list found → then ≡ made_with found made → all ≡ after_events later (events_of (number + 1) then lines)
line_more all events later number made then line lines left found before cut is grown counted =
    rw (grown, counted) (before ∙ ap (λ ls. after_events events (events_of number made ls)) cut ∙ line_found events number made line lines found is)
