-- A half stays open through frames that do not end it.
use Rattle.std.proofs.Common.{◌≡◌, ◌+◌, ◌+ℤ◌, pos, ◌&&◌, ◌||◌, ℕ, Bool, true, false, not, eqb, nat_le, length, List, [], ◌∷◌, ◌++◌, Option, Some, None, is_some, Result, Ok, Err, refl, sym, ap, ◌∙◌, subst, arith, if◌then◌else◌}
use Rattle.std.specs.Prelude.{◌==◌, is_none}
use Rattle.std.specs.List.{AllByRecursion}
use Rattle.std.proofs.lemmas.Bool.{eqb-true, eqb-false}
use Rattle.kn_frames.specs.declared.frame.Frame.{Frame}
use Rattle.kn_frames.specs.Frames.{IsWithinLimits}
use Rattle.kn_hpack.specs.Fields.{Field}
use Rattle.kn_hpack.specs.Blocks.{Progress, read_block}
use Rattle.kn_hpack.specs.declared.fault.HpackFault.{HpackFault}
use Rattle.kn_h2_state.specs.declared.event.H2Event.TheVariants.{Head, Text}
use Rattle.kn_h2_state.specs.declared.state.Block.{Block}
use Rattle.kn_h2_state.specs.declared.stream.Stream.{Stream}
use Rattle.kn_h2_state.specs.declared.state.State.{State}
use Rattle.kn_h2_state.specs.Payloads.{has, content, increment_of}
use Rattle.kn_h2_state.specs.Streams.{stream_at, change, is_open, is_kept, on_open, passes}
use Rattle.kn_h2_state.specs.Heads.{is_malformed_response, is_informational}
use Rattle.kn_h2_state.specs.Rules.{is_client, continues, block_with, ends_block, is_second_head, block_rules}
use Rattle.kn_h2_state.specs.Effects.{event, on_stream, if_open, with_text, text_told, ended_if, data_taken, data_in, data_dropped, data_of, response, headed, head_of, decoded, block_ends, block_grown, block_of_headers, reset_of, settings, ping, goaway, with_grant, window_update, effect}
use Rattle.kn_h2_state.specs.Feeding.{judged, after_frame, after_frames}
use Rattle.kn_h2_state.specs.Holding.{Holds}
use Rattle.kn_h2_state.specs.Hearing.{StaysOpen}
use Rattle.kn_h2_state.specs.Laws.{Seen, seen}
use Rattle.kn_h2_state.specs.Wire.{is_end, ends_in}
use Rattle.kn_h2_state.proofs.BorneLemmas.{Rises, rises, climbing, rises_change, at_change, at_tidied, grant_number}
use Rattle.kn_h2_state.proofs.OtherLaws.{either, alike_all_settings, same_ping, frames_leave_others}
use Rattle.kn_h2_state.proofs.PieceLaws.{after_frame-judged}
use Rattle.kn_h2_state.proofs.PreorderLaws.{silent}
use Rattle.kn_h2_state.proofs.VerdictFacts.{none_holds}
use Rattle.kn_h2.proofs.RuleLemmas.{passes_rules}
use Rattle.kn_facing.specs.Facing.{emptied, IsTaken, Fits, AreTaken, asks, asking}
use Rattle.kn_facing.specs.Wires.{HalvesStayOpen, FacesKeepHalves, UnendedStaysOpen}
use Rattle.kn_facing.proofs.CarryLemmas.{hears_left}
use Rattle.kn_facing.proofs.FaceLemmas.{Known, turned, way_taken}
use Rattle.kn_facing.proofs.ListSums.{asking-append}
use Rattle.kn_facing.proofs.StepLemmas.{back_before}
use Rattle.kn_facing.proofs.UnendedLemmas.{front_end}
use Rattle.kn_facing.proofs.RoomLemmas.{Replied, most, few_replies, Keeps}

-- the stream is there, and its peer's half open
abbrev pub HasHalf : Option Stream → Type 0
HasHalf None = ⊥
HasHalf (Some st) = st.peer_open ≡ true

pub half_of : (o : Option Stream) → passes (λ st. st.peer_open) o ≡ true → HasHalf o
half_of None e = absurd cc
half_of (Some st) e = by_half st.peer_open st.own_open e
  where
    by_half : (b c : Bool) → ((b || c) && b) ≡ true → b ≡ true
    by_half true c e = refl
    by_half false true e = e
    by_half false false e = e

pub half_is : (o : Option Stream) → HasHalf o → passes (λ st. st.peer_open) o ≡ true
half_is None h = absurd h
half_is (Some st) h = ap (λ (b : Bool). (b || st.own_open) && b) h

-- ---- what leaves it open

kept_half : (st : Stream) → is_kept st ≡ false → HasHalf (Some st) → HasHalf None
kept_half st k h = absurd (contrary (sym (ap (λ (b : Bool). (b || st.own_open) || not (length st.text == 0)) h) ∙ k))
  where
    contrary : true ≡ false → ⊥
    contrary e = cc

on_half : (s : State) (m n : ℕ) (f : Stream → Stream) → ((st : Stream) → (f st).number ≡ st.number) → ((st : Stream) → (f st).peer_open ≡ st.peer_open) → Rises 0 s.opened s.streams → HasHalf (stream_at s.streams n) → HasHalf (stream_at (on_stream m f s).streams n)
on_half s m n f number half holds h =
    at_tidied HasHalf 0 n (change s.streams m f) kept_half (climbing 0 s.opened (change s.streams m f) (rises_change 0 s.opened s.streams m f number holds))
    (at_change HasHalf s.streams m n f number (λ st q. half st ∙ q) h)

grant_half : (by : ℕ) (st : Stream) → (with_grant by st).peer_open ≡ st.peer_open
grant_half by st = by_open (is_open st)
  where
    by_open : (b : Bool) → (if b then record st { send = st.send +ℤ pos by } else st).peer_open ≡ st.peer_open
    by_open true = refl
    by_open false = refl

peer_of : Option Seen → Bool
peer_of None = false
peer_of (Some s) = s.peer_open

seen_half : (o p : Option Stream) → seen o ≡ seen p → HasHalf p → HasHalf o
unfolding peer_of
seen_half None (Some st) e h = let gone : peer_of (seen None) ≡ peer_of (seen (Some st)) = ap peer_of e in absurd (contrary (gone ∙ h))
  where
    contrary : false ≡ true → ⊥
    contrary e = cc
seen_half None None e h = h
seen_half (Some y) None e h = absurd h
seen_half (Some y) (Some st) e h = ap peer_of e ∙ h

ended_half : (s : State) (ends : Bool) (m : ℕ) → ends ≡ false → ended_if ends m s ≡ s
ended_half s ends m e = ap (λ (b : Bool). ended_if b m s) e

data_half : (f : Frame) (s : State) (n : ℕ) (o : Option Stream) → has f 1 ≡ false → HasHalf (stream_at s.streams n) → HasHalf (stream_at (data_of f s o).streams n)
unfolding data_in data_taken data_dropped
data_half f s n None none h = h
data_half f s n (Some st) none h =
    either P (is_open st) (data_in f s) (data_dropped f s)
    (subst P (sym (ended_half (text_told f.stream (content f) (data_taken f s)) (has f 1) f.stream none))
    (either P (length (content f) == 0) (data_taken f s) (event (data_taken f s) (Text f.stream)) one one))
    h
  where
    P : State → Type 0
    P t = HasHalf (stream_at t.streams n)

    one : HasHalf (stream_at (change s.streams f.stream (with_text (length f.payload) (content f))) n)
    one = at_change HasHalf s.streams f.stream n (with_text (length f.payload) (content f)) (λ x. refl) (λ x q. q) h

-- a head that does not end the stream, where it is not a second one
headed_is : (s : State) (n : ℕ) (fields : List Field) (st : Stream) → is_client s.role ≡ true → stream_at s.streams n ≡ Some st → is_open st ≡ true → st.answered ≡ false → is_informational fields ≡ false → is_malformed_response fields ≡ false
    → head_of n false fields s ≡ event (on_stream n (λ x. record x { answered = true }) s) (Head n fields)
unfolding head_of response headed
headed_is s n fields st client at up unanswered last formed = rw (client, at, up, unanswered, last, formed) refl

head_half : (s : State) (n : ℕ) (fields : List Field) → Rises 0 s.opened s.streams → HasHalf (stream_at s.streams n) → on_open s.streams n (λ st. not (is_client s.role) || st.answered) ≡ false → Fits s n fields → HasHalf (stream_at (head_of n false fields s).streams n)
head_half s n fields holds h first fits = by_found (stream_at s.streams n) refl h
  where
    P : State → Type 0
    P t = HasHalf (stream_at t.streams n)

    opened : (st : Stream) → st.peer_open ≡ true → is_open st ≡ true
    opened st e = ap (λ (b : Bool). b || st.own_open) e

    contrary : true ≡ false → ⊥
    contrary e = cc

    by_found : (o : Option Stream) → stream_at s.streams n ≡ o → HasHalf o → HasHalf (stream_at (head_of n false fields s).streams n)
    by_found None at q = absurd q
    by_found (Some st) at q = by_role (is_client s.role) refl
      where
        up : is_open st ≡ true
        up = opened st q

        test : (not (is_client s.role) || st.answered) ≡ false
        test = sym (ap (λ (b : Bool). b && (not (is_client s.role) || st.answered)) up) ∙ (sym (ap (λ (o : Option Stream). passes (λ st. not (is_client s.role) || st.answered) o) at) ∙ first)

        by_role : (c : Bool) → is_client s.role ≡ c → HasHalf (stream_at (head_of n false fields s).streams n)
        by_role false server = absurd (contrary (sym (ap (λ (b : Bool). not b || st.answered) server) ∙ test))
        by_role true client =
            let unanswered : st.answered ≡ false = sym (ap (λ (b : Bool). not b || st.answered) client) ∙ test in
            let waiting : on_open s.streams n (λ st. not st.answered) ≡ true = ap (λ (o : Option Stream). passes (λ st. not st.answered) o) at ∙ (ap (λ (c : Bool). c && not st.answered) up ∙ ap not unanswered) in
            let r = fits.response client waiting in
            subst P (sym (headed_is s n fields st client at up unanswered r.last r.formed))
            (on_half s n n (λ x. record x { answered = true }) (λ x. refl) (λ x. refl) holds h)

-- ---- a frame

pub two_right : (a b c : Bool) → ((a && b) || c) ≡ false → a ≡ true → b ≡ false
two_right true false c e g = refl
two_right true true c e g = absurd cc
two_right false b c e g = absurd cc

two_last : (a b c : Bool) → ((a && b) || c) ≡ false → c ≡ false
two_last true true c e = absurd cc
two_last true false c e = e
two_last false b c e = e

second_part : (a b c : Bool) → (a && not b && c) ≡ false → a ≡ true → b ≡ false → c ≡ false
second_part true false c e g h = e
second_part true true c e g h = absurd cc
second_part false b c e g h = absurd cc

pub no_block : (o : Option Block) (f : Frame) → ((is_some o && not (continues o f)) || (is_none o && (f.kind == 9))) ≡ false → (f.kind == 9) ≡ false → o ≡ None
no_block None f e g = refl
no_block (Some b) f e g = absurd (contrary (sym (ap (λ (c : Bool). not (c && (f.stream == b.stream)) || false) g) ∙ e))
  where
    contrary : true ≡ false → ⊥
    contrary e = cc

pub first_kind : (a b : Bool) → (a || b) ≡ true → b ≡ false → a ≡ true
first_kind true b e g = refl
first_kind false b e g = absurd (contrary b e g)
  where
    contrary : (b : Bool) → b ≡ true → b ≡ false → ⊥
    contrary b e g = cc

pub chosen : (P : State → Type 0) (b : Bool) (x y : State) → (b ≡ true → P x) → (b ≡ false → P y) → P (if b then x else y)
chosen P true x y p q = p refl
chosen P false x y p q = q refl

decoded_half : (s : State) (n : ℕ) (ends : Bool) (r : Result Progress HpackFault) → ends ≡ false → Rises 0 s.opened s.streams → HasHalf (stream_at s.streams n) → on_open s.streams n (λ st. not (is_client s.role) || st.answered) ≡ false
    → ((p : Progress) → r ≡ Ok p → Fits s n p.fields) → HasHalf (stream_at (decoded n ends s r).streams n)
decoded_half s n ends (Err e) none r h first fits = h
decoded_half s n ends (Ok p) none r h first fits =
    let g = fits p refl in
    subst (λ (b : Bool). HasHalf (stream_at (head_of n b p.fields (record s { block = None; decoder = p.table })).streams n)) (sym none)
    (head_half (record s { block = None; decoder = p.table }) n p.fields r h first (record { request = g.request; response = g.response }))

effect_half : (s : State) (f : Frame) → Holds s → IsTaken s f → ((nat_le f.kind 1 && has f 1) || (f.kind == 3)) ≡ false → HasHalf (stream_at s.streams f.stream) → HasHalf (stream_at (effect (record s { began = true }) f).streams f.stream)
unfolding effect block_of_headers block_grown goaway window_update block_rules
effect_half s f holds taken goes_on h =
    chosen P (f.kind == 0) (data_of f v (stream_at v.streams f.stream)) _
    (λ e. data_half f v f.stream (stream_at v.streams f.stream) (two_right (nat_le f.kind 1) (has f 1) (f.kind == 3) goes_on (ap (λ (k : ℕ). nat_le k 1) (eqb-true f.kind 0 e))) h)
    (λ _. chosen P ((f.kind == 1) || (f.kind == 9)) (block_of_headers f v) _ (λ e. by_block (first_kind (f.kind == 1) (f.kind == 9) e taken.plain.whole))
    (λ _. chosen P (f.kind == 3) (if_open (stream_at v.streams f.stream) v (λ st. reset_of f st v)) _ (λ e. absurd (contrary e (two_last (nat_le f.kind 1) (has f 1) (f.kind == 3) goes_on)))
    (λ _. either P (f.kind == 4) (settings f v) _ (seen_half (stream_at (settings f v).streams f.stream) (stream_at v.streams f.stream) (alike_all_settings f f.stream v) h)
    (either P (f.kind == 6) (ping f v) _ (subst HasHalf (sym (same_ping f f.stream v)) h)
    (either P (f.kind == 7) (goaway f v) _ h
    (either P (f.kind == 8) (window_update f v) v
    (either P (f.stream == 0) (record v { send = v.send +ℤ pos (increment_of f.payload) }) (record v { streams = change v.streams f.stream (with_grant (increment_of f.payload)) }) h
    (at_change HasHalf v.streams f.stream f.stream (with_grant (increment_of f.payload)) (grant_number (increment_of f.payload)) (λ st q. grant_half (increment_of f.payload) st ∙ q) h))
    h))))))
  where
    v : State
    v = record s { began = true }

    P : State → Type 0
    P t = HasHalf (stream_at t.streams f.stream)

    contrary : (f.kind == 3) ≡ true → (f.kind == 3) ≡ false → ⊥
    contrary a b = cc

    by_block : (f.kind == 1) ≡ true → P (block_of_headers f v)
    by_block one =
        let flag : has f 1 ≡ false = two_right (nat_le f.kind 1) (has f 1) (f.kind == 3) goes_on (ap (λ (k : ℕ). nat_le k 1) (eqb-true f.kind 1 one)) in
        let none : s.block ≡ None = no_block s.block f (passes_rules s f taken.kept).block taken.plain.whole in
        let second : is_second_head s f ≡ false = (none_holds (block_rules s f) (silent s f taken.kept).blocks).1.1.1.0 in
        either P (ends_block f) (decoded f.stream (block_ends v.block f) v (read_block v.decoder (block_with v f))) (block_grown f v)
        (decoded_half v f.stream (block_ends v.block f) (read_block v.decoder (block_with v f)) (ap (λ (o : Option Block). block_ends o f) none ∙ flag) (rises 0 s.opened s.streams holds.rising) h
        (second_part (f.kind == 1) (has f 1) (on_open s.streams f.stream (λ st. not (is_client s.role) || st.answered)) second one flag)
        (λ p r. let g = taken.head one p r in record { request = g.request; response = g.response }))
        h

pub frame_half : (s : State) (f : Frame) (n : ℕ) → Holds s → s.failed ≡ None → IsTaken s f → is_end n f ≡ false → HasHalf (stream_at s.streams n) → HasHalf (stream_at (after_frame s f).streams n)
unfolding is_end
frame_half s f n holds on taken goes_on h = by_test (eqb f.stream n) refl
  where
    to : after_frame s f ≡ effect (record s { began = true }) f
    to = after_frame-judged s f on ∙ ap (λ o. judged s f o) taken.kept

    by_test : (b : Bool) → eqb f.stream n ≡ b → HasHalf (stream_at (after_frame s f).streams n)
    by_test false e = seen_half (stream_at (after_frame s f).streams n) (stream_at s.streams n) (frames_leave_others s f n holds (eqb-false f.stream n e)) h
    by_test true e =
        let same : f.stream ≡ n = eqb-true f.stream n e in
        let rest : ((nat_le f.kind 1 && has f 1) || (f.kind == 3)) ≡ false = sym (ap (λ (b : Bool). b && ((nat_le f.kind 1 && has f 1) || (f.kind == 3))) e) ∙ goes_on in
        subst (λ (k : ℕ). HasHalf (stream_at (after_frame s f).streams k)) same
        (subst (λ (t : State). HasHalf (stream_at t.streams f.stream)) (sym to) (effect_half s f holds taken rest (subst (λ (k : ℕ). HasHalf (stream_at s.streams k)) (sym same) h)))

-- ---- all of them

pub none_ends : (b : Bool) (rest : ℕ) → (if b then 1 else 0) + rest ≡ 0 → b ≡ false
none_ends true rest e = absurd (omega (arith, e))
none_ends false rest e = refl

rest_ends : (b : Bool) (rest : ℕ) → (if b then 1 else 0) + rest ≡ 0 → rest ≡ 0
rest_ends true rest e = absurd (omega (arith, e))
rest_ends false rest e = omega (arith, e)

pub no_reset : (a b c : Bool) → (a && (b || c)) ≡ false → (c && a) ≡ false
no_reset true true c e = absurd cc
no_reset true false true e = absurd cc
no_reset true false false e = refl
no_reset false b true e = refl
no_reset false b false e = refl

pub halves_stay_open : Keeps → HalvesStayOpen
unfolding StaysOpen ends_in is_end after_frames AreTaken asking
halves_stay_open keep n s [] holds on limits taken room half none = tt
halves_stay_open keep n s (f ∷ fs) holds on limits taken room half none =
    let first : Replied (most (asks f)) s (after_frame s f) = few_replies s f on taken.0.kept (omega (arith, room)) in
    let few = first.few in
    let goes_on : is_end n f ≡ false = none_ends (is_end n f) (ends_in n fs) none in
    let next = frame_half s f n holds on taken.0 goes_on (half_of (stream_at s.streams n) half) in (
      half,
      no_reset (f.stream == n) (nat_le f.kind 1 && has f 1) (f.kind == 3) goes_on,
      halves_stay_open keep n (after_frame s f) fs (keep s f holds limits.0) first.goes limits.1 taken.1 (omega (arith, room, few)) (half_is (stream_at (after_frame s f).streams n) next) (rest_ends (is_end n f) (ends_in n fs) none),
    )

-- ---- two ends that face each other

taken_front : (s : State) (fs gs : List Frame) → AreTaken s (fs ++ gs) → AreTaken s fs
unfolding AreTaken
taken_front s [] gs h = tt
taken_front s (f ∷ fs) gs h = (h.0, taken_front (after_frame s f) fs gs h.1)

front_limits : (fs gs : List Frame) → AllByRecursion IsWithinLimits (fs ++ gs) → AllByRecursion IsWithinLimits fs
front_limits [] gs h = tt
front_limits (f ∷ fs) gs h = (h.0, front_limits fs gs h.1)

pub faces_keep_halves : Known → FacesKeepHalves
faces_keep_halves k a b fs ab ba n h half none =
    let other = turned a b (fs ++ ab) ba h in
    let e = h.end_b in
    let hears = hears_left b b (k.steps b e.holds e.facts.known).none in
    let all = h.to_b.replies in
    let too = way_taken k a (emptied b) b (fs ++ ab) h.end_a.one (back_before b a ba (fs ++ ab) other) e.holds e.goes hears (omega (arith, all)) in
    let parts = asking-append fs ab in
    halves_stay_open k.keep n b fs e.holds e.goes (front_limits fs ab h.to_b.limits) (taken_front b fs ab too.taken) (omega (arith, all, parts)) half none

pub unended_stays_open : Known → UnendedStaysOpen
unended_stays_open k a b fs ab ba n h half goes_on = faces_keep_halves k a b fs ab ba n h half (front_end n fs ab (h.to_b.ends n goes_on))
