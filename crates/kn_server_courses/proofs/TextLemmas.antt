-- Over a piece of the peer's bytes the text of a stream stays, or is gone, or that there is text is told: where the numbers of the
-- streams rise, whatever else holds of the connection.
use Rattle.std.proofs.Common.{◌≡◌, ◌≢◌, ◌⊎◌, inl, inr, ℕ, Bool, true, false, not, ◌&&◌, ◌||◌, List, [], ◌∷◌, ◌++◌, Option, Some, None, is_some, refl, sym, ap, ◌∙◌, append-nil, append_assoc, if◌then◌else◌}
use Rattle.std.specs.Prelude.{◌==◌}
use Rattle.std.proofs.lemmas.Bool.{eqb-true, and_parts}
use Rattle.kn_frames.specs.declared.frame.Frame.{Frame}
use Rattle.kn_frames.specs.declared.fault.FrameFault.{FrameFault}
use Rattle.kn_frames.specs.Readers.{after_bytes, frames_in, fault_in}
use Rattle.kn_h2_state.specs.declared.event.H2Event.TheVariants.{Text, Closed}
use Rattle.kn_h2_state.specs.declared.stream.Stream.{Stream}
use Rattle.kn_h2_state.specs.declared.state.State.{State}
use Rattle.kn_h2_state.specs.Streams.{stream_at, change, shut}
use Rattle.kn_h2_state.specs.Payloads.{number_at}
use Rattle.kn_h2_state.specs.Rules.{is_client, verdict}
use Rattle.kn_h2_state.specs.Effects.{fail, on_stream, if_open, cut_off, reset_of, effect}
use Rattle.kn_h2_state.specs.Feeding.{Connection, without_blocks, judged, frame_code, after_frame, after_frames, after_fault, after_piece}
use Rattle.kn_h2_state.specs.Calls.{text_in, text_of}
use Rattle.kn_h2_state.specs.Laws.{brought}
use Rattle.kn_h2_state.specs.Brought.{StaysOrGoes, TellsText, BringsText}
use Rattle.kn_h2_state.proofs.PieceLaws.{after_frame-failed, after_frame-judged}
use Rattle.kn_h2_state.proofs.SeenLemmas.{KeepsNumber}
use Rattle.kn_h2_state.proofs.OtherLaws.{either, open_or}
use Rattle.kn_h2_state.proofs.BorneLemmas.{Rises, climbing, rises_change, at_change, at_tidied, borne_frame, borne_start}
use Rattle.kn_h2_state.proofs.HearLaws.{bears_nothing, rises_on}
use Rattle.kn_h2_state.proofs.TextLaws.{text_goes_on}
use Rattle.kn_h2_state.proofs.TellLaws.{text_is_told}

-- ---- RST_STREAM

-- the text that was, or none
abbrev WasOrNone : List ℕ → Option Stream → Type 0
WasOrNone was o = (text_in o ≡ was) ⊎ (text_in o ≡ [])

text_on : (s : State) (m n : ℕ) (g : Stream → Stream) → Rises 0 s.opened s.streams → KeepsNumber g
    → ((st : Stream) → WasOrNone (text_of s n) (Some st) → WasOrNone (text_of s n) (Some (g st))) → WasOrNone (text_of s n) (stream_at (on_stream m g s).streams n)
text_on s m n g r keeps step =
    at_tidied (WasOrNone (text_of s n)) 0 n (change s.streams m g) (λ st e q. inr refl) (climbing 0 s.opened (change s.streams m g) (rises_change 0 s.opened s.streams m g keeps r))
    (at_change (WasOrNone (text_of s n)) s.streams m n g keeps step (inl refl))

text_reset : (f : Frame) (n : ℕ) (st : Stream) (s : State) → Rises 0 s.opened s.streams → StaysOrGoes n s (reset_of f st s)
unfolding reset_of cut_off
text_reset f n st s r =
    either (StaysOrGoes n s) (is_client s.role && (number_at f.payload 0 == 0) && not st.peer_open) (on_stream f.stream shut s) (cut_off f.stream (number_at f.payload 0) st s)
    (text_on s f.stream n shut r (λ x. refl) (λ x q. q)) (text_on s f.stream n (λ x. record (shut x) { text = [] }) r (λ x. refl) (λ x q. inr refl))

pick : (k : ℕ) → k ≡ 3 → (a b c d : State) → (if k == 0 then a else (if (k == 1) || (k == 9) then b else (if k == 3 then c else d))) ≡ c
pick k e a b c d = rw e refl

reset_effect : (s : State) (f : Frame) → (f.kind == 3) ≡ true → effect s f ≡ if_open (stream_at s.streams f.stream) s (λ st. reset_of f st s)
unfolding effect
reset_effect s f e = pick f.kind (eqb-true f.kind 3 e) _ _ _ _

-- ---- a frame

same_text : (n : ℕ) (s t : State) → t ≡ s → StaysOrGoes n s t
same_text n s t e = inl (ap (λ u. text_of u n) e)

brings_nothing : (n : ℕ) (s t : State) → t ≡ s → BringsText n s t
brings_nothing n s t e = record { told = []; events = ap (λ (u : State). u.events) e ∙ sym (append-nil s.events); text = inl (same_text n s t e) }

fails_so : (n code : ℕ) (s : State) → (fail code s).events ≡ s.events ++ Closed code ∷ []
unfolding fail
fails_so n code s = refl

text_of_failed : (n code : ℕ) (s : State) → text_of (fail code s) n ≡ text_of s n
unfolding fail
text_of_failed n code s = refl

brings_end : (n code : ℕ) (s t : State) → t ≡ fail code (without_blocks s) → BringsText n s t
brings_end n code s t e = record {
  told = Closed code ∷ [];
  events = ap (λ (u : State). u.events) e ∙ fails_so n code (without_blocks s);
  text = inl (inl (ap (λ u. text_of u n) e ∙ text_of_failed n code (without_blocks s)));
}

brings_frame : (s : State) (f : Frame) (n : ℕ) → Rises 0 s.opened s.streams → BringsText n s (after_frame s f)
brings_frame s f n r = by_failed s.failed refl
  where
    none_some : (x : ℕ) (xs : List ℕ) → brought n s f ≡ x ∷ xs → brought n s f ≢ []
    none_some x xs e z = absurd cc

    by_brought : s.failed ≡ None → verdict s f ≡ None → text_of (after_frame s f) n ≡ text_of s n ++ brought n s f → (bs : List ℕ) → brought n s f ≡ bs → BringsText n s (after_frame s f)
    by_brought on v g [] e =
        let b = borne_frame {n = 0} (bears_nothing (is_client s.role) 0 s.opened) s f refl (borne_start {Q = λ o. Unit {0}} {n = 0} s r tt) in
        record { told = b.told; events = b.events; text = inl (inl (g ∙ ap (λ t. text_of s n ++ t) e ∙ append-nil (text_of s n))) }
    by_brought on v g (x ∷ xs) e =
        let t = text_is_told s f n on v (none_some x xs e) in
        record { told = Text n ∷ t.0; events = t.1; text = inr ([], t.0, refl) }

    by_reset : s.failed ≡ None → verdict s f ≡ None → (d : Bool) → ((f.kind == 3) && (f.stream == n)) ≡ d → BringsText n s (after_frame s f)
    by_reset on v true e =
        let kind : (f.kind == 3) ≡ true = (and_parts (f.kind == 3) (f.stream == n) e).0 in
        let t : State = record s { began = true } in
        let so : after_frame s f ≡ if_open (stream_at s.streams f.stream) t (λ st. reset_of f st t) =
        after_frame-judged s f on ∙ ap (λ o. judged s f o) v ∙ reset_effect t f kind in
        let text : StaysOrGoes n s (if_open (stream_at s.streams f.stream) t (λ st. reset_of f st t)) =
        open_or (StaysOrGoes n s) (stream_at s.streams f.stream) t (λ st. reset_of f st t) (inl refl) (λ st. text_reset f n st t r) in
        let b = borne_frame {n = 0} (bears_nothing (is_client s.role) 0 s.opened) s f refl (borne_start {Q = λ o. Unit {0}} {n = 0} s r tt) in
        record { told = b.told; events = b.events; text = inl (rw so text) }
    by_reset on v false e = by_brought on v (text_goes_on s f n r on v e) (brought n s f) refl

    by_verdict : s.failed ≡ None → (o : Option ℕ) → verdict s f ≡ o → BringsText n s (after_frame s f)
    by_verdict on (Some code) v = brings_end n code s (after_frame s f) (after_frame-judged s f on ∙ ap (λ o. judged s f o) v)
    by_verdict on None v = by_reset on v ((f.kind == 3) && (f.stream == n)) refl

    by_failed : (o : Option ℕ) → s.failed ≡ o → BringsText n s (after_frame s f)
    by_failed (Some code) e = brings_nothing n s (after_frame s f) (after_frame-failed s f code e)
    by_failed None e = by_verdict e (verdict s f) refl

-- ---- one after another

brings_both : (n : ℕ) (s t u : State) → BringsText n s t → BringsText n t u → BringsText n s u
brings_both n s t u a b = record {
  told = a.told ++ b.told;
  events = b.events ∙ ap (λ es. es ++ b.told) a.events ∙ append_assoc s.events a.told b.told;
  text = by_last b.text;
}
  where
    by_first : text_of u n ≡ text_of t n → StaysOrGoes n s t ⊎ TellsText n a.told → StaysOrGoes n s u ⊎ TellsText n (a.told ++ b.told)
    by_first e (inl (inl g)) = inl (inl (e ∙ g))
    by_first e (inl (inr g)) = inl (inr (e ∙ g))
    by_first e (inr g) = inr (g.0, g.1 ++ b.told, ap (λ l. l ++ b.told) g.2 ∙ append_assoc g.0 (Text n ∷ g.1) b.told)

    by_last : StaysOrGoes n t u ⊎ TellsText n b.told → StaysOrGoes n s u ⊎ TellsText n (a.told ++ b.told)
    by_last (inl (inl e)) = by_first e a.text
    by_last (inl (inr e)) = inl (inr e)
    by_last (inr g) = inr (a.told ++ g.0, g.1, ap (λ l. a.told ++ l) g.2 ∙ sym (append_assoc a.told g.0 (Text n ∷ g.1)))

brings_frames : (s : State) (fs : List Frame) (n : ℕ) → Rises 0 s.opened s.streams → BringsText n s (after_frames s fs)
unfolding after_frames
brings_frames s [] n r = brings_nothing n s s refl
brings_frames s (f ∷ fs) n r =
    brings_both n s (after_frame s f) (after_frames (after_frame s f) fs) (brings_frame s f n r) (brings_frames (after_frame s f) fs n (rises_on s f r))

brings_fault : (s : State) (o : Option FrameFault) (n : ℕ) → BringsText n s (after_fault s o)
brings_fault s None n = brings_nothing n s s refl
brings_fault s (Some fault) n = by_failed (is_some s.failed)
  where
    by_failed : (d : Bool) → BringsText n s (if d then s else fail (frame_code fault.reason) s)
    by_failed true = brings_nothing n s s refl
    by_failed false = record {
      told = Closed (frame_code fault.reason) ∷ [];
      events = fails_so n (frame_code fault.reason) s;
      text = inl (inl (text_of_failed n (frame_code fault.reason) s));
    }

pub piece_brings : (c : Connection) (piece : List ℕ) (n : ℕ) → Rises 0 c.state.opened c.state.streams → BringsText n c.state (after_piece c piece).state
unfolding after_piece
piece_brings c piece n r = by_failed (is_some c.state.failed)
  where
    frames : State
    frames = after_frames c.state (frames_in c.cutter piece)

    after : Connection
    after = record { cutter = after_bytes c.cutter piece; state = after_fault frames (fault_in (after_bytes c.cutter piece).phase) }

    by_failed : (d : Bool) → BringsText n c.state (if d then c else after).state
    by_failed true = brings_nothing n c.state c.state refl
    by_failed false =
        brings_both n c.state frames after.state (brings_frames c.state (frames_in c.cutter piece) n r)
        (brings_fault frames (fault_in (after_bytes c.cutter piece).phase) n)
