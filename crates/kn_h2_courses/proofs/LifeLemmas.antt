-- What is true of a new connection, and stays true through each act.
use Rattle.std.proofs.Common.{◌≡◌, ℕ, Bool, true, false, not, cond, List, [], ◌∷◌, ◌++◌, Option, Some, None, is_some, is_none, refl, sym, ap, ◌∙◌, append-nil}
use Rattle.std.specs.List.{AllByRecursion}
use Rattle.kn_frames.specs.declared.frame.Frame.{Frame}
use Rattle.kn_frames.specs.declared.fault.FrameFault.{FrameFault}
use Rattle.kn_frames.specs.Frames.{IsWithinLimits}
use Rattle.kn_frames.specs.Readers.{Reading, start, after_bytes, frames_in, fault_in}
use Rattle.kn_hpack.specs.Strings.{IsBytes}
use Rattle.kn_h2_state.specs.declared.role.Role.{Role}
use Rattle.kn_h2_state.specs.declared.moves.Move.{Move}
use Rattle.kn_h2_state.specs.declared.stream.Stream.{Stream}
use Rattle.kn_h2_state.specs.declared.state.State.{State}
use Rattle.kn_h2_state.specs.Streams.{on_open}
use Rattle.kn_h2_state.specs.Rules.{is_client, verdict}
use Rattle.kn_h2_state.specs.Effects.{fail, effect}
use Rattle.kn_h2_state.specs.Feeding.{without_blocks, judged, after_frame, after_frames, frame_code, after_fault, Connection, after_piece}
use Rattle.kn_h2_state.specs.Moves.{may}
use Rattle.kn_h2_state.specs.Calls.{fresh, takes_more, refused_where, refusal, after_take, after_begin, after_queue, after_finish, after_took}
use Rattle.kn_h2_state.specs.Holding.{Holds}
use Rattle.kn_h2_state.proofs.PieceLaws.{bytes-append, after_frame-failed, after_frames-failed, after_frame-judged}
use Rattle.kn_h2.proofs.HoldsLemmas.{holds_fail}
use Rattle.kn_h2.proofs.FrameBounds.{holds_after_frame}
use Rattle.kn_h2.proofs.MoveLemmas.{move_parts, move_keeps}
use Rattle.kn_h2.proofs.ConnBounds.{holds_fresh, holds_told}
use Rattle.kn_h2.proofs.BeginLemmas.{holds_begin, number_of_begin}
use Rattle.kn_h2.proofs.AnswerLemmas.{holds_answer}
use Rattle.kn_h2.proofs.CallBounds.{holds_take, holds_took, holds_queue, holds_finish, holds_after_reset}
use Rattle.kn_h2_courses.specs.Courses.{Act, MayDo, after, fed_by, Course, begins, after_act, after_acts, MayDoAll, OfEveryLife, first_reading}
use Rattle.kn_h2_courses.specs.Courses.{Feeds, Tells, Takes, Begins, Answers, Queues, Finishes, Resets, Makes, Writes}
use Rattle.kn_h2_courses.proofs.ByteLemmas.{frames_fit, kept_fit}

-- ---- a frame, and frames, where the connection goes on

pub none_is_some : {A : Type 0} (code : ℕ) (o : Option ℕ) → o ≡ Some code → o ≡ None → A
none_is_some code o e f = absurd (let both : Some code ≡ None = sym e ∙ f in cc)

pub failed_fail : (code : ℕ) (s : State) → (fail code s).failed ≡ Some code
unfolding fail
failed_fail code s = refl

-- where a connection has not failed after a frame, it had not before, and the frame broke no rule
pub record GoesOn (s : State) (f : Frame) : Type 0 where
  pub before : s.failed ≡ None
  pub verdict : verdict s f ≡ None
  pub after : after_frame s f ≡ effect (record s { began = true }) f

pub goes_on : (s : State) (f : Frame) → (after_frame s f).failed ≡ None → GoesOn s f
goes_on s f e = by_failed s.failed refl
  where
    by_verdict : s.failed ≡ None → (o : Option ℕ) → verdict s f ≡ o → GoesOn s f
    by_verdict b (Some code) v =
        let is : after_frame s f ≡ fail code (without_blocks s) = after_frame-judged s f b ∙ ap (judged s f) v in
        none_is_some code (after_frame s f).failed (ap (λ (t : State). t.failed) is ∙ failed_fail code (without_blocks s)) e
    by_verdict b None v = record { before = b; verdict = v; after = after_frame-judged s f b ∙ ap (judged s f) v }

    by_failed : (o : Option ℕ) → s.failed ≡ o → GoesOn s f
    by_failed (Some code) b = none_is_some code (after_frame s f).failed (ap (λ (t : State). t.failed) (after_frame-failed s f code b) ∙ b) e
    by_failed None b = by_verdict b (verdict s f) refl

-- so it was before the later ones of several
pub going_before : (s : State) (fs : List Frame) → (after_frames s fs).failed ≡ None → s.failed ≡ None
going_before s fs e = by_failed s.failed refl
  where
    by_failed : (o : Option ℕ) → s.failed ≡ o → s.failed ≡ None
    by_failed (Some code) b = none_is_some code (after_frames s fs).failed (ap (λ (t : State). t.failed) (after_frames-failed s fs code b) ∙ b) e
    by_failed None b = b

-- ---- a piece, where the connection goes on

pub record GoesOnAfter (c : Connection) (piece : List ℕ) : Type 0 where
  pub before : c.state.failed ≡ None
  pub cutter : (after_piece c piece).cutter ≡ after_bytes c.cutter piece
  pub state : (after_piece c piece).state ≡ after_frames c.state (frames_in c.cutter piece)

pub piece_goes_on : (c : Connection) (piece : List ℕ) → (after_piece c piece).state.failed ≡ None → GoesOnAfter c piece
unfolding after_piece
piece_goes_on c piece e = by_failed c.state.failed refl e
  where
    s : State
    s = after_frames c.state (frames_in c.cutter piece)

    read : Connection
    read = record { cutter = after_bytes c.cutter piece; state = after_fault s (fault_in (after_bytes c.cutter piece).phase) }

    no_fault : (o : Option FrameFault) → (after_fault s o).failed ≡ None → after_fault s o ≡ s
    no_fault None h = refl
    no_fault (Some fault) h = by_end s.failed refl h
      where
        by_end : (o : Option ℕ) → s.failed ≡ o → (cond (is_some o) s (fail (frame_code fault.reason) s)).failed ≡ None → cond (is_some s.failed) s (fail (frame_code fault.reason) s) ≡ s
        by_end (Some code) b k = none_is_some code s.failed b k
        by_end None b k = none_is_some (frame_code fault.reason) (fail (frame_code fault.reason) s).failed (failed_fail (frame_code fault.reason) s) k

    by_failed : (o : Option ℕ) → c.state.failed ≡ o → (cond (is_some o) c read).state.failed ≡ None → GoesOnAfter c piece
    by_failed (Some code) b h = none_is_some code c.state.failed b h
    by_failed None b h =
        let is : after_piece c piece ≡ read = ap (λ o. cond (is_some o) c read) b in
        record {
          before = b;
          cutter = ap (λ (x : Connection). x.cutter) is;
          state = ap (λ (x : Connection). x.state) is ∙ no_fault (fault_in (after_bytes c.cutter piece).phase) h;
        }

-- ---- what always holds

pub holds_frames : (s : State) (fs : List Frame) → AllByRecursion IsWithinLimits fs → Holds s → Holds (after_frames s fs)
unfolding after_frames
holds_frames s [] all h = h
holds_frames s (f ∷ fs) all h = holds_frames (after_frame s f) fs all.1 (holds_after_frame s f h all.0)

holds_fault : (s : State) (o : Option FrameFault) → Holds s → Holds (after_fault s o)
holds_fault s None h = h
holds_fault s (Some fault) h = by_failed (is_some s.failed)
  where
    by_failed : (b : Bool) → Holds (cond b s (fail (frame_code fault.reason) s))
    by_failed true = h
    by_failed false = holds_fail (frame_code fault.reason) s h

-- the facts on which the code rests, and that the bytes of a partial frame are bytes
pub record IsSound (c : Connection) : Type 0 where
  pub holds : Holds c.state
  pub bytes : IsBytes c.cutter.rest

sound_piece : (c : Connection) (piece : List ℕ) → IsBytes piece → IsSound c → IsSound (after_piece c piece)
unfolding after_piece
sound_piece c piece bytes h = by_failed (is_some c.state.failed)
  where
    s : State
    s = after_frames c.state (frames_in c.cutter piece)

    read : Connection
    read = record { cutter = after_bytes c.cutter piece; state = after_fault s (fault_in (after_bytes c.cutter piece).phase) }

    by_failed : (b : Bool) → IsSound (cond b c read)
    by_failed true = h
    by_failed false = record {
      holds = holds_fault s (fault_in (after_bytes c.cutter piece).phase) (holds_frames c.state (frames_in c.cutter piece) (frames_fit c.cutter piece h.bytes bytes) h.holds);
      bytes = kept_fit c.cutter piece h.bytes bytes;
    }

sound_after : (c : Connection) (a : Act) → MayDo c.state a → IsSound c → IsSound (after c a)
unfolding after_take after_queue after_finish after_took
sound_after c (Feeds piece) ok h = sound_piece c piece ok h
sound_after c (Tells count) ok h = record { holds = holds_told c.state _ h.holds; bytes = h.bytes }
sound_after c (Takes m count) ok h = record { holds = holds_take c.state m count ok h.holds; bytes = h.bytes }
sound_after c (Begins fields) ok h = record { holds = holds_begin fields c.state (number_of_begin c.state ok.1) h.holds; bytes = h.bytes }
sound_after c (Answers m fields) ok h = record { holds = holds_answer m fields c.state h.holds; bytes = h.bytes }
sound_after c (Queues m bytes) ok h = record { holds = holds_queue m bytes c.state ok.0 h.holds; bytes = h.bytes }
sound_after c (Finishes m trailers) ok h = record { holds = holds_finish m trailers c.state ok.1 h.holds; bytes = h.bytes }
sound_after c (Resets m code) ok h = record { holds = holds_after_reset m code c.state h.holds; bytes = h.bytes }
sound_after c (Makes move) ok h = record { holds = move_keeps c.state move h.holds ok; bytes = h.bytes }
sound_after c (Writes count) ok h = record { holds = holds_took c.state count h.holds; bytes = h.bytes }

-- ---- a life, one act after another

-- the connection is sound, and as long as it has not failed all bytes that were fed are cut into frames
pub record IsCut (role : Role) (c : Course) : Type 0 where
  pub sound : IsSound c.connection
  pub cut : c.connection.state.failed ≡ None → c.connection.cutter ≡ after_bytes (first_reading role) c.fed

-- it is true of a new connection, and each act that may be done keeps it
pub record Stays (n : ℕ) (role : Role) (P : Course → Type 0) : Type 0 where
  pub first : P (begins role)
  pub step : (c : Course) (a : Act) → MayDo c.connection.state a → IsCut role c → P c → P (after_act n c a)

-- a call that is not refused has a connection that has not failed
pub called : (needs : Stream → Bool) (s : State) (m : ℕ) → refusal needs s m ≡ None → s.failed ≡ None
unfolding refusal
called needs s m e = by_failed s.failed (on_open s.streams m needs) e
  where
    by_failed : (o : Option ℕ) (b : Bool) → refused_where o b ≡ None → o ≡ None
    by_failed (Some code) b h = absurd cc
    by_failed None b h = refl

pub moved : (s : State) (move : Move) → may s move ≡ true → s.failed ≡ None
moved s move ok = by_failed s.failed (move_parts s move ok).sound
  where
    by_failed : (o : Option ℕ) → is_none o ≡ true → o ≡ None
    by_failed (Some code) h = absurd cc
    by_failed None h = refl

-- where the connection has not failed after an act, it had not before
pub going_act : (c : Connection) (a : Act) → MayDo c.state a → (after c a).state.failed ≡ None → c.state.failed ≡ None
unfolding after_take after_begin after_queue after_finish after_took
going_act c (Feeds piece) ok e = (piece_goes_on c piece e).before
going_act c (Tells count) ok e = e
going_act c (Takes m count) ok e = e
going_act c (Begins fields) ok e = e
going_act c (Answers m fields) ok e = called takes_more c.state m ok.1
going_act c (Queues m bytes) ok e = e
going_act c (Finishes m trailers) ok e = e
going_act c (Resets m code) ok e = called (λ st. st.own_open) c.state m ok
going_act c (Makes move) ok e = moved c.state move ok
going_act c (Writes count) ok e = e

-- what was fed so far, where an act feeds nothing
pub fed_no_more : (r : Reading) (fed : List ℕ) → after_bytes r fed ≡ after_bytes r (fed ++ [])
fed_no_more r fed = ap (after_bytes r) (sym (append-nil fed))

cut_after : (n : ℕ) (role : Role) (c : Course) (a : Act) → MayDo c.connection.state a → IsCut role c → (after c.connection a).state.failed ≡ None
    → (after c.connection a).cutter ≡ after_bytes (first_reading role) (c.fed ++ fed_by a)
cut_after n role c (Feeds piece) ok h e =
    let on = piece_goes_on c.connection piece e in
    on.cutter ∙ ap (λ (r : Reading). after_bytes r piece) (h.cut on.before) ∙ sym (bytes-append (first_reading role) c.fed piece)
cut_after n role c (Tells count) ok h e = h.cut (going_act c.connection (Tells count) ok e) ∙ fed_no_more (first_reading role) c.fed
cut_after n role c (Takes m count) ok h e = h.cut (going_act c.connection (Takes m count) ok e) ∙ fed_no_more (first_reading role) c.fed
cut_after n role c (Begins fields) ok h e = h.cut (going_act c.connection (Begins fields) ok e) ∙ fed_no_more (first_reading role) c.fed
cut_after n role c (Answers m fields) ok h e = h.cut (going_act c.connection (Answers m fields) ok e) ∙ fed_no_more (first_reading role) c.fed
cut_after n role c (Queues m bytes) ok h e = h.cut (going_act c.connection (Queues m bytes) ok e) ∙ fed_no_more (first_reading role) c.fed
cut_after n role c (Finishes m trailers) ok h e = h.cut (going_act c.connection (Finishes m trailers) ok e) ∙ fed_no_more (first_reading role) c.fed
cut_after n role c (Resets m code) ok h e = h.cut (going_act c.connection (Resets m code) ok e) ∙ fed_no_more (first_reading role) c.fed
cut_after n role c (Makes move) ok h e = h.cut (going_act c.connection (Makes move) ok e) ∙ fed_no_more (first_reading role) c.fed
cut_after n role c (Writes count) ok h e = h.cut (going_act c.connection (Writes count) ok e) ∙ fed_no_more (first_reading role) c.fed

no_bytes : (b : Bool) → IsBytes (start b).rest
no_bytes true = tt
no_bytes false = tt

cut_first : (role : Role) → IsCut role (begins role)
unfolding fresh
cut_first role = record { sound = record { holds = holds_fresh role; bytes = no_bytes (not (is_client role)) }; cut = λ e. refl }

cut_step : (n : ℕ) (role : Role) (c : Course) (a : Act) → MayDo c.connection.state a → IsCut role c → IsCut role (after_act n c a)
cut_step n role c a ok h = record { sound = sound_after c.connection a ok h.sound; cut = cut_after n role c a ok h }

lived : (n : ℕ) (role : Role) (P : Course → Type 0) (k : Stays n role P) (c : Course) (acts : List Act) → MayDoAll n c acts → IsCut role c → P c → P (after_acts n c acts)
lived n role P k c [] ok h p = p
lived n role P k c (a ∷ later) ok h p = lived n role P k (after_act n c a) later ok.1 (cut_step n role c a ok.0 h) (k.step c a ok.0 h p)

-- so it is true after every list of acts
pub every_life : (P : ℕ → Role → Course → Type 0) → ((n : ℕ) (role : Role) → Stays n role (P n role)) → OfEveryLife P
every_life P k n role acts ok = lived n role (P n role) (k n role) (begins role) acts ok (cut_first role) (k n role).first
