-- When a connection has failed, and with which code.
use Rattle.std.proofs.Common.{◌≡◌, ◌⊎◌, inl, inr, ℕ, Bool, true, false, cond, List, [], ◌∷◌, ◌++◌, Option, Some, None, is_some, refl, sym, ap, ◌∙◌, subst}
use Rattle.kn_frames.specs.declared.fault.FrameFault.{FrameFault}
use Rattle.kn_frames.specs.Readers.{after_bytes, frames_in, fault_in}
use Rattle.kn_hpack.specs.Encoding.{block_of}
use Rattle.kn_h2_state.specs.declared.stream.Stream.{Stream}
use Rattle.kn_h2_state.specs.declared.state.State.{State}
use Rattle.kn_h2_state.specs.Outgoing.{put}
use Rattle.kn_h2_state.specs.Streams.{change, shut}
use Rattle.kn_h2_state.specs.Payloads.{reset_frame}
use Rattle.kn_h2_state.specs.Effects.{fail, reply, on_stream}
use Rattle.kn_h2_state.specs.Feeding.{Connection, after_frames, frame_code, after_fault, after_piece}
use Rattle.kn_h2_state.specs.Moves.{headers_frames, after_move}
use Rattle.kn_h2_state.specs.Calls.{fresh, fresh_state, takes_more, after_take, after_begin, after_queue, after_finish, after_answer, after_reset, after_took}
use Rattle.kn_h2_state.proofs.PieceLaws.{fails_first}
use Rattle.kn_h2_state.proofs.TellLaws.{moves_are_quiet}
use Rattle.kn_h2_courses.specs.Courses.{Act, Feeds, Tells, Takes, Begins, Answers, Queues, Finishes, Resets, Makes, Writes, MayDo, after, Course, begins, after_act, after_acts, MayDoAll}
use Rattle.kn_h2_courses.specs.Failing.{IsFaultCode, is_one_too_many, Fells, IsFelled, FailsWhereFelled}
use Rattle.kn_h2_courses.proofs.LifeLemmas.{none_is_some, failed_fail, called, moved}

code_is : (a b : ℕ) → Some a ≡ Some b → b ≡ a
code_is a b e = sym (cc)

failed_eleven : (s : State) → (fail 11 s).failed ≡ Some 11
failed_eleven s = failed_fail 11 s

-- ---- bytes that are no frame

fault_fells : (s : State) (o : Option FrameFault) (code : ℕ) → (after_fault s o).failed ≡ Some code → (s.failed ≡ Some code) ⊎ ((s.failed ≡ None) × IsFaultCode o code)
fault_fells s None code e = inl e
fault_fells s (Some fault) code e = by_failed s.failed refl e
  where
    by_failed : (o : Option ℕ) → s.failed ≡ o → (cond (is_some o) s (fail (frame_code fault.reason) s)).failed ≡ Some code
        → (s.failed ≡ Some code) ⊎ ((s.failed ≡ None) × (code ≡ frame_code fault.reason))
    by_failed (Some found) b h = inl h
    by_failed None b h = inr (b, code_is (frame_code fault.reason) code (sym (failed_fail (frame_code fault.reason) s) ∙ h))

failed_fells : (s : State) (o : Option FrameFault) (code : ℕ) → s.failed ≡ Some code → (after_fault s o).failed ≡ Some code
failed_fells s None code e = e
failed_fells s (Some fault) code e = ap (λ (o : Option ℕ). (cond (is_some o) s (fail (frame_code fault.reason) s)).failed) e ∙ e

fault_felled : (s : State) (o : Option FrameFault) (code : ℕ) → s.failed ≡ None → IsFaultCode o code → (after_fault s o).failed ≡ Some code
fault_felled s None code e i = absurd i
fault_felled s (Some fault) code e i =
    ap (λ (o : Option ℕ). (cond (is_some o) s (fail (frame_code fault.reason) s)).failed) e ∙ failed_fail (frame_code fault.reason) s ∙ ap (λ (j : ℕ). Some j) (sym i)

piece_read : (c : Connection) (piece : List ℕ) → c.state.failed ≡ None
    → (after_piece c piece).state ≡ after_fault (after_frames c.state (frames_in c.cutter piece)) (fault_in (after_bytes c.cutter piece).phase)
unfolding after_piece
piece_read c piece e = rw e refl

piece_over : (c : Connection) (piece : List ℕ) (code : ℕ) → c.state.failed ≡ Some code → (after_piece c piece).state.failed ≡ Some code
unfolding after_piece
piece_over c piece code e = ap (λ (o : Option ℕ). (cond (is_some o) c (record { cutter = after_bytes c.cutter piece; state = after_fault (after_frames c.state (frames_in c.cutter piece)) (fault_in (after_bytes c.cutter piece).phase) })).state.failed) e ∙ e

piece_fells : (c : Connection) (piece : List ℕ) (code : ℕ) → c.state.failed ≡ None → (after_piece c piece).state.failed ≡ Some code → Fells c (Feeds piece) code
piece_fells c piece code going e =
    let s : State = after_frames c.state (frames_in c.cutter piece) in
    let o = fault_in (after_bytes c.cutter piece).phase in
    elim (fault_fells s o code (ap (λ (t : State). t.failed) (sym (piece_read c piece going)) ∙ e)) [
      | inl f ↦ inl ((fails_first c.state (frames_in c.cutter piece) code going).0 f)
      | inr q ↦ inr q
    ]

piece_felled : (c : Connection) (piece : List ℕ) (code : ℕ) → c.state.failed ≡ None → Fells c (Feeds piece) code → (after_piece c piece).state.failed ≡ Some code
piece_felled c piece code going f =
    let s : State = after_frames c.state (frames_in c.cutter piece) in
    let o = fault_in (after_bytes c.cutter piece).phase in
    ap (λ (t : State). t.failed) (piece_read c piece going) ∙ elim f [
      | inl q ↦ failed_fells s o code ((fails_first c.state (frames_in c.cutter piece) code going).1 q)
      | inr q ↦ fault_felled s o code q.0 q.1
    ]

-- ---- a reply

reply_fells : (frame : List ℕ) (s : State) (code : ℕ) → s.failed ≡ None → (reply frame s).failed ≡ Some code → (is_one_too_many s frame ≡ true) × (code ≡ 11)
unfolding reply
reply_fells frame s code going e = by_room (is_one_too_many s frame) refl e
  where
    by_room : (b : Bool) → is_one_too_many s frame ≡ b → (cond b (fail 11 s) (record s { out = put s.out true frame })).failed ≡ Some code → (is_one_too_many s frame ≡ true) × (code ≡ 11)
    by_room true t h = (t, code_is 11 code (sym (failed_eleven s) ∙ h))
    by_room false t h = none_is_some code s.failed h going

reply_felled : (frame : List ℕ) (s : State) (code : ℕ) → is_one_too_many s frame ≡ true → code ≡ 11 → (reply frame s).failed ≡ Some code
unfolding reply
reply_felled frame s code t e = ap (λ (b : Bool). (cond b (fail 11 s) (record s { out = put s.out true frame })).failed) t ∙ failed_eleven s ∙ ap (λ (j : ℕ). Some j) (sym e)

-- ---- an act

act_fells : (c : Connection) (a : Act) (code : ℕ) → MayDo c.state a → c.state.failed ≡ None → (after c a).state.failed ≡ Some code → Fells c a code
unfolding after_take after_begin after_queue after_finish after_answer after_reset after_took
act_fells c (Feeds piece) code ok going e = piece_fells c piece code going e
act_fells c (Tells count) code ok going e = none_is_some code c.state.failed e going
act_fells c (Takes m count) code ok going e = none_is_some code c.state.failed e going
act_fells c (Begins fields) code ok going e = none_is_some code c.state.failed e going
act_fells c (Answers m fields) code ok going e = reply_fells (headers_frames m 0 (block_of c.state.encoder fields)) (record c.state { streams = change c.state.streams m (λ (st : Stream). record st { answered = true }); encoder = true }) code going e
act_fells c (Queues m bytes) code ok going e = none_is_some code c.state.failed e going
act_fells c (Finishes m trailers) code ok going e = none_is_some code c.state.failed e going
act_fells c (Resets m reason) code ok going e = reply_fells (reset_frame m reason) (on_stream m shut c.state) code going e
act_fells c (Makes move) code ok going e = none_is_some code (after_move c.state move).failed e ((moves_are_quiet c.state move).failed ∙ going)
act_fells c (Writes count) code ok going e = none_is_some code c.state.failed e going

act_felled : (c : Connection) (a : Act) (code : ℕ) → c.state.failed ≡ None → Fells c a code → (after c a).state.failed ≡ Some code
unfolding after_answer after_reset
act_felled c (Feeds piece) code going f = piece_felled c piece code going f
act_felled c (Tells count) code going f = absurd f
act_felled c (Takes m count) code going f = absurd f
act_felled c (Begins fields) code going f = absurd f
act_felled c (Answers m fields) code going f = reply_felled (headers_frames m 0 (block_of c.state.encoder fields)) (record c.state { streams = change c.state.streams m (λ (st : Stream). record st { answered = true }); encoder = true }) code f.0 f.1
act_felled c (Queues m bytes) code going f = absurd f
act_felled c (Finishes m trailers) code going f = absurd f
act_felled c (Resets m reason) code going f = reply_felled (reset_frame m reason) (on_stream m shut c.state) code f.0 f.1
act_felled c (Makes move) code going f = absurd f
act_felled c (Writes count) code going f = absurd f

-- a connection that has failed stays so, with its code
act_over : (c : Connection) (a : Act) (code : ℕ) → MayDo c.state a → c.state.failed ≡ Some code → (after c a).state.failed ≡ Some code
unfolding after_take after_begin after_queue after_finish after_took
act_over c (Feeds piece) code ok e = piece_over c piece code e
act_over c (Tells count) code ok e = e
act_over c (Takes m count) code ok e = e
act_over c (Begins fields) code ok e = e
act_over c (Answers m fields) code ok e = none_is_some code c.state.failed e (called takes_more c.state m ok.1)
act_over c (Queues m bytes) code ok e = e
act_over c (Finishes m trailers) code ok e = e
act_over c (Resets m reason) code ok e = none_is_some code c.state.failed e (called (λ st. st.own_open) c.state m ok)
act_over c (Makes move) code ok e = none_is_some code c.state.failed e (moved c.state move ok)
act_over c (Writes count) code ok e = e

-- ---- many acts

stays_over : (n : ℕ) (c : Course) (acts : List Act) (code : ℕ) → MayDoAll n c acts → c.connection.state.failed ≡ Some code → (after_acts n c acts).connection.state.failed ≡ Some code
stays_over n c [] code ok e = e
stays_over n c (a ∷ later) code ok e = stays_over n (after_act n c a) later code ok.1 (act_over c.connection a code ok.0 e)

fails_somewhere : (n : ℕ) (c : Course) (acts : List Act) (code : ℕ) → MayDoAll n c acts → c.connection.state.failed ≡ None → (after_acts n c acts).connection.state.failed ≡ Some code → IsFelled n c acts code
fails_somewhere n c [] code ok going e = none_is_some code c.connection.state.failed e going
fails_somewhere n c (a ∷ later) code ok going e = by_failed (after c.connection a).state.failed refl (λ on. fails_somewhere n (after_act n c a) later code ok.1 on e)
  where
    by_failed : (o : Option ℕ) → (after c.connection a).state.failed ≡ o → ((after c.connection a).state.failed ≡ None → IsFelled n (after_act n c a) later code) → IsFelled n c (a ∷ later) code
    by_failed (Some found) f next =
        let same : found ≡ code = code_is code found (sym e ∙ stays_over n (after_act n c a) later found ok.1 f) in
        ([], a, later, refl, going, act_fells c.connection a code ok.0 going (f ∙ ap (λ (j : ℕ). Some j) same))
    by_failed None f next = let q = next f in (a ∷ q.0, q.1, q.2, ap (λ (xs : List Act). a ∷ xs) q.3, q.4, q.5)

felled_at : (n : ℕ) (c : Course) (before : List Act) (a : Act) (later : List Act) (code : ℕ) → MayDoAll n c (before ++ a ∷ later) → (after_acts n c before).connection.state.failed ≡ None
    → Fells (after_acts n c before).connection a code → (after_acts n c (before ++ a ∷ later)).connection.state.failed ≡ Some code
felled_at n c [] a later code ok going f = stays_over n (after_act n c a) later code ok.1 (act_felled c.connection a code going f)
felled_at n c (b ∷ before) a later code ok going f = felled_at n (after_act n c b) before a later code ok.1 going f

fails_then : (n : ℕ) (c : Course) (acts : List Act) (code : ℕ) → MayDoAll n c acts → IsFelled n c acts code → (after_acts n c acts).connection.state.failed ≡ Some code
fails_then n c acts code ok (before, a, later, e, going, f) =
    subst (λ (xs : List Act). (after_acts n c xs).connection.state.failed ≡ Some code) (sym e) (felled_at n c before a later code (subst (λ (xs : List Act). MayDoAll n c xs) e ok) going f)

pub fails_where_felled : FailsWhereFelled
unfolding fresh fresh_state
fails_where_felled n role acts code ok = (fails_somewhere n (begins role) acts code ok refl, fails_then n (begins role) acts code ok)
