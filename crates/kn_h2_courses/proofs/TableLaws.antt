-- A connection keeps at most 4,096 bytes of its peer's header fields.
use Rattle.std.proofs.Common.{◌≡◌, ℕ, pos, ◌+◌, ◌+ℤ◌, Bool, true, false, not, ◌&&◌, ◌||◌, cond, eqb, leb, ltb, List, [], ◌∷◌, ◌++◌, length, Option, Some, None, is_some, Result, Ok, Err, refl, sym, ◌∙◌, subst}
use Rattle.kn_frames.specs.declared.frame.Frame.{Frame}
use Rattle.kn_frames.specs.declared.fault.FrameFault.{FrameFault}
use Rattle.kn_frames.specs.Frames.{spelled}
use Rattle.kn_frames.specs.Readers.{after_bytes, frames_in, fault_in}
use Rattle.kn_hpack.specs.Fields.{Field}
use Rattle.kn_hpack.specs.Encoding.{block_of}
use Rattle.kn_hpack.specs.Blocks.{Progress, read_block}
use Rattle.kn_hpack.specs.declared.fault.HpackFault.{HpackFault}
use Rattle.kn_h2_state.specs.declared.event.H2Event.TheVariants.{Opened, Head, Text, Reset}
use Rattle.kn_h2_state.specs.declared.role.Role.{Role}
use Rattle.kn_h2_state.specs.declared.moves.Move.{Move}
use Rattle.kn_h2_state.specs.declared.moves.Move.TheVariants.{GrantAll, Grant, Send, End, Stop}
use Rattle.kn_h2_state.specs.declared.stream.Stream.{Stream}
use Rattle.kn_h2_state.specs.declared.state.State.{State}
use Rattle.kn_h2_state.specs.Limits.{reply_limit, stream_limit}
use Rattle.kn_h2_state.specs.Outgoing.{reply_bytes, put}
use Rattle.kn_h2_state.specs.Streams.{stream_at, change, is_open, open_count, shut}
use Rattle.kn_h2_state.specs.Payloads.{has, content, number_at, increment_of, settings_of, reset_frame}
use Rattle.kn_h2_state.specs.Heads.{is_malformed_request, is_malformed_response, is_informational}
use Rattle.kn_h2_state.specs.Rules.{is_client, block_with, ends_block, shifted, verdict}
use Rattle.kn_h2_state.specs.Effects.{event, fail, reply, on_stream, peer_ends, if_open, data_taken, text_told, ended_if, data_in, data_dropped, data_of, with_grant, new_stream, opens, accepted, request, headed, refused_response, response, head_of, decoded, block_ends, block_grown, block_of_headers, cut_off, reset_of, after_setting, after_settings, settings, ping, goaway, window_update, effect}
use Rattle.kn_h2_state.specs.Feeding.{judged, after_frame, after_frames, frame_code, after_fault, Connection, after_piece}
use Rattle.kn_h2_state.specs.Moves.{headers_frames, made, target, after_move}
use Rattle.kn_h2_state.specs.Calls.{fresh, fresh_state, after_take, after_begin, after_queue, after_finish, after_answer, after_reset, after_took}
use Rattle.kn_h2_state.proofs.OtherLaws.{either, open_or}
use Rattle.kn_h2_courses.specs.Courses.{Act, Feeds, Tells, Takes, Begins, Answers, Queues, Finishes, Resets, Makes, Writes, after, begins}
use Rattle.kn_h2_courses.specs.Tables.{IsSmallTable, TablesAreSmall}
use Rattle.kn_h2_courses.proofs.LifeLemmas.{every_life}
use Rattle.kn_h2_courses.proofs.TableSteps.{OkTable, block_small, first_small}

-- the table is as it was
abbrev Same : State → State → Type 0
Same s t = t.decoder ≡ s.decoder

same_reply : (frame : List ℕ) (s t : State) → Same s t → Same s (reply frame t)
unfolding reply fail
same_reply frame s t e = either (Same s) (ltb reply_limit (reply_bytes t.out + length frame)) (fail 11 t) (record t { out = put t.out true frame }) e e

same_ended : (ends : Bool) (m : ℕ) (s t : State) → Same s t → Same s (ended_if ends m t)
unfolding peer_ends
same_ended true m s t e = e
same_ended false m s t e = e

same_ends : (m : ℕ) (s : State) → Same s (peer_ends m s)
unfolding peer_ends
same_ends m s = refl

same_data : (f : Frame) (s : State) (o : Option Stream) → Same s (data_of f s o)
unfolding data_in data_taken data_dropped
same_data f s None = refl
same_data f s (Some st) =
    either (Same s) (is_open st) (data_in f s) (data_dropped f s)
    (same_ended (has f 1) f.stream s (text_told f.stream (content f) (data_taken f s))
    (either (Same s) (eqb (length (content f)) 0) (data_taken f s) (event (data_taken f s) (Text f.stream)) refl refl)) refl

same_reset : (f : Frame) (s : State) → Same s (if_open (stream_at s.streams f.stream) s (λ st. reset_of f st s))
unfolding reset_of cut_off
same_reset f s =
    open_or (Same s) (stream_at s.streams f.stream) s (λ st. reset_of f st s) refl
    (λ st. either (Same s) (is_client s.role && eqb (number_at f.payload 0) 0 && not st.peer_open) (on_stream f.stream shut s) (cut_off f.stream (number_at f.payload 0) st s) refl refl)

same_settings : (s : State) (xs : List (ℕ × ℕ)) → Same s (after_settings s xs)
unfolding after_settings after_setting
same_settings s [] = refl
same_settings s (x ∷ xs) = same_settings (after_setting s x) xs ∙ one (eqb x.0 4) (eqb x.0 3)
  where
    one : (a b : Bool) → Same s (cond a (record s { initial = x.1; streams = shifted s.initial x.1 s.streams }) (cond b (record s { most = Some x.1 }) s))
    one true b = refl
    one false true = refl
    one false false = refl

same_set : (f : Frame) (s : State) → Same s (settings f s)
unfolding settings
same_set f s =
    either (Same s) (has f 1) s (reply (spelled 4 1 0 []) (after_settings s (settings_of f.payload))) refl
    (same_reply (spelled 4 1 0 []) s (after_settings s (settings_of f.payload)) (same_settings s (settings_of f.payload)))

same_ping : (f : Frame) (s : State) → Same s (ping f s)
unfolding ping
same_ping f s = either (Same s) (has f 1) s (reply (spelled 6 1 0 f.payload) s) refl (same_reply (spelled 6 1 0 f.payload) s s refl)

same_update : (f : Frame) (s : State) → Same s (window_update f s)
unfolding window_update
same_update f s = by_all (eqb f.stream 0)
  where
    by_all : (b : Bool) → Same s (cond b (record s { send = s.send +ℤ pos (increment_of f.payload) }) (record s { streams = change s.streams f.stream (with_grant (increment_of f.payload)) }))
    by_all true = refl
    by_all false = refl

-- a frame that is neither DATA nor of a header block
abbrev others : State → Frame → State
others s f =
    cond (eqb f.kind 3) (if_open (stream_at s.streams f.stream) s (λ st. reset_of f st s))
    (cond (eqb f.kind 4) (settings f s) (cond (eqb f.kind 6) (ping f s) (cond (eqb f.kind 7) (goaway f s) (cond (eqb f.kind 8) (window_update f s) s))))

same_others : (s : State) (f : Frame) → Same s (others s f)
unfolding goaway
same_others s f =
    let s8 : State = cond (eqb f.kind 8) (window_update f s) s in
    let s7 : State = cond (eqb f.kind 7) (goaway f s) s8 in
    let s6 : State = cond (eqb f.kind 6) (ping f s) s7 in
    let s4 : State = cond (eqb f.kind 4) (settings f s) s6 in
    let a : Same s s8 = either (Same s) (eqb f.kind 8) (window_update f s) s (same_update f s) refl in
    let b : Same s s7 = either (Same s) (eqb f.kind 7) (goaway f s) s8 refl a in
    let c : Same s s6 = either (Same s) (eqb f.kind 6) (ping f s) s7 (same_ping f s) b in
    let d : Same s s4 = either (Same s) (eqb f.kind 4) (settings f s) s6 (same_set f s) c in
    either (Same s) (eqb f.kind 3) (if_open (stream_at s.streams f.stream) s (λ st. reset_of f st s)) s4 (same_reset f s) d

-- ---- header blocks

same_request : (m : ℕ) (ends : Bool) (fields : List Field) (t : State) → Same t (request m ends fields t)
unfolding request accepted
same_request m ends fields t =
    let refused : (code : ℕ) → Same t (reply (reset_frame m code) (opens m t)) = λ code. same_reply (reset_frame m code) t (opens m t) refl in
    let pushed : State = event (record t { opened = m; streams = t.streams ++ new_stream m t ∷ [] }) (Opened m fields) in
    either (Same t) (leb stream_limit (open_count t.streams)) (reply (reset_frame m 7) (opens m t)) (cond (is_malformed_request fields) (reply (reset_frame m 1) (opens m t)) (accepted m ends fields t)) (refused 7)
    (either (Same t) (is_malformed_request fields) (reply (reset_frame m 1) (opens m t)) (accepted m ends fields t) (refused 1) (same_ended ends m t pushed refl))

same_response : (m : ℕ) (ends : Bool) (fields : List Field) (st : Stream) (t : State) → Same t (response m ends fields st t)
unfolding response headed refused_response
same_response m ends fields st t =
    let head : State = event (on_stream m (λ x. record x { answered = true }) t) (Head m fields) in
    let heads : Same t (headed m ends fields t) = same_ended ends m t head refl in
    let bad : Same t (refused_response m t) = same_reply (reset_frame m 1) t (event (on_stream m shut t) (Reset m 1)) refl in
    let last : State = cond (is_malformed_response fields || is_informational fields) (refused_response m t) (headed m ends fields t) in
    either (Same t) st.answered (peer_ends m t) (cond (is_informational fields && not ends) t last) (same_ends m t)
    (either (Same t) (is_informational fields && not ends) t last refl
    (either (Same t) (is_malformed_response fields || is_informational fields) (refused_response m t) (headed m ends fields t) bad heads))

same_head : (m : ℕ) (ends : Bool) (fields : List Field) (t : State) → Same t (head_of m ends fields t)
unfolding head_of
same_head m ends fields t =
    let trailers : State = if_open (stream_at t.streams m) t (λ st. peer_ends m t) in
    either (Same t) (is_client t.role) (if_open (stream_at t.streams m) t (λ st. response m ends fields st t)) (cond (ltb t.opened m) (request m ends fields t) trailers)
    (open_or (Same t) (stream_at t.streams m) t (λ st. response m ends fields st t) refl (λ st. same_response m ends fields st t))
    (either (Same t) (ltb t.opened m) (request m ends fields t) trailers (same_request m ends fields t)
    (open_or (Same t) (stream_at t.streams m) t (λ st. peer_ends m t) refl (λ st. same_ends m t)))

-- the table is small
abbrev Small : State → Type 0
Small s = IsSmallTable s.decoder

small_by : (s t : State) → Same s t → Small s → Small t
small_by s t e h = subst IsSmallTable (sym e) h

small_decoded : (m : ℕ) (ends : Bool) (t : State) (r : Result Progress HpackFault) → OkTable r → Small t → Small (decoded m ends t r)
small_decoded m ends t (Ok p) k h = subst IsSmallTable (sym (same_head m ends p.fields (record t { block = None; decoder = p.table }))) k
small_decoded m ends t (Err e) k h = h

small_block : (f : Frame) (t : State) → Small t → Small (block_of_headers f t)
unfolding block_of_headers block_grown
small_block f t h =
    either Small (ends_block f) (decoded f.stream (block_ends t.block f) t (read_block t.decoder (block_with t f))) (block_grown f t)
    (small_decoded f.stream (block_ends t.block f) t (read_block t.decoder (block_with t f)) (block_small t.decoder (block_with t f) h) h) h

-- ---- frames

small_effect : (s : State) (f : Frame) → Small s → Small (effect s f)
unfolding effect
small_effect s f h =
    let block : State = cond (eqb f.kind 1 || eqb f.kind 9) (block_of_headers f s) (others s f) in
    either Small (eqb f.kind 0) (data_of f s (stream_at s.streams f.stream)) block (small_by s (data_of f s (stream_at s.streams f.stream)) (same_data f s (stream_at s.streams f.stream)) h)
    (either Small (eqb f.kind 1 || eqb f.kind 9) (block_of_headers f s) (others s f) (small_block f s h) (small_by s (others s f) (same_others s f) h))

small_judged : (s : State) (f : Frame) (o : Option ℕ) → Small s → Small (judged s f o)
unfolding fail
small_judged s f (Some code) h = first_small
small_judged s f None h = small_effect (record s { began = true }) f h

small_frame : (s : State) (f : Frame) → Small s → Small (after_frame s f)
unfolding after_frame
small_frame s f h = either Small (is_some s.failed) s (judged s f (verdict s f)) h (small_judged s f (verdict s f) h)

small_frames : (s : State) (fs : List Frame) → Small s → Small (after_frames s fs)
unfolding after_frames
small_frames s [] h = h
small_frames s (f ∷ fs) h = small_frames (after_frame s f) fs (small_frame s f h)

small_fault : (s : State) (o : Option FrameFault) → Small s → Small (after_fault s o)
unfolding fail
small_fault s None h = h
small_fault s (Some fault) h = either Small (is_some s.failed) s (fail (frame_code fault.reason) s) h h

small_piece : (c : Connection) (piece : List ℕ) → Small c.state → Small (after_piece c piece).state
unfolding after_piece
small_piece c piece h = by_failed (is_some c.state.failed)
  where
    s : State
    s = after_fault (after_frames c.state (frames_in c.cutter piece)) (fault_in (after_bytes c.cutter piece).phase)

    by_failed : (b : Bool) → Small (cond b c (record { cutter = after_bytes c.cutter piece; state = s })).state
    by_failed true = h
    by_failed false = small_fault (after_frames c.state (frames_in c.cutter piece)) (fault_in (after_bytes c.cutter piece).phase) (small_frames c.state (frames_in c.cutter piece) h)

-- ---- an act

same_move : (s : State) (move : Move) → Same s (after_move s move)
unfolding after_move
same_move s move = by_move move (stream_at s.streams (target move))
  where
    by_move : (k : Move) (x : Option Stream) → Same s (made s k x)
    by_move GrantAll x = refl
    by_move (Grant k) None = refl
    by_move (Grant k) (Some st) = refl
    by_move (Send k count) None = refl
    by_move (Send k count) (Some st) = refl
    by_move (End k) None = refl
    by_move (End k) (Some st) = refl
    by_move (Stop k) None = refl
    by_move (Stop k) (Some st) = refl

small_act : (c : Connection) (a : Act) → Small c.state → Small (after c a).state
unfolding after_take after_begin after_queue after_finish after_answer after_reset after_took
small_act c (Feeds piece) h = small_piece c piece h
small_act c (Tells count) h = h
small_act c (Takes m count) h = h
small_act c (Begins fields) h = h
small_act c (Answers m fields) h =
    let t : State = record c.state { streams = change c.state.streams m (λ st. record st { answered = true }); encoder = true } in
    small_by c.state (after_answer m fields c.state) (same_reply (headers_frames m 0 (block_of c.state.encoder fields)) c.state t refl) h
small_act c (Queues m bytes) h = h
small_act c (Finishes m trailers) h = h
small_act c (Resets m code) h = small_by c.state (after_reset m code c.state) (same_reply (reset_frame m code) c.state (on_stream m shut c.state) refl) h
small_act c (Makes move) h = small_by c.state (after_move c.state move) (same_move c.state move) h
small_act c (Writes count) h = h

small_first : (role : Role) → Small (begins role).connection.state
unfolding fresh fresh_state
small_first role = first_small

pub tables_are_small : TablesAreSmall
tables_are_small = every_life (λ n role c. Small c.connection.state) (λ n role. record { first = small_first role; step = λ c a ok h p. small_act c.connection a p })
