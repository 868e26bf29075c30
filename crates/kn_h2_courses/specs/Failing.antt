-- When a connection has failed, and with which code (RFC 9113, section 5.4.1).
use Rattle.std.specs.Prelude.{◌≡◌, ◌⊎◌, ◌↔◌, ℕ, ◌+◌, nat_lt, Bool, true, List, ◌∷◌, ◌++◌, length, Option, Some, None}
use Rattle.kn_frames.specs.declared.fault.FrameFault.{FrameFault}
use Rattle.kn_frames.specs.Readers.{after_bytes, frames_in, fault_in}
use Rattle.kn_hpack.specs.Encoding.{block_of}
use Rattle.kn_h2_state.specs.declared.role.Role.{Role}
use Rattle.kn_h2_state.specs.declared.state.State.{State}
use Rattle.kn_h2_state.specs.Limits.{reply_limit}
use Rattle.kn_h2_state.specs.Outgoing.{reply_bytes}
use Rattle.kn_h2_state.specs.Payloads.{reset_frame}
use Rattle.kn_h2_state.specs.Feeding.{Connection, after_frames, frame_code}
use Rattle.kn_h2_state.specs.Moves.{headers_frames}
use Rattle.kn_h2_state.specs.Laws.{FailsAt}
use Rattle.kn_h2_courses.specs.Courses.{Act, Feeds, Tells, Takes, Begins, Answers, Queues, Finishes, Resets, Makes, Writes, Course, begins, after_acts, MayDoAll}

-- bytes are no frame, for a reason with this code
abbrev pub IsFaultCode : Option FrameFault → ℕ → Type 0
IsFaultCode None code = ⊥
IsFaultCode (Some fault) code = code ≡ frame_code fault.reason

-- this reply would be one too many (section 10.5)
abbrev pub is_one_too_many : State → List ℕ → Bool
is_one_too_many s frame = nat_lt reply_limit (reply_bytes s.out + length frame)

-- The act brings the end with this code: a frame of the piece is the first to break a rule, or the reply to it is one too
-- many; or all frames of the piece are taken, and what follows is no frame; or a call writes the reply that is one too many.
abbrev pub Fells : Connection → Act → ℕ → Type 0
Fells c (Feeds piece) code = FailsAt c.state (frames_in c.cutter piece) code
    ⊎ (((after_frames c.state (frames_in c.cutter piece)).failed ≡ None) × IsFaultCode (fault_in (after_bytes c.cutter piece).phase) code)
Fells c (Tells count) code = ⊥
Fells c (Takes m count) code = ⊥
Fells c (Begins fields) code = ⊥
Fells c (Answers m fields) code = (is_one_too_many c.state (headers_frames m 0 (block_of c.state.encoder fields)) ≡ true) × (code ≡ 11)
Fells c (Queues m bytes) code = ⊥
Fells c (Finishes m trailers) code = ⊥
Fells c (Resets m reason) code = (is_one_too_many c.state (reset_frame m reason) ≡ true) × (code ≡ 11)
Fells c (Makes move) code = ⊥
Fells c (Writes count) code = ⊥

-- one of the acts does, and those before it do not
abbrev pub IsFelled : ℕ → Course → List Act → ℕ → Type 0
IsFelled n c acts code = (before : List Act) × (a : Act) × (later : List Act) × (acts ≡ before ++ a ∷ later)
    × ((after_acts n c before).connection.state.failed ≡ None) × Fells (after_acts n c before).connection a code

abbrev pub FailsWhereFelled : Type 0
FailsWhereFelled = (n : ℕ) (role : Role) (acts : List Act) (code : ℕ) → MayDoAll n (begins role) acts
    → ((after_acts n (begins role) acts).connection.state.failed ≡ Some code) ↔ IsFelled n (begins role) acts code
