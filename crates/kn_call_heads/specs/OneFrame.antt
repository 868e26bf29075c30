-- Heads of our own between two ends that face each other: each stands in one frame.
use Rattle.std.specs.Prelude.{◌≡◌, ℕ, ◌+◌, ◌*◌, ◌^◌, ◌<◌, ◌≤◌, Bool, true, false, List, [], ◌∷◌, ◌++◌, length, None, Some}
use Rattle.kn_frames.specs.declared.frame.Frame.{Frame}
use Rattle.kn_hpack.specs.Strings.{IsBytes}
use Rattle.kn_hpack.specs.Encoding.{block_of}
use Rattle.kn_grpc.specs.declared.call.Service.{Service}
use Rattle.kn_grpc.specs.declared.call.CallFault.{CallFault}
use Rattle.kn_grpc.specs.CallHeads.{grpc_status, refusal_fields}
use Rattle.kn_grpc.specs.OwnHeads.{call_fields, answer_fields}
use Rattle.kn_h2_state.specs.declared.moves.Move.TheVariants.{End}
use Rattle.kn_h2_state.specs.declared.stream.Stream.{Stream}
use Rattle.kn_h2_state.specs.declared.state.State.{State}
use Rattle.kn_h2_state.specs.Outgoing.{reply_bytes}
use Rattle.kn_h2_state.specs.Streams.{stream_at, on_open}
use Rattle.kn_h2_state.specs.Rules.{is_client}
use Rattle.kn_h2_state.specs.Calls.{refusal, takes_more, after_begin, after_answer}
use Rattle.kn_h2_state.specs.Moves.{may, after_move}
use Rattle.kn_h2_state.specs.Wire.{head_list, move_frames}
use Rattle.kn_h2.specs.Written.{begin_list}
use Rattle.kn_facing.specs.Facing.{asking}
use Rattle.kn_facing.specs.Faces.{IsOneFrame, Faces}

-- what goes into the head of a call: bytes, and not too many together
pub record AreCallTexts (authority id identifiers : List ℕ) : Type 0 where
  pub authority_bytes : IsBytes authority
  pub id_bytes : IsBytes id
  pub identifiers_bytes : IsBytes identifiers
  pub short : length authority + length id + length identifiers ≤ 16000

-- and into that of its answer
pub record AreAnswerTexts (id : List ℕ) (count : ℕ) : Type 0 where
  pub bytes : IsBytes id
  pub short : length id ≤ 16000
  pub number : count < 2 ^ 32

-- ---- each head in one frame, whatever its end wrote before

abbrev pub CallsAreOneFrame : Type 0
CallsAreOneFrame = (wrote : Bool) (service : Service) (authority id identifiers : List ℕ) → AreCallTexts authority id identifiers → IsOneFrame wrote (call_fields service authority id identifiers)

abbrev pub AnswersAreOneFrame : Type 0
AnswersAreOneFrame = (wrote : Bool) (service : Service) (id : List ℕ) (count : ℕ) → AreAnswerTexts id count → IsOneFrame wrote (answer_fields service id count)

abbrev pub RefusalsAreOneFrame : Type 0
RefusalsAreOneFrame = (wrote : Bool) (fault : CallFault) → IsOneFrame wrote (refusal_fields fault)

abbrev pub EndsAreOneFrame : Type 0
EndsAreOneFrame = (wrote : Bool) (status : ℕ) → status < 2 ^ 32 → IsOneFrame wrote (grpc_status status ∷ [])

-- ---- so two ends that face each other go on to do so

-- where a client begins its call
abbrev pub CallsKeepFaces : Type 0
CallsKeepFaces = (a b : State) (ab ba : List Frame) (service : Service) (authority id identifiers : List ℕ) → Faces a b ab ba → is_client a.role ≡ true → a.opened ≡ 0 → AreCallTexts authority id identifiers
    → reply_bytes b.out + 17 * (asking ab + 1) ≤ 32768
    → Faces (after_begin (call_fields service authority id identifiers) a) b (ab ++ begin_list a (call_fields service authority id identifiers)) ba

-- where a server answers it
abbrev pub AnswersKeepFaces : Type 0
AnswersKeepFaces = (a b : State) (ab ba : List Frame) (n : ℕ) (service : Service) (id : List ℕ) (count : ℕ) → Faces a b ab ba → is_client a.role ≡ false → refusal takes_more a n ≡ None
    → on_open a.streams n (λ st. st.answered) ≡ false → AreAnswerTexts id count → reply_bytes a.out + 256 + length id + 17 * asking ba ≤ 32768 → reply_bytes b.out + 17 * (asking ab + 1) ≤ 32768
    → Faces (after_answer n (answer_fields service id count) a) b (ab ++ head_list n 0 (block_of a.encoder (answer_fields service id count))) ba

-- and where it ends it
abbrev pub EndsKeepFaces : Type 0
EndsKeepFaces = (a b : State) (ab ba : List Frame) (n status : ℕ) → Faces a b ab ba → is_client a.role ≡ false → may a (End n) ≡ true → status < 2 ^ 32
    → ((st : Stream) → stream_at a.streams n ≡ Some st → st.finish ≡ Some (grpc_status status ∷ [])) → reply_bytes b.out + 17 * (asking ab + 1) ≤ 32768
    → Faces (after_move a (End n)) b (ab ++ move_frames a (End n)) ba
