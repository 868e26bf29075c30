-- Each head of our own stands in one frame.
use Rattle.std.proofs.Common.{◌≡◌, ℕ, ◌^◌, ◌<◌, ◌≤◌, ◌+◌, ◌*◌, Bool, List, [], ◌∷◌, ◌++◌, Option, Some, None, length, sym, ap, ◌∙◌, subst, arith}
use Rattle.std.specs.Fmt.{digits}
use Rattle.kn_frames.specs.declared.frame.Frame.{Frame}
use Rattle.kn_hpack.specs.Fields.{Field, total}
use Rattle.kn_hpack.specs.Encoding.{block_of}
use Rattle.kn_hpack.specs.RoundTrip.{IsSmallList}
use Rattle.kn_grpc.specs.declared.call.Service.{Service}
use Rattle.kn_grpc.specs.declared.call.Service.TheVariants.{Agent, Proxy}
use Rattle.kn_grpc.specs.declared.call.CallFault.{CallFault}
use Rattle.kn_grpc.specs.declared.call.CallFault.TheVariants.{NotPost, Path, ContentType, Identifiers}
use Rattle.kn_grpc.specs.CallHeads.{content_type, path_of, agent_fields, request_fields, server_count, server_fields, status_field, grpc_status, refusal_fields}
use Rattle.kn_grpc.specs.OwnHeads.{call_fields, answer_fields}
use Rattle.kn_h2_state.specs.declared.moves.Move.TheVariants.{End}
use Rattle.kn_h2_state.specs.InStep.{OwnBlocksAreShort}
use Rattle.kn_h2_state.specs.Limits.{frame_limit}
use Rattle.kn_h2_state.specs.Outgoing.{reply_bytes}
use Rattle.kn_h2_state.specs.Moves.{can_end, headers_frames}
use Rattle.kn_h2_state.specs.Wire.{head_list, move_frames}
use Rattle.kn_h2_state.proofs.FrameLemmas.{length_spelled}
use Rattle.kn_h2.specs.Written.{begin_list}
use Rattle.kn_h2.proofs.FoundLemmas.{found_open}
use Rattle.kn_h2.proofs.HeadLemmas.{head_last}
use Rattle.kn_h2.proofs.MoveLemmas.{move_parts}
use Rattle.kn_facing.specs.Facing.{asking}
use Rattle.kn_facing.specs.Faces.{IsOneFrame, BeginKeepsFaces, AnswerKeepsFaces, EndKeepsFaces}
use Rattle.kn_facing.proofs.BeginStep.{head_frames}
use Rattle.kn_facing.proofs.EndStep.{end_frames_of}
use Rattle.kn_facing.proofs.ListSums.{asking-append}
use Rattle.kn_call_heads.specs.OneFrame.{CallsAreOneFrame, AnswersAreOneFrame, RefusalsAreOneFrame, EndsAreOneFrame, CallsKeepFaces, AnswersKeepFaces, EndsKeepFaces}
use Rattle.kn_call_heads.proofs.HeadFacts.{calls_are_requests, answers_are_heads}
use Rattle.kn_call_heads.proofs.SizeFacts.{number_is_short, calls_are_small, answers_are_small, refusals_are_small, ends_are_small}

-- ---- how much each counts

call_total : (service : Service) (authority id identifiers : List ℕ) → length authority + length id + length identifiers ≤ 16000 → total (call_fields service authority id identifiers) ≤ 16383
unfolding request_fields agent_fields content_type path_of
call_total Agent authority id identifiers fits = omega (arith, fits)
call_total Proxy authority id identifiers fits = omega (arith, fits)

answer_total : (service : Service) (id : List ℕ) (count : ℕ) → count < 2 ^ 32 → total (answer_fields service id count) ≤ 200 + length id
unfolding server_fields server_count status_field content_type digits
answer_total Agent id count n = omega (arith, number_is_short count n)
answer_total Proxy id count n = omega arith

refusal_total : (fault : CallFault) → total (refusal_fields fault) ≤ 200
unfolding refusal_fields status_field grpc_status content_type digits
refusal_total NotPost = omega arith
refusal_total Path = omega arith
refusal_total ContentType = omega arith
refusal_total Identifiers = omega arith

end_total : (status : ℕ) → status < 2 ^ 32 → total (grpc_status status ∷ []) ≤ 200
unfolding grpc_status
end_total status n = omega (arith, number_is_short status n)

-- ---- each in one frame

one_frame : OwnBlocksAreShort → (wrote : Bool) (fields : List Field) → IsSmallList fields → total fields ≤ 16383 → IsOneFrame wrote fields
one_frame short wrote fields small counts = record { small = small; short = let e = short wrote fields in omega (arith, e, counts) }

pub calls_are_one_frame : OwnBlocksAreShort → CallsAreOneFrame
calls_are_one_frame short wrote service authority id identifiers t =
    one_frame short wrote (call_fields service authority id identifiers) (calls_are_small service authority id identifiers t.authority_bytes t.id_bytes t.identifiers_bytes t.short)
    (call_total service authority id identifiers t.short)

pub answers_are_one_frame : OwnBlocksAreShort → AnswersAreOneFrame
answers_are_one_frame short wrote service id count t =
    one_frame short wrote (answer_fields service id count) (answers_are_small service id count t.bytes t.short t.number)
    (let e = answer_total service id count t.number in let low = t.short in omega (arith, e, low))

pub refusals_are_one_frame : OwnBlocksAreShort → RefusalsAreOneFrame
refusals_are_one_frame short wrote fault = one_frame short wrote (refusal_fields fault) (refusals_are_small fault) (let e = refusal_total fault in omega (arith, e))

pub ends_are_one_frame : OwnBlocksAreShort → EndsAreOneFrame
ends_are_one_frame short wrote status n = one_frame short wrote (grpc_status status ∷ []) (ends_are_small status n) (let e = end_total status n in omega (arith, e))

-- ---- two ends that face each other

one_asks : (n flags : ℕ) (block : List ℕ) → length block ≤ frame_limit → asking (head_list n flags block) ≡ 1
unfolding asking
one_asks n flags block short = ap (λ (fs : List Frame). asking fs) (head_frames n flags block short)

has_room : (out : ℕ) (ab fs : List Frame) → asking fs ≡ 1 → out + 17 * (asking ab + 1) ≤ 32768 → out + 17 * asking (ab ++ fs) ≤ 32768
has_room out ab fs one room = let e = asking-append ab fs in omega (arith, e, one, room)

pub calls_keep_faces : OwnBlocksAreShort → BeginKeepsFaces → CallsKeepFaces
calls_keep_faces short begin a b ab ba service authority id identifiers h client none t room =
    begin a b ab ba fields h client none (calls_are_requests service authority id identifiers) one (has_room (reply_bytes b.out) ab (begin_list a fields) (one_asks _ 0 (block_of a.encoder fields) one.short) room)
  where
    fields : List Field
    fields = call_fields service authority id identifiers

    one : IsOneFrame a.encoder fields
    one = calls_are_one_frame short a.encoder service authority id identifiers t

-- the frame of a head is nine bytes longer than its block
head_long : (n : ℕ) (block : List ℕ) → length block ≤ frame_limit → length (headers_frames n 0 block) ≡ 9 + length block
head_long n block short = ap (λ (l : List ℕ). length l) (head_last n 0 block short) ∙ length_spelled 1 4 n block

pub answers_keep_faces : OwnBlocksAreShort → AnswerKeepsFaces → AnswersKeepFaces
answers_keep_faces short answer a b ab ba n service id count h server fits first t room room_b =
    answer a b ab ba n fields h server fits first (let r = answers_are_heads service id count in record { formed = r.formed; last = r.last }) one
    (let e = short a.encoder fields in let few = answer_total service id count t.number in let long = head_long n (block_of a.encoder fields) one.short in omega (arith, e, few, long, room))
    (has_room (reply_bytes b.out) ab (head_list n 0 (block_of a.encoder fields)) (one_asks n 0 (block_of a.encoder fields) one.short) room_b)
  where
    fields : List Field
    fields = answer_fields service id count

    one : IsOneFrame a.encoder fields
    one = answers_are_one_frame short a.encoder service id count t

some_is : (x y : List Field) → Some x ≡ Some y → y ≡ x
some_is x y e = ap value (sym e)
  where
    value : Option (List Field) → List Field
    value None = x
    value (Some z) = z

pub ends_keep_faces : OwnBlocksAreShort → EndKeepsFaces → EndsKeepFaces
ends_keep_faces short end a b ab ba n status h server ok small finish room =
    end a b ab ba n h server ok
    (λ st trailers at e. subst (λ (fs : List Field). IsOneFrame a.encoder fs) (some_is trailers fields (sym e ∙ finish st at)) one)
    (has_room (reply_bytes b.out) ab (move_frames a (End n)) (ap (λ (fs : List Frame). asking fs) frames ∙ one_asks n 1 (block_of a.encoder fields) one.short) room)
  where
    fields : List Field
    fields = grpc_status status ∷ []

    one : IsOneFrame a.encoder fields
    one = ends_are_one_frame short a.encoder status small

    frames : move_frames a (End n) ≡ head_list n 1 (block_of a.encoder fields)
    frames =
        let here = found_open a.streams n can_end (move_parts a (End n) ok).due in
        end_frames_of a n here.0 fields server here.1.found (finish here.0 here.1.found)
