-- What the heads of our own calls are to a connection of HTTP/2 (RFC 9113, sections 8.1 and 8.3).
use Rattle.std.specs.Prelude.{◌≡◌, ℕ, ◌+◌, ◌^◌, ◌<◌, ◌≤◌, false, List, [], ◌∷◌, length}
use Rattle.std.specs.List.{list_any}
use Rattle.kn_hpack.specs.Strings.{IsBytes}
use Rattle.kn_hpack.specs.Fields.{Field}
use Rattle.kn_hpack.specs.RoundTrip.{IsSmallList}
use Rattle.kn_grpc.specs.declared.call.Service.{Service}
use Rattle.kn_grpc.specs.declared.call.CallFault.{CallFault}
use Rattle.kn_grpc.specs.CallHeads.{grpc_status, refusal_fields}
use Rattle.kn_grpc.specs.OwnHeads.{call_fields, answer_fields}
use Rattle.kn_h2_state.specs.Heads.{is_pseudo, is_bad_name, is_malformed_request, is_malformed_response, is_informational}

-- a server takes them as a request, which is not malformed
abbrev pub CallsAreRequests : Type 0
CallsAreRequests = (service : Service) (authority id identifiers : List ℕ) → is_malformed_request (call_fields service authority id identifiers) ≡ false

-- a client takes them as the head of a response: not malformed, and no interim one
pub record IsHead (fields : List Field) : Type 0 where
  pub formed : is_malformed_response fields ≡ false
  pub last : is_informational fields ≡ false

abbrev pub AnswersAreHeads : Type 0
AnswersAreHeads = (service : Service) (id : List ℕ) (count : ℕ) → IsHead (answer_fields service id count)

abbrev pub RefusalsAreHeads : Type 0
RefusalsAreHeads = (fault : CallFault) → IsHead (refusal_fields fault)

-- what may stand behind the text: no name is bad, and none is of a pseudo header
pub record AreTrailers (fields : List Field) : Type 0 where
  pub names : list_any is_bad_name fields ≡ false
  pub pseudo : list_any is_pseudo fields ≡ false

abbrev pub EndsAreTrailers : Type 0
EndsAreTrailers = (status : ℕ) → AreTrailers (grpc_status status ∷ [])

-- ---- none is too large for a peer (RFC 9113, section 6.5.2)

abbrev pub CallsAreSmall : Type 0
CallsAreSmall = (service : Service) (authority id identifiers : List ℕ) → IsBytes authority → IsBytes id → IsBytes identifiers
    → length authority + length id + length identifiers ≤ 16000 → IsSmallList (call_fields service authority id identifiers)

abbrev pub AnswersAreSmall : Type 0
AnswersAreSmall = (service : Service) (id : List ℕ) (count : ℕ) → IsBytes id → length id ≤ 16000 → count < 2 ^ 32 → IsSmallList (answer_fields service id count)

abbrev pub RefusalsAreSmall : Type 0
RefusalsAreSmall = (fault : CallFault) → IsSmallList (refusal_fields fault)

abbrev pub EndsAreSmall : Type 0
EndsAreSmall = (status : ℕ) → status < 2 ^ 32 → IsSmallList (grpc_status status ∷ [])
