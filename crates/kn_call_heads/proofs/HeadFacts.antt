-- What the heads of our own calls are to a connection of HTTP/2.
use Rattle.std.proofs.Common.{refl}
use Rattle.std.specs.Fmt.{digits}
use Rattle.kn_grpc.specs.declared.call.Service.TheVariants.{Agent, Proxy}
use Rattle.kn_grpc.specs.declared.call.CallFault.TheVariants.{NotPost, Path, ContentType, Identifiers}
use Rattle.kn_grpc.specs.CallHeads.{content_type, path_of, agent_fields, request_fields, server_count, server_fields, status_field, grpc_status, refusal_fields}
use Rattle.kn_h2_state.specs.Heads.{is_late, is_malformed, is_malformed_request, is_malformed_response, is_informational}
use Rattle.kn_call_heads.specs.OwnHeads.{CallsAreRequests, AnswersAreHeads, RefusalsAreHeads, EndsAreTrailers}

pub calls_are_requests : CallsAreRequests
unfolding is_malformed_request is_malformed is_late request_fields agent_fields content_type path_of
calls_are_requests Agent authority id identifiers = refl
calls_are_requests Proxy authority id identifiers = refl

pub answers_are_heads : AnswersAreHeads
unfolding is_malformed_response is_malformed is_late is_informational server_fields server_count status_field content_type digits
answers_are_heads Agent id count = record { formed = refl; last = refl }
answers_are_heads Proxy id count = record { formed = refl; last = refl }

pub refusals_are_heads : RefusalsAreHeads
unfolding is_malformed_response is_malformed is_late is_informational refusal_fields status_field grpc_status content_type digits
refusals_are_heads NotPost = record { formed = refl; last = refl }
refusals_are_heads Path = record { formed = refl; last = refl }
refusals_are_heads ContentType = record { formed = refl; last = refl }
refusals_are_heads Identifiers = record { formed = refl; last = refl }

pub ends_are_trailers : EndsAreTrailers
unfolding grpc_status
ends_are_trailers status = record { names = refl; pseudo = refl }
