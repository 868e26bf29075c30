-- The heads that this crate makes: of a call, and of the answer to one that is accepted.
use Rattle.std.specs.Prelude.{ℕ, List, [], ◌∷◌, ◌++◌}
use Rattle.kn_hpack.specs.Fields.{Field}
use Rattle.kn_grpc.specs.declared.call.Service.{Service}
use Rattle.kn_grpc.specs.CallHeads.{content_type, agent_fields, request_fields, server_fields, status_field}

-- the head of a call: a request, and what an agent says of itself
abbrev pub call_fields : Service → List ℕ → List ℕ → List ℕ → List Field
call_fields service authority id identifiers = request_fields service authority ++ agent_fields service id identifiers

-- the head of its answer: status 200, the type of the content, and what a server says of itself
abbrev pub answer_fields : Service → List ℕ → ℕ → List Field
answer_fields service id count = (status_field 200 ∷ content_type ∷ []) ++ server_fields service id count
