-- The heads of calls, read again.
use Rattle.std.proofs.Common.{◌≡◌, ℕ, true, List, [], ◌++◌, refl, Ok}
use Rattle.std.specs.Str.{is_utf8}
use Rattle.kn_route.specs.declared.id_kind.IdKind.{IdKind}
use Rattle.kn_route.specs.Identifiers.{identifiers_in}
use Rattle.kn_grpc.specs.declared.call.Service.TheVariants.{Agent, Proxy}
use Rattle.kn_grpc.specs.Calls.{service_of, is_id, agent_call, call_of, call_in}
use Rattle.kn_grpc.specs.CallHeads.{content_type, path_of, request_fields, agent_fields}

pub proxy_read : (authority id text : List ℕ) → call_in (request_fields Proxy authority ++ agent_fields Proxy id text) ≡ Ok (call_of Proxy [] [])
unfolding call_in service_of request_fields agent_fields content_type path_of
proxy_read authority id text = refl

agent_is : (id text : List ℕ) (pairs : List (IdKind × List ℕ)) → is_utf8 text ≡ true → identifiers_in text ≡ Ok pairs → is_id id ≡ true → agent_call text id ≡ Ok (call_of Agent id pairs)
unfolding agent_call
agent_is id text pairs u e i = rw (u, e, i)

pub agent_read : (authority id text : List ℕ) (pairs : List (IdKind × List ℕ)) → is_utf8 text ≡ true → identifiers_in text ≡ Ok pairs → is_id id ≡ true →
    call_in (request_fields Agent authority ++ agent_fields Agent id text) ≡ Ok (call_of Agent id pairs)
unfolding call_in service_of request_fields agent_fields content_type path_of
agent_read authority id text pairs u e i = agent_is id text pairs u e i
