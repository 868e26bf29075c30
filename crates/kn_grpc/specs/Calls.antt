-- What a request head asks for (gRPC over HTTP/2, "Requests").
use Rattle.std.specs.Prelude.{◌≡◌, ℕ, ◌-◌, Bool, not, List, [], ◌∷◌, length, take, slice_index, ◌==◌, nat_eq, nat_le, ◌&&◌, ◌||◌, if◌then◌else◌, codes, bytes_eq, Option, Some, None, Result, Ok, Err, ⊤}
use Rattle.std.specs.List.{starts_with, ends_with}
use Rattle.std.specs.Str.{is_utf8}
use Rattle.kn_hpack.specs.Fields.{Field}
use Rattle.kn_route.specs.declared.id_kind.IdKind.{IdKind}
use Rattle.kn_route.specs.declared.identifiers.IdFault.{IdFault}
use Rattle.kn_route.specs.Identifiers.{identifiers_in}
use Rattle.kn_grpc.specs.declared.call.Service.{Service}
use Rattle.kn_grpc.specs.declared.call.Service.TheVariants.{Agent, Proxy}
use Rattle.kn_grpc.specs.declared.call.Call.{Call}
use Rattle.kn_grpc.specs.declared.call.CallFault.{CallFault}
use Rattle.kn_grpc.specs.declared.call.CallFault.TheVariants.{NotPost, Path, ContentType, Identifiers}
use Rattle.kn_grpc.specs.declared.call.CallError.{CallError}
use Rattle.kn_grpc.specs.declared.call.CallError.TheVariants.{NoMemory, Fault}

-- the value of the first field of this name, or nothing where there is none
abbrev pub value_in : List ℕ → List Field → List ℕ
value_in name [] = []
value_in name (f ∷ fs) = if bytes_eq f.name name then f.value else value_in name fs

-- what may stand before a service's name: a slash, or behind another byte than a slash a dot, which ends a package
abbrev pub may_precede : List ℕ → Bool
may_precede front =
    (slice_index front (length front - 1) == 47)
    || ((slice_index front (length front - 1) == 46) && not (slice_index front (length front - 2) == 47))

-- the last two segments are these, the first of them alone or behind a package and a dot
abbrev pub ends_in : List ℕ → List ℕ → Bool
ends_in path segments = ends_with nat_eq path segments && may_precede (take (length path - length segments) path)

-- the service that a path names; it begins with a slash
unfoldable pub service_of : List ℕ → Option Service
service_of path =
    if slice_index path 0 == 47
    then (if ends_in path (codes "AgentService/Connect") then Some Agent
    else (if ends_in path (codes "ProxyService/Proxy") then Some Proxy else None))
    else None

-- an agent's id of at most 1,024 bytes
abbrev pub is_id : List ℕ → Bool
is_id id = is_utf8 id && nat_le (length id) 1024

abbrev pub call_of : Service → List ℕ → List (IdKind × List ℕ) → Call
call_of service id identifiers = record { service = service; agent_id = id; identifiers = identifiers }

abbrev pub agent_by : Result (List (IdKind × List ℕ)) IdFault → List ℕ → Result Call CallFault
agent_by (Ok identifiers) id = if is_id id then Ok (call_of Agent id identifiers) else Err Identifiers
agent_by (Err fault) id = Err Identifiers

-- an agent's call, by its identifiers and its id
unfoldable pub agent_call : List ℕ → List ℕ → Result Call CallFault
agent_call text id = if is_utf8 text then agent_by (identifiers_in text) id else Err Identifiers

-- the service that the path of a head names, where the method is POST
unfoldable pub service_in_path : List Field → Option Service
service_in_path fields =
    if bytes_eq (value_in (codes ":method") fields) (codes "POST") then service_of (value_in (codes ":path") fields) else None

abbrev pub call_for : Service → List Field → Result Call CallFault
call_for Agent fields = agent_call (value_in (codes "agentidentifiers") fields) (value_in (codes "agentid") fields)
call_for Proxy fields = Ok (call_of Proxy [] [])

abbrev pub call_at : Option Service → List Field → Result Call CallFault
call_at None fields = Err Path
call_at (Some service) fields =
    if starts_with nat_eq (value_in (codes "content-type") fields) (codes "application/grpc") then call_for service fields else Err ContentType

-- the call that a head asks for, or the first fault
unfoldable pub call_in : List Field → Result Call CallFault
call_in fields =
    if bytes_eq (value_in (codes ":method") fields) (codes "POST") then call_at (service_of (value_in (codes ":path") fields)) fields else Err NotPost

-- the answer is the expected one, or that memory was wanting
abbrev pub IsCallAnswer : Result Call CallFault → Result Call CallError → Type 0
IsCallAnswer expected (Ok call) = expected ≡ Ok call
IsCallAnswer expected (Err NoMemory) = ⊤
IsCallAnswer expected (Err (Fault fault)) = expected ≡ Err fault
