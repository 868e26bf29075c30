-- Calls that come: heads on streams, and heads of CONNECT.
use Rattle.std.specs.Prelude.{◌≡◌, ℕ, pos, ◌+◌, nat_le, Bool, true, false, ◌||◌, List, [], ◌∷◌, ◌++◌, length, filter, codes, Option, Some, None, Result, Ok, Err, if◌then◌else◌}
use Rattle.kn_hpack.specs.Fields.{Field}
use Rattle.kn_packet.specs.declared.packet.Packet.TheVariants.{DialReq}
use Rattle.kn_route.specs.declared.id_kind.IdKind.{IdKind}
use Rattle.kn_grpc.specs.declared.call.Service.{Service}
use Rattle.kn_grpc.specs.declared.call.Service.TheVariants.{Agent, Proxy}
use Rattle.kn_grpc.specs.declared.call.Call.{Call}
use Rattle.kn_grpc.specs.declared.call.CallFault.{CallFault}
use Rattle.kn_grpc.specs.declared.call.CallFault.TheVariants.{Path}
use Rattle.kn_grpc.specs.Calls.{call_in, service_in_path}
use Rattle.kn_grpc.specs.CallHeads.{content_type, server_fields, status_field, refusal_fields}
use Rattle.kn_connect.specs.declared.answer.ConnectError.{ConnectError}
use Rattle.kn_connect.specs.declared.answer.ConnectError.TheVariants.{NoMemory, Fault}
use Rattle.kn_connect.specs.declared.answer.ConnectAnswer.{ConnectAnswer}
use Rattle.kn_connect.specs.declared.answer.ConnectAnswer.TheVariants.{More, Head}
use Rattle.kn_connect.specs.Answers.{IsGiven}
use Rattle.kn_connect.specs.Statuses.{fault_status}
use Rattle.kn_server_core.specs.declared.event.ServerEvent.TheVariants.{LinkUp, FrontUp, FrontPacket}
use Rattle.kn_ends.specs.declared.who.Who.{Who}
use Rattle.kn_ends.specs.declared.who.Who.TheVariants as who
use Rattle.kn_ends.specs.Carriers.{finish_stream, reset_stream, without_events}
use Rattle.kn_rising.specs.Members.{Members, at, inserted}
use Rattle.kn_server_node.specs.declared.end.End.{End}
use Rattle.kn_server_node.specs.declared.end.End.TheVariants.{Streams, Connect}
use Rattle.kn_server_node.specs.declared.place.Place.{Place}
use Rattle.kn_server_node.specs.declared.node.Node.{Node}
use Rattle.kn_server_node.specs.Doors as door
use Rattle.kn_ends.specs.Queues.{tagged}
use Rattle.kn_server_node.specs.Ends.{on_carrier, on_door, accepted, counts_on, events_in, HearsHead}
use Rattle.kn_server_node.specs.Nodes.{on_end, event}

-- ---- what connections tell is kept in its order

abbrev pub collect : ℕ → Node → Node
collect conn node = record (on_end conn (on_carrier without_events) node) { told = node.told ++ tagged conn (events_in (at node.ends conn)) }

-- ---- limits

abbrev pub counts : Members End → Place → Bool
counts ends p = counts_on p.stream (at ends p.conn)

abbrev pub count_of : Members End → List Place → ℕ
count_of ends ps = length (filter (counts ends) ps)

-- so many count already, or the numbers below 2^63 − 1 are used up
abbrev pub is_full : Members End → List Place → List Place → ℕ → ℕ → Bool
is_full ends places past top most = nat_le most (count_of ends places + count_of ends past) || nat_le 9223372036854775806 top

abbrev pub has_no_link : Node → Bool
has_no_link node = is_full node.ends node.links.items node.past_links node.core.links.top 100

abbrev pub has_no_front : Node → Bool
has_no_front node = is_full node.ends node.fronts.items node.past_fronts node.core.fronts.top 600

-- ---- a call on a stream

abbrev pub answer_fields : Node → Service → List Field
answer_fields node service = (status_field 200 ∷ content_type ∷ []) ++ server_fields service node.id node.count

abbrev pub place_of : ℕ → ℕ → Place
place_of conn s = record { conn = conn; stream = s }

-- a stream has somebody, and is answered
abbrev pub answered_call : ℕ → ℕ → Who → Service → Node → Node
answered_call conn s w service node = collect conn (on_end conn (on_carrier (accepted s w (answer_fields node service))) node)

-- an accepted call: its stream is answered, has an inlet and a place, and the core hears of it
unfoldable pub link_up : ℕ → ℕ → List (IdKind × List ℕ) → Node → Node
link_up conn s identifiers node =
    let link = node.core.links.top + 1 in
    let placed = record node { links = inserted node.links link (place_of conn s); past_links = filter (counts node.ends) node.past_links } in
    event (LinkUp link identifiers) (answered_call conn s (who.Link link) Agent placed)

unfoldable pub front_up : ℕ → ℕ → Node → Node
front_up conn s node =
    let front = node.core.fronts.top + 1 in
    let placed = record node { fronts = inserted node.fronts front (place_of conn s); past_fronts = filter (counts node.ends) node.past_fronts } in
    event (FrontUp front) (answered_call conn s (who.Front front) Proxy placed)

unfoldable pub refused_call : ℕ → ℕ → CallFault → Node → Node
refused_call conn s fault node = on_end conn (on_carrier (finish_stream s (refusal_fields fault))) node

-- REFUSED_STREAM (RFC 9113, section 7)
unfoldable pub over_limit : ℕ → ℕ → Node → Node
over_limit conn s node = collect conn (on_end conn (on_carrier (reset_stream s 7)) node)

abbrev pub service_in : ℕ → ℕ → Service → List (IdKind × List ℕ) → Node → Node
service_in conn s Agent identifiers node = if has_no_link node then over_limit conn s node else link_up conn s identifiers node
service_in conn s Proxy identifiers node = if has_no_front node then over_limit conn s node else front_up conn s node

-- a path names the service of the other kind of connections
abbrev pub is_other : Bool → Option Service → Bool
is_other for_agents None = false
is_other true (Some Agent) = false
is_other true (Some Proxy) = true
is_other false (Some Agent) = true
is_other false (Some Proxy) = false

-- on a connection for one service the other one is a path that is not known, before its content type and its identifiers
unfoldable pub call_for : Bool → List Field → Result Call CallFault
call_for for_agents fields = if is_other for_agents (service_in_path fields) then Err Path else call_in fields

abbrev pub call_came : ℕ → ℕ → Result Call CallFault → Node → Node
call_came conn s (Ok call) node = service_in conn s call.service call.identifiers node
call_came conn s (Err fault) node = refused_call conn s fault node

-- whose calls the streams of a connection are
abbrev pub for_agents_in : Option End → Option Bool
for_agents_in None = None
for_agents_in (Some (Streams for_agents carrier)) = Some for_agents
for_agents_in (Some (Connect d)) = None

abbrev pub opened_by : Option Bool → ℕ → ℕ → List Field → Node → Node
opened_by None conn s fields node = node
opened_by (Some for_agents) conn s fields node = call_came conn s (call_for for_agents fields) node

-- ---- a head of CONNECT

-- its head is whole and within the limit: it is a front, and asks for its dial
unfoldable pub door_up : ℕ → List ℕ → List ℕ → Node → Node
door_up conn target early node =
    let front = node.core.fronts.top + 1 in
    let placed = record node { fronts = inserted node.fronts front (place_of conn 0); past_fronts = filter (counts node.ends) node.past_fronts } in
    event (FrontPacket front (DialReq (codes "tcp") target (pos 0))) (event (FrontUp front) (on_end conn (on_door (door.begun front early)) placed))

abbrev pub head_whole : ℕ → List ℕ → List ℕ → Node → Node
head_whole conn target early node = if has_no_front node then on_end conn (on_door (door.refused 503)) node else door_up conn target early node

abbrev pub head_came : ℕ → Result ConnectAnswer ConnectError → Node → Node
head_came conn (Ok More) node = node
head_came conn (Ok (Head target early)) node = head_whole conn target early node
head_came conn (Err (Fault fault)) node = on_end conn (on_door (door.refused (fault_status fault))) node
head_came conn (Err NoMemory) node = node

-- more bytes of a head
abbrev pub HeadHears : ℕ → List ℕ → Option End → Node → Node → Type 0
HeadHears conn piece end old new = (answer : Result ConnectAnswer ConnectError) × IsGiven answer × (ends : Members End) × HearsHead conn piece end old.ends answer ends × (new ≡ head_came conn answer (record old { ends = ends; stirred = old.stirred ++ conn ∷ [] }))

-- bytes are those of the head until it is whole, and early from then on
abbrev pub DoorHears : ℕ → List ℕ → Option ℕ → Option End → Node → Node → Type 0
DoorHears conn piece None end old new = HeadHears conn piece end old new
DoorHears conn piece (Some front) end old new = new ≡ on_end conn (on_door (door.with_early piece)) old
