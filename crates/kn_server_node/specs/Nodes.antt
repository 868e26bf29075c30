-- The server node: pauses, what can be handled, and what the core gives out.
use Rattle.std.specs.Prelude.{ℕ, ℤ, ◌==◌, nat_lt, Bool, true, false, not, ◌&&◌, ◌||◌, List, [], ◌∷◌, ◌++◌, length, min, ◌+◌, Option, Some, None, is_some, if◌then◌else◌}
use Rattle.kn_packet.specs.declared.packet.Packet.{Packet}
use Rattle.kn_packet.specs.declared.packet.Packet.TheVariants.{DialReq, DialRsp, CloseReq, CloseRsp, Data, DialCls, Drain, Other}
use Rattle.kn_grpc.specs.Readers.{First, Less, Whole, Bad}
use Rattle.kn_grpc.specs.Packets.{first_of}
use Rattle.kn_tables.specs.Lists.{first_where}
use Rattle.kn_tables.specs.Holding.{is_held}
use Rattle.kn_tables.specs.declared.held_entry.HeldEntry.{HeldEntry}
use Rattle.kn_server_core.specs.declared.event.ServerEvent.{ServerEvent}
use Rattle.kn_server_core.specs.declared.event.ServerOut.{ServerOut}
use Rattle.kn_server_core.specs.declared.event.ServerOut.TheVariants.{ToLink, ToFront, CutLink, Made}
use Rattle.kn_server_core.specs.Server.{own, held_at}
use Rattle.kn_server_core.specs.Server as server
use Rattle.kn_ends.specs.declared.who.Who.{Who}
use Rattle.kn_ends.specs.declared.who.Who.TheVariants as who
use Rattle.kn_ends.specs.declared.inlet.Inlet.{Inlet}
use Rattle.kn_rising.specs.Members.{Members, at, change, without}
use Rattle.kn_server_node.specs.declared.door.Door.{Door}
use Rattle.kn_server_node.specs.declared.end.End.{End}
use Rattle.kn_server_node.specs.declared.end.End.TheVariants.{Streams, Connect}
use Rattle.kn_server_node.specs.declared.place.Place.{Place}
use Rattle.kn_server_node.specs.declared.loss.Loss.{Loss}
use Rattle.kn_server_node.specs.declared.loss.Loss.TheVariants.{OfLink, OfFront}
use Rattle.kn_server_node.specs.declared.node.Node.{Node}
use Rattle.kn_server_node.specs.Doors as door
use Rattle.kn_server_node.specs.Ends.{given, closed, inlet_in, queued_in, is_door}
use Rattle.kn_ends.specs.Queues.{is_empty}
use Rattle.kn_server_node.specs.Choices.{chosen_at, noted}
use Rattle.kn_server_node.specs.Losing.{with_loss}

-- the connection of a number changes, and is stirred
abbrev pub on_end : ℕ → (End → End) → Node → Node
on_end n f node = record node { ends = change node.ends n f; stirred = node.stirred ++ n ∷ [] }

-- ---- pauses

-- how many bytes wait at a place
abbrev pub queue_at : Members End → Option Place → ℕ
queue_at ends None = 0
queue_at ends (Some p) = queued_in (at ends p.conn) p.stream

abbrev pub link_queue : Node → ℕ → ℕ
link_queue node link = queue_at node.ends (at node.links link)

abbrev pub front_queue : Node → ℕ → ℕ
front_queue node front = queue_at node.ends (at node.fronts front)

-- above this size packets wait
abbrev pub is_long : ℕ → Bool
is_long n = nat_lt 65536 n

abbrev pub front_is_long : Node → Option ℕ → Bool
front_is_long node None = false
front_is_long node (Some front) = is_long (front_queue node front)

abbrev pub waits_for_link : Node → Option HeldEntry → Bool
waits_for_link node None = false
waits_for_link node (Some e) = is_long (link_queue node e.link)

abbrev pub waits_for_front : Node → Option HeldEntry → Bool
waits_for_front node None = false
waits_for_front node (Some e) = front_is_long node e.front

-- Data of an own dial waits for the queue of the dial's link
abbrev pub own_waits : Node → ℕ → ℤ → Bool
own_waits node front id = waits_for_link node (own front (held_at id node.core.held))

abbrev pub front_data_waits : Node → ℕ → Packet → Bool
front_data_waits node front (Data id error bytes) = own_waits node front id
front_data_waits node front (DialReq protocol address random) = false
front_data_waits node front (DialRsp error id random) = false
front_data_waits node front (CloseReq id) = false
front_data_waits node front (CloseRsp error id) = false
front_data_waits node front (DialCls random) = false
front_data_waits node front Drain = false
front_data_waits node front (Other number) = false

-- a front's packet waits for the front's own queue, and Data of an own dial also for that of the dial's link
abbrev pub front_waits : Node → ℕ → Packet → Bool
front_waits node front p = is_long (front_queue node front) || front_data_waits node front p

-- a link's Data for a held front waits for that front's queue; nothing else of a link waits
abbrev pub link_waits : Node → ℕ → Packet → Bool
link_waits node link (Data id error bytes) = waits_for_front node (first_where (is_held link id) node.core.held)
link_waits node link (DialReq protocol address random) = false
link_waits node link (DialRsp error id random) = false
link_waits node link (CloseReq id) = false
link_waits node link (CloseRsp error id) = false
link_waits node link (DialCls random) = false
link_waits node link Drain = false
link_waits node link (Other number) = false

abbrev pub waits : Node → Who → Packet → Bool
waits node (who.Link link) p = link_waits node link p
waits node (who.Front front) p = front_waits node front p
waits node who.Server p = false

-- ---- what can be handled

-- less than a message is nothing to handle, but for the peer's end; and a packet may have to wait
abbrev pub can_take : Node → Who → Bool → First Packet ℕ → Bool
can_take node who ended Less = ended
can_take node who ended (Whole p rest) = not (waits node who p)
can_take node who ended (Bad status) = true

abbrev pub inlet_can : Node → Option Inlet → Bool
inlet_can node None = false
inlet_can node (Some i) = can_take node i.who i.ended (first_of i.messages.kept)

-- the link of a door's tunnel has a long queue
abbrev pub door_waits : Node → Option ℕ → Option ℤ → Bool
door_waits node (Some front) (Some id) = own_waits node front id
door_waits node (Some front) None = false
door_waits node None id = false

-- early bytes of a door wait for the reply, for what waits for its own socket, and for the queue of its link
abbrev pub early_goes : Node → Door → Bool
early_goes node d = is_some d.dial && (not (is_long (length d.out)) && not (door_waits node d.front d.dial))

abbrev pub door_can : Node → Door → Bool
door_can node d = not (is_empty d.early) && early_goes node d

-- a door has one stream, of the number 0
abbrev pub can_on : Node → Option End → ℕ → Bool
can_on node None s = false
can_on node (Some (Streams for_agents carrier)) s = inlet_can node (inlet_in (Some (Streams for_agents carrier)) s)
can_on node (Some (Connect d)) s = (s == 0) && door_can node d

-- the stream has something at its front to handle
unfoldable pub can_handle : Node → ℕ → ℕ → Bool
can_handle node c s = can_on node (at node.ends c) s

-- by connection and stream
abbrev pub is_before : ℕ → ℕ → ℕ → ℕ → Bool
is_before c s d t = nat_lt c d || ((c == d) && nat_lt s t)

-- ---- outputs

abbrev pub is_data : Packet → Bool
is_data (Data id error bytes) = true
is_data (DialReq protocol address random) = false
is_data (DialRsp error id random) = false
is_data (CloseReq id) = false
is_data (CloseRsp error id) = false
is_data (DialCls random) = false
is_data Drain = false
is_data (Other number) = false

-- the connection at a place changes
abbrev pub place_changed : Option Place → (ℕ → End → End) → Members End → Members End
place_changed None f ends = ends
place_changed (Some p) f ends = change ends p.conn (f p.stream)

abbrev pub place_stirred : Option Place → List ℕ → List ℕ
place_stirred None stirred = stirred
place_stirred (Some p) stirred = stirred ++ p.conn ∷ []

abbrev pub at_place : Option Place → (ℕ → End → End) → Node → Node
at_place p f node = record node { ends = place_changed p f node.ends; stirred = place_stirred p node.stirred }

abbrev pub is_too_long : Node → ℕ → Packet → Bool
is_too_long node link p = not (is_data p) && nat_lt 5242880 (link_queue node link)

-- a control packet for a full link is dropped, and cuts the link
abbrev pub to_link : ℕ → Packet → Node → Node
to_link link p node =
    if is_too_long node link p then record node { todo = with_loss (OfLink link 14) node.todo }
    else at_place (at node.links link) (λ s. given s p) node

abbrev pub is_door_at : Members End → Option Place → Bool
is_door_at ends None = false
is_door_at ends (Some p) = is_door (at ends p.conn)

-- a front by CONNECT is lost where its dial is refused or its tunnel closed
abbrev pub with_front_loss : Bool → ℕ → List Loss → List Loss
with_front_loss true front todo = with_loss (OfFront front 0) todo
with_front_loss false front todo = todo

abbrev pub to_front : ℕ → Packet → Node → Node
to_front front p node = record (at_place (at node.fronts front) (λ s. given s p) node) {
  todo = with_front_loss (door.ends_front p && is_door_at node.ends (at node.fronts front)) front node.todo;
}

-- a link or front stands nowhere any more; its stream ends with the status
abbrev pub kept_with : Option Place → List Place → List Place
kept_with None ps = ps
kept_with (Some p) ps = ps ++ p ∷ []

abbrev pub link_ended : ℕ → ℕ → Node → Node
link_ended link status node = record (at_place (at node.links link) (closed status) node) {
  links = without node.links link;
  past_links = kept_with (at node.links link) node.past_links;
}

abbrev pub count_up : ℕ → ℕ
count_up n = min (n + 1) 18446744073709551615

-- one that stood somewhere counts as gone
abbrev pub gone_with : Option Place → ℕ → ℕ
gone_with None n = n
gone_with (Some p) n = count_up n

abbrev pub front_ended : ℕ → ℕ → Node → Node
front_ended front status node = record (at_place (at node.fronts front) (closed status) node) {
  fronts = without node.fronts front;
  past_fronts = kept_with (at node.fronts front) node.past_fronts;
  gone = gone_with (at node.fronts front) node.gone;
}

-- 13 is for an agent that breaks the rules
unfoldable pub output : Node → ServerOut → Node
output node (ToLink link p) = to_link link p node
output node (ToFront front p) = to_front front p node
output node (CutLink link) = link_ended link 13 node
output node (Made dial link front) = node

abbrev pub outputs : Node → List ServerOut → Node
outputs node [] = node
outputs node (o ∷ os) = outputs (output node o) os

-- one event of the core, and its outputs in their order; the losses that follow from it come before what was to be done
-- already, and the choice that it comes to is noted
unfoldable pub event : ServerEvent → Node → Node
event e node =
    let after = outputs (record node { core = (server.step node.core e).state; todo = [] }) (server.step node.core e).outs in
    record after { todo = after.todo ++ node.todo; choices = noted (chosen_at node e) after.choices }
