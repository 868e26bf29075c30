-- What each rule of the server gives out: to links that are up, at most one dial, and to no front an answer behind the close.
use Rattle.std.proofs.Common.{◌≡◌, ◌==◌, ◌++◌, ℕ, ℤ, pos, negsuc, Bool, true, false, cond, List, [], ◌∷◌, filter, Option, Some, None, refl, sym, ap, ◌∙◌}
use Rattle.std.specs.Prelude.{codes}
use Rattle.kn_packet.specs.declared.packet.Packet.{Packet}
use Rattle.kn_packet.specs.declared.packet.Packet.TheVariants.{CloseReq, CloseRsp, Data, DialCls, DialReq, DialRsp, Drain, Other}
use Rattle.kn_route.specs.LinkLists.{LinkList, has_link}
use Rattle.kn_tables.specs.Lists.{first_where}
use Rattle.kn_tables.specs.Awaiting.{is_of_link}
use Rattle.kn_tables.specs.Holding.{by_connect_id, has_front, is_held, is_held_by, is_held_dial, is_held_on}
use Rattle.kn_tables.specs.declared.awaited_entry.AwaitedEntry.{AwaitedEntry}
use Rattle.kn_tables.specs.declared.held_entry.HeldEntry.{HeldEntry}
use Rattle.kn_tables.specs.declared.held_entry.HeldState.{HeldState}
use Rattle.kn_tables.specs.declared.held_entry.HeldState.TheVariants.{Closing, Open}
use Rattle.kn_server_core.specs.Isolation.{Each, HasEnds, IsOrderly}
use Rattle.kn_server_core.specs.Packets.{data_to_front, data_to_link, in_packets}
use Rattle.kn_server_core.specs.Server.{all_asked, all_awaited_lost, all_held_lost, asked_at_loss, awaited_reply, close_from_front, close_own, data_down, data_up, dial_at, dial_cancelled, ended_to, from_link, front_lost, held_at, link_lost, of_link, open_down, open_up, own, refused_reply, reply, reply_by_entry, tunnel_ended}
use Rattle.kn_server_core.specs.Texts.{error_cut}
use Rattle.kn_server_core.specs.declared.event.ServerOut.{ServerOut}
use Rattle.kn_server_core.specs.declared.event.ServerOut.TheVariants.{CutLink, Made, ToFront, ToLink}
use Rattle.kn_server_core.specs.declared.state.State.{State}
use Rattle.kn_server_core.proofs.EntryLemmas.{each_append, each_kept}
use Rattle.kn_server_core.proofs.OrderLemmas.{each_found}
use Rattle.kn_packets.specs.Outputs.{for_front, more_if}
use Rattle.kn_refinement.proofs.DoorsHeard.{InTurn, NoAnswers}
use Rattle.kn_refinement.proofs.ServerDials.{IsNoDial}

-- an output is to a link that is up
abbrev pub IsOnLink : LinkList → ServerOut → Type 0
IsOnLink links (ToLink link p) = has_link link links ≡ true
IsOnLink links (CutLink link) = has_link link links ≡ true
IsOnLink links (Made dial link front) = has_link link links ≡ true
IsOnLink links (ToFront front p) = Unit {0}

-- outputs that make no dial
pub record Quiet (links : LinkList) (os : List ServerOut) : Type 0 where
  pub on_links : Each (IsOnLink links) os
  pub undrawn : Each IsNoDial os
  pub in_turn : (f : ℕ) → InTurn (for_front f os)

pub nothing : (links : LinkList) → Quiet links []
nothing links = record { on_links = tt; undrawn = tt; in_turn = λ f. tt }

one_in_turn : (b : Bool) (p : Packet) → InTurn (more_if b p [])
one_in_turn false p = tt
one_in_turn true (CloseRsp error connect_id) = tt
one_in_turn true (DialRsp error connect_id random) = tt
one_in_turn true (DialReq protocol address random) = tt
one_in_turn true (Data connect_id error bytes) = tt
one_in_turn true (CloseReq connect_id) = tt
one_in_turn true (DialCls random) = tt
one_in_turn true Drain = tt
one_in_turn true (Other number) = tt

pub one_to_front : (links : LinkList) (front : ℕ) (p : Packet) → Quiet links (ToFront front p ∷ [])
one_to_front links front p = record { on_links = (tt, tt); undrawn = (tt, tt); in_turn = λ f. one_in_turn (f == front) p }

one_to_link : (links : LinkList) (link : ℕ) (p : Packet) → has_link link links ≡ true → Quiet links (ToLink link p ∷ [])
one_to_link links link p up = record { on_links = (up, tt); undrawn = (tt, tt); in_turn = λ f. tt }

-- ---- bytes in packets
bytes_to_front : (links : LinkList) (front dial : ℕ) (pieces : List (List ℕ)) → Quiet links (data_to_front front dial pieces)
bytes_to_front links front dial [] = nothing links
bytes_to_front links front dial (bytes ∷ rest) = let q = bytes_to_front links front dial rest in record {
  on_links = (tt, q.on_links);
  undrawn = (tt, q.undrawn);
  in_turn = λ f. here (f == front) (for_front f (data_to_front front dial rest)) (q.in_turn f);
}
  where
    here : (b : Bool) (ps : List Packet) → InTurn ps → InTurn (more_if b (Data (pos dial) [] bytes) ps)
    here true ps t = t
    here false ps t = t

bytes_to_link : (links : LinkList) (link : ℕ) (connect_id : ℤ) (pieces : List (List ℕ)) → has_link link links ≡ true → Quiet links (data_to_link link connect_id pieces)
bytes_to_link links link connect_id [] up = nothing links
bytes_to_link links link connect_id (bytes ∷ rest) up = let q = bytes_to_link links link connect_id rest up in record { on_links = (up, q.on_links); undrawn = (tt, q.undrawn); in_turn = q.in_turn }

-- ---- a loss of a link: first the refusals, then the closes
held_on_links : (links : LinkList) (es : List HeldEntry) → Each (IsOnLink links) (all_held_lost es)
held_on_links links [] = tt
held_on_links links (e ∷ es) = each_append (IsOnLink links) (ended_to e.front e.dial (codes "agent lost")) (all_held_lost es) (here e.front) (held_on_links links es)
  where
    here : (o : Option ℕ) → Each (IsOnLink links) (ended_to o e.dial (codes "agent lost"))
    here None = tt
    here (Some front) = (tt, tt)

held_undrawn : (es : List HeldEntry) → Each IsNoDial (all_held_lost es)
held_undrawn [] = tt
held_undrawn (e ∷ es) = each_append IsNoDial (ended_to e.front e.dial (codes "agent lost")) (all_held_lost es) (here e.front) (held_undrawn es)
  where
    here : (o : Option ℕ) → Each IsNoDial (ended_to o e.dial (codes "agent lost"))
    here None = tt
    here (Some front) = (tt, tt)

no_answers : (f : ℕ) (es : List HeldEntry) → NoAnswers (for_front f (all_held_lost es))
no_answers f [] = tt
no_answers f (e ∷ es) = here e.front (no_answers f es)
  where
    closes : (b : Bool) (ps : List Packet) → NoAnswers ps → NoAnswers (more_if b (CloseRsp (codes "agent lost") (pos e.dial)) ps)
    closes true ps n = (tt, n)
    closes false ps n = n

    here : (o : Option ℕ) → NoAnswers (for_front f (all_held_lost es)) → NoAnswers (for_front f (ended_to o e.dial (codes "agent lost") ++ all_held_lost es))
    here None n = n
    here (Some front) n = closes (f == front) (for_front f (all_held_lost es)) n

closes_in_turn : (f : ℕ) (es : List HeldEntry) → InTurn (for_front f (all_held_lost es))
closes_in_turn f [] = tt
closes_in_turn f (e ∷ es) = here e.front (closes_in_turn f es)
  where
    closes : (b : Bool) (ps : List Packet) → NoAnswers ps → InTurn ps → InTurn (more_if b (CloseRsp (codes "agent lost") (pos e.dial)) ps)
    closes true ps n t = n
    closes false ps n t = t

    here : (o : Option ℕ) → InTurn (for_front f (all_held_lost es)) → InTurn (for_front f (ended_to o e.dial (codes "agent lost") ++ all_held_lost es))
    here None t = t
    here (Some front) t = closes (f == front) (for_front f (all_held_lost es)) (no_answers f es) t

lost_outs : (links : LinkList) (ws : List AwaitedEntry) (es : List HeldEntry) → Quiet links (all_awaited_lost ws ++ all_held_lost es)
lost_outs links [] es = record { on_links = held_on_links links es; undrawn = held_undrawn es; in_turn = λ f. closes_in_turn f es }
lost_outs links (w ∷ ws) es = let q = lost_outs links ws es in record {
  on_links = (tt, q.on_links);
  undrawn = (tt, q.undrawn);
  in_turn = λ f. here (f == w.front) (for_front f (all_awaited_lost ws ++ all_held_lost es)) (q.in_turn f);
}
  where
    here : (b : Bool) (ps : List Packet) → InTurn ps → InTurn (more_if b (DialRsp (codes "agent lost") (pos 0) w.random) ps)
    here true ps t = t
    here false ps t = t

pub link_lost_outs : (s : State) (link : ℕ) → Quiet s.links (link_lost s link).outs
link_lost_outs s link = lost_outs s.links (filter (is_of_link link) s.awaited) (by_connect_id (filter (is_held_on link) s.held))

-- ---- packets of a link
awaited_outs : (s : State) (link : ℕ) (connect_id : ℤ) (o : Option AwaitedEntry) → has_link link s.links ≡ true → Quiet s.links (awaited_reply s link connect_id o).outs
awaited_outs s link connect_id None up = one_to_link s.links link (CloseReq connect_id) up
awaited_outs s link connect_id (Some e) up = one_to_front s.links e.front (DialRsp [] (pos e.dial) e.random)

entry_outs : (s : State) (link : ℕ) (connect_id random : ℤ) (o : Option HeldEntry) → has_link link s.links ≡ true → Quiet s.links (reply_by_entry s link connect_id random o).outs
entry_outs s link connect_id random None up = awaited_outs s link connect_id (of_link link (dial_at random s.awaited)) up
entry_outs s link connect_id random (Some e) up = let q = link_lost_outs s link in record { on_links = (up, q.on_links); undrawn = (tt, q.undrawn); in_turn = q.in_turn }

refused_outs : (s : State) (error : List ℕ) (o : Option AwaitedEntry) → Quiet s.links (refused_reply s error o).outs
refused_outs s error None = nothing s.links
refused_outs s error (Some e) = one_to_front s.links e.front (DialRsp (error_cut error) (pos 0) e.random)

reply_outs : (s : State) (link : ℕ) (error : List ℕ) (connect_id random : ℤ) → has_link link s.links ≡ true → Quiet s.links (reply s link error connect_id random).outs
reply_outs s link [] connect_id random up = entry_outs s link connect_id random (first_where (is_held link connect_id) s.held) up
reply_outs s link (x ∷ xs) connect_id random up = refused_outs s (x ∷ xs) (of_link link (dial_at random s.awaited))

open_outs : (s : State) (bytes : List ℕ) (state : HeldState) (o : Option ℕ) (dial : ℕ) → Quiet s.links (open_down s bytes state o dial).outs
open_outs s bytes Open (Some front) dial = bytes_to_front s.links front dial (in_packets bytes)
open_outs s bytes Open None dial = nothing s.links
open_outs s bytes Closing o dial = nothing s.links

down_outs : (s : State) (bytes : List ℕ) (o : Option HeldEntry) → Quiet s.links (data_down s bytes o).outs
down_outs s bytes None = nothing s.links
down_outs s bytes (Some e) = open_outs s bytes e.state e.front e.dial

ended_outs : (s : State) (link : ℕ) (connect_id : ℤ) (error : List ℕ) (o : Option HeldEntry) → Quiet s.links (tunnel_ended s link connect_id error o).outs
ended_outs s link connect_id error None = nothing s.links
ended_outs s link connect_id error (Some e) = here e.front
  where
    here : (o : Option ℕ) → Quiet s.links (ended_to o e.dial (error_cut error))
    here None = nothing s.links
    here (Some front) = one_to_front s.links front (CloseRsp (error_cut error) (pos e.dial))

pub from_link_outs : (s : State) (link : ℕ) (p : Packet) → has_link link s.links ≡ true → Quiet s.links (from_link s link p).outs
from_link_outs s link (DialRsp error connect_id random) up = reply_outs s link error connect_id random up
from_link_outs s link (Data connect_id error bytes) up = down_outs s bytes (first_where (is_held link connect_id) s.held)
from_link_outs s link (CloseRsp error connect_id) up = ended_outs s link connect_id error (first_where (is_held link connect_id) s.held)
from_link_outs s link Drain up = nothing s.links
from_link_outs s link (DialReq protocol address random) up = nothing s.links
from_link_outs s link (CloseReq connect_id) up = nothing s.links
from_link_outs s link (DialCls random) up = nothing s.links
from_link_outs s link (Other number) up = nothing s.links

-- ---- packets of a front: the link of an entry is up
own_up : (s : State) (front : ℕ) (r : HeldEntry → Bool) (o : Option HeldEntry) (e : HeldEntry) → IsOrderly s → first_where r s.held ≡ o → own front o ≡ Some e → has_link e.link s.links ≡ true
own_up s front r None e o f h = absurd cc
own_up s front r (Some x) e o f h = here (has_front x.front front) h
  where
    here : (b : Bool) → cond b (Some x) None ≡ Some e → has_link e.link s.links ≡ true
    here true i = let same : x ≡ e = cc in ap (λ (y : HeldEntry). has_link y.link s.links) (sym same) ∙ (each_found (HasEnds s) r x s.held o.held_up f).0
    here false i = absurd cc

pub held_here : (s : State) (front : ℕ) (connect_id : ℤ) (e : HeldEntry) → IsOrderly s → own front (held_at connect_id s.held) ≡ Some e → has_link e.link s.links ≡ true
held_here s front (pos d) e o h = own_up s front (is_held_dial d) (first_where (is_held_dial d) s.held) e o refl h
held_here s front (negsuc d) e o h = absurd cc

pub up_outs : (s : State) (bytes : List ℕ) (o : Option HeldEntry) → ((e : HeldEntry) → o ≡ Some e → has_link e.link s.links ≡ true) → Quiet s.links (data_up s bytes o).outs
up_outs s bytes None up = nothing s.links
up_outs s bytes (Some e) up = here e.state
  where
    here : (state : HeldState) → Quiet s.links (open_up s bytes state e).outs
    here Open = bytes_to_link s.links e.link e.connect_id (in_packets bytes) (up e refl)
    here Closing = nothing s.links

pub close_outs : (s : State) (front : ℕ) (connect_id : ℤ) (o : Option HeldEntry) → ((e : HeldEntry) → o ≡ Some e → has_link e.link s.links ≡ true) → Quiet s.links (close_from_front s front connect_id o).outs
close_outs s front connect_id None up = one_to_front s.links front (CloseRsp (codes "unknown connection") connect_id)
close_outs s front connect_id (Some e) up = here e.state
  where
    here : (state : HeldState) → Quiet s.links (close_own s state e).outs
    here Open = one_to_link s.links e.link (CloseReq e.connect_id) (up e refl)
    here Closing = nothing s.links

pub cancel_outs : (s : State) (o : Option AwaitedEntry) → Quiet s.links (dial_cancelled s o).outs
cancel_outs s None = nothing s.links
cancel_outs s (Some e) = nothing s.links

asked_outs : (links : LinkList) (es : List HeldEntry) → Each (λ e. has_link e.link links ≡ true) es → Quiet links (all_asked es)
asked_outs links [] h = nothing links
asked_outs links (e ∷ es) h = here e.state (asked_outs links es h.1)
  where
    here : (state : HeldState) → Quiet links (all_asked es) → Quiet links (asked_at_loss state e ++ all_asked es)
    here Open q = record { on_links = (h.0, q.on_links); undrawn = (tt, q.undrawn); in_turn = q.in_turn }
    here Closing q = q

pub front_lost_outs : (s : State) (front : ℕ) → IsOrderly s → Quiet s.links (front_lost s front).outs
front_lost_outs s front o = asked_outs s.links (filter (is_held_by front) s.held) (ups (filter (is_held_by front) s.held) (each_kept (HasEnds s) (is_held_by front) s.held o.held_up))
  where
    ups : (es : List HeldEntry) → Each (λ e. (is_held_by front e ≡ true) × HasEnds s e) es → Each (λ e. has_link e.link s.links ≡ true) es
    ups [] h = tt
    ups (e ∷ es) h = (h.0.1.0, ups es h.1)
