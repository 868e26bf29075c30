-- The bytes of one tunnel through each event.
use Rattle.std.proofs.Common.{◌≡◌, ℕ, ℤ, pos, negsuc, Bool, true, false, cond, eqb, ◌&&◌, List, [], ◌∷◌, ◌++◌, filter, length, take, drop, Option, Some, None, Result, Ok, Err, codes, nat_lt, refl, sym, ap, ◌∙◌, subst, append_assoc, append-nil, take-append-drop}
use Rattle.std.specs.Ordering.{int_eq}
use Rattle.std.proofs.lemmas.Bool.Decides.{Decides-eqb}
use Rattle.kn_packet.specs.declared.packet.Packet.{Packet}
use Rattle.kn_packet.specs.declared.packet.Packet.TheVariants.{DialReq, DialRsp, CloseReq, CloseRsp, Data, DialCls, Drain, Other}
use Rattle.kn_route.specs.LinkLists.{has_link}
use Rattle.kn_tables.specs.declared.awaited_entry.AwaitedEntry.{AwaitedEntry}
use Rattle.kn_tables.specs.declared.held_entry.HeldEntry.{HeldEntry}
use Rattle.kn_tables.specs.declared.held_entry.HeldState.{HeldState}
use Rattle.kn_tables.specs.declared.held_entry.HeldState.TheVariants.{Open, Closing}
use Rattle.kn_tables.specs.Lists.{first_where}
use Rattle.kn_tables.specs.Awaiting.{is_of_link, is_random}
use Rattle.kn_tables.specs.Holding.{is_held, is_held_on, is_held_by, is_held_dial, has_front, by_connect_id}
use Rattle.kn_server_core.specs.declared.event.ServerEvent.{ServerEvent}
use Rattle.kn_server_core.specs.declared.event.ServerEvent.TheVariants.{LinkUp, LinkPacket, LinkLost, FrontUp, FrontPacket, FrontLost}
use Rattle.kn_server_core.specs.declared.event.ServerOut.{ServerOut}
use Rattle.kn_server_core.specs.declared.event.ServerOut.TheVariants.{ToLink, ToFront, CutLink, Made}
use Rattle.kn_server_core.specs.declared.state.State.{State}
use Rattle.kn_server_core.specs.FrontLists.{is_up}
use Rattle.kn_server_core.specs.Packets.{data_to_front, data_to_link, in_packets}
use Rattle.kn_server_core.specs.Server.{ignored, step, from_link, from_front, link_lost, front_lost, reply, reply_by_entry, awaited_reply, refused_reply, of_link, dial_at, data_down, open_down, tunnel_ended, ended_to, all_awaited_lost, all_held_lost, held_lost, dial_chosen, dial_choice, data_up, open_up, close_from_front, close_own, dial_cancelled, own, held_at, all_asked, asked_at_loss}
use Rattle.kn_server_core.specs.Texts.{error_cut}
use Rattle.kn_server_core.specs.Isolation.{Each, IsOrderly, StaysWithLink, StaysWithFront, IsOfFront}
use Rattle.kn_server_core.specs.Runs.{Tunnel, connection_bytes, dial_bytes, sent_by_link, sent_by_front, queued_to_front, queued_to_link, joined, is_of_dial}
use Rattle.kn_server_core.proofs.EntryLemmas.{same_number, same_signed}
use Rattle.kn_server_core.proofs.LinkIsolation.{link_outs}
use Rattle.kn_server_core.proofs.FrontIsolation.{front_outs}
use Rattle.kn_server_core.proofs.TunnelTables.{tunnel_of, Holds, is_it, other_dial, other_connection, some_same, not_of_lost, not_of_gone}

-- ---- joins
joined_append : {E : Type 0} (f : E → List ℕ) (xs ys : List E) → joined f (xs ++ ys) ≡ joined f xs ++ joined f ys
joined_append f [] ys = refl
joined_append f (x ∷ xs) ys = ap (λ l. f x ++ l) (joined_append f xs ys) ∙ sym (append_assoc (f x) (joined f xs) (joined f ys))

-- nothing of a tunnel, in both
nothing_both : {E : Type 0} (f : E → List ℕ) (xs ys : List E) → joined f xs ≡ [] → joined f ys ≡ [] → joined f (xs ++ ys) ≡ []
nothing_both f xs ys h i = rw (joined_append f xs ys, h) i

abbrev pub all_parts : List (List ℕ) → List ℕ
all_parts [] = []
all_parts (part ∷ parts) = part ++ all_parts parts

-- the packets of some bytes have these bytes
whole : (bytes : List ℕ) → all_parts (in_packets bytes) ≡ bytes
whole bytes = whole_here (nat_lt 4194000 (length bytes))
  where
    whole_here : (b : Bool) → all_parts (cond b (take 4194000 bytes ∷ drop 4194000 bytes ∷ []) (bytes ∷ [])) ≡ bytes
    whole_here true = ap (λ l. take 4194000 bytes ++ l) (append-nil (drop 4194000 bytes)) ∙ take-append-drop 4194000 bytes
    whole_here false = append-nil bytes

-- ---- what is queued to the tunnel's front by a link's event
-- the bytes that an open tunnel carries, and none where it closes
abbrev pub carried : HeldState → List ℕ → List ℕ
carried Open bytes = bytes
carried Closing bytes = []

carried_none : (state : HeldState) → carried state [] ≡ []
carried_none Open = refl
carried_none Closing = refl

parts_down : (t : Tunnel) (parts : List (List ℕ)) → joined (queued_to_front t) (data_to_front t.front t.dial parts) ≡ all_parts parts
parts_down t [] = refl
parts_down t (bytes ∷ rest) = rw (same_number t.front, same_number t.dial) (ap (λ l. bytes ++ l) (parts_down t rest))

and_false : (b : Bool) → (b && false) ≡ false
and_false true = refl
and_false false = refl

parts_elsewhere : (t : Tunnel) (front dial : ℕ) (parts : List (List ℕ)) → eqb t.dial dial ≡ false → joined (queued_to_front t) (data_to_front front dial parts) ≡ []
parts_elsewhere t front dial [] h = refl
parts_elsewhere t front dial (bytes ∷ rest) h = rw (h, and_false (eqb t.front front)) (parts_elsewhere t front dial rest h)

nothing_ended : (t : Tunnel) (front : Option ℕ) (dial : ℕ) (error : List ℕ) → joined (queued_to_front t) (ended_to front dial error) ≡ []
nothing_ended t None dial error = refl
nothing_ended t (Some front) dial error = refl

nothing_awaited : (t : Tunnel) (es : List AwaitedEntry) → joined (queued_to_front t) (all_awaited_lost es) ≡ []
nothing_awaited t [] = refl
nothing_awaited t (e ∷ es) = nothing_awaited t es

nothing_held : (t : Tunnel) (es : List HeldEntry) → joined (queued_to_front t) (all_held_lost es) ≡ []
nothing_held t [] = refl
nothing_held t (e ∷ es) = nothing_both (queued_to_front t) (held_lost e) (all_held_lost es) (nothing_ended t e.front e.dial (codes "agent lost")) (nothing_held t es)

nothing_lost : (t : Tunnel) (s : State) (link : ℕ) → joined (queued_to_front t) (link_lost s link).outs ≡ []
nothing_lost t s link = nothing_both (queued_to_front t) (all_awaited_lost (filter (is_of_link link) s.awaited)) (all_held_lost (by_connect_id (filter (is_held_on link) s.held)))
    (nothing_awaited t (filter (is_of_link link) s.awaited)) (nothing_held t (by_connect_id (filter (is_held_on link) s.held)))

nothing_replied : (t : Tunnel) (s : State) (link : ℕ) (connect_id : ℤ) (a : Option AwaitedEntry) → joined (queued_to_front t) (awaited_reply s link connect_id a).outs ≡ []
nothing_replied t s link connect_id None = refl
nothing_replied t s link connect_id (Some e) = refl

nothing_by_entry : (t : Tunnel) (s : State) (link : ℕ) (connect_id random : ℤ) (e : Option HeldEntry) → joined (queued_to_front t) (reply_by_entry s link connect_id random e).outs ≡ []
nothing_by_entry t s link connect_id random None = nothing_replied t s link connect_id (of_link link (dial_at random s.awaited))
nothing_by_entry t s link connect_id random (Some e) = nothing_lost t s link

nothing_refused : (t : Tunnel) (s : State) (error : List ℕ) (a : Option AwaitedEntry) → joined (queued_to_front t) (refused_reply s error a).outs ≡ []
nothing_refused t s error None = refl
nothing_refused t s error (Some e) = refl

nothing_reply : (t : Tunnel) (s : State) (link : ℕ) (error : List ℕ) (connect_id random : ℤ) → joined (queued_to_front t) (reply s link error connect_id random).outs ≡ []
nothing_reply t s link [] connect_id random = nothing_by_entry t s link connect_id random (first_where (is_held link connect_id) s.held)
nothing_reply t s link (y ∷ ys) connect_id random = nothing_refused t s (y ∷ ys) (of_link link (dial_at random s.awaited))

nothing_end : (t : Tunnel) (s : State) (link : ℕ) (connect_id : ℤ) (error : List ℕ) (e : Option HeldEntry) → joined (queued_to_front t) (tunnel_ended s link connect_id error e).outs ≡ []
nothing_end t s link connect_id error None = refl
nothing_end t s link connect_id error (Some e) = nothing_ended t e.front e.dial (error_cut error)

-- an open tunnel's front is the one that is asked of
abbrev pub IsFrontOf : ℕ → HeldState → Option ℕ → Type 0
IsFrontOf front Open o = o ≡ Some front
IsFrontOf front Closing o = Unit {0}

own_down : (s : State) (bytes : List ℕ) (x : HeldEntry) (front : ℕ) (state : HeldState) (o : Option ℕ) → IsFrontOf front state o
    → joined (queued_to_front (tunnel_of x front)) (open_down s bytes state o x.dial).outs ≡ carried state bytes
own_down s bytes x front Open None h = absurd cc
own_down s bytes x front Open (Some g) h = let m : g ≡ front = cc in subst (λ f. joined (queued_to_front (tunnel_of x front)) (data_to_front f x.dial (in_packets bytes)) ≡ bytes) (sym m) (parts_down (tunnel_of x front) (in_packets bytes) ∙ whole bytes)
own_down s bytes x front Closing o h = refl

other_down : (s : State) (bytes : List ℕ) (t : Tunnel) (state : HeldState) (o : Option ℕ) (dial : ℕ) → eqb t.dial dial ≡ false → joined (queued_to_front t) (open_down s bytes state o dial).outs ≡ []
other_down s bytes t Open None dial h = refl
other_down s bytes t Open (Some g) dial h = parts_elsewhere t g dial (in_packets bytes) h
other_down s bytes t Closing o dial h = refl

data_down_bytes : (s : State) (link : ℕ) (connect_id : ℤ) (bytes : List ℕ) (x : HeldEntry) (front : ℕ) (e : Option HeldEntry) → IsOrderly s → Holds s x → IsFrontOf front x.state x.front → first_where (is_held link connect_id) s.held ≡ e
    → joined (queued_to_front (tunnel_of x front)) (data_down s bytes e).outs ≡ carried x.state (cond (is_held link connect_id x) bytes [])
data_down_bytes s link connect_id bytes x front None o f w g = none_here (is_held link connect_id x) refl
  where
    none_here : (b : Bool) → is_held link connect_id x ≡ b → [] ≡ carried x.state (cond b bytes [])
    none_here true h = let k = is_it (is_held_dial x.dial) x link connect_id s.held o.held_apart f h in absurd (let z : None ≡ Some x = sym g ∙ k in cc)
    none_here false h = sym (carried_none x.state)
data_down_bytes s link connect_id bytes x front (Some e) o f w g = some_here (is_held link connect_id x) refl
  where
    some_here : (b : Bool) → is_held link connect_id x ≡ b → joined (queued_to_front (tunnel_of x front)) (open_down s bytes e.state e.front e.dial).outs ≡ carried x.state (cond b bytes [])
    some_here true h =
        let k = is_it (is_held_dial x.dial) x link connect_id s.held o.held_apart f h in
        let same : x ≡ e = some_same (first_where (is_held link connect_id) s.held) x e k g in
        subst (λ z. joined (queued_to_front (tunnel_of x front)) (open_down s bytes z.state z.front z.dial).outs ≡ carried x.state bytes) same (own_down s bytes x front x.state x.front w)
    some_here false h = other_down s bytes (tunnel_of x front) e.state e.front e.dial (other_dial s x e link connect_id o f g h) ∙ sym (carried_none x.state)

-- a packet of a link has no more for the front than its data
from_link_bytes : (s : State) (link : ℕ) (p : Packet) (x : HeldEntry) (front : ℕ) → IsOrderly s → Holds s x → IsFrontOf front x.state x.front
    → joined (queued_to_front (tunnel_of x front)) (from_link s link p).outs ≡ carried x.state (connection_bytes (tunnel_of x front) link p)
from_link_bytes s link (DialRsp error connect_id random) x front o f w = nothing_reply (tunnel_of x front) s link error connect_id random ∙ sym (carried_none x.state)
from_link_bytes s link (Data connect_id error bytes) x front o f w = data_down_bytes s link connect_id bytes x front (first_where (is_held link connect_id) s.held) o f w refl
from_link_bytes s link (CloseRsp error connect_id) x front o f w = nothing_end (tunnel_of x front) s link connect_id error (first_where (is_held link connect_id) s.held) ∙ sym (carried_none x.state)
from_link_bytes s link Drain x front o f w = sym (carried_none x.state)
from_link_bytes s link (DialReq protocol address random) x front o f w = sym (carried_none x.state)
from_link_bytes s link (CloseReq connect_id) x front o f w = sym (carried_none x.state)
from_link_bytes s link (DialCls random) x front o f w = sym (carried_none x.state)
from_link_bytes s link (Other number) x front o f w = sym (carried_none x.state)

not_its : (link : ℕ) (p : Packet) (x : HeldEntry) (front : ℕ) → eqb x.link link ≡ false → connection_bytes (tunnel_of x front) link p ≡ []
not_its link (Data connect_id error bytes) x front h = rw h refl
not_its link (DialRsp error connect_id random) x front h = refl
not_its link (CloseRsp error connect_id) x front h = refl
not_its link Drain x front h = refl
not_its link (DialReq protocol address random) x front h = refl
not_its link (CloseReq connect_id) x front h = refl
not_its link (DialCls random) x front h = refl
not_its link (Other number) x front h = refl

link_packet_bytes : (s : State) (link : ℕ) (p : Packet) (x : HeldEntry) (front : ℕ) (b : Bool) → IsOrderly s → Holds s x → IsFrontOf front x.state x.front → has_link link s.links ≡ b
    → joined (queued_to_front (tunnel_of x front)) (cond b (from_link s link p) (ignored s)).outs ≡ carried x.state (connection_bytes (tunnel_of x front) link p)
link_packet_bytes s link p x front true o f w h = from_link_bytes s link p x front o f w
link_packet_bytes s link p x front false o f w h = sym (ap (carried x.state) (not_its link p x front (not_of_lost s link x o f h)) ∙ carried_none x.state)

link_lost_bytes : (t : Tunnel) (s : State) (link : ℕ) (b : Bool) → joined (queued_to_front t) (cond b (link_lost s link) (ignored s)).outs ≡ []
link_lost_bytes t s link true = nothing_lost t s link
link_lost_bytes t s link false = refl

-- a front's event has nothing for fronts but refusals
refusals_only : (s : State) (event : ServerEvent) (front : ℕ) (t : Tunnel) (outs : List ServerOut) → Each (StaysWithFront s front event) outs → joined (queued_to_front t) outs ≡ []
refusals_only s event front t [] h = refl
refusals_only s event front t (ToLink link p ∷ outs) h = refusals_only s event front t outs h.1
refusals_only s event front t (CutLink link ∷ outs) h = absurd h.0
refusals_only s event front t (Made d l f ∷ outs) h = refusals_only s event front t outs h.1
refusals_only s event front t (ToFront f (DialRsp error connect_id random) ∷ outs) h = refusals_only s event front t outs h.1
refusals_only s event front t (ToFront f (CloseRsp error connect_id) ∷ outs) h = refusals_only s event front t outs h.1
refusals_only s event front t (ToFront f (DialReq protocol address random) ∷ outs) h = absurd h.0.1
refusals_only s event front t (ToFront f (Data connect_id error bytes) ∷ outs) h = absurd h.0.1
refusals_only s event front t (ToFront f (CloseReq connect_id) ∷ outs) h = absurd h.0.1
refusals_only s event front t (ToFront f (DialCls random) ∷ outs) h = absurd h.0.1
refusals_only s event front t (ToFront f Drain ∷ outs) h = absurd h.0.1
refusals_only s event front t (ToFront f (Other number) ∷ outs) h = absurd h.0.1

pub refusals_of : (s : State) (event : ServerEvent) (front : ℕ) (t : Tunnel) → IsOrderly s → IsOfFront front event → joined (queued_to_front t) (step s event).outs ≡ []
refusals_of s event front t o h = refusals_only s event front t (step s event).outs (front_outs s event front o h)

-- what an event queues to the front of a tunnel
pub bytes_down : (s : State) (event : ServerEvent) (x : HeldEntry) (front : ℕ) → IsOrderly s → Holds s x → IsFrontOf front x.state x.front
    → joined (queued_to_front (tunnel_of x front)) (step s event).outs ≡ carried x.state (sent_by_link (tunnel_of x front) event)
bytes_down s (LinkUp link identifiers) x front o f w = sym (carried_none x.state)
bytes_down s (LinkPacket link p) x front o f w = link_packet_bytes s link p x front (has_link link s.links) o f w refl
bytes_down s (LinkLost link) x front o f w = link_lost_bytes (tunnel_of x front) s link (has_link link s.links) ∙ sym (carried_none x.state)
bytes_down s (FrontUp number) x front o f w = sym (carried_none x.state)
bytes_down s (FrontPacket number p) x front o f w = refusals_only s (FrontPacket number p) number (tunnel_of x front) (step s (FrontPacket number p)).outs (front_outs s (FrontPacket number p) number o refl) ∙ sym (carried_none x.state)
bytes_down s (FrontLost number) x front o f w = refusals_only s (FrontLost number) number (tunnel_of x front) (step s (FrontLost number)).outs (front_outs s (FrontLost number) number o refl) ∙ sym (carried_none x.state)

-- ---- what is queued to the tunnel's link by a front's event
parts_up : (t : Tunnel) (parts : List (List ℕ)) → joined (queued_to_link t) (data_to_link t.link t.connect_id parts) ≡ all_parts parts
parts_up t [] = refl
parts_up t (bytes ∷ rest) = rw (same_number t.link, same_signed t.connect_id) (ap (λ l. bytes ++ l) (parts_up t rest))

parts_to_other : (t : Tunnel) (link : ℕ) (connect_id : ℤ) (parts : List (List ℕ)) → (eqb t.link link && int_eq t.connect_id connect_id) ≡ false → joined (queued_to_link t) (data_to_link link connect_id parts) ≡ []
parts_to_other t link connect_id [] h = refl
parts_to_other t link connect_id (bytes ∷ rest) h = rw h (parts_to_other t link connect_id rest h)

own_up : (s : State) (bytes : List ℕ) (x : HeldEntry) (front : ℕ) (state : HeldState) → joined (queued_to_link (tunnel_of x front)) (open_up s bytes state x).outs ≡ carried state bytes
own_up s bytes x front Open = parts_up (tunnel_of x front) (in_packets bytes) ∙ whole bytes
own_up s bytes x front Closing = refl

other_up : (s : State) (bytes : List ℕ) (t : Tunnel) (state : HeldState) (e : HeldEntry) → (eqb t.link e.link && int_eq t.connect_id e.connect_id) ≡ false → joined (queued_to_link t) (open_up s bytes state e).outs ≡ []
other_up s bytes t Open e h = parts_to_other t e.link e.connect_id (in_packets bytes) h
other_up s bytes t Closing e h = refl

-- an open tunnel's front, and another
front_is : (front other : ℕ) (state : HeldState) (o : Option ℕ) (bytes : List ℕ) → IsFrontOf front state o → carried state (cond (has_front o other) bytes []) ≡ carried state (cond (eqb front other) bytes [])
front_is front other Open None bytes h = absurd cc
front_is front other Open (Some g) bytes h = let m : g ≡ front = cc in rw m refl
front_is front other Closing o bytes h = refl

data_up_of : (s : State) (g n : ℕ) (bytes : List ℕ) (x : HeldEntry) (front : ℕ) (e : Option HeldEntry) → IsOrderly s → Holds s x → IsFrontOf front x.state x.front → first_where (is_held_dial n) s.held ≡ e
    → joined (queued_to_link (tunnel_of x front)) (data_up s bytes (own g e)).outs ≡ carried x.state (cond (eqb front g && eqb x.dial n) bytes [])
data_up_of s g n bytes x front None o f w k = none_here (eqb x.dial n) refl
  where
    none_here : (b : Bool) → eqb x.dial n ≡ b → [] ≡ carried x.state (cond (eqb front g && b) bytes [])
    none_here true i = let m : x.dial ≡ n = (Decides-eqb x.dial n).0 i in let z : first_where (is_held_dial x.dial) s.held ≡ None = subst (λ y. first_where (is_held_dial y) s.held ≡ None) (sym m) k in absurd (let c : None ≡ Some x = sym z ∙ f in cc)
    none_here false i = rw (and_false (eqb front g)) (sym (carried_none x.state))
data_up_of s g n bytes x front (Some e) o f w k = some_here (eqb x.dial n) (has_front e.front g) refl refl
  where
    and_true : (b : Bool) → (b && true) ≡ b
    and_true true = refl
    and_true false = refl

    some_here : (b c : Bool) → eqb x.dial n ≡ b → has_front e.front g ≡ c → joined (queued_to_link (tunnel_of x front)) (data_up s bytes (cond c (Some e) None)).outs ≡ carried x.state (cond (eqb front g && b) bytes [])
    some_here true c i j =
        let m : x.dial ≡ n = (Decides-eqb x.dial n).0 i in
        let same : e ≡ x = some_same (first_where (is_held_dial n) s.held) e x k (subst (λ z. first_where (is_held_dial z) s.held ≡ Some x) m f) in
        let l : has_front x.front g ≡ c = subst (λ z. has_front z.front g ≡ c) same j in
        subst (λ z. joined (queued_to_link (tunnel_of x front)) (data_up s bytes (cond c (Some z) None)).outs ≡ carried x.state (cond (eqb front g && true) bytes [])) (sym same)
        (rw (and_true (eqb front g)) (own_at c ∙ ap (λ d. carried x.state (cond d bytes [])) (sym l) ∙ front_is front g x.state x.front bytes w))
      where
        own_at : (d : Bool) → joined (queued_to_link (tunnel_of x front)) (data_up s bytes (cond d (Some x) None)).outs ≡ carried x.state (cond d bytes [])
        own_at true = own_up s bytes x front x.state
        own_at false = sym (carried_none x.state)
    some_here false true i j = rw (and_false (eqb front g)) (other_up s bytes (tunnel_of x front) e.state e (other_connection s x e n o f k i) ∙ sym (carried_none x.state))
    some_here false false i j = rw (and_false (eqb front g)) (sym (carried_none x.state))

data_up_at : (s : State) (g : ℕ) (connect_id : ℤ) (bytes : List ℕ) (x : HeldEntry) (front : ℕ) → IsOrderly s → Holds s x → IsFrontOf front x.state x.front
    → joined (queued_to_link (tunnel_of x front)) (data_up s bytes (own g (held_at connect_id s.held))).outs ≡ carried x.state (cond (eqb front g && is_of_dial connect_id x.dial) bytes [])
data_up_at s g (pos n) bytes x front o f w = data_up_of s g n bytes x front (first_where (is_held_dial n) s.held) o f w refl
data_up_at s g (negsuc n) bytes x front o f w = rw (and_false (eqb front g)) (sym (carried_none x.state))

chosen_up : (s : State) (t : Tunnel) (front : ℕ) (protocol address : List ℕ) (random : ℤ) (c : Result ℕ (List ℕ)) → joined (queued_to_link t) (dial_chosen s front protocol address random c).outs ≡ []
chosen_up s t front protocol address random (Ok link) = refl
chosen_up s t front protocol address random (Err text) = refl

close_own_up : (s : State) (t : Tunnel) (state : HeldState) (e : HeldEntry) → joined (queued_to_link t) (close_own s state e).outs ≡ []
close_own_up s t Open e = refl
close_own_up s t Closing e = refl

close_up : (s : State) (t : Tunnel) (front : ℕ) (connect_id : ℤ) (e : Option HeldEntry) → joined (queued_to_link t) (close_from_front s front connect_id e).outs ≡ []
close_up s t front connect_id None = refl
close_up s t front connect_id (Some e) = close_own_up s t e.state e

cancel_up : (s : State) (t : Tunnel) (e : Option AwaitedEntry) → joined (queued_to_link t) (dial_cancelled s e).outs ≡ []
cancel_up s t None = refl
cancel_up s t (Some e) = refl

from_front_bytes : (s : State) (g : ℕ) (p : Packet) (x : HeldEntry) (front : ℕ) → IsOrderly s → Holds s x → IsFrontOf front x.state x.front
    → joined (queued_to_link (tunnel_of x front)) (from_front s g p).outs ≡ carried x.state (dial_bytes (tunnel_of x front) g p)
from_front_bytes s g (DialReq protocol address random) x front o f w = chosen_up s (tunnel_of x front) g protocol address random (dial_choice s g protocol address random) ∙ sym (carried_none x.state)
from_front_bytes s g (Data connect_id error bytes) x front o f w = data_up_at s g connect_id bytes x front o f w
from_front_bytes s g (CloseReq connect_id) x front o f w = close_up s (tunnel_of x front) g connect_id (own g (held_at connect_id s.held)) ∙ sym (carried_none x.state)
from_front_bytes s g (DialCls random) x front o f w = cancel_up s (tunnel_of x front) (first_where (is_random g random) s.awaited) ∙ sym (carried_none x.state)
from_front_bytes s g (DialRsp error connect_id random) x front o f w = sym (carried_none x.state)
from_front_bytes s g (CloseRsp error connect_id) x front o f w = sym (carried_none x.state)
from_front_bytes s g Drain x front o f w = sym (carried_none x.state)
from_front_bytes s g (Other number) x front o f w = sym (carried_none x.state)

not_of : (g : ℕ) (p : Packet) (t : Tunnel) → eqb t.front g ≡ false → dial_bytes t g p ≡ []
not_of g (Data connect_id error bytes) t h = rw h refl
not_of g (DialReq protocol address random) t h = refl
not_of g (DialRsp error connect_id random) t h = refl
not_of g (CloseReq connect_id) t h = refl
not_of g (CloseRsp error connect_id) t h = refl
not_of g (DialCls random) t h = refl
not_of g Drain t h = refl
not_of g (Other number) t h = refl

gone_front : (x : HeldEntry) (front g : ℕ) (p : Packet) (state : HeldState) (o : Option ℕ) → IsFrontOf front state o → has_front o g ≡ false → carried state (dial_bytes (tunnel_of x front) g p) ≡ []
gone_front x front g p Open None w h = absurd cc
gone_front x front g p Open (Some f) w h = let m : f ≡ front = cc in not_of g p (tunnel_of x front) (subst (λ y. eqb y g ≡ false) m h)
gone_front x front g p Closing o w h = refl

front_packet_bytes : (s : State) (g : ℕ) (p : Packet) (x : HeldEntry) (front : ℕ) (b : Bool) → IsOrderly s → Holds s x → IsFrontOf front x.state x.front → is_up g s.fronts ≡ b
    → joined (queued_to_link (tunnel_of x front)) (cond b (from_front s g p) (ignored s)).outs ≡ carried x.state (dial_bytes (tunnel_of x front) g p)
front_packet_bytes s g p x front true o f w h = from_front_bytes s g p x front o f w
front_packet_bytes s g p x front false o f w h = sym (gone_front x front g p x.state x.front w (not_of_gone s g x o f h))

asked_up : (t : Tunnel) (state : HeldState) (e : HeldEntry) → joined (queued_to_link t) (asked_at_loss state e) ≡ []
asked_up t Open e = refl
asked_up t Closing e = refl

all_asked_up : (t : Tunnel) (es : List HeldEntry) → joined (queued_to_link t) (all_asked es) ≡ []
all_asked_up t [] = refl
all_asked_up t (e ∷ es) = nothing_both (queued_to_link t) (asked_at_loss e.state e) (all_asked es) (asked_up t e.state e) (all_asked_up t es)

front_lost_up : (t : Tunnel) (s : State) (g : ℕ) (b : Bool) → joined (queued_to_link t) (cond b (front_lost s g) (ignored s)).outs ≡ []
front_lost_up t s g true = all_asked_up t (filter (is_held_by g) s.held)
front_lost_up t s g false = refl

-- a link's event has nothing for links but requests to close
closes_only : (s : State) (link : ℕ) (t : Tunnel) (outs : List ServerOut) → Each (StaysWithLink s link) outs → joined (queued_to_link t) outs ≡ []
closes_only s link t [] h = refl
closes_only s link t (ToFront f p ∷ outs) h = closes_only s link t outs h.1
closes_only s link t (CutLink l ∷ outs) h = closes_only s link t outs h.1
closes_only s link t (Made d l f ∷ outs) h = absurd h.0
closes_only s link t (ToLink l (CloseReq connect_id) ∷ outs) h = closes_only s link t outs h.1
closes_only s link t (ToLink l (DialReq protocol address random) ∷ outs) h = absurd h.0.1
closes_only s link t (ToLink l (DialRsp error connect_id random) ∷ outs) h = absurd h.0.1
closes_only s link t (ToLink l (Data connect_id error bytes) ∷ outs) h = absurd h.0.1
closes_only s link t (ToLink l (CloseRsp error connect_id) ∷ outs) h = absurd h.0.1
closes_only s link t (ToLink l (DialCls random) ∷ outs) h = absurd h.0.1
closes_only s link t (ToLink l Drain ∷ outs) h = absurd h.0.1
closes_only s link t (ToLink l (Other number) ∷ outs) h = absurd h.0.1

-- what an event queues to the link of a tunnel
pub bytes_up : (s : State) (event : ServerEvent) (x : HeldEntry) (front : ℕ) → IsOrderly s → Holds s x → IsFrontOf front x.state x.front
    → joined (queued_to_link (tunnel_of x front)) (step s event).outs ≡ carried x.state (sent_by_front (tunnel_of x front) event)
bytes_up s (LinkUp link identifiers) x front o f w = sym (carried_none x.state)
bytes_up s (LinkPacket link p) x front o f w = closes_only s link (tunnel_of x front) (step s (LinkPacket link p)).outs (link_outs s (LinkPacket link p) link refl) ∙ sym (carried_none x.state)
bytes_up s (LinkLost link) x front o f w = closes_only s link (tunnel_of x front) (step s (LinkLost link)).outs (link_outs s (LinkLost link) link refl) ∙ sym (carried_none x.state)
bytes_up s (FrontUp number) x front o f w = sym (carried_none x.state)
bytes_up s (FrontPacket number p) x front o f w = front_packet_bytes s number p x front (is_up number s.fronts) o f w refl
bytes_up s (FrontLost number) x front o f w = front_lost_up (tunnel_of x front) s number (is_up number s.fronts) ∙ sym (carried_none x.state)
