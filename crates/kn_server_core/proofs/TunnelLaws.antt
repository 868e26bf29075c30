-- One tunnel over lists of events.
use Rattle.std.proofs.Common.{◌≡◌, ℕ, ℤ, pos, negsuc, ◌<◌, Bool, true, false, not, cond, eqb, ◌&&◌, ◌||◌, List, [], ◌∷◌, ◌++◌, Option, Some, None, Result, Ok, Err, inl, inr, ◌⊎◌, refl, sym, ap, ◌∙◌, subst, arith}
use Rattle.std.specs.List.{list_any}
use Rattle.std.proofs.lemmas.Bool.Decides.{Decides-eqb}
use Rattle.kn_packet.specs.declared.packet.Packet.{Packet}
use Rattle.kn_packet.specs.declared.packet.Packet.TheVariants.{DialReq, DialRsp, CloseReq, CloseRsp, Data, DialCls, Drain, Other}
use Rattle.kn_route.specs.LinkLists.{has_link}
use Rattle.kn_tables.specs.declared.awaited_entry.AwaitedEntry.{AwaitedEntry}
use Rattle.kn_tables.specs.declared.held_entry.HeldEntry.{HeldEntry}
use Rattle.kn_tables.specs.declared.held_entry.HeldState.{HeldState}
use Rattle.kn_tables.specs.declared.held_entry.HeldState.TheVariants.{Open, Closing}
use Rattle.kn_tables.specs.Lists.{first_where}
use Rattle.kn_tables.specs.Awaiting.{is_dial, is_random, is_of_front, is_of_link}
use Rattle.kn_tables.specs.Holding.{is_held, is_held_on, is_held_by, is_held_dial, closed_at, closed_entry}
use Rattle.kn_server_core.specs.declared.event.ServerEvent.{ServerEvent}
use Rattle.kn_server_core.specs.declared.event.ServerEvent.TheVariants.{LinkUp, LinkPacket, LinkLost, FrontUp, FrontPacket, FrontLost}
use Rattle.kn_server_core.specs.declared.event.ServerOut.{ServerOut}
use Rattle.kn_server_core.specs.declared.event.ServerOut.TheVariants.{ToLink, ToFront, CutLink, Made}
use Rattle.kn_server_core.specs.declared.state.State.{State}
use Rattle.kn_server_core.specs.FrontLists.{is_up}
use Rattle.kn_server_core.specs.Packets.{opened, in_packets}
use Rattle.kn_server_core.specs.Server.{ignored, step, from_link, from_front, link_lost, front_lost, reply, reply_by_entry, awaited_reply, refused_reply, tunnel_opened, of_link, dial_at, data_down, open_down, tunnel_ended, dial_chosen, dial_choice, data_up, open_up, close_from_front, close_own, dial_cancelled, own, held_at, front_left}
use Rattle.kn_server_core.specs.Steps.{Step}
use Rattle.kn_server_core.specs.Isolation.{Each, IsOrderly, StaysWithLink, names}
use Rattle.kn_server_core.specs.Runs.{Tunnel, Turn, turn_at, history, is_cut, is_end, is_close, is_gone, closed_by, until_gone, until_end, connection_bytes, dial_bytes, sent_by_link, sent_by_front, queued_to_front, queued_to_link, joined, queued_down, queued_up, sent_down, sent_up, CarriesBoth}
use Rattle.kn_server_core.proofs.SoundLemmas.{first_in_place, none_without, none_mapped, closed_dial, below_next, passes}
use Rattle.kn_server_core.proofs.LinkIsolation.{link_outs}
use Rattle.kn_server_core.proofs.OrderLemmas.{none_filter}
use Rattle.kn_server_core.proofs.ReachedLemmas.{orderly_kept}
use Rattle.kn_server_core.proofs.TunnelTables.{no_cut_data, tunnel_of, Holds, entry_after, after_event, after_packet, false_unless, left_dial}
use Rattle.kn_server_core.proofs.TunnelBytes.{carried, IsFrontOf, bytes_down, bytes_up, refusals_of}

-- ---- a dial that is not awaited, and was drawn
abbrev pub IsOver : ℕ → State → Type 0
IsOver d s = (first_where (is_dial d) s.awaited ≡ None) × (d < s.next_dial)

not_next : (d n : ℕ) → d < n → eqb n d ≡ false
not_next d n l = false_unless (eqb n d) (λ i. let m : n ≡ d = (Decides-eqb n d).0 i in let k : d < n = l in absurd (omega arith))

over_chosen : (d : ℕ) (s : State) (front : ℕ) (protocol address : List ℕ) (random : ℤ) (c : Result ℕ (List ℕ)) → IsOver d s → IsOver d (dial_chosen s front protocol address random c).state
over_chosen d s front protocol address random (Ok link) h =
    (first_in_place (λ (e : AwaitedEntry). e.dial) (is_dial d) _ s.awaited (not_next d s.next_dial h.1) ∙ h.0, let l : d < s.next_dial = h.1 in omega arith)
over_chosen d s front protocol address random (Err text) h = h

over_lost : (d : ℕ) (s : State) (link : ℕ) → IsOver d s → IsOver d (link_lost s link).state
over_lost d s link h = (none_filter (is_dial d) (λ e. not (is_of_link link e)) s.awaited h.0, h.1)

over_replied : (d : ℕ) (s : State) (link : ℕ) (connect_id : ℤ) (a : Option AwaitedEntry) → IsOver d s → IsOver d (awaited_reply s link connect_id a).state
over_replied d s link connect_id None h = h
over_replied d s link connect_id (Some e) h = (none_without (is_dial d) (is_dial e.dial) s.awaited h.0, h.1)

over_by_entry : (d : ℕ) (s : State) (link : ℕ) (connect_id random : ℤ) (e : Option HeldEntry) → IsOver d s → IsOver d (reply_by_entry s link connect_id random e).state
over_by_entry d s link connect_id random None h = over_replied d s link connect_id (of_link link (dial_at random s.awaited)) h
over_by_entry d s link connect_id random (Some e) h = over_lost d s link h

over_refused : (d : ℕ) (s : State) (error : List ℕ) (a : Option AwaitedEntry) → IsOver d s → IsOver d (refused_reply s error a).state
over_refused d s error None h = h
over_refused d s error (Some e) h = (none_without (is_dial d) (is_dial e.dial) s.awaited h.0, h.1)

over_reply : (d : ℕ) (s : State) (link : ℕ) (error : List ℕ) (connect_id random : ℤ) → IsOver d s → IsOver d (reply s link error connect_id random).state
over_reply d s link [] connect_id random h = over_by_entry d s link connect_id random (first_where (is_held link connect_id) s.held) h
over_reply d s link (y ∷ ys) connect_id random h = over_refused d s (y ∷ ys) (of_link link (dial_at random s.awaited)) h

open_down_same : (s : State) (bytes : List ℕ) (state : HeldState) (front : Option ℕ) (dial : ℕ) → (open_down s bytes state front dial).state ≡ s
open_down_same s bytes Open (Some front) dial = refl
open_down_same s bytes Open None dial = refl
open_down_same s bytes Closing front dial = refl

data_down_same : (s : State) (bytes : List ℕ) (x : Option HeldEntry) → (data_down s bytes x).state ≡ s
data_down_same s bytes None = refl
data_down_same s bytes (Some e) = open_down_same s bytes e.state e.front e.dial

open_up_same : (s : State) (bytes : List ℕ) (state : HeldState) (e : HeldEntry) → (open_up s bytes state e).state ≡ s
open_up_same s bytes Open e = refl
open_up_same s bytes Closing e = refl

data_up_same : (s : State) (bytes : List ℕ) (x : Option HeldEntry) → (data_up s bytes x).state ≡ s
data_up_same s bytes None = refl
data_up_same s bytes (Some e) = open_up_same s bytes e.state e

over_ended : (d : ℕ) (s : State) (link : ℕ) (connect_id : ℤ) (error : List ℕ) (e : Option HeldEntry) → IsOver d s → IsOver d (tunnel_ended s link connect_id error e).state
over_ended d s link connect_id error None h = h
over_ended d s link connect_id error (Some e) h = h

over_from_link : (d : ℕ) (s : State) (link : ℕ) (p : Packet) → IsOver d s → IsOver d (from_link s link p).state
over_from_link d s link (DialRsp error connect_id random) h = over_reply d s link error connect_id random h
over_from_link d s link (Data connect_id error bytes) h = subst (IsOver d) (sym (data_down_same s bytes (first_where (is_held link connect_id) s.held))) h
over_from_link d s link (CloseRsp error connect_id) h = over_ended d s link connect_id error (first_where (is_held link connect_id) s.held) h
over_from_link d s link Drain h = h
over_from_link d s link (DialReq protocol address random) h = h
over_from_link d s link (CloseReq connect_id) h = h
over_from_link d s link (DialCls random) h = h
over_from_link d s link (Other number) h = h

over_close_own : (d : ℕ) (s : State) (state : HeldState) (e : HeldEntry) → IsOver d s → IsOver d (close_own s state e).state
over_close_own d s Open e h = h
over_close_own d s Closing e h = h

over_close : (d : ℕ) (s : State) (front : ℕ) (connect_id : ℤ) (e : Option HeldEntry) → IsOver d s → IsOver d (close_from_front s front connect_id e).state
over_close d s front connect_id None h = h
over_close d s front connect_id (Some e) h = over_close_own d s e.state e h

over_cancel : (d : ℕ) (s : State) (e : Option AwaitedEntry) → IsOver d s → IsOver d (dial_cancelled s e).state
over_cancel d s None h = h
over_cancel d s (Some e) h = (none_without (is_dial d) (is_dial e.dial) s.awaited h.0, h.1)

over_from_front : (d : ℕ) (s : State) (front : ℕ) (p : Packet) → IsOver d s → IsOver d (from_front s front p).state
over_from_front d s front (DialReq protocol address random) h = over_chosen d s front protocol address random (dial_choice s front protocol address random) h
over_from_front d s front (Data connect_id error bytes) h = subst (IsOver d) (sym (data_up_same s bytes (own front (held_at connect_id s.held)))) h
over_from_front d s front (CloseReq connect_id) h = over_close d s front connect_id (own front (held_at connect_id s.held)) h
over_from_front d s front (DialCls random) h = over_cancel d s (first_where (is_random front random) s.awaited) h
over_from_front d s front (DialRsp error connect_id random) h = h
over_from_front d s front (CloseRsp error connect_id) h = h
over_from_front d s front Drain h = h
over_from_front d s front (Other number) h = h

over_if : (d : ℕ) (s : State) (b : Bool) (t : Step) → IsOver d s → IsOver d t.state → IsOver d (cond b t (ignored s)).state
over_if d s true t h i = i
over_if d s false t h i = h

over_step : (d : ℕ) (s : State) (event : ServerEvent) → IsOver d s → IsOver d (step s event).state
over_step d s (LinkUp link identifiers) h = h
over_step d s (LinkPacket link p) h = over_if d s (has_link link s.links) (from_link s link p) h (over_from_link d s link p h)
over_step d s (LinkLost link) h = over_if d s (has_link link s.links) (link_lost s link) h (over_lost d s link h)
over_step d s (FrontUp front) h = h
over_step d s (FrontPacket front p) h = over_if d s (is_up front s.fronts) (from_front s front p) h (over_from_front d s front p h)
over_step d s (FrontLost front) h = over_if d s (is_up front s.fronts) (front_lost s front) h (none_filter (is_dial d) (λ e. not (is_of_front front e)) s.awaited h.0, h.1)

-- a tunnel that is held has its dial over
held_is_over : (s : State) (x : HeldEntry) → IsOrderly s → Holds s x → IsOver x.dial s
held_is_over s x o f = (not_awaited (first_where (is_dial x.dial) s.awaited) refl, below_next (λ (e : HeldEntry). e.dial) (is_held_dial x.dial) x s.next_dial s.held o.sound.held_drawn f)
  where
    not_awaited : (a : Option AwaitedEntry) → first_where (is_dial x.dial) s.awaited ≡ a → a ≡ None
    not_awaited None g = refl
    not_awaited (Some a) g = let n : first_where (is_held_dial x.dial) s.held ≡ None = o.sound.apart x.dial (rw g refl) in absurd (let z : None ≡ Some x = sym n ∙ f in cc)

-- ---- a dial that no entry has
abbrev pub IsFree : ℕ → State → Type 0
IsFree d s = first_where (is_held_dial d) s.held ≡ None

-- an awaited dial is answered at an event
pub record Replies (d : ℕ) (s : State) (event : ServerEvent) (t : Step) : Type 0 where
  pub entry : AwaitedEntry
  pub awaited : first_where (is_dial d) s.awaited ≡ Some entry
  pub link : ℕ
  pub connect_id : ℤ
  pub is : event ≡ LinkPacket link (DialRsp [] connect_id (pos d))
  pub outs : t.outs ≡ opened entry.front d entry.random ∷ []

abbrev pub LeavesFree : ℕ → State → ServerEvent → Step → Type 0
LeavesFree d s event t = IsFree d t.state ⊎ Replies d s event t

free_replied : (d n : ℕ) (s : State) (link : ℕ) (connect_id : ℤ) (a : Option AwaitedEntry) → IsFree d s → first_where (is_dial n) s.awaited ≡ a
    → LeavesFree d s (LinkPacket link (DialRsp [] connect_id (pos n))) (awaited_reply s link connect_id (of_link link a))
free_replied d n s link connect_id None h f = inl h
free_replied d n s link connect_id (Some e) h f = link_here (eqb e.link link)
  where
    number : e.dial ≡ n
    number = (Decides-eqb e.dial n).0 (passes (is_dial n) e s.awaited f)

    dial_here : (b : Bool) → eqb e.dial d ≡ b → LeavesFree d s (LinkPacket link (DialRsp [] connect_id (pos n))) (tunnel_opened s link connect_id e)
    dial_here true i =
        let m : e.dial ≡ d = (Decides-eqb e.dial d).0 i in
        let k : n ≡ d = sym number ∙ m in
        inr (record {
          entry = e;
          awaited = subst (λ z. first_where (is_dial z) s.awaited ≡ Some e) k f;
          link = link;
          connect_id = connect_id;
          is = ap (λ (z : ℕ). LinkPacket link (DialRsp [] connect_id (pos z))) k;
          outs = ap (λ (z : ℕ). opened e.front z e.random ∷ []) m;
        })
    dial_here false i = inl (first_in_place (λ (x : HeldEntry). x.dial) (is_held_dial d) _ s.held i ∙ h)

    link_here : (b : Bool) → LeavesFree d s (LinkPacket link (DialRsp [] connect_id (pos n))) (awaited_reply s link connect_id (cond b (Some e) None))
    link_here true = dial_here (eqb e.dial d) refl
    link_here false = inl h

free_lost : (d : ℕ) (s : State) (link : ℕ) → IsFree d s → IsFree d (link_lost s link).state
free_lost d s link h = none_filter (is_held_dial d) (λ e. not (is_held_on link e)) s.held h

free_by_entry : (d : ℕ) (s : State) (link : ℕ) (connect_id random : ℤ) (e : Option HeldEntry) → IsFree d s
    → LeavesFree d s (LinkPacket link (DialRsp [] connect_id random)) (reply_by_entry s link connect_id random e)
free_by_entry d s link connect_id (pos n) None h = free_replied d n s link connect_id (first_where (is_dial n) s.awaited) h refl
free_by_entry d s link connect_id (negsuc n) None h = inl h
free_by_entry d s link connect_id random (Some e) h = inl (free_lost d s link h)

free_refused : (d : ℕ) (s : State) (error : List ℕ) (a : Option AwaitedEntry) → IsFree d s → IsFree d (refused_reply s error a).state
free_refused d s error None h = h
free_refused d s error (Some e) h = h

free_ended : (d : ℕ) (s : State) (link : ℕ) (connect_id : ℤ) (error : List ℕ) (e : Option HeldEntry) → IsFree d s → IsFree d (tunnel_ended s link connect_id error e).state
free_ended d s link connect_id error None h = h
free_ended d s link connect_id error (Some e) h = none_without (is_held_dial d) (is_held link connect_id) s.held h

free_from_link : (d : ℕ) (s : State) (link : ℕ) (p : Packet) → IsFree d s → LeavesFree d s (LinkPacket link p) (from_link s link p)
free_from_link d s link (DialRsp [] connect_id random) h = free_by_entry d s link connect_id random (first_where (is_held link connect_id) s.held) h
free_from_link d s link (DialRsp (y ∷ ys) connect_id random) h = inl (free_refused d s (y ∷ ys) (of_link link (dial_at random s.awaited)) h)
free_from_link d s link (Data connect_id error bytes) h = inl (subst (IsFree d) (sym (data_down_same s bytes (first_where (is_held link connect_id) s.held))) h)
free_from_link d s link (CloseRsp error connect_id) h = inl (free_ended d s link connect_id error (first_where (is_held link connect_id) s.held) h)
free_from_link d s link Drain h = inl h
free_from_link d s link (DialReq protocol address random) h = inl h
free_from_link d s link (CloseReq connect_id) h = inl h
free_from_link d s link (DialCls random) h = inl h
free_from_link d s link (Other number) h = inl h

free_close_own : (d : ℕ) (s : State) (state : HeldState) (e : HeldEntry) → IsFree d s → IsFree d (close_own s state e).state
free_close_own d s Open e h = none_mapped (closed_at e.link e.connect_id true) d (closed_dial e.link e.connect_id true) s.held h
free_close_own d s Closing e h = h

free_close : (d : ℕ) (s : State) (front : ℕ) (connect_id : ℤ) (e : Option HeldEntry) → IsFree d s → IsFree d (close_from_front s front connect_id e).state
free_close d s front connect_id None h = h
free_close d s front connect_id (Some e) h = free_close_own d s e.state e h

free_chosen : (d : ℕ) (s : State) (front : ℕ) (protocol address : List ℕ) (random : ℤ) (c : Result ℕ (List ℕ)) → IsFree d s → IsFree d (dial_chosen s front protocol address random c).state
free_chosen d s front protocol address random (Ok link) h = h
free_chosen d s front protocol address random (Err text) h = h

free_cancel : (d : ℕ) (s : State) (e : Option AwaitedEntry) → IsFree d s → IsFree d (dial_cancelled s e).state
free_cancel d s None h = h
free_cancel d s (Some e) h = h

free_from_front : (d : ℕ) (s : State) (front : ℕ) (p : Packet) → IsFree d s → IsFree d (from_front s front p).state
free_from_front d s front (DialReq protocol address random) h = free_chosen d s front protocol address random (dial_choice s front protocol address random) h
free_from_front d s front (Data connect_id error bytes) h = subst (IsFree d) (sym (data_up_same s bytes (own front (held_at connect_id s.held)))) h
free_from_front d s front (CloseReq connect_id) h = free_close d s front connect_id (own front (held_at connect_id s.held)) h
free_from_front d s front (DialCls random) h = free_cancel d s (first_where (is_random front random) s.awaited) h
free_from_front d s front (DialRsp error connect_id random) h = h
free_from_front d s front (CloseRsp error connect_id) h = h
free_from_front d s front Drain h = h
free_from_front d s front (Other number) h = h

free_if : (d : ℕ) (s : State) (event : ServerEvent) (b : Bool) (t : Step) → IsFree d s → LeavesFree d s event t → LeavesFree d s event (cond b t (ignored s))
free_if d s event true t h i = i
free_if d s event false t h i = inl h

pub free_step : (d : ℕ) (s : State) (event : ServerEvent) → IsFree d s → LeavesFree d s event (step s event)
free_step d s (LinkUp link identifiers) h = inl h
free_step d s (LinkPacket link p) h = free_if d s (LinkPacket link p) (has_link link s.links) (from_link s link p) h (free_from_link d s link p h)
free_step d s (LinkLost link) h = free_if d s (LinkLost link) (has_link link s.links) (link_lost s link) h (inl (free_lost d s link h))
free_step d s (FrontUp front) h = inl h
free_step d s (FrontPacket front p) h = free_if d s (FrontPacket front p) (is_up front s.fronts) (from_front s front p) h (inl (free_from_front d s front p h))
free_step d s (FrontLost front) h = free_if d s (FrontLost front) (is_up front s.fronts) (front_lost s front) h (inl (none_mapped (front_left front) d (left_dial front) s.held h))

-- ---- a dial that no entry has is queued nothing
none_named : (d link front : ℕ) (xs : List HeldEntry) → first_where (is_held_dial d) xs ≡ None → list_any (λ e. is_held_on link e && is_held_by front e && names (pos d) e) xs ≡ true → ⊥
none_named d link front [] f h = cc
none_named d link front (x ∷ xs) f h = named_here (eqb x.dial d) (is_held_on link x && is_held_by front x) refl f h (λ k l. none_named d link front xs k l)
  where
    named_here : (b c : Bool) → eqb x.dial d ≡ b → cond b (Some x) (first_where (is_held_dial d) xs) ≡ None → (c && eqb x.dial d || list_any (λ e. is_held_on link e && is_held_by front e && names (pos d) e) xs) ≡ true
        → (first_where (is_held_dial d) xs ≡ None → list_any (λ e. is_held_on link e && is_held_by front e && names (pos d) e) xs ≡ true → ⊥) → ⊥
    named_here true c i f h later = cc
    named_here false true i f h later = later f (rw i at h)
    named_here false false i f h later = later f h

said_nothing : (s : State) (link : ℕ) (t : Tunnel) (outs : List ServerOut) → IsFree t.dial s → Each (StaysWithLink s link) outs → joined (queued_to_front t) outs ≡ []
said_nothing s link t [] f h = refl
said_nothing s link t (ToLink l p ∷ outs) f h = said_nothing s link t outs f h.1
said_nothing s link t (CutLink l ∷ outs) f h = said_nothing s link t outs f h.1
said_nothing s link t (Made d l g ∷ outs) f h = absurd h.0
said_nothing s link t (ToFront g (DialRsp error connect_id random) ∷ outs) f h = said_nothing s link t outs f h.1
said_nothing s link t (ToFront g (CloseRsp error connect_id) ∷ outs) f h = said_nothing s link t outs f h.1
said_nothing s link t (ToFront g (DialReq protocol address random) ∷ outs) f h = absurd h.0
said_nothing s link t (ToFront g (CloseReq connect_id) ∷ outs) f h = absurd h.0
said_nothing s link t (ToFront g (DialCls random) ∷ outs) f h = absurd h.0
said_nothing s link t (ToFront g Drain ∷ outs) f h = absurd h.0
said_nothing s link t (ToFront g (Other number) ∷ outs) f h = absurd h.0
said_nothing s link t (ToFront g (Data (negsuc n) error bytes) ∷ outs) f h = rw (and_false (eqb t.front g)) (said_nothing s link t outs f h.1)
  where
    and_false : (b : Bool) → (b && false) ≡ false
    and_false true = refl
    and_false false = refl
said_nothing s link t (ToFront g (Data (pos n) error bytes) ∷ outs) f h = data_here (eqb t.dial n) (eqb t.front g) refl (said_nothing s link t outs f h.1)
  where
    data_here : (b c : Bool) → eqb t.dial n ≡ b → joined (queued_to_front t) outs ≡ [] → (cond (c && b) bytes [] ++ joined (queued_to_front t) outs) ≡ []
    data_here true c i later = let m : t.dial ≡ n = (Decides-eqb t.dial n).0 i in absurd (none_named n link g s.held (subst (λ z. first_where (is_held_dial z) s.held ≡ None) m f) h.0)
    data_here false true i later = later
    data_here false false i later = later

pub free_bytes : (s : State) (event : ServerEvent) (t : Tunnel) → IsOrderly s → IsFree t.dial s → joined (queued_to_front t) (step s event).outs ≡ []
free_bytes s (LinkUp link identifiers) t o f = refl
free_bytes s (LinkPacket link p) t o f = said_nothing s link t (step s (LinkPacket link p)).outs f (link_outs s (LinkPacket link p) link refl)
free_bytes s (LinkLost link) t o f = said_nothing s link t (step s (LinkLost link)).outs f (link_outs s (LinkLost link) link refl)
free_bytes s (FrontUp front) t o f = refl
free_bytes s (FrontPacket front p) t o f = refusals_of s (FrontPacket front p) front t o refl
free_bytes s (FrontLost front) t o f = refusals_of s (FrontLost front) front t o refl

-- ---- over lists of events, from the end on
pub nothing_more : (a b : List ℕ) → a ≡ [] → b ≡ [] → a ++ b ≡ []
nothing_more a b h i = rw h i

over_run : (events : List ServerEvent) (s : State) (t : Tunnel) → IsOrderly s → IsOver t.dial s → IsFree t.dial s → queued_down t (history s events) ≡ []
over_run [] s t o v f = refl
over_run (event ∷ events) s t o v f =
    nothing_more (joined (queued_to_front t) (step s event).outs) (queued_down t (history (step s event).state events)) (free_bytes s event t o f) (over_run events (step s event).state t (orderly_kept s event o) (over_step t.dial s event v) (still (free_step t.dial s event f)))
  where
    still : LeavesFree t.dial s event (step s event) → IsFree t.dial (step s event).state
    still (inl h) = h
    still (inr r) = absurd (let z : None ≡ Some r.entry = sym v.0 ∙ r.awaited in cc)

-- ---- a closing tunnel
closing_packet : (front : ℕ) (p : Packet) (x : HeldEntry) → x.state ≡ Closing → after_packet front p x ≡ x
closing_packet front (CloseReq connect_id) x h = rw h refl
closing_packet front (DialReq protocol address random) x h = refl
closing_packet front (DialRsp error connect_id random) x h = refl
closing_packet front (CloseRsp error connect_id) x h = refl
closing_packet front (Data connect_id error bytes) x h = refl
closing_packet front (DialCls random) x h = refl
closing_packet front Drain x h = refl
closing_packet front (Other number) x h = refl

-- an entry goes on as one of the same tunnel, closing
pub record GoesOn (x y : HeldEntry) : Type 0 where
  pub dial : y.dial ≡ x.dial
  pub link : y.link ≡ x.link
  pub connect_id : y.connect_id ≡ x.connect_id
  pub state : y.state ≡ Closing

left_goes_on : (front : ℕ) (x : HeldEntry) → x.state ≡ Closing → GoesOn x (front_left front x)
left_goes_on front x h = left_here (is_held_by front x)
  where
    left_here : (b : Bool) → GoesOn x (cond b (closed_entry false x) x)
    left_here true = record { dial = refl; link = refl; connect_id = refl; state = refl }
    left_here false = record { dial = refl; link = refl; connect_id = refl; state = h }

goes_on : (event : ServerEvent) (x : HeldEntry) → x.state ≡ Closing → GoesOn x (after_event event x)
goes_on (FrontPacket front p) x h = subst (λ y. GoesOn x y) (sym (closing_packet front p x h)) (record { dial = refl; link = refl; connect_id = refl; state = h })
goes_on (FrontLost front) x h = left_goes_on front x h
goes_on (LinkUp link identifiers) x h = record { dial = refl; link = refl; connect_id = refl; state = h }
goes_on (LinkPacket link p) x h = record { dial = refl; link = refl; connect_id = refl; state = h }
goes_on (LinkLost link) x h = record { dial = refl; link = refl; connect_id = refl; state = h }
goes_on (FrontUp front) x h = record { dial = refl; link = refl; connect_id = refl; state = h }

pub record CarriesNothing (t : Tunnel) (turns : List Turn) : Type 0 where
  pub down : queued_down t turns ≡ []
  pub up : queued_up t (until_gone t turns) ≡ []

same_tunnel : (x y : HeldEntry) (front : ℕ) → GoesOn x y → tunnel_of y front ≡ tunnel_of x front
same_tunnel x y front g = ap (λ (d : ℕ). runs_tunnel d y.link y.connect_id front) g.dial ∙ ap (λ (l : ℕ). runs_tunnel x.dial l y.connect_id front) g.link ∙ ap (λ (c : ℤ). runs_tunnel x.dial x.link c front) g.connect_id
  where
    runs_tunnel : ℕ → ℕ → ℤ → ℕ → Tunnel
    runs_tunnel d l c f = record { dial = d; link = l; connect_id = c; front = f }

carried_closing : (state : HeldState) (bytes : List ℕ) → state ≡ Closing → carried state bytes ≡ []
carried_closing state bytes h = rw h refl

is_front_closing : (front : ℕ) (state : HeldState) (o : Option ℕ) → state ≡ Closing → IsFrontOf front state o
is_front_closing front state o h = subst (λ z. IsFrontOf front z o) (sym h) tt

closing_run : (events : List ServerEvent) (s : State) (x : HeldEntry) (front : ℕ) → IsOrderly s → Holds s x → x.state ≡ Closing → CarriesNothing (tunnel_of x front) (history s events)
closing_run [] s x front o f h = record { down = refl; up = refl }
closing_run (event ∷ events) s x front o f h = gone_here (is_gone (tunnel_of x front) (turn_at s event)) refl (entry_after s event x front o f)
    (λ y a k. closing_run events (step s event).state y front (orderly_kept s event o) a k)
  where
    down_here : joined (queued_to_front (tunnel_of x front)) (step s event).outs ≡ []
    down_here = bytes_down s event x front o f (is_front_closing front x.state x.front h) ∙ carried_closing x.state (sent_by_link (tunnel_of x front) event) h

    up_here : joined (queued_to_link (tunnel_of x front)) (step s event).outs ≡ []
    up_here = bytes_up s event x front o f (is_front_closing front x.state x.front h) ∙ carried_closing x.state (sent_by_front (tunnel_of x front) event) h

    gone_here : (b : Bool) → is_gone (tunnel_of x front) (turn_at s event) ≡ b → first_where (is_held_dial x.dial) (step s event).state.held ≡ cond b None (Some (after_event event x))
        → ((y : HeldEntry) → Holds (step s event).state y → y.state ≡ Closing → CarriesNothing (tunnel_of y front) (history (step s event).state events))
        → CarriesNothing (tunnel_of x front) (turn_at s event ∷ history (step s event).state events)
    gone_here true i a run = record {
      down = nothing_more (joined (queued_to_front (tunnel_of x front)) (step s event).outs) (queued_down (tunnel_of x front) (history (step s event).state events)) down_here
          (over_run events (step s event).state (tunnel_of x front) (orderly_kept s event o) (over_step x.dial s event (held_is_over s x o f)) a);
      up = rw i refl;
    }
    gone_here false i a run =
        let g : GoesOn x (after_event event x) = goes_on event x h in
        let later : CarriesNothing (tunnel_of x front) (history (step s event).state events) = subst (λ t. CarriesNothing t (history (step s event).state events)) (same_tunnel x (after_event event x) front g)
        (run (after_event event x) (subst (λ d. first_where (is_held_dial d) (step s event).state.held ≡ Some (after_event event x)) (sym g.dial) a) g.state) in
        record {
          down = nothing_more (joined (queued_to_front (tunnel_of x front)) (step s event).outs) (queued_down (tunnel_of x front) (history (step s event).state events)) down_here later.down;
          up = rw i (nothing_more (joined (queued_to_link (tunnel_of x front)) (step s event).outs) (queued_up (tunnel_of x front) (until_gone (tunnel_of x front) (history (step s event).state events))) up_here later.up);
        }

-- ---- an open tunnel
abbrev pub open_entry : Tunnel → HeldEntry
open_entry t = record { dial = t.dial; link = t.link; connect_id = t.connect_id; front = Some t.front; state = Open }

-- a close of its front
close_is : (t : Tunnel) (front : ℕ) (p : Packet) → is_close t front p ≡ true → after_packet front p (open_entry t) ≡ closed_entry true (open_entry t)
close_is t front (CloseReq connect_id) h = rw h refl
close_is t front (DialReq protocol address random) h = absurd cc
close_is t front (DialRsp error connect_id random) h = absurd cc
close_is t front (CloseRsp error connect_id) h = absurd cc
close_is t front (Data connect_id error bytes) h = absurd cc
close_is t front (DialCls random) h = absurd cc
close_is t front Drain h = absurd cc
close_is t front (Other number) h = absurd cc

close_not : (t : Tunnel) (front : ℕ) (p : Packet) → is_close t front p ≡ false → after_packet front p (open_entry t) ≡ open_entry t
close_not t front (CloseReq connect_id) h = rw h refl
close_not t front (DialReq protocol address random) h = refl
close_not t front (DialRsp error connect_id random) h = refl
close_not t front (CloseRsp error connect_id) h = refl
close_not t front (Data connect_id error bytes) h = refl
close_not t front (DialCls random) h = refl
close_not t front Drain h = refl
close_not t front (Other number) h = refl

close_bytes : (t : Tunnel) (front : ℕ) (p : Packet) → is_close t front p ≡ true → dial_bytes t front p ≡ []
close_bytes t front (CloseReq connect_id) h = refl
close_bytes t front (DialReq protocol address random) h = refl
close_bytes t front (DialRsp error connect_id random) h = refl
close_bytes t front (CloseRsp error connect_id) h = refl
close_bytes t front (Data connect_id error bytes) h = absurd cc
close_bytes t front (DialCls random) h = refl
close_bytes t front Drain h = refl
close_bytes t front (Other number) h = refl

-- what its front's close leaves, and that it brings no bytes
pub record ClosedAt (t : Tunnel) (event : ServerEvent) (y : HeldEntry) : Type 0 where
  pub goes : GoesOn (open_entry t) y
  pub none_down : sent_by_link t event ≡ []
  pub none_up : sent_by_front t event ≡ []

closed_goes : (t : Tunnel) (keep : Bool) → GoesOn (open_entry t) (closed_entry keep (open_entry t))
closed_goes t keep = record { dial = refl; link = refl; connect_id = refl; state = refl }

closes : (event : ServerEvent) (t : Tunnel) → closed_by t event ≡ true → ClosedAt t event (after_event event (open_entry t))
closes (FrontPacket front p) t h = record { goes = subst (GoesOn (open_entry t)) (sym (close_is t front p h)) (closed_goes t true); none_down = refl; none_up = close_bytes t front p h }
closes (FrontLost front) t h = record { goes = subst (GoesOn (open_entry t)) (sym (left_is h)) (closed_goes t false); none_down = refl; none_up = refl }
  where
    left_is : eqb t.front front ≡ true → front_left front (open_entry t) ≡ closed_entry false (open_entry t)
    left_is i = rw i refl
closes (LinkUp link identifiers) t h = absurd cc
closes (LinkPacket link p) t h = absurd cc
closes (LinkLost link) t h = absurd cc
closes (FrontUp front) t h = absurd cc

stays_open : (event : ServerEvent) (t : Tunnel) → closed_by t event ≡ false → after_event event (open_entry t) ≡ open_entry t
stays_open (FrontPacket front p) t h = close_not t front p h
stays_open (FrontLost front) t h = rw h refl
stays_open (LinkUp link identifiers) t h = refl
stays_open (LinkPacket link p) t h = refl
stays_open (LinkLost link) t h = refl
stays_open (FrontUp front) t h = refl

-- at its agent's end no bytes come from its link
no_cut_in_data : (link : ℕ) (s : State) (bytes : List ℕ) (e : Option HeldEntry) → list_any (is_cut link) (data_down s bytes e).outs ≡ false
no_cut_in_data link s bytes None = refl
no_cut_in_data link s bytes (Some e) = open_here e.state e.front
  where
    open_here : (state : HeldState) (front : Option ℕ) → list_any (is_cut link) (open_down s bytes state front e.dial).outs ≡ false
    open_here Open (Some front) = no_cut_data link front e.dial (in_packets bytes)
    open_here Open None = refl
    open_here Closing front = refl

gone_packet : (s : State) (link : ℕ) (p : Packet) (t : Tunnel) (b : Bool) → (is_end t link p || list_any (is_cut t.link) (cond b (from_link s link p) (ignored s)).outs) ≡ true → connection_bytes t link p ≡ []
gone_packet s link (Data connect_id error bytes) t true h = let n = no_cut_in_data t.link s bytes (first_where (is_held link connect_id) s.held) in absurd (let z : false ≡ true = sym n ∙ h in cc)
gone_packet s link (Data connect_id error bytes) t false h = absurd cc
gone_packet s link (DialReq protocol address random) t b h = refl
gone_packet s link (DialRsp error connect_id random) t b h = refl
gone_packet s link (CloseReq connect_id) t b h = refl
gone_packet s link (CloseRsp error connect_id) t b h = refl
gone_packet s link (DialCls random) t b h = refl
gone_packet s link Drain t b h = refl
gone_packet s link (Other number) t b h = refl

gone_bytes : (s : State) (event : ServerEvent) (t : Tunnel) → is_gone t (turn_at s event) ≡ true → sent_by_link t event ≡ []
gone_bytes s (LinkPacket link p) t h = gone_packet s link p t (has_link link s.links) h
gone_bytes s (LinkUp link identifiers) t h = refl
gone_bytes s (LinkLost link) t h = refl
gone_bytes s (FrontUp front) t h = refl
gone_bytes s (FrontPacket front p) t h = refl
gone_bytes s (FrontLost front) t h = refl

both_joined : (a b c d : List ℕ) → a ≡ b → c ≡ d → a ++ c ≡ b ++ d
both_joined a b c d h i = rw (h, i) refl

pub open_run : (events : List ServerEvent) (s : State) (t : Tunnel) → IsOrderly s → Holds s (open_entry t) → CarriesBoth t (history s events)
open_run [] s t o f = record { down = refl; up = refl }
open_run (event ∷ events) s t o f = open_here (is_gone t (turn_at s event)) (closed_by t event) refl refl (entry_after s event (open_entry t) t.front o f)
    (λ a. open_run events (step s event).state t (orderly_kept s event o) a)
  where
    down_here : joined (queued_to_front t) (step s event).outs ≡ sent_by_link t event
    down_here = bytes_down s event (open_entry t) t.front o f refl

    up_here : joined (queued_to_link t) (step s event).outs ≡ sent_by_front t event
    up_here = bytes_up s event (open_entry t) t.front o f refl

    open_here : (b c : Bool) → is_gone t (turn_at s event) ≡ b → closed_by t event ≡ c → first_where (is_held_dial t.dial) (step s event).state.held ≡ cond b None (Some (after_event event (open_entry t)))
        → (Holds (step s event).state (open_entry t) → CarriesBoth t (history (step s event).state events))
        → CarriesBoth t (turn_at s event ∷ history (step s event).state events)
    open_here true c i j a run = record {
      down = rw i (nothing_more (joined (queued_to_front t) (step s event).outs) (queued_down t (history (step s event).state events)) (down_here ∙ gone_bytes s event t i)
          (over_run events (step s event).state t (orderly_kept s event o) (over_step t.dial s event (held_is_over s (open_entry t) o f)) a));
      up = rw i refl;
    }
    open_here false true i j a run =
        let k : ClosedAt t event (after_event event (open_entry t)) = closes event t j in
        let later : CarriesNothing t (history (step s event).state events) = subst (λ u. CarriesNothing u (history (step s event).state events)) (same_tunnel (open_entry t) (after_event event (open_entry t)) t.front k.goes)
        (closing_run events (step s event).state (after_event event (open_entry t)) t.front (orderly_kept s event o) (subst (λ d. first_where (is_held_dial d) (step s event).state.held ≡ Some (after_event event (open_entry t))) (sym k.goes.dial) a) k.goes.state) in
        record {
          down = rw (i, j) (nothing_more (joined (queued_to_front t) (step s event).outs) (queued_down t (history (step s event).state events)) (down_here ∙ k.none_down) later.down);
          up = rw (i, j) (nothing_more (joined (queued_to_link t) (step s event).outs) (queued_up t (until_gone t (history (step s event).state events))) (up_here ∙ k.none_up) later.up);
        }
    open_here false false i j a run =
        let later : CarriesBoth t (history (step s event).state events) = run (a ∙ ap (λ (e : HeldEntry). Some e) (stays_open event t j)) in
        record {
          down = rw (i, j) (both_joined (joined (queued_to_front t) (step s event).outs) (sent_by_link t event) (queued_down t (history (step s event).state events)) (sent_down t (until_end t (history (step s event).state events))) down_here later.down);
          up = rw (i, j) (both_joined (joined (queued_to_link t) (step s event).outs) (sent_by_front t event) (queued_up t (until_gone t (history (step s event).state events))) (sent_up t (until_end t (history (step s event).state events))) up_here later.up);
        }
