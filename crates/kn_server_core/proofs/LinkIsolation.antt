-- An event of a link changes only that link's entries, and what it gives out stays with the link.
use Rattle.std.proofs.Common.{◌≡◌, ℕ, ℤ, pos, negsuc, Bool, true, false, not, cond, eqb, ◌&&◌, List, [], ◌∷◌, filter, Option, Some, None, refl, sym, ap, subst, codes}
use Rattle.std.specs.List.{list_any}
use Rattle.std.specs.Ordering.{int_cmp, is_lt}
use Rattle.std.proofs.lemmas.Bool.Decides.{Decides-eqb}
use Rattle.kn_packet.specs.declared.packet.Packet.{Packet}
use Rattle.kn_packet.specs.declared.packet.Packet.TheVariants.{DialReq, DialRsp, CloseReq, CloseRsp, Data, DialCls, Drain, Other}
use Rattle.kn_route.specs.declared.link.Link.{Link}
use Rattle.kn_route.specs.LinkLists.{is_link, has_link, drained}
use Rattle.kn_tables.specs.declared.awaited_entry.AwaitedEntry.{AwaitedEntry}
use Rattle.kn_tables.specs.declared.held_entry.HeldEntry.{HeldEntry}
use Rattle.kn_tables.specs.declared.held_entry.HeldState.{HeldState}
use Rattle.kn_tables.specs.declared.held_entry.HeldState.TheVariants.{Open, Closing}
use Rattle.kn_tables.specs.Lists.{first_where}
use Rattle.kn_tables.specs.Awaiting.{is_dial, is_random, is_of_link}
use Rattle.kn_tables.specs.Holding.{is_held, is_held_on, is_held_by, by_connect_id, in_order}
use Rattle.kn_server_core.specs.declared.event.ServerEvent.{ServerEvent}
use Rattle.kn_server_core.specs.declared.event.ServerEvent.TheVariants.{LinkUp, LinkPacket, LinkLost, FrontUp, FrontPacket, FrontLost}
use Rattle.kn_server_core.specs.declared.state.State.{State}
use Rattle.kn_server_core.specs.Packets.{data_to_front, in_packets}
use Rattle.kn_server_core.specs.Server.{ignored, step, from_link, link_lost, link_packet, link_gone, reply, reply_by_entry, awaited_reply, refused_reply, tunnel_opened, dial_failed, late_reply, of_link, dial_at, data_down, open_down, tunnel_ended, ended_to, link_drains, second_reply_cuts, all_awaited_lost, all_held_lost, held_lost}
use Rattle.kn_server_core.specs.Steps.{Step}
use Rattle.kn_server_core.specs.Texts.{error_cut}
use Rattle.kn_server_core.specs.Isolation.{ChangesOnlyLink, StaysWithLink, Each, IsOfLink, names}
use Rattle.kn_server_core.proofs.LossLemmas.{others_kept, held_passes}
use Rattle.kn_server_core.proofs.SoundLemmas.{passes}
use Rattle.kn_server_core.proofs.EntryLemmas.{others_put, others_taken, others_mapped, others_added, twice_filtered, IsIn, found_in, each_of_kind, each_append, both_true, same_number, same_signed}

-- a step stays with a link
pub record Stays (s : State) (link : ℕ) (t : Step) : Type 0 where
  pub state : ChangesOnlyLink link s t.state
  pub outs : Each (StaysWithLink s link) t.outs

nothing_changed : (s : State) (link : ℕ) → ChangesOnlyLink link s s
nothing_changed s link = record { awaited = refl; held = refl; links = refl; fronts = refl; next_dial = refl; strategies = refl }

ignored_stays : (s : State) (link : ℕ) → Stays s link (ignored s)
ignored_stays s link = record { state = nothing_changed s link; outs = tt }

-- ---- replies
is_number : (e : AwaitedEntry) (d : ℕ) (awaited : List AwaitedEntry) → first_where (is_dial d) awaited ≡ Some e → first_where (is_dial e.dial) awaited ≡ Some e
is_number e d awaited f = let n : e.dial ≡ d = (Decides-eqb e.dial d).0 (passes (is_dial d) e awaited f) in subst (λ y. first_where (is_dial y) awaited ≡ Some e) (sym n) f

random_there : (s : State) (link d : ℕ) (e : AwaitedEntry) → first_where (is_dial d) s.awaited ≡ Some e → eqb e.link link ≡ true → list_any (λ x. is_of_link link x && is_random e.front e.random x) s.awaited ≡ true
random_there s link d e f l = found_in (is_dial d) e s.awaited f (λ x. is_of_link link x && is_random e.front e.random x) (both_true (eqb e.link link) (is_random e.front e.random e) l (both_true (eqb e.front e.front) _ (same_number e.front) (same_signed e.random)))

opened_stays : (s : State) (link d : ℕ) (connect_id : ℤ) (e : AwaitedEntry) → first_where (is_dial d) s.awaited ≡ Some e → eqb e.link link ≡ true → Stays s link (tunnel_opened s link connect_id e)
opened_stays s link d connect_id e f l = record {
  state = record {
    awaited = others_taken (is_of_link link) (is_dial e.dial) e s.awaited (is_number e d s.awaited f) l;
    held = others_put (λ (x : HeldEntry). x.dial) (is_held_on link) _ s.held (same_number link);
    links = refl;
    fronts = refl;
    next_dial = refl;
    strategies = refl;
  };
  outs = (random_there s link d e f l, tt);
}

failed_stays : (s : State) (link d : ℕ) (error : List ℕ) (e : AwaitedEntry) → first_where (is_dial d) s.awaited ≡ Some e → eqb e.link link ≡ true → Stays s link (dial_failed s error e)
failed_stays s link d error e f l = record {
  state = record {
    awaited = others_taken (is_of_link link) (is_dial e.dial) e s.awaited (is_number e d s.awaited f) l;
    held = refl;
    links = refl;
    fronts = refl;
    next_dial = refl;
    strategies = refl;
  };
  outs = (random_there s link d e f l, tt);
}

late_stays : (s : State) (link : ℕ) (connect_id : ℤ) → Stays s link (late_reply s link connect_id)
late_stays s link connect_id = record { state = nothing_changed s link; outs = ((refl, tt), tt) }

awaited_stays : (s : State) (link d : ℕ) (connect_id : ℤ) (o : Option AwaitedEntry) → first_where (is_dial d) s.awaited ≡ o → Stays s link (awaited_reply s link connect_id (of_link link o))
awaited_stays s link d connect_id None f = late_stays s link connect_id
awaited_stays s link d connect_id (Some e) f = of_here (eqb e.link link) refl
  where
    of_here : (b : Bool) → eqb e.link link ≡ b → Stays s link (awaited_reply s link connect_id (cond b (Some e) None))
    of_here true l = opened_stays s link d connect_id e f l
    of_here false l = late_stays s link connect_id

awaited_at : (s : State) (link : ℕ) (connect_id random : ℤ) → Stays s link (awaited_reply s link connect_id (of_link link (dial_at random s.awaited)))
awaited_at s link connect_id (pos d) = awaited_stays s link d connect_id (first_where (is_dial d) s.awaited) refl
awaited_at s link connect_id (negsuc d) = late_stays s link connect_id

refused_stays : (s : State) (link d : ℕ) (error : List ℕ) (o : Option AwaitedEntry) → first_where (is_dial d) s.awaited ≡ o → Stays s link (refused_reply s error (of_link link o))
refused_stays s link d error None f = ignored_stays s link
refused_stays s link d error (Some e) f = of_here (eqb e.link link) refl
  where
    of_here : (b : Bool) → eqb e.link link ≡ b → Stays s link (refused_reply s error (cond b (Some e) None))
    of_here true l = failed_stays s link d error e f l
    of_here false l = ignored_stays s link

refused_at : (s : State) (link : ℕ) (error : List ℕ) (random : ℤ) → Stays s link (refused_reply s error (of_link link (dial_at random s.awaited)))
refused_at s link error (pos d) = refused_stays s link d error (first_where (is_dial d) s.awaited) refl
refused_at s link error (negsuc d) = ignored_stays s link

-- ---- a link's loss
ended_stays : (s : State) (link : ℕ) (text : List ℕ) (e : HeldEntry) (o : Option ℕ) → e.front ≡ o → IsIn e s.held → is_held_on link e ≡ true → Each (StaysWithLink s link) (ended_to o e.dial text)
ended_stays s link text e None f i l = tt
ended_stays s link text e (Some front) f i l = (i (λ x. is_held_on link x && is_held_by front x && names (pos e.dial) x) (both_true (is_held_on link e && is_held_by front e) (eqb e.dial e.dial) (both_true (is_held_on link e) (is_held_by front e) l (rw f (same_number front))) (same_number e.dial)), tt)

awaited_lost_stays : (s : State) (link : ℕ) (es : List AwaitedEntry) → Each (λ e. (is_of_link link e ≡ true) × IsIn e s.awaited) es → Each (StaysWithLink s link) (all_awaited_lost es)
awaited_lost_stays s link [] h = tt
awaited_lost_stays s link (e ∷ es) h = (h.0.1 (λ x. is_of_link link x && is_random e.front e.random x) (both_true (eqb e.link link) (is_random e.front e.random e) h.0.0 (both_true (eqb e.front e.front) _ (same_number e.front) (same_signed e.random))), awaited_lost_stays s link es h.1)

held_lost_stays : (s : State) (link : ℕ) (es : List HeldEntry) → Each (λ e. (is_held_on link e ≡ true) × IsIn e s.held) es → Each (StaysWithLink s link) (all_held_lost es)
held_lost_stays s link [] h = tt
held_lost_stays s link (e ∷ es) h = each_append (StaysWithLink s link) (held_lost e) (all_held_lost es) (ended_stays s link (codes "agent lost") e e.front refl h.0.1 h.0.0) (held_lost_stays s link es h.1)

each_ordered : (P : HeldEntry → Type 0) (e : HeldEntry) (xs : List HeldEntry) → P e → Each P xs → Each P (in_order e xs)
each_ordered P e [] h i = (h, tt)
each_ordered P e (x ∷ xs) h i = ordered_here (is_lt (int_cmp x.connect_id e.connect_id)) (each_ordered P e xs h i.1)
  where
    ordered_here : (b : Bool) → Each P (in_order e xs) → Each P (cond b (x ∷ in_order e xs) (e ∷ x ∷ xs))
    ordered_here true later = (i.0, later)
    ordered_here false later = (h, i)

each_sorted : (P : HeldEntry → Type 0) (xs : List HeldEntry) → Each P xs → Each P (by_connect_id xs)
each_sorted P [] h = tt
each_sorted P (x ∷ xs) h = each_ordered P x (by_connect_id xs) h.0 (each_sorted P xs h.1)

lost_stays : (s : State) (link : ℕ) → Stays s link (link_lost s link)
lost_stays s link = record {
  state = record {
    awaited = twice_filtered (λ e. not (is_of_link link e)) s.awaited;
    held = twice_filtered (λ e. not (is_held_on link e)) s.held;
    links = twice_filtered (λ l. not (is_link link l)) s.links.links;
    fronts = refl;
    next_dial = refl;
    strategies = refl;
  };
  outs = each_append (StaysWithLink s link) (all_awaited_lost (filter (is_of_link link) s.awaited)) (all_held_lost (by_connect_id (filter (is_held_on link) s.held)))
      (awaited_lost_stays s link (filter (is_of_link link) s.awaited) (each_of_kind (is_of_link link) s.awaited))
      (held_lost_stays s link (by_connect_id (filter (is_held_on link) s.held)) (each_sorted (λ e. (is_held_on link e ≡ true) × IsIn e s.held) (filter (is_held_on link) s.held) (each_of_kind (is_held_on link) s.held)));
}

cut_stays : (s : State) (link : ℕ) → Stays s link (second_reply_cuts s link)
cut_stays s link = let l = lost_stays s link in record { state = l.state; outs = (refl, l.outs) }

-- ---- packets
reply_by : (s : State) (link : ℕ) (connect_id random : ℤ) (o : Option HeldEntry) → Stays s link (reply_by_entry s link connect_id random o)
reply_by s link connect_id random None = awaited_at s link connect_id random
reply_by s link connect_id random (Some e) = cut_stays s link

reply_stays : (s : State) (link : ℕ) (error : List ℕ) (connect_id random : ℤ) → Stays s link (reply s link error connect_id random)
reply_stays s link [] connect_id random = reply_by s link connect_id random (first_where (is_held link connect_id) s.held)
reply_stays s link (x ∷ xs) connect_id random = refused_at s link (x ∷ xs) random

told_down : (s : State) (link front dial : ℕ) (parts : List (List ℕ)) → list_any (λ e. is_held_on link e && is_held_by front e && names (pos dial) e) s.held ≡ true → Each (StaysWithLink s link) (data_to_front front dial parts)
told_down s link front dial [] h = tt
told_down s link front dial (bytes ∷ rest) h = (h, told_down s link front dial rest h)

down_stays : (s : State) (link : ℕ) (bytes : List ℕ) (e : HeldEntry) (state : HeldState) (o : Option ℕ) → e.front ≡ o → IsIn e s.held → is_held_on link e ≡ true → Stays s link (open_down s bytes state o e.dial)
down_stays s link bytes e Open (Some front) f i l = record {
  state = nothing_changed s link;
  outs = told_down s link front e.dial (in_packets bytes) (i (λ x. is_held_on link x && is_held_by front x && names (pos e.dial) x) (both_true (is_held_on link e && is_held_by front e) (eqb e.dial e.dial) (both_true (is_held_on link e) (is_held_by front e) l (rw f (same_number front))) (same_number e.dial)));
}
down_stays s link bytes e Open None f i l = ignored_stays s link
down_stays s link bytes e Closing o f i l = ignored_stays s link

data_stays : (s : State) (link : ℕ) (connect_id : ℤ) (bytes : List ℕ) (o : Option HeldEntry) → first_where (is_held link connect_id) s.held ≡ o → Stays s link (data_down s bytes o)
data_stays s link connect_id bytes None f = ignored_stays s link
data_stays s link connect_id bytes (Some e) f = down_stays s link bytes e e.state e.front refl (found_in (is_held link connect_id) e s.held f) (held_passes link connect_id e (passes (is_held link connect_id) e s.held f))

end_stays : (s : State) (link : ℕ) (connect_id : ℤ) (error : List ℕ) (o : Option HeldEntry) → first_where (is_held link connect_id) s.held ≡ o → Stays s link (tunnel_ended s link connect_id error o)
end_stays s link connect_id error None f = ignored_stays s link
end_stays s link connect_id error (Some e) f = record {
  state = record {
    awaited = refl;
    held = others_kept (is_held_on link) (is_held link connect_id) s.held (λ x h. held_passes link connect_id x h);
    links = refl;
    fronts = refl;
    next_dial = refl;
    strategies = refl;
  };
  outs = ended_stays s link (error_cut error) e e.front refl (found_in (is_held link connect_id) e s.held f) (held_passes link connect_id e (passes (is_held link connect_id) e s.held f));
}

drained_if : (link : ℕ) (l : Link) (b : Bool) → (cond b (record l { draining = true }) l).number ≡ l.number
drained_if link l true = refl
drained_if link l false = refl

drained_same : (link : ℕ) (l : Link) → is_link link (drained link l) ≡ is_link link l
drained_same link l = ap (λ n. eqb n link) (drained_if link l (is_link link l))

drained_other : (link : ℕ) (l : Link) → is_link link l ≡ false → drained link l ≡ l
drained_other link l h = rw h refl

drains_stays : (s : State) (link : ℕ) → Stays s link (link_drains s link)
drains_stays s link = record {
  state = record { awaited = refl; held = refl; links = others_mapped (is_link link) (drained link) s.links.links (drained_same link) (drained_other link); fronts = refl; next_dial = refl; strategies = refl };
  outs = tt;
}

from_stays : (s : State) (link : ℕ) (p : Packet) → Stays s link (from_link s link p)
from_stays s link (DialRsp error connect_id random) = reply_stays s link error connect_id random
from_stays s link (Data connect_id error bytes) = data_stays s link connect_id bytes (first_where (is_held link connect_id) s.held) refl
from_stays s link (CloseRsp error connect_id) = end_stays s link connect_id error (first_where (is_held link connect_id) s.held) refl
from_stays s link Drain = drains_stays s link
from_stays s link (DialReq protocol address random) = ignored_stays s link
from_stays s link (CloseReq connect_id) = ignored_stays s link
from_stays s link (DialCls random) = ignored_stays s link
from_stays s link (Other number) = ignored_stays s link

stays_if : (s : State) (link : ℕ) (b : Bool) (t : Step) → Stays s link t → Stays s link (cond b t (ignored s))
stays_if s link true t h = h
stays_if s link false t h = ignored_stays s link

own_stays : (s : State) (event : ServerEvent) (link : ℕ) → IsOfLink link event → Stays s link (step s event)
own_stays s (LinkUp other identifiers) link h = record {
  state = record {
    awaited = refl;
    held = refl;
    links = others_added (is_link link) _ s.links.links ((Decides-eqb other link).1 h);
    fronts = refl;
    next_dial = refl;
    strategies = refl;
  };
  outs = tt;
}
own_stays s (LinkPacket other p) link h = subst (λ l. Stays s l (link_packet s other p)) h (stays_if s other (has_link other s.links) (from_link s other p) (from_stays s other p))
own_stays s (LinkLost other) link h = subst (λ l. Stays s l (link_gone s other)) h (stays_if s other (has_link other s.links) (link_lost s other) (lost_stays s other))
own_stays s (FrontUp front) link h = absurd h
own_stays s (FrontPacket front p) link h = absurd h
own_stays s (FrontLost front) link h = absurd h

pub link_changes : (s : State) (event : ServerEvent) (link : ℕ) → IsOfLink link event → ChangesOnlyLink link s (step s event).state
link_changes s event link h = (own_stays s event link h).state

pub link_outs : (s : State) (event : ServerEvent) (link : ℕ) → IsOfLink link event → Each (StaysWithLink s link) (step s event).outs
link_outs s event link h = (own_stays s event link h).outs
