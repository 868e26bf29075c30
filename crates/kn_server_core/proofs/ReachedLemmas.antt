-- What holds of every state that a server comes to, rule by rule.
use Rattle.std.proofs.Common.{◌≡◌, ℕ, ℤ, Bool, true, false, not, cond, eqb, List, [], ◌∷◌, filter, Option, Some, None, Result, Ok, Err, refl, sym, ap, ◌∙◌, subst, arith}
use Rattle.std.specs.Bool.{IsTrue}
use Rattle.std.specs.Option.{IsSome}
use Rattle.std.proofs.lemmas.Bool.Decides.{Decides-eqb}
use Rattle.kn_packet.specs.declared.packet.Packet.{Packet}
use Rattle.kn_packet.specs.declared.packet.Packet.TheVariants.{DialReq, DialRsp, CloseReq, CloseRsp, Data, DialCls, Drain, Other}
use Rattle.kn_route.specs.declared.id_kind.IdKind.{IdKind}
use Rattle.kn_route.specs.declared.strategy.Strategy.{Strategy}
use Rattle.kn_route.specs.declared.link.Link.{Link}
use Rattle.kn_route.specs.LinkLists.{is_link, has_link, drained}
use Rattle.kn_tables.specs.declared.awaited_entry.AwaitedEntry.{AwaitedEntry}
use Rattle.kn_tables.specs.declared.held_entry.HeldEntry.{HeldEntry}
use Rattle.kn_tables.specs.declared.held_entry.HeldState.{HeldState}
use Rattle.kn_tables.specs.declared.held_entry.HeldState.TheVariants.{Open, Closing}
use Rattle.kn_tables.specs.Lists.{first_where, without}
use Rattle.kn_tables.specs.Awaiting.{is_dial, is_random, is_of_front, is_of_link}
use Rattle.kn_tables.specs.Holding.{is_held, is_held_on, is_held_by, is_held_dial, has_front, closed_at, closed_entry}
use Rattle.kn_server_core.specs.declared.event.ServerEvent.{ServerEvent}
use Rattle.kn_server_core.specs.declared.event.ServerEvent.TheVariants.{LinkUp, LinkPacket, LinkLost, FrontUp, FrontPacket, FrontLost}
use Rattle.kn_server_core.specs.declared.state.State.{State}
use Rattle.kn_server_core.specs.FrontLists.{is_up}
use Rattle.kn_server_core.specs.Server.{ignored, step, start, link_added, front_added, from_link, from_front, link_lost, front_lost, reply, reply_by_entry, awaited_reply, refused_reply, tunnel_opened, dial_failed, of_link, dial_at, data_down, open_down, tunnel_ended, link_drains, dial_chosen, dial_choice, dial_sent, data_up, open_up, close_from_front, close_own, dial_cancelled, own, held_at, front_left}
use Rattle.kn_server_core.specs.Steps.{Step}
use Rattle.kn_server_core.specs.Isolation.{HasBoth, HasEnds, HasFront, IsOrderly}
use Rattle.kn_server_core.proofs.SoundLemmas.{fewer, drawn, opened, fewer_awaited, fewer_held, closed_held, none_mapped, closed_dial, dial_stands}
use Rattle.kn_server_core.proofs.EntryLemmas.{each_more, each_kept}
use Rattle.kn_server_core.proofs.OrderLemmas.{rising_without, rising_filter, rising_mapped, rising_put, none_after, none_filter, apart_without, apart_filter, apart_mapped, apart_put, each_without, each_mapped, each_put, each_found, any_append, any_put, any_filter, any_without, any_mapped}
use Rattle.kn_server_core.proofs.PickLemmas.{choice_up, choice_left}

-- ---- links and fronts come and go
front_stays : (s t : State) (state : HeldState) (o : Option ℕ) → ((f : ℕ) → IsTrue (is_up f s.fronts) → IsTrue (is_up f t.fronts)) → HasFront s state o → HasFront t state o
front_stays s t Open None f h = absurd h
front_stays s t Closing None f h = tt
front_stays s t Open (Some front) f h = f front h
front_stays s t Closing (Some front) f h = f front h

-- the same tables, with the links and fronts that there were
pub same_tables : (s t : State) → IsOrderly s → t.awaited ≡ s.awaited → t.held ≡ s.held → t.next_dial ≡ s.next_dial
    → ((l : ℕ) → IsTrue (has_link l s.links) → IsTrue (has_link l t.links)) → ((f : ℕ) → IsTrue (is_up f s.fronts) → IsTrue (is_up f t.fronts)) → IsOrderly t
same_tables s t o a h n links fronts = record {
  sound = fewer s t o.sound n (λ d z. ap (first_where (is_dial d)) a ∙ z) (λ d z. ap (first_where (is_held_dial d)) h ∙ z);
  awaited_rise = rw a o.awaited_rise;
  held_rise = rw h o.held_rise;
  held_apart = rw h o.held_apart;
  awaited_up = rw a (each_more (HasBoth s) (HasBoth t) s.awaited (λ e b. (links e.link b.0, fronts e.front b.1)) o.awaited_up);
  held_up = rw h (each_more (HasEnds s) (HasEnds t) s.held (λ e b. (links e.link b.0, front_stays s t e.state e.front fronts b.1)) o.held_up);
}

link_added_kept : (s : State) (link : ℕ) (identifiers : List (IdKind × List ℕ)) → IsOrderly s → IsOrderly (link_added s link identifiers).state
link_added_kept s link identifiers o = same_tables s (link_added s link identifiers).state o refl refl refl (λ l h. any_append (is_link l) s.links.links _ h) (λ f h. h)

front_added_kept : (s : State) (front : ℕ) → IsOrderly s → IsOrderly (front_added s front).state
front_added_kept s front o = same_tables s (front_added s front).state o refl refl refl (λ l h. h) (λ f h. any_put (λ x. x) (λ x. eqb x f) front s.fronts.fronts h)

drained_if : (l : Link) (b : Bool) → (cond b (record l { draining = true }) l).number ≡ l.number
drained_if l true = refl
drained_if l false = refl

drains_kept : (s : State) (link : ℕ) → IsOrderly s → IsOrderly (link_drains s link).state
drains_kept s link o = same_tables s (link_drains s link).state o refl refl refl
    (λ l h. any_mapped (is_link l) (drained link) s.links.links (λ x. ap (λ n. eqb n l) (drained_if x (is_link link x))) ∙ h) (λ f h. h)

-- ---- a dial is sent, answered and taken back
sent_kept : (s : State) (front : ℕ) (protocol address : List ℕ) (random : ℤ) (link : ℕ) → IsOrderly s → IsTrue (is_up front s.fronts) → dial_choice s front protocol address random ≡ Ok link
    → IsOrderly (dial_sent s front protocol address random link).state
sent_kept s front protocol address random link o up chosen = record {
  sound = drawn s (dial_sent s front protocol address random link).state o.sound (choice_left s front protocol address random link chosen) refl _ refl refl refl;
  awaited_rise = rising_put (λ (e : AwaitedEntry). e.dial) _ s.awaited o.awaited_rise (o.sound.awaited_drawn s.next_dial (omega arith));
  held_rise = o.held_rise;
  held_apart = o.held_apart;
  awaited_up = each_put (λ (e : AwaitedEntry). e.dial) (HasBoth s) _ s.awaited (choice_up s front protocol address random link chosen, up) o.awaited_up;
  held_up = o.held_up;
}

chosen_kept : (s : State) (front : ℕ) (protocol address : List ℕ) (random : ℤ) (c : Result ℕ (List ℕ)) → IsOrderly s → IsTrue (is_up front s.fronts) → dial_choice s front protocol address random ≡ c
    → IsOrderly (dial_chosen s front protocol address random c).state
chosen_kept s front protocol address random (Ok link) o up chosen = sent_kept s front protocol address random link o up chosen
chosen_kept s front protocol address random (Err text) o up chosen = o

some_is : {E : Type 0} (x : Option E) (e : E) → x ≡ Some e → IsSome x
some_is x e h = rw h refl

opened_kept : (s : State) (link : ℕ) (connect_id : ℤ) (e : AwaitedEntry) → IsOrderly s → IsTrue (has_link link s.links) → first_where (is_dial e.dial) s.awaited ≡ Some e → first_where (is_held link connect_id) s.held ≡ None
    → IsOrderly (tunnel_opened s link connect_id e).state
opened_kept s link connect_id e o up found free = record {
  sound = opened s (tunnel_opened s link connect_id e).state o.sound e found refl refl (none_after (λ (x : AwaitedEntry). x.dial) e.dial s.awaited o.awaited_rise) _ refl refl;
  awaited_rise = rising_without (λ (x : AwaitedEntry). x.dial) (is_dial e.dial) s.awaited o.awaited_rise;
  held_rise = rising_put (λ (x : HeldEntry). x.dial) _ s.held o.held_rise (o.sound.apart e.dial (some_is (first_where (is_dial e.dial) s.awaited) e found));
  held_apart = apart_put _ s.held o.held_apart free;
  awaited_up = each_without (HasBoth s) (is_dial e.dial) s.awaited o.awaited_up;
  held_up = each_put (λ (x : HeldEntry). x.dial) (HasEnds s) _ s.held (up, (each_found (HasBoth s) (is_dial e.dial) e s.awaited o.awaited_up found).1) o.held_up;
}

-- an awaited dial leaves
pub awaited_less : (s : State) (r : AwaitedEntry → Bool) (t : State) → IsOrderly s → t.next_dial ≡ s.next_dial → t.awaited ≡ without r s.awaited → t.held ≡ s.held → t.links ≡ s.links → t.fronts ≡ s.fronts → IsOrderly t
awaited_less s r t o n a h l f = record {
  sound = fewer_awaited s t o.sound r n a h;
  awaited_rise = rw a (rising_without (λ (x : AwaitedEntry). x.dial) r s.awaited o.awaited_rise);
  held_rise = rw h o.held_rise;
  held_apart = rw h o.held_apart;
  awaited_up = rw a (each_without (HasBoth t) r s.awaited (each_more (HasBoth s) (HasBoth t) s.awaited (λ e b. (rw l b.0, rw f b.1)) o.awaited_up));
  held_up = rw h (each_more (HasEnds s) (HasEnds t) s.held (λ e b. (rw l b.0, front_stays s t e.state e.front (λ g u. rw f u) b.1)) o.held_up);
}

-- a tunnel leaves
ended_kept : (s : State) (link : ℕ) (connect_id : ℤ) (error : List ℕ) (x : Option HeldEntry) → IsOrderly s → IsOrderly (tunnel_ended s link connect_id error x).state
ended_kept s link connect_id error None o = o
ended_kept s link connect_id error (Some e) o = record {
  sound = fewer_held s (tunnel_ended s link connect_id error (Some e)).state o.sound (is_held link connect_id) refl refl refl;
  awaited_rise = o.awaited_rise;
  held_rise = rising_without (λ (x : HeldEntry). x.dial) (is_held link connect_id) s.held o.held_rise;
  held_apart = apart_without (is_held link connect_id) s.held o.held_apart;
  awaited_up = o.awaited_up;
  held_up = each_without (HasEnds s) (is_held link connect_id) s.held o.held_up;
}

-- ---- a link's loss
not_same : (a b : ℕ) → not (eqb a b) ≡ true → (c : ℕ) → eqb c a ≡ true → not (eqb c b) ≡ true
not_same a b h c i = let m : c ≡ a = (Decides-eqb c a).0 i in rw m h

lost_kept : (s : State) (link : ℕ) → IsOrderly s → IsOrderly (link_lost s link).state
lost_kept s link o = record {
  sound = fewer s (link_lost s link).state o.sound refl (λ d z. none_filter (is_dial d) (λ e. not (is_of_link link e)) s.awaited z) (λ d z. none_filter (is_held_dial d) (λ e. not (is_held_on link e)) s.held z);
  awaited_rise = rising_filter (λ (x : AwaitedEntry). x.dial) (λ e. not (is_of_link link e)) s.awaited o.awaited_rise;
  held_rise = rising_filter (λ (x : HeldEntry). x.dial) (λ e. not (is_held_on link e)) s.held o.held_rise;
  held_apart = apart_filter (λ e. not (is_held_on link e)) s.held o.held_apart;
  awaited_up = each_more (λ e. (not (is_of_link link e) ≡ true) × HasBoth s e) (HasBoth (link_lost s link).state) (filter (λ e. not (is_of_link link e)) s.awaited)
      (λ e b. (any_filter (is_link e.link) (λ l. not (is_link link l)) s.links.links (λ l i. not_same e.link link b.0 l.number i) b.1.0, b.1.1))
      (each_kept (HasBoth s) (λ e. not (is_of_link link e)) s.awaited o.awaited_up);
  held_up = each_more (λ e. (not (is_held_on link e) ≡ true) × HasEnds s e) (HasEnds (link_lost s link).state) (filter (λ e. not (is_held_on link e)) s.held)
      (λ e b. (any_filter (is_link e.link) (λ l. not (is_link link l)) s.links.links (λ l i. not_same e.link link b.0 l.number i) b.1.0, front_stays s (link_lost s link).state e.state e.front (λ f u. u) b.1.1))
      (each_kept (HasEnds s) (λ e. not (is_held_on link e)) s.held o.held_up);
}

-- ---- closes, and a front's loss
closed_ends : (link : ℕ) (connect_id : ℤ) (x : HeldEntry) → ((closed_at link connect_id true x).link ≡ x.link) × ((closed_at link connect_id true x).connect_id ≡ x.connect_id)
closed_ends link connect_id x = closed_here (is_held link connect_id x)
  where
    closed_here : (b : Bool) → ((cond b (closed_entry true x) x).link ≡ x.link) × ((cond b (closed_entry true x) x).connect_id ≡ x.connect_id)
    closed_here true = (refl, refl)
    closed_here false = (refl, refl)

any_state : (s : State) (state : HeldState) (o : Option ℕ) → HasFront s state o → HasFront s Closing o
any_state s Open None h = tt
any_state s Closing None h = tt
any_state s Open (Some f) h = h
any_state s Closing (Some f) h = h

close_kept : (s : State) (state : HeldState) (e : HeldEntry) → IsOrderly s → IsOrderly (close_own s state e).state
close_kept s Open e o = record {
  sound = closed_held s (close_own s Open e).state o.sound e.link e.connect_id true refl refl refl;
  awaited_rise = o.awaited_rise;
  held_rise = rising_mapped (λ (x : HeldEntry). x.dial) (closed_at e.link e.connect_id true) s.held (closed_dial e.link e.connect_id true) o.held_rise;
  held_apart = apart_mapped (closed_at e.link e.connect_id true) s.held (closed_ends e.link e.connect_id) o.held_apart;
  awaited_up = o.awaited_up;
  held_up = each_mapped (HasEnds s) (HasEnds s) (closed_at e.link e.connect_id true) s.held (λ x h. closed_has x (is_held e.link e.connect_id x) h) o.held_up;
}
  where
    closed_has : (x : HeldEntry) (b : Bool) → HasEnds s x → HasEnds s (cond b (closed_entry true x) x)
    closed_has x true h = (h.0, any_state s x.state x.front h.1)
    closed_has x false h = h
close_kept s Closing e o = o

left_if : (front : ℕ) (x : HeldEntry) (b : Bool) → ((cond b (closed_entry false x) x).dial ≡ x.dial) × ((cond b (closed_entry false x) x).link ≡ x.link) × ((cond b (closed_entry false x) x).connect_id ≡ x.connect_id)
left_if front x true = (refl, refl, refl)
left_if front x false = (refl, refl, refl)

left_same : (front : ℕ) (x : HeldEntry) → ((front_left front x).dial ≡ x.dial) × ((front_left front x).link ≡ x.link) × ((front_left front x).connect_id ≡ x.connect_id)
left_same front x = left_if front x (is_held_by front x)

front_lost_kept : (s : State) (front : ℕ) → IsOrderly s → IsOrderly (front_lost s front).state
front_lost_kept s front o = record {
  sound = fewer s (front_lost s front).state o.sound refl (λ d z. none_filter (is_dial d) (λ e. not (is_of_front front e)) s.awaited z) (λ d z. none_mapped (front_left front) d (λ x. (left_same front x).0) s.held z);
  awaited_rise = rising_filter (λ (x : AwaitedEntry). x.dial) (λ e. not (is_of_front front e)) s.awaited o.awaited_rise;
  held_rise = rising_mapped (λ (x : HeldEntry). x.dial) (front_left front) s.held (λ x. (left_same front x).0) o.held_rise;
  held_apart = apart_mapped (front_left front) s.held (λ x. ((left_same front x).1, (left_same front x).2)) o.held_apart;
  awaited_up = each_more (λ e. (not (is_of_front front e) ≡ true) × HasBoth s e) (HasBoth (front_lost s front).state) (filter (λ e. not (is_of_front front e)) s.awaited)
      (λ e b. (b.1.0, up_still e.front b.0 b.1.1))
      (each_kept (HasBoth s) (λ e. not (is_of_front front e)) s.awaited o.awaited_up);
  held_up = each_mapped (HasEnds s) (HasEnds (front_lost s front).state) (front_left front) s.held (λ x h. left_has x x.state x.front refl refl h) o.held_up;
}
  where
    is_other : (f x : ℕ) → not (eqb f front) ≡ true → eqb x f ≡ true → eqb x front ≡ false
    is_other f x h i = let m : x ≡ f = (Decides-eqb x f).0 i in rw m (other_here (eqb f front) h)
      where
        other_here : (b : Bool) → not b ≡ true → b ≡ false
        other_here true h = absurd cc
        other_here false h = refl

    up_still : (f : ℕ) → not (eqb f front) ≡ true → IsTrue (is_up f s.fronts) → IsTrue (is_up f (front_lost s front).state.fronts)
    up_still f h u = any_without (λ x. eqb x f) (λ x. eqb x front) s.fronts.fronts (λ x i. is_other f x h i) u

    left_has : (x : HeldEntry) (state : HeldState) (g : Option ℕ) → x.state ≡ state → x.front ≡ g → HasEnds s x → HasEnds (front_lost s front).state (front_left front x)
    left_has x Open None i j h = absurd (let z = rw (i, j) at h.1 in z)
    left_has x Closing None i j h = let n : is_held_by front x ≡ false = ap (λ w. has_front w front) j in rw n (h.0, subst (λ w. HasFront (front_lost s front).state w x.front) (sym i) (subst (λ w. HasFront (front_lost s front).state Closing w) (sym j) tt))
    left_has x state (Some f) i j h = left_here (eqb f front) refl
      where
        front_here : (k : HeldState) → HasFront s k (Some f) → IsTrue (is_up f s.fronts)
        front_here Open u = u
        front_here Closing u = u

        has_here : (k : HeldState) → IsTrue (is_up f (front_lost s front).state.fronts) → HasFront (front_lost s front).state k (Some f)
        has_here Open u = u
        has_here Closing u = u

        left_here : (b : Bool) → eqb f front ≡ b → HasEnds (front_lost s front).state (front_left front x)
        left_here true k = let n : is_held_by front x ≡ true = ap (λ w. has_front w front) j ∙ k in rw n (h.0, tt)
        left_here false k =
            let n : is_held_by front x ≡ false = ap (λ w. has_front w front) j ∙ k in
            let u : IsTrue (is_up f s.fronts) = front_here x.state (subst (λ w. HasFront s x.state w) j h.1) in
            rw n (h.0, subst (λ w. HasFront (front_lost s front).state x.state w) (sym j) (has_here x.state (up_still f (rw k refl) u)))

-- ---- packets
awaited_kept : (s : State) (link : ℕ) (connect_id : ℤ) (e : Option AwaitedEntry) → IsOrderly s → IsTrue (has_link link s.links) → first_where (is_held link connect_id) s.held ≡ None
    → ((x : AwaitedEntry) → e ≡ Some x → first_where (is_dial x.dial) s.awaited ≡ Some x) → IsOrderly (awaited_reply s link connect_id e).state
awaited_kept s link connect_id None o up free found = o
awaited_kept s link connect_id (Some e) o up free found = opened_kept s link connect_id e o up (found e refl) free

reply_kept : (s : State) (link : ℕ) (connect_id random : ℤ) (x : Option HeldEntry) → IsOrderly s → IsTrue (has_link link s.links) → first_where (is_held link connect_id) s.held ≡ x
    → IsOrderly (reply_by_entry s link connect_id random x).state
reply_kept s link connect_id random None o up free = awaited_kept s link connect_id (of_link link (dial_at random s.awaited)) o up free (λ e h. dial_stands link random s.awaited e h)
reply_kept s link connect_id random (Some e) o up free = lost_kept s link o

refused_kept : (s : State) (error : List ℕ) (e : Option AwaitedEntry) → IsOrderly s → IsOrderly (refused_reply s error e).state
refused_kept s error None o = o
refused_kept s error (Some e) o = awaited_less s (is_dial e.dial) (dial_failed s error e).state o refl refl refl refl refl

replied_kept : (s : State) (link : ℕ) (error : List ℕ) (connect_id random : ℤ) → IsOrderly s → IsTrue (has_link link s.links) → IsOrderly (reply s link error connect_id random).state
replied_kept s link [] connect_id random o up = reply_kept s link connect_id random (first_where (is_held link connect_id) s.held) o up refl
replied_kept s link (x ∷ xs) connect_id random o up = refused_kept s (x ∷ xs) (of_link link (dial_at random s.awaited)) o

open_down_same : (s : State) (bytes : List ℕ) (state : HeldState) (front : Option ℕ) (dial : ℕ) → (open_down s bytes state front dial).state ≡ s
open_down_same s bytes Open (Some front) dial = refl
open_down_same s bytes Open None dial = refl
open_down_same s bytes Closing front dial = refl

data_down_same : (s : State) (bytes : List ℕ) (x : Option HeldEntry) → (data_down s bytes x).state ≡ s
data_down_same s bytes None = refl
data_down_same s bytes (Some e) = open_down_same s bytes e.state e.front e.dial

from_link_kept : (s : State) (link : ℕ) (p : Packet) → IsOrderly s → IsTrue (has_link link s.links) → IsOrderly (from_link s link p).state
from_link_kept s link (DialRsp error connect_id random) o up = replied_kept s link error connect_id random o up
from_link_kept s link (Data connect_id error bytes) o up = subst IsOrderly (sym (data_down_same s bytes (first_where (is_held link connect_id) s.held))) o
from_link_kept s link (CloseRsp error connect_id) o up = ended_kept s link connect_id error (first_where (is_held link connect_id) s.held) o
from_link_kept s link Drain o up = drains_kept s link o
from_link_kept s link (DialReq protocol address random) o up = o
from_link_kept s link (CloseReq connect_id) o up = o
from_link_kept s link (DialCls random) o up = o
from_link_kept s link (Other number) o up = o

open_up_same : (s : State) (bytes : List ℕ) (state : HeldState) (e : HeldEntry) → (open_up s bytes state e).state ≡ s
open_up_same s bytes Open e = refl
open_up_same s bytes Closing e = refl

data_up_same : (s : State) (bytes : List ℕ) (x : Option HeldEntry) → (data_up s bytes x).state ≡ s
data_up_same s bytes None = refl
data_up_same s bytes (Some e) = open_up_same s bytes e.state e

close_front_kept : (s : State) (front : ℕ) (connect_id : ℤ) (x : Option HeldEntry) → IsOrderly s → IsOrderly (close_from_front s front connect_id x).state
close_front_kept s front connect_id None o = o
close_front_kept s front connect_id (Some e) o = close_kept s e.state e o

cancelled_kept : (s : State) (e : Option AwaitedEntry) → IsOrderly s → IsOrderly (dial_cancelled s e).state
cancelled_kept s None o = o
cancelled_kept s (Some e) o = awaited_less s (is_dial e.dial) (dial_cancelled s (Some e)).state o refl refl refl refl refl

from_front_kept : (s : State) (front : ℕ) (p : Packet) → IsOrderly s → IsTrue (is_up front s.fronts) → IsOrderly (from_front s front p).state
from_front_kept s front (DialReq protocol address random) o up = chosen_kept s front protocol address random (dial_choice s front protocol address random) o up refl
from_front_kept s front (Data connect_id error bytes) o up = subst IsOrderly (sym (data_up_same s bytes (own front (held_at connect_id s.held)))) o
from_front_kept s front (CloseReq connect_id) o up = close_front_kept s front connect_id (own front (held_at connect_id s.held)) o
from_front_kept s front (DialCls random) o up = cancelled_kept s (first_where (is_random front random) s.awaited) o
from_front_kept s front (DialRsp error connect_id random) o up = o
from_front_kept s front (CloseRsp error connect_id) o up = o
from_front_kept s front Drain o up = o
from_front_kept s front (Other number) o up = o

kept_if : (s : State) (b : Bool) (t : Step) → IsOrderly s → (IsTrue b → IsOrderly t.state) → IsOrderly (cond b t (ignored s)).state
kept_if s true t o h = h refl
kept_if s false t o h = o

pub orderly_kept : (s : State) (event : ServerEvent) → IsOrderly s → IsOrderly (step s event).state
orderly_kept s (LinkUp link identifiers) o = link_added_kept s link identifiers o
orderly_kept s (LinkPacket link p) o = kept_if s (has_link link s.links) (from_link s link p) o (λ up. from_link_kept s link p o up)
orderly_kept s (LinkLost link) o = kept_if s (has_link link s.links) (link_lost s link) o (λ up. lost_kept s link o)
orderly_kept s (FrontUp front) o = front_added_kept s front o
orderly_kept s (FrontPacket front p) o = kept_if s (is_up front s.fronts) (from_front s front p) o (λ up. from_front_kept s front p o up)
orderly_kept s (FrontLost front) o = kept_if s (is_up front s.fronts) (front_lost s front) o (λ up. front_lost_kept s front o)

pub orderly_start : (strategies : List Strategy) → IsOrderly (start strategies)
orderly_start strategies = record {
  sound = record { few = omega arith; awaited_drawn = λ d l. refl; held_drawn = λ d l. refl; apart = λ d some. refl };
  awaited_rise = tt;
  held_rise = tt;
  held_apart = tt;
  awaited_up = tt;
  held_up = tt;
}
