-- Lists of events from the start: where a tunnel opens, and what leaves it as it is.
use Rattle.std.proofs.Common.{◌≡◌, ℕ, ℤ, pos, Bool, true, false, cond, eqb, ◌||◌, List, [], ◌∷◌, Option, Some, None, inl, inr, refl, sym, ap, ◌∙◌, subst}
use Rattle.std.specs.List.{list_any}
use Rattle.std.proofs.lemmas.Bool.Decides.{Decides-eqb}
use Rattle.kn_packet.specs.declared.packet.Packet.TheVariants.{DialRsp}
use Rattle.kn_route.specs.declared.strategy.Strategy.{Strategy}
use Rattle.kn_route.specs.LinkLists.{has_link}
use Rattle.kn_tables.specs.declared.awaited_entry.AwaitedEntry.{AwaitedEntry}
use Rattle.kn_tables.specs.declared.held_entry.HeldEntry.{HeldEntry}
use Rattle.kn_tables.specs.declared.held_entry.HeldState.TheVariants.{Open}
use Rattle.kn_tables.specs.Lists.{first_where}
use Rattle.kn_tables.specs.Awaiting.{is_dial}
use Rattle.kn_tables.specs.Holding.{is_held, is_held_dial, has_front}
use Rattle.kn_server_core.specs.declared.event.ServerEvent.{ServerEvent}
use Rattle.kn_server_core.specs.declared.event.ServerEvent.TheVariants.{LinkUp, LinkPacket, LinkLost, FrontUp, FrontPacket, FrontLost}
use Rattle.kn_server_core.specs.declared.event.ServerOut.{ServerOut}
use Rattle.kn_server_core.specs.declared.event.ServerOut.TheVariants.{ToLink, ToFront, CutLink, Made}
use Rattle.kn_server_core.specs.declared.state.State.{State}
use Rattle.kn_server_core.specs.Packets.{opened}
use Rattle.kn_server_core.specs.Server.{ignored, step, start, from_link, reply_by_entry, awaited_reply, tunnel_opened, of_link}
use Rattle.kn_server_core.specs.Isolation.{Each, IsOrderly, StaysWithLink}
use Rattle.kn_server_core.specs.Runs.{Tunnel, turn_at, history, after, Opens, is_cut, is_end, is_gone, queued_to_front, joined, queued_down, CarriesBoth, NoneOpens, IsOfOthers}
use Rattle.kn_server_core.proofs.SoundLemmas.{passes}
use Rattle.kn_server_core.proofs.LinkIsolation.{link_outs}
use Rattle.kn_server_core.proofs.FrontIsolation.{front_outs}
use Rattle.kn_server_core.proofs.ReachedLemmas.{orderly_kept, orderly_start}
use Rattle.kn_server_core.proofs.TunnelTables.{tunnel_of, Holds, put_found, entry_after, after_event, after_other, false_unless, left_other, no_end, no_cut_of_front}
use Rattle.kn_server_core.proofs.TunnelLaws.{open_entry, open_run, IsFree, LeavesFree, free_step, free_bytes, nothing_more}

orderly_after : (events : List ServerEvent) (s : State) → IsOrderly s → IsOrderly (after s events)
orderly_after [] s o = o
orderly_after (event ∷ events) s o = orderly_after events (step s event).state (orderly_kept s event o)

-- ---- where a tunnel opens
opened_by : (t : Tunnel) (s : State) (random : ℤ) (a : Option AwaitedEntry) → IsOrderly s → first_where (is_dial t.dial) s.awaited ≡ a
    → (awaited_reply s t.link t.connect_id (of_link t.link a)).outs ≡ opened t.front t.dial random ∷ [] → Holds (awaited_reply s t.link t.connect_id (of_link t.link a)).state (open_entry t)
opened_by t s random None o f h = absurd cc
opened_by t s random (Some e) o f h = link_here (eqb e.link t.link) h
  where
    entry : ℕ → ℕ → HeldEntry
    entry dial front = record { dial = dial; link = t.link; connect_id = t.connect_id; front = Some front; state = Open }

    at_link : (tunnel_opened s t.link t.connect_id e).outs ≡ opened t.front t.dial random ∷ [] → Holds (tunnel_opened s t.link t.connect_id e).state (open_entry t)
    at_link k =
        let m : e.dial ≡ t.dial = (Decides-eqb e.dial t.dial).0 (passes (is_dial t.dial) e s.awaited f) in
        let n : e.front ≡ t.front = cc in
        let free : first_where (is_held_dial t.dial) s.held ≡ None = o.sound.apart t.dial (rw f refl) in
        let it : HeldEntry = record { dial = e.dial; link = t.link; connect_id = t.connect_id; front = Some e.front; state = Open } in
        let same : it ≡ open_entry t = ap (λ (d : ℕ). let x : HeldEntry = record { dial = d; link = t.link; connect_id = t.connect_id; front = Some e.front; state = Open } in x) m
        ∙ ap (λ (g : ℕ). let x : HeldEntry = record { dial = t.dial; link = t.link; connect_id = t.connect_id; front = Some g; state = Open } in x) n in
        put_found (λ (x : HeldEntry). x.dial) (is_held_dial t.dial) it s.held free ((Decides-eqb e.dial t.dial).1 m) ∙ ap (λ (x : HeldEntry). Some x) same

    link_here : (b : Bool) → (awaited_reply s t.link t.connect_id (cond b (Some e) None)).outs ≡ opened t.front t.dial random ∷ [] → Holds (awaited_reply s t.link t.connect_id (cond b (Some e) None)).state (open_entry t)
    link_here true k = at_link k
    link_here false k = absurd cc

opened_unless_held : (t : Tunnel) (s : State) (random : ℤ) (e : Option HeldEntry) → IsOrderly s
    → (reply_by_entry s t.link t.connect_id (pos t.dial) e).outs ≡ opened t.front t.dial random ∷ [] → Holds (reply_by_entry s t.link t.connect_id (pos t.dial) e).state (open_entry t)
opened_unless_held t s random None o h = opened_by t s random (first_where (is_dial t.dial) s.awaited) o refl h
opened_unless_held t s random (Some e) o h = absurd cc

opened_if_up : (t : Tunnel) (s : State) (random : ℤ) (b : Bool) → IsOrderly s
    → (cond b (from_link s t.link (DialRsp [] t.connect_id (pos t.dial))) (ignored s)).outs ≡ opened t.front t.dial random ∷ [] → Holds (cond b (from_link s t.link (DialRsp [] t.connect_id (pos t.dial))) (ignored s)).state (open_entry t)
opened_if_up t s random true o h = opened_unless_held t s random (first_where (is_held t.link t.connect_id) s.held) o h
opened_if_up t s random false o h = absurd cc

opens_entry : (t : Tunnel) (s : State) (event : ServerEvent) → IsOrderly s → Opens t (turn_at s event) → Holds (step s event).state (open_entry t)
opens_entry t s event o h = (subst (λ e. (step s e).outs ≡ opened t.front t.dial h.random ∷ [] → Holds (step s e).state (open_entry t)) (sym h.reply) (opened_if_up t s h.random (has_link t.link s.links) o)) h.told

pub carries : (strategies : List Strategy) (before : List ServerEvent) (reply : ServerEvent) (later : List ServerEvent) (t : Tunnel) → Opens t (turn_at (after (start strategies) before) reply)
    → CarriesBoth t (history (step (after (start strategies) before) reply).state later)
carries strategies before reply later t h =
    let o : IsOrderly (after (start strategies) before) = orderly_after before (start strategies) (orderly_start strategies) in
    open_run later (step (after (start strategies) before) reply).state t (orderly_kept (after (start strategies) before) reply o) (opens_entry t (after (start strategies) before) reply o h)

-- ---- where none opens
silent_run : (events : List ServerEvent) (s : State) (t : Tunnel) → IsOrderly s → IsFree t.dial s → NoneOpens t.dial (history s events) → queued_down t (history s events) ≡ []
silent_run [] s t o f h = refl
silent_run (event ∷ events) s t o f h =
    nothing_more (joined (queued_to_front t) (step s event).outs) (queued_down t (history (step s event).state events)) (free_bytes s event t o f)
    (silent_run events (step s event).state t (orderly_kept s event o) (still (free_step t.dial s event f)) h.1)
  where
    still : LeavesFree t.dial s event (step s event) → IsFree t.dial (step s event).state
    still (inl k) = k
    still (inr r) =
        let u : Tunnel = record { dial = t.dial; link = r.link; connect_id = r.connect_id; front = r.entry.front } in
        absurd (h.0 u refl (record { random = r.entry.random; reply = r.is; told = r.outs }))

pub silent : (strategies : List Strategy) (events : List ServerEvent) (t : Tunnel) → NoneOpens t.dial (history (start strategies) events) → queued_down t (history (start strategies) events) ≡ []
silent strategies events t h = silent_run events (start strategies) t (orderly_start strategies) refl h

-- ---- events of others
no_cut_of_other : (s : State) (link other : ℕ) (outs : List ServerOut) → Each (StaysWithLink s link) outs → eqb other link ≡ false → list_any (is_cut other) outs ≡ false
no_cut_of_other s link other [] h n = refl
no_cut_of_other s link other (ToLink l p ∷ outs) h n = no_cut_of_other s link other outs h.1 n
no_cut_of_other s link other (ToFront f p ∷ outs) h n = no_cut_of_other s link other outs h.1 n
no_cut_of_other s link other (Made d l f ∷ outs) h n = absurd h.0
no_cut_of_other s link other (CutLink l ∷ outs) h n =
    let k : eqb other l ≡ false = subst (λ m. eqb other m ≡ false) (sym h.0) n in
    rw k (no_cut_of_other s link other outs h.1 n)

both_false : (b c : Bool) → b ≡ false → c ≡ false → (b || c) ≡ false
both_false true c h i = absurd cc
both_false false c h i = i

other_link : (link other : ℕ) → (other ≡ link → ⊥) → eqb link other ≡ false
other_link link other h = false_unless (eqb link other) (λ i. h (sym ((Decides-eqb link other).0 i)))

other_front : (o : Option ℕ) (front : ℕ) → ((f : ℕ) → o ≡ Some f → front ≡ f → ⊥) → has_front o front ≡ false
other_front None front h = refl
other_front (Some f) front h = false_unless (eqb f front) (λ i. h f refl (sym ((Decides-eqb f front).0 i)))

kept_by : (s : State) (event : ServerEvent) (x : HeldEntry) → IsOrderly s → Holds s x → is_gone (tunnel_of x 0) (turn_at s event) ≡ false → after_event event x ≡ x → Holds (step s event).state x
kept_by s event x o f g a = entry_after s event x 0 o f ∙ ap (λ (b : Bool). cond b None (Some (after_event event x))) g ∙ ap (λ (y : HeldEntry). Some y) a

steady_step : (s : State) (event : ServerEvent) (x : HeldEntry) → IsOrderly s → Holds s x → IsOfOthers x event → Holds (step s event).state x
steady_step s (LinkUp link identifiers) x o f h = f
steady_step s (LinkPacket link p) x o f h =
    let n : eqb x.link link ≡ false = other_link x.link link h.link in
    kept_by s (LinkPacket link p) x o f (both_false (is_end (tunnel_of x 0) link p) (list_any (is_cut x.link) (step s (LinkPacket link p)).outs) (no_end link p x 0 n) (no_cut_of_other s link x.link (step s (LinkPacket link p)).outs (link_outs s (LinkPacket link p) link refl) n)) refl
steady_step s (LinkLost link) x o f h =
    let n : eqb x.link link ≡ false = other_link x.link link h.link in
    kept_by s (LinkLost link) x o f (both_false (eqb x.link link) (list_any (is_cut x.link) (step s (LinkLost link)).outs) n (no_cut_of_other s link x.link (step s (LinkLost link)).outs (link_outs s (LinkLost link) link refl) n)) refl
steady_step s (FrontUp front) x o f h = f
steady_step s (FrontPacket front p) x o f h =
    kept_by s (FrontPacket front p) x o f (no_cut_of_front s (FrontPacket front p) front x.link (step s (FrontPacket front p)).outs (front_outs s (FrontPacket front p) front o refl)) (after_other front p x (other_front x.front front h.front))
steady_step s (FrontLost front) x o f h =
    kept_by s (FrontLost front) x o f (no_cut_of_front s (FrontLost front) front x.link (step s (FrontLost front)).outs (front_outs s (FrontLost front) front o refl)) (left_other front x (other_front x.front front h.front))

pub steady : (events : List ServerEvent) (s : State) (x : HeldEntry) → IsOrderly s → first_where (is_held_dial x.dial) s.held ≡ Some x → Each (IsOfOthers x) events → first_where (is_held_dial x.dial) (after s events).held ≡ Some x
steady [] s x o f h = f
steady (event ∷ events) s x o f h = steady events (step s event).state x (orderly_kept s event o) (steady_step s event x o f h.0) h.1
