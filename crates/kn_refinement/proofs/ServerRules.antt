-- Each event of the server makes no dial, or the one that it is asked for; and no front comes up by itself.
use Rattle.std.proofs.Common.{◌≡◌, ◌==◌, ◌||◌, ◌⊎◌, ◌+◌, ℕ, ℤ, pos, Bool, true, false, cond, List, [], ◌∷◌, Option, Some, None, Result, Ok, Err, inl, inr, refl, sym, ap, ◌∙◌, eqb-true}
use Rattle.std.specs.List.{list_any}
use Rattle.std.specs.Prelude.{nat_lt}
use Rattle.kn_packet.specs.declared.packet.Packet.{Packet}
use Rattle.kn_packet.specs.declared.packet.Packet.TheVariants.{CloseReq, CloseRsp, Data, DialCls, DialReq, DialRsp, Drain, Other}
use Rattle.kn_route.specs.LinkLists.{has_link}
use Rattle.kn_tables.specs.Lists.{first_where, in_place, without}
use Rattle.kn_tables.specs.Awaiting.{is_random}
use Rattle.kn_tables.specs.declared.awaited_entry.AwaitedEntry.{AwaitedEntry}
use Rattle.kn_tables.specs.declared.held_entry.HeldEntry.{HeldEntry}
use Rattle.kn_tables.specs.declared.held_entry.HeldState.{HeldState}
use Rattle.kn_tables.specs.declared.held_entry.HeldState.TheVariants.{Closing, Open}
use Rattle.kn_server_core.specs.FrontLists.{is_up}
use Rattle.kn_server_core.specs.Isolation.{IsOrderly}
use Rattle.kn_server_core.specs.Server.{close_from_front, close_own, data_up, dial_cancelled, dial_choice, dial_chosen, from_front, from_link, front_lost, held_at, ignored, link_lost, open_up, own, step}
use Rattle.kn_server_core.specs.Steps.{Step}
use Rattle.kn_server_core.specs.declared.event.ServerEvent.{ServerEvent}
use Rattle.kn_server_core.specs.declared.event.ServerEvent.TheVariants.{FrontLost, FrontPacket, FrontUp, LinkLost, LinkPacket, LinkUp}
use Rattle.kn_server_core.specs.declared.event.ServerOut.TheVariants.{Made, ToLink}
use Rattle.kn_server_core.specs.declared.state.State.{State}
use Rattle.kn_server_core.proofs.LinkIsolation.{link_changes}
use Rattle.kn_server_core.proofs.PickLemmas.{choice_up}
use Rattle.kn_refinement.proofs.ServerTurns.{Quiet, cancel_outs, close_outs, from_link_outs, front_lost_outs, held_here, link_lost_outs, nothing, one_to_front, up_outs}

-- no dial is drawn
pub record IsCalm (s : State) (t : Step) : Type 0 where
  pub outs : Quiet s.links t.outs
  pub next : t.state.next_dial ≡ s.next_dial

-- a dial is drawn for a front that is up, and asked for on a link that is up
pub record IsDrawn (s : State) (event : ServerEvent) (t : Step) : Type 0 where
  pub front : ℕ
  pub protocol : List ℕ
  pub address : List ℕ
  pub random : ℤ
  pub link : ℕ
  pub event_is : event ≡ FrontPacket front (DialReq protocol address random)
  pub front_up : is_up front s.fronts ≡ true
  pub link_up : has_link link s.links ≡ true
  pub outs : t.outs ≡ Made s.next_dial link front ∷ ToLink link (DialReq protocol address (pos s.next_dial)) ∷ []
  pub next : t.state.next_dial ≡ s.next_dial + 1

abbrev pub IsRuled : State → ServerEvent → Step → Type 0
IsRuled s event t = IsCalm s t ⊎ IsDrawn s event t

calm_nothing : (s : State) (event : ServerEvent) → IsRuled s event (ignored s)
calm_nothing s event = inl (record { outs = nothing s.links; next = refl })

chosen_ruled : (s : State) (front : ℕ) (protocol address : List ℕ) (random : ℤ) (o : Result ℕ (List ℕ)) → is_up front s.fronts ≡ true → dial_choice s front protocol address random ≡ o
    → IsRuled s (FrontPacket front (DialReq protocol address random)) (dial_chosen s front protocol address random o)
chosen_ruled s front protocol address random (Ok link) up e = inr (record {
  front = front;
  protocol = protocol;
  address = address;
  random = random;
  link = link;
  event_is = refl;
  front_up = up;
  link_up = choice_up s front protocol address random link e;
  outs = refl;
  next = refl;
})
chosen_ruled s front protocol address random (Err text) up e = inl (record { outs = one_to_front s.links front (DialRsp text (pos 0) random); next = refl })

-- ---- what a rule for a front's packet keeps
up_next : (s : State) (bytes : List ℕ) (o : Option HeldEntry) → (data_up s bytes o).state ≡ s
up_next s bytes None = refl
up_next s bytes (Some e) = here e.state
  where
    here : (state : HeldState) → (open_up s bytes state e).state ≡ s
    here Open = refl
    here Closing = refl

close_next : (s : State) (front : ℕ) (connect_id : ℤ) (o : Option HeldEntry) → (close_from_front s front connect_id o).state.next_dial ≡ s.next_dial
close_next s front connect_id None = refl
close_next s front connect_id (Some e) = here e.state
  where
    here : (state : HeldState) → (close_own s state e).state.next_dial ≡ s.next_dial
    here Open = refl
    here Closing = refl

cancel_next : (s : State) (o : Option AwaitedEntry) → (dial_cancelled s o).state.next_dial ≡ s.next_dial
cancel_next s None = refl
cancel_next s (Some e) = refl

front_ruled : (s : State) (front : ℕ) (p : Packet) → IsOrderly s → is_up front s.fronts ≡ true → IsRuled s (FrontPacket front p) (from_front s front p)
front_ruled s front (DialReq protocol address random) o up = chosen_ruled s front protocol address random (dial_choice s front protocol address random) up refl
front_ruled s front (Data connect_id error bytes) o up =
    inl (record { outs = up_outs s bytes (own front (held_at connect_id s.held)) (λ e h. held_here s front connect_id e o h); next = ap (λ (t : State). t.next_dial) (up_next s bytes (own front (held_at connect_id s.held))) })
front_ruled s front (CloseReq connect_id) o up =
    inl (record { outs = close_outs s front connect_id (own front (held_at connect_id s.held)) (λ e h. held_here s front connect_id e o h); next = close_next s front connect_id (own front (held_at connect_id s.held)) })
front_ruled s front (DialCls random) o up = inl (record { outs = cancel_outs s (first_where (is_random front random) s.awaited); next = cancel_next s (first_where (is_random front random) s.awaited) })
front_ruled s front (DialRsp error connect_id random) o up = calm_nothing s (FrontPacket front (DialRsp error connect_id random))
front_ruled s front (CloseRsp error connect_id) o up = calm_nothing s (FrontPacket front (CloseRsp error connect_id))
front_ruled s front Drain o up = calm_nothing s (FrontPacket front Drain)
front_ruled s front (Other number) o up = calm_nothing s (FrontPacket front (Other number))

ruled_if : (s : State) (event : ServerEvent) (b : Bool) (t : Step) → (b ≡ true → IsRuled s event t) → IsRuled s event (cond b t (ignored s))
ruled_if s event true t h = h refl
ruled_if s event false t h = calm_nothing s event

pub ruled : (s : State) (event : ServerEvent) → IsOrderly s → IsRuled s event (step s event)
ruled s (LinkUp link identifiers) o = inl (record { outs = nothing s.links; next = refl })
ruled s (LinkPacket link p) o = inl (record { outs = here (has_link link s.links) refl; next = (link_changes s (LinkPacket link p) link refl).next_dial })
  where
    here : (b : Bool) → has_link link s.links ≡ b → Quiet s.links (cond b (from_link s link p) (ignored s)).outs
    here true up = from_link_outs s link p up
    here false up = nothing s.links
ruled s (LinkLost link) o = inl (record { outs = here (has_link link s.links); next = (link_changes s (LinkLost link) link refl).next_dial })
  where
    here : (b : Bool) → Quiet s.links (cond b (link_lost s link) (ignored s)).outs
    here true = link_lost_outs s link
    here false = nothing s.links
ruled s (FrontUp front) o = inl (record { outs = nothing s.links; next = refl })
ruled s (FrontPacket front p) o = ruled_if s (FrontPacket front p) (is_up front s.fronts) (from_front s front p) (λ up. front_ruled s front p o up)
ruled s (FrontLost front) o = ruled_if s (FrontLost front) (is_up front s.fronts) (front_lost s front) (λ up. inl (record { outs = front_lost_outs s front o; next = refl }))

-- ---- fronts: one more that comes up, or fewer
close_fronts : (s : State) (front : ℕ) (connect_id : ℤ) (o : Option HeldEntry) → (close_from_front s front connect_id o).state.fronts ≡ s.fronts
close_fronts s front connect_id None = refl
close_fronts s front connect_id (Some e) = here e.state
  where
    here : (state : HeldState) → (close_own s state e).state.fronts ≡ s.fronts
    here Open = refl
    here Closing = refl

cancel_fronts : (s : State) (o : Option AwaitedEntry) → (dial_cancelled s o).state.fronts ≡ s.fronts
cancel_fronts s None = refl
cancel_fronts s (Some e) = refl

chosen_fronts : (s : State) (front : ℕ) (protocol address : List ℕ) (random : ℤ) (o : Result ℕ (List ℕ)) → (dial_chosen s front protocol address random o).state.fronts ≡ s.fronts
chosen_fronts s front protocol address random (Ok link) = refl
chosen_fronts s front protocol address random (Err text) = refl

front_fronts : (s : State) (front : ℕ) (p : Packet) → (from_front s front p).state.fronts ≡ s.fronts
front_fronts s front (DialReq protocol address random) = chosen_fronts s front protocol address random (dial_choice s front protocol address random)
front_fronts s front (Data connect_id error bytes) = ap (λ (t : State). t.fronts) (up_next s bytes (own front (held_at connect_id s.held)))
front_fronts s front (CloseReq connect_id) = close_fronts s front connect_id (own front (held_at connect_id s.held))
front_fronts s front (DialCls random) = cancel_fronts s (first_where (is_random front random) s.awaited)
front_fronts s front (DialRsp error connect_id random) = refl
front_fronts s front (CloseRsp error connect_id) = refl
front_fronts s front Drain = refl
front_fronts s front (Other number) = refl

fewer : (p r : ℕ → Bool) (xs : List ℕ) → list_any p (without r xs) ≡ true → list_any p xs ≡ true
fewer p r [] h = h
fewer p r (x ∷ xs) h = here (r x) (p x) refl h (fewer p r xs)
  where
    here : (b c : Bool) → p x ≡ c → list_any p (cond b xs (x ∷ without r xs)) ≡ true → (list_any p (without r xs) ≡ true → list_any p xs ≡ true) → (c || list_any p xs) ≡ true
    here true true e h later = refl
    here true false e h later = h
    here false true e h later = refl
    here false false e h later = later (rw e at h)

one_more : (p : ℕ → Bool) (n : ℕ) (xs : List ℕ) → list_any p (in_place (λ x. x) n xs) ≡ true → (p n ≡ true) ⊎ (list_any p xs ≡ true)
one_more p n [] h = inl (first (p n) h)
  where
    first : (b : Bool) → (b || false) ≡ true → b ≡ true
    first true h = refl
    first false h = absurd cc
one_more p n (x ∷ xs) h = here (nat_lt n x) (p x) refl h (one_more p n xs)
  where
    either : (b c : Bool) → (b || c) ≡ true → (b ≡ true) ⊎ (c ≡ true)
    either true c h = inl refl
    either false c h = inr h

    behind : (c : Bool) → (p n ≡ true) ⊎ (list_any p xs ≡ true) → (p n ≡ true) ⊎ ((c || list_any p xs) ≡ true)
    behind c (inl h) = inl h
    behind true (inr h) = inr refl
    behind false (inr h) = inr h

    here : (b c : Bool) → p x ≡ c → list_any p (cond b (n ∷ x ∷ xs) (x ∷ in_place (λ y. y) n xs)) ≡ true
        → (list_any p (in_place (λ y. y) n xs) ≡ true → (p n ≡ true) ⊎ (list_any p xs ≡ true)) → (p n ≡ true) ⊎ ((c || list_any p xs) ≡ true)
    here true c e h later = either (p n) (c || list_any p xs) (rw e at h)
    here false true e h later = inr refl
    here false false e h later = behind false (later (rw e at h))

abbrev pub ComesUp : ℕ → ServerEvent → Type 0
ComesUp f (FrontUp front) = f ≡ front
ComesUp f (LinkUp link identifiers) = ⊥
ComesUp f (LinkPacket link p) = ⊥
ComesUp f (LinkLost link) = ⊥
ComesUp f (FrontPacket front p) = ⊥
ComesUp f (FrontLost front) = ⊥

pub still_up : (s : State) (event : ServerEvent) (f : ℕ) → is_up f (step s event).state.fronts ≡ true → (is_up f s.fronts ≡ true) ⊎ ComesUp f event
still_up s (LinkUp link identifiers) f h = inl h
still_up s (LinkPacket link p) f h = inl (ap (is_up f) (sym (link_changes s (LinkPacket link p) link refl).fronts) ∙ h)
still_up s (LinkLost link) f h = inl (ap (is_up f) (sym (link_changes s (LinkLost link) link refl).fronts) ∙ h)
still_up s (FrontUp front) f h = here (one_more (λ x. x == f) front s.fronts.fronts h)
  where
    here : ((front == f) ≡ true) ⊎ (is_up f s.fronts ≡ true) → (is_up f s.fronts ≡ true) ⊎ (f ≡ front)
    here (inl e) = inr (sym (eqb-true front f e))
    here (inr e) = inl e
still_up s (FrontPacket front p) f h = inl (here (is_up front s.fronts) h)
  where
    here : (b : Bool) → is_up f (cond b (from_front s front p) (ignored s)).state.fronts ≡ true → is_up f s.fronts ≡ true
    here true h = ap (is_up f) (sym (front_fronts s front p)) ∙ h
    here false h = h
still_up s (FrontLost front) f h = inl (here (is_up front s.fronts) h)
  where
    here : (b : Bool) → is_up f (cond b (front_lost s front) (ignored s)).state.fronts ≡ true → is_up f s.fronts ≡ true
    here true h = fewer (λ x. x == f) (λ x. x == front) s.fronts.fronts h
    here false h = h
