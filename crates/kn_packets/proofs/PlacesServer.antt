-- What the server sends speaks of its entries, or of the packet that it takes.
use Rattle.std.proofs.Common.{◌≡◌, ◌≤◌, ◌==◌, ℕ, ℤ, pos, Bool, true, false, cond, List, [], ◌∷◌, length, filter, Option, Some, None, refl, sym, eqb-true, subst}
use Rattle.std.specs.Prelude.{codes}
use Rattle.kn_packet.specs.declared.packet.Packet.{Packet}
use Rattle.kn_packet.specs.declared.packet.Packet.TheVariants.{CloseReq, CloseRsp, Data, DialCls, DialReq, DialRsp, Drain, Other}
use Rattle.kn_route.specs.LinkLists.{has_link}
use Rattle.kn_tables.specs.Lists.{first_where}
use Rattle.kn_tables.specs.Awaiting.{is_dial, is_of_link, is_random}
use Rattle.kn_tables.specs.Holding.{by_connect_id, is_held, is_held_by, is_held_dial, is_held_on}
use Rattle.kn_tables.specs.declared.awaited_entry.AwaitedEntry.{AwaitedEntry}
use Rattle.kn_tables.specs.declared.held_entry.HeldEntry.{HeldEntry}
use Rattle.kn_tables.specs.declared.held_entry.HeldState.{HeldState}
use Rattle.kn_tables.specs.declared.held_entry.HeldState.TheVariants.{Closing, Open}
use Rattle.kn_server_core.specs.declared.event.ServerEvent.TheVariants.{FrontLost, LinkLost, LinkPacket}
use Rattle.kn_server_core.specs.declared.event.ServerOut.{ServerOut}
use Rattle.kn_server_core.specs.declared.event.ServerOut.TheVariants.{CutLink, Made, ToFront, ToLink}
use Rattle.kn_server_core.specs.FrontLists.{is_up}
use Rattle.kn_server_core.specs.Isolation.{Each}
use Rattle.kn_server_core.specs.Packets.{data_to_front, data_to_link, in_packets}
use Rattle.kn_server_core.specs.Server.{all_asked, all_awaited_lost, all_held_lost, asked_at_loss, awaited_reply, close_from_front, close_own, data_down, data_up, dial_at, dial_cancelled, ended_to, from_front, from_link, front_lost, held_at, ignored, link_lost, of_link, open_down, open_up, own, refused_reply, reply_by_entry, step, tunnel_ended}
use Rattle.kn_server_core.specs.Texts.{error_cut}
use Rattle.kn_server_core.proofs.EntryLemmas.{each_kept}
use Rattle.kn_packets.specs.Keys.{Keys, ReplyFits}
use Rattle.kn_packets.specs.Moves.{new_dial}
use Rattle.kn_packets.specs.Outputs.{dial_made, for_front, for_link, more_if}
use Rattle.kn_packets.specs.Places.{OfItsApps, SpeaksOfLink, SpeaksOfStream, WasDrawn}
use Rattle.kn_packets.specs.World.{World, WorldDial}
use Rattle.kn_packets.proofs.AgentKept.{each_as}
use Rattle.kn_packets.proofs.LinkLosses.{each_sorted}
use Rattle.kn_packets.proofs.Owners.{its_entry}
use Rattle.kn_packets.proofs.Replies.{found_awaited, whole_error}
use Rattle.kn_packets.proofs.TakesInData.{found_own}
use Rattle.kn_packets.proofs.Told.{each_both, each_its}

each_of : {E : Type 0} (P : E → Type 0) (p : E → Bool) (xs : List E) → Each P xs → Each P (filter p xs)
each_of P p xs h = each_as (λ x. (p x ≡ true) × P x) P (λ x i. i.1) (filter p xs) (each_kept P p xs h)

-- ---- an output that makes no dial, and whose packet speaks of what the world has
abbrev pub SaysWell : World → ServerOut → Type 0
SaysWell w (ToLink l p) = SpeaksOfLink w l p
SaysWell w (ToFront f p) = (w.streams f).connect ≡ false → SpeaksOfStream w f p
SaysWell w (CutLink l) = Unit {0}
SaysWell w (Made dial link front) = ⊥

pub said_links : (w : World) (l : ℕ) (outs : List ServerOut) → Each (SaysWell w) outs → Each (SpeaksOfLink w l) (for_link l outs)
said_links w l [] h = tt
said_links w l (ToLink link p ∷ outs) h = here (l == link) refl (said_links w l outs h.1)
  where
    here : (b : Bool) → (l == link) ≡ b → Each (SpeaksOfLink w l) (for_link l outs) → Each (SpeaksOfLink w l) (more_if b p (for_link l outs))
    here true on later = (subst (λ i. SpeaksOfLink w i p) (sym (eqb-true l link on)) h.0, later)
    here false off later = later
said_links w l (ToFront front p ∷ outs) h = said_links w l outs h.1
said_links w l (CutLink link ∷ outs) h = said_links w l outs h.1
said_links w l (Made dial link front ∷ outs) h = absurd h.0

pub said_fronts : (w : World) (f : ℕ) (outs : List ServerOut) → (w.streams f).connect ≡ false → Each (SaysWell w) outs → Each (SpeaksOfStream w f) (for_front f outs)
said_fronts w f [] client h = tt
said_fronts w f (ToFront front p ∷ outs) client h = here (f == front) refl (said_fronts w f outs client h.1)
  where
    here : (b : Bool) → (f == front) ≡ b → Each (SpeaksOfStream w f) (for_front f outs) → Each (SpeaksOfStream w f) (more_if b p (for_front f outs))
    here true on later = let same = eqb-true f front on in (subst (λ i. SpeaksOfStream w i p) (sym same) (h.0 (subst (λ i. (w.streams i).connect ≡ false) same client)), later)
    here false off later = later
said_fronts w f (ToLink link p ∷ outs) client h = said_fronts w f outs client h.1
said_fronts w f (CutLink link ∷ outs) client h = said_fronts w f outs client h.1
said_fronts w f (Made dial link front ∷ outs) client h = absurd h.0

pub no_dial : (w : World) (d : ℕ) (outs : List ServerOut) (old : WorldDial) → Each (SaysWell w) outs → new_dial d outs old ≡ old
no_dial w d [] old h = refl
no_dial w d (ToLink link p ∷ outs) old h = no_dial w d outs old h.1
no_dial w d (ToFront front p ∷ outs) old h = no_dial w d outs old h.1
no_dial w d (CutLink link ∷ outs) old h = no_dial w d outs old h.1
no_dial w d (Made dial link front ∷ outs) old h = absurd h.0

pub none_made : (w : World) (stream : ℕ) (asks : Bool) (outs : List ServerOut) (old : Option ℕ) → Each (SaysWell w) outs → dial_made stream asks outs old ≡ old
none_made w stream asks [] old h = refl
none_made w stream asks (ToLink link p ∷ outs) old h = none_made w stream asks outs old h.1
none_made w stream asks (ToFront front p ∷ outs) old h = none_made w stream asks outs old h.1
none_made w stream asks (CutLink link ∷ outs) old h = none_made w stream asks outs old h.1
none_made w stream asks (Made dial link front ∷ outs) old h = absurd h.0

module _ (w : World) (keys : Keys w) where
  -- ---- the entries
  abbrev IsEntry : HeldEntry → Type 0
  IsEntry e = first_where (is_held_dial e.dial) w.server.held ≡ Some e

  its_connection : (e : HeldEntry) → IsEntry e → WasDrawn w e.link e.connect_id
  its_connection e at = let fits = keys.server.held e.dial e at in (fits.cid, fits.named, (e.dial, fits.link, fits.drawn))

  its_app : (e : HeldEntry) (f : ℕ) → IsEntry e → e.front ≡ Some f → OfItsApps w f (pos e.dial)
  its_app e f at front =
      let fits = keys.server.held e.dial e at in let app = keys.agents.cid_app e.dial fits.cid fits.drawn in
      (app.0, e.dial, app.1, fits.front app.0 f app.1 app.2 front, app.2, refl)

  its_asker : (e : AwaitedEntry) → first_where (is_dial e.dial) w.server.awaited ≡ Some e → OfItsApps w e.front (pos e.dial)
  its_asker e at = let fits = keys.server.awaited e.dial e at in let app = fits.has_app in (app.0, e.dial, app.1, fits.front app.0 app.1 app.2, app.2, refl)

  all_entries : Each IsEntry w.server.held
  all_entries = each_its (λ (e : HeldEntry). e.dial) w.server.held keys.server.orderly.held_rise

  -- ---- what is told of many
  ended_well : (e : HeldEntry) (error : List ℕ) → IsEntry e → (o : Option ℕ) → e.front ≡ o → Each (SaysWell w) (ended_to o e.dial error)
  ended_well e error at None front = tt
  ended_well e error at (Some f) front = ((λ client. its_app e f at front), tt)

  awaited_well : (es : List AwaitedEntry) → Each (SaysWell w) (all_awaited_lost es)
  awaited_well [] = tt
  awaited_well (e ∷ es) = ((λ client. refl), awaited_well es)

  held_well : (es : List HeldEntry) → Each IsEntry es → Each (SaysWell w) (all_held_lost es)
  held_well [] h = tt
  held_well (e ∷ es) h = each_both (SaysWell w) (ended_to e.front e.dial (codes "agent lost")) (all_held_lost es) (ended_well e (codes "agent lost") h.0 e.front refl) (held_well es h.1)

  link_lost_well : (l : ℕ) → Each (SaysWell w) (link_lost w.server l).outs
  link_lost_well l = each_both (SaysWell w) (all_awaited_lost (filter (is_of_link l) w.server.awaited)) (all_held_lost (by_connect_id (filter (is_held_on l) w.server.held)))
      (awaited_well (filter (is_of_link l) w.server.awaited)) (held_well (by_connect_id (filter (is_held_on l) w.server.held))
      (each_sorted IsEntry (filter (is_held_on l) w.server.held) (each_of IsEntry (is_held_on l) w.server.held all_entries)))

  asked_well : (es : List HeldEntry) → Each IsEntry es → Each (SaysWell w) (all_asked es)
  asked_well [] h = tt
  asked_well (e ∷ es) h = each_both (SaysWell w) (asked_at_loss e.state e) (all_asked es) (here e.state) (asked_well es h.1)
    where
      here : (s : HeldState) → Each (SaysWell w) (asked_at_loss s e)
      here Open = (its_connection e h.0, tt)
      here Closing = tt

  data_front_well : (e : HeldEntry) (f : ℕ) → IsEntry e → e.front ≡ Some f → (pieces : List (List ℕ)) → Each (SaysWell w) (data_to_front f e.dial pieces)
  data_front_well e f at front [] = tt
  data_front_well e f at front (x ∷ xs) = ((λ client. its_app e f at front), data_front_well e f at front xs)

  data_link_well : (e : HeldEntry) → IsEntry e → (pieces : List (List ℕ)) → Each (SaysWell w) (data_to_link e.link e.connect_id pieces)
  data_link_well e at [] = tt
  data_link_well e at (x ∷ xs) = (its_connection e at, data_link_well e at xs)

  -- ---- a link's packet
  module _ (l : ℕ) where
    late_or_opened : (c random : ℤ) → WasDrawn w l c → (o : Option AwaitedEntry) → of_link l (dial_at random w.server.awaited) ≡ o → Each (SaysWell w) (awaited_reply w.server l c o).outs
    late_or_opened c random was None at = (was, tt)
    late_or_opened c random was (Some e) at = ((λ client. its_asker e (found_awaited w keys l random e at).at), tt)

    replied : (c random : ℤ) → WasDrawn w l c → (o : Option HeldEntry) → Each (SaysWell w) (reply_by_entry w.server l c random o).outs
    replied c random was None = late_or_opened c random was (of_link l (dial_at random w.server.awaited)) refl
    replied c random was (Some e) = (tt, link_lost_well l)

    refused : (x : ℕ) (xs : List ℕ) → length (x ∷ xs) ≤ 256 → (o : Option AwaitedEntry) → Each (SaysWell w) (refused_reply w.server (x ∷ xs) o).outs
    refused x xs short None = tt
    refused x xs short (Some e) = ((λ client. rw (whole_error x xs short) refl), tt)

    bytes_down : (c : ℤ) (bytes : List ℕ) (o : Option HeldEntry) → first_where (is_held l c) w.server.held ≡ o → Each (SaysWell w) (data_down w.server bytes o).outs
    bytes_down c bytes None at = tt
    bytes_down c bytes (Some e) at = here e.state e.front refl
      where
        here : (s : HeldState) (o : Option ℕ) → e.front ≡ o → Each (SaysWell w) (open_down w.server bytes s o e.dial).outs
        here Open (Some f) front = data_front_well e f (its_entry w keys l c e at) front (in_packets bytes)
        here Open None front = tt
        here Closing o front = tt

    ended : (c : ℤ) (error : List ℕ) (o : Option HeldEntry) → first_where (is_held l c) w.server.held ≡ o → Each (SaysWell w) (tunnel_ended w.server l c error o).outs
    ended c error None at = tt
    ended c error (Some e) at = ended_well e (error_cut error) (its_entry w keys l c e at) e.front refl

    from_link_well : (p : Packet) → SpeaksOfLink w l p → ReplyFits w l p → Each (SaysWell w) (from_link w.server l p).outs
    from_link_well (DialRsp [] c random) h fits = replied c random h (first_where (is_held l c) w.server.held)
    from_link_well (DialRsp (x ∷ xs) c random) h fits = refused x xs fits (of_link l (dial_at random w.server.awaited))
    from_link_well (Data c error bytes) h fits = bytes_down c bytes (first_where (is_held l c) w.server.held) refl
    from_link_well (CloseRsp error c) h fits = ended c error (first_where (is_held l c) w.server.held) refl
    from_link_well Drain h fits = tt
    from_link_well (DialReq protocol address random) h fits = tt
    from_link_well (CloseReq c) h fits = tt
    from_link_well (DialCls random) h fits = tt
    from_link_well (Other number) h fits = tt

    pub up_well : (p : Packet) → SpeaksOfLink w l p → ReplyFits w l p → Each (SaysWell w) (step w.server (LinkPacket l p)).outs
    up_well p h fits = here (has_link l w.server.links)
      where
        here : (b : Bool) → Each (SaysWell w) (cond b (from_link w.server l p) (ignored w.server)).outs
        here true = from_link_well p h fits
        here false = tt

    pub link_gone_well : Each (SaysWell w) (step w.server (LinkLost l)).outs
    link_gone_well = here (has_link l w.server.links)
      where
        here : (b : Bool) → Each (SaysWell w) (cond b (link_lost w.server l) (ignored w.server)).outs
        here true = link_lost_well l
        here false = tt

  -- ---- a front's packet
  module _ (f : ℕ) where
    bytes_up : (c : ℤ) (bytes : List ℕ) (o : Option HeldEntry) → own f (held_at c w.server.held) ≡ o → Each (SaysWell w) (data_up w.server bytes o).outs
    bytes_up c bytes None at = tt
    bytes_up c bytes (Some e) at = here e.state
      where
        here : (s : HeldState) → Each (SaysWell w) (open_up w.server bytes s e).outs
        here Open = data_link_well e (found_own w f c e at).at (in_packets bytes)
        here Closing = tt

    closed : (c : ℤ) → ((w.streams f).connect ≡ false → OfItsApps w f c) → (o : Option HeldEntry) → own f (held_at c w.server.held) ≡ o → Each (SaysWell w) (close_from_front w.server f c o).outs
    closed c its None at = (its, tt)
    closed c its (Some e) at = here e.state
      where
        here : (s : HeldState) → Each (SaysWell w) (close_own w.server s e).outs
        here Open = (its_connection e (found_own w f c e at).at, tt)
        here Closing = tt

    cancelled : (o : Option AwaitedEntry) → Each (SaysWell w) (dial_cancelled w.server o).outs
    cancelled None = tt
    cancelled (Some e) = tt

    -- ---- all but a request
    abbrev pub IsNoRequest : Packet → Type 0
    IsNoRequest (DialReq protocol address random) = ⊥
    IsNoRequest (DialRsp error c random) = Unit {0}
    IsNoRequest (Data c error bytes) = Unit {0}
    IsNoRequest (CloseReq c) = Unit {0}
    IsNoRequest (CloseRsp error c) = Unit {0}
    IsNoRequest (DialCls random) = Unit {0}
    IsNoRequest Drain = Unit {0}
    IsNoRequest (Other number) = Unit {0}

    pub from_front_well : (p : Packet) → IsNoRequest p → ((w.streams f).connect ≡ false → SpeaksOfStream w f p) → Each (SaysWell w) (from_front w.server f p).outs
    from_front_well (DialReq protocol address random) h its = absurd h
    from_front_well (Data c error bytes) h its = bytes_up c bytes (own f (held_at c w.server.held)) refl
    from_front_well (CloseReq c) h its = closed c its (own f (held_at c w.server.held)) refl
    from_front_well (DialCls random) h its = cancelled (first_where (is_random f random) w.server.awaited)
    from_front_well (DialRsp error c random) h its = tt
    from_front_well (CloseRsp error c) h its = tt
    from_front_well Drain h its = tt
    from_front_well (Other number) h its = tt

    pub front_gone_well : Each (SaysWell w) (step w.server (FrontLost f)).outs
    front_gone_well = here (is_up f w.server.fronts)
      where
        here : (b : Bool) → Each (SaysWell w) (cond b (front_lost w.server f) (ignored w.server)).outs
        here true = asked_well (filter (is_held_by f) w.server.held) (each_of IsEntry (is_held_by f) w.server.held all_entries)
        here false = tt
