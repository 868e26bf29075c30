-- Events of the server that concern a client's front: a client comes, the server takes a packet of its stream, or loses it.
use Rattle.std.proofs.Common.{◌≡◌, ◌++◌, ◌+◌, ◌<◌, ◌&&◌, ℕ, ℤ, suc, Bool, true, false, not, cond, List, [], ◌∷◌, length, Option, Some, None, refl, sym, ap, ◌∙◌, subst, append-nil, eqb-true, arith}
use Rattle.std.proofs.lemmas.Bool.{eq-eqb}
use Rattle.kn_packet.specs.declared.packet.Packet.{Packet}
use Rattle.kn_packet.specs.declared.packet.Packet.TheVariants.{CloseReq, CloseRsp, Data, DialCls, DialReq, DialRsp, Drain, Other}
use Rattle.kn_server_core.specs.declared.event.ServerEvent.TheVariants.{FrontLost, FrontPacket, FrontUp}
use Rattle.kn_edge_core.specs.declared.client_state.ClientState.{ClientState}
use Rattle.kn_tunnel.specs.Kinds.{is_awaited, is_coming, is_gone, is_present}
use Rattle.kn_tunnel.specs.Tunnel.{Gone}
use Rattle.kn_packets.specs.Keys.{Keys}
use Rattle.kn_packets.specs.Moves.{FrontComes, HasNoStream, May, ServerLosesFront, ServerTakesIn, StreamBegins, after, as_taken, begins_with_bytes, connection_dial, dial_entry, in_is, is_of_client, new_stream, server_does, takes_in}
use Rattle.kn_packets.specs.World.{WorldStream}
use Rattle.kn_world.specs.declared.parts.App.{App}
use Rattle.kn_world.specs.declared.parts.Client.{Client}
use Rattle.kn_world.specs.declared.parts.Owner.{Owner}
use Rattle.kn_world.specs.declared.parts.Owner.TheVariants as owner
use Rattle.kn_world.specs.declared.state.State.{State}
use Rattle.kn_world.specs.Arrivals.{client_comes}
use Rattle.kn_world.specs.Clients as clients
use Rattle.kn_world.specs.Idle as idle
use Rattle.kn_world.specs.Idle.{there_and}
use Rattle.kn_world.specs.Numbers.{change, nth, number_of, rest_of}
use Rattle.kn_world.specs.Pipes.{client_up}
use Rattle.kn_world.specs.ServerPackets.{asker, loses_front}
use Rattle.kn_world.specs.ServerSteps.{step}
use Rattle.kn_world.specs.States.{new_client}
use Rattle.kn_refinement.specs.Fits.{Fits}
use Rattle.kn_refinement.specs.Leads.{Leads}
use Rattle.kn_refinement.specs.Shown.{client_stream, connect_stream, front_if, shown, stream_of}
use Rattle.kn_refinement.proofs.Changes.{changed_own}
use Rattle.kn_refinement.proofs.FitsClients.{ClientKept, client_more_fits, clients_kept, front_more_fits, lost_kept, rest_kept}
use Rattle.kn_refinement.proofs.FitsHeard.{MayHaveDial}
use Rattle.kn_refinement.proofs.FitsServer.{MayStep, client_fits, plus_one, step_fits}
use Rattle.kn_refinement.proofs.FrontRequests.{asker_may}
use Rattle.kn_refinement.proofs.LeadsLinks.{links_known, quiet_step}
use Rattle.kn_refinement.proofs.NumberLemmas.{length_more, nth_none, nth_within}
use Rattle.kn_refinement.proofs.Pairs.{Paired, came_last}
use Rattle.kn_refinement.proofs.ServerAsks.{AskedAt}
use Rattle.kn_refinement.proofs.ServerReached.{server_leads, server_reached}
use Rattle.kn_refinement.proofs.ServerSteps.{AsksFor}
use Rattle.kn_refinement.proofs.SettledRuns.{Reaches}
use Rattle.kn_refinement.proofs.ShownChanges.{beyond, came_as, client_came, client_changed}
use Rattle.kn_refinement.proofs.Worlds.{leads_none}

-- the stream of a client, as it is shown
pub own_stream : (s : State) (c : ℕ) (x : Client) → Fits s → nth c s.clients ≡ Some x → (shown s).streams x.front ≡ client_stream c (Some x)
own_stream s c x fits there = ap (stream_of s.clients s.apps) (fits.fronts.client c x there) ∙ ap (client_stream c) there

-- ---- a client comes
abbrev comes_as : ℕ → ℕ → State → State
comes_as front c s = step 0 (FrontUp front) (record s { fronts = s.fronts ++ owner.Client c ∷ []; clients = s.clients ++ new_client front ∷ [] })

-- it has no stream yet
no_stream_yet : (s : State) → Fits s → HasNoStream (suc (length s.clients)) (shown s)
no_stream_yet s fits f h = here (nth f s.fronts) refl h
  where
    client : (c : ℕ) (x : Client) → nth c s.clients ≡ Some x → is_of_client (suc (length s.clients)) (client_stream c (Some x)) ≡ true → ⊥
    client c x e h = let same : c ≡ suc (length s.clients) = eqb-true c (suc (length s.clients)) h in let within = nth_within c s.clients x e in omega (arith, same, within)

    here : (o : Option Owner) → nth f s.fronts ≡ o → is_of_client (suc (length s.clients)) (stream_of s.clients s.apps o) ≡ true → (stream_of s.clients s.apps o).client ≡ false
    here None e h = refl
    here (Some (owner.Client c)) e h =
        let w = fits.fronts.of_client f c e in
        absurd (client c w.0 w.1 (ap (λ o. is_of_client (suc (length s.clients)) (client_stream c o)) (sym w.1) ∙ h))
    here (Some (owner.App k)) e h =
        let w = fits.fronts.of_app f k e in
        let z : is_of_client (suc (length s.clients)) (stream_of s.clients s.apps (Some (owner.App k))) ≡ false = ap (λ o. is_of_client (suc (length s.clients)) (connect_stream k o)) w.1 in
        absurd (cc (z, h))

client_came_leads : (s : State) → Fits s → Keys (shown s) → Leads s (comes_as (suc (length s.fronts)) (suc (length s.clients)) s)
client_came_leads s fits keys = record { fits = stepped; moves = StreamBegins (suc (length s.fronts)) (suc (length s.clients)) ∷ reached.0; made = (begins, reached.1) }
  where
    new_fits : Fits (came_as (suc (length s.fronts)) s)
    new_fits = record {
      asked = fits.asked;
      agents = fits.agents;
      clients = client_more_fits (suc (length s.fronts)) s.clients s.apps fits.clients;
      fronts = front_more_fits s.clients s.apps s.fronts s.server.fronts (suc (length s.fronts)) refl fits.fronts;
      next_dial = fits.next_dial;
    }

    begins : May (StreamBegins (suc (length s.fronts)) (suc (length s.clients))) (shown s)
    begins = (ap (λ o. (stream_of s.clients s.apps o).begun) (beyond s.fronts (suc (length s.fronts)) refl), no_stream_yet s fits)

    coming : May (FrontComes (suc (length s.fronts))) (after (StreamBegins (suc (length s.fronts)) (suc (length s.clients))) (shown s))
    coming = ap (λ b. (cond b (new_stream false (suc (length s.clients)) 0) (stream_of s.clients s.apps (nth (suc (length s.fronts)) s.fronts))).begun && is_coming (cond b (new_stream false (suc (length s.clients)) 0) (stream_of s.clients s.apps (nth (suc (length s.fronts)) s.fronts))).front)
        (eq-eqb (suc (length s.fronts)) (suc (length s.fronts)) refl)

    may_step : MayStep (FrontUp (suc (length s.fronts))) 0 (came_as (suc (length s.fronts)) s)
    may_step = record {
      asks = λ front protocol address random e. absurd cc;
      comes = λ f e. (owner.Client (suc (length s.clients)), ap (λ n. nth n (s.fronts ++ owner.Client (suc (length s.clients)) ∷ [])) e ∙ came_last s.fronts (owner.Client (suc (length s.clients))));
    }

    reached : Reaches (after (StreamBegins (suc (length s.fronts)) (suc (length s.clients))) (shown s)) (shown (comes_as (suc (length s.fronts)) (suc (length s.clients)) s))
    reached = server_reached (after (StreamBegins (suc (length s.fronts)) (suc (length s.clients))) (shown s)) (came_as (suc (length s.fronts)) s) (FrontComes (suc (length s.fronts))) 0 (FrontUp (suc (length s.fronts)))
        new_fits keys.server.orderly (links_known s keys) tt coming (ap (server_does (FrontUp (suc (length s.fronts)))) (client_came s fits))

    stepped : Fits (comes_as (suc (length s.fronts)) (suc (length s.clients)) s)
    stepped = step_fits (came_as (suc (length s.fronts)) s) 0 (FrontUp (suc (length s.fronts))) new_fits keys.server.orderly (links_known s keys) may_step

pub client_comes_leads : (s : State) → Fits s → Keys (shown s) → Leads s (client_comes s)
client_comes_leads s fits keys =
    subst (λ front. Leads s (comes_as front (length s.clients + 1) s)) (sym (length_more s.fronts (owner.Client (length s.clients + 1))))
    (subst (λ c. Leads s (comes_as (suc (length s.fronts)) c s)) (sym (plus_one (length s.clients))) (client_came_leads s fits keys))

-- ---- the server loses a front
lost_leads : (s : State) (c : ℕ) (x : Client) → nth c s.clients ≡ Some x → x.at_server ≡ true → Fits s → Keys (shown s) → Leads s (step 0 (FrontLost x.front) (record s { clients = change clients.lost_at_server c s.clients }))
lost_leads s c x there up fits keys = server_leads s (record s { clients = change clients.lost_at_server c s.clients }) (ServerLosesFront x.front x.down) 0 (FrontLost x.front)
    (client_fits s clients.lost_at_server c (λ y. lost_kept c y) fits) keys.server.orderly (links_known s keys) tt
    (quiet_step (FrontLost x.front) 0 (record s { clients = change clients.lost_at_server c s.clients }) (λ front protocol address random e. cc) (λ f h. h))
    (ap (λ (v : WorldStream). v.begun && not (is_gone v.front)) (own_stream s c x fits there) ∙ here x.at_server up, ([], append-nil x.down ∙ sym (ap (λ (v : WorldStream). v.down) (own_stream s c x fits there))))
    (ap (server_does (FrontLost x.front)) (client_changed s c x clients.lost_at_server
    (λ b y. record y { front = cond b Gone y.front; up = cond b [] y.up; down = cond b x.down y.down }) fits there (λ y. refl) (λ y. refl) (λ y. refl) refl))
  where
    here : (b : Bool) → b ≡ true → not (is_gone (front_if b)) ≡ true
    here true e = refl
    here false e = absurd cc

pub loses_front_leads : (c : ℕ) (s : State) → idle.has_front c s ≡ true → Fits s → Keys (shown s) → Leads s (loses_front c s)
loses_front_leads c s up fits keys = here (nth c s.clients) refl up
  where
    here : (o : Option Client) → nth c s.clients ≡ o → there_and (λ x. x.at_server) o ≡ true → Leads s (loses_front c s)
    here None e h = absurd cc
    here (Some x) e h = subst (λ o. Leads s (step 0 (FrontLost (clients.front_of o)) (record s { clients = change clients.lost_at_server c s.clients }))) (sym e) (lost_leads s c x e h fits keys)

-- ---- the server takes a packet of a client
first_rest : (ps : List Packet) (p : Packet) → clients.first_up (Some (record (new_client 0) { up = ps })) ≡ Some p → ps ≡ p ∷ rest_of ps
first_rest [] p h = absurd cc
first_rest (q ∷ qs) p h = let e : q ≡ p = cc in ap (λ x. x ∷ qs) e

none_rest : (ps : List Packet) → clients.first_up (Some (record (new_client 0) { up = ps })) ≡ None → rest_of ps ≡ ps
none_rest [] h = refl
none_rest (q ∷ qs) h = absurd cc

may_after : (old new : List Client) (a : App) → Paired ClientKept old new → MayHaveDial old a → MayHaveDial new a
may_after old new a pairs may = record {
  told = λ c n y h e t. let z = pairs.before c y e in may.told c n z.0 h z.1 (subst (λ (k : ClientState). k.top_app < n) z.2.core t);
  heard = may.heard;
  early = may.early;
  undialled = may.undialled;
}

asks_of_client : (p : Packet) (c front : ℕ) (s : State) → nth front s.fronts ≡ Some (owner.Client c) → AsksFor (FrontPacket front p) (asker p c s.clients) s
asks_of_client (DialReq protocol address random) c front s e = subst (λ o. AskedAt o random (clients.app_at (number_of random) (nth c s.clients)) s.clients) (sym e) refl
asks_of_client (DialRsp error connect_id random) c front s e = tt
asks_of_client (Data connect_id error bytes) c front s e = tt
asks_of_client (CloseReq connect_id) c front s e = tt
asks_of_client (CloseRsp error connect_id) c front s e = tt
asks_of_client (DialCls random) c front s e = tt
asks_of_client Drain c front s e = tt
asks_of_client (Other number) c front s e = tt

packet_same : {f g : ℕ} {p q : Packet} → FrontPacket f p ≡ FrontPacket g q → p ≡ q
packet_same e = cc

module _ (s : State) (c : ℕ) (fits : Fits s) (keys : Keys (shown s)) where
  module _ (x : Client) (p : Packet) (there : nth c s.clients ≡ Some x) (first : x.up ≡ p ∷ rest_of x.up) where
    at_server : x.at_server ≡ true
    at_server = here x.at_server refl
      where
        here : (b : Bool) → x.at_server ≡ b → b ≡ true
        here true e = refl
        here false e = let dry : x.up ≡ [] = fits.clients.up_dry c x there e in absurd (cc (dry, first))

    present : is_present (client_stream c (Some x)).front ≡ true
    present = ap (λ b. is_present (front_if b)) at_server

    may_take : May (ServerTakesIn x.front) (shown s)
    may_take =
        ap (λ (v : WorldStream). is_present v.front && not (v.connect && is_awaited (dial_entry (shown s) (connection_dial (shown s) x.front)) && begins_with_bytes v.up)) (own_stream s c x fits there)
        ∙ ap (λ b. b && true) present

    pub taken_leads : Leads s (step (asker p c (change clients.rest_up c s.clients)) (FrontPacket x.front p) (record s { clients = change clients.rest_up c s.clients }))
    taken_leads = server_leads s (record s { clients = change clients.rest_up c s.clients }) (ServerTakesIn x.front) (asker p c (change clients.rest_up c s.clients)) (FrontPacket x.front p)
        (client_fits s clients.rest_up c (λ y. rest_kept c y) fits) keys.server.orderly (links_known s keys)
        (asks_of_client p c x.front (record s { clients = change clients.rest_up c s.clients }) (fits.fronts.client c x there))
        may_step may_take same
      where
        may_step : MayStep (FrontPacket x.front p) (asker p c (change clients.rest_up c s.clients)) (record s { clients = change clients.rest_up c s.clients })
        may_step = record { asks = asks; comes = λ f h. absurd h }
          where
            asks : (front : ℕ) (protocol address : List ℕ) (random : ℤ) → FrontPacket x.front p ≡ FrontPacket front (DialReq protocol address random)
                → (a : App) × (nth (asker p c (change clients.rest_up c s.clients)) s.apps ≡ Some a) × MayHaveDial (change clients.rest_up c s.clients) a
            asks front protocol address random e =
                let q : p ≡ DialReq protocol address random = packet_same e in
                let found = asker_may s fits c x there protocol address random (rest_of x.up) keys (own_stream s c x fits there) (first ∙ ap (λ r. r ∷ rest_of x.up) q) at_server in (
                  found.0,
                  ap (λ r. nth (asker r c (change clients.rest_up c s.clients)) s.apps) q
                      ∙ ap (λ o. nth (clients.app_at (number_of random) o) s.apps) (changed_own clients.rest_up c s.clients x there)
                      ∙ found.1,
                  may_after s.clients (change clients.rest_up c s.clients) found.0 (clients_kept clients.rest_up c s.clients (λ y. rest_kept c y)) found.2,
                )

        same : after (ServerTakesIn x.front) (shown s) ≡ server_does (FrontPacket x.front p) (shown (record s { clients = change clients.rest_up c s.clients }))
        same =
            ap (λ ps. takes_in x.front ps (shown s)) (ap (λ (v : WorldStream). v.up) (own_stream s c x fits there) ∙ first)
            ∙ ap (λ (v : WorldStream). server_does (FrontPacket x.front (as_taken v.connect (connection_dial (shown s) x.front) p)) (in_is x.front (rest_of x.up) (shown s))) (own_stream s c x fits there)
            ∙ ap (server_does (FrontPacket x.front p)) (client_changed s c x clients.rest_up (λ b y. record y { up = cond b (rest_of x.up) y.up }) fits there (λ y. refl) (λ y. refl) (λ y. refl) refl)

  none_leads : clients.first_up (nth c s.clients) ≡ None → Leads s (record s { clients = change clients.rest_up c s.clients })
  none_leads h = leads_none s (record s { clients = change clients.rest_up c s.clients }) (client_fits s clients.rest_up c (λ y. rest_kept c y) fits) (here (nth c s.clients) refl h)
    where
      here : (o : Option Client) → nth c s.clients ≡ o → clients.first_up o ≡ None → shown s ≡ shown (record s { clients = change clients.rest_up c s.clients })
      here None e h = ap (λ xs. shown (record s { clients = xs })) (sym (nth_none clients.rest_up c s.clients e))
      here (Some x) e h = client_changed s c x clients.rest_up (λ b y. y) fits e (λ y. refl) (λ y. refl) (λ y. refl) (ap (λ ps. record (client_stream c (Some x)) { up = ps }) (sym (none_rest x.up h)))

  pub client_up_leads : Leads s (client_up c s)
  client_up_leads = here (nth c s.clients) refl (clients.first_up (nth c s.clients)) refl
    where
      some : (x : Client) (p : Packet) → nth c s.clients ≡ Some x → x.up ≡ p ∷ rest_of x.up
          → Leads s (step (asker p c (change clients.rest_up c s.clients)) (FrontPacket (clients.front_of (nth c (change clients.rest_up c s.clients))) p) (record s { clients = change clients.rest_up c s.clients }))
      some x p e first = subst (λ o. Leads s (step (asker p c (change clients.rest_up c s.clients)) (FrontPacket (clients.front_of o) p) (record s { clients = change clients.rest_up c s.clients })))
          (sym (changed_own clients.rest_up c s.clients x e)) (taken_leads x p e first)

      packet : (o : Option Client) (p : Packet) → nth c s.clients ≡ o → clients.first_up o ≡ Some p
          → Leads s (step (asker p c (change clients.rest_up c s.clients)) (FrontPacket (clients.front_of (nth c (change clients.rest_up c s.clients))) p) (record s { clients = change clients.rest_up c s.clients }))
      packet None p e h = absurd cc
      packet (Some x) p e h = some x p e (first_rest x.up p h)

      here : (o : Option Client) → nth c s.clients ≡ o → (r : Option Packet) → clients.first_up (nth c s.clients) ≡ r → Leads s (client_up c s)
      here o e None h = rw h (none_leads h)
      here o e (Some p) h = rw h (packet o p e (sym (ap clients.first_up e) ∙ h))
