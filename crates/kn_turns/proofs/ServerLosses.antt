-- The server loses a link or a client's front, and any front of what it queued there is left.
use Rattle.std.proofs.Common.{◌≡◌, ◌&&◌, ℕ, zero, suc, Bool, true, false, not, cond, List, [], take, drop, Option, Some, None, refl, sym, ap, ◌∙◌, subst}
use Rattle.std.proofs.lemmas.List.{take-append-drop}
use Rattle.kn_packet.specs.declared.packet.Packet.{Packet}
use Rattle.kn_server_core.specs.declared.event.ServerEvent.TheVariants.{FrontLost, LinkLost}
use Rattle.kn_tunnel.specs.Kinds.{is_gone, is_present}
use Rattle.kn_tunnel.specs.Tunnel.{Gone}
use Rattle.kn_packets.specs.Keys.{Keys}
use Rattle.kn_packets.specs.Moves.{ServerLosesFront, ServerLosesLink, server_does}
use Rattle.kn_packets.specs.World.{WorldStream}
use Rattle.kn_world.specs.declared.parts.Agent.{Agent}
use Rattle.kn_world.specs.declared.parts.Client.{Client}
use Rattle.kn_world.specs.declared.state.State.{State}
use Rattle.kn_world.specs.Clients as clients
use Rattle.kn_world.specs.Idle as idle
use Rattle.kn_world.specs.Idle.{there_and}
use Rattle.kn_world.specs.Numbers.{change, nth}
use Rattle.kn_world.specs.ServerSteps.{step}
use Rattle.kn_refinement.specs.Fits.{Fits}
use Rattle.kn_refinement.specs.Leads.{Leads}
use Rattle.kn_refinement.specs.Shown.{front_if, link_of, shown}
use Rattle.kn_refinement.proofs.FitsAgents.{AgentKept}
use Rattle.kn_refinement.proofs.FitsClients.{ClientKept}
use Rattle.kn_refinement.proofs.FitsServer.{agent_fits, client_fits}
use Rattle.kn_refinement.proofs.LeadsFronts.{own_stream}
use Rattle.kn_refinement.proofs.LeadsLinks.{known_changed, links_known, quiet_step}
use Rattle.kn_refinement.proofs.ServerReached.{server_leads}
use Rattle.kn_refinement.proofs.ShownChanges.{agent_changed, client_changed}
use Rattle.kn_turns.specs.Losses.{front_gone, gone_at_server, loses_front, loses_link}

pub take_of_none : (n : ℕ) (ps : List Packet) → ps ≡ [] → take n ps ≡ []
take_of_none zero ps e = refl
take_of_none (suc n) ps e = ap (λ qs. take (suc n) qs) e

-- ---- a link
gone_kept : (left l : ℕ) (a : Agent) → AgentKept l a (gone_at_server left a)
gone_kept left l a = record { core = refl; at_agent = refl; connections = refl; dry = λ h e. refl }

lost_link : (s : State) (l left : ℕ) (a : Agent) → nth l s.agents ≡ Some a → a.at_server ≡ true → Fits s → Keys (shown s) → Leads s (loses_link l left s)
lost_link s l left a there up fits keys = server_leads s (record s { agents = change (gone_at_server left) l s.agents }) (ServerLosesLink l (take left a.down)) 0 (LinkLost l)
    (agent_fits s (gone_at_server left) l (λ b. gone_kept left l b) fits) keys.server.orderly (known_changed s (gone_at_server left) l (λ b. gone_kept left l b) (links_known s keys)) tt
    (quiet_step (LinkLost l) 0 (record s { agents = change (gone_at_server left) l s.agents }) (λ front protocol address random e. cc) (λ f h. h))
    (present, (drop left a.down, take-append-drop left a.down ∙ sym (ap (λ o. (link_of o).down) there)))
    (ap (server_does (LinkLost l)) (agent_changed s l a (gone_at_server left)
    (λ b x. record x { server = cond b Gone x.server; up = cond b [] x.up; down = cond b (take left a.down) x.down }) there (λ b. refl) (λ x. refl) refl))
  where
    present : is_present (link_of (nth l s.agents)).server ≡ true
    present = ap (λ o. is_present (link_of o).server) there ∙ here a.at_server up
      where
        here : (b : Bool) → b ≡ true → is_present (link_of (Some (record a { at_server = b }))).server ≡ true
        here true e = refl
        here false e = absurd cc

pub link_turn : (l left : ℕ) (s : State) → idle.has_link l s ≡ true → Fits s → Keys (shown s) → Leads s (loses_link l left s)
link_turn l left s up fits keys = here (nth l s.agents) refl up
  where
    here : (o : Option Agent) → nth l s.agents ≡ o → there_and (λ a. a.at_server) o ≡ true → Leads s (loses_link l left s)
    here None e h = absurd cc
    here (Some a) e h = lost_link s l left a e h fits keys

-- ---- a front
front_kept : (left c : ℕ) (x : Client) → ClientKept c x (front_gone left x)
front_kept left c x = record { core = refl; front = refl; at_client = refl; apps = refl; up_dry = λ h g. refl; down_dry = λ h e. take_of_none left x.down (h e) }

lost_front : (s : State) (c left : ℕ) (x : Client) → nth c s.clients ≡ Some x → x.at_server ≡ true → Fits s → Keys (shown s) → Leads s (step 0 (FrontLost x.front) (record s { clients = change (front_gone left) c s.clients }))
lost_front s c left x there up fits keys = server_leads s (record s { clients = change (front_gone left) c s.clients }) (ServerLosesFront x.front (take left x.down)) 0 (FrontLost x.front)
    (client_fits s (front_gone left) c (λ y. front_kept left c y) fits) keys.server.orderly (links_known s keys) tt
    (quiet_step (FrontLost x.front) 0 (record s { clients = change (front_gone left) c s.clients }) (λ front protocol address random e. cc) (λ f h. h)) (
      ap (λ (v : WorldStream). v.begun && not (is_gone v.front)) (own_stream s c x fits there) ∙ here x.at_server up,
      (drop left x.down, take-append-drop left x.down ∙ sym (ap (λ (v : WorldStream). v.down) (own_stream s c x fits there))),
    )
    (ap (server_does (FrontLost x.front)) (client_changed s c x (front_gone left)
    (λ b y. record y { front = cond b Gone y.front; up = cond b [] y.up; down = cond b (take left x.down) y.down }) fits there (λ y. refl) (λ y. refl) (λ y. refl) refl))
  where
    here : (b : Bool) → b ≡ true → not (is_gone (front_if b)) ≡ true
    here true e = refl
    here false e = absurd cc

pub front_turn : (c left : ℕ) (s : State) → idle.has_front c s ≡ true → Fits s → Keys (shown s) → Leads s (loses_front c left s)
front_turn c left s up fits keys = here (nth c s.clients) refl up
  where
    here : (o : Option Client) → nth c s.clients ≡ o → there_and (λ x. x.at_server) o ≡ true → Leads s (loses_front c left s)
    here None e h = absurd cc
    here (Some x) e h = subst (λ o. Leads s (step 0 (FrontLost (clients.front_of o)) (record s { clients = change (front_gone left) c s.clients }))) (sym e) (lost_front s c left x e h fits keys)
