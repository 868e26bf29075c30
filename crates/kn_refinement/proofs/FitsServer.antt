-- A step of the server leaves what fits.
use Rattle.std.proofs.Common.{◌≡◌, ◌==◌, ◌++◌, ◌+◌, ◌⊎◌, ℕ, ℤ, zero, suc, pos, Bool, true, false, List, [], ◌∷◌, length, Option, Some, None, inl, inr, refl, sym, ap, ◌∙◌, subst, eqb-true, arith}
use Rattle.kn_packet.specs.declared.packet.Packet.{Packet}
use Rattle.kn_packet.specs.declared.packet.Packet.TheVariants.{DialReq}
use Rattle.kn_server_core.specs.FrontLists.{is_up}
use Rattle.kn_server_core.specs.Isolation.{Each, IsOrderly}
use Rattle.kn_server_core.specs.Server as core
use Rattle.kn_server_core.specs.declared.event.ServerEvent.{ServerEvent}
use Rattle.kn_server_core.specs.declared.event.ServerEvent.TheVariants.{FrontPacket}
use Rattle.kn_server_core.specs.declared.event.ServerOut.{ServerOut}
use Rattle.kn_server_core.specs.declared.event.ServerOut.TheVariants as out
use Rattle.kn_server_core.specs.declared.state.State.{State as ServerState}
use Rattle.kn_world.specs.declared.parts.Agent.{Agent}
use Rattle.kn_world.specs.declared.parts.App.{App}
use Rattle.kn_world.specs.declared.parts.AppChoice.{AppChoice}
use Rattle.kn_world.specs.declared.parts.Client.{Client}
use Rattle.kn_world.specs.declared.parts.Dial.{Dial}
use Rattle.kn_world.specs.declared.parts.Owner.{Owner}
use Rattle.kn_world.specs.declared.parts.Owner.TheVariants as owner
use Rattle.kn_world.specs.declared.state.State.{State}
use Rattle.kn_world.specs.Agents as agents
use Rattle.kn_world.specs.Apps as apps
use Rattle.kn_world.specs.Clients as clients
use Rattle.kn_world.specs.Numbers.{change, nth}
use Rattle.kn_world.specs.ServerSteps.{gives, gives_all, made, step, stepped, to_owner}
use Rattle.kn_world.specs.States.{new_dial}
use Rattle.kn_refinement.specs.Fits.{AskedFits, Fits}
use Rattle.kn_refinement.proofs.Changes.{changed_other, changed_own}
use Rattle.kn_refinement.proofs.FitsAgents as agent
use Rattle.kn_refinement.proofs.FitsAgents.{agents_fit, agents_kept, dial_more_fits}
use Rattle.kn_refinement.proofs.FitsClients as client
use Rattle.kn_refinement.proofs.FitsClients.{AppKept, app_same, apps_of_clients_fit, apps_of_fronts_fit, clients_fit, clients_kept, fronts_of_clients_fit, fronts_up_fit}
use Rattle.kn_refinement.proofs.FitsHeard.{MayHaveDial, dial_fits, heard_fits, heard_kept}
use Rattle.kn_refinement.proofs.Pairs.{Paired, came_or_was, paired_change, some_is}
use Rattle.kn_refinement.proofs.ServerDials.{IsNoDial}
use Rattle.kn_refinement.proofs.ServerLinks.{HasAgent}
use Rattle.kn_refinement.proofs.ServerRules.{ComesUp, IsDrawn, IsRuled, ruled, still_up}
use Rattle.kn_refinement.proofs.ServerSteps.{LinksKnown, next_is}
use Rattle.kn_refinement.proofs.NumberLemmas.{length_more}

-- ---- one output that makes no dial
pub asked_fit : (ds : List Dial) (old new : List App) → Paired (λ k a b. b.dial ≡ a.dial) old new → AskedFits ds old → AskedFits ds new
asked_fit ds old new pairs fits = record { asker = λ d x h. let w = fits.asker d x h in let z = pairs.later x.app w.0 w.1 in (z.0, z.1, z.2 ∙ w.2) }

pub agent_fits : (s : State) (f : Agent → Agent) (l : ℕ) → ((a : Agent) → agent.AgentKept l a (f a)) → Fits s → Fits (record s { agents = change f l s.agents })
agent_fits s f l kept fits = record {
  asked = fits.asked;
  agents = agents_fit s.agents (change f l s.agents) s.dials (agents_kept f l s.agents kept) fits.agents;
  clients = fits.clients;
  fronts = fits.fronts;
  next_dial = fits.next_dial;
}

pub client_fits : (s : State) (f : Client → Client) (c : ℕ) → ((x : Client) → client.ClientKept c x (f x)) → Fits s → Fits (record s { clients = change f c s.clients })
client_fits s f c kept fits = record {
  asked = fits.asked;
  agents = fits.agents;
  clients = clients_fit s.clients (change f c s.clients) s.apps (clients_kept f c s.clients kept) fits.clients;
  fronts = fronts_of_clients_fit s.clients (change f c s.clients) s.apps s.fronts s.server.fronts (clients_kept f c s.clients kept) fits.fronts;
  next_dial = fits.next_dial;
}

heard_app_fits : (s : State) (p : Packet) (front k : ℕ) → nth front s.fronts ≡ Some (owner.App k) → Fits s → Fits (record s { apps = change (apps.heard p) k s.apps })
heard_app_fits s p zero k e fits = absurd cc
heard_app_fits s p (suc n) k e fits = record {
  asked = asked_fit s.dials s.apps (change (apps.heard p) k s.apps) (paired_change (λ j a b. b.dial ≡ a.dial) (apps.heard p) k s.apps (λ j a h. refl) (λ a h. (heard_kept p a).dial)) fits.asked;
  agents = fits.agents;
  clients = apps_of_clients_fit s.clients s.apps (change (apps.heard p) k s.apps) pairs fits.clients;
  fronts = apps_of_fronts_fit s.clients s.apps (change (apps.heard p) k s.apps) s.fronts s.server.fronts pairs fits.fronts;
  next_dial = fits.next_dial;
}
  where
    own : (a : App) → nth k s.apps ≡ Some a → AppKept s.clients k a (apps.heard p a)
    own a h =
        let w = fits.fronts.of_app (suc n) k e in
        let z : a ≡ w.0 = some_is (sym h ∙ w.1) in
        heard_fits s.clients k n a p (ap (λ (v : App). v.home) z ∙ w.2) (ap (λ (v : App). v.door.number) z ∙ w.3)

    pairs : Paired (AppKept s.clients) s.apps (change (apps.heard p) k s.apps)
    pairs = paired_change (AppKept s.clients) (apps.heard p) k s.apps (λ j a h. app_same s.clients j a) own

owner_fits : (s : State) (p : Packet) (front : ℕ) (o : Option Owner) → nth front s.fronts ≡ o → Fits s → Fits (to_owner o p s)
owner_fits s p front None e fits = fits
owner_fits s p front (Some (owner.Client c)) e fits = client_fits s (clients.queued_down p) c (λ x. client.down_kept p c x) fits
owner_fits s p front (Some (owner.App k)) e fits = heard_app_fits s p front k e fits

pub one_fits : (o : ServerOut) (app : ℕ) (s : State) → IsNoDial o → Fits s → Fits (gives o app s)
one_fits (out.ToLink link p) app s h fits = agent_fits s (agents.queued_down p) link (λ a. agent.down_kept p link a) fits
one_fits (out.CutLink link) app s h fits = agent_fits s agents.cut_off link (λ a. agent.cut_kept link a) fits
one_fits (out.ToFront front p) app s h fits = owner_fits s p front (nth front s.fronts) refl fits
one_fits (out.Made dial link front) app s h fits = absurd h

all_fit : (os : List ServerOut) (app : ℕ) (s : State) → Each IsNoDial os → Fits s → Fits (gives_all os app s)
all_fit [] app s h fits = fits
all_fit (o ∷ os) app s h fits = all_fit os app (gives o app s) h.1 (one_fits o app s h.0 fits)

-- ---- the server's own state
server_fits : (s : State) (t : ServerState) (choices : List AppChoice) → t.next_dial ≡ s.server.next_dial → ((f : ℕ) → is_up f t.fronts ≡ true → (o : Owner) × (nth f s.fronts ≡ Some o)) → Fits s → Fits (record s { server = t; choices = choices })
server_fits s t choices same known fits = record {
  asked = fits.asked;
  agents = fits.agents;
  clients = fits.clients;
  fronts = fronts_up_fit s.clients s.apps s.fronts s.server.fronts t.fronts fits.fronts known;
  next_dial = same ∙ fits.next_dial;
}

-- ---- a dial is made
pub plus_one : (n : ℕ) → n + 1 ≡ suc n
plus_one n = omega arith

made_fits : (s : State) (t : ServerState) (choices : List AppChoice) (link app : ℕ) (a : App) → t.next_dial ≡ s.server.next_dial + 1 → ((f : ℕ) → is_up f t.fronts ≡ true → (o : Owner) × (nth f s.fronts ≡ Some o))
    → HasAgent s.agents link → nth app s.apps ≡ Some a → MayHaveDial s.clients a → Fits s → Fits (made s.server.next_dial link app (record s { server = t; choices = choices }))
made_fits s t choices link app a next known linked there may fits = record {
  asked = record { asker = asker };
  agents = dial_more_fits s.agents s.dials link app linked.0 linked.1 fits.agents;
  clients = apps_of_clients_fit s.clients s.apps (change (apps.with_dial s.server.next_dial) app s.apps) pairs fits.clients;
  fronts = fronts_up_fit s.clients (change (apps.with_dial s.server.next_dial) app s.apps) s.fronts s.server.fronts t.fronts
      (apps_of_fronts_fit s.clients s.apps (change (apps.with_dial s.server.next_dial) app s.apps) s.fronts s.server.fronts pairs fits.fronts) known;
  next_dial = next ∙ ap (λ n. n + 1) (next_is s fits ∙ sym (length_more s.dials (new_dial link app)));
}
  where
    pairs : Paired (AppKept s.clients) s.apps (change (apps.with_dial s.server.next_dial) app s.apps)
    pairs = paired_change (AppKept s.clients) (apps.with_dial s.server.next_dial) app s.apps (λ j b h. app_same s.clients j b)
        (λ b h. dial_fits s.clients app s.server.next_dial b (subst (λ x. MayHaveDial s.clients x) (some_is (sym there ∙ h)) may))

    asker : (d : ℕ) (x : Dial) → nth d (s.dials ++ new_dial link app ∷ []) ≡ Some x → (b : App) × (nth x.app (change (apps.with_dial s.server.next_dial) app s.apps) ≡ Some b) × (b.dial ≡ d)
    asker d x h = at (came_or_was s.dials (new_dial link app) d x h)
      where
        other : (b : Bool) → (x.app == app) ≡ b → nth d s.dials ≡ Some x → (c : App) × (nth x.app (change (apps.with_dial s.server.next_dial) app s.apps) ≡ Some c) × (c.dial ≡ d)
        other true e i =
            let w = fits.asked.asker d x i in
            let z : w.0 ≡ a = some_is (sym w.1 ∙ ap (λ n. nth n s.apps) (eqb-true x.app app e) ∙ there) in
            let none : 0 ≡ d = sym may.undialled ∙ sym (ap (λ (v : App). v.dial) z) ∙ w.2 in
            let gone : None ≡ Some x = ap (λ n. nth n s.dials) none ∙ i in absurd cc
        other false e i = let w = fits.asked.asker d x i in (w.0, changed_other (apps.with_dial s.server.next_dial) app x.app s.apps e ∙ w.1, w.2)

        at : ((d ≡ suc (length s.dials)) × (x ≡ new_dial link app)) ⊎ (nth d s.dials ≡ Some x) → (b : App) × (nth x.app (change (apps.with_dial s.server.next_dial) app s.apps) ≡ Some b) × (b.dial ≡ d)
        at (inl (i, e)) = (
          apps.with_dial s.server.next_dial a,
          ap (λ (y : Dial). nth y.app (change (apps.with_dial s.server.next_dial) app s.apps)) e ∙ changed_own (apps.with_dial s.server.next_dial) app s.apps a there,
          next_is s fits ∙ sym i,
        )
        at (inr i) = other (x.app == app) refl i

-- ---- a step of the server: the app that asks for a dial may have one, and a front that comes up is someone's
pub record MayStep (event : ServerEvent) (app : ℕ) (s : State) : Type 0 where
  pub asks : (front : ℕ) (protocol address : List ℕ) (random : ℤ) → event ≡ FrontPacket front (DialReq protocol address random) → (a : App) × (nth app s.apps ≡ Some a) × MayHaveDial s.clients a
  pub comes : (f : ℕ) → ComesUp f event → (o : Owner) × (nth f s.fronts ≡ Some o)

pub step_fits : (s : State) (app : ℕ) (event : ServerEvent) → Fits s → IsOrderly s.server → LinksKnown s → MayStep event app s → Fits (step app event s)
step_fits s app event fits orderly linked may = by (ruled s.server event orderly)
  where
    known : (f : ℕ) → is_up f (core.step s.server event).state.fronts ≡ true → (o : Owner) × (nth f s.fronts ≡ Some o)
    known f h = at (still_up s.server event f h)
      where
        at : (is_up f s.server.fronts ≡ true) ⊎ ComesUp f event → (o : Owner) × (nth f s.fronts ≡ Some o)
        at (inl e) = fits.fronts.known f e
        at (inr e) = may.comes f e

    drawn_fits : IsDrawn s.server event (core.step s.server event) → Fits (step app event s)
    drawn_fits drawn =
        let asking = may.asks drawn.front drawn.protocol drawn.address drawn.random drawn.event_is in
        subst (λ os. Fits (gives_all os app (stepped app event s))) (sym drawn.outs)
        (one_fits (out.ToLink drawn.link (DialReq drawn.protocol drawn.address (pos s.server.next_dial))) app (made s.server.next_dial drawn.link app (stepped app event s)) tt
        (made_fits s (core.step s.server event).state (stepped app event s).choices drawn.link app asking.0 drawn.next known (linked drawn.link drawn.link_up) asking.1 asking.2 fits))

    by : IsRuled s.server event (core.step s.server event) → Fits (step app event s)
    by (inl calm) = all_fit (core.step s.server event).outs app (stepped app event s) calm.outs.undrawn (server_fits s (core.step s.server event).state (stepped app event s).choices calm.next known fits)
    by (inr drawn) = drawn_fits drawn
