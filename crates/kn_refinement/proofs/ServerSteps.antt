-- Every event of the server of the running world, as it is shown.
use Rattle.std.proofs.Common.{◌≡◌, ◌+◌, ℕ, ℤ, suc, pos, List, [], ◌∷◌, length, Some, inl, inr, refl, sym, ap, ◌∙◌, subst, arith}
use Rattle.kn_packet.specs.declared.packet.Packet.TheVariants.{DialReq}
use Rattle.kn_server_core.specs.Isolation.{Each, IsOrderly}
use Rattle.kn_server_core.specs.Server as core
use Rattle.kn_server_core.specs.Steps.{Step}
use Rattle.kn_server_core.specs.declared.event.ServerEvent.{ServerEvent}
use Rattle.kn_server_core.specs.declared.event.ServerOut.{ServerOut}
use Rattle.kn_server_core.specs.declared.event.ServerOut.TheVariants.{CutLink, Made, ToFront, ToLink}
use Rattle.kn_packets.specs.Moves.{asked_by, server_does}
use Rattle.kn_world.specs.declared.state.State.{State}
use Rattle.kn_world.specs.Numbers.{nth}
use Rattle.kn_world.specs.ServerSteps.{step, stepped}
pub use Rattle.kn_refinement.specs.Asking.{AsksFor, LinksKnown}
use Rattle.kn_refinement.specs.Fits.{Fits}
use Rattle.kn_refinement.specs.Settled.{settled}
use Rattle.kn_refinement.specs.Shown.{number_if, shown}
use Rattle.kn_refinement.proofs.ServerAsks.{AskedAt}
use Rattle.kn_refinement.proofs.ServerDials.{IsNoDial}
use Rattle.kn_refinement.proofs.ServerLinks.{NamesAgent}
use Rattle.kn_refinement.proofs.ServerRules.{IsDrawn, IsRuled, ruled}
use Rattle.kn_refinement.proofs.ServerShown.{IsAsked, Told, gives_shown}
use Rattle.kn_refinement.proofs.ServerTurns.{IsOnLink}

agents_named : (s : State) (os : List ServerOut) → LinksKnown s → Each (IsOnLink s.server.links) os → Each (NamesAgent s.agents) os
agents_named s [] known h = tt
agents_named s (ToLink link p ∷ os) known h = (known link h.0, agents_named s os known h.1)
agents_named s (CutLink link ∷ os) known h = (known link h.0, agents_named s os known h.1)
agents_named s (Made dial link front ∷ os) known h = (known link h.0, agents_named s os known h.1)
agents_named s (ToFront front p ∷ os) known h = (tt, agents_named s os known h.1)

none_asked : (s : State) (random : ℤ) (app : ℕ) (os : List ServerOut) → Each IsNoDial os → Each (IsAsked s.fronts s.clients random app) os
none_asked s random app [] h = tt
none_asked s random app (ToLink link p ∷ os) h = (tt, none_asked s random app os h.1)
none_asked s random app (CutLink link ∷ os) h = (tt, none_asked s random app os h.1)
none_asked s random app (Made dial link front ∷ os) h = absurd h.0
none_asked s random app (ToFront front p ∷ os) h = (tt, none_asked s random app os h.1)

pub next_is : (s : State) → Fits s → s.server.next_dial ≡ suc (length s.dials)
next_is s fits = fits.next_dial ∙ one (length s.dials)
  where
    one : (n : ℕ) → n + 1 ≡ suc n
    one n = omega arith

drawn_told : (s : State) (app : ℕ) (event : ServerEvent) (t : Step) → Fits s → LinksKnown s → AsksFor event app s → IsDrawn s.server event t → Told s (asked_by event) app t.outs
drawn_told s app event t fits known asks drawn =
    let here : AskedAt (nth drawn.front s.fronts) drawn.random app s.clients = subst (λ e. AsksFor e app s) drawn.event_is asks in
    let o = fits.fronts.known drawn.front drawn.front_up in
    let asked : AskedAt (Some o.0) drawn.random app s.clients = subst (λ x. AskedAt x drawn.random app s.clients) o.1 here in
    let number : number_if s.server.next_dial ≡ Some s.server.next_dial = subst (λ n. number_if n ≡ Some n) (sym (next_is s fits)) refl in
    let by : asked_by event ≡ drawn.random = ap asked_by drawn.event_is in
    subst (λ os. Told s (asked_by event) app os) (sym drawn.outs) (subst (λ random. Told s random app (Made s.server.next_dial drawn.link drawn.front ∷ ToLink drawn.link (DialReq drawn.protocol drawn.address (pos s.server.next_dial)) ∷ [])) (sym by) (record {
      agents = (known drawn.link drawn.link_up, (known drawn.link drawn.link_up, tt));
      makes = inr (drawn.link, drawn.front, DialReq drawn.protocol drawn.address (pos s.server.next_dial), ap (λ n. Made n drawn.link drawn.front ∷ ToLink drawn.link (DialReq drawn.protocol drawn.address (pos s.server.next_dial)) ∷ []) (next_is s fits));
      asked = (((o.0, o.1, asked), number), (tt, tt));
      in_turn = λ f. tt;
    }))

step_told : (s : State) (app : ℕ) (event : ServerEvent) (t : Step) → Fits s → LinksKnown s → AsksFor event app s → IsRuled s.server event t → Told s (asked_by event) app t.outs
step_told s app event t fits known asks (inl calm) = record {
  agents = agents_named s t.outs known calm.outs.on_links;
  makes = inl calm.outs.undrawn;
  asked = none_asked s (asked_by event) app t.outs calm.outs.undrawn;
  in_turn = calm.outs.in_turn;
}
step_told s app event t fits known asks (inr drawn) = drawn_told s app event t fits known asks drawn

pub server_shown : (s : State) (app : ℕ) (event : ServerEvent) → Fits s → IsOrderly s.server → LinksKnown s → AsksFor event app s
    → shown (step app event s) ≡ settled (server_does event (shown s))
server_shown s app event fits orderly known asks =
    gives_shown s (asked_by event) app (core.step s.server event) (stepped app event s).choices fits (step_told s app event (core.step s.server event) fits known asks (ruled s.server event orderly))
