-- The server takes the first packet of a link, or an agent the first of the server, and nothing settles behind it.
use Rattle.std.proofs.Common.{◌≡◌, ℕ, pos, List, [], ◌∷◌, Option, None, Some, refl, sym, ap, ◌∙◌, subst}
use Rattle.kn_packet.specs.declared.packet.Packet.{Packet}
use Rattle.kn_packet.specs.declared.packet.Packet.TheVariants.{CloseReq, CloseRsp, Data, DialCls, DialReq, DialRsp, Drain, Other}
use Rattle.kn_server_core.specs.Isolation.{Each}
use Rattle.kn_edge_core.specs.declared.agent_event.AgentEvent.TheVariants as event
use Rattle.kn_packets.specs.Keys.{Keys, MakesDial, RequestFits}
use Rattle.kn_world.specs.declared.parts.Agent.{Agent}
use Rattle.kn_world.specs.declared.state.State.{State}
use Rattle.kn_world.specs.Agents as agents
use Rattle.kn_world.specs.AgentSteps.{either}
use Rattle.kn_world.specs.Dials as dials
use Rattle.kn_world.specs.Numbers.{change, first_of, nth, rest_of}
use Rattle.kn_refinement.specs.Fits.{Fits}
use Rattle.kn_refinement.specs.Leads.{Leads}
use Rattle.kn_refinement.specs.Shown.{link_of, shown}
use Rattle.kn_refinement.proofs.AgentDials.{stays}
use Rattle.kn_refinement.proofs.AgentDoes.{Does}
use Rattle.kn_refinement.proofs.AgentTakes.{closes, data_does, either_none, first_leads, ignores, request_does}
use Rattle.kn_refinement.proofs.Changes.{change_kept}
use Rattle.kn_refinement.proofs.LeadsLinks.{no_up_leads, up_leads}
use Rattle.kn_refinement.proofs.NumberLemmas.{nth_none}
use Rattle.kn_turns.specs.Notes.{takes_down, takes_up, took_down, took_up}

-- ---- the server
pub up_turn : (link : ℕ) (s : State) → Fits s → Keys (shown s) → Leads s (takes_up link s)
up_turn link s fits keys = here (agents.first_up (nth link s.agents)) refl
  where
    here : (o : Option Packet) → agents.first_up (nth link s.agents) ≡ o → Leads s (took_up o link (record s { agents = change agents.rest_up link s.agents }))
    here None e = no_up_leads s link fits keys e
    here (Some p) e = up_leads s link fits keys p e

-- ---- an agent, by its packet
took_leads : (s : State) (link : ℕ) → Fits s → Keys (shown s) → (a : Agent) → nth link s.agents ≡ Some a → (p : Packet) (rest : List Packet) → a.down ≡ p ∷ rest → Leads s (took_down (Some p) link (record s { agents = change agents.rest_down link s.agents }))
took_leads s link fits keys a there (DialReq protocol address random) rest down =
    let all : Each (RequestFits (shown s) link) (DialReq protocol address random ∷ rest) = subst (λ ps. Each (RequestFits (shown s) link) ps) (ap (λ o. (link_of o).down) there ∙ down) (keys.agents.requests link) in
    let made : MakesDial (shown s) link random = all.0 in
    let down_d : a.down ≡ DialReq protocol address (pos made.dial) ∷ rest = down ∙ ap (λ z. DialReq protocol address z ∷ rest) made.asked in
    subst (λ z. Leads s (took_down (Some (DialReq protocol address z)) link (record s { agents = change agents.rest_down link s.agents }))) (sym made.asked)
    (first_leads s link fits keys a there (DialReq protocol address (pos made.dial)) rest down_d (either made.dial 0)
    (subst (λ n. Does (record s { agents = change agents.rest_down link s.agents; dials = change dials.requested made.dial s.dials }) link n (event.Packet (DialReq protocol address (pos made.dial)))) (sym (either_none made.dial))
    (request_does s link fits keys a there protocol address made.dial rest down_d made.on)))
took_leads s link fits keys a there (Data z error bytes) rest down = first_leads s link fits keys a there (Data z error bytes) rest down _ (data_does s link fits keys a there z error bytes rest down)
took_leads s link fits keys a there (CloseReq z) rest down = first_leads s link fits keys a there (CloseReq z) rest down _ (closes s link fits keys a there (CloseReq z) rest down _ z refl)
took_leads s link fits keys a there (DialRsp error c random) rest down = first_leads s link fits keys a there (DialRsp error c random) rest down _ (ignores s link fits keys a there (DialRsp error c random) rest down _ refl)
took_leads s link fits keys a there (CloseRsp error c) rest down = first_leads s link fits keys a there (CloseRsp error c) rest down _ (ignores s link fits keys a there (CloseRsp error c) rest down _ refl)
took_leads s link fits keys a there (DialCls random) rest down = first_leads s link fits keys a there (DialCls random) rest down _ (ignores s link fits keys a there (DialCls random) rest down _ refl)
took_leads s link fits keys a there Drain rest down = first_leads s link fits keys a there Drain rest down _ (ignores s link fits keys a there Drain rest down _ refl)
took_leads s link fits keys a there (Other number) rest down = first_leads s link fits keys a there (Other number) rest down _ (ignores s link fits keys a there (Other number) rest down _ refl)

pub down_turn : (link : ℕ) (s : State) → Fits s → Keys (shown s) → Leads s (takes_down link s)
down_turn link s fits keys = here (nth link s.agents) refl
  where
    first : (a : Agent) → nth link s.agents ≡ Some a → (ps : List Packet) → a.down ≡ ps → Leads s (took_down (first_of ps) link (record s { agents = change agents.rest_down link s.agents }))
    first a h [] down = stays s (record s { agents = change agents.rest_down link s.agents }) fits (ap (λ xs. record s { agents = xs }) (change_kept agents.rest_down link s.agents a h (ap (λ ps. record a { down = rest_of ps }) down ∙ ap (λ ps. record a { down = ps }) (sym down))))
    first a h (p ∷ rest) down = took_leads s link fits keys a h p rest down

    here : (o : Option Agent) → nth link s.agents ≡ o → Leads s (took_down (agents.first_down o) link (record s { agents = change agents.rest_down link s.agents }))
    here None h = stays s (record s { agents = change agents.rest_down link s.agents }) fits (ap (λ xs. record s { agents = xs }) (nth_none agents.rest_down link s.agents h))
    here (Some a) h = first a h a.down refl
