-- The server takes a packet of a link, and then what it kept of the app by CONNECT that the packet answers.
use Rattle.std.proofs.Common.{◌≡◌, ◌⊎◌, ℕ, List, Option, Some, None, inl, inr, refl, sym, ap, subst}
use Rattle.kn_packet.specs.declared.packet.Packet.{Packet}
use Rattle.kn_packet.specs.declared.packet.Packet.TheVariants.{CloseReq, CloseRsp, Data, DialCls, DialReq, DialRsp, Drain, Other}
use Rattle.kn_server_core.specs.declared.event.ServerEvent.TheVariants.{LinkPacket}
use Rattle.kn_packets.specs.Keys.{Keys}
use Rattle.kn_packets.proofs.Runs.{keys_go_on}
use Rattle.kn_world.specs.declared.parts.App.{App}
use Rattle.kn_world.specs.declared.parts.Dial.{Dial}
use Rattle.kn_world.specs.declared.parts.Home.{Home}
use Rattle.kn_world.specs.declared.parts.Home.TheVariants as home
use Rattle.kn_world.specs.declared.state.State.{State}
use Rattle.kn_world.specs.Agents as agents
use Rattle.kn_world.specs.Handing.{settles}
use Rattle.kn_world.specs.Numbers.{change, nth, number_of}
use Rattle.kn_world.specs.Pipes.{agent_up, at_server}
use Rattle.kn_world.specs.ServerPackets.{answered_by, app_of, if_at_connect, if_by_connect_of}
use Rattle.kn_world.specs.ServerSteps.{step}
use Rattle.kn_world.specs.Times.{times}
use Rattle.kn_refinement.specs.Fits.{Fits}
use Rattle.kn_refinement.specs.Leads.{Leads}
use Rattle.kn_refinement.specs.Shown.{shown}
use Rattle.kn_refinement.proofs.ConnectKept.{Has, Tied, step_tied}
use Rattle.kn_refinement.proofs.LeadsLinks.{no_up_leads, up_leads}
use Rattle.kn_refinement.proofs.Worlds.{leads_none, leads_then}

-- what an app by CONNECT does is proved elsewhere
abbrev pub ConnectSettles : Type 0
ConnectSettles = (s : State) (k : ℕ) (a : App) → Fits s → Keys (shown s) → nth k s.apps ≡ Some a → a.home ≡ home.Connect → Leads s (settles k s)

-- ---- a packet answers an app by CONNECT, or none
abbrev pub IsConnect : List App → ℕ → Type 0
IsConnect ks k = (k ≡ 0) ⊎ ((a : App) × (nth k ks ≡ Some a) × (a.home ≡ home.Connect))

connect_home : (ks : List App) (k : ℕ) (a : App) → nth k ks ≡ Some a → (h : Home) → a.home ≡ h → IsConnect ks (if_at_connect h k)
connect_home ks k a e home.Connect i = inr (a, e, i)
connect_home ks k a e (home.Client c n) i = inl refl

connect_app : (ks : List App) (k : ℕ) (o : Option App) → nth k ks ≡ o → IsConnect ks (if_by_connect_of o k)
connect_app ks k None e = inl refl
connect_app ks k (Some a) e = connect_home ks k a e a.home refl

connect_dial : (ks : List App) (o : Option Dial) → IsConnect ks (app_of o ks)
connect_dial ks None = inl refl
connect_dial ks (Some d) = connect_app ks d.app (nth d.app ks) refl

answered_connect : (p : Packet) (s : State) → IsConnect s.apps (answered_by p s)
answered_connect (DialRsp error connect_id random) s = connect_dial s.apps (nth (number_of random) s.dials)
answered_connect (DialReq protocol address random) s = inl refl
answered_connect (CloseReq connect_id) s = inl refl
answered_connect (CloseRsp error connect_id) s = inl refl
answered_connect (Data connect_id error bytes) s = inl refl
answered_connect (DialCls random) s = inl refl
answered_connect Drain s = inl refl
answered_connect (Other number) s = inl refl

-- where there is none, nothing settles
none_settles : (s : State) → settles 0 s ≡ s
unfolding times
none_settles s = refl

module _ (connects : ConnectSettles) where
  -- it is by CONNECT after the step too
  settled_leads : (l k : ℕ) (p : Packet) (s : State) → IsConnect s.apps k → Fits (step 0 (LinkPacket l p) s) → Keys (shown (step 0 (LinkPacket l p) s)) → Leads (step 0 (LinkPacket l p) s) (settles k (step 0 (LinkPacket l p) s))
  settled_leads l k p s (inl none) fits keys =
      subst (λ j. Leads (step 0 (LinkPacket l p) s) (settles j (step 0 (LinkPacket l p) s))) (sym none) (leads_none (step 0 (LinkPacket l p) s) (settles 0 (step 0 (LinkPacket l p) s)) (subst Fits (sym (none_settles (step 0 (LinkPacket l p) s))) fits) (ap shown (sym (none_settles (step 0 (LinkPacket l p) s)))))
  settled_leads l k p s (inr own) fits keys =
      let still : Has (Tied own.0.door.number) k (step 0 (LinkPacket l p) s).apps = step_tied own.0.door.number 0 (LinkPacket l p) k s (own.0, own.1, record { at_door = own.2; number = refl }) in
      connects (step 0 (LinkPacket l p) s) k still.0 fits keys still.1 still.2.at_door

  pub agent_up_leads : (l : ℕ) (s : State) → Fits s → Keys (shown s) → Leads s (agent_up l s)
  agent_up_leads l s fits keys = here (agents.first_up (nth l s.agents)) refl
    where
      here : (o : Option Packet) → agents.first_up (nth l s.agents) ≡ o → Leads s (at_server o l (record s { agents = change agents.rest_up l s.agents }))
      here None e = no_up_leads s l fits keys e
      here (Some p) e = leads_then keys_go_on s (step 0 (LinkPacket l p) (record s { agents = change agents.rest_up l s.agents }))
          (settles (answered_by p (record s { agents = change agents.rest_up l s.agents })) (step 0 (LinkPacket l p) (record s { agents = change agents.rest_up l s.agents }))) keys (up_leads s l fits keys p e)
          (λ fit key. settled_leads l (answered_by p (record s { agents = change agents.rest_up l s.agents })) p (record s { agents = change agents.rest_up l s.agents })
          (answered_connect p (record s { agents = change agents.rest_up l s.agents })) fit key)
