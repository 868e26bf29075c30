-- A step of the server leads by moves: the server's own, and then those by which each CONNECT app takes what came for it.
use Rattle.std.proofs.Common.{◌≡◌, ◌==◌, ℕ, zero, suc, Bool, true, false, not, cond, ◌∷◌, length, Option, Some, None, inl, inr, refl, sym, ap, ◌∙◌, subst, arith}
use Rattle.std.proofs.lemmas.Bool.{ne_eqb}
use Rattle.kn_route.specs.LinkLists.{has_link}
use Rattle.kn_server_core.specs.Isolation.{IsOrderly}
use Rattle.kn_server_core.specs.declared.event.ServerEvent.{ServerEvent}
use Rattle.kn_server_core.specs.declared.state.State.{State as ServerState}
use Rattle.kn_tunnel.specs.Kinds.{is_gone, is_present}
use Rattle.kn_packets.specs.Keys.{Keys}
use Rattle.kn_packets.specs.Moves.{Makes, May, Move, after, no_app, server_does}
use Rattle.kn_packets.specs.World.{World}
use Rattle.kn_packets.proofs.Taken.{and_first, and_second}
use Rattle.kn_world.specs.declared.parts.Agent.{Agent}
use Rattle.kn_world.specs.declared.parts.App.{App}
use Rattle.kn_world.specs.declared.parts.Client.{Client}
use Rattle.kn_world.specs.declared.parts.Home.TheVariants as home
use Rattle.kn_world.specs.declared.parts.Owner.{Owner}
use Rattle.kn_world.specs.declared.parts.Owner.TheVariants as owner
use Rattle.kn_world.specs.declared.parts.Stage.{Stage}
use Rattle.kn_world.specs.declared.parts.Stage.TheVariants as stage
use Rattle.kn_world.specs.declared.state.State.{State}
use Rattle.kn_world.specs.Numbers.{nth}
use Rattle.kn_world.specs.ServerSteps.{step}
use Rattle.kn_world.specs.Idle.{is_at_door}
use Rattle.kn_refinement.specs.Fits.{Fits, HasLeft, IsPast}
use Rattle.kn_refinement.specs.Leads.{Leads}
use Rattle.kn_refinement.specs.Settled.{settled, takes}
use Rattle.kn_refinement.specs.Shown.{app_at_home, app_of, client_stream, connect_app, connect_stream, front_if, link_of, shown, stream_of}
use Rattle.kn_refinement.proofs.FitsServer.{MayStep, step_fits}
use Rattle.kn_refinement.proofs.NumberLemmas.{nth_within}
use Rattle.kn_refinement.proofs.ServerSteps.{AsksFor, LinksKnown, server_shown}
use Rattle.kn_refinement.proofs.SettledAll.{Pending, Ready, settles_by_moves}
use Rattle.kn_refinement.proofs.SettledRuns.{Reaches}

module _ (s : State) (fits : Fits s) where
  no_client : (c : ℕ) (o : Option Client) → takes (client_stream c o) ≡ true → ⊥
  no_client c None t = absurd cc
  no_client c (Some x) t = absurd cc

  -- an app by CONNECT that still takes has its front at the server
  connected : (a : App) (at_server : Bool) → a.door.at_server ≡ at_server → takes (connect_stream 0 (Some a)) ≡ true → (a.door.at_server ≡ false → IsPast a) → is_gone (front_if a.door.at_server) ≡ false
  connected a true e t gone = ap (λ b. is_gone (front_if b)) e
  connected a false e t gone = here (gone e)
    where
      left : (s : Stage) → HasLeft s → is_at_door s ≡ false
      left stage.Refused h = refl
      left stage.Ended h = refl
      left stage.Dialling (inl h) = absurd cc
      left stage.Dialling (inr h) = absurd cc
      left stage.Open (inl h) = absurd cc
      left stage.Open (inr h) = absurd cc

      here : IsPast a → is_gone (front_if a.door.at_server) ≡ false
      here (inr ends) = absurd (cc (and_second (is_at_door a.stage) (not a.door.closing) t, ends))
      here (inl h) = absurd (cc (and_first (is_at_door a.stage) (not a.door.closing) t, left a.stage h))

  numbered : (k : ℕ) (a : App) → nth k s.apps ≡ Some a → a.home ≡ home.Connect → (f : ℕ) → a.door.number ≡ f → (o : Owner) → nth f s.fronts ≡ Some o → a.door.at_server ≡ false → IsPast a
  numbered k a e h zero z o i gone = absurd cc
  numbered k a e h (suc n) z o i gone = (fits.fronts.gone k n a e h z gone).0

  not_none : (f : ℕ) (o : Owner) → nth f s.fronts ≡ Some o → (f == 0) ≡ false
  not_none zero o e = absurd cc
  not_none (suc n) o e = ne_eqb (suc n) zero (λ (i : suc n ≡ zero). omega (arith, i))

  present : (f : ℕ) (o : Option Owner) → nth f s.fronts ≡ o → takes (stream_of s.clients s.apps o) ≡ true → is_gone (stream_of s.clients s.apps o).front ≡ false
  present f None e t = absurd cc
  present f (Some (owner.Client c)) e t = absurd (no_client c (nth c s.clients) t)
  present f (Some (owner.App k)) e t =
      let y = fits.fronts.of_app f k e in
      ap (λ o. is_gone (connect_stream k o).front) y.1
      ∙ connected y.0 y.0.door.at_server refl (sym (ap (λ o. takes (connect_stream k o)) y.1) ∙ t) (numbered k y.0 y.1 y.2 f y.3 (owner.App k) e)

  own : (f : ℕ) (o : Option Owner) → nth f s.fronts ≡ o → takes (stream_of s.clients s.apps o) ≡ true → (app_of s.clients (nth (stream_of s.clients s.apps o).app s.apps)).stream ≡ f
  own f None e t = absurd cc
  own f (Some (owner.Client c)) e t = absurd (no_client c (nth c s.clients) t)
  own f (Some (owner.App k)) e t =
      let y = fits.fronts.of_app f k e in
      ap (λ o. (app_of s.clients (nth (connect_stream k o).app s.apps)).stream) y.1
      ∙ ap (λ o. (app_of s.clients o).stream) y.1
      ∙ ap (λ h. (app_at_home s.clients h y.0).stream) y.2
      ∙ ap (λ b. (cond b no_app (connect_app y.0)).stream) (ap (λ n. n == 0) y.3 ∙ not_none f (owner.App k) e)
      ∙ y.3

  pub ready_served : (event : ServerEvent) → Ready (server_does event (shown s))
  ready_served event = record {
    present = λ f t. present f (nth f s.fronts) refl t;
    own = λ f t. own f (nth f s.fronts) refl t;
  }

  pub pending_served : (event : ServerEvent) → Pending (suc (length s.fronts)) (server_does event (shown s))
  pending_served event f above t = absurd (here (nth f s.fronts) refl t)
    where
      here : (o : Option Owner) → nth f s.fronts ≡ o → takes (stream_of s.clients s.apps o) ≡ true → ⊥
      here None e t = absurd cc
      here (Some o) e t = omega (arith, nth_within f s.fronts o e, above)

-- a move that begins with a step of the server, in another world
pub server_reached : (old : World) (s : State) (m : Move) (app : ℕ) (event : ServerEvent) → Fits s → IsOrderly s.server → LinksKnown s → AsksFor event app s
    → May m old → after m old ≡ server_does event (shown s) → Reaches old (shown (step app event s))
server_reached old s m app event fits orderly known asks may same =
    let settles : Reaches (server_does event (shown s)) (settled (server_does event (shown s))) = settles_by_moves (suc (length s.fronts)) (server_does event (shown s)) (ready_served s fits event) (pending_served s fits event) in
    (m ∷ settles.0, (may, subst (λ v. Makes v settles.0 (shown (step app event s))) (sym same) (subst (λ v. Makes (server_does event (shown s)) settles.0 v) (sym (server_shown s app event fits orderly known asks)) settles.1)))

pub server_leads : (old s : State) (m : Move) (app : ℕ) (event : ServerEvent) → Fits s → IsOrderly s.server → LinksKnown s → AsksFor event app s → MayStep event app s
    → May m (shown old) → after m (shown old) ≡ server_does event (shown s) → Leads old (step app event s)
server_leads old s m app event fits orderly known asks may_step may same =
    let reached : Reaches (shown old) (shown (step app event s)) = server_reached (shown old) s m app event fits orderly known asks may same in
    record { fits = step_fits s app event fits orderly known may_step; moves = reached.0; made = reached.1 }

-- ---- what is known of the server by the facts on keys
pub links_known : (s : State) → Keys (shown s) → LinksKnown s
links_known s keys l up = here (nth l s.agents) refl (sym (keys.server.links_up l) ∙ up)
  where
    here : (o : Option Agent) → nth l s.agents ≡ o → is_present (link_of o).server ≡ true → (a : Agent) × (nth l s.agents ≡ Some a)
    here None e h = absurd cc
    here (Some a) e h = (a, e)

-- the agents, and the server, as they were in the world before
pub links_known_from : (old s : State) → s.agents ≡ old.agents → s.server ≡ old.server → Keys (shown old) → LinksKnown s
links_known_from old s agents server keys l up = let known = links_known old keys l (ap (λ (t : ServerState). has_link l t.links) (sym server) ∙ up) in (known.0, ap (nth l) agents ∙ known.1)

pub server_leads_from : (old s : State) (m : Move) (app : ℕ) (event : ServerEvent) → Fits s → s.agents ≡ old.agents → s.server ≡ old.server → AsksFor event app s → MayStep event app s
    → Keys (shown old) → May m (shown old) → after m (shown old) ≡ server_does event (shown s) → Leads old (step app event s)
server_leads_from old s m app event fits agents server asks may_step keys may same =
    server_leads old s m app event fits (subst IsOrderly (sym server) keys.server.orderly) (links_known_from old s agents server keys) asks may_step may same
