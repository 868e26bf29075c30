-- The first bytes of an app by CONNECT, until its head is whole or refused.
use Rattle.std.proofs.Common.{◌≡◌, ◌&&◌, ◌||◌, ◌++◌, ℕ, pos, suc, true, false, not, List, [], ◌∷◌, length, map, Some, refl, sym, ap, ◌∙◌, subst}
use Rattle.kn_server_core.specs.Isolation.{Each, IsOrderly}
use Rattle.kn_server_core.specs.Server.{front_added}
use Rattle.kn_server_core.specs.declared.event.ServerEvent.TheVariants.{FrontPacket, FrontUp}
use Rattle.kn_tunnel.specs.Tunnel.{Dialling, Present}
use Rattle.kn_packets.specs.Keys.{Keys}
use Rattle.kn_packets.specs.Moves.{Makes, May, after, server_does}
use Rattle.kn_packets.specs.Moves.Move.{ServerTakesIn}
use Rattle.kn_packets.specs.World.{World, WorldApp, WorldStream}
use Rattle.kn_packets.proofs.AgentKept.{each_more}
use Rattle.kn_world.specs.declared.parts.App.{App}
use Rattle.kn_world.specs.declared.parts.Home.TheVariants as home
use Rattle.kn_world.specs.declared.parts.Owner.{Owner}
use Rattle.kn_world.specs.declared.parts.Owner.TheVariants as owner
use Rattle.kn_world.specs.declared.parts.Stage.{Stage}
use Rattle.kn_world.specs.declared.parts.Stage.TheVariants as stage
use Rattle.kn_world.specs.declared.state.State.{State}
use Rattle.kn_world.specs.Apps as apps
use Rattle.kn_world.specs.Doors as door
use Rattle.kn_world.specs.Flows.{Passing, passed_on, with_more}
use Rattle.kn_world.specs.Handing.{settles}
use Rattle.kn_world.specs.Hearing.{head_came, head_came_as, request, with_owner}
use Rattle.kn_world.specs.Numbers.{change, nth}
use Rattle.kn_world.specs.ServerSteps.{step}
use Rattle.kn_world.specs.Idle.{is_at_door}
use Rattle.kn_refinement.specs.Asking.{AskedAt}
use Rattle.kn_refinement.specs.Fits.{Fits, IsDataOf, IsUnheard}
use Rattle.kn_refinement.specs.Leads.{Leads}
use Rattle.kn_refinement.specs.Shown.{connect_app, connect_phase, connect_side, connect_stream, is_refused, number_if, shown, unnumbered}
use Rattle.kn_refinement.proofs.Changes.{change_twice, changed_own}
use Rattle.kn_refinement.proofs.ConnectHeads.{IsHeaded, fits_headed, head_shown, hidden, unbegun}
use Rattle.kn_refinement.proofs.ConnectKept.{Has, Tied, step_has, step_tied}
use Rattle.kn_refinement.proofs.ConnectParts.{Same, fits_changed}
use Rattle.kn_refinement.proofs.ConnectRequests.{kept_as_one}
use Rattle.kn_refinement.proofs.ConnectServed.{plain_serves}
use Rattle.kn_refinement.proofs.ConnectSettles.{settles_tied}
use Rattle.kn_refinement.proofs.ConnectWorlds.{Reached, early_up, head_app, head_reached, head_side, head_stream, headed, may_take, takes_is}
use Rattle.kn_refinement.proofs.FitsServer.{step_fits}
use Rattle.kn_refinement.proofs.FitsHeard.{heard_kept}
use Rattle.kn_refinement.proofs.Pairs.{came_last, some_is}
use Rattle.kn_refinement.proofs.ServerReached.{links_known, server_reached}
use Rattle.kn_refinement.proofs.SettledRuns.{Reaches}
use Rattle.kn_refinement.proofs.Worlds.{KeysGoOn, apps_same, leads_then, makes_join, sides_same, streams_same}
use Rattle.kn_refinement.proofs.NumberLemmas.{length_more}

-- ---- an app whose head is whole
module _ (go : KeysGoOn) (s : State) (k : ℕ) (a : App) (fits : Fits s) (keys : Keys (shown s)) (there : nth k s.apps ≡ Some a) (at_door : a.home ≡ home.Connect) (number : a.door.number ≡ 0) (dialling : a.stage ≡ stage.Dialling) (target early rest : List ℕ) where
  abbrev f : ℕ
  f = suc (length s.fronts)

  old : IsUnheard a
  old = fits.fronts.unheard k a there at_door number

  abbrev plain : App → App
  plain x = apps.head_read f early rest x

  abbrev keeps : App → App
  keeps x = door.kept_some early (apps.head_read f early rest x)

  abbrev fronts : List Owner
  fronts = s.fronts ++ owner.App k ∷ []

  -- its front is the next
  plain_headed : IsHeaded f (plain a)
  plain_headed = record { at_door = at_door; number = refl; dial = old.dial; early = subst (λ ps. Each (IsDataOf 0) ps) (sym old.early) tt; stage = dialling; at_server = refl }

  keeps_headed : (bytes : List ℕ) → IsHeaded f (door.kept_some bytes (plain a))
  keeps_headed [] = plain_headed
  keeps_headed (x ∷ xs) = record {
    at_door = at_door;
    number = refl;
    dial = old.dial;
    early = each_more (IsDataOf 0) a.door.early (door.data_of a.dial (x ∷ xs)) (subst (λ ps. Each (IsDataOf 0) ps) (sym old.early) tt) (x ∷ xs, ap (λ d. door.data_of d (x ∷ xs)) old.dial);
    stage = dialling;
    at_server = refl;
  }

  -- ---- what is shown of it
  its_stream : (bytes : List ℕ) → connect_stream k (Some (door.kept_some bytes (plain a))) ≡ head_stream k Present (early_up bytes)
  its_stream bytes = by bytes
    where
      client_is : (is_at_door a.stage && not a.door.closing) ≡ true
      client_is = ap (λ g. is_at_door g && not a.door.closing) dialling ∙ ap not old.closing

      finished_is : (a.door.closing || is_refused a.stage) ≡ false
      finished_is = ap (λ g. a.door.closing || is_refused g) dialling ∙ ap (λ c. c || false) old.closing

      by : (bytes : List ℕ) → connect_stream k (Some (door.kept_some bytes (plain a))) ≡ head_stream k Present (early_up bytes)
      by [] = streams_same (connect_stream k (Some (plain a))) (head_stream k Present []) refl refl refl refl refl client_is finished_is (ap (λ ps. map unnumbered ps) old.early) refl
      by (x ∷ xs) = streams_same (connect_stream k (Some (door.kept_some (x ∷ xs) (plain a)))) (head_stream k Present (early_up (x ∷ xs))) refl refl refl refl refl client_is finished_is
          (ap (λ ps. map unnumbered (ps ++ door.data_of a.dial (x ∷ xs) ∷ [])) old.early) refl

  its_app : (bytes : List ℕ) → connect_app (door.kept_some bytes (plain a)) ≡ head_app f (head_side early rest)
  its_app bytes = by bytes
    where
      phase_is : connect_phase a.door.closing a.stage ≡ Dialling
      phase_is = ap (λ g. connect_phase a.door.closing g) dialling ∙ ap (λ c. connect_phase c stage.Dialling) old.closing

      side_is : connect_side (plain a).side ≡ head_side early rest
      side_is = sides_same (connect_side (plain a).side) (head_side early rest)
          (ap (λ (x : Passing). (with_more rest (passed_on (length early) (with_more early x))).passed) old.sending)
          (ap (λ (x : Passing). (with_more rest (passed_on (length early) (with_more early x))).waiting) old.sending)
          refl (ap (λ (x : Passing). x.passed ++ x.waiting) old.coming)

      by : (bytes : List ℕ) → connect_app (door.kept_some bytes (plain a)) ≡ head_app f (head_side early rest)
      by [] = apps_same (connect_app (plain a)) (head_app f (head_side early rest)) refl refl refl phase_is side_is (ap number_if old.dial)
      by (x ∷ xs) = apps_same (connect_app (door.kept_some (x ∷ xs) (plain a))) (head_app f (head_side early rest)) refl refl refl phase_is side_is (ap number_if old.dial)

  -- ---- the two states: with its early bytes kept, and without
  abbrev bare : State
  bare = record s { fronts = fronts; apps = change plain k s.apps }

  abbrev asking : State
  asking = step 0 (FrontUp f) bare

  abbrev asking_kept : State
  asking_kept = step 0 (FrontUp f) (record s { fronts = fronts; apps = change keeps k s.apps })

  up_fits : (g : App → App) → IsHeaded f (g a) → Fits (step 0 (FrontUp f) (record s { fronts = fronts; apps = change g k s.apps }))
  up_fits g head =
      step_fits (record s { fronts = fronts; apps = change g k s.apps }) 0 (FrontUp f) (fits_headed s k a g fits there at_door number head) keys.server.orderly (links_known s keys)
      (record { asks = λ front protocol address random e. absurd cc; comes = λ i e. (owner.App k, ap (λ m. nth m fronts) e ∙ came_last s.fronts (owner.App k)) })

  -- ---- the moves until the request is taken
  w : World
  w = headed (shown s) (front_added s.server f).state k f Present (request target ∷ early_up early) (head_side early rest)

  reaches_w : Reached (shown s) k f w
  unfolding w
  reaches_w = head_reached (shown s) k f target early rest (ap (λ (x : WorldApp). x.came) (hidden s k a plain fits there at_door number plain_headed)) (ap (λ (x : WorldStream). x.begun) (unbegun s k a plain fits there at_door number plain_headed))

  keys_w : Keys w
  keys_w = go (shown s) w reaches_w.moves keys reaches_w.made

  orderly_w : IsOrderly (front_added s.server f).state
  unfolding w
  orderly_w = keys_w.server.orderly

  own_front : nth f fronts ≡ Some (owner.App k)
  own_front = came_last s.fronts (owner.App k)

  asks : AskedAt (nth f fronts) (pos 0) k s.clients
  asks = subst (λ o. AskedAt o (pos 0) k s.clients) (sym own_front) refl

  taken : after (ServerTakesIn f) w ≡ server_does (FrontPacket f (request target)) (shown asking_kept)
  unfolding w
  taken = takes_is (shown s) k f (front_added s.server f).state target (early_up early) (head_side early rest)
      ∙ ap (λ v. server_does (FrontPacket f (request target)) v) (head_shown s k a keeps fits there at_door number (keeps_headed early) (early_up early) (head_side early rest) (its_stream early) (its_app early))

  may : May (ServerTakesIn f) w
  unfolding w
  may = may_take (shown s) k f (front_added s.server f).state target (early_up early) (head_side early rest)

  reaches_kept : Reaches w (shown (step k (FrontPacket f (request target)) asking_kept))
  reaches_kept = server_reached w asking_kept (ServerTakesIn f) k (FrontPacket f (request target)) (up_fits keeps (keeps_headed early)) orderly_w (links_known s keys) asks may taken

  -- ---- the state that is come to
  abbrev asked : State
  asked = step k (FrontPacket f (request target)) asking

  abbrev kept : State
  kept = record asked { apps = change (apps.early_kept early) k asked.apps }

  as_one : shown (step k (FrontPacket f (request target)) asking_kept) ≡ shown kept
  as_one =
      ap (λ xs. shown (step k (FrontPacket f (request target)) (record asking { apps = xs }))) (sym (change_twice (door.kept_some early) plain k s.apps))
      ∙ sym (kept_as_one asking k f (plain a) early (changed_own plain k s.apps a there) at_door dialling old.closing own_front target)

  heard_here : (c n : ℕ) → a.home ≡ home.Client c n → ⊥
  heard_here c n h = let z : home.Connect ≡ home.Client c n = sym at_door ∙ h in absurd cc

  asked_fits : Fits asked
  asked_fits = step_fits asking k (FrontPacket f (request target)) (up_fits plain plain_headed) orderly_w (links_known s keys) (record {
    asks = λ front protocol address random e. (
      plain a,
      changed_own plain k s.apps a there,
      record {
        told = λ c n x h i t. absurd (heard_here c n h);
        heard = λ h e. let z : suc (length s.fronts) ≡ 0 = e in absurd cc;
        early = old.early;
        undialled = old.dial;
      },
    );
    comes = λ i e. absurd e;
  })

  asked_has : Has (Tied f) k asked.apps
  asked_has = step_tied f k (FrontPacket f (request target)) k asking (plain a, changed_own plain k s.apps a there, record { at_door = at_door; number = refl })

  kept_home : (g : Stage) (b : App) → (door.early_kept g early b).home ≡ b.home
  kept_home g b = by g early
    where
      by : (g : Stage) (bytes : List ℕ) → (door.early_kept g bytes b).home ≡ b.home
      by stage.Dialling [] = refl
      by stage.Dialling (x ∷ xs) = refl
      by stage.Open [] = refl
      by stage.Open (x ∷ xs) = refl
      by stage.Refused bytes = refl
      by stage.Ended bytes = refl

  -- the server has its front
  still_at_server : (b : App) → nth k asked.apps ≡ Some b → b.door.at_server ≡ true
  still_at_server b h =
      let own : Has (λ (x : App). x.door.at_server ≡ true) k asked.apps = step_has (λ (x : App). x.door.at_server ≡ true) (λ p x t. (heard_kept p x).at_server ∙ t) (λ dial x t. t) k (FrontPacket f (request target)) k asking (plain a, changed_own plain k s.apps a there, refl) in
      ap (λ (x : App). x.door.at_server) (some_is (sym h ∙ own.1)) ∙ own.2

  same_bytes : (b : App) → nth k asked.apps ≡ Some b → b.home ≡ home.Connect → b.door.number ≡ f → (g : Stage) → b.stage ≡ g → (bytes : List ℕ) → Same b (door.early_kept g bytes b)
  same_bytes b h e n g i bytes = by g i bytes
    where
      nothing : Same b b
      nothing = record {
        at_door = e;
        number = refl;
        dial = refl;
        early = asked_fits.fronts.early k b h e;
        unheard = λ z. asked_fits.fronts.unheard k b h e z;
        refused = asked_fits.fronts.refused k b h e;
        present = λ m j q. asked_fits.fronts.present k m b h e j q;
        gone = λ m j q. asked_fits.fronts.gone k m b h e j q;
      }

      more : (x : ℕ) (xs : List ℕ) → Same b (door.kept (x ∷ xs) b)
      more x xs = record {
        at_door = e;
        number = refl;
        dial = refl;
        early = each_more (IsDataOf b.dial) b.door.early (door.data_of b.dial (x ∷ xs)) (asked_fits.fronts.early k b h e) (x ∷ xs, refl);
        unheard = λ z. let y : suc (length s.fronts) ≡ 0 = sym n ∙ z in absurd cc;
        refused = asked_fits.fronts.refused k b h e;
        present = λ m j q. asked_fits.fronts.present k m b h e j q;
        gone = λ m j q. absurd (cc (still_at_server b h, q));
      }

      by : (g : Stage) → b.stage ≡ g → (bytes : List ℕ) → Same b (door.early_kept g bytes b)
      by stage.Dialling i [] = nothing
      by stage.Dialling i (x ∷ xs) = more x xs
      by stage.Open i [] = nothing
      by stage.Open i (x ∷ xs) = more x xs
      by stage.Refused i bytes = nothing
      by stage.Ended i bytes = nothing

  kept_fits : Fits kept
  kept_fits = at asked_has
    where
      at : Has (Tied f) k asked.apps → Fits kept
      at (b, h, t) = fits_changed asked k b (apps.early_kept early) asked_fits h t.at_door (same_bytes b h t.at_door t.number b.stage refl early)

  kept_has : (b : App) → nth k asked.apps ≡ Some b → Tied f b → Has (Tied f) k kept.apps
  kept_has b h t = (
    apps.early_kept early b,
    changed_own (apps.early_kept early) k asked.apps b h,
    record {
      at_door = kept_home b.stage b ∙ t.at_door;
      number = (same_bytes b h t.at_door t.number b.stage refl early).number ∙ t.number;
    },
  )

  pub kept_leads_on : Leads s kept
  kept_leads_on = record {
    fits = kept_fits;
    moves = reaches_w.moves ++ reaches_kept.0;
    made = makes_join reaches_w.moves reaches_kept.0 (shown s) w (shown kept) reaches_w.made (subst (λ v. Makes w reaches_kept.0 v) as_one reaches_kept.1);
  }

  whole_leads : Leads s (settles k kept)
  whole_leads = leads_then go s kept (settles k kept) keys kept_leads_on (λ fit key. settles_tied go plain_serves kept k f fit key (kept_has asked_has.0 asked_has.1 asked_has.2))

  pub head_came_leads : Leads s (head_came target early rest k s)
  head_came_leads = subst (λ n. Leads s (head_came_as n target early rest k (with_owner k s))) (sym (length_more s.fronts (owner.App k))) whole_leads
