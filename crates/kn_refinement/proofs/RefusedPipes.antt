-- Packets of a client, and packets to one: the request of an app comes to its choice, and the refusal comes to the app.
use Rattle.std.proofs.Common.{◌≡◌, ◌≢◌, ◌⊎◌, inl, inr, eqb-true, ◌==◌, arith, ◌++◌, ℕ, ℤ, pos, negsuc, zero, suc, Bool, true, false, cond, List, [], ◌∷◌, length, ◌≤◌, Option, None, Some, refl, sym, ap, ◌∙◌, subst, codes}
use Rattle.kn_packet.specs.declared.packet.Packet.{Packet}
use Rattle.kn_packet.specs.declared.packet.Packet.TheVariants.{CloseReq, CloseRsp, Data, DialCls, DialReq, DialRsp, Drain, Other}
use Rattle.kn_edge_core.specs.declared.client_event.ClientEvent.TheVariants as client_event
use Rattle.kn_edge_core.specs.declared.client_event.ClientOut.TheVariants as client_out
use Rattle.kn_server_core.specs.declared.event.ServerEvent.TheVariants.{FrontPacket}
use Rattle.kn_world.specs.declared.parts.App.{App}
use Rattle.kn_world.specs.declared.parts.Client.{Client}
use Rattle.kn_world.specs.declared.parts.Home.{Home}
use Rattle.kn_world.specs.declared.parts.Home.TheVariants as home
use Rattle.kn_world.specs.declared.state.State.{State}
use Rattle.kn_world.specs.Apps as apps
use Rattle.kn_world.specs.AppSteps as app_steps
use Rattle.kn_world.specs.Clients as clients
use Rattle.kn_world.specs.ClientSteps as client
use Rattle.kn_world.specs.Numbers.{change, nth}
use Rattle.kn_world.specs.Pipes as pipes
use Rattle.kn_world.specs.ServerSteps as server
use Rattle.kn_world.specs.declared.parts.Owner.{Owner}
use Rattle.kn_world.specs.declared.parts.Stage.TheVariants as stage
use Rattle.std.specs.Option.{option_map}
use Rattle.kn_tables.specs.Lists.{first_where}
use Rattle.kn_edge_core.specs.Client as edge
use Rattle.kn_edge_core.specs.ClientTables.{is_app}
use Rattle.kn_edge_core.specs.declared.app.App.{App as ListedApp}
use Rattle.kn_edge_core.specs.declared.app.AppState.{AppState}
use Rattle.kn_edge_core.specs.declared.app.AppState.TheVariants as listed
use Rattle.kn_world.specs.Numbers.{first_of, number_of, or_none, rest_of}
use Rattle.kn_world.specs.declared.parts.AppChoice.{AppChoice}
use Rattle.kn_world.specs.declared.parts.Stage.{Stage}
use Rattle.kn_world.specs.declared.parts.Stage.TheVariants as stage
use Rattle.kn_refinement.specs.Fits.{Fits, HasLeft, IsNotedAs}
use Rattle.kn_refinement.specs.Refusals.{IsOnItsWay, IsRefusedAt, IsToldBy}
use Rattle.kn_refinement.proofs.Changes.{change_kept, changed_own}
use Rattle.kn_refinement.proofs.FitsClients.{rest_kept}
use Rattle.kn_refinement.proofs.FitsServer.{client_fits}
use Rattle.kn_refinement.proofs.NumberLemmas.{nth_change, nth_none, nth_within}
use Rattle.kn_refinement.proofs.RefusedParts.{ToldOf, Told, clients_changed, put_told}
use Rattle.kn_refinement.proofs.RefusedServer.{Here, Unanswered, client_choices, client_step, step_asked, step_zero}
use Rattle.kn_refinement.proofs.RefusedWalk.{opens, takes_freely}
use Rattle.kn_server_core.proofs.SoundLemmas.{passes}

-- ---- a packet of a client
module _ (s : State) (c : ℕ) (fits : Fits s) (h : Here s) where
  abbrev sent : State
  sent = record s { clients = change clients.rest_up c s.clients }

  sent_fits : Fits sent
  sent_fits = client_fits s clients.rest_up c (λ y. rest_kept c y) fits

  sent_here : Here sent
  sent_here = clients_changed Unanswered clients.rest_up (λ n x it. it) c s h

  module _ (protocol address : List ℕ) (random : ℤ) where
    abbrev p : Packet
    p = DialRsp (codes "no agent available") (pos 0) random

    abbrev IsTold : ℕ → ℕ → Type 0
    IsTold k front = ToldOf k (nth k (server.to_owner (nth front s.fronts) p sent).apps) (server.to_owner (nth front s.fronts) p sent).clients

    app_told : (x : Client) (k : ℕ) → nth c sent.clients ≡ Some x → nth (number_of random) x.apps ≡ Some k → IsTold k x.front
    app_told x k there named =
        let found = sent_fits.clients.of_number c (number_of random) k x there named in
        subst (λ o. ToldOf k (nth k (server.to_owner o p sent).apps) (server.to_owner o p sent).clients) (sym (sent_fits.fronts.client c x there))
        (subst (λ o. ToldOf k o (change (clients.queued_down p) c sent.clients)) (sym found.1)
        (subst (λ at. IsRefusedAt at (change (clients.queued_down p) c sent.clients) found.0.stage found.0.error) (sym found.2)
        (inr (clients.queued_down p x, changed_own (clients.queued_down p) c sent.clients x there, put_told (pos 0) random (number_of random) x refl))))

    none_told : (o : Option Owner) → ToldOf 0 (nth 0 (server.to_owner o p sent).apps) (server.to_owner o p sent).clients
    none_told o = refl

    request_told : (y : Option Client) → nth c sent.clients ≡ y → IsTold (clients.app_at (number_of random) y) (clients.front_of y)
    request_told None at = none_told (nth 0 s.fronts)
    request_told (Some x) at = by (nth (number_of random) x.apps) refl
      where
        by : (n : Option ℕ) → nth (number_of random) x.apps ≡ n → IsTold (or_none n) x.front
        by None e = none_told (nth x.front s.fronts)
        by (Some k) e = app_told x k at e

    request_here : Here (server.step (clients.app_at (number_of random) (nth c sent.clients)) (FrontPacket (clients.front_of (nth c sent.clients)) (DialReq protocol address random)) sent)
    request_here = step_asked (clients.app_at (number_of random) (nth c sent.clients)) (clients.front_of (nth c sent.clients)) protocol address random sent (request_told (nth c sent.clients) refl) sent_here

  packet_here : (o : Option Packet) → Here (pipes.at_front o c sent)
  packet_here None = sent_here
  packet_here (Some (DialReq protocol address random)) = request_here protocol address random
  packet_here (Some (DialRsp error connect_id random)) = step_zero (FrontPacket (clients.front_of (nth c sent.clients)) (DialRsp error connect_id random)) sent sent_here
  packet_here (Some (CloseReq connect_id)) = step_zero (FrontPacket (clients.front_of (nth c sent.clients)) (CloseReq connect_id)) sent sent_here
  packet_here (Some (CloseRsp error connect_id)) = step_zero (FrontPacket (clients.front_of (nth c sent.clients)) (CloseRsp error connect_id)) sent sent_here
  packet_here (Some (Data connect_id error bytes)) = step_zero (FrontPacket (clients.front_of (nth c sent.clients)) (Data connect_id error bytes)) sent sent_here
  packet_here (Some (DialCls random)) = step_zero (FrontPacket (clients.front_of (nth c sent.clients)) (DialCls random)) sent sent_here
  packet_here (Some Drain) = step_zero (FrontPacket (clients.front_of (nth c sent.clients)) Drain) sent sent_here
  packet_here (Some (Other number)) = step_zero (FrontPacket (clients.front_of (nth c sent.clients)) (Other number)) sent sent_here

  pub client_up_here : Here (pipes.client_up c s)
  client_up_here = packet_here (clients.first_up (nth c s.clients))

-- ---- a packet to a client
abbrev IsRefusal : ℕ → Packet → Type 0
IsRefusal number p = (connect_id random : ℤ) × (number_of random ≡ number) × (p ≡ DialRsp (codes "no agent available") connect_id random)

-- the refusal is the first, or behind it
first_or_rest : (number : ℕ) (ps : List Packet) (p : Packet) → first_of ps ≡ Some p → IsOnItsWay number ps → IsRefusal number p ⊎ IsOnItsWay number (rest_of ps)
first_or_rest number [] p e it = absurd (cc e)
first_or_rest number (q ∷ qs) p e (connect_id, random, named, ([], behind, at)) =
    let first : q ≡ DialRsp (codes "no agent available") connect_id random = cc in
    let same : q ≡ p = cc in
    inl (connect_id, random, named, sym same ∙ first)
first_or_rest number (q ∷ qs) p e (connect_id, random, named, (b ∷ before, behind, at)) =
    let rest : qs ≡ before ++ DialRsp (codes "no agent available") connect_id random ∷ behind = cc in
    inr (connect_id, random, named, (before, behind, rest))

positive : (random : ℤ) (m : ℕ) → number_of random ≡ suc m → random ≡ pos (suc m)
positive (pos n) m e = ap pos e
positive (negsuc n) m e = absurd (cc e)

past_left : (noted : Stage) → HasLeft noted → noted ≢ stage.Dialling
past_left noted (inl e) d = absurd (cc (sym e ∙ d))
past_left noted (inr e) d = absurd (cc (sym e ∙ d))

past_open : (noted : Stage) → noted ≡ stage.Open → noted ≢ stage.Dialling
past_open noted e d = absurd (cc (sym e ∙ d))

refused_past : stage.Refused ≢ stage.Dialling
refused_past e = cc e

module _ (s : State) (c : ℕ) (fits : Fits s) (h : Here s) where
  abbrev taken : State
  taken = record s { clients = change clients.rest_down c s.clients }

  -- for one app alone
  abbrev Own : ℕ → List AppChoice → ℕ → Type 0
  Own k choices j = j ≡ k

  module _ (p : Packet) (x : Client) (there : nth c s.clients ≡ Some x) (first : first_of x.down ≡ Some p) where
    abbrev stepped : State
    stepped = client.step c (client_event.Packet p) taken

    abbrev After : ℕ → Type 0
    After k = ToldOf k (nth k stepped.apps) stepped.clients

    goes_on : (k : ℕ) → ToldOf k (nth k s.apps) taken.clients → After k
    goes_on k it = client_step (Own k) c (client_event.Packet p) taken (λ j e. subst (λ n. ToldOf n (nth n s.apps) taken.clients) (sym e) it) k refl

    of_app : (k : ℕ) (a : App) → nth k s.apps ≡ Some a → Told taken.clients a → After k
    of_app k a at it = goes_on k (subst (λ o. ToldOf k o taken.clients) (sym at) it)

    of_client : (k n number : ℕ) (a : App) → nth k s.apps ≡ Some a → a.home ≡ home.Client n number → IsRefusedAt (home.Client n number) taken.clients a.stage a.error → After k
    of_client k n number a at its it = of_app k a at (subst (λ o. IsRefusedAt o taken.clients a.stage a.error) (sym its) it)

    -- it comes to its app
    comes : (k number : ℕ) (a : App) → nth k s.apps ≡ Some a → a.home ≡ home.Client c number → x.at_client ≡ true → (connect_id random : ℤ) → number_of random ≡ number → p ≡ DialRsp (codes "no agent available") connect_id random → After k
    comes k zero a at its has connect_id random named is =
        let found = fits.clients.number_of k c zero a at its in absurd (cc found.2)
    comes k (suc m) a at its has connect_id random named is = by (first_where (is_app (suc m)) x.core.apps) refl
      where
        text : List ℕ
        text = codes "no agent available"

        own : nth (suc m) x.apps ≡ Some k
        own = let found = fits.clients.number_of k c (suc m) a at its in
            let same : found.0 ≡ x = same_of found.0 x (sym found.1 ∙ there) in ap (λ (y : Client). nth (suc m) y.apps) (sym same) ∙ found.2
          where
            same_of : (y z : Client) → Some y ≡ Some z → y ≡ z
            same_of y z e = cc

        past : a.stage ≢ stage.Dialling → After k
        past e = of_client k c (suc m) a at its (inl e)

        is_known : suc m ≤ x.core.top_app
        is_known = let all : x.core.top_app ≡ length x.apps = fits.clients.all_told c x there has in let within : suc m ≤ length x.apps = nth_within (suc m) x.apps k own in omega (arith, all, within)

        dialling : (y : ListedApp) → first_where (is_app (suc m)) x.core.apps ≡ Some y → y.state ≡ listed.Dialling → a.stage ≡ stage.Dialling → After k
        dialling y found state waits = subst (λ os. ToldOf k (nth k (client.gives_all os c turned).apps) (client.gives_all os c turned).clients) (sym outs) ended
          where
            numbered : y.number ≡ suc m
            numbered = eqb-true y.number (suc m) (passes (is_app (suc m)) y x.core.apps found)

            turned : State
            turned = record taken { clients = change (clients.stepped (client_event.Packet p)) c taken.clients }

            down_there : nth c taken.clients ≡ Some (clients.rest_down x)
            down_there = changed_own clients.rest_down c s.clients x there

            outs : clients.told (client_event.Packet p) (nth c taken.clients) ≡ client_out.EndApp (suc m) text ∷ []
            outs = ap (λ o. clients.told (client_event.Packet p) o) down_there
                ∙ ap (λ q. (edge.packet_came x.core q).outs) (is ∙ ap (λ r. DialRsp text connect_id r) (positive random m named))
                ∙ ap (λ o. (edge.reply_came x.core text connect_id o).outs) found
                ∙ ap (λ st. (edge.reply_by_state x.core y.number text connect_id st).outs) state
                ∙ ap (λ n. client_out.EndApp n text ∷ []) numbered

            its_number : clients.app_at (suc m) (nth c turned.clients) ≡ k
            its_number = ap (λ o. clients.app_at (suc m) o) (changed_own (clients.stepped (client_event.Packet p)) c taken.clients (clients.rest_down x) down_there) ∙ ap or_none own

            ended : ToldOf k (nth k (change (apps.left text) (clients.app_at (suc m) (nth c turned.clients)) s.apps)) turned.clients
            ended = subst (λ n. ToldOf k (nth k (change (apps.left text) n s.apps)) turned.clients) (sym its_number)
                (subst (λ o. ToldOf k o turned.clients) (sym (changed_own (apps.left text) k s.apps a at))
                (subst (λ st. Told turned.clients (apps.left_as st text a)) (sym waits)
                (subst (λ o. IsRefusedAt o turned.clients stage.Refused text) (sym its) (inl refused_past))))

        by_state : (y : ListedApp) → first_where (is_app (suc m)) x.core.apps ≡ Some y → (st : AppState) → y.state ≡ st → IsNotedAs st a.stage → After k
        by_state y found listed.Dialling e noted = dialling y found e noted
        by_state y found listed.Open e noted = past (past_open a.stage noted)
        by_state y found listed.Closing e noted = past (past_open a.stage noted)
        by_state y found listed.Lingering e noted = past (past_open a.stage noted)

        by : (o : Option ListedApp) → first_where (is_app (suc m)) x.core.apps ≡ o → After k
        by None none = past (past_left a.stage (fits.clients.left k c (suc m) a x at its there none is_known))
        by (Some y) found = by_state y found y.state refl (fits.clients.here k c (suc m) a x y at its there found)

    -- an app of this client, whose refusal is on the list
    on_list : (k number : ℕ) (a : App) → nth k s.apps ≡ Some a → a.home ≡ home.Client c number → IsToldBy number x → After k
    on_list k number a at its (inl gone) = of_client k c number a at its (inr (clients.rest_down x, changed_own clients.rest_down c s.clients x there, inl gone))
    on_list k number a at its (inr on) = by_first (first_or_rest number x.down p first on)
      where
        told : IsToldBy number (clients.rest_down x) → After k
        told it = of_client k c number a at its (inr (clients.rest_down x, changed_own clients.rest_down c s.clients x there, it))

        by_has : (b : Bool) → x.at_client ≡ b → IsRefusal number p → After k
        by_has true e it = comes k number a at its e it.0 it.1 it.2 it.3
        by_has false e it = told (inl e)

        by_first : IsRefusal number p ⊎ IsOnItsWay number (rest_of x.down) → After k
        by_first (inl it) = by_has x.at_client refl it
        by_first (inr it) = told (inr it)

    by_home : (k : ℕ) (a : App) (at : Home) → nth k s.apps ≡ Some a → a.home ≡ at → IsRefusedAt at s.clients a.stage a.error → After k
    by_home k a home.Connect there_a its it = of_app k a there_a (subst (λ o. IsRefusedAt o taken.clients a.stage a.error) (sym its) it)
    by_home k a (home.Client n number) there_a its (inl past) = of_client k n number a there_a its (inl past)
    by_home k a (home.Client n number) there_a its (inr (y, at, told)) = by (n == c) refl
      where
        same_of : (v w : Client) → Some v ≡ Some w → v ≡ w
        same_of v w e = cc

        by : (b : Bool) → (n == c) ≡ b → After k
        by true e =
            let same : n ≡ c = eqb-true n c e in
            on_list k number a there_a (its ∙ ap (λ m. home.Client m number) same) (subst (λ v. IsToldBy number v) (same_of y x (sym at ∙ ap (λ m. nth m s.clients) same ∙ there)) told)
        by false e = of_client k n number a there_a its (inr (y, nth_change clients.rest_down c n s.clients ∙ ap (λ t. cond t (option_map clients.rest_down (nth n s.clients)) (nth n s.clients)) e ∙ at, told))

    by_app : (k : ℕ) (o : Option App) → nth k s.apps ≡ o → ToldOf k o s.clients → After k
    by_app k None at it = goes_on k (subst (λ o. ToldOf k o taken.clients) (sym at) it)
    by_app k (Some a) at it = by_home k a a.home at refl it

    taken_here : Here stepped
    taken_here k asks = by_app k (nth k s.apps) refl (h k (subst (λ cs. Unanswered cs k) (client_choices (clients.told (client_event.Packet p) (nth c taken.clients)) c (record taken { clients = change (clients.stepped (client_event.Packet p)) c taken.clients })) asks))

    packet_taken : Here (app_steps.takes_packet p c taken)
    packet_taken = takes_freely (app_steps.written_by p c taken.clients) (app_steps.opens (app_steps.answered_by p c taken.clients) stepped) (opens (app_steps.answered_by p c taken.clients) stepped taken_here)

  none_taken : (o : Option Client) → nth c s.clients ≡ o → clients.first_down o ≡ None → Here taken
  none_taken None at none = subst (λ cs. Here (record s { clients = cs })) (sym (nth_none clients.rest_down c s.clients at)) h
  none_taken (Some x) at none = subst (λ cs. Here (record s { clients = cs })) (sym (change_kept clients.rest_down c s.clients x at (ap (λ ps. record x { down = ps }) (dry x.down none)))) h
    where
      dry : (ps : List Packet) → first_of ps ≡ None → rest_of ps ≡ ps
      dry [] e = refl
      dry (q ∷ qs) e = absurd (cc e)

  pub client_down_here : Here (pipes.client_down c s)
  client_down_here = by (nth c s.clients) refl (clients.first_down (nth c s.clients)) refl
    where
      by : (o : Option Client) → nth c s.clients ≡ o → (first : Option Packet) → clients.first_down (nth c s.clients) ≡ first → Here (pipes.at_client first c taken)
      by o at None e = none_taken o at (sym (ap clients.first_down at) ∙ e)
      by None at (Some p) e = absurd (cc (sym (ap clients.first_down at) ∙ e))
      by (Some x) at (Some p) e = packet_taken p x at (sym (ap clients.first_down at) ∙ e)
