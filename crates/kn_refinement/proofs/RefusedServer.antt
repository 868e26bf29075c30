-- What a step of the server, and of a client, keeps of what apps were told; the step to a choice without an answer tells its app.
use Rattle.std.proofs.Common.{◌≡◌, ◌⊎◌, inl, inr, ◌++◌, ℕ, ℤ, pos, List, [], ◌∷◌, Option, None, Some, refl, sym, ap, ◌∙◌, subst, codes}
use Rattle.kn_packet.specs.declared.packet.Packet.{Packet}
use Rattle.kn_packet.specs.declared.packet.Packet.TheVariants.{DialReq, DialRsp}
use Rattle.kn_edge_core.specs.declared.client_event.ClientEvent.{ClientEvent}
use Rattle.kn_edge_core.specs.declared.client_event.ClientOut.{ClientOut}
use Rattle.kn_edge_core.specs.declared.client_event.ClientOut.TheVariants as client_out
use Rattle.kn_server_core.specs.declared.event.ServerEvent.TheVariants.{FrontPacket}
use Rattle.kn_world.specs.declared.state.State.{State}
use Rattle.kn_world.specs.Apps as apps
use Rattle.kn_world.specs.Clients as clients
use Rattle.kn_world.specs.ClientSteps as client
use Rattle.kn_world.specs.Numbers.{change, nth}
use Rattle.kn_world.specs.ServerSteps as server
use Rattle.kn_server_core.specs.Server as core
use Rattle.kn_server_core.specs.declared.event.ServerEvent.{ServerEvent}
use Rattle.kn_server_core.specs.declared.event.ServerOut.{ServerOut}
use Rattle.kn_server_core.specs.declared.event.ServerOut.TheVariants as server_out
use Rattle.kn_world.specs.declared.parts.Owner.{Owner}
use Rattle.kn_world.specs.declared.parts.Owner.TheVariants as owner
use Rattle.kn_server_core.specs.Choices.{choice_at}
use Rattle.kn_server_core.specs.declared.choice.Choice.{Choice}
use Rattle.kn_server_core.specs.Packets.{refusal}
use Rattle.kn_packets.specs.Outcome.{IsIn}
use Rattle.kn_world.specs.declared.parts.AppChoice.{AppChoice}
use Rattle.kn_refinement.specs.Requests.{Decides}
use Rattle.kn_refinement.proofs.Decided.{decided}
use Rattle.kn_refinement.proofs.RefusedParts.{Holds, ToldOf, apps_changed, clients_changed, heard_told, left_told, queued_down_kept, queued_up_kept}

-- ---- outputs
module _ (Asks : List AppChoice → ℕ → Type 0) where
  pub owner_keeps : (o : Option Owner) (p : Packet) (s : State) → Holds Asks s → Holds Asks (server.to_owner o p s)
  owner_keeps None p s h = h
  owner_keeps (Some (owner.Client c)) p s h = clients_changed Asks (clients.queued_down p) (queued_down_kept p) c s h
  owner_keeps (Some (owner.App app)) p s h = apps_changed Asks (apps.heard p) (heard_told p) app s h

  server_gives : (o : ServerOut) (app : ℕ) (s : State) → Holds Asks s → Holds Asks (server.gives o app s)
  server_gives (server_out.ToLink link p) app s h = h
  server_gives (server_out.ToFront front p) app s h = owner_keeps (nth front s.fronts) p s h
  server_gives (server_out.CutLink link) app s h = h
  server_gives (server_out.Made dial link front) app s h = apps_changed Asks (apps.with_dial dial) (λ g a it. it) app s h

  pub server_gives_all : (os : List ServerOut) (app : ℕ) (s : State) → Holds Asks s → Holds Asks (server.gives_all os app s)
  server_gives_all [] app s h = h
  server_gives_all (o ∷ os) app s h = server_gives_all os app (server.gives o app s) (server_gives o app s h)

  client_gives : (o : ClientOut) (c : ℕ) (s : State) → Holds Asks s → Holds Asks (client.gives o c s)
  client_gives (client_out.ToServer p) c s h = clients_changed Asks (clients.queued_up p) (queued_up_kept p) c s h
  client_gives (client_out.ToApp app bytes) c s h = apps_changed Asks (apps.written bytes) (λ g a it. it) (clients.app_at app (nth c s.clients)) s h
  client_gives (client_out.EndApp app error) c s h = apps_changed Asks (apps.left error) (left_told error) (clients.app_at app (nth c s.clients)) s h

  client_gives_all : (os : List ClientOut) (c : ℕ) (s : State) → Holds Asks s → Holds Asks (client.gives_all os c s)
  client_gives_all [] c s h = h
  client_gives_all (o ∷ os) c s h = client_gives_all os c (client.gives o c s) (client_gives o c s h)

  pub client_step : (c : ℕ) (e : ClientEvent) (s : State) → Holds Asks s → Holds Asks (client.step c e s)
  client_step c e s h = client_gives_all (clients.told e (nth c s.clients)) c (record s { clients = change (clients.stepped e) c s.clients }) (clients_changed Asks (clients.stepped e) (λ n x it. it) c s h)

-- a client's step leaves the choices
gives_choices : (o : ClientOut) (c : ℕ) (s : State) → (client.gives o c s).choices ≡ s.choices
gives_choices (client_out.ToServer p) c s = refl
gives_choices (client_out.ToApp app bytes) c s = refl
gives_choices (client_out.EndApp app error) c s = refl

pub client_choices : (os : List ClientOut) (c : ℕ) (s : State) → (client.gives_all os c s).choices ≡ s.choices
client_choices [] c s = refl
client_choices (o ∷ os) c s = client_choices os c (client.gives o c s) ∙ gives_choices o c s

-- ---- the apps with a choice that has no answer
abbrev pub Unanswered : List AppChoice → ℕ → Type 0
Unanswered choices k = (c : AppChoice) × IsIn c choices × (c.app ≡ k) × (c.choice.answer ≡ None)

abbrev pub Here : State → Type 0
Here s = Holds Unanswered s

in_or_last : {E : Type 0} (x d : E) (xs : List E) → IsIn x (xs ++ d ∷ []) → IsIn x xs ⊎ (d ≡ x)
in_or_last x d [] ([], behind, q) = let same : d ≡ x = cc in inr same
in_or_last x d [] (y ∷ [], behind, q) = absurd (cc q)
in_or_last x d [] (y ∷ z ∷ before, behind, q) = absurd (cc q)
in_or_last x d (z ∷ xs) ([], behind, q) = let same : z ≡ x = cc in inl ([], xs, ap (λ w. w ∷ xs) same)
in_or_last x d (z ∷ xs) (b ∷ before, behind, q) = let rest : xs ++ d ∷ [] ≡ before ++ x ∷ behind = cc in by (in_or_last x d xs (before, behind, rest))
  where
    by : IsIn x xs ⊎ (d ≡ x) → IsIn x (z ∷ xs) ⊎ (d ≡ x)
    by (inl it) = inl (z ∷ it.0, it.1, ap (λ ys. z ∷ ys) it.2)
    by (inr e) = inr e

was_or_new : (choices : List AppChoice) (app : ℕ) (c : Choice) (k : ℕ) → Unanswered (server.choices_with (Some c) app choices) k → Unanswered choices k ⊎ ((app ≡ k) × (c.answer ≡ None))
was_or_new choices app c k (d, it, named, none) = by (in_or_last d (record { app = app; choice = c }) choices it)
  where
    by : IsIn d choices ⊎ (record { app = app; choice = c } ≡ d) → Unanswered choices k ⊎ ((app ≡ k) × (c.answer ≡ None))
    by (inl old) = inl (d, old, named, none)
    by (inr e) = inr (ap (λ (x : AppChoice). x.app) e ∙ named, ap (λ (x : AppChoice). x.choice.answer) e ∙ none)

-- a choice of no app
noted_zero : (o : Option Choice) (s : State) → Here s → (k : ℕ) → Unanswered (server.choices_with o 0 s.choices) k → ToldOf k (nth k s.apps) s.clients
noted_zero None s h k it = h k it
noted_zero (Some c) s h k it = by (was_or_new s.choices 0 c k it)
  where
    by : Unanswered s.choices k ⊎ ((0 ≡ k) × (c.answer ≡ None)) → ToldOf k (nth k s.apps) s.clients
    by (inl old) = h k old
    by (inr e) = subst (λ n. ToldOf n (nth n s.apps) s.clients) e.0 refl

pub step_zero : (e : ServerEvent) (s : State) → Here s → Here (server.step 0 e s)
step_zero e s h = server_gives_all Unanswered (core.step s.server e).outs 0 (server.stepped 0 e s) (noted_zero (choice_at s.server e) s h)

-- ---- a request, whose app is told where the choice has no answer
module _ (app front : ℕ) (protocol address : List ℕ) (random : ℤ) (s : State) where
  abbrev told_packet : Packet
  told_packet = DialRsp (codes "no agent available") (pos 0) random

  abbrev IsTold : Option Owner → Type 0
  IsTold o = ToldOf app (nth app (server.to_owner o told_packet s).apps) (server.to_owner o told_packet s).clients

  abbrev asked : ServerEvent
  asked = FrontPacket front (DialReq protocol address random)

  abbrev with_choices : List AppChoice → State
  with_choices choices = record s { server = (core.step s.server asked).state; choices = choices }

  told_on : (o : Option Owner) (c : Choice) → IsTold o → Here s → Here (server.to_owner o told_packet (with_choices (server.choices_with (Some c) app s.choices)))
  told_on None c told h k it = by (was_or_new s.choices app c k it)
    where
      by : Unanswered s.choices k ⊎ ((app ≡ k) × (c.answer ≡ None)) → ToldOf k (nth k s.apps) s.clients
      by (inl old) = h k old
      by (inr e) = subst (λ n. ToldOf n (nth n s.apps) s.clients) e.0 told
  told_on (Some (owner.Client i)) c told h k it = by (was_or_new s.choices app c k it)
    where
      by : Unanswered s.choices k ⊎ ((app ≡ k) × (c.answer ≡ None)) → ToldOf k (nth k s.apps) (change (clients.queued_down told_packet) i s.clients)
      by (inl old) = owner_keeps Unanswered (Some (owner.Client i)) told_packet s h k old
      by (inr e) = subst (λ n. ToldOf n (nth n s.apps) (change (clients.queued_down told_packet) i s.clients)) e.0 told
  told_on (Some (owner.App i)) c told h k it = by (was_or_new s.choices app c k it)
    where
      by : Unanswered s.choices k ⊎ ((app ≡ k) × (c.answer ≡ None)) → ToldOf k (nth k (change (apps.heard told_packet) i s.apps)) s.clients
      by (inl old) = owner_keeps Unanswered (Some (owner.App i)) told_packet s h k old
      by (inr e) = subst (λ n. ToldOf n (nth n (change (apps.heard told_packet) i s.apps)) s.clients) e.0 told

  pub step_asked : IsTold (nth front s.fronts) → Here s → Here (server.step app asked s)
  step_asked told h = by (choice_at s.server asked) refl
    where
      outs : List ServerOut
      outs = (core.step s.server asked).outs

      by_answer : (c : Choice) (answer : Option ℕ) → c.answer ≡ answer → choice_at s.server asked ≡ Some c → Here (server.gives_all outs app (with_choices (server.choices_with (Some c) app s.choices)))
      by_answer c (Some link) e at = server_gives_all Unanswered outs app (with_choices (server.choices_with (Some c) app s.choices)) (λ k it. old k (was_or_new s.choices app c k it))
        where
          old : (k : ℕ) → Unanswered s.choices k ⊎ ((app ≡ k) × (c.answer ≡ None)) → ToldOf k (nth k s.apps) s.clients
          old k (inl it) = h k it
          old k (inr it) = absurd (cc (sym it.1 ∙ e))
      by_answer c None e at = subst (λ os. Here (server.gives_all os app (with_choices (server.choices_with (Some c) app s.choices)))) (sym refused) (told_on (nth front s.fronts) c told h)
        where
          refused : outs ≡ refusal front random (codes "no agent available") ∷ []
          refused = subst (λ a. Decides outs front protocol address random c.dial a) e (decided s.server front protocol address random c at)

      by : (o : Option Choice) → choice_at s.server asked ≡ o → Here (server.gives_all outs app (with_choices (server.choices_with o app s.choices)))
      by None at = server_gives_all Unanswered outs app (with_choices s.choices) h
      by (Some c) at = by_answer c c.answer refl at
