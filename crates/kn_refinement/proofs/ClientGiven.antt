-- What the outputs of a client come to: one change of the client, and one of each of its apps.
use Rattle.std.proofs.Common.{◌≡◌, ◌==◌, ◌&&◌, ℕ, Bool, true, false, cond, List, [], ◌∷◌, Option, Some, None, refl, sym, ap, ◌∙◌, ◌⊎◌, inl, inr}
use Rattle.std.specs.Option.{option_map}
use Rattle.kn_packet.specs.declared.packet.Packet.{Packet}
use Rattle.kn_edge_core.specs.Client as edge
use Rattle.kn_edge_core.specs.Steps.{ClientStep}
use Rattle.kn_edge_core.specs.declared.client_event.ClientEvent.{ClientEvent}
use Rattle.kn_edge_core.specs.declared.client_event.ClientOut.{ClientOut}
use Rattle.kn_edge_core.specs.declared.client_event.ClientOut.TheVariants as out
use Rattle.kn_packets.specs.Outputs.{from_client, queued as queued_if}
use Rattle.kn_world.specs.declared.parts.App.{App}
use Rattle.kn_world.specs.declared.parts.Client.{Client}
use Rattle.kn_world.specs.declared.parts.Home.{Home}
use Rattle.kn_world.specs.declared.parts.Home.TheVariants as home
use Rattle.kn_world.specs.declared.parts.Stage.{Stage}
use Rattle.kn_world.specs.declared.parts.Stage.TheVariants as stage
use Rattle.kn_world.specs.declared.state.State.{State}
use Rattle.kn_world.specs.Apps as apps
use Rattle.kn_world.specs.Clients as clients
use Rattle.kn_world.specs.ClientSteps.{gives, gives_all, step}
use Rattle.kn_world.specs.Numbers.{change, nth, or_none}
use Rattle.kn_refinement.proofs.Changes.{WasBefore, change_as, change_same, changed_own, was_before}
use Rattle.kn_refinement.proofs.NumberLemmas.{nth_change}

-- ---- the client, and all apps
abbrev pub client_after : List ClientOut → Client → Client
client_after outs x = record x { up = queued_if (x.at_server && x.at_client) x.up (from_client outs) }

abbrev pub apps_after : List ClientOut → List ℕ → List App → List App
apps_after [] names xs = xs
apps_after (out.ToServer p ∷ outs) names xs = apps_after outs names xs
apps_after (out.ToApp n bytes ∷ outs) names xs = apps_after outs names (change (apps.written bytes) (or_none (nth n names)) xs)
apps_after (out.EndApp n error ∷ outs) names xs = apps_after outs names (change (apps.left error) (or_none (nth n names)) xs)

queue_one : (os : List ClientOut) (p : Packet) (x : Client) → client_after os (clients.queued_up p x) ≡ client_after (out.ToServer p ∷ os) x
queue_one os p x = here (x.at_server && x.at_client) refl
  where
    here : (b : Bool) → (x.at_server && x.at_client) ≡ b → client_after os (clients.with_up b p x) ≡ client_after (out.ToServer p ∷ os) x
    here true e = rw e refl
    here false e = rw e refl

queued_names : (p : Packet) (b : Bool) (x : Client) → (clients.with_up b p x).apps ≡ x.apps
queued_names p true x = refl
queued_names p false x = refl

states_same : (s : State) (a b : List Client) (c d : List App) → a ≡ b → c ≡ d → record s { clients = a; apps = c } ≡ record s { clients = b; apps = d }
states_same s a b c d p q = λ i. record s { clients = p i; apps = q i }

pub given : (outs : List ClientOut) (c : ℕ) (x : Client) (s : State) → nth c s.clients ≡ Some x → gives_all outs c s ≡ record s { clients = change (client_after outs) c s.clients; apps = apps_after outs x.apps s.apps }
given [] c x s there = sym (states_same s _ _ _ _ (change_same (client_after []) c s.clients (λ y. refl)) refl)
given (out.ToServer p ∷ outs) c x s there = given outs c (clients.queued_up p x) (record s { clients = change (clients.queued_up p) c s.clients }) (changed_own (clients.queued_up p) c s.clients x there)
    ∙ states_same s _ _ _ _ (change_as (client_after outs) (clients.queued_up p) (client_after (out.ToServer p ∷ outs)) c s.clients (queue_one outs p)) (ap (λ names. apps_after outs names s.apps) (queued_names p (x.at_server && x.at_client) x))
given (out.ToApp n bytes ∷ outs) c x s there = given outs c x (gives (out.ToApp n bytes) c s) there
    ∙ states_same s _ _ _ _ (ap (λ f. change f c s.clients) (λ i y. client_after outs y)) (ap (λ o. apps_after outs x.apps (change (apps.written bytes) (clients.app_at n o) s.apps)) there)
given (out.EndApp n error ∷ outs) c x s there = given outs c x (gives (out.EndApp n error) c s) there
    ∙ states_same s _ _ _ _ (ap (λ f. change f c s.clients) (λ i y. client_after outs y)) (ap (λ o. apps_after outs x.apps (change (apps.left error) (clients.app_at n o) s.apps)) there)

-- a step, by what the client's core comes to
abbrev pub stepped_client : ClientStep → Client → Client
stepped_client r x = client_after r.outs (record x { core = r.state })

pub step_is : (c : ℕ) (e : ClientEvent) (x : Client) (s : State) → nth c s.clients ≡ Some x
    → step c e s ≡ record s { clients = change (λ y. client_after (edge.step x.core e).outs (clients.stepped e y)) c s.clients; apps = apps_after (edge.step x.core e).outs x.apps s.apps }
step_is c e x s there =
    ap (λ o. gives_all (clients.told e o) c (record s { clients = change (clients.stepped e) c s.clients })) there
    ∙ given (edge.step x.core e).outs c (clients.stepped e x) (record s { clients = change (clients.stepped e) c s.clients }) (changed_own (clients.stepped e) c s.clients x there)
    ∙ states_same s _ _ _ _ (change_as (client_after (edge.step x.core e).outs) (clients.stepped e) (λ y. client_after (edge.step x.core e).outs (clients.stepped e y)) c s.clients (λ y. refl)) refl

-- ---- one app, by its own number
abbrev pub app_after : ℕ → List ClientOut → App → App
app_after n [] a = a
app_after n (out.ToServer p ∷ outs) a = app_after n outs a
app_after n (out.ToApp m bytes ∷ outs) a = app_after n outs (cond (n == m) (apps.written bytes a) a)
app_after n (out.EndApp m error ∷ outs) a = app_after n outs (cond (n == m) (apps.left error a) a)

abbrev pub touched_at : Home → ℕ → List ClientOut → App → App
touched_at (home.Client d n) c outs a = cond (d == c) (app_after n outs a) a
touched_at home.Connect c outs a = a

abbrev pub touched : ℕ → List ClientOut → App → App
touched c outs a = touched_at a.home c outs a

-- an app keeps where it is at home
pub left_home : (error : List ℕ) (a : App) → (apps.left error a).home ≡ a.home
left_home error a = here a.stage error
  where
    here : (st : Stage) (error : List ℕ) → (apps.left_as st error a).home ≡ a.home
    here stage.Dialling [] = refl
    here stage.Dialling (x ∷ xs) = refl
    here stage.Open error = refl
    here stage.Refused error = refl
    here stage.Ended error = refl

-- the names of a client are those of its apps
abbrev pub is_named : ℕ → ℕ → Home → Bool
is_named c m (home.Client d n) = (d == c) && (n == m)
is_named c m home.Connect = false

abbrev pub Names : ℕ → List ℕ → List App → Type 0
Names c names xs = (k m : ℕ) (a : App) → nth k xs ≡ Some a → (k == or_none (nth m names)) ≡ is_named c m a.home

pub names_changed : (f : App → App) → ((a : App) → (f a).home ≡ a.home) → (c j : ℕ) (names : List ℕ) (xs : List App) → Names c names xs → Names c names (change f j xs)
names_changed f same c j names xs named k m a h = here (was_before f j k xs a h)
  where
    here : WasBefore f j k xs a → (k == or_none (nth m names)) ≡ is_named c m a.home
    here old = by old.is
      where
        by : ((k ≡ j) × (a ≡ f old.old)) ⊎ (((k == j) ≡ false) × (a ≡ old.old)) → (k == or_none (nth m names)) ≡ is_named c m a.home
        by (inl it) = named k m old.old old.there ∙ ap (λ h. is_named c m h) (sym (same old.old) ∙ ap (λ (b : App). b.home) (sym it.1))
        by (inr it) = named k m old.old old.there ∙ ap (λ (b : App). is_named c m b.home) (sym it.1)

-- what one output does to an app with a home
one : (f : App → App) → ((a : App) → (f a).home ≡ a.home) → (c m : ℕ) (outs more : List ClientOut) → ((n : ℕ) (a : App) → app_after n more a ≡ app_after n outs (cond (n == m) (f a) a))
    → (a : App) → touched c outs (cond (is_named c m a.home) (f a) a) ≡ touched c more a
one f same c m outs more says a = here a.home refl
  where
    at : (d n : ℕ) → a.home ≡ home.Client d n → (b : Bool) → (d == c) ≡ b → touched c outs (cond (b && (n == m)) (f a) a) ≡ cond b (app_after n more a) a
    at d n h false e = rw (h, e) refl
    at d n h true e = by (n == m) refl
      where
        by : (t : Bool) → (n == m) ≡ t → touched c outs (cond t (f a) a) ≡ app_after n more a
        by true i = ap (λ h. touched_at h c outs (f a)) (same a ∙ h) ∙ ap (λ b. cond b (app_after n outs (f a)) (f a)) e ∙ sym (says n a ∙ ap (λ t. app_after n outs (cond t (f a) a)) i)
        by false i = ap (λ h. touched_at h c outs a) h ∙ ap (λ b. cond b (app_after n outs a) a) e ∙ sym (says n a ∙ ap (λ t. app_after n outs (cond t (f a) a)) i)

    here : (h : Home) → a.home ≡ h → touched c outs (cond (is_named c m h) (f a) a) ≡ touched_at h c more a
    here (home.Client d n) h = at d n h (d == c) refl
    here home.Connect h = ap (λ h. touched_at h c outs a) h

pub nth_after : (outs : List ClientOut) (c : ℕ) (names : List ℕ) (xs : List App) (k : ℕ) → Names c names xs → nth k (apps_after outs names xs) ≡ option_map (touched c outs) (nth k xs)
nth_after [] c names xs k named = here (nth k xs)
  where
    at : (h : Home) (a : App) → a ≡ touched_at h c [] a
    at (home.Client d n) a = by (d == c)
      where
        by : (b : Bool) → a ≡ cond b a a
        by true = refl
        by false = refl
    at home.Connect a = refl

    here : (o : Option App) → o ≡ option_map (touched c []) o
    here None = refl
    here (Some a) = ap Some (at a.home a)
nth_after (out.ToServer p ∷ outs) c names xs k named = nth_after outs c names xs k named ∙ here (nth k xs)
  where
    at : (h : Home) (a : App) → touched_at h c outs a ≡ touched_at h c (out.ToServer p ∷ outs) a
    at (home.Client d n) a = refl
    at home.Connect a = refl

    here : (o : Option App) → option_map (touched c outs) o ≡ option_map (touched c (out.ToServer p ∷ outs)) o
    here None = refl
    here (Some a) = ap Some (at a.home a)
nth_after (out.ToApp m bytes ∷ outs) c names xs k named =
    nth_after outs c names (change (apps.written bytes) (or_none (nth m names)) xs) k (names_changed (apps.written bytes) (λ a. refl) c (or_none (nth m names)) names xs named)
    ∙ ap (λ o. option_map (touched c outs) o) (nth_change (apps.written bytes) (or_none (nth m names)) k xs) ∙ here (nth k xs) refl
  where
    here : (o : Option App) → nth k xs ≡ o → option_map (touched c outs) (cond (k == or_none (nth m names)) (option_map (apps.written bytes) o) o) ≡ option_map (touched c (out.ToApp m bytes ∷ outs)) o
    here None h = by (k == or_none (nth m names))
      where
        by : (b : Bool) → option_map (touched c outs) (cond b None None) ≡ None
        by true = refl
        by false = refl
    here (Some a) h = ap (λ b. option_map (touched c outs) (cond b (Some (apps.written bytes a)) (Some a))) (named k m a h) ∙ by (is_named c m a.home) ∙ ap Some (one (apps.written bytes) (λ a. refl) c m outs (out.ToApp m bytes ∷ outs) (λ n a. refl) a)
      where
        by : (b : Bool) → option_map (touched c outs) (cond b (Some (apps.written bytes a)) (Some a)) ≡ Some (touched c outs (cond b (apps.written bytes a) a))
        by true = refl
        by false = refl
nth_after (out.EndApp m error ∷ outs) c names xs k named =
    nth_after outs c names (change (apps.left error) (or_none (nth m names)) xs) k (names_changed (apps.left error) (left_home error) c (or_none (nth m names)) names xs named)
    ∙ ap (λ o. option_map (touched c outs) o) (nth_change (apps.left error) (or_none (nth m names)) k xs) ∙ here (nth k xs) refl
  where
    here : (o : Option App) → nth k xs ≡ o → option_map (touched c outs) (cond (k == or_none (nth m names)) (option_map (apps.left error) o) o) ≡ option_map (touched c (out.EndApp m error ∷ outs)) o
    here None h = by (k == or_none (nth m names))
      where
        by : (b : Bool) → option_map (touched c outs) (cond b None None) ≡ None
        by true = refl
        by false = refl
    here (Some a) h = ap (λ b. option_map (touched c outs) (cond b (Some (apps.left error a)) (Some a))) (named k m a h) ∙ by (is_named c m a.home) ∙ ap Some (one (apps.left error) (left_home error) c m outs (out.EndApp m error ∷ outs) (λ n a. refl) a)
      where
        by : (b : Bool) → option_map (touched c outs) (cond b (Some (apps.left error a)) (Some a)) ≡ Some (touched c outs (cond b (apps.left error a) a))
        by true = refl
        by false = refl
