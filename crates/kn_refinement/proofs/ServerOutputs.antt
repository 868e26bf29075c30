-- What the server gives out, to one agent, one client and one app of the running world: the lists of a state, member by member.
use Rattle.std.proofs.Common.{◌≡◌, ◌==◌, ◌++◌, ℕ, Bool, true, false, cond, List, [], ◌∷◌, Option, Some, None, refl, ap, ◌∙◌}
use Rattle.std.specs.Option.{option_map}
use Rattle.kn_packet.specs.declared.packet.Packet.{Packet}
use Rattle.kn_server_core.specs.declared.event.ServerOut.{ServerOut}
use Rattle.kn_server_core.specs.declared.event.ServerOut.TheVariants as out
use Rattle.kn_world.specs.declared.parts.Agent.{Agent}
use Rattle.kn_world.specs.declared.parts.App.{App}
use Rattle.kn_world.specs.declared.parts.Client.{Client}
use Rattle.kn_world.specs.declared.parts.Dial.{Dial}
use Rattle.kn_world.specs.declared.parts.Owner.{Owner}
use Rattle.kn_world.specs.declared.parts.Owner.TheVariants as owner
use Rattle.kn_world.specs.declared.state.State.{State}
use Rattle.kn_world.specs.Agents as agents
use Rattle.kn_world.specs.Apps as apps
use Rattle.kn_world.specs.Clients as clients
use Rattle.kn_world.specs.Numbers.{nth}
use Rattle.kn_world.specs.ServerSteps.{gives, gives_all, to_owner}
use Rattle.kn_world.specs.States.{new_dial}
use Rattle.kn_refinement.proofs.NumberLemmas.{nth_change}

-- ---- whose a front is
abbrev pub is_client : ℕ → Option Owner → Bool
is_client c None = false
is_client c (Some (owner.Client other)) = c == other
is_client c (Some (owner.App app)) = false

abbrev pub is_app : ℕ → Option Owner → Bool
is_app k None = false
is_app k (Some (owner.Client client)) = false
is_app k (Some (owner.App other)) = k == other

-- ---- what one output is to an agent, a client, an app
abbrev pub agent_given : ServerOut → ℕ → Agent → Agent
agent_given (out.ToLink link p) l a = cond (l == link) (agents.queued_down p a) a
agent_given (out.CutLink link) l a = cond (l == link) (agents.cut_off a) a
agent_given (out.ToFront front p) l a = a
agent_given (out.Made dial link front) l a = a

abbrev pub client_given : List Owner → ServerOut → ℕ → Client → Client
client_given fronts (out.ToFront front p) c x = cond (is_client c (nth front fronts)) (clients.queued_down p x) x
client_given fronts (out.ToLink link p) c x = x
client_given fronts (out.CutLink link) c x = x
client_given fronts (out.Made dial link front) c x = x

abbrev pub app_given : List Owner → ℕ → ServerOut → ℕ → App → App
app_given fronts app (out.ToFront front p) k a = cond (is_app k (nth front fronts)) (apps.heard p a) a
app_given fronts app (out.Made dial link front) k a = cond (k == app) (apps.with_dial dial a) a
app_given fronts app (out.ToLink link p) k a = a
app_given fronts app (out.CutLink link) k a = a

-- ---- all of them
abbrev pub agent_after : List ServerOut → ℕ → Agent → Agent
agent_after [] l a = a
agent_after (o ∷ os) l a = agent_after os l (agent_given o l a)

abbrev pub client_after : List Owner → List ServerOut → ℕ → Client → Client
client_after fronts [] c x = x
client_after fronts (o ∷ os) c x = client_after fronts os c (client_given fronts o c x)

abbrev pub app_after : List Owner → ℕ → List ServerOut → ℕ → App → App
app_after fronts app [] k a = a
app_after fronts app (o ∷ os) k a = app_after fronts app os k (app_given fronts app o k a)

abbrev pub dials_given : ℕ → ServerOut → List Dial → List Dial
dials_given app (out.Made dial link front) ds = ds ++ new_dial link app ∷ []
dials_given app (out.ToLink link p) ds = ds
dials_given app (out.ToFront front p) ds = ds
dials_given app (out.CutLink link) ds = ds

abbrev pub dials_after : ℕ → List ServerOut → List Dial → List Dial
dials_after app [] ds = ds
dials_after app (o ∷ os) ds = dials_after app os (dials_given app o ds)

-- ---- the lists of a state
map_twice : {X : Type 0} (f g : X → X) (o : Option X) → option_map f (option_map g o) ≡ option_map (λ x. f (g x)) o
map_twice f g None = refl
map_twice f g (Some x) = refl

map_same : {X : Type 0} (o : Option X) → o ≡ option_map (λ x. x) o
map_same None = refl
map_same (Some x) = refl

map_if : {X : Type 0} (b : Bool) (f : X → X) (o : Option X) → cond b (option_map f o) o ≡ option_map (λ x. cond b (f x) x) o
map_if true f o = refl
map_if false f o = map_same o

-- what is given to an owner changes its own member alone
owner_keeps_agents : (o : Option Owner) (p : Packet) (s : State) → (to_owner o p s).agents ≡ s.agents
owner_keeps_agents None p s = refl
owner_keeps_agents (Some (owner.Client c)) p s = refl
owner_keeps_agents (Some (owner.App k)) p s = refl

owner_clients : (o : Option Owner) (p : Packet) (s : State) (c : ℕ) → nth c (to_owner o p s).clients ≡ option_map (λ x. cond (is_client c o) (clients.queued_down p x) x) (nth c s.clients)
owner_clients None p s c = map_same (nth c s.clients)
owner_clients (Some (owner.Client other)) p s c = nth_change (clients.queued_down p) other c s.clients ∙ map_if (c == other) (clients.queued_down p) (nth c s.clients)
owner_clients (Some (owner.App k)) p s c = map_same (nth c s.clients)

owner_apps : (o : Option Owner) (p : Packet) (s : State) (k : ℕ) → nth k (to_owner o p s).apps ≡ option_map (λ a. cond (is_app k o) (apps.heard p a) a) (nth k s.apps)
owner_apps None p s k = map_same (nth k s.apps)
owner_apps (Some (owner.Client c)) p s k = map_same (nth k s.apps)
owner_apps (Some (owner.App other)) p s k = nth_change (apps.heard p) other k s.apps ∙ map_if (k == other) (apps.heard p) (nth k s.apps)

owner_keeps_dials : (o : Option Owner) (p : Packet) (s : State) → (to_owner o p s).dials ≡ s.dials
owner_keeps_dials None p s = refl
owner_keeps_dials (Some (owner.Client c)) p s = refl
owner_keeps_dials (Some (owner.App k)) p s = refl

owner_keeps_fronts : (o : Option Owner) (p : Packet) (s : State) → (to_owner o p s).fronts ≡ s.fronts
owner_keeps_fronts None p s = refl
owner_keeps_fronts (Some (owner.Client c)) p s = refl
owner_keeps_fronts (Some (owner.App k)) p s = refl

owner_keeps_server : (o : Option Owner) (p : Packet) (s : State) → (to_owner o p s).server ≡ s.server
owner_keeps_server None p s = refl
owner_keeps_server (Some (owner.Client c)) p s = refl
owner_keeps_server (Some (owner.App k)) p s = refl

-- ---- one output
agents_given : (o : ServerOut) (app : ℕ) (s : State) (l : ℕ) → nth l (gives o app s).agents ≡ option_map (agent_given o l) (nth l s.agents)
agents_given (out.ToLink link p) app s l = nth_change (agents.queued_down p) link l s.agents ∙ map_if (l == link) (agents.queued_down p) (nth l s.agents)
agents_given (out.CutLink link) app s l = nth_change agents.cut_off link l s.agents ∙ map_if (l == link) agents.cut_off (nth l s.agents)
agents_given (out.ToFront front p) app s l = ap (nth l) (owner_keeps_agents (nth front s.fronts) p s) ∙ map_same (nth l s.agents)
agents_given (out.Made dial link front) app s l = map_same (nth l s.agents)

clients_given : (o : ServerOut) (app : ℕ) (s : State) (c : ℕ) → nth c (gives o app s).clients ≡ option_map (client_given s.fronts o c) (nth c s.clients)
clients_given (out.ToLink link p) app s c = map_same (nth c s.clients)
clients_given (out.CutLink link) app s c = map_same (nth c s.clients)
clients_given (out.ToFront front p) app s c = owner_clients (nth front s.fronts) p s c
clients_given (out.Made dial link front) app s c = map_same (nth c s.clients)

apps_given : (o : ServerOut) (app : ℕ) (s : State) (k : ℕ) → nth k (gives o app s).apps ≡ option_map (app_given s.fronts app o k) (nth k s.apps)
apps_given (out.ToLink link p) app s k = map_same (nth k s.apps)
apps_given (out.CutLink link) app s k = map_same (nth k s.apps)
apps_given (out.ToFront front p) app s k = owner_apps (nth front s.fronts) p s k
apps_given (out.Made dial link front) app s k = nth_change (apps.with_dial dial) app k s.apps ∙ map_if (k == app) (apps.with_dial dial) (nth k s.apps)

all_dials_given : (o : ServerOut) (app : ℕ) (s : State) → (gives o app s).dials ≡ dials_given app o s.dials
all_dials_given (out.ToLink link p) app s = refl
all_dials_given (out.CutLink link) app s = refl
all_dials_given (out.ToFront front p) app s = owner_keeps_dials (nth front s.fronts) p s
all_dials_given (out.Made dial link front) app s = refl

fronts_given : (o : ServerOut) (app : ℕ) (s : State) → (gives o app s).fronts ≡ s.fronts
fronts_given (out.ToLink link p) app s = refl
fronts_given (out.CutLink link) app s = refl
fronts_given (out.ToFront front p) app s = owner_keeps_fronts (nth front s.fronts) p s
fronts_given (out.Made dial link front) app s = refl

server_given : (o : ServerOut) (app : ℕ) (s : State) → (gives o app s).server ≡ s.server
server_given (out.ToLink link p) app s = refl
server_given (out.CutLink link) app s = refl
server_given (out.ToFront front p) app s = owner_keeps_server (nth front s.fronts) p s
server_given (out.Made dial link front) app s = refl

-- ---- all outputs
pub agents_after : (os : List ServerOut) (app : ℕ) (s : State) (l : ℕ) → nth l (gives_all os app s).agents ≡ option_map (agent_after os l) (nth l s.agents)
agents_after [] app s l = map_same (nth l s.agents)
agents_after (o ∷ os) app s l = agents_after os app (gives o app s) l ∙ ap (option_map (agent_after os l)) (agents_given o app s l) ∙ map_twice (agent_after os l) (agent_given o l) (nth l s.agents)

pub clients_after : (os : List ServerOut) (app : ℕ) (s : State) (c : ℕ) → nth c (gives_all os app s).clients ≡ option_map (client_after s.fronts os c) (nth c s.clients)
clients_after [] app s c = map_same (nth c s.clients)
clients_after (o ∷ os) app s c =
    clients_after os app (gives o app s) c
    ∙ ap (λ f. option_map (client_after f os c) (nth c (gives o app s).clients)) (fronts_given o app s)
    ∙ ap (option_map (client_after s.fronts os c)) (clients_given o app s c)
    ∙ map_twice (client_after s.fronts os c) (client_given s.fronts o c) (nth c s.clients)

pub apps_after : (os : List ServerOut) (app : ℕ) (s : State) (k : ℕ) → nth k (gives_all os app s).apps ≡ option_map (app_after s.fronts app os k) (nth k s.apps)
apps_after [] app s k = map_same (nth k s.apps)
apps_after (o ∷ os) app s k =
    apps_after os app (gives o app s) k
    ∙ ap (λ f. option_map (app_after f app os k) (nth k (gives o app s).apps)) (fronts_given o app s)
    ∙ ap (option_map (app_after s.fronts app os k)) (apps_given o app s k)
    ∙ map_twice (app_after s.fronts app os k) (app_given s.fronts app o k) (nth k s.apps)

pub all_dials_after : (os : List ServerOut) (app : ℕ) (s : State) → (gives_all os app s).dials ≡ dials_after app os s.dials
all_dials_after [] app s = refl
all_dials_after (o ∷ os) app s = all_dials_after os app (gives o app s) ∙ ap (dials_after app os) (all_dials_given o app s)

pub fronts_after : (os : List ServerOut) (app : ℕ) (s : State) → (gives_all os app s).fronts ≡ s.fronts
fronts_after [] app s = refl
fronts_after (o ∷ os) app s = fronts_after os app (gives o app s) ∙ fronts_given o app s

pub server_after : (os : List ServerOut) (app : ℕ) (s : State) → (gives_all os app s).server ≡ s.server
server_after [] app s = refl
server_after (o ∷ os) app s = server_after os app (gives o app s) ∙ server_given o app s
