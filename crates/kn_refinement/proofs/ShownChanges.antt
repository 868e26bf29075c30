-- What is shown where one agent, or one client, changes besides its core, and where one comes.
use Rattle.std.proofs.Common.{◌≡◌, ◌==◌, ◌++◌, ℕ, ℤ, suc, Bool, true, false, not, cond, List, [], ◌∷◌, length, Option, Some, None, refl, sym, ap, ◌∙◌, eqb-true, arith}
use Rattle.std.proofs.lemmas.Bool.{eq-eqb}
use Rattle.std.specs.Option.{option_map}
use Rattle.std.specs.Prelude.{nat_lt}
use Rattle.kn_edge_core.specs.AgentTables.{connection_at}
use Rattle.kn_edge_core.specs.declared.agent_state.AgentState.{AgentState}
use Rattle.kn_edge_core.specs.declared.client_state.ClientState.{ClientState}
use Rattle.kn_edge_core.specs.declared.connection.DestState.{DestState}
use Rattle.kn_tunnel.specs.Tunnel.{Present}
use Rattle.kn_packets.specs.Moves.{front_is, link_is, new_stream, stream_begins}
use Rattle.kn_packets.specs.World.{WorldApp, WorldDial, WorldLink, WorldStream}
use Rattle.kn_world.specs.declared.parts.Agent.{Agent}
use Rattle.kn_world.specs.declared.parts.App.{App}
use Rattle.kn_world.specs.declared.parts.Client.{Client}
use Rattle.kn_world.specs.declared.parts.Dial.{Dial}
use Rattle.kn_world.specs.declared.parts.Home.{Home}
use Rattle.kn_world.specs.declared.parts.Home.TheVariants as home
use Rattle.kn_world.specs.declared.parts.Owner.{Owner}
use Rattle.kn_world.specs.declared.parts.Owner.TheVariants as owner
use Rattle.kn_world.specs.declared.state.State.{State}
use Rattle.kn_world.specs.Arrivals.{with_agent}
use Rattle.kn_world.specs.Dials as dials
use Rattle.kn_world.specs.Numbers.{change, nth}
use Rattle.kn_world.specs.States.{new_agent, new_client}
use Rattle.kn_refinement.specs.Fits.{Fits}
use Rattle.kn_refinement.specs.Shown.{agent_of, app_at_home, app_of, client_app, client_of, client_stream, dial_of, is_told, link_of, shown, side_of, stream_of}
use Rattle.kn_refinement.proofs.NumberLemmas.{nth_change, nth_more, nth_within}
use Rattle.kn_refinement.proofs.Pairs.{came_last, some_is, was_still}
use Rattle.kn_refinement.proofs.Worlds.{worlds_same}

-- ---- a dial is shown alike where its agent has the core that it had
with_state : List Agent → Dial → Option DestState → WorldDial
with_state xs x there = record (dial_of xs (Some x)) { side = side_of there x.side }

dial_alike : (old new : List Agent) (x : Dial) → dials.state_at x.connect_id (nth x.link new) ≡ dials.state_at x.connect_id (nth x.link old) → dial_of new (Some x) ≡ dial_of old (Some x)
unfolding with_state
dial_alike old new x e = ap (with_state old x) e

state_alike : (f : Agent → Agent) (connect_id : ℤ) (o : Option Agent) → ((a : Agent) → (f a).core ≡ a.core) → dials.state_at connect_id (option_map f o) ≡ dials.state_at connect_id o
state_alike f connect_id None same = refl
state_alike f connect_id (Some a) same = ap (λ (c : AgentState). option_map (λ x. x.state) (connection_at connect_id c.connections)) (same a)

agent_alike : (f : Agent → Agent) (o : Option Agent) → ((a : Agent) → (f a).core ≡ a.core) → agent_of (option_map f o) ≡ agent_of o
agent_alike f None same = refl
agent_alike f (Some a) same = same a

if_alike : {X Y : Type 0} (g : Option X → Y) (b : Bool) (f : X → X) (o : Option X) → g (option_map f o) ≡ g o → g (cond b (option_map f o) o) ≡ g o
if_alike g true f o e = e
if_alike g false f o e = refl

-- ---- one agent's link
pub agent_changed : (s : State) (l : ℕ) (a : Agent) (f : Agent → Agent) (G : Bool → WorldLink → WorldLink) → nth l s.agents ≡ Some a → ((b : Agent) → (f b).core ≡ b.core)
    → ((x : WorldLink) → G false x ≡ x) → G true (link_of (Some a)) ≡ link_of (Some (f a))
    → record (shown s) { links = λ i. G (i == l) (link_of (nth i s.agents)) } ≡ shown (record s { agents = change f l s.agents })
agent_changed s l a f G there same other own = worlds_same (record (shown s) { links = λ i. G (i == l) (link_of (nth i s.agents)) }) (shown (record s { agents = change f l s.agents })) refl
    (λ i. sym (ap agent_of (nth_change f l i s.agents) ∙ if_alike agent_of (i == l) f (nth i s.agents) (agent_alike f (nth i s.agents) same)))
    (λ c. refl)
    (λ i. link i (i == l) refl ∙ sym (ap link_of (nth_change f l i s.agents)))
    (λ k. refl)
    (λ d. sym (dial (nth d s.dials)))
    (λ k. refl)
  where
    link : (i : ℕ) (b : Bool) → (i == l) ≡ b → G b (link_of (nth i s.agents)) ≡ link_of (cond b (option_map f (nth i s.agents)) (nth i s.agents))
    link i true e =
        let o : nth i s.agents ≡ Some a = ap (λ n. nth n s.agents) (eqb-true i l e) ∙ there in
        ap (λ x. G true (link_of x)) o ∙ own ∙ sym (ap (λ x. link_of (option_map f x)) o)
    link i false e = other (link_of (nth i s.agents))

    dial : (o : Option Dial) → dial_of (change f l s.agents) o ≡ dial_of s.agents o
    dial None = refl
    dial (Some x) = dial_alike s.agents (change f l s.agents) x
        (ap (dials.state_at x.connect_id) (nth_change f l x.link s.agents) ∙ if_alike (dials.state_at x.connect_id) (x.link == l) f (nth x.link s.agents) (state_alike f x.connect_id (nth x.link s.agents) same))

-- ---- an agent comes
pub beyond : {X : Type 0} (xs : List X) (n : ℕ) → n ≡ suc (length xs) → nth n xs ≡ None
beyond xs n e = here (nth n xs) refl
  where
    here : (o : Option _) → nth n xs ≡ o → o ≡ None
    here None h = refl
    here (Some x) h = let w = nth_within n xs x h in absurd (omega (arith, w, e))

pub agent_came : (s : State) → Fits s → link_is (suc (length s.agents)) Present (shown s) ≡ shown (with_agent s)
agent_came s fits = worlds_same (link_is (suc (length s.agents)) Present (shown s)) (shown (with_agent s)) refl
    (λ i. agent i (i == suc (length s.agents)) refl ∙ sym (ap agent_of (nth_more s.agents new_agent i)))
    (λ c. refl)
    (λ i. link i (i == suc (length s.agents)) refl ∙ sym (ap link_of (nth_more s.agents new_agent i)))
    (λ k. refl)
    (λ d. dial d (nth d s.dials) refl)
    (λ k. refl)
  where
    agent : (i : ℕ) (b : Bool) → (i == suc (length s.agents)) ≡ b → agent_of (nth i s.agents) ≡ agent_of (cond b (Some new_agent) (nth i s.agents))
    agent i true e = ap agent_of (beyond s.agents i (eqb-true i (suc (length s.agents)) e))
    agent i false e = refl

    link : (i : ℕ) (b : Bool) → (i == suc (length s.agents)) ≡ b → record (link_of (nth i s.agents)) { server = cond b Present (link_of (nth i s.agents)).server } ≡ link_of (cond b (Some new_agent) (nth i s.agents))
    link i true e = ap (λ o. record (link_of o) { server = Present }) (beyond s.agents i (eqb-true i (suc (length s.agents)) e))
    link i false e = refl

    dial : (d : ℕ) (o : Option Dial) → nth d s.dials ≡ o → dial_of s.agents o ≡ dial_of (s.agents ++ new_agent ∷ []) o
    dial d None e = refl
    dial d (Some x) e =
        let w = fits.agents.link d x e in
        sym (dial_alike s.agents (s.agents ++ new_agent ∷ []) x (ap (dials.state_at x.connect_id) (was_still s.agents new_agent x.link w.0 w.1 ∙ sym w.1)))

-- ---- one client's stream
app_with : ClientState → ℕ → ℕ → Client → App → WorldApp
app_with core front n x a = client_app n (Some (record x { core = core; front = front })) a

client_app_alike : (n : ℕ) (x y : Client) (a : App) → y.core ≡ x.core → y.front ≡ x.front → client_app n (Some y) a ≡ client_app n (Some x) a
unfolding app_with
client_app_alike n x y a core front = ap (λ c. app_with c y.front n y a) core ∙ ap (λ f. app_with x.core f n y a) front

home_alike : (f : Client → Client) (n : ℕ) (o : Option Client) (a : App) → ((x : Client) → (f x).core ≡ x.core) → ((x : Client) → (f x).front ≡ x.front)
    → cond (is_told n (option_map f o)) (client_app n (option_map f o) a) (client_app n None a) ≡ cond (is_told n o) (client_app n o a) (client_app n None a)
home_alike f n None a core front = refl
home_alike f n (Some x) a core front =
    ap (λ (c : ClientState). cond (not (nat_lt c.top_app n)) (client_app n (Some (f x)) a) (client_app n None a)) (core x)
    ∙ ap (λ v. cond (not (nat_lt x.core.top_app n)) v (client_app n None a)) (client_app_alike n x (f x) a (core x) (front x))

client_alike : (f : Client → Client) (o : Option Client) → ((x : Client) → (f x).core ≡ x.core) → client_of (option_map f o) ≡ client_of o
client_alike f None same = refl
client_alike f (Some x) same = same x

pub client_changed : (s : State) (c : ℕ) (x : Client) (f : Client → Client) (G : Bool → WorldStream → WorldStream) → Fits s → nth c s.clients ≡ Some x
    → ((y : Client) → (f y).core ≡ y.core) → ((y : Client) → (f y).front ≡ y.front)
    → ((y : WorldStream) → G false y ≡ y) → G true (client_stream c (Some x)) ≡ client_stream c (Some (f x))
    → record (shown s) { streams = λ i. G (i == x.front) (stream_of s.clients s.apps (nth i s.fronts)) } ≡ shown (record s { clients = change f c s.clients })
client_changed s c x f G fits there core front other own = worlds_same (record (shown s) { streams = λ i. G (i == x.front) (stream_of s.clients s.apps (nth i s.fronts)) }) (shown (record s { clients = change f c s.clients })) refl
    (λ i. refl)
    (λ i. sym (ap client_of (nth_change f c i s.clients) ∙ if_alike client_of (i == c) f (nth i s.clients) (client_alike f (nth i s.clients) core)))
    (λ i. refl)
    (λ i. stream i (i == x.front) refl)
    (λ d. refl)
    (λ k. sym (app (nth k s.apps)))
  where
    app : (o : Option App) → app_of (change f c s.clients) o ≡ app_of s.clients o
    app None = refl
    app (Some a) = at a.home
      where
        at : (h : Home) → app_at_home (change f c s.clients) h a ≡ app_at_home s.clients h a
        at home.Connect = refl
        at (home.Client i n) =
            ap (λ o. cond (is_told n o) (client_app n o a) (client_app n None a)) (nth_change f c i s.clients)
            ∙ if_alike (λ o. cond (is_told n o) (client_app n o a) (client_app n None a)) (i == c) f (nth i s.clients) (home_alike f n (nth i s.clients) a core front)

    -- the stream of another client, or of an app
    others : (i : ℕ) → (i == x.front) ≡ false → (o : Option Owner) → nth i s.fronts ≡ o → stream_of s.clients s.apps o ≡ stream_of (change f c s.clients) s.apps o
    others i e None h = refl
    others i e (Some (owner.App k)) h = refl
    others i e (Some (owner.Client d)) h = at (d == c) refl ∙ sym (ap (client_stream d) (nth_change f c d s.clients))
      where
        at : (b : Bool) → (d == c) ≡ b → client_stream d (nth d s.clients) ≡ client_stream d (cond b (option_map f (nth d s.clients)) (nth d s.clients))
        at true g =
            let w = fits.fronts.of_client i d h in
            let z : w.0 ≡ x = some_is (sym w.1 ∙ ap (λ n. nth n s.clients) (eqb-true d c g) ∙ there) in
            let same : i ≡ x.front = sym w.2 ∙ ap (λ (v : Client). v.front) z in
            absurd (cc (e, eq-eqb i x.front same))
        at false g = refl

    stream : (i : ℕ) (b : Bool) → (i == x.front) ≡ b → G b (stream_of s.clients s.apps (nth i s.fronts)) ≡ stream_of (change f c s.clients) s.apps (nth i s.fronts)
    stream i true e =
        let o : nth i s.fronts ≡ Some (owner.Client c) = ap (λ n. nth n s.fronts) (eqb-true i x.front e) ∙ fits.fronts.client c x there in
        ap (λ q. G true (stream_of s.clients s.apps q)) o ∙ ap (λ q. G true (client_stream c q)) there ∙ own
        ∙ sym (ap (λ q. stream_of (change f c s.clients) s.apps q) o ∙ ap (client_stream c) (nth_change f c c s.clients ∙ ap (λ b. cond b (option_map f (nth c s.clients)) (nth c s.clients)) (eq-eqb c c refl) ∙ ap (option_map f) there))
    stream i false e = other (stream_of s.clients s.apps (nth i s.fronts)) ∙ others i e (nth i s.fronts) refl

-- ---- a client comes, and its front
abbrev pub came_as : ℕ → State → State
came_as front s = record s { fronts = s.fronts ++ owner.Client (suc (length s.clients)) ∷ []; clients = s.clients ++ new_client front ∷ [] }

pub client_came : (s : State) → Fits s
    → front_is (suc (length s.fronts)) Present (stream_begins (suc (length s.fronts)) (new_stream false (suc (length s.clients)) 0) (shown s)) ≡ shown (came_as (suc (length s.fronts)) s)
client_came s fits = worlds_same (front_is (suc (length s.fronts)) Present (stream_begins (suc (length s.fronts)) (new_stream false (suc (length s.clients)) 0) (shown s))) (shown (came_as (suc (length s.fronts)) s)) refl
    (λ i. refl)
    (λ i. client i (i == suc (length s.clients)) refl ∙ sym (ap client_of (nth_more s.clients (new_client (suc (length s.fronts))) i)))
    (λ i. refl)
    (λ i. stream i (i == suc (length s.fronts)) refl ∙ sym (ap (stream_of (s.clients ++ new_client (suc (length s.fronts)) ∷ []) s.apps) (nth_more s.fronts (owner.Client (suc (length s.clients))) i)))
    (λ d. refl)
    (λ k. app k (nth k s.apps) refl)
  where
    client : (i : ℕ) (b : Bool) → (i == suc (length s.clients)) ≡ b → client_of (nth i s.clients) ≡ client_of (cond b (Some (new_client (suc (length s.fronts)))) (nth i s.clients))
    client i true e = ap client_of (beyond s.clients i (eqb-true i (suc (length s.clients)) e))
    client i false e = refl

    app : (k : ℕ) (o : Option App) → nth k s.apps ≡ o → app_of s.clients o ≡ app_of (s.clients ++ new_client (suc (length s.fronts)) ∷ []) o
    app k None e = refl
    app k (Some a) e = at a.home refl
      where
        at : (h : Home) → a.home ≡ h → app_at_home s.clients h a ≡ app_at_home (s.clients ++ new_client (suc (length s.fronts)) ∷ []) h a
        at home.Connect g = refl
        at (home.Client c n) g =
            let w = fits.clients.number_of k c n a e g in
            ap (λ o. cond (is_told n o) (client_app n o a) (client_app n None a)) (w.1 ∙ sym (was_still s.clients (new_client (suc (length s.fronts))) c w.0 w.1))

    old : (i : ℕ) (o : Option Owner) → nth i s.fronts ≡ o → stream_of s.clients s.apps o ≡ stream_of (s.clients ++ new_client (suc (length s.fronts)) ∷ []) s.apps o
    old i None e = refl
    old i (Some (owner.App k)) e = refl
    old i (Some (owner.Client c)) e = let w = fits.fronts.of_client i c e in ap (client_stream c) (w.1 ∙ sym (was_still s.clients (new_client (suc (length s.fronts))) c w.0 w.1))

    stream : (i : ℕ) (b : Bool) → (i == suc (length s.fronts)) ≡ b
        → record (cond b (new_stream false (suc (length s.clients)) 0) (stream_of s.clients s.apps (nth i s.fronts))) { front = cond b Present (cond b (new_stream false (suc (length s.clients)) 0) (stream_of s.clients s.apps (nth i s.fronts))).front }
        ≡ stream_of (s.clients ++ new_client (suc (length s.fronts)) ∷ []) s.apps (cond b (Some (owner.Client (suc (length s.clients)))) (nth i s.fronts))
    stream i true e = sym (ap (client_stream (suc (length s.clients))) (came_last s.clients (new_client (suc (length s.fronts)))))
    stream i false e = old i (nth i s.fronts) refl
