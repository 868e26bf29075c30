-- What a step of a client brings to the facts on keys: its packets, its list of apps, the stream that an app is on.
use Rattle.std.proofs.Common.{◌≡◌, ◌≢◌, ◌==◌, ◌++◌, ℕ, Bool, true, false, not, cond, List, [], ◌∷◌, length, Option, Some, None, refl, sym, ap, ◌∙◌, eqb-true, subst, append-nil}
use Rattle.kn_packet.specs.declared.packet.Packet.{Packet}
use Rattle.kn_tables.specs.Lists.{IsRising, first_where}
use Rattle.kn_server_core.specs.Isolation.{Each}
use Rattle.kn_server_core.proofs.OrderLemmas.{rising_mapped, rising_without}
use Rattle.kn_edge_core.specs.ClientTables.{app_changed, is_app, without_app}
use Rattle.kn_edge_core.specs.Steps.{ClientStep}
use Rattle.kn_edge_core.specs.declared.app.App.{App}
use Rattle.kn_edge_core.specs.declared.app.AppState.{AppState}
use Rattle.kn_edge_core.specs.declared.app.AppState.TheVariants as app
use Rattle.kn_tunnel.specs.Facts.{Facts}
use Rattle.kn_tunnel.specs.Kinds.{is_drawn, is_gone}
use Rattle.kn_tunnel.specs.StreamSide.{phase_fits}
use Rattle.kn_tunnel.specs.Tunnel.{Side}
use Rattle.kn_words.specs.In.{in_follows, in_of, in_ordered, stream_in_item}
use Rattle.kn_words.proofs.InOrder.{in_order_append}
use Rattle.kn_packets.specs.Keys.{IsAppOf, Keys, ListedFits}
use Rattle.kn_packets.specs.Moves.{is_of_client}
use Rattle.kn_packets.specs.Outputs.{for_app, from_client, queued}
use Rattle.kn_packets.specs.World.{World, app_phase, tunnel_of}
use Rattle.kn_packets.proofs.ClientKept.{Calm, Fits, Parts, Told, not_connect, owned}
use Rattle.kn_packets.proofs.ClientLists.{left_other, left_own, turned_other, turned_own}
use Rattle.kn_packets.proofs.ClientParts.{held_client}

-- ---- the lists of streams
pub whole : (w : World) → Parts w (λ i. (w.streams i).up) (λ i. (w.streams i).down) (λ i. (w.streams i).client)
whole w = record { up = λ i. ([], append-nil (w.streams i).up); down = λ i. ([], refl); client = λ i h. h }

pub taken : (w : World) (f : ℕ) (p : Packet) (rest : List Packet) → (w.streams f).down ≡ p ∷ rest → Parts w (λ i. (w.streams i).up) (λ i. cond (i == f) rest (w.streams i).down) (λ i. (w.streams i).client)
taken w f p rest first = record { up = λ i. ([], append-nil (w.streams i).up); down = λ i. here i (i == f) refl; client = λ i h. h }
  where
    here : (i : ℕ) (b : Bool) → (i == f) ≡ b → (front : List Packet) × (front ++ cond b rest (w.streams i).down ≡ (w.streams i).down)
    here i true on = (p ∷ [], sym first ∙ ap (λ j. (w.streams j).down) (sym (eqb-true i f on)))
    here i false off = ([], refl)

-- ---- its list of apps
pub record Apps (w : World) (c : ℕ) (s : ClientStep) (S : ℕ → Side) : Type 0 where
  pub rise : IsRising (λ (x : App). x.number) s.state.apps
  pub known : (n : ℕ) (x : App) → first_where (is_app n) s.state.apps ≡ Some x → (k : ℕ) × IsAppOf w c n k
  pub listed : (k : ℕ) (x : App) → (w.apps k).came ≡ true → is_of_client c (w.streams (w.apps k).stream) ≡ true → first_where (is_app (w.apps k).number) s.state.apps ≡ Some x → Fits w k x (for_app (w.apps k).number s.outs (S k).unwritten)

some_app : (a b : App) → Some a ≡ Some b → a ≡ b
some_app a b e = cc

module _ (w : World) (c : ℕ) (keys : Keys w) where
  abbrev apps : List App
  apps = (w.clients c).apps

  pub old_fits : (k : ℕ) (x : App) → (w.apps k).came ≡ true → is_of_client c (w.streams (w.apps k).stream) ≡ true → first_where (is_app (w.apps k).number) apps ≡ Some x → ListedFits w k x
  old_fits k x came of f = keys.clients.listed k x came (not_connect c (w.streams (w.apps k).stream) of) (subst (λ i. first_where (is_app (w.apps k).number) (w.clients i).apps ≡ Some x) (sym (owned c (w.streams (w.apps k).stream) of)) f)

  -- nothing is written to its apps, and they stay
  pub apps_same : (s : ClientStep) (S : ℕ → Side) → s.state.apps ≡ apps → ((n : ℕ) (old : List ℕ) → for_app n s.outs old ≡ old) → ((k : ℕ) → (S k).unwritten ≡ (w.apps k).side.unwritten) → Apps w c s S
  apps_same s S same writes sides = record {
    rise = subst (λ xs. IsRising (λ (x : App). x.number) xs) (sym same) (keys.clients.apps_rise c);
    known = λ n x f. keys.clients.known c n x (sym (ap (first_where (is_app n)) same) ∙ f);
    listed = λ k x came of f. let h = old_fits k x came of (sym (ap (first_where (is_app (w.apps k).number)) same) ∙ f) in record {
      unwritten = h.unwritten ∙ ap length (sym (writes (w.apps k).number (S k).unwritten ∙ sides k));
      dial = h.dial;
    };
  }

  -- an app changes
  pub apps_turned : (s : ClientStep) (S : ℕ → Side) (m : ℕ) (a : App) (g : App → App) → ((x : App) → (g x).number ≡ x.number) → first_where (is_app m) apps ≡ Some a → s.state.apps ≡ app_changed m g apps
      → ((k : ℕ) → (w.apps k).came ≡ true → is_of_client c (w.streams (w.apps k).stream) ≡ true → (w.apps k).number ≡ m → ListedFits w k a → Fits w k (g a) (for_app (w.apps k).number s.outs (S k).unwritten))
      → ((k : ℕ) → (w.apps k).came ≡ true → is_of_client c (w.streams (w.apps k).stream) ≡ true → ((w.apps k).number == m) ≡ false → for_app (w.apps k).number s.outs (S k).unwritten ≡ (w.apps k).side.unwritten) → Apps w c s S
  apps_turned s S m a g same at is own others = record {
    rise = subst (λ xs. IsRising (λ (x : App). x.number) xs) (sym is) (rising_mapped (λ (x : App). x.number) (λ x. cond (is_app m x) (g x) x) apps (λ x. number (is_app m x) x) (keys.clients.apps_rise c));
    known = λ n x f. known_here n x (sym (ap (first_where (is_app n)) is) ∙ f) (n == m) refl;
    listed = λ k x came of f. listed_here k x came of (sym (ap (first_where (is_app (w.apps k).number)) is) ∙ f) ((w.apps k).number == m) refl;
  }
    where
      number : (b : Bool) (x : App) → (cond b (g x) x).number ≡ x.number
      number true x = same x
      number false x = refl

      known_here : (n : ℕ) (x : App) → first_where (is_app n) (app_changed m g apps) ≡ Some x → (b : Bool) → (n == m) ≡ b → (k : ℕ) × IsAppOf w c n k
      known_here n x f true on = subst (λ i. (k : ℕ) × IsAppOf w c i k) (sym (eqb-true n m on)) (keys.clients.known c m a at)
      known_here n x f false off = keys.clients.known c n x (sym (turned_other n m g apps same off) ∙ f)

      listed_here : (k : ℕ) (x : App) → (w.apps k).came ≡ true → is_of_client c (w.streams (w.apps k).stream) ≡ true → first_where (is_app (w.apps k).number) (app_changed m g apps) ≡ Some x → (b : Bool) → ((w.apps k).number == m) ≡ b → Fits w k x (for_app (w.apps k).number s.outs (S k).unwritten)
      listed_here k x came of f true on =
          let e : (w.apps k).number ≡ m = eqb-true (w.apps k).number m on in
          let found : Some (g a) ≡ Some x = sym (turned_own m g a apps same at) ∙ ap (λ i. first_where (is_app i) (app_changed m g apps)) (sym e) ∙ f in
          subst (λ y. Fits w k y (for_app (w.apps k).number s.outs (S k).unwritten)) (some_app (g a) x found) (own k came of e (old_fits k a came of (ap (λ i. first_where (is_app i) apps) e ∙ at)))
      listed_here k x came of f false off =
          let h = old_fits k x came of (sym (turned_other (w.apps k).number m g apps same off) ∙ f) in record {
            unwritten = h.unwritten ∙ ap length (sym (others k came of off));
            dial = h.dial;
          }

  -- an app leaves
  pub apps_without : (s : ClientStep) (S : ℕ → Side) (m : ℕ) (a : App) → first_where (is_app m) apps ≡ Some a → s.state.apps ≡ without_app m apps → ((n : ℕ) (old : List ℕ) → for_app n s.outs old ≡ old)
      → ((k : ℕ) → (w.apps k).came ≡ true → is_of_client c (w.streams (w.apps k).stream) ≡ true → ((w.apps k).number == m) ≡ false → (S k).unwritten ≡ (w.apps k).side.unwritten) → Apps w c s S
  apps_without s S m a at is writes others = record {
    rise = subst (λ xs. IsRising (λ (x : App). x.number) xs) (sym is) (rising_without (λ (x : App). x.number) (is_app m) apps (keys.clients.apps_rise c));
    known = λ n x f. known_here n x (sym (ap (first_where (is_app n)) is) ∙ f) (n == m) refl;
    listed = λ k x came of f. listed_here k x came of (sym (ap (first_where (is_app (w.apps k).number)) is) ∙ f) ((w.apps k).number == m) refl;
  }
    where
      gone : (n : ℕ) → (n == m) ≡ true → first_where (is_app n) (without_app m apps) ≡ None
      gone n on = ap (λ i. first_where (is_app i) (without_app m apps)) (eqb-true n m on) ∙ left_own m a apps (keys.clients.apps_rise c) at

      known_here : (n : ℕ) (x : App) → first_where (is_app n) (without_app m apps) ≡ Some x → (b : Bool) → (n == m) ≡ b → (k : ℕ) × IsAppOf w c n k
      known_here n x f true on = let none = gone n on in absurd (cc (none, f))
      known_here n x f false off = keys.clients.known c n x (sym (left_other n m apps off) ∙ f)

      listed_here : (k : ℕ) (x : App) → (w.apps k).came ≡ true → is_of_client c (w.streams (w.apps k).stream) ≡ true → first_where (is_app (w.apps k).number) (without_app m apps) ≡ Some x → (b : Bool) → ((w.apps k).number == m) ≡ b → Fits w k x (for_app (w.apps k).number s.outs (S k).unwritten)
      listed_here k x came of f true on = let none = gone (w.apps k).number on in absurd (cc (none, f))
      listed_here k x came of f false off =
          let h = old_fits k x came of (sym (left_other (w.apps k).number m apps off) ∙ f) in record {
            unwritten = h.unwritten ∙ ap length (sym (writes (w.apps k).number (S k).unwritten ∙ others k came of off));
            dial = h.dial;
          }

  -- all that a step brings
  pub calm_of : (s : ClientStep) (U D : ℕ → List Packet) (K : ℕ → Bool) (S : ℕ → Side) → Parts w U D K → ((k : ℕ) → is_of_client c (w.streams (w.apps k).stream) ≡ false → S k ≡ (w.apps k).side) → s.state.top_app ≡ (w.clients c).top_app
      → ((f : ℕ) → is_of_client c (w.streams f) ≡ true → K f ≡ true → Each (Told w f) (from_client s.outs)) → Apps w c s S
      → ((k : ℕ) → (w.apps k).came ≡ true → is_of_client c (w.streams (w.apps k).stream) ≡ true → K (w.apps k).stream ≡ true
      → in_ordered (stream_in_item false (w.apps k).number (w.apps k).dial) (queued (not (is_gone (w.streams (w.apps k).stream).front)) (U (w.apps k).stream) (from_client s.outs)) ≡ true) → Calm w c s U D K S
  calm_of s U D K S parts sides top told its order = record { parts = parts; sides = sides; top = top; told = told; rise = its.rise; known = its.known; listed = its.listed; order = order }

  -- ---- the order
  pub order_old : (k : ℕ) → (w.apps k).came ≡ true → is_of_client c (w.streams (w.apps k).stream) ≡ true → in_ordered (stream_in_item false (w.apps k).number (w.apps k).dial) (w.streams (w.apps k).stream).up ≡ true
  order_old k came of = subst (λ b. in_ordered (stream_in_item b (w.apps k).number (w.apps k).dial) (w.streams (w.apps k).stream).up ≡ true) (not_connect c (w.streams (w.apps k).stream) of) (keys.ordered k came).inward

  pub order_one : (p : Packet) → ((k : ℕ) → (w.apps k).came ≡ true → is_of_client c (w.streams (w.apps k).stream) ≡ true → (w.streams (w.apps k).stream).client ≡ true → not (is_gone (w.streams (w.apps k).stream).front) ≡ true
      → in_follows (in_of (stream_in_item false (w.apps k).number (w.apps k).dial) (w.streams (w.apps k).stream).up) (stream_in_item false (w.apps k).number (w.apps k).dial p) ≡ true)
      → (k : ℕ) → (w.apps k).came ≡ true → is_of_client c (w.streams (w.apps k).stream) ≡ true → (w.streams (w.apps k).stream).client ≡ true
      → in_ordered (stream_in_item false (w.apps k).number (w.apps k).dial) (queued (not (is_gone (w.streams (w.apps k).stream).front)) (w.streams (w.apps k).stream).up (p ∷ [])) ≡ true
  order_one p follows k came of has = by (not (is_gone (w.streams (w.apps k).stream).front)) (follows k came of has)
    where
      by : (b : Bool) → (b ≡ true → in_follows (in_of (stream_in_item false (w.apps k).number (w.apps k).dial) (w.streams (w.apps k).stream).up) (stream_in_item false (w.apps k).number (w.apps k).dial p) ≡ true)
          → in_ordered (stream_in_item false (w.apps k).number (w.apps k).dial) (queued b (w.streams (w.apps k).stream).up (p ∷ [])) ≡ true
      by true f = in_order_append (stream_in_item false (w.apps k).number (w.apps k).dial) (w.streams (w.apps k).stream).up p (order_old k came of) (f refl)
      by false f = order_old k came of

  -- ---- an app that is listed and doesn't linger is on the stream that its client has
  pub has_stream : (k : ℕ) (x : App) → (w.apps k).came ≡ true → is_of_client c (w.streams (w.apps k).stream) ≡ true → first_where (is_app (w.apps k).number) apps ≡ Some x → x.state ≢ app.Lingering → (w.streams (w.apps k).stream).client ≡ true
  has_stream k x came of at stays = by_client (w.streams (w.apps k).stream).client refl
    where
      cf : (w.streams (w.apps k).stream).connect ≡ false
      cf = not_connect c (w.streams (w.apps k).stream) of

      ow : (w.streams (w.apps k).stream).owner ≡ c
      ow = owned c (w.streams (w.apps k).stream) of

      fits : (D : Option ℕ) → Facts (tunnel_of w (w.apps k) D) → (w.streams (w.apps k).stream).client ≡ false → phase_fits false (app_phase x.state) false (is_drawn (tunnel_of w (w.apps k) D).far) ≡ true
      fits None facts lost = rw (cf, ow, at) at (held_client (tunnel_of w (w.apps k) None) facts.stream lost)
      fits (Some d) facts lost = rw (cf, ow, at) at (held_client (tunnel_of w (w.apps k) (Some d)) facts.stream lost)

      by_state : (w.streams (w.apps k).stream).client ≡ false → (s : AppState) → x.state ≡ s → s ≡ app.Lingering
      by_state lost app.Lingering es = refl
      by_state lost app.Dialling es = absurd (cc (rw es at (fits (w.apps k).dial (keys.facts k came) lost)))
      by_state lost app.Open es = absurd (cc (rw es at (fits (w.apps k).dial (keys.facts k came) lost)))
      by_state lost app.Closing es = absurd (cc (rw es at (fits (w.apps k).dial (keys.facts k came) lost)))

      by_client : (b : Bool) → (w.streams (w.apps k).stream).client ≡ b → b ≡ true
      by_client true e = refl
      by_client false e = absurd (stays (by_state e x.state refl))

  pub one_stream : (f g : ℕ) → is_of_client c (w.streams f) ≡ true → is_of_client c (w.streams g) ≡ true → (w.streams f).client ≡ true → (w.streams g).client ≡ true → f ≡ g
  one_stream f g of_f of_g has_f has_g = keys.clients.alone f g c of_f of_g has_f has_g
