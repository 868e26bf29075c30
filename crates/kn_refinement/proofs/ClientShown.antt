-- What a running world shows after a step of a client, as the packet world has it.
use Rattle.std.proofs.Common.{◌≡◌, ◌==◌, ◌&&◌, ◌≤◌, ℕ, zero, suc, Bool, true, false, not, cond, List, [], ◌∷◌, Option, Some, None, refl, sym, ap, ◌∙◌, eqb-true, arith}
use Rattle.std.proofs.Math.Dec.{eqb-suc-zero}
use Rattle.std.specs.Prelude.{nat_lt, if◌then◌else◌}
use Rattle.std.specs.Option.{option_map}
use Rattle.std.proofs.lemmas.Bool.{ltb-false}
use Rattle.kn_packet.specs.declared.packet.Packet.{Packet}
use Rattle.kn_tables.specs.Lists.{first_where}
use Rattle.kn_edge_core.specs.ClientTables.{is_app}
use Rattle.kn_edge_core.specs.Steps.{ClientStep}
use Rattle.kn_edge_core.specs.declared.app.App.{App as ListedApp}
use Rattle.kn_tunnel.specs.Kinds.{is_gone}
use Rattle.kn_packets.specs.Moves.{app_side_after, client_stepped, is_of_client, no_app, no_stream, phase_after}
use Rattle.kn_packets.specs.Outputs.{from_client, queued}
use Rattle.kn_packets.specs.World.{WorldApp, WorldStream}
use Rattle.kn_packets.proofs.Fresh.{below, eqb_refl}
use Rattle.kn_world.specs.declared.parts.App.{App}
use Rattle.kn_world.specs.declared.parts.Client.{Client}
use Rattle.kn_world.specs.declared.parts.Home.{Home}
use Rattle.kn_world.specs.declared.parts.Home.TheVariants as home
use Rattle.kn_world.specs.declared.parts.Owner.{Owner}
use Rattle.kn_world.specs.declared.parts.Owner.TheVariants as owner
use Rattle.kn_world.specs.declared.state.State.{State}
use Rattle.kn_world.specs.Numbers.{nth}
use Rattle.kn_refinement.specs.Fits.{ClientFits, FrontFits}
use Rattle.kn_refinement.specs.Shown.{app_at_home, app_of, client_app, client_of, client_stream, connect_app, connect_stream, front_if, is_told, noted_phase, number_if, shown, side_of, stream_of}
use Rattle.kn_refinement.proofs.ClientBecame.{Became, Noted, app_became, phase_turned, side_turned}
use Rattle.kn_refinement.proofs.ClientGiven.{app_after, stepped_client, touched, touched_at}
use Rattle.kn_refinement.proofs.ClientTurns.{Turns, ended_in}
use Rattle.kn_refinement.proofs.Worlds.{apps_same, worlds_same}

-- packets for one that lost the list
pub queued_not : (ps qs : List Packet) → queued false ps qs ≡ ps
queued_not ps [] = refl
queued_not ps (q ∷ qs) = queued_not ps qs

-- the number of a member is not that of none
pub some_number : {X : Type 0} (n : ℕ) (xs : List X) (x : X) → nth n xs ≡ Some x → (0 == n) ≡ false
some_number zero xs x h = absurd cc
some_number (suc n) xs x h = below 0 (suc n) (omega arith)

module _ (s : State) (c : ℕ) (x : Client) (there : nth c s.clients ≡ Some x) (r : ClientStep) (itself : Bool) (names : List ℕ) (xs : List Client) (ys : List App)
    (own : nth c xs ≡ Some (record (stepped_client r x) { apps = names })) (others : (l : ℕ) → (l == c) ≡ false → nth l xs ≡ nth l s.clients)
    (connects : (f app : ℕ) → nth f s.fronts ≡ Some (owner.App app) → connect_stream app (nth app ys) ≡ connect_stream app (nth app s.apps)) where
  client_shown : (l : ℕ) (b : Bool) → (l == c) ≡ b → client_of (nth l xs) ≡ cond b r.state (client_of (nth l s.clients))
  client_shown l true e = ap (λ i. client_of (nth i xs)) (eqb-true l c e) ∙ ap client_of own
  client_shown l false e = ap client_of (others l e)

  -- ---- streams
  abbrev stream_stepped : WorldStream → WorldStream
  stream_stepped w = record w { up = (if is_of_client c w && w.client then queued (not (is_gone w.front)) w.up (from_client r.outs) else w.up) }

  -- one of another owner, and none
  foreign_stream : (w : WorldStream) → (is_of_client c w && w.client) ≡ false → stream_stepped w ≡ w
  foreign_stream w e = rw e refl

  and_not : (b : Bool) → (b && false) ≡ false
  and_not true = refl
  and_not false = refl

  no_stream_stepped : stream_stepped no_stream ≡ no_stream
  no_stream_stepped = foreign_stream no_stream (and_not (0 == c))

  abbrev with_up : ℕ → Bool → Bool → List Packet → WorldStream
  with_up d at_client at_server up = record { begun = true; connect = false; owner = d; app = 0; front = front_if at_server; client = at_client; finished = false; up = up; down = x.down }

  own_stream : (d : ℕ) → (d == c) ≡ true → client_stream d (Some (record (stepped_client r x) { apps = names })) ≡ stream_stepped (client_stream d (Some x))
  own_stream d e = rw e (by x.at_client x.at_server)
    where
      by : (at_client at_server : Bool) → with_up d at_client at_server (queued (at_server && at_client) x.up (from_client r.outs))
          ≡ with_up d at_client at_server (if at_client then queued (not (is_gone (front_if at_server))) x.up (from_client r.outs) else x.up)
      by true true = refl
      by true false = refl
      by false true = ap (λ ps. with_up d false true ps) (queued_not x.up (from_client r.outs))
      by false false = ap (λ ps. with_up d false false ps) (queued_not x.up (from_client r.outs))

  other_stream : (d : ℕ) (o : Option Client) → (d == c) ≡ false → client_stream d o ≡ stream_stepped (client_stream d o)
  other_stream d None e = sym no_stream_stepped
  other_stream d (Some y) e = sym (foreign_stream (client_stream d (Some y)) (rw e refl))

  connected_stream : (app : ℕ) (o : Option App) → connect_stream app o ≡ stream_stepped (connect_stream app o)
  connected_stream app None = sym no_stream_stepped
  connected_stream app (Some a) = refl

  stream_shown : (f : ℕ) (o : Option Owner) → nth f s.fronts ≡ o → stream_of xs ys o ≡ stream_stepped (stream_of s.clients s.apps o)
  stream_shown f None h = sym no_stream_stepped
  stream_shown f (Some (owner.Client d)) h = by (d == c) refl
    where
      by : (b : Bool) → (d == c) ≡ b → client_stream d (nth d xs) ≡ stream_stepped (client_stream d (nth d s.clients))
      by true e = ap (λ o. client_stream d o) (ap (λ i. nth i xs) (eqb-true d c e) ∙ own) ∙ own_stream d e
          ∙ sym (ap (λ o. stream_stepped (client_stream d o)) (ap (λ i. nth i s.clients) (eqb-true d c e) ∙ there))
      by false e = ap (λ o. client_stream d o) (others d e) ∙ other_stream d (nth d s.clients) e
  stream_shown f (Some (owner.App app)) h = connects f app h ∙ connected_stream app (nth app s.apps)

  -- ---- all of it, by what comes of each app
  abbrev pub app_stepped : WorldApp → WorldApp
  app_stepped b = record b {
    phase = (if is_of_client c (stream_of s.clients s.apps (nth b.stream s.fronts)) then phase_after itself (first_where (is_app b.number) (client_of (nth c s.clients)).apps) (first_where (is_app b.number) r.state.apps) b.phase else b.phase);
    side = app_side_after (is_of_client c (stream_of s.clients s.apps (nth b.stream s.fronts))) b.number r b.side;
  }

  pub shown_as : (before : ℕ → WorldApp) → ((k : ℕ) → app_of xs (nth k ys) ≡ app_stepped (before k))
      → shown (record s { clients = xs; apps = ys }) ≡ client_stepped c itself r (record (shown s) { apps = before })
  shown_as before stepped = worlds_same _ _ refl (λ l. refl) (λ l. client_shown l (l == c) refl) (λ l. refl) (λ f. stream_shown f (nth f s.fronts) refl) (λ d. refl) stepped

  -- ---- apps
  foreign_app : (b : WorldApp) → is_of_client c (stream_of s.clients s.apps (nth b.stream s.fronts)) ≡ false → app_stepped b ≡ b
  foreign_app b e = rw e refl

  pub no_app_stepped : app_stepped no_app ≡ no_app
  no_app_stepped = foreign_app no_app (some_number c s.clients x there)

  -- one that its client has, or had
  pub own_app : (m : ℕ) (may : Bool) (a b : App) → Became m r.outs a b → Noted (first_where (is_app m) x.core.apps) a.stage
      → Turns itself may (first_where (is_app m) x.core.apps) (ended_in m r.outs) (first_where (is_app m) r.state.apps) → nth x.front s.fronts ≡ Some (owner.Client c)
      → client_app m (Some (record (stepped_client r x) { apps = names })) b ≡ app_stepped (client_app m (Some x) a)
  own_app m may a b became noted turns front = apps_same _ _ refl refl refl
      (ap noted_phase became.stage ∙ phase_turned itself may (first_where (is_app m) x.core.apps) (ended_in m r.outs) (first_where (is_app m) r.state.apps) a.stage turns noted
      ∙ sym (ap (λ t. if t then phase_after itself (first_where (is_app m) (client_of (nth c s.clients)).apps) (first_where (is_app m) r.state.apps) (noted_phase a.stage) else noted_phase a.stage) mine
      ∙ ap (λ o. phase_after itself (first_where (is_app m) (client_of o).apps) (first_where (is_app m) r.state.apps) (noted_phase a.stage)) there))
      (ap (λ z. side_of (option_map (λ (y : ListedApp). y.state) (first_where (is_app m) r.state.apps)) z) became.side
      ∙ side_turned itself may m r.outs (first_where (is_app m) x.core.apps) (first_where (is_app m) r.state.apps) a.side turns
      ∙ sym (ap (λ t. app_side_after t m r (side_of (option_map (λ (y : ListedApp). y.state) (first_where (is_app m) x.core.apps)) a.side)) mine))
      (ap number_if became.dial)
    where
      refl_c : (n : ℕ) → (n == n) ≡ true
      refl_c n = eqb_refl n

      mine : is_of_client c (stream_of s.clients s.apps (nth x.front s.fronts)) ≡ true
      mine = ap (λ o. is_of_client c (stream_of s.clients s.apps o)) front ∙ ap (λ o. is_of_client c (client_stream c o)) there ∙ refl_c c

  module _ (clients : ClientFits s.clients s.apps) (fronts : FrontFits s.clients s.apps s.fronts s.server.fronts) where
    -- one of another client, or by CONNECT
    pub other_app : (k d m : ℕ) (a : App) → nth k s.apps ≡ Some a → a.home ≡ home.Client d m → (d == c) ≡ false → app_at_home xs (home.Client d m) a ≡ app_stepped (app_at_home s.clients (home.Client d m) a)
    other_app k d m a at is e = ap (λ o. if is_told m o then client_app m o a else no_app) (others d e) ∙ by (clients.number_of k d m a at is)
      where
        told : (y : Client) → nth d s.clients ≡ Some y → (b : Bool) → (if b then client_app m (Some y) a else no_app) ≡ app_stepped (if b then client_app m (Some y) a else no_app)
        told y h false = sym no_app_stepped
        told y h true = sym (foreign_app (client_app m (Some y) a) (ap (λ o. is_of_client c (stream_of s.clients s.apps o)) (fronts.client d y h) ∙ ap (λ o. is_of_client c (client_stream d o)) h ∙ e))

        by : (y : Client) × (nth d s.clients ≡ Some y) × (nth m y.apps ≡ Some k) → (if is_told m (nth d s.clients) then client_app m (nth d s.clients) a else no_app) ≡ app_stepped (if is_told m (nth d s.clients) then client_app m (nth d s.clients) a else no_app)
        by y = rw y.1 (told y.0 y.1 (is_told m (Some y.0)))

    pub connected_app : (k : ℕ) (a : App) → nth k s.apps ≡ Some a → a.home ≡ home.Connect → app_at_home xs home.Connect a ≡ app_stepped (app_at_home s.clients home.Connect a)
    connected_app k a at is = by a.door.number refl
      where
        by : (n : ℕ) → a.door.number ≡ n → (if n == 0 then no_app else connect_app a) ≡ app_stepped (if n == 0 then no_app else connect_app a)
        by zero e = sym no_app_stepped
        by (suc n) e = ap (λ t. if t then no_app else connect_app a) (eqb-suc-zero n) ∙ sym (foreign_app (connect_app a) (ap (λ o. is_of_client c (stream_of s.clients s.apps o)) (ap (λ i. nth i s.fronts) e ∙ fronts.app k n a at is e) ∙ ap (λ o. is_of_client c (connect_stream k o)) at))
            ∙ sym (ap (λ t. app_stepped (if t then no_app else connect_app a)) (eqb-suc-zero n))

    -- each app that only the outputs of the step change
    pub each_app : (k : ℕ) → nth k ys ≡ option_map (touched c r.outs) (nth k s.apps) → ((may : ℕ → Bool) × ((m : ℕ) → Turns itself (may m) (first_where (is_app m) x.core.apps) (ended_in m r.outs) (first_where (is_app m) r.state.apps)))
        → r.state.top_app ≡ x.core.top_app → app_of xs (nth k ys) ≡ app_stepped (app_of s.clients (nth k s.apps))
    each_app k is turns top = ap (λ o. app_of xs o) is ∙ here (nth k s.apps) refl
      where
        noted : (m : ℕ) (a : App) → nth k s.apps ≡ Some a → a.home ≡ home.Client c m → is_told m (Some x) ≡ true → Noted (first_where (is_app m) x.core.apps) a.stage
        noted m a at at_home told = by (first_where (is_app m) x.core.apps) refl
          where
            by : (o : Option ListedApp) → first_where (is_app m) x.core.apps ≡ o → Noted o a.stage
            by None h = clients.left k c m a x at at_home there h (within (nat_lt x.core.top_app m) refl told)
              where
                within : (b : Bool) → nat_lt x.core.top_app m ≡ b → not b ≡ true → m ≤ x.core.top_app
                within true i j = absurd cc
                within false i j = ltb-false x.core.top_app m i
            by (Some y) h = clients.here k c m a x y at at_home there h

        -- one of this client, as it is told or not
        mine : (m : ℕ) (a : App) → nth k s.apps ≡ Some a → a.home ≡ home.Client c m → (b : Bool) → is_told m (Some x) ≡ b
            → (if b then client_app m (Some (record (stepped_client r x) { apps = names })) (app_after m r.outs a) else no_app) ≡ app_stepped (if b then client_app m (Some x) a else no_app)
        mine m a at at_home false told = sym no_app_stepped
        mine m a at at_home true told = own_app m (turns.0 m) a (app_after m r.outs a) (app_became m r.outs a) (noted m a at at_home told) (turns.1 m) (fronts.client c x there)

        -- the home stands in the app that the outputs change too
        at_client : (d m : ℕ) (a : App) → nth k s.apps ≡ Some a → a.home ≡ home.Client d m → (b : Bool) → (d == c) ≡ b → app_at_home xs (home.Client d m) (cond b (app_after m r.outs a) a) ≡ app_stepped (app_at_home s.clients (home.Client d m) a)
        at_client d m a at at_home false e = other_app k d m a at at_home e
        at_client d m a at at_home true e =
            ap (λ o. if is_told m o then client_app m o (app_after m r.outs a) else no_app) (ap (λ i. nth i xs) (eqb-true d c e) ∙ own)
            ∙ ap (λ top. if not (nat_lt top m) then client_app m (Some (record (stepped_client r x) { apps = names })) (app_after m r.outs a) else no_app) top
            ∙ mine m a at (at_home ∙ ap (λ i. home.Client i m) (eqb-true d c e)) (is_told m (Some x)) refl
            ∙ sym (ap (λ o. app_stepped (if is_told m o then client_app m o a else no_app)) (ap (λ i. nth i s.clients) (eqb-true d c e) ∙ there))

        keeps_home : (d m : ℕ) (a : App) (b : Bool) → (cond b (app_after m r.outs a) a).home ≡ a.home
        keeps_home d m a true = (app_became m r.outs a).home
        keeps_home d m a false = refl

        by_home : (a : App) → nth k s.apps ≡ Some a → (h : Home) → a.home ≡ h → app_of xs (Some (touched c r.outs a)) ≡ app_stepped (app_at_home s.clients h a)
        by_home a at (home.Client d m) e = ap (λ i. app_of xs (Some (touched_at i c r.outs a))) e
            ∙ ap (λ i. app_at_home xs i (cond (d == c) (app_after m r.outs a) a)) (keeps_home d m a (d == c) ∙ e) ∙ at_client d m a at e (d == c) refl
        by_home a at home.Connect e = ap (λ i. app_of xs (Some (touched_at i c r.outs a))) e ∙ ap (λ i. app_at_home xs i a) e ∙ connected_app k a at e

        here : (o : Option App) → nth k s.apps ≡ o → app_of xs (option_map (touched c r.outs) o) ≡ app_stepped (app_of s.clients o)
        here None at = sym no_app_stepped
        here (Some a) at = by_home a at a.home refl
