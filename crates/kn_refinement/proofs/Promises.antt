-- What the laws of the packet world say of a running world's report.
use Rattle.std.proofs.Common.{◌≡◌, ◌≢◌, ◌==◌, ◌&&◌, ◌||◌, ◌++◌, ℕ, ℤ, zero, suc, pos, negsuc, Bool, true, false, not, cond, nat_lt, List, [], ◌∷◌, length, map, Option, Some, None, refl, sym, ap, ◌∙◌, subst, append-nil, eqb-true}
use Rattle.std.proofs.Math.Dec.{eqb-suc-zero}
use Rattle.std.proofs.lemmas.Bool.{ltb-true}
use Rattle.std.proofs.lemmas.Option.{slice_get-map}
use Rattle.std.specs.List.{list_all, list_any}
use Rattle.std.specs.Option.{option_map}
use Rattle.std.specs.Prelude.{slice_get}
use Rattle.kn_tables.specs.Lists.{first_where}
use Rattle.kn_tables.specs.declared.held_entry.HeldEntry.{HeldEntry}
use Rattle.kn_tables.specs.declared.held_entry.HeldState.{HeldState}
use Rattle.kn_tables.specs.declared.held_entry.HeldState.TheVariants as held
use Rattle.kn_server_core.specs.Isolation.{Each}
use Rattle.kn_edge_core.specs.AgentTables.{is_connection}
use Rattle.kn_edge_core.specs.declared.connection.Connection.{Connection}
use Rattle.kn_edge_core.specs.declared.connection.DestState.{DestState}
use Rattle.kn_edge_core.specs.declared.connection.DestState.TheVariants as dest
use Rattle.kn_tunnel.specs.Cuts.{IsPrefixOf}
use Rattle.kn_tunnel.specs.Kinds.{is_gone}
use Rattle.kn_tunnel.specs.Tunnel.{sent}
use Rattle.kn_tunnel.proofs.Lists.{prefix_of_prefix}
use Rattle.kn_packets.specs.Keys.{Keys}
use Rattle.kn_packets.specs.Moves.{no_app}
use Rattle.kn_packets.specs.Outcome.{Delivered, IsClosed, IsEmpty, IsQuiet}
use Rattle.kn_packets.specs.Owned.{HasDial, Owned}
use Rattle.kn_packets.proofs.AgentKept.{each_as}
use Rattle.kn_packets.proofs.Taken.{and_first, and_second}
use Rattle.kn_packets.proofs.Told.{each_its}
use Rattle.kn_world.specs.declared.parts.Agent.{Agent}
use Rattle.kn_world.specs.declared.parts.App.{App}
use Rattle.kn_world.specs.declared.parts.Client.{Client}
use Rattle.kn_world.specs.declared.parts.Dial.{Dial}
use Rattle.kn_world.specs.declared.parts.Home.{Home}
use Rattle.kn_world.specs.declared.parts.Home.TheVariants as home
use Rattle.kn_world.specs.declared.state.State.{State}
use Rattle.kn_world.specs.Dials.{state_at}
use Rattle.kn_world.specs.Numbers.{nth}
use Rattle.kn_world.specs.Pipes.{is_bare_agent, nothing_in_flight}
use Rattle.kn_world.specs.Shown.{AppShown}
use Rattle.kn_world.specs.Views.{app_shown, connections_from, dial_shown, dials_from, is_lingering, is_lingering_state, is_open_held, is_same, is_open_state, is_still, is_still_agent, none_lingers}
use Rattle.kn_world.specs.Views as views
use Rattle.kn_refinement.specs.Fits.{Fits}
use Rattle.kn_refinement.specs.Headline.{IsPaired, KeepsBytesApart, LeavesNothing}
use Rattle.kn_refinement.specs.Shown.{agent_of, front_if, app_at_home, app_of, cid_if, client_app, connect_app, dial_of, is_told, link_of, number_if, shown}

-- ---- lists
pub nth_map : {A B : Type 0} (f : A → B) (n : ℕ) (xs : List A) → nth n (map f xs) ≡ option_map f (nth n xs)
nth_map f zero xs = refl
nth_map f (suc i) xs = slice_get-map f xs i

pub all_nth : {X : Type 0} (p : X → Bool) (xs : List X) (n : ℕ) (x : X) → list_all p xs ≡ true → nth n xs ≡ Some x → p x ≡ true
all_nth p xs zero x all at = absurd cc
all_nth p xs (suc i) x all at = here xs i all at
  where
    here : (ys : List _) (j : ℕ) → list_all p ys ≡ true → slice_get ys j ≡ Some x → p x ≡ true
    here [] j h e = absurd cc
    here (y ∷ ys) zero h e = let same : y ≡ x = cc in subst (λ z. p z ≡ true) same (and_first (p y) (list_all p ys) h)
    here (y ∷ ys) (suc j) h e = here ys j (and_second (p y) (list_all p ys) h) e

pub empty_of : {X : Type 0} (xs : List X) → (length xs == 0) ≡ true → xs ≡ []
empty_of [] h = refl
empty_of (x ∷ xs) h = absurd (cc (sym h ∙ eqb-suc-zero (length xs)))

-- ---- bytes
pub number_some : (n : ℕ) → n ≢ 0 → number_if n ≡ Some n
number_some zero h = absurd (h refl)
number_some (suc n) h = refl

pub dial_not_none : (d : ℕ) (ds : List Dial) (x : Dial) → nth d ds ≡ Some x → d ≢ 0
dial_not_none zero ds x at e = absurd cc
dial_not_none (suc d) ds x at e = absurd cc

module _ (s : State) (fits : Fits s) (delivered : (k d : ℕ) → ((shown s).apps k).came ≡ true → ((shown s).apps k).dial ≡ Some d → Delivered (shown s) k d) where
  -- the app of a dial
  module _ (d k : ℕ) (y : Dial) (a : App) (dial_there : nth d s.dials ≡ Some y) (there : nth k s.apps ≡ Some a) (asked : a.dial ≡ d) where
    dial_is : (shown s).dials d ≡ dial_of s.agents (Some y)
    dial_is = ap (λ o. dial_of s.agents o) dial_there

    not_none : a.dial ≢ 0
    not_none e = dial_not_none d s.dials y dial_there (sym asked ∙ e)

    -- as it is in the packet world
    pair_of : (got_rest : List ℕ) → ((shown s).apps k).came ≡ true → ((shown s).apps k).dial ≡ Some d → ((shown s).apps k).side.got ≡ a.side.coming.passed ++ got_rest
        → sent ((shown s).apps k).side ≡ a.side.sending.passed ++ a.side.sending.waiting → IsPaired (dial_shown s.agents y) (app_shown s.clients a)
    pair_of got_rest came de got sent_is =
        let both : Delivered (shown s) k d = delivered k d came de in record {
          to_destination = subst (λ xs. IsPrefixOf y.side.coming.passed xs) sent_is (subst (λ z. IsPrefixOf z.side.got (sent ((shown s).apps k).side)) dial_is both.to_destination);
          to_app = prefix_of_prefix a.side.coming.passed (a.side.coming.passed ++ got_rest) (y.side.sending.passed ++ y.side.sending.waiting) (got_rest, refl)
              (subst (λ xs. IsPrefixOf xs (y.side.sending.passed ++ y.side.sending.waiting)) got (subst (λ z. IsPrefixOf ((shown s).apps k).side.got (sent z.side)) dial_is both.to_app));
        }

    app_is : (shown s).apps k ≡ app_at_home s.clients a.home a
    app_is = ap (λ o. app_of s.clients o) there

    at_client : (c n : ℕ) (x : Client) → a.home ≡ home.Client c n → nth c s.clients ≡ Some x → (b : Bool) → nat_lt x.core.top_app n ≡ b → IsPaired (dial_shown s.agents y) (app_shown s.clients a)
    at_client c n x h client true above = absurd (not_none (fits.clients.unasked k c n a x there h client (ltb-true x.core.top_app n above)))
    at_client c n x h client false told =
        let is : (shown s).apps k ≡ client_app n (Some x) a = app_is ∙ ap (λ z. app_at_home s.clients z a) h ∙ ap (λ o. cond (is_told n o) (client_app n o a) no_app) client ∙ ap (λ b. cond (not b) (client_app n (Some x) a) no_app) told in
        pair_of [] (ap (λ z. z.came) is) (ap (λ z. z.dial) is ∙ number_some a.dial not_none ∙ ap Some asked) (ap (λ z. z.side.got) is ∙ sym (append-nil a.side.coming.passed)) (ap (λ z. sent z.side) is)

    at_door : a.home ≡ home.Connect → (b : Bool) → (a.door.number == 0) ≡ b → IsPaired (dial_shown s.agents y) (app_shown s.clients a)
    at_door h true none = absurd (not_none (fits.fronts.unheard k a there h (eqb-true a.door.number 0 none)).dial)
    at_door h false some =
        let is : (shown s).apps k ≡ connect_app a = app_is ∙ ap (λ z. app_at_home s.clients z a) h ∙ ap (λ b. cond b no_app (connect_app a)) some in
        pair_of a.side.coming.waiting (ap (λ z. z.came) is) (ap (λ z. z.dial) is ∙ number_some a.dial not_none ∙ ap Some asked) (ap (λ z. z.side.got) is) (ap (λ z. sent z.side) is)

    pub paired : IsPaired (dial_shown s.agents y) (app_shown s.clients a)
    paired = here a.home refl
      where
        here : (h : Home) → a.home ≡ h → IsPaired (dial_shown s.agents y) (app_shown s.clients a)
        here (home.Client c n) h = let client = fits.clients.number_of k c n a there h in at_client c n client.0 h client.1 (nat_lt client.0.core.top_app n) refl
        here home.Connect h = at_door h (a.door.number == 0) refl

  pub keeps_apart : KeepsBytesApart (views.shown s)
  keeps_apart d x at = here (nth d s.dials) refl (sym (nth_map (dial_shown s.agents) d s.dials) ∙ at)
    where
      here : (o : Option Dial) → nth d s.dials ≡ o → option_map (dial_shown s.agents) o ≡ Some x → (a : AppShown) × (nth x.app (map (app_shown s.clients) s.apps) ≡ Some a) × IsPaired x a
      here None there e = absurd cc
      here (Some y) there e =
          let is : dial_shown s.agents y ≡ x = cc in
          let asker = fits.asked.asker d y there in
          let its : IsPaired (dial_shown s.agents y) (app_shown s.clients asker.0) = paired d y.app y asker.0 there asker.1 asker.2 in
          (app_shown s.clients asker.0, ap (λ z. nth z.app (map (app_shown s.clients) s.apps)) (sym is) ∙ nth_map (app_shown s.clients) y.app s.apps ∙ ap (λ o. option_map (app_shown s.clients) o) asker.1, subst (λ z. IsPaired z (app_shown s.clients asker.0)) is its)

-- ---- tables
module _ (s : State) (fits : Fits s) (keys : Keys (shown s)) (owned : Owned (shown s)) where
  module _ (quiet : (nothing_in_flight s && is_still s) ≡ true) where
    bare : list_all is_bare_agent s.agents ≡ true
    unfolding nothing_in_flight
    bare = and_first (list_all is_bare_agent s.agents) _ (and_first (nothing_in_flight s) (is_still s) quiet)

    still : list_all is_still_agent s.agents ≡ true
    unfolding is_still
    still = and_first (list_all is_still_agent s.agents) _ (and_first _ _ (and_first _ _ (and_second (nothing_in_flight s) (is_still s) quiet)))

    unlingering : none_lingers s.agents s.dials ≡ true
    unfolding is_still
    unlingering = and_second _ (none_lingers s.agents s.dials) (and_second (nothing_in_flight s) (is_still s) quiet)

    not_lingering : (d : ℕ) (y : Dial) → nth d s.dials ≡ Some y → is_lingering s.agents y ≡ false
    not_lingering zero y at = absurd cc
    not_lingering (suc i) y at = here s.dials i unlingering at
      where
        here : (ds : List Dial) (j : ℕ) → none_lingers s.agents ds ≡ true → slice_get ds j ≡ Some y → is_lingering s.agents y ≡ false
        here [] j h e = absurd cc
        here (z ∷ zs) zero h e = let same : z ≡ y = cc in subst (λ w. is_lingering s.agents w ≡ false) same (first (is_lingering s.agents z) refl h)
          where
            first : (b : Bool) → is_lingering s.agents z ≡ b → cond b false (none_lingers s.agents zs) ≡ true → is_lingering s.agents z ≡ false
            first true e k = absurd cc
            first false e k = e
        here (z ∷ zs) (suc j) h e = here zs j (rest (is_lingering s.agents z) h) e
          where
            rest : (b : Bool) → cond b false (none_lingers s.agents zs) ≡ true → none_lingers s.agents zs ≡ true
            rest true k = absurd cc
            rest false k = k

    -- what is known of each agent
    agent_bare : (l : ℕ) (a : Agent) → nth l s.agents ≡ Some a → (a.up ≡ []) × (a.down ≡ [])
    agent_bare l a at =
        let both : is_bare_agent a ≡ true = all_nth is_bare_agent s.agents l a bare at in
        (empty_of a.up (and_first (length a.up == 0) (length a.down == 0) both), empty_of a.down (and_second (length a.up == 0) (length a.down == 0) both))

    agent_still : (l : ℕ) (a : Agent) → nth l s.agents ≡ Some a → (a.at_server ≡ a.at_agent) × (a.core.dials ≡ [])
    agent_still l a at =
        let both : is_still_agent a ≡ true = all_nth is_still_agent s.agents l a still at in
        (same a.at_server a.at_agent (and_first (is_same a.at_server a.at_agent) (length a.core.dials == 0) both), empty_of a.core.dials (and_second (is_same a.at_server a.at_agent) (length a.core.dials == 0) both))
      where
        same : (b c : Bool) → is_same b c ≡ true → b ≡ c
        same true true h = refl
        same true false h = absurd cc
        same false true h = absurd cc
        same false false h = refl

    -- an agent's connections are open: one that lingers would be that of a dial
    opened : (l : ℕ) (x : Connection) → first_where (is_connection x.connect_id) ((shown s).agents l).connections ≡ Some x → x.state ≡ dest.Open
    opened l x found = by_state x.state refl
      where
        has : HasDial (shown s) l x.connect_id
        has = owned.drawn l x.connect_id x found

        lingers : (y : Dial) → nth has.0 s.dials ≡ Some y → x.state ≡ dest.Lingering → x.state ≡ dest.Open
        lingers y at turned = absurd (cc (not_lingering has.0 y at, is_so))
          where
            link_is : y.link ≡ l
            link_is = sym (ap (λ o. (dial_of s.agents o).link) at) ∙ has.1

            number_is : y.connect_id ≡ pos x.connect_id
            number_is = by_number y.connect_id (sym (ap (λ o. (dial_of s.agents o).cid) at) ∙ has.2)
              where
                by_number : (c : ℤ) → cid_if c ≡ Some x.connect_id → c ≡ pos x.connect_id
                by_number (pos zero) e = absurd cc
                by_number (pos (suc n)) e = let same : suc n ≡ x.connect_id = cc in ap pos same
                by_number (negsuc n) e = absurd cc

            is_so : is_lingering s.agents y ≡ true
            is_so = rw (link_is, number_is) (at_agent (nth l s.agents) refl)
              where
                at_agent : (o : Option Agent) → nth l s.agents ≡ o → is_lingering_state (state_at (pos x.connect_id) o) ≡ true
                at_agent None e = absurd (cc (sym (ap (λ o. first_where (is_connection x.connect_id) (agent_of o).connections) e) ∙ found))
                at_agent (Some a) e =
                    let f : first_where (is_connection x.connect_id) a.core.connections ≡ Some x = sym (ap (λ o. first_where (is_connection x.connect_id) (agent_of o).connections) e) ∙ found in
                    rw (f, turned) refl

        by_dial : (o : Option Dial) → nth has.0 s.dials ≡ o → x.state ≡ dest.Lingering → x.state ≡ dest.Open
        by_dial None at turned = absurd (cc (sym (ap (λ o. (dial_of s.agents o).cid) at) ∙ has.2))
        by_dial (Some y) at turned = lingers y at turned

        by_state : (d : DestState) → x.state ≡ d → x.state ≡ dest.Open
        by_state dest.Open e = e
        by_state dest.Lingering e = by_dial (nth has.0 s.dials) refl e

    pub quiet_world : IsQuiet (shown s)
    quiet_world = record {
      up = λ l h. up_none l (nth l s.agents) refl;
      down = λ l h. down_none l (nth l s.agents) refl;
      dials = λ l. dials_none l (nth l s.agents) refl;
      lingering = λ l. each_as (λ y. first_where (is_connection y.connect_id) ((shown s).agents l).connections ≡ Some y) (λ (y : Connection). y.state ≡ dest.Open) (λ y f. opened l y f) ((shown s).agents l).connections
          (each_its (λ y. y.connect_id) ((shown s).agents l).connections (keys.agents.connections_rise l));
      lost = λ l. lost_both l (nth l s.agents) refl;
    }
      where
        up_none : (l : ℕ) (o : Option Agent) → nth l s.agents ≡ o → (link_of o).up ≡ []
        up_none l None e = refl
        up_none l (Some a) e = (agent_bare l a e).0

        down_none : (l : ℕ) (o : Option Agent) → nth l s.agents ≡ o → (link_of o).down ≡ []
        down_none l None e = refl
        down_none l (Some a) e = (agent_bare l a e).1

        dials_none : (l : ℕ) (o : Option Agent) → nth l s.agents ≡ o → (agent_of o).dials ≡ []
        dials_none l None e = refl
        dials_none l (Some a) e = (agent_still l a e).1

        gone_is : (b : Bool) → is_gone (front_if b) ≡ not b
        gone_is true = refl
        gone_is false = refl

        not_not : (b : Bool) → not (not b) ≡ b
        not_not true = refl
        not_not false = refl

        lost_both : (l : ℕ) (o : Option Agent) → nth l s.agents ≡ o → is_gone (link_of o).server ≡ (agent_of o).lost
        lost_both l None e = refl
        lost_both l (Some a) e = gone_is a.at_server ∙ ap not ((agent_still l a e).0 ∙ fits.agents.lost l a e) ∙ not_not a.core.lost

  closed_world : ((length s.server.awaited == 0) && not (list_any is_open_held s.server.held)) ≡ true → IsClosed (shown s)
  closed_world closed = record {
    awaited = empty_of s.server.awaited (and_first (length s.server.awaited == 0) (not (list_any is_open_held s.server.held)) closed);
    held = all_closing s.server.held (and_second (length s.server.awaited == 0) (not (list_any is_open_held s.server.held)) closed);
  }
    where
      closing : (h : HeldState) → not (is_open_state h) ≡ true → h ≡ held.Closing
      closing held.Open e = absurd cc
      closing held.Closing e = refl

      apart : (a b : Bool) → not (a || b) ≡ true → (not a ≡ true) × (not b ≡ true)
      apart true b e = absurd cc
      apart false b e = (refl, e)

      all_closing : (es : List HeldEntry) → not (list_any is_open_held es) ≡ true → Each (λ (e : HeldEntry). e.state ≡ held.Closing) es
      all_closing [] e = tt
      all_closing (x ∷ xs) e = let both = apart (is_open_held x) (list_any is_open_held xs) e in (closing x.state both.0, all_closing xs both.1)

  pub leaves_nothing : (IsQuiet (shown s) → IsClosed (shown s) → IsEmpty (shown s)) → LeavesNothing (views.shown s)
  leaves_nothing law quiet closed = record {
    awaited = ap length empty.awaited;
    held = ap length empty.held;
    dialling = no_dials s.agents (λ l a at. sym (ap (λ o. (agent_of o).dials) at) ∙ empty.dials l);
    connections = no_connections s.agents (λ l a at. sym (ap (λ o. (agent_of o).connections) at) ∙ empty.connections l);
  }
    where
      empty : IsEmpty (shown s)
      empty = law (quiet_world quiet) (closed_world closed)

      no_dials : (ags : List Agent) → ((l : ℕ) (a : Agent) → nth l ags ≡ Some a → a.core.dials ≡ []) → dials_from 0 ags ≡ 0
      no_dials [] h = refl
      no_dials (a ∷ ags) h = rw (h 1 a refl) (no_dials ags (λ l b at. h (suc l) b (later l b at)))
        where
          later : (l : ℕ) (b : Agent) → nth l ags ≡ Some b → nth (suc l) (a ∷ ags) ≡ Some b
          later zero b e = absurd cc
          later (suc l) b e = e

      no_connections : (ags : List Agent) → ((l : ℕ) (a : Agent) → nth l ags ≡ Some a → a.core.connections ≡ []) → connections_from 0 ags ≡ 0
      no_connections [] h = refl
      no_connections (a ∷ ags) h = rw (h 1 a refl) (no_connections ags (λ l b at. h (suc l) b (later l b at)))
        where
          later : (l : ℕ) (b : Agent) → nth l ags ≡ Some b → nth (suc l) (a ∷ ags) ≡ Some b
          later zero b e = absurd cc
          later (suc l) b e = e
