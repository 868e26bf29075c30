-- A client's app that takes bytes, ends, fails or hands over bytes keeps the facts on keys.
use Rattle.std.proofs.Common.{◌≡◌, ◌==◌, ◌&&◌, ◌-◌, ℕ, pos, Bool, true, false, not, cond, List, [], ◌∷◌, length, take, Option, Some, None, refl, sym, ap, ◌∙◌, eqb-true, subst, length-drop}
use Rattle.kn_packet.specs.declared.packet.Packet.{Packet}
use Rattle.kn_packet.specs.declared.packet.Packet.TheVariants.{CloseReq, Data, DialCls}
use Rattle.kn_tables.specs.Lists.{first_where}
use Rattle.kn_edge_core.specs.Client.{app_bytes, app_bytes_by_state, app_ended, app_failed, app_left, app_left_telling, app_turned, app_wrote, end_by_state, failure_by_state, ignored, told, wrote_by_state}
use Rattle.kn_edge_core.specs.ClientTables.{closing, is_app, with_fewer}
use Rattle.kn_edge_core.specs.Steps.{ClientStep}
use Rattle.kn_edge_core.specs.declared.app.App.{App}
use Rattle.kn_edge_core.specs.declared.app.AppState.{AppState}
use Rattle.kn_edge_core.specs.declared.app.AppState.TheVariants as app
use Rattle.kn_edge_core.specs.declared.client_event.ClientOut.TheVariants.{ToServer}
use Rattle.kn_edge_core.specs.declared.client_state.ClientState.{ClientState}
use Rattle.kn_tunnel.specs.Facts.{Facts}
use Rattle.kn_tunnel.specs.Kinds.{has, has_left, is_dialling, is_gone, is_here, is_opened}
use Rattle.kn_tunnel.specs.StreamSide.{stream_ok, stream_view}
use Rattle.kn_tunnel.specs.Tunnel.{Side, Tunnel}
use Rattle.kn_tunnel.proofs.OrderChecks.{cancel_order, in_order_kept}
use Rattle.kn_words.specs.In.{BytesIn, CancelIn, CloseIn, OtherIn, in_follows, in_of, stream_in_item, stream_in_word}
use Rattle.kn_words.specs.Numbers.{is_drawn_number, is_number}
use Rattle.kn_packets.specs.Keys.{IsBelow, Keys, ListedFits}
use Rattle.kn_packets.specs.Lifts.{Lifts}
use Rattle.kn_packets.specs.Moves.{AppEnds, AppFails, AppHands, AppWrote, after, app_is, gets, hands, hands_over, is_of_client, side_if}
use Rattle.kn_packets.specs.World.{World, phase_in, tunnel_of}
use Rattle.kn_packets.proofs.ClientCalm.{apps_same, apps_turned, apps_without, calm_of, has_stream, old_fits, one_stream, order_old, order_one, whole}
use Rattle.kn_packets.proofs.ClientKept.{Calm, Fits, Told, calm_keeps, not_connect}
use Rattle.kn_packets.proofs.ClientLists.{its_number}
use Rattle.kn_packets.proofs.Fresh.{eqb_refl}
use Rattle.kn_packets.proofs.Owners.{is_key, pos_one}

-- nothing but the request of an app that dials stands before its cancel, and no close before what an open app sends
cancel_free : (t : Tunnel) → stream_ok (stream_view t) ≡ true → t.connect ≡ false → is_dialling t.phase ≡ true → not (is_gone t.front) ≡ true → (not t.inward.cancel && not (has t.inward.bytes) && not t.inward.close) ≡ true
cancel_free t ok client phase up = rw (client, phase, up) at (cancel_order t ok)

close_free : (t : Tunnel) → stream_ok (stream_view t) ≡ true → is_opened t.phase ≡ true → not (is_gone t.front) ≡ true → not t.inward.close ≡ true
close_free t ok phase up = rw (phase, up) at (in_order_kept t ok)

module _ (w : World) (k : ℕ) (keys : Keys w) (came : (w.apps k).came ≡ true) (client : (w.streams (w.apps k).stream).connect ≡ false) where
  abbrev c : ℕ
  c = (w.streams (w.apps k).stream).owner

  abbrev n : ℕ
  n = (w.apps k).number

  abbrev state : ClientState
  state = w.clients (w.streams (w.apps k).stream).owner

  abbrev ups : ℕ → List Packet
  ups i = (w.streams i).up

  abbrev downs : ℕ → List Packet
  downs i = (w.streams i).down

  abbrev clients : ℕ → Bool
  clients i = (w.streams i).client

  abbrev sides : ℕ → Side
  sides i = (w.apps i).side

  abbrev changed : (Side → Side) → ℕ → Side
  changed change i = side_if (i == k) change (w.apps i).side

  its : is_of_client c (w.streams (w.apps k).stream) ≡ true
  its = rw (client, eqb_refl (w.streams (w.apps k).stream).owner) refl

  same_app : (i : ℕ) → (w.apps i).came ≡ true → is_of_client c (w.streams (w.apps i).stream) ≡ true → (w.apps i).number ≡ n → i ≡ k
  same_app i it of e = keys.clients.apart i k c n (it, of, e) (came, its, refl)

  -- whose bytes stay, and whose change
  other_client : (change : Side → Side) (i : ℕ) → is_of_client c (w.streams (w.apps i).stream) ≡ false → changed change i ≡ (w.apps i).side
  other_client change i of = here (i == k) refl
    where
      here : (b : Bool) → (i == k) ≡ b → side_if b change (w.apps i).side ≡ (w.apps i).side
      here false e = refl
      here true e = let mine : is_of_client c (w.streams (w.apps i).stream) ≡ true = ap (λ j. is_of_client c (w.streams (w.apps j).stream)) (eqb-true i k e) ∙ its in absurd (cc (mine, of))

  other_number : (change : Side → Side) (i : ℕ) → ((w.apps i).number == n) ≡ false → changed change i ≡ (w.apps i).side
  other_number change i other = here (i == k) refl
    where
      here : (b : Bool) → (i == k) ≡ b → side_if b change (w.apps i).side ≡ (w.apps i).side
      here false e = refl
      here true e = let mine : ((w.apps i).number == n) ≡ true = rw (eqb-true i k e) (eqb_refl n) in absurd (cc (mine, other))

  own_side : (change : Side → Side) (i : ℕ) → i ≡ k → changed change i ≡ change (w.apps i).side
  own_side change i e = rw (e, eqb_refl k) refl

  -- ---- it is listed
  module _ (a : App) (at : first_where (is_app n) state.apps ≡ Some a) where
    number : a.number ≡ n
    number = its_number n a state.apps at

    placed : first_where (is_app a.number) state.apps ≡ Some a
    placed = ap (λ i. first_where (is_app i) state.apps) number ∙ at

    off : (i : ℕ) → ((w.apps i).number == a.number) ≡ false → ((w.apps i).number == n) ≡ false
    off i e = ap (λ m. (w.apps i).number == m) (sym number) ∙ e

    its_fits : ListedFits w k a
    its_fits = old_fits w c keys k a came its at

    -- ---- bytes are written to it
    fewer_calm : (m : ℕ) → Calm w c (app_turned state a.number (with_fewer m) []) ups downs clients (changed (gets m))
    fewer_calm m = calm_of w c keys step ups downs clients (changed (gets m)) (whole w) (other_client (gets m)) refl (λ g of h. tt)
        (apps_turned w c keys step (changed (gets m)) a.number a (with_fewer m) (λ x. refl) placed refl own (λ i it of e. ap (λ (z : Side). z.unwritten) (other_number (gets m) i (off i e)))) (λ i it of h. order_old w c keys i it of)
      where
        step : ClientStep
        step = app_turned state a.number (with_fewer m) []

        own : (i : ℕ) → (w.apps i).came ≡ true → is_of_client c (w.streams (w.apps i).stream) ≡ true → (w.apps i).number ≡ a.number → ListedFits w i a → Fits w i (with_fewer m a) (changed (gets m) i).unwritten
        own i it of e h = record {
          unwritten = ap (λ z. z - m) h.unwritten ∙ sym (length-drop m (w.apps i).side.unwritten) ∙ ap (λ (z : Side). length z.unwritten) (sym (own_side (gets m) i (same_app i it of (e ∙ number))));
          dial = h.dial;
        }

    -- ---- it leaves, with nothing said to the server
    left_calm : (S : ℕ → Side) → ((i : ℕ) → is_of_client c (w.streams (w.apps i).stream) ≡ false → S i ≡ (w.apps i).side) → ((i : ℕ) → ((w.apps i).number == n) ≡ false → S i ≡ (w.apps i).side) → (error : List ℕ) → Calm w c (app_left state a.number error) ups downs clients S
    left_calm S others numbers error = calm_of w c keys (app_left state a.number error) ups downs clients S (whole w) others refl (λ g of h. tt)
        (apps_without w c keys (app_left state a.number error) S a.number a placed refl (λ i old. refl) (λ i it of e. ap (λ (z : Side). z.unwritten) (numbers i (off i e)))) (λ i it of h. order_old w c keys i it of)

    wrote_calm : (m : ℕ) → Calm w c (wrote_by_state state m a a.state) ups downs clients (changed (gets m))
    wrote_calm m = by_state a.state
      where
        by_count : (b : Bool) → Calm w c (cond b (app_left state a.number a.error) (app_turned state a.number (with_fewer m) [])) ups downs clients (changed (gets m))
        by_count true = left_calm (changed (gets m)) (other_client (gets m)) (other_number (gets m)) a.error
        by_count false = fewer_calm m

        by_state : (s : AppState) → Calm w c (wrote_by_state state m a s) ups downs clients (changed (gets m))
        by_state app.Lingering = by_count (a.unwritten == m)
        by_state app.Dialling = fewer_calm m
        by_state app.Open = fewer_calm m
        by_state app.Closing = fewer_calm m

    -- ---- it dials: its cancel
    module _ (dialling : a.state ≡ app.Dialling) where
      cancels : (g : ℕ) → is_of_client c (w.streams g) ≡ true → (w.streams g).client ≡ true → Told w g (DialCls (pos a.number))
      cancels g of there = (tt, (k, came, one_stream w c keys (w.apps k).stream g its of (has_stream w c keys k a came its at (λ s. cc (dialling, s))) there, rw (not_connect c (w.streams g) of, number) (eqb_refl n)))

      dials : is_dialling (phase_in w (w.apps k)) ≡ true
      dials = rw (client, at, dialling) refl

      free : (D : Option ℕ) → Facts (tunnel_of w (w.apps k) D) → not (is_gone (w.streams (w.apps k).stream).front) ≡ true → in_follows (stream_in_word (w.streams (w.apps k).stream).connect n D (w.streams (w.apps k).stream).up) CancelIn ≡ true
      free None facts up = cancel_free (tunnel_of w (w.apps k) None) facts.stream client dials up
      free (Some d) facts up = cancel_free (tunnel_of w (w.apps k) (Some d)) facts.stream client dials up

      own_free : not (is_gone (w.streams (w.apps k).stream).front) ≡ true → in_follows (in_of (stream_in_item false (w.apps k).number (w.apps k).dial) (w.streams (w.apps k).stream).up) CancelIn ≡ true
      own_free up = subst (λ b. in_follows (stream_in_word b n (w.apps k).dial (w.streams (w.apps k).stream).up) CancelIn ≡ true) client (free (w.apps k).dial (keys.facts k came) up)

      follows : (i : ℕ) → (w.apps i).came ≡ true → is_of_client c (w.streams (w.apps i).stream) ≡ true → not (is_gone (w.streams (w.apps i).stream).front) ≡ true → (b : Bool) → is_number (w.apps i).number (pos a.number) ≡ b
          → in_follows (in_of (stream_in_item false (w.apps i).number (w.apps i).dial) (w.streams (w.apps i).stream).up) (cond b CancelIn OtherIn) ≡ true
      follows i it of up false e = refl
      follows i it of up true e =
          let same : i ≡ k = same_app i it of (sym (eqb-true a.number (w.apps i).number e) ∙ number) in
          subst (λ j. not (is_gone (w.streams (w.apps j).stream).front) ≡ true → in_follows (in_of (stream_in_item false (w.apps j).number (w.apps j).dial) (w.streams (w.apps j).stream).up) CancelIn ≡ true) (sym same) own_free up

      cancel_calm : Calm w c (app_left_telling state a.number (DialCls (pos a.number))) ups downs clients sides
      cancel_calm = calm_of w c keys step ups downs clients sides (whole w) (λ i h. refl) refl (λ g of h. (cancels g of h, tt))
          (apps_without w c keys step sides a.number a placed refl (λ i old. refl) (λ i it of e. refl)) (order_one w c keys (DialCls (pos a.number)) (λ i it of there up. follows i it of up (is_number (w.apps i).number (pos a.number)) refl))
        where
          step : ClientStep
          step = app_left_telling state a.number (DialCls (pos a.number))

    -- ---- it is open: its bytes and its close
    module _ (opens : a.state ≡ app.Open) where
      dial : (d : ℕ) × ((w.apps k).dial ≡ Some d) × (a.connect_id ≡ pos d)
      dial = its_fits.dial (λ s. cc (opens, s))

      below : IsBelow w.server.next_dial a.connect_id
      below = rw dial.2 (keys.server.dials_older k dial.0 came dial.1)

      opened : is_opened (phase_in w (w.apps k)) ≡ true
      opened = rw (client, at, opens) refl

      unclosed : (D : Option ℕ) → Facts (tunnel_of w (w.apps k) D) → not (is_gone (w.streams (w.apps k).stream).front) ≡ true → not (stream_in_word (w.streams (w.apps k).stream).connect n D (w.streams (w.apps k).stream).up).close ≡ true
      unclosed None facts up = close_free (tunnel_of w (w.apps k) None) facts.stream opened up
      unclosed (Some d) facts up = close_free (tunnel_of w (w.apps k) (Some d)) facts.stream opened up

      own_unclosed : not (is_gone (w.streams (w.apps k).stream).front) ≡ true → not (in_of (stream_in_item false (w.apps k).number (w.apps k).dial) (w.streams (w.apps k).stream).up).close ≡ true
      own_unclosed up = subst (λ b. not (stream_in_word b n (w.apps k).dial (w.streams (w.apps k).stream).up).close ≡ true) client (unclosed (w.apps k).dial (keys.facts k came) up)

      key_free : (i : ℕ) → (w.apps i).came ≡ true → not (is_gone (w.streams (w.apps i).stream).front) ≡ true → is_drawn_number (w.apps i).dial a.connect_id ≡ true
          → not (in_of (stream_in_item false (w.apps i).number (w.apps i).dial) (w.streams (w.apps i).stream).up).close ≡ true
      key_free i it up key =
          let found = is_key (w.apps i).dial a.connect_id key in
          let one : found.0 ≡ dial.0 = pos_one found.0 dial.0 (sym found.2 ∙ dial.2) in
          let same : i ≡ k = keys.clients.dials_once i k dial.0 it came (found.1 ∙ ap Some one) dial.1 in
          subst (λ j. not (is_gone (w.streams (w.apps j).stream).front) ≡ true → not (in_of (stream_in_item false (w.apps j).number (w.apps j).dial) (w.streams (w.apps j).stream).up).close ≡ true) (sym same) own_unclosed up

      close_follows : (i : ℕ) → (w.apps i).came ≡ true → not (is_gone (w.streams (w.apps i).stream).front) ≡ true → (b : Bool) → is_drawn_number (w.apps i).dial a.connect_id ≡ b
          → in_follows (in_of (stream_in_item false (w.apps i).number (w.apps i).dial) (w.streams (w.apps i).stream).up) (cond b CloseIn OtherIn) ≡ true
      close_follows i it up false e = refl
      close_follows i it up true e = key_free i it up e

      bytes_follow : (bytes : List ℕ) (i : ℕ) → (w.apps i).came ≡ true → not (is_gone (w.streams (w.apps i).stream).front) ≡ true → (b : Bool) → is_drawn_number (w.apps i).dial a.connect_id ≡ b
          → in_follows (in_of (stream_in_item false (w.apps i).number (w.apps i).dial) (w.streams (w.apps i).stream).up) (cond b (BytesIn bytes) OtherIn) ≡ true
      bytes_follow bytes i it up false e = refl
      bytes_follow bytes i it up true e = key_free i it up e

      closing_calm : Calm w c (app_turned state a.number closing (ToServer (CloseReq a.connect_id) ∷ [])) ups downs clients sides
      closing_calm = calm_of w c keys step ups downs clients sides (whole w) (λ i h. refl) refl (λ g of h. ((below, tt), tt))
          (apps_turned w c keys step sides a.number a closing (λ x. refl) placed refl (λ i it of e h. record { unwritten = h.unwritten; dial = λ s. h.dial (λ t. cc (opens, t)) }) (λ i it of e. refl))
          (order_one w c keys (CloseReq a.connect_id) (λ i it of there up. close_follows i it up (is_drawn_number (w.apps i).dial a.connect_id) refl))
        where
          step : ClientStep
          step = app_turned state a.number closing (ToServer (CloseReq a.connect_id) ∷ [])

      leaving_calm : Calm w c (app_left_telling state a.number (CloseReq a.connect_id)) ups downs clients sides
      leaving_calm = calm_of w c keys step ups downs clients sides (whole w) (λ i h. refl) refl (λ g of h. ((below, tt), tt))
          (apps_without w c keys step sides a.number a placed refl (λ i old. refl) (λ i it of e. refl)) (order_one w c keys (CloseReq a.connect_id) (λ i it of there up. close_follows i it up (is_drawn_number (w.apps i).dial a.connect_id) refl))
        where
          step : ClientStep
          step = app_left_telling state a.number (CloseReq a.connect_id)

      hand_calm : (m : ℕ) (bytes : List ℕ) (same : (i : ℕ) → (changed (hands m) i).unwritten ≡ (w.apps i).side.unwritten) → Calm w c (told state (ToServer (Data a.connect_id [] bytes) ∷ [])) ups downs clients (changed (hands m))
      hand_calm m bytes same = calm_of w c keys step ups downs clients (changed (hands m)) (whole w) (other_client (hands m)) refl (λ g of h. ((below, tt), tt))
          (apps_same w c keys step (changed (hands m)) refl (λ i old. refl) same) (order_one w c keys (Data a.connect_id [] bytes) (λ i it of there up. bytes_follow bytes i it up (is_drawn_number (w.apps i).dial a.connect_id) refl))
        where
          step : ClientStep
          step = told state (ToServer (Data a.connect_id [] bytes) ∷ [])

  -- ---- nothing happens but that an app's bytes move
  still_calm : (S : ℕ → Side) → ((i : ℕ) → is_of_client c (w.streams (w.apps i).stream) ≡ false → S i ≡ (w.apps i).side) → ((i : ℕ) → (S i).unwritten ≡ (w.apps i).side.unwritten) → Calm w c (ignored state) ups downs clients S
  still_calm S others same = calm_of w c keys (ignored state) ups downs clients S (whole w) others refl (λ g of h. tt) (apps_same w c keys (ignored state) S refl (λ i old. refl) same) (λ i it of h. order_old w c keys i it of)

  handed_unwritten : (m i : ℕ) → (changed (hands m) i).unwritten ≡ (w.apps i).side.unwritten
  handed_unwritten m i = here (i == k)
    where
      here : (b : Bool) → (side_if b (hands m) (w.apps i).side).unwritten ≡ (w.apps i).side.unwritten
      here true = refl
      here false = refl

  -- ---- the moves
  pub wrote_keep : (m : ℕ) → is_here (phase_in w (w.apps k)) ≡ true → Lifts w (after (AppWrote k m) w) → Keys (after (AppWrote k m) w)
  wrote_keep m here = calm_keeps w c false (app_wrote state m (first_where (is_app n) state.apps)) ups downs clients (changed (gets m)) keys (by_listed (first_where (is_app n) state.apps) refl)
    where
      by_listed : (o : Option App) → first_where (is_app n) state.apps ≡ o → Calm w c (app_wrote state m o) ups downs clients (changed (gets m))
      by_listed (Some a) at = wrote_calm a at m
      by_listed None at =
          let gone : has_left (w.apps k).phase ≡ true = keys.clients.left k came client at in
          let stays : is_here (w.apps k).phase ≡ true = rw (client, at) at here in
          absurd (cc (rw gone at stays))

  pub ends_keep : Lifts w (after (AppEnds k) w) → Keys (after (AppEnds k) w)
  ends_keep = calm_keeps w c true (app_ended state (first_where (is_app n) state.apps)) ups downs clients sides keys (by_listed (first_where (is_app n) state.apps) refl)
    where
      still : Calm w c (ignored state) ups downs clients sides
      still = still_calm sides (λ i h. refl) (λ i. refl)

      by_state : (a : App) → first_where (is_app n) state.apps ≡ Some a → (s : AppState) → a.state ≡ s → Calm w c (end_by_state state a.number a.connect_id s) ups downs clients sides
      by_state a at app.Dialling es = cancel_calm a at es
      by_state a at app.Open es = closing_calm a at es
      by_state a at app.Closing es = still
      by_state a at app.Lingering es = still

      by_listed : (o : Option App) → first_where (is_app n) state.apps ≡ o → Calm w c (app_ended state o) ups downs clients sides
      by_listed None at = still
      by_listed (Some a) at = by_state a at a.state refl

  pub fails_keep : Lifts w (after (AppFails k) w) → Keys (after (AppFails k) w)
  fails_keep = calm_keeps w c true (app_failed state (first_where (is_app n) state.apps)) ups downs clients sides keys (by_listed (first_where (is_app n) state.apps) refl)
    where
      gone : (a : App) → first_where (is_app n) state.apps ≡ Some a → Calm w c (app_left state a.number []) ups downs clients sides
      gone a at = left_calm a at sides (λ i h. refl) (λ i h. refl) []

      by_state : (a : App) → first_where (is_app n) state.apps ≡ Some a → (s : AppState) → a.state ≡ s → Calm w c (failure_by_state state a.number a.connect_id s) ups downs clients sides
      by_state a at app.Dialling es = cancel_calm a at es
      by_state a at app.Open es = leaving_calm a at es
      by_state a at app.Closing es = gone a at
      by_state a at app.Lingering es = gone a at

      by_listed : (o : Option App) → first_where (is_app n) state.apps ≡ o → Calm w c (app_failed state o) ups downs clients sides
      by_listed None at = still_calm sides (λ i h. refl) (λ i. refl)
      by_listed (Some a) at = by_state a at a.state refl

  pub hands_keep : (m : ℕ) → Lifts w (after (AppHands k m) w) → Keys (after (AppHands k m) w)
  hands_keep m = subst (λ b. Lifts w (hands_over b k (take m (w.apps k).side.kept) (app_is k (hands m) w)) → Keys (hands_over b k (take m (w.apps k).side.kept) (app_is k (hands m) w))) (sym client)
      (calm_keeps w c false (app_bytes state (take m (w.apps k).side.kept) (first_where (is_app n) state.apps)) ups downs clients (changed (hands m)) keys (by_listed (first_where (is_app n) state.apps) refl))
    where
      still : Calm w c (ignored state) ups downs clients (changed (hands m))
      still = still_calm (changed (hands m)) (other_client (hands m)) (handed_unwritten m)

      by_state : (a : App) → first_where (is_app n) state.apps ≡ Some a → (s : AppState) → a.state ≡ s → Calm w c (app_bytes_by_state state a.connect_id (take m (w.apps k).side.kept) s) ups downs clients (changed (hands m))
      by_state a at app.Open es = hand_calm a at es m (take m (w.apps k).side.kept) (handed_unwritten m)
      by_state a at app.Dialling es = still
      by_state a at app.Closing es = still
      by_state a at app.Lingering es = still

      by_listed : (o : Option App) → first_where (is_app n) state.apps ≡ o → Calm w c (app_bytes state (take m (w.apps k).side.kept) o) ups downs clients (changed (hands m))
      by_listed None at = still
      by_listed (Some a) at = by_state a at a.state refl
