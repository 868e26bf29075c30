-- A client that takes a packet keeps the facts on keys.
use Rattle.std.proofs.Common.{◌≡◌, ◌≢◌, ◌==◌, ◌⊎◌, ℕ, ℤ, Bool, true, false, not, cond, List, [], ◌∷◌, length, Option, Some, None, inl, inr, refl, sym, ap, ◌∙◌, subst, length-append}
use Rattle.kn_packet.specs.declared.packet.Packet.{Packet}
use Rattle.kn_packet.specs.declared.packet.Packet.TheVariants.{CloseReq, CloseRsp, Data, DialCls, DialReq, DialRsp, Drain, Other}
use Rattle.kn_tables.specs.Lists.{first_where}
use Rattle.kn_server_core.specs.Isolation.{Each}
use Rattle.kn_server_core.proofs.SoundLemmas.{passes}
use Rattle.kn_edge_core.specs.Client.{app_left, app_turned, close_came, data_came, ignored, packet_came, reply_by_state, reply_came, told}
use Rattle.kn_edge_core.specs.ClientTables.{app_at, is_app, is_held_at, is_open_at, lingering, opened, with_more}
use Rattle.kn_edge_core.specs.Steps.{ClientStep}
use Rattle.kn_edge_core.specs.declared.app.App.{App}
use Rattle.kn_edge_core.specs.declared.app.AppState.{AppState}
use Rattle.kn_edge_core.specs.declared.app.AppState.TheVariants as app
use Rattle.kn_edge_core.specs.declared.client_event.ClientOut.TheVariants.{ToApp, ToServer}
use Rattle.kn_edge_core.specs.declared.client_state.ClientState.{ClientState}
use Rattle.kn_tunnel.specs.Facts.{Facts}
use Rattle.kn_tunnel.specs.Kinds.{is_dialling, is_gone, is_reply}
use Rattle.kn_tunnel.specs.StreamSide.{stream_ok, stream_view}
use Rattle.kn_tunnel.specs.Tunnel.{Ended, Phase, Refused, Side, Tunnel}
use Rattle.kn_tunnel.proofs.OrderChecks.{late_order}
use Rattle.kn_words.specs.In.{CloseIn, OtherIn, in_follows, in_of, stream_in_item, stream_in_word}
use Rattle.kn_words.specs.Numbers.{is_drawn_number, is_number}
use Rattle.kn_packets.specs.Keys.{AnswerFits, IsBelow, Keys, ListedFits, StreamOlder}
use Rattle.kn_packets.specs.Lifts.{Lifts}
use Rattle.kn_packets.specs.Moves.{ClientTakes, May, after, is_of_client, takes_out}
use Rattle.kn_packets.specs.Outputs.{for_app}
use Rattle.kn_packets.specs.World.{World, app_phase, phase_in, tunnel_of}
use Rattle.kn_packets.proofs.ClientCalm.{apps_same, apps_turned, apps_without, calm_of, has_stream, one_stream, order_old, order_one, taken}
use Rattle.kn_packets.proofs.ClientKept.{Calm, Fits, calm_keeps}
use Rattle.kn_packets.proofs.ClientLists.{held_is, its_place}
use Rattle.kn_packets.proofs.ClientMoves.{client_takes_lifts}
use Rattle.kn_packets.proofs.ClientReplies.{left_is, named_app, reply_fits}
use Rattle.kn_packets.proofs.Fresh.{eqb_refl}
use Rattle.kn_packets.proofs.Owners.{is_key}
use Rattle.kn_packets.proofs.Replies.{number_is}
use Rattle.kn_packets.proofs.Taken.{and_first, and_second, not_false}

-- a reply that is on its way to an app that dials no more finds no close of it
late_free : (t : Tunnel) → stream_ok (stream_view t) ≡ true → t.client ≡ true → t.connect ≡ false → is_reply t.outward.head ≡ true → is_dialling t.phase ≡ false → not (is_gone t.front) ≡ true → not t.inward.close ≡ true
late_free t ok has client reply phase up = rw (has, client, reply, phase, up) at (late_order t ok)

left_not_dialling : (p : Phase) → (p ≡ Ended) ⊎ (p ≡ Refused) → is_dialling p ≡ false
left_not_dialling p (inl e) = rw e refl
left_not_dialling p (inr e) = rw e refl

module _ (w : World) (f : ℕ) (rest : List Packet) (keys : Keys w) (client : (w.streams f).connect ≡ false) (there : (w.streams f).client ≡ true) where
  abbrev c : ℕ
  c = (w.streams f).owner

  abbrev state : ClientState
  state = w.clients (w.streams f).owner

  abbrev ups : ℕ → List Packet
  ups i = (w.streams i).up

  abbrev downs : ℕ → List Packet
  downs i = cond (i == f) rest (w.streams i).down

  abbrev clients : ℕ → Bool
  clients i = (w.streams i).client

  abbrev sides : ℕ → Side
  sides k = (w.apps k).side

  its : is_of_client c (w.streams f) ≡ true
  its = rw (client, eqb_refl (w.streams f).owner) refl

  on_it : (k : ℕ) → is_of_client c (w.streams (w.apps k).stream) ≡ true → (w.streams (w.apps k).stream).client ≡ true → (w.apps k).stream ≡ f
  on_it k of has = one_stream w c keys (w.apps k).stream f of its has there

  still_calm : (p : Packet) → (w.streams f).down ≡ p ∷ rest → Calm w c (ignored state) ups downs clients sides
  still_calm p first = calm_of w c keys (ignored state) ups downs clients sides (taken w f p rest first) (λ k h. refl) refl (λ g of h. tt)
      (apps_same w c keys (ignored state) sides refl (λ n old. refl) (λ k. refl)) (λ k came of h. order_old w c keys k came of)

  -- ---- a reply
  module _ (z random : ℤ) (first : (w.streams f).down ≡ DialRsp [] z random ∷ rest) where
    fits : AnswerFits w f (DialRsp [] z random)
    fits = let all : Each (AnswerFits w f) (DialRsp [] z random ∷ rest) = subst (λ ps. Each (AnswerFits w f) ps) first (keys.clients.answers f client) in all.0

    below : IsBelow w.server.next_dial z
    below = let all : Each (StreamOlder w.server.next_dial) (DialRsp [] z random ∷ rest) = subst (λ ps. Each (StreamOlder w.server.next_dial) ps) first (keys.server.outs_older f) in all.0

    opened_calm : (a : App) → app_at random state.apps ≡ Some a → a.state ≡ app.Dialling → Calm w c (app_turned state a.number (opened z) []) ups downs clients sides
    opened_calm a at dialling = calm_of w c keys step ups downs clients sides (taken w f (DialRsp [] z random) rest first) (λ k h. refl) refl (λ g of h. tt)
        (apps_turned w c keys step sides a.number a (opened z) (λ x. refl) (named_app random a state.apps at).1 refl own (λ k came of other. refl)) (λ k came of h. order_old w c keys k came of)
      where
        step : ClientStep
        step = app_turned state a.number (opened z) []

        own : (k : ℕ) → (w.apps k).came ≡ true → is_of_client c (w.streams (w.apps k).stream) ≡ true → (w.apps k).number ≡ a.number → ListedFits w k a → Fits w k (opened z a) (w.apps k).side.unwritten
        own k came of e h =
            let named = named_app random a state.apps at in
            let here : first_where (is_app (w.apps k).number) state.apps ≡ Some a = ap (λ i. first_where (is_app i) state.apps) e ∙ named.1 in
            let on : (w.apps k).stream ≡ f = on_it k of (has_stream w c keys k a came of here (λ s. cc (dialling, s))) in
            let asks : is_number (w.apps k).number random ≡ true = rw (named.0, e) (eqb_refl a.number) in
            let found = is_key (w.apps k).dial z (fits.1 k came on ∙ asks) in
            record { unwritten = h.unwritten; dial = λ s. found }

    stray_calm : ((a : App) → app_at random state.apps ≡ Some a → a.state ≢ app.Dialling) → Calm w c (told state (ToServer (CloseReq z) ∷ [])) ups downs clients sides
    stray_calm none = calm_of w c keys step ups downs clients sides (taken w f (DialRsp [] z random) rest first) (λ k h. refl) refl (λ g of h. ((below, tt), tt))
        (apps_same w c keys step sides refl (λ n old. refl) (λ k. refl)) (order_one w c keys (CloseReq z) (λ k came of has up. follows k came (on_it k of has) has up (is_drawn_number (w.apps k).dial z) refl))
      where
        step : ClientStep
        step = told state (ToServer (CloseReq z) ∷ [])

        by_state : (k : ℕ) (x : App) → x.state ≢ app.Dialling → (s : AppState) → x.state ≡ s → is_dialling (app_phase x.state) ≡ false
        by_state k x other app.Dialling es = absurd (other es)
        by_state k x other app.Open es = rw es refl
        by_state k x other app.Closing es = rw es refl
        by_state k x other app.Lingering es = rw es refl

        by_listed : (k : ℕ) → (w.apps k).came ≡ true → (w.apps k).stream ≡ f → is_number (w.apps k).number random ≡ true → (L : Option App) → first_where (is_app (w.apps k).number) state.apps ≡ L → is_dialling (phase_in w (w.apps k)) ≡ false
        by_listed k came on e None at = rw (on, client, at) (left_not_dialling (w.apps k).phase (left_is (w.apps k).phase (keys.clients.left k came (rw on client) (rw on at))))
        by_listed k came on e (Some x) at = rw (on, client, at) (by_state k x (none x (rw (number_is (w.apps k).number random e) at)) x.state refl)

        free : (k : ℕ) → (w.apps k).came ≡ true → (w.apps k).stream ≡ f → (w.streams (w.apps k).stream).client ≡ true → not (is_gone (w.streams (w.apps k).stream).front) ≡ true → is_number (w.apps k).number random ≡ true
            → (D : Option ℕ) → (w.apps k).dial ≡ D → Facts (tunnel_of w (w.apps k) D) → not (stream_in_word (w.streams (w.apps k).stream).connect (w.apps k).number D (w.streams (w.apps k).stream).up).close ≡ true
        free k came on has up e None de facts = late_free (tunnel_of w (w.apps k) None) facts.stream has (rw on client) (rw (on, client) (reply_fits w f z random rest keys client there first k None came on de e))
            (by_listed k came on e (first_where (is_app (w.apps k).number) state.apps) refl) up
        free k came on has up e (Some d) de facts = late_free (tunnel_of w (w.apps k) (Some d)) facts.stream has (rw on client) (rw (on, client) (reply_fits w f z random rest keys client there first k (Some d) came on de e))
            (by_listed k came on e (first_where (is_app (w.apps k).number) state.apps) refl) up

        follows : (k : ℕ) → (w.apps k).came ≡ true → (w.apps k).stream ≡ f → (w.streams (w.apps k).stream).client ≡ true → not (is_gone (w.streams (w.apps k).stream).front) ≡ true → (b : Bool) → is_drawn_number (w.apps k).dial z ≡ b
            → in_follows (in_of (stream_in_item false (w.apps k).number (w.apps k).dial) (w.streams (w.apps k).stream).up) (cond b CloseIn OtherIn) ≡ true
        follows k came on has up false other = refl
        follows k came on has up true key = subst (λ b. not (stream_in_word b (w.apps k).number (w.apps k).dial (w.streams (w.apps k).stream).up).close ≡ true) (ap (λ i. (w.streams i).connect) on ∙ client)
            (free k came on has up (sym (fits.1 k came on) ∙ key) (w.apps k).dial refl (keys.facts k came))

    replied_calm : (o : Option App) → app_at random state.apps ≡ o → Calm w c (reply_came state [] z o) ups downs clients sides
    replied_calm None at = stray_calm (λ a h. cc (at, h))
    replied_calm (Some a) at = by_state a.state refl
      where
        others : (s : AppState) → a.state ≡ s → s ≢ app.Dialling → (x : App) → app_at random state.apps ≡ Some x → x.state ≢ app.Dialling
        others s es other x h = λ d. other (sym es ∙ ap (λ (y : App). y.state) (same x h) ∙ d)
          where
            same : (x : App) → app_at random state.apps ≡ Some x → a ≡ x
            same x h = let m : Some a ≡ Some x = sym at ∙ h in cc

        by_state : (s : AppState) → a.state ≡ s → Calm w c (reply_by_state state a.number [] z s) ups downs clients sides
        by_state app.Dialling es = opened_calm a at es
        by_state app.Open es = stray_calm (others app.Open es (λ h. cc))
        by_state app.Closing es = stray_calm (others app.Closing es (λ h. cc))
        by_state app.Lingering es = stray_calm (others app.Lingering es (λ h. cc))

  -- an app leaves
  left_calm : (p : Packet) → (w.streams f).down ≡ p ∷ rest → (a : App) → first_where (is_app a.number) state.apps ≡ Some a → (error : List ℕ) → Calm w c (app_left state a.number error) ups downs clients sides
  left_calm p first a at error = calm_of w c keys (app_left state a.number error) ups downs clients sides (taken w f p rest first) (λ k h. refl) refl (λ g of h. tt)
      (apps_without w c keys (app_left state a.number error) sides a.number a at refl (λ n old. refl) (λ k came of other. refl)) (λ k came of h. order_old w c keys k came of)

  -- ---- a refusal
  module _ (x : ℕ) (xs : List ℕ) (z random : ℤ) (first : (w.streams f).down ≡ DialRsp (x ∷ xs) z random ∷ rest) where
    refused_calm : (o : Option App) → app_at random state.apps ≡ o → Calm w c (reply_came state (x ∷ xs) z o) ups downs clients sides
    refused_calm None at = still_calm (DialRsp (x ∷ xs) z random) first
    refused_calm (Some a) at = by_state a.state
      where
        by_state : (s : AppState) → Calm w c (reply_by_state state a.number (x ∷ xs) z s) ups downs clients sides
        by_state app.Dialling = left_calm (DialRsp (x ∷ xs) z random) first a (named_app random a state.apps at).1 (x ∷ xs)
        by_state app.Open = still_calm (DialRsp (x ∷ xs) z random) first
        by_state app.Closing = still_calm (DialRsp (x ∷ xs) z random) first
        by_state app.Lingering = still_calm (DialRsp (x ∷ xs) z random) first

  -- ---- bytes
  module _ (z : ℤ) (error bytes : List ℕ) (first : (w.streams f).down ≡ Data z error bytes ∷ rest) where
    gets_calm : (a : App) → first_where (is_open_at z) state.apps ≡ Some a → Calm w c (app_turned state a.number (with_more (length bytes)) (ToApp a.number bytes ∷ [])) ups downs clients sides
    gets_calm a at = calm_of w c keys step ups downs clients sides (taken w f (Data z error bytes) rest first) (λ k h. refl) refl (λ g of h. tt)
        (apps_turned w c keys step sides a.number a (with_more (length bytes)) (λ x. refl) (its_place (is_open_at z) a state.apps (keys.clients.apps_rise c) at) refl own (λ k came of other. rw other refl)) (λ k came of h. order_old w c keys k came of)
      where
        step : ClientStep
        step = app_turned state a.number (with_more (length bytes)) (ToApp a.number bytes ∷ [])

        own : (k : ℕ) → (w.apps k).came ≡ true → is_of_client c (w.streams (w.apps k).stream) ≡ true → (w.apps k).number ≡ a.number → ListedFits w k a
            → Fits w k (with_more (length bytes) a) (for_app (w.apps k).number (ToApp a.number bytes ∷ []) (w.apps k).side.unwritten)
        own k came of e h = record { unwritten = rw (e, eqb_refl a.number, length-append (w.apps k).side.unwritten bytes, h.unwritten) refl; dial = h.dial }

    bytes_calm : (o : Option App) → first_where (is_open_at z) state.apps ≡ o → Calm w c (data_came state bytes o) ups downs clients sides
    bytes_calm None at = still_calm (Data z error bytes) first
    bytes_calm (Some a) at = gets_calm a at

  -- ---- a close
  module _ (error : List ℕ) (z : ℤ) (first : (w.streams f).down ≡ CloseRsp error z ∷ rest) where
    lingers_calm : (a : App) → first_where (is_app a.number) state.apps ≡ Some a → a.state ≢ app.Dialling → Calm w c (app_turned state a.number (lingering error) []) ups downs clients sides
    lingers_calm a at other = calm_of w c keys step ups downs clients sides (taken w f (CloseRsp error z) rest first) (λ k h. refl) refl (λ g of h. tt)
        (apps_turned w c keys step sides a.number a (lingering error) (λ x. refl) at refl (λ k came of e h. record { unwritten = h.unwritten; dial = λ s. h.dial other }) (λ k came of e. refl)) (λ k came of h. order_old w c keys k came of)
      where
        step : ClientStep
        step = app_turned state a.number (lingering error) []

    close_calm : (o : Option App) → first_where (is_held_at z) state.apps ≡ o → Calm w c (close_came state error o) ups downs clients sides
    close_calm None at = still_calm (CloseRsp error z) first
    close_calm (Some a) at = by_count (a.unwritten == 0)
      where
        placed : first_where (is_app a.number) state.apps ≡ Some a
        placed = its_place (is_held_at z) a state.apps (keys.clients.apps_rise c) at

        by_count : (b : Bool) → Calm w c (cond b (app_left state a.number error) (app_turned state a.number (lingering error) [])) ups downs clients sides
        by_count true = left_calm (CloseRsp error z) first a placed error
        by_count false = lingers_calm a placed (held_is z a.state a.connect_id (passes (is_held_at z) a state.apps at)).0.0

  packet_calm : (p : Packet) → (w.streams f).down ≡ p ∷ rest → Calm w c (packet_came state p) ups downs clients sides
  packet_calm (DialRsp [] z random) first = replied_calm z random first (app_at random state.apps) refl
  packet_calm (DialRsp (x ∷ xs) z random) first = refused_calm x xs z random first (app_at random state.apps) refl
  packet_calm (Data z error bytes) first = bytes_calm z error bytes first (first_where (is_open_at z) state.apps) refl
  packet_calm (CloseRsp error z) first = close_calm error z first (first_where (is_held_at z) state.apps) refl
  packet_calm (DialReq protocol address random) first = still_calm (DialReq protocol address random) first
  packet_calm (CloseReq z) first = still_calm (CloseReq z) first
  packet_calm (DialCls random) first = still_calm (DialCls random) first
  packet_calm Drain first = still_calm Drain first
  packet_calm (Other number) first = still_calm (Other number) first

pub takes_keep : (w : World) (f : ℕ) → Keys w → May (ClientTakes f) w → Keys (after (ClientTakes f) w)
takes_keep w f keys may = by_first (w.streams f).down refl (client_takes_lifts w f keys may)
  where
    by_first : (ps : List Packet) → (w.streams f).down ≡ ps → Lifts w (takes_out f ps w) → Keys (takes_out f ps w)
    by_first [] first = λ lifts. keys
    by_first (p ∷ rest) first = calm_keeps w (w.streams f).owner false (packet_came (w.clients (w.streams f).owner) p) (λ i. (w.streams i).up) (λ i. cond (i == f) rest (w.streams i).down) (λ i. (w.streams i).client) (λ k. (w.apps k).side) keys
        (packet_calm w f rest keys (not_false (w.streams f).connect (and_second (w.streams f).client (not (w.streams f).connect) may)) (and_first (w.streams f).client (not (w.streams f).connect) may) p first)
