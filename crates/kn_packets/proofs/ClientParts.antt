-- A client takes a packet of its stream: the apps that it is not for.
use Rattle.std.proofs.Common.{◌≡◌, ◌==◌, ◌&&◌, ℕ, Bool, true, false, not, List, [], ◌∷◌, Option, Some, None, inl, refl, sym, ap, eqb-true}
use Rattle.kn_packet.specs.declared.packet.Packet.{Packet}
use Rattle.kn_tables.specs.Lists.{first_where}
use Rattle.kn_edge_core.specs.ClientTables.{is_app}
use Rattle.kn_edge_core.specs.Steps.{ClientStep}
use Rattle.kn_edge_core.specs.declared.app.App.{App}
use Rattle.kn_edge_core.specs.declared.app.AppState.{AppState}
use Rattle.kn_edge_core.specs.declared.app.AppState.TheVariants as app
use Rattle.kn_tunnel.specs.Facts.{Facts}
use Rattle.kn_tunnel.specs.Kinds.{has, has_left, implies, is_drawn, is_gone, no_entry}
use Rattle.kn_tunnel.specs.Steps.{Follows}
use Rattle.kn_tunnel.specs.StreamSide.{app_bytes, front_fits, in_ok, lost_out, order_out, phase_fits, rows, stream_control, stream_ok, stream_view}
use Rattle.kn_tunnel.specs.Tunnel.{Side, Tunnel}
use Rattle.kn_words.specs.In.{stream_in_word}
use Rattle.kn_words.specs.Out.{stream_out_word}
use Rattle.kn_packets.specs.Keys.{Keys}
use Rattle.kn_packets.specs.Lifts.{Lifts}
use Rattle.kn_packets.specs.Moves.{client_stepped, out_is}
use Rattle.kn_packets.specs.Outputs.{for_app, from_client, queued}
use Rattle.kn_packets.specs.World.{World, app_phase, phase_in, tunnel, tunnel_of}
use Rattle.kn_packets.proofs.Fresh.{eqb_refl}
use Rattle.kn_packets.proofs.Taken.{and_first, and_second}

none_is : (xs : List ℕ) → not (has xs) ≡ true → xs ≡ []
none_is [] e = refl
none_is (x ∷ xs) e = absurd cc

-- what a tunnel's facts say of an app that has left, and of one whose client lost the stream
pub left_dry : (t : Tunnel) → stream_ok (stream_view t) ≡ true → has_left t.phase ≡ true → t.app.unwritten ≡ []
left_dry t h l =
    let v = stream_view t in
    let one = and_second (stream_control v.connect v.front v.client v.finished v.phase v.entry v.drawn v.request) (in_ok v.connect v.front v.entry v.drawn v.request v.cancel v.in_data v.in_close && (lost_out v && (order_out v && (app_bytes v && rows v)))) h in
    let two = and_second (in_ok v.connect v.front v.entry v.drawn v.request v.cancel v.in_data v.in_close) (lost_out v && (order_out v && (app_bytes v && rows v))) one in
    let three = and_second (lost_out v) (order_out v && (app_bytes v && rows v)) two in
    let four = and_second (order_out v) (app_bytes v && rows v) three in
    let five = and_first (app_bytes v) (rows v) four in
    let last : implies (has_left t.phase) (not (has t.app.unwritten)) ≡ true = and_second _ (implies (has_left t.phase) (not (has t.app.unwritten))) five in
    none_is t.app.unwritten (rw l at last)

pub held_client : (t : Tunnel) → stream_ok (stream_view t) ≡ true → t.client ≡ false → phase_fits t.connect t.phase false (is_drawn t.far) ≡ true
held_client t h l =
    let v = stream_view t in
    let one = and_first (stream_control v.connect v.front v.client v.finished v.phase v.entry v.drawn v.request) (in_ok v.connect v.front v.entry v.drawn v.request v.cancel v.in_data v.in_close && (lost_out v && (order_out v && (app_bytes v && rows v)))) h in
    rw l at (middle (front_fits v.front v.entry v.request) (phase_fits v.connect v.phase v.client v.drawn) (implies v.finished v.connect) (implies (not v.drawn) (no_entry v.entry)) (implies v.request (not v.drawn)) one)
  where
    middle : (a b c d e : Bool) → (a && b && c && d && e) ≡ true → b ≡ true
    middle true true c d e h = refl
    middle true false c d e h = absurd cc
    middle false b c d e h = absurd cc

pub dry_side : (s : Side) → s.unwritten ≡ [] → record s { unwritten = [] } ≡ s
dry_side s e = ap (λ u. record s { unwritten = u }) (sym e)

module _ (w : World) (f : ℕ) (rest : List Packet) (keys : Keys w) (client : (w.streams f).connect ≡ false) (there : (w.streams f).client ≡ true) (S : ClientStep) where
  abbrev new : World
  new = client_stepped (w.streams f).owner false S (out_is f rest w)

  -- what an app's client has of it
  abbrev listed : ℕ → Option App
  listed k = first_where (is_app (w.apps k).number) (w.clients (w.streams f).owner).apps

  pub dry : (k : ℕ) → (w.apps k).came ≡ true → (w.streams (w.apps k).stream).connect ≡ false → (w.streams (w.apps k).stream).owner ≡ (w.streams f).owner → listed k ≡ None → (w.apps k).side.unwritten ≡ []
  dry k came cf ow none = by_dial (w.apps k).dial (keys.facts k came)
    where
      gone : has_left (phase_in w (w.apps k)) ≡ true
      gone = rw (cf, ow, none) (keys.clients.left k came cf (rw ow none))

      by_dial : (D : Option ℕ) → Facts (tunnel_of w (w.apps k) D) → (w.apps k).side.unwritten ≡ []
      by_dial None facts = left_dry (tunnel_of w (w.apps k) None) facts.stream gone
      by_dial (Some d) facts = left_dry (tunnel_of w (w.apps k) (Some d)) facts.stream gone

  -- an app of another stream of the client: that stream is lost, so the app drains or has left
  pub drains : (k : ℕ) (x : App) → (w.apps k).came ≡ true → (w.streams (w.apps k).stream).connect ≡ false → (w.streams (w.apps k).stream).owner ≡ (w.streams f).owner → (w.streams (w.apps k).stream).client ≡ false → listed k ≡ Some x → x.state ≡ app.Lingering
  drains k x came cf ow lost at = by_state x.state refl
    where
      fits : (D : Option ℕ) → Facts (tunnel_of w (w.apps k) D) → phase_fits false (app_phase x.state) false (is_drawn (tunnel_of w (w.apps k) D).far) ≡ true
      fits None facts = rw (cf, ow, at) at (held_client (tunnel_of w (w.apps k) None) facts.stream lost)
      fits (Some d) facts = rw (cf, ow, at) at (held_client (tunnel_of w (w.apps k) (Some d)) facts.stream lost)

      by_state : (s : AppState) → x.state ≡ s → s ≡ app.Lingering
      by_state app.Lingering es = refl
      by_state app.Dialling es = absurd (cc (rw es at (fits (w.apps k).dial (keys.facts k came))))
      by_state app.Open es = absurd (cc (rw es at (fits (w.apps k).dial (keys.facts k came))))
      by_state app.Closing es = absurd (cc (rw es at (fits (w.apps k).dial (keys.facts k came))))

  -- the app is as before
  pub off_same : (k : ℕ) → (w.apps k).came ≡ true → (w.streams (w.apps k).stream).connect ≡ false → (w.streams (w.apps k).stream).owner ≡ (w.streams f).owner → ((w.apps k).stream == f) ≡ false → (w.streams (w.apps k).stream).client ≡ false
      → (L : Option App) → listed k ≡ L → first_where (is_app (w.apps k).number) S.state.apps ≡ L → ((xs : List ℕ) → for_app (w.apps k).number S.outs xs ≡ xs) → (D : Option ℕ) → tunnel_of new (new.apps k) D ≡ tunnel_of w (w.apps k) D
  off_same k came cf ow off lost (Some x) old now silent None = rw (cf, ow, eqb_refl (w.streams f).owner, off, lost, now, old, silent (w.apps k).side.unwritten) refl
  off_same k came cf ow off lost (Some x) old now silent (Some d) = rw (cf, ow, eqb_refl (w.streams f).owner, off, lost, now, old, silent (w.apps k).side.unwritten) refl
  off_same k came cf ow off lost None old now silent None = rw (cf, ow, eqb_refl (w.streams f).owner, off, lost, now, old, dry_side (w.apps k).side (dry k came cf ow old)) refl
  off_same k came cf ow off lost None old now silent (Some d) = rw (cf, ow, eqb_refl (w.streams f).owner, off, lost, now, old, dry_side (w.apps k).side (dry k came cf ow old)) refl

  pub on_same : (k : ℕ) → (w.apps k).came ≡ true → (w.apps k).stream ≡ f → (L : Option App) → listed k ≡ L → first_where (is_app (w.apps k).number) S.state.apps ≡ L → ((xs : List ℕ) → for_app (w.apps k).number S.outs xs ≡ xs) → (D : Option ℕ)
      → stream_out_word false (w.apps k).number D rest ≡ stream_out_word false (w.apps k).number D (w.streams f).down
      → stream_in_word false (w.apps k).number D (queued (not (is_gone (w.streams f).front)) (w.streams f).up (from_client S.outs)) ≡ stream_in_word false (w.apps k).number D (w.streams f).up
      → tunnel_of new (new.apps k) D ≡ tunnel_of w (w.apps k) D
  on_same k came on (Some x) old now silent None out inward = rw (on, client, there, eqb_refl (w.streams f).owner, eqb_refl f, now, old, silent (w.apps k).side.unwritten, out, inward) refl
  on_same k came on (Some x) old now silent (Some d) out inward = rw (on, client, there, eqb_refl (w.streams f).owner, eqb_refl f, now, old, silent (w.apps k).side.unwritten, out, inward) refl
  on_same k came on None old now silent None out inward = rw (on, client, there, eqb_refl (w.streams f).owner, eqb_refl f, now, old, dry_side (w.apps k).side (dry k came (rw on client) (ap (λ i. (w.streams i).owner) on) old), out, inward) refl
  on_same k came on None old now silent (Some d) out inward = rw (on, client, there, eqb_refl (w.streams f).owner, eqb_refl f, now, old, dry_side (w.apps k).side (dry k came (rw on client) (ap (λ i. (w.streams i).owner) on) old), out, inward) refl

  -- an app that is no app of this client
  stranger : (k : ℕ) → (w.streams (w.apps k).stream).connect ≡ true → (D : Option ℕ) → tunnel_of new (new.apps k) D ≡ tunnel_of w (w.apps k) D
  stranger k ct D = by_stream ((w.apps k).stream == f) refl D
    where
      by_stream : (b : Bool) → ((w.apps k).stream == f) ≡ b → (D : Option ℕ) → tunnel_of new (new.apps k) D ≡ tunnel_of w (w.apps k) D
      by_stream true on D = absurd (cc (rw (eqb-true (w.apps k).stream f on) at ct, client))
      by_stream false off None = rw (ct, off) refl
      by_stream false off (Some d) = rw (ct, off) refl

  other_client : (k : ℕ) → (w.streams (w.apps k).stream).connect ≡ false → ((w.streams (w.apps k).stream).owner == (w.streams f).owner) ≡ false → (D : Option ℕ) → tunnel_of new (new.apps k) D ≡ tunnel_of w (w.apps k) D
  other_client k cf other D = by_stream ((w.apps k).stream == f) refl D
    where
      by_stream : (b : Bool) → ((w.apps k).stream == f) ≡ b → (D : Option ℕ) → tunnel_of new (new.apps k) D ≡ tunnel_of w (w.apps k) D
      by_stream true on D = absurd (cc (rw (eqb-true (w.apps k).stream f on) at other, eqb_refl (w.streams f).owner))
      by_stream false off None = rw (cf, other, off) refl
      by_stream false off (Some d) = rw (cf, other, off) refl

  -- all apps: those on the stream, and those of the client's other streams
  pub steps_lift : ((k : ℕ) → (w.apps k).came ≡ true → (w.apps k).stream ≡ f → Follows (tunnel_of w (w.apps k) (w.apps k).dial) (tunnel_of new (new.apps k) (w.apps k).dial))
      → ((k : ℕ) (L : Option App) → (w.apps k).came ≡ true → (w.streams (w.apps k).stream).connect ≡ false → (w.streams (w.apps k).stream).owner ≡ (w.streams f).owner → (w.streams (w.apps k).stream).client ≡ false → listed k ≡ L
      → (first_where (is_app (w.apps k).number) S.state.apps ≡ L) × ((xs : List ℕ) → for_app (w.apps k).number S.outs xs ≡ xs)) → Lifts w new
  steps_lift own away k came = by_connect (w.streams (w.apps k).stream).connect refl
    where
      lost : (w.streams (w.apps k).stream).connect ≡ false → (w.streams (w.apps k).stream).owner ≡ (w.streams f).owner → ((w.apps k).stream == f) ≡ false → (b : Bool) → (w.streams (w.apps k).stream).client ≡ b → b ≡ false
      lost cf ow off false e = refl
      lost cf ow off true e =
          let same : (w.apps k).stream ≡ f = keys.clients.alone (w.apps k).stream f (w.streams f).owner (rw (cf, ow, eqb_refl (w.streams f).owner) refl) (rw (client, eqb_refl (w.streams f).owner) refl) e there in
          absurd (cc (rw same at off, eqb_refl f))

      by_stream : (w.streams (w.apps k).stream).connect ≡ false → (w.streams (w.apps k).stream).owner ≡ (w.streams f).owner → (b : Bool) → ((w.apps k).stream == f) ≡ b → Follows (tunnel w k) (tunnel_of new (new.apps k) (w.apps k).dial)
      by_stream cf ow true on = own k came (eqb-true (w.apps k).stream f on)
      by_stream cf ow false off =
          let gone = lost cf ow off (w.streams (w.apps k).stream).client refl in let two = away k (listed k) came cf ow gone refl in
          inl (off_same k came cf ow off gone (listed k) refl two.0 two.1 (w.apps k).dial)

      by_owner : (w.streams (w.apps k).stream).connect ≡ false → (b : Bool) → ((w.streams (w.apps k).stream).owner == (w.streams f).owner) ≡ b → Follows (tunnel w k) (tunnel_of new (new.apps k) (w.apps k).dial)
      by_owner cf true ow = by_stream cf (eqb-true (w.streams (w.apps k).stream).owner (w.streams f).owner ow) ((w.apps k).stream == f) refl
      by_owner cf false other = inl (other_client k cf other (w.apps k).dial)

      by_connect : (b : Bool) → (w.streams (w.apps k).stream).connect ≡ b → Follows (tunnel w k) (tunnel_of new (new.apps k) (w.apps k).dial)
      by_connect true ct = inl (stranger k ct (w.apps k).dial)
      by_connect false cf = by_owner cf ((w.streams (w.apps k).stream).owner == (w.streams f).owner) refl
