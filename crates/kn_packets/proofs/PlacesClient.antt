-- What a client sends names the dial of an app of its stream.
use Rattle.std.proofs.Common.{◌≡◌, ◌==◌, ◌&&◌, ℕ, ℤ, pos, Bool, true, false, not, cond, List, [], ◌∷◌, Option, Some, None, refl}
use Rattle.kn_packet.specs.declared.packet.Packet.{Packet}
use Rattle.kn_packet.specs.declared.packet.Packet.TheVariants.{CloseReq, CloseRsp, Data, DialCls, DialReq, DialRsp, Drain, Other}
use Rattle.kn_tables.specs.Lists.{first_where}
use Rattle.kn_server_core.specs.Isolation.{Each}
use Rattle.kn_edge_core.specs.Client.{app_bytes, app_bytes_by_state, app_ended, app_failed, app_left, app_turned, app_up, app_wrote, close_came, data_came, end_by_state, failure_by_state, packet_came, reply_by_state, reply_came, stray_reply, stream_ended, wrote_by_state}
use Rattle.kn_edge_core.specs.ClientTables.{app_at, is_app, is_held_at, is_open_at, lingering, with_fewer}
use Rattle.kn_edge_core.specs.Steps.{ClientStep}
use Rattle.kn_edge_core.specs.declared.app.App.{App}
use Rattle.kn_edge_core.specs.declared.app.AppState.{AppState}
use Rattle.kn_edge_core.specs.declared.app.AppState.TheVariants as app
use Rattle.kn_edge_core.specs.declared.client_state.ClientState.{ClientState}
use Rattle.kn_tunnel.specs.Kinds.{is_gone}
use Rattle.kn_packets.specs.Keys.{Keys}
use Rattle.kn_packets.specs.Moves.{client_stepped, is_of_client}
use Rattle.kn_packets.specs.Outputs.{from_client, queued}
use Rattle.kn_packets.specs.Places.{OfItsApps, Places, SpeaksOfStream}
use Rattle.kn_packets.specs.World.{World}
use Rattle.kn_packets.proofs.AgentKept.{each_queued}
use Rattle.kn_packets.proofs.ClientCalm.{has_stream, old_fits, one_stream}
use Rattle.kn_packets.proofs.Fresh.{eqb_refl}
use Rattle.kn_packets.proofs.PlaceParts.{Grows, links_more, streams_more}
use Rattle.kn_packets.proofs.StreamLossKeep.{tells_none}

-- what a client says on the stream that it has
abbrev pub Says : World → ℕ → ClientStep → Type 0
Says w c s = (f : ℕ) → is_of_client c (w.streams f) ≡ true → (w.streams f).client ≡ true → Each (SpeaksOfStream w f) (from_client s.outs)

says_if : (w : World) (c : ℕ) (b : Bool) (s t : ClientStep) → Says w c s → Says w c t → Says w c (cond b s t)
says_if w c true s t h k = h
says_if w c false s t h k = k

-- ---- the world after it
module _ (w : World) (c : ℕ) (itself : Bool) (s : ClientStep) (places : Places w) (says : Says w c s) where
  abbrev next : World
  next = client_stepped c itself s w

  grows : Grows w next
  grows = record { drawn = λ l cid h. h; links = λ d h. refl; apps = λ k d came h. (came, h) }

  ins : (f : ℕ) → (w.streams f).connect ≡ false → Each (SpeaksOfStream next f) (next.streams f).up
  ins f of_client = here (is_of_client c (w.streams f)) (w.streams f).client refl refl
    where
      old : Each (SpeaksOfStream next f) (w.streams f).up
      old = streams_more w next grows f f (λ k came on. on) (w.streams f).up (places.ins f of_client)

      here : (a b : Bool) → is_of_client c (w.streams f) ≡ a → (w.streams f).client ≡ b
          → Each (SpeaksOfStream next f) (cond (a && b) (queued (not (is_gone (w.streams f).front)) (w.streams f).up (from_client s.outs)) (w.streams f).up)
      here true true of has = each_queued (SpeaksOfStream next f) (not (is_gone (w.streams f).front)) (w.streams f).up (from_client s.outs) old
          (streams_more w next grows f f (λ k came on. on) (from_client s.outs) (says f of has))
      here true false of has = old
      here false b of has = old

  pub client_places : Places next
  client_places = record {
    ups = λ l. links_more w next grows l (w.links l).up (places.ups l);
    downs = λ l. links_more w next grows l (w.links l).down (places.downs l);
    ins = ins;
    outs = λ f of_client. streams_more w next grows f f (λ k came on. on) (w.streams f).down (places.outs f of_client);
    from_one = places.from_one;
    drawn = places.drawn;
    all_drawn = places.all_drawn;
  }

-- ---- a packet
module _ (w : World) (c : ℕ) where
  abbrev state : ClientState
  state = w.clients c

  -- one who replies to no app that waits is told to close
  stray : (z : ℤ) (error : List ℕ) → ((f : ℕ) → is_of_client c (w.streams f) ≡ true → (w.streams f).client ≡ true → SpeaksOfStream w f (DialRsp error z (pos 0))) → Says w c (stray_reply state error z)
  stray z [] said = λ f of has. (said f of has, tt)
  stray z (x ∷ xs) said = λ f of has. tt

  replied : (z : ℤ) (error : List ℕ) → ((f : ℕ) → is_of_client c (w.streams f) ≡ true → (w.streams f).client ≡ true → SpeaksOfStream w f (DialRsp error z (pos 0))) → (o : Option App) → Says w c (reply_came state error z o)
  replied z error said None = stray z error said
  replied z error said (Some a) = by_state error a.state said
    where
      by_state : (e : List ℕ) (s : AppState) → ((f : ℕ) → is_of_client c (w.streams f) ≡ true → (w.streams f).client ≡ true → SpeaksOfStream w f (DialRsp e z (pos 0))) → Says w c (reply_by_state state a.number e z s)
      by_state [] app.Dialling said = λ f of has. tt
      by_state (x ∷ xs) app.Dialling said = λ f of has. tt
      by_state e app.Open said = stray z e said
      by_state e app.Closing said = stray z e said
      by_state e app.Lingering said = stray z e said

  data_at : (bytes : List ℕ) (o : Option App) → Says w c (data_came state bytes o)
  data_at bytes None = λ f of has. tt
  data_at bytes (Some a) = λ f of has. tt

  close_at : (error : List ℕ) (o : Option App) → Says w c (close_came state error o)
  close_at error None = λ f of has. tt
  close_at error (Some a) = says_if w c (a.unwritten == 0) (app_left state a.number error) (app_turned state a.number (lingering error) []) (λ f of has. tt) (λ f of has. tt)

  pub packet_says : (p : Packet) → ((f : ℕ) → is_of_client c (w.streams f) ≡ true → (w.streams f).client ≡ true → SpeaksOfStream w f p) → Says w c (packet_came state p)
  packet_says (DialRsp [] z random) said = replied z [] said (app_at random state.apps)
  packet_says (DialRsp (x ∷ xs) z random) said = replied z (x ∷ xs) said (app_at random state.apps)
  packet_says (Data z error bytes) said = data_at bytes (first_where (is_open_at z) state.apps)
  packet_says (CloseRsp error z) said = close_at error (first_where (is_held_at z) state.apps)
  packet_says (DialReq protocol address random) said = λ f of has. tt
  packet_says (CloseReq z) said = λ f of has. tt
  packet_says (DialCls random) said = λ f of has. tt
  packet_says Drain said = λ f of has. tt
  packet_says (Other number) said = λ f of has. tt

  pub stream_end_says : (error : List ℕ) → Says w c (stream_ended state error)
  stream_end_says error = λ f of has. rw (tells_none error state.apps) tt

  pub up_says : (n : ℕ) (address : List ℕ) → Says w c (app_up state n address)
  up_says n address = λ f of has. (tt, tt)

  -- ---- bytes that are written
  pub wrote_says : (count : ℕ) (o : Option App) → Says w c (app_wrote state count o)
  wrote_says count None = λ f of has. tt
  wrote_says count (Some a) = by_state a.state
    where
      by_state : (s : AppState) → Says w c (wrote_by_state state count a s)
      by_state app.Lingering = says_if w c (a.unwritten == count) (app_left state a.number a.error) (app_turned state a.number (with_fewer count) []) (λ f of has. tt) (λ f of has. tt)
      by_state app.Dialling = λ f of has. tt
      by_state app.Open = λ f of has. tt
      by_state app.Closing = λ f of has. tt

-- ---- what an app does
module _ (w : World) (k : ℕ) (keys : Keys w) (came : (w.apps k).came ≡ true) (of_client : (w.streams (w.apps k).stream).connect ≡ false) where
  abbrev c : ℕ
  c = (w.streams (w.apps k).stream).owner

  abbrev its_state : ClientState
  its_state = w.clients (w.streams (w.apps k).stream).owner

  its : is_of_client c (w.streams (w.apps k).stream) ≡ true
  its = rw (of_client, eqb_refl (w.streams (w.apps k).stream).owner) refl

  -- its dial, on the stream that its client has
  its_dial : (x : App) → first_where (is_app (w.apps k).number) its_state.apps ≡ Some x → x.state ≡ app.Open → (f : ℕ) → is_of_client c (w.streams f) ≡ true → (w.streams f).client ≡ true → OfItsApps w f x.connect_id
  its_dial x at opened f of has =
      let named = (old_fits w c keys k x came its at).dial (λ h. cc (opened, h)) in
      let on : (w.apps k).stream ≡ f = one_stream w c keys (w.apps k).stream f its of (has_stream w c keys k x came its at (λ h. cc (opened, h))) has in
      (k, named.0, came, on, named.1, named.2)

  pub bytes_say : (bytes : List ℕ) (o : Option App) → first_where (is_app (w.apps k).number) its_state.apps ≡ o → Says w c (app_bytes its_state bytes o)
  bytes_say bytes None at = λ f of has. tt
  bytes_say bytes (Some x) at = by_state x.state refl
    where
      by_state : (s : AppState) → x.state ≡ s → Says w c (app_bytes_by_state its_state x.connect_id bytes s)
      by_state app.Open es = λ f of has. (its_dial x at es f of has, tt)
      by_state app.Dialling es = λ f of has. tt
      by_state app.Closing es = λ f of has. tt
      by_state app.Lingering es = λ f of has. tt

  pub end_says : (o : Option App) → first_where (is_app (w.apps k).number) its_state.apps ≡ o → Says w c (app_ended its_state o)
  end_says None at = λ f of has. tt
  end_says (Some x) at = by_state x.state refl
    where
      by_state : (s : AppState) → x.state ≡ s → Says w c (end_by_state its_state x.number x.connect_id s)
      by_state app.Open es = λ f of has. (its_dial x at es f of has, tt)
      by_state app.Dialling es = λ f of has. (tt, tt)
      by_state app.Closing es = λ f of has. tt
      by_state app.Lingering es = λ f of has. tt

  pub failure_says : (o : Option App) → first_where (is_app (w.apps k).number) its_state.apps ≡ o → Says w c (app_failed its_state o)
  failure_says None at = λ f of has. tt
  failure_says (Some x) at = by_state x.state refl
    where
      by_state : (s : AppState) → x.state ≡ s → Says w c (failure_by_state its_state x.number x.connect_id s)
      by_state app.Open es = λ f of has. (its_dial x at es f of has, tt)
      by_state app.Dialling es = λ f of has. (tt, tt)
      by_state app.Closing es = λ f of has. tt
      by_state app.Lingering es = λ f of has. tt
