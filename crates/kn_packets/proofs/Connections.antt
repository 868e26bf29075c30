-- What happens at a CONNECT connection's far end, and what an end drops of a list whose sender lost it.
use Rattle.std.proofs.Common.{◌≡◌, ◌==◌, ◌&&◌, ℕ, Bool, true, false, not, List, [], ◌∷◌, length, take, drop, Option, Some, None, inl, inr, refl, sym, ap, ◌∙◌, eqb-true, subst, append-nil}
use Rattle.kn_packet.specs.declared.packet.Packet.{Packet}
use Rattle.kn_packet.specs.declared.packet.Packet.TheVariants.{CloseReq, CloseRsp, Data, DialCls, DialReq, DialRsp, Drain, Other}
use Rattle.kn_tunnel.specs.Cuts.{IsCutIn}
use Rattle.kn_tunnel.specs.Events as event
use Rattle.kn_tunnel.specs.Kinds.{has, is_empty, is_refusal, is_reply, is_zero, no_head}
use Rattle.kn_tunnel.specs.Steps as step
use Rattle.kn_tunnel.specs.Steps.{Follows}
use Rattle.kn_tunnel.specs.Tunnel.{NoHead}
use Rattle.kn_words.specs.In.{in_ordered, stream_in_item, stream_in_word}
use Rattle.kn_words.specs.Out.{BytesOut, CloseOut, OtherOut, RefusalOut, ReplyOut, connect_out_item, out_before, out_cons, stream_out_item, stream_out_word}
use Rattle.kn_words.proofs.InOrder.{in_prefix_cut}
use Rattle.kn_words.proofs.OutOrder.{out_order_first}
use Rattle.kn_words.proofs.Taken.{out_bytes_ask, out_bytes_taken, out_close_asks, out_refusal_asks, out_reply_asks, out_reply_taken}
use Rattle.kn_packets.specs.Keys.{Keys}
use Rattle.kn_packets.specs.Lifts.{Lifts}
use Rattle.kn_packets.specs.Moves.{AppSends, ConnectComes, ConnectLeaves, ConnectTakes, DropsIn, DropsOut, May, StreamBegins, after, connect_gets, connect_leaves, connect_takes, out_is, takes_connect}
use Rattle.kn_packets.specs.World.{World, tunnel, tunnel_of}
use Rattle.kn_packets.proofs.Fresh.{eqb_refl}
use Rattle.kn_packets.proofs.Taken.{and_first, and_second, not_false, take_front}
use Rattle.kn_packets.proofs.Takes.{nothing_happens}

-- ---- what is dropped
pub drops_in_lifts : (w : World) (f : ℕ) → May (DropsIn f) w → Lifts w (after (DropsIn f) w)
drops_in_lifts w f may k came = by_stream ((w.apps k).stream == f) refl (w.apps k).dial
  where
    by_stream : (b : Bool) → ((w.apps k).stream == f) ≡ b → (D : Option ℕ) → Follows (tunnel_of w (w.apps k) D) (tunnel_of (after (DropsIn f) w) (w.apps k) D)
    by_stream true on None = let at = eqb-true (w.apps k).stream f on in inr (event.ResetIn, (rw at may, tt), rw (at, eqb_refl f) refl)
    by_stream true on (Some d) = let at = eqb-true (w.apps k).stream f on in inr (event.ResetIn, (rw at may, tt), rw (at, eqb_refl f) refl)
    by_stream false on None = inl (rw on refl)
    by_stream false on (Some d) = inl (rw on refl)

pub drops_out_lifts : (w : World) (f : ℕ) → May (DropsOut f) w → Lifts w (after (DropsOut f) w)
drops_out_lifts w f may k came = by_stream ((w.apps k).stream == f) refl (w.apps k).dial
  where
    by_stream : (b : Bool) → ((w.apps k).stream == f) ≡ b → (D : Option ℕ) → Follows (tunnel_of w (w.apps k) D) (tunnel_of (after (DropsOut f) w) (w.apps k) D)
    by_stream true on None = let at = eqb-true (w.apps k).stream f on in inr (event.ResetOut, (rw at may, tt), rw (at, eqb_refl f) refl)
    by_stream true on (Some d) = let at = eqb-true (w.apps k).stream f on in inr (event.ResetOut, (rw at may, tt), rw (at, eqb_refl f) refl)
    by_stream false on None = inl (rw on refl)
    by_stream false on (Some d) = inl (rw on refl)

-- ---- an app sends bytes
pub app_sends_lifts : (w : World) (a : ℕ) (bytes : List ℕ) → Lifts w (after (AppSends a bytes) w)
app_sends_lifts w a bytes k came = by_app (k == a) refl (w.apps k).dial
  where
    by_app : (b : Bool) → (k == a) ≡ b → (D : Option ℕ) → Follows (tunnel_of w (w.apps k) D) (tunnel_of (after (AppSends a bytes) w) ((after (AppSends a bytes) w).apps k) D)
    by_app true is None = inr (event.AppSends bytes, (refl, tt), rw is refl)
    by_app true is (Some d) = inr (event.AppSends bytes, (refl, tt), rw is refl)
    by_app false is None = inl (rw is refl)
    by_app false is (Some d) = inl (rw is refl)

-- ---- a stream or a CONNECT connection begins: no app is on it yet
pub off_new : (w : World) (f k : ℕ) → Keys w → (w.apps k).came ≡ true → (w.streams f).begun ≡ false → ((w.apps k).stream == f) ≡ false
off_new w f k keys came fresh = here ((w.apps k).stream == f) refl
  where
    here : (b : Bool) → ((w.apps k).stream == f) ≡ b → b ≡ false
    here false e = refl
    here true e = let at : (w.apps k).stream ≡ f = eqb-true (w.apps k).stream f e in absurd (cc (rw at at (keys.clients.begun k came), fresh))

pub stream_begins_lifts : (w : World) (f c : ℕ) → Keys w → May (StreamBegins f c) w → Lifts w (after (StreamBegins f c) w)
stream_begins_lifts w f c keys may k came = inl (same (w.apps k).dial)
  where
    off : ((w.apps k).stream == f) ≡ false
    off = off_new w f k keys came may.0

    same : (D : Option ℕ) → tunnel_of (after (StreamBegins f c) w) (w.apps k) D ≡ tunnel_of w (w.apps k) D
    same None = rw off refl
    same (Some d) = rw off refl

pub connect_comes_lifts : (w : World) (a f : ℕ) (address : List ℕ) → Keys w → May (ConnectComes a f address) w → Lifts w (after (ConnectComes a f address) w)
connect_comes_lifts w a f address keys may k came = inl (rw other (same (w.apps k).dial))
  where
    off : ((w.apps k).stream == f) ≡ false
    off = off_new w f k keys came (not_false (w.streams f).begun (and_second (not (w.apps a).came) (not (w.streams f).begun) may))

    other : (k == a) ≡ false
    other = here (k == a) refl
      where
        here : (b : Bool) → (k == a) ≡ b → b ≡ false
        here false e = refl
        here true e =
            let is : k ≡ a = eqb-true k a e in let not_yet : (w.apps a).came ≡ false = not_false (w.apps a).came (and_first (not (w.apps a).came) (not (w.streams f).begun) may) in
            absurd (cc (rw is at came, not_yet))

    same : (D : Option ℕ) → tunnel_of (after (ConnectComes a f address) w) (w.apps k) D ≡ tunnel_of w (w.apps k) D
    same None = rw off refl
    same (Some d) = rw off refl

-- the new app's tunnel begins
pub connect_comes_starts : (w : World) (a f : ℕ) (address : List ℕ) → tunnel (after (ConnectComes a f address) w) a ≡ step.start true
connect_comes_starts w a f address = rw (eqb_refl a, eqb_refl f) refl

-- ---- a CONNECT app leaves
pub connect_leaves_lifts : (w : World) (f : ℕ) (left : List Packet) → Keys w → May (ConnectLeaves f left) w → Lifts w (after (ConnectLeaves f left) w)
connect_leaves_lifts w f left keys may k came = by_stream ((w.apps k).stream == f) refl (w.apps k).dial refl
  where
    client : (w.streams f).client ≡ true
    client = and_first (w.streams f).client (w.streams f).connect may.0

    connect : (w.streams f).connect ≡ true
    connect = and_second (w.streams f).client (w.streams f).connect may.0

    cut : (D : Option ℕ) → (w.apps k).dial ≡ D → (w.apps k).stream ≡ f → IsCutIn (stream_in_word true (w.apps k).number D left) (stream_in_word true (w.apps k).number D (w.streams f).up)
    cut D de on = subst (λ ps. in_ordered (stream_in_item true (w.apps k).number D) ps ≡ true → IsCutIn (stream_in_word true (w.apps k).number D left) (stream_in_word true (w.apps k).number D ps))
        may.1.1 (in_prefix_cut (stream_in_item true (w.apps k).number D) left may.1.0) (rw (on, de, connect) at ((keys.ordered k came).inward))

    by_stream : (b : Bool) → ((w.apps k).stream == f) ≡ b → (D : Option ℕ) → (w.apps k).dial ≡ D → Follows (tunnel_of w (w.apps k) D) (tunnel_of (after (ConnectLeaves f left) w) ((after (ConnectLeaves f left) w).apps k) D)
    by_stream true at None de = let on = eqb-true (w.apps k).stream f at in inr (event.StreamLost (stream_in_word true (w.apps k).number None left), (rw on client, rw (on, connect) (cut None de on)), rw (on, eqb_refl f, connect) refl)
    by_stream true at (Some d) de = let on = eqb-true (w.apps k).stream f at in inr (event.StreamLost (stream_in_word true (w.apps k).number (Some d) left), (rw on client, rw (on, connect) (cut (Some d) de on)), rw (on, eqb_refl f, connect) refl)
    by_stream false off None de = inl (rw off refl)
    by_stream false off (Some d) de = inl (rw off refl)

-- ---- a CONNECT app takes a packet
module _ (w : World) (f : ℕ) (keys : Keys w) (client : (w.streams f).client ≡ true) (connect : (w.streams f).connect ≡ true) (p : Packet) (rest : List Packet) (first : (w.streams f).down ≡ p ∷ rest) where
  before : (k : ℕ) (D : Option ℕ) → (w.apps k).came ≡ true → (w.apps k).stream ≡ f → (w.apps k).dial ≡ D → out_before (connect_out_item p) (stream_out_word true (w.apps k).number D rest) ≡ true
  before k D came on de = out_order_first (stream_out_item true (w.apps k).number D) p rest (rw (on, de, connect, first) at ((keys.ordered k came).outward))

  off_same : (k : ℕ) → ((w.apps k).stream == f) ≡ false → (D : Option ℕ) → tunnel_of (connect_takes f p (out_is f rest w)) ((connect_takes f p (out_is f rest w)).apps k) D ≡ tunnel_of w (w.apps k) D
  off_same k off D = by_packet p D
    where
      by_packet : (q : Packet) (D : Option ℕ) → tunnel_of (connect_takes f q (out_is f rest w)) ((connect_takes f q (out_is f rest w)).apps k) D ≡ tunnel_of w (w.apps k) D
      by_packet (DialRsp [] c r) None = rw off refl
      by_packet (DialRsp [] c r) (Some d) = rw off refl
      by_packet (DialRsp (x ∷ xs) c r) None = rw off refl
      by_packet (DialRsp (x ∷ xs) c r) (Some d) = rw off refl
      by_packet (Data c e b) None = rw off refl
      by_packet (Data c e b) (Some d) = rw off refl
      by_packet (CloseRsp e c) None = rw off refl
      by_packet (CloseRsp e c) (Some d) = rw off refl
      by_packet (DialReq a b c) None = rw off refl
      by_packet (DialReq a b c) (Some d) = rw off refl
      by_packet (CloseReq c) None = rw off refl
      by_packet (CloseReq c) (Some d) = rw off refl
      by_packet (DialCls c) None = rw off refl
      by_packet (DialCls c) (Some d) = rw off refl
      by_packet Drain None = rw off refl
      by_packet Drain (Some d) = rw off refl
      by_packet (Other n) None = rw off refl
      by_packet (Other n) (Some d) = rw off refl

  -- the reply
  reply_taken : connect_out_item p ≡ ReplyOut → (k : ℕ) (D : Option ℕ) → (w.apps k).came ≡ true → (w.apps k).stream ≡ f → (w.apps k).dial ≡ D → Follows (tunnel_of w (w.apps k) D) (tunnel_of (out_is f rest w) (w.apps k) D)
  reply_taken item k D came on de = by_dial D fits word
    where
      fits : is_reply (stream_out_word true (w.apps k).number D (w.streams f).down).head ≡ true
      fits = rw (first, item) (out_reply_asks (stream_out_word true (w.apps k).number D rest) (rw item at (before k D came on de)))

      word : stream_out_word true (w.apps k).number D rest ≡ record (stream_out_word true (w.apps k).number D (w.streams f).down) { head = NoHead }
      word = rw first (sym (ap (λ i. record (out_cons i (stream_out_word true (w.apps k).number D rest)) { head = NoHead }) item ∙ out_reply_taken (stream_out_word true (w.apps k).number D rest) (rw item at (before k D came on de))))

      by_dial : (D : Option ℕ) → is_reply (stream_out_word true (w.apps k).number D (w.streams f).down).head ≡ true → stream_out_word true (w.apps k).number D rest ≡ record (stream_out_word true (w.apps k).number D (w.streams f).down) { head = NoHead }
          → Follows (tunnel_of w (w.apps k) D) (tunnel_of (out_is f rest w) (w.apps k) D)
      by_dial None fits word = inr (event.ConnectTakesReply, (rw (on, client, connect) fits, tt), rw (on, eqb_refl f, connect, word) refl)
      by_dial (Some d) fits word = inr (event.ConnectTakesReply, (rw (on, client, connect) fits, tt), rw (on, eqb_refl f, connect, word) refl)

  -- the refusal, and the close: it leaves
  refusal_taken : connect_out_item p ≡ RefusalOut → (k : ℕ) (D : Option ℕ) → (w.apps k).came ≡ true → (w.apps k).stream ≡ f → (w.apps k).dial ≡ D
      → Follows (tunnel_of w (w.apps k) D) (tunnel_of (connect_leaves f (out_is f rest w)) ((connect_leaves f (out_is f rest w)).apps k) D)
  refusal_taken item k D came on de = by_dial D fits
    where
      fits : is_refusal (stream_out_word true (w.apps k).number D (w.streams f).down).head ≡ true
      fits = rw (first, item) (out_refusal_asks (stream_out_word true (w.apps k).number D rest) (rw item at (before k D came on de)))

      by_dial : (D : Option ℕ) → is_refusal (stream_out_word true (w.apps k).number D (w.streams f).down).head ≡ true → Follows (tunnel_of w (w.apps k) D) (tunnel_of (connect_leaves f (out_is f rest w)) ((connect_leaves f (out_is f rest w)).apps k) D)
      by_dial None fits = inr (event.ConnectTakesRefusal, (rw (on, client, connect) fits, tt), rw (on, eqb_refl f, connect) refl)
      by_dial (Some d) fits = inr (event.ConnectTakesRefusal, (rw (on, client, connect) fits, tt), rw (on, eqb_refl f, connect) refl)

  close_taken : connect_out_item p ≡ CloseOut → (k : ℕ) (D : Option ℕ) → (w.apps k).came ≡ true → (w.apps k).stream ≡ f → (w.apps k).dial ≡ D
      → Follows (tunnel_of w (w.apps k) D) (tunnel_of (connect_leaves f (out_is f rest w)) ((connect_leaves f (out_is f rest w)).apps k) D)
  close_taken item k D came on de = by_dial D fits
    where
      three : (a b : Bool) → a ≡ true → b ≡ true → (a && b && true) ≡ true
      three true b h i = rw i refl
      three false b h i = absurd cc

      asks : (no_head (stream_out_word true (w.apps k).number D rest).head ≡ true) × (is_empty (stream_out_word true (w.apps k).number D rest).bytes ≡ true)
      asks = out_close_asks (stream_out_word true (w.apps k).number D rest) (rw item at (before k D came on de))

      fits : (no_head (stream_out_word true (w.apps k).number D (w.streams f).down).head && is_empty (stream_out_word true (w.apps k).number D (w.streams f).down).bytes && not (is_zero (stream_out_word true (w.apps k).number D (w.streams f).down).closes)) ≡ true
      fits = rw (first, item) (three (no_head (stream_out_word true (w.apps k).number D rest).head) (is_empty (stream_out_word true (w.apps k).number D rest).bytes) asks.0 asks.1)

      by_dial : (D : Option ℕ) → (no_head (stream_out_word true (w.apps k).number D (w.streams f).down).head && is_empty (stream_out_word true (w.apps k).number D (w.streams f).down).bytes && not (is_zero (stream_out_word true (w.apps k).number D (w.streams f).down).closes)) ≡ true
          → Follows (tunnel_of w (w.apps k) D) (tunnel_of (connect_leaves f (out_is f rest w)) ((connect_leaves f (out_is f rest w)).apps k) D)
      by_dial None fits = inr (event.ConnectTakesClose, (rw (on, client, connect) fits, tt), rw (on, eqb_refl f, connect) refl)
      by_dial (Some d) fits = inr (event.ConnectTakesClose, (rw (on, client, connect) fits, tt), rw (on, eqb_refl f, connect) refl)

  -- bytes
  bytes_taken : (bytes : List ℕ) → connect_out_item p ≡ BytesOut bytes → (k : ℕ) (D : Option ℕ) → (w.apps k).came ≡ true → (w.apps k).stream ≡ f → (w.apps k).dial ≡ D
      → Follows (tunnel_of w (w.apps k) D) (tunnel_of (connect_gets f bytes (out_is f rest w)) ((connect_gets f bytes (out_is f rest w)).apps k) D)
  bytes_taken bytes item k D came on de = by_bytes (has bytes) refl D (λ some. fits some) word piece none
    where
      none_is : (xs : List ℕ) → has xs ≡ false → xs ≡ []
      none_is [] e = refl
      none_is (x ∷ xs) e = absurd cc

      fits : has bytes ≡ true → no_head (stream_out_word true (w.apps k).number D (w.streams f).down).head ≡ true
      fits some = rw (first, item) (out_bytes_ask bytes (stream_out_word true (w.apps k).number D rest) (rw some refl) (rw item at (before k D came on de)))

      word : stream_out_word true (w.apps k).number D rest ≡ record (stream_out_word true (w.apps k).number D (w.streams f).down) { bytes = drop (length bytes) (stream_out_word true (w.apps k).number D (w.streams f).down).bytes }
      word = rw first (sym (ap (λ i. record (out_cons i (stream_out_word true (w.apps k).number D rest)) { bytes = drop (length bytes) (out_cons i (stream_out_word true (w.apps k).number D rest)).bytes }) item ∙ out_bytes_taken bytes (stream_out_word true (w.apps k).number D rest)))

      piece : take (length bytes) (stream_out_word true (w.apps k).number D (w.streams f).down).bytes ≡ bytes
      piece = rw (first, item) (take_front bytes (stream_out_word true (w.apps k).number D rest).bytes)

      none : has bytes ≡ false → stream_out_word true (w.apps k).number D rest ≡ stream_out_word true (w.apps k).number D (w.streams f).down
      none e = rw (first, item, none_is bytes e) refl

      by_bytes : (b : Bool) → has bytes ≡ b → (D : Option ℕ) → (has bytes ≡ true → no_head (stream_out_word true (w.apps k).number D (w.streams f).down).head ≡ true)
          → stream_out_word true (w.apps k).number D rest ≡ record (stream_out_word true (w.apps k).number D (w.streams f).down) { bytes = drop (length bytes) (stream_out_word true (w.apps k).number D (w.streams f).down).bytes }
          → take (length bytes) (stream_out_word true (w.apps k).number D (w.streams f).down).bytes ≡ bytes → (has bytes ≡ false → stream_out_word true (w.apps k).number D rest ≡ stream_out_word true (w.apps k).number D (w.streams f).down)
          → Follows (tunnel_of w (w.apps k) D) (tunnel_of (connect_gets f bytes (out_is f rest w)) ((connect_gets f bytes (out_is f rest w)).apps k) D)
      by_bytes true e None fits word piece none = inr (event.ConnectTakesOut (length bytes), (rw (on, client, connect) (fits e), tt), rw (on, eqb_refl f, connect, piece, word) refl)
      by_bytes true e (Some d) fits word piece none = inr (event.ConnectTakesOut (length bytes), (rw (on, client, connect) (fits e), tt), rw (on, eqb_refl f, connect, piece, word) refl)
      by_bytes false e None fits word piece none = inl (rw (on, eqb_refl f, connect, none e, none_is bytes e, append-nil (w.apps k).side.got) refl)
      by_bytes false e (Some d) fits word piece none = inl (rw (on, eqb_refl f, connect, none e, none_is bytes e, append-nil (w.apps k).side.got) refl)

  other_taken : connect_out_item p ≡ OtherOut → (k : ℕ) (D : Option ℕ) → (w.apps k).stream ≡ f → tunnel_of (out_is f rest w) (w.apps k) D ≡ tunnel_of w (w.apps k) D
  other_taken item k D on = by_dial D (rw (first, item) refl)
    where
      by_dial : (D : Option ℕ) → stream_out_word true (w.apps k).number D rest ≡ stream_out_word true (w.apps k).number D (w.streams f).down → tunnel_of (out_is f rest w) (w.apps k) D ≡ tunnel_of w (w.apps k) D
      by_dial None word = rw (on, eqb_refl f, connect, word) refl
      by_dial (Some d) word = rw (on, eqb_refl f, connect, word) refl

pub connect_takes_lifts : (w : World) (f : ℕ) → Keys w → May (ConnectTakes f) w → Lifts w (after (ConnectTakes f) w)
connect_takes_lifts w f keys may = by_list (w.streams f).down refl
  where
    client : (w.streams f).client ≡ true
    client = and_first (w.streams f).client (w.streams f).connect may

    connect : (w.streams f).connect ≡ true
    connect = and_second (w.streams f).client (w.streams f).connect may

    by_packet : (p : Packet) (rest : List Packet) → (w.streams f).down ≡ p ∷ rest → (k : ℕ) → (w.apps k).came ≡ true → (b : Bool) → ((w.apps k).stream == f) ≡ b → Follows (tunnel w k) (tunnel (takes_connect f (p ∷ rest) w) k)
    by_packet (DialRsp [] c r) rest first k came true on = reply_taken w f keys client connect (DialRsp [] c r) rest first refl k (w.apps k).dial came (eqb-true (w.apps k).stream f on) refl
    by_packet (DialRsp (x ∷ xs) c r) rest first k came true on = refusal_taken w f keys client connect (DialRsp (x ∷ xs) c r) rest first refl k (w.apps k).dial came (eqb-true (w.apps k).stream f on) refl
    by_packet (Data c e b) rest first k came true on = bytes_taken w f keys client connect (Data c e b) rest first b refl k (w.apps k).dial came (eqb-true (w.apps k).stream f on) refl
    by_packet (CloseRsp e c) rest first k came true on = close_taken w f keys client connect (CloseRsp e c) rest first refl k (w.apps k).dial came (eqb-true (w.apps k).stream f on) refl
    by_packet (DialReq x y z) rest first k came true on = inl (other_taken w f keys client connect (DialReq x y z) rest first refl k (w.apps k).dial (eqb-true (w.apps k).stream f on))
    by_packet (CloseReq c) rest first k came true on = inl (other_taken w f keys client connect (CloseReq c) rest first refl k (w.apps k).dial (eqb-true (w.apps k).stream f on))
    by_packet (DialCls c) rest first k came true on = inl (other_taken w f keys client connect (DialCls c) rest first refl k (w.apps k).dial (eqb-true (w.apps k).stream f on))
    by_packet Drain rest first k came true on = inl (other_taken w f keys client connect Drain rest first refl k (w.apps k).dial (eqb-true (w.apps k).stream f on))
    by_packet (Other n) rest first k came true on = inl (other_taken w f keys client connect (Other n) rest first refl k (w.apps k).dial (eqb-true (w.apps k).stream f on))
    by_packet (DialRsp [] c r) rest first k came false off = inl (off_same w f keys client connect (DialRsp [] c r) rest first k off (w.apps k).dial)
    by_packet (DialRsp (x ∷ xs) c r) rest first k came false off = inl (off_same w f keys client connect (DialRsp (x ∷ xs) c r) rest first k off (w.apps k).dial)
    by_packet (Data c e b) rest first k came false off = inl (off_same w f keys client connect (Data c e b) rest first k off (w.apps k).dial)
    by_packet (CloseRsp e c) rest first k came false off = inl (off_same w f keys client connect (CloseRsp e c) rest first k off (w.apps k).dial)
    by_packet (DialReq x y z) rest first k came false off = inl (off_same w f keys client connect (DialReq x y z) rest first k off (w.apps k).dial)
    by_packet (CloseReq c) rest first k came false off = inl (off_same w f keys client connect (CloseReq c) rest first k off (w.apps k).dial)
    by_packet (DialCls c) rest first k came false off = inl (off_same w f keys client connect (DialCls c) rest first k off (w.apps k).dial)
    by_packet Drain rest first k came false off = inl (off_same w f keys client connect Drain rest first k off (w.apps k).dial)
    by_packet (Other n) rest first k came false off = inl (off_same w f keys client connect (Other n) rest first k off (w.apps k).dial)

    by_list : (ps : List Packet) → (w.streams f).down ≡ ps → Lifts w (takes_connect f ps w)
    by_list [] first = nothing_happens w
    by_list (p ∷ rest) first = λ k came. by_packet p rest first k came ((w.apps k).stream == f) refl
