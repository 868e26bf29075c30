-- The events that are easiest to get wrong, done to a small tunnel for each view that meets the facts: the facts hold after each.
-- (The other checks go over what an event does to a view; these go over the event itself.)
use Rattle.std.proofs.Common.{◌≡◌, ◌&&◌, ℕ, Bool, true, false, not, List, [], ◌∷◌, cond, refl}
use Rattle.kn_tunnel.specs.Events.{AgentTakesClose, AppHands, ClientTakesReply, FrontLost, LinkLostAtServer, ServerTakesCancel, ServerTakesIn, ServerTakesReply}
use Rattle.kn_tunnel.specs.Kinds.{Few, More, One, Two, Zero, has, is_awaited, is_joined, is_present, is_reply}
use Rattle.kn_tunnel.specs.LinkSide.{LinkView, link_ok, link_view}
use Rattle.kn_tunnel.specs.Steps.{after, may, no_bytes, no_down, no_out, no_up}
use Rattle.kn_tunnel.specs.StreamSide.{StreamView, stream_ok, stream_view}
use Rattle.kn_tunnel.specs.Tunnel.{Left, Opened, Present, Tunnel, Undrawn}
use Rattle.kn_tunnel.proofs.Every.{when}
use Rattle.kn_tunnel.proofs.EveryLink.{ok_views}
use Rattle.kn_tunnel.proofs.EveryStream.{ok_streams}

abbrev some_byte : Bool → List ℕ
some_byte true = 0 ∷ []
some_byte false = []

abbrev so_many : Few → ℕ
so_many Zero = 0
so_many One = 1
so_many Two = 2
so_many More = 3

-- a tunnel with this link side
abbrev small_link : LinkView → Tunnel
small_link v = record {
  connect = false;
  front = Present;
  client = true;
  finished = false;
  phase = Opened;
  app = no_bytes;
  inward = record { request = v.request; cancel = false; bytes = []; close = false };
  outward = no_out;
  entry = v.entry;
  server = v.server;
  agent = v.agent;
  far = v.far;
  cid = v.cid;
  up = record { refusal = v.refusal; reply = v.reply; bytes = some_byte v.up_data; closes = so_many v.up_closes };
  down = record { bytes = some_byte v.down_data; close = v.down_close };
  dest = record { handed = []; kept = []; unwritten = some_byte v.unwritten; got = some_byte (not v.fresh) };
}

-- a tunnel with this stream side, whose app has a byte to hand over
abbrev small_stream : StreamView → Tunnel
small_stream v = record {
  connect = v.connect;
  front = v.front;
  client = v.client;
  finished = v.finished;
  phase = v.phase;
  app = record { handed = []; kept = 0 ∷ []; unwritten = some_byte v.unwritten; got = some_byte v.got };
  inward = record { request = v.request; cancel = v.cancel; bytes = some_byte v.in_data; close = v.in_close };
  outward = record { head = v.head; bytes = some_byte v.out_data; closes = so_many v.out_closes };
  entry = v.entry;
  server = v.drawn;
  agent = v.drawn;
  far = cond v.drawn Left Undrawn;
  cid = v.drawn;
  up = no_up;
  down = no_down;
  dest = no_bytes;
}

-- a reply that nobody awaits is answered by CLOSE_REQ
unawaited_replies : ok_views (λ v. when v.reply (link_ok (link_view (after ServerTakesReply (small_link v))))) ≡ true
unawaited_replies = refl

-- nor does a client leave a reply unanswered that no app of it awaits
late_replies : ok_streams (λ v. when (v.client && not v.connect && is_reply v.head) (stream_ok (stream_view (after ClientTakesReply (small_stream v))))) ≡ true
late_replies = refl

-- a cancelled dial is no longer awaited
cancels_leave_none : ok_streams (λ v. when (is_present v.front && not v.request && v.cancel) (stream_ok (stream_view (after ServerTakesCancel (small_stream v))))) ≡ true
cancels_leave_none = refl

-- a lost link keeps no entry
lost_links_keep_none : ok_views (λ v. when v.server (link_ok (link_view (after (LinkLostAtServer no_down true) (small_link v))))) ≡ true
lost_links_keep_none = refl

-- the loss of a front that is closing sends no second CLOSE_REQ
lost_fronts_ask_once : ok_views (λ v. link_ok (link_view (after (FrontLost no_out) (small_link v)))) ≡ true
lost_fronts_ask_once = refl

-- a close leaves what is still to be written
closes_keep_bytes : ok_views (λ v. when (is_joined v.far && v.unwritten) (has (after AgentTakesClose (small_link v)).dest.unwritten)) ≡ true
closes_keep_bytes = refl

-- a client's app that dials hands over nothing
dialling_hands_none : ok_streams (λ v. when (may (AppHands 1) (small_stream v)) (stream_ok (stream_view (after (AppHands 1) (small_stream v))))) ≡ true
dialling_hands_none = refl

-- the early bytes of a CONNECT connection stay where they are until its dial is answered
early_bytes_stay : ok_streams (λ v. when (v.in_data && is_awaited v.entry) (not (may (ServerTakesIn 1) (small_stream v)))) ≡ true
early_bytes_stay = refl
