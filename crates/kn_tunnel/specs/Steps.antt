-- When each event may come, and what it does.
use Rattle.std.specs.Prelude.{◌≡◌, ◌++◌, ◌&&◌, ◌||◌, ◌⊎◌, ℕ, Bool, true, false, not, List, [], ◌∷◌, suc, pred, take, drop, if◌then◌else◌}
use Rattle.kn_tunnel.specs.Cuts.{IsCutDown, IsCutIn, IsCutOut, IsCutUp}
use Rattle.kn_tunnel.specs.Events.{AgentRefuses, AgentTakesClose, AgentTakesDown, AgentTakesRequest, AppEnds, AppFails, AppHands, AppSends, AppWrote, ClientTakesClose, ClientTakesOut, ClientTakesRefusal, ClientTakesReply, ConnectLeaves, ConnectTakesClose, ConnectTakesOut, ConnectTakesRefusal, ConnectTakesReply, DestinationHands, DestinationLeaves, DestinationSends, DestinationWrote, DialSucceeds, Event, FrontLost, FrontUp, LinkLostAtAgent, LinkLostAtServer, ResetDown, ResetIn, ResetOut, ResetUp, ServerDials, ServerRefuses, ServerTakesCancel, ServerTakesClose, ServerTakesCloseReply, ServerTakesIn, ServerTakesRefusal, ServerTakesReply, ServerTakesUp, StreamLost}
use Rattle.kn_tunnel.specs.Kinds.{has, is_asked, is_awaited, is_carrying, is_coming, is_dialled, is_dialling, is_draining, is_drawn, is_empty, is_gone, is_here, is_joined, is_lingering, is_listed, is_opened, is_present, is_refusal, is_reply, is_zero, left_phase, no_head, opened_phase, refused_phase}
use Rattle.kn_tunnel.specs.Tunnel.{Asked, Awaited, Carrying, Closing, Coming, Dialled, Dialling, Downward, Draining, Ended, Ending, Entry, Far, Frontless, Gone, Inward, Joined, Left, Lingering, NoEntry, NoHead, Opened, Outward, Phase, Present, Refusal, Refused, Reply, Side, Tunnel, Undrawn, Upward}

abbrev pub no_in : Inward
no_in = record { request = false; cancel = false; bytes = []; close = false }

abbrev pub no_out : Outward
no_out = record { head = NoHead; bytes = []; closes = 0 }

abbrev pub no_up : Upward
no_up = record { refusal = false; reply = false; bytes = []; closes = 0 }

abbrev pub no_down : Downward
no_down = record { bytes = []; close = false }

-- What goes to an end that lost the list is dropped.

abbrev pub one_more_close : Bool → ℕ → ℕ
one_more_close true n = suc n
one_more_close false n = n

abbrev pub appended : Bool → List ℕ → List ℕ → List ℕ
appended true old new = old ++ new
appended false old new = old

-- the server's packets to the front; a CONNECT app sees a refusal or a reply as the head of the answer

abbrev pub send_refusal : Tunnel → Tunnel
send_refusal t = record t {
  finished = t.finished || t.connect;
  phase = (if t.connect then refused_phase t.phase else t.phase);
  outward = record t.outward { head = (if t.client then Refusal else t.outward.head) };
}

abbrev pub send_reply : Tunnel → Tunnel
send_reply t = record t {
  phase = (if t.connect then opened_phase t.phase else t.phase);
  outward = record t.outward { head = (if t.client then Reply else t.outward.head) };
}

abbrev pub send_close : Tunnel → Tunnel
send_close t = record t { finished = t.finished || t.connect; outward = record t.outward { closes = one_more_close t.client t.outward.closes } }

-- the server asks the agent to close
abbrev pub ask_close : Tunnel → Tunnel
ask_close t = record t { down = record t.down { close = t.down.close || t.agent } }

-- CLOSE_REQ of a client. Of a dial that is already closing: nothing. Of no dial that is held: `unknown connection`.
abbrev pub front_closes : Entry → Tunnel → Tunnel
front_closes Carrying t = record (ask_close t) { entry = Closing }
front_closes Closing t = t
front_closes e t = send_close t

-- DIAL_RSP without an error. One that nobody awaits is answered by CLOSE_REQ.
abbrev pub reply_comes : Entry → Tunnel → Tunnel
reply_comes Awaited t = record (send_reply t) { entry = Carrying }
reply_comes NoEntry t = ask_close t
reply_comes e t = t

-- DIAL_RSP with an error
abbrev pub refusal_comes : Entry → Tunnel → Tunnel
refusal_comes Awaited t = record (send_refusal t) { entry = NoEntry }
refusal_comes e t = t

-- CLOSE_RSP of the agent: the entry goes, and a front that is there is told
abbrev pub close_reply_comes : Entry → Tunnel → Tunnel
close_reply_comes Carrying t = record (send_close t) { entry = NoEntry }
close_reply_comes Closing t = record (send_close t) { entry = NoEntry }
close_reply_comes Frontless t = record t { entry = NoEntry }
close_reply_comes e t = t

-- a lost link takes its entries along, and each front that is there is told
abbrev pub link_goes : Entry → Tunnel → Tunnel
link_goes Awaited t = record (send_refusal t) { entry = NoEntry }
link_goes e t = close_reply_comes e t

-- a lost front: its awaited dial is forgotten, its open one closed; one that is closing is not asked again
abbrev pub front_goes : Entry → Tunnel → Tunnel
front_goes NoEntry t = t
front_goes Awaited t = record t { entry = NoEntry }
front_goes Carrying t = record (ask_close t) { entry = Frontless }
front_goes Closing t = record t { entry = Frontless }
front_goes Frontless t = t

-- the agent's answer to a close of a connection that it has not
abbrev pub agent_closes : Tunnel → Tunnel
agent_closes t = record t { up = record t.up { closes = one_more_close t.server t.up.closes } }

-- the connection leaves the agent, which says so
abbrev pub agent_leaves : Tunnel → Tunnel
agent_leaves t = record t { far = Left; dest = record t.dest { unwritten = [] }; up = record t.up { closes = one_more_close t.server t.up.closes } }

-- CLOSE_REQ of the server: bytes that are still unwritten are written first
abbrev pub close_comes : Far → Tunnel → Tunnel
close_comes Joined t = if is_empty t.dest.unwritten then agent_leaves t else record t { far = Lingering }
close_comes Lingering t = t
close_comes far t = agent_closes t

abbrev pub leaves_if_done : Bool → Tunnel → Tunnel
leaves_if_done true t = agent_leaves t
leaves_if_done false t = t

-- the app has come to this phase, and what was still to be written to it is dropped
abbrev pub app_leaves : Phase → Tunnel → Tunnel
app_leaves p t = record t { phase = p; app = record t.app { unwritten = [] } }

-- the client's packets
abbrev pub send_cancel : Tunnel → Tunnel
send_cancel t = record t { inward = record t.inward { cancel = t.inward.cancel || not (is_gone t.front) } }

abbrev pub send_close_in : Tunnel → Tunnel
send_close_in t = record t { inward = record t.inward { close = t.inward.close || not (is_gone t.front) } }

-- DIAL_RSP with an error, to an app
abbrev pub refused_at : Phase → Tunnel → Tunnel
refused_at Dialling t = app_leaves Refused t
refused_at p t = t

-- DIAL_RSP without one. One that no app awaits is answered by CLOSE_REQ.
abbrev pub replied_at : Phase → Tunnel → Tunnel
replied_at Dialling t = record t { phase = Opened }
replied_at p t = send_close_in t

-- CLOSE_RSP: bytes that are still unwritten are written first
abbrev pub closed_at : Phase → Tunnel → Tunnel
closed_at Opened t = record t { phase = (if has t.app.unwritten then Draining else Ended) }
closed_at Ending t = record t { phase = (if has t.app.unwritten then Draining else Ended) }
closed_at p t = t

-- the client lost the stream: each app is told
abbrev pub lost_at : Phase → Tunnel → Tunnel
lost_at Dialling t = app_leaves Refused t
lost_at p t = closed_at p t

-- an app ends
abbrev pub ends_at : Phase → Tunnel → Tunnel
ends_at Dialling t = app_leaves Ended (send_cancel t)
ends_at Opened t = record (send_close_in t) { phase = Ending }
ends_at p t = t

-- an app fails
abbrev pub fails_at : Phase → Tunnel → Tunnel
fails_at Dialling t = app_leaves Ended (send_cancel t)
fails_at Opened t = app_leaves Ended (send_close_in t)
fails_at Ending t = app_leaves Ended t
fails_at Draining t = app_leaves Ended t
fails_at p t = t

-- an app leaves its CONNECT connection: what was on the way to it is dropped, what it handed goes on
abbrev pub connect_leaves : Tunnel → Tunnel
connect_leaves t = record t { phase = left_phase t.phase; client = false; outward = no_out }

abbrev pub stream_goes : Bool → Tunnel → Tunnel
stream_goes true t = connect_leaves t
stream_goes false t = record (lost_at t.phase t) { client = false; outward = no_out }

-- May it happen? (Of the losses this says only which end has what it loses; `Cut` says the rest.)
abbrev pub may : Event → Tunnel → Bool
may FrontUp t = is_coming t.front
may ServerRefuses t = is_present t.front && t.inward.request
may (ServerDials there) t = is_present t.front && t.inward.request
may ServerTakesCancel t = is_present t.front && not t.inward.request && t.inward.cancel
-- early bytes of a CONNECT connection wait for the reply
may (ServerTakesIn n) t = is_present t.front && not t.inward.request && not t.inward.cancel && not (t.connect && is_awaited t.entry)
may ServerTakesClose t = is_present t.front && not t.inward.request && not t.inward.cancel && is_empty t.inward.bytes && t.inward.close
may ServerTakesRefusal t = t.server && t.up.refusal
may ServerTakesReply t = t.server && t.up.reply
may (ServerTakesUp n) t = t.server && not t.up.reply
may ServerTakesCloseReply t = t.server && not t.up.reply && is_empty t.up.bytes && not (is_zero t.up.closes)
may AgentTakesRequest t = t.agent && is_asked t.far
may AgentRefuses t = t.agent && (is_asked t.far || is_dialled t.far)
may DialSucceeds t = t.agent && is_dialled t.far
may (AgentTakesDown n) t = t.agent
may AgentTakesClose t = t.agent && is_empty t.down.bytes && t.down.close
may (DestinationSends bytes) t = t.cid
may (DestinationHands n) t = t.agent && is_listed t.far
may (DestinationWrote n) t = t.agent && is_listed t.far
may DestinationLeaves t = t.agent && is_listed t.far
may ClientTakesRefusal t = t.client && not t.connect && is_refusal t.outward.head
may ClientTakesReply t = t.client && not t.connect && is_reply t.outward.head
may (ClientTakesOut n) t = t.client && not t.connect && no_head t.outward.head
may ClientTakesClose t = t.client && not t.connect && no_head t.outward.head && is_empty t.outward.bytes && not (is_zero t.outward.closes)
may (AppSends bytes) t = true
-- a client hands over an app's bytes only once it is open
may (AppHands n) t = is_opened t.phase || (t.connect && is_dialling t.phase)
may (AppWrote n) t = not t.connect && is_here t.phase
may AppEnds t = not t.connect
may AppFails t = not t.connect
may ConnectTakesRefusal t = t.client && t.connect && is_refusal t.outward.head
may ConnectTakesReply t = t.client && t.connect && is_reply t.outward.head
may (ConnectTakesOut n) t = t.client && t.connect && no_head t.outward.head
may ConnectTakesClose t = t.client && t.connect && no_head t.outward.head && is_empty t.outward.bytes && not (is_zero t.outward.closes)
may ConnectLeaves t = t.client && t.connect
may (LinkLostAtServer left request_left) t = t.server
may (LinkLostAtAgent left) t = t.agent
may (FrontLost left) t = not (is_gone t.front)
may (StreamLost left) t = t.client
may ResetDown t = t.agent && not t.server
may ResetUp t = t.server && not t.agent
may ResetIn t = not (is_gone t.front) && not t.client
may ResetOut t = t.client && is_gone t.front

-- what a loss leaves is the front of what was queued
abbrev pub Cut : Event → Tunnel → Type 0
Cut (LinkLostAtServer left request_left) t = IsCutDown left t.down
Cut (LinkLostAtAgent left) t = IsCutUp left t.up
Cut (FrontLost left) t = IsCutOut left t.outward
Cut (StreamLost left) t = IsCutIn left t.inward
Cut e t = Unit {0}

abbrev pub May : Event → Tunnel → Type 0
May e t = (may e t ≡ true) × Cut e t

abbrev pub after : Event → Tunnel → Tunnel
after FrontUp t = record t { front = Present }
after ServerRefuses t = send_refusal (record t { inward = record t.inward { request = false } })
after (ServerDials there) t = record t {
  inward = record t.inward { request = false };
  entry = Awaited;
  server = true;
  agent = there;
  far = (if there then Asked else Left);
}
after ServerTakesCancel t = record t { inward = record t.inward { cancel = false }; entry = (if is_awaited t.entry then NoEntry else t.entry) }
after (ServerTakesIn n) t = record t {
  inward = record t.inward { bytes = drop n t.inward.bytes };
  down = record t.down { bytes = appended (is_carrying t.entry && t.agent) t.down.bytes (take n t.inward.bytes) };
}
after ServerTakesClose t = front_closes t.entry (record t { inward = record t.inward { close = false } })
after ServerTakesRefusal t = refusal_comes t.entry (record t { up = record t.up { refusal = false } })
after ServerTakesReply t = reply_comes t.entry (record t { up = record t.up { reply = false } })
after (ServerTakesUp n) t = record t {
  up = record t.up { bytes = drop n t.up.bytes };
  outward = record t.outward { bytes = appended (is_carrying t.entry && t.client) t.outward.bytes (take n t.up.bytes) };
}
after ServerTakesCloseReply t = close_reply_comes t.entry (record t { up = record t.up { closes = pred t.up.closes } })
after AgentTakesRequest t = record t { far = Dialled }
after AgentRefuses t = record t { far = Left; up = record t.up { refusal = t.server } }
after DialSucceeds t = record t { far = Joined; cid = true; up = record t.up { reply = t.server } }
after (AgentTakesDown n) t = record t {
  down = record t.down { bytes = drop n t.down.bytes };
  dest = record t.dest { unwritten = appended (is_joined t.far) t.dest.unwritten (take n t.down.bytes) };
}
after AgentTakesClose t = close_comes t.far (record t { down = record t.down { close = false } })
after (DestinationSends bytes) t = record t { dest = record t.dest { kept = t.dest.kept ++ bytes } }
after (DestinationHands n) t = record t {
  dest = record t.dest { handed = t.dest.handed ++ take n t.dest.kept; kept = drop n t.dest.kept };
  up = record t.up { bytes = appended (is_joined t.far && t.server) t.up.bytes (take n t.dest.kept) };
}
after (DestinationWrote n) t = leaves_if_done (is_lingering t.far && is_empty (drop n t.dest.unwritten)) (record t { dest = record t.dest { got = t.dest.got ++ take n t.dest.unwritten; unwritten = drop n t.dest.unwritten } })
after DestinationLeaves t = agent_leaves t
after ClientTakesRefusal t = refused_at t.phase (record t { outward = record t.outward { head = NoHead } })
after ClientTakesReply t = replied_at t.phase (record t { outward = record t.outward { head = NoHead } })
after (ClientTakesOut n) t = record t {
  outward = record t.outward { bytes = drop n t.outward.bytes };
  app = record t.app { unwritten = appended (is_opened t.phase) t.app.unwritten (take n t.outward.bytes) };
}
after ClientTakesClose t = closed_at t.phase (record t { outward = record t.outward { closes = pred t.outward.closes } })
after (AppSends bytes) t = record t { app = record t.app { kept = t.app.kept ++ bytes } }
after (AppHands n) t = record t {
  app = record t.app { handed = t.app.handed ++ take n t.app.kept; kept = drop n t.app.kept };
  inward = record t.inward { bytes = appended (not (is_gone t.front)) t.inward.bytes (take n t.app.kept) };
}
after (AppWrote n) t = record t {
  phase = (if is_draining t.phase && is_empty (drop n t.app.unwritten) then Ended else t.phase);
  app = record t.app { got = t.app.got ++ take n t.app.unwritten; unwritten = drop n t.app.unwritten };
}
after AppEnds t = ends_at t.phase t
after AppFails t = fails_at t.phase t
after ConnectTakesRefusal t = connect_leaves t
after ConnectTakesReply t = record t { outward = record t.outward { head = NoHead } }
after (ConnectTakesOut n) t = record t {
  outward = record t.outward { bytes = drop n t.outward.bytes };
  app = record t.app { got = t.app.got ++ take n t.outward.bytes };
}
after ConnectTakesClose t = connect_leaves t
after ConnectLeaves t = connect_leaves t
after (LinkLostAtServer left request_left) t = link_goes t.entry (record t { server = false; up = no_up; down = left; far = (if is_asked t.far && not request_left then Left else t.far) })
after (LinkLostAtAgent left) t = record t {
  agent = false;
  far = (if is_drawn t.far then Left else Undrawn);
  dest = record t.dest { unwritten = [] };
  down = no_down;
  up = left;
}
after (FrontLost left) t = front_goes t.entry (record t { front = Gone; inward = no_in; outward = left })
after (StreamLost left) t = stream_goes t.connect (record t { inward = left })
after ResetDown t = record t { far = (if is_asked t.far then Left else t.far); down = no_down }
after ResetUp t = record t { up = no_up }
after ResetIn t = record t { inward = no_in }
after ResetOut t = record t { outward = no_out }

-- these events, one after another, lead from one tunnel to another
abbrev pub Makes : Tunnel → List Event → Tunnel → Type 0
Makes old [] new = old ≡ new
Makes old (e ∷ es) new = May e old × Makes (after e old) es new

-- one event, or none
abbrev pub Follows : Tunnel → Tunnel → Type 0
Follows old new = (new ≡ old) ⊎ ((e : Event) × May e old × (new ≡ after e old))

abbrev pub no_bytes : Side
no_bytes = record { handed = []; kept = []; unwritten = []; got = [] }

-- a tunnel whose app has just come: its request is on the way
abbrev pub start : Bool → Tunnel
start connect = record {
  connect = connect;
  front = Coming;
  client = true;
  finished = false;
  phase = Dialling;
  app = no_bytes;
  inward = record { request = true; cancel = false; bytes = []; close = false };
  outward = no_out;
  entry = NoEntry;
  server = false;
  agent = false;
  far = Undrawn;
  cid = false;
  up = no_up;
  down = no_down;
  dest = no_bytes;
}
