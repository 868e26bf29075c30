-- What may happen to a tunnel. Each event is one step of one end, or one thing that a network or a user does.
-- A count says how many of the bytes that are there are taken; it may be none, as with an empty packet.
use Rattle.std.specs.Prelude.{ℕ, Bool, List}
use Rattle.kn_tunnel.specs.Tunnel.{Downward, Inward, Outward, Upward}

pub data Event : Type 0 where
  -- The server.
  -- The app's stream is there: a client's head arrived, or a CONNECT head.
  FrontUp : Event
  -- DIAL_REQ that is answered at once by DIAL_RSP with an error.
  ServerRefuses : Event
  -- DIAL_REQ for which a dial is drawn and sent to an agent, which may have lost the link without the server's knowing.
  ServerDials : (agent_there : Bool) → Event
  -- DIAL_CLS: the client gives its dial up.
  ServerTakesCancel : Event
  -- DATA of the client, or bytes of a CONNECT connection: passed on where the entry is open, else dropped.
  ServerTakesIn : (count : ℕ) → Event
  -- CLOSE_REQ of the client.
  ServerTakesClose : Event
  -- DIAL_RSP with an error from the agent: passed on where it is awaited.
  ServerTakesRefusal : Event
  -- DIAL_RSP without an error: the entry becomes open; one that nobody awaits is answered by CLOSE_REQ.
  ServerTakesReply : Event
  -- DATA of the agent: passed on where the entry is open, else dropped.
  ServerTakesUp : (count : ℕ) → Event
  -- CLOSE_RSP of the agent: the entry goes, and its front is told.
  ServerTakesCloseReply : Event
  -- The agent and the destination.
  -- DIAL_REQ: the agent dials.
  AgentTakesRequest : Event
  -- It refuses the request, or the dial fails: DIAL_RSP with an error.
  AgentRefuses : Event
  -- It draws a connectID: DIAL_RSP.
  DialSucceeds : Event
  -- DATA of the server: to be written where the connection is open, else dropped.
  AgentTakesDown : (count : ℕ) → Event
  -- CLOSE_REQ of the server: answered at once where nothing is unwritten or the connection is unknown; else it lingers.
  AgentTakesClose : Event
  DestinationSends : (bytes : List ℕ) → Event
  -- Of what it sent, the next bytes are given to the agent: DATA, while the connection is open.
  DestinationHands : (count : ℕ) → Event
  -- Bytes were written to it. A lingering connection leaves with the last of them: CLOSE_RSP.
  DestinationWrote : (count : ℕ) → Event
  -- It ends or fails: CLOSE_RSP.
  DestinationLeaves : Event
  -- The client and its app.
  -- DIAL_RSP with an error: the app that dials has left.
  ClientTakesRefusal : Event
  -- DIAL_RSP without one: the app that dials is open; for any other CLOSE_REQ is the answer.
  ClientTakesReply : Event
  -- DATA: to be written where the app is open, else dropped.
  ClientTakesOut : (count : ℕ) → Event
  -- CLOSE_RSP: the app leaves, or drains what is unwritten first.
  ClientTakesClose : Event
  AppSends : (bytes : List ℕ) → Event
  -- Of what it sent, the next bytes are given to the client, or to its connection: DATA.
  AppHands : (count : ℕ) → Event
  -- Bytes were written to it. A draining app leaves with the last of them.
  AppWrote : (count : ℕ) → Event
  -- It ends: DIAL_CLS while it dials, CLOSE_REQ once it is open.
  AppEnds : Event
  -- It fails: the same, and it has left.
  AppFails : Event
  -- The app at the other end of a CONNECT connection: it takes the refusal, the reply, bytes, the close; or it closes its end.
  ConnectTakesRefusal : Event
  ConnectTakesReply : Event
  ConnectTakesOut : (count : ℕ) → Event
  ConnectTakesClose : Event
  ConnectLeaves : Event
  -- Losses. What came to the end that lost is dropped; of what it had queued, `left` stays.
  -- Also where the server cuts a link, or handles its end: then all that it had queued may stay.
  LinkLostAtServer : (left : Downward) (request_left : Bool) → Event
  LinkLostAtAgent : (left : Upward) → Event
  -- Also at the end of a CONNECT front, and of one that was sent a refusal or a close.
  FrontLost : (left : Outward) → Event
  -- At the app's end.
  StreamLost : (left : Inward) → Event
  -- The receiver of a list whose sender ended or lost its side drops what it has not handled.
  ResetDown : Event
  ResetUp : Event
  ResetIn : Event
  ResetOut : Event
