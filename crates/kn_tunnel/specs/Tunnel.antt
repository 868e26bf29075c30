-- One tunnel by itself: the packets of it that are in flight, and what the three ends hold of it.
-- A tunnel is an app with its stream to the server and, once the server drew a dial for it, the link to an
-- agent and a destination there.
use Rattle.std.specs.Prelude.{◌++◌, ℕ, Bool, List}

-- the entry of the dial at the server
pub data Entry : Type 0 where
  NoEntry : Entry
  Awaited : Entry  -- the dial was sent to the agent, no reply was taken
  Carrying : Entry  -- held and open: bytes are passed on both ways
  Closing : Entry  -- held; the agent was asked to close
  Frontless : Entry  -- as Closing, and the front is gone

-- what the agent holds of the dial
pub data Far : Type 0 where
  Undrawn : Far  -- there is no dial yet
  Asked : Far  -- its request is on the way
  Dialled : Far  -- the agent dials the destination
  Joined : Far  -- a connection, open
  Lingering : Far  -- a connection that was asked to close, with bytes still unwritten
  Left : Far  -- nothing: refused, ended, or the link is lost

-- what the app has come to
pub data Phase : Type 0 where
  Dialling : Phase
  Opened : Phase
  Ending : Phase  -- it ended and asked to close
  Draining : Phase  -- closed by the other end, with bytes still unwritten
  Ended : Phase  -- it has left
  Refused : Phase  -- it has left, or a CONNECT app has been refused

-- the app's stream as the server has it
pub data Front : Type 0 where
  Coming : Front  -- its head is on the way
  Present : Front
  Gone : Front

-- what a list to the app begins with: a DIAL_RSP with an error, one without, or neither
pub data Head : Type 0 where
  NoHead : Head
  Refusal : Head
  Reply : Head

-- the bytes of an app or a destination
pub record Side : Type 0 where
  pub handed : List ℕ  -- of those that it sent, those that its node was given
  pub kept : List ℕ  -- and the others
  pub unwritten : List ℕ  -- what came for it and is not yet written to it
  pub got : List ℕ

abbrev pub sent : Side → List ℕ
sent s = s.handed ++ s.kept

-- What is in flight of the tunnel in each of its four lists. Each record gives the packets in their order.

-- from the client to the server: DIAL_REQ, DIAL_CLS, DATA joined, CLOSE_REQ
pub record Inward : Type 0 where
  pub request : Bool
  pub cancel : Bool
  pub bytes : List ℕ
  pub close : Bool

-- from the server to the client: DIAL_RSP, DATA joined, so many CLOSE_RSP
pub record Outward : Type 0 where
  pub head : Head
  pub bytes : List ℕ
  pub closes : ℕ

-- from the agent to the server: DIAL_RSP with an error; or DIAL_RSP without one, DATA joined, so many CLOSE_RSP
pub record Upward : Type 0 where
  pub refusal : Bool
  pub reply : Bool
  pub bytes : List ℕ
  pub closes : ℕ

-- from the server to the agent: DATA joined, CLOSE_REQ. (DIAL_REQ is told by `Asked`.)
pub record Downward : Type 0 where
  pub bytes : List ℕ
  pub close : Bool

pub record Tunnel : Type 0 where
  pub connect : Bool  -- the app's stream is a CONNECT connection, else a client's stream
  pub front : Front
  pub client : Bool  -- the app's end still has the stream
  pub finished : Bool  -- a CONNECT front that was sent a refusal or a close
  pub phase : Phase
  pub app : Side
  pub inward : Inward
  pub outward : Outward
  pub entry : Entry
  pub server : Bool  -- the server has the link
  pub agent : Bool  -- the agent has the link
  pub far : Far
  pub cid : Bool  -- the agent drew a connectID for the dial
  pub up : Upward
  pub down : Downward
  pub dest : Side
