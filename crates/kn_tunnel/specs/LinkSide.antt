-- The facts of the link side: what server and agent hold of a tunnel, and what is in flight between them.
-- Bytes are told apart only as present or absent, and closes as none, one, two or more: so each fact is a test on small values.
use Rattle.std.specs.Prelude.{◌&&◌, ◌||◌, Bool, true, false, not}
use Rattle.kn_tunnel.specs.Kinds.{Few, at_most_one, at_most_two, exactly_one, few, has, implies, is_awaited, is_drawn, is_empty, is_held, no_entry, none, one_or_two}
use Rattle.kn_tunnel.specs.Tunnel.{Asked, Awaited, Carrying, Closing, Dialled, Entry, Far, Frontless, Joined, Left, Lingering, NoEntry, Tunnel, Undrawn}

pub record LinkView : Type 0 where
  pub server : Bool  -- the server has the link
  pub agent : Bool  -- the agent has the link
  pub entry : Entry
  pub far : Far
  pub cid : Bool  -- a connectID was drawn
  pub request : Bool  -- DIAL_REQ on the way from the client to the server
  pub fresh : Bool  -- the destination got nothing and nothing is unwritten
  pub unwritten : Bool  -- towards the destination
  pub refusal : Bool  -- from the agent: DIAL_RSP with an error
  pub reply : Bool  -- DIAL_RSP without one
  pub up_data : Bool  -- DATA
  pub up_closes : Few  -- CLOSE_RSP
  pub down_data : Bool  -- to the agent: DATA
  pub down_close : Bool  -- CLOSE_REQ

-- the link side of a tunnel
abbrev pub link_view : Tunnel → LinkView
link_view t = record {
  server = t.server;
  agent = t.agent;
  entry = t.entry;
  far = t.far;
  cid = t.cid;
  request = t.inward.request;
  fresh = is_empty t.dest.got && is_empty t.dest.unwritten;
  unwritten = has t.dest.unwritten;
  refusal = t.up.refusal;
  reply = t.up.reply;
  up_data = has t.up.bytes;
  up_closes = few t.up.closes;
  down_data = has t.down.bytes;
  down_close = t.down.close;
}

-- What the server and the agent hold. The server has an entry only of a link that it has.

abbrev pub holds_fit : Entry → Far → Bool → Bool → Bool → Bool
-- before there is a dial nobody holds anything
holds_fit entry Undrawn server agent cid = not cid && not server && not agent && no_entry entry
-- a dial that the agent has not answered has no connectID, and no held entry
holds_fit entry Asked server agent cid = not cid && agent && not (is_held entry)
holds_fit entry Dialled server agent cid = not cid && agent && not (is_held entry)
-- a connection has a connectID, and an agent that has the link
holds_fit entry Joined server agent cid = cid && agent
holds_fit entry Lingering server agent cid = cid && agent
-- a dial that was refused or lost before its answer was never held
holds_fit entry Left server agent cid = implies (not cid) (not (is_held entry))

abbrev pub control_ok : Entry → Far → Bool → Bool → Bool → Bool → Bool
control_ok entry far server agent cid request =
    holds_fit entry far server agent cid
    && implies (not server) (no_entry entry)
    -- a request on the way to the server has no dial yet
    && implies request (not (is_drawn far))

-- What is in flight.

abbrev pub words_fit : Far → LinkView → Bool
-- a refusal is sent by an agent that then has nothing of the dial, and only before a connectID was drawn
words_fit Undrawn v = not v.refusal
words_fit Asked v = not v.refusal
words_fit Dialled v = not v.refusal
words_fit Joined v = not v.refusal
-- a connection lingers once its CLOSE_REQ was taken: nothing comes after that
words_fit Lingering v = not v.refusal && not v.down_data && not v.down_close
-- a destination that has left has nothing unwritten
words_fit Left v = not v.unwritten && implies v.cid (not v.refusal)

-- a connectID that was not drawn stands nowhere, and its destination got nothing
abbrev pub no_cid : LinkView → Bool
no_cid v = not (is_held v.entry) && v.fresh && not v.unwritten && not v.reply && not v.up_data && none v.up_closes && not v.down_data && not v.down_close

-- the rows of a dial that the server closes
abbrev pub closing_row : Far → LinkView → Bool
closing_row Joined v = v.down_close && not v.reply && none v.up_closes
closing_row Lingering v = not v.down_data && not v.down_close && not v.reply && none v.up_closes
closing_row Left v = not v.reply && ((v.down_close && exactly_one v.up_closes) || (not v.down_close && not v.down_data && one_or_two v.up_closes))
closing_row far v = false

-- The table: each drawn connectID of a link that both ends have is in one row. (The rows by name stand in LinkRows.)
abbrev pub in_row : Entry → Far → LinkView → Bool
-- a reply is on the way, or it was answered by CLOSE_REQ; until then the destination got nothing
in_row NoEntry Joined v = v.fresh && not v.down_data && none v.up_closes && ((not v.down_close && v.reply) || (v.down_close && not v.reply))
-- the same after the connection has left, or all is over but for what is still in flight
in_row NoEntry Left v =
    (v.reply && not v.down_data && not v.down_close && exactly_one v.up_closes)
    || (not v.reply && v.down_close && at_most_one v.up_closes)
    || (not v.reply && not v.down_close && at_most_two v.up_closes)
-- the awaited reply is on the way
in_row Awaited Joined v = v.fresh && not v.down_data && not v.down_close && none v.up_closes && v.reply
in_row Awaited Left v = not v.down_data && not v.down_close && exactly_one v.up_closes && v.reply
-- bytes pass; an end of the agent is told once
in_row Carrying Joined v = not v.down_close && not v.reply && none v.up_closes
in_row Carrying Left v = not v.down_close && not v.reply && exactly_one v.up_closes
in_row Closing far v = closing_row far v
in_row Frontless far v = closing_row far v
in_row e far v = false

-- an awaited dial is asked for, dialled or answered
abbrev pub on_its_way : Far → LinkView → Bool
on_its_way Asked v = true
on_its_way Dialled v = true
on_its_way far v = v.refusal || v.reply

-- what comes from the agent
abbrev pub up_ok : LinkView → Bool
up_ok v =
    -- nothing, once the server lost the link
    implies (not v.server) (not v.refusal && not v.reply && not v.up_data && none v.up_closes)
    -- it answers a close once, and once tells that it ended
    && at_most_two v.up_closes
    -- a reply finds no held entry: a second reply for a held connectID never comes
    && implies v.reply (not (is_held v.entry))

-- the rest
abbrev pub words_ok : LinkView → Bool
words_ok v =
    words_fit v.far v
    -- nothing is on the way to an agent that lost the link
    && implies (not v.agent) (not v.down_data && not v.down_close)
    && implies (not v.cid) (no_cid v)
    && implies v.unwritten (not v.fresh)
    && implies (v.server && v.agent) (implies v.cid (in_row v.entry v.far v) && implies (is_awaited v.entry) (on_its_way v.far v))

abbrev pub link_ok : LinkView → Bool
link_ok v = control_ok v.entry v.far v.server v.agent v.cid v.request && (up_ok v && words_ok v)
