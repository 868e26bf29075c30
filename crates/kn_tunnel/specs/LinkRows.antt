-- The table of one connectID on a link that server and agent both have, row by row.
-- 'Left' is an agent without the connection; DATA may stand wherever a row does not exclude it.
use Rattle.std.specs.Prelude.{◌≡◌, ◌+◌, ◌&&◌, ℕ, Bool, true, false, not}
use Rattle.kn_tunnel.specs.Kinds.{at_most_one, at_most_two, exactly_one, is_carrying, is_held, is_joined, is_lingering, none, one_or_two}
use Rattle.kn_tunnel.specs.LinkSide.{LinkView, link_view}
use Rattle.kn_tunnel.specs.Tunnel.{Closing, Entry, Far, Frontless, Left, Tunnel}

pub data LinkRow : Type 0 where
  ReplyOnItsWay : LinkRow  -- no held entry, the agent's connection is open and its destination got nothing: down nothing; up DIAL_RSP, DATA
  ReplyThenClose : LinkRow  -- no held entry, left: down nothing; up DIAL_RSP, DATA, CLOSE_RSP
  Passing : LinkRow  -- open entry, open connection: down DATA; up DATA
  AgentEnded : LinkRow  -- open entry, left: down DATA; up DATA, CLOSE_RSP
  CloseAsked : LinkRow  -- closing entry, open connection: down DATA, CLOSE_REQ; up DATA
  CloseCrosses : LinkRow  -- closing entry, left: down DATA, CLOSE_REQ; up DATA, CLOSE_RSP
  StillWriting : LinkRow  -- closing entry, lingering connection: down nothing; up DATA
  CloseAnswered : LinkRow  -- closing entry, left: down nothing; up DATA, one or two CLOSE_RSP
  UnawaitedClosed : LinkRow  -- no held entry, open connection whose destination got nothing: down CLOSE_REQ; up DATA
  UnawaitedLeft : LinkRow  -- no held entry, left: down DATA, CLOSE_REQ; up DATA, at most one CLOSE_RSP
  Done : LinkRow  -- no held entry, left: down DATA; up DATA, at most two CLOSE_RSP

abbrev pub is_closing : Entry → Bool
is_closing Closing = true
is_closing Frontless = true
is_closing e = false

abbrev pub is_left : Far → Bool
is_left Left = true
is_left f = false

abbrev pub in_link_row : LinkRow → LinkView → Bool
in_link_row ReplyOnItsWay v = not (is_held v.entry) && is_joined v.far && v.fresh && not v.down_data && not v.down_close && v.reply && none v.up_closes
in_link_row ReplyThenClose v = not (is_held v.entry) && is_left v.far && not v.down_data && not v.down_close && v.reply && exactly_one v.up_closes
in_link_row Passing v = is_carrying v.entry && is_joined v.far && not v.down_close && not v.reply && none v.up_closes
in_link_row AgentEnded v = is_carrying v.entry && is_left v.far && not v.down_close && not v.reply && exactly_one v.up_closes
in_link_row CloseAsked v = is_closing v.entry && is_joined v.far && v.down_close && not v.reply && none v.up_closes
in_link_row CloseCrosses v = is_closing v.entry && is_left v.far && v.down_close && not v.reply && exactly_one v.up_closes
in_link_row StillWriting v = is_closing v.entry && is_lingering v.far && not v.down_data && not v.down_close && not v.reply && none v.up_closes
in_link_row CloseAnswered v = is_closing v.entry && is_left v.far && not v.down_data && not v.down_close && not v.reply && one_or_two v.up_closes
in_link_row UnawaitedClosed v = not (is_held v.entry) && is_joined v.far && v.fresh && not v.down_data && v.down_close && not v.reply && none v.up_closes
in_link_row UnawaitedLeft v = not (is_held v.entry) && is_left v.far && v.down_close && not v.reply && at_most_one v.up_closes
in_link_row Done v = not (is_held v.entry) && is_left v.far && not v.down_close && not v.reply && at_most_two v.up_closes

abbrev pub one_if : Bool → ℕ
one_if true = 1
one_if false = 0

-- how many rows hold
abbrev pub link_rows_met : LinkView → ℕ
link_rows_met v =
    one_if (in_link_row ReplyOnItsWay v) + one_if (in_link_row ReplyThenClose v) + one_if (in_link_row Passing v) + one_if (in_link_row AgentEnded v)
    + one_if (in_link_row CloseAsked v) + one_if (in_link_row CloseCrosses v) + one_if (in_link_row StillWriting v) + one_if (in_link_row CloseAnswered v)
    + one_if (in_link_row UnawaitedClosed v) + one_if (in_link_row UnawaitedLeft v) + one_if (in_link_row Done v)

-- it is in a row, and in no other
pub record InOneLinkRow (t : Tunnel) : Type 0 where
  pub row : LinkRow
  pub holds : in_link_row row (link_view t) ≡ true
  pub once : link_rows_met (link_view t) ≡ 1
