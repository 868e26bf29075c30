-- The bytes of a tunnel: what was delivered is the beginning of what was sent, and what is on the way follows it.
use Rattle.std.specs.Prelude.{◌≡◌, ◌++◌, ◌&&◌, ◌||◌, ℕ, Bool, true, false, not, List, []}
use Rattle.kn_tunnel.specs.Cuts.{IsPrefixOf}
use Rattle.kn_tunnel.specs.Kinds.{is_awaited, is_carrying, is_dialling, is_here, is_joined, is_listed, is_taking}
use Rattle.kn_tunnel.specs.Tunnel.{Tunnel, sent}

-- the server passes bytes on, or will once it has the reply that is on the way
abbrev pub is_carried : Tunnel → Bool
is_carried t = is_carrying t.entry || (is_awaited t.entry && t.up.reply)

-- the dial is still to be answered
abbrev pub is_early : Tunnel → Bool
is_early t = t.inward.request || is_awaited t.entry

-- a client's app that dials
abbrev pub is_waiting : Tunnel → Bool
is_waiting t = not t.connect && is_dialling t.phase

-- what came to the app, then what is on the way to it, from the near to the far
abbrev pub app_has : Tunnel → List ℕ
app_has t = t.app.got ++ t.app.unwritten

abbrev pub app_has_out : Tunnel → List ℕ
app_has_out t = app_has t ++ t.outward.bytes

abbrev pub app_has_up : Tunnel → List ℕ
app_has_up t = app_has_out t ++ t.up.bytes

-- the same of the destination
abbrev pub dest_has : Tunnel → List ℕ
dest_has t = (t.dest.got ++ t.dest.unwritten) ++ t.down.bytes

abbrev pub dest_has_in : Tunnel → List ℕ
dest_has_in t = dest_has t ++ t.inward.bytes

pub record Bytes (t : Tunnel) : Type 0 where
  -- what was delivered is the beginning of what was sent, either way and for ever
  pub app_got : IsPrefixOf t.app.got (sent t.dest)
  pub dest_got : IsPrefixOf t.dest.got (sent t.app)
  -- an app that has not left: with what is still to be written to it
  pub app_holds : is_here t.phase ≡ true → IsPrefixOf (app_has t) (sent t.dest)
  -- one that dials or is open: with the DATA on the way to it as well
  pub out : is_taking t.phase ≡ true → IsPrefixOf (app_has_out t) (sent t.dest)
  -- while the server passes bytes on: with the DATA on the way from the agent as well
  pub up : is_taking t.phase ≡ true → is_carried t ≡ true → IsPrefixOf (app_has_up t) (sent t.dest)
  -- while the agent's connection is open too, that is all that the destination handed over: nothing is lost between them
  pub all_up : is_taking t.phase ≡ true → is_carried t ≡ true → is_joined t.far ≡ true → app_has_up t ≡ t.dest.handed
  -- a destination on its agent's list: with what is still to be written to it, and the DATA on the way from the server
  pub dest_holds : is_listed t.far ≡ true → IsPrefixOf (dest_has t) (sent t.app)
  -- while the server passes bytes on: with the DATA on the way from the client as well
  pub inward : is_listed t.far ≡ true → is_carrying t.entry ≡ true → IsPrefixOf (dest_has_in t) (sent t.app)
  -- while the app dials or is open too, that is all that it handed over
  pub all_in : is_listed t.far ≡ true → is_carrying t.entry ≡ true → is_taking t.phase ≡ true → dest_has_in t ≡ t.app.handed
  -- bytes that come before the dial is answered, as over a CONNECT connection, wait on their way
  pub early : is_early t ≡ true → IsPrefixOf t.inward.bytes (sent t.app)
  pub all_early : is_early t ≡ true → is_taking t.phase ≡ true → t.inward.bytes ≡ t.app.handed
  -- a client hands over nothing of an app that dials
  pub waiting : is_waiting t ≡ true → t.app.handed ≡ []
  -- a destination sends nothing before there is a connection to it
  pub unsent : t.cid ≡ false → sent t.dest ≡ []
