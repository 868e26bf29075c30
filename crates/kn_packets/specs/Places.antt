-- Of whom the packets are that stand in the lists of a world: on a link each names a connectID that was drawn there, on a client's stream the dial
-- of an app of that stream.
use Rattle.std.specs.Prelude.{◌≡◌, ◌<◌, ℕ, ℤ, pos, true, false, [], ◌∷◌, Some}
use Rattle.kn_packet.specs.declared.packet.Packet.{Packet}
use Rattle.kn_packet.specs.declared.packet.Packet.TheVariants.{CloseReq, CloseRsp, Data, DialCls, DialReq, DialRsp, Drain, Other}
use Rattle.kn_server_core.specs.Isolation.{Each}
use Rattle.kn_packets.specs.Keys.{HasApp}
use Rattle.kn_packets.specs.Owned.{HasDial}
use Rattle.kn_packets.specs.World.{World}

-- a connectID that was drawn for a dial of this link
abbrev pub WasDrawn : World → ℕ → ℤ → Type 0
WasDrawn w link connect_id = (cid : ℕ) × (connect_id ≡ pos cid) × HasDial w link cid

-- the number of a dial that an app has, and that went to this link
abbrev pub WentTo : World → ℕ → ℤ → Type 0
WentTo w link random = (d : ℕ) × (random ≡ pos d) × ((w.dials d).link ≡ link) × HasApp w d

-- the number of the dial of an app of this stream
abbrev pub OfItsApps : World → ℕ → ℤ → Type 0
OfItsApps w f connect_id = (k d : ℕ) × ((w.apps k).came ≡ true) × ((w.apps k).stream ≡ f) × ((w.apps k).dial ≡ Some d) × (connect_id ≡ pos d)

-- whatever names a connection on a link names one that was drawn there; a refusal names none, and is of a dial that went there
abbrev pub SpeaksOfLink : World → ℕ → Packet → Type 0
SpeaksOfLink w link (DialRsp [] connect_id random) = WasDrawn w link connect_id
SpeaksOfLink w link (DialRsp (x ∷ xs) connect_id random) = (connect_id ≡ pos 0) × WentTo w link random
SpeaksOfLink w link (Data connect_id error bytes) = WasDrawn w link connect_id
SpeaksOfLink w link (CloseReq connect_id) = WasDrawn w link connect_id
SpeaksOfLink w link (CloseRsp error connect_id) = WasDrawn w link connect_id
SpeaksOfLink w link (DialReq protocol address random) = Unit {0}
SpeaksOfLink w link (DialCls random) = Unit {0}
SpeaksOfLink w link Drain = Unit {0}
SpeaksOfLink w link (Other number) = Unit {0}

-- whatever names a connection on a client's stream names the dial of an app of that stream; a refusal names none
abbrev pub SpeaksOfStream : World → ℕ → Packet → Type 0
SpeaksOfStream w f (DialRsp [] connect_id random) = OfItsApps w f connect_id
SpeaksOfStream w f (DialRsp (x ∷ xs) connect_id random) = connect_id ≡ pos 0
SpeaksOfStream w f (Data connect_id error bytes) = OfItsApps w f connect_id
SpeaksOfStream w f (CloseReq connect_id) = OfItsApps w f connect_id
SpeaksOfStream w f (CloseRsp error connect_id) = OfItsApps w f connect_id
SpeaksOfStream w f (DialReq protocol address random) = Unit {0}
SpeaksOfStream w f (DialCls random) = Unit {0}
SpeaksOfStream w f Drain = Unit {0}
SpeaksOfStream w f (Other number) = Unit {0}

pub record Places (w : World) : Type 0 where
  -- a link, in both directions
  pub ups : (l : ℕ) → Each (SpeaksOfLink w l) (w.links l).up
  pub downs : (l : ℕ) → Each (SpeaksOfLink w l) (w.links l).down
  -- a client's stream, in both directions
  pub ins : (f : ℕ) → (w.streams f).connect ≡ false → Each (SpeaksOfStream w f) (w.streams f).up
  pub outs : (f : ℕ) → (w.streams f).connect ≡ false → Each (SpeaksOfStream w f) (w.streams f).down
  -- the connectIDs that were drawn on a link are those from 1 on and below its agent's next one, and each was drawn for a dial
  pub from_one : (l : ℕ) → 0 < (w.agents l).next_connect_id
  pub drawn : (l cid : ℕ) → HasDial w l cid → (0 < cid) × (cid < (w.agents l).next_connect_id)
  pub all_drawn : (l cid : ℕ) → 0 < cid → cid < (w.agents l).next_connect_id → HasDial w l cid
