-- What the packets from the server to an agent are to one tunnel: its key is the connectID that the agent drew. The request of a dial, which has
-- none yet, is known by the dial's number.
use Rattle.std.specs.Prelude.{◌++◌, ◌&&◌, ◌||◌, ℕ, Bool, true, false, not, List, [], ◌∷◌, Option, if◌then◌else◌}
use Rattle.kn_packet.specs.declared.packet.Packet.{Packet}
use Rattle.kn_packet.specs.declared.packet.Packet.TheVariants.{CloseReq, CloseRsp, Data, DialCls, DialReq, DialRsp, Drain, Other}
use Rattle.kn_tunnel.specs.Kinds.{is_empty}
use Rattle.kn_tunnel.specs.Order.{down_bytes_follow, down_close_follows}
use Rattle.kn_tunnel.specs.Steps.{no_down}
use Rattle.kn_tunnel.specs.Tunnel.{Downward}
use Rattle.kn_words.specs.Numbers.{is_drawn_number, is_number}

-- one packet
pub data DownItem : Type 0 where
  OtherDown : DownItem  -- of another tunnel, or of none
  BytesDown : (bytes : List ℕ) → DownItem
  CloseDown : DownItem

abbrev pub down_item : Option ℕ → Packet → DownItem
down_item cid (Data connect_id error bytes) = if is_drawn_number cid connect_id then BytesDown bytes else OtherDown
down_item cid (CloseReq connect_id) = if is_drawn_number cid connect_id then CloseDown else OtherDown
down_item cid (DialReq protocol address random) = OtherDown
down_item cid (DialRsp error connect_id random) = OtherDown
down_item cid (CloseRsp error connect_id) = OtherDown
down_item cid (DialCls random) = OtherDown
down_item cid Drain = OtherDown
down_item cid (Other number) = OtherDown

-- one item before all others, and one behind them

abbrev pub down_cons : DownItem → Downward → Downward
down_cons OtherDown w = w
down_cons (BytesDown bytes) w = record w { bytes = bytes ++ w.bytes }
down_cons CloseDown w = record w { close = true }

abbrev pub down_snoc : Downward → DownItem → Downward
down_snoc w OtherDown = w
down_snoc w (BytesDown bytes) = record w { bytes = w.bytes ++ bytes }
down_snoc w CloseDown = record w { close = true }

-- the word of a list, by what each of its elements is
abbrev pub down_of : {A : Type 0} → (A → DownItem) → List A → Downward
down_of item [] = no_down
down_of item (p ∷ ps) = down_cons (item p) (down_of item ps)

abbrev pub down_word : Option ℕ → List Packet → Downward
down_word cid ps = down_of (down_item cid) ps

-- the word of two lists, one after the other
abbrev pub down_join : Downward → Downward → Downward
down_join v w = record { bytes = v.bytes ++ w.bytes; close = v.close || w.close }

-- The order: bytes, one close.

-- an item may stand before a word
abbrev pub down_before : DownItem → Downward → Bool
down_before OtherDown w = true
down_before (BytesDown bytes) w = true
down_before CloseDown w = is_empty w.bytes && not w.close

-- an item may stand behind a word
abbrev pub down_follows : Downward → DownItem → Bool
down_follows w OtherDown = true
down_follows w (BytesDown bytes) = down_bytes_follow w
down_follows w CloseDown = down_close_follows w

abbrev pub down_ordered : {A : Type 0} → (A → DownItem) → List A → Bool
down_ordered item [] = true
down_ordered item (p ∷ ps) = down_before (item p) (down_of item ps) && down_ordered item ps

-- the packet asks for this dial
abbrev pub is_request : ℕ → Packet → Bool
is_request dial (DialReq protocol address random) = is_number dial random
is_request dial (DialRsp error connect_id random) = false
is_request dial (CloseReq connect_id) = false
is_request dial (CloseRsp error connect_id) = false
is_request dial (Data connect_id error bytes) = false
is_request dial (DialCls random) = false
is_request dial Drain = false
is_request dial (Other number) = false

-- the request of this dial is in the list
abbrev pub has_request : ℕ → List Packet → Bool
has_request dial [] = false
has_request dial (p ∷ ps) = is_request dial p || has_request dial ps
