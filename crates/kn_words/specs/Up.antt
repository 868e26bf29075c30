-- What the packets from an agent to the server are to one tunnel: the dial's number is its key and, once the agent drew one, its connectID.
use Rattle.std.specs.Prelude.{◌++◌, ◌&&◌, ◌||◌, ◌+◌, ℕ, Bool, true, not, List, [], ◌∷◌, suc, Option, if◌then◌else◌}
use Rattle.kn_packet.specs.declared.packet.Packet.{Packet}
use Rattle.kn_packet.specs.declared.packet.Packet.TheVariants.{CloseReq, CloseRsp, Data, DialCls, DialReq, DialRsp, Drain, Other}
use Rattle.kn_tunnel.specs.Kinds.{is_empty}
use Rattle.kn_tunnel.specs.Order.{up_bytes_follow, up_refusal_follows, up_reply_follows}
use Rattle.kn_tunnel.specs.Steps.{no_up}
use Rattle.kn_tunnel.specs.Tunnel.{Upward}
use Rattle.kn_words.specs.Numbers.{is_drawn_number, is_number}

-- one packet
pub data UpItem : Type 0 where
  OtherUp : UpItem  -- of another tunnel, or of none
  RefusalUp : UpItem
  ReplyUp : UpItem
  BytesUp : (bytes : List ℕ) → UpItem
  CloseUp : UpItem

-- A refusal has no connectID and is known by its dial; all else by its connectID.
abbrev pub up_item : ℕ → Option ℕ → Packet → UpItem
up_item dial cid (DialRsp [] connect_id random) = if is_drawn_number cid connect_id then ReplyUp else OtherUp
up_item dial cid (DialRsp (x ∷ xs) connect_id random) = if is_number dial random then RefusalUp else OtherUp
up_item dial cid (Data connect_id error bytes) = if is_drawn_number cid connect_id then BytesUp bytes else OtherUp
up_item dial cid (CloseRsp error connect_id) = if is_drawn_number cid connect_id then CloseUp else OtherUp
up_item dial cid (DialReq protocol address random) = OtherUp
up_item dial cid (CloseReq connect_id) = OtherUp
up_item dial cid (DialCls random) = OtherUp
up_item dial cid Drain = OtherUp
up_item dial cid (Other number) = OtherUp

-- one item before all others, and one behind them

abbrev pub up_cons : UpItem → Upward → Upward
up_cons OtherUp w = w
up_cons RefusalUp w = record w { refusal = true }
up_cons ReplyUp w = record w { reply = true }
up_cons (BytesUp bytes) w = record w { bytes = bytes ++ w.bytes }
up_cons CloseUp w = record w { closes = suc w.closes }

abbrev pub up_snoc : Upward → UpItem → Upward
up_snoc w OtherUp = w
up_snoc w RefusalUp = record w { refusal = true }
up_snoc w ReplyUp = record w { reply = true }
up_snoc w (BytesUp bytes) = record w { bytes = w.bytes ++ bytes }
up_snoc w CloseUp = record w { closes = suc w.closes }

-- the word of a list, by what each of its elements is
abbrev pub up_of : {A : Type 0} → (A → UpItem) → List A → Upward
up_of item [] = no_up
up_of item (p ∷ ps) = up_cons (item p) (up_of item ps)

abbrev pub up_word : ℕ → Option ℕ → List Packet → Upward
up_word dial cid ps = up_of (up_item dial cid) ps

-- the word of two lists, one after the other
abbrev pub up_join : Upward → Upward → Upward
up_join v w = record { refusal = v.refusal || w.refusal; reply = v.reply || w.reply; bytes = v.bytes ++ w.bytes; closes = v.closes + w.closes }

-- The order: a refusal or the reply, bytes, closes. Empty bytes are not seen in a word, so nothing is asked of them.

-- an item may stand before a word
abbrev pub up_before : UpItem → Upward → Bool
up_before OtherUp w = true
up_before RefusalUp w = not w.refusal && not w.reply
up_before ReplyUp w = not w.refusal && not w.reply
up_before (BytesUp bytes) w = is_empty bytes || (not w.refusal && not w.reply)
up_before CloseUp w = not w.refusal && not w.reply && is_empty w.bytes

-- an item may stand behind a word
abbrev pub up_follows : Upward → UpItem → Bool
up_follows w OtherUp = true
up_follows w RefusalUp = up_refusal_follows w
up_follows w ReplyUp = up_reply_follows w
up_follows w (BytesUp bytes) = up_bytes_follow w
up_follows w CloseUp = true

abbrev pub up_ordered : {A : Type 0} → (A → UpItem) → List A → Bool
up_ordered item [] = true
up_ordered item (p ∷ ps) = up_before (item p) (up_of item ps) && up_ordered item ps
