-- What the packets from the server to an app's stream are to its tunnel. On a client's stream the keys are the app's number, which the answer to
-- its dial has as random, and, once the server drew one, the dial's number, which bytes and closes have as connectID. A CONNECT connection has one
-- app, so all that is on it is that app's.
use Rattle.std.specs.Prelude.{◌++◌, ◌&&◌, ◌||◌, ◌+◌, ℕ, Bool, true, false, List, [], ◌∷◌, suc, Option, if◌then◌else◌}
use Rattle.kn_packet.specs.declared.packet.Packet.{Packet}
use Rattle.kn_packet.specs.declared.packet.Packet.TheVariants.{CloseReq, CloseRsp, Data, DialCls, DialReq, DialRsp, Drain, Other}
use Rattle.kn_tunnel.specs.Kinds.{is_empty, no_closes, no_head}
use Rattle.kn_tunnel.specs.Order.{head_follows, out_bytes_follow, out_close_follows}
use Rattle.kn_tunnel.specs.Steps.{no_out}
use Rattle.kn_tunnel.specs.Tunnel.{Head, NoHead, Outward, Refusal, Reply}
use Rattle.kn_words.specs.Numbers.{is_drawn_number, is_number}

-- one packet
pub data OutItem : Type 0 where
  OtherOut : OutItem  -- of another tunnel, or of none
  RefusalOut : OutItem
  ReplyOut : OutItem
  BytesOut : (bytes : List ℕ) → OutItem
  CloseOut : OutItem

-- of a client's app
abbrev pub out_item : ℕ → Option ℕ → Packet → OutItem
out_item app dial (DialRsp [] connect_id random) = if is_number app random then ReplyOut else OtherOut
out_item app dial (DialRsp (x ∷ xs) connect_id random) = if is_number app random then RefusalOut else OtherOut
out_item app dial (Data connect_id error bytes) = if is_drawn_number dial connect_id then BytesOut bytes else OtherOut
out_item app dial (CloseRsp error connect_id) = if is_drawn_number dial connect_id then CloseOut else OtherOut
out_item app dial (DialReq protocol address random) = OtherOut
out_item app dial (CloseReq connect_id) = OtherOut
out_item app dial (DialCls random) = OtherOut
out_item app dial Drain = OtherOut
out_item app dial (Other number) = OtherOut

-- of a CONNECT app
abbrev pub connect_out_item : Packet → OutItem
connect_out_item (DialRsp [] connect_id random) = ReplyOut
connect_out_item (DialRsp (x ∷ xs) connect_id random) = RefusalOut
connect_out_item (Data connect_id error bytes) = BytesOut bytes
connect_out_item (CloseRsp error connect_id) = CloseOut
connect_out_item (DialReq protocol address random) = OtherOut
connect_out_item (CloseReq connect_id) = OtherOut
connect_out_item (DialCls random) = OtherOut
connect_out_item Drain = OtherOut
connect_out_item (Other number) = OtherOut

-- of either
abbrev pub stream_out_item : Bool → ℕ → Option ℕ → Packet → OutItem
stream_out_item true app dial p = connect_out_item p
stream_out_item false app dial p = out_item app dial p

-- A word has one head. Of two the last would count; the order lets no second come.
abbrev pub last_head : Head → Head → Head
last_head h NoHead = h
last_head h Refusal = Refusal
last_head h Reply = Reply

-- one item before all others, and one behind them

abbrev pub out_cons : OutItem → Outward → Outward
out_cons OtherOut w = w
out_cons RefusalOut w = record w { head = last_head Refusal w.head }
out_cons ReplyOut w = record w { head = last_head Reply w.head }
out_cons (BytesOut bytes) w = record w { bytes = bytes ++ w.bytes }
out_cons CloseOut w = record w { closes = suc w.closes }

abbrev pub out_snoc : Outward → OutItem → Outward
out_snoc w OtherOut = w
out_snoc w RefusalOut = record w { head = Refusal }
out_snoc w ReplyOut = record w { head = Reply }
out_snoc w (BytesOut bytes) = record w { bytes = w.bytes ++ bytes }
out_snoc w CloseOut = record w { closes = suc w.closes }

-- the word of a list, by what each of its elements is
abbrev pub out_of : {A : Type 0} → (A → OutItem) → List A → Outward
out_of item [] = no_out
out_of item (p ∷ ps) = out_cons (item p) (out_of item ps)

abbrev pub out_word : ℕ → Option ℕ → List Packet → Outward
out_word app dial ps = out_of (out_item app dial) ps

abbrev pub connect_out_word : List Packet → Outward
connect_out_word ps = out_of connect_out_item ps

abbrev pub stream_out_word : Bool → ℕ → Option ℕ → List Packet → Outward
stream_out_word connect app dial ps = out_of (stream_out_item connect app dial) ps

-- the word of two lists, one after the other
abbrev pub out_join : Outward → Outward → Outward
out_join v w = record { head = last_head v.head w.head; bytes = v.bytes ++ w.bytes; closes = v.closes + w.closes }

-- The order: a refusal alone; or the reply, bytes, closes. Of empty bytes nothing is asked before the head.

-- an item may stand before a word
abbrev pub out_before : OutItem → Outward → Bool
out_before OtherOut w = true
out_before RefusalOut w = no_head w.head && is_empty w.bytes && no_closes w.closes
out_before ReplyOut w = no_head w.head
out_before (BytesOut bytes) w = is_empty bytes || no_head w.head
out_before CloseOut w = no_head w.head && is_empty w.bytes

-- an item may stand behind a word
abbrev pub out_follows : Outward → OutItem → Bool
out_follows w OtherOut = true
out_follows w RefusalOut = head_follows w
out_follows w ReplyOut = head_follows w
out_follows w (BytesOut bytes) = out_bytes_follow w
out_follows w CloseOut = out_close_follows w

abbrev pub out_ordered : {A : Type 0} → (A → OutItem) → List A → Bool
out_ordered item [] = true
out_ordered item (p ∷ ps) = out_before (item p) (out_of item ps) && out_ordered item ps
