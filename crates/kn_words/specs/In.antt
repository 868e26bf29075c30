-- What the packets from an app's stream to the server are to its tunnel. On a client's stream the keys are the app's number, which its request
-- and its cancel have as random, and, once the server drew one, the dial's number, which bytes and closes have as connectID. A CONNECT connection
-- has one app, so all that is on it is that app's: its head as DIAL_REQ, and then bytes.
use Rattle.std.specs.Prelude.{◌++◌, ◌&&◌, ◌||◌, ℕ, Bool, true, false, not, List, [], ◌∷◌, Option, if◌then◌else◌}
use Rattle.kn_packet.specs.declared.packet.Packet.{Packet}
use Rattle.kn_packet.specs.declared.packet.Packet.TheVariants.{CloseReq, CloseRsp, Data, DialCls, DialReq, DialRsp, Drain, Other}
use Rattle.kn_tunnel.specs.Kinds.{is_empty}
use Rattle.kn_tunnel.specs.Order.{cancel_follows, in_bytes_follow, in_close_follows}
use Rattle.kn_tunnel.specs.Steps.{no_in}
use Rattle.kn_tunnel.specs.Tunnel.{Inward}
use Rattle.kn_words.specs.Numbers.{is_drawn_number, is_number}

-- one packet
pub data InItem : Type 0 where
  OtherIn : InItem  -- of another tunnel, or of none
  RequestIn : InItem
  CancelIn : InItem
  BytesIn : (bytes : List ℕ) → InItem
  CloseIn : InItem

-- of a client's app
abbrev pub in_item : ℕ → Option ℕ → Packet → InItem
in_item app dial (DialReq protocol address random) = if is_number app random then RequestIn else OtherIn
in_item app dial (DialCls random) = if is_number app random then CancelIn else OtherIn
in_item app dial (Data connect_id error bytes) = if is_drawn_number dial connect_id then BytesIn bytes else OtherIn
in_item app dial (CloseReq connect_id) = if is_drawn_number dial connect_id then CloseIn else OtherIn
in_item app dial (DialRsp error connect_id random) = OtherIn
in_item app dial (CloseRsp error connect_id) = OtherIn
in_item app dial Drain = OtherIn
in_item app dial (Other number) = OtherIn

-- of a CONNECT app
abbrev pub connect_in_item : Packet → InItem
connect_in_item (DialReq protocol address random) = RequestIn
connect_in_item (Data connect_id error bytes) = BytesIn bytes
connect_in_item (DialRsp error connect_id random) = OtherIn
connect_in_item (CloseReq connect_id) = OtherIn
connect_in_item (CloseRsp error connect_id) = OtherIn
connect_in_item (DialCls random) = OtherIn
connect_in_item Drain = OtherIn
connect_in_item (Other number) = OtherIn

-- of either
abbrev pub stream_in_item : Bool → ℕ → Option ℕ → Packet → InItem
stream_in_item true app dial p = connect_in_item p
stream_in_item false app dial p = in_item app dial p

-- one item before all others, and one behind them

abbrev pub in_cons : InItem → Inward → Inward
in_cons OtherIn w = w
in_cons RequestIn w = record w { request = true }
in_cons CancelIn w = record w { cancel = true }
in_cons (BytesIn bytes) w = record w { bytes = bytes ++ w.bytes }
in_cons CloseIn w = record w { close = true }

abbrev pub in_snoc : Inward → InItem → Inward
in_snoc w OtherIn = w
in_snoc w RequestIn = record w { request = true }
in_snoc w CancelIn = record w { cancel = true }
in_snoc w (BytesIn bytes) = record w { bytes = w.bytes ++ bytes }
in_snoc w CloseIn = record w { close = true }

-- the word of a list, by what each of its elements is
abbrev pub in_of : {A : Type 0} → (A → InItem) → List A → Inward
in_of item [] = no_in
in_of item (p ∷ ps) = in_cons (item p) (in_of item ps)

abbrev pub in_word : ℕ → Option ℕ → List Packet → Inward
in_word app dial ps = in_of (in_item app dial) ps

abbrev pub connect_in_word : List Packet → Inward
connect_in_word ps = in_of connect_in_item ps

abbrev pub stream_in_word : Bool → ℕ → Option ℕ → List Packet → Inward
stream_in_word connect app dial ps = in_of (stream_in_item connect app dial) ps

-- the word of two lists, one after the other
abbrev pub in_join : Inward → Inward → Inward
in_join v w = record { request = v.request || w.request; cancel = v.cancel || w.cancel; bytes = v.bytes ++ w.bytes; close = v.close || w.close }

-- The order: the request, a cancel, bytes, a close; each of the three that are no bytes once. Of empty bytes nothing is asked.

-- an item may stand before a word
abbrev pub in_before : InItem → Inward → Bool
in_before OtherIn w = true
in_before RequestIn w = not w.request
in_before CancelIn w = not w.request && not w.cancel
in_before (BytesIn bytes) w = is_empty bytes || (not w.request && not w.cancel)
in_before CloseIn w = not w.request && not w.cancel && is_empty w.bytes && not w.close

-- an item may stand behind a word
abbrev pub in_follows : Inward → InItem → Bool
in_follows w OtherIn = true
in_follows w RequestIn = not w.request && not w.cancel && is_empty w.bytes && not w.close
in_follows w CancelIn = cancel_follows w
in_follows w (BytesIn bytes) = in_bytes_follow w
in_follows w CloseIn = in_close_follows w

abbrev pub in_ordered : {A : Type 0} → (A → InItem) → List A → Bool
in_ordered item [] = true
in_ordered item (p ∷ ps) = in_before (item p) (in_of item ps) && in_ordered item ps
