-- What single packets are to a tunnel: its own by the number that it drew, others' by any other.
use Rattle.std.proofs.Common.{◌≡◌, ℕ, ℤ, pos, Bool, true, false, List, [], ◌∷◌, Option, Some, refl}
use Rattle.kn_packet.specs.declared.packet.Packet.TheVariants.{CloseReq, CloseRsp, Data, DialCls, DialReq, DialRsp}
use Rattle.kn_tunnel.specs.Kinds.{has}
use Rattle.kn_words.specs.Down.{BytesDown, CloseDown, OtherDown, down_item}
use Rattle.kn_words.specs.In.{BytesIn, CancelIn, CloseIn, OtherIn, RequestIn, in_item, stream_in_item}
use Rattle.kn_words.specs.Numbers.{is_drawn_number, is_number}
use Rattle.kn_words.specs.Out.{BytesOut, CloseOut, OtherOut, RefusalOut, ReplyOut, out_item, stream_out_item}
use Rattle.kn_words.specs.Up.{BytesUp, CloseUp, OtherUp, RefusalUp, ReplyUp, up_item}
use Rattle.kn_words.proofs.Named.{own_number}

-- ---- from an agent
pub up_own_refusal : (dial : ℕ) (cid : Option ℕ) (error : List ℕ) (c : ℤ) → has error ≡ true → up_item dial cid (DialRsp error c (pos dial)) ≡ RefusalUp
up_own_refusal dial cid [] c e = absurd cc
up_own_refusal dial cid (x ∷ xs) c e = rw (own_number dial) refl

pub up_own_reply : (dial cid : ℕ) (r : ℤ) → up_item dial (Some cid) (DialRsp [] (pos cid) r) ≡ ReplyUp
up_own_reply dial cid r = rw (own_number cid) refl

pub up_own_data : (dial cid : ℕ) (error bytes : List ℕ) → up_item dial (Some cid) (Data (pos cid) error bytes) ≡ BytesUp bytes
up_own_data dial cid error bytes = rw (own_number cid) refl

pub up_own_close : (dial cid : ℕ) (error : List ℕ) → up_item dial (Some cid) (CloseRsp error (pos cid)) ≡ CloseUp
up_own_close dial cid error = rw (own_number cid) refl

pub up_other_refusal : (dial : ℕ) (cid : Option ℕ) (error : List ℕ) (c r : ℤ) → has error ≡ true → is_number dial r ≡ false → up_item dial cid (DialRsp error c r) ≡ OtherUp
up_other_refusal dial cid [] c r e h = absurd cc
up_other_refusal dial cid (x ∷ xs) c r e h = rw h refl

pub up_other_reply : (dial : ℕ) (cid : Option ℕ) (c r : ℤ) → is_drawn_number cid c ≡ false → up_item dial cid (DialRsp [] c r) ≡ OtherUp
up_other_reply dial cid c r h = rw h refl

pub up_other_data : (dial : ℕ) (cid : Option ℕ) (c : ℤ) (error bytes : List ℕ) → is_drawn_number cid c ≡ false → up_item dial cid (Data c error bytes) ≡ OtherUp
up_other_data dial cid c error bytes h = rw h refl

pub up_other_close : (dial : ℕ) (cid : Option ℕ) (error : List ℕ) (c : ℤ) → is_drawn_number cid c ≡ false → up_item dial cid (CloseRsp error c) ≡ OtherUp
up_other_close dial cid error c h = rw h refl

-- ---- to an agent
pub down_own_data : (cid : ℕ) (error bytes : List ℕ) → down_item (Some cid) (Data (pos cid) error bytes) ≡ BytesDown bytes
down_own_data cid error bytes = rw (own_number cid) refl

pub down_own_close : (cid : ℕ) → down_item (Some cid) (CloseReq (pos cid)) ≡ CloseDown
down_own_close cid = rw (own_number cid) refl

pub down_other_data : (cid : Option ℕ) (c : ℤ) (error bytes : List ℕ) → is_drawn_number cid c ≡ false → down_item cid (Data c error bytes) ≡ OtherDown
down_other_data cid c error bytes h = rw h refl

pub down_other_close : (cid : Option ℕ) (c : ℤ) → is_drawn_number cid c ≡ false → down_item cid (CloseReq c) ≡ OtherDown
down_other_close cid c h = rw h refl

-- ---- from an app's stream: a client's, or a CONNECT connection
pub in_own_request : (connect : Bool) (app : ℕ) (dial : Option ℕ) (protocol address : List ℕ) → stream_in_item connect app dial (DialReq protocol address (pos app)) ≡ RequestIn
in_own_request true app dial protocol address = refl
in_own_request false app dial protocol address = rw (own_number app) refl

pub in_own_cancel : (app : ℕ) (dial : Option ℕ) → in_item app dial (DialCls (pos app)) ≡ CancelIn
in_own_cancel app dial = rw (own_number app) refl

pub in_own_data : (connect : Bool) (app dial : ℕ) (error bytes : List ℕ) → stream_in_item connect app (Some dial) (Data (pos dial) error bytes) ≡ BytesIn bytes
in_own_data true app dial error bytes = refl
in_own_data false app dial error bytes = rw (own_number dial) refl

pub in_own_close : (app dial : ℕ) → in_item app (Some dial) (CloseReq (pos dial)) ≡ CloseIn
in_own_close app dial = rw (own_number dial) refl

pub in_other_request : (app : ℕ) (dial : Option ℕ) (protocol address : List ℕ) (r : ℤ) → is_number app r ≡ false → in_item app dial (DialReq protocol address r) ≡ OtherIn
in_other_request app dial protocol address r h = rw h refl

pub in_other_cancel : (app : ℕ) (dial : Option ℕ) (r : ℤ) → is_number app r ≡ false → in_item app dial (DialCls r) ≡ OtherIn
in_other_cancel app dial r h = rw h refl

pub in_other_data : (app : ℕ) (dial : Option ℕ) (c : ℤ) (error bytes : List ℕ) → is_drawn_number dial c ≡ false → in_item app dial (Data c error bytes) ≡ OtherIn
in_other_data app dial c error bytes h = rw h refl

pub in_other_close : (app : ℕ) (dial : Option ℕ) (c : ℤ) → is_drawn_number dial c ≡ false → in_item app dial (CloseReq c) ≡ OtherIn
in_other_close app dial c h = rw h refl

-- ---- to an app's stream: a client's, or a CONNECT connection
pub out_own_refusal : (connect : Bool) (app : ℕ) (dial : Option ℕ) (error : List ℕ) (c : ℤ) → has error ≡ true → stream_out_item connect app dial (DialRsp error c (pos app)) ≡ RefusalOut
out_own_refusal connect app dial [] c e = absurd cc
out_own_refusal true app dial (x ∷ xs) c e = refl
out_own_refusal false app dial (x ∷ xs) c e = rw (own_number app) refl

pub out_own_reply : (connect : Bool) (app : ℕ) (dial : Option ℕ) (c : ℤ) → stream_out_item connect app dial (DialRsp [] c (pos app)) ≡ ReplyOut
out_own_reply true app dial c = refl
out_own_reply false app dial c = rw (own_number app) refl

pub out_own_data : (connect : Bool) (app dial : ℕ) (error bytes : List ℕ) → stream_out_item connect app (Some dial) (Data (pos dial) error bytes) ≡ BytesOut bytes
out_own_data true app dial error bytes = refl
out_own_data false app dial error bytes = rw (own_number dial) refl

pub out_own_close : (connect : Bool) (app dial : ℕ) (error : List ℕ) → stream_out_item connect app (Some dial) (CloseRsp error (pos dial)) ≡ CloseOut
out_own_close true app dial error = refl
out_own_close false app dial error = rw (own_number dial) refl

pub out_other_answer : (app : ℕ) (dial : Option ℕ) (error : List ℕ) (c r : ℤ) → is_number app r ≡ false → out_item app dial (DialRsp error c r) ≡ OtherOut
out_other_answer app dial [] c r h = rw h refl
out_other_answer app dial (x ∷ xs) c r h = rw h refl

pub out_other_data : (app : ℕ) (dial : Option ℕ) (c : ℤ) (error bytes : List ℕ) → is_drawn_number dial c ≡ false → out_item app dial (Data c error bytes) ≡ OtherOut
out_other_data app dial c error bytes h = rw h refl

pub out_other_close : (app : ℕ) (dial : Option ℕ) (error : List ℕ) (c : ℤ) → is_drawn_number dial c ≡ false → out_item app dial (CloseRsp error c) ≡ OtherOut
out_other_close app dial error c h = rw h refl
