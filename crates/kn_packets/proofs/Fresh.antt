-- A dial that is not drawn yet stands nowhere.
use Rattle.std.proofs.Common.{◌≡◌, ◌<◌, ◌==◌, ℕ, ℤ, pos, negsuc, Bool, true, false, List, [], ◌∷◌, Some, None, refl, ap₂, arith}
use Rattle.std.proofs.lemmas.Bool.{eq-eqb, ne_eqb}
use Rattle.kn_packet.specs.declared.packet.Packet.{Packet}
use Rattle.kn_packet.specs.declared.packet.Packet.TheVariants.{CloseReq, CloseRsp, Data, DialCls, DialReq, DialRsp, Drain, Other}
use Rattle.kn_tables.specs.Lists.{first_where}
use Rattle.kn_server_core.specs.Isolation.{Each}
use Rattle.kn_edge_core.specs.declared.dial.Dial.{Dial}
use Rattle.kn_tunnel.specs.Steps.{no_down, no_up}
use Rattle.kn_words.specs.Down.{down_item, down_ordered, down_word, has_request, is_request}
use Rattle.kn_words.specs.In.{in_cons, in_ordered, stream_in_item, stream_in_word}
use Rattle.kn_words.specs.Numbers.{is_number}
use Rattle.kn_words.specs.Out.{out_cons, out_ordered, stream_out_item, stream_out_word}
use Rattle.kn_words.specs.Up.{OtherUp, up_item, up_ordered, up_word}
use Rattle.kn_packets.specs.Keys.{IsBelow, LinkOlder, StreamOlder, asked_at, made_at}
use Rattle.kn_packets.specs.World.{has_random}

pub eqb_refl : (n : ℕ) → (n == n) ≡ true
eqb_refl n = eq-eqb n n refl

pub below : (c d : ℕ) → c < d → (c == d) ≡ false
below c d h = ne_eqb c d (λ e. omega (arith, h))

pub above : (c d : ℕ) → c < d → (d == c) ≡ false
above c d h = ne_eqb d c (λ e. omega (arith, h))

pub not_named : (d : ℕ) (z : ℤ) → IsBelow d z → is_number d z ≡ false
not_named d (pos m) h = below m d h
not_named d (negsuc m) h = refl

in_item_fresh : (c : Bool) (n d : ℕ) (p : Packet) → StreamOlder d p → stream_in_item c n (Some d) p ≡ stream_in_item c n None p
in_item_fresh true n d p h = refl
in_item_fresh false n d (Data connect_id error bytes) h = rw (not_named d connect_id h) refl
in_item_fresh false n d (CloseReq connect_id) h = rw (not_named d connect_id h) refl
in_item_fresh false n d (DialReq protocol address random) h = refl
in_item_fresh false n d (DialRsp error connect_id random) h = refl
in_item_fresh false n d (CloseRsp error connect_id) h = refl
in_item_fresh false n d (DialCls random) h = refl
in_item_fresh false n d Drain h = refl
in_item_fresh false n d (Other number) h = refl

pub in_fresh : (c : Bool) (n d : ℕ) (ps : List Packet) → Each (StreamOlder d) ps → stream_in_word c n (Some d) ps ≡ stream_in_word c n None ps
in_fresh c n d [] h = refl
in_fresh c n d (p ∷ ps) h = ap₂ in_cons (in_item_fresh c n d p h.0) (in_fresh c n d ps h.1)

out_item_fresh : (c : Bool) (n d : ℕ) (p : Packet) → StreamOlder d p → stream_out_item c n (Some d) p ≡ stream_out_item c n None p
out_item_fresh true n d p h = refl
out_item_fresh false n d (Data connect_id error bytes) h = rw (not_named d connect_id h) refl
out_item_fresh false n d (CloseRsp error connect_id) h = rw (not_named d connect_id h) refl
out_item_fresh false n d (CloseReq connect_id) h = refl
out_item_fresh false n d (DialReq protocol address random) h = refl
out_item_fresh false n d (DialRsp [] connect_id random) h = refl
out_item_fresh false n d (DialRsp (x ∷ xs) connect_id random) h = refl
out_item_fresh false n d (DialCls random) h = refl
out_item_fresh false n d Drain h = refl
out_item_fresh false n d (Other number) h = refl

pub out_fresh : (c : Bool) (n d : ℕ) (ps : List Packet) → Each (StreamOlder d) ps → stream_out_word c n (Some d) ps ≡ stream_out_word c n None ps
out_fresh c n d [] h = refl
out_fresh c n d (p ∷ ps) h = ap₂ out_cons (out_item_fresh c n d p h.0) (out_fresh c n d ps h.1)

up_item_fresh : (d : ℕ) (p : Packet) → LinkOlder d p → up_item d None p ≡ OtherUp
up_item_fresh d (DialRsp [] connect_id random) h = refl
up_item_fresh d (DialRsp (x ∷ xs) connect_id random) h = rw (not_named d random h) refl
up_item_fresh d (Data connect_id error bytes) h = refl
up_item_fresh d (CloseRsp error connect_id) h = refl
up_item_fresh d (CloseReq connect_id) h = refl
up_item_fresh d (DialReq protocol address random) h = refl
up_item_fresh d (DialCls random) h = refl
up_item_fresh d Drain h = refl
up_item_fresh d (Other number) h = refl

pub up_fresh : (d : ℕ) (ps : List Packet) → Each (LinkOlder d) ps → up_word d None ps ≡ no_up
up_fresh d [] h = refl
up_fresh d (p ∷ ps) h = rw (up_item_fresh d p h.0) (up_fresh d ps h.1)

is_request_fresh : (d : ℕ) (p : Packet) → LinkOlder d p → is_request d p ≡ false
is_request_fresh d (DialReq protocol address random) h = not_named d random h
is_request_fresh d (DialRsp error connect_id random) h = refl
is_request_fresh d (Data connect_id error bytes) h = refl
is_request_fresh d (CloseRsp error connect_id) h = refl
is_request_fresh d (CloseReq connect_id) h = refl
is_request_fresh d (DialCls random) h = refl
is_request_fresh d Drain h = refl
is_request_fresh d (Other number) h = refl

pub requests_fresh : (d : ℕ) (ps : List Packet) → Each (LinkOlder d) ps → has_request d ps ≡ false
requests_fresh d [] h = refl
requests_fresh d (p ∷ ps) h = rw (is_request_fresh d p h.0) (requests_fresh d ps h.1)

pub down_undrawn : (ps : List Packet) → down_word None ps ≡ no_down
down_undrawn [] = refl
down_undrawn (Data connect_id error bytes ∷ ps) = down_undrawn ps
down_undrawn (CloseReq connect_id ∷ ps) = down_undrawn ps
down_undrawn (DialReq protocol address random ∷ ps) = down_undrawn ps
down_undrawn (DialRsp error connect_id random ∷ ps) = down_undrawn ps
down_undrawn (CloseRsp error connect_id ∷ ps) = down_undrawn ps
down_undrawn (DialCls random ∷ ps) = down_undrawn ps
down_undrawn (Drain ∷ ps) = down_undrawn ps
down_undrawn (Other number ∷ ps) = down_undrawn ps

pub dials_fresh : (d : ℕ) (xs : List Dial) → Each (λ (x : Dial). IsBelow d x.random) xs → first_where (has_random d) xs ≡ None
dials_fresh d [] h = refl
dials_fresh d (x ∷ xs) h = rw (not_named d x.random h.0) (dials_fresh d xs h.1)

-- ---- the order of lists in which it does not stand
pub in_order_fresh : (c : Bool) (n d : ℕ) (ps : List Packet) → Each (StreamOlder d) ps → in_ordered (stream_in_item c n (Some d)) ps ≡ in_ordered (stream_in_item c n None) ps
in_order_fresh c n d [] h = refl
in_order_fresh c n d (p ∷ ps) h = rw (in_item_fresh c n d p h.0, in_fresh c n d ps h.1, in_order_fresh c n d ps h.1) refl

pub out_order_fresh : (c : Bool) (n d : ℕ) (ps : List Packet) → Each (StreamOlder d) ps → out_ordered (stream_out_item c n (Some d)) ps ≡ out_ordered (stream_out_item c n None) ps
out_order_fresh c n d [] h = refl
out_order_fresh c n d (p ∷ ps) h = rw (out_item_fresh c n d p h.0, out_fresh c n d ps h.1, out_order_fresh c n d ps h.1) refl

pub up_order_fresh : (d : ℕ) (ps : List Packet) → Each (LinkOlder d) ps → up_ordered (up_item d None) ps ≡ true
up_order_fresh d [] h = refl
up_order_fresh d (p ∷ ps) h = rw (up_item_fresh d p h.0) (up_order_fresh d ps h.1)

pub down_order_undrawn : (ps : List Packet) → down_ordered (down_item None) ps ≡ true
down_order_undrawn [] = refl
down_order_undrawn (Data connect_id error bytes ∷ ps) = down_order_undrawn ps
down_order_undrawn (CloseReq connect_id ∷ ps) = down_order_undrawn ps
down_order_undrawn (DialReq protocol address random ∷ ps) = down_order_undrawn ps
down_order_undrawn (DialRsp error connect_id random ∷ ps) = down_order_undrawn ps
down_order_undrawn (CloseRsp error connect_id ∷ ps) = down_order_undrawn ps
down_order_undrawn (DialCls random ∷ ps) = down_order_undrawn ps
down_order_undrawn (Drain ∷ ps) = down_order_undrawn ps
down_order_undrawn (Other number ∷ ps) = down_order_undrawn ps

-- ---- nobody was asked for it
pub asked_fresh : (d : ℕ) (ps : List Packet) → Each (LinkOlder d) ps → asked_at d ps ≡ 0
asked_fresh d [] h = refl
asked_fresh d (p ∷ ps) h = rw (is_request_fresh d p h.0) (asked_fresh d ps h.1)

pub made_fresh : (d : ℕ) (xs : List Dial) → Each (λ (x : Dial). IsBelow d x.random) xs → made_at d xs ≡ 0
made_fresh d [] h = refl
made_fresh d (x ∷ xs) h = rw (not_named d x.random h.0) (made_fresh d xs h.1)
