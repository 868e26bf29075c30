-- A number that is not drawn yet: with it as key a list has the word that it has without one, and nothing is asked or answered under it.
use Rattle.std.proofs.Common.{◌≡◌, ℕ, false, List, [], ◌∷◌, None, Some, refl}
use Rattle.std.specs.List.{AllByRecursion}
use Rattle.kn_packet.specs.declared.packet.Packet.{Packet}
use Rattle.kn_packet.specs.declared.packet.Packet.TheVariants.{CloseReq, CloseRsp, Data, DialCls, DialReq, DialRsp, Drain, Other}
use Rattle.kn_tunnel.specs.Steps.{no_down, no_in, no_out, no_up}
use Rattle.kn_words.specs.Below.{ConnectBelow, ConnectsBelow, RandomBelow, RandomsBelow}
use Rattle.kn_words.specs.Down.{OtherDown, down_item, down_word, has_request, is_request}
use Rattle.kn_words.specs.In.{OtherIn, in_item, in_ordered, in_word}
use Rattle.kn_words.specs.Out.{OtherOut, out_item, out_ordered, out_word}
use Rattle.kn_words.specs.Up.{OtherUp, up_item, up_ordered, up_word}
use Rattle.kn_words.proofs.Named.{not_named}
use Rattle.kn_words.proofs.Same.{down_none, in_none, in_order_same, in_same, out_none, out_order_same, out_same, up_none, up_order_same, up_same}

each : {A : Type 0} (P Q : A → Type 0) (f : (x : A) → P x → Q x) (xs : List A) → AllByRecursion P xs → AllByRecursion Q xs
each P Q f [] h = tt
each P Q f (x ∷ xs) h = (f x h.0, each P Q f xs h.1)

-- ---- a dial on a stream
out_dial : (app dial : ℕ) (p : Packet) → ConnectBelow dial p → out_item app (Some dial) p ≡ out_item app None p
out_dial app dial (DialRsp [] c r) h = refl
out_dial app dial (DialRsp (x ∷ xs) c r) h = refl
out_dial app dial (Data c e b) h = rw (not_named dial c h) refl
out_dial app dial (CloseRsp e c) h = rw (not_named dial c h) refl
out_dial app dial (DialReq q a r) h = refl
out_dial app dial (CloseReq c) h = refl
out_dial app dial (DialCls r) h = refl
out_dial app dial Drain h = refl
out_dial app dial (Other n) h = refl

pub out_fresh : (app dial : ℕ) (ps : List Packet) → ConnectsBelow dial ps → out_word app (Some dial) ps ≡ out_word app None ps
out_fresh app dial ps h = out_same (out_item app (Some dial)) (out_item app None) ps (each _ _ (out_dial app dial) ps h)

pub out_order_fresh : (app dial : ℕ) (ps : List Packet) → ConnectsBelow dial ps → out_ordered (out_item app (Some dial)) ps ≡ out_ordered (out_item app None) ps
out_order_fresh app dial ps h = out_order_same (out_item app (Some dial)) (out_item app None) ps (each _ _ (out_dial app dial) ps h)

in_dial : (app dial : ℕ) (p : Packet) → ConnectBelow dial p → in_item app (Some dial) p ≡ in_item app None p
in_dial app dial (DialReq q a r) h = refl
in_dial app dial (DialCls r) h = refl
in_dial app dial (Data c e b) h = rw (not_named dial c h) refl
in_dial app dial (CloseReq c) h = rw (not_named dial c h) refl
in_dial app dial (DialRsp e c r) h = refl
in_dial app dial (CloseRsp e c) h = refl
in_dial app dial Drain h = refl
in_dial app dial (Other n) h = refl

pub in_fresh : (app dial : ℕ) (ps : List Packet) → ConnectsBelow dial ps → in_word app (Some dial) ps ≡ in_word app None ps
in_fresh app dial ps h = in_same (in_item app (Some dial)) (in_item app None) ps (each _ _ (in_dial app dial) ps h)

pub in_order_fresh : (app dial : ℕ) (ps : List Packet) → ConnectsBelow dial ps → in_ordered (in_item app (Some dial)) ps ≡ in_ordered (in_item app None) ps
in_order_fresh app dial ps h = in_order_same (in_item app (Some dial)) (in_item app None) ps (each _ _ (in_dial app dial) ps h)

-- ---- an app on a stream
out_app : (app : ℕ) (p : Packet) → RandomBelow app p → out_item app None p ≡ OtherOut
out_app app (DialRsp [] c r) h = rw (not_named app r h) refl
out_app app (DialRsp (x ∷ xs) c r) h = rw (not_named app r h) refl
out_app app (Data c e b) h = refl
out_app app (CloseRsp e c) h = refl
out_app app (DialReq q a r) h = refl
out_app app (CloseReq c) h = refl
out_app app (DialCls r) h = refl
out_app app Drain h = refl
out_app app (Other n) h = refl

pub out_new : (app : ℕ) (ps : List Packet) → RandomsBelow app ps → out_word app None ps ≡ no_out
out_new app ps h = out_none (out_item app None) ps (each _ _ (out_app app) ps h)

in_app : (app : ℕ) (p : Packet) → RandomBelow app p → in_item app None p ≡ OtherIn
in_app app (DialReq q a r) h = rw (not_named app r h) refl
in_app app (DialCls r) h = rw (not_named app r h) refl
in_app app (Data c e b) h = refl
in_app app (CloseReq c) h = refl
in_app app (DialRsp e c r) h = refl
in_app app (CloseRsp e c) h = refl
in_app app Drain h = refl
in_app app (Other n) h = refl

pub in_new : (app : ℕ) (ps : List Packet) → RandomsBelow app ps → in_word app None ps ≡ no_in
in_new app ps h = in_none (in_item app None) ps (each _ _ (in_app app) ps h)

-- ---- a dial on a link
up_dial : (dial : ℕ) (p : Packet) → RandomBelow dial p → up_item dial None p ≡ OtherUp
up_dial dial (DialRsp [] c r) h = refl
up_dial dial (DialRsp (x ∷ xs) c r) h = rw (not_named dial r h) refl
up_dial dial (Data c e b) h = refl
up_dial dial (CloseRsp e c) h = refl
up_dial dial (DialReq q a r) h = refl
up_dial dial (CloseReq c) h = refl
up_dial dial (DialCls r) h = refl
up_dial dial Drain h = refl
up_dial dial (Other n) h = refl

pub up_new : (dial : ℕ) (ps : List Packet) → RandomsBelow dial ps → up_word dial None ps ≡ no_up
up_new dial ps h = up_none (up_item dial None) ps (each _ _ (up_dial dial) ps h)

pub no_request : (dial : ℕ) (ps : List Packet) → RandomsBelow dial ps → has_request dial ps ≡ false
no_request dial [] h = refl
no_request dial (p ∷ ps) h = rw (here p (h.0)) (no_request dial ps h.1)
  where
    here : (q : Packet) → RandomBelow dial q → is_request dial q ≡ false
    here (DialReq q a r) i = not_named dial r i
    here (DialRsp e c r) i = refl
    here (CloseReq c) i = refl
    here (CloseRsp e c) i = refl
    here (Data c e b) i = refl
    here (DialCls r) i = refl
    here Drain i = refl
    here (Other n) i = refl

down_undrawn : (p : Packet) → down_item None p ≡ OtherDown
down_undrawn (DialReq q a r) = refl
down_undrawn (DialRsp e c r) = refl
down_undrawn (CloseReq c) = refl
down_undrawn (CloseRsp e c) = refl
down_undrawn (Data c e b) = refl
down_undrawn (DialCls r) = refl
down_undrawn Drain = refl
down_undrawn (Other n) = refl

-- without a connectID nothing on the way to an agent is of the tunnel
pub down_new : (ps : List Packet) → down_word None ps ≡ no_down
down_new [] = refl
down_new (p ∷ ps) = rw (down_undrawn p) (down_new ps)

-- ---- a connectID on a link
up_cid : (dial cid : ℕ) (p : Packet) → ConnectBelow cid p → up_item dial (Some cid) p ≡ up_item dial None p
up_cid dial cid (DialRsp [] c r) h = rw (not_named cid c h) refl
up_cid dial cid (DialRsp (x ∷ xs) c r) h = refl
up_cid dial cid (Data c e b) h = rw (not_named cid c h) refl
up_cid dial cid (CloseRsp e c) h = rw (not_named cid c h) refl
up_cid dial cid (DialReq q a r) h = refl
up_cid dial cid (CloseReq c) h = refl
up_cid dial cid (DialCls r) h = refl
up_cid dial cid Drain h = refl
up_cid dial cid (Other n) h = refl

pub up_fresh : (dial cid : ℕ) (ps : List Packet) → ConnectsBelow cid ps → up_word dial (Some cid) ps ≡ up_word dial None ps
up_fresh dial cid ps h = up_same (up_item dial (Some cid)) (up_item dial None) ps (each _ _ (up_cid dial cid) ps h)

pub up_order_fresh : (dial cid : ℕ) (ps : List Packet) → ConnectsBelow cid ps → up_ordered (up_item dial (Some cid)) ps ≡ up_ordered (up_item dial None) ps
up_order_fresh dial cid ps h = up_order_same (up_item dial (Some cid)) (up_item dial None) ps (each _ _ (up_cid dial cid) ps h)

down_cid : (cid : ℕ) (p : Packet) → ConnectBelow cid p → down_item (Some cid) p ≡ OtherDown
down_cid cid (DialReq q a r) h = refl
down_cid cid (DialRsp e c r) h = refl
down_cid cid (CloseReq c) h = rw (not_named cid c h) refl
down_cid cid (CloseRsp e c) h = refl
down_cid cid (Data c e b) h = rw (not_named cid c h) refl
down_cid cid (DialCls r) h = refl
down_cid cid Drain h = refl
down_cid cid (Other n) h = refl

pub down_fresh : (cid : ℕ) (ps : List Packet) → ConnectsBelow cid ps → down_word (Some cid) ps ≡ no_down
down_fresh cid ps h = down_none (down_item (Some cid)) ps (each _ _ (down_cid cid) ps h)
