-- What a word tells stands in its list.
use Rattle.std.proofs.Common.{◌≡◌, ◌||◌, ℕ, ℤ, Bool, true, false, cond, List, [], ◌∷◌, Option, refl, ap}
use Rattle.kn_packet.specs.declared.packet.Packet.{Packet}
use Rattle.kn_packet.specs.declared.packet.Packet.TheVariants.{CloseReq, CloseRsp, Data, DialCls, DialReq, DialRsp, Drain, Other}
use Rattle.kn_tunnel.specs.Kinds.{is_refusal, is_reply, is_zero}
use Rattle.kn_tunnel.specs.Tunnel.{Head, NoHead, Refusal, Reply}
use Rattle.kn_words.specs.Down.{BytesDown, CloseDown, DownItem, OtherDown, down_cons, down_item, down_of, has_request, is_request}
use Rattle.kn_words.specs.In.{BytesIn, CancelIn, CloseIn, InItem, OtherIn, RequestIn, in_cons, in_of}
use Rattle.kn_words.specs.Numbers.{is_drawn_number, is_number}
use Rattle.kn_words.specs.Out.{BytesOut, CloseOut, OtherOut, OutItem, RefusalOut, ReplyOut, last_head, out_cons, out_of}
use Rattle.kn_words.specs.Standing.{Stands}
use Rattle.kn_words.specs.Up.{BytesUp, CloseUp, OtherUp, RefusalUp, ReplyUp, UpItem, up_cons, up_item, up_of}

further : {A I : Type 0} (item : A → I) (i : I) (p : A) (ps : List A) → Stands item i ps → Stands item i (p ∷ ps)
further item i p ps s = record { before = p ∷ s.before; packet = s.packet; behind = s.behind; placed = ap (λ l. p ∷ l) s.placed; is = s.is }

here : {A I : Type 0} (item : A → I) (i : I) (p : A) (ps : List A) → item p ≡ i → Stands item i (p ∷ ps)
here item i p ps e = record { before = []; packet = p; behind = ps; placed = refl; is = e }

-- ---- from an agent
pub up_reply_stands : {A : Type 0} (item : A → UpItem) (ps : List A) → (up_of item ps).reply ≡ true → Stands item ReplyUp ps
up_reply_stands item [] e = absurd cc
up_reply_stands item (p ∷ ps) e = at (item p) refl e (λ r. further item ReplyUp p ps (up_reply_stands item ps r))
  where
    at : (i : UpItem) → item p ≡ i → (up_cons i (up_of item ps)).reply ≡ true → ((up_of item ps).reply ≡ true → Stands item ReplyUp (p ∷ ps)) → Stands item ReplyUp (p ∷ ps)
    at ReplyUp t f rest = here item ReplyUp p ps t
    at OtherUp t f rest = rest f
    at RefusalUp t f rest = rest f
    at (BytesUp b) t f rest = rest f
    at CloseUp t f rest = rest f

pub up_refusal_stands : {A : Type 0} (item : A → UpItem) (ps : List A) → (up_of item ps).refusal ≡ true → Stands item RefusalUp ps
up_refusal_stands item [] e = absurd cc
up_refusal_stands item (p ∷ ps) e = at (item p) refl e (λ r. further item RefusalUp p ps (up_refusal_stands item ps r))
  where
    at : (i : UpItem) → item p ≡ i → (up_cons i (up_of item ps)).refusal ≡ true → ((up_of item ps).refusal ≡ true → Stands item RefusalUp (p ∷ ps)) → Stands item RefusalUp (p ∷ ps)
    at RefusalUp t f rest = here item RefusalUp p ps t
    at OtherUp t f rest = rest f
    at ReplyUp t f rest = rest f
    at (BytesUp b) t f rest = rest f
    at CloseUp t f rest = rest f

pub up_close_stands : {A : Type 0} (item : A → UpItem) (ps : List A) → is_zero (up_of item ps).closes ≡ false → Stands item CloseUp ps
up_close_stands item [] e = absurd cc
up_close_stands item (p ∷ ps) e = at (item p) refl e (λ r. further item CloseUp p ps (up_close_stands item ps r))
  where
    at : (i : UpItem) → item p ≡ i → is_zero (up_cons i (up_of item ps)).closes ≡ false → (is_zero (up_of item ps).closes ≡ false → Stands item CloseUp (p ∷ ps)) → Stands item CloseUp (p ∷ ps)
    at CloseUp t f rest = here item CloseUp p ps t
    at OtherUp t f rest = rest f
    at RefusalUp t f rest = rest f
    at ReplyUp t f rest = rest f
    at (BytesUp b) t f rest = rest f

-- ---- to an agent
pub down_close_stands : {A : Type 0} (item : A → DownItem) (ps : List A) → (down_of item ps).close ≡ true → Stands item CloseDown ps
down_close_stands item [] e = absurd cc
down_close_stands item (p ∷ ps) e = at (item p) refl e (λ r. further item CloseDown p ps (down_close_stands item ps r))
  where
    at : (i : DownItem) → item p ≡ i → (down_cons i (down_of item ps)).close ≡ true → ((down_of item ps).close ≡ true → Stands item CloseDown (p ∷ ps)) → Stands item CloseDown (p ∷ ps)
    at CloseDown t f rest = here item CloseDown p ps t
    at OtherDown t f rest = rest f
    at (BytesDown b) t f rest = rest f

pub request_stands : (dial : ℕ) (ps : List Packet) → has_request dial ps ≡ true → Stands (is_request dial) true ps
request_stands dial [] e = absurd cc
request_stands dial (p ∷ ps) e = at (is_request dial p) refl e (λ r. further (is_request dial) true p ps (request_stands dial ps r))
  where
    at : (b : Bool) → is_request dial p ≡ b → (b || has_request dial ps) ≡ true → (has_request dial ps ≡ true → Stands (is_request dial) true (p ∷ ps)) → Stands (is_request dial) true (p ∷ ps)
    at true t f rest = here (is_request dial) true p ps t
    at false t f rest = rest f

-- ---- from an app's stream
pub in_request_stands : {A : Type 0} (item : A → InItem) (ps : List A) → (in_of item ps).request ≡ true → Stands item RequestIn ps
in_request_stands item [] e = absurd cc
in_request_stands item (p ∷ ps) e = at (item p) refl e (λ r. further item RequestIn p ps (in_request_stands item ps r))
  where
    at : (i : InItem) → item p ≡ i → (in_cons i (in_of item ps)).request ≡ true → ((in_of item ps).request ≡ true → Stands item RequestIn (p ∷ ps)) → Stands item RequestIn (p ∷ ps)
    at RequestIn t f rest = here item RequestIn p ps t
    at OtherIn t f rest = rest f
    at CancelIn t f rest = rest f
    at (BytesIn b) t f rest = rest f
    at CloseIn t f rest = rest f

pub in_cancel_stands : {A : Type 0} (item : A → InItem) (ps : List A) → (in_of item ps).cancel ≡ true → Stands item CancelIn ps
in_cancel_stands item [] e = absurd cc
in_cancel_stands item (p ∷ ps) e = at (item p) refl e (λ r. further item CancelIn p ps (in_cancel_stands item ps r))
  where
    at : (i : InItem) → item p ≡ i → (in_cons i (in_of item ps)).cancel ≡ true → ((in_of item ps).cancel ≡ true → Stands item CancelIn (p ∷ ps)) → Stands item CancelIn (p ∷ ps)
    at CancelIn t f rest = here item CancelIn p ps t
    at OtherIn t f rest = rest f
    at RequestIn t f rest = rest f
    at (BytesIn b) t f rest = rest f
    at CloseIn t f rest = rest f

pub in_close_stands : {A : Type 0} (item : A → InItem) (ps : List A) → (in_of item ps).close ≡ true → Stands item CloseIn ps
in_close_stands item [] e = absurd cc
in_close_stands item (p ∷ ps) e = at (item p) refl e (λ r. further item CloseIn p ps (in_close_stands item ps r))
  where
    at : (i : InItem) → item p ≡ i → (in_cons i (in_of item ps)).close ≡ true → ((in_of item ps).close ≡ true → Stands item CloseIn (p ∷ ps)) → Stands item CloseIn (p ∷ ps)
    at CloseIn t f rest = here item CloseIn p ps t
    at OtherIn t f rest = rest f
    at RequestIn t f rest = rest f
    at CancelIn t f rest = rest f
    at (BytesIn b) t f rest = rest f

-- ---- to an app's stream
reply_behind : (g h : Head) → is_reply g ≡ false → is_reply (last_head g h) ≡ true → is_reply h ≡ true
reply_behind NoHead NoHead n e = e
reply_behind Refusal NoHead n e = e
reply_behind Reply NoHead n e = absurd cc
reply_behind g Refusal n e = e
reply_behind g Reply n e = refl

refusal_behind : (g h : Head) → is_refusal g ≡ false → is_refusal (last_head g h) ≡ true → is_refusal h ≡ true
refusal_behind NoHead NoHead n e = e
refusal_behind Refusal NoHead n e = absurd cc
refusal_behind Reply NoHead n e = e
refusal_behind g Refusal n e = refl
refusal_behind g Reply n e = e

pub out_reply_stands : {A : Type 0} (item : A → OutItem) (ps : List A) → is_reply (out_of item ps).head ≡ true → Stands item ReplyOut ps
out_reply_stands item [] e = absurd cc
out_reply_stands item (p ∷ ps) e = at (item p) refl e (λ r. further item ReplyOut p ps (out_reply_stands item ps r))
  where
    at : (i : OutItem) → item p ≡ i → is_reply (out_cons i (out_of item ps)).head ≡ true → (is_reply (out_of item ps).head ≡ true → Stands item ReplyOut (p ∷ ps)) → Stands item ReplyOut (p ∷ ps)
    at ReplyOut t f rest = here item ReplyOut p ps t
    at OtherOut t f rest = rest f
    at RefusalOut t f rest = rest (reply_behind Refusal (out_of item ps).head refl f)
    at (BytesOut b) t f rest = rest f
    at CloseOut t f rest = rest f

pub out_refusal_stands : {A : Type 0} (item : A → OutItem) (ps : List A) → is_refusal (out_of item ps).head ≡ true → Stands item RefusalOut ps
out_refusal_stands item [] e = absurd cc
out_refusal_stands item (p ∷ ps) e = at (item p) refl e (λ r. further item RefusalOut p ps (out_refusal_stands item ps r))
  where
    at : (i : OutItem) → item p ≡ i → is_refusal (out_cons i (out_of item ps)).head ≡ true → (is_refusal (out_of item ps).head ≡ true → Stands item RefusalOut (p ∷ ps)) → Stands item RefusalOut (p ∷ ps)
    at RefusalOut t f rest = here item RefusalOut p ps t
    at OtherOut t f rest = rest f
    at ReplyOut t f rest = rest (refusal_behind Reply (out_of item ps).head refl f)
    at (BytesOut b) t f rest = rest f
    at CloseOut t f rest = rest f

pub out_close_stands : {A : Type 0} (item : A → OutItem) (ps : List A) → is_zero (out_of item ps).closes ≡ false → Stands item CloseOut ps
out_close_stands item [] e = absurd cc
out_close_stands item (p ∷ ps) e = at (item p) refl e (λ r. further item CloseOut p ps (out_close_stands item ps r))
  where
    at : (i : OutItem) → item p ≡ i → is_zero (out_cons i (out_of item ps)).closes ≡ false → (is_zero (out_of item ps).closes ≡ false → Stands item CloseOut (p ∷ ps)) → Stands item CloseOut (p ∷ ps)
    at CloseOut t f rest = here item CloseOut p ps t
    at OtherOut t f rest = rest f
    at RefusalOut t f rest = rest f
    at ReplyOut t f rest = rest f
    at (BytesOut b) t f rest = rest f

-- ---- which packets these are
pub reply_is : (dial : ℕ) (cid : Option ℕ) (p : Packet) → up_item dial cid p ≡ ReplyUp → (c : ℤ) × (r : ℤ) × (p ≡ DialRsp [] c r) × (is_drawn_number cid c ≡ true)
reply_is dial cid (DialRsp [] c r) e = at (is_drawn_number cid c) refl e
  where
    at : (b : Bool) → is_drawn_number cid c ≡ b → cond b ReplyUp OtherUp ≡ ReplyUp → (d : ℤ) × (s : ℤ) × (DialRsp [] c r ≡ DialRsp [] d s) × (is_drawn_number cid d ≡ true)
    at true t f = (c, r, refl, t)
    at false t f = absurd cc
reply_is dial cid (DialRsp (x ∷ xs) c r) e = at (is_number dial r) e
  where
    at : (b : Bool) → cond b RefusalUp OtherUp ≡ ReplyUp → (d : ℤ) × (s : ℤ) × (DialRsp (x ∷ xs) c r ≡ DialRsp [] d s) × (is_drawn_number cid d ≡ true)
    at true f = absurd cc
    at false f = absurd cc
reply_is dial cid (Data c q b) e = at (is_drawn_number cid c) e
  where
    at : (k : Bool) → cond k (BytesUp b) OtherUp ≡ ReplyUp → (d : ℤ) × (s : ℤ) × (Data c q b ≡ DialRsp [] d s) × (is_drawn_number cid d ≡ true)
    at true f = absurd cc
    at false f = absurd cc
reply_is dial cid (CloseRsp q c) e = at (is_drawn_number cid c) e
  where
    at : (k : Bool) → cond k CloseUp OtherUp ≡ ReplyUp → (d : ℤ) × (s : ℤ) × (CloseRsp q c ≡ DialRsp [] d s) × (is_drawn_number cid d ≡ true)
    at true f = absurd cc
    at false f = absurd cc
reply_is dial cid (DialReq q a r) e = absurd cc
reply_is dial cid (CloseReq c) e = absurd cc
reply_is dial cid (DialCls r) e = absurd cc
reply_is dial cid Drain e = absurd cc
reply_is dial cid (Other n) e = absurd cc

pub close_is : (cid : Option ℕ) (p : Packet) → down_item cid p ≡ CloseDown → (c : ℤ) × (p ≡ CloseReq c) × (is_drawn_number cid c ≡ true)
close_is cid (CloseReq c) e = at (is_drawn_number cid c) refl e
  where
    at : (b : Bool) → is_drawn_number cid c ≡ b → cond b CloseDown OtherDown ≡ CloseDown → (d : ℤ) × (CloseReq c ≡ CloseReq d) × (is_drawn_number cid d ≡ true)
    at true t f = (c, refl, t)
    at false t f = absurd cc
close_is cid (Data c q b) e = at (is_drawn_number cid c) e
  where
    at : (k : Bool) → cond k (BytesDown b) OtherDown ≡ CloseDown → (d : ℤ) × (Data c q b ≡ CloseReq d) × (is_drawn_number cid d ≡ true)
    at true f = absurd cc
    at false f = absurd cc
close_is cid (DialReq q a r) e = absurd cc
close_is cid (DialRsp q c r) e = absurd cc
close_is cid (CloseRsp q c) e = absurd cc
close_is cid (DialCls r) e = absurd cc
close_is cid Drain e = absurd cc
close_is cid (Other n) e = absurd cc
