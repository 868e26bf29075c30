-- The word of two lists, one after the other.
use Rattle.std.proofs.Common.{◌≡◌, ◌++◌, ◌+◌, ◌||◌, ℕ, Bool, true, false, List, [], ◌∷◌, suc, refl, sym, ap, ◌∙◌, append_assoc, append-nil, arith}
use Rattle.kn_tunnel.specs.Steps.{no_down, no_in, no_out, no_up}
use Rattle.kn_tunnel.specs.Tunnel.{Downward, Head, Inward, NoHead, Outward, Refusal, Reply, Upward}
use Rattle.kn_words.specs.Down.{BytesDown, CloseDown, DownItem, OtherDown, down_cons, down_join, down_of}
use Rattle.kn_words.specs.In.{BytesIn, CancelIn, CloseIn, InItem, OtherIn, RequestIn, in_cons, in_join, in_of}
use Rattle.kn_words.specs.Out.{BytesOut, CloseOut, OtherOut, OutItem, RefusalOut, ReplyOut, last_head, out_cons, out_join, out_of}
use Rattle.kn_words.specs.Up.{BytesUp, CloseUp, OtherUp, RefusalUp, ReplyUp, UpItem, up_cons, up_join, up_of}

or_false : (b : Bool) → (b || false) ≡ b
or_false true = refl
or_false false = refl

one_more : (m n : ℕ) → suc (m + n) ≡ suc m + n
one_more m n = omega arith

nothing_more : (n : ℕ) → n + 0 ≡ n
nothing_more n = omega arith

nothing_before : (n : ℕ) → n ≡ 0 + n
nothing_before n = omega arith

last_last : (g h k : Head) → last_head g (last_head h k) ≡ last_head (last_head g h) k
last_last g h NoHead = refl
last_last g h Refusal = refl
last_last g h Reply = refl

last_none : (h : Head) → h ≡ last_head NoHead h
last_none NoHead = refl
last_none Refusal = refl
last_none Reply = refl

up_step : (i : UpItem) (v w : Upward) → up_cons i (up_join v w) ≡ up_join (up_cons i v) w
up_step OtherUp v w = refl
up_step RefusalUp v w = refl
up_step ReplyUp v w = refl
up_step (BytesUp b) v w = ap (λ x. record (up_join v w) { bytes = x }) (sym (append_assoc b v.bytes w.bytes))
up_step CloseUp v w = ap (λ x. record (up_join v w) { closes = x }) (one_more v.closes w.closes)

pub up_joined : {A : Type 0} (item : A → UpItem) (ps qs : List A) → up_of item (ps ++ qs) ≡ up_join (up_of item ps) (up_of item qs)
up_joined item [] qs = ap (λ x. record (up_of item qs) { closes = x }) (nothing_before (up_of item qs).closes)
up_joined item (p ∷ ps) qs = ap (up_cons (item p)) (up_joined item ps qs) ∙ up_step (item p) (up_of item ps) (up_of item qs)

-- nothing behind
pub up_join_none : (w : Upward) → up_join w no_up ≡ w
up_join_none w = rw (or_false w.refusal, or_false w.reply, append-nil w.bytes, nothing_more w.closes) refl

down_step : (i : DownItem) (v w : Downward) → down_cons i (down_join v w) ≡ down_join (down_cons i v) w
down_step OtherDown v w = refl
down_step (BytesDown b) v w = ap (λ x. record (down_join v w) { bytes = x }) (sym (append_assoc b v.bytes w.bytes))
down_step CloseDown v w = refl

pub down_before_none : (w : Downward) → w ≡ down_join no_down w
down_before_none w = refl

pub down_joined : {A : Type 0} (item : A → DownItem) (ps qs : List A) → down_of item (ps ++ qs) ≡ down_join (down_of item ps) (down_of item qs)
down_joined item [] qs = refl
down_joined item (p ∷ ps) qs = ap (down_cons (item p)) (down_joined item ps qs) ∙ down_step (item p) (down_of item ps) (down_of item qs)

pub down_join_none : (w : Downward) → down_join w no_down ≡ w
down_join_none w = rw (or_false w.close, append-nil w.bytes) refl

in_step : (i : InItem) (v w : Inward) → in_cons i (in_join v w) ≡ in_join (in_cons i v) w
in_step OtherIn v w = refl
in_step RequestIn v w = refl
in_step CancelIn v w = refl
in_step (BytesIn b) v w = ap (λ x. record (in_join v w) { bytes = x }) (sym (append_assoc b v.bytes w.bytes))
in_step CloseIn v w = refl

pub in_joined : {A : Type 0} (item : A → InItem) (ps qs : List A) → in_of item (ps ++ qs) ≡ in_join (in_of item ps) (in_of item qs)
in_joined item [] qs = refl
in_joined item (p ∷ ps) qs = ap (in_cons (item p)) (in_joined item ps qs) ∙ in_step (item p) (in_of item ps) (in_of item qs)

pub in_join_none : (w : Inward) → in_join w no_in ≡ w
in_join_none w = rw (or_false w.request, or_false w.cancel, or_false w.close, append-nil w.bytes) refl

out_step : (i : OutItem) (v w : Outward) → out_cons i (out_join v w) ≡ out_join (out_cons i v) w
out_step OtherOut v w = refl
out_step RefusalOut v w = ap (λ x. record (out_join v w) { head = x }) (last_last Refusal v.head w.head)
out_step ReplyOut v w = ap (λ x. record (out_join v w) { head = x }) (last_last Reply v.head w.head)
out_step (BytesOut b) v w = ap (λ x. record (out_join v w) { bytes = x }) (sym (append_assoc b v.bytes w.bytes))
out_step CloseOut v w = ap (λ x. record (out_join v w) { closes = x }) (one_more v.closes w.closes)

pub out_before_none : (w : Outward) → w ≡ out_join no_out w
out_before_none w = rw (← last_none w.head, ← nothing_before w.closes) refl

pub out_joined : {A : Type 0} (item : A → OutItem) (ps qs : List A) → out_of item (ps ++ qs) ≡ out_join (out_of item ps) (out_of item qs)
out_joined item [] qs = out_before_none (out_of item qs)
out_joined item (p ∷ ps) qs = ap (out_cons (item p)) (out_joined item ps qs) ∙ out_step (item p) (out_of item ps) (out_of item qs)

pub out_join_none : (w : Outward) → out_join w no_out ≡ w
out_join_none w = rw (append-nil w.bytes, nothing_more w.closes) refl
