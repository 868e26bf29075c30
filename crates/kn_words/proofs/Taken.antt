-- The first packet of a list in order is taken: what the events leave of the word is the word of the rest, and what they ask of it holds.
use Rattle.std.proofs.Common.{◌≡◌, ◌++◌, ◌&&◌, ◌||◌, ℕ, Bool, true, false, not, List, [], ◌∷◌, length, take, drop, pred, refl, sym, ap}
use Rattle.kn_tunnel.specs.Kinds.{is_empty, is_refusal, is_reply, no_closes, no_head}
use Rattle.kn_tunnel.specs.Tunnel.{Downward, Head, Inward, NoHead, Outward, Refusal, Reply, Upward}
use Rattle.kn_words.specs.Down.{BytesDown, CloseDown, down_before, down_cons}
use Rattle.kn_words.specs.In.{BytesIn, CancelIn, CloseIn, RequestIn, in_before, in_cons}
use Rattle.kn_words.specs.Out.{BytesOut, CloseOut, RefusalOut, ReplyOut, last_head, out_before, out_cons}
use Rattle.kn_words.specs.Up.{BytesUp, CloseUp, RefusalUp, ReplyUp, up_before, up_cons}
use Rattle.kn_words.proofs.Bits.{four, three, two}

pub take_front : (a b : List ℕ) → take (length a) (a ++ b) ≡ a
take_front [] b = take_none b
  where
    take_none : (c : List ℕ) → take 0 c ≡ []
    take_none [] = refl
    take_none (x ∷ c) = refl
take_front (x ∷ a) b = ap (λ r. x ∷ r) (take_front a b)

pub drop_front : (a b : List ℕ) → drop (length a) (a ++ b) ≡ b
drop_front [] b = drop_none b
  where
    drop_none : (c : List ℕ) → drop 0 c ≡ c
    drop_none [] = refl
    drop_none (x ∷ c) = refl
drop_front (x ∷ a) b = drop_front a b

is_off : (b : Bool) → not b ≡ true → false ≡ b
is_off true e = absurd cc
is_off false e = refl

-- bytes that are there are not empty
shown : (a b : Bool) → a ≡ false → (a || b) ≡ true → b ≡ true
shown true b e f = absurd cc
shown false b e f = f

none_is : (h : Head) → no_head h ≡ true → NoHead ≡ h
none_is NoHead e = refl
none_is Refusal e = absurd cc
none_is Reply e = absurd cc

-- ---- from an agent
pub up_refusal_taken : (w : Upward) → up_before RefusalUp w ≡ true → record (up_cons RefusalUp w) { refusal = false } ≡ w
up_refusal_taken w e = ap (λ b. record w { refusal = b }) (is_off w.refusal (two (not w.refusal) (not w.reply) e).0)

pub up_reply_taken : (w : Upward) → up_before ReplyUp w ≡ true → record (up_cons ReplyUp w) { reply = false } ≡ w
up_reply_taken w e = ap (λ b. record w { reply = b }) (is_off w.reply (two (not w.refusal) (not w.reply) e).1)

pub up_bytes_taken : (bytes : List ℕ) (w : Upward) → record (up_cons (BytesUp bytes) w) { bytes = drop (length bytes) (up_cons (BytesUp bytes) w).bytes } ≡ w
up_bytes_taken bytes w = ap (λ b. record w { bytes = b }) (drop_front bytes w.bytes)

pub up_close_taken : (w : Upward) → record (up_cons CloseUp w) { closes = pred (up_cons CloseUp w).closes } ≡ w
up_close_taken w = refl

-- no reply stands behind bytes that are there, and no reply or bytes behind a close
pub up_bytes_ask : (bytes : List ℕ) (w : Upward) → is_empty bytes ≡ false → up_before (BytesUp bytes) w ≡ true → not w.reply ≡ true
up_bytes_ask bytes w n e = (two (not w.refusal) (not w.reply) (shown (is_empty bytes) (not w.refusal && not w.reply) n e)).1

pub up_close_ask : (w : Upward) → up_before CloseUp w ≡ true → (not w.reply ≡ true) × (is_empty w.bytes ≡ true)
up_close_ask w e = let all = three (not w.refusal) (not w.reply) (is_empty w.bytes) e in (all.1, all.2)

-- ---- to an agent
pub down_bytes_taken : (bytes : List ℕ) (w : Downward) → record (down_cons (BytesDown bytes) w) { bytes = drop (length bytes) (down_cons (BytesDown bytes) w).bytes } ≡ w
down_bytes_taken bytes w = ap (λ b. record w { bytes = b }) (drop_front bytes w.bytes)

pub down_close_taken : (w : Downward) → down_before CloseDown w ≡ true → record (down_cons CloseDown w) { close = false } ≡ w
down_close_taken w e = ap (λ b. record w { close = b }) (is_off w.close (two (is_empty w.bytes) (not w.close) e).1)

pub down_close_asks : (w : Downward) → down_before CloseDown w ≡ true → is_empty w.bytes ≡ true
down_close_asks w e = (two (is_empty w.bytes) (not w.close) e).0

-- ---- from an app's stream
pub in_request_taken : (w : Inward) → in_before RequestIn w ≡ true → record (in_cons RequestIn w) { request = false } ≡ w
in_request_taken w e = ap (λ b. record w { request = b }) (is_off w.request e)

pub in_cancel_taken : (w : Inward) → in_before CancelIn w ≡ true → record (in_cons CancelIn w) { cancel = false } ≡ w
in_cancel_taken w e = ap (λ b. record w { cancel = b }) (is_off w.cancel (two (not w.request) (not w.cancel) e).1)

pub in_bytes_taken : (bytes : List ℕ) (w : Inward) → record (in_cons (BytesIn bytes) w) { bytes = drop (length bytes) (in_cons (BytesIn bytes) w).bytes } ≡ w
in_bytes_taken bytes w = ap (λ b. record w { bytes = b }) (drop_front bytes w.bytes)

pub in_close_taken : (w : Inward) → in_before CloseIn w ≡ true → record (in_cons CloseIn w) { close = false } ≡ w
in_close_taken w e = ap (λ b. record w { close = b }) (is_off w.close (four (not w.request) (not w.cancel) (is_empty w.bytes) (not w.close) e).3)

pub in_cancel_asks : (w : Inward) → in_before CancelIn w ≡ true → not w.request ≡ true
in_cancel_asks w e = (two (not w.request) (not w.cancel) e).0

pub in_bytes_ask : (bytes : List ℕ) (w : Inward) → is_empty bytes ≡ false → in_before (BytesIn bytes) w ≡ true → (not w.request ≡ true) × (not w.cancel ≡ true)
in_bytes_ask bytes w n e = two (not w.request) (not w.cancel) (shown (is_empty bytes) (not w.request && not w.cancel) n e)

pub in_close_asks : (w : Inward) → in_before CloseIn w ≡ true → (not w.request ≡ true) × (not w.cancel ≡ true) × (is_empty w.bytes ≡ true)
in_close_asks w e = let all = four (not w.request) (not w.cancel) (is_empty w.bytes) (not w.close) e in (all.0, all.1, all.2)

-- ---- to an app's stream
pub out_refusal_taken : (w : Outward) → out_before RefusalOut w ≡ true → record (out_cons RefusalOut w) { head = NoHead } ≡ w
out_refusal_taken w e = ap (λ h. record w { head = h }) (none_is w.head (three (no_head w.head) (is_empty w.bytes) (no_closes w.closes) e).0)

pub out_reply_taken : (w : Outward) → out_before ReplyOut w ≡ true → record (out_cons ReplyOut w) { head = NoHead } ≡ w
out_reply_taken w e = ap (λ h. record w { head = h }) (none_is w.head e)

pub out_bytes_taken : (bytes : List ℕ) (w : Outward) → record (out_cons (BytesOut bytes) w) { bytes = drop (length bytes) (out_cons (BytesOut bytes) w).bytes } ≡ w
out_bytes_taken bytes w = ap (λ b. record w { bytes = b }) (drop_front bytes w.bytes)

pub out_close_taken : (w : Outward) → record (out_cons CloseOut w) { closes = pred (out_cons CloseOut w).closes } ≡ w
out_close_taken w = refl

pub out_refusal_asks : (w : Outward) → out_before RefusalOut w ≡ true → is_refusal (out_cons RefusalOut w).head ≡ true
out_refusal_asks w e = ap (λ h. is_refusal (last_head Refusal h)) (sym (none_is w.head (three (no_head w.head) (is_empty w.bytes) (no_closes w.closes) e).0))

pub out_reply_asks : (w : Outward) → out_before ReplyOut w ≡ true → is_reply (out_cons ReplyOut w).head ≡ true
out_reply_asks w e = ap (λ h. is_reply (last_head Reply h)) (sym (none_is w.head e))

pub out_bytes_ask : (bytes : List ℕ) (w : Outward) → is_empty bytes ≡ false → out_before (BytesOut bytes) w ≡ true → no_head w.head ≡ true
out_bytes_ask bytes w n e = shown (is_empty bytes) (no_head w.head) n e

pub out_close_asks : (w : Outward) → out_before CloseOut w ≡ true → (no_head w.head ≡ true) × (is_empty w.bytes ≡ true)
out_close_asks w e = two (no_head w.head) (is_empty w.bytes) e
