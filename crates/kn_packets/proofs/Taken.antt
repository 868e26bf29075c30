-- The word of a list whose first packet is taken.
use Rattle.std.proofs.Common.{◌≡◌, ◌&&◌, ◌||◌, ◌++◌, ℕ, Bool, true, false, not, List, [], ◌∷◌, length, take, drop, pred, refl, sym, ap}
use Rattle.kn_packet.specs.declared.packet.Packet.{Packet}
use Rattle.kn_tunnel.specs.Kinds.{has, is_empty, is_zero}
use Rattle.kn_words.specs.Down.{BytesDown, CloseDown, DownItem, OtherDown, down_of, down_ordered}
use Rattle.kn_words.specs.In.{BytesIn, CancelIn, CloseIn, InItem, OtherIn, RequestIn, in_of, in_ordered}
use Rattle.kn_words.specs.Up.{BytesUp, CloseUp, OtherUp, RefusalUp, ReplyUp, UpItem, up_of, up_ordered}

pub and_first : (a b : Bool) → (a && b) ≡ true → a ≡ true
and_first true b e = refl
and_first false b e = e

pub and_second : (a b : Bool) → (a && b) ≡ true → b ≡ true
and_second true b e = e
and_second false b e = absurd cc

pub and_both : (a b : Bool) → a ≡ true → b ≡ true → (a && b) ≡ true
and_both true b e f = f
and_both false b e f = e

pub not_false : (b : Bool) → not b ≡ true → b ≡ false
not_false false e = refl
not_false true e = absurd cc

pub or_false : (b : Bool) → (b || false) ≡ b
or_false true = refl
or_false false = refl

-- ---- to the server
pub in_other_taken : (item : Packet → InItem) (p : Packet) (rest : List Packet) → item p ≡ OtherIn → in_of item rest ≡ in_of item (p ∷ rest)
in_other_taken item p rest e = rw e refl

pub in_request_taken : (item : Packet → InItem) (p : Packet) (rest : List Packet) → item p ≡ RequestIn → in_ordered item (p ∷ rest) ≡ true
    → in_of item rest ≡ record (in_of item (p ∷ rest)) { request = false }
in_request_taken item p rest e o = rw e (ap (λ r. record (in_of item rest) { request = r }) free)
  where
    free : (in_of item rest).request ≡ false
    free = not_false (in_of item rest).request (and_first (not (in_of item rest).request) (in_ordered item rest) (rw e at o))

pub in_cancel_taken : (item : Packet → InItem) (p : Packet) (rest : List Packet) → item p ≡ CancelIn → in_ordered item (p ∷ rest) ≡ true
    → in_of item rest ≡ record (in_of item (p ∷ rest)) { cancel = false }
in_cancel_taken item p rest e o = rw e (ap (λ r. record (in_of item rest) { cancel = r }) free)
  where
    free : (in_of item rest).cancel ≡ false
    free = not_false (in_of item rest).cancel (and_second (not (in_of item rest).request) (not (in_of item rest).cancel) (and_first (not (in_of item rest).request && not (in_of item rest).cancel) (in_ordered item rest) (rw e at o)))

-- no request stands behind a cancel, bytes or a close, and no cancel behind bytes or a close
pub in_cancel_first : (item : Packet → InItem) (p : Packet) (rest : List Packet) → item p ≡ CancelIn → in_ordered item (p ∷ rest) ≡ true → (in_of item (p ∷ rest)).request ≡ false
in_cancel_first item p rest e o = rw e (not_false (in_of item rest).request (and_first (not (in_of item rest).request) (not (in_of item rest).cancel) (and_first (not (in_of item rest).request && not (in_of item rest).cancel) (in_ordered item rest) (rw e at o))))

pub take_front : (a b : List ℕ) → take (length a) (a ++ b) ≡ a
take_front [] b = refl
take_front (x ∷ a) b = ap (λ r. x ∷ r) (take_front a b)

pub drop_front : (a b : List ℕ) → drop (length a) (a ++ b) ≡ b
drop_front [] b = refl
drop_front (x ∷ a) b = drop_front a b

pub in_bytes_taken : (item : Packet → InItem) (p : Packet) (rest : List Packet) (bytes : List ℕ) → item p ≡ BytesIn bytes
    → in_of item rest ≡ record (in_of item (p ∷ rest)) { bytes = drop (length bytes) (in_of item (p ∷ rest)).bytes }
in_bytes_taken item p rest bytes e = rw e (ap (λ r. record (in_of item rest) { bytes = r }) (sym (drop_front bytes (in_of item rest).bytes)))

pub in_bytes_piece : (item : Packet → InItem) (p : Packet) (rest : List Packet) (bytes : List ℕ) → item p ≡ BytesIn bytes → take (length bytes) (in_of item (p ∷ rest)).bytes ≡ bytes
in_bytes_piece item p rest bytes e = rw e (take_front bytes (in_of item rest).bytes)

empty_or : (bytes : List ℕ) (b o : Bool) → has bytes ≡ true → ((is_empty bytes || b) && o) ≡ true → b ≡ true
empty_or [] b o h e = absurd cc
empty_or (x ∷ bytes) true o h e = refl
empty_or (x ∷ bytes) false o h e = absurd cc

pub in_bytes_order : (item : Packet → InItem) (p : Packet) (rest : List Packet) (bytes : List ℕ) → item p ≡ BytesIn bytes → has bytes ≡ true → in_ordered item (p ∷ rest) ≡ true
    → (not (in_of item (p ∷ rest)).request && not (in_of item (p ∷ rest)).cancel) ≡ true
in_bytes_order item p rest bytes e some o = rw e (empty_or bytes (not (in_of item rest).request && not (in_of item rest).cancel) (in_ordered item rest) some (rw e at o))

pub in_close_taken : (item : Packet → InItem) (p : Packet) (rest : List Packet) → item p ≡ CloseIn → in_ordered item (p ∷ rest) ≡ true
    → in_of item rest ≡ record (in_of item (p ∷ rest)) { close = false }
in_close_taken item p rest e o = rw e (ap (λ r. record (in_of item rest) { close = r }) free)
  where
    last : (a b c d o : Bool) → ((a && b && c && d) && o) ≡ true → d ≡ true
    last true true true d o h = and_first d o h
    last true true false d o h = absurd cc
    last true false c d o h = absurd cc
    last false b c d o h = absurd cc

    free : (in_of item rest).close ≡ false
    free = not_false (in_of item rest).close (last (not (in_of item rest).request) (not (in_of item rest).cancel) (is_empty (in_of item rest).bytes) (not (in_of item rest).close) (in_ordered item rest) (rw e at o))

-- what may be asked of a close that is taken
pub in_close_order : (item : Packet → InItem) (p : Packet) (rest : List Packet) → item p ≡ CloseIn → in_ordered item (p ∷ rest) ≡ true
    → (not (in_of item (p ∷ rest)).request && not (in_of item (p ∷ rest)).cancel && is_empty (in_of item (p ∷ rest)).bytes) ≡ true
in_close_order item p rest e o = rw e (three (not (in_of item rest).request) (not (in_of item rest).cancel) (is_empty (in_of item rest).bytes) (not (in_of item rest).close) (in_ordered item rest) (rw e at o))
  where
    three : (a b c d o : Bool) → ((a && b && c && d) && o) ≡ true → (a && b && c) ≡ true
    three true true true d o h = refl
    three true true false d o h = absurd cc
    three true false c d o h = absurd cc
    three false b c d o h = absurd cc

-- ---- from the agent
pub up_other_taken : (item : Packet → UpItem) (p : Packet) (rest : List Packet) → item p ≡ OtherUp → up_of item rest ≡ up_of item (p ∷ rest)
up_other_taken item p rest e = rw e refl

pub up_bytes_taken : (item : Packet → UpItem) (p : Packet) (rest : List Packet) (bytes : List ℕ) → item p ≡ BytesUp bytes
    → up_of item rest ≡ record (up_of item (p ∷ rest)) { bytes = drop (length bytes) (up_of item (p ∷ rest)).bytes }
up_bytes_taken item p rest bytes e = rw e (ap (λ r. record (up_of item rest) { bytes = r }) (sym (drop_front bytes (up_of item rest).bytes)))

pub up_bytes_piece : (item : Packet → UpItem) (p : Packet) (rest : List Packet) (bytes : List ℕ) → item p ≡ BytesUp bytes → take (length bytes) (up_of item (p ∷ rest)).bytes ≡ bytes
up_bytes_piece item p rest bytes e = rw e (take_front bytes (up_of item rest).bytes)

pub up_bytes_order : (item : Packet → UpItem) (p : Packet) (rest : List Packet) (bytes : List ℕ) → item p ≡ BytesUp bytes → has bytes ≡ true → up_ordered item (p ∷ rest) ≡ true
    → not (up_of item (p ∷ rest)).reply ≡ true
up_bytes_order item p rest bytes e some o = rw e (and_second (not (up_of item rest).refusal) (not (up_of item rest).reply) (empty_or bytes (not (up_of item rest).refusal && not (up_of item rest).reply) (up_ordered item rest) some (rw e at o)))

pub up_close_taken : (item : Packet → UpItem) (p : Packet) (rest : List Packet) → item p ≡ CloseUp → up_of item rest ≡ record (up_of item (p ∷ rest)) { closes = pred (up_of item (p ∷ rest)).closes }
up_close_taken item p rest e = rw e refl

pub up_close_order : (item : Packet → UpItem) (p : Packet) (rest : List Packet) → item p ≡ CloseUp → up_ordered item (p ∷ rest) ≡ true
    → (not (up_of item (p ∷ rest)).reply && is_empty (up_of item (p ∷ rest)).bytes && not (is_zero (up_of item (p ∷ rest)).closes)) ≡ true
up_close_order item p rest e o = rw e (two (not (up_of item rest).refusal) (not (up_of item rest).reply) (is_empty (up_of item rest).bytes) (up_ordered item rest) (rw e at o))
  where
    two : (a b c o : Bool) → ((a && b && c) && o) ≡ true → (b && c && true) ≡ true
    two true true true o h = refl
    two true true false o h = absurd cc
    two true false c o h = absurd cc
    two false b c o h = absurd cc

pub up_reply_taken : (item : Packet → UpItem) (p : Packet) (rest : List Packet) → item p ≡ ReplyUp → up_ordered item (p ∷ rest) ≡ true
    → up_of item rest ≡ record (up_of item (p ∷ rest)) { reply = false }
up_reply_taken item p rest e o = rw e (ap (λ r. record (up_of item rest) { reply = r }) free)
  where
    free : (up_of item rest).reply ≡ false
    free = not_false (up_of item rest).reply (and_second (not (up_of item rest).refusal) (not (up_of item rest).reply) (and_first (not (up_of item rest).refusal && not (up_of item rest).reply) (up_ordered item rest) (rw e at o)))

pub up_refusal_taken : (item : Packet → UpItem) (p : Packet) (rest : List Packet) → item p ≡ RefusalUp → up_ordered item (p ∷ rest) ≡ true
    → up_of item rest ≡ record (up_of item (p ∷ rest)) { refusal = false }
up_refusal_taken item p rest e o = rw e (ap (λ r. record (up_of item rest) { refusal = r }) free)
  where
    free : (up_of item rest).refusal ≡ false
    free = not_false (up_of item rest).refusal (and_first (not (up_of item rest).refusal) (not (up_of item rest).reply) (and_first (not (up_of item rest).refusal && not (up_of item rest).reply) (up_ordered item rest) (rw e at o)))

-- ---- to the agent
pub down_other_taken : (item : Packet → DownItem) (p : Packet) (rest : List Packet) → item p ≡ OtherDown → down_of item rest ≡ down_of item (p ∷ rest)
down_other_taken item p rest e = rw e refl

pub down_bytes_taken : (item : Packet → DownItem) (p : Packet) (rest : List Packet) (bytes : List ℕ) → item p ≡ BytesDown bytes
    → down_of item rest ≡ record (down_of item (p ∷ rest)) { bytes = drop (length bytes) (down_of item (p ∷ rest)).bytes }
down_bytes_taken item p rest bytes e = rw e (ap (λ r. record (down_of item rest) { bytes = r }) (sym (drop_front bytes (down_of item rest).bytes)))

pub down_bytes_piece : (item : Packet → DownItem) (p : Packet) (rest : List Packet) (bytes : List ℕ) → item p ≡ BytesDown bytes → take (length bytes) (down_of item (p ∷ rest)).bytes ≡ bytes
down_bytes_piece item p rest bytes e = rw e (take_front bytes (down_of item rest).bytes)

pub down_close_taken : (item : Packet → DownItem) (p : Packet) (rest : List Packet) → item p ≡ CloseDown → down_ordered item (p ∷ rest) ≡ true
    → down_of item rest ≡ record (down_of item (p ∷ rest)) { close = false }
down_close_taken item p rest e o = rw e (ap (λ r. record (down_of item rest) { close = r }) free)
  where
    free : (down_of item rest).close ≡ false
    free = not_false (down_of item rest).close (and_second (is_empty (down_of item rest).bytes) (not (down_of item rest).close) (and_first (is_empty (down_of item rest).bytes && not (down_of item rest).close) (down_ordered item rest) (rw e at o)))

pub down_close_order : (item : Packet → DownItem) (p : Packet) (rest : List Packet) → item p ≡ CloseDown → down_ordered item (p ∷ rest) ≡ true
    → (is_empty (down_of item (p ∷ rest)).bytes && (down_of item (p ∷ rest)).close) ≡ true
down_close_order item p rest e o = rw e (and_both (is_empty (down_of item rest).bytes) true (and_first (is_empty (down_of item rest).bytes) (not (down_of item rest).close) (and_first (is_empty (down_of item rest).bytes && not (down_of item rest).close) (down_ordered item rest) (rw e at o))) refl)
