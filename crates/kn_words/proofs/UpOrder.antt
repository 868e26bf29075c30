-- The order of the words from an agent: one packet more, one less, and a list cut short.
use Rattle.std.proofs.Common.{◌≡◌, ◌++◌, ◌&&◌, true, false, not, List, [], ◌∷◌, suc, refl, ap, ◌∙◌, append_assoc, arith}
use Rattle.kn_tunnel.specs.Cuts.{IsCutUp}
use Rattle.kn_tunnel.specs.Kinds.{is_empty, no_closes}
use Rattle.kn_tunnel.specs.Steps.{no_up}
use Rattle.kn_tunnel.specs.Tunnel.{Upward}
use Rattle.kn_words.specs.Up.{BytesUp, CloseUp, OtherUp, RefusalUp, ReplyUp, UpItem, up_before, up_cons, up_follows, up_of, up_ordered, up_snoc}
use Rattle.kn_words.proofs.Bits.{all_four, all_three, all_two, either, first_holds, four, front_empty, neither, not_closed, not_more, prefix_all, prefix_empty, rear_empty, three, two}
use Rattle.kn_words.proofs.Ends.{up_append}

-- an item before a word may stay before it where another comes behind
up_stays : (i j : UpItem) (w : Upward) → up_before i w ≡ true → up_follows (up_cons i w) j ≡ true → up_before i (up_snoc w j) ≡ true
up_stays OtherUp j w e f = refl
up_stays RefusalUp OtherUp w e f = e
up_stays RefusalUp RefusalUp w e f = absurd cc
up_stays RefusalUp ReplyUp w e f = absurd cc
up_stays RefusalUp (BytesUp b) w e f = e
up_stays RefusalUp CloseUp w e f = e
up_stays ReplyUp OtherUp w e f = e
up_stays ReplyUp RefusalUp w e f = let all = four (not w.refusal) false (is_empty w.bytes) (no_closes w.closes) f in absurd (cc all.1)
up_stays ReplyUp ReplyUp w e f = let all = four (not w.refusal) false (is_empty w.bytes) (no_closes w.closes) f in absurd (cc all.1)
up_stays ReplyUp (BytesUp b) w e f = e
up_stays ReplyUp CloseUp w e f = e
up_stays (BytesUp a) OtherUp w e f = e
up_stays (BytesUp a) RefusalUp w e f = let all = four (not w.refusal) (not w.reply) (is_empty (a ++ w.bytes)) (no_closes w.closes) f in first_holds (is_empty a) (not true && not w.reply) (front_empty a w.bytes all.2)
up_stays (BytesUp a) ReplyUp w e f = let all = four (not w.refusal) (not w.reply) (is_empty (a ++ w.bytes)) (no_closes w.closes) f in first_holds (is_empty a) (not w.refusal && not true) (front_empty a w.bytes all.2)
up_stays (BytesUp a) (BytesUp b) w e f = e
up_stays (BytesUp a) CloseUp w e f = e
up_stays CloseUp OtherUp w e f = e
up_stays CloseUp RefusalUp w e f = let all = four (not w.refusal) (not w.reply) (is_empty w.bytes) (no_closes (suc w.closes)) f in absurd (not_closed w.closes all.3)
up_stays CloseUp ReplyUp w e f = let all = four (not w.refusal) (not w.reply) (is_empty w.bytes) (no_closes (suc w.closes)) f in absurd (not_closed w.closes all.3)
up_stays CloseUp (BytesUp b) w e f = absurd (not_closed w.closes f)
up_stays CloseUp CloseUp w e f = e

-- what may stand behind a word may stand behind its rest
up_follows_rest : (i j : UpItem) (w : Upward) → up_follows (up_cons i w) j ≡ true → up_follows w j ≡ true
up_follows_rest OtherUp j w f = f
up_follows_rest RefusalUp OtherUp w f = refl
up_follows_rest RefusalUp RefusalUp w f = absurd cc
up_follows_rest RefusalUp ReplyUp w f = absurd cc
up_follows_rest RefusalUp (BytesUp b) w f = f
up_follows_rest RefusalUp CloseUp w f = refl
up_follows_rest ReplyUp OtherUp w f = refl
up_follows_rest ReplyUp RefusalUp w f = let all = four (not w.refusal) false (is_empty w.bytes) (no_closes w.closes) f in absurd (cc all.1)
up_follows_rest ReplyUp ReplyUp w f = let all = four (not w.refusal) false (is_empty w.bytes) (no_closes w.closes) f in absurd (cc all.1)
up_follows_rest ReplyUp (BytesUp b) w f = f
up_follows_rest ReplyUp CloseUp w f = refl
up_follows_rest (BytesUp a) OtherUp w f = refl
up_follows_rest (BytesUp a) RefusalUp w f = let all = four (not w.refusal) (not w.reply) (is_empty (a ++ w.bytes)) (no_closes w.closes) f in all_four (not w.refusal) (not w.reply) (is_empty w.bytes) (no_closes w.closes) all.0 all.1 (rear_empty a w.bytes all.2) all.3
up_follows_rest (BytesUp a) ReplyUp w f = let all = four (not w.refusal) (not w.reply) (is_empty (a ++ w.bytes)) (no_closes w.closes) f in all_four (not w.refusal) (not w.reply) (is_empty w.bytes) (no_closes w.closes) all.0 all.1 (rear_empty a w.bytes all.2) all.3
up_follows_rest (BytesUp a) (BytesUp b) w f = f
up_follows_rest (BytesUp a) CloseUp w f = refl
up_follows_rest CloseUp OtherUp w f = refl
up_follows_rest CloseUp RefusalUp w f = let all = four (not w.refusal) (not w.reply) (is_empty w.bytes) (no_closes (suc w.closes)) f in absurd (not_closed w.closes all.3)
up_follows_rest CloseUp ReplyUp w f = let all = four (not w.refusal) (not w.reply) (is_empty w.bytes) (no_closes (suc w.closes)) f in absurd (not_closed w.closes all.3)
up_follows_rest CloseUp (BytesUp b) w f = absurd (not_closed w.closes f)
up_follows_rest CloseUp CloseUp w f = refl

up_first : (i : UpItem) → up_before i no_up ≡ true
up_first OtherUp = refl
up_first RefusalUp = refl
up_first ReplyUp = refl
up_first (BytesUp []) = refl
up_first (BytesUp (x ∷ b)) = refl
up_first CloseUp = refl

-- the first of a list in order stands before the rest, and the rest is in order
pub up_order_first : {A : Type 0} (item : A → UpItem) (p : A) (ps : List A) → up_ordered item (p ∷ ps) ≡ true → up_before (item p) (up_of item ps) ≡ true
up_order_first item p ps h = (two (up_before (item p) (up_of item ps)) (up_ordered item ps) h).0

pub up_order_rest : {A : Type 0} (item : A → UpItem) (p : A) (ps : List A) → up_ordered item (p ∷ ps) ≡ true → up_ordered item ps ≡ true
up_order_rest item p ps h = (two (up_before (item p) (up_of item ps)) (up_ordered item ps) h).1

-- one packet more at the end
pub up_order_append : {A : Type 0} (item : A → UpItem) (ps : List A) (p : A) → up_ordered item ps ≡ true → up_follows (up_of item ps) (item p) ≡ true → up_ordered item (ps ++ p ∷ []) ≡ true
up_order_append item [] p h f = all_two (up_before (item p) no_up) true (up_first (item p)) refl
up_order_append item (q ∷ ps) p h f =
    all_two (up_before (item q) (up_of item (ps ++ p ∷ []))) (up_ordered item (ps ++ p ∷ []))
    (ap (up_before (item q)) (up_append item ps p) ∙ up_stays (item q) (item p) (up_of item ps) (up_order_first item q ps h) f)
    (up_order_append item ps p (up_order_rest item q ps h) (up_follows_rest (item q) (item p) (up_of item ps) f))

-- a list cut short
up_nothing_cut : (w : Upward) → IsCutUp no_up w
up_nothing_cut w = record { refusal = λ e. absurd cc; reply = λ e. absurd cc; bytes = (w.bytes, refl); closes = omega arith; closes_last = λ e. absurd cc }

up_cons_cut : (i : UpItem) (v w : Upward) → up_before i w ≡ true → IsCutUp v w → IsCutUp (up_cons i v) (up_cons i w)
up_cons_cut OtherUp v w g h = h
up_cons_cut RefusalUp v w g h = record { refusal = λ e. refl; reply = h.reply; bytes = h.bytes; closes = h.closes; closes_last = h.closes_last }
up_cons_cut ReplyUp v w g h = record { refusal = h.refusal; reply = λ e. refl; bytes = h.bytes; closes = h.closes; closes_last = h.closes_last }
up_cons_cut (BytesUp b) v w g h = record { refusal = h.refusal; reply = h.reply; bytes = (h.bytes.0, append_assoc b v.bytes h.bytes.0 ∙ ap (λ x. b ++ x) h.bytes.1); closes = h.closes; closes_last = λ e. ap (λ x. b ++ x) (h.closes_last e) }
up_cons_cut CloseUp v w g h = record {
  refusal = h.refusal;
  reply = h.reply;
  bytes = h.bytes;
  closes = omega (arith, h.closes);
  closes_last = λ e. prefix_all v.bytes w.bytes h.bytes (three (not w.refusal) (not w.reply) (is_empty w.bytes) g).2;
}

pub up_prefix_cut : {A : Type 0} (item : A → UpItem) (ps qs : List A) → up_ordered item (ps ++ qs) ≡ true → IsCutUp (up_of item ps) (up_of item (ps ++ qs))
up_prefix_cut item [] qs h = up_nothing_cut (up_of item qs)
up_prefix_cut item (p ∷ ps) qs h = up_cons_cut (item p) (up_of item ps) (up_of item (ps ++ qs)) (up_order_first item p (ps ++ qs) h) (up_prefix_cut item ps qs (up_order_rest item p (ps ++ qs) h))

up_before_cut : (i : UpItem) (v w : Upward) → IsCutUp v w → up_before i w ≡ true → up_before i v ≡ true
up_before_cut OtherUp v w h g = refl
up_before_cut RefusalUp v w h g = neither v.refusal v.reply w.refusal w.reply h.refusal h.reply g
up_before_cut ReplyUp v w h g = neither v.refusal v.reply w.refusal w.reply h.refusal h.reply g
up_before_cut (BytesUp b) v w h g = either (is_empty b) (not w.refusal && not w.reply) (not v.refusal && not v.reply) (neither v.refusal v.reply w.refusal w.reply h.refusal h.reply) g
up_before_cut CloseUp v w h g =
    let all = three (not w.refusal) (not w.reply) (is_empty w.bytes) g in
    all_three (not v.refusal) (not v.reply) (is_empty v.bytes) (not_more v.refusal w.refusal h.refusal all.0) (not_more v.reply w.reply h.reply all.1) (prefix_empty v.bytes w.bytes h.bytes all.2)

pub up_prefix_ordered : {A : Type 0} (item : A → UpItem) (ps qs : List A) → up_ordered item (ps ++ qs) ≡ true → up_ordered item ps ≡ true
up_prefix_ordered item [] qs h = refl
up_prefix_ordered item (p ∷ ps) qs h =
    let rest = up_order_rest item p (ps ++ qs) h in
    all_two (up_before (item p) (up_of item ps)) (up_ordered item ps)
    (up_before_cut (item p) (up_of item ps) (up_of item (ps ++ qs)) (up_prefix_cut item ps qs rest) (up_order_first item p (ps ++ qs) h))
    (up_prefix_ordered item ps qs rest)
