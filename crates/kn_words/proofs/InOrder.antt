-- The order of the words from an app's stream: one packet more, one less, and a list cut short.
use Rattle.std.proofs.Common.{◌≡◌, ◌++◌, ◌&&◌, true, false, not, List, [], ◌∷◌, refl, ap, ◌∙◌, append_assoc}
use Rattle.kn_tunnel.specs.Cuts.{IsCutIn}
use Rattle.kn_tunnel.specs.Kinds.{is_empty}
use Rattle.kn_tunnel.specs.Steps.{no_in}
use Rattle.kn_tunnel.specs.Tunnel.{Inward}
use Rattle.kn_words.specs.In.{BytesIn, CancelIn, CloseIn, InItem, OtherIn, RequestIn, in_before, in_cons, in_follows, in_of, in_ordered, in_snoc}
use Rattle.kn_words.proofs.Bits.{all_four, all_three, all_two, either, first_holds, four, front_empty, neither, not_more, prefix_all, prefix_empty, rear_empty, three, two}
use Rattle.kn_words.proofs.Ends.{in_append}

-- an item before a word may stay before it where another comes behind
in_stays : (i j : InItem) (w : Inward) → in_before i w ≡ true → in_follows (in_cons i w) j ≡ true → in_before i (in_snoc w j) ≡ true
in_stays OtherIn j w e f = refl
in_stays RequestIn OtherIn w e f = e
in_stays RequestIn RequestIn w e f = absurd cc
in_stays RequestIn CancelIn w e f = e
in_stays RequestIn (BytesIn b) w e f = e
in_stays RequestIn CloseIn w e f = e
in_stays CancelIn OtherIn w e f = e
in_stays CancelIn RequestIn w e f = absurd (cc (four (not w.request) false (is_empty w.bytes) (not w.close) f).1)
in_stays CancelIn CancelIn w e f = absurd cc
in_stays CancelIn (BytesIn b) w e f = e
in_stays CancelIn CloseIn w e f = e
in_stays (BytesIn a) OtherIn w e f = e
in_stays (BytesIn a) RequestIn w e f = let all = four (not w.request) (not w.cancel) (is_empty (a ++ w.bytes)) (not w.close) f in first_holds (is_empty a) (not true && not w.cancel) (front_empty a w.bytes all.2)
in_stays (BytesIn a) CancelIn w e f = let all = three (not w.cancel) (is_empty (a ++ w.bytes)) (not w.close) f in first_holds (is_empty a) (not w.request && not true) (front_empty a w.bytes all.1)
in_stays (BytesIn a) (BytesIn b) w e f = e
in_stays (BytesIn a) CloseIn w e f = e
in_stays CloseIn OtherIn w e f = e
in_stays CloseIn RequestIn w e f = absurd (cc (four (not w.request) (not w.cancel) (is_empty w.bytes) false f).3)
in_stays CloseIn CancelIn w e f = absurd (cc (three (not w.cancel) (is_empty w.bytes) false f).2)
in_stays CloseIn (BytesIn b) w e f = absurd cc
in_stays CloseIn CloseIn w e f = absurd cc

-- what may stand behind a word may stand behind its rest
in_follows_rest : (i j : InItem) (w : Inward) → in_follows (in_cons i w) j ≡ true → in_follows w j ≡ true
in_follows_rest OtherIn j w f = f
in_follows_rest RequestIn OtherIn w f = refl
in_follows_rest RequestIn RequestIn w f = absurd cc
in_follows_rest RequestIn CancelIn w f = f
in_follows_rest RequestIn (BytesIn b) w f = f
in_follows_rest RequestIn CloseIn w f = f
in_follows_rest CancelIn OtherIn w f = refl
in_follows_rest CancelIn RequestIn w f = absurd (cc (four (not w.request) false (is_empty w.bytes) (not w.close) f).1)
in_follows_rest CancelIn CancelIn w f = absurd cc
in_follows_rest CancelIn (BytesIn b) w f = f
in_follows_rest CancelIn CloseIn w f = f
in_follows_rest (BytesIn a) OtherIn w f = refl
in_follows_rest (BytesIn a) RequestIn w f = let all = four (not w.request) (not w.cancel) (is_empty (a ++ w.bytes)) (not w.close) f in all_four (not w.request) (not w.cancel) (is_empty w.bytes) (not w.close) all.0 all.1 (rear_empty a w.bytes all.2) all.3
in_follows_rest (BytesIn a) CancelIn w f = let all = three (not w.cancel) (is_empty (a ++ w.bytes)) (not w.close) f in all_three (not w.cancel) (is_empty w.bytes) (not w.close) all.0 (rear_empty a w.bytes all.1) all.2
in_follows_rest (BytesIn a) (BytesIn b) w f = f
in_follows_rest (BytesIn a) CloseIn w f = f
in_follows_rest CloseIn OtherIn w f = refl
in_follows_rest CloseIn RequestIn w f = absurd (cc (four (not w.request) (not w.cancel) (is_empty w.bytes) false f).3)
in_follows_rest CloseIn CancelIn w f = absurd (cc (three (not w.cancel) (is_empty w.bytes) false f).2)
in_follows_rest CloseIn (BytesIn b) w f = absurd cc
in_follows_rest CloseIn CloseIn w f = absurd cc

in_first : (i : InItem) → in_before i no_in ≡ true
in_first OtherIn = refl
in_first RequestIn = refl
in_first CancelIn = refl
in_first (BytesIn []) = refl
in_first (BytesIn (x ∷ b)) = refl
in_first CloseIn = refl

-- the first of a list in order stands before the rest, and the rest is in order
pub in_order_first : {A : Type 0} (item : A → InItem) (p : A) (ps : List A) → in_ordered item (p ∷ ps) ≡ true → in_before (item p) (in_of item ps) ≡ true
in_order_first item p ps h = (two (in_before (item p) (in_of item ps)) (in_ordered item ps) h).0

pub in_order_rest : {A : Type 0} (item : A → InItem) (p : A) (ps : List A) → in_ordered item (p ∷ ps) ≡ true → in_ordered item ps ≡ true
in_order_rest item p ps h = (two (in_before (item p) (in_of item ps)) (in_ordered item ps) h).1

-- one packet more at the end
pub in_order_append : {A : Type 0} (item : A → InItem) (ps : List A) (p : A) → in_ordered item ps ≡ true → in_follows (in_of item ps) (item p) ≡ true → in_ordered item (ps ++ p ∷ []) ≡ true
in_order_append item [] p h f = all_two (in_before (item p) no_in) true (in_first (item p)) refl
in_order_append item (q ∷ ps) p h f =
    all_two (in_before (item q) (in_of item (ps ++ p ∷ []))) (in_ordered item (ps ++ p ∷ []))
    (ap (in_before (item q)) (in_append item ps p) ∙ in_stays (item q) (item p) (in_of item ps) (in_order_first item q ps h) f)
    (in_order_append item ps p (in_order_rest item q ps h) (in_follows_rest (item q) (item p) (in_of item ps) f))

-- a list cut short
in_nothing_cut : (w : Inward) → IsCutIn no_in w
in_nothing_cut w = record { request = λ e. absurd cc; cancel = λ e. absurd cc; bytes = (w.bytes, refl); close = λ e. absurd cc; close_last = λ e. absurd cc }

in_cons_cut : (i : InItem) (v w : Inward) → in_before i w ≡ true → IsCutIn v w → IsCutIn (in_cons i v) (in_cons i w)
in_cons_cut OtherIn v w g h = h
in_cons_cut RequestIn v w g h = record { request = λ e. refl; cancel = h.cancel; bytes = h.bytes; close = h.close; close_last = h.close_last }
in_cons_cut CancelIn v w g h = record { request = h.request; cancel = λ e. refl; bytes = h.bytes; close = h.close; close_last = h.close_last }
in_cons_cut (BytesIn b) v w g h = record { request = h.request; cancel = h.cancel; bytes = (h.bytes.0, append_assoc b v.bytes h.bytes.0 ∙ ap (λ x. b ++ x) h.bytes.1); close = h.close; close_last = λ e. ap (λ x. b ++ x) (h.close_last e) }
in_cons_cut CloseIn v w g h = record {
  request = h.request;
  cancel = h.cancel;
  bytes = h.bytes;
  close = λ e. refl;
  close_last = λ e. prefix_all v.bytes w.bytes h.bytes (four (not w.request) (not w.cancel) (is_empty w.bytes) (not w.close) g).2;
}

pub in_prefix_cut : {A : Type 0} (item : A → InItem) (ps qs : List A) → in_ordered item (ps ++ qs) ≡ true → IsCutIn (in_of item ps) (in_of item (ps ++ qs))
in_prefix_cut item [] qs h = in_nothing_cut (in_of item qs)
in_prefix_cut item (p ∷ ps) qs h = in_cons_cut (item p) (in_of item ps) (in_of item (ps ++ qs)) (in_order_first item p (ps ++ qs) h) (in_prefix_cut item ps qs (in_order_rest item p (ps ++ qs) h))

in_before_cut : (i : InItem) (v w : Inward) → IsCutIn v w → in_before i w ≡ true → in_before i v ≡ true
in_before_cut OtherIn v w h g = refl
in_before_cut RequestIn v w h g = not_more v.request w.request h.request g
in_before_cut CancelIn v w h g = neither v.request v.cancel w.request w.cancel h.request h.cancel g
in_before_cut (BytesIn b) v w h g = either (is_empty b) (not w.request && not w.cancel) (not v.request && not v.cancel) (neither v.request v.cancel w.request w.cancel h.request h.cancel) g
in_before_cut CloseIn v w h g =
    let all = four (not w.request) (not w.cancel) (is_empty w.bytes) (not w.close) g in
    all_four (not v.request) (not v.cancel) (is_empty v.bytes) (not v.close) (not_more v.request w.request h.request all.0) (not_more v.cancel w.cancel h.cancel all.1) (prefix_empty v.bytes w.bytes h.bytes all.2) (not_more v.close w.close h.close all.3)

pub in_prefix_ordered : {A : Type 0} (item : A → InItem) (ps qs : List A) → in_ordered item (ps ++ qs) ≡ true → in_ordered item ps ≡ true
in_prefix_ordered item [] qs h = refl
in_prefix_ordered item (p ∷ ps) qs h =
    let rest = in_order_rest item p (ps ++ qs) h in
    all_two (in_before (item p) (in_of item ps)) (in_ordered item ps)
    (in_before_cut (item p) (in_of item ps) (in_of item (ps ++ qs)) (in_prefix_cut item ps qs rest) (in_order_first item p (ps ++ qs) h))
    (in_prefix_ordered item ps qs rest)
