-- The order of the words to an app's stream: one packet more, one less, and a list cut short.
use Rattle.std.proofs.Common.{◌≡◌, ◌++◌, ◌&&◌, ◌||◌, ◌⊎◌, ℕ, true, false, not, List, [], ◌∷◌, suc, inl, inr, refl, sym, ap, ◌∙◌, append_assoc, arith}
use Rattle.kn_tunnel.specs.Cuts.{IsCutOut}
use Rattle.kn_tunnel.specs.Kinds.{is_empty, is_refusal, no_closes, no_head}
use Rattle.kn_tunnel.specs.Steps.{no_out}
use Rattle.kn_tunnel.specs.Tunnel.{Head, NoHead, Outward, Refusal, Reply}
use Rattle.kn_words.specs.Out.{BytesOut, CloseOut, OtherOut, OutItem, RefusalOut, ReplyOut, last_head, out_before, out_cons, out_follows, out_of, out_ordered, out_snoc}
use Rattle.kn_words.proofs.Bits.{all_three, all_two, either, fewer_none, first_holds, front_empty, not_closed, prefix_all, prefix_empty, rear_empty, three, two}
use Rattle.kn_words.proofs.Ends.{out_append}

-- a head that is there is there
no_head_last : (g h : Head) → no_head g ≡ false → no_head (last_head g h) ≡ true → ⊥
no_head_last NoHead h e f = absurd cc
no_head_last Refusal NoHead e f = absurd cc
no_head_last Refusal Refusal e f = absurd cc
no_head_last Refusal Reply e f = absurd cc
no_head_last Reply NoHead e f = absurd cc
no_head_last Reply Refusal e f = absurd cc
no_head_last Reply Reply e f = absurd cc

is_none : (h : Head) → no_head h ≡ true → h ≡ NoHead
is_none NoHead e = refl
is_none Refusal e = absurd cc
is_none Reply e = absurd cc

not_refusal_last : (h : Head) → no_head h ≡ true → not (is_refusal (last_head Refusal h)) ≡ true → ⊥
not_refusal_last NoHead e f = absurd cc
not_refusal_last Refusal e f = absurd cc
not_refusal_last Reply e f = absurd cc

rest_not_refusal : (g h : Head) → not (is_refusal (last_head g h)) ≡ true → not (is_refusal h) ≡ true
rest_not_refusal g NoHead f = refl
rest_not_refusal g Refusal f = absurd cc
rest_not_refusal g Reply f = refl

-- an item before a word may stay before it where another comes behind
out_stays : (i j : OutItem) (w : Outward) → out_before i w ≡ true → out_follows (out_cons i w) j ≡ true → out_before i (out_snoc w j) ≡ true
out_stays OtherOut j w e f = refl
out_stays RefusalOut OtherOut w e f = e
out_stays RefusalOut RefusalOut w e f = absurd (no_head_last Refusal w.head refl (three (no_head (last_head Refusal w.head)) (is_empty w.bytes) (no_closes w.closes) f).0)
out_stays RefusalOut ReplyOut w e f = absurd (no_head_last Refusal w.head refl (three (no_head (last_head Refusal w.head)) (is_empty w.bytes) (no_closes w.closes) f).0)
out_stays RefusalOut (BytesOut b) w e f =
    let none = (three (no_head w.head) (is_empty w.bytes) (no_closes w.closes) e).0 in
    absurd (not_refusal_last w.head none (two (not (is_refusal (last_head Refusal w.head))) (no_closes w.closes) f).0)
out_stays RefusalOut CloseOut w e f = let none = (three (no_head w.head) (is_empty w.bytes) (no_closes w.closes) e).0 in absurd (not_refusal_last w.head none f)
out_stays ReplyOut OtherOut w e f = e
out_stays ReplyOut RefusalOut w e f = absurd (no_head_last Reply w.head refl (three (no_head (last_head Reply w.head)) (is_empty w.bytes) (no_closes w.closes) f).0)
out_stays ReplyOut ReplyOut w e f = absurd (no_head_last Reply w.head refl (three (no_head (last_head Reply w.head)) (is_empty w.bytes) (no_closes w.closes) f).0)
out_stays ReplyOut (BytesOut b) w e f = e
out_stays ReplyOut CloseOut w e f = e
out_stays (BytesOut a) OtherOut w e f = e
out_stays (BytesOut a) RefusalOut w e f = first_holds (is_empty a) false (front_empty a w.bytes (three (no_head w.head) (is_empty (a ++ w.bytes)) (no_closes w.closes) f).1)
out_stays (BytesOut a) ReplyOut w e f = first_holds (is_empty a) false (front_empty a w.bytes (three (no_head w.head) (is_empty (a ++ w.bytes)) (no_closes w.closes) f).1)
out_stays (BytesOut a) (BytesOut b) w e f = e
out_stays (BytesOut a) CloseOut w e f = e
out_stays CloseOut OtherOut w e f = e
out_stays CloseOut RefusalOut w e f = absurd (not_closed w.closes (three (no_head w.head) (is_empty w.bytes) (no_closes (suc w.closes)) f).2)
out_stays CloseOut ReplyOut w e f = absurd (not_closed w.closes (three (no_head w.head) (is_empty w.bytes) (no_closes (suc w.closes)) f).2)
out_stays CloseOut (BytesOut b) w e f = absurd (not_closed w.closes (two (not (is_refusal w.head)) (no_closes (suc w.closes)) f).1)
out_stays CloseOut CloseOut w e f = e

-- behind a head no head may stand, and what else may stand there may stand behind the rest
head_follows_rest : (g : Head) (j : OutItem) (w : Outward) → no_head g ≡ false → out_follows (record w { head = last_head g w.head }) j ≡ true → out_follows w j ≡ true
head_follows_rest g OtherOut w n f = refl
head_follows_rest g RefusalOut w n f = absurd (no_head_last g w.head n (three (no_head (last_head g w.head)) (is_empty w.bytes) (no_closes w.closes) f).0)
head_follows_rest g ReplyOut w n f = absurd (no_head_last g w.head n (three (no_head (last_head g w.head)) (is_empty w.bytes) (no_closes w.closes) f).0)
head_follows_rest g (BytesOut b) w n f =
    let both = two (not (is_refusal (last_head g w.head))) (no_closes w.closes) f in
    all_two (not (is_refusal w.head)) (no_closes w.closes) (rest_not_refusal g w.head both.0) both.1
head_follows_rest g CloseOut w n f = rest_not_refusal g w.head f

bytes_follow_rest : (a : List ℕ) (w : Outward) → (no_head w.head && is_empty (a ++ w.bytes) && no_closes w.closes) ≡ true → (no_head w.head && is_empty w.bytes && no_closes w.closes) ≡ true
bytes_follow_rest a w f =
    let all = three (no_head w.head) (is_empty (a ++ w.bytes)) (no_closes w.closes) f in
    all_three (no_head w.head) (is_empty w.bytes) (no_closes w.closes) all.0 (rear_empty a w.bytes all.1) all.2

-- what may stand behind a word may stand behind its rest
out_follows_rest : (i j : OutItem) (w : Outward) → out_follows (out_cons i w) j ≡ true → out_follows w j ≡ true
out_follows_rest OtherOut j w f = f
out_follows_rest RefusalOut j w f = head_follows_rest Refusal j w refl f
out_follows_rest ReplyOut j w f = head_follows_rest Reply j w refl f
out_follows_rest (BytesOut a) OtherOut w f = refl
out_follows_rest (BytesOut a) RefusalOut w f = bytes_follow_rest a w f
out_follows_rest (BytesOut a) ReplyOut w f = bytes_follow_rest a w f
out_follows_rest (BytesOut a) (BytesOut b) w f = f
out_follows_rest (BytesOut a) CloseOut w f = f
out_follows_rest CloseOut OtherOut w f = refl
out_follows_rest CloseOut RefusalOut w f = absurd (not_closed w.closes (three (no_head w.head) (is_empty w.bytes) (no_closes (suc w.closes)) f).2)
out_follows_rest CloseOut ReplyOut w f = absurd (not_closed w.closes (three (no_head w.head) (is_empty w.bytes) (no_closes (suc w.closes)) f).2)
out_follows_rest CloseOut (BytesOut b) w f = absurd (not_closed w.closes (two (not (is_refusal w.head)) (no_closes (suc w.closes)) f).1)
out_follows_rest CloseOut CloseOut w f = f

out_first : (i : OutItem) → out_before i no_out ≡ true
out_first OtherOut = refl
out_first RefusalOut = refl
out_first ReplyOut = refl
out_first (BytesOut []) = refl
out_first (BytesOut (x ∷ b)) = refl
out_first CloseOut = refl

-- the first of a list in order stands before the rest, and the rest is in order
pub out_order_first : {A : Type 0} (item : A → OutItem) (p : A) (ps : List A) → out_ordered item (p ∷ ps) ≡ true → out_before (item p) (out_of item ps) ≡ true
out_order_first item p ps h = (two (out_before (item p) (out_of item ps)) (out_ordered item ps) h).0

pub out_order_rest : {A : Type 0} (item : A → OutItem) (p : A) (ps : List A) → out_ordered item (p ∷ ps) ≡ true → out_ordered item ps ≡ true
out_order_rest item p ps h = (two (out_before (item p) (out_of item ps)) (out_ordered item ps) h).1

-- one packet more at the end
pub out_order_append : {A : Type 0} (item : A → OutItem) (ps : List A) (p : A) → out_ordered item ps ≡ true → out_follows (out_of item ps) (item p) ≡ true → out_ordered item (ps ++ p ∷ []) ≡ true
out_order_append item [] p h f = all_two (out_before (item p) no_out) true (out_first (item p)) refl
out_order_append item (q ∷ ps) p h f =
    all_two (out_before (item q) (out_of item (ps ++ p ∷ []))) (out_ordered item (ps ++ p ∷ []))
    (ap (out_before (item q)) (out_append item ps p) ∙ out_stays (item q) (item p) (out_of item ps) (out_order_first item q ps h) f)
    (out_order_append item ps p (out_order_rest item q ps h) (out_follows_rest (item q) (item p) (out_of item ps) f))

-- a list cut short
out_nothing_cut : (w : Outward) → IsCutOut no_out w
out_nothing_cut w = record { head = inr refl; bytes = (w.bytes, refl); closes = omega arith; closes_last = λ e. absurd cc }

-- where the whole has no head, nor has what is left
head_same : (v w : Outward) → no_head w.head ≡ true → (v.head ≡ w.head) ⊎ (v ≡ no_out) → v.head ≡ w.head
head_same v w e (inl same) = same
head_same v w e (inr none) = ap (λ (o : Outward). o.head) none ∙ sym (is_none w.head e)

bytes_head : (b : List ℕ) (v w : Outward) → (is_empty b || no_head w.head) ≡ true → (v.head ≡ w.head) ⊎ (v ≡ no_out) → (v.head ≡ w.head) ⊎ (record v { bytes = b ++ v.bytes } ≡ no_out)
bytes_head b v w g (inl same) = inl same
bytes_head [] v w g (inr none) = inr none
bytes_head (x ∷ b) v w g (inr none) = inl (head_same v w g (inr none))

out_cons_cut : (i : OutItem) (v w : Outward) → out_before i w ≡ true → IsCutOut v w → IsCutOut (out_cons i v) (out_cons i w)
out_cons_cut OtherOut v w g h = h
out_cons_cut RefusalOut v w g h =
    let none = (three (no_head w.head) (is_empty w.bytes) (no_closes w.closes) g).0 in
    record { head = inl (ap (last_head Refusal) (head_same v w none h.head)); bytes = h.bytes; closes = h.closes; closes_last = h.closes_last }
out_cons_cut ReplyOut v w g h = record { head = inl (ap (last_head Reply) (head_same v w g h.head)); bytes = h.bytes; closes = h.closes; closes_last = h.closes_last }
out_cons_cut (BytesOut b) v w g h = record { head = bytes_head b v w g h.head; bytes = (h.bytes.0, append_assoc b v.bytes h.bytes.0 ∙ ap (λ x. b ++ x) h.bytes.1); closes = h.closes; closes_last = λ e. ap (λ x. b ++ x) (h.closes_last e) }
out_cons_cut CloseOut v w g h =
    let both = two (no_head w.head) (is_empty w.bytes) g in
    record { head = inl (head_same v w both.0 h.head); bytes = h.bytes; closes = omega (arith, h.closes); closes_last = λ e. prefix_all v.bytes w.bytes h.bytes both.1 }

pub out_prefix_cut : {A : Type 0} (item : A → OutItem) (ps qs : List A) → out_ordered item (ps ++ qs) ≡ true → IsCutOut (out_of item ps) (out_of item (ps ++ qs))
out_prefix_cut item [] qs h = out_nothing_cut (out_of item qs)
out_prefix_cut item (p ∷ ps) qs h = out_cons_cut (item p) (out_of item ps) (out_of item (ps ++ qs)) (out_order_first item p (ps ++ qs) h) (out_prefix_cut item ps qs (out_order_rest item p (ps ++ qs) h))

no_head_cut : (v w : Outward) → IsCutOut v w → no_head w.head ≡ true → no_head v.head ≡ true
no_head_cut v w h e = ap no_head (head_same v w e h.head) ∙ e

out_before_cut : (i : OutItem) (v w : Outward) → IsCutOut v w → out_before i w ≡ true → out_before i v ≡ true
out_before_cut OtherOut v w h g = refl
out_before_cut RefusalOut v w h g =
    let all = three (no_head w.head) (is_empty w.bytes) (no_closes w.closes) g in
    all_three (no_head v.head) (is_empty v.bytes) (no_closes v.closes) (no_head_cut v w h all.0) (prefix_empty v.bytes w.bytes h.bytes all.1) (fewer_none v.closes w.closes h.closes all.2)
out_before_cut ReplyOut v w h g = no_head_cut v w h g
out_before_cut (BytesOut b) v w h g = either (is_empty b) (no_head w.head) (no_head v.head) (no_head_cut v w h) g
out_before_cut CloseOut v w h g =
    let both = two (no_head w.head) (is_empty w.bytes) g in
    all_two (no_head v.head) (is_empty v.bytes) (no_head_cut v w h both.0) (prefix_empty v.bytes w.bytes h.bytes both.1)

pub out_prefix_ordered : {A : Type 0} (item : A → OutItem) (ps qs : List A) → out_ordered item (ps ++ qs) ≡ true → out_ordered item ps ≡ true
out_prefix_ordered item [] qs h = refl
out_prefix_ordered item (p ∷ ps) qs h =
    let rest = out_order_rest item p (ps ++ qs) h in
    all_two (out_before (item p) (out_of item ps)) (out_ordered item ps)
    (out_before_cut (item p) (out_of item ps) (out_of item (ps ++ qs)) (out_prefix_cut item ps qs rest) (out_order_first item p (ps ++ qs) h))
    (out_prefix_ordered item ps qs rest)
