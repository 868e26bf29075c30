-- The order of the words to an agent: one packet more, one less, and a list cut short.
use Rattle.std.proofs.Common.{◌≡◌, ◌++◌, true, not, List, [], ◌∷◌, refl, ap, ◌∙◌, append_assoc}
use Rattle.kn_tunnel.specs.Cuts.{IsCutDown}
use Rattle.kn_tunnel.specs.Kinds.{is_empty}
use Rattle.kn_tunnel.specs.Steps.{no_down}
use Rattle.kn_tunnel.specs.Tunnel.{Downward}
use Rattle.kn_words.specs.Down.{BytesDown, CloseDown, DownItem, OtherDown, down_before, down_cons, down_follows, down_of, down_ordered, down_snoc}
use Rattle.kn_words.proofs.Bits.{all_two, not_more, prefix_all, prefix_empty, two}
use Rattle.kn_words.proofs.Ends.{down_append}

-- an item before a word may stay before it where another comes behind
down_stays : (i j : DownItem) (w : Downward) → down_before i w ≡ true → down_follows (down_cons i w) j ≡ true → down_before i (down_snoc w j) ≡ true
down_stays OtherDown j w e f = refl
down_stays (BytesDown a) OtherDown w e f = refl
down_stays (BytesDown a) (BytesDown b) w e f = refl
down_stays (BytesDown a) CloseDown w e f = refl
down_stays CloseDown OtherDown w e f = e
down_stays CloseDown (BytesDown b) w e f = absurd cc
down_stays CloseDown CloseDown w e f = absurd cc

-- what may stand behind a word may stand behind its rest
down_follows_rest : (i j : DownItem) (w : Downward) → down_follows (down_cons i w) j ≡ true → down_follows w j ≡ true
down_follows_rest OtherDown j w f = f
down_follows_rest (BytesDown a) OtherDown w f = refl
down_follows_rest (BytesDown a) (BytesDown b) w f = f
down_follows_rest (BytesDown a) CloseDown w f = f
down_follows_rest CloseDown OtherDown w f = refl
down_follows_rest CloseDown (BytesDown b) w f = absurd cc
down_follows_rest CloseDown CloseDown w f = absurd cc

down_first : (i : DownItem) → down_before i no_down ≡ true
down_first OtherDown = refl
down_first (BytesDown b) = refl
down_first CloseDown = refl

-- the first of a list in order stands before the rest, and the rest is in order
pub down_order_first : {A : Type 0} (item : A → DownItem) (p : A) (ps : List A) → down_ordered item (p ∷ ps) ≡ true → down_before (item p) (down_of item ps) ≡ true
down_order_first item p ps h = (two (down_before (item p) (down_of item ps)) (down_ordered item ps) h).0

pub down_order_rest : {A : Type 0} (item : A → DownItem) (p : A) (ps : List A) → down_ordered item (p ∷ ps) ≡ true → down_ordered item ps ≡ true
down_order_rest item p ps h = (two (down_before (item p) (down_of item ps)) (down_ordered item ps) h).1

-- one packet more at the end
pub down_order_append : {A : Type 0} (item : A → DownItem) (ps : List A) (p : A) → down_ordered item ps ≡ true → down_follows (down_of item ps) (item p) ≡ true → down_ordered item (ps ++ p ∷ []) ≡ true
down_order_append item [] p h f = all_two (down_before (item p) no_down) true (down_first (item p)) refl
down_order_append item (q ∷ ps) p h f =
    all_two (down_before (item q) (down_of item (ps ++ p ∷ []))) (down_ordered item (ps ++ p ∷ []))
    (ap (down_before (item q)) (down_append item ps p) ∙ down_stays (item q) (item p) (down_of item ps) (down_order_first item q ps h) f)
    (down_order_append item ps p (down_order_rest item q ps h) (down_follows_rest (item q) (item p) (down_of item ps) f))

-- a list cut short
down_nothing_cut : (w : Downward) → IsCutDown no_down w
down_nothing_cut w = record { bytes = (w.bytes, refl); close = λ e. absurd cc; close_last = λ e. absurd cc }

down_cons_cut : (i : DownItem) (v w : Downward) → down_before i w ≡ true → IsCutDown v w → IsCutDown (down_cons i v) (down_cons i w)
down_cons_cut OtherDown v w g h = h
down_cons_cut (BytesDown b) v w g h = record { bytes = (h.bytes.0, append_assoc b v.bytes h.bytes.0 ∙ ap (λ x. b ++ x) h.bytes.1); close = h.close; close_last = λ e. ap (λ x. b ++ x) (h.close_last e) }
down_cons_cut CloseDown v w g h = record { bytes = h.bytes; close = λ e. refl; close_last = λ e. prefix_all v.bytes w.bytes h.bytes (two (is_empty w.bytes) (not w.close) g).0 }

pub down_prefix_cut : {A : Type 0} (item : A → DownItem) (ps qs : List A) → down_ordered item (ps ++ qs) ≡ true → IsCutDown (down_of item ps) (down_of item (ps ++ qs))
down_prefix_cut item [] qs h = down_nothing_cut (down_of item qs)
down_prefix_cut item (p ∷ ps) qs h = down_cons_cut (item p) (down_of item ps) (down_of item (ps ++ qs)) (down_order_first item p (ps ++ qs) h) (down_prefix_cut item ps qs (down_order_rest item p (ps ++ qs) h))

down_before_cut : (i : DownItem) (v w : Downward) → IsCutDown v w → down_before i w ≡ true → down_before i v ≡ true
down_before_cut OtherDown v w h g = refl
down_before_cut (BytesDown b) v w h g = refl
down_before_cut CloseDown v w h g =
    let all = two (is_empty w.bytes) (not w.close) g in
    all_two (is_empty v.bytes) (not v.close) (prefix_empty v.bytes w.bytes h.bytes all.0) (not_more v.close w.close h.close all.1)

pub down_prefix_ordered : {A : Type 0} (item : A → DownItem) (ps qs : List A) → down_ordered item (ps ++ qs) ≡ true → down_ordered item ps ≡ true
down_prefix_ordered item [] qs h = refl
down_prefix_ordered item (p ∷ ps) qs h =
    let rest = down_order_rest item p (ps ++ qs) h in
    all_two (down_before (item p) (down_of item ps)) (down_ordered item ps)
    (down_before_cut (item p) (down_of item ps) (down_of item (ps ++ qs)) (down_prefix_cut item ps qs rest) (down_order_first item p (ps ++ qs) h))
    (down_prefix_ordered item ps qs rest)
