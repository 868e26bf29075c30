-- A word with one packet more at the end of its list.
use Rattle.std.proofs.Common.{◌≡◌, ◌++◌, List, [], ◌∷◌, refl, sym, ap, ◌∙◌, append_assoc, append-nil}
use Rattle.kn_tunnel.specs.Steps.{no_down, no_in, no_out, no_up}
use Rattle.kn_tunnel.specs.Tunnel.{Downward, Inward, Outward, Upward}
use Rattle.kn_words.specs.Down.{BytesDown, CloseDown, DownItem, OtherDown, down_cons, down_of, down_snoc}
use Rattle.kn_words.specs.In.{BytesIn, CancelIn, CloseIn, InItem, OtherIn, RequestIn, in_cons, in_of, in_snoc}
use Rattle.kn_words.specs.Out.{BytesOut, CloseOut, OtherOut, OutItem, RefusalOut, ReplyOut, out_cons, out_of, out_snoc}
use Rattle.kn_words.specs.Up.{BytesUp, CloseUp, OtherUp, RefusalUp, ReplyUp, UpItem, up_cons, up_of, up_snoc}

-- an item before and one behind do not meet

pub up_meet : (i j : UpItem) (w : Upward) → up_cons i (up_snoc w j) ≡ up_snoc (up_cons i w) j
up_meet OtherUp j w = refl
up_meet RefusalUp OtherUp w = refl
up_meet RefusalUp RefusalUp w = refl
up_meet RefusalUp ReplyUp w = refl
up_meet RefusalUp (BytesUp b) w = refl
up_meet RefusalUp CloseUp w = refl
up_meet ReplyUp OtherUp w = refl
up_meet ReplyUp RefusalUp w = refl
up_meet ReplyUp ReplyUp w = refl
up_meet ReplyUp (BytesUp b) w = refl
up_meet ReplyUp CloseUp w = refl
up_meet (BytesUp a) OtherUp w = refl
up_meet (BytesUp a) RefusalUp w = refl
up_meet (BytesUp a) ReplyUp w = refl
up_meet (BytesUp a) (BytesUp b) w = ap (λ x. record w { bytes = x }) (sym (append_assoc a w.bytes b))
up_meet (BytesUp a) CloseUp w = refl
up_meet CloseUp OtherUp w = refl
up_meet CloseUp RefusalUp w = refl
up_meet CloseUp ReplyUp w = refl
up_meet CloseUp (BytesUp b) w = refl
up_meet CloseUp CloseUp w = refl

pub up_alone : (i : UpItem) → up_cons i no_up ≡ up_snoc no_up i
up_alone OtherUp = refl
up_alone RefusalUp = refl
up_alone ReplyUp = refl
up_alone (BytesUp b) = ap (λ x. record no_up { bytes = x }) (append-nil b)
up_alone CloseUp = refl

pub up_append : {A : Type 0} (item : A → UpItem) (ps : List A) (p : A) → up_of item (ps ++ p ∷ []) ≡ up_snoc (up_of item ps) (item p)
up_append item [] p = up_alone (item p)
up_append item (q ∷ ps) p = ap (up_cons (item q)) (up_append item ps p) ∙ up_meet (item q) (item p) (up_of item ps)

pub down_meet : (i j : DownItem) (w : Downward) → down_cons i (down_snoc w j) ≡ down_snoc (down_cons i w) j
down_meet OtherDown j w = refl
down_meet (BytesDown a) OtherDown w = refl
down_meet (BytesDown a) (BytesDown b) w = ap (λ x. record w { bytes = x }) (sym (append_assoc a w.bytes b))
down_meet (BytesDown a) CloseDown w = refl
down_meet CloseDown OtherDown w = refl
down_meet CloseDown (BytesDown b) w = refl
down_meet CloseDown CloseDown w = refl

pub down_alone : (i : DownItem) → down_cons i no_down ≡ down_snoc no_down i
down_alone OtherDown = refl
down_alone (BytesDown b) = ap (λ x. record no_down { bytes = x }) (append-nil b)
down_alone CloseDown = refl

pub down_append : {A : Type 0} (item : A → DownItem) (ps : List A) (p : A) → down_of item (ps ++ p ∷ []) ≡ down_snoc (down_of item ps) (item p)
down_append item [] p = down_alone (item p)
down_append item (q ∷ ps) p = ap (down_cons (item q)) (down_append item ps p) ∙ down_meet (item q) (item p) (down_of item ps)

pub in_meet : (i j : InItem) (w : Inward) → in_cons i (in_snoc w j) ≡ in_snoc (in_cons i w) j
in_meet OtherIn j w = refl
in_meet RequestIn OtherIn w = refl
in_meet RequestIn RequestIn w = refl
in_meet RequestIn CancelIn w = refl
in_meet RequestIn (BytesIn b) w = refl
in_meet RequestIn CloseIn w = refl
in_meet CancelIn OtherIn w = refl
in_meet CancelIn RequestIn w = refl
in_meet CancelIn CancelIn w = refl
in_meet CancelIn (BytesIn b) w = refl
in_meet CancelIn CloseIn w = refl
in_meet (BytesIn a) OtherIn w = refl
in_meet (BytesIn a) RequestIn w = refl
in_meet (BytesIn a) CancelIn w = refl
in_meet (BytesIn a) (BytesIn b) w = ap (λ x. record w { bytes = x }) (sym (append_assoc a w.bytes b))
in_meet (BytesIn a) CloseIn w = refl
in_meet CloseIn OtherIn w = refl
in_meet CloseIn RequestIn w = refl
in_meet CloseIn CancelIn w = refl
in_meet CloseIn (BytesIn b) w = refl
in_meet CloseIn CloseIn w = refl

pub in_alone : (i : InItem) → in_cons i no_in ≡ in_snoc no_in i
in_alone OtherIn = refl
in_alone RequestIn = refl
in_alone CancelIn = refl
in_alone (BytesIn b) = ap (λ x. record no_in { bytes = x }) (append-nil b)
in_alone CloseIn = refl

pub in_append : {A : Type 0} (item : A → InItem) (ps : List A) (p : A) → in_of item (ps ++ p ∷ []) ≡ in_snoc (in_of item ps) (item p)
in_append item [] p = in_alone (item p)
in_append item (q ∷ ps) p = ap (in_cons (item q)) (in_append item ps p) ∙ in_meet (item q) (item p) (in_of item ps)

pub out_meet : (i j : OutItem) (w : Outward) → out_cons i (out_snoc w j) ≡ out_snoc (out_cons i w) j
out_meet OtherOut j w = refl
out_meet RefusalOut OtherOut w = refl
out_meet RefusalOut RefusalOut w = refl
out_meet RefusalOut ReplyOut w = refl
out_meet RefusalOut (BytesOut b) w = refl
out_meet RefusalOut CloseOut w = refl
out_meet ReplyOut OtherOut w = refl
out_meet ReplyOut RefusalOut w = refl
out_meet ReplyOut ReplyOut w = refl
out_meet ReplyOut (BytesOut b) w = refl
out_meet ReplyOut CloseOut w = refl
out_meet (BytesOut a) OtherOut w = refl
out_meet (BytesOut a) RefusalOut w = refl
out_meet (BytesOut a) ReplyOut w = refl
out_meet (BytesOut a) (BytesOut b) w = ap (λ x. record w { bytes = x }) (sym (append_assoc a w.bytes b))
out_meet (BytesOut a) CloseOut w = refl
out_meet CloseOut OtherOut w = refl
out_meet CloseOut RefusalOut w = refl
out_meet CloseOut ReplyOut w = refl
out_meet CloseOut (BytesOut b) w = refl
out_meet CloseOut CloseOut w = refl

pub out_alone : (i : OutItem) → out_cons i no_out ≡ out_snoc no_out i
out_alone OtherOut = refl
out_alone RefusalOut = refl
out_alone ReplyOut = refl
out_alone (BytesOut b) = ap (λ x. record no_out { bytes = x }) (append-nil b)
out_alone CloseOut = refl

pub out_append : {A : Type 0} (item : A → OutItem) (ps : List A) (p : A) → out_of item (ps ++ p ∷ []) ≡ out_snoc (out_of item ps) (item p)
out_append item [] p = out_alone (item p)
out_append item (q ∷ ps) p = ap (out_cons (item q)) (out_append item ps p) ∙ out_meet (item q) (item p) (out_of item ps)
