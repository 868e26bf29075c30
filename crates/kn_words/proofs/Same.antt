-- Two keys to which each packet of a list is the same have the same word of it; a key to which all are others' has the empty one.
use Rattle.std.proofs.Common.{◌≡◌, List, [], ◌∷◌, refl}
use Rattle.std.specs.List.{AllByRecursion}
use Rattle.kn_tunnel.specs.Steps.{no_down, no_in, no_out, no_up}
use Rattle.kn_words.specs.Down.{DownItem, OtherDown, down_of, down_ordered}
use Rattle.kn_words.specs.In.{InItem, OtherIn, in_of, in_ordered}
use Rattle.kn_words.specs.Out.{OtherOut, OutItem, out_of, out_ordered}
use Rattle.kn_words.specs.Up.{OtherUp, UpItem, up_of, up_ordered}

pub up_same : {A : Type 0} (f g : A → UpItem) (ps : List A) → AllByRecursion (λ p. f p ≡ g p) ps → up_of f ps ≡ up_of g ps
up_same f g [] h = refl
up_same f g (p ∷ ps) h = rw (h.0, up_same f g ps h.1) refl

pub up_order_same : {A : Type 0} (f g : A → UpItem) (ps : List A) → AllByRecursion (λ p. f p ≡ g p) ps → up_ordered f ps ≡ up_ordered g ps
up_order_same f g [] h = refl
up_order_same f g (p ∷ ps) h = rw (h.0, up_same f g ps h.1, up_order_same f g ps h.1) refl

pub up_none : {A : Type 0} (f : A → UpItem) (ps : List A) → AllByRecursion (λ p. f p ≡ OtherUp) ps → up_of f ps ≡ no_up
up_none f [] h = refl
up_none f (p ∷ ps) h = rw (h.0) (up_none f ps h.1)

pub down_same : {A : Type 0} (f g : A → DownItem) (ps : List A) → AllByRecursion (λ p. f p ≡ g p) ps → down_of f ps ≡ down_of g ps
down_same f g [] h = refl
down_same f g (p ∷ ps) h = rw (h.0, down_same f g ps h.1) refl

pub down_order_same : {A : Type 0} (f g : A → DownItem) (ps : List A) → AllByRecursion (λ p. f p ≡ g p) ps → down_ordered f ps ≡ down_ordered g ps
down_order_same f g [] h = refl
down_order_same f g (p ∷ ps) h = rw (h.0, down_same f g ps h.1, down_order_same f g ps h.1) refl

pub down_none : {A : Type 0} (f : A → DownItem) (ps : List A) → AllByRecursion (λ p. f p ≡ OtherDown) ps → down_of f ps ≡ no_down
down_none f [] h = refl
down_none f (p ∷ ps) h = rw (h.0) (down_none f ps h.1)

pub in_same : {A : Type 0} (f g : A → InItem) (ps : List A) → AllByRecursion (λ p. f p ≡ g p) ps → in_of f ps ≡ in_of g ps
in_same f g [] h = refl
in_same f g (p ∷ ps) h = rw (h.0, in_same f g ps h.1) refl

pub in_order_same : {A : Type 0} (f g : A → InItem) (ps : List A) → AllByRecursion (λ p. f p ≡ g p) ps → in_ordered f ps ≡ in_ordered g ps
in_order_same f g [] h = refl
in_order_same f g (p ∷ ps) h = rw (h.0, in_same f g ps h.1, in_order_same f g ps h.1) refl

pub in_none : {A : Type 0} (f : A → InItem) (ps : List A) → AllByRecursion (λ p. f p ≡ OtherIn) ps → in_of f ps ≡ no_in
in_none f [] h = refl
in_none f (p ∷ ps) h = rw (h.0) (in_none f ps h.1)

pub out_same : {A : Type 0} (f g : A → OutItem) (ps : List A) → AllByRecursion (λ p. f p ≡ g p) ps → out_of f ps ≡ out_of g ps
out_same f g [] h = refl
out_same f g (p ∷ ps) h = rw (h.0, out_same f g ps h.1) refl

pub out_order_same : {A : Type 0} (f g : A → OutItem) (ps : List A) → AllByRecursion (λ p. f p ≡ g p) ps → out_ordered f ps ≡ out_ordered g ps
out_order_same f g [] h = refl
out_order_same f g (p ∷ ps) h = rw (h.0, out_same f g ps h.1, out_order_same f g ps h.1) refl

pub out_none : {A : Type 0} (f : A → OutItem) (ps : List A) → AllByRecursion (λ p. f p ≡ OtherOut) ps → out_of f ps ≡ no_out
out_none f [] h = refl
out_none f (p ∷ ps) h = rw (h.0) (out_none f ps h.1)
