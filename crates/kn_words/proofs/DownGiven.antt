-- What many entries put into one list to an agent: the word of a tunnel gets what its own entries give, and of the others nothing.
use Rattle.std.proofs.Common.{◌≡◌, ◌++◌, Bool, true, false, cond, List, [], ◌∷◌, filter, refl, sym, ap, ◌∙◌, append_assoc, append-nil, subst}
use Rattle.std.specs.List.{AllByRecursion}
use Rattle.kn_tunnel.specs.Tunnel.{Downward}
use Rattle.kn_words.specs.Given.{all_given}
use Rattle.kn_words.specs.Down.{OtherDown, DownItem, down_follows, down_join, down_of, down_ordered, down_snoc}
use Rattle.kn_words.proofs.Ends.{down_append}
use Rattle.kn_words.proofs.Joins.{down_before_none, down_join_none, down_joined}
use Rattle.kn_words.proofs.DownOrder.{down_order_append}
use Rattle.kn_words.proofs.Same.{down_none}

-- the entries of other tunnels give nothing of this one
abbrev pub DownOthers : {E : Type 0} → {A : Type 0} → (A → DownItem) → (E → List A) → (E → Bool) → Type 0
DownOthers {E = E} item give own = (e : E) → own e ≡ false → AllByRecursion (λ p. item p ≡ OtherDown) (give e)

-- only what the own entries give counts
pub down_own : {E : Type 0} {A : Type 0} (item : A → DownItem) (give : E → List A) (own : E → Bool) → DownOthers item give own → (es : List E)
    → down_of item (all_given give es) ≡ down_of item (all_given give (filter own es))
down_own item give own others [] = refl
down_own item give own others (e ∷ es) = here (own e) refl (down_own item give own others es)
  where
    here : (b : Bool) → own e ≡ b → down_of item (all_given give es) ≡ down_of item (all_given give (filter own es))
        → down_of item (give e ++ all_given give es) ≡ down_of item (all_given give (cond b (e ∷ filter own es) (filter own es)))
    here true t rest = down_joined item (give e) (all_given give es) ∙ ap (down_join (down_of item (give e))) rest ∙ sym (down_joined item (give e) (all_given give (filter own es)))
    here false t rest = down_joined item (give e) (all_given give es) ∙ rw (down_none item (give e) (others e t)) (sym (down_before_none (down_of item (all_given give es))) ∙ rest)

-- no own entry: the word stays
pub down_none_queued : {E : Type 0} {A : Type 0} (item : A → DownItem) (give : E → List A) (own : E → Bool) → DownOthers item give own → (ps : List A) (es : List E)
    → filter own es ≡ [] → down_of item (ps ++ all_given give es) ≡ down_of item ps
down_none_queued item give own others ps es none =
    down_joined item ps (all_given give es)
    ∙ ap (down_join (down_of item ps)) (down_own item give own others es ∙ ap (λ xs. down_of item (all_given give xs)) none)
    ∙ down_join_none (down_of item ps)

-- one own entry: the word gets what it gives, once
pub down_own_queued : {E : Type 0} {A : Type 0} (item : A → DownItem) (give : E → List A) (own : E → Bool) → DownOthers item give own → (ps : List A) (es : List E) (h : E)
    → filter own es ≡ h ∷ [] → down_of item (ps ++ all_given give es) ≡ down_of item (ps ++ give h)
down_own_queued item give own others ps es h once =
    down_joined item ps (all_given give es)
    ∙ ap (down_join (down_of item ps)) (down_own item give own others es ∙ ap (λ xs. down_of item (all_given give xs)) once ∙ ap (down_of item) (append-nil (give h)))
    ∙ sym (down_joined item ps (give h))

-- each packet may follow the word of those before it
abbrev pub DownFollow : {A : Type 0} → (A → DownItem) → Downward → List A → Type 0
DownFollow item w [] = Unit {0}
DownFollow item w (q ∷ qs) = (down_follows w (item q) ≡ true) × DownFollow item (down_snoc w (item q)) qs

pub down_order_follow : {A : Type 0} (item : A → DownItem) (ps qs : List A) → down_ordered item ps ≡ true → DownFollow item (down_of item ps) qs → down_ordered item (ps ++ qs) ≡ true
down_order_follow item ps [] h f = ap (down_ordered item) (append-nil ps) ∙ h
down_order_follow item ps (q ∷ qs) h f =
    ap (down_ordered item) (sym (append_assoc ps (q ∷ []) qs))
    ∙ down_order_follow item (ps ++ q ∷ []) qs (down_order_append item ps q h f.0) (subst (λ w. DownFollow item w qs) (sym (down_append item ps q)) f.1)

down_skip : {A : Type 0} (item : A → DownItem) (w : Downward) (qs rs : List A) → AllByRecursion (λ p. item p ≡ OtherDown) qs → DownFollow item w rs → DownFollow item w (qs ++ rs)
down_skip item w [] rs h f = f
down_skip item w (q ∷ qs) rs h f = rw (h.0) (refl, down_skip item w qs rs h.1 f)

down_none_follow : {E : Type 0} {A : Type 0} (item : A → DownItem) (give : E → List A) (own : E → Bool) → DownOthers item give own → (w : Downward) (es : List E)
    → filter own es ≡ [] → DownFollow item w (all_given give es)
down_none_follow item give own others w [] none = tt
down_none_follow item give own others w (e ∷ es) none = here (own e) refl none (λ n. down_none_follow item give own others w es n)
  where
    here : (b : Bool) → own e ≡ b → cond b (e ∷ filter own es) (filter own es) ≡ [] → (filter own es ≡ [] → DownFollow item w (all_given give es)) → DownFollow item w (give e ++ all_given give es)
    here true t n rest = absurd cc
    here false t n rest = down_skip item w (give e) (all_given give es) (others e t) (rest n)

down_follow_then : {A : Type 0} (item : A → DownItem) (w : Downward) (qs rs : List A) → DownFollow item w qs → ((v : Downward) → DownFollow item v rs) → DownFollow item w (qs ++ rs)
down_follow_then item w [] rs f g = g w
down_follow_then item w (q ∷ qs) rs f g = (f.0, down_follow_then item (down_snoc w (item q)) qs rs f.1 g)

down_own_follow : {E : Type 0} {A : Type 0} (item : A → DownItem) (give : E → List A) (own : E → Bool) → DownOthers item give own → (w : Downward) (es : List E) (h : E)
    → filter own es ≡ h ∷ [] → DownFollow item w (give h) → DownFollow item w (all_given give es)
down_own_follow item give own others w [] h once f = absurd cc
down_own_follow item give own others w (e ∷ es) h once f = here (own e) refl once (λ n. down_own_follow item give own others w es h n f)
  where
    here : (b : Bool) → own e ≡ b → cond b (e ∷ filter own es) (filter own es) ≡ h ∷ [] → (filter own es ≡ h ∷ [] → DownFollow item w (all_given give es)) → DownFollow item w (give e ++ all_given give es)
    here true t n rest =
        let same : h ≡ e = cc in let none : filter own es ≡ [] = cc in
        down_follow_then item w (give e) (all_given give es) (subst (λ x. DownFollow item w (give x)) same f) (λ v. down_none_follow item give own others v es none)
    here false t n rest = down_skip item w (give e) (all_given give es) (others e t) (rest n)

-- the order is kept
pub down_none_ordered : {E : Type 0} {A : Type 0} (item : A → DownItem) (give : E → List A) (own : E → Bool) → DownOthers item give own → (ps : List A) (es : List E)
    → filter own es ≡ [] → down_ordered item ps ≡ true → down_ordered item (ps ++ all_given give es) ≡ true
down_none_ordered item give own others ps es none h = down_order_follow item ps (all_given give es) h (down_none_follow item give own others (down_of item ps) es none)

pub down_own_ordered : {E : Type 0} {A : Type 0} (item : A → DownItem) (give : E → List A) (own : E → Bool) → DownOthers item give own → (ps : List A) (es : List E) (h : E)
    → filter own es ≡ h ∷ [] → down_ordered item ps ≡ true → DownFollow item (down_of item ps) (give h) → down_ordered item (ps ++ all_given give es) ≡ true
down_own_ordered item give own others ps es h once o f = down_order_follow item ps (all_given give es) o (down_own_follow item give own others (down_of item ps) es h once f)
