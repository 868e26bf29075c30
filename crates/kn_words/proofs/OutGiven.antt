-- What many entries put into one list to an app's stream: the word of a tunnel gets what its own entries give, and of the others nothing.
use Rattle.std.proofs.Common.{◌≡◌, ◌++◌, Bool, true, false, cond, List, [], ◌∷◌, filter, refl, sym, ap, ◌∙◌, append_assoc, append-nil, subst}
use Rattle.std.specs.List.{AllByRecursion}
use Rattle.kn_tunnel.specs.Tunnel.{Outward}
use Rattle.kn_words.specs.Given.{all_given}
use Rattle.kn_words.specs.Out.{OtherOut, OutItem, out_follows, out_join, out_of, out_ordered, out_snoc}
use Rattle.kn_words.proofs.Ends.{out_append}
use Rattle.kn_words.proofs.Joins.{out_before_none, out_join_none, out_joined}
use Rattle.kn_words.proofs.OutOrder.{out_order_append}
use Rattle.kn_words.proofs.Same.{out_none}

-- the entries of other tunnels give nothing of this one
abbrev pub OutOthers : {E : Type 0} → {A : Type 0} → (A → OutItem) → (E → List A) → (E → Bool) → Type 0
OutOthers {E = E} item give own = (e : E) → own e ≡ false → AllByRecursion (λ p. item p ≡ OtherOut) (give e)

-- only what the own entries give counts
pub out_own : {E : Type 0} {A : Type 0} (item : A → OutItem) (give : E → List A) (own : E → Bool) → OutOthers item give own → (es : List E)
    → out_of item (all_given give es) ≡ out_of item (all_given give (filter own es))
out_own item give own others [] = refl
out_own item give own others (e ∷ es) = here (own e) refl (out_own item give own others es)
  where
    here : (b : Bool) → own e ≡ b → out_of item (all_given give es) ≡ out_of item (all_given give (filter own es))
        → out_of item (give e ++ all_given give es) ≡ out_of item (all_given give (cond b (e ∷ filter own es) (filter own es)))
    here true t rest = out_joined item (give e) (all_given give es) ∙ ap (out_join (out_of item (give e))) rest ∙ sym (out_joined item (give e) (all_given give (filter own es)))
    here false t rest = out_joined item (give e) (all_given give es) ∙ rw (out_none item (give e) (others e t)) (sym (out_before_none (out_of item (all_given give es))) ∙ rest)

-- no own entry: the word stays
pub out_none_queued : {E : Type 0} {A : Type 0} (item : A → OutItem) (give : E → List A) (own : E → Bool) → OutOthers item give own → (ps : List A) (es : List E)
    → filter own es ≡ [] → out_of item (ps ++ all_given give es) ≡ out_of item ps
out_none_queued item give own others ps es none =
    out_joined item ps (all_given give es)
    ∙ ap (out_join (out_of item ps)) (out_own item give own others es ∙ ap (λ xs. out_of item (all_given give xs)) none)
    ∙ out_join_none (out_of item ps)

-- one own entry: the word gets what it gives, once
pub out_own_queued : {E : Type 0} {A : Type 0} (item : A → OutItem) (give : E → List A) (own : E → Bool) → OutOthers item give own → (ps : List A) (es : List E) (h : E)
    → filter own es ≡ h ∷ [] → out_of item (ps ++ all_given give es) ≡ out_of item (ps ++ give h)
out_own_queued item give own others ps es h once =
    out_joined item ps (all_given give es)
    ∙ ap (out_join (out_of item ps)) (out_own item give own others es ∙ ap (λ xs. out_of item (all_given give xs)) once ∙ ap (out_of item) (append-nil (give h)))
    ∙ sym (out_joined item ps (give h))

-- each packet may follow the word of those before it
abbrev pub OutFollow : {A : Type 0} → (A → OutItem) → Outward → List A → Type 0
OutFollow item w [] = Unit {0}
OutFollow item w (q ∷ qs) = (out_follows w (item q) ≡ true) × OutFollow item (out_snoc w (item q)) qs

pub out_order_follow : {A : Type 0} (item : A → OutItem) (ps qs : List A) → out_ordered item ps ≡ true → OutFollow item (out_of item ps) qs → out_ordered item (ps ++ qs) ≡ true
out_order_follow item ps [] h f = ap (out_ordered item) (append-nil ps) ∙ h
out_order_follow item ps (q ∷ qs) h f =
    ap (out_ordered item) (sym (append_assoc ps (q ∷ []) qs))
    ∙ out_order_follow item (ps ++ q ∷ []) qs (out_order_append item ps q h f.0) (subst (λ w. OutFollow item w qs) (sym (out_append item ps q)) f.1)

out_skip : {A : Type 0} (item : A → OutItem) (w : Outward) (qs rs : List A) → AllByRecursion (λ p. item p ≡ OtherOut) qs → OutFollow item w rs → OutFollow item w (qs ++ rs)
out_skip item w [] rs h f = f
out_skip item w (q ∷ qs) rs h f = rw (h.0) (refl, out_skip item w qs rs h.1 f)

out_none_follow : {E : Type 0} {A : Type 0} (item : A → OutItem) (give : E → List A) (own : E → Bool) → OutOthers item give own → (w : Outward) (es : List E)
    → filter own es ≡ [] → OutFollow item w (all_given give es)
out_none_follow item give own others w [] none = tt
out_none_follow item give own others w (e ∷ es) none = here (own e) refl none (λ n. out_none_follow item give own others w es n)
  where
    here : (b : Bool) → own e ≡ b → cond b (e ∷ filter own es) (filter own es) ≡ [] → (filter own es ≡ [] → OutFollow item w (all_given give es)) → OutFollow item w (give e ++ all_given give es)
    here true t n rest = absurd cc
    here false t n rest = out_skip item w (give e) (all_given give es) (others e t) (rest n)

out_follow_then : {A : Type 0} (item : A → OutItem) (w : Outward) (qs rs : List A) → OutFollow item w qs → ((v : Outward) → OutFollow item v rs) → OutFollow item w (qs ++ rs)
out_follow_then item w [] rs f g = g w
out_follow_then item w (q ∷ qs) rs f g = (f.0, out_follow_then item (out_snoc w (item q)) qs rs f.1 g)

out_own_follow : {E : Type 0} {A : Type 0} (item : A → OutItem) (give : E → List A) (own : E → Bool) → OutOthers item give own → (w : Outward) (es : List E) (h : E)
    → filter own es ≡ h ∷ [] → OutFollow item w (give h) → OutFollow item w (all_given give es)
out_own_follow item give own others w [] h once f = absurd cc
out_own_follow item give own others w (e ∷ es) h once f = here (own e) refl once (λ n. out_own_follow item give own others w es h n f)
  where
    here : (b : Bool) → own e ≡ b → cond b (e ∷ filter own es) (filter own es) ≡ h ∷ [] → (filter own es ≡ h ∷ [] → OutFollow item w (all_given give es)) → OutFollow item w (give e ++ all_given give es)
    here true t n rest =
        let same : h ≡ e = cc in let none : filter own es ≡ [] = cc in
        out_follow_then item w (give e) (all_given give es) (subst (λ x. OutFollow item w (give x)) same f) (λ v. out_none_follow item give own others v es none)
    here false t n rest = out_skip item w (give e) (all_given give es) (others e t) (rest n)

-- the order is kept
pub out_none_ordered : {E : Type 0} {A : Type 0} (item : A → OutItem) (give : E → List A) (own : E → Bool) → OutOthers item give own → (ps : List A) (es : List E)
    → filter own es ≡ [] → out_ordered item ps ≡ true → out_ordered item (ps ++ all_given give es) ≡ true
out_none_ordered item give own others ps es none h = out_order_follow item ps (all_given give es) h (out_none_follow item give own others (out_of item ps) es none)

pub out_own_ordered : {E : Type 0} {A : Type 0} (item : A → OutItem) (give : E → List A) (own : E → Bool) → OutOthers item give own → (ps : List A) (es : List E) (h : E)
    → filter own es ≡ h ∷ [] → out_ordered item ps ≡ true → OutFollow item (out_of item ps) (give h) → out_ordered item (ps ++ all_given give es) ≡ true
out_own_ordered item give own others ps es h once o f = out_order_follow item ps (all_given give es) o (out_own_follow item give own others (out_of item ps) es h once f)
