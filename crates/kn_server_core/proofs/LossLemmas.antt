-- The loops over the entries of a link or a front that is lost.
use Rattle.std.proofs.Common.{◌≡◌, ℕ, ℤ, ◌<◌, Bool, true, false, not, cond, eqb, ◌&&◌, List, [], ◌∷◌, ◌++◌, map, filter, length, Some, None, refl, sym, ap, ◌∙◌, subst, arith, append_assoc, append-nil}
use Rattle.std.specs.Option.{IsSome}
use Rattle.std.specs.Ordering.{int_eq, int_cmp, is_lt}
use Rattle.std.proofs.lemmas.Cmp.{tied_itself, int_cmp_total}
use Rattle.std.proofs.lemmas.Bool.Decides.{Decides-eqb, Decides-int_eq}
use Rattle.kn_tables.specs.declared.held_entry.HeldEntry.{HeldEntry}
use Rattle.kn_tables.specs.Lists.{first_where, without, IsRising, AreAbove}
use Rattle.kn_tables.specs.Holding.{is_held, is_held_on, is_held_by, closed_at, by_connect_id, in_order, first_of, AreApart}
use Rattle.kn_server_core.specs.Server.{front_left}

pub above_found : {E : Type 0} (number : E → ℕ) (p : E → Bool) (n : ℕ) (e : E) (xs : List E) → AreAbove number n xs → first_where p xs ≡ Some e → n < number e
above_found number p n e [] a h = absurd cc
above_found number p n e (x ∷ xs) a h = above_here (p x) h (λ l. above_found number p n e xs a.1 l)
  where
    above_here : (b : Bool) → cond b (Some x) (first_where p xs) ≡ Some e → (first_where p xs ≡ Some e → n < number e) → n < number e
    above_here true h later = let m : x ≡ e = cc in subst (λ z. n < number z) m a.0
    above_here false h later = later h

pub not_equal : (a b : ℕ) → a < b → eqb a b ≡ false
not_equal a b l = not_here (eqb a b) refl
  where
    not_here : (c : Bool) → eqb a b ≡ c → c ≡ false
    not_here true h = let m : a ≡ b = (Decides-eqb a b).0 h in absurd (omega arith)
    not_here false h = refl

-- the entries of a kind begin with the first of them, and the others stay
pub first_of_kind : {E : Type 0} (number : E → ℕ) (p : E → Bool) (e : E) (xs : List E) → IsRising number xs → first_where p xs ≡ Some e
    → filter p xs ≡ e ∷ filter p (without (λ x. eqb (number x) (number e)) xs)
first_of_kind number p e [] r h = absurd cc
first_of_kind number p e (x ∷ xs) r h = kind_here (p x) refl h (λ l. first_of_kind number p e xs r.1 l)
  where
    kind_here : (b : Bool) → p x ≡ b → cond b (Some x) (first_where p xs) ≡ Some e → (first_where p xs ≡ Some e → filter p xs ≡ e ∷ filter p (without (λ y. eqb (number y) (number e)) xs))
        → filter p (x ∷ xs) ≡ e ∷ filter p (without (λ y. eqb (number y) (number e)) (x ∷ xs))
    kind_here true i h later =
        let m : x ≡ e = cc in
        let t : eqb (number x) (number e) ≡ true = (Decides-eqb (number x) (number e)).1 (ap number m) in
        rw (i, t) (ap (λ y. y ∷ filter p xs) m)
    kind_here false i h later =
        let t : eqb (number x) (number e) ≡ false = not_equal (number x) (number e) (above_found number p (number x) e xs r.0 h) in
        rw (i, t) (rw i (later h))

pub others_kept : {E : Type 0} (p r : E → Bool) (xs : List E) → ((x : E) → r x ≡ true → p x ≡ true) → filter (λ x. not (p x)) (without r xs) ≡ filter (λ x. not (p x)) xs
others_kept p r [] h = refl
others_kept p r (x ∷ xs) h = kept_here (r x) (p x) refl refl (others_kept p r xs h)
  where
    kept_here : (b c : Bool) → r x ≡ b → p x ≡ c → filter (λ y. not (p y)) (without r xs) ≡ filter (λ y. not (p y)) xs → filter (λ y. not (p y)) (cond b xs (x ∷ without r xs)) ≡ filter (λ y. not (p y)) (x ∷ xs)
    kept_here true true i j later = rw j refl
    kept_here true false i j later = let z = h x i in absurd cc
    kept_here false true i j later = rw j later
    kept_here false false i j later = rw j (ap (λ l. x ∷ l) later)

pub none_of_kind : {E : Type 0} (p : E → Bool) (xs : List E) → first_where p xs ≡ None → (filter p xs ≡ []) × (filter (λ x. not (p x)) xs ≡ xs)
none_of_kind p [] h = (refl, refl)
none_of_kind p (x ∷ xs) h = none_here (p x) refl h (λ l. none_of_kind p xs l)
  where
    none_here : (b : Bool) → p x ≡ b → cond b (Some x) (first_where p xs) ≡ None → (first_where p xs ≡ None → (filter p xs ≡ []) × (filter (λ y. not (p y)) xs ≡ xs)) → (filter p (x ∷ xs) ≡ []) × (filter (λ y. not (p y)) (x ∷ xs) ≡ x ∷ xs)
    none_here true i h later = absurd cc
    none_here false i h later = let m = later h in (rw i m.0, rw i (ap (λ l. x ∷ l) m.1))

pub is_shorter : {E : Type 0} (r : E → Bool) (xs : List E) → IsSome (first_where r xs) → length (without r xs) < length xs
is_shorter r [] h = absurd cc
is_shorter r (x ∷ xs) h = shorter_here (r x) h (λ l. is_shorter r xs l)
  where
    shorter_here : (b : Bool) → IsSome (cond b (Some x) (first_where r xs)) → (IsSome (first_where r xs) → length (without r xs) < length xs) → length (cond b xs (x ∷ without r xs)) < length (x ∷ xs)
    shorter_here true h later = omega arith
    shorter_here false h later = let l = later h in omega arith

-- outputs in order: one more was given, and as many are left
pub told_more : {X : Type 0} (outs next rest later start : List X) (o : X) → next ≡ outs ++ o ∷ [] → rest ≡ o ∷ later → outs ++ rest ≡ start → next ++ later ≡ start
told_more outs next rest later start o n r h = rw n (append_assoc outs (o ∷ []) later ∙ ap (λ l. outs ++ l) (sym r) ∙ h)

pub told_some : {X : Type 0} (outs next rest later start some : List X) → next ≡ outs ++ some → rest ≡ some ++ later → outs ++ rest ≡ start → next ++ later ≡ start
told_some outs next rest later start some n r h = rw n (append_assoc outs some later ∙ ap (λ l. outs ++ l) (sym r) ∙ h)

-- ---- the tunnels of a link by rising connectID
int_other : (x y : ℤ) → is_lt (int_cmp y x) ≡ true → int_eq x y ≡ false
int_other x y h = other_if (int_eq x y) refl
  where
    other_if : (b : Bool) → int_eq x y ≡ b → b ≡ false
    other_if true i =
        let m : x ≡ y = (Decides-int_eq x y).0 i in
        let z : is_lt (int_cmp y y) ≡ true = subst (λ w. is_lt (int_cmp y w) ≡ true) m h in
        let t = tied_itself int_cmp_total y in
        absurd (let u : is_lt (int_cmp y y) ≡ false = rw t refl in cc)
    other_if false i = refl

int_same : (x : ℤ) → int_eq x x ≡ true
int_same x = (Decides-int_eq x x).1 refl

tail_same : (y e : HeldEntry) (ys zs : List HeldEntry) → y ∷ ys ≡ e ∷ zs → ys ≡ zs
tail_same y e ys zs h = cc

pub sort_first : (e : HeldEntry) (zs : List HeldEntry) → first_of (by_connect_id zs) ≡ Some e → by_connect_id zs ≡ e ∷ by_connect_id (without (λ z. int_eq z.connect_id e.connect_id) zs)
sort_first e [] h = absurd cc
sort_first e (x ∷ xs) h = sort_more (by_connect_id xs) refl h
    (λ l. sort_first e xs l)
  where
    sort_more : (ys : List HeldEntry) → by_connect_id xs ≡ ys → first_of (in_order x ys) ≡ Some e
        → (first_of (by_connect_id xs) ≡ Some e → by_connect_id xs ≡ e ∷ by_connect_id (without (λ z. int_eq z.connect_id e.connect_id) xs))
        → in_order x ys ≡ e ∷ by_connect_id (without (λ z. int_eq z.connect_id e.connect_id) (x ∷ xs))
    sort_more [] s h later = let m : x ≡ e = cc in let t : int_eq x.connect_id e.connect_id ≡ true = subst (λ w. int_eq x.connect_id w.connect_id ≡ true) m (int_same x.connect_id) in rw t (rw s (ap (λ w. w ∷ []) m))
    sort_more (y ∷ ys) s h later = sort_if (is_lt (int_cmp y.connect_id x.connect_id)) refl h
      where
        sort_if : (b : Bool) → is_lt (int_cmp y.connect_id x.connect_id) ≡ b → first_of (cond b (y ∷ in_order x ys) (x ∷ y ∷ ys)) ≡ Some e
            → cond b (y ∷ in_order x ys) (x ∷ y ∷ ys) ≡ e ∷ by_connect_id (without (λ z. int_eq z.connect_id e.connect_id) (x ∷ xs))
        sort_if true i h =
            let m : y ≡ e = cc in
            let f : first_of (by_connect_id xs) ≡ Some e = ap first_of s ∙ ap Some m in
            let l = later f in
            let t : int_eq x.connect_id e.connect_id ≡ false = subst (λ w. int_eq x.connect_id w.connect_id ≡ false) m (int_other x.connect_id y.connect_id i) in
            let tail : ys ≡ by_connect_id (without (λ z. int_eq z.connect_id e.connect_id) xs) = tail_same y e ys (by_connect_id (without (λ z. int_eq z.connect_id e.connect_id) xs)) (sym s ∙ l) in
            rw t (rw (← tail) (ap (λ w. w ∷ in_order x ys) m))
        sort_if false i h = let m : x ≡ e = cc in let t : int_eq x.connect_id e.connect_id ≡ true = subst (λ w. int_eq x.connect_id w.connect_id ≡ true) m (int_same x.connect_id) in rw t (rw s (ap (λ w. w ∷ y ∷ ys) m))

-- taking one connection of a link out, and then the link's entries
pub without_on : (link : ℕ) (connect_id : ℤ) (xs : List HeldEntry) → filter (is_held_on link) (without (is_held link connect_id) xs) ≡ without (λ z. int_eq z.connect_id connect_id) (filter (is_held_on link) xs)
without_on link connect_id [] = refl
without_on link connect_id (x ∷ xs) = on_here (eqb x.link link) (int_eq x.connect_id connect_id) refl refl (without_on link connect_id xs)
  where
    on_here : (b c : Bool) → eqb x.link link ≡ b → int_eq x.connect_id connect_id ≡ c
        → filter (is_held_on link) (without (is_held link connect_id) xs) ≡ without (λ z. int_eq z.connect_id connect_id) (filter (is_held_on link) xs)
        → filter (is_held_on link) (without (is_held link connect_id) (x ∷ xs)) ≡ without (λ z. int_eq z.connect_id connect_id) (filter (is_held_on link) (x ∷ xs))
    on_here true true i j h = rw (i, j) refl
    on_here true false i j h = rw (i, j) (rw i (ap (λ l. x ∷ l) h))
    on_here false c i j h = rw i (rw i h)

pub held_passes : (link : ℕ) (connect_id : ℤ) (x : HeldEntry) → is_held link connect_id x ≡ true → is_held_on link x ≡ true
held_passes link connect_id x h = on_if (eqb x.link link) refl h
  where
    on_if : (b : Bool) → eqb x.link link ≡ b → (b && int_eq x.connect_id connect_id) ≡ true → b ≡ true
    on_if true i h = refl
    on_if false i h = absurd cc

-- the tunnels of a link begin with the one of the least connectID
pub first_on : (link : ℕ) (e : HeldEntry) (xs : List HeldEntry) → first_of (by_connect_id (filter (is_held_on link) xs)) ≡ Some e
    → by_connect_id (filter (is_held_on link) xs) ≡ e ∷ by_connect_id (filter (is_held_on link) (without (is_held link e.connect_id) xs))
first_on link e xs h = sort_first e (filter (is_held_on link) xs) h ∙ ap (λ l. e ∷ by_connect_id l) (sym (without_on link e.connect_id xs))

pub none_on : (zs : List HeldEntry) → first_of (by_connect_id zs) ≡ None → zs ≡ []
none_on [] h = refl
none_on (x ∷ xs) h = absurd (none_in (by_connect_id xs) h)
  where
    none_in : (ys : List HeldEntry) → first_of (in_order x ys) ≡ None → ⊥
    none_in [] h = cc
    none_in (y ∷ ys) h = none_if (is_lt (int_cmp y.connect_id x.connect_id)) h
      where
        none_if : (b : Bool) → first_of (cond b (y ∷ in_order x ys) (x ∷ y ∷ ys)) ≡ None → ⊥
        none_if true h = cc
        none_if false h = cc

pub kind_others : {E : Type 0} (number : E → ℕ) (p : E → Bool) (e : E) (xs : List E) → IsRising number xs → first_where p xs ≡ Some e
    → filter (λ x. not (p x)) (without (λ x. eqb (number x) (number e)) xs) ≡ filter (λ x. not (p x)) xs
kind_others number p e [] r h = absurd cc
kind_others number p e (x ∷ xs) r h = others_here (p x) refl h (λ l. kind_others number p e xs r.1 l)
  where
    others_here : (b : Bool) → p x ≡ b → cond b (Some x) (first_where p xs) ≡ Some e
        → (first_where p xs ≡ Some e → filter (λ y. not (p y)) (without (λ y. eqb (number y) (number e)) xs) ≡ filter (λ y. not (p y)) xs)
        → filter (λ y. not (p y)) (without (λ y. eqb (number y) (number e)) (x ∷ xs)) ≡ filter (λ y. not (p y)) (x ∷ xs)
    others_here true i h later =
        let m : x ≡ e = cc in
        let t : eqb (number x) (number e) ≡ true = (Decides-eqb (number x) (number e)).1 (ap number m) in
        rw (t, i) refl
    others_here false i h later =
        let t : eqb (number x) (number e) ≡ false = not_equal (number x) (number e) (above_found number p (number x) e xs r.0 h) in
        rw t (rw i (ap (λ l. x ∷ l) (later h)))

pub shorter_by : {E : Type 0} (r : E → Bool) (ys xs : List E) → ys ≡ without r xs → IsSome (first_where r xs) → length ys < length xs
shorter_by r ys xs e h = rw e (is_shorter r xs h)

pub cons_shorter : {E : Type 0} (e : E) (ys xs : List E) → xs ≡ e ∷ ys → length ys < length xs
cons_shorter e ys xs h = rw h (omega arith)

pub told_none : {X : Type 0} (outs rest start : List X) → rest ≡ [] → outs ++ rest ≡ start → outs ≡ start
told_none outs rest start e h = sym (append-nil outs) ∙ ap (λ l. outs ++ l) (sym e) ∙ h

pub found_in_sort : (p r : HeldEntry → Bool) (e : HeldEntry) (xs : List HeldEntry) → r e ≡ true → first_of (by_connect_id (filter p xs)) ≡ Some e → IsSome (first_where r xs)
found_in_sort p r e [] t h = absurd cc
found_in_sort p r e (x ∷ xs) t h = found_here (r x) (p x) refl refl (λ l. found_in_sort p r e xs t l)
  where
    by_order : r x ≡ false → (ys : List HeldEntry) → first_of (in_order x ys) ≡ Some e → first_of ys ≡ Some e
    by_order n [] h = let m : x ≡ e = cc in absurd (let u : r e ≡ false = subst (λ z. r z ≡ false) m n in cc)
    by_order n (y ∷ ys) h = by_if (is_lt (int_cmp y.connect_id x.connect_id)) h
      where
        by_if : (b : Bool) → first_of (cond b (y ∷ in_order x ys) (x ∷ y ∷ ys)) ≡ Some e → first_of (y ∷ ys) ≡ Some e
        by_if true h = h
        by_if false h = let m : x ≡ e = cc in absurd (let u : r e ≡ false = subst (λ z. r z ≡ false) m n in cc)

    found_here : (b c : Bool) → r x ≡ b → p x ≡ c → (first_of (by_connect_id (filter p xs)) ≡ Some e → IsSome (first_where r xs)) → IsSome (cond b (Some x) (first_where r xs))
    found_here true c i j later = refl
    found_here false true i j later = later (by_order i (by_connect_id (filter p xs)) (rw j at h))
    found_here false false i j later = later (rw j at h)

both_same : (a f : ℕ) (x r : ℤ) → (eqb a f && int_eq x r) ≡ true → (a ≡ f) × (x ≡ r)
both_same a f x r h = both (eqb a f) (int_eq x r) refl refl h
  where
    both : (b c : Bool) → eqb a f ≡ b → int_eq x r ≡ c → (b && c) ≡ true → (a ≡ f) × (x ≡ r)
    both true true e i h = ((Decides-eqb a f).0 e, (Decides-int_eq x r).0 i)
    both true false e i h = absurd cc
    both false c e i h = absurd cc

same_both : (a f : ℕ) (x r : ℤ) → a ≡ f → x ≡ r → (eqb a f && int_eq x r) ≡ true
same_both a f x r e i = rw ((Decides-eqb a f).1 e, (Decides-int_eq x r).1 i) refl

-- ---- the tunnels of a front
pub same_held : (a b : HeldEntry) → is_held a.link a.connect_id b ≡ false → is_held b.link b.connect_id a ≡ false
same_held a b h = same_if (is_held b.link b.connect_id a) refl
  where
    same_if : (c : Bool) → is_held b.link b.connect_id a ≡ c → c ≡ false
    same_if true i = let m = both_same a.link b.link a.connect_id b.connect_id i in absurd (let u : is_held a.link a.connect_id b ≡ true = same_both b.link a.link b.connect_id a.connect_id (sym m.0) (sym m.1) in cc)
    same_if false i = refl

none_closed : (e : HeldEntry) (xs : List HeldEntry) → first_where (is_held e.link e.connect_id) xs ≡ None → map (closed_at e.link e.connect_id false) xs ≡ xs
none_closed e [] h = refl
none_closed e (x ∷ xs) h = none_here (is_held e.link e.connect_id x) refl h (λ l. none_closed e xs l)
  where
    none_here : (b : Bool) → is_held e.link e.connect_id x ≡ b → cond b (Some x) (first_where (is_held e.link e.connect_id) xs) ≡ None
        → (first_where (is_held e.link e.connect_id) xs ≡ None → map (closed_at e.link e.connect_id false) xs ≡ xs) → map (closed_at e.link e.connect_id false) (x ∷ xs) ≡ x ∷ xs
    none_here true i h later = absurd cc
    none_here false i h later = rw i (ap (λ l. x ∷ l) (later h))

-- an entry of the rest is another connection
pub other_held : (x e : HeldEntry) (p : HeldEntry → Bool) (xs : List HeldEntry) → first_where (is_held x.link x.connect_id) xs ≡ None → first_where p xs ≡ Some e → is_held x.link x.connect_id e ≡ false
other_held x e p [] a h = absurd cc
other_held x e p (y ∷ ys) a h = other_here (is_held x.link x.connect_id y) (p y) refl a h (λ k l. other_held x e p ys k l)
  where
    other_here : (b c : Bool) → is_held x.link x.connect_id y ≡ b → cond b (Some y) (first_where (is_held x.link x.connect_id) ys) ≡ None → cond c (Some y) (first_where p ys) ≡ Some e
        → (first_where (is_held x.link x.connect_id) ys ≡ None → first_where p ys ≡ Some e → is_held x.link x.connect_id e ≡ false) → is_held x.link x.connect_id e ≡ false
    other_here true c i a h later = absurd cc
    other_here false true i a h later = let m : y ≡ e = cc in subst (λ z. is_held x.link x.connect_id z ≡ false) m i
    other_here false false i a h later = later a h

pub front_step : (f : ℕ) (e : HeldEntry) (xs : List HeldEntry) → AreApart xs → first_where (is_held_by f) xs ≡ Some e
    → (filter (is_held_by f) xs ≡ e ∷ filter (is_held_by f) (map (closed_at e.link e.connect_id false) xs))
    × (map (front_left f) (map (closed_at e.link e.connect_id false) xs) ≡ map (front_left f) xs)
front_step f e [] a h = absurd cc
front_step f e (x ∷ xs) a h = step_here (is_held_by f x) refl h (λ l. front_step f e xs a.1 l)
  where
    step_here : (b : Bool) → is_held_by f x ≡ b → cond b (Some x) (first_where (is_held_by f) xs) ≡ Some e
        → (first_where (is_held_by f) xs ≡ Some e → (filter (is_held_by f) xs ≡ e ∷ filter (is_held_by f) (map (closed_at e.link e.connect_id false) xs)) × (map (front_left f) (map (closed_at e.link e.connect_id false) xs) ≡ map (front_left f) xs))
        → (filter (is_held_by f) (x ∷ xs) ≡ e ∷ filter (is_held_by f) (map (closed_at e.link e.connect_id false) (x ∷ xs)))
        × (map (front_left f) (map (closed_at e.link e.connect_id false) (x ∷ xs)) ≡ map (front_left f) (x ∷ xs))
    step_here true i h later =
        let m : x ≡ e = cc in
        let own = same_both x.link x.link x.connect_id x.connect_id refl refl in
        let first : (filter (is_held_by f) (x ∷ xs) ≡ x ∷ filter (is_held_by f) (map (closed_at x.link x.connect_id false) (x ∷ xs)))
        × (map (front_left f) (map (closed_at x.link x.connect_id false) (x ∷ xs)) ≡ map (front_left f) (x ∷ xs))
        = (rw (i, own, none_closed x xs a.0) refl, rw (i, own, none_closed x xs a.0) refl) in
        subst (λ z. (filter (is_held_by f) (x ∷ xs) ≡ z ∷ filter (is_held_by f) (map (closed_at z.link z.connect_id false) (x ∷ xs))) × (map (front_left f) (map (closed_at z.link z.connect_id false) (x ∷ xs)) ≡ map (front_left f) (x ∷ xs))) m first
    step_here false i h later =
        let n = same_held x e (other_held x e (is_held_by f) xs a.0 h) in
        let m = later h in
        (rw (n, i) (m.0), rw n (ap (λ l. front_left f x ∷ l) m.1))

pub kept_of_none : {E : Type 0} (p : E → Bool) (xs : List E) → filter p xs ≡ [] → filter (λ x. not (p x)) xs ≡ xs
kept_of_none p [] h = refl
kept_of_none p (x ∷ xs) h = kept_here (p x) refl (λ l. kept_of_none p xs l)
  where
    kept_here : (b : Bool) → p x ≡ b → (filter p xs ≡ [] → filter (λ y. not (p y)) xs ≡ xs) → filter (λ y. not (p y)) (x ∷ xs) ≡ x ∷ xs
    kept_here true i later = absurd (let z = rw i at h in cc)
    kept_here false i later = rw i (ap (λ l. x ∷ l) (later (rw i at h)))

pub none_left : (f : ℕ) (xs : List HeldEntry) → first_where (is_held_by f) xs ≡ None → map (front_left f) xs ≡ xs
none_left f [] h = refl
none_left f (x ∷ xs) h = left_here (is_held_by f x) refl h (λ l. none_left f xs l)
  where
    left_here : (b : Bool) → is_held_by f x ≡ b → cond b (Some x) (first_where (is_held_by f) xs) ≡ None → (first_where (is_held_by f) xs ≡ None → map (front_left f) xs ≡ xs) → map (front_left f) (x ∷ xs) ≡ x ∷ xs
    left_here true i h later = absurd cc
    left_here false i h later = rw i (ap (λ l. x ∷ l) (later h))
