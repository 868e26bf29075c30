-- What each index of the apps finds, and the invariant through a change.
use Rattle.std.proofs.Common.{◌≡◌, ℕ, ℤ, Bool, true, false, cond, List, ◌∷◌, Option, Some, None, refl, sym, ap, ◌∙◌, subst}
use Rattle.std.specs.Ordering.{nat_cmp}
use Rattle.std.specs.Option.{IsSomeAnd}
use Rattle.std.specs.List.Sorted.{IsStrictlySortedBy}
use Rattle.std.specs.Map.{keys_of, values_of, set_value}
use Rattle.std.specs.BTreeMap.{is_at, insert_entry}
use Rattle.std.proofs.lemmas.Map.{lookup-set_value}
use Rattle.std.proofs.lemmas.Cmp.{nat_cmp_total, eq_by_cmp_equiv}
use Rattle.std.proofs.lemmas.Bool.Decides.{Decides-int_eq}
use Rattle.kn_tables.specs.Lists.{first_where, AreAbove}
use Rattle.kn_tables.specs.Indexed.{at_number, at_key, entry_at, told, hits}
use Rattle.kn_tables.proofs.IndexLemmas.{values_rising, same_number, told_cond, indexed_more, indexed_less, indexed_same, hits_fresh, taken_back}
use Rattle.kn_edge_core.specs.declared.app.App.{App}
use Rattle.kn_edge_core.specs.declared.app.AppState.{AppState}
use Rattle.kn_edge_core.specs.declared.app.AppState.TheVariants.{Dialling, Open, Closing, Lingering}
use Rattle.kn_edge_core.specs.declared.apps.Apps.TheInside.{Inside}
use Rattle.kn_edge_core.specs.ClientTables.{is_app, is_open_at, is_held_at, is_held, takes_data, takes_close, opened, closing, lingering}
use Rattle.kn_edge_core.specs.Keeping.{IsInOrder, AppsAreKept, app_rows, open_key, held_key, open_key_of, held_key_of, id_cmp, FirstUnder}
use Rattle.kn_edge_core.proofs.TableLemmas.{row_found, row_number, order_more, order_put}
use Rattle.kn_edge_core.proofs.IdLemmas.{id_total, id_exact, first_found, fresh_id}

-- ---- what tells an app
open_test : (st : AppState) (own a : ℤ) (n : ℕ) → takes_data st own a ≡ true → open_key st own n ≡ Some (a, n)
open_test Open own a n h = let m : own ≡ a = (Decides-int_eq own a).0 h in rw m refl
open_test Dialling own a n h = absurd cc
open_test Closing own a n h = absurd cc
open_test Lingering own a n h = absurd cc

open_pass : (st : AppState) (own a : ℤ) (n b : ℕ) → open_key st own n ≡ Some (a, b) → (takes_data st own a ≡ true) × (n ≡ b)
open_pass Open own a n b h = let m : ◌≡◌ {A = ℤ × ℕ} (own, n) (a, b) = cc in ((Decides-int_eq own a).1 (ap (λ p. p.0) m), ap (λ p. p.1) m)
open_pass Dialling own a n b h = absurd cc
open_pass Closing own a n b h = absurd cc
open_pass Lingering own a n b h = absurd cc

held_test : (st : AppState) (own a : ℤ) (n : ℕ) → takes_close st own a ≡ true → held_key st own n ≡ Some (a, n)
held_test Open own a n h = let m : own ≡ a = (Decides-int_eq own a).0 h in rw m refl
held_test Closing own a n h = let m : own ≡ a = (Decides-int_eq own a).0 h in rw m refl
held_test Dialling own a n h = absurd cc
held_test Lingering own a n h = absurd cc

held_pass : (st : AppState) (own a : ℤ) (n b : ℕ) → held_key st own n ≡ Some (a, b) → (takes_close st own a ≡ true) × (n ≡ b)
held_pass Open own a n b h = let m : ◌≡◌ {A = ℤ × ℕ} (own, n) (a, b) = cc in ((Decides-int_eq own a).1 (ap (λ p. p.0) m), ap (λ p. p.1) m)
held_pass Closing own a n b h = let m : ◌≡◌ {A = ℤ × ℕ} (own, n) (a, b) = cc in ((Decides-int_eq own a).1 (ap (λ p. p.0) m), ap (λ p. p.1) m)
held_pass Dialling own a n b h = absurd cc
held_pass Lingering own a n b h = absurd cc

open_last : (v : App) (k : ℤ × ℕ) → open_key_of v ≡ Some k → k.1 ≡ v.number
open_last v k h = sym (open_pass v.state v.connect_id k.0 v.number k.1 h).1

held_last : (v : App) (k : ℤ × ℕ) → held_key_of v ≡ Some k → k.1 ≡ v.number
held_last v k h = sym (held_pass v.state v.connect_id k.0 v.number k.1 h).1

pub open_found : (t : Inside) → AppsAreKept t → (a : ℤ) (i : Option ℕ) → FirstUnder t.open_by_id.entries a i → entry_at t.by_number.entries i ≡ first_where (is_open_at a) (app_rows t)
open_found t kept a i h = first_found (λ x. x.number) open_key_of t.open_by_id.entries t.by_number.entries (is_open_at a) a kept.in_order.ordered kept.in_order.keyed kept.open_ids
    (λ v p. open_test v.state v.connect_id a v.number p) (λ v b p. open_pass v.state v.connect_id a v.number b p) i h

pub held_found : (t : Inside) → AppsAreKept t → (a : ℤ) (i : Option ℕ) → FirstUnder t.held_by_id.entries a i → entry_at t.by_number.entries i ≡ first_where (is_held_at a) (app_rows t)
held_found t kept a i h = first_found (λ x. x.number) held_key_of t.held_by_id.entries t.by_number.entries (is_held_at a) a kept.in_order.ordered kept.in_order.keyed kept.held_ids
    (λ v p. held_test v.state v.connect_id a v.number p) (λ v b p. held_pass v.state v.connect_id a v.number b p) i h

pub app_found : (t : Inside) → AppsAreKept t → (q : ℕ) → at_number t.by_number.entries q ≡ first_where (is_app q) (app_rows t)
app_found t kept q = row_found (λ x. x.number) q t.by_number.entries kept.in_order

pub app_number : (t : Inside) → AppsAreKept t → (q : ℕ) (a : App) → at_number t.by_number.entries q ≡ Some a → a.number ≡ q
app_number t kept q a h = row_number (λ x. x.number) q a t.by_number.entries kept.in_order h

pub app_stands : (t : Inside) → AppsAreKept t → (q : ℕ) (a : App) → at_number t.by_number.entries q ≡ Some a → first_where (is_app a.number) (app_rows t) ≡ Some a
app_stands t kept q a h = subst (λ n. first_where (is_app n) (app_rows t) ≡ Some a) (sym (app_number t kept q a h)) (sym (app_found t kept q) ∙ h)

-- an app that is on the list lies in the map, with what is known of it
pub app_there : (t : Inside) → AppsAreKept t → (q : ℕ) (apps : List App) (P : App → Type 0) → app_rows t ≡ apps → IsSomeAnd (first_where (is_app q) apps) P → (a : App) × (at_number t.by_number.entries q ≡ Some a) × P a
app_there t kept q apps P view some = there_if (first_where (is_app q) apps) (app_found t kept q ∙ ap (first_where (is_app q)) view) some
  where
    there_if : (o : Option App) → at_number t.by_number.entries q ≡ o → IsSomeAnd o P → (a : App) × (at_number t.by_number.entries q ≡ Some a) × P a
    there_if None e h = absurd h
    there_if (Some a) e h = (a, e, h)

-- ---- an app changes
pub looked_up : (q : ℕ) (a w : App) (es es' : List (ℕ × App)) → at_number es q ≡ Some a → es' ≡ set_value (is_at (nat_cmp q)) es w → (r : ℕ) → at_number es' r ≡ cond (is_at (nat_cmp q) r) (Some w) (at_number es r)
looked_up q a w es es' found entries r =
    ap (λ x. at_number x r) entries ∙ lookup-set_value (eq_by_cmp_equiv nat_cmp_total) (is_at (nat_cmp q)) (λ x y h. ap (λ n. is_at (nat_cmp n) y) (same_number q x h)) r w es (rw found refl)

told_same : {K E : Type 0} (tells : E → Option K) (d : ℕ) (w : Option E) (es es' : List (ℕ × E)) → ((q : ℕ) → at_number es' q ≡ cond (is_at (nat_cmp d) q) w (at_number es q))
    → told tells w ≡ told tells (at_number es d) → (q : ℕ) → told tells (at_number es' q) ≡ told tells (at_number es q)
told_same tells d w es es' ds same q = same_here (is_at (nat_cmp d) q) refl (ds q)
  where
    same_here : (b : Bool) → is_at (nat_cmp d) q ≡ b → at_number es' q ≡ cond b w (at_number es q) → told tells (at_number es' q) ≡ told tells (at_number es q)
    same_here true h u = ap (told tells) u ∙ same ∙ ap (λ x. told tells (at_number es x)) (same_number d q h)
    same_here false h u = ap (told tells) u

told_changed : {K E : Type 0} (tells : E → Option K) (d : ℕ) (w : Option E) (k : Option K) (es es' : List (ℕ × E)) → ((q : ℕ) → at_number es' q ≡ cond (is_at (nat_cmp d) q) w (at_number es q))
    → told tells w ≡ k → (q : ℕ) → told tells (at_number es' q) ≡ cond (is_at (nat_cmp d) q) k (told tells (at_number es q))
told_changed tells d w k es es' ds new q = ap (told tells) (ds q) ∙ told_cond tells (is_at (nat_cmp d) q) w (at_number es q) ∙ ap (λ x. cond (is_at (nat_cmp d) q) x (told tells (at_number es q))) new

idle_open : (st : AppState) (own : ℤ) (n : ℕ) → is_held st ≡ false → open_key st own n ≡ None
idle_open Open own n h = absurd cc
idle_open Dialling own n h = refl
idle_open Closing own n h = refl
idle_open Lingering own n h = refl

idle_held : (st : AppState) (own : ℤ) (n : ℕ) → is_held st ≡ false → held_key st own n ≡ None
idle_held Open own n h = absurd cc
idle_held Closing own n h = absurd cc
idle_held Dialling own n h = refl
idle_held Lingering own n h = refl

-- an app more that is neither open nor closing
pub apps_more : (t t' : Inside) → AppsAreKept t → (a : App) → first_where (is_app a.number) (app_rows t) ≡ None → is_held a.state ≡ false
    → t'.by_number.entries ≡ insert_entry nat_cmp t.by_number.entries a.number a
    → IsStrictlySortedBy nat_cmp (keys_of t'.by_number.entries)
    → ((q : ℕ) → at_number t'.by_number.entries q ≡ cond (is_at (nat_cmp a.number) q) (Some a) (at_number t.by_number.entries q))
    → t'.open_by_id.entries ≡ t.open_by_id.entries → t'.held_by_id.entries ≡ t.held_by_id.entries → AppsAreKept t'
apps_more t t' kept a new idle entries sorted ds os hs =
    let lacks : at_number t.by_number.entries a.number ≡ None = app_found t kept a.number ∙ new in
    record {
      in_order = order_more (λ (x : App). x.number) a t.by_number.entries t'.by_number.entries kept.in_order entries sorted;
      open_ids = indexed_same _ _ _ _ (told_same open_key_of a.number (Some a) t.by_number.entries t'.by_number.entries ds (idle_open a.state a.connect_id a.number idle ∙ sym (ap (told open_key_of) lacks)))
          (λ k. ap (λ x. at_key id_cmp x k) os) kept.open_ids;
      held_ids = indexed_same _ _ _ _ (told_same held_key_of a.number (Some a) t.by_number.entries t'.by_number.entries ds (idle_held a.state a.connect_id a.number idle ∙ sym (ap (told held_key_of) lacks)))
          (λ k. ap (λ x. at_key id_cmp x k) hs) kept.held_ids;
    }

dialling_open : (a : App) → a.state ≡ Dialling → open_key_of a ≡ None
dialling_open a h = rw h refl

dialling_held : (a : App) → a.state ≡ Dialling → held_key_of a ≡ None
dialling_held a h = rw h refl

-- an app that dials is noted under no connectID
pub unopened : (t : Inside) → AppsAreKept t → (d : ℕ) (a : App) (id : ℤ) → at_number t.by_number.entries d ≡ Some a → a.state ≡ Dialling → at_key id_cmp t.open_by_id.entries (id, d) ≡ None
unopened t kept d a id found dials = fresh_id (λ (x : App). x.number) open_key_of (at_key id_cmp t.open_by_id.entries) t.by_number.entries id d kept.in_order.keyed kept.open_ids open_last (ap (told open_key_of) found ∙ dialling_open a dials)

pub unheld : (t : Inside) → AppsAreKept t → (d : ℕ) (a : App) (id : ℤ) → at_number t.by_number.entries d ≡ Some a → a.state ≡ Dialling → at_key id_cmp t.held_by_id.entries (id, d) ≡ None
unheld t kept d a id found dials = fresh_id (λ (x : App). x.number) held_key_of (at_key id_cmp t.held_by_id.entries) t.by_number.entries id d kept.in_order.keyed kept.held_ids held_last (ap (told held_key_of) found ∙ dialling_held a dials)

-- its tunnel is open
pub apps_opened : (t t' : Inside) → AppsAreKept t → (d : ℕ) (a : App) (id : ℤ) → at_number t.by_number.entries d ≡ Some a → a.state ≡ Dialling
    → t'.by_number.entries ≡ set_value (is_at (nat_cmp d)) t.by_number.entries (opened id a)
    → ((k : ℤ × ℕ) → at_key id_cmp t'.open_by_id.entries k ≡ cond (is_at (id_cmp (id, d)) k) (Some d) (at_key id_cmp t.open_by_id.entries k))
    → ((k : ℤ × ℕ) → at_key id_cmp t'.held_by_id.entries k ≡ cond (is_at (id_cmp (id, d)) k) (Some d) (at_key id_cmp t.held_by_id.entries k))
    → AppsAreKept t'
apps_opened t t' kept d a id found dials entries os hs =
    let same = app_number t kept d a found in
    let ds = looked_up d a (opened id a) t.by_number.entries t'.by_number.entries found entries in
    record {
      in_order = order_put (λ (x : App). x.number) d (opened id a) t.by_number.entries t'.by_number.entries kept.in_order same entries;
      open_ids = indexed_more id_cmp id_total id_exact _ _ _ _ d (Some (id, d))
          (told_changed open_key_of d (Some (opened id a)) (Some (id, d)) t.by_number.entries t'.by_number.entries ds (ap (λ n. Some (id, n)) same)) os
          (ap (told open_key_of) found ∙ dialling_open a dials) (hits_fresh id_cmp id_exact _ _ (unopened t kept d a id found dials)) kept.open_ids;
      held_ids = indexed_more id_cmp id_total id_exact _ _ _ _ d (Some (id, d))
          (told_changed held_key_of d (Some (opened id a)) (Some (id, d)) t.by_number.entries t'.by_number.entries ds (ap (λ n. Some (id, n)) same)) hs
          (ap (told held_key_of) found ∙ dialling_held a dials) (hits_fresh id_cmp id_exact _ _ (unheld t kept d a id found dials)) kept.held_ids;
    }

-- nothing that can be looked up changes
pub apps_same : (t t' : Inside) → AppsAreKept t → t'.by_number.entries ≡ t.by_number.entries
    → ((k : ℤ × ℕ) → at_key id_cmp t'.open_by_id.entries k ≡ at_key id_cmp t.open_by_id.entries k)
    → ((k : ℤ × ℕ) → at_key id_cmp t'.held_by_id.entries k ≡ at_key id_cmp t.held_by_id.entries k)
    → AppsAreKept t'
apps_same t t' kept entries os hs = record {
  in_order = rw entries kept.in_order;
  open_ids = indexed_same _ _ _ _ (λ q. ap (λ es. told open_key_of (at_number es q)) entries) os kept.open_ids;
  held_ids = indexed_same _ _ _ _ (λ q. ap (λ es. told held_key_of (at_number es q)) entries) hs kept.held_ids;
}

-- a note that was made and taken out again leaves each look-up as it was
pub id_back : (old index index' : List ((ℤ × ℕ) × ℕ)) (id : ℤ) (d : ℕ) → at_key id_cmp old (id, d) ≡ None
    → ((k : ℤ × ℕ) → at_key id_cmp index k ≡ cond (is_at (id_cmp (id, d)) k) (Some d) (at_key id_cmp old k))
    → ((k : ℤ × ℕ) → at_key id_cmp index' k ≡ cond (is_at (id_cmp (id, d)) k) None (at_key id_cmp index k))
    → (k : ℤ × ℕ) → at_key id_cmp index' k ≡ at_key id_cmp old k
id_back old index index' id d new is back = taken_back id_cmp id_total id_exact _ _ _ d (id, d) new is back

-- an open app asked to close
pub apps_closed : (t t' : Inside) → AppsAreKept t → (d : ℕ) (a : App) (id : ℤ) → at_number t.by_number.entries d ≡ Some a → a.state ≡ Open → a.connect_id ≡ id
    → t'.by_number.entries ≡ set_value (is_at (nat_cmp d)) t.by_number.entries (closing a)
    → ((k : ℤ × ℕ) → at_key id_cmp t'.open_by_id.entries k ≡ cond (is_at (id_cmp (id, d)) k) None (at_key id_cmp t.open_by_id.entries k))
    → t'.held_by_id.entries ≡ t.held_by_id.entries
    → AppsAreKept t'
apps_closed t t' kept d a id found is_open here entries os hs =
    let same = app_number t kept d a found in
    let ds = looked_up d a (closing a) t.by_number.entries t'.by_number.entries found entries in
    record {
      in_order = order_put (λ (x : App). x.number) d (closing a) t.by_number.entries t'.by_number.entries kept.in_order same entries;
      open_ids = indexed_less id_cmp id_total id_exact _ _ _ _ d (Some (id, d))
          (told_changed open_key_of d (Some (closing a)) None t.by_number.entries t'.by_number.entries ds refl) os
          (ap (told open_key_of) found ∙ rw (is_open, here, same) refl) kept.open_ids;
      held_ids = indexed_same _ _ _ _ (told_same held_key_of d (Some (closing a)) t.by_number.entries t'.by_number.entries ds (sym (ap (told held_key_of) found ∙ rw is_open refl)))
          (λ k. ap (λ x. at_key id_cmp x k) hs) kept.held_ids;
    }

-- an app lingers
pub apps_lingering : (t t' : Inside) → AppsAreKept t → (d : ℕ) (a : App) (st : AppState) (id : ℤ) (error : List ℕ) → at_number t.by_number.entries d ≡ Some a → a.state ≡ st → a.connect_id ≡ id
    → t'.by_number.entries ≡ set_value (is_at (nat_cmp d)) t.by_number.entries (lingering error a)
    → ((k : ℤ × ℕ) → at_key id_cmp t'.open_by_id.entries k ≡ cond (hits id_cmp (open_key st id d) k) None (at_key id_cmp t.open_by_id.entries k))
    → ((k : ℤ × ℕ) → at_key id_cmp t'.held_by_id.entries k ≡ cond (hits id_cmp (held_key st id d) k) None (at_key id_cmp t.held_by_id.entries k))
    → AppsAreKept t'
apps_lingering t t' kept d a st id error found stands here entries os hs =
    let same = app_number t kept d a found in
    let ds = looked_up d a (lingering error a) t.by_number.entries t'.by_number.entries found entries in
    record {
      in_order = order_put (λ (x : App). x.number) d (lingering error a) t.by_number.entries t'.by_number.entries kept.in_order same entries;
      open_ids = indexed_less id_cmp id_total id_exact _ _ _ _ d (open_key st id d)
          (told_changed open_key_of d (Some (lingering error a)) None t.by_number.entries t'.by_number.entries ds refl) os
          (ap (told open_key_of) found ∙ rw (stands, here, same) refl) kept.open_ids;
      held_ids = indexed_less id_cmp id_total id_exact _ _ _ _ d (held_key st id d)
          (told_changed held_key_of d (Some (lingering error a)) None t.by_number.entries t'.by_number.entries ds refl) hs
          (ap (told held_key_of) found ∙ rw (stands, here, same) refl) kept.held_ids;
    }

-- an app that is told as before
pub apps_counted : (t t' : Inside) → AppsAreKept t → (d : ℕ) (a w : App) → at_number t.by_number.entries d ≡ Some a → w.number ≡ a.number → w.state ≡ a.state → w.connect_id ≡ a.connect_id
    → t'.by_number.entries ≡ set_value (is_at (nat_cmp d)) t.by_number.entries w
    → t'.open_by_id.entries ≡ t.open_by_id.entries → t'.held_by_id.entries ≡ t.held_by_id.entries → AppsAreKept t'
apps_counted t t' kept d a w found n s i entries os hs =
    let ds = looked_up d a w t.by_number.entries t'.by_number.entries found entries in
    record {
      in_order = order_put (λ (x : App). x.number) d w t.by_number.entries t'.by_number.entries kept.in_order (n ∙ app_number t kept d a found) entries;
      open_ids = indexed_same _ _ _ _ (told_same open_key_of d (Some w) t.by_number.entries t'.by_number.entries ds (rw (n, s, i) (sym (ap (told open_key_of) found)))) (λ k. ap (λ x. at_key id_cmp x k) os) kept.open_ids;
      held_ids = indexed_same _ _ _ _ (told_same held_key_of d (Some w) t.by_number.entries t'.by_number.entries ds (rw (n, s, i) (sym (ap (told held_key_of) found)))) (λ k. ap (λ x. at_key id_cmp x k) hs) kept.held_ids;
    }

-- the first app of a list by rising number is below the others
pub first_above : (t : Inside) → AppsAreKept t → (x : ℕ × App) (es : List (ℕ × App)) → t.by_number.entries ≡ x ∷ es → AreAbove (λ y. y.number) x.1.number (values_of es)
first_above t kept x es entries =
    let rising = values_rising (λ (y : App). y.number) t.by_number.entries kept.in_order.keyed kept.in_order.ordered in
    (rw entries at rising).0

-- an app goes
pub apps_less : (t t' : Inside) → AppsAreKept t → (d : ℕ) (a : App) → at_number t.by_number.entries d ≡ Some a
    → IsInOrder (λ x. x.number) t'.by_number.entries
    → ((q : ℕ) → at_number t'.by_number.entries q ≡ cond (is_at (nat_cmp d) q) None (at_number t.by_number.entries q))
    → ((k : ℤ × ℕ) → at_key id_cmp t'.open_by_id.entries k ≡ cond (hits id_cmp (open_key_of a) k) None (at_key id_cmp t.open_by_id.entries k))
    → ((k : ℤ × ℕ) → at_key id_cmp t'.held_by_id.entries k ≡ cond (hits id_cmp (held_key_of a) k) None (at_key id_cmp t.held_by_id.entries k))
    → AppsAreKept t'
apps_less t t' kept d a found order ds os hs = record {
  in_order = order;
  open_ids = indexed_less id_cmp id_total id_exact _ _ _ _ d (open_key_of a) (told_changed open_key_of d None None t.by_number.entries t'.by_number.entries ds refl) os (ap (told open_key_of) found) kept.open_ids;
  held_ids = indexed_less id_cmp id_total id_exact _ _ _ _ d (held_key_of a) (told_changed held_key_of d None None t.by_number.entries t'.by_number.entries ds refl) hs (ap (told held_key_of) found) kept.held_ids;
}
