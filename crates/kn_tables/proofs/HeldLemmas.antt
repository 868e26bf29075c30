-- What each index of the held dials finds, and the invariant through a change.
use Rattle.std.proofs.Common.{◌≡◌, ℕ, ℤ, pos, negsuc, ◌+◌, ◌-◌, ◌<◌, ◌^◌, length, Bool, true, false, cond, List, [], ◌∷◌, map, Option, Some, None, refl, sym, ap, ◌∙◌, subst, arith, SFits, w64}
use Rattle.std.specs.Ordering.{nat_cmp, int_cmp, is_gt}
use Rattle.std.specs.Map.{keys_of, values_of, remove_entry, set_value}
use Rattle.std.specs.List.{filter}
use Rattle.std.specs.List.Sorted.{IsStrictlySortedBy}
use Rattle.std.specs.BTreeMap.{is_at, insert_entry}
use Rattle.std.proofs.lemmas.Bool.Decides.{Decides-eqb, nat_tests}
use Rattle.std.proofs.lemmas.Map.{keys-set_value}
use Rattle.std.proofs.lemmas.Map.Entries.{length-values_of, lookup_head, lookup_tail}
use Rattle.std.proofs.lemmas.Map.Keys.{sorted_tail}
use Rattle.kn_tables.specs.declared.held.Held.TheInside.{Inside}
use Rattle.kn_tables.specs.declared.held_entry.HeldEntry.{HeldEntry}
use Rattle.kn_tables.specs.Lists.{first_where, count_where, in_place, without}
use Rattle.kn_tables.specs.Holding.{is_held_dial, is_held, is_held_on, is_held_by, has_front, closed_entry, closed_at, by_connect_id, first_of, AreApart}
use Rattle.kn_tables.specs.Indexed.{at_number, at_key, entry_at, told, Indexes, pair_cmp, signed_pair_cmp, FirstAt, FirstSignedAt, count_at, lowest, pair_of, hits}
use Rattle.kn_tables.specs.Keeping.{HeldIsKept, held_rows, connect_of, held_front_of}
use Rattle.kn_tables.proofs.IndexLemmas.{AreFound, all_found, past_head, first_none, found_first, first_found, indexed_more, indexed_less, indexed_same, told_cond, told_some, none_found, fresh_pair, hits_fresh, keyed_more, keyed_less, keyed_put, keyed_at, count_more, count_less, count_put, count_le_length, values_more, values_less, values_found, map_put, number_test, pair_total, pair_exact, signed_pair_total, signed_pair_exact, own_number, same_number, taken_back}
use Rattle.kn_tables.proofs.LeastLemmas.{least_first, filter_none}
use Rattle.kn_tables.proofs.AwaitedLemmas.{both_same, same_both, same_pair, pair_same, second_is}

pub same_connect : (v : HeldEntry) (l : ℕ) (c : ℤ) → is_held l c v ≡ true → connect_of v ≡ Some (l, c)
same_connect v l c h = let m = both_same v.link l v.connect_id c h in rw (m.0, m.1) refl

pub connect_same : (v : HeldEntry) (l : ℕ) (c : ℤ) → connect_of v ≡ Some (l, c) → is_held l c v ≡ true
connect_same v l c h = let m : ◌≡◌ {A = ℕ × ℤ} (v.link, v.connect_id) (l, c) = cc in same_both v.link l v.connect_id c (ap (λ p. p.0) m) (ap (λ p. p.1) m)

pub connect_found : (t : Inside) → HeldIsKept t → (l : ℕ) (c : ℤ) → entry_at t.by_dial.entries (at_key signed_pair_cmp t.by_connect.entries (l, c)) ≡ first_where (is_held l c) (held_rows t)
connect_found t kept l c = found_first connect_of (at_key signed_pair_cmp t.by_connect.entries) t.by_dial.entries (is_held l c) (l, c) kept.ordered kept.connect (λ v h. same_connect v l c h) (λ v h. connect_same v l c h)

front_test : (o : Option ℕ) (f d : ℕ) → has_front o f ≡ true → pair_of o d ≡ Some (f, d)
front_test None f d h = absurd cc
front_test (Some a) f d h = same_pair a d f h

front_pass : (o : Option ℕ) (f d b : ℕ) → pair_of o d ≡ Some (f, b) → (has_front o f ≡ true) × (d ≡ b)
front_pass None f d b h = absurd cc
front_pass (Some a) f d b h = pair_same a d f b h

pub front_found : (t : Inside) → HeldIsKept t → (f : ℕ) (i : Option ℕ) → FirstAt t.by_front.entries f i → entry_at t.by_dial.entries i ≡ first_where (is_held_by f) (held_rows t)
front_found t kept f i h = first_found (λ e. e.dial) held_front_of t.by_front.entries t.by_dial.entries (is_held_by f) f kept.ordered kept.keyed kept.front (λ v t. front_test v.front f v.dial t) (λ v b t. front_pass v.front f v.dial b t) i h

-- ---- the first of a link
false_unless : (b : Bool) → (b ≡ true → ⊥) → b ≡ false
false_unless true h = absurd (h refl)
false_unless false h = refl

link_test : (v : HeldEntry) (l : ℕ) → is_held_on l v ≡ true → connect_of v ≡ Some (l, v.connect_id)
link_test v l h = let m : v.link ≡ l = (Decides-eqb v.link l).0 h in rw m refl

link_pass : (v : HeldEntry) (l : ℕ) (c : ℤ) → connect_of v ≡ Some (l, c) → (is_held_on l v ≡ true) × (v.connect_id ≡ c)
link_pass v l c h = let m : ◌≡◌ {A = ℕ × ℤ} (v.link, v.connect_id) (l, c) = cc in ((Decides-eqb v.link l).1 (ap (λ p. p.0) m), ap (λ p. p.1) m)

pub link_found : (t : Inside) → HeldIsKept t → (l : ℕ) (i : Option ℕ) → FirstSignedAt lowest t.by_connect.entries l i → entry_at t.by_dial.entries i ≡ first_of (by_connect_id (filter (is_held_on l) (held_rows t)))
link_found t kept l None h = sym (filter_none (at_number t.by_dial.entries) (is_held_on l) t.by_dial.entries (all_found t.by_dial.entries kept.ordered)
    (λ r w f. false_unless (is_held_on l w) (λ p. let e = kept.connect.finds r (l, w.connect_id) (ap (told connect_of) f ∙ link_test w l p) in let n = h w.connect_id (kept.fits r w f) in cc)))
link_found t kept l (Some q) h =
    let m = told_some connect_of (l, h.0) (at_number t.by_dial.entries q) (kept.connect.holds (l, h.0) q h.1) in
    let n = link_pass m.0 l h.0 m.2 in
    m.1 ∙ sym (least_first (at_number t.by_dial.entries) (is_held_on l) m.0
    (λ r w f p.
    let e = kept.connect.finds r (l, w.connect_id) (ap (told connect_of) f ∙ link_test w l p) in
    subst (λ x. is_gt (int_cmp x w.connect_id) ≡ false) (sym n.1) (h.2 w.connect_id (kept.fits r w f) (rw e refl)))
    q t.by_dial.entries (all_found t.by_dial.entries kept.ordered) n.0
    (λ r w f p same.
    let e = kept.connect.finds r (l, w.connect_id) (ap (told connect_of) f ∙ link_test w l p) in
    let k : at_key signed_pair_cmp t.by_connect.entries (l, w.connect_id) ≡ Some q = subst (λ x. at_key signed_pair_cmp t.by_connect.entries (l, x) ≡ Some q) (sym n.1 ∙ same) h.1 in
    cc)
    m.1)

-- ---- what is new
pub lacks_dial : (t : Inside) → HeldIsKept t → (d : ℕ) → first_where (is_held_dial d) (held_rows t) ≡ None → at_number t.by_dial.entries d ≡ None
lacks_dial t kept d new = values_found (λ x. x.dial) d t.by_dial.entries kept.keyed ∙ new

pub lacks_connect : (t : Inside) → HeldIsKept t → (l : ℕ) (c : ℤ) → first_where (is_held l c) (held_rows t) ≡ None → at_key signed_pair_cmp t.by_connect.entries (l, c) ≡ None
lacks_connect t kept l c new = none_found connect_of (at_key signed_pair_cmp t.by_connect.entries) t.by_dial.entries (l, c) kept.connect (connect_found t kept l c ∙ new)

pair_last : (o : Option ℕ) (d : ℕ) (k : ℕ × ℕ) → pair_of o d ≡ Some k → k.1 ≡ d
pair_last None d k h = absurd cc
pair_last (Some a) d k h = second_is a d k h

lacks_front : (t : Inside) → HeldIsKept t → (a d : ℕ) → first_where (is_held_dial d) (held_rows t) ≡ None → at_key pair_cmp t.by_front.entries (a, d) ≡ None
lacks_front t kept a d new = fresh_pair (λ x. x.dial) held_front_of (at_key pair_cmp t.by_front.entries) t.by_dial.entries a d kept.keyed kept.front (λ v k h. pair_last v.front v.dial k h) (lacks_dial t kept d new)

front_fresh : (t : Inside) → HeldIsKept t → (o : Option ℕ) (d : ℕ) → first_where (is_held_dial d) (held_rows t) ≡ None → (k : ℕ × ℕ) → hits pair_cmp (pair_of o d) k ≡ true → at_key pair_cmp t.by_front.entries k ≡ None
front_fresh t kept None d new k h = absurd cc
front_fresh t kept (Some a) d new k h = hits_fresh pair_cmp pair_exact (at_key pair_cmp t.by_front.entries) (a, d) (lacks_front t kept a d new) k h

pub low_fits : (z : ℤ) → SFits w64 z → is_gt (int_cmp lowest z) ≡ false
low_fits (pos n) f = refl
low_fits (negsuc n) f = let l : n < 9223372036854775808 = f.sfits in grind (arith, nat_tests)

-- ---- the invariant through a change
fits_more : (t : Inside) → HeldIsKept t → (e : HeldEntry) (d q : ℕ) (x : HeldEntry) (b : Bool) → is_gt (int_cmp lowest e.connect_id) ≡ false → cond b (Some e) (at_number t.by_dial.entries q) ≡ Some x → is_gt (int_cmp lowest x.connect_id) ≡ false
fits_more t kept e d q x true low h = let m : e ≡ x = cc in subst (λ v. is_gt (int_cmp lowest v.connect_id) ≡ false) m low
fits_more t kept e d q x false low h = kept.fits q x h

fits_less : (t : Inside) → HeldIsKept t → (q : ℕ) (x : HeldEntry) (b : Bool) → cond b None (at_number t.by_dial.entries q) ≡ Some x → is_gt (int_cmp lowest x.connect_id) ≡ false
fits_less t kept q x true h = absurd cc
fits_less t kept q x false h = kept.fits q x h

pub held_more : (t t' : Inside) → HeldIsKept t → (e : HeldEntry) → is_gt (int_cmp lowest e.connect_id) ≡ false
    → IsStrictlySortedBy nat_cmp (keys_of t'.by_dial.entries)
    → t'.by_dial.entries ≡ insert_entry nat_cmp t.by_dial.entries e.dial e
    → ((q : ℕ) → at_number t'.by_dial.entries q ≡ cond (is_at (nat_cmp e.dial) q) (Some e) (at_number t.by_dial.entries q))
    → ((k : ℕ × ℤ) → at_key signed_pair_cmp t'.by_connect.entries k ≡ cond (is_at (signed_pair_cmp (e.link, e.connect_id)) k) (Some e.dial) (at_key signed_pair_cmp t.by_connect.entries k))
    → ((k : ℕ × ℕ) → at_key pair_cmp t'.by_front.entries k ≡ cond (hits pair_cmp (pair_of e.front e.dial) k) (Some e.dial) (at_key pair_cmp t.by_front.entries k))
    → ((q : ℕ) → count_at t'.counts.entries q ≡ cond (has_front e.front q) (count_at t.counts.entries q + 1) (count_at t.counts.entries q))
    → first_where (is_held_dial e.dial) (held_rows t) ≡ None
    → first_where (is_held e.link e.connect_id) (held_rows t) ≡ None
    → HeldIsKept t'
held_more t t' kept e low sorted entries ds rs fs cs new_dial new_connect =
    let lacks = lacks_dial t kept e.dial new_dial in
    let no_connect = lacks_connect t kept e.link e.connect_id new_connect in
    record {
      ordered = sorted;
      keyed = rw entries (keyed_more (λ x. x.dial) e.dial e t.by_dial.entries refl kept.keyed);
      fits = λ q x h. fits_more t kept e e.dial q x (is_at (nat_cmp e.dial) q) low (sym (ds q) ∙ h);
      connect = indexed_more signed_pair_cmp signed_pair_total signed_pair_exact _ _ _ _ e.dial (connect_of e)
          (λ q. ap (told connect_of) (ds q) ∙ told_cond connect_of (is_at (nat_cmp e.dial) q) (Some e) (at_number t.by_dial.entries q)) rs (ap (told connect_of) lacks) (hits_fresh signed_pair_cmp signed_pair_exact _ _ no_connect) kept.connect;
      front = indexed_more pair_cmp pair_total pair_exact _ _ _ _ e.dial (held_front_of e)
          (λ q. ap (told held_front_of) (ds q) ∙ told_cond held_front_of (is_at (nat_cmp e.dial) q) (Some e) (at_number t.by_dial.entries q)) fs (ap (told held_front_of) lacks) (front_fresh t kept e.front e.dial new_dial) kept.front;
      counts = λ q. cs q ∙ rw (kept.counts q) (sym (ap (count_where (is_held_by q)) (ap values_of entries ∙ values_more (λ x. x.dial) e.dial e t.by_dial.entries refl kept.keyed lacks) ∙ count_more (is_held_by q) (λ x. x.dial) e (held_rows t)));
    }

pub held_less : (t t' : Inside) → HeldIsKept t → (d : ℕ) (e : HeldEntry)
    → at_number t.by_dial.entries d ≡ Some e
    → IsStrictlySortedBy nat_cmp (keys_of t'.by_dial.entries)
    → t'.by_dial.entries ≡ remove_entry (is_at (nat_cmp d)) t.by_dial.entries
    → ((q : ℕ) → at_number t'.by_dial.entries q ≡ cond (is_at (nat_cmp d) q) None (at_number t.by_dial.entries q))
    → ((k : ℕ × ℤ) → at_key signed_pair_cmp t'.by_connect.entries k ≡ cond (is_at (signed_pair_cmp (e.link, e.connect_id)) k) None (at_key signed_pair_cmp t.by_connect.entries k))
    → ((k : ℕ × ℕ) → at_key pair_cmp t'.by_front.entries k ≡ cond (hits pair_cmp (pair_of e.front e.dial) k) None (at_key pair_cmp t.by_front.entries k))
    → ((q : ℕ) → count_at t'.counts.entries q ≡ cond (has_front e.front q) (count_at t.counts.entries q - 1) (count_at t.counts.entries q))
    → HeldIsKept t'
held_less t t' kept d e found sorted entries ds rs fs cs = record {
  ordered = sorted;
  keyed = rw entries (keyed_less (λ x. x.dial) d t.by_dial.entries kept.keyed);
  fits = λ q x h. fits_less t kept q x (is_at (nat_cmp d) q) (sym (ds q) ∙ h);
  connect = indexed_less signed_pair_cmp signed_pair_total signed_pair_exact _ _ _ _ d (connect_of e)
      (λ q. ap (told connect_of) (ds q) ∙ told_cond connect_of (is_at (nat_cmp d) q) None (at_number t.by_dial.entries q)) rs (ap (told connect_of) found) kept.connect;
  front = indexed_less pair_cmp pair_total pair_exact _ _ _ _ d (held_front_of e)
      (λ q. ap (told held_front_of) (ds q) ∙ told_cond held_front_of (is_at (nat_cmp d) q) None (at_number t.by_dial.entries q)) fs (ap (told held_front_of) found) kept.front;
  counts = λ q. cs q ∙ rw (kept.counts q) (sym (ap (count_where (is_held_by q)) (ap values_of entries ∙ values_less (λ x. x.dial) d t.by_dial.entries kept.keyed)
      ∙ count_less (is_held_by q) (is_held_dial d) e (held_rows t) (sym (values_found (λ x. x.dial) d t.by_dial.entries kept.keyed) ∙ found)));
}

pub held_same : (t t' : Inside) → HeldIsKept t → t'.by_dial.entries ≡ t.by_dial.entries
    → ((k : ℕ × ℤ) → at_key signed_pair_cmp t'.by_connect.entries k ≡ at_key signed_pair_cmp t.by_connect.entries k)
    → ((k : ℕ × ℕ) → at_key pair_cmp t'.by_front.entries k ≡ at_key pair_cmp t.by_front.entries k)
    → ((q : ℕ) → count_at t'.counts.entries q ≡ count_at t.counts.entries q)
    → HeldIsKept t'
held_same t t' kept entries rs fs cs = record {
  ordered = rw entries kept.ordered;
  keyed = rw entries kept.keyed;
  fits = λ q x h. kept.fits q x (ap (λ es. at_number es q) (sym entries) ∙ h);
  connect = indexed_same _ _ _ _ (λ q. ap (λ es. told connect_of (at_number es q)) entries) rs kept.connect;
  front = indexed_same _ _ _ _ (λ q. ap (λ es. told held_front_of (at_number es q)) entries) fs kept.front;
  counts = λ q. cs q ∙ kept.counts q ∙ ap (λ es. count_where (is_held_by q) (values_of es)) (sym entries);
}

-- the entry of a dial is changed, and its key of an index stays
same_told : {K : Type 0} (tells : HeldEntry → Option K) (es : List (ℕ × HeldEntry)) (d q : ℕ) (e w : HeldEntry) (b : Bool) → is_at (nat_cmp d) q ≡ b → at_number es d ≡ Some e → tells w ≡ tells e
    → told tells (cond b (Some w) (at_number es q)) ≡ told tells (at_number es q)
same_told tells es d q e w true h found same = let m = same_number d q h in same ∙ sym (ap (told tells) (ap (at_number es) (sym m) ∙ found))
same_told tells es d q e w false h found same = refl

keep_pair : (o : Option ℕ) (d : ℕ) (k : ℕ × ℕ) (i : Option ℕ) → cond (hits pair_cmp (pair_of None d) k) None i ≡ i
keep_pair o d k i = refl

front_index : (t t' : Inside) → HeldIsKept t → (d : ℕ) (e : HeldEntry) (keep : Bool)
    → at_number t.by_dial.entries d ≡ Some e
    → ((q : ℕ) → at_number t'.by_dial.entries q ≡ cond (is_at (nat_cmp d) q) (Some (closed_entry keep e)) (at_number t.by_dial.entries q))
    → ((k : ℕ × ℕ) → at_key pair_cmp t'.by_front.entries k ≡ cond (hits pair_cmp (pair_of (cond keep None e.front) e.dial) k) None (at_key pair_cmp t.by_front.entries k))
    → Indexes (λ q. told held_front_of (at_number t'.by_dial.entries q)) (at_key pair_cmp t'.by_front.entries)
front_index t t' kept d e true found ds fs = indexed_same _ _ _ _ (λ q. ap (told held_front_of) (ds q) ∙ same_told held_front_of t.by_dial.entries d q e (closed_entry true e) (is_at (nat_cmp d) q) refl found refl) fs kept.front
front_index t t' kept d e false found ds fs = indexed_less pair_cmp pair_total pair_exact _ _ _ _ d (held_front_of e)
    (λ q. ap (told held_front_of) (ds q) ∙ told_cond held_front_of (is_at (nat_cmp d) q) (Some (closed_entry false e)) (at_number t.by_dial.entries q)) fs (ap (told held_front_of) found) kept.front

count_closed : (n m : ℕ) (o : Option ℕ) (q : ℕ) (keep : Bool) → m + cond (has_front o q) 1 0 ≡ n + cond (has_front (cond keep o None) q) 1 0 → m ≡ cond (has_front (cond keep None o) q) (n - 1) n
count_closed n m o q true h = omega arith
count_closed n m o q false h = count_if (has_front o q) h
  where
    count_if : (b : Bool) → m + cond b 1 0 ≡ n + 0 → m ≡ cond b (n - 1) n
    count_if true h = omega arith
    count_if false h = omega arith

pub held_closed : (t t' : Inside) → HeldIsKept t → (e : HeldEntry) (keep : Bool)
    → at_number t.by_dial.entries e.dial ≡ Some e
    → t'.by_dial.entries ≡ set_value (is_at (nat_cmp e.dial)) t.by_dial.entries (closed_entry keep e)
    → ((q : ℕ) → at_number t'.by_dial.entries q ≡ cond (is_at (nat_cmp e.dial) q) (Some (closed_entry keep e)) (at_number t.by_dial.entries q))
    → ((k : ℕ × ℤ) → at_key signed_pair_cmp t'.by_connect.entries k ≡ at_key signed_pair_cmp t.by_connect.entries k)
    → ((k : ℕ × ℕ) → at_key pair_cmp t'.by_front.entries k ≡ cond (hits pair_cmp (pair_of (cond keep None e.front) e.dial) k) None (at_key pair_cmp t.by_front.entries k))
    → ((q : ℕ) → count_at t'.counts.entries q ≡ cond (has_front (cond keep None e.front) q) (count_at t.counts.entries q - 1) (count_at t.counts.entries q))
    → HeldIsKept t'
held_closed t t' kept e keep found entries ds rs fs cs = record {
  ordered = rw (entries, keys-set_value (is_at (nat_cmp e.dial)) t.by_dial.entries (closed_entry keep e)) kept.ordered;
  keyed = rw entries (keyed_put (λ x. x.dial) e.dial (closed_entry keep e) t.by_dial.entries refl kept.keyed);
  fits = λ q x h. fits_more t kept (closed_entry keep e) e.dial q x (is_at (nat_cmp e.dial) q) (kept.fits e.dial e found) (sym (ds q) ∙ h);
  connect = indexed_same _ _ _ _ (λ q. ap (told connect_of) (ds q) ∙ same_told connect_of t.by_dial.entries e.dial q e (closed_entry keep e) (is_at (nat_cmp e.dial) q) refl found refl) rs kept.connect;
  front = front_index t t' kept e.dial e keep found ds fs;
  counts = λ q. cs q ∙ rw (kept.counts q) (sym (ap (λ es. count_where (is_held_by q) (values_of es)) entries
      ∙ count_closed (count_where (is_held_by q) (held_rows t)) _ e.front q keep (count_put (is_held_by q) e.dial e (closed_entry keep e) t.by_dial.entries found)));
}

-- ---- the list after a change
pub rows_more : (t : Inside) → HeldIsKept t → (e : HeldEntry) (es : List (ℕ × HeldEntry)) → es ≡ insert_entry nat_cmp t.by_dial.entries e.dial e → first_where (is_held_dial e.dial) (held_rows t) ≡ None → values_of es ≡ in_place (λ x. x.dial) e (held_rows t)
rows_more t kept e es entries new_dial = ap values_of entries ∙ values_more (λ x. x.dial) e.dial e t.by_dial.entries refl kept.keyed (lacks_dial t kept e.dial new_dial)

same_bool : (b c : Bool) → (b ≡ true → c ≡ true) → (c ≡ true → b ≡ true) → b ≡ c
same_bool true c f g = sym (f refl)
same_bool false true f g = g refl
same_bool false false f g = refl

-- the test of a connection passes exactly the entry that the index finds
pub held_test : (t : Inside) → HeldIsKept t → (l : ℕ) (c : ℤ) (d : ℕ) → at_key signed_pair_cmp t.by_connect.entries (l, c) ≡ Some d → (r : ℕ) (v : HeldEntry) → at_number t.by_dial.entries r ≡ Some v → is_held l c v ≡ is_at (nat_cmp d) r
held_test t kept l c d h r v f = same_bool (is_held l c v) (is_at (nat_cmp d) r)
    (λ p. let e = kept.connect.finds r (l, c) (ap (told connect_of) f ∙ same_connect v l c p) in let m : d ≡ r = cc in subst (λ x. is_at (nat_cmp d) x ≡ true) m (own_number d))
    (λ p.
    let m = same_number d r p in
    let k = kept.connect.holds (l, c) d h in
    let found : at_number t.by_dial.entries d ≡ Some v = ap (at_number t.by_dial.entries) m ∙ f in
    connect_same v l c (sym (ap (told connect_of) found) ∙ k))

without_same : (find : ℕ → Option HeldEntry) (p r : HeldEntry → Bool) (es : List (ℕ × HeldEntry)) → AreFound find es → ((q : ℕ) (v : HeldEntry) → find q ≡ Some v → p v ≡ r v) → without p (values_of es) ≡ without r (values_of es)
without_same find p r [] f h = refl
without_same find p r (x ∷ xs) f h = without_here (p x.1) (r x.1) (h x.0 x.1 f.0) (without_same find p r xs f.1 h)
  where
    without_here : (b c : Bool) → b ≡ c → without p (values_of xs) ≡ without r (values_of xs) → cond b (values_of xs) (x.1 ∷ without p (values_of xs)) ≡ cond c (values_of xs) (x.1 ∷ without r (values_of xs))
    without_here true true e h = refl
    without_here true false e h = absurd cc
    without_here false true e h = absurd cc
    without_here false false e h = ap (λ l. x.1 ∷ l) h

pub rows_less : (t : Inside) → HeldIsKept t → (l : ℕ) (c : ℤ) (d : ℕ) (es : List (ℕ × HeldEntry)) → at_key signed_pair_cmp t.by_connect.entries (l, c) ≡ Some d → es ≡ remove_entry (is_at (nat_cmp d)) t.by_dial.entries → values_of es ≡ without (is_held l c) (held_rows t)
rows_less t kept l c d es h entries =
    ap values_of entries ∙ values_less (λ x. x.dial) d t.by_dial.entries kept.keyed
    ∙ sym (without_same (at_number t.by_dial.entries) (is_held l c) (is_held_dial d) t.by_dial.entries (all_found t.by_dial.entries kept.ordered)
    (λ q v f. held_test t kept l c d h q v f ∙ number_test d v.dial q (keyed_at (λ x. x.dial) q v t.by_dial.entries kept.keyed f)))

pub rows_closed : (t : Inside) → HeldIsKept t → (l : ℕ) (c : ℤ) (keep : Bool) (e : HeldEntry) (es : List (ℕ × HeldEntry)) → at_key signed_pair_cmp t.by_connect.entries (l, c) ≡ Some e.dial → at_number t.by_dial.entries e.dial ≡ Some e
    → es ≡ set_value (is_at (nat_cmp e.dial)) t.by_dial.entries (closed_entry keep e) → values_of es ≡ map (closed_at l c keep) (held_rows t)
rows_closed t kept l c keep e es h found entries =
    ap values_of entries ∙ sym (map_put (at_number t.by_dial.entries) e.dial (is_held l c) (closed_entry keep) e t.by_dial.entries (all_found t.by_dial.entries kept.ordered) kept.ordered (λ r v f. held_test t kept l c e.dial h r v f) found)

-- an entry that the list has for a connection stands under its dial
pub stands_under : (t : Inside) → HeldIsKept t → (l : ℕ) (c : ℤ) (e : HeldEntry) → first_where (is_held l c) (held_rows t) ≡ Some e → (at_key signed_pair_cmp t.by_connect.entries (l, c) ≡ Some e.dial) × (at_number t.by_dial.entries e.dial ≡ Some e)
stands_under t kept l c e h = stands_if (at_key signed_pair_cmp t.by_connect.entries (l, c)) (connect_found t kept l c ∙ h)
  where
    stands_if : (i : Option ℕ) → entry_at t.by_dial.entries i ≡ Some e → (i ≡ Some e.dial) × (at_number t.by_dial.entries e.dial ≡ Some e)
    stands_if None f = absurd cc
    stands_if (Some q) f = let m = keyed_at (λ x. x.dial) q e t.by_dial.entries kept.keyed f in (ap Some (sym m), ap (at_number t.by_dial.entries) m ∙ f)

-- ---- the rollback of an insertion
pub connect_back : (t : Inside) → HeldIsKept t → (l d : ℕ) (c : ℤ) → first_where (is_held l c) (held_rows t) ≡ None → (index index' : List ((ℕ × ℤ) × ℕ))
    → ((k : ℕ × ℤ) → at_key signed_pair_cmp index k ≡ cond (is_at (signed_pair_cmp (l, c)) k) (Some d) (at_key signed_pair_cmp t.by_connect.entries k))
    → ((k : ℕ × ℤ) → at_key signed_pair_cmp index' k ≡ cond (is_at (signed_pair_cmp (l, c)) k) None (at_key signed_pair_cmp index k))
    → (k : ℕ × ℤ) → at_key signed_pair_cmp index' k ≡ at_key signed_pair_cmp t.by_connect.entries k
connect_back t kept l d c new index index' is back = taken_back signed_pair_cmp signed_pair_total signed_pair_exact _ _ _ d (l, c) (lacks_connect t kept l c new) is back

pub front_back : (t : Inside) → HeldIsKept t → (o : Option ℕ) (d : ℕ) → first_where (is_held_dial d) (held_rows t) ≡ None → (index index' : List ((ℕ × ℕ) × ℕ))
    → ((k : ℕ × ℕ) → at_key pair_cmp index k ≡ cond (hits pair_cmp (pair_of o d) k) (Some d) (at_key pair_cmp t.by_front.entries k))
    → ((k : ℕ × ℕ) → at_key pair_cmp index' k ≡ cond (hits pair_cmp (pair_of o d) k) None (at_key pair_cmp index k))
    → (k : ℕ × ℕ) → at_key pair_cmp index' k ≡ at_key pair_cmp t.by_front.entries k
front_back t kept None d new index index' is back k = back k ∙ is k
front_back t kept (Some a) d new index index' is back k = taken_back pair_cmp pair_total pair_exact (at_key pair_cmp t.by_front.entries) (at_key pair_cmp index) (at_key pair_cmp index') d (a, d) (lacks_front t kept a d new) is back k

pub few_of_front : (t : Inside) → HeldIsKept t → (f n : ℕ) → n ≡ length t.by_dial.entries → n < 2 ^ 63 → count_at t.counts.entries f < 2 ^ 63
few_of_front t kept f n e small = let l = count_le_length (is_held_by f) (held_rows t) in let m = length-values_of t.by_dial.entries in let k = kept.counts f in omega arith

pub without_none : (p : HeldEntry → Bool) (xs : List HeldEntry) → first_where p xs ≡ None → without p xs ≡ xs
without_none p [] h = refl
without_none p (x ∷ xs) h = none_here (p x) h (λ l. without_none p xs l)
  where
    none_here : (b : Bool) → cond b (Some x) (first_where p xs) ≡ None → (first_where p xs ≡ None → without p xs ≡ xs) → cond b xs (x ∷ without p xs) ≡ x ∷ xs
    none_here true h later = absurd cc
    none_here false h later = ap (λ l. x ∷ l) (later h)

gone_here : (l : ℕ) (c : ℤ) (d r : ℕ) (v : HeldEntry) (o : Option HeldEntry) (b : Bool) → is_at (nat_cmp d) r ≡ b → cond b None o ≡ Some v → (o ≡ Some v → is_held l c v ≡ is_at (nat_cmp d) r) → is_held l c v ≡ false
gone_here l c d r v o true e h test = absurd cc
gone_here l c d r v o false e h test = test h ∙ e

pub rows_gone : (t : Inside) → HeldIsKept t → (l : ℕ) (c : ℤ) (d : ℕ) (es : List (ℕ × HeldEntry)) → at_key signed_pair_cmp t.by_connect.entries (l, c) ≡ Some d → IsStrictlySortedBy nat_cmp (keys_of es)
    → ((q : ℕ) → at_number es q ≡ cond (is_at (nat_cmp d) q) None (at_number t.by_dial.entries q)) → first_where (is_held l c) (values_of es) ≡ None
rows_gone t kept l c d es h sorted ds = first_none (at_number es) (is_held l c) es (all_found es sorted)
    (λ r v f. gone_here l c d r v (at_number t.by_dial.entries r) (is_at (nat_cmp d) r) refl (sym (ds r) ∙ f) (λ g. held_test t kept l c d h r v g))

apart_here : (t : Inside) → HeldIsKept t → (x : ℕ × HeldEntry) (xs : List (ℕ × HeldEntry)) → at_number t.by_dial.entries x.0 ≡ Some x.1
    → ((q : ℕ) (v : HeldEntry) → at_number xs q ≡ Some v → (is_at (nat_cmp q) x.0 ≡ false) × (at_number t.by_dial.entries q ≡ Some v))
    → (r : ℕ) (v : HeldEntry) → at_number xs r ≡ Some v → is_held x.1.link x.1.connect_id v ≡ false
apart_here t kept x xs found later r v f = false_unless (is_held x.1.link x.1.connect_id v)
    (λ p.
    let m = later r v f in
    let e = kept.connect.finds r (x.1.link, x.1.connect_id) (ap (told connect_of) m.1 ∙ same_connect v x.1.link x.1.connect_id p) in
    let k = kept.connect.finds x.0 (x.1.link, x.1.connect_id) (ap (told connect_of) found) in
    let n : r ≡ x.0 = cc in
    let z : is_at (nat_cmp r) x.0 ≡ true = subst (λ y. is_at (nat_cmp r) y ≡ true) n (own_number r) in
    let u = m.0 in
    cc)

apart_in : (t : Inside) → HeldIsKept t → (es : List (ℕ × HeldEntry)) → IsStrictlySortedBy nat_cmp (keys_of es) → ((q : ℕ) (v : HeldEntry) → at_number es q ≡ Some v → at_number t.by_dial.entries q ≡ Some v) → AreApart (values_of es)
apart_in t kept [] s h = tt
apart_in t kept (x ∷ xs) s h =
    let tails : (q : ℕ) (v : HeldEntry) → at_number xs q ≡ Some v → (is_at (nat_cmp q) x.0 ≡ false) × (at_number t.by_dial.entries q ≡ Some v)
    = λ q v f. let e = past_head q x xs v s f (is_at (nat_cmp q) x.0) refl in (e, h q v (lookup_tail (is_at (nat_cmp q)) x xs e ∙ f)) in (
      first_none (at_number xs) (is_held x.1.link x.1.connect_id) xs (all_found xs (sorted_tail nat_cmp x.0 (keys_of xs) s))
          (apart_here t kept x xs (h x.0 x.1 (lookup_head (is_at (nat_cmp x.0)) x xs (own_number x.0))) tails),
      apart_in t kept xs (sorted_tail nat_cmp x.0 (keys_of xs) s) (λ q v f. (tails q v f).1),
    )

pub rows_apart : (t : Inside) → HeldIsKept t → AreApart (held_rows t)
rows_apart t kept = apart_in t kept t.by_dial.entries kept.ordered (λ q v f. f)
