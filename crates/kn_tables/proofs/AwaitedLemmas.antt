-- What each index of the awaited dials finds.
use Rattle.std.proofs.Common.{◌≡◌, ℕ, ℤ, ◌+◌, ◌-◌, ◌<◌, ◌^◌, length, unwrap_or, Bool, true, false, cond, eqb, List, Option, Some, None, refl, sym, ap, ◌∙◌, arith, ◌&&◌}
use Rattle.std.specs.Ordering.{int_eq, nat_cmp}
use Rattle.std.specs.Map.{values_of}
use Rattle.std.proofs.lemmas.Bool.Decides.{Decides-eqb, Decides-int_eq}
use Rattle.kn_tables.specs.declared.awaited.Awaited.TheInside.{Inside}
use Rattle.kn_tables.specs.declared.awaited_entry.AwaitedEntry.{AwaitedEntry}
use Rattle.kn_tables.specs.Lists.{first_where}
use Rattle.kn_tables.specs.Awaiting.{is_dial, is_random, is_of_front, is_of_link}
use Rattle.kn_tables.specs.Indexed.{at_number, at_key, entry_at, told, pair_cmp, signed_pair_cmp, FirstAt}
use Rattle.kn_tables.specs.Keeping.{AwaitedIsKept, awaited_rows, random_of, front_of, link_of}
use Rattle.std.specs.Map.{keys_of, remove_entry}
use Rattle.std.specs.List.Sorted.{IsStrictlySortedBy}
use Rattle.std.specs.BTreeMap.{is_at, insert_entry}
use Rattle.kn_tables.specs.Lists.{count_where, in_place, without}
use Rattle.kn_tables.specs.Indexed.{count_at}
use Rattle.kn_tables.proofs.IndexLemmas.{found_first, first_found, indexed_more, indexed_less, indexed_same, told_cond, none_found, fresh_pair, hits_fresh, keyed_more, keyed_less, count_more, count_less, values_more, values_less, values_found, pair_total, pair_exact, signed_pair_total, signed_pair_exact, same_number, taken_back, count_le_length}
use Rattle.std.proofs.lemmas.Map.Entries.{length-values_of}

-- a test of a number and of a signed number
pub both_same : (a f : ℕ) (x r : ℤ) → (eqb a f && int_eq x r) ≡ true → (a ≡ f) × (x ≡ r)
both_same a f x r h = both (eqb a f) (int_eq x r) refl refl h
  where
    both : (b c : Bool) → eqb a f ≡ b → int_eq x r ≡ c → (b && c) ≡ true → (a ≡ f) × (x ≡ r)
    both true true e i h = ((Decides-eqb a f).0 e, (Decides-int_eq x r).0 i)
    both true false e i h = absurd cc
    both false c e i h = absurd cc

pub same_both : (a f : ℕ) (x r : ℤ) → a ≡ f → x ≡ r → (eqb a f && int_eq x r) ≡ true
same_both a f x r e i = rw ((Decides-eqb a f).1 e, (Decides-int_eq x r).1 i) refl

pub same_random : (v : AwaitedEntry) (f : ℕ) (r : ℤ) → is_random f r v ≡ true → random_of v ≡ Some (f, r)
same_random v f r h = let m = both_same v.front f v.random r h in rw (m.0, m.1) refl

pub random_same : (v : AwaitedEntry) (f : ℕ) (r : ℤ) → random_of v ≡ Some (f, r) → is_random f r v ≡ true
random_same v f r h = let m : ◌≡◌ {A = ℕ × ℤ} (v.front, v.random) (f, r) = cc in same_both v.front f v.random r (ap (λ p. p.0) m) (ap (λ p. p.1) m)

pub same_pair : (a b c : ℕ) → eqb a c ≡ true → ◌≡◌ {A = Option (ℕ × ℕ)} (Some (a, b)) (Some (c, b))
same_pair a b c h = let m : a ≡ c = (Decides-eqb a c).0 h in rw m refl

pub pair_same : (a b c d : ℕ) → ◌≡◌ {A = Option (ℕ × ℕ)} (Some (a, b)) (Some (c, d)) → (eqb a c ≡ true) × (b ≡ d)
pair_same a b c d h = let m : ◌≡◌ {A = ℕ × ℕ} (a, b) (c, d) = cc in ((Decides-eqb a c).1 (ap (λ p. p.0) m), ap (λ p. p.1) m)

pub random_found : (t : Inside) → AwaitedIsKept t → (f : ℕ) (r : ℤ) → entry_at t.by_dial.entries (at_key signed_pair_cmp t.by_random.entries (f, r)) ≡ first_where (is_random f r) (awaited_rows t)
random_found t kept f r = found_first random_of (at_key signed_pair_cmp t.by_random.entries) t.by_dial.entries (is_random f r) (f, r) kept.ordered kept.random (λ v h. same_random v f r h) (λ v h. random_same v f r h)

pub front_found : (t : Inside) → AwaitedIsKept t → (f : ℕ) (i : Option ℕ) → FirstAt t.by_front.entries f i → entry_at t.by_dial.entries i ≡ first_where (is_of_front f) (awaited_rows t)
front_found t kept f i h = first_found (λ e. e.dial) front_of t.by_front.entries t.by_dial.entries (is_of_front f) f kept.ordered kept.keyed kept.front (λ v t. same_pair v.front v.dial f t) (λ v b t. pair_same v.front v.dial f b t) i h

pub link_found : (t : Inside) → AwaitedIsKept t → (l : ℕ) (i : Option ℕ) → FirstAt t.by_link.entries l i → entry_at t.by_dial.entries i ≡ first_where (is_of_link l) (awaited_rows t)
link_found t kept l i h = first_found (λ e. e.dial) link_of t.by_link.entries t.by_dial.entries (is_of_link l) l kept.ordered kept.keyed kept.link (λ v t. same_pair v.link v.dial l t) (λ v b t. pair_same v.link v.dial l b t) i h

pub second_is : (a b : ℕ) (k : ℕ × ℕ) → ◌≡◌ {A = Option (ℕ × ℕ)} (Some (a, b)) (Some k) → k.1 ≡ b
second_is a b k h = let m : ◌≡◌ {A = ℕ × ℕ} (a, b) k = cc in sym (ap (λ p. p.1) m)

-- ---- the invariant through a change
pub lacks_dial : (t : Inside) → AwaitedIsKept t → (d : ℕ) → first_where (is_dial d) (awaited_rows t) ≡ None → at_number t.by_dial.entries d ≡ None
lacks_dial t kept d new = values_found (λ x. x.dial) d t.by_dial.entries kept.keyed ∙ new

pub lacks_random : (t : Inside) → AwaitedIsKept t → (f : ℕ) (r : ℤ) → first_where (is_random f r) (awaited_rows t) ≡ None → at_key signed_pair_cmp t.by_random.entries (f, r) ≡ None
lacks_random t kept f r new = none_found random_of (at_key signed_pair_cmp t.by_random.entries) t.by_dial.entries (f, r) kept.random (random_found t kept f r ∙ new)

pub lacks_front : (t : Inside) → AwaitedIsKept t → (f d : ℕ) → first_where (is_dial d) (awaited_rows t) ≡ None → at_key pair_cmp t.by_front.entries (f, d) ≡ None
lacks_front t kept f d new = fresh_pair (λ x. x.dial) front_of (at_key pair_cmp t.by_front.entries) t.by_dial.entries f d kept.keyed kept.front (λ v k h. second_is v.front v.dial k h) (lacks_dial t kept d new)

pub lacks_link : (t : Inside) → AwaitedIsKept t → (l d : ℕ) → first_where (is_dial d) (awaited_rows t) ≡ None → at_key pair_cmp t.by_link.entries (l, d) ≡ None
lacks_link t kept l d new = fresh_pair (λ x. x.dial) link_of (at_key pair_cmp t.by_link.entries) t.by_dial.entries l d kept.keyed kept.link (λ v k h. second_is v.link v.dial k h) (lacks_dial t kept d new)

-- an entry under a new dial and a new random
pub awaited_more : (t t' : Inside) → AwaitedIsKept t → (e : AwaitedEntry)
    → IsStrictlySortedBy nat_cmp (keys_of t'.by_dial.entries)
    → t'.by_dial.entries ≡ insert_entry nat_cmp t.by_dial.entries e.dial e
    → ((q : ℕ) → at_number t'.by_dial.entries q ≡ cond (is_at (nat_cmp e.dial) q) (Some e) (at_number t.by_dial.entries q))
    → ((k : ℕ × ℤ) → at_key signed_pair_cmp t'.by_random.entries k ≡ cond (is_at (signed_pair_cmp (e.front, e.random)) k) (Some e.dial) (at_key signed_pair_cmp t.by_random.entries k))
    → ((k : ℕ × ℕ) → at_key pair_cmp t'.by_front.entries k ≡ cond (is_at (pair_cmp (e.front, e.dial)) k) (Some e.dial) (at_key pair_cmp t.by_front.entries k))
    → ((k : ℕ × ℕ) → at_key pair_cmp t'.by_link.entries k ≡ cond (is_at (pair_cmp (e.link, e.dial)) k) (Some e.dial) (at_key pair_cmp t.by_link.entries k))
    → ((q : ℕ) → count_at t'.counts.entries q ≡ cond (eqb e.front q) (count_at t.counts.entries q + 1) (count_at t.counts.entries q))
    → first_where (is_dial e.dial) (awaited_rows t) ≡ None
    → first_where (is_random e.front e.random) (awaited_rows t) ≡ None
    → AwaitedIsKept t'
awaited_more t t' kept e sorted entries ds rs fs ls cs new_dial new_random =
    let lacks = lacks_dial t kept e.dial new_dial in
    let no_random = lacks_random t kept e.front e.random new_random in
    let no_front = lacks_front t kept e.front e.dial new_dial in
    let no_link = lacks_link t kept e.link e.dial new_dial in
    record {
      ordered = sorted;
      keyed = rw entries (keyed_more (λ x. x.dial) e.dial e t.by_dial.entries refl kept.keyed);
      random = indexed_more signed_pair_cmp signed_pair_total signed_pair_exact _ _ _ _ e.dial (random_of e)
          (λ q. ap (told random_of) (ds q) ∙ told_cond random_of (is_at (nat_cmp e.dial) q) (Some e) (at_number t.by_dial.entries q)) rs (ap (told random_of) lacks) (hits_fresh signed_pair_cmp signed_pair_exact _ _ no_random) kept.random;
      front = indexed_more pair_cmp pair_total pair_exact _ _ _ _ e.dial (front_of e)
          (λ q. ap (told front_of) (ds q) ∙ told_cond front_of (is_at (nat_cmp e.dial) q) (Some e) (at_number t.by_dial.entries q)) fs (ap (told front_of) lacks) (hits_fresh pair_cmp pair_exact _ _ no_front) kept.front;
      link = indexed_more pair_cmp pair_total pair_exact _ _ _ _ e.dial (link_of e)
          (λ q. ap (told link_of) (ds q) ∙ told_cond link_of (is_at (nat_cmp e.dial) q) (Some e) (at_number t.by_dial.entries q)) ls (ap (told link_of) lacks) (hits_fresh pair_cmp pair_exact _ _ no_link) kept.link;
      counts = λ q. cs q ∙ rw (kept.counts q) (sym (ap (count_where (is_of_front q)) (ap values_of entries ∙ values_more (λ x. x.dial) e.dial e t.by_dial.entries refl kept.keyed lacks) ∙ count_more (is_of_front q) (λ x. x.dial) e (awaited_rows t)));
    }

-- the entry of a dial goes
pub awaited_less : (t t' : Inside) → AwaitedIsKept t → (d : ℕ) (e : AwaitedEntry)
    → at_number t.by_dial.entries d ≡ Some e
    → IsStrictlySortedBy nat_cmp (keys_of t'.by_dial.entries)
    → t'.by_dial.entries ≡ remove_entry (is_at (nat_cmp d)) t.by_dial.entries
    → ((q : ℕ) → at_number t'.by_dial.entries q ≡ cond (is_at (nat_cmp d) q) None (at_number t.by_dial.entries q))
    → ((k : ℕ × ℤ) → at_key signed_pair_cmp t'.by_random.entries k ≡ cond (is_at (signed_pair_cmp (e.front, e.random)) k) None (at_key signed_pair_cmp t.by_random.entries k))
    → ((k : ℕ × ℕ) → at_key pair_cmp t'.by_front.entries k ≡ cond (is_at (pair_cmp (e.front, e.dial)) k) None (at_key pair_cmp t.by_front.entries k))
    → ((k : ℕ × ℕ) → at_key pair_cmp t'.by_link.entries k ≡ cond (is_at (pair_cmp (e.link, e.dial)) k) None (at_key pair_cmp t.by_link.entries k))
    → ((q : ℕ) → count_at t'.counts.entries q ≡ cond (eqb e.front q) (count_at t.counts.entries q - 1) (count_at t.counts.entries q))
    → AwaitedIsKept t'
awaited_less t t' kept d e found sorted entries ds rs fs ls cs = record {
  ordered = sorted;
  keyed = rw entries (keyed_less (λ x. x.dial) d t.by_dial.entries kept.keyed);
  random = indexed_less signed_pair_cmp signed_pair_total signed_pair_exact _ _ _ _ d (random_of e)
      (λ q. ap (told random_of) (ds q) ∙ told_cond random_of (is_at (nat_cmp d) q) None (at_number t.by_dial.entries q)) rs (ap (told random_of) found) kept.random;
  front = indexed_less pair_cmp pair_total pair_exact _ _ _ _ d (front_of e)
      (λ q. ap (told front_of) (ds q) ∙ told_cond front_of (is_at (nat_cmp d) q) None (at_number t.by_dial.entries q)) fs (ap (told front_of) found) kept.front;
  link = indexed_less pair_cmp pair_total pair_exact _ _ _ _ d (link_of e)
      (λ q. ap (told link_of) (ds q) ∙ told_cond link_of (is_at (nat_cmp d) q) None (at_number t.by_dial.entries q)) ls (ap (told link_of) found) kept.link;
  counts = λ q. cs q ∙ rw (kept.counts q) (sym (ap (count_where (is_of_front q)) (ap values_of entries ∙ values_less (λ x. x.dial) d t.by_dial.entries kept.keyed)
      ∙ count_less (is_of_front q) (is_dial d) e (awaited_rows t) (sym (values_found (λ x. x.dial) d t.by_dial.entries kept.keyed) ∙ found)));
}

-- nothing that can be looked up changes
pub awaited_same : (t t' : Inside) → AwaitedIsKept t → t'.by_dial.entries ≡ t.by_dial.entries
    → ((k : ℕ × ℤ) → at_key signed_pair_cmp t'.by_random.entries k ≡ at_key signed_pair_cmp t.by_random.entries k)
    → ((k : ℕ × ℕ) → at_key pair_cmp t'.by_front.entries k ≡ at_key pair_cmp t.by_front.entries k)
    → ((k : ℕ × ℕ) → at_key pair_cmp t'.by_link.entries k ≡ at_key pair_cmp t.by_link.entries k)
    → ((q : ℕ) → count_at t'.counts.entries q ≡ count_at t.counts.entries q)
    → AwaitedIsKept t'
awaited_same t t' kept entries rs fs ls cs = record {
  ordered = rw entries kept.ordered;
  keyed = rw entries kept.keyed;
  random = indexed_same _ _ _ _ (λ q. ap (λ es. told random_of (at_number es q)) entries) rs kept.random;
  front = indexed_same _ _ _ _ (λ q. ap (λ es. told front_of (at_number es q)) entries) fs kept.front;
  link = indexed_same _ _ _ _ (λ q. ap (λ es. told link_of (at_number es q)) entries) ls kept.link;
  counts = λ q. cs q ∙ kept.counts q ∙ ap (λ es. count_where (is_of_front q) (values_of es)) (sym entries);
}

-- a count that is noted as it was
pub noted_same : (counts counts' : List (ℕ × ℕ)) (f n : ℕ) → n ≡ count_at counts f
    → ((q : ℕ) → at_number counts' q ≡ cond (is_at (nat_cmp f) q) (Some n) (at_number counts q)) → (q : ℕ) → count_at counts' q ≡ count_at counts q
noted_same counts counts' f n e updates q = noted_here (is_at (nat_cmp f) q) refl (updates q)
  where
    noted_here : (b : Bool) → is_at (nat_cmp f) q ≡ b → at_number counts' q ≡ cond b (Some n) (at_number counts q) → count_at counts' q ≡ count_at counts q
    noted_here true h u = let m = same_number f q h in ap (λ o. unwrap_or o 0) u ∙ e ∙ ap (count_at counts) m
    noted_here false h u = ap (λ o. unwrap_or o 0) u

-- the list after an entry came or went
pub rows_more : (t : Inside) → AwaitedIsKept t → (e : AwaitedEntry) (es : List (ℕ × AwaitedEntry)) → es ≡ insert_entry nat_cmp t.by_dial.entries e.dial e → first_where (is_dial e.dial) (awaited_rows t) ≡ None → values_of es ≡ in_place (λ x. x.dial) e (awaited_rows t)
rows_more t kept e es entries new_dial = ap values_of entries ∙ values_more (λ x. x.dial) e.dial e t.by_dial.entries refl kept.keyed (values_found (λ x. x.dial) e.dial t.by_dial.entries kept.keyed ∙ new_dial)

pub rows_less : (t : Inside) → AwaitedIsKept t → (d : ℕ) (es : List (ℕ × AwaitedEntry)) → es ≡ remove_entry (is_at (nat_cmp d)) t.by_dial.entries → values_of es ≡ without (is_dial d) (awaited_rows t)
rows_less t kept d es entries = ap values_of entries ∙ values_less (λ x. x.dial) d t.by_dial.entries kept.keyed

pub rows_gone : (t : Inside) → AwaitedIsKept t → (d : ℕ) (es : List (ℕ × AwaitedEntry)) → es ≡ remove_entry (is_at (nat_cmp d)) t.by_dial.entries → at_number es d ≡ None → first_where (is_dial d) (values_of es) ≡ None
rows_gone t kept d es entries gone = sym (values_found (λ x. x.dial) d es (rw entries (keyed_less (λ x. x.dial) d t.by_dial.entries kept.keyed))) ∙ gone

pub few_of_front : (t : Inside) → AwaitedIsKept t → (f n : ℕ) → n ≡ length t.by_dial.entries → n < 2 ^ 63 → count_at t.counts.entries f < 2 ^ 63
few_of_front t kept f n e small = let l = count_le_length (is_of_front f) (awaited_rows t) in let m = length-values_of t.by_dial.entries in let k = kept.counts f in omega arith

-- each map after its note was taken out again
pub random_back : (t : Inside) → AwaitedIsKept t → (f d : ℕ) (r : ℤ) → first_where (is_random f r) (awaited_rows t) ≡ None → (index index' : List ((ℕ × ℤ) × ℕ))
    → ((k : ℕ × ℤ) → at_key signed_pair_cmp index k ≡ cond (is_at (signed_pair_cmp (f, r)) k) (Some d) (at_key signed_pair_cmp t.by_random.entries k))
    → ((k : ℕ × ℤ) → at_key signed_pair_cmp index' k ≡ cond (is_at (signed_pair_cmp (f, r)) k) None (at_key signed_pair_cmp index k))
    → (k : ℕ × ℤ) → at_key signed_pair_cmp index' k ≡ at_key signed_pair_cmp t.by_random.entries k
random_back t kept f d r new index index' is back = taken_back signed_pair_cmp signed_pair_total signed_pair_exact _ _ _ d (f, r) (lacks_random t kept f r new) is back

pub pair_back : (old index index' : List ((ℕ × ℕ) × ℕ)) (a d : ℕ) → at_key pair_cmp old (a, d) ≡ None
    → ((k : ℕ × ℕ) → at_key pair_cmp index k ≡ cond (is_at (pair_cmp (a, d)) k) (Some d) (at_key pair_cmp old k))
    → ((k : ℕ × ℕ) → at_key pair_cmp index' k ≡ cond (is_at (pair_cmp (a, d)) k) None (at_key pair_cmp index k))
    → (k : ℕ × ℕ) → at_key pair_cmp index' k ≡ at_key pair_cmp old k
pair_back old index index' a d new is back = taken_back pair_cmp pair_total pair_exact _ _ _ d (a, d) new is back
