-- A table that lies in an ordered map by the numbers of its entries.
use Rattle.std.proofs.Common.{◌≡◌, ℕ, eqb, List, ◌∷◌, Some, None, refl, sym, ap, ◌∙◌}
use Rattle.std.specs.Ordering.{nat_cmp}
use Rattle.std.specs.List.Sorted.{IsStrictlySortedBy}
use Rattle.std.specs.Map.{keys_of, values_of, remove_entry, set_value}
use Rattle.std.specs.BTreeMap.{is_at, insert_entry}
use Rattle.std.proofs.lemmas.Map.{keys-set_value}
use Rattle.kn_tables.specs.Lists.{first_where, without, in_place}
use Rattle.kn_tables.specs.Indexed.{at_number}
use Rattle.kn_tables.proofs.IndexLemmas.{values_more, values_less, values_found, keyed_more, keyed_less, keyed_put, keyed_at, number_test, map_put, all_found}
use Rattle.kn_edge_core.specs.EntryLists.{changed_where}
use Rattle.kn_edge_core.specs.Keeping.{IsInOrder}

-- the entry of a number
pub row_found : {E : Type 0} (number : E → ℕ) (q : ℕ) (es : List (ℕ × E)) → IsInOrder number es → at_number es q ≡ first_where (λ x. eqb (number x) q) (values_of es)
row_found number q es kept = values_found number q es kept.keyed

pub row_number : {E : Type 0} (number : E → ℕ) (q : ℕ) (e : E) (es : List (ℕ × E)) → IsInOrder number es → at_number es q ≡ Some e → number e ≡ q
row_number number q e es kept found = keyed_at number q e es kept.keyed found

-- one entry more
pub order_more : {E : Type 0} (number : E → ℕ) (e : E) (es es' : List (ℕ × E)) → IsInOrder number es → es' ≡ insert_entry nat_cmp es (number e) e → IsStrictlySortedBy nat_cmp (keys_of es') → IsInOrder number es'
order_more number e es es' kept entries sorted = record { ordered = sorted; keyed = rw entries (keyed_more number (number e) e es refl kept.keyed) }

pub rows_more : {E : Type 0} (number : E → ℕ) (e : E) (es es' : List (ℕ × E)) → IsInOrder number es → es' ≡ insert_entry nat_cmp es (number e) e → first_where (λ x. eqb (number x) (number e)) (values_of es) ≡ None → values_of es' ≡ in_place number e (values_of es)
rows_more number e es es' kept entries new = ap values_of entries ∙ values_more number (number e) e es refl kept.keyed (row_found number (number e) es kept ∙ new)

-- the entry of a number goes
pub order_less : {E : Type 0} (number : E → ℕ) (q : ℕ) (es es' : List (ℕ × E)) → IsInOrder number es → es' ≡ remove_entry (is_at (nat_cmp q)) es → IsStrictlySortedBy nat_cmp (keys_of es') → IsInOrder number es'
order_less number q es es' kept entries sorted = record { ordered = sorted; keyed = rw entries (keyed_less number q es kept.keyed) }

pub rows_less : {E : Type 0} (number : E → ℕ) (q : ℕ) (es es' : List (ℕ × E)) → IsInOrder number es → es' ≡ remove_entry (is_at (nat_cmp q)) es → values_of es' ≡ without (λ x. eqb (number x) q) (values_of es)
rows_less number q es es' kept entries = ap values_of entries ∙ values_less number q es kept.keyed

-- the first entry goes
pub order_first : {E : Type 0} (number : E → ℕ) (x : ℕ × E) (es es' : List (ℕ × E)) → IsInOrder number es → es ≡ x ∷ es' → IsStrictlySortedBy nat_cmp (keys_of es') → IsInOrder number es'
order_first number x es es' kept entries sorted = record { ordered = sorted; keyed = (rw entries at kept.keyed).1 }

-- the entry of a number changes
pub order_put : {E : Type 0} (number : E → ℕ) (q : ℕ) (w : E) (es es' : List (ℕ × E)) → IsInOrder number es → number w ≡ q → es' ≡ set_value (is_at (nat_cmp q)) es w → IsInOrder number es'
order_put number q w es es' kept same entries = record {
  ordered = rw (entries, keys-set_value (is_at (nat_cmp q)) es w) kept.ordered;
  keyed = rw entries (keyed_put number q w es same kept.keyed);
}

pub rows_put : {E : Type 0} (number : E → ℕ) (q : ℕ) (change : E → E) (e : E) (es es' : List (ℕ × E)) → IsInOrder number es → at_number es q ≡ Some e → es' ≡ set_value (is_at (nat_cmp q)) es (change e)
    → values_of es' ≡ changed_where (λ x. eqb (number x) q) change (values_of es)
rows_put number q change e es es' kept found entries =
    ap values_of entries
    ∙ sym (map_put (at_number es) q (λ x. eqb (number x) q) change e es (all_found es kept.ordered) kept.ordered
    (λ r v f. sym (number_test q (number v) r (keyed_at number r v es kept.keyed f))) found)
