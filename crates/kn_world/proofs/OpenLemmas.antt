-- An open tunnel, among all that are held or number by number.
use Rattle.std.proofs.Common.{◌≡◌, ℕ, zero, suc, ◌<◌, ◌≤◌, ◌==◌, Bool, true, false, ◌||◌, List, [], ◌∷◌, Option, Some, None, refl, sym, if◌then◌else◌, nat_le, arith}
use Rattle.std.proofs.lemmas.Bool.{eqb-true, eqb-false, eq-eqb, ne_eqb, leb-true, leb-false}
use Rattle.std.specs.List.{list_any}
use Rattle.kn_tables.specs.declared.held_entry.HeldEntry.{HeldEntry}
use Rattle.kn_tables.specs.Holding.{is_held_dial}
use Rattle.kn_tables.specs.Lists.{first_where, AreAbove, IsRising}
use Rattle.kn_world.specs.Views.{is_open_held, is_open_entry, has_open_below}

or_true : (a b : Bool) → b ≡ true → (a || b) ≡ true
or_true true b e = refl
or_true false b e = e

if_either : (b r : Bool) → (if b then true else r) ≡ true → (b ≡ false → r ≡ true) → (b || r) ≡ true
if_either true r e f = refl
if_either false r e f = f refl

same_bool : (a b : Bool) → (a ≡ true → b ≡ true) → (b ≡ true → a ≡ true) → a ≡ b
same_bool true b f g = sym (f refl)
same_bool false true f g = g refl
same_bool false false f g = refl

-- the first entry that passes a test is one of all
found_if : (x : HeldEntry) (b : Bool) (rest : Option HeldEntry) (others : Bool) → is_open_entry (if b then Some x else rest) ≡ true → (is_open_entry rest ≡ true → others ≡ true) → (is_open_held x || others) ≡ true
found_if x true rest others e f = rw e refl
found_if x false rest others e f = or_true (is_open_held x) others (f e)

first_any : (p : HeldEntry → Bool) (held : List HeldEntry) → is_open_entry (first_where p held) ≡ true → list_any is_open_held held ≡ true
first_any p [] e = e
first_any p (x ∷ xs) e = found_if x (p x) (first_where p xs) (list_any is_open_held xs) e (first_any p xs)

below_if : (b r goal : Bool) → (if b then true else r) ≡ true → (b ≡ true → goal ≡ true) → (r ≡ true → goal ≡ true) → goal ≡ true
below_if true r goal e f g = f refl
below_if false r goal e f g = g e

pub below_any : (n : ℕ) (held : List HeldEntry) → has_open_below n held ≡ true → list_any is_open_held held ≡ true
below_any zero held e = absurd (cc)
below_any (suc n) held e =
    below_if (is_open_entry (first_where (is_held_dial n) held)) (has_open_below n held) (list_any is_open_held held) e
    (first_any (is_held_dial n) held) (below_any n held)

-- ---- and back, where the dials rise and are below the number
above_if : (b d : ℕ) (x : HeldEntry) (t : Bool) (rest : Option HeldEntry) → (x.dial == d) ≡ t → b < x.dial → (is_open_entry rest ≡ true → b < d) → is_open_entry (if t then Some x else rest) ≡ true → b < d
above_if b d x true rest is less later e = let same : x.dial ≡ d = eqb-true x.dial d is in omega arith
above_if b d x false rest is less later e = later e

found_above : (b d : ℕ) (xs : List HeldEntry) → AreAbove (λ e. e.dial) b xs → is_open_entry (first_where (is_held_dial d) xs) ≡ true → b < d
found_above b d [] above e = absurd (cc)
found_above b d (x ∷ xs) above e = above_if b d x (x.dial == d) (first_where (is_held_dial d) xs) refl above.0 (found_above b d xs above.1) e

any_if : (x : HeldEntry) (xs : List HeldEntry) (b : Bool) → is_open_held x ≡ b → AreAbove (λ e. e.dial) x.dial xs → (b || list_any is_open_held xs) ≡ true
    → (list_any is_open_held xs ≡ true → (d : ℕ) × (is_open_entry (first_where (is_held_dial d) xs) ≡ true))
    → (d : ℕ) × (is_open_entry (first_where (is_held_dial d) (x ∷ xs)) ≡ true)
any_if x xs true is above e later = let same : (x.dial == x.dial) ≡ true = eq-eqb x.dial x.dial refl in (x.dial, rw same is)
any_if x xs false is above e later =
    let found : (d : ℕ) × (is_open_entry (first_where (is_held_dial d) xs) ≡ true) = later e in
    let less : x.dial < found.0 = found_above x.dial found.0 xs above found.1 in
    let other : (x.dial == found.0) ≡ false = ne_eqb x.dial found.0 (λ same. omega arith) in
    (found.0, rw other found.1)

any_first : (held : List HeldEntry) → IsRising (λ e. e.dial) held → list_any is_open_held held ≡ true → (d : ℕ) × (is_open_entry (first_where (is_held_dial d) held) ≡ true)
any_first [] rising e = absurd (cc)
any_first (x ∷ xs) rising e = any_if x xs (is_open_held x) refl rising.0 e (any_first xs rising.1)

at_if : (b r : Bool) → b ≡ true → (if b then true else r) ≡ true
at_if true r e = refl
at_if false r e = absurd (cc)

else_if : (b r : Bool) → r ≡ true → (if b then true else r) ≡ true
else_if true r e = refl
else_if false r e = e

at_or : (n d : ℕ) (held : List HeldEntry) (b : Bool) → (d == n) ≡ b → d < suc n → is_open_entry (first_where (is_held_dial d) held) ≡ true → (d < n → has_open_below n held ≡ true) → has_open_below (suc n) held ≡ true
at_or n d held true is less e later =
    let same : d ≡ n = eqb-true d n is in
    at_if (is_open_entry (first_where (is_held_dial n) held)) (has_open_below n held) (rw same at e)
at_or n d held false is less e later =
    let other : d ≡ n → ⊥ = eqb-false d n is in
    else_if (is_open_entry (first_where (is_held_dial n) held)) (has_open_below n held) (later (omega (arith, other)))

at_below : (n d : ℕ) (held : List HeldEntry) → d < n → is_open_entry (first_where (is_held_dial d) held) ≡ true → has_open_below n held ≡ true
at_below zero d held less e = absurd (omega arith)
at_below (suc n) d held less e = at_or n d held (d == n) refl less e (λ fewer. at_below n d held fewer e)

drawn_if : (next d : ℕ) (held : List HeldEntry) (b : Bool) → nat_le next d ≡ b → ((n : ℕ) → next ≤ n → first_where (is_held_dial n) held ≡ None) → is_open_entry (first_where (is_held_dial d) held) ≡ true → d < next
drawn_if next d held true is drawn e = let none : first_where (is_held_dial d) held ≡ None = drawn d (leb-true next d is) in let no : is_open_entry None ≡ true = rw none at e in absurd (cc)
drawn_if next d held false is drawn e = leb-false next d is

pub open_where : (next : ℕ) (held : List HeldEntry) → IsRising (λ e. e.dial) held → ((n : ℕ) → next ≤ n → first_where (is_held_dial n) held ≡ None) → has_open_below next held ≡ list_any is_open_held held
open_where next held rising drawn = same_bool (has_open_below next held) (list_any is_open_held held) (below_any next held)
    (λ any. let found : (d : ℕ) × (is_open_entry (first_where (is_held_dial d) held) ≡ true) = any_first held rising any in
    at_below next found.0 held (drawn_if next found.0 held (nat_le next found.0) refl drawn found.1) found.1)
