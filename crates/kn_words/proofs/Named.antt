-- Numbers that packets name.
use Rattle.std.proofs.Common.{◌≡◌, ℕ, ℤ, pos, negsuc, true, false, Option, None, Some, refl, sym, ap, ◌∙◌, eqb-true, arith}
use Rattle.std.proofs.lemmas.Bool.{eq-eqb, ne_eqb}
use Rattle.kn_words.specs.Below.{IsBelow}
use Rattle.kn_words.specs.Numbers.{is_drawn_number, is_number}

pub own_number : (n : ℕ) → is_number n (pos n) ≡ true
own_number n = eq-eqb n n refl

pub other_number : (n m : ℕ) → (n ≡ m → ⊥) → is_number n (pos m) ≡ false
other_number n m differ = ne_eqb m n (λ e. differ (sym e))

pub named : (n : ℕ) (c : ℤ) → is_number n c ≡ true → c ≡ pos n
named n (pos m) e = ap pos (eqb-true m n e)
named n (negsuc m) e = absurd cc

-- a packet names one number
pub one_number : (n m : ℕ) (c : ℤ) → is_number n c ≡ true → is_number m c ≡ true → n ≡ m
one_number n m (pos k) e f = sym (eqb-true k n e) ∙ eqb-true k m f
one_number n m (negsuc k) e f = absurd cc

pub drawn : (cid : Option ℕ) (c : ℤ) → is_drawn_number cid c ≡ true → (n : ℕ) × (cid ≡ Some n) × (c ≡ pos n)
drawn None c e = absurd cc
drawn (Some n) c e = (n, refl, named n c e)

-- a number that is not drawn yet is not named
pub not_named : (n : ℕ) (c : ℤ) → IsBelow n c → is_number n c ≡ false
not_named n (pos m) h = ne_eqb m n (λ e. omega (arith, h, e))
not_named n (negsuc m) h = refl
