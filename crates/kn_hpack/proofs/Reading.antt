-- Reading on behind what was read.
use Rattle.std.proofs.Common.{◌≡◌, refl, ap, Result, Ok, Err}
use Rattle.kn_hpack.specs.Faults.{◌>>=◌}
use Rattle.kn_hpack.specs.declared.fault.HpackReason.{HpackReason}

pub bind_same : {A B : Type 0} (r : Result A HpackReason) (f g : A → Result B HpackReason) → ((x : A) → f x ≡ g x) → (r >>= f) ≡ (r >>= g)
bind_same (Ok x) f g p = p x
bind_same (Err e) f g p = refl

pub bind_assoc : {A B C : Type 0} (r : Result A HpackReason) (f : A → Result B HpackReason) (g : B → Result C HpackReason) → ((r >>= f) >>= g) ≡ (r >>= λ x. f x >>= g)
bind_assoc (Ok x) f g = refl
bind_assoc (Err e) f g = refl

-- a value, and what is left after it
abbrev pub with_rest : {A B : Type 0} → A → B → Result (A × B) HpackReason
with_rest a b = Ok (a, b)

abbrev first_or : {A B : Type 0} → A → Result (A × B) HpackReason → A
first_or d (Ok x) = x.0
first_or d (Err e) = d

abbrev second_or : {A B : Type 0} → B → Result (A × B) HpackReason → B
second_or d (Ok x) = x.1
second_or d (Err e) = d

pub first_is : {A B : Type 0} (a c : A) (b d : B) → with_rest a b ≡ with_rest c d → a ≡ c
first_is {A} {B} a c b d e = ap (λ (r : Result (A × B) HpackReason). first_or a r) e

pub second_is : {A B : Type 0} (a c : A) (b d : B) → with_rest a b ≡ with_rest c d → b ≡ d
second_is {A} {B} a c b d e = ap (λ (r : Result (A × B) HpackReason). second_or b r) e

abbrev pub a_value : {A : Type 0} → A → Result A HpackReason
a_value x = Ok x

-- what was read on behind something was behind something
pub bind_ok : {A B : Type 0} (r : Result A HpackReason) (f : A → Result B HpackReason) (y : B) → (r >>= f) ≡ a_value y → (x : A) × (r ≡ a_value x) × (f x ≡ a_value y)
bind_ok (Ok x) f y e = (x, refl, e)
bind_ok (Err r) f y e = absurd cc
