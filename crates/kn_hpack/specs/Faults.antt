-- What a function gives that reads bytes from left to right: a value, or the first fault.
use Rattle.std.specs.Prelude.{◌≡◌, Result, Ok, Err}
use Rattle.kn_hpack.specs.declared.fault.HpackReason.{HpackReason}
use Rattle.kn_hpack.specs.declared.fault.TextError.{TextError}
use Rattle.kn_hpack.specs.declared.fault.TextError.TheVariants as errors

-- read on behind what was read
infixl 10 ◌>>=◌
abbrev pub ◌>>=◌ : {A B : Type 0} → Result A HpackReason → (A → Result B HpackReason) → Result B HpackReason
(Ok x) >>= f = f x
(Err e) >>= f = Err e

-- What a function returned, seen by `view`, is what reading gives, unless memory ran out.
abbrev pub Fails : {Y : Type 0} → TextError → Result Y HpackReason → Type 0
Fails errors.NoMemory read = Unit {0}
Fails (errors.Fault f) read = read ≡ Err f

abbrev pub Gives : {X Y : Type 0} → (X → Y) → Result X TextError → Result Y HpackReason → Type 0
Gives view (Ok x) read = read ≡ Ok (view x)
Gives view (Err e) read = Fails e read
