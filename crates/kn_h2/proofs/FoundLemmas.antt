-- An open stream that passes a test.
use Rattle.std.proofs.Common.{◌≡◌, ℕ, Bool, true, List, Option, Some, None, refl}
use Rattle.std.proofs.lemmas.Bool.{and_parts}
use Rattle.kn_h2_state.specs.declared.stream.Stream.{Stream}
use Rattle.kn_h2_state.specs.Streams.{stream_at, is_open, passes, on_open}

pub record IsFound (ss : List Stream) (n : ℕ) (p : Stream → Bool) (st : Stream) : Type 0 where
  pub found : stream_at ss n ≡ Some st
  pub opened : is_open st ≡ true
  pub passed : p st ≡ true

pub found_open : (ss : List Stream) (n : ℕ) (p : Stream → Bool) → on_open ss n p ≡ true → (st : Stream) × IsFound ss n p st
found_open ss n p h = of_found (stream_at ss n) refl h
  where
    of_found : (o : Option Stream) → stream_at ss n ≡ o → passes p o ≡ true → (st : Stream) × IsFound ss n p st
    of_found None e k = absurd cc
    of_found (Some st) e k =
        let parts = and_parts (is_open st) (p st) k in
        (st, record { found = e; opened = parts.0; passed = parts.1 })
