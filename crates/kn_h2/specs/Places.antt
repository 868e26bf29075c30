-- Streams by their places.
use Rattle.std.specs.Prelude.{ℕ, zero, suc, List, [], ◌∷◌}
use Rattle.kn_h2_state.specs.declared.stream.Stream.{Stream}

-- the streams with the one at a place changed
unfoldable pub changed_at : List Stream → ℕ → (Stream → Stream) → List Stream
changed_at [] place f = []
changed_at (s ∷ ss) zero f = f s ∷ ss
changed_at (s ∷ ss) (suc place) f = s ∷ changed_at ss place f
