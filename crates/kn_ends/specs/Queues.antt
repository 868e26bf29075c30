-- Queues that the nodes share.
use Rattle.std.specs.Prelude.{ℕ, ◌+◌, Bool, true, false, List, [], ◌∷◌, length}
use Rattle.kn_h2_state.specs.declared.event.H2Event.{H2Event}
use Rattle.kn_ends.specs.declared.heard.Heard.{Heard}

abbrev pub is_empty : {T : Type 0} → List T → Bool
is_empty [] = true
is_empty (x ∷ xs) = false

-- all bytes together
unfoldable pub total : List (List ℕ) → ℕ
total [] = 0
total (packet ∷ packets) = length packet + total packets

-- what a connection tells, in its order
abbrev pub tagged : ℕ → List H2Event → List Heard
tagged conn [] = []
tagged conn (event ∷ events) = record { conn = conn; event = event } ∷ tagged conn events
