-- The settings of one payload, those of a kind at once: they are taken in turn (RFC 9113, section 6.5.3), so the last of a
-- kind is what stays.
use Rattle.std.specs.Prelude.{◌≡◌, ℕ, ◌≤◌, ◌==◌, nat_lt, Bool, false, ◌||◌, List, [], ◌∷◌, Option, Some, None, IfSome, if◌then◌else◌}
use Rattle.std.specs.List.{list_any}
use Rattle.kn_h2_state.specs.declared.stream.Stream.{Stream}
use Rattle.kn_h2_state.specs.declared.state.State.{State}
use Rattle.kn_h2_state.specs.Limits.{largest_window}
use Rattle.kn_h2_state.specs.Rules.{shifted, shifts_over, breaks_windows}
use Rattle.kn_h2_state.specs.Effects.{after_settings}

-- the last value of a setting of this number, or the one before where there is none
unfoldable pub last_of : ℕ → Option ℕ → List (ℕ × ℕ) → Option ℕ
last_of number before [] = before
last_of number before (x ∷ xs) = last_of number (if x.0 == number then Some x.1 else before) xs

-- the larger of a value and the one before
abbrev pub larger : Option ℕ → ℕ → Option ℕ
larger None v = Some v
larger (Some m) v = Some (if nat_lt m v then v else m)

-- the largest INITIAL_WINDOW_SIZE, from the one before
unfoldable pub largest_initial : Option ℕ → List (ℕ × ℕ) → Option ℕ
largest_initial before [] = before
largest_initial before (x ∷ xs) = largest_initial (if x.0 == 4 then larger before x.1 else before) xs

-- that value is over the largest window, or brings a sending window over it
abbrev pub is_over_by : ℕ → List Stream → Option ℕ → Bool
is_over_by initial ss None = false
is_over_by initial ss (Some v) = nat_lt largest_window v || list_any (shifts_over initial v) ss

-- INITIAL_WINDOW_SIZE goes to this value, where there is one
abbrev pub with_initial : Option ℕ → State → State
with_initial None s = s
with_initial (Some v) s = record s { initial = v; streams = shifted s.initial v s.streams }

-- Settings that are taken in turn change what the last of each kind changes.
abbrev pub SettingsAtOnce : Type 0
SettingsAtOnce = (s : State) (xs : List (ℕ × ℕ)) → after_settings s xs ≡ with_initial (last_of 4 None xs) (record s { most = last_of 3 s.most xs })

-- Where none of them, taken in turn, brings a window over the largest, the last does not either.
abbrev pub LastFits : Type 0
LastFits = (i : ℕ) (ss : List Stream) (xs : List (ℕ × ℕ)) → breaks_windows i ss xs ≡ false
    → IfSome (last_of 4 None xs) (λ v. (v ≤ largest_window) × (list_any (shifts_over i v) ss ≡ false))
