-- Laws of what is written where there is room for it.
use Rattle.std.specs.Prelude.{◌≡◌, ℕ, pos, ◌+◌, ◌-ℤ◌, true, List, [], ◌∷◌, ◌++◌}
use Rattle.kn_h2_state.specs.declared.moves.Move.{Move}
use Rattle.kn_h2_state.specs.declared.moves.Move.TheVariants.{GrantAll, Grant, Send, End, Stop}
use Rattle.kn_h2_state.specs.declared.state.State.{State}
use Rattle.kn_h2_state.specs.Moves.{may, after_move, Makes}
use Rattle.kn_h2_state.specs.Calls.{queue_of}
use Rattle.kn_h2_state.specs.Holding.{Holds}
use Rattle.kn_h2_state.specs.Wire.{moved_text}

-- what always holds goes on to hold
abbrev pub MoveKeeps : Type 0
MoveKeeps = (s : State) (m : Move) → Holds s → may s m ≡ true → Holds (after_move s m)

-- the bytes of a stream's queue that moves send, one after another
abbrev pub sent : ℕ → State → List Move → List ℕ
sent n s [] = []
sent n s (m ∷ ms) = moved_text n s m ++ sent n (after_move s m) ms

-- what was queued on a stream is what was sent, followed by what waits
abbrev pub InOrder : Type 0
InOrder = (old new : State) (ms : List Move) (n : ℕ) → Holds old → Makes old ms new → sent n old ms ++ queue_of new n ≡ queue_of old n

-- the bytes of DATA that a move sends, and that moves send
abbrev pub spent_by : Move → ℕ
spent_by GrantAll = 0
spent_by (Grant n) = 0
spent_by (Send n count) = count
spent_by (End n) = 0
spent_by (Stop n) = 0

abbrev pub spent : List Move → ℕ
spent [] = 0
spent (m ∷ ms) = spent_by m + spent ms

-- what is sent is what the connection's window loses (RFC 9113, section 6.9.1)
abbrev pub Spends : Type 0
Spends = (old new : State) (ms : List Move) → Makes old ms new → new.send ≡ old.send -ℤ pos (spent ms)
