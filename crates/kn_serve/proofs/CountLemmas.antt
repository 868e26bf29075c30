-- How counts of faults go on over turns.
use Rattle.std.proofs.Common.{rules, ◌≡◌, ◌≤◌, ◌<◌, ◌+◌, ℕ, inl, inr, arith}
use Rattle.kn_port.specs.Answers.{Failing}
use Rattle.kn_loop.specs.declared.turn.Turn.{Turn}
use Rattle.kn_loop.specs.declared.turn.Turn.TheVariants as turn
use Rattle.kn_loop.specs.Turns.{TurnCounts}
use Rattle.kn_serve.specs.Working.{RunCounts}

failing_later : (a b c : ℕ) → a ≤ b → Failing b c → Failing a c
failing_later a b c before (le, inl less) = (omega arith, inl (omega arith))
failing_later a b c before (le, inr last) = (omega arith, inr last)

le_later : (a b c : ℕ) → a ≤ b → b ≤ c → a ≤ c
le_later a b c before le = omega arith

-- the last turn's count says what the whole run's does
pub last_counts : (t : Turn) (a b c : ℕ) → a ≤ b → TurnCounts t b c → RunCounts t a c
last_counts turn.More a b c before counts = le_later a b c before counts
last_counts turn.Done a b c before counts = le_later a b c before counts
last_counts turn.Bound a b c before counts = le_later a b c before counts
last_counts turn.BindFault a b c before counts = absurd counts
last_counts turn.WaitFault a b c before counts = failing_later a b c before counts
last_counts turn.ServerLost a b c before counts = le_later a b c before counts
last_counts turn.NoMemory a b c before counts = le_later a b c before counts

-- what rose in the end of a run rose in the run
pub later_counts : (t : Turn) (a b c : ℕ) → a ≤ b → RunCounts t b c → RunCounts t a c
later_counts turn.More a b c before counts = le_later a b c before counts
later_counts turn.Done a b c before counts = le_later a b c before counts
later_counts turn.Bound a b c before counts = le_later a b c before counts
later_counts turn.BindFault a b c before counts = failing_later a b c before counts
later_counts turn.WaitFault a b c before counts = failing_later a b c before counts
later_counts turn.ServerLost a b c before counts = le_later a b c before counts
later_counts turn.NoMemory a b c before counts = le_later a b c before counts
