-- Rounds, one at a time, and in a round one connection at a time.
use Rattle.std.proofs.Common.{◌≡◌, ℕ, zero, suc, ◌+◌, ◌-◌, ◌<◌, true, false, refl, add-one, arith}
use Rattle.kn_world.specs.declared.event.Pipe.TheVariants.{AgentUp, AgentDown, ClientUp, ClientDown}
use Rattle.kn_world.specs.declared.state.State.{State}
use Rattle.kn_world.specs.Pipes.{delivered, agents_delivered, clients_delivered, round, rounds, nothing_in_flight}

pub no_rounds : (n : ℕ) (s : State) → n ≡ 0 → rounds n s ≡ s
unfolding rounds
no_rounds zero s none = refl
no_rounds (suc n) s none = absurd (omega arith)

-- where nothing is on its way, no round is made
pub rounds_quiet : (n : ℕ) (s : State) → nothing_in_flight s ≡ true → rounds n s ≡ s
unfolding rounds
rounds_quiet zero s quiet = refl
rounds_quiet (suc n) s quiet = rw quiet refl

pub rounds_more : (n : ℕ) (s : State) → nothing_in_flight s ≡ false → 0 < n → rounds n s ≡ rounds (n - 1) (round s)
unfolding rounds
rounds_more zero s busy some = absurd (omega arith)
rounds_more (suc n) s busy some = let less : suc n - 1 ≡ n = omega arith in rw (busy, less) refl

pub agents_more : (n : ℕ) (s : State) → agents_delivered (n + 1) s ≡ delivered (AgentDown (n + 1)) (delivered (AgentUp (n + 1)) (agents_delivered n s))
agents_more n s = rw add-one refl

pub clients_more : (n : ℕ) (s : State) → clients_delivered (n + 1) s ≡ delivered (ClientDown (n + 1)) (delivered (ClientUp (n + 1)) (clients_delivered n s))
clients_more n s = rw add-one refl
