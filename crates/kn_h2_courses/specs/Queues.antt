-- What was queued on a stream is what was sent on it, followed by what waits.
use Rattle.std.specs.Prelude.{◌≡◌, ◌⊎◌, ℕ, Bool, true, false, List, ◌++◌, Option, Some, None}
use Rattle.kn_h2_state.specs.declared.stream.Stream.{Stream}
use Rattle.kn_h2_state.specs.Streams.{stream_at}
use Rattle.kn_h2_state.specs.Calls.{queue_of}
use Rattle.kn_h2_courses.specs.Courses.{Course, OfEveryLife}

abbrev pub own_in : Option Stream → Bool
own_in None = false
own_in (Some st) = st.own_open

-- this end's half of a stream is open, or it is over and its end was written: it was not given up by a reset
abbrev pub IsNotReset : ℕ → Course → Type 0
IsNotReset n c = (own_in (stream_at c.connection.state.streams n) ≡ true) ⊎ (c.ended ≡ true)

-- Nothing else is sent than what was queued, in its order; and nothing of it is lost, unless the half was given up.
pub record IsSentInOrder (n : ℕ) (c : Course) : Type 0 where
  pub front : (lost : List ℕ) × (c.queued ≡ c.sent ++ (queue_of c.connection.state n ++ lost))
  pub whole : IsNotReset n c → c.queued ≡ c.sent ++ queue_of c.connection.state n

abbrev pub QueuedIsSent : Type 0
QueuedIsSent = OfEveryLife (λ n role c. IsSentInOrder n c)
