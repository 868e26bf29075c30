-- What the streams end as, where one of them is lent.
use Rattle.std.specs.Prelude.{ℕ, List, slice_set, Option}
use Rattle.std.specs.Borrow.{LendsIf, MutBor, Fml}
use Rattle.kn_h2_state.specs.declared.stream.Stream.{Stream}
use Rattle.kn_h2_state.specs.contracts.stream.Stream as stream
use Rattle.kn_h2_state.specs.contracts.streams.Streams.{the_row}
use Rattle.kn_h2_state.specs.Streams.{with_stream}

-- they end with the last value of the one of this number, or as they were where there is none
abbrev pub LendsStream : MutBor (List Stream) → ℕ → Option (MutBor Stream) → Fml
LendsStream s n r = LendsIf the_row stream.the_row s r (with_stream s.now n) s.now

-- they end with the last value of the one at this place, or as they were where there is none
abbrev pub LendsPlace : MutBor (List Stream) → ℕ → Option (MutBor Stream) → Fml
LendsPlace s place r = LendsIf the_row stream.the_row s r (slice_set s.now place) s.now
