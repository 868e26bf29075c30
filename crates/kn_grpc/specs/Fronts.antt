-- What stands at the front of what a reader keeps, apart from where it lies.
use Rattle.std.specs.Prelude.{ℕ, List, []}
use Rattle.kn_grpc.specs.declared.fault.MessageReason.{MessageReason}
use Rattle.kn_grpc.specs.declared.front.Front.{Front}
use Rattle.kn_grpc.specs.declared.front.Front.TheVariants as lent
use Rattle.kn_grpc.specs.Readers.{First, Less, Whole, Bad}

-- no bytes are kept behind a whole message
abbrev pub front_seen : Front → First (List ℕ) MessageReason
front_seen lent.Less = Less
front_seen (lent.Whole message) = Whole message.now []
front_seen (lent.Bad reason) = Bad reason
