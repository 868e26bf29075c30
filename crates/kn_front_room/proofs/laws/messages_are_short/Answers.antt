-- What a message carries is a part of it.
use Rattle.kn_front_room.proofs.MessageLemmas.{messages_short}
use Rattle.kn_front_room.proofs.laws.messages_are_short.Goals as goal

pub returns : goal.returns
returns c = messages_short
