-- The first bytes of an app by CONNECT, until its head is whole or refused.
use Rattle.std.specs.Prelude.{◌≡◌, ℕ, pos, List, [], ◌∷◌, ◌++◌, length, take, drop, Option, Some, None, Result, Ok, Err, codes}
use Rattle.kn_packet.specs.declared.packet.Packet.{Packet}
use Rattle.kn_packet.specs.declared.packet.Packet.TheVariants.{DialReq}
use Rattle.kn_connect.specs.Answers.{Answers, IsGiven}
use Rattle.kn_connect.specs.declared.answer.ConnectAnswer.{ConnectAnswer}
use Rattle.kn_connect.specs.declared.answer.ConnectAnswer.TheVariants.{More, Head}
use Rattle.kn_connect.specs.declared.answer.ConnectError.{ConnectError}
use Rattle.kn_connect.specs.declared.answer.ConnectError.TheVariants.{NoMemory, Fault}
use Rattle.kn_server_core.specs.declared.event.ServerEvent.TheVariants.{FrontUp, FrontPacket}
use Rattle.kn_world.specs.declared.parts.App.{App}
use Rattle.kn_world.specs.declared.parts.Owner.TheVariants as owner
use Rattle.kn_world.specs.declared.state.State.{State}
use Rattle.kn_world.specs.Apps as apps
use Rattle.kn_connect.specs.Statuses.{fault_status}
use Rattle.kn_world.specs.Handing.{settles}
use Rattle.kn_world.specs.Numbers.{nth, put_nth, change}
use Rattle.kn_world.specs.ServerSteps.{step}

-- ---- a whole head: a front comes up, which asks for a dial, and keeps the early bytes until it is answered
abbrev pub request : List ℕ → Packet
request target = DialReq (codes "tcp") target (pos 0)

abbrev pub front_up : ℕ → List ℕ → ℕ → State → State
front_up front target app s = step app (FrontPacket front (request target)) (step 0 (FrontUp front) s)

abbrev pub with_owner : ℕ → State → State
with_owner app s = record s { fronts = s.fronts ++ owner.App app ∷ [] }

abbrev pub with_head : ℕ → List ℕ → List ℕ → ℕ → State → State
with_head front early rest app s = record s { apps = change (apps.head_read front early rest) app s.apps }

abbrev pub early_kept : List ℕ → ℕ → State → State
early_kept early app s = record s { apps = change (apps.early_kept early) app s.apps }

abbrev pub head_came_as : ℕ → List ℕ → List ℕ → List ℕ → ℕ → State → State
head_came_as front target early rest app s = settles app (early_kept early app (front_up front target app (with_head front early rest app s)))

abbrev pub head_came : List ℕ → List ℕ → List ℕ → ℕ → State → State
head_came target early rest app s = head_came_as (length (with_owner app s).fronts) target early rest app (with_owner app s)

-- ---- what is done with an answer
abbrev pub answered : ConnectAnswer → List ℕ → ℕ → State → State
answered More rest app s = settles app s
answered (Head target early) rest app s = head_came target early rest app s

abbrev pub responds : Result ConnectAnswer ConnectError → List ℕ → ℕ → State → State
responds (Ok answer) rest app s = answered answer rest app s
responds (Err (Fault fault)) rest app s = record s { apps = change (apps.refused (fault_status fault)) app s.apps }
responds (Err NoMemory) rest app s = s

-- ---- the bytes are read: 16,384 at most, since no head is longer than 8,192
-- what the front holds after an answer: all bytes so far while more are wanted, and else none
abbrev pub holds : Result ConnectAnswer ConnectError → List ℕ → List ℕ
holds (Ok More) bytes = bytes
holds (Ok (Head target early)) bytes = []
holds (Err error) bytes = []

abbrev pub with_front : List ℕ → App → App
with_front bytes a = record a { door = record a.door { front = bytes } }

abbrev pub Feeds : Option App → List ℕ → ℕ → Result ConnectAnswer ConnectError → List App → List App → Type 0
Feeds None piece app answer old new = (new ≡ old) × (answer ≡ Ok More)
Feeds (Some a) piece app answer old new = Answers (a.door.front ++ piece) answer × (new ≡ put_nth app old (with_front (holds answer (a.door.front ++ piece)) a))

abbrev pub Hears : List ℕ → ℕ → State → State → Type 0
Hears bytes app old new =
    (answer : Result ConnectAnswer ConnectError) × (read : List App)
    × Feeds (nth app old.apps) (take 16384 bytes) app answer old.apps read
    × IsGiven answer
    × (new ≡ responds answer (drop 16384 bytes) app (record old { apps = read }))
