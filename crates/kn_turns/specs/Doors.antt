-- What an app by CONNECT does, one step at a time: nothing settles behind a step.
use Rattle.std.specs.Prelude.{◌≡◌, ◌⊎◌, ℕ, suc, false, [], true, List, length, Some}
use Rattle.kn_packets.specs.Moves.{all_joined}
use Rattle.kn_server_core.specs.declared.event.ServerEvent.TheVariants.{FrontLost}
use Rattle.kn_world.specs.declared.parts.App.{App}
use Rattle.kn_world.specs.declared.parts.Home.TheVariants as home
use Rattle.kn_world.specs.declared.parts.Stage.TheVariants.{Dialling, Open, Refused}
use Rattle.kn_world.specs.declared.state.State.{State}
use Rattle.kn_world.specs.Apps as apps
use Rattle.kn_world.specs.Arrivals.{with_connect}
use Rattle.kn_world.specs.Hearing.{front_up, with_front, with_head, with_owner}
use Rattle.kn_world.specs.Hearing as hearing
use Rattle.kn_world.specs.Numbers.{nth, change}
use Rattle.kn_world.specs.ServerSteps as server
use Rattle.kn_world.specs.Sides as side

-- ---- an app that is refused at once, since its client has lost its server, is of no client: no client was told of it
abbrev pub turned_away : List ℕ → App → App
turned_away error a = record a { stage = Refused; error = error }

abbrev pub app_refused : List ℕ → State → State
app_refused error s = record (with_connect s) { apps = change (turned_away error) (suc (length s.apps)) (with_connect s).apps }

-- ---- its head: the front reads it, refuses it, or it is whole; then a front comes up and asks for a dial, and the early bytes behind the head are kept
abbrev pub reads : List ℕ → ℕ → State → State
reads bytes k s = record s { apps = change (with_front bytes) k s.apps }

abbrev pub faulted : ℕ → ℕ → State → State
faulted status k s = record s { apps = change (apps.refused status) k s.apps }

abbrev pub asks : List ℕ → List ℕ → List ℕ → ℕ → State → State
asks target early rest k s = hearing.early_kept early k (front_up (suc (length s.fronts)) target k (with_head (suc (length s.fronts)) early rest k (with_owner k s)))

-- ---- what the server keeps of it becomes one packet
abbrev pub joined : App → App
joined a = record a { door = record a.door { early = all_joined a.door.early } }

abbrev pub joins : ℕ → State → State
joins k s = record s { apps = change joined k s.apps }

-- ---- the server loses the front right behind the end of the tunnel: nothing of the app is kept, and it has no end to tell. What came for it may still be taken
abbrev pub front_gone : App → App
front_gone a = record a { side = side.end_told a.side; door = record a.door { at_server = false; early = [] } }

abbrev pub loses_front : ℕ → State → State
loses_front k s = server.step 0 (FrontLost (apps.front_of (nth k s.apps))) (record s { apps = change front_gone k s.apps })

-- ---- the app of a number came by CONNECT, and is so
abbrev pub OfDoor : (App → Type 0) → ℕ → State → Type 0
OfDoor P k s = (a : App) × (nth k s.apps ≡ Some a) × (a.home ≡ home.Connect) × P a

-- its head is not whole
abbrev pub IsUnheard : App → Type 0
IsUnheard a = a.door.number ≡ 0

abbrev pub IsFresh : App → Type 0
IsFresh a = (a.door.number ≡ 0) × (a.stage ≡ Dialling)

-- its head was whole
abbrev pub IsHeard : App → Type 0
IsHeard a = (n : ℕ) × (a.door.number ≡ suc n)

-- the server keeps bytes of it
abbrev pub MayHand : App → Type 0
MayHand a = IsHeard a × (a.door.closing ≡ false) × ((a.stage ≡ Dialling) ⊎ (a.stage ≡ Open))

-- the server takes what it kept
abbrev pub IsAnswered : App → Type 0
IsAnswered a = IsHeard a × ((a.stage ≡ Open) ⊎ (a.door.closing ≡ true))

-- the server has ended its tunnel, and still has its front
abbrev pub IsOver : App → Type 0
IsOver a = IsHeard a × (a.door.closing ≡ true) × (a.door.at_server ≡ true)

-- the server was not told that it ended its sending
abbrev pub HasNotLeft : App → Type 0
HasNotLeft a = a.side.end_given ≡ false
