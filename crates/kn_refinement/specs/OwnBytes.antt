-- Whose bytes an app and a destination sent: those of the events that were not idle for it, joined, and no others.
use Rattle.std.specs.Prelude.{◌≡◌, ℕ, suc, ◌==◌, Bool, true, false, List, [], ◌∷◌, ◌++◌, length, Some, Ok, if◌then◌else◌}
use Rattle.kn_connect.specs.Answers.{Answers}
use Rattle.kn_connect.specs.declared.answer.ConnectAnswer.TheVariants.{Head}
use Rattle.kn_world.specs.declared.event.Seen.{Seen}
use Rattle.kn_world.specs.declared.event.Seen.TheVariants.{Moved, Idle}
use Rattle.kn_world.specs.declared.event.WorldEvent.{WorldEvent}
use Rattle.kn_world.specs.declared.event.WorldEvent.TheVariants as event
use Rattle.kn_world.specs.declared.parts.App.{App}
use Rattle.kn_world.specs.declared.parts.Dial.{Dial}
use Rattle.kn_world.specs.declared.parts.Home.{Home}
use Rattle.kn_world.specs.declared.parts.Home.TheVariants as home
use Rattle.kn_world.specs.declared.parts.Side.{Side}
use Rattle.kn_world.specs.declared.state.State.{State}
use Rattle.kn_world.specs.Arrivals.{request_text}
use Rattle.kn_world.specs.Events.{Runs, seen_of}
use Rattle.kn_world.specs.Numbers.{nth}

-- ---- what an event that is not idle brings
abbrev pub if_same : ℕ → ℕ → List ℕ → List ℕ
if_same a b bytes = if a == b then bytes else []

-- for an app: a CONNECT app comes with its first bytes
abbrev pub for_app : WorldEvent → ℕ → State → List ℕ
for_app (event.Send app bytes) k s = if_same k app bytes
for_app (event.Raw bytes) k s = if_same k (suc (length s.apps)) bytes
for_app (event.Connect address) k s = if_same k (suc (length s.apps)) (request_text address)
for_app (event.Agent identifiers) k s = []
for_app event.Client k s = []
for_app (event.App c address) k s = []
for_app (event.Up dial) k s = []
for_app (event.Refuse dial) k s = []
for_app (event.Answer dial bytes) k s = []
for_app (event.End app) k s = []
for_app (event.Hang dial) k s = []
for_app (event.Fail dial) k s = []
for_app (event.Drain link) k s = []
for_app (event.HoldDest dial) k s = []
for_app (event.HoldApp app) k s = []
for_app (event.TakeDest dial count) k s = []
for_app (event.TakeApp app count) k s = []
for_app (event.GoDest dial) k s = []
for_app (event.GoApp app) k s = []
for_app (event.LoseServer link) k s = []
for_app (event.LoseAgent link) k s = []
for_app (event.LoseFront c) k s = []
for_app (event.LoseClient c) k s = []
for_app (event.Step pipe) k s = []
for_app (event.Pass count) k s = []

-- for the destination of a dial
abbrev pub for_dial : WorldEvent → ℕ → List ℕ
for_dial (event.Answer dial bytes) d = if_same d dial bytes
for_dial (event.Send app bytes) d = []
for_dial (event.Raw bytes) d = []
for_dial (event.Connect address) d = []
for_dial (event.Agent identifiers) d = []
for_dial event.Client d = []
for_dial (event.App c address) d = []
for_dial (event.Up dial) d = []
for_dial (event.Refuse dial) d = []
for_dial (event.End app) d = []
for_dial (event.Hang dial) d = []
for_dial (event.Fail dial) d = []
for_dial (event.Drain link) d = []
for_dial (event.HoldDest dial) d = []
for_dial (event.HoldApp app) d = []
for_dial (event.TakeDest dial count) d = []
for_dial (event.TakeApp app count) d = []
for_dial (event.GoDest dial) d = []
for_dial (event.GoApp app) d = []
for_dial (event.LoseServer link) d = []
for_dial (event.LoseAgent link) d = []
for_dial (event.LoseFront c) d = []
for_dial (event.LoseClient c) d = []
for_dial (event.Step pipe) d = []
for_dial (event.Pass count) d = []

abbrev pub unless_idle : Seen → List ℕ → List ℕ
unless_idle Moved bytes = bytes
unless_idle Idle bytes = []

-- ---- all that a list of events brings, in order
abbrev pub app_bytes : (es : List WorldEvent) (old : State) (idle : ℕ) (new : State) → Runs es old idle new → ℕ → List ℕ
app_bytes [] old idle new runs k = []
app_bytes (e ∷ es) old idle new runs k = unless_idle (seen_of e old) (for_app e k old) ++ app_bytes es runs.0 runs.1 new runs.3 k

abbrev pub dial_bytes : (es : List WorldEvent) (old : State) (idle : ℕ) (new : State) → Runs es old idle new → ℕ → List ℕ
dial_bytes [] old idle new runs d = []
dial_bytes (e ∷ es) old idle new runs d = unless_idle (seen_of e old) (for_dial e d) ++ dial_bytes es runs.0 runs.1 new runs.3 d

-- ---- what a side sent
abbrev pub sent_of : Side → List ℕ
sent_of side = side.sending.passed ++ side.sending.waiting

-- the bytes of a CONNECT app are a request's head, and then those that it sent
abbrev pub IsBehindHead : List ℕ → List ℕ → Type 0
IsBehindHead bytes sent = (target : List ℕ) × Answers bytes (Ok (Head target sent))

-- until its head is whole it sent none
abbrev pub IsBehindDoor : Bool → List ℕ → List ℕ → Type 0
IsBehindDoor true bytes sent = sent ≡ []
IsBehindDoor false bytes sent = IsBehindHead bytes sent

abbrev pub IsSentFrom : Home → Bool → List ℕ → List ℕ → Type 0
IsSentFrom (home.Client c number) unheard bytes sent = sent ≡ bytes
IsSentFrom home.Connect unheard bytes sent = IsBehindDoor unheard bytes sent

-- ---- each app and each destination sent its own bytes
pub record SendsOwn (apps : ℕ → List ℕ) (dials : ℕ → List ℕ) (s : State) : Type 0 where
  pub by_apps : (k : ℕ) (a : App) → nth k s.apps ≡ Some a → IsSentFrom a.home (a.door.number == 0) (apps k) (sent_of a.side)
  pub by_dials : (d : ℕ) (x : Dial) → nth d s.dials ≡ Some x → sent_of x.side ≡ dials d
