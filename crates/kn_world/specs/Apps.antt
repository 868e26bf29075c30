-- Apps, by their numbers.
use Rattle.std.specs.Prelude.{ℕ, Bool, false, List, [], ◌∷◌, Option, Some, None}
use Rattle.kn_packet.specs.declared.packet.Packet.{Packet}
use Rattle.kn_edge_core.specs.declared.app.AppState.{AppState}
use Rattle.kn_edge_core.specs.declared.app.AppState.TheVariants as state
use Rattle.kn_world.specs.declared.parts.App.{App}
use Rattle.kn_world.specs.declared.parts.Stage.{Stage}
use Rattle.kn_world.specs.declared.parts.Stage.TheVariants.{Dialling, Open, Refused, Ended}
use Rattle.kn_world.specs.Doors as door
use Rattle.kn_world.specs.Numbers.{first_of, rest_of}
use Rattle.kn_world.specs.Sides as side

abbrev pub with_dial : ℕ → App → App
with_dial dial a = record a { dial = dial }

-- the dial was answered without an error, as the client's core says
abbrev pub opened_if : Option AppState → App → App
opened_if (Some state.Open) a = record a { stage = Open }
opened_if (Some state.Dialling) a = a
opened_if (Some state.Closing) a = a
opened_if (Some state.Lingering) a = a
opened_if None a = a

-- ---- bytes for the app, and of it
abbrev pub written : List ℕ → App → App
written bytes a = record a { side = side.written bytes a.side }

abbrev pub took : ℕ → App → App
took count a = record a { side = side.took count a.side }

abbrev pub took_at_door : ℕ → App → App
took_at_door count a = door.took_at a.stage count a

abbrev pub sent : List ℕ → App → App
sent bytes a = record a { side = side.sent bytes a.side }

abbrev pub handed : ℕ → App → App
handed count a = record a { side = side.handed count a.side }

abbrev pub ended : App → App
ended a = record a { side = side.ended a.side }

abbrev pub end_told : App → App
end_told a = record a { side = side.end_told a.side }

abbrev pub holding : Bool → App → App
holding held a = record a { side = side.holding held a.side }

-- ---- the app leaves: it was refused where it was dialling and is told an error
abbrev pub left_dialling : List ℕ → App → App
left_dialling [] a = record a { stage = Ended; error = [] }
left_dialling (x ∷ xs) a = record a { stage = Refused; error = x ∷ xs }

abbrev pub left_open : List ℕ → App → App
left_open error a = record a { stage = Ended; error = error }

abbrev pub left_as : Stage → List ℕ → App → App
left_as Dialling error a = left_dialling error a
left_as Open error a = left_open error a
left_as Refused error a = a
left_as Ended error a = a

abbrev pub left : List ℕ → App → App
left error a = left_as a.stage error a

-- ---- a packet of the server comes to an app by CONNECT
abbrev pub heard : Packet → App → App
heard packet a = door.heard_at a.stage packet a

-- ---- what an app by CONNECT gives the server
abbrev pub front_of : Option App → ℕ
front_of None = 0
front_of (Some a) = a.door.number

abbrev pub kept : List ℕ → App → App
kept bytes a = door.kept bytes a

abbrev pub kept_count : Option App → ℕ
kept_count None = 0
kept_count (Some a) = door.kept_count a.stage a

abbrev pub first_kept : Option App → Option Packet
first_kept None = None
first_kept (Some a) = first_of a.door.early

abbrev pub rest_kept : App → App
rest_kept a = record a { door = record a.door { early = rest_of a.door.early } }

abbrev pub head_read : ℕ → List ℕ → List ℕ → App → App
head_read front early rest a = door.head_read front early rest a

abbrev pub early_kept : List ℕ → App → App
early_kept early a = door.early_kept a.stage early a

abbrev pub refused : ℕ → App → App
refused status a = door.refused status a

-- it closes its end of the connection
abbrev pub left_stage : Stage → Stage
left_stage Dialling = Ended
left_stage Open = Ended
left_stage Refused = Refused
left_stage Ended = Ended

abbrev pub left_door : App → App
left_door a = record a { stage = left_stage a.stage; door = record a.door { at_server = false; early = [] } }
