-- Apps by CONNECT: the server's packets reach them at once, as a reply, as bytes and as the end.
use Rattle.std.specs.Prelude.{ℕ, ◌-◌, ◌==◌, ◌&&◌, ◌||◌, not, min, Bool, true, false, List, [], ◌∷◌, ◌++◌, length, if◌then◌else◌}
use Rattle.kn_packet.specs.declared.packet.Packet.{Packet}
use Rattle.kn_packet.specs.declared.packet.Packet.TheVariants.{DialReq, DialRsp, CloseReq, CloseRsp, Data, DialCls, Drain, Other}
use Rattle.kn_connect.specs.Replies.{status_and_reason}
use Rattle.kn_connect.specs.Statuses.{error_status, reply_length}
use Rattle.kn_world.specs.declared.parts.App.{App}
use Rattle.kn_world.specs.declared.parts.Door.{Door}
use Rattle.kn_world.specs.declared.parts.Stage.{Stage}
use Rattle.kn_world.specs.declared.parts.Stage.TheVariants.{Dialling, Open, Refused, Ended}
use Rattle.kn_world.specs.Numbers.{signed}
use Rattle.kn_world.specs.Sides as side

-- ---- bytes for the app to take: first those of the reply
abbrev pub is_empty : App → Bool
is_empty a = (a.door.reply == 0) && (length a.side.coming.waiting == 0)

-- one that has left takes no more
abbrev pub has_left : Stage → App → Bool
has_left Dialling a = not (is_empty a)
has_left Open a = not (is_empty a)
has_left Refused a = not (is_empty a)
has_left Ended a = false

-- the app has left once the server has ended the tunnel and all is taken
abbrev pub emptied : App → App
emptied a = if a.door.closing && is_empty a then record a { stage = Ended } else a

abbrev pub with_reply : ℕ → Door → Door
with_reply count d = record d { reply = count }

abbrev pub took : ℕ → App → App
took count a =
    let replied : ℕ = min count a.door.reply in
    emptied (record a { door = with_reply (a.door.reply - replied) a.door; side = side.took (count - replied) a.side })

-- one that has left takes no more
abbrev pub took_at : Stage → ℕ → App → App
took_at Dialling count a = took count a
took_at Open count a = took count a
took_at Refused count a = took count a
took_at Ended count a = a

abbrev pub took_all : App → App
took_all a = emptied (record a { door = with_reply 0 a.door; side = side.took (length a.side.coming.waiting) a.side })

-- an app that is not held takes all
abbrev pub took_freely : Bool → App → App
took_freely true a = emptied a
took_freely false a = took_all a

-- ---- the server's packets
abbrev pub refused : ℕ → App → App
refused status a =
    let b : App = record a { error = status_and_reason status; stage = Refused; door = record a.door { early = []; reply = reply_length status } } in
    took_freely b.side.held b

abbrev pub opened : App → App
opened a =
    let b : App = record a { stage = Open; door = with_reply (reply_length 200) a.door } in
    took_freely b.side.held b

abbrev pub answered : List ℕ → App → App
answered [] a = opened a
answered (x ∷ xs) a = refused (error_status (x ∷ xs)) a

abbrev pub got : List ℕ → App → App
got bytes a =
    let b : App = record a { side = side.written bytes a.side } in
    took_freely b.side.held b

abbrev pub closed : App → App
closed a =
    let b : App = record a { door = record a.door { closing = true } } in
    took_freely b.side.held b

abbrev pub heard : Packet → App → App
heard (DialRsp error connect_id random) a = answered error a
heard (Data connect_id error bytes) a = got bytes a
heard (CloseRsp error connect_id) a = closed a
heard (DialReq protocol address random) a = a
heard (CloseReq connect_id) a = a
heard (DialCls random) a = a
heard Drain a = a
heard (Other number) a = a

-- a refusal, or the end of the tunnel
abbrev pub finishes : Packet → Bool
finishes (DialRsp [] connect_id random) = false
finishes (DialRsp (x ∷ xs) connect_id random) = true
finishes (CloseRsp error connect_id) = true
finishes (DialReq protocol address random) = false
finishes (CloseReq connect_id) = false
finishes (Data connect_id error bytes) = false
finishes (DialCls random) = false
finishes Drain = false
finishes (Other number) = false

-- once its dial is answered, a refusal ends the tunnel like a close
abbrev pub heard_open : Packet → App → App
heard_open packet a = if finishes packet then closed a else heard packet a

-- to an app that has left, or was refused, nothing comes but the end of the tunnel
abbrev pub heard_late : Packet → App → App
heard_late packet a = record a { door = record a.door { closing = a.door.closing || finishes packet } }

abbrev pub heard_by : Stage → Packet → App → App
heard_by Dialling packet a = heard packet a
heard_by Open packet a = heard_open packet a
heard_by Refused packet a = a
heard_by Ended packet a = heard_late packet a

abbrev pub heard_at : Stage → Packet → App → App
heard_at stage packet a = if a.door.closing then a else heard_by stage packet a

-- ---- what the app gives the server, which keeps it until the dial is answered
abbrev pub data_of : ℕ → List ℕ → Packet
data_of dial bytes = Data (signed dial) [] bytes

abbrev pub kept : List ℕ → App → App
kept bytes a = record a { door = record a.door { early = a.door.early ++ data_of a.dial bytes ∷ [] } }

abbrev pub kept_count : Stage → App → ℕ
kept_count Open a = length a.door.early
kept_count Dialling a = 0
kept_count Refused a = 0
kept_count Ended a = 0

-- ---- the head of the request is whole: the early bytes behind it are given to the server, and the rest waits
abbrev pub head_read : ℕ → List ℕ → List ℕ → App → App
head_read front early rest a = record a {
  door = record a.door { number = front; at_server = true };
  side = side.sent rest (side.handed (length early) (side.sent early a.side));
}

abbrev pub kept_some : List ℕ → App → App
kept_some [] a = a
kept_some (x ∷ xs) a = kept (x ∷ xs) a

abbrev pub early_kept : Stage → List ℕ → App → App
early_kept Dialling early a = kept_some early a
early_kept Open early a = kept_some early a
early_kept Refused early a = a
early_kept Ended early a = a
