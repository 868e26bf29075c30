-- What an app by CONNECT makes of the packets for its front, one after another, is what it makes of them taken together.
use Rattle.std.proofs.Common.{◌≡◌, ◌&&◌, ◌||◌, ◌++◌, ℕ, Bool, true, false, not, cond, List, [], ◌∷◌, length, take, drop, map, refl, ap, ◌∙◌}
use Rattle.kn_packet.specs.declared.packet.Packet.{Packet}
use Rattle.kn_packet.specs.declared.packet.Packet.TheVariants.{CloseReq, CloseRsp, Data, DialCls, DialReq, DialRsp, Drain, Other}
use Rattle.kn_tunnel.specs.Kinds.{left_phase}
use Rattle.kn_tunnel.specs.Tunnel.{Dialling, Ended, Opened, Phase, Refused, Side}
use Rattle.kn_packets.specs.Outputs.{all_answered, all_finish, answered}
use Rattle.kn_world.specs.declared.parts.App.{App}
use Rattle.kn_world.specs.declared.parts.Stage.{Stage}
use Rattle.kn_world.specs.declared.parts.Stage.TheVariants as stage
use Rattle.kn_world.specs.Doors as door
use Rattle.kn_world.specs.Idle.{is_at_door}
use Rattle.kn_refinement.specs.Settled.{bytes_taken, ends, is_refused}
use Rattle.kn_refinement.specs.Shown.{connect_phase, connect_side, unnumbered, is_refused as was_refused}

-- ---- what is shown of the app and of its stream
pub record View : Type 0 where
  pub client : Bool
  pub finished : Bool
  pub up : List Packet
  pub phase : Phase
  pub side : Side

abbrev pub view : App → View
view a = record {
  client = is_at_door a.stage && not a.door.closing;
  finished = a.door.closing || was_refused a.stage;
  up = map unnumbered a.door.early;
  phase = connect_phase a.door.closing a.stage;
  side = connect_side a.side;
}

-- all packets at once
abbrev pub taken_at : Phase → List Packet → View → View
taken_at phase ps v = record {
  client = cond (v.client && ends ps) false v.client;
  finished = all_finish true ps v.finished;
  up = cond ((v.client && ends ps) && is_refused phase) [] v.up;
  phase = cond (v.client && ends ps) (left_phase phase) phase;
  side = record v.side { got = cond v.client (v.side.got ++ bytes_taken ps) v.side.got };
}

abbrev pub taken : List Packet → View → View
taken ps v = taken_at (all_answered true ps v.phase) ps v

-- one by one
abbrev pub heard_all : List Packet → App → App
heard_all [] a = a
heard_all (p ∷ ps) a = heard_all ps (door.heard_at a.stage p a)

-- no answer stands behind the close
abbrev pub IsNoAnswer : Packet → Type 0
IsNoAnswer (DialRsp error connect_id random) = ⊥
IsNoAnswer (DialReq protocol address random) = Unit {0}
IsNoAnswer (Data connect_id error bytes) = Unit {0}
IsNoAnswer (CloseReq connect_id) = Unit {0}
IsNoAnswer (CloseRsp error connect_id) = Unit {0}
IsNoAnswer (DialCls random) = Unit {0}
IsNoAnswer Drain = Unit {0}
IsNoAnswer (Other number) = Unit {0}

abbrev pub NoAnswers : List Packet → Type 0
NoAnswers [] = Unit {0}
NoAnswers (p ∷ ps) = IsNoAnswer p × NoAnswers ps

abbrev pub InTurn : List Packet → Type 0
InTurn [] = Unit {0}
InTurn (CloseRsp error connect_id ∷ ps) = NoAnswers ps
InTurn (DialRsp error connect_id random ∷ ps) = InTurn ps
InTurn (DialReq protocol address random ∷ ps) = InTurn ps
InTurn (Data connect_id error bytes ∷ ps) = InTurn ps
InTurn (CloseReq connect_id ∷ ps) = InTurn ps
InTurn (DialCls random ∷ ps) = InTurn ps
InTurn (Drain ∷ ps) = InTurn ps
InTurn (Other number ∷ ps) = InTurn ps

-- ---- phases that an answer does not change
pub answered_open : (p : Packet) → answered p Opened ≡ Opened
answered_open (DialRsp [] connect_id random) = refl
answered_open (DialRsp (x ∷ xs) connect_id random) = refl
answered_open (DialReq protocol address random) = refl
answered_open (Data connect_id error bytes) = refl
answered_open (CloseReq connect_id) = refl
answered_open (CloseRsp error connect_id) = refl
answered_open (DialCls random) = refl
answered_open Drain = refl
answered_open (Other number) = refl

pub answered_ended : (p : Packet) → answered p Ended ≡ Ended
answered_ended (DialRsp [] connect_id random) = refl
answered_ended (DialRsp (x ∷ xs) connect_id random) = refl
answered_ended (DialReq protocol address random) = refl
answered_ended (Data connect_id error bytes) = refl
answered_ended (CloseReq connect_id) = refl
answered_ended (CloseRsp error connect_id) = refl
answered_ended (DialCls random) = refl
answered_ended Drain = refl
answered_ended (Other number) = refl

pub answered_refused : (p : Packet) → answered p Refused ≡ Refused
answered_refused (DialRsp [] connect_id random) = refl
answered_refused (DialRsp (x ∷ xs) connect_id random) = refl
answered_refused (DialReq protocol address random) = refl
answered_refused (Data connect_id error bytes) = refl
answered_refused (CloseReq connect_id) = refl
answered_refused (CloseRsp error connect_id) = refl
answered_refused (DialCls random) = refl
answered_refused Drain = refl
answered_refused (Other number) = refl

pub stays : (phase : Phase) → ((p : Packet) → answered p phase ≡ phase) → (ps : List Packet) → all_answered true ps phase ≡ phase
stays phase same [] = refl
stays phase same (p ∷ ps) = ap (all_answered true ps) (same p) ∙ stays phase same ps

answered_none : (p : Packet) → IsNoAnswer p → answered p Dialling ≡ Dialling
answered_none (DialRsp error connect_id random) h = absurd h
answered_none (DialReq protocol address random) h = refl
answered_none (Data connect_id error bytes) h = refl
answered_none (CloseReq connect_id) h = refl
answered_none (CloseRsp error connect_id) h = refl
answered_none (DialCls random) h = refl
answered_none Drain h = refl
answered_none (Other number) h = refl

pub still_dialling : (ps : List Packet) → NoAnswers ps → all_answered true ps Dialling ≡ Dialling
still_dialling [] h = refl
still_dialling (p ∷ ps) h = ap (all_answered true ps) (answered_none p h.0) ∙ still_dialling ps h.1

pub all_finished : (ps : List Packet) → all_finish true ps true ≡ true
all_finished [] = refl
all_finished (p ∷ ps) = all_finished ps

-- ---- bytes are taken as they come, or wait
pub appended_nil : (xs : List ℕ) → xs ++ [] ≡ xs
appended_nil [] = refl
appended_nil (x ∷ xs) = ap (λ ys. x ∷ ys) (appended_nil xs)

take_all : (xs : List ℕ) → take (length xs) xs ≡ xs
take_all [] = refl
take_all (x ∷ xs) = ap (λ ys. x ∷ ys) (take_all xs)

drop_all : (xs : List ℕ) → drop (length xs) xs ≡ []
drop_all [] = refl
drop_all (x ∷ xs) = drop_all xs

-- an app that has left with the end of the tunnel shows as one that has still to take
emptied_view : (a : App) → (a.stage ≡ stage.Refused → a.door.closing ≡ false) → view (door.emptied a) ≡ view a
emptied_view a h = here a.door.closing refl (door.is_empty a)
  where
    gone : (s : Stage) → a.stage ≡ s → a.door.closing ≡ true → view (record a { stage = stage.Ended }) ≡ view a
    gone stage.Dialling e c = rw (c, e) refl
    gone stage.Open e c = rw (c, e) refl
    gone stage.Ended e c = rw (c, e) refl
    gone stage.Refused e c = absurd (cc (h e, c))

    here : (closing : Bool) → a.door.closing ≡ closing → (empty : Bool) → view (cond (closing && empty) (record a { stage = stage.Ended }) a) ≡ view a
    here true c true = gone a.stage refl c
    here true c false = refl
    here false c empty = refl

all_view : (a : App) → view (record a { door = door.with_reply 0 a.door; side = record a.side { coming = record { passed = a.side.coming.passed ++ take (length a.side.coming.waiting) a.side.coming.waiting; waiting = drop (length a.side.coming.waiting) a.side.coming.waiting } } }) ≡ view a
all_view a = rw (take_all a.side.coming.waiting, drop_all a.side.coming.waiting, appended_nil (a.side.coming.passed ++ a.side.coming.waiting)) refl

pub freely_view : (held : Bool) (a : App) → (a.stage ≡ stage.Refused → a.door.closing ≡ false) → view (door.took_freely held a) ≡ view a
freely_view true a h = emptied_view a h
freely_view false a h = emptied_view (record a { door = door.with_reply 0 a.door; side = record a.side { coming = record { passed = a.side.coming.passed ++ take (length a.side.coming.waiting) a.side.coming.waiting; waiting = drop (length a.side.coming.waiting) a.side.coming.waiting } } }) h ∙ all_view a

-- while the tunnel has not ended, the stage stays too
emptied_open : (a : App) → a.door.closing ≡ false → door.emptied a ≡ a
emptied_open a c = rw c refl

pub freely_stage : (held : Bool) (a : App) → a.door.closing ≡ false → (door.took_freely held a).stage ≡ a.stage
freely_stage true a c = ap (λ (b : App). b.stage) (emptied_open a c)
freely_stage false a c = rw c refl

emptied_closing : (a : App) → (door.emptied a).door.closing ≡ a.door.closing
emptied_closing a = here (a.door.closing && door.is_empty a)
  where
    here : (b : Bool) → (cond b (record a { stage = stage.Ended }) a).door.closing ≡ a.door.closing
    here true = refl
    here false = refl

pub freely_closing : (held : Bool) (a : App) → (door.took_freely held a).door.closing ≡ a.door.closing
freely_closing true a = emptied_closing a
freely_closing false a = emptied_closing (record a { door = door.with_reply 0 a.door; side = record a.side { coming = record { passed = a.side.coming.passed ++ take (length a.side.coming.waiting) a.side.coming.waiting; waiting = drop (length a.side.coming.waiting) a.side.coming.waiting } } })
