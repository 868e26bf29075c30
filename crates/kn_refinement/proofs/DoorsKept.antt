-- What no packet for an app by CONNECT changes, and that its dial plays no part in what it hears.
use Rattle.std.proofs.Common.{◌≡◌, ◌&&◌, ◌==◌, ℕ, Bool, true, false, cond, List, [], ◌∷◌, length, refl, ap, ◌∙◌}
use Rattle.kn_packet.specs.declared.packet.Packet.{Packet}
use Rattle.kn_packet.specs.declared.packet.Packet.TheVariants.{CloseReq, CloseRsp, Data, DialCls, DialReq, DialRsp, Drain, Other}
use Rattle.kn_server_core.specs.declared.event.ServerOut.{ServerOut}
use Rattle.kn_server_core.specs.declared.event.ServerOut.TheVariants as out
use Rattle.kn_packets.specs.Outputs.{for_front, more_if}
use Rattle.kn_connect.specs.Replies.{status_and_reason}
use Rattle.kn_connect.specs.Statuses.{error_status, reply_length}
use Rattle.kn_world.specs.declared.parts.App.{App}
use Rattle.kn_world.specs.declared.parts.Home.{Home}
use Rattle.kn_world.specs.declared.parts.Owner.{Owner}
use Rattle.kn_world.specs.declared.parts.Stage.{Stage}
use Rattle.kn_world.specs.declared.parts.Stage.TheVariants as stage
use Rattle.kn_world.specs.Apps as apps
use Rattle.kn_world.specs.Doors as door
use Rattle.kn_world.specs.Numbers.{nth}
use Rattle.kn_world.specs.Sides as side
use Rattle.kn_refinement.proofs.DoorsHeard.{heard_all}
use Rattle.kn_refinement.proofs.ServerOutputs.{app_after, is_app}

-- ---- kept
pub record Fixed : Type 0 where
  pub home : Home
  pub number : ℕ
  pub at_server : Bool
  pub dial : ℕ

abbrev pub fixed : App → Fixed
fixed a = record { home = a.home; number = a.door.number; at_server = a.door.at_server; dial = a.dial }

emptied_keeps : (a : App) → fixed (door.emptied a) ≡ fixed a
emptied_keeps a = here (a.door.closing && door.is_empty a)
  where
    here : (b : Bool) → fixed (cond b (record a { stage = stage.Ended }) a) ≡ fixed a
    here true = refl
    here false = refl

emptied_takes : (a : App) → App
emptied_takes a = record a { door = door.with_reply 0 a.door; side = side.took (length a.side.coming.waiting) a.side }

freely_keeps : (held : Bool) (a : App) → fixed (door.took_freely held a) ≡ fixed a
unfolding emptied_takes
freely_keeps true a = emptied_keeps a
freely_keeps false a = emptied_keeps (emptied_takes a)

answered_keeps : (error : List ℕ) (a : App) → fixed (door.answered error a) ≡ fixed a
answered_keeps [] a = freely_keeps a.side.held (record a { stage = stage.Open; door = door.with_reply (reply_length 200) a.door })
answered_keeps (x ∷ xs) a = freely_keeps a.side.held (record a { error = status_and_reason (error_status (x ∷ xs)); stage = stage.Refused; door = record a.door { early = []; reply = reply_length (error_status (x ∷ xs)) } })

closed_keeps : (a : App) → fixed (door.closed a) ≡ fixed a
closed_keeps a = freely_keeps a.side.held (record a { door = record a.door { closing = true } })

one_keeps : (p : Packet) (a : App) → fixed (door.heard p a) ≡ fixed a
one_keeps (DialRsp error connect_id random) a = answered_keeps error a
one_keeps (Data connect_id error bytes) a = freely_keeps a.side.held (record a { side = side.written bytes a.side })
one_keeps (CloseRsp error connect_id) a = closed_keeps a
one_keeps (DialReq protocol address random) a = refl
one_keeps (CloseReq connect_id) a = refl
one_keeps (DialCls random) a = refl
one_keeps Drain a = refl
one_keeps (Other number) a = refl

by_keeps : (s : Stage) (p : Packet) (a : App) → fixed (door.heard_by s p a) ≡ fixed a
by_keeps stage.Dialling p a = one_keeps p a
by_keeps stage.Open p a = here (door.finishes p)
  where
    here : (b : Bool) → fixed (cond b (door.closed a) (door.heard p a)) ≡ fixed a
    here true = closed_keeps a
    here false = one_keeps p a
by_keeps stage.Refused p a = refl
by_keeps stage.Ended p a = refl

pub hearing_keeps : (p : Packet) (a : App) → fixed (door.heard_at a.stage p a) ≡ fixed a
hearing_keeps p a = here a.door.closing
  where
    here : (b : Bool) → fixed (cond b a (door.heard_by a.stage p a)) ≡ fixed a
    here true = refl
    here false = by_keeps a.stage p a

pub all_keep : (ps : List Packet) (a : App) → fixed (heard_all ps a) ≡ fixed a
all_keep [] a = refl
all_keep (p ∷ ps) a = all_keep ps (door.heard_at a.stage p a) ∙ hearing_keeps p a

-- ---- the dial plays no part
emptied_dial : (d : ℕ) (a : App) → door.emptied (apps.with_dial d a) ≡ apps.with_dial d (door.emptied a)
emptied_dial d a = here (a.door.closing && door.is_empty a)
  where
    here : (b : Bool) → cond b (record (apps.with_dial d a) { stage = stage.Ended }) (apps.with_dial d a) ≡ apps.with_dial d (cond b (record a { stage = stage.Ended }) a)
    here true = refl
    here false = refl

freely_dial : (held : Bool) (d : ℕ) (a : App) → door.took_freely held (apps.with_dial d a) ≡ apps.with_dial d (door.took_freely held a)
unfolding emptied_takes
freely_dial true d a = emptied_dial d a
freely_dial false d a = emptied_dial d (emptied_takes a)

answered_dial : (error : List ℕ) (d : ℕ) (a : App) → door.answered error (apps.with_dial d a) ≡ apps.with_dial d (door.answered error a)
answered_dial [] d a = freely_dial a.side.held d (record a { stage = stage.Open; door = door.with_reply (reply_length 200) a.door })
answered_dial (x ∷ xs) d a = freely_dial a.side.held d (record a { error = status_and_reason (error_status (x ∷ xs)); stage = stage.Refused; door = record a.door { early = []; reply = reply_length (error_status (x ∷ xs)) } })

closed_dial : (d : ℕ) (a : App) → door.closed (apps.with_dial d a) ≡ apps.with_dial d (door.closed a)
closed_dial d a = freely_dial a.side.held d (record a { door = record a.door { closing = true } })

one_dial : (p : Packet) (d : ℕ) (a : App) → door.heard p (apps.with_dial d a) ≡ apps.with_dial d (door.heard p a)
one_dial (DialRsp error connect_id random) d a = answered_dial error d a
one_dial (Data connect_id error bytes) d a = freely_dial a.side.held d (record a { side = side.written bytes a.side })
one_dial (CloseRsp error connect_id) d a = closed_dial d a
one_dial (DialReq protocol address random) d a = refl
one_dial (CloseReq connect_id) d a = refl
one_dial (DialCls random) d a = refl
one_dial Drain d a = refl
one_dial (Other number) d a = refl

by_dial : (s : Stage) (p : Packet) (d : ℕ) (a : App) → door.heard_by s p (apps.with_dial d a) ≡ apps.with_dial d (door.heard_by s p a)
by_dial stage.Dialling p d a = one_dial p d a
by_dial stage.Open p d a = here (door.finishes p)
  where
    here : (b : Bool) → cond b (door.closed (apps.with_dial d a)) (door.heard p (apps.with_dial d a)) ≡ apps.with_dial d (cond b (door.closed a) (door.heard p a))
    here true = closed_dial d a
    here false = one_dial p d a
by_dial stage.Refused p d a = refl
by_dial stage.Ended p d a = refl

hearing_dial : (p : Packet) (d : ℕ) (a : App) → apps.heard p (apps.with_dial d a) ≡ apps.with_dial d (apps.heard p a)
hearing_dial p d a = here a.door.closing
  where
    here : (b : Bool) → cond b (apps.with_dial d a) (door.heard_by a.stage p (apps.with_dial d a)) ≡ apps.with_dial d (cond b a (door.heard_by a.stage p a))
    here true = refl
    here false = by_dial a.stage p d a

pub all_dial : (ps : List Packet) (d : ℕ) (a : App) → heard_all ps (apps.with_dial d a) ≡ apps.with_dial d (heard_all ps a)
all_dial [] d a = refl
all_dial (p ∷ ps) d a = ap (heard_all ps) (hearing_dial p d a) ∙ all_dial ps d (apps.heard p a)

-- ---- all outputs to an app: what it hears, and its dial
abbrev pub noted : Bool → ℕ → ℕ → ℕ
noted true dial d = dial
noted false dial d = d

abbrev pub dial_noted : ℕ → ℕ → List ServerOut → ℕ → ℕ
dial_noted app k [] d = d
dial_noted app k (out.Made dial link front ∷ os) d = dial_noted app k os (noted (k == app) dial d)
dial_noted app k (out.ToLink link p ∷ os) d = dial_noted app k os d
dial_noted app k (out.ToFront front p ∷ os) d = dial_noted app k os d
dial_noted app k (out.CutLink link ∷ os) d = dial_noted app k os d

dial_if : (b : Bool) (dial : ℕ) (a : App) → cond b (apps.with_dial dial a) a ≡ apps.with_dial (noted b dial a.dial) a
dial_if true dial a = refl
dial_if false dial a = refl

-- one that no front is of hears nothing
pub unheard_is : (fronts : List Owner) (app : ℕ) (os : List ServerOut) (k : ℕ) (a : App) → ((front : ℕ) → is_app k (nth front fronts) ≡ false)
    → app_after fronts app os k a ≡ apps.with_dial (dial_noted app k os a.dial) a
unheard_is fronts app [] k a h = refl
unheard_is fronts app (out.Made dial link front ∷ os) k a h = ap (app_after fronts app os k) (dial_if (k == app) dial a) ∙ unheard_is fronts app os k (apps.with_dial (noted (k == app) dial a.dial) a) h
unheard_is fronts app (out.ToLink link p ∷ os) k a h = unheard_is fronts app os k a h
unheard_is fronts app (out.CutLink link ∷ os) k a h = unheard_is fronts app os k a h
unheard_is fronts app (out.ToFront front p ∷ os) k a h = ap (λ b. app_after fronts app os k (cond b (apps.heard p a) a)) (h front) ∙ unheard_is fronts app os k a h

heard_if : (b : Bool) (p : Packet) (ps : List Packet) (a : App) → heard_all ps (cond b (apps.heard p a) a) ≡ heard_all (more_if b p ps) a
heard_if true p ps a = refl
heard_if false p ps a = refl

pub heard_is : (fronts : List Owner) (app : ℕ) (os : List ServerOut) (k f : ℕ) (a : App) → ((front : ℕ) → is_app k (nth front fronts) ≡ (f == front))
    → app_after fronts app os k a ≡ apps.with_dial (dial_noted app k os a.dial) (heard_all (for_front f os) a)
heard_is fronts app [] k f a h = refl
heard_is fronts app (out.Made dial link front ∷ os) k f a h =
    ap (app_after fronts app os k) (dial_if (k == app) dial a)
    ∙ heard_is fronts app os k f (apps.with_dial (noted (k == app) dial a.dial) a) h
    ∙ ap (apps.with_dial (dial_noted app k os (noted (k == app) dial a.dial))) (all_dial (for_front f os) (noted (k == app) dial a.dial) a)
heard_is fronts app (out.ToLink link p ∷ os) k f a h = heard_is fronts app os k f a h
heard_is fronts app (out.CutLink link ∷ os) k f a h = heard_is fronts app os k f a h
heard_is fronts app (out.ToFront front p ∷ os) k f a h =
    ap (λ b. app_after fronts app os k (cond b (apps.heard p a) a)) (h front)
    ∙ heard_is fronts app os k f (cond (f == front) (apps.heard p a) a) h
    ∙ ap (λ d. apps.with_dial (dial_noted app k os d) (heard_all (for_front f os) (cond (f == front) (apps.heard p a) a))) (same_dial (f == front))
    ∙ ap (apps.with_dial (dial_noted app k os a.dial)) (heard_if (f == front) p (for_front f os) a)
  where
    same_dial : (b : Bool) → (cond b (apps.heard p a) a).dial ≡ a.dial
    same_dial true = ap (λ (x : Fixed). x.dial) (hearing_keeps p a)
    same_dial false = refl
