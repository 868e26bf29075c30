-- Which changes of an app or a destination leave no end due, for all but one app and one dial.
use Rattle.std.proofs.Common.{◌&&◌, ◌==◌, ◌≤◌, arith, ◌≡◌, ◌++◌, ℕ, ℤ, zero, suc, Bool, true, false, cond, List, [], ◌∷◌, length, min, ◌+◌, ◌-◌, Option, None, Some, refl, sym, ap, ◌∙◌, subst, eqb-true}
use Rattle.std.specs.Option.{option_map}
use Rattle.kn_packet.specs.declared.packet.Packet.{Packet}
use Rattle.kn_packet.specs.declared.packet.Packet.TheVariants.{CloseReq, CloseRsp, Data, DialCls, DialReq, DialRsp, Drain, Other}
use Rattle.kn_connect.specs.Replies.{status_and_reason}
use Rattle.kn_connect.specs.Statuses.{error_status, reply_length}
use Rattle.kn_edge_core.specs.declared.app.AppState.{AppState}
use Rattle.kn_edge_core.specs.declared.app.AppState.TheVariants as app_state
use Rattle.kn_world.specs.declared.parts.App.{App}
use Rattle.kn_world.specs.declared.parts.Dial.{Dial}
use Rattle.kn_world.specs.declared.parts.Side.{Side}
use Rattle.kn_world.specs.declared.parts.Stage.{Stage}
use Rattle.kn_world.specs.declared.parts.Stage.TheVariants.{Dialling, Ended, Open, Refused}
use Rattle.kn_world.specs.declared.state.State.{State}
use Rattle.kn_world.specs.Answering as answering
use Rattle.kn_world.specs.Apps as apps
use Rattle.kn_world.specs.Doors as door
use Rattle.kn_world.specs.Handing as handing
use Rattle.kn_world.specs.Numbers.{change, nth}
use Rattle.kn_world.specs.Sides as sides
use Rattle.kn_refinement.proofs.NumberLemmas.{nth_change, nth_more, nth_within}

-- what is read of an app: whether its end is due
abbrev pub due : App → Bool
due a = answering.is_due a.side

-- ---- what an app takes by CONNECT
emptied_due : (a : App) → due (door.emptied a) ≡ due a
emptied_due a = here (a.door.closing && door.is_empty a)
  where
    here : (b : Bool) → due (cond b (record a { stage = Ended }) a) ≡ due a
    here true = refl
    here false = refl

took_due : (count : ℕ) (a : App) → due (door.took count a) ≡ due a
took_due count a = emptied_due (record a { door = door.with_reply (a.door.reply - min count a.door.reply) a.door; side = sides.took (count - min count a.door.reply) a.side })

pub took_at_due : (stage : Stage) (count : ℕ) (a : App) → due (door.took_at stage count a) ≡ due a
took_at_due Dialling count a = took_due count a
took_at_due Open count a = took_due count a
took_at_due Refused count a = took_due count a
took_at_due Ended count a = refl

freely_due : (held : Bool) (a : App) → due (door.took_freely held a) ≡ due a
freely_due true a = emptied_due a
freely_due false a = emptied_due (record a { door = door.with_reply 0 a.door; side = sides.took (length a.side.coming.waiting) a.side })

-- ---- what it hears
pub refused_due : (status : ℕ) (a : App) → due (door.refused status a) ≡ due a
refused_due status a = freely_due a.side.held (record a { error = status_and_reason status; stage = Refused; door = record a.door { early = []; reply = reply_length status } })

answered_due : (error : List ℕ) (a : App) → due (door.answered error a) ≡ due a
answered_due [] a = freely_due a.side.held (record a { stage = Open; door = door.with_reply (reply_length 200) a.door })
answered_due (x ∷ xs) a = refused_due (error_status (x ∷ xs)) a

closed_due : (a : App) → due (door.closed a) ≡ due a
closed_due a = freely_due a.side.held (record a { door = record a.door { closing = true } })

heard_here : (p : Packet) (a : App) → due (door.heard p a) ≡ due a
heard_here (DialRsp error connect_id random) a = answered_due error a
heard_here (Data connect_id error more) a = freely_due a.side.held (record a { side = sides.written more a.side })
heard_here (CloseRsp error connect_id) a = closed_due a
heard_here (DialReq protocol address random) a = refl
heard_here (CloseReq connect_id) a = refl
heard_here (DialCls random) a = refl
heard_here Drain a = refl
heard_here (Other number) a = refl

heard_open : (p : Packet) (a : App) → due (door.heard_open p a) ≡ due a
heard_open p a = by (door.finishes p)
  where
    by : (b : Bool) → due (cond b (door.closed a) (door.heard p a)) ≡ due a
    by true = closed_due a
    by false = heard_here p a

heard_by : (stage : Stage) (p : Packet) (a : App) → due (door.heard_by stage p a) ≡ due a
heard_by Dialling p a = heard_here p a
heard_by Open p a = heard_open p a
heard_by Refused p a = refl
heard_by Ended p a = refl

pub heard_due : (p : Packet) (a : App) → due (apps.heard p a) ≡ due a
heard_due p a = by a.door.closing
  where
    by : (b : Bool) → due (cond b a (door.heard_by a.stage p a)) ≡ due a
    by true = refl
    by false = heard_by a.stage p a

-- ---- what else is done to an app
left_as : (stage : Stage) (error : List ℕ) (a : App) → due (apps.left_as stage error a) ≡ due a
left_as Dialling [] a = refl
left_as Dialling (x ∷ xs) a = refl
left_as Open error a = refl
left_as Refused error a = refl
left_as Ended error a = refl

pub left_due : (error : List ℕ) (a : App) → due (apps.left error a) ≡ due a
left_due error a = left_as a.stage error a

pub opened_if_due : (o : Option AppState) (a : App) → due (apps.opened_if o a) ≡ due a
opened_if_due (Some app_state.Open) a = refl
opened_if_due (Some app_state.Dialling) a = refl
opened_if_due (Some app_state.Closing) a = refl
opened_if_due (Some app_state.Lingering) a = refl
opened_if_due None a = refl

kept_some_due : (early : List ℕ) (a : App) → due (door.kept_some early a) ≡ due a
kept_some_due [] a = refl
kept_some_due (x ∷ xs) a = refl

pub early_kept_due : (stage : Stage) (early : List ℕ) (a : App) → due (door.early_kept stage early a) ≡ due a
early_kept_due Dialling early a = kept_some_due early a
early_kept_due Open early a = kept_some_due early a
early_kept_due Refused early a = refl
early_kept_due Ended early a = refl

-- one that was told is due no more
told : (ended waiting : Bool) → (ended && false && waiting) ≡ false
told true waiting = refl
told false waiting = refl

pub told_due : (side : Side) → answering.is_due (sides.end_told side) ≡ false
told_due side = told side.ended (length side.sending.waiting == 0)

-- ---- by the number, but for one app and one dial; 0 is the number of none
pub record Kept (but_app but_dial : ℕ) (all : List App) (targets : List Dial) : Type 0 where
  pub apps : (k : ℕ) → (k == but_app) ≡ false → handing.is_end_due_of (nth k all) ≡ false
  pub dials : (d : ℕ) → (d == but_dial) ≡ false → answering.is_end_due_of (nth d targets) ≡ false

abbrev pub Holds : ℕ → ℕ → State → Type 0
Holds but_app but_dial s = Kept but_app but_dial s.apps s.dials

mapped : (f : App → App) (b : Bool) (o : Option App) → ((a : App) → due (f a) ≡ due a) → handing.is_end_due_of (cond b (option_map f o) o) ≡ handing.is_end_due_of o
mapped f true None same = refl
mapped f true (Some a) same = same a
mapped f false None same = refl
mapped f false (Some a) same = refl

mapped_dial : (f : Dial → Dial) (b : Bool) (o : Option Dial) → ((d : Dial) → answering.is_due (f d).side ≡ answering.is_due d.side) → answering.is_end_due_of (cond b (option_map f o) o) ≡ answering.is_end_due_of o
mapped_dial f true None same = refl
mapped_dial f true (Some d) same = same d
mapped_dial f false None same = refl
mapped_dial f false (Some d) same = refl

never : (f : App → App) (o : Option App) → ((a : App) → due (f a) ≡ false) → handing.is_end_due_of (option_map f o) ≡ false
never f None none = refl
never f (Some a) none = none a

never_dial : (f : Dial → Dial) (o : Option Dial) → ((d : Dial) → answering.is_due (f d).side ≡ false) → answering.is_end_due_of (option_map f o) ≡ false
never_dial f None none = refl
never_dial f (Some d) none = none d

module _ (but_app but_dial : ℕ) where
  pub apps_changed : (f : App → App) → ((a : App) → due (f a) ≡ due a) → (n : ℕ) (s : State) → Holds but_app but_dial s → Holds but_app but_dial (record s { apps = change f n s.apps })
  apps_changed f same n s h = record {
    apps = λ k other. ap handing.is_end_due_of (nth_change f n k s.apps) ∙ mapped f (k == n) (nth k s.apps) same ∙ h.apps k other;
    dials = h.dials;
  }

  pub dials_changed : (f : Dial → Dial) → ((d : Dial) → answering.is_due (f d).side ≡ answering.is_due d.side) → (n : ℕ) (s : State) → Holds but_app but_dial s → Holds but_app but_dial (record s { dials = change f n s.dials })
  dials_changed f same n s h = record {
    apps = h.apps;
    dials = λ d other. ap answering.is_end_due_of (nth_change f n d s.dials) ∙ mapped_dial f (d == n) (nth d s.dials) same ∙ h.dials d other;
  }

  dial_by : (b : Bool) (o : Option Dial) (d : Dial) → answering.is_due d.side ≡ false → answering.is_end_due_of o ≡ false → answering.is_end_due_of (cond b (Some d) o) ≡ false
  dial_by true o d none it = none
  dial_by false o d none it = it

  pub dial_more : (d : Dial) → answering.is_due d.side ≡ false → (all : List App) (dials : List Dial) → Kept but_app but_dial all dials → Kept but_app but_dial all (dials ++ d ∷ [])
  dial_more d none all dials h = record {
    apps = h.apps;
    dials = λ n other. ap answering.is_end_due_of (nth_more dials d n) ∙ dial_by (n == suc (length dials)) (nth n dials) d none (h.dials n other);
  }

  app_by : (b : Bool) (o : Option App) (a : App) → due a ≡ false → handing.is_end_due_of o ≡ false → handing.is_end_due_of (cond b (Some a) o) ≡ false
  app_by true o a none it = none
  app_by false o a none it = it

  pub app_more : (a : App) → due a ≡ false → (all : List App) (dials : List Dial) → Kept but_app but_dial all dials → Kept but_app but_dial (all ++ a ∷ []) dials
  app_more a none all dials h = record {
    apps = λ k other. ap handing.is_end_due_of (nth_more all a k) ∙ app_by (k == suc (length all)) (nth k all) a none (h.apps k other);
    dials = h.dials;
  }

-- ---- a change of the one that is left out, and of one that is due no more from then on
other_of : (f : App → App) (b : Bool) (o : Option App) → b ≡ false → handing.is_end_due_of (cond b (option_map f o) o) ≡ handing.is_end_due_of o
other_of f true o e = absurd cc
other_of f false o e = refl

other_dial_of : (f : Dial → Dial) (b : Bool) (o : Option Dial) → b ≡ false → answering.is_end_due_of (cond b (option_map f o) o) ≡ answering.is_end_due_of o
other_dial_of f true o e = absurd cc
other_dial_of f false o e = refl

pub app_left_out : (f : App → App) (n but_dial : ℕ) (s : State) → Holds n but_dial s → Holds n but_dial (record s { apps = change f n s.apps })
app_left_out f n but_dial s h = record {
  apps = λ k other. ap handing.is_end_due_of (nth_change f n k s.apps) ∙ other_of f (k == n) (nth k s.apps) other ∙ h.apps k other;
  dials = h.dials;
}

pub dial_left_out : (f : Dial → Dial) (n but_app : ℕ) (s : State) → Holds but_app n s → Holds but_app n (record s { dials = change f n s.dials })
dial_left_out f n but_app s h = record {
  apps = h.apps;
  dials = λ d other. ap answering.is_end_due_of (nth_change f n d s.dials) ∙ other_dial_of f (d == n) (nth d s.dials) other ∙ h.dials d other;
}

-- 0 is the number of none, so all are meant
pub but : (n : ℕ) (s : State) → Holds 0 0 s → Holds n 0 s
but n s h = record { apps = λ k other. all k (k == 0) refl; dials = h.dials }
  where
    all : (k : ℕ) (b : Bool) → (k == 0) ≡ b → handing.is_end_due_of (nth k s.apps) ≡ false
    all k true e = ap (λ m. handing.is_end_due_of (nth m s.apps)) (eqb-true k 0 e)
    all k false e = h.apps k e

pub but_dial : (n : ℕ) (s : State) → Holds 0 0 s → Holds 0 n s
but_dial n s h = record { apps = h.apps; dials = λ d other. all d (d == 0) refl }
  where
    all : (d : ℕ) (b : Bool) → (d == 0) ≡ b → answering.is_end_due_of (nth d s.dials) ≡ false
    all d true e = ap (λ m. answering.is_end_due_of (nth m s.dials)) (eqb-true d 0 e)
    all d false e = h.dials d e

pub with_app : (n : ℕ) (s : State) → handing.is_end_due n s ≡ false → Holds n 0 s → Holds 0 0 s
with_app n s none h = record { apps = λ k other. by k (k == n) refl; dials = h.dials }
  where
    by : (k : ℕ) (b : Bool) → (k == n) ≡ b → handing.is_end_due_of (nth k s.apps) ≡ false
    by k true e = ap (λ m. handing.is_end_due_of (nth m s.apps)) (eqb-true k n e) ∙ none
    by k false e = h.apps k e

pub with_dial : (n : ℕ) (s : State) → answering.is_end_due n s ≡ false → Holds 0 n s → Holds 0 0 s
with_dial n s none h = record { apps = h.apps; dials = λ d other. by d (d == n) refl }
  where
    by : (d : ℕ) (b : Bool) → (d == n) ≡ b → answering.is_end_due_of (nth d s.dials) ≡ false
    by d true e = ap (λ m. answering.is_end_due_of (nth m s.dials)) (eqb-true d n e) ∙ none
    by d false e = h.dials d e

changed_here : (f : App → App) (b : Bool) (o : Option App) → b ≡ true → ((a : App) → due (f a) ≡ false) → handing.is_end_due_of (cond b (option_map f o) o) ≡ false
changed_here f true o e none = never f o none
changed_here f false o e none = absurd cc

changed_dial_here : (f : Dial → Dial) (b : Bool) (o : Option Dial) → b ≡ true → ((d : Dial) → answering.is_due (f d).side ≡ false) → answering.is_end_due_of (cond b (option_map f o) o) ≡ false
changed_dial_here f true o e none = never_dial f o none
changed_dial_here f false o e none = absurd cc

same_number : (n : ℕ) → (n == n) ≡ true
same_number zero = refl
same_number (suc n) = Rattle.std.proofs.Math.Dec.eqb-suc-suc n n ∙ same_number n

pub app_told : (n : ℕ) (s : State) → Holds n 0 s → Holds 0 0 (record s { apps = change apps.end_told n s.apps })
app_told n s h = with_app n (record s { apps = change apps.end_told n s.apps })
    (ap handing.is_end_due_of (nth_change apps.end_told n n s.apps) ∙ changed_here apps.end_told (n == n) (nth n s.apps) (same_number n) (λ a. told_due a.side))
    (app_left_out apps.end_told n 0 s h)

pub dial_told : (n : ℕ) (s : State) → Holds 0 n s → Holds 0 0 (record s { dials = change Rattle.kn_world.specs.Dials.end_told n s.dials })
dial_told n s h = with_dial n (record s { dials = change Rattle.kn_world.specs.Dials.end_told n s.dials })
    (ap answering.is_end_due_of (nth_change Rattle.kn_world.specs.Dials.end_told n n s.dials) ∙ changed_dial_here Rattle.kn_world.specs.Dials.end_told (n == n) (nth n s.dials) (same_number n) (λ d. told_due d.side))
    (dial_left_out Rattle.kn_world.specs.Dials.end_told n 0 s h)
