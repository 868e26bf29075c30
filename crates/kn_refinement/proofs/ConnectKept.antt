-- What a step of the server leaves as it was of an app by CONNECT.
use Rattle.std.proofs.Common.{◌≡◌, ◌==◌, ◌&&◌, ◌⊎◌, inl, inr, ℕ, Bool, true, false, cond, List, [], ◌∷◌, length, Option, Some, None, refl, sym, ap, ◌∙◌, subst}
use Rattle.std.specs.Option.{option_map}
use Rattle.kn_packet.specs.declared.packet.Packet.{Packet}
use Rattle.kn_packet.specs.declared.packet.Packet.TheVariants.{CloseReq, CloseRsp, Data, DialCls, DialReq, DialRsp, Drain, Other}
use Rattle.kn_server_core.specs.Server as core
use Rattle.kn_server_core.specs.declared.event.ServerEvent.{ServerEvent}
use Rattle.kn_server_core.specs.declared.event.ServerOut.{ServerOut}
use Rattle.kn_server_core.specs.declared.event.ServerOut.TheVariants as out
use Rattle.kn_connect.specs.Replies.{status_and_reason}
use Rattle.kn_connect.specs.Statuses.{error_status, reply_length}
use Rattle.kn_world.specs.declared.parts.App.{App}
use Rattle.kn_world.specs.declared.parts.Home.TheVariants as home
use Rattle.kn_world.specs.declared.parts.Owner.{Owner}
use Rattle.kn_world.specs.declared.parts.Owner.TheVariants as owner
use Rattle.kn_world.specs.declared.parts.Stage.{Stage}
use Rattle.kn_world.specs.declared.parts.Stage.TheVariants as stage
use Rattle.kn_world.specs.declared.state.State.{State}
use Rattle.kn_world.specs.Apps as apps
use Rattle.kn_world.specs.Doors as door
use Rattle.kn_world.specs.Numbers.{change, nth}
use Rattle.kn_world.specs.ServerSteps.{gives, gives_all, step, stepped, to_owner}
use Rattle.kn_world.specs.Sides as side
use Rattle.kn_refinement.proofs.NumberLemmas.{nth_change}

-- ---- what holds of an app of a number whatever the server tells it
abbrev pub Has : (App → Type 0) → ℕ → List App → Type 0
Has P k xs = (a : App) × (nth k xs ≡ Some a) × P a

module _ (P : App → Type 0) (hears : (p : Packet) (a : App) → P a → P (apps.heard p a)) (asks : (dial : ℕ) (a : App) → P a → P (apps.with_dial dial a)) where
  changed_has : (f : App → App) → ((a : App) → P a → P (f a)) → (j k : ℕ) (xs : List App) → Has P k xs → Has P k (change f j xs)
  changed_has f keeps j k xs h = here (k == j) refl
    where
      here : (b : Bool) → (k == j) ≡ b → Has P k (change f j xs)
      here true e = (f h.0, nth_change f j k xs ∙ ap (λ b. cond b (option_map f (nth k xs)) (nth k xs)) e ∙ ap (λ o. option_map f o) h.1, keeps h.0 h.2)
      here false e = (h.0, nth_change f j k xs ∙ ap (λ b. cond b (option_map f (nth k xs)) (nth k xs)) e ∙ h.1, h.2)

  told : (o : Option Owner) (p : Packet) (k : ℕ) (s : State) → Has P k s.apps → Has P k (to_owner o p s).apps
  told None p k s h = h
  told (Some (owner.Client c)) p k s h = h
  told (Some (owner.App j)) p k s h = changed_has (apps.heard p) (hears p) j k s.apps h

  given : (o : ServerOut) (app k : ℕ) (s : State) → Has P k s.apps → Has P k (gives o app s).apps
  given (out.ToLink link p) app k s h = h
  given (out.CutLink link) app k s h = h
  given (out.ToFront front p) app k s h = told (nth front s.fronts) p k s h
  given (out.Made dial link front) app k s h = changed_has (apps.with_dial dial) (asks dial) app k s.apps h

  all_given : (os : List ServerOut) (app k : ℕ) (s : State) → Has P k s.apps → Has P k (gives_all os app s).apps
  all_given [] app k s h = h
  all_given (o ∷ os) app k s h = all_given os app k (gives o app s) (given o app k s h)

  pub step_has : (app : ℕ) (event : ServerEvent) (k : ℕ) (s : State) → Has P k s.apps → Has P k (step app event s).apps
  step_has app event k s h = all_given (core.step s.server event).outs app k (stepped app event s) h

-- ---- its home and the number of its front
pub record Tied (n : ℕ) (a : App) : Type 0 where
  pub at_door : a.home ≡ home.Connect
  pub number : a.door.number ≡ n

module _ (n : ℕ) where
  emptied_tied : (a : App) → Tied n a → Tied n (door.emptied a)
  emptied_tied a t = here (a.door.closing && door.is_empty a)
    where
      here : (b : Bool) → Tied n (cond b (record a { stage = stage.Ended }) a)
      here true = record { at_door = t.at_door; number = t.number }
      here false = t

  abbrev emptying : App → App
  emptying a = record a { door = door.with_reply 0 a.door; side = side.took (length a.side.coming.waiting) a.side }

  freely_tied : (held : Bool) (a : App) → Tied n a → Tied n (door.took_freely held a)
  freely_tied true a t = emptied_tied a t
  freely_tied false a t = emptied_tied (emptying a) (record { at_door = t.at_door; number = t.number })

  closed_tied : (a : App) → Tied n a → Tied n (door.closed a)
  closed_tied a t = freely_tied a.side.held (record a { door = record a.door { closing = true } }) (record { at_door = t.at_door; number = t.number })

  answered_tied : (error : List ℕ) (a : App) → Tied n a → Tied n (door.answered error a)
  answered_tied [] a t = freely_tied a.side.held (record a { stage = stage.Open; door = door.with_reply (reply_length 200) a.door }) (record { at_door = t.at_door; number = t.number })
  answered_tied (x ∷ xs) a t =
      freely_tied a.side.held (record a { error = status_and_reason (error_status (x ∷ xs)); stage = stage.Refused; door = record a.door { early = []; reply = reply_length (error_status (x ∷ xs)) } })
      (record { at_door = t.at_door; number = t.number })

  heard_tied : (p : Packet) (a : App) → Tied n a → Tied n (door.heard p a)
  heard_tied (DialRsp error connect_id random) a t = answered_tied error a t
  heard_tied (Data connect_id error bytes) a t = freely_tied a.side.held (record a { side = side.written bytes a.side }) (record { at_door = t.at_door; number = t.number })
  heard_tied (CloseRsp error connect_id) a t = closed_tied a t
  heard_tied (DialReq protocol address random) a t = t
  heard_tied (CloseReq connect_id) a t = t
  heard_tied (DialCls random) a t = t
  heard_tied Drain a t = t
  heard_tied (Other number) a t = t

  by_stage : (g : Stage) (p : Packet) (a : App) → Tied n a → Tied n (door.heard_by g p a)
  by_stage stage.Dialling p a t = heard_tied p a t
  by_stage stage.Open p a t = here (door.finishes p)
    where
      here : (b : Bool) → Tied n (cond b (door.closed a) (door.heard p a))
      here true = closed_tied a t
      here false = heard_tied p a t
  by_stage stage.Refused p a t = t
  by_stage stage.Ended p a t = record { at_door = t.at_door; number = t.number }

  hearing_tied : (p : Packet) (a : App) → Tied n a → Tied n (apps.heard p a)
  hearing_tied p a t = here a.door.closing
    where
      here : (b : Bool) → Tied n (cond b a (door.heard_by a.stage p a))
      here true = t
      here false = by_stage a.stage p a t

  pub step_tied : (app : ℕ) (event : ServerEvent) (k : ℕ) (s : State) → Has (Tied n) k s.apps → Has (Tied n) k (step app event s).apps
  step_tied app event k s h = step_has (Tied n) hearing_tied (λ dial a t. record { at_door = t.at_door; number = t.number }) app event k s h

-- ---- once its dial was answered, it is open until the server ends the tunnel
abbrev pub Answered : App → Type 0
Answered a = (a.stage ≡ stage.Open) ⊎ (a.door.closing ≡ true)

emptied_answered : (a : App) → Answered a → Answered (door.emptied a)
emptied_answered a t = here a.door.closing refl (door.is_empty a)
  where
    here : (c : Bool) → a.door.closing ≡ c → (b : Bool) → Answered (cond (c && b) (record a { stage = stage.Ended }) a)
    here true c true = inr c
    here true c false = t
    here false c b = t

freely_answered : (held : Bool) (a : App) → Answered a → Answered (door.took_freely held a)
freely_answered true a t = emptied_answered a t
freely_answered false a t = emptied_answered (record a { door = door.with_reply 0 a.door; side = side.took (length a.side.coming.waiting) a.side }) t

heard_answered : (p : Packet) (a : App) → a.stage ≡ stage.Open → door.finishes p ≡ false → Answered (door.heard p a)
heard_answered (DialRsp [] connect_id random) a t f = freely_answered a.side.held (record a { stage = stage.Open; door = door.with_reply (reply_length 200) a.door }) (inl refl)
heard_answered (DialRsp (x ∷ xs) connect_id random) a t f = absurd (cc f)
heard_answered (Data connect_id error bytes) a t f = freely_answered a.side.held (record a { side = side.written bytes a.side }) (inl t)
heard_answered (CloseRsp error connect_id) a t f = absurd (cc f)
heard_answered (DialReq protocol address random) a t f = inl t
heard_answered (CloseReq connect_id) a t f = inl t
heard_answered (DialCls random) a t f = inl t
heard_answered Drain a t f = inl t
heard_answered (Other number) a t f = inl t

hearing_answered : (p : Packet) (a : App) → Answered a → Answered (apps.heard p a)
hearing_answered p a t = here a.door.closing refl
  where
    opened : a.door.closing ≡ false → Answered a → a.stage ≡ stage.Open
    opened c (inl e) = e
    opened c (inr e) = absurd (cc (c, e))

    on : a.stage ≡ stage.Open → (b : Bool) → door.finishes p ≡ b → Answered (cond b (door.closed a) (door.heard p a))
    on e true f = freely_answered a.side.held (record a { door = record a.door { closing = true } }) (inr refl)
    on e false f = heard_answered p a e f

    here : (c : Bool) → a.door.closing ≡ c → Answered (cond c a (door.heard_by a.stage p a))
    here true c = t
    here false c = let e : a.stage ≡ stage.Open = opened c t in subst (λ g. Answered (door.heard_by g p a)) (sym e) (on e (door.finishes p) refl)

pub record TiedAnswered (n : ℕ) (a : App) : Type 0 where
  pub tied : Tied n a
  pub answered : Answered a

pub step_answered : (n app : ℕ) (event : ServerEvent) (k : ℕ) (s : State) → Has (TiedAnswered n) k s.apps → Has (TiedAnswered n) k (step app event s).apps
step_answered n app event k s h = step_has (TiedAnswered n) (λ p a t. record { tied = hearing_tied n p a t.tied; answered = hearing_answered p a t.answered })
    (λ dial a t. record { tied = record { at_door = t.tied.at_door; number = t.tied.number }; answered = t.answered }) app event k s h
