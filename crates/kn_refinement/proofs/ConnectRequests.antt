-- What an app by CONNECT sent behind its head goes behind the request: whether it is kept before the request is answered or after shows the same.
use Rattle.std.proofs.Common.{◌≡◌, ◌&&◌, ℕ, ℤ, pos, Bool, true, false, cond, List, [], ◌∷◌, length, Some, Result, Ok, Err, refl, sym, ap, ◌∙◌}
use Rattle.std.specs.Prelude.{codes}
use Rattle.kn_packet.specs.declared.packet.Packet.{Packet}
use Rattle.kn_packet.specs.declared.packet.Packet.TheVariants.{DialRsp}
use Rattle.kn_server_core.specs.Choices.{choice_at}
use Rattle.kn_server_core.specs.Server as core
use Rattle.kn_server_core.specs.Steps.{Step}
use Rattle.kn_server_core.specs.FrontLists.{is_up}
use Rattle.kn_server_core.specs.declared.event.ServerEvent.TheVariants.{FrontPacket}
use Rattle.kn_server_core.specs.declared.state.State.{State as ServerState}
use Rattle.kn_connect.specs.Replies.{status_and_reason}
use Rattle.kn_connect.specs.Statuses.{error_status, reply_length}
use Rattle.kn_world.specs.declared.parts.App.{App}
use Rattle.kn_world.specs.declared.parts.AppChoice.{AppChoice}
use Rattle.kn_world.specs.declared.parts.Home.TheVariants as home
use Rattle.kn_world.specs.declared.parts.Owner.TheVariants as owner
use Rattle.kn_world.specs.declared.parts.Stage.TheVariants as stage
use Rattle.kn_world.specs.declared.state.State.{State}
use Rattle.kn_world.specs.Apps as apps
use Rattle.kn_world.specs.Doors as door
use Rattle.kn_world.specs.Hearing.{request}
use Rattle.kn_world.specs.Numbers.{change, changed, nth, put_nth}
use Rattle.kn_world.specs.ServerSteps.{choices_with, gives_all, step, to_owner}
use Rattle.kn_world.specs.Sides as side
use Rattle.kn_refinement.specs.Shown.{connect_app, connect_stream, shown}
use Rattle.kn_refinement.proofs.Changes.{change_twice, changed_own}
use Rattle.kn_refinement.proofs.ConnectHands.{map_more}
use Rattle.kn_refinement.proofs.ConnectTakes.{Alike, nothing_shown}

-- ---- two changes of an app that show the same
change_own : (f g : App → App) (k : ℕ) (xs : List App) (a : App) → nth k xs ≡ Some a → f a ≡ g a → change f k xs ≡ change g k xs
change_own f g k xs a there e = ap (λ o. changed f k xs o) there ∙ ap (λ b. put_nth k xs b) e ∙ sym (ap (λ o. changed g k xs o) there)

pub alike_shown : (s : State) (k : ℕ) (xs : List App) (a : App) (f g : App → App) → nth k xs ≡ Some a → (f a).home ≡ home.Connect → (g a).home ≡ home.Connect → (g a).door.number ≡ (f a).door.number → Alike (f a) (g a)
    → shown (record s { apps = change f k xs }) ≡ shown (record s { apps = change g k xs })
alike_shown s k xs a f g there at new_at number alike =
    nothing_shown (record s { apps = change f k xs }) k (f a) (λ x. g a) (changed_own f k xs a there) at new_at number alike
    ∙ ap (λ ys. shown (record s { apps = ys })) (change_twice (λ x. g a) f k xs ∙ change_own (λ x. g a) g k xs a there refl)

same_alike : (a b : App) → a ≡ b → Alike a b
same_alike a b e = record { stream = λ k. ap (λ x. connect_stream k (Some x)) e; app = ap connect_app e }

-- ---- what it makes of the answer to its request
unfoldable pub emptying : App → App
emptying a = record a { door = door.with_reply 0 a.door; side = side.took (length a.side.coming.waiting) a.side }

unfoldable pub plainly : Bool → App → App
plainly true a = a
plainly false a = emptying a

pub taken_plainly : (held : Bool) (a : App) → a.door.closing ≡ false → door.took_freely held a ≡ plainly held a
unfolding emptying plainly
taken_plainly true a e = ap (λ c. cond (c && door.is_empty a) (record a { stage = stage.Ended }) a) e
taken_plainly false a e = ap (λ c. cond (c && door.is_empty (emptying a)) (record (emptying a) { stage = stage.Ended }) (emptying a)) e

abbrev opening : App → App
opening b = record b { stage = stage.Open; door = door.with_reply (reply_length 200) b.door }

abbrev refusing : List ℕ → App → App
refusing text b = record b { error = status_and_reason (error_status text); stage = stage.Refused; door = record b.door { early = []; reply = reply_length (error_status text) } }

open_keeps : (held : Bool) (early : List ℕ) (b : App) → apps.early_kept early (plainly held (opening b)) ≡ plainly held (opening (door.kept_some early b))
unfolding plainly emptying
open_keeps true [] b = refl
open_keeps true (x ∷ xs) b = refl
open_keeps false [] b = refl
open_keeps false (x ∷ xs) b = refl

refused_drops : (held : Bool) (early text : List ℕ) (b : App) → apps.early_kept early (plainly held (refusing text b)) ≡ plainly held (refusing text (door.kept_some early b))
unfolding plainly emptying
refused_drops true [] text b = refl
refused_drops true (x ∷ xs) text b = refl
refused_drops false [] text b = refl
refused_drops false (x ∷ xs) text b = refl

kept_closing : (early : List ℕ) (b : App) → (door.kept_some early b).door.closing ≡ b.door.closing
kept_closing [] b = refl
kept_closing (x ∷ xs) b = refl

kept_stage : (early : List ℕ) (b : App) → (door.kept_some early b).stage ≡ b.stage
kept_stage [] b = refl
kept_stage (x ∷ xs) b = refl

kept_held : (early : List ℕ) (b : App) → (door.kept_some early b).side.held ≡ b.side.held
kept_held [] b = refl
kept_held (x ∷ xs) b = refl

pub heard_is : (text : List ℕ) (c r : ℤ) (b : App) → b.stage ≡ stage.Dialling → b.door.closing ≡ false → apps.heard (DialRsp text c r) b ≡ door.answered text b
heard_is text c r b s e = ap (λ d. cond d b (door.heard_by b.stage (DialRsp text c r) b)) e ∙ ap (λ g. door.heard_by g (DialRsp text c r) b) s

abbrev shaped : List ℕ → App → App
shaped [] b = opening b
shaped (x ∷ xs) b = refusing (x ∷ xs) b

answered_is : (held : Bool) (text : List ℕ) (b : App) → b.side.held ≡ held → b.door.closing ≡ false → door.answered text b ≡ plainly held (shaped text b)
answered_is held [] b h e = taken_plainly b.side.held (opening b) e ∙ ap (λ x. plainly x (opening b)) h
answered_is held (x ∷ xs) b h e = taken_plainly b.side.held (refusing (x ∷ xs) b) e ∙ ap (λ y. plainly y (refusing (x ∷ xs) b)) h

shaped_keeps : (held : Bool) (early text : List ℕ) (b : App) → apps.early_kept early (plainly held (shaped text b)) ≡ plainly held (shaped text (door.kept_some early b))
shaped_keeps held early [] b = open_keeps held early b
shaped_keeps held early (x ∷ xs) b = refused_drops held early (x ∷ xs) b

request_heard : (early text : List ℕ) (c r : ℤ) (b : App) → b.stage ≡ stage.Dialling → b.door.closing ≡ false → apps.early_kept early (apps.heard (DialRsp text c r) b) ≡ apps.heard (DialRsp text c r) (door.kept_some early b)
request_heard early text c r b s e =
    let k : App = door.kept_some early b in
    ap (apps.early_kept early) (heard_is text c r b s e ∙ answered_is b.side.held text b refl e)
    ∙ shaped_keeps b.side.held early text b
    ∙ sym (heard_is text c r k (kept_stage early b ∙ s) (kept_closing early b ∙ e) ∙ answered_is b.side.held text k (kept_held early b) (kept_closing early b ∙ e))

-- ---- its dial is made
dialled_alike : (early : List ℕ) (dial : ℕ) (b : App) → Alike (door.kept_some early (apps.with_dial dial b)) (apps.with_dial dial (door.kept_some early b))
dialled_alike [] dial b = record { stream = λ k. refl; app = refl }
dialled_alike (x ∷ xs) dial b = record {
  stream = λ k. ap (λ ps. record (connect_stream k (Some b)) { up = ps })
      (map_more b.door.early (door.data_of dial (x ∷ xs)) ∙ sym (map_more b.door.early (door.data_of b.dial (x ∷ xs))));
  app = refl;
}

dialling_kept : (early : List ℕ) (b : App) → b.stage ≡ stage.Dialling → apps.early_kept early b ≡ door.kept_some early b
dialling_kept early b e = ap (λ g. door.early_kept g early b) e

-- ---- the step of the server
kept_home : (early : List ℕ) (b : App) → (door.kept_some early b).home ≡ b.home
kept_home [] b = refl
kept_home (x ∷ xs) b = refl

kept_number : (early : List ℕ) (b : App) → (door.kept_some early b).door.number ≡ b.door.number
kept_number [] b = refl
kept_number (x ∷ xs) b = refl

module _ (s : State) (k f : ℕ) (b : App) (early : List ℕ) (there : nth k s.apps ≡ Some b) (at_door : b.home ≡ home.Connect) (dialling : b.stage ≡ stage.Dialling) (open_yet : b.door.closing ≡ false) (front : nth f s.fronts ≡ Some (owner.App k)) where
  -- with the bytes kept before
  abbrev pub before : State
  before = record s { apps = change (door.kept_some early) k s.apps }

  abbrev keeping : State → State
  keeping t = record t { apps = change (apps.early_kept early) k t.apps }

  module _ (choices : List AppChoice) where
    abbrev after_step : Step → State → State
    after_step x t = gives_all x.outs k (record t { server = x.state; choices = choices })

    abbrev AsOne : Step → Type 0
    AsOne x = shown (keeping (after_step x s)) ≡ shown (after_step x before)

    nothing_given : (t : ServerState) → AsOne (record { state = t; outs = [] })
    nothing_given t = alike_shown (record s { server = t; choices = choices }) k s.apps b (apps.early_kept early) (door.kept_some early) there
        (ap (λ (x : App). x.home) (dialling_kept early b dialling) ∙ kept_home early b ∙ at_door) (kept_home early b ∙ at_door)
        (sym (ap (λ (x : App). x.door.number) (dialling_kept early b dialling))) (same_alike (apps.early_kept early b) (door.kept_some early b) (dialling_kept early b dialling))

    chosen : (protocol target : List ℕ) (c : Result ℕ (List ℕ)) → AsOne (core.dial_chosen s.server f protocol target (pos 0) c)
    chosen protocol target (Ok link) =
        let d : ℕ = s.server.next_dial in
        let x : Step = core.dial_chosen s.server f protocol target (pos 0) (Ok link) in
        let F : App → App = λ (y : App). apps.early_kept early (apps.with_dial d y) in
        let G : App → App = λ (y : App). apps.with_dial d (door.kept_some early y) in
        let e : apps.early_kept early (apps.with_dial d b) ≡ door.kept_some early (apps.with_dial d b) = dialling_kept early (apps.with_dial d b) dialling in
        ap (λ xs. shown (record (after_step x s) { apps = xs })) (change_twice (apps.early_kept early) (apps.with_dial d) k s.apps)
        ∙ alike_shown (after_step x s) k s.apps b F G there (ap (λ (y : App). y.home) e ∙ kept_home early (apps.with_dial d b) ∙ at_door) (kept_home early b ∙ at_door)
        (kept_number early b ∙ sym (ap (λ (y : App). y.door.number) e ∙ kept_number early (apps.with_dial d b)))
        (record { stream = λ j. ap (λ y. connect_stream j (Some y)) e ∙ (dialled_alike early d b).stream j; app = ap connect_app e ∙ (dialled_alike early d b).app })
        ∙ ap (λ xs. shown (record (after_step x s) { apps = xs })) (sym (change_twice (apps.with_dial d) (door.kept_some early) k s.apps))
    chosen protocol target (Err text) =
        let p : Packet = DialRsp text (pos 0) (pos 0) in
        let F : App → App = λ (y : App). apps.early_kept early (apps.heard p y) in
        let G : App → App = λ (y : App). apps.heard p (door.kept_some early y) in
        let e : apps.early_kept early (apps.heard p b) ≡ apps.heard p (door.kept_some early b) = request_heard early text (pos 0) (pos 0) b dialling open_yet in
        ap (λ o. shown (keeping (to_owner o p (record s { choices = choices })))) front
        ∙ ap (λ xs. shown (record s { apps = xs; choices = choices })) (change_twice (apps.early_kept early) (apps.heard p) k s.apps ∙ change_own F G k s.apps b there e ∙ sym (change_twice (apps.heard p) (door.kept_some early) k s.apps))
        ∙ ap (λ o. shown (to_owner o p (record before { choices = choices }))) (sym front)

  pub kept_as_one : (target : List ℕ) → shown (keeping (step k (FrontPacket f (request target)) s)) ≡ shown (step k (FrontPacket f (request target)) before)
  kept_as_one target = here (is_up f s.server.fronts)
    where
      noted : List AppChoice
      noted = choices_with (choice_at s.server (FrontPacket f (request target))) k s.choices

      here : (up : Bool) → AsOne noted (cond up (core.dial_asked s.server f (codes "tcp") target (pos 0)) (core.ignored s.server))
      here true = chosen noted (codes "tcp") target (core.dial_choice s.server f (codes "tcp") target (pos 0))
      here false = nothing_given noted s.server
