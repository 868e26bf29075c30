-- What the outputs of a client's step come to for one of its apps.
use Rattle.std.proofs.Common.{◌≡◌, ◌==◌, ◌++◌, ◌⊎◌, inl, inr, ℕ, Bool, true, false, cond, List, [], ◌∷◌, Option, Some, None, refl, sym, ap, ◌∙◌, subst}
use Rattle.std.specs.Prelude.{is_some, if◌then◌else◌}
use Rattle.std.specs.Option.{option_map}
use Rattle.kn_edge_core.specs.declared.app.App.{App as ListedApp}
use Rattle.kn_edge_core.specs.declared.app.AppState.{AppState}
use Rattle.kn_edge_core.specs.declared.app.AppState.TheVariants as listed
use Rattle.kn_edge_core.specs.declared.client_event.ClientOut.{ClientOut}
use Rattle.kn_edge_core.specs.declared.client_event.ClientOut.TheVariants as out
use Rattle.kn_packets.specs.Moves.{leaves_as, phase_after}
use Rattle.kn_packets.specs.Outputs.{for_app}
use Rattle.kn_world.specs.declared.parts.App.{App}
use Rattle.kn_world.specs.declared.parts.Side.{Side as RunningSide}
use Rattle.kn_world.specs.declared.parts.Stage.{Stage}
use Rattle.kn_world.specs.declared.parts.Stage.TheVariants as stage
use Rattle.kn_world.specs.Apps as apps
use Rattle.kn_refinement.specs.Fits.{HasLeft, IsNotedAs}
use Rattle.kn_refinement.specs.Shown.{if_there, noted_phase, side_of}
use Rattle.kn_refinement.proofs.ClientGiven.{app_after}
use Rattle.kn_refinement.proofs.ClientTurns.{Goes, Turns, ended_in}

-- ---- the stage
abbrev pub left_stage : Stage → List ℕ → Stage
left_stage stage.Dialling [] = stage.Ended
left_stage stage.Dialling (x ∷ xs) = stage.Refused
left_stage stage.Open error = stage.Ended
left_stage stage.Refused error = stage.Refused
left_stage stage.Ended error = stage.Ended

abbrev pub stage_after : Option (List ℕ) → Stage → Stage
stage_after None st = st
stage_after (Some error) st = left_stage st error

-- one that has left has left
left_once : (st : Stage) (error : List ℕ) (ended : Option (List ℕ)) → stage_after ended (left_stage st error) ≡ left_stage st error
left_once st error None = refl
left_once stage.Dialling [] (Some other) = refl
left_once stage.Dialling (x ∷ xs) (Some other) = refl
left_once stage.Open error (Some other) = refl
left_once stage.Refused error (Some other) = refl
left_once stage.Ended error (Some other) = refl

-- ---- the bytes that come
abbrev pub side_more : List ℕ → RunningSide → RunningSide
side_more waiting s = record s { coming = record s.coming { waiting = waiting } }

pub record Became (n : ℕ) (outs : List ClientOut) (a b : App) : Type 0 where
  pub home : b.home ≡ a.home
  pub stage : b.stage ≡ stage_after (ended_in n outs) a.stage
  pub side : b.side ≡ side_more (for_app n outs a.side.coming.waiting) a.side
  pub dial : b.dial ≡ a.dial
  pub door : b.door ≡ a.door

-- one that leaves
record LeftAs (error : List ℕ) (a b : App) : Type 0 where
  home : b.home ≡ a.home
  stage : b.stage ≡ left_stage a.stage error
  side : b.side ≡ a.side
  dial : b.dial ≡ a.dial
  door : b.door ≡ a.door

it_left : (st : Stage) (error : List ℕ) (a : App) → a.stage ≡ st → LeftAs error a (apps.left_as st error a)
it_left stage.Dialling [] a e = record { home = refl; stage = rw e refl; side = refl; dial = refl; door = refl }
it_left stage.Dialling (x ∷ xs) a e = record { home = refl; stage = rw e refl; side = refl; dial = refl; door = refl }
it_left stage.Open error a e = record { home = refl; stage = rw e refl; side = refl; dial = refl; door = refl }
it_left stage.Refused error a e = record { home = refl; stage = rw e refl; side = refl; dial = refl; door = refl }
it_left stage.Ended error a e = record { home = refl; stage = rw e refl; side = refl; dial = refl; door = refl }

pub app_became : (n : ℕ) (outs : List ClientOut) (a : App) → Became n outs a (app_after n outs a)
app_became n [] a = record { home = refl; stage = refl; side = refl; dial = refl; door = refl }
app_became n (out.ToServer p ∷ outs) a = let b = app_became n outs a in record { home = b.home; stage = b.stage; side = b.side; dial = b.dial; door = b.door }
app_became n (out.ToApp m bytes ∷ outs) a = here (n == m) refl (app_became n outs (cond (n == m) (apps.written bytes a) a))
  where
    here : (t : Bool) → (n == m) ≡ t → Became n outs (cond t (apps.written bytes a) a) (app_after n outs (cond (n == m) (apps.written bytes a) a)) → Became n (out.ToApp m bytes ∷ outs) a (app_after n outs (cond (n == m) (apps.written bytes a) a))
    here true e b = record { home = b.home; stage = b.stage; side = b.side ∙ ap (λ w. side_more (for_app n outs w) a.side) (ap (λ t. cond t (a.side.coming.waiting ++ bytes) a.side.coming.waiting) (sym e)); dial = b.dial; door = b.door }
    here false e b = record { home = b.home; stage = b.stage; side = b.side ∙ ap (λ w. side_more (for_app n outs w) a.side) (ap (λ t. cond t (a.side.coming.waiting ++ bytes) a.side.coming.waiting) (sym e)); dial = b.dial; door = b.door }
app_became n (out.EndApp m error ∷ outs) a = here (n == m) refl (app_became n outs (cond (n == m) (apps.left error a) a))
  where
    left : LeftAs error a (apps.left error a)
    left = it_left a.stage error a refl

    here : (t : Bool) → (n == m) ≡ t → Became n outs (cond t (apps.left error a) a) (app_after n outs (cond (n == m) (apps.left error a) a)) → Became n (out.EndApp m error ∷ outs) a (app_after n outs (cond (n == m) (apps.left error a) a))
    here true e b = record {
      home = b.home ∙ left.home;
      stage = b.stage ∙ ap (λ st. stage_after (ended_in n outs) st) left.stage ∙ left_once a.stage error (ended_in n outs) ∙ ap (λ t. stage_after (cond t (Some error) (ended_in n outs)) a.stage) (sym e);
      side = b.side ∙ ap (λ (z : RunningSide). side_more (for_app n outs z.coming.waiting) z) left.side;
      dial = b.dial ∙ left.dial;
      door = b.door ∙ left.door;
    }
    here false e b = record { home = b.home; stage = b.stage ∙ ap (λ t. stage_after (cond t (Some error) (ended_in n outs)) a.stage) (sym e); side = b.side; dial = b.dial; door = b.door }

-- ---- what is noted of an app, as its client has it or has it no more
abbrev pub Noted : Option ListedApp → Stage → Type 0
Noted None st = HasLeft st
Noted (Some y) st = IsNotedAs y.state st

left_stays : (st : Stage) (ended : Option (List ℕ)) → HasLeft st → stage_after ended st ≡ st
left_stays st None left = refl
left_stays st (Some error) (inl e) = rw e refl
left_stays st (Some error) (inr e) = rw e refl

phase_left : (itself : Bool) (error : List ℕ) (st : Stage) → ((itself ≡ true) × (error ≡ [])) ⊎ ((itself ≡ false) × (left_stage stage.Dialling error ≡ stage.Refused)) → st ≡ stage.Dialling → noted_phase (left_stage st error) ≡ leaves_as itself listed.Dialling
phase_left itself error st (inl e) is = rw (is, e.0, e.1) refl
phase_left itself error st (inr e) is = rw (is, e.0, e.1) refl

pub phase_turned : (itself may : Bool) (o : Option ListedApp) (ended : Option (List ℕ)) (n : Option ListedApp) (st : Stage) → Turns itself may o ended n → Noted o st → noted_phase (stage_after ended st) ≡ phase_after itself o n (noted_phase st)
phase_turned itself may None ended None st turns noted = ap noted_phase (left_stays st ended noted)
phase_turned itself may None ended (Some new) st turns noted = absurd turns
phase_turned itself may (Some old) ended (Some new) st turns noted = ap (λ e. noted_phase (stage_after e st)) turns.0
phase_turned itself may (Some old) None None st turns noted = absurd turns
phase_turned itself may (Some old) (Some error) None st turns noted = by old.state error turns noted
  where
    by : (state : AppState) (error : List ℕ) → Turns itself may (Some (record old { state = state })) (Some error) None → IsNotedAs state st → noted_phase (left_stage st error) ≡ leaves_as itself state
    by listed.Dialling [] turns noted = rw (noted, turns) refl
    by listed.Dialling (x ∷ xs) turns noted = rw (noted, turns) refl
    by listed.Open error turns noted = rw noted refl
    by listed.Closing error turns noted = rw noted refl
    by listed.Lingering error turns noted = rw noted refl

-- the side, of one that is there before and after, or before, or not at all
pub side_turned : (itself may : Bool) (m : ℕ) (outs : List ClientOut) (o : Option ListedApp) (n : Option ListedApp) (s : RunningSide) → Turns itself may o (ended_in m outs) n
    → side_of (option_map (λ (y : ListedApp). y.state) n) (side_more (for_app m outs s.coming.waiting) s)
    ≡ record (side_of (option_map (λ (y : ListedApp). y.state) o) s) { unwritten = (if is_some n then for_app m outs (if_there (option_map (λ (y : ListedApp). y.state) o) s.coming.waiting) else []) }
side_turned itself may m outs None None s turns = refl
side_turned itself may m outs None (Some new) s turns = absurd turns
side_turned itself may m outs (Some old) None s turns = refl
side_turned itself may m outs (Some old) (Some new) s turns = refl

-- one that is there afterwards is noted as it is, unless its dial was answered just now; one that is not there has left
pub noted_after : (itself may : Bool) (o : Option ListedApp) (ended : Option (List ℕ)) (n : Option ListedApp) (st : Stage) → Turns itself may o ended n → Noted o st
    → Noted n (stage_after ended st) ⊎ ((may ≡ true) × (option_map (λ (y : ListedApp). y.state) n ≡ Some listed.Open) × (stage_after ended st ≡ stage.Dialling))
noted_after itself may None ended None st turns noted = inl (kept noted)
  where
    kept : HasLeft st → HasLeft (stage_after ended st)
    kept h = rw (left_stays st ended h) h
noted_after itself may None ended (Some new) st turns noted = absurd turns
noted_after itself may (Some old) None None st turns noted = absurd turns
noted_after itself may (Some old) (Some error) None st turns noted = inl (gone st error)
  where
    gone : (st : Stage) (error : List ℕ) → HasLeft (left_stage st error)
    gone stage.Dialling [] = inr refl
    gone stage.Dialling (x ∷ xs) = inl refl
    gone stage.Open error = inr refl
    gone stage.Refused error = inl refl
    gone stage.Ended error = inr refl
noted_after itself may (Some old) ended (Some new) st turns noted = by turns.1
  where
    by : Goes may old.state new.state → IsNotedAs new.state (stage_after ended st) ⊎ ((may ≡ true) × (Some new.state ≡ Some listed.Open) × (stage_after ended st ≡ stage.Dialling))
    by (inl stays) = inl (rw turns.0 (stays st noted))
    by (inr opens) = inr (opens.0, ap Some opens.2, ap (λ e. stage_after e st) turns.0 ∙ subst (λ state. IsNotedAs state st) opens.1 noted)
