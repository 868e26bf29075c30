-- What keeps the fact that an app and a destination sent their own bytes: changes of apps and dials, one by one.
use Rattle.std.proofs.Common.{◌≡◌, ◌++◌, ◌==◌, ◌&&◌, ◌-◌, ℕ, suc, Bool, true, false, cond, List, [], ◌∷◌, length, min, take, drop, Option, None, Some, Ok, refl, sym, ap, ◌∙◌, subst, append_assoc, take-append-drop, eqb-true, arith, ◌≤◌}
use Rattle.std.specs.Option.{option_map}
use Rattle.kn_connect.specs.Answers.{Answers}
use Rattle.kn_connect.specs.Replies.{status_and_reason}
use Rattle.kn_connect.specs.Statuses.{error_status, reply_length}
use Rattle.kn_connect.specs.declared.answer.ConnectAnswer.TheVariants.{Head}
use Rattle.kn_packet.specs.declared.packet.Packet.{Packet}
use Rattle.kn_packet.specs.declared.packet.Packet.TheVariants.{CloseReq, CloseRsp, Data, DialCls, DialReq, DialRsp, Drain, Other}
use Rattle.kn_edge_core.specs.declared.app.AppState.{AppState}
use Rattle.kn_edge_core.specs.declared.app.AppState.TheVariants as app_state
use Rattle.kn_world.specs.declared.parts.App.{App}
use Rattle.kn_world.specs.declared.parts.Dial.{Dial}
use Rattle.kn_world.specs.declared.parts.Home.{Home}
use Rattle.kn_world.specs.declared.parts.Home.TheVariants as home
use Rattle.kn_world.specs.declared.parts.Stage.{Stage}
use Rattle.kn_world.specs.declared.parts.Stage.TheVariants.{Dialling, Open, Refused, Ended}
use Rattle.kn_world.specs.declared.state.State.{State}
use Rattle.kn_world.specs.Apps as apps
use Rattle.kn_world.specs.Clients as clients
use Rattle.kn_connect.specs.Replies.{status_and_reason}
use Rattle.kn_connect.specs.Statuses.{error_status, reply_length}
use Rattle.kn_world.specs.Doors as door
use Rattle.kn_world.specs.Effects.{is_unheard}
use Rattle.kn_world.specs.Idle.{is_at_door}
use Rattle.kn_world.specs.Numbers.{change, nth}
use Rattle.kn_refinement.specs.OwnBytes.{IsBehindHead, IsSentFrom, sent_of}
use Rattle.kn_refinement.proofs.NumberLemmas.{nth_change, nth_more, nth_within}

-- ---- an app: as promised; and while it is at the door and its head is not whole, the front holds all of its bytes
abbrev pub DoorOwn : Bool → Bool → List ℕ → List ℕ → List ℕ → Type 0
DoorOwn true here front bytes sent = (sent ≡ []) × (here ≡ true → front ≡ bytes)
DoorOwn false here front bytes sent = IsBehindHead bytes sent

abbrev pub OwnAt : Home → Bool → Bool → List ℕ → List ℕ → List ℕ → Type 0
OwnAt (home.Client c number) unheard here front bytes sent = sent ≡ bytes
OwnAt home.Connect unheard here front bytes sent = DoorOwn unheard here front bytes sent

abbrev pub Own : List ℕ → App → Type 0
Own bytes a = OwnAt a.home (a.door.number == 0) (is_at_door a.stage) a.door.front bytes (sent_of a.side)

pub promised : (h : Home) (u b : Bool) (front bytes sent : List ℕ) → OwnAt h u b front bytes sent → IsSentFrom h u bytes sent
promised (home.Client c number) u b front bytes sent it = it
promised home.Connect true b front bytes sent it = it.0
promised home.Connect false b front bytes sent it = it

-- it leaves the door, or stays
pub leaves : (h : Home) (u b new : Bool) (front bytes sent : List ℕ) → (new ≡ true → b ≡ true) → OwnAt h u b front bytes sent → OwnAt h u new front bytes sent
leaves (home.Client c number) u b new front bytes sent less it = it
leaves home.Connect true b new front bytes sent less it = (it.0, λ e. it.1 (less e))
leaves home.Connect false b new front bytes sent less it = it

with_stage : (stage : Stage) (bytes : List ℕ) (a : App) → (is_at_door stage ≡ true → is_at_door a.stage ≡ true) → Own bytes a → Own bytes (record a { stage = stage })
with_stage stage bytes a less it = leaves a.home (a.door.number == 0) (is_at_door a.stage) (is_at_door stage) a.door.front bytes (sent_of a.side) less it

gone : (b : Bool) → false ≡ true → b ≡ true
gone b e = absurd cc

-- ---- what an app takes by CONNECT
pub emptied_own : (bytes : List ℕ) (a : App) → Own bytes a → Own bytes (door.emptied a)
emptied_own bytes a it = here (a.door.closing && door.is_empty a)
  where
    here : (b : Bool) → Own bytes (cond b (record a { stage = Ended }) a)
    here true = with_stage Ended bytes a (gone (is_at_door a.stage)) it
    here false = it

took_own : (count : ℕ) (bytes : List ℕ) (a : App) → Own bytes a → Own bytes (door.took count a)
took_own count bytes a it = emptied_own bytes (record a { door = door.with_reply (a.door.reply - min count a.door.reply) a.door; side = Rattle.kn_world.specs.Sides.took (count - min count a.door.reply) a.side }) it

pub took_at_own : (stage : Stage) (count : ℕ) (bytes : List ℕ) (a : App) → Own bytes a → Own bytes (door.took_at stage count a)
took_at_own Dialling count bytes a it = took_own count bytes a it
took_at_own Open count bytes a it = took_own count bytes a it
took_at_own Refused count bytes a it = took_own count bytes a it
took_at_own Ended count bytes a it = it

pub freely_own : (held : Bool) (bytes : List ℕ) (a : App) → Own bytes a → Own bytes (door.took_freely held a)
freely_own true bytes a it = emptied_own bytes a it
freely_own false bytes a it = emptied_own bytes (record a { door = door.with_reply 0 a.door; side = Rattle.kn_world.specs.Sides.took (length a.side.coming.waiting) a.side }) it

-- ---- what it hears
pub refused_own : (status : ℕ) (bytes : List ℕ) (a : App) → Own bytes a → Own bytes (door.refused status a)
refused_own status bytes a it =
    let b : App = record a { error = status_and_reason status; stage = Refused; door = record a.door { early = []; reply = reply_length status } } in
    freely_own b.side.held bytes b (with_stage Refused bytes a (gone (is_at_door a.stage)) it)

opened_own : (bytes : List ℕ) (a : App) → is_at_door a.stage ≡ true → Own bytes a → Own bytes (door.opened a)
opened_own bytes a here it =
    let b : App = record a { stage = Open; door = door.with_reply (reply_length 200) a.door } in
    freely_own b.side.held bytes b (with_stage Open bytes a (λ e. here) it)

answered_own : (error bytes : List ℕ) (a : App) → is_at_door a.stage ≡ true → Own bytes a → Own bytes (door.answered error a)
answered_own [] bytes a here it = opened_own bytes a here it
answered_own (x ∷ xs) bytes a here it = refused_own (error_status (x ∷ xs)) bytes a it

closed_own : (bytes : List ℕ) (a : App) → Own bytes a → Own bytes (door.closed a)
closed_own bytes a it = freely_own a.side.held bytes (record a { door = record a.door { closing = true } }) it

heard_here : (p : Packet) (bytes : List ℕ) (a : App) → is_at_door a.stage ≡ true → Own bytes a → Own bytes (door.heard p a)
heard_here (DialRsp error connect_id random) bytes a here it = answered_own error bytes a here it
heard_here (Data connect_id error more) bytes a here it = freely_own a.side.held bytes (record a { side = Rattle.kn_world.specs.Sides.written more a.side }) it
heard_here (CloseRsp error connect_id) bytes a here it = closed_own bytes a it
heard_here (DialReq protocol address random) bytes a here it = it
heard_here (CloseReq connect_id) bytes a here it = it
heard_here (DialCls random) bytes a here it = it
heard_here Drain bytes a here it = it
heard_here (Other number) bytes a here it = it

heard_open : (p : Packet) (bytes : List ℕ) (a : App) → is_at_door a.stage ≡ true → Own bytes a → Own bytes (door.heard_open p a)
heard_open p bytes a here it = by (door.finishes p)
  where
    by : (b : Bool) → Own bytes (cond b (door.closed a) (door.heard p a))
    by true = closed_own bytes a it
    by false = heard_here p bytes a here it

heard_by : (stage : Stage) (p : Packet) (bytes : List ℕ) (a : App) → a.stage ≡ stage → Own bytes a → Own bytes (door.heard_by stage p a)
heard_by Dialling p bytes a e it = heard_here p bytes a (ap is_at_door e) it
heard_by Open p bytes a e it = heard_open p bytes a (ap is_at_door e) it
heard_by Refused p bytes a e it = it
heard_by Ended p bytes a e it = it

pub heard_own : (p : Packet) (bytes : List ℕ) (a : App) → Own bytes a → Own bytes (apps.heard p a)
heard_own p bytes a it = by a.door.closing
  where
    by : (b : Bool) → Own bytes (cond b a (door.heard_by a.stage p a))
    by true = it
    by false = heard_by a.stage p bytes a refl it

-- ---- what else is done to an app
left_as : (stage : Stage) (error bytes : List ℕ) (a : App) → Own bytes a → Own bytes (apps.left_as stage error a)
left_as Dialling [] bytes a it = with_stage Ended bytes a (gone (is_at_door a.stage)) it
left_as Dialling (x ∷ xs) bytes a it = with_stage Refused bytes a (gone (is_at_door a.stage)) it
left_as Open error bytes a it = with_stage Ended bytes a (gone (is_at_door a.stage)) it
left_as Refused error bytes a it = it
left_as Ended error bytes a it = it

pub left_own : (error bytes : List ℕ) (a : App) → Own bytes a → Own bytes (apps.left error a)
left_own error bytes a it = left_as a.stage error bytes a it

left_stage : (stage : Stage) → is_at_door (apps.left_stage stage) ≡ true → is_at_door stage ≡ true
left_stage Dialling e = absurd cc
left_stage Open e = absurd cc
left_stage Refused e = absurd cc
left_stage Ended e = absurd cc

pub left_door_own : (bytes : List ℕ) (a : App) → Own bytes a → Own bytes (apps.left_door a)
left_door_own bytes a it = with_stage (apps.left_stage a.stage) bytes a (left_stage a.stage) it

-- one that is at a client opens
opened_client : (h : Home) (u b : Bool) (front bytes sent : List ℕ) (o : Option AppState) (cs : List Rattle.kn_world.specs.declared.parts.Client.Client) → clients.state_of h cs ≡ Some app_state.Open → OwnAt h u b front bytes sent → OwnAt h u true front bytes sent
opened_client (home.Client c number) u b front bytes sent o cs e it = it
opened_client home.Connect u b front bytes sent o cs e it = absurd cc

pub opened_if_own : (o : Option AppState) (cs : List Rattle.kn_world.specs.declared.parts.Client.Client) (bytes : List ℕ) (a : App) → clients.state_of a.home cs ≡ o → Own bytes a → Own bytes (apps.opened_if o a)
opened_if_own (Some app_state.Open) cs bytes a e it = opened_client a.home (a.door.number == 0) (is_at_door a.stage) a.door.front bytes (sent_of a.side) (Some app_state.Open) cs e it
opened_if_own (Some app_state.Dialling) cs bytes a e it = it
opened_if_own (Some app_state.Closing) cs bytes a e it = it
opened_if_own (Some app_state.Lingering) cs bytes a e it = it
opened_if_own None cs bytes a e it = it

-- bytes that wait pass
pub passed_same : (n : ℕ) (passed waiting : List ℕ) → (passed ++ take n waiting) ++ drop n waiting ≡ passed ++ waiting
passed_same n passed waiting = append_assoc passed (take n waiting) (drop n waiting) ∙ ap (λ z. passed ++ z) (take-append-drop n waiting)

pub handed_own : (n : ℕ) (bytes : List ℕ) (a : App) → Own bytes a → Own bytes (apps.handed n a)
handed_own n bytes a it = subst (λ sent. OwnAt a.home (a.door.number == 0) (is_at_door a.stage) a.door.front bytes sent) (sym (passed_same n a.side.sending.passed a.side.sending.waiting)) it

kept_some_own : (early bytes : List ℕ) (a : App) → Own bytes a → Own bytes (door.kept_some early a)
kept_some_own [] bytes a it = it
kept_some_own (x ∷ xs) bytes a it = it

pub early_kept_own : (stage : Stage) (early bytes : List ℕ) (a : App) → Own bytes a → Own bytes (door.early_kept stage early a)
early_kept_own Dialling early bytes a it = kept_some_own early bytes a it
early_kept_own Open early bytes a it = kept_some_own early bytes a it
early_kept_own Refused early bytes a it = it
early_kept_own Ended early bytes a it = it

-- ---- by the number; where there is none, no bytes came
abbrev pub OwnOf : Option App → List ℕ → Type 0
OwnOf None bytes = bytes ≡ []
OwnOf (Some a) bytes = Own bytes a

abbrev pub sent_at : Option Dial → List ℕ
sent_at None = []
sent_at (Some d) = sent_of d.side

pub record Kept (of_apps of_dials : ℕ → List ℕ) (all : List App) (dials : List Dial) : Type 0 where
  pub own : (k : ℕ) → OwnOf (nth k all) (of_apps k)
  pub same : (d : ℕ) → sent_at (nth d dials) ≡ of_dials d

abbrev pub Holds : (ℕ → List ℕ) → (ℕ → List ℕ) → State → Type 0
Holds of_apps of_dials s = Kept of_apps of_dials s.apps s.dials

mapped : (f : App → App) (b : Bool) (o : Option App) (bytes : List ℕ) → ((a : App) → o ≡ Some a → Own bytes a → Own bytes (f a)) → OwnOf o bytes → OwnOf (cond b (option_map f o) o) bytes
mapped f true None bytes keeps it = it
mapped f true (Some a) bytes keeps it = keeps a refl it
mapped f false None bytes keeps it = it
mapped f false (Some a) bytes keeps it = it

mapped_dial : (f : Dial → Dial) (b : Bool) (o : Option Dial) → ((d : Dial) → sent_of (f d).side ≡ sent_of d.side) → sent_at (cond b (option_map f o) o) ≡ sent_at o
mapped_dial f true None keeps = refl
mapped_dial f true (Some d) keeps = keeps d
mapped_dial f false None keeps = refl
mapped_dial f false (Some d) keeps = refl

one_more : (b : Bool) (o : Option Dial) (d : Dial) → sent_of d.side ≡ [] → (b ≡ true → o ≡ None) → sent_at (cond b (Some d) o) ≡ sent_at o
one_more true o d none new = none ∙ sym (ap sent_at (new refl))
one_more false o d none new = refl

module _ (of_apps of_dials : ℕ → List ℕ) where
  pub apps_changed : (f : App → App) → ((bytes : List ℕ) (a : App) → Own bytes a → Own bytes (f a)) → (n : ℕ) (s : State) → Holds of_apps of_dials s → Holds of_apps of_dials (record s { apps = change f n s.apps })
  apps_changed f keeps n s h = record {
    own = λ k. subst (λ o. OwnOf o (of_apps k)) (sym (nth_change f n k s.apps)) (mapped f (k == n) (nth k s.apps) (of_apps k) (λ a e it. keeps (of_apps k) a it) (h.own k));
    same = h.same;
  }

  -- the app of a number, and what is known of it
  pub app_changed : (f : App → App) (n : ℕ) (s : State) → ((a : App) → nth n s.apps ≡ Some a → Own (of_apps n) a → Own (of_apps n) (f a)) → Holds of_apps of_dials s → Holds of_apps of_dials (record s { apps = change f n s.apps })
  app_changed f n s keeps h = record {
    own = λ k. subst (λ o. OwnOf o (of_apps k)) (sym (nth_change f n k s.apps)) (by k (k == n) refl);
    same = h.same;
  }
    where
      by : (k : ℕ) (b : Bool) → (k == n) ≡ b → OwnOf (cond b (option_map f (nth k s.apps)) (nth k s.apps)) (of_apps k)
      by k true e = subst (λ m. OwnOf (option_map f (nth m s.apps)) (of_apps m)) (sym (eqb-true k n e)) (mapped f true (nth n s.apps) (of_apps n) keeps (h.own n))
      by k false e = h.own k

  pub dials_changed : (f : Dial → Dial) → ((d : Dial) → sent_of (f d).side ≡ sent_of d.side) → (n : ℕ) (s : State) → Holds of_apps of_dials s → Holds of_apps of_dials (record s { dials = change f n s.dials })
  dials_changed f keeps n s h = record {
    own = h.own;
    same = λ d. ap sent_at (nth_change f n d s.dials) ∙ mapped_dial f (d == n) (nth d s.dials) keeps ∙ h.same d;
  }

  -- ---- one more
  none_beyond : {X : Type 0} (n : ℕ) (xs : List X) → (n == suc (length xs)) ≡ true → nth n xs ≡ None
  none_beyond n xs e = by (nth n xs) refl
    where
      by : (o : Option _) → nth n xs ≡ o → nth n xs ≡ None
      by None at = at
      by (Some x) at = let inside : n ≤ length xs = nth_within n xs x at in let same : n ≡ suc (length xs) = eqb-true n (suc (length xs)) e in absurd (omega (arith, inside, same))

  pub dial_more : (d : Dial) → sent_of d.side ≡ [] → (all : List App) (dials : List Dial) → Kept of_apps of_dials all dials → Kept of_apps of_dials all (dials ++ d ∷ [])
  dial_more d none all dials h = record {
    own = h.own;
    same = λ n. ap sent_at (nth_more dials d n) ∙ one_more (n == suc (length dials)) (nth n dials) d none (none_beyond n dials) ∙ h.same n;
  }

  app_by : (b : Bool) (o : Option App) (bytes : List ℕ) (a : App) → (bytes ≡ [] → Own bytes a) → (b ≡ true → o ≡ None) → OwnOf o bytes → OwnOf (cond b (Some a) o) bytes
  app_by true o bytes a begins new it = begins (subst (λ p. OwnOf p bytes) (new refl) it)
  app_by false o bytes a begins new it = it

  pub app_more : (a : App) → ((bytes : List ℕ) → bytes ≡ [] → Own bytes a) → (all : List App) (dials : List Dial) → Kept of_apps of_dials all dials → Kept of_apps of_dials (all ++ a ∷ []) dials
  app_more a begins all dials h = record {
    own = λ k. subst (λ o. OwnOf o (of_apps k)) (sym (nth_more all a k)) (app_by (k == suc (length all)) (nth k all) (of_apps k) a (begins (of_apps k)) (none_beyond k all) (h.own k));
    same = h.same;
  }

-- another one stands in the place of a number
pub replaced : (of_apps new_apps of_dials : ℕ → List ℕ) (n : ℕ) (a : App) (old new : List App) (dials : List Dial) → ((k : ℕ) → (k == n) ≡ false → new_apps k ≡ of_apps k)
    → ((k : ℕ) → (k == n) ≡ false → nth k new ≡ nth k old) → nth n new ≡ Some a → Own (new_apps n) a → Kept of_apps of_dials old dials → Kept new_apps of_dials new dials
replaced of_apps new_apps of_dials n a old new dials bytes others here own h = record { own = λ k. by k (k == n) refl; same = h.same }
  where
    by : (k : ℕ) (b : Bool) → (k == n) ≡ b → OwnOf (nth k new) (new_apps k)
    by k true e = subst (λ m. OwnOf (nth m new) (new_apps m)) (sym (eqb-true k n e)) (subst (λ o. OwnOf o (new_apps n)) (sym here) own)
    by k false e = subst (λ o. OwnOf o (new_apps k)) (sym (others k e)) (subst (λ g. OwnOf (nth k old) g) (sym (bytes k e)) (h.own k))

pub other_same : {X : Type 0} (f : X → X) (n : ℕ) (xs : List X) (k : ℕ) → (k == n) ≡ false → nth k (change f n xs) ≡ nth k xs
other_same f n xs k e = nth_change f n k xs ∙ ap (λ b. cond b (option_map f (nth k xs)) (nth k xs)) e

-- ---- an app before its head is whole, and after
pub before_head : (h : Home) (u b : Bool) (front bytes sent : List ℕ) → h ≡ home.Connect → u ≡ true → b ≡ true → OwnAt h u b front bytes sent → (sent ≡ []) × (front ≡ bytes)
before_head (home.Client c number) u b front bytes sent at unheard here it = absurd cc
before_head home.Connect true b front bytes sent at unheard here it = (it.0, it.1 here)
before_head home.Connect false b front bytes sent at unheard here it = absurd cc

pub still_before : (h : Home) (u b : Bool) (front bytes sent : List ℕ) → h ≡ home.Connect → u ≡ true → sent ≡ [] → (b ≡ true → front ≡ bytes) → OwnAt h u b front bytes sent
still_before (home.Client c number) u b front bytes sent at unheard none holds = absurd cc
still_before home.Connect true b front bytes sent at unheard none holds = (none, holds)
still_before home.Connect false b front bytes sent at unheard none holds = absurd cc

pub now_behind : (h : Home) (u b : Bool) (front bytes sent : List ℕ) → h ≡ home.Connect → u ≡ false → IsBehindHead bytes sent → OwnAt h u b front bytes sent
now_behind (home.Client c number) u b front bytes sent at heard it = absurd cc
now_behind home.Connect true b front bytes sent at heard it = absurd cc
now_behind home.Connect false b front bytes sent at heard it = it

-- a head is whole whatever follows, which is behind it
pub behind_more : (bytes more target early : List ℕ) → Answers bytes (Ok (Head target early)) → Answers (bytes ++ more) (Ok (Head target (early ++ more)))
behind_more bytes more target early it = (it.0, record { reads = (it.1.reads.0, ap (λ z. z ++ more) it.1.reads.1 ∙ append_assoc _ early more); small = it.1.small }, it.2, it.3)

-- it sends more
more_at_door : (u b : Bool) (front bytes sent more : List ℕ) → u ≡ false → DoorOwn u b front bytes sent → DoorOwn u b front (bytes ++ more) (sent ++ more)
more_at_door true b front bytes sent more heard it = absurd cc
more_at_door false b front bytes sent more heard it = (it.0, behind_more bytes more it.0 sent it.1)

more_at : (h : Home) (a : App) (b : Bool) (front bytes sent more : List ℕ) → is_unheard h a ≡ false → OwnAt h (a.door.number == 0) b front bytes sent → OwnAt h (a.door.number == 0) b front (bytes ++ more) (sent ++ more)
more_at (home.Client c number) a b front bytes sent more heard it = ap (λ z. z ++ more) it
more_at home.Connect a b front bytes sent more heard it = more_at_door (a.door.number == 0) b front bytes sent more heard it

pub sent_own : (more bytes : List ℕ) (a : App) → is_unheard a.home a ≡ false → Own bytes a → Own (bytes ++ more) (apps.sent more a)
sent_own more bytes a heard it =
    subst (λ sent. OwnAt a.home (a.door.number == 0) (is_at_door a.stage) a.door.front (bytes ++ more) sent) (append_assoc a.side.sending.passed a.side.sending.waiting more)
    (more_at a.home a (is_at_door a.stage) a.door.front bytes (sent_of a.side) more heard it)
