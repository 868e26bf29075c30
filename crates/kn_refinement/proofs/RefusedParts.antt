-- What keeps the fact that an app was refused, or is told so: changes of apps and clients, one by one.
use Rattle.std.proofs.Common.{◌≡◌, ◌≢◌, inl, inr, ◌++◌, ◌==◌, ◌&&◌, ◌-◌, ◌≤◌, ℕ, ℤ, suc, Bool, true, false, cond, List, [], ◌∷◌, length, min, Option, None, Some, refl, sym, ap, ◌∙◌, subst, eqb-true, arith, codes}
use Rattle.std.specs.Option.{option_map}
use Rattle.kn_connect.specs.Replies.{status_and_reason}
use Rattle.kn_connect.specs.Statuses.{error_status, reply_length}
use Rattle.kn_packet.specs.declared.packet.Packet.{Packet}
use Rattle.kn_packet.specs.declared.packet.Packet.TheVariants.{CloseReq, CloseRsp, Data, DialCls, DialReq, DialRsp, Drain, Other}
use Rattle.kn_edge_core.specs.declared.app.AppState.{AppState}
use Rattle.kn_edge_core.specs.declared.app.AppState.TheVariants as app_state
use Rattle.kn_world.specs.declared.parts.App.{App}
use Rattle.kn_world.specs.declared.parts.AppChoice.{AppChoice}
use Rattle.kn_world.specs.declared.parts.Client.{Client}
use Rattle.kn_world.specs.declared.parts.Home.{Home}
use Rattle.kn_world.specs.declared.parts.Home.TheVariants as home
use Rattle.kn_world.specs.declared.parts.Stage.{Stage}
use Rattle.kn_world.specs.declared.parts.Stage.TheVariants.{Dialling, Open, Refused, Ended}
use Rattle.kn_world.specs.declared.state.State.{State}
use Rattle.kn_world.specs.Apps as apps
use Rattle.kn_world.specs.Clients as clients
use Rattle.kn_world.specs.Doors as door
use Rattle.kn_world.specs.Idle.{is_at_door}
use Rattle.kn_world.specs.Numbers.{change, nth, number_of}
use Rattle.kn_refinement.specs.Refusals.{IsRefusedAt, IsToldBy}
use Rattle.kn_refinement.proofs.ChosenParts.{in_last, in_more}
use Rattle.kn_refinement.proofs.ConnectRequests.{heard_is}
use Rattle.kn_refinement.proofs.NumberLemmas.{nth_change, nth_front, nth_more, nth_within}

-- ---- an app
abbrev pub Told : List Client → App → Type 0
Told cs a = IsRefusedAt a.home cs a.stage a.error

-- it waits no more; one by CONNECT that is at the door was not refused
pub to_past : (h : Home) (cs : List Client) (old new : Stage) (error text : List ℕ) → is_at_door old ≡ true → new ≢ Dialling → IsRefusedAt h cs old error → IsRefusedAt h cs new text
to_past (home.Client c number) cs old new error text here past it = inl past
to_past home.Connect cs Dialling new error text here past (inl e, f) = absurd (cc e)
to_past home.Connect cs Dialling new error text here past (inr e, f) = absurd (cc e)
to_past home.Connect cs Open new error text here past (inl e, f) = absurd (cc e)
to_past home.Connect cs Open new error text here past (inr e, f) = absurd (cc e)
to_past home.Connect cs Refused new error text here past it = absurd (cc here)
to_past home.Connect cs Ended new error text here past it = absurd (cc here)

open_past : Open ≢ Dialling
open_past e = cc e

refused_past : Refused ≢ Dialling
refused_past e = cc e

ended_past : Ended ≢ Dialling
ended_past e = cc e

to_ended : (h : Home) (cs : List Client) (old : Stage) (error : List ℕ) → IsRefusedAt h cs old error → IsRefusedAt h cs Ended error
to_ended (home.Client c number) cs old error it = inl ended_past
to_ended home.Connect cs old error it = (inr refl, it.1)

-- ---- what an app takes by CONNECT
pub emptied_told : (cs : List Client) (a : App) → Told cs a → Told cs (door.emptied a)
emptied_told cs a it = here (a.door.closing && door.is_empty a)
  where
    here : (b : Bool) → Told cs (cond b (record a { stage = Ended }) a)
    here true = to_ended a.home cs a.stage a.error it
    here false = it

took_told : (count : ℕ) (cs : List Client) (a : App) → Told cs a → Told cs (door.took count a)
took_told count cs a it = emptied_told cs (record a { door = door.with_reply (a.door.reply - min count a.door.reply) a.door; side = Rattle.kn_world.specs.Sides.took (count - min count a.door.reply) a.side }) it

pub took_at_told : (stage : Stage) (count : ℕ) (cs : List Client) (a : App) → Told cs a → Told cs (door.took_at stage count a)
took_at_told Dialling count cs a it = took_told count cs a it
took_at_told Open count cs a it = took_told count cs a it
took_at_told Refused count cs a it = took_told count cs a it
took_at_told Ended count cs a it = it

pub freely_told : (held : Bool) (cs : List Client) (a : App) → Told cs a → Told cs (door.took_freely held a)
freely_told true cs a it = emptied_told cs a it
freely_told false cs a it = emptied_told cs (record a { door = door.with_reply 0 a.door; side = Rattle.kn_world.specs.Sides.took (length a.side.coming.waiting) a.side }) it

-- ---- what it hears
pub refused_told : (status : ℕ) (cs : List Client) (a : App) → is_at_door a.stage ≡ true → Told cs a → Told cs (door.refused status a)
refused_told status cs a here it =
    let b : App = record a { error = status_and_reason status; stage = Refused; door = record a.door { early = []; reply = reply_length status } } in
    freely_told b.side.held cs b (to_past a.home cs a.stage Refused a.error (status_and_reason status) here refused_past it)

opened_told : (cs : List Client) (a : App) → is_at_door a.stage ≡ true → Told cs a → Told cs (door.opened a)
opened_told cs a here it =
    let b : App = record a { stage = Open; door = door.with_reply (reply_length 200) a.door } in
    freely_told b.side.held cs b (to_past a.home cs a.stage Open a.error a.error here open_past it)

answered_told : (error : List ℕ) (cs : List Client) (a : App) → is_at_door a.stage ≡ true → Told cs a → Told cs (door.answered error a)
answered_told [] cs a here it = opened_told cs a here it
answered_told (x ∷ xs) cs a here it = refused_told (error_status (x ∷ xs)) cs a here it

closed_told : (cs : List Client) (a : App) → Told cs a → Told cs (door.closed a)
closed_told cs a it = freely_told a.side.held cs (record a { door = record a.door { closing = true } }) it

heard_here : (p : Packet) (cs : List Client) (a : App) → is_at_door a.stage ≡ true → Told cs a → Told cs (door.heard p a)
heard_here (DialRsp error connect_id random) cs a here it = answered_told error cs a here it
heard_here (Data connect_id error more) cs a here it = freely_told a.side.held cs (record a { side = Rattle.kn_world.specs.Sides.written more a.side }) it
heard_here (CloseRsp error connect_id) cs a here it = closed_told cs a it
heard_here (DialReq protocol address random) cs a here it = it
heard_here (CloseReq connect_id) cs a here it = it
heard_here (DialCls random) cs a here it = it
heard_here Drain cs a here it = it
heard_here (Other number) cs a here it = it

heard_open : (p : Packet) (cs : List Client) (a : App) → is_at_door a.stage ≡ true → Told cs a → Told cs (door.heard_open p a)
heard_open p cs a here it = by (door.finishes p)
  where
    by : (b : Bool) → Told cs (cond b (door.closed a) (door.heard p a))
    by true = closed_told cs a it
    by false = heard_here p cs a here it

heard_by : (stage : Stage) (p : Packet) (cs : List Client) (a : App) → a.stage ≡ stage → Told cs a → Told cs (door.heard_by stage p a)
heard_by Dialling p cs a e it = heard_here p cs a (ap is_at_door e) it
heard_by Open p cs a e it = heard_open p cs a (ap is_at_door e) it
heard_by Refused p cs a e it = it
heard_by Ended p cs a e it = it

pub heard_told : (p : Packet) (cs : List Client) (a : App) → Told cs a → Told cs (apps.heard p a)
heard_told p cs a it = by a.door.closing
  where
    by : (b : Bool) → Told cs (cond b a (door.heard_by a.stage p a))
    by true = it
    by false = heard_by a.stage p cs a refl it

-- ---- what else is done to an app
left_as : (stage : Stage) (error : List ℕ) (cs : List Client) (a : App) → a.stage ≡ stage → Told cs a → Told cs (apps.left_as stage error a)
left_as Dialling [] cs a e it = to_past a.home cs a.stage Ended a.error [] (ap is_at_door e) ended_past it
left_as Dialling (x ∷ xs) cs a e it = to_past a.home cs a.stage Refused a.error (x ∷ xs) (ap is_at_door e) refused_past it
left_as Open error cs a e it = to_past a.home cs a.stage Ended a.error error (ap is_at_door e) ended_past it
left_as Refused error cs a e it = it
left_as Ended error cs a e it = it

pub left_told : (error : List ℕ) (cs : List Client) (a : App) → Told cs a → Told cs (apps.left error a)
left_told error cs a it = left_as a.stage error cs a refl it

left_stage : (h : Home) (cs : List Client) (stage : Stage) (error : List ℕ) → IsRefusedAt h cs stage error → IsRefusedAt h cs (apps.left_stage stage) error
left_stage h cs Dialling error it = to_ended h cs Dialling error it
left_stage h cs Open error it = to_ended h cs Open error it
left_stage h cs Refused error it = it
left_stage h cs Ended error it = it

pub left_door_told : (cs : List Client) (a : App) → Told cs a → Told cs (apps.left_door a)
left_door_told cs a it = left_stage a.home cs a.stage a.error it

-- one that is at a client opens
opened_client : (h : Home) (cs all : List Client) (old : Stage) (error : List ℕ) → clients.state_of h all ≡ Some app_state.Open → IsRefusedAt h cs old error → IsRefusedAt h cs Open error
opened_client (home.Client c number) cs all old error e it = inl open_past
opened_client home.Connect cs all old error e it = absurd (cc e)

pub opened_if_told : (o : Option AppState) (all cs : List Client) (a : App) → clients.state_of a.home all ≡ o → Told cs a → Told cs (apps.opened_if o a)
opened_if_told (Some app_state.Open) all cs a e it = opened_client a.home cs all a.stage a.error e it
opened_if_told (Some app_state.Dialling) all cs a e it = it
opened_if_told (Some app_state.Closing) all cs a e it = it
opened_if_told (Some app_state.Lingering) all cs a e it = it
opened_if_told None all cs a e it = it

kept_some_told : (early : List ℕ) (cs : List Client) (a : App) → Told cs a → Told cs (door.kept_some early a)
kept_some_told [] cs a it = it
kept_some_told (x ∷ xs) cs a it = it

pub early_kept_told : (stage : Stage) (early : List ℕ) (cs : List Client) (a : App) → Told cs a → Told cs (door.early_kept stage early a)
early_kept_told Dialling early cs a it = kept_some_told early cs a it
early_kept_told Open early cs a it = kept_some_told early cs a it
early_kept_told Refused early cs a it = it
early_kept_told Ended early cs a it = it

-- one by CONNECT that waits is refused at once
pub door_told : (random : ℤ) (connect_id : ℤ) (cs : List Client) (a : App) → a.home ≡ home.Connect → a.stage ≡ Dialling → a.door.closing ≡ false → Told cs (apps.heard (DialRsp (codes "no agent available") connect_id random) a)
door_told random connect_id cs a at waits open_yet =
    subst (λ b. Told cs b) (sym (heard_is (codes "no agent available") connect_id random a waits open_yet))
    (freely_told a.side.held cs refused (subst (λ h. IsRefusedAt h cs Refused (status_and_reason 503)) (sym at) (inl refl, refl)))
  where
    refused : App
    refused = record a { error = status_and_reason 503; stage = Refused; door = record a.door { early = []; reply = reply_length 503 } }

-- ---- clients
abbrev pub KeepsTold : (Client → Client) → Type 0
KeepsTold g = (number : ℕ) (x : Client) → IsToldBy number x → IsToldBy number (g x)

pub client_kept : (g : Client → Client) → KeepsTold g → (c : ℕ) (cs : List Client) (h : Home) (noted : Stage) (error : List ℕ) → IsRefusedAt h cs noted error → IsRefusedAt h (change g c cs) noted error
client_kept g keeps c cs home.Connect noted error it = it
client_kept g keeps c cs (home.Client n number) noted error (inl past) = inl past
client_kept g keeps c cs (home.Client n number) noted error (inr (x, at, told)) = by (n == c) refl
  where
    by : (b : Bool) → (n == c) ≡ b → IsRefusedAt (home.Client n number) (change g c cs) noted error
    by true e = inr (g x, nth_change g c n cs ∙ ap (λ t. cond t (option_map g (nth n cs)) (nth n cs)) e ∙ ap (λ o. option_map g o) at, keeps number x told)
    by false e = inr (x, nth_change g c n cs ∙ ap (λ t. cond t (option_map g (nth n cs)) (nth n cs)) e ∙ at, told)

pub client_more : (y : Client) (cs : List Client) (h : Home) (noted : Stage) (error : List ℕ) → IsRefusedAt h cs noted error → IsRefusedAt h (cs ++ y ∷ []) noted error
client_more y cs home.Connect noted error it = it
client_more y cs (home.Client n number) noted error (inl past) = inl past
client_more y cs (home.Client n number) noted error (inr (x, at, told)) = inr (x, nth_front cs (y ∷ []) n x at, told)

-- what is queued for a client
down_kept : (b : Bool) (p : Packet) → KeepsTold (clients.with_down b p)
down_kept true p number x (inl gone) = inl gone
down_kept true p number x (inr on) = inr (on.0, on.1, on.2, in_more (DialRsp (codes "no agent available") on.0 on.1) p x.down on.3)
down_kept false p number x it = it

pub queued_down_kept : (p : Packet) → KeepsTold (clients.queued_down p)
queued_down_kept p number x it = down_kept x.at_client p number x it

up_kept : (b : Bool) (p : Packet) → KeepsTold (clients.with_up b p)
up_kept true p number x it = it
up_kept false p number x it = it

pub queued_up_kept : (p : Packet) → KeepsTold (clients.queued_up p)
queued_up_kept p number x it = up_kept (x.at_server && x.at_client) p number x it

-- the refusal is put on the list of its stream, unless the client has lost this
pub put_told : (connect_id random : ℤ) (number : ℕ) (x : Client) → number_of random ≡ number → IsToldBy number (clients.queued_down (DialRsp (codes "no agent available") connect_id random) x)
put_told connect_id random number x e = by x.at_client refl
  where
    p : Packet
    p = DialRsp (codes "no agent available") connect_id random

    by : (b : Bool) → x.at_client ≡ b → IsToldBy number (clients.with_down b p x)
    by true h = inr (connect_id, random, e, in_last p x.down)
    by false h = inl h

-- ---- by the number; where there is no app it is that of none
abbrev pub ToldOf : ℕ → Option App → List Client → Type 0
ToldOf k None cs = k ≡ 0
ToldOf k (Some a) cs = Told cs a

mapped : (k : ℕ) (f : App → App) (b : Bool) (o : Option App) (cs : List Client) → ((a : App) → o ≡ Some a → Told cs a → Told cs (f a)) → ToldOf k o cs → ToldOf k (cond b (option_map f o) o) cs
mapped k f true None cs keeps it = it
mapped k f true (Some a) cs keeps it = keeps a refl it
mapped k f false None cs keeps it = it
mapped k f false (Some a) cs keeps it = it

client_mapped : (k : ℕ) (o : Option App) (old new : List Client) → ((h : Home) (noted : Stage) (error : List ℕ) → IsRefusedAt h old noted error → IsRefusedAt h new noted error) → ToldOf k o old → ToldOf k o new
client_mapped k None old new keeps it = it
client_mapped k (Some a) old new keeps it = keeps a.home a.stage a.error it

-- ---- of all apps of which something is known by the choices
module _ (Asks : List AppChoice → ℕ → Type 0) where
  abbrev pub Holds : State → Type 0
  Holds s = (k : ℕ) → Asks s.choices k → ToldOf k (nth k s.apps) s.clients

  pub apps_changed : (f : App → App) → ((cs : List Client) (a : App) → Told cs a → Told cs (f a)) → (n : ℕ) (s : State) → Holds s → Holds (record s { apps = change f n s.apps })
  apps_changed f keeps n s h k asks = subst (λ o. ToldOf k o s.clients) (sym (nth_change f n k s.apps)) (mapped k f (k == n) (nth k s.apps) s.clients (λ a e it. keeps s.clients a it) (h k asks))

  -- the app of a number, and what is known of it
  pub app_changed : (f : App → App) (n : ℕ) (s : State) → ((a : App) → nth n s.apps ≡ Some a → Told s.clients a → Told s.clients (f a)) → Holds s → Holds (record s { apps = change f n s.apps })
  app_changed f n s keeps h k asks = subst (λ o. ToldOf k o s.clients) (sym (nth_change f n k s.apps)) (by (k == n) refl)
    where
      by : (b : Bool) → (k == n) ≡ b → ToldOf k (cond b (option_map f (nth k s.apps)) (nth k s.apps)) s.clients
      by true e = mapped k f true (nth k s.apps) s.clients (λ a there it. keeps a (ap (λ m. nth m s.apps) (sym (eqb-true k n e)) ∙ there) it) (h k asks)
      by false e = h k asks

  pub clients_changed : (g : Client → Client) → KeepsTold g → (c : ℕ) (s : State) → Holds s → Holds (record s { clients = change g c s.clients })
  clients_changed g keeps c s h k asks = client_mapped k (nth k s.apps) s.clients (change g c s.clients) (λ home noted error it. client_kept g keeps c s.clients home noted error it) (h k asks)

  pub clients_more : (y : Client) (s : State) → Holds s → Holds (record s { clients = s.clients ++ y ∷ [] })
  clients_more y s h k asks = client_mapped k (nth k s.apps) s.clients (s.clients ++ y ∷ []) (λ home noted error it. client_more y s.clients home noted error it) (h k asks)

  -- one more app
  pub app_more : (a : App) (s : State) → Holds s → Holds (record s { apps = s.apps ++ a ∷ [] })
  app_more a s h k asks = subst (λ o. ToldOf k o s.clients) (sym (nth_more s.apps a k)) (by (k == suc (length s.apps)) refl (nth k s.apps) refl (h k asks))
    where
      by : (b : Bool) → (k == suc (length s.apps)) ≡ b → (o : Option App) → nth k s.apps ≡ o → ToldOf k o s.clients → ToldOf k (cond b (Some a) o) s.clients
      by true e None at it = let same : k ≡ suc (length s.apps) = eqb-true k (suc (length s.apps)) e in absurd (cc (sym it ∙ same))
      by true e (Some x) at it = let inside : k ≤ length s.apps = nth_within k s.apps x at in let same : k ≡ suc (length s.apps) = eqb-true k (suc (length s.apps)) e in absurd (omega (arith, inside, same))
      by false e o at it = it
