-- What an app by CONNECT takes, and whether it takes freely, changes nothing that is shown.
use Rattle.std.proofs.Common.{◌≡◌, ◌≢◌, ◌==◌, ◌&&◌, ◌-◌, ◌++◌, ◌⊎◌, inl, inr, ℕ, zero, suc, Bool, true, false, cond, [], take, drop, Option, Some, None, refl, sym, ap, ◌∙◌, subst, append_assoc}
use Rattle.std.specs.Prelude.{min}
use Rattle.std.proofs.lemmas.List.{take-append-drop}
use Rattle.kn_server_core.specs.Isolation.{Each}
use Rattle.kn_packets.specs.Moves.{no_app}
use Rattle.kn_world.specs.declared.parts.App.{App}
use Rattle.kn_world.specs.declared.parts.Home.TheVariants as home
use Rattle.kn_world.specs.declared.parts.Owner.{Owner}
use Rattle.kn_world.specs.declared.parts.Owner.TheVariants as owner
use Rattle.kn_world.specs.declared.parts.Stage.{Stage}
use Rattle.kn_world.specs.declared.parts.Stage.TheVariants as stage
use Rattle.kn_world.specs.declared.state.State.{State}
use Rattle.kn_world.specs.AppSteps.{is_free, takes, takes_freely, takes_of, took as took_by}
use Rattle.kn_world.specs.Apps as apps
use Rattle.kn_world.specs.Doors as door
use Rattle.kn_world.specs.Flows.{no_bytes, passed_on}
use Rattle.kn_world.specs.Numbers.{change, nth}
use Rattle.kn_world.specs.Sides as side
use Rattle.kn_refinement.specs.Fits.{Fits, HasLeft, IsDataOf, IsPast, IsUnheard}
use Rattle.kn_refinement.specs.Leads.{Leads}
use Rattle.kn_refinement.specs.Shown.{app_at_home, app_of, connect_app, connect_stream, shown, stream_of}
use Rattle.kn_refinement.proofs.ConnectParts.{Same, at_each, fits_changed}
use Rattle.kn_refinement.proofs.Worlds.{leads_none, worlds_same}

-- ---- two states of an app by CONNECT that show the same
pub record Alike (a b : App) : Type 0 where
  pub stream : (k : ℕ) → connect_stream k (Some a) ≡ connect_stream k (Some b)
  pub app : connect_app a ≡ connect_app b

pub alike_twice : (a b c : App) → Alike a b → Alike b c → Alike a c
alike_twice a b c p q = record { stream = λ k. p.stream k ∙ q.stream k; app = p.app ∙ q.app }

-- what it keeps of what ties it to the server
pub record Keeps (a b : App) : Type 0 where
  pub at_door : b.home ≡ a.home
  pub number : b.door.number ≡ a.door.number
  pub at_server : b.door.at_server ≡ a.door.at_server
  pub early : b.door.early ≡ a.door.early
  pub closing : b.door.closing ≡ a.door.closing
  pub dial : b.dial ≡ a.dial
  pub sending : b.side.sending ≡ a.side.sending
  pub end_given : b.side.end_given ≡ a.side.end_given
  pub coming : a.side.coming ≡ no_bytes → b.side.coming ≡ no_bytes
  pub stage : (b.stage ≡ a.stage) ⊎ ((b.stage ≡ stage.Ended) × (a.door.closing ≡ true))

-- the one that a keeps all of, in what it fits
module _ (s : State) (k : ℕ) (a b : App) (fits : Fits s) (there : nth k s.apps ≡ Some a) (at_door : a.home ≡ home.Connect) (keeps : Keeps a b) where
  closes_none : (c : Bool) → c ≡ true → c ≡ false → ⊥
  closes_none c p q = absurd (cc (sym p ∙ q))

  unheard_kept : a.door.number ≡ 0 → IsUnheard b
  unheard_kept z = let old = fits.fronts.unheard k a there at_door z in
      record {
        sending = keeps.sending ∙ old.sending;
        coming = keeps.coming old.coming;
        dial = keeps.dial ∙ old.dial;
        early = keeps.early ∙ old.early;
        closing = keeps.closing ∙ old.closing;
        at_server = keeps.at_server ∙ old.at_server;
        unopened = here old.unopened old.closing keeps.stage;
      }
    where
      here : a.stage ≢ stage.Open → a.door.closing ≡ false → (b.stage ≡ a.stage) ⊎ ((b.stage ≡ stage.Ended) × (a.door.closing ≡ true)) → b.stage ≢ stage.Open
      here n c (inl e) o = n (sym e ∙ o)
      here n c (inr (e, t)) o = closes_none a.door.closing t c

  refused_kept : b.stage ≡ stage.Refused → b.door.closing ≡ false
  refused_kept r = here keeps.stage
    where
      here : (b.stage ≡ a.stage) ⊎ ((b.stage ≡ stage.Ended) × (a.door.closing ≡ true)) → b.door.closing ≡ false
      here (inl e) = keeps.closing ∙ fits.fronts.refused k a there at_door (sym e ∙ r)
      here (inr (e, t)) = let z : stage.Ended ≡ stage.Refused = sym e ∙ r in absurd cc

  gone_kept : (n : ℕ) → b.door.number ≡ suc n → b.door.at_server ≡ false → IsPast b × (b.door.early ≡ [])
  gone_kept n e f = let old = fits.fronts.gone k n a there at_door (sym keeps.number ∙ e) (sym keeps.at_server ∙ f) in (here old.0 keeps.stage, keeps.early ∙ old.1)
    where
      here : IsPast a → (b.stage ≡ a.stage) ⊎ ((b.stage ≡ stage.Ended) × (a.door.closing ≡ true)) → IsPast b
      here (inr ends) was = inr (keeps.closing ∙ ends)
      here (inl old) (inl e) = inl (subst (λ x. HasLeft x) (sym e) old)
      here (inl old) (inr (e, t)) = inl (inr e)

  pub keeps_same : Same a b
  keeps_same = record {
    at_door = keeps.at_door ∙ at_door;
    number = keeps.number;
    dial = keeps.dial;
    early = subst (λ ps. Each (IsDataOf a.dial) ps) (sym keeps.early) (fits.fronts.early k a there at_door);
    unheard = unheard_kept;
    refused = refused_kept;
    present = λ n e g. keeps.at_server ∙ fits.fronts.present k n a there at_door (sym keeps.number ∙ e) (sym keeps.end_given ∙ g);
    gone = gone_kept;
  }

-- ---- a change of it that shows nothing
pub nothing_shown : (s : State) (k : ℕ) (a : App) (f : App → App) → nth k s.apps ≡ Some a → a.home ≡ home.Connect → (f a).home ≡ home.Connect → (f a).door.number ≡ a.door.number → Alike a (f a)
    → shown s ≡ shown (record s { apps = change f k s.apps })
nothing_shown s k a f there at_door at number alike = worlds_same (shown s) (shown (record s { apps = change f k s.apps })) refl (λ l. refl) (λ c. refl) (λ l. refl) (λ i. stream_same (nth i s.fronts)) (λ d. refl) app_same
  where
    open_at : (j : ℕ) → connect_stream j (nth j s.apps) ≡ connect_stream j (nth j (change f k s.apps))
    open_at j = at_each k j s.apps (λ o p. connect_stream j o ≡ connect_stream j p) f a there (alike.stream j) (λ o. refl)

    stream_same : (o : Option Owner) → stream_of s.clients s.apps o ≡ stream_of s.clients (change f k s.apps) o
    stream_same None = refl
    stream_same (Some (owner.Client c)) = refl
    stream_same (Some (owner.App j)) = open_at j

    own : app_of s.clients (Some a) ≡ app_of s.clients (Some (f a))
    own = ap (λ h. app_at_home s.clients h a) at_door ∙ (λ i. cond (sym number i == 0) no_app (alike.app i)) ∙ sym (ap (λ h. app_at_home s.clients h (f a)) at)

    app_same : (j : ℕ) → app_of s.clients (nth j s.apps) ≡ app_of s.clients (nth j (change f k s.apps))
    app_same j = at_each k j s.apps (λ o p. app_of s.clients o ≡ app_of s.clients p) f a there own (λ o. refl)

-- ---- it takes
abbrev pub with_taken : ℕ → ℕ → App → App
with_taken reply count a = record a { door = door.with_reply reply a.door; side = side.took count a.side }

taken_bytes : (n : ℕ) (a : App) → a.side.coming.passed ++ a.side.coming.waiting ≡ (a.side.coming.passed ++ take n a.side.coming.waiting) ++ drop n a.side.coming.waiting
taken_bytes n a = sym (append_assoc a.side.coming.passed (take n a.side.coming.waiting) (drop n a.side.coming.waiting) ∙ ap (λ xs. a.side.coming.passed ++ xs) (take-append-drop n a.side.coming.waiting))

taken_alike : (reply count : ℕ) (a : App) → Alike a (with_taken reply count a)
taken_alike reply count a = record { stream = λ k. refl; app = λ i. record (connect_app a) { side = record (connect_app a).side { got = taken_bytes count a i } } }

take_none : (n : ℕ) → passed_on n no_bytes ≡ no_bytes
take_none zero = refl
take_none (suc n) = refl

taken_keeps : (reply count : ℕ) (a : App) → Keeps a (with_taken reply count a)
taken_keeps reply count a = record {
  at_door = refl;
  number = refl;
  at_server = refl;
  early = refl;
  closing = refl;
  dial = refl;
  sending = refl;
  end_given = refl;
  coming = λ e. ap (λ c. passed_on count c) e ∙ take_none count;
  stage = inl refl;
}

-- it has left once all is taken
module _ (a : App) (refused : a.stage ≡ stage.Refused → a.door.closing ≡ false) where
  emptied_alike : Alike a (door.emptied a)
  emptied_alike = here a.door.closing refl (door.is_empty a)
    where
      gone : (g : Stage) → a.stage ≡ g → a.door.closing ≡ true → Alike a (record a { stage = stage.Ended })
      gone stage.Dialling e c = record { stream = λ k. rw (c, e) refl; app = rw (c, e) refl }
      gone stage.Open e c = record { stream = λ k. rw (c, e) refl; app = rw (c, e) refl }
      gone stage.Ended e c = record { stream = λ k. rw (c, e) refl; app = rw (c, e) refl }
      gone stage.Refused e c = absurd (cc (refused e, c))

      here : (closing : Bool) → a.door.closing ≡ closing → (empty : Bool) → Alike a (cond (closing && empty) (record a { stage = stage.Ended }) a)
      here true c true = gone a.stage refl c
      here true c false = record { stream = λ k. refl; app = refl }
      here false c empty = record { stream = λ k. refl; app = refl }

  emptied_keeps : Keeps a (door.emptied a)
  emptied_keeps = here a.door.closing refl (door.is_empty a)
    where
      here : (closing : Bool) → a.door.closing ≡ closing → (empty : Bool) → Keeps a (cond (closing && empty) (record a { stage = stage.Ended }) a)
      here true c true = record { at_door = refl; number = refl; at_server = refl; early = refl; closing = refl; dial = refl; sending = refl; end_given = refl; coming = λ e. e; stage = inr (refl, c) }
      here true c false = record { at_door = refl; number = refl; at_server = refl; early = refl; closing = refl; dial = refl; sending = refl; end_given = refl; coming = λ e. e; stage = inl refl }
      here false c empty = record { at_door = refl; number = refl; at_server = refl; early = refl; closing = refl; dial = refl; sending = refl; end_given = refl; coming = λ e. e; stage = inl refl }

-- two such changes
keeps_twice : (a b c : App) → Keeps a b → Keeps b c → Keeps a c
keeps_twice a b c p q = record {
  at_door = q.at_door ∙ p.at_door;
  number = q.number ∙ p.number;
  at_server = q.at_server ∙ p.at_server;
  early = q.early ∙ p.early;
  closing = q.closing ∙ p.closing;
  dial = q.dial ∙ p.dial;
  sending = q.sending ∙ p.sending;
  end_given = q.end_given ∙ p.end_given;
  coming = λ e. q.coming (p.coming e);
  stage = here p.stage q.stage;
}
  where
    here : (b.stage ≡ a.stage) ⊎ ((b.stage ≡ stage.Ended) × (a.door.closing ≡ true)) → (c.stage ≡ b.stage) ⊎ ((c.stage ≡ stage.Ended) × (b.door.closing ≡ true)) → (c.stage ≡ a.stage) ⊎ ((c.stage ≡ stage.Ended) × (a.door.closing ≡ true))
    here (inl x) (inl y) = inl (y ∙ x)
    here (inr x) (inl y) = inr (y ∙ x.0, x.1)
    here x (inr y) = inr (y.0, sym p.closing ∙ y.1)

-- the whole of it
took_alike : (count : ℕ) (a : App) → (a.stage ≡ stage.Refused → a.door.closing ≡ false) → Alike a (door.took count a)
took_alike count a refused =
    let reply : ℕ = min count a.door.reply in
    let b : App = with_taken (a.door.reply - reply) (count - reply) a in
    alike_twice a b (door.emptied b) (taken_alike (a.door.reply - reply) (count - reply) a) (emptied_alike b refused)

took_keeps : (count : ℕ) (a : App) → (a.stage ≡ stage.Refused → a.door.closing ≡ false) → Keeps a (door.took count a)
took_keeps count a refused =
    let reply : ℕ = min count a.door.reply in
    let b : App = with_taken (a.door.reply - reply) (count - reply) a in
    keeps_twice a b (door.emptied b) (taken_keeps (a.door.reply - reply) (count - reply) a) (emptied_keeps b refused)

nothing_alike : (a : App) → Alike a a
nothing_alike a = record { stream = λ k. refl; app = refl }

nothing_keeps : (a : App) → Keeps a a
nothing_keeps a = record { at_door = refl; number = refl; at_server = refl; early = refl; closing = refl; dial = refl; sending = refl; end_given = refl; coming = λ e. e; stage = inl refl }

at_stage_alike : (g : Stage) (count : ℕ) (a : App) → (a.stage ≡ stage.Refused → a.door.closing ≡ false) → Alike a (door.took_at g count a)
at_stage_alike stage.Dialling count a refused = took_alike count a refused
at_stage_alike stage.Open count a refused = took_alike count a refused
at_stage_alike stage.Refused count a refused = took_alike count a refused
at_stage_alike stage.Ended count a refused = nothing_alike a

at_stage_keeps : (g : Stage) (count : ℕ) (a : App) → (a.stage ≡ stage.Refused → a.door.closing ≡ false) → Keeps a (door.took_at g count a)
at_stage_keeps stage.Dialling count a refused = took_keeps count a refused
at_stage_keeps stage.Open count a refused = took_keeps count a refused
at_stage_keeps stage.Refused count a refused = took_keeps count a refused
at_stage_keeps stage.Ended count a refused = nothing_keeps a

-- ---- the steps
pub kept_leads : (s : State) (k : ℕ) (a : App) (f : App → App) → Fits s → nth k s.apps ≡ Some a → a.home ≡ home.Connect → Keeps a (f a) → Alike a (f a) → Leads s (record s { apps = change f k s.apps })
kept_leads s k a f fits there at_door keeps alike =
    leads_none s (record s { apps = change f k s.apps }) (fits_changed s k a f fits there at_door (keeps_same s k a (f a) fits there at_door keeps))
    (nothing_shown s k a f there at_door (keeps.at_door ∙ at_door) keeps.number alike)

pub takes_leads : (s : State) (k count : ℕ) (a : App) → Fits s → nth k s.apps ≡ Some a → a.home ≡ home.Connect → Leads s (takes k count s)
takes_leads s k count a fits there at_door =
    subst (λ t. Leads s t) (sym (ap (λ o. takes_of o k count s) there ∙ ap (λ h. took_by h count k s) at_door))
    (kept_leads s k a (apps.took_at_door count) fits there at_door
    (at_stage_keeps a.stage count a (fits.fronts.refused k a there at_door)) (at_stage_alike a.stage count a (fits.fronts.refused k a there at_door)))

pub takes_freely_leads : (s : State) (k : ℕ) (a : App) → Fits s → nth k s.apps ≡ Some a → a.home ≡ home.Connect → Leads s (takes_freely k s)
takes_freely_leads s k a fits there at_door = here (is_free k s)
  where
    here : (b : Bool) → Leads s (cond b (takes k 18446744073709551615 s) s)
    here true = takes_leads s k 18446744073709551615 a fits there at_door
    here false = leads_none s s fits refl

-- it holds, or takes freely; it ends its sending, and the server is told so
pub holding_leads : (s : State) (k : ℕ) (a : App) (held : Bool) → Fits s → nth k s.apps ≡ Some a → a.home ≡ home.Connect → Leads s (record s { apps = change (apps.holding held) k s.apps })
holding_leads s k a held fits there at_door = kept_leads s k a (apps.holding held) fits there at_door
    (record { at_door = refl; number = refl; at_server = refl; early = refl; closing = refl; dial = refl; sending = refl; end_given = refl; coming = λ e. e; stage = inl refl }) (record { stream = λ k. refl; app = refl })

pub ended_leads : (s : State) (k : ℕ) (a : App) → Fits s → nth k s.apps ≡ Some a → a.home ≡ home.Connect → Leads s (record s { apps = change apps.ended k s.apps })
ended_leads s k a fits there at_door = kept_leads s k a apps.ended fits there at_door
    (record { at_door = refl; number = refl; at_server = refl; early = refl; closing = refl; dial = refl; sending = refl; end_given = refl; coming = λ e. e; stage = inl refl }) (record { stream = λ k. refl; app = refl })
