-- All CONNECT apps take what came for them by moves, one stream after another.
use Rattle.std.proofs.Common.{◌≡◌, ◌==◌, ◌&&◌, ◌≤◌, ◌≢◌, ℕ, zero, suc, Bool, true, false, cond, [], ◌++◌, refl, sym, ap, ◌∙◌, subst, arith, eqb-true}
use Rattle.kn_tunnel.specs.Kinds.{is_gone}
use Rattle.kn_tunnel.specs.Tunnel.{Phase}
use Rattle.kn_packets.specs.Moves.{Makes}
use Rattle.kn_packets.specs.World.{World, WorldApp, WorldStream}
use Rattle.kn_refinement.specs.Settled.{ends, settled, settled_app, settled_stream, takes}
use Rattle.kn_refinement.proofs.ServerApps.{calm_app, calm_stream}
use Rattle.kn_refinement.proofs.ServerStreams.{number_same}
use Rattle.kn_refinement.proofs.SettledMoves.{app_still, down_taken, empty_app, empty_stream, nothing_taken, settled_one, stream_still}
use Rattle.kn_refinement.proofs.SettledRuns.{Reaches, one_reached}
use Rattle.kn_refinement.proofs.Worlds.{makes_join, worlds_same}

-- the server has the front of an app by CONNECT that takes, and the stream's app is of the stream
pub record Ready (w : World) : Type 0 where
  pub present : (f : ℕ) → takes (w.streams f) ≡ true → is_gone (w.streams f).front ≡ false
  pub own : (f : ℕ) → takes (w.streams f) ≡ true → (w.apps (w.streams f).app).stream ≡ f

-- only streams below a number have something for their apps
abbrev pub Pending : ℕ → World → Type 0
Pending n w = (f : ℕ) → n ≤ f → takes (w.streams f) ≡ true → (w.streams f).down ≡ []

-- ---- where nothing is pending
calm_here : (phase : Phase) (x : WorldStream) → (takes x ≡ true → x.down ≡ []) → settled_stream phase x ≡ x
calm_here phase x e = here (takes x) refl
  where
    here : (t : Bool) → takes x ≡ t → settled_stream phase x ≡ x
    here true t = empty_stream phase x (e t)
    here false t = calm_stream phase x t

calm_there : (x : WorldStream) (a : WorldApp) → (takes x ≡ true → x.down ≡ []) → settled_app x a ≡ a
calm_there x a e = here (takes x) refl
  where
    here : (t : Bool) → takes x ≡ t → settled_app x a ≡ a
    here true t = empty_app x a (e t)
    here false t = calm_app x a t

all_settled : (w : World) → Pending 0 w → settled w ≡ w
all_settled w pending = worlds_same (settled w) w refl (λ l. refl) (λ c. refl) (λ l. refl)
    (λ f. calm_here (w.apps (w.streams f).app).phase (w.streams f) (pending f (omega arith))) (λ d. refl)
    (λ k. calm_there (w.streams (w.apps k).stream) (w.apps k) (pending (w.apps k).stream (omega arith)))

-- ---- one stream, and then the others
-- one that still takes took before
still_takes : (phase : Phase) (x : WorldStream) → takes (settled_stream phase x) ≡ true → takes x ≡ true
still_takes phase x t = here (takes x && ends x.down) t
  where
    here : (b : Bool) → (x.connect && cond b false x.client) ≡ true → takes x ≡ true
    here true u = absurd (never x.connect u)
      where
        never : (c : Bool) → (c && false) ≡ true → ⊥
        never true u = absurd cc
        never false u = absurd cc
    here false u = u

takes_before : (m : ℕ) (w : World) (f : ℕ) → takes ((settled_one m w).streams f) ≡ true → takes (w.streams f) ≡ true
unfolding settled_one
takes_before m w f t = here (f == m) t
  where
    here : (b : Bool) → takes (cond b (settled_stream (w.apps (w.streams f).app).phase (w.streams f)) (w.streams f)) ≡ true → takes (w.streams f) ≡ true
    here true u = still_takes (w.apps (w.streams f).app).phase (w.streams f) u
    here false u = u

app_stream : (m : ℕ) (w : World) (k : ℕ) → ((settled_one m w).apps k).stream ≡ (w.apps k).stream
unfolding settled_one
app_stream m w k = here ((w.apps k).stream == m)
  where
    here : (b : Bool) → (cond b (settled_app (w.streams m) (w.apps k)) (w.apps k)).stream ≡ (w.apps k).stream
    here true = refl
    here false = refl

ready_after : (m : ℕ) (w : World) → Ready w → Ready (settled_one m w)
unfolding settled_one
ready_after m w ready = record {
  present = λ f t. front f (f == m) (ready.present f (takes_before m w f t));
  own = λ f t. app_stream m w ((settled_one m w).streams f).app ∙ app f (f == m) (ready.own f (takes_before m w f t));
}
  where
    front : (f : ℕ) (b : Bool) → is_gone (w.streams f).front ≡ false → is_gone (cond b (settled_stream (w.apps (w.streams f).app).phase (w.streams f)) (w.streams f)).front ≡ false
    front f true g = g
    front f false g = g

    app : (f : ℕ) (b : Bool) → (w.apps (w.streams f).app).stream ≡ f → (w.apps (cond b (settled_stream (w.apps (w.streams f).app).phase (w.streams f)) (w.streams f)).app).stream ≡ f
    app f true o = o
    app f false o = o

pending_after : (m : ℕ) (w : World) → Pending (suc m) w → Pending m (settled_one m w)
unfolding settled_one
pending_after m w pending f below t = here (f == m) refl t
  where
    here : (b : Bool) → (f == m) ≡ b → takes (cond b (settled_stream (w.apps (w.streams f).app).phase (w.streams f)) (w.streams f)) ≡ true
        → (cond b (settled_stream (w.apps (w.streams f).app).phase (w.streams f)) (w.streams f)).down ≡ []
    here true e u = down_taken (w.apps (w.streams f).app).phase (w.streams f) (still_takes (w.apps (w.streams f).app).phase (w.streams f) u)
    here false e u = pending f (above (λ same. other same e)) u
      where
        other : f ≡ m → (f == m) ≡ false → ⊥
        other same e = absurd (cc (number_same f m same, e))

        above : f ≢ m → suc m ≤ f
        above ne = omega (arith, ne, below)

-- what one stream has settled is as in the world where all have
settled_alike : (m : ℕ) (w : World) → Ready w → settled (settled_one m w) ≡ settled w
unfolding settled_one
settled_alike m w ready = worlds_same (settled (settled_one m w)) (settled w) refl (λ l. refl) (λ c. refl) (λ l. refl) stream (λ d. refl) app
  where
    -- another stream's app is another one
    phase_same : (f k : ℕ) → (w.apps k).stream ≡ f → (f == m) ≡ false → (cond ((w.apps k).stream == m) (settled_app (w.streams m) (w.apps k)) (w.apps k)).phase ≡ (w.apps k).phase
    phase_same f k o e = ap (λ b. (cond b (settled_app (w.streams m) (w.apps k)) (w.apps k)).phase) (ap (λ n. n == m) o ∙ e)

    other : (f : ℕ) (x : WorldStream) (t : Bool) → takes x ≡ t → (takes x ≡ true → (w.apps x.app).stream ≡ f) → (f == m) ≡ false
        → settled_stream ((settled_one m w).apps x.app).phase x ≡ settled_stream (w.apps x.app).phase x
    other f x true t o e = ap (λ p. settled_stream p x) (phase_same f x.app (o t) e)
    other f x false t o e = calm_stream ((settled_one m w).apps x.app).phase x t ∙ sym (calm_stream (w.apps x.app).phase x t)

    stream : (f : ℕ) → settled_stream ((settled_one m w).apps ((settled_one m w).streams f).app).phase ((settled_one m w).streams f) ≡ settled_stream (w.apps (w.streams f).app).phase (w.streams f)
    stream f = here (f == m) refl
      where
        here : (b : Bool) → (f == m) ≡ b
            → settled_stream ((settled_one m w).apps (cond b (settled_stream (w.apps (w.streams f).app).phase (w.streams f)) (w.streams f)).app).phase (cond b (settled_stream (w.apps (w.streams f).app).phase (w.streams f)) (w.streams f))
            ≡ settled_stream (w.apps (w.streams f).app).phase (w.streams f)
        here true e = stream_still (w.apps (w.streams f).app).phase ((settled_one m w).apps (w.streams f).app).phase (w.streams f)
        here false e = other f (w.streams f) (takes (w.streams f)) refl (ready.own f) e

    app : (k : ℕ) → settled_app ((settled_one m w).streams ((settled_one m w).apps k).stream) ((settled_one m w).apps k) ≡ settled_app (w.streams (w.apps k).stream) (w.apps k)
    app k = ap (λ s. settled_app ((settled_one m w).streams s) ((settled_one m w).apps k)) (app_stream m w k) ∙ here ((w.apps k).stream == m) refl
      where
        here : (b : Bool) → ((w.apps k).stream == m) ≡ b
            → settled_app (cond b (settled_stream (w.apps (w.streams (w.apps k).stream).app).phase (w.streams (w.apps k).stream)) (w.streams (w.apps k).stream)) (cond b (settled_app (w.streams m) (w.apps k)) (w.apps k))
            ≡ settled_app (w.streams (w.apps k).stream) (w.apps k)
        here true e =
            let same : m ≡ (w.apps k).stream = sym (eqb-true (w.apps k).stream m e) in
            ap (λ n. settled_app (settled_stream (w.apps (w.streams (w.apps k).stream).app).phase (w.streams (w.apps k).stream)) (settled_app (w.streams n) (w.apps k))) same
            ∙ app_still (w.apps (w.streams (w.apps k).stream).app).phase (w.streams (w.apps k).stream) (w.apps k)
        here false e = refl

-- one stream settles by moves, whether its app takes or not
stream_reached : (f : ℕ) (w : World) → Ready w → Reaches w (settled_one f w)
stream_reached f w ready = here (takes (w.streams f)) refl
  where
    here : (t : Bool) → takes (w.streams f) ≡ t → Reaches w (settled_one f w)
    here true t = one_reached (w.streams f).down f w refl t (ready.present f t)
    here false t = ([], sym (nothing_taken f w (λ phase. calm_stream phase (w.streams f) t) (λ a. calm_app (w.streams f) a t)))

-- ---- all
pub settles_by_moves : (n : ℕ) (w : World) → Ready w → Pending n w → Reaches w (settled w)
settles_by_moves zero w ready pending = ([], sym (all_settled w pending))
settles_by_moves (suc m) w ready pending =
    let first : Reaches w (settled_one m w) = stream_reached m w ready in
    let rest : Reaches (settled_one m w) (settled (settled_one m w)) = settles_by_moves m (settled_one m w) (ready_after m w ready) (pending_after m w pending) in
    (first.0 ++ rest.0, subst (λ v. Makes w (first.0 ++ rest.0) v) (settled_alike m w ready) (makes_join first.0 rest.0 w (settled_one m w) (settled (settled_one m w)) first.1 rest.1))
