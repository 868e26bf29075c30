-- Each CONNECT app takes what came for it by moves.
use Rattle.std.proofs.Common.{◌≡◌, ◌==◌, ◌&&◌, ◌||◌, ◌++◌, ℕ, Bool, true, false, cond, List, [], ◌∷◌, refl, sym, ap, ◌∙◌, subst, append_assoc, eqb-true}
use Rattle.kn_packet.specs.declared.packet.Packet.{Packet}
use Rattle.kn_packet.specs.declared.packet.Packet.TheVariants.{CloseReq, CloseRsp, Data, DialCls, DialReq, DialRsp, Drain, Other}
use Rattle.kn_tunnel.specs.Kinds.{left_phase}
use Rattle.kn_tunnel.specs.Tunnel.{Phase}
use Rattle.kn_packets.specs.Moves.{connect_gets, connect_takes, out_is, side_if}
use Rattle.kn_packets.specs.Outputs.{finishes}
use Rattle.kn_packets.specs.World.{World, WorldApp, WorldStream}
use Rattle.kn_refinement.specs.Settled.{bytes_in, bytes_taken, ends, is_refused, settled_app, settled_stream, takes}
use Rattle.kn_refinement.proofs.DoorsHeard.{appended_nil}
use Rattle.kn_refinement.proofs.ServerApps.{calm_app, calm_stream}
use Rattle.kn_refinement.proofs.ServerStreams.{number_same}
use Rattle.kn_refinement.proofs.Worlds.{streams_same, worlds_same}

-- ---- a stream of which nothing is to be taken stays, with its app
no_ends : (t : Bool) → (t && false) ≡ false
no_ends true = refl
no_ends false = refl

same_cond : {X : Type 0} (b : Bool) (x : X) → cond b x x ≡ x
same_cond true x = refl
same_cond false x = refl

pub empty_stream : (phase : Phase) (x : WorldStream) → x.down ≡ [] → settled_stream phase x ≡ x
empty_stream phase x e = streams_same (settled_stream phase x) x refl refl refl refl refl
    (ap (λ b. cond b false x.client) never) refl (ap (λ b. cond (b && is_refused phase) [] x.up) never) (ap (cond (takes x) []) e ∙ same_cond (takes x) [] ∙ sym e)
  where
    never : (takes x && ends x.down) ≡ false
    never = ap (λ ps. takes x && ends ps) e ∙ no_ends (takes x)

app_with : WorldApp → Phase → List ℕ → WorldApp
app_with a phase got = record a { phase = phase; side = record a.side { got = got } }

pub empty_app : (x : WorldStream) (a : WorldApp) → x.down ≡ [] → settled_app x a ≡ a
unfolding app_with
empty_app x a e =
    ap (λ b. app_with a (cond b (left_phase a.phase) a.phase) (cond (takes x) (a.side.got ++ bytes_taken x.down) a.side.got)) (ap (λ ps. takes x && ends ps) e ∙ no_ends (takes x))
    ∙ ap (app_with a a.phase) (ap (λ ps. cond (takes x) (a.side.got ++ bytes_taken ps) a.side.got) e ∙ here (takes x))
  where
    here : (t : Bool) → cond t (a.side.got ++ []) a.side.got ≡ a.side.got
    here true = appended_nil a.side.got
    here false = refl

-- what was taken is not taken again
pub down_taken : (phase : Phase) (x : WorldStream) → takes x ≡ true → (settled_stream phase x).down ≡ []
down_taken phase x t = ap (λ b. cond b [] x.down) t

pub stream_still : (phase later : Phase) (x : WorldStream) → settled_stream later (settled_stream phase x) ≡ settled_stream phase x
stream_still phase later x = here (takes x) refl
  where
    here : (t : Bool) → takes x ≡ t → settled_stream later (settled_stream phase x) ≡ settled_stream phase x
    here true t = empty_stream later (settled_stream phase x) (down_taken phase x t)
    here false t = ap (settled_stream later) (calm_stream phase x t) ∙ calm_stream later x t ∙ sym (calm_stream phase x t)

pub app_still : (phase : Phase) (x : WorldStream) (a : WorldApp) → settled_app (settled_stream phase x) (settled_app x a) ≡ settled_app x a
app_still phase x a = here (takes x) refl
  where
    here : (t : Bool) → takes x ≡ t → settled_app (settled_stream phase x) (settled_app x a) ≡ settled_app x a
    here true t = empty_app (settled_stream phase x) (settled_app x a) (down_taken phase x t)
    here false t = ap (λ y. settled_app y (settled_app x a)) (calm_stream phase x t) ∙ calm_app x (settled_app x a) t

-- ---- one stream alone
unfoldable pub settled_one : ℕ → World → World
settled_one f w = record w {
  streams = λ i. cond (i == f) (settled_stream (w.apps (w.streams i).app).phase (w.streams i)) (w.streams i);
  apps = λ k. cond ((w.apps k).stream == f) (settled_app (w.streams f) (w.apps k)) (w.apps k);
}

-- nothing is to be taken
pub nothing_taken : (f : ℕ) (w : World) → ((phase : Phase) → settled_stream phase (w.streams f) ≡ w.streams f) → ((a : WorldApp) → settled_app (w.streams f) a ≡ a) → settled_one f w ≡ w
unfolding settled_one
nothing_taken f w stream app = worlds_same (settled_one f w) w refl (λ l. refl) (λ c. refl) (λ l. refl) (λ i. here i (i == f) refl) (λ d. refl) (λ k. there (w.apps k) ((w.apps k).stream == f))
  where
    here : (i : ℕ) (b : Bool) → (i == f) ≡ b → cond b (settled_stream (w.apps (w.streams i).app).phase (w.streams i)) (w.streams i) ≡ w.streams i
    here i true e = let same : f ≡ i = sym (eqb-true i f e) in subst (λ j. (phase : Phase) → settled_stream phase (w.streams j) ≡ w.streams j) same stream (w.apps (w.streams i).app).phase
    here i false e = refl

    there : (a : WorldApp) (b : Bool) → cond b (settled_app (w.streams f) a) a ≡ a
    there a true = app a
    there a false = refl

-- ---- one packet that is not the last
side_of_none : (b : Bool) (a : WorldApp) → record a { side = side_if b (λ s. record s { got = s.got ++ [] }) a.side } ≡ a
side_of_none true a = ap (λ g. record a { side = record a.side { got = g } }) (appended_nil a.side.got)
side_of_none false a = refl

gets_nothing : (f : ℕ) (w : World) → connect_gets f [] w ≡ w
gets_nothing f w = worlds_same (connect_gets f [] w) w refl (λ l. refl) (λ c. refl) (λ l. refl) (λ i. refl) (λ d. refl) (λ k. side_of_none ((w.apps k).stream == f) (w.apps k))

pub takes_bytes : (f : ℕ) (p : Packet) (w : World) → finishes p ≡ false → connect_takes f p w ≡ connect_gets f (bytes_in p) w
takes_bytes f (DialRsp [] connect_id random) w h = sym (gets_nothing f w)
takes_bytes f (DialRsp (x ∷ xs) connect_id random) w h = absurd cc
takes_bytes f (Data connect_id error bytes) w h = refl
takes_bytes f (CloseRsp error connect_id) w h = absurd cc
takes_bytes f (DialReq protocol address random) w h = sym (gets_nothing f w)
takes_bytes f (CloseReq connect_id) w h = sym (gets_nothing f w)
takes_bytes f (DialCls random) w h = sym (gets_nothing f w)
takes_bytes f Drain w h = sym (gets_nothing f w)
takes_bytes f (Other number) w h = sym (gets_nothing f w)

stream_more : (p : Packet) (ps : List Packet) (phase : Phase) (x : WorldStream) → x.down ≡ p ∷ ps → finishes p ≡ false → takes x ≡ true
    → settled_stream phase (record x { down = ps }) ≡ settled_stream phase x
stream_more p ps phase x e h t = streams_same (settled_stream phase (record x { down = ps })) (settled_stream phase x) refl refl refl refl refl
    (ap (λ b. cond b false x.client) same) refl (ap (λ b. cond (b && is_refused phase) [] x.up) same) (ap (λ b. cond b [] ps) t ∙ sym (ap (λ b. cond b [] x.down) t))
  where
    same : (takes x && ends ps) ≡ (takes x && ends x.down)
    same = ap (λ b. takes x && (b || ends ps)) (sym h) ∙ sym (ap (λ qs. takes x && ends qs) e)

app_more : (p : Packet) (ps : List Packet) (x : WorldStream) (a : WorldApp) → x.down ≡ p ∷ ps → finishes p ≡ false → takes x ≡ true
    → settled_app (record x { down = ps }) (record a { side = record a.side { got = a.side.got ++ bytes_in p } }) ≡ settled_app x a
unfolding app_with
app_more p ps x a e h t =
    ap (λ b. app_with a (cond b (left_phase a.phase) a.phase) (cond (takes x) ((a.side.got ++ bytes_in p) ++ bytes_taken ps) (a.side.got ++ bytes_in p))) same
    ∙ ap (app_with a (cond (takes x && ends x.down) (left_phase a.phase) a.phase)) got
  where
    same : (takes x && ends ps) ≡ (takes x && ends x.down)
    same = ap (λ b. takes x && (b || ends ps)) (sym h) ∙ sym (ap (λ qs. takes x && ends qs) e)

    got : cond (takes x) ((a.side.got ++ bytes_in p) ++ bytes_taken ps) (a.side.got ++ bytes_in p) ≡ cond (takes x) (a.side.got ++ bytes_taken x.down) a.side.got
    got = ap (λ b. cond b ((a.side.got ++ bytes_in p) ++ bytes_taken ps) (a.side.got ++ bytes_in p)) t
        ∙ append_assoc a.side.got (bytes_in p) (bytes_taken ps)
        ∙ ap (λ b. a.side.got ++ cond b [] (bytes_in p ++ bytes_taken ps)) (sym h)
        ∙ ap (λ qs. a.side.got ++ bytes_taken qs) (sym e)
        ∙ sym (ap (λ b. cond b (a.side.got ++ bytes_taken x.down) a.side.got) t)

unfoldable pub one_taken : ℕ → Packet → List Packet → World → World
one_taken f p ps w = connect_gets f (bytes_in p) (out_is f ps w)

pub more_settles : (f : ℕ) (p : Packet) (ps : List Packet) (w : World) → (w.streams f).down ≡ p ∷ ps → finishes p ≡ false → takes (w.streams f) ≡ true
    → settled_one f (one_taken f p ps w) ≡ settled_one f w
unfolding settled_one one_taken
more_settles f p ps w e h t = worlds_same (settled_one f (one_taken f p ps w)) (settled_one f w) refl (λ l. refl) (λ c. refl) (λ l. refl) (λ i. here i (i == f) refl) (λ d. refl)
    (λ k. there (w.apps k) ((w.apps k).stream == f))
  where
    here : (i : ℕ) (b : Bool) → (i == f) ≡ b
        → cond b (settled_stream (w.apps (w.streams i).app).phase (record (w.streams i) { down = cond b ps (w.streams i).down })) (record (w.streams i) { down = cond b ps (w.streams i).down })
        ≡ cond b (settled_stream (w.apps (w.streams i).app).phase (w.streams i)) (w.streams i)
    here i true i_is = let same : w.streams i ≡ w.streams f = ap w.streams (eqb-true i f i_is) in
        stream_more p ps (w.apps (w.streams i).app).phase (w.streams i) (ap (λ (x : WorldStream). x.down) same ∙ e) h (ap (λ x. takes x) same ∙ t)
    here i false i_is = refl

    there : (a : WorldApp) (b : Bool)
        → cond b (settled_app (record (w.streams f) { down = cond (f == f) ps (w.streams f).down }) (record a { side = side_if b (λ s. record s { got = s.got ++ bytes_in p }) a.side })) (record a { side = side_if b (λ s. record s { got = s.got ++ bytes_in p }) a.side })
        ≡ cond b (settled_app (w.streams f) a) a
    there a true =
        ap (λ b. settled_app (record (w.streams f) { down = cond b ps (w.streams f).down }) (record a { side = record a.side { got = a.side.got ++ bytes_in p } })) (number_same f f refl)
        ∙ app_more p ps (w.streams f) a e h t
    there a false = refl
