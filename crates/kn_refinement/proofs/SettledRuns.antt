-- Each CONNECT app takes all that came for it by moves, stream by stream.
use Rattle.std.proofs.Common.{◌≡◌, ◌==◌, ◌&&◌, ◌||◌, ◌++◌, ℕ, Bool, true, false, not, cond, List, [], ◌∷◌, refl, sym, ap, ◌∙◌, subst, eqb-true}
use Rattle.kn_packet.specs.declared.packet.Packet.{Packet}
use Rattle.kn_packet.specs.declared.packet.Packet.TheVariants.{CloseReq, CloseRsp, Data, DialCls, DialReq, DialRsp, Drain, Other}
use Rattle.kn_tunnel.specs.Kinds.{is_gone, left_phase}
use Rattle.kn_tunnel.specs.Tunnel.{Phase}
use Rattle.kn_packets.specs.Moves.{ConnectTakes, DropsIn, Makes, May, Move, after, connect_leaves, connect_takes, in_is, out_is, takes_connect}
use Rattle.kn_packets.specs.Outputs.{finishes}
use Rattle.kn_packets.specs.World.{World, WorldApp, WorldStream}
use Rattle.kn_packets.proofs.Taken.{and_both, and_first, and_second}
use Rattle.kn_refinement.specs.Settled.{bytes_in, bytes_taken, ends, is_refused, settled_app, settled_stream, takes}
use Rattle.kn_refinement.proofs.DoorsHeard.{appended_nil}
use Rattle.kn_refinement.proofs.ServerStreams.{number_same}
use Rattle.kn_refinement.proofs.SettledMoves.{empty_app, empty_stream, more_settles, nothing_taken, one_taken, settled_one, takes_bytes}
use Rattle.kn_refinement.proofs.Worlds.{streams_same, worlds_same}

-- ---- the last packet
takes_last : (f : ℕ) (p : Packet) (w : World) → finishes p ≡ true → connect_takes f p w ≡ connect_leaves f w
takes_last f (DialRsp [] connect_id random) w h = absurd cc
takes_last f (DialRsp (x ∷ xs) connect_id random) w h = refl
takes_last f (Data connect_id error bytes) w h = absurd cc
takes_last f (CloseRsp error connect_id) w h = refl
takes_last f (DialReq protocol address random) w h = absurd cc
takes_last f (CloseReq connect_id) w h = absurd cc
takes_last f (DialCls random) w h = absurd cc
takes_last f Drain w h = absurd cc
takes_last f (Other number) w h = absurd cc

leaves_with : (p : Packet) (ps : List Packet) (x : WorldStream) → x.down ≡ p ∷ ps → finishes p ≡ true → takes x ≡ true → (takes x && ends x.down) ≡ true
leaves_with p ps x e h t = and_both (takes x) (ends x.down) t (ap ends e ∙ ap (λ b. b || ends ps) h)

-- the stream of one that leaves, with what is then in its list to the server
left_stream : List Packet → WorldStream → WorldStream
left_stream up x = record x { client = false; up = up; down = [] }

stream_last : (p : Packet) (ps : List Packet) (phase : Phase) (x : WorldStream) → x.down ≡ p ∷ ps → finishes p ≡ true → takes x ≡ true
    → settled_stream phase x ≡ left_stream (cond (is_refused phase) [] x.up) x
unfolding left_stream
stream_last p ps phase x e h t = streams_same (settled_stream phase x) (record x { client = false; up = cond (is_refused phase) [] x.up; down = [] }) refl refl refl refl refl
    (ap (λ b. cond b false x.client) (leaves_with p ps x e h t)) refl (ap (λ b. cond (b && is_refused phase) [] x.up) (leaves_with p ps x e h t)) (ap (λ b. cond b [] x.down) t)

app_last : (p : Packet) (ps : List Packet) (x : WorldStream) (a : WorldApp) → x.down ≡ p ∷ ps → finishes p ≡ true → takes x ≡ true → settled_app x a ≡ record a { phase = left_phase a.phase }
app_last p ps x a e h t =
    ap (λ b. record a { phase = cond b (left_phase a.phase) a.phase; side = record a.side { got = cond (takes x) (a.side.got ++ bytes_taken x.down) a.side.got } }) (leaves_with p ps x e h t)
    ∙ ap (λ g. record a { phase = left_phase a.phase; side = record a.side { got = g } }) got
  where
    got : cond (takes x) (a.side.got ++ bytes_taken x.down) a.side.got ≡ a.side.got
    got = ap (λ b. cond b (a.side.got ++ bytes_taken x.down) a.side.got) t ∙ ap (λ qs. a.side.got ++ bytes_taken qs) e ∙ ap (λ b. a.side.got ++ cond b [] (bytes_in p ++ bytes_taken ps)) h ∙ appended_nil a.side.got

last_taken : ℕ → List Packet → World → World
last_taken f ps w = connect_leaves f (out_is f ps w)

phase_at : ℕ → World → Phase
phase_at f w = (w.apps (w.streams f).app).phase

-- one that was not refused keeps what is in its list to the server, one that was refused drops it
last_settles : (f : ℕ) (p : Packet) (ps : List Packet) (w : World) → (w.streams f).down ≡ p ∷ ps → finishes p ≡ true → takes (w.streams f) ≡ true → is_refused (phase_at f w) ≡ false
    → last_taken f ps w ≡ settled_one f w
unfolding last_taken phase_at settled_one left_stream
last_settles f p ps w e h t r = worlds_same (last_taken f ps w) (settled_one f w) refl (λ l. refl) (λ c. refl) (λ l. refl) (λ i. here i (i == f) refl) (λ d. refl) (λ k. there (w.apps k) ((w.apps k).stream == f))
  where
    here : (i : ℕ) (b : Bool) → (i == f) ≡ b
        → record (w.streams i) { client = cond b false (w.streams i).client; down = cond b [] (cond b ps (w.streams i).down) }
        ≡ cond b (settled_stream (w.apps (w.streams i).app).phase (w.streams i)) (w.streams i)
    here i true i_is = let same : w.streams i ≡ w.streams f = ap w.streams (eqb-true i f i_is) in
        sym (stream_last p ps (w.apps (w.streams i).app).phase (w.streams i) (ap (λ (x : WorldStream). x.down) same ∙ e) h (ap (λ x. takes x) same ∙ t)
        ∙ ap (λ b. left_stream (cond b [] (w.streams i).up) (w.streams i)) (ap (λ (x : WorldStream). is_refused (w.apps x.app).phase) same ∙ r))
    here i false i_is = refl

    there : (a : WorldApp) (b : Bool) → record a { phase = cond b (left_phase a.phase) a.phase } ≡ cond b (settled_app (w.streams f) a) a
    there a true = sym (app_last p ps (w.streams f) a e h t)
    there a false = refl

refused_settles : (f : ℕ) (p : Packet) (ps : List Packet) (w : World) → (w.streams f).down ≡ p ∷ ps → finishes p ≡ true → takes (w.streams f) ≡ true → is_refused (phase_at f w) ≡ true
    → in_is f [] (last_taken f ps w) ≡ settled_one f w
unfolding last_taken phase_at settled_one left_stream
refused_settles f p ps w e h t r = worlds_same (in_is f [] (last_taken f ps w)) (settled_one f w) refl (λ l. refl) (λ c. refl) (λ l. refl) (λ i. here i (i == f) refl) (λ d. refl) (λ k. there (w.apps k) ((w.apps k).stream == f))
  where
    here : (i : ℕ) (b : Bool) → (i == f) ≡ b
        → record (w.streams i) { client = cond b false (w.streams i).client; up = cond b [] (w.streams i).up; down = cond b [] (cond b ps (w.streams i).down) }
        ≡ cond b (settled_stream (w.apps (w.streams i).app).phase (w.streams i)) (w.streams i)
    here i true i_is = let same : w.streams i ≡ w.streams f = ap w.streams (eqb-true i f i_is) in
        sym (stream_last p ps (w.apps (w.streams i).app).phase (w.streams i) (ap (λ (x : WorldStream). x.down) same ∙ e) h (ap (λ x. takes x) same ∙ t)
        ∙ ap (λ b. left_stream (cond b [] (w.streams i).up) (w.streams i)) (ap (λ (x : WorldStream). is_refused (w.apps x.app).phase) same ∙ r))
    here i false i_is = refl

    there : (a : WorldApp) (b : Bool) → record a { phase = cond b (left_phase a.phase) a.phase } ≡ cond b (settled_app (w.streams f) a) a
    there a true = sym (app_last p ps (w.streams f) a e h t)
    there a false = refl

-- ---- all packets of one stream
abbrev pub Reaches : World → World → Type 0
Reaches old new = (ms : List Move) × Makes old ms new

-- its app may take while it has its end
may_take : (x : WorldStream) → takes x ≡ true → (x.client && x.connect) ≡ true
may_take x t = and_both x.client x.connect (and_second x.connect x.client t) (and_first x.connect x.client t)

after_last : (f : ℕ) (p : Packet) (ps : List Packet) (w : World) → (w.streams f).down ≡ p ∷ ps → finishes p ≡ true → after (ConnectTakes f) w ≡ last_taken f ps w
unfolding last_taken
after_last f p ps w e h = ap (λ qs. takes_connect f qs w) e ∙ takes_last f p (out_is f ps w) h

after_more : (f : ℕ) (p : Packet) (ps : List Packet) (w : World) → (w.streams f).down ≡ p ∷ ps → finishes p ≡ false → after (ConnectTakes f) w ≡ one_taken f p ps w
unfolding one_taken
after_more f p ps w e h = ap (λ qs. takes_connect f qs w) e ∙ takes_bytes f p (out_is f ps w) h

last_reached : (f : ℕ) (p : Packet) (ps : List Packet) (w : World) → (w.streams f).down ≡ p ∷ ps → finishes p ≡ true → takes (w.streams f) ≡ true → is_gone (w.streams f).front ≡ false
    → Reaches w (settled_one f w)
unfolding last_taken
last_reached f p ps w e h t g = here (is_refused (phase_at f w)) refl
  where
    dropped : May (DropsIn f) (last_taken f ps w)
    dropped = ap (λ b. not b && not (cond (f == f) false (w.streams f).client)) g ∙ ap (λ b. not (cond b false (w.streams f).client)) (number_same f f refl)

    here : (b : Bool) → is_refused (phase_at f w) ≡ b → Reaches w (settled_one f w)
    here false r = (ConnectTakes f ∷ [], (may_take (w.streams f) t, after_last f p ps w e h ∙ last_settles f p ps w e h t r))
    here true r = (
      ConnectTakes f ∷ DropsIn f ∷ [],
      (may_take (w.streams f) t, (subst (λ v. May (DropsIn f) v) (sym (after_last f p ps w e h)) dropped, ap (in_is f []) (after_last f p ps w e h) ∙ refused_settles f p ps w e h t r)),
    )

pub one_reached : (ps : List Packet) (f : ℕ) (w : World) → (w.streams f).down ≡ ps → takes (w.streams f) ≡ true → is_gone (w.streams f).front ≡ false → Reaches w (settled_one f w)
unfolding one_taken
one_reached [] f w e t g = ([], sym (nothing_taken f w (λ phase. empty_stream phase (w.streams f) e) (λ a. empty_app (w.streams f) a e)))
one_reached (p ∷ ps) f w e t g = here (finishes p) refl (λ v i j k. one_reached ps f v i j k)
  where
    here : (b : Bool) → finishes p ≡ b
        → ((v : World) → (v.streams f).down ≡ ps → takes (v.streams f) ≡ true → is_gone (v.streams f).front ≡ false → Reaches v (settled_one f v))
        → Reaches w (settled_one f w)
    here true h rest = last_reached f p ps w e h t g
    here false h rest =
        let r : Reaches (one_taken f p ps w) (settled_one f (one_taken f p ps w)) = rest (one_taken f p ps w) (ap (λ b. cond b ps (w.streams f).down) (number_same f f refl)) t g in
        (ConnectTakes f ∷ r.0, (may_take (w.streams f) t, subst (λ v. Makes v r.0 (settled_one f w)) (sym (after_more f p ps w e h)) (subst (λ v. Makes (one_taken f p ps w) r.0 v) (more_settles f p ps w e h t) r.1)))
