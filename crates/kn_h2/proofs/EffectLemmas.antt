-- What a frame does, by its type.
use Rattle.std.proofs.Common.{◌≡◌, ◌≢◌, ℕ, ◌+◌, ◌<◌, ◌≤◌, Bool, true, false, ◌||◌, eqb, List, ◌∷◌, length, drop, get_or, Some, None, is_some, Ok, refl, sym, ap, ◌∙◌}
use Rattle.std.proofs.lemmas.Bool.{ne_eqb, eqb-true, and_parts}
use Rattle.std.proofs.lemmas.List.{drop_more, drop_all}
use Rattle.kn_frames.specs.declared.frame.Frame.{Frame}
use Rattle.kn_hpack.specs.Fields.{Field, Table}
use Rattle.kn_hpack.specs.Blocks.{read_block, progress}
use Rattle.kn_h2_state.specs.declared.state.State.{State}
use Rattle.kn_h2_state.specs.Streams.{stream_at}
use Rattle.kn_h2_state.specs.Rules.{is_of_block, ends_block, block_with, verdict}
use Rattle.kn_h2_state.specs.Effects.{fail, effect, data_of, block_of_headers, block_grown, block_ends, head_of, if_open, reset_of, settings, ping, goaway, window_update}
use Rattle.kn_h2_state.specs.Feeding.{without_blocks, after_frame, after_frames}

-- the tests of a type
tests : (k n : ℕ) → k ≢ n → eqb k n ≡ false
tests k n other = ne_eqb k n other

pub effect_data : (s : State) (f : Frame) → f.kind ≡ 0 → data_of f s (stream_at s.streams f.stream) ≡ effect s f
unfolding effect
effect_data s f e = rw e refl

of_block : (s : State) (f : Frame) → is_of_block f ≡ true → block_of_headers f s ≡ effect s f
unfolding effect
of_block s f e = by_kind (eqb f.kind 1) (eqb f.kind 9) refl refl e
  where
    by_kind : (a b : Bool) → eqb f.kind 1 ≡ a → eqb f.kind 9 ≡ b → (a || b) ≡ true → block_of_headers f s ≡ effect s f
    by_kind true b one nine t = let k = eqb-true f.kind 1 one in rw k refl
    by_kind false true one nine t = let k = eqb-true f.kind 9 nine in rw k refl
    by_kind false false one nine t = absurd cc

pub effect_block : (s : State) (f : Frame) → is_of_block f ≡ true → ends_block f ≡ false → block_grown f s ≡ effect s f
unfolding block_of_headers
effect_block s f e no_end = (rw no_end refl) ∙ of_block s f e

pub effect_reset : (s : State) (f : Frame) → f.kind ≡ 3 → if_open (stream_at s.streams f.stream) s (λ st. reset_of f st s) ≡ effect s f
unfolding effect
effect_reset s f e = rw e refl

pub effect_settings : (s : State) (f : Frame) → f.kind ≡ 4 → settings f s ≡ effect s f
unfolding effect
effect_settings s f e = rw e refl

pub effect_ping : (s : State) (f : Frame) → f.kind ≡ 6 → ping f s ≡ effect s f
unfolding effect
effect_ping s f e = rw e refl

pub effect_goaway : (s : State) (f : Frame) → f.kind ≡ 7 → goaway f s ≡ effect s f
unfolding effect
effect_goaway s f e = rw e refl

pub effect_grant : (s : State) (f : Frame) → f.kind ≡ 8 → window_update f s ≡ effect s f
unfolding effect
effect_grant s f e = rw e refl

pub effect_none : (s : State) (f : Frame) → f.kind ≢ 0 → is_of_block f ≡ false → f.kind ≢ 3 → f.kind ≢ 4 → f.kind ≢ 6 → f.kind ≢ 7 → f.kind ≢ 8 → s ≡ effect s f
unfolding effect
effect_none s f zero block three four six seven eight =
    let a = tests f.kind 0 zero in
    let c = tests f.kind 3 three in
    let d = tests f.kind 4 four in
    let e = tests f.kind 6 six in
    let g = tests f.kind 7 seven in
    let h = tests f.kind 8 eight in
    rw (a, block, c, d, e, g, h) refl

-- ---- a frame of a connection that has not failed

pub after_broken : (s : State) (f : Frame) (code : ℕ) → is_some s.failed ≡ false → verdict s f ≡ Some code → fail code (without_blocks s) ≡ after_frame s f
unfolding after_frame
after_broken s f code going v = rw (going, v) refl

pub after_kept : (s : State) (f : Frame) → is_some s.failed ≡ false → verdict s f ≡ None → effect (record s { began = true }) f ≡ after_frame s f
unfolding after_frame
after_kept s f going v = rw (going, v) refl

pub after_block : (s : State) (f : Frame) (table : Table) (fields : List Field) → is_some s.failed ≡ false → verdict s f ≡ None → ends_block f ≡ true
    → read_block s.decoder (block_with s f) ≡ Ok (progress table fields)
    → head_of f.stream (block_ends s.block f) fields (record s { began = true; block = None; decoder = table }) ≡ after_frame s f
unfolding block_of_headers
after_block s f table fields going v ends reads =
    let t : State = record s { began = true } in
    let p = and_parts (is_of_block f) _ ends in
    let here : head_of f.stream (block_ends s.block f) fields (record s { began = true; block = None; decoder = table }) ≡ block_of_headers f t = rw (ends, reads) refl in
    here ∙ of_block t f p.0 ∙ after_kept s f going v

-- ---- frames, one after another

pub frames_next : (s : State) (fs : List Frame) (i : ℕ) (x : Frame) → i < length fs → x ≡ get_or fs i x → after_frames (after_frame s x) (drop (i + 1) fs) ≡ after_frames s (drop i fs)
unfolding after_frames
frames_next s fs i x lt is =
    let cut : drop i fs ≡ get_or fs i x ∷ drop (i + 1) fs = drop_more fs i x lt in
    ap (λ y. after_frames (after_frame s y) (drop (i + 1) fs)) is ∙ ap (after_frames s) (sym cut)

pub frames_done : (s : State) (fs : List Frame) (i : ℕ) → length fs ≤ i → s ≡ after_frames s (drop i fs)
unfolding after_frames
frames_done s fs i le = ap (after_frames s) (sym (drop_all i fs le))
