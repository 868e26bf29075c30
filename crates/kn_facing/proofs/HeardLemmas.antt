-- While an end has not ended its half of a stream, the other hears all that it writes on it.
use Rattle.std.proofs.Common.{◌≡◌, ◌⊎◌, inl, inr, ◌<◌, ◌≤◌, ◌+ℤ◌, pos, ◌&&◌, ◌||◌, ℕ, Bool, true, false, not, eqb, nat_le, nat_lt, length, List, [], ◌∷◌, ◌++◌, Option, Some, None, Result, Ok, Err, refl, sym, ap, ◌∙◌, subst, arith, if◌then◌else◌}
use Rattle.std.specs.Prelude.{◌==◌}
use Rattle.std.proofs.lemmas.Bool.{eqb-true, eqb-false, ltb-true, ltb-false, leb-true}
use Rattle.kn_frames.specs.declared.frame.Frame.{Frame}
use Rattle.kn_frames.specs.Frames.{spelled}
use Rattle.kn_hpack.specs.Fields.{Field}
use Rattle.kn_hpack.specs.Blocks.{Progress, read_block}
use Rattle.kn_hpack.specs.declared.fault.HpackFault.{HpackFault}
use Rattle.kn_h2_state.specs.declared.event.H2Event.TheVariants.{Opened, Text}
use Rattle.kn_h2_state.specs.declared.stream.Stream.{Stream}
use Rattle.kn_h2_state.specs.declared.state.Block.{Block}
use Rattle.kn_h2_state.specs.declared.state.State.{State}
use Rattle.kn_h2_state.specs.Limits.{stream_limit}
use Rattle.kn_h2_state.specs.Payloads.{has, content, number_at, increment_of, settings_of}
use Rattle.kn_h2_state.specs.Streams.{stream_at, change, is_open, on_open, open_count, shut}
use Rattle.kn_h2_state.specs.Heads.{is_malformed_request}
use Rattle.kn_h2_state.specs.Rules.{is_client, block_with, ends_block, shifted}
use Rattle.kn_h2_state.specs.Effects.{event, on_stream, peer_ends, if_open, data_taken, text_told, ended_if, data_in, data_dropped, data_of, new_stream, accepted, request, response, head_of, decoded, block_ends, block_grown, block_of_headers, cut_off, reset_of, after_setting, after_settings, settings, ping, goaway, with_grant, window_update, effect}
use Rattle.kn_h2_state.specs.Calls.{text_of}
use Rattle.kn_h2_state.specs.Feeding.{judged, after_frame, after_frames}
use Rattle.kn_h2_state.specs.Hearing.{StaysOpen, FramesAreHeard}
use Rattle.kn_h2_state.specs.Holding.{Holds}
use Rattle.kn_h2_state.specs.Laws.{brought, TextGrows}
use Rattle.kn_h2_state.specs.Wire.{frame_text, is_end, ends_in, Hears}
use Rattle.kn_h2_state.proofs.BorneLemmas.{rises, none_above}
use Rattle.kn_h2_state.proofs.OtherLaws.{either, open_or}
use Rattle.kn_h2_state.proofs.PieceLaws.{after_frame-judged}
use Rattle.kn_h2_state.proofs.PreorderLaws.{silent, old_data}
use Rattle.kn_h2.proofs.RuleLemmas.{passes_rules}
use Rattle.kn_facing.specs.Facing.{emptied, IsTaken, AreTaken}
use Rattle.kn_facing.specs.Faces.{acknowledged}
use Rattle.kn_facing.specs.Wires.{MayHear, UnendedIsHeard}
use Rattle.kn_facing.proofs.CarryLemmas.{hears_left, taken_too}
use Rattle.kn_facing.proofs.FaceLemmas.{Known}
use Rattle.kn_facing.proofs.OpenLemmas.{HasHalf, half_of, half_is, frame_half, no_block, none_ends, no_reset, chosen, first_kind}
use Rattle.kn_facing.proofs.OwnSumLemmas.{reply_opened}
use Rattle.kn_facing.proofs.ReadStep.{frames_keep_faces}
use Rattle.kn_facing.proofs.RoomLemmas.{one_open}
use Rattle.kn_facing.proofs.SteadyLemmas.{steady_frame}

-- ---- frames that open no stream

opened_ended : (ends : Bool) (m : ℕ) (t : State) → (ended_if ends m t).opened ≡ t.opened
unfolding peer_ends
opened_ended true m t = refl
opened_ended false m t = refl

opened_data : (f : Frame) (s : State) (o : Option Stream) → (data_of f s o).opened ≡ s.opened
unfolding data_in data_taken data_dropped
opened_data f s None = refl
opened_data f s (Some st) =
    either (λ z. z.opened ≡ s.opened) (is_open st) (data_in f s) (data_dropped f s)
    (opened_ended (has f 1) f.stream (text_told f.stream (content f) (data_taken f s))
    ∙ either (λ z. z.opened ≡ s.opened) (length (content f) == 0) (data_taken f s) (event (data_taken f s) (Text f.stream)) refl refl)
    refl

opened_setting : (t : State) (x : ℕ × ℕ) → (after_setting t x).opened ≡ t.opened
unfolding after_setting
opened_setting t x =
    either (λ z. z.opened ≡ t.opened) (x.0 == 4) (record t { initial = x.1; streams = shifted t.initial x.1 t.streams }) (if x.0 == 3 then record t { most = Some x.1 } else t) refl
    (either (λ z. z.opened ≡ t.opened) (x.0 == 3) (record t { most = Some x.1 }) t refl refl)

opened_settings : (t : State) (xs : List (ℕ × ℕ)) → (after_settings t xs).opened ≡ t.opened
unfolding after_settings
opened_settings t [] = refl
opened_settings t (x ∷ xs) = opened_settings (after_setting t x) xs ∙ opened_setting t x

opened_all_settings : (f : Frame) (s : State) → (settings f s).opened ≡ s.opened
unfolding settings
opened_all_settings f s =
    either (λ z. z.opened ≡ s.opened) (has f 1) s _ refl (reply_opened (spelled 4 1 0 []) (after_settings s (settings_of f.payload)) ∙ opened_settings s (settings_of f.payload))

opened_ping : (f : Frame) (s : State) → (ping f s).opened ≡ s.opened
unfolding ping
opened_ping f s = either (λ z. z.opened ≡ s.opened) (has f 1) s _ refl (reply_opened (spelled 6 1 0 f.payload) s)

opened_goaway : (f : Frame) (s : State) → (goaway f s).opened ≡ s.opened
unfolding goaway
opened_goaway f s = refl

opened_reset : (f : Frame) (st : Stream) (s : State) → (reset_of f st s).opened ≡ s.opened
unfolding reset_of cut_off
opened_reset f st s =
    either (λ z. z.opened ≡ s.opened) (is_client s.role && (number_at f.payload 0 == 0) && not st.peer_open) (on_stream f.stream shut s) (cut_off f.stream (number_at f.payload 0) st s) refl refl

opened_update : (f : Frame) (s : State) → (window_update f s).opened ≡ s.opened
unfolding window_update
opened_update f s =
    either (λ z. z.opened ≡ s.opened) (f.stream == 0) (record s { send = s.send +ℤ pos (increment_of f.payload) }) (record s { streams = change s.streams f.stream (with_grant (increment_of f.payload)) }) refl refl

-- ---- and a head that begins one

-- no stream was opened, or this one, and the peer's half of it is open where its head did not end it
abbrev Started : ℕ → ℕ → Bool → State → Type 0
Started high m ends t = (t.opened ≡ high) ⊎ ((t.opened ≡ m) × (ends ≡ false → HasHalf (stream_at t.streams m)))

pushed : (ss : List Stream) (w : Stream) → stream_at ss w.number ≡ None → stream_at (ss ++ w ∷ []) w.number ≡ Some w
unfolding stream_at
pushed [] w none = by_test (eqb w.number w.number) refl
  where
    by_test : (b : Bool) → eqb w.number w.number ≡ b → (if b then Some w else None) ≡ Some w
    by_test true e = refl
    by_test false e = absurd (eqb-false w.number w.number e refl)
pushed (x ∷ ss) w none = by_test (eqb x.number w.number) none (λ r. pushed ss w r)
  where
    by_test : (b : Bool) → (if b then Some x else stream_at ss w.number) ≡ None → (stream_at ss w.number ≡ None → stream_at (ss ++ w ∷ []) w.number ≡ Some w) → (if b then Some x else stream_at (ss ++ w ∷ []) w.number) ≡ Some w
    by_test true gone r = absurd cc
    by_test false gone r = r gone

started_accepted : (m : ℕ) (ends : Bool) (fields : List Field) (s : State) → stream_at s.streams m ≡ None → Started s.opened m ends (accepted m ends fields s)
unfolding accepted
started_accepted m ends fields s none = inr (opened_ended ends m new, half ends)
  where
    new : State
    new = event (record s { opened = m; streams = s.streams ++ new_stream m s ∷ [] }) (Opened m fields)

    half : (b : Bool) → b ≡ false → HasHalf (stream_at (ended_if b m new).streams m)
    half true e = absurd cc
    half false e = subst HasHalf (sym (pushed s.streams (new_stream m s) none)) refl

started_request : (m : ℕ) (ends : Bool) (fields : List Field) (s : State) → open_count s.streams < stream_limit → is_malformed_request fields ≡ false → stream_at s.streams m ≡ None → Started s.opened m ends (request m ends fields s)
unfolding request
started_request m ends fields s few formed none =
    chosen (Started s.opened m ends) (nat_le stream_limit (open_count s.streams)) _ _ (λ e. absurd (many e))
    (λ _. chosen (Started s.opened m ends) (is_malformed_request fields) _ (accepted m ends fields s) (λ e. absurd (contrary e formed)) (λ _. started_accepted m ends fields s none))
  where
    contrary : is_malformed_request fields ≡ true → is_malformed_request fields ≡ false → ⊥
    contrary a b = cc

    many : nat_le stream_limit (open_count s.streams) ≡ true → ⊥
    many e = let low : stream_limit ≤ open_count s.streams = leb-true stream_limit (open_count s.streams) e in omega (arith, low, few)

started_head : (m : ℕ) (ends : Bool) (fields : List Field) (s : State) → is_client s.role ≡ false → (s.opened < m → stream_at s.streams m ≡ None) → open_count s.streams < stream_limit → is_malformed_request fields ≡ false → Started s.opened m ends (head_of m ends fields s)
unfolding head_of peer_ends
started_head m ends fields s server gone few formed =
    subst (λ (b : Bool). Started s.opened m ends (if b then if_open (stream_at s.streams m) s (λ st. response m ends fields st s) else (if nat_lt s.opened m then request m ends fields s else if_open (stream_at s.streams m) s (λ st. peer_ends m s)))) (sym server) by_new
  where
    by_new : Started s.opened m ends (if nat_lt s.opened m then request m ends fields s else if_open (stream_at s.streams m) s (λ st. peer_ends m s))
    by_new =
        chosen (Started s.opened m ends) (nat_lt s.opened m) (request m ends fields s) (if_open (stream_at s.streams m) s (λ st. peer_ends m s))
        (λ e. started_request m ends fields s few formed (gone (ltb-true s.opened m e)))
        (λ _. open_or (Started s.opened m ends) (stream_at s.streams m) s (λ st. peer_ends m s) (inl refl) (λ st. inl refl))

started_decoded : (s : State) (m : ℕ) (ends : Bool) (r : Result Progress HpackFault) → is_client s.role ≡ false → (s.opened < m → stream_at s.streams m ≡ None) → open_count s.streams < stream_limit
    → ((p : Progress) → r ≡ Ok p → is_malformed_request p.fields ≡ false) → Started s.opened m ends (decoded m ends s r)
started_decoded s m ends (Err e) server gone few formed = inl refl
started_decoded s m ends (Ok p) server gone few formed = started_head m ends p.fields (record s { block = None; decoder = p.table }) server gone few (formed p refl)

-- the frame has END_STREAM, where it may have it
abbrev ends_half : Frame → Bool
ends_half f = nat_le f.kind 1 && has f 1

started_effect : (s : State) (f : Frame) → Holds s → is_client s.role ≡ false → open_count s.streams < stream_limit → IsTaken s f → Started s.opened f.stream (ends_half f) (effect (record s { began = true }) f)
unfolding effect block_of_headers block_grown
started_effect s f holds server few taken =
    either P (f.kind == 0) (data_of f v (stream_at v.streams f.stream)) _ (inl (opened_data f v (stream_at v.streams f.stream)))
    (chosen P ((f.kind == 1) || (f.kind == 9)) (block_of_headers f v) _ (λ e. by_block (first_kind (f.kind == 1) (f.kind == 9) e taken.plain.whole))
    (λ _. either P (f.kind == 3) (if_open (stream_at v.streams f.stream) v (λ st. reset_of f st v)) _
    (open_or P (stream_at v.streams f.stream) v (λ st. reset_of f st v) (inl refl) (λ st. inl (opened_reset f st v)))
    (either P (f.kind == 4) (settings f v) _ (inl (opened_all_settings f v))
    (either P (f.kind == 6) (ping f v) _ (inl (opened_ping f v))
    (either P (f.kind == 7) (goaway f v) _ (inl (opened_goaway f v))
    (either P (f.kind == 8) (window_update f v) v (inl (opened_update f v)) (inl refl)))))))
  where
    v : State
    v = record s { began = true }

    P : State → Type 0
    P t = Started s.opened f.stream (ends_half f) t

    by_block : (f.kind == 1) ≡ true → P (block_of_headers f v)
    by_block one =
        let none : s.block ≡ None = no_block s.block f (passes_rules s f taken.kept).block taken.plain.whole in
        let flag : block_ends v.block f ≡ ends_half f = ap (λ (o : Option Block). block_ends o f) none ∙ sym (ap (λ (k : ℕ). nat_le k 1 && has f 1) (eqb-true f.kind 1 one)) in
        either P (ends_block f) (decoded f.stream (block_ends v.block f) v (read_block v.decoder (block_with v f))) (block_grown f v)
        (subst (λ (b : Bool). Started s.opened f.stream b (decoded f.stream (block_ends v.block f) v (read_block v.decoder (block_with v f)))) flag
        (started_decoded v f.stream (block_ends v.block f) (read_block v.decoder (block_with v f)) server (λ low. none_above 0 s.opened f.stream s.streams (rises 0 s.opened s.streams holds.rising) low) few
        (λ p r. (taken.head one p r).request server)))
        (inl refl)

-- ---- one frame

first_off : (a b : Bool) → (a || b) ≡ false → a ≡ false
first_off true b e = absurd cc
first_off false b e = refl

goes_on_here : (n : ℕ) (f : Frame) → is_end n f ≡ false → f.stream ≡ n → (ends_half f || (f.kind == 3)) ≡ false
unfolding is_end
goes_on_here n f e same = by_test (eqb f.stream n) refl e
  where
    by_test : (b : Bool) → eqb f.stream n ≡ b → (b && (ends_half f || (f.kind == 3))) ≡ false → (ends_half f || (f.kind == 3)) ≡ false
    by_test true t g = g
    by_test false t g = absurd (eqb-false f.stream n t same)

not_reset : (n : ℕ) (f : Frame) → is_end n f ≡ false → ((f.kind == 3) && (f.stream == n)) ≡ false
unfolding is_end
not_reset n f e = no_reset (f.stream == n) (ends_half f) (f.kind == 3) e

-- the peer may be heard on it behind the frame too
still_heard : (s : State) (f : Frame) (n : ℕ) → Holds s → s.failed ≡ None → s.opened ≤ 1 → (after_frame s f).opened ≤ 1 → IsTaken s f → is_end n f ≡ false → MayHear s n → MayHear (after_frame s f) n
still_heard s f n holds on few one taken goes_on (inl half) = inl (half_is (stream_at (after_frame s f).streams n) (frame_half s f n holds on taken goes_on (half_of (stream_at s.streams n) half)))
still_heard s f n holds on few one taken goes_on (inr low) = by_role (is_client s.role) refl
  where
    t : State
    t = after_frame s f

    to : t ≡ effect (record s { began = true }) f
    to = after_frame-judged s f on ∙ ap (λ o. judged s f o) taken.kept

    by_number : t.opened ≡ f.stream → (f.stream ≡ n → ⊥) → MayHear t n
    by_number is other = by_test (nat_lt f.stream n) refl
      where
        by_test : (b : Bool) → nat_lt f.stream n ≡ b → MayHear t n
        by_test true e = let below : f.stream < n = ltb-true f.stream n e in inr (omega (arith, is, below))
        by_test false e = let above : n ≤ f.stream = ltb-false f.stream n e in absurd (other (omega (arith, above, is, one, low)))

    by_start : Started s.opened f.stream (ends_half f) t → MayHear t n
    by_start (inl same) = inr (omega (arith, same, low))
    by_start (inr (is, half)) = by_test (eqb f.stream n) refl
      where
        by_test : (b : Bool) → eqb f.stream n ≡ b → MayHear t n
        by_test false e = by_number is (eqb-false f.stream n e)
        by_test true e =
            let same : f.stream ≡ n = eqb-true f.stream n e in
            inl (half_is (stream_at t.streams n) (subst (λ (j : ℕ). HasHalf (stream_at t.streams j)) same (half (first_off (ends_half f) (f.kind == 3) (goes_on_here n f goes_on same)))))

    by_role : (c : Bool) → is_client s.role ≡ c → MayHear t n
    by_role true client = let same = (steady_frame s f on taken.kept taken.plain).opened client in inr (omega (arith, same, low))
    by_role false server =
        by_start (subst (λ (z : State). Started s.opened f.stream (ends_half f) z) (sym to) (started_effect s f holds server (one_open s.opened s.streams holds.rising few) taken))

two_off : (a b c : Bool) → (a && b) ≡ false → (a && (b && c)) ≡ false
two_off true true c e = absurd cc
two_off true false c e = refl
two_off false b c e = refl

-- and its text is that of before with what the frame brings
one_heard : TextGrows → FramesAreHeard → (s : State) (f : Frame) (n : ℕ) → Holds s → s.failed ≡ None → (after_frame s f).failed ≡ None → IsTaken s f → is_end n f ≡ false → MayHear s n
    → text_of (after_frame s f) n ≡ text_of s n ++ frame_text n f
unfolding StaysOpen Hears after_frames brought frame_text
one_heard grows heard s f n holds on later taken goes_on (inl half) = (heard n s (f ∷ []) holds later (half, not_reset n f goes_on, tt)).each.0
one_heard grows heard s f n holds on later taken goes_on (inr low) = grows s f n holds on taken.kept (not_reset n f goes_on) ∙ ap (λ (l : List ℕ). text_of s n ++ l) (nothing (none_of (eqb f.kind 0) (eqb f.stream n) refl refl))
  where
    none_of : (a b : Bool) → eqb f.kind 0 ≡ a → eqb f.stream n ≡ b → (a && b) ≡ false
    none_of false b e g = refl
    none_of true false e g = refl
    none_of true true e g = absurd (old_data s f (silent s f taken.kept).streams e (subst (λ (j : ℕ). s.opened < j) (sym (eqb-true f.stream n g)) low))

    nothing : ((f.kind == 0) && (f.stream == n)) ≡ false → brought n s f ≡ frame_text n f
    nothing none =
        ap (λ (b : Bool). if b then content f else []) (two_off (f.kind == 0) (f.stream == n) (on_open s.streams n (λ st. true)) none) ∙ sym (ap (λ (b : Bool). if b then content f else []) none)

-- ---- all of them

pub unended_is_heard : Known → TextGrows → FramesAreHeard → UnendedIsHeard
unfolding Hears after_frames AreTaken ends_in
unended_is_heard k grows heard a b [] ab ba n h g m = record { heard = tt; still = m }
unended_is_heard k grows heard a b (f ∷ fs) ab ba n h g m =
    let e = h.end_b in
    let next = frames_keep_faces k a b f (fs ++ ab) ba h in
    let taken : IsTaken b f = taken_too k.heard (emptied b) b f e.holds (hears_left b b (k.steps b e.holds e.facts.known).none) h.to_b.taken.0 in
    let goes_on : is_end n f ≡ false = none_ends (is_end n f) (ends_in n (fs ++ ab)) (h.to_b.ends n g) in
    let here = one_heard grows heard b f n e.holds e.goes next.end_b.goes taken goes_on m in
    let rest = unended_is_heard k grows heard a (after_frame b f) fs ab (ba ++ acknowledged f) n next g (still_heard b f n e.holds e.goes e.one next.end_b.one taken goes_on m) in
    record { heard = (here, rest.heard); still = rest.still }
