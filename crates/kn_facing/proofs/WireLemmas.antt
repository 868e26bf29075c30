-- The bytes that are on their way, as frames.
use Rattle.std.proofs.Common.{◌≡◌, ◌≢◌, ◌<◌, ◌≤◌, ◌+◌, ◌*◌, ◌&&◌, ◌||◌, ℕ, Bool, true, false, not, nat_lt, nat_le, length, take, drop, List, [], ◌∷◌, ◌++◌, append_assoc, append-nil, Option, Some, None, is_some, Result, Ok, Err, refl, sym, ap, ◌∙◌, subst, arith, if◌then◌else◌}
use Rattle.std.specs.Prelude.{◌==◌}
use Rattle.std.proofs.lemmas.Bool.{eqb-true, leb-true, ltb-true, ltb-false}
use Rattle.std.proofs.lemmas.List.{take-append-drop}
use Rattle.kn_frames.specs.declared.frame.Frame.{Frame}
use Rattle.kn_frames.specs.Frames.{head}
use Rattle.kn_frames.specs.Readers.{after_bytes, frames_in}
use Rattle.kn_hpack.specs.Fields.{Field}
use Rattle.kn_hpack.specs.Blocks.{Progress, read_block}
use Rattle.kn_hpack.specs.declared.fault.HpackFault.{HpackFault}
use Rattle.kn_h2_state.specs.declared.stream.Stream.{Stream}
use Rattle.kn_h2_state.specs.declared.state.State.{State}
use Rattle.kn_h2_state.specs.Limits.{reply_limit, stream_limit}
use Rattle.kn_h2_state.specs.Outgoing.{reply_bytes}
use Rattle.kn_h2_state.specs.Payloads.{has}
use Rattle.kn_h2_state.specs.Streams.{stream_at, is_open, on_open, passes, open_count}
use Rattle.kn_h2_state.specs.Heads.{is_malformed_request}
use Rattle.kn_h2_state.specs.Rules.{is_client, block_with, ends_block, verdict}
use Rattle.kn_h2_state.specs.Effects.{block_ends}
use Rattle.kn_h2_state.specs.Feeding.{after_frame, after_frames}
use Rattle.kn_h2_state.specs.Calls.{text_in, after_took}
use Rattle.kn_h2_state.specs.Wire.{frame, spellings, WrittenIsRead, ReadsBack, IsBetweenFrames}
use Rattle.kn_h2_state.proofs.BorneLemmas.{rises, none_above}
use Rattle.kn_h2_state.proofs.PieceLaws.{bytes-append, frames-append}
use Rattle.kn_h2_state.proofs.SeenLemmas.{climbs, none_below}
use Rattle.kn_h2.specs.Answered.{frame_answer, frames_answer, kept_answer, judged_answer, decoded_answer, head_answer, response_answer, response_answer_at, request_answer}
use Rattle.kn_h2.specs.Written.{replied}
use Rattle.kn_facing.specs.Ways.{Way, wire, entered}
use Rattle.kn_facing.specs.Facing.{emptied, coming, IsTaken, Fits, IsResponse, AreTaken, asks, asking}
use Rattle.kn_facing.specs.Faces.{IsEnd, Faces, acknowledged}
use Rattle.kn_facing.specs.Wires.{WritesBehind, EntersAlike, all_acknowledged, ReadingKeepsFaces, HasOneStream, FacesHaveOneStream}
use Rattle.kn_facing.proofs.CarryLemmas.{hears_left, taken_too}
use Rattle.kn_facing.proofs.FaceLemmas.{Known}
use Rattle.kn_facing.proofs.ReadStep.{frames_keep_faces}
use Rattle.kn_facing.proofs.RoomLemmas.{one_open}

-- ---- bytes

pub writes_behind : WrittenIsRead → WritesBehind
writes_behind read w t fs whole limits written = record {
  whole = subst IsBetweenFrames (sym state) back.state;
  coming = ap (λ (l : List ℕ). frames_in w.to.cutter l) longer ∙ (frames-append w.to.cutter (wire w) (spellings fs) ∙ ap (λ (gs : List Frame). coming w ++ gs) back.frames);
}
  where
    back : ReadsBack fs (after_bytes w.to.cutter (wire w))
    back = read fs (after_bytes w.to.cutter (wire w)) limits whole

    longer : w.pipe ++ t.out.bytes ≡ wire w ++ spellings fs
    longer = ap (λ (l : List ℕ). w.pipe ++ l) written ∙ sym (append_assoc w.pipe w.from.state.out.bytes (spellings fs))

    state : after_bytes w.to.cutter (w.pipe ++ t.out.bytes) ≡ after_bytes (after_bytes w.to.cutter (wire w)) (spellings fs)
    state = ap (λ (l : List ℕ). after_bytes w.to.cutter l) longer ∙ bytes-append w.to.cutter (wire w) (spellings fs)

took_out : (count : ℕ) (s : State) → (after_took count s).out.bytes ≡ drop count s.out.bytes
unfolding after_took
took_out count s = refl

same_wire : (count : ℕ) (w : Way) → wire (entered count w) ≡ wire w
same_wire count w =
    ap (λ (l : List ℕ). (w.pipe ++ take count w.from.state.out.bytes) ++ l) (took_out count w.from.state)
    ∙ (append_assoc w.pipe (take count w.from.state.out.bytes) (drop count w.from.state.out.bytes) ∙ ap (λ (l : List ℕ). w.pipe ++ l) (take-append-drop count w.from.state.out.bytes))

pub enters_alike : EntersAlike
enters_alike w count = record {
  whole = λ h. subst (λ (l : List ℕ). IsBetweenFrames (after_bytes w.to.cutter l)) (sym (same_wire count w)) h;
  coming = ap (λ (l : List ℕ). frames_in w.to.cutter l) (same_wire count w);
}

-- ---- answers

chosen : (z : List Frame) (b : Bool) (x y : List Frame) → (b ≡ true → x ≡ z) → (b ≡ false → y ≡ z) → (if b then x else y) ≡ z
chosen z true x y p q = p refl
chosen z false x y p q = q refl

either_none : (b : Bool) (x y : List Frame) → x ≡ [] → y ≡ [] → (if b then x else y) ≡ []
either_none true x y p q = p
either_none false x y p q = q

few : (count : ℕ) → count < stream_limit → nat_le stream_limit count ≡ false
few count low = by_test (nat_le stream_limit count) refl
  where
    by_test : (b : Bool) → nat_le stream_limit count ≡ b → b ≡ false
    by_test false e = refl
    by_test true e = let high : stream_limit ≤ count = leb-true stream_limit count e in absurd (omega (arith, low, high))

request_none : (s : State) (n : ℕ) (fields : List Field) → open_count s.streams < stream_limit → is_malformed_request fields ≡ false → request_answer n fields s ≡ []
request_none s n fields low formed = rw (few (open_count s.streams) low, formed) refl

response_none : (s : State) (n : ℕ) (ends : Bool) (fields : List Field) (o : Option Stream) → stream_at s.streams n ≡ o → (on_open s.streams n (λ st. not st.answered) ≡ true → IsResponse fields) → response_answer_at n ends fields o s ≡ []
response_none s n ends fields None at fits = refl
response_none s n ends fields (Some st) at fits = by_open (is_open st) refl
  where
    by_head : (b : Bool) → st.answered ≡ b → is_open st ≡ true → response_answer n ends fields st s ≡ []
    by_head true e up = rw e refl
    by_head false e up =
        let waiting : on_open s.streams n (λ st. not st.answered) ≡ true = ap (λ (o : Option Stream). passes (λ st. not st.answered) o) at ∙ (ap (λ (c : Bool). c && not st.answered) up ∙ ap not e) in
        let r = fits waiting in
        rw (e, r.last, r.formed) refl

    by_open : (b : Bool) → is_open st ≡ b → (if b then response_answer n ends fields st s else []) ≡ []
    by_open true up = by_head st.answered refl up
    by_open false up = refl

head_none : (s : State) (n : ℕ) (ends : Bool) (fields : List Field) → open_count s.streams < stream_limit → Fits s n fields → head_answer n ends fields s ≡ []
head_none s n ends fields low fits = by_role (is_client s.role) refl
  where
    by_role : (c : Bool) → is_client s.role ≡ c → (if c then response_answer_at n ends fields (stream_at s.streams n) s else (if nat_lt s.opened n then request_answer n fields s else [])) ≡ []
    by_role true client = response_none s n ends fields (stream_at s.streams n) refl (fits.response client)
    by_role false server = either_none (nat_lt s.opened n) (request_answer n fields s) [] (request_none s n fields low (fits.request server)) refl

decoded_none : (s : State) (f : Frame) (r : Result Progress HpackFault) → ((p : Progress) → r ≡ Ok p → Fits s f.stream p.fields) → open_count s.streams < stream_limit → decoded_answer f.stream (block_ends s.block f) s r ≡ []
decoded_none s f (Ok p) fits low = head_none s f.stream (block_ends s.block f) p.fields low (fits p refl)
decoded_none s f (Err e) fits low = refl

abbrev ack : Frame
ack = frame 4 1 0 []

not_over : (x y : ℕ) → y ≤ x → nat_lt x y ≡ false
not_over x y le = by_test (nat_lt x y) refl
  where
    by_test : (b : Bool) → nat_lt x y ≡ b → b ≡ false
    by_test false e = refl
    by_test true e = let below : x < y = ltb-true x y e in absurd (omega (arith, below, le))

short : length (spellings (ack ∷ [])) ≡ 9
unfolding spellings head
short = refl

-- it is not one too many
acked : (s : State) → reply_bytes s.out + 17 ≤ reply_limit → replied s (ack ∷ []) ≡ ack ∷ []
acked s room = rw (not_over reply_limit (reply_bytes s.out + length (spellings (ack ∷ []))) (let nine = short in omega (arith, nine, room))) refl

first_kind : (a b : Bool) → (a || b) ≡ true → b ≡ false → a ≡ true
first_kind true b e g = refl
first_kind false b e g = absurd (contrary b e g)
  where
    contrary : (b : Bool) → b ≡ true → b ≡ false → ⊥
    contrary b e g = cc

kept_is : (s : State) (f : Frame) → IsTaken s f → open_count s.streams < stream_limit → ((f.kind == 4) ≡ true → has f 1 ≡ false → reply_bytes s.out + 17 ≤ reply_limit) → kept_answer s f ≡ acknowledged f
unfolding kept_answer
kept_is s f h low room =
    chosen (acknowledged f) ((f.kind == 1) || (f.kind == 9)) _ _
    (λ e. let one : (f.kind == 1) ≡ true = first_kind (f.kind == 1) (f.kind == 9) e h.plain.whole in
    either_none (ends_block f) (decoded_answer f.stream (block_ends s.block f) s (read_block s.decoder (block_with s f))) [] (decoded_none s f (read_block s.decoder (block_with s f)) (λ p r. h.head one p r) low) refl
    ∙ sym (none_acked (ap (λ (k : ℕ). k == 4) (eqb-true f.kind 1 one))))
    (λ _. chosen (acknowledged f) (f.kind == 4) _ _ (λ e. by_flag e (has f 1) refl)
    (λ e. silent ∙ sym (none_acked e)))
  where
    silent : (if f.kind == 6 then (if has f 1 then [] else replied s (frame 6 1 0 f.payload ∷ [])) else []) ≡ []
    silent = ap (λ (b : Bool). if b then (if has f 1 then [] else replied s (frame 6 1 0 f.payload ∷ [])) else []) h.plain.silent

    none_acked : (f.kind == 4) ≡ false → acknowledged f ≡ []
    none_acked e = ap (λ (b : Bool). if b && not (has f 1) then ack ∷ [] else []) e

    by_flag : (f.kind == 4) ≡ true → (b : Bool) → has f 1 ≡ b → (if b then [] else replied s (ack ∷ [])) ≡ acknowledged f
    by_flag e true g = sym (ap (λ (b : Bool). if b && not (has f 1) then ack ∷ [] else []) e ∙ ap (λ (b : Bool). if not b then ack ∷ [] else []) g)
    by_flag e false g = acked s (room e g) ∙ sym (ap (λ (b : Bool). if b && not (has f 1) then ack ∷ [] else []) e ∙ ap (λ (b : Bool). if not b then ack ∷ [] else []) g)

asks_it : (f : Frame) → (f.kind == 4) ≡ true → has f 1 ≡ false → asks f ≡ true
asks_it f e g = by_first (f.kind == 1) (f.kind == 9) (f.kind == 4) (f.kind == 6) (has f 1) e g
  where
    by_first : (a b c d h : Bool) → c ≡ true → h ≡ false → (a || b || ((c || d) && not h)) ≡ true
    by_first true b c d h e g = refl
    by_first false true c d h e g = refl
    by_first false false true d false e g = refl
    by_first false false true d true e g = absurd cc
    by_first false false false d h e g = absurd cc

asked_room : (x : ℕ) (b : Bool) (rest : ℕ) → x + 17 * ((if b then 1 else 0) + rest) ≤ 32768 → b ≡ true → x + 17 ≤ reply_limit
asked_room x true rest h e = omega (arith, h)
asked_room x false rest h e = absurd cc

answer_is : Known → (a b : State) (f : Frame) (ab ba : List Frame) → Faces a b (f ∷ ab) ba → frame_answer b f ≡ acknowledged f
unfolding frame_answer AreTaken asking
answer_is k a b f ab ba h =
    ap (λ (o : Option ℕ). if is_some o then [] else judged_answer b f (verdict b f)) h.end_b.goes
    ∙ (ap (λ (o : Option ℕ). judged_answer b f o) taken.kept
    ∙ kept_is b f taken (one_open b.opened b.streams h.end_b.holds.rising h.end_b.one) (λ e g. asked_room (reply_bytes b.out) (asks f) (asking ab) h.to_b.replies (asks_it f e g)))
  where
    taken : IsTaken b f
    taken = taken_too k.heard (emptied b) b f h.end_b.holds (hears_left b b (k.steps b h.end_b.holds h.end_b.facts.known).none) h.to_b.taken.0

pub reading_keeps_faces : Known → ReadingKeepsFaces
unfolding after_frames frames_answer all_acknowledged
reading_keeps_faces k a b [] ab ba h = record { faces = subst (λ (fs : List Frame). Faces a b ab fs) (sym (append-nil ba)) h; answers = refl }
reading_keeps_faces k a b (f ∷ fs) ab ba h =
    let rest = reading_keeps_faces k a (after_frame b f) fs ab (ba ++ acknowledged f) (frames_keep_faces k a b f (fs ++ ab) ba h) in
    record {
      faces = subst (λ (gs : List Frame). Faces a (after_frames (after_frame b f) fs) ab gs) (append_assoc ba (acknowledged f) (all_acknowledged fs)) rest.faces;
      answers = ap (λ (gs : List Frame). gs ++ frames_answer (after_frame b f) fs) (answer_is k a b f (fs ++ ab) ba h) ∙ ap (λ (gs : List Frame). acknowledged f ++ gs) rest.answers;
    }

-- ---- one stream

one_stream : (s : State) → IsEnd s → HasOneStream s
one_stream s e = record { goes = e.goes; streams = none; texts = λ n other. ap text_in (none n other) }
  where
    none : (n : ℕ) → n ≢ 1 → stream_at s.streams n ≡ None
    none n other = by_test (nat_lt 1 n) refl
      where
        by_test : (b : Bool) → nat_lt 1 n ≡ b → stream_at s.streams n ≡ None
        by_test true t =
            let above : 1 < n = ltb-true 1 n t in let few = e.one in
            none_above 0 s.opened n s.streams (rises 0 s.opened s.streams e.holds.rising) (omega (arith, above, few))
        by_test false t =
            let low : n ≤ 1 = ltb-false 1 n t in
            none_below 0 n s.streams (omega (arith, low, other)) (climbs 0 s.opened s.streams e.holds.rising)

pub faces_have_one_stream : FacesHaveOneStream
faces_have_one_stream a b ab ba h = (one_stream a h.end_a, one_stream b h.end_b)
