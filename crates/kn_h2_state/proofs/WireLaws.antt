-- What is on its way from one end to the other.
use Rattle.std.proofs.Common.{◌≡◌, ℕ, zero, suc, ◌+◌, ◌-◌, ◌<◌, ◌≤◌, ◌^◌, Bool, true, false, ◌&&◌, nat_le, nat_lt, cond, eqb, List, [], ◌∷◌, ◌++◌, length, take, drop, Option, Some, None, pos, int_le, is_none, refl, ap, sym, ◌∙◌, append_assoc, append-nil, arith, if◌then◌else◌}
use Rattle.std.specs.Bool.{◌==◌}
use Rattle.std.specs.Int.{to_be_bytes, w32}
use Rattle.std.specs.List.{AllByRecursion}
use Rattle.std.proofs.lemmas.Bool.{eqb-true, and_parts, leb-true, leb-false}
use Rattle.std.proofs.lemmas.List.{length-take, length-drop, take-append-drop, take_all}
use Rattle.kn_frames.specs.declared.frame.Frame.{Frame}
use Rattle.kn_frames.specs.Frames.{spelled, IsWithinLimits}
use Rattle.kn_frames.specs.Readers.{Reading, in_frames, after_bytes, frames_in, count_up}
use Rattle.kn_hpack.specs.Fields.{Field}
use Rattle.kn_hpack.specs.Encoding.{block_of}
use Rattle.kn_h2_state.specs.declared.moves.Move.{Move}
use Rattle.kn_h2_state.specs.declared.moves.Move.TheVariants.{GrantAll, Grant, Send, End, Stop}
use Rattle.kn_h2_state.specs.declared.stream.Stream.{Stream}
use Rattle.kn_h2_state.specs.declared.state.State.{State}
use Rattle.kn_h2_state.specs.Limits.{frame_limit, full_out}
use Rattle.kn_h2_state.specs.Streams.{stream_at, passes, is_open}
use Rattle.kn_h2_state.specs.Payloads.{content}
use Rattle.kn_h2_state.specs.Rules.{is_client}
use Rattle.kn_h2_state.specs.Moves.{more_headers, headers_frames, can_send, is_due, may, made, after_move, target, end_frames}
use Rattle.kn_h2_state.specs.Calls.{queue_in, queue_of}
use Rattle.kn_h2_state.specs.Holding.{Rising}
use Rattle.kn_h2_state.specs.Wire.{frame_text, texts_in, grants_in, data_length, data_lengths_in, any_data_length, all_data_in, ends_in, WireSplits, AllDataSplits, NoneOfEachIsNone, frame, spellings, ReadsBack, WrittenIsRead, more_list, head_list, payloads, HeadIsWritten, end_list, made_frames, move_frames, moved_text, MovesAreWritten}
use Rattle.kn_h2_state.proofs.PieceLaws.{frames-append, bytes-append}

-- ---- sums over frames

texts-append : (n : ℕ) (fs gs : List Frame) → texts_in n (fs ++ gs) ≡ texts_in n fs ++ texts_in n gs
unfolding texts_in
texts-append n [] gs = refl
texts-append n (f ∷ fs) gs = ap (λ xs. frame_text n f ++ xs) (texts-append n fs gs) ∙ sym (append_assoc (frame_text n f) (texts_in n fs) (texts_in n gs))

grants-append : (n : ℕ) (fs gs : List Frame) → grants_in n (fs ++ gs) ≡ grants_in n fs + grants_in n gs
unfolding grants_in
grants-append n [] gs = omega arith
grants-append n (f ∷ fs) gs = let e : grants_in n (fs ++ gs) ≡ grants_in n fs + grants_in n gs = grants-append n fs gs in omega arith

lengths-append : (n : ℕ) (fs gs : List Frame) → data_lengths_in n (fs ++ gs) ≡ data_lengths_in n fs + data_lengths_in n gs
unfolding data_lengths_in
lengths-append n [] gs = omega arith
lengths-append n (f ∷ fs) gs = let e : data_lengths_in n (fs ++ gs) ≡ data_lengths_in n fs + data_lengths_in n gs = lengths-append n fs gs in omega arith

ends-append : (n : ℕ) (fs gs : List Frame) → ends_in n (fs ++ gs) ≡ ends_in n fs + ends_in n gs
unfolding ends_in
ends-append n [] gs = omega arith
ends-append n (f ∷ fs) gs = let e : ends_in n (fs ++ gs) ≡ ends_in n fs + ends_in n gs = ends-append n fs gs in omega arith

pub wire_splits : (n : ℕ) (r : Reading) (xs ys : List ℕ) → WireSplits n r xs ys
wire_splits n r xs ys =
    let e : frames_in r (xs ++ ys) ≡ frames_in r xs ++ frames_in (after_bytes r xs) ys = frames-append r xs ys in
    record {
      text = ap (texts_in n) e ∙ texts-append n (frames_in r xs) (frames_in (after_bytes r xs) ys);
      grants = ap (grants_in n) e ∙ grants-append n (frames_in r xs) (frames_in (after_bytes r xs) ys);
      taken = ap (data_lengths_in n) e ∙ lengths-append n (frames_in r xs) (frames_in (after_bytes r xs) ys);
      ends = ap (ends_in n) e ∙ ends-append n (frames_in r xs) (frames_in (after_bytes r xs) ys);
    }

all_data-append : (fs gs : List Frame) → all_data_in (fs ++ gs) ≡ all_data_in fs + all_data_in gs
unfolding all_data_in
all_data-append [] gs = omega arith
all_data-append (f ∷ fs) gs = let e : all_data_in (fs ++ gs) ≡ all_data_in fs + all_data_in gs = all_data-append fs gs in omega arith

pub all_data_splits : AllDataSplits
all_data_splits r xs ys = ap (λ (fs : List Frame). all_data_in fs) (frames-append r xs ys) ∙ all_data-append (frames_in r xs) (frames_in (after_bytes r xs) ys)

with_itself : (n : ℕ) → eqb n n ≡ true
with_itself n = grind arith

-- what a frame brings to its own stream is all that it brings
own_data : (f : Frame) → data_length f.stream f ≡ any_data_length f
unfolding data_length any_data_length
own_data f = by_test (f.kind == 0)
  where
    by_test : (b : Bool) → (if b && (f.stream == f.stream) then length f.payload else 0) ≡ (if b then length f.payload else 0)
    by_test true = ap (λ (c : Bool). if c then length f.payload else 0) (with_itself f.stream)
    by_test false = refl

pub none_of_each_is_none : NoneOfEachIsNone
unfolding data_lengths_in all_data_in
none_of_each_is_none [] each = refl
none_of_each_is_none (f ∷ fs) each =
    let first : data_length f.stream f + data_lengths_in f.stream fs ≡ 0 = each f.stream in
    let own : data_length f.stream f ≡ any_data_length f = own_data f in
    let rest : all_data_in fs ≡ 0 = none_of_each_is_none fs (λ n. later n (each n)) in
    omega arith
  where
    later : (n : ℕ) → data_length n f + data_lengths_in n fs ≡ 0 → data_lengths_in n fs ≡ 0
    later n sum = omega arith

-- ---- frames are read back

-- one frame is, as the crate of frames says
abbrev pub ReadsOne : Type 0
ReadsOne = (kind flags stream offset : ℕ) (payload : List ℕ) → stream < 2 ^ 31 → length payload ≤ 16384
    → frames_in (in_frames [] offset) (spelled kind flags stream payload) ≡ (record { kind = kind; flags = flags; stream = stream; payload = payload }) ∷ []

abbrev pub EndsOne : Type 0
EndsOne = (kind flags stream offset : ℕ) (payload : List ℕ) → stream < 2 ^ 31 → length payload ≤ 16384
    → after_bytes (in_frames [] offset) (spelled kind flags stream payload) ≡ in_frames [] (count_up offset (9 + length payload))

pub written_is_read : ReadsOne → EndsOne → WrittenIsRead
unfolding spellings
written_is_read one end [] r all (offset, e) = record { frames = refl; state = (offset, e) }
written_is_read one end (f ∷ fs) r all (offset, e) =
    let text : List ℕ = spelled f.kind f.flags f.stream f.payload in
    let first : frames_in r text ≡ f ∷ [] = ap (λ x. frames_in x text) e ∙ one f.kind f.flags f.stream offset f.payload all.0.stream all.0.payload in
    let ended : after_bytes r text ≡ in_frames [] (count_up offset (9 + length f.payload)) =
    ap (λ x. after_bytes x text) e ∙ end f.kind f.flags f.stream offset f.payload all.0.stream all.0.payload in
    let rest : ReadsBack fs (after_bytes r text) = written_is_read one end fs (after_bytes r text) all.1 (count_up offset (9 + length f.payload), ended) in
    record {
      frames = frames-append r text (spellings fs) ∙ (ap (λ xs. xs ++ frames_in (after_bytes r text) (spellings fs)) first ∙ ap (λ xs. f ∷ xs) rest.frames);
      state = (rest.state.0, bytes-append r text (spellings fs) ∙ rest.state.1);
    }

-- ---- header blocks

spellings-one : (f : Frame) → spellings (f ∷ []) ≡ spelled f.kind f.flags f.stream f.payload
unfolding spellings
spellings-one f = append-nil (spelled f.kind f.flags f.stream f.payload)

more_written : (fuel n : ℕ) (block : List ℕ) → more_headers fuel n block ≡ spellings (more_list fuel n block)
unfolding more_headers more_list spellings
more_written zero n block = refl
more_written (suc fuel) n block = by_test (nat_le (length block) frame_limit) (more_written fuel n (drop frame_limit block))
  where
    by_test : (b : Bool) → more_headers fuel n (drop frame_limit block) ≡ spellings (more_list fuel n (drop frame_limit block))
        → (if b then spelled 9 4 n block else spelled 9 0 n (take frame_limit block) ++ more_headers fuel n (drop frame_limit block))
        ≡ spellings (if b then frame 9 4 n block ∷ [] else frame 9 0 n (take frame_limit block) ∷ more_list fuel n (drop frame_limit block))
    by_test true rest = sym (append-nil (spelled 9 4 n block))
    by_test false rest = ap (λ xs. spelled 9 0 n (take frame_limit block) ++ xs) rest

head_written : (n flags : ℕ) (block : List ℕ) → headers_frames n flags block ≡ spellings (head_list n flags block)
unfolding headers_frames head_list spellings
head_written n flags block = by_test (nat_le (length block) frame_limit)
  where
    by_test : (b : Bool) → (if b then spelled 1 (flags + 4) n block else spelled 1 flags n (take frame_limit block) ++ more_headers (length block) n (drop frame_limit block))
        ≡ spellings (if b then frame 1 (flags + 4) n block ∷ [] else frame 1 flags n (take frame_limit block) ∷ more_list (length block) n (drop frame_limit block))
    by_test true = sym (append-nil (spelled 1 (flags + 4) n block))
    by_test false = ap (λ xs. spelled 1 flags n (take frame_limit block) ++ xs) (more_written (length block) n (drop frame_limit block))

nothing : (xs : List ℕ) → length xs ≤ 0 → xs ≡ []
nothing [] h = refl
nothing (x ∷ xs) h = absurd (omega arith)

more_whole : (fuel n : ℕ) (block : List ℕ) → length block ≤ fuel → payloads (more_list fuel n block) ≡ block
unfolding more_list payloads
more_whole zero n block h = sym (nothing block h)
more_whole (suc fuel) n block h = by_test (nat_le (length block) frame_limit) refl (more_whole fuel n (drop frame_limit block))
  where
    by_test : (b : Bool) → nat_le (length block) frame_limit ≡ b
        → (length (drop frame_limit block) ≤ fuel → payloads (more_list fuel n (drop frame_limit block)) ≡ drop frame_limit block)
        → payloads (if b then frame 9 4 n block ∷ [] else frame 9 0 n (take frame_limit block) ∷ more_list fuel n (drop frame_limit block)) ≡ block
    by_test true t rest = append-nil block
    by_test false t rest =
        let long : frame_limit < length block = leb-false (length block) frame_limit t in
        let short : length (drop frame_limit block) ≤ fuel = omega (arith, length-drop frame_limit block) in
        ap (λ xs. take frame_limit block ++ xs) (rest short) ∙ take-append-drop frame_limit block

head_whole : (n flags : ℕ) (block : List ℕ) → payloads (head_list n flags block) ≡ block
unfolding head_list payloads
head_whole n flags block = by_test (nat_le (length block) frame_limit)
  where
    by_test : (b : Bool) → payloads (if b then frame 1 (flags + 4) n block ∷ [] else frame 1 flags n (take frame_limit block) ∷ more_list (length block) n (drop frame_limit block)) ≡ block
    by_test true = append-nil block
    by_test false =
        let short : length (drop frame_limit block) ≤ length block = omega (arith, length-drop frame_limit block) in
        ap (λ xs. take frame_limit block ++ xs) (more_whole (length block) n (drop frame_limit block) short) ∙ take-append-drop frame_limit block

more_limits : (fuel n : ℕ) (block : List ℕ) → n < 2 ^ 31 → AllByRecursion IsWithinLimits (more_list fuel n block)
unfolding more_list
more_limits zero n block low = tt
more_limits (suc fuel) n block low = by_test (nat_le (length block) frame_limit) refl (more_limits fuel n (drop frame_limit block) low)
  where
    by_test : (b : Bool) → nat_le (length block) frame_limit ≡ b → AllByRecursion IsWithinLimits (more_list fuel n (drop frame_limit block))
        → AllByRecursion IsWithinLimits (if b then frame 9 4 n block ∷ [] else frame 9 0 n (take frame_limit block) ∷ more_list fuel n (drop frame_limit block))
    by_test true t rest = (record { payload = leb-true (length block) frame_limit t; stream = omega arith }, tt)
    by_test false t rest =
        (record { payload = omega (arith, length-take {A = ℕ}); stream = omega arith }, rest)

head_limits : (n flags : ℕ) (block : List ℕ) → n < 2 ^ 31 → AllByRecursion IsWithinLimits (head_list n flags block)
unfolding head_list
head_limits n flags block low = by_test (nat_le (length block) frame_limit) refl
  where
    by_test : (b : Bool) → nat_le (length block) frame_limit ≡ b
        → AllByRecursion IsWithinLimits (if b then frame 1 (flags + 4) n block ∷ [] else frame 1 flags n (take frame_limit block) ∷ more_list (length block) n (drop frame_limit block))
    by_test true t = (record { payload = leb-true (length block) frame_limit t; stream = omega arith }, tt)
    by_test false t =
        (record { payload = omega (arith, length-take {A = ℕ}); stream = omega arith }, more_limits (length block) n (drop frame_limit block) low)

pub head_is_written : (n flags : ℕ) (block : List ℕ) → HeadIsWritten n flags block
head_is_written n flags block = record { written = head_written n flags block; whole = head_whole n flags block; limits = head_limits n flags block }

-- ---- moves

-- no DATA is among the frames of a header block
more_no_text : (m fuel n : ℕ) (block : List ℕ) → texts_in m (more_list fuel n block) ≡ []
unfolding more_list texts_in frame_text
more_no_text m zero n block = refl
more_no_text m (suc fuel) n block = by_test (nat_le (length block) frame_limit) (more_no_text m fuel n (drop frame_limit block))
  where
    by_test : (b : Bool) → texts_in m (more_list fuel n (drop frame_limit block)) ≡ []
        → texts_in m (if b then frame 9 4 n block ∷ [] else frame 9 0 n (take frame_limit block) ∷ more_list fuel n (drop frame_limit block)) ≡ []
    by_test true rest = refl
    by_test false rest = rest

head_no_text : (m n flags : ℕ) (block : List ℕ) → texts_in m (head_list n flags block) ≡ []
unfolding head_list texts_in frame_text
head_no_text m n flags block = by_test (nat_le (length block) frame_limit)
  where
    by_test : (b : Bool) → texts_in m (if b then frame 1 (flags + 4) n block ∷ [] else frame 1 flags n (take frame_limit block) ∷ more_list (length block) n (drop frame_limit block)) ≡ []
    by_test true = refl
    by_test false = more_no_text m (length block) n (drop frame_limit block)

-- the number of a stream is no higher than the highest that was opened
number_le : (low high n : ℕ) (ss : List Stream) (st : Stream) → Rising low high ss → stream_at ss n ≡ Some st → n ≤ high
unfolding stream_at Rising
number_le low high n [] st r e = absurd cc
number_le low high n (x ∷ ss) st r e = by_test (eqb x.number n) refl (number_le x.number high n ss st r.2) e
  where
    by_test : (b : Bool) → eqb x.number n ≡ b → (stream_at ss n ≡ Some st → n ≤ high) → cond b (Some x) (stream_at ss n) ≡ Some st → n ≤ high
    by_test true t rest h = omega (arith, eqb-true x.number n t, below x.number high ss r.2)
      where
        below : (low' high' : ℕ) (ss' : List Stream) → Rising low' high' ss' → low' ≤ high'
        below low' high' [] r' = r'
        below low' high' (y ∷ ss') r' = let e' : y.number ≤ high' = below y.number high' ss' r'.2 in omega (arith, r'.0)
    by_test false t rest h = rest h

written_by : (s : State) (m : Move) (o : Option Stream) → (made s m o).out.bytes ≡ s.out.bytes ++ spellings (made_frames s m o)
unfolding spellings
written_by s GrantAll o = ap (λ xs. s.out.bytes ++ xs) (sym (append-nil (spelled 8 0 0 (to_be_bytes w32 s.owed))))
written_by s (Grant n) None = sym (append-nil s.out.bytes)
written_by s (Grant n) (Some st) = ap (λ xs. s.out.bytes ++ xs) (sym (append-nil (spelled 8 0 n (to_be_bytes w32 st.owed))))
written_by s (Send n count) None = sym (append-nil s.out.bytes)
written_by s (Send n count) (Some st) = ap (λ xs. s.out.bytes ++ xs) (sym (append-nil (spelled 0 0 n (take count st.queue))))
written_by s (End n) None = sym (append-nil s.out.bytes)
written_by s (End n) (Some st) = ap (λ xs. s.out.bytes ++ xs) (by_finish st.finish)
  where
    by_role : (b : Bool) (block : List ℕ) → (if b then spelled 0 1 n [] else headers_frames n 1 block) ≡ spellings (if b then frame 0 1 n [] ∷ [] else head_list n 1 block)
    by_role true block = sym (append-nil (spelled 0 1 n []))
    by_role false block = head_written n 1 block

    by_finish : (finish : Option (List Field)) → end_frames s n finish ≡ spellings (end_list s n finish)
    by_finish None = refl
    by_finish (Some trailers) = by_role (is_client s.role) (block_of s.encoder trailers)
written_by s (Stop n) None = sym (append-nil s.out.bytes)
written_by s (Stop n) (Some st) = ap (λ xs. s.out.bytes ++ xs) (sym (append-nil (spelled 3 0 n (to_be_bytes w32 0))))

four : (x : ℕ) → length (to_be_bytes w32 x) ≡ 4
four x = refl

limits_by : (s : State) (m : Move) (o : Option Stream) → ((st : Stream) → o ≡ Some st → target m < 2 ^ 31) → ((n count : ℕ) → m ≡ Send n count → count ≤ 16384)
    → AllByRecursion IsWithinLimits (made_frames s m o)
limits_by s GrantAll o low small = (record { payload = omega (arith, four s.owed); stream = omega arith }, tt)
limits_by s (Grant n) None low small = tt
limits_by s (Grant n) (Some st) low small = let l : n < 2 ^ 31 = low st refl in (record { payload = omega (arith, four st.owed); stream = omega arith }, tt)
limits_by s (Send n count) None low small = tt
limits_by s (Send n count) (Some st) low small =
    let l : n < 2 ^ 31 = low st refl in
    let k : count ≤ 16384 = small n count refl in
    (record { payload = omega (arith, length-take count st.queue); stream = omega arith }, tt)
limits_by s (End n) None low small = tt
limits_by s (End n) (Some st) low small = by_finish st.finish
  where
    l : n < 2 ^ 31
    l = low st refl

    by_role : (b : Bool) (block : List ℕ) → AllByRecursion IsWithinLimits (if b then frame 0 1 n [] ∷ [] else head_list n 1 block)
    by_role true block = (record { payload = omega arith; stream = omega (arith, l) }, tt)
    by_role false block = head_limits n 1 block l

    by_finish : (finish : Option (List Field)) → AllByRecursion IsWithinLimits (end_list s n finish)
    by_finish None = tt
    by_finish (Some trailers) = by_role (is_client s.role) (block_of s.encoder trailers)
limits_by s (Stop n) None low small = tt
limits_by s (Stop n) (Some st) low small = let l : n < 2 ^ 31 = low st refl in (record { payload = omega (arith, four 0); stream = omega arith }, tt)

both_nil : (b : Bool) (xs : List ℕ) → (if b then xs else xs) ++ [] ≡ xs
both_nil true xs = append-nil xs
both_nil false xs = append-nil xs

text_by : (s : State) (m : Move) (o : Option Stream) (n : ℕ) → stream_at s.streams (target m) ≡ o → is_due s m ≡ true → texts_in n (made_frames s m o) ≡ moved_text n s m
unfolding texts_in frame_text content
text_by s GrantAll o n e due = refl
text_by s (Grant k) None n e due = refl
text_by s (Grant k) (Some st) n e due = refl
text_by s (Send k count) None n e due = absurd (nobody (ap (λ o. passes (can_send count s.send) o) (sym e) ∙ due))
  where
    nobody : false ≡ true → ⊥
    nobody h = absurd cc
text_by s (Send k count) (Some st) n e due = by_test (k == n) refl
  where
    by_test : (b : Bool) → (k == n) ≡ b
        → (if b then take (length (take count st.queue) - 0 - 0) (take count st.queue) else []) ++ [] ≡ (if b then take count (queue_of s n) else [])
    by_test true t =
        let here : queue_of s n ≡ st.queue = ap (λ i. queue_in (stream_at s.streams i)) (sym (eqb-true k n t)) ∙ ap queue_in e in
        append-nil (take (length (take count st.queue) - 0 - 0) (take count st.queue))
        ∙ (take_all (length (take count st.queue) - 0 - 0) (take count st.queue) (omega arith) ∙ ap (λ q. take count q) (sym here))
    by_test false t = refl
text_by s (End k) None n e due = refl
text_by s (End k) (Some st) n e due = by_finish st.finish
  where
    by_role : (b : Bool) (block : List ℕ) → texts_in n (if b then frame 0 1 k [] ∷ [] else head_list k 1 block) ≡ []
    by_role true block = both_nil (k == n) []
    by_role false block = head_no_text n k 1 block

    by_finish : (finish : Option (List Field)) → texts_in n (end_list s k finish) ≡ []
    by_finish None = refl
    by_finish (Some trailers) = by_role (is_client s.role) (block_of s.encoder trailers)
text_by s (Stop k) None n e due = refl
text_by s (Stop k) (Some st) n e due = refl

due_of : (s : State) (m : Move) → may s m ≡ true → is_due s m ≡ true
unfolding may
due_of s m ok =
    let outer = and_parts (is_none s.failed) (nat_lt (length s.out.bytes) full_out && is_due s m) ok in
    (and_parts (nat_lt (length s.out.bytes) full_out) (is_due s m) outer.1).1

send_small : (s : State) (n count : ℕ) → is_due s (Send n count) ≡ true → count ≤ 16384
send_small s n count due = by_stream (stream_at s.streams n) due
  where
    by_stream : (o : Option Stream) → passes (can_send count s.send) o ≡ true → count ≤ 16384
    by_stream None h = absurd cc
    by_stream (Some st) h =
        let f = and_parts (is_open st) (can_send count s.send st) h in
        let e = and_parts (st.own_open && nat_lt 0 count && nat_le count frame_limit && nat_le count (length st.queue) && int_le (pos count) s.send) (int_le (pos count) st.send) f.1 in
        let d = and_parts (st.own_open && nat_lt 0 count && nat_le count frame_limit && nat_le count (length st.queue)) (int_le (pos count) s.send) e.0 in
        let c = and_parts (st.own_open && nat_lt 0 count && nat_le count frame_limit) (nat_le count (length st.queue)) d.0 in
        let b = and_parts (st.own_open && nat_lt 0 count) (nat_le count frame_limit) c.0 in
        leb-true count frame_limit b.1

pub moves_are_written : MovesAreWritten
unfolding after_move move_frames
moves_are_written s m h ok =
    let due : is_due s m ≡ true = due_of s m ok in
    record {
      written = written_by s m (stream_at s.streams (target m));
      limits = limits_by s m (stream_at s.streams (target m))
          (λ st e. let l : target m ≤ s.opened = number_le 0 s.opened (target m) s.streams st h.rising e in omega (arith, h.numbers))
          (λ n count e. send_small s n count (ap (λ k. is_due s k) (sym e) ∙ due));
      text = λ n. text_by s m (stream_at s.streams (target m)) n refl due;
    }
