-- What each step does to what is pending on a stream.
use Rattle.std.proofs.Common.{◌≡◌, ℕ, zero, suc, cond, eqb, Bool, true, false, List, [], ◌∷◌, ◌++◌, take, drop, Option, Some, None, is_some, refl, sym, ap, ◌∙◌, subst, append_assoc, append-nil, if◌then◌else◌}
use Rattle.std.proofs.lemmas.List.{take-append-drop}
use Rattle.kn_frames.specs.declared.frame.Frame.{Frame}
use Rattle.kn_frames.specs.declared.fault.FrameFault.{FrameFault}
use Rattle.kn_frames.specs.Readers.{Reading, after_bytes, frames_in, fault_in}
use Rattle.kn_h2_state.specs.declared.stream.Stream.{Stream}
use Rattle.kn_h2_state.specs.declared.state.State.{State}
use Rattle.kn_h2_state.specs.Effects.{fail}
use Rattle.kn_h2_state.specs.Feeding.{Connection, after_frame, after_frames, after_fault, after_piece, frame_code}
use Rattle.kn_h2_state.specs.Streams.{stream_at, change, on_open}
use Rattle.kn_h2_state.specs.declared.moves.Move.{Move}
use Rattle.kn_h2_state.specs.Moves.{Makes}
use Rattle.kn_h2_state.specs.Calls.{text_of, text_in, queue_of, queue_in, refusal, refused_where, takes_more, with_taken, with_queued, after_take, after_queue, after_took}
use Rattle.kn_h2_state.specs.Hearing.{ClosedStaysClosed, FramesAreHeard}
use Rattle.kn_h2_state.specs.Holding.{Holds}
use Rattle.kn_h2_state.specs.Wire.{Hears, wire_text, frame_text, texts_in, IsBetweenFrames, spellings, WireSplits}
use Rattle.kn_h2_state.proofs.PieceLaws.{bytes-append}
use Rattle.kn_h2_state.proofs.SeenLemmas.{at_changed, climbs, climbs_change, text_tidied}
use Rattle.kn_h2.proofs.FoundLemmas.{found_open}
use Rattle.kn_h2.specs.Sending.{sent, InOrder}
use Rattle.kn_h2.specs.Written.{FillsAreWritten, FillsBring, moves_list}
use Rattle.kn_facing.specs.Ways.{Way, wire, IsWhole, delivered, entered, with_from}
use Rattle.kn_pending.specs.Pending.{Admits, Between, ClosedStays, Delivers, DeliversHeard, Enters, Handles, KeepsBehind, LeavesFront, Queues, Reads, Writes, WritesNothing, unhandled, unwritten}

abbrev pub Split : Type 0
Split = (n : ℕ) (r : Reading) (xs ys : List ℕ) → WireSplits n r xs ys

-- ---- lists

regroup : (a s q b : List ℕ) → (a ++ s) ++ (q ++ b) ≡ a ++ ((s ++ q) ++ b)
regroup a s q b = append_assoc a s (q ++ b) ∙ ap (λ (l : List ℕ). a ++ l) (sym (append_assoc s q b))

-- something more at the end of the last part
more_last : (u v q b x : List ℕ) → u ++ (v ++ (q ++ (b ++ x))) ≡ (u ++ (v ++ (q ++ b))) ++ x
more_last u v q b x = ap (λ (l : List ℕ). u ++ (v ++ l)) (sym (append_assoc q b x)) ∙ (ap (λ (l : List ℕ). u ++ l) (sym (append_assoc v (q ++ b) x)) ∙ sym (append_assoc u (v ++ (q ++ b)) x))

-- ---- bytes behind those that are on the wire

wire_on : Split → (n : ℕ) (r : Reading) (pipe out extra text : List ℕ) → wire_text n (after_bytes r (pipe ++ out)) extra ≡ text
    → wire_text n r (pipe ++ (out ++ extra)) ≡ wire_text n r (pipe ++ out) ++ text
wire_on split n r pipe out extra text e =
    ap (λ (l : List ℕ). wire_text n r l) (sym (append_assoc pipe out extra)) ∙ ((split n r (pipe ++ out) extra).text ∙ ap (λ (l : List ℕ). wire_text n r (pipe ++ out) ++ l) e)

between_on : (r : Reading) (pipe out extra : List ℕ) → IsBetweenFrames (after_bytes (after_bytes r (pipe ++ out)) extra) → IsBetweenFrames (after_bytes r (pipe ++ (out ++ extra)))
between_on r pipe out extra b = subst IsBetweenFrames (ap (λ (l : List ℕ). after_bytes r l) (append_assoc pipe out extra)) (subst IsBetweenFrames (sym (bytes-append r (pipe ++ out) extra)) b)

-- ---- a piece that comes

none_some : (o : Option ℕ) (code : ℕ) → o ≡ Some code → o ≡ None → ⊥
none_some o code e f = cc

pub piece_on : (c : Connection) (piece : List ℕ) → c.state.failed ≡ None
    → after_piece c piece ≡ record { cutter = after_bytes c.cutter piece; state = after_fault (after_frames c.state (frames_in c.cutter piece)) (fault_in (after_bytes c.cutter piece).phase) }
unfolding after_piece
piece_on c piece e = subst (λ (o : Option ℕ). (if is_some o then c else record { cutter = after_bytes c.cutter piece; state = after_fault (after_frames c.state (frames_in c.cutter piece)) (fault_in (after_bytes c.cutter piece).phase) })
    ≡ record { cutter = after_bytes c.cutter piece; state = after_fault (after_frames c.state (frames_in c.cutter piece)) (fault_in (after_bytes c.cutter piece).phase) }) (sym e) refl

piece_failed : (c : Connection) (piece : List ℕ) (code : ℕ) → c.state.failed ≡ Some code → after_piece c piece ≡ c
unfolding after_piece
piece_failed c piece code e = subst (λ (o : Option ℕ). (if is_some o then c else record { cutter = after_bytes c.cutter piece; state = after_fault (after_frames c.state (frames_in c.cutter piece)) (fault_in (after_bytes c.cutter piece).phase) }) ≡ c) (sym e) refl

fail_fails : (code : ℕ) (s : State) → (fail code s).failed ≡ Some code
unfolding fail
fail_fails code s = refl

fault_none : (s : State) (o : Option FrameFault) → (after_fault s o).failed ≡ None → after_fault s o ≡ s
fault_none s None e = refl
fault_none s (Some fault) e = by_failed s.failed refl
  where
    by_failed : (o : Option ℕ) → s.failed ≡ o → after_fault s (Some fault) ≡ s
    by_failed (Some code) g = subst (λ (o : Option ℕ). (if is_some o then s else fail (frame_code fault.reason) s) ≡ s) (sym g) refl
    by_failed None g =
        let fails : after_fault s (Some fault) ≡ fail (frame_code fault.reason) s =
        subst (λ (o : Option ℕ). (if is_some o then s else fail (frame_code fault.reason) s) ≡ fail (frame_code fault.reason) s) (sym g) refl in
        absurd (none_some (after_fault s (Some fault)).failed (frame_code fault.reason) (ap (λ (t : State). t.failed) fails ∙ fail_fails (frame_code fault.reason) s) e)

pub record GoesOn (c : Connection) (piece : List ℕ) : Type 0 where
  pub before : c.state.failed ≡ None
  pub cutter : (after_piece c piece).cutter ≡ after_bytes c.cutter piece
  pub state : (after_piece c piece).state ≡ after_frames c.state (frames_in c.cutter piece)

pub piece_goes_on : (c : Connection) (piece : List ℕ) → (after_piece c piece).state.failed ≡ None → GoesOn c piece
piece_goes_on c piece e = by_failed c.state.failed refl
  where
    by_failed : (o : Option ℕ) → c.state.failed ≡ o → GoesOn c piece
    by_failed (Some code) g = absurd (none_some (after_piece c piece).state.failed code (ap (λ (d : Connection). d.state.failed) (piece_failed c piece code g) ∙ g) e)
    by_failed None g =
        let whole = piece_on c piece g in
        let state : (after_piece c piece).state ≡ after_fault (after_frames c.state (frames_in c.cutter piece)) (fault_in (after_bytes c.cutter piece).phase) = ap (λ (d : Connection). d.state) whole in
        let on : (after_fault (after_frames c.state (frames_in c.cutter piece)) (fault_in (after_bytes c.cutter piece).phase)).failed ≡ None = ap (λ (t : State). t.failed) (sym state) ∙ e in
        record {
          before = g;
          cutter = ap (λ (d : Connection). d.cutter) whole;
          state = state ∙ fault_none (after_frames c.state (frames_in c.cutter piece)) (fault_in (after_bytes c.cutter piece).phase) on;
        }

hears_all : (n : ℕ) (s : State) (fs : List Frame) → Hears n s fs → text_of (after_frames s fs) n ≡ text_of s n ++ texts_in n fs
unfolding Hears after_frames texts_in
hears_all n s [] h = sym (append-nil (text_of s n))
hears_all n s (f ∷ fs) h = hears_all n (after_frame s f) fs h.1 ∙ (ap (λ (l : List ℕ). l ++ texts_in n fs) h.0 ∙ append_assoc (text_of s n) (frame_text n f) (texts_in n fs))

pub delivers_heard : Split → DeliversHeard
delivers_heard split n kept behind piece rest w cut on heard =
    let goes = piece_goes_on w.to piece on in
    let fs : List Frame = frames_in w.to.cutter piece in
    let more : text_of (after_piece w.to piece).state n ≡ text_of w.to.state n ++ texts_in n fs = ap (λ (s : State). text_of s n) goes.state ∙ hears_all n w.to.state fs heard in
    let out : List ℕ = w.from.state.out.bytes in
    let split_wire : wire_text n w.to.cutter (w.pipe ++ out) ≡ texts_in n fs ++ wire_text n (after_bytes w.to.cutter piece) (rest ++ out) =
    ap (λ (l : List ℕ). wire_text n w.to.cutter (l ++ out)) cut ∙ (ap (λ (l : List ℕ). wire_text n w.to.cutter l) (append_assoc piece rest out) ∙ (split n w.to.cutter piece (rest ++ out)).text) in
    let tail : List ℕ = unwritten n w behind in
    let before : List ℕ = wire_text n (after_bytes w.to.cutter piece) (rest ++ out) in
    ap (λ (l : List ℕ). (kept ++ l) ++ (wire_text n (after_piece w.to piece).cutter (rest ++ out) ++ tail)) more
    ∙ (ap (λ (r : Reading). (kept ++ (text_of w.to.state n ++ texts_in n fs)) ++ (wire_text n r (rest ++ out) ++ tail)) goes.cutter
    ∙ (ap (λ (l : List ℕ). l ++ (before ++ tail)) (sym (append_assoc kept (text_of w.to.state n) (texts_in n fs)))
    ∙ (append_assoc (kept ++ text_of w.to.state n) (texts_in n fs) (before ++ tail)
    ∙ (ap (λ (l : List ℕ). (kept ++ text_of w.to.state n) ++ l) (sym (append_assoc (texts_in n fs) before tail))
    ∙ ap (λ (l : List ℕ). (kept ++ text_of w.to.state n) ++ (l ++ tail)) (sym split_wire)))))

pub delivers : Split → FramesAreHeard → Delivers
delivers split heard n kept behind piece rest w cut holds on opened =
    let goes = piece_goes_on w.to piece on in
    delivers_heard split n kept behind piece rest w cut on (heard n w.to.state (frames_in w.to.cutter piece) holds (ap (λ (s : State). s.failed) (sym goes.state) ∙ on) opened).each

pub closed_stays : ClosedStaysClosed → ClosedStays
closed_stays closed n kept piece rest w holds there on half none =
    ap (λ (l : List ℕ). kept ++ l) (ap (λ (s : State). text_of s n) (piece_goes_on w.to piece on).state ∙ (closed n w.to.state (frames_in w.to.cutter piece) holds there half).text none)

-- ---- what goes on its way

took_out : (count : ℕ) (s : State) → (after_took count s).out.bytes ≡ drop count s.out.bytes
unfolding after_took
took_out count s = refl

took_queue : (n count : ℕ) (s : State) → queue_of (after_took count s) n ≡ queue_of s n
unfolding after_took
took_queue n count s = refl

same_wire : (count : ℕ) (w : Way) → wire (entered count w) ≡ wire w
same_wire count w =
    ap (λ (l : List ℕ). (w.pipe ++ take count w.from.state.out.bytes) ++ l) (took_out count w.from.state)
    ∙ (append_assoc w.pipe (take count w.from.state.out.bytes) (drop count w.from.state.out.bytes) ∙ ap (λ (l : List ℕ). w.pipe ++ l) (take-append-drop count w.from.state.out.bytes))

pub enters : Enters
enters n count kept behind w =
    ap (λ (l : List ℕ). unhandled n kept w ++ (wire_text n w.to.cutter l ++ (queue_of (after_took count w.from.state) n ++ behind))) (same_wire count w)
    ∙ ap (λ (l : List ℕ). unhandled n kept w ++ (wire_text n w.to.cutter (wire w) ++ (l ++ behind))) (took_queue n count w.from.state)

-- ---- text that is taken, and messages

change_none : (ss : List Stream) (n : ℕ) (f : Stream → Stream) → stream_at ss n ≡ None → stream_at (change ss n f) n ≡ None
unfolding stream_at change
change_none [] n f e = refl
change_none (x ∷ ss) n f e = by_test (eqb x.number n) refl (change_none ss n f) e
  where
    by_test : (b : Bool) → eqb x.number n ≡ b → (stream_at ss n ≡ None → stream_at (change ss n f) n ≡ None) → cond b (Some x) (stream_at ss n) ≡ None
        → stream_at (cond b (f x ∷ ss) (x ∷ change ss n f)) n ≡ None
    by_test true t rest h = absurd cc
    by_test false t rest h = ap (λ b. cond b (Some x) (stream_at (change ss n f) n)) t ∙ rest h

-- how a change of a stream shows in one of its parts
changed_part : (part : Option Stream → List ℕ) (g : List ℕ → List ℕ) (ss : List Stream) (n : ℕ) (f : Stream → Stream) → ((st : Stream) → (f st).number ≡ st.number)
    → ((st : Stream) → part (Some (f st)) ≡ g (part (Some st))) → part None ≡ g (part None) → part (stream_at (change ss n f) n) ≡ g (part (stream_at ss n))
changed_part part g ss n f number some none = by_found (stream_at ss n) refl
  where
    by_found : (o : Option Stream) → stream_at ss n ≡ o → part (stream_at (change ss n f) n) ≡ g (part (stream_at ss n))
    by_found None e = ap part (change_none ss n f e) ∙ (none ∙ ap (λ o. g (part o)) (sym e))
    by_found (Some st) e = ap part (at_changed ss n f st number e) ∙ (some st ∙ ap (λ o. g (part o)) (sym e))

abbrev nothing : List ℕ
nothing = []

drop_none : (count : ℕ) → nothing ≡ drop count nothing
drop_none zero = refl
drop_none (suc count) = refl

take_text : (n count : ℕ) (s : State) → Holds s → text_of (after_take n count s) n ≡ drop count (text_of s n)
unfolding after_take
take_text n count s holds =
    text_tidied 0 n (change s.streams n (with_taken count)) (climbs_change 0 s.streams n (with_taken count) (λ st. refl) (climbs 0 s.opened s.streams holds.rising))
    ∙ changed_part text_in (λ l. drop count l) s.streams n (with_taken count) (λ st. refl) (λ st. refl) (drop_none count)

take_cutter : (kept text : List ℕ) (count : ℕ) → (kept ++ take count text) ++ drop count text ≡ kept ++ text
take_cutter kept text count = append_assoc kept (take count text) (drop count text) ∙ ap (λ (l : List ℕ). kept ++ l) (take-append-drop count text)

pub reads : Reads
reads n count kept behind w holds =
    ap (λ (l : List ℕ). ((kept ++ take count (text_of w.to.state n)) ++ l) ++ (wire_text n w.to.cutter (wire w) ++ unwritten n w behind)) (take_text n count w.to.state holds)
    ∙ ap (λ (l : List ℕ). l ++ (wire_text n w.to.cutter (wire w) ++ unwritten n w behind)) (take_cutter kept (text_of w.to.state n) count)

pub handles : Handles
handles n kept behind w = append_assoc kept (text_of w.to.state n) (wire_text n w.to.cutter (wire w) ++ unwritten n w behind)

-- ---- what is queued

takes_stream : (s : State) (n : ℕ) → refusal takes_more s n ≡ None → on_open s.streams n takes_more ≡ true
unfolding refusal
takes_stream s n e = by_both s.failed (on_open s.streams n takes_more) e
  where
    by_both : (o : Option ℕ) (b : Bool) → refused_where o b ≡ None → b ≡ true
    by_both (Some code) b h = absurd cc
    by_both None true h = refl
    by_both None false h = absurd cc

queue_grows : (n : ℕ) (bytes : List ℕ) (s : State) → refusal takes_more s n ≡ None → queue_of (after_queue n bytes s) n ≡ queue_of s n ++ bytes
unfolding after_queue
queue_grows n bytes s e =
    let found = found_open s.streams n takes_more (takes_stream s n e) in
    let here : stream_at s.streams n ≡ Some found.0 = found.1.found in
    ap queue_in (at_changed s.streams n (with_queued bytes) found.0 (λ st. refl) here) ∙ ap (λ o. queue_in o ++ bytes) (sym here)

queue_out : (n : ℕ) (bytes : List ℕ) (s : State) → (after_queue n bytes s).out.bytes ≡ s.out.bytes
unfolding after_queue
queue_out n bytes s = refl

pub admits : Admits
admits n kept first behind w e =
    ap (λ (l : List ℕ). unhandled n kept w ++ (wire_text n w.to.cutter (w.pipe ++ l) ++ (queue_of (after_queue n first w.from.state) n ++ behind))) (queue_out n first w.from.state)
    ∙ (ap (λ (l : List ℕ). unhandled n kept w ++ (wire_text n w.to.cutter (wire w) ++ (l ++ behind))) (queue_grows n first w.from.state e)
    ∙ ap (λ (l : List ℕ). unhandled n kept w ++ (wire_text n w.to.cutter (wire w) ++ l)) (append_assoc (queue_of w.from.state n) first behind))

pub queues : Queues
queues n kept bytes w e =
    admits n kept bytes [] w e
    ∙ (ap (λ (l : List ℕ). unhandled n kept w ++ (wire_text n w.to.cutter (wire w) ++ (queue_of w.from.state n ++ l))) (append-nil bytes)
    ∙ more_last (unhandled n kept w) (wire_text n w.to.cutter (wire w)) (queue_of w.from.state n) [] bytes)

pub keeps_behind : KeepsBehind
keeps_behind n kept behind bytes w = more_last (unhandled n kept w) (wire_text n w.to.cutter (wire w)) (queue_of w.from.state n) behind bytes

-- ---- what is written

pub writes : Split → FillsAreWritten → FillsBring → InOrder → Writes
writes split written bring order n kept behind w new holds whole (ms, makes) =
    let fs : List Frame = moves_list w.from.state ms in
    let out : new.out.bytes ≡ w.from.state.out.bytes ++ spellings fs = (written w.from.state new ms holds makes).written in
    let gone : List ℕ = sent n w.from.state ms in
    let carried = bring w.from.state new ms n holds makes (after_bytes w.to.cutter (wire w)) whole in
    let text : wire_text n w.to.cutter (w.pipe ++ new.out.bytes) ≡ wire_text n w.to.cutter (wire w) ++ gone =
    ap (λ (l : List ℕ). wire_text n w.to.cutter (w.pipe ++ l)) out ∙ wire_on split n w.to.cutter w.pipe w.from.state.out.bytes (spellings fs) gone carried.text in
    ap (λ (l : List ℕ). unhandled n kept w ++ (l ++ (queue_of new n ++ behind))) text
    ∙ (ap (λ (l : List ℕ). unhandled n kept w ++ l) (regroup (wire_text n w.to.cutter (wire w)) gone (queue_of new n) behind)
    ∙ ap (λ (l : List ℕ). unhandled n kept w ++ (wire_text n w.to.cutter (wire w) ++ (l ++ behind))) (order w.from.state new ms n holds makes))

pub writes_nothing : Split → WritesNothing
writes_nothing split n granted spent ended kept behind w new fs whole out bring queue =
    let carried = bring (after_bytes w.to.cutter (wire w)) whole in
    let text : wire_text n w.to.cutter (w.pipe ++ new.out.bytes) ≡ wire_text n w.to.cutter (wire w) =
    ap (λ (l : List ℕ). wire_text n w.to.cutter (w.pipe ++ l)) out
    ∙ (wire_on split n w.to.cutter w.pipe w.from.state.out.bytes (spellings fs) [] carried.text ∙ append-nil (wire_text n w.to.cutter (wire w))) in
    ap (λ (l : List ℕ). unhandled n kept w ++ (l ++ (queue_of new n ++ behind))) text
    ∙ ap (λ (l : List ℕ). unhandled n kept w ++ (wire_text n w.to.cutter (wire w) ++ (l ++ behind))) queue

-- ---- a frame begins behind all that is on the wire

whole_delivers : (piece rest : List ℕ) (w : Way) → w.pipe ≡ piece ++ rest → w.to.state.failed ≡ None → IsWhole w → IsWhole (delivered piece rest w)
whole_delivers piece rest w cut on whole =
    let out : List ℕ = w.from.state.out.bytes in
    let all : after_bytes w.to.cutter (wire w) ≡ after_bytes (after_piece w.to piece).cutter (rest ++ out) =
    ap (λ (l : List ℕ). after_bytes w.to.cutter (l ++ out)) cut ∙ (ap (λ (l : List ℕ). after_bytes w.to.cutter l) (append_assoc piece rest out)
    ∙ (bytes-append w.to.cutter piece (rest ++ out) ∙ ap (λ (d : Connection). after_bytes d.cutter (rest ++ out)) (sym (piece_on w.to piece on)))) in
    subst IsBetweenFrames all whole

whole_enters : (count : ℕ) (w : Way) → IsWhole w → IsWhole (entered count w)
whole_enters count w whole = subst (λ (l : List ℕ). IsBetweenFrames (after_bytes w.to.cutter l)) (sym (same_wire count w)) whole

whole_on : (w : Way) (new : State) (extra : List ℕ) → new.out.bytes ≡ w.from.state.out.bytes ++ extra → IsBetweenFrames (after_bytes (after_bytes w.to.cutter (wire w)) extra)
    → IsWhole (with_from (λ s. new) w)
whole_on w new extra out b = subst (λ (l : List ℕ). IsBetweenFrames (after_bytes w.to.cutter (w.pipe ++ l))) (sym out) (between_on w.to.cutter w.pipe w.from.state.out.bytes extra b)

pub between : FillsAreWritten → FillsBring → Between
between written bring = record {
  delivers = whole_delivers;
  enters = whole_enters;
  writes = λ w new holds whole reached. whole_writes w new holds whole reached.0 reached.1;
  nothing = λ n granted spent ended w new fs whole out carry. whole_on w new (spellings fs) out (carry (after_bytes w.to.cutter (wire w)) whole).between;
}
  where
    whole_writes : (w : Way) (new : State) → Holds w.from.state → IsWhole w → (ms : List Move) → Makes w.from.state ms new → IsWhole (with_from (λ s. new) w)
    whole_writes w new holds whole ms makes =
        whole_on w new (spellings (moves_list w.from.state ms)) (written w.from.state new ms holds makes).written (bring w.from.state new ms 0 holds makes (after_bytes w.to.cutter (wire w)) whole).between

-- ---- what is left

pub leaves_front : Split → LeavesFront
leaves_front split n kept behind w =
    let out : List ℕ = w.from.state.out.bytes in
    let later : List ℕ = wire_text n (after_bytes w.to.cutter w.pipe) out in
    let all : wire_text n w.to.cutter (wire w) ≡ wire_text n w.to.cutter w.pipe ++ later = (split n w.to.cutter w.pipe out).text in (
      later ++ unwritten n w behind,
      append_assoc (unhandled n kept w) (wire_text n w.to.cutter w.pipe) (later ++ unwritten n w behind)
          ∙ (ap (λ (l : List ℕ). unhandled n kept w ++ l) (sym (append_assoc (wire_text n w.to.cutter w.pipe) later (unwritten n w behind)))
          ∙ ap (λ (l : List ℕ). unhandled n kept w ++ (l ++ unwritten n w behind)) (sym all)),
    )
