-- The DATA of all streams together, and the window of the connection.
use Rattle.std.proofs.Common.{◌≡◌, ℕ, ℤ, pos, ◌+◌, ◌-ℤ◌, ◌≤◌, Bool, true, false, cond, List, [], ◌∷◌, ◌++◌, length, take, Option, Some, None, is_some, refl, sym, ap, ◌∙◌, subst, arith}
use Rattle.std.proofs.lemmas.Int.{ints}
use Rattle.std.proofs.lemmas.List.{length-take}
use Rattle.kn_frames.specs.declared.frame.Frame.{Frame}
use Rattle.kn_frames.specs.Readers.{Reading, frames_in}
use Rattle.kn_hpack.specs.Fields.{Field}
use Rattle.kn_hpack.specs.Encoding.{block_of}
use Rattle.kn_h2_state.specs.declared.moves.Move.{Move}
use Rattle.kn_h2_state.specs.declared.moves.Move.TheVariants.{GrantAll, Grant, Send, End, Stop}
use Rattle.kn_h2_state.specs.declared.stream.Stream.{Stream}
use Rattle.kn_h2_state.specs.declared.state.State.{State}
use Rattle.kn_h2_state.specs.Streams.{stream_at}
use Rattle.kn_h2_state.specs.Rules.{is_client, verdict}
use Rattle.kn_h2_state.specs.Effects.{fail}
use Rattle.kn_h2_state.specs.Feeding.{after_frame, after_frames, judged}
use Rattle.kn_h2_state.specs.Moves.{may, after_move, can_send, target, Makes}
use Rattle.kn_h2_state.specs.Wire.{any_data_length, all_data_in, wire_data, frame, spellings, IsBetweenFrames, WrittenIsRead, NoneOfEachIsNone, head_list, end_list, made_frames, move_frames}
use Rattle.kn_h2.specs.Sending.{spent_by, spent, Spends}
use Rattle.kn_h2.specs.Written.{opening_list, begin_list, answer_list, replied, reset_list, moves_list, OpeningsAreCarried, CallsAreCarried, FillsAreWritten}
use Rattle.kn_h2.specs.Answered.{piece_answer, PiecesBring}
use Rattle.kn_h2.specs.Windows.{FramesShiftAll}
use Rattle.kn_h2.specs.Spending.{BringsData, FillsSpend, OpeningsSpendNothing, CallsSpendNothing, AnswersSpendNothing, FramesTakeAll}
use Rattle.kn_h2.proofs.FoundLemmas.{found_open}
use Rattle.kn_h2.proofs.MoveLemmas.{move_parts, send_parts}
use Rattle.kn_h2.proofs.CarriedLemmas.{trailer_sums}

-- ---- bytes that bring no stream DATA

no_data : NoneOfEachIsNone → (fs : List Frame) → ((n : ℕ) (r : Reading) → IsBetweenFrames r → wire_data n r (spellings fs) ≡ 0) → BringsData fs 0
no_data none fs each r between = none (frames_in r (spellings fs)) (λ n. each n r between)

pub openings_spend : NoneOfEachIsNone → OpeningsAreCarried → OpeningsSpendNothing
openings_spend none carried role = no_data none (opening_list role) (λ n r b. (carried role n r b).taken)

pub calls_spend : NoneOfEachIsNone → CallsAreCarried → CallsSpendNothing
calls_spend none carried s n h = record {
  begin = λ fields e. no_data none (begin_list s fields) (λ m r b. ((carried s n m h).begin fields e r b).taken);
  answer = λ fields e. no_data none (answer_list s n fields) (λ m r b. ((carried s n m h).answer fields e r b).taken);
  reset = λ code e. no_data none (replied s (reset_list n code)) (λ m r b. ((carried s n m h).reset code e r b).taken);
}

pub answers_spend : NoneOfEachIsNone → PiecesBring → AnswersSpendNothing
answers_spend none bring c piece limits = no_data none (piece_answer c piece) (λ n r b. ((bring c piece n limits).sums r b).taken)

-- ---- moves

no_frames : all_data_in [] ≡ 0
unfolding all_data_in
no_frames = refl

all_data-append : (fs gs : List Frame) → all_data_in (fs ++ gs) ≡ all_data_in fs + all_data_in gs
unfolding all_data_in
all_data-append [] gs = omega arith
all_data-append (f ∷ fs) gs = let e : all_data_in (fs ++ gs) ≡ all_data_in fs + all_data_in gs = all_data-append fs gs in omega arith

sent_data : (n count : ℕ) (st : Stream) → count ≤ length st.queue → all_data_in (frame 0 0 n (take count st.queue) ∷ []) ≡ count
unfolding all_data_in any_data_length
sent_data n count st waits = omega (arith, length-take count st.queue)

end_data : NoneOfEachIsNone → (s : State) (n : ℕ) (finish : Option (List Field)) → all_data_in (end_list s n finish) ≡ 0
unfolding all_data_in any_data_length
end_data none s n None = refl
end_data none s n (Some trailers) = by_role (is_client s.role) (block_of s.encoder trailers)
  where
    by_role : (b : Bool) (block : List ℕ) → all_data_in (cond b (frame 0 1 n [] ∷ []) (head_list n 1 block)) ≡ 0
    by_role true block = refl
    by_role false block = none (head_list n 1 block) (λ m. (trailer_sums m n block).taken)

made_data : NoneOfEachIsNone → (s : State) (m : Move) (o : Option Stream) → stream_at s.streams (target m) ≡ o → may s m ≡ true → all_data_in (made_frames s m o) ≡ spent_by m
unfolding all_data_in any_data_length
made_data none s GrantAll o e ok = refl
made_data none s (Grant n) None e ok = refl
made_data none s (Grant n) (Some st) e ok = refl
made_data none s (Send n count) o e ok =
    let here = found_open s.streams n (can_send count s.send) (move_parts s (Send n count) ok).due in
    subst (λ (x : Option Stream). all_data_in (made_frames s (Send n count) x) ≡ count) (sym here.1.found ∙ e) (sent_data n count here.0 (send_parts count s.send here.0 here.1.passed).queued)
made_data none s (End n) None e ok = refl
made_data none s (End n) (Some st) e ok = end_data none s n st.finish
made_data none s (Stop n) None e ok = refl
made_data none s (Stop n) (Some st) e ok = refl

move_data : NoneOfEachIsNone → (s : State) (m : Move) → may s m ≡ true → all_data_in (move_frames s m) ≡ spent_by m
unfolding move_frames
move_data none s m ok = made_data none s m (stream_at s.streams (target m)) refl ok

moves_data : NoneOfEachIsNone → (old new : State) (ms : List Move) → Makes old ms new → all_data_in (moves_list old ms) ≡ spent ms
moves_data none old new [] makes = no_frames
moves_data none old new (m ∷ ms) makes =
    let one : all_data_in (move_frames old m) ≡ spent_by m = move_data none old m makes.0 in
    let rest : all_data_in (moves_list (after_move old m) ms) ≡ spent ms = moves_data none (after_move old m) new ms makes.1 in
    let both : all_data_in (move_frames old m ++ moves_list (after_move old m) ms) ≡ all_data_in (move_frames old m) + all_data_in (moves_list (after_move old m) ms) =
    all_data-append (move_frames old m) (moves_list (after_move old m) ms) in
    omega arith

pub fills_spend : NoneOfEachIsNone → WrittenIsRead → FillsAreWritten → Spends → FillsSpend
fills_spend none read written spends old new ms h makes = record {
  brings = λ r between. ap (λ (fs : List Frame). all_data_in fs) (read (moves_list old ms) r (written old new ms h makes).limits between).frames ∙ moves_data none old new ms makes;
  window = spends old new ms makes;
}

-- ---- frames that come

still_failed : (s : State) (fs : List Frame) (code : ℕ) → s.failed ≡ Some code → (after_frames s fs).failed ≡ Some code
unfolding after_frames after_frame
still_failed s [] code e = e
still_failed s (f ∷ fs) code e =
    let same : after_frame s f ≡ s = ap (λ (o : Option ℕ). cond (is_some o) s (judged s f (verdict s f))) e in
    ap (λ (t : State). (after_frames t fs).failed) same ∙ still_failed s fs code e

fails : (s : State) (f : Frame) (code : ℕ) → s.failed ≡ None → verdict s f ≡ Some code → (after_frame s f).failed ≡ Some code
unfolding after_frame fail
fails s f code going broken =
    ap (λ (o : Option ℕ). (cond (is_some o) s (judged s f (verdict s f))).failed) going ∙ ap (λ (o : Option ℕ). (judged s f o).failed) broken

sums_on : (z x y : ℤ) (a b : ℕ) → x ≡ z -ℤ pos a → y ≡ x -ℤ pos b → y ≡ z -ℤ pos (a + b)
sums_on z x y a b one two = omega (arith, ints)

none_fails : {code : ℕ} → Some code ≡ None → ⊥
none_fails h = absurd cc

pub frames_take_all : FramesShiftAll → FramesTakeAll
unfolding after_frames all_data_in any_data_length
frames_take_all shift s [] going = omega (arith, ints)
frames_take_all shift s (f ∷ fs) going = by_failed (frames_take_all shift (after_frame s f) fs going) s.failed refl
  where
    by_verdict : (after_frames (after_frame s f) fs).receive ≡ (after_frame s f).receive -ℤ pos (all_data_in fs) → s.failed ≡ None → (o : Option ℕ) → verdict s f ≡ o
        → (after_frames s (f ∷ fs)).receive ≡ s.receive -ℤ pos (all_data_in (f ∷ fs))
    by_verdict rest sound (Some code) e = absurd (none_fails (sym (still_failed (after_frame s f) fs code (fails s f code sound e)) ∙ going))
    by_verdict rest sound None e =
        sums_on s.receive (after_frame s f).receive (after_frames (after_frame s f) fs).receive (any_data_length f) (all_data_in fs) (shift s f sound e).receive rest

    by_failed : (after_frames (after_frame s f) fs).receive ≡ (after_frame s f).receive -ℤ pos (all_data_in fs) → (o : Option ℕ) → s.failed ≡ o
        → (after_frames s (f ∷ fs)).receive ≡ s.receive -ℤ pos (all_data_in (f ∷ fs))
    by_failed rest None e = by_verdict rest e (verdict s f) refl
    by_failed rest (Some code) e = absurd (none_fails (sym (still_failed s (f ∷ fs) code e) ∙ going))
