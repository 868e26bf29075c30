-- What an end begins with, and what its calls and its answers append, are whole frames.
use Rattle.std.proofs.Common.{◌≡◌, ℕ, ◌+◌, ◌-◌, ◌<◌, Bool, true, false, cond, ltb, List, [], ◌∷◌, ◌++◌, length, None, refl, sym, ap, ◌∙◌, subst, arith, append_assoc, append-nil}
use Rattle.std.specs.Int.{to_be_bytes, w32}
use Rattle.std.specs.List.{AllByRecursion}
use Rattle.kn_frames.specs.declared.frame.Frame.{Frame}
use Rattle.kn_frames.specs.Frames.{preface, spelled, IsWithinLimits}
use Rattle.kn_hpack.specs.Fields.{Field}
use Rattle.kn_hpack.specs.Encoding.{block_of}
use Rattle.kn_h2_state.specs.declared.role.Role.{Role}
use Rattle.kn_h2_state.specs.declared.role.Role.TheVariants.{Server, Client}
use Rattle.kn_h2_state.specs.declared.stream.Stream.{Stream}
use Rattle.kn_h2_state.specs.declared.state.State.{State}
use Rattle.kn_h2_state.specs.Limits.{default_window, connection_window, stream_limit, list_limit, reply_limit}
use Rattle.kn_h2_state.specs.Outgoing.{Out, put, reply_bytes}
use Rattle.kn_h2_state.specs.Streams.{change, shut}
use Rattle.kn_h2_state.specs.Payloads.{setting_text, goaway_frame}
use Rattle.kn_h2_state.specs.Effects.{highest_of_peer, fail, reply, on_stream}
use Rattle.kn_h2_state.specs.Moves.{after_move}
use Rattle.kn_h2_state.specs.Calls.{opening, next_number, begin_refusal, after_begin, takes_more, after_take, after_queue, after_finish, after_answer, after_reset}
use Rattle.kn_h2_state.specs.Holding.{Holds}
use Rattle.kn_h2_state.specs.Wire.{frame, spellings, HeadIsWritten, head_list, move_frames, MovesAreWritten}
use Rattle.kn_h2.specs.Written.{Writes, OpeningIsWritten, is_flooded, goaway_list, replied, begin_list, answer_list, reset_list, CallsWrite, moves_list, FillsAreWritten}
use Rattle.kn_h2.proofs.BeginLemmas.{number_of_begin}
use Rattle.kn_h2.proofs.AnswerLemmas.{number_of_call}
use Rattle.kn_h2.proofs.MoveLemmas.{move_keeps}

-- ---- lists of frames

pub spellings-append : (fs gs : List Frame) → spellings (fs ++ gs) ≡ spellings fs ++ spellings gs
unfolding spellings
spellings-append [] gs = refl
spellings-append (f ∷ fs) gs = ap (λ xs. spelled f.kind f.flags f.stream f.payload ++ xs) (spellings-append fs gs) ∙ sym (append_assoc (spelled f.kind f.flags f.stream f.payload) (spellings fs) (spellings gs))

pub spellings-one : (f : Frame) → spelled f.kind f.flags f.stream f.payload ≡ spellings (f ∷ [])
unfolding spellings
spellings-one f = sym (append-nil (spelled f.kind f.flags f.stream f.payload))

pub all_joined : (P : Frame → Type 0) (fs gs : List Frame) → AllByRecursion P fs → AllByRecursion P gs → AllByRecursion P (fs ++ gs)
all_joined P [] gs a b = b
all_joined P (f ∷ fs) gs a b = (a.0, all_joined P fs gs a.1 b)

pub appended : (xs ys zs : List ℕ) (fs gs : List Frame) → ys ≡ xs ++ spellings fs → zs ≡ ys ++ spellings gs → zs ≡ xs ++ spellings (fs ++ gs)
appended xs ys zs fs gs e g =
    g ∙ ap (λ l. l ++ spellings gs) e ∙ append_assoc xs (spellings fs) (spellings gs) ∙ ap (λ l. xs ++ l) (sym (spellings-append fs gs))

pub none_written : (s t : State) → t.out ≡ s.out → Writes s t []
unfolding spellings
none_written s t e = record { written = ap (λ (o : Out). o.bytes) e ∙ sym (append-nil s.out.bytes); limits = tt }

pub written_on : (s t u : State) (fs gs : List Frame) → Writes s t fs → Writes t u gs → Writes s u (fs ++ gs)
written_on s t u fs gs a b = record { written = appended s.out.bytes t.out.bytes u.out.bytes fs gs a.written b.written; limits = all_joined IsWithinLimits fs gs a.limits b.limits }

-- ---- the opening

pub opening_is_written : (role : Role) → OpeningIsWritten role
unfolding opening spellings
opening_is_written Server =
    let settings = setting_text 3 stream_limit ++ setting_text 6 list_limit in
    record {
      written = ap (λ xs. spelled 4 0 0 settings ++ xs) (spellings-one (frame 8 0 0 (to_be_bytes w32 (connection_window - default_window))));
      limits = (record { payload = omega arith; stream = omega arith }, (record { payload = omega arith; stream = omega arith }, tt));
    }
opening_is_written Client =
    let settings = setting_text 2 0 ++ setting_text 6 list_limit in
    record {
      written = ap (λ xs. preface ++ (spelled 4 0 0 settings ++ xs)) (spellings-one (frame 8 0 0 (to_be_bytes w32 (connection_window - default_window))));
      limits = (record { payload = omega arith; stream = omega arith }, (record { payload = omega arith; stream = omega arith }, tt));
    }

-- ---- replies

pub goaway_within : (last code : ℕ) → IsWithinLimits (frame 7 0 0 (to_be_bytes w32 last ++ to_be_bytes w32 code))
goaway_within last code = record { payload = omega (arith, long); stream = omega arith }
  where
    long : length (to_be_bytes w32 last ++ to_be_bytes w32 code) ≡ 8
    long = refl

-- a reply on a state with the same bytes that wait, and the same highest stream
pub reply_written : (s t : State) (fs : List Frame) → t.out ≡ s.out → highest_of_peer t ≡ highest_of_peer s → AllByRecursion IsWithinLimits fs → Writes s (reply (spellings fs) t) (replied s fs)
unfolding reply fail
reply_written s t fs e h l = subst (λ (c : Bool). Writes s (reply (spellings fs) t) (cond c (goaway_list s 11) fs)) same (by_test (is_flooded t fs))
  where
    same : is_flooded t fs ≡ is_flooded s fs
    same = ap (λ (o : Out). ltb reply_limit (reply_bytes o + length (spellings fs))) e

    by_test : (b : Bool) → Writes s (cond b (fail 11 t) (record t { out = put t.out true (spellings fs) })) (cond b (goaway_list s 11) fs)
    by_test true = record {
      written = ap (λ (o : Out). o.bytes ++ goaway_frame (highest_of_peer t) 11) e ∙ ap (λ k. s.out.bytes ++ goaway_frame k 11) h
          ∙ ap (λ xs. s.out.bytes ++ xs) (spellings-one (frame 7 0 0 (to_be_bytes w32 (highest_of_peer s) ++ to_be_bytes w32 11)));
      limits = (goaway_within (highest_of_peer s) 11, tt);
    }
    by_test false = record { written = ap (λ (o : Out). o.bytes ++ spellings fs) e; limits = l }

pub reset_within : (n code : ℕ) → n < 2147483648 → IsWithinLimits (frame 3 0 n (to_be_bytes w32 code))
reset_within n code low = record { payload = omega (arith, long); stream = low }
  where
    long : length (to_be_bytes w32 code) ≡ 4
    long = refl

-- ---- calls

begin_written : ((n flags : ℕ) (block : List ℕ) → HeadIsWritten n flags block) → (s : State) (fields : List Field) → begin_refusal s ≡ None → Writes s (after_begin fields s) (begin_list s fields)
unfolding after_begin
begin_written head s fields e =
    let written = head (next_number s) 0 (block_of s.encoder fields) in
    let low = number_of_begin s e in
    record { written = ap (λ xs. s.out.bytes ++ xs) written.written; limits = written.limits (omega arith) }

answer_written : ((n flags : ℕ) (block : List ℕ) → HeadIsWritten n flags block) → (s : State) (n : ℕ) (fields : List Field) → n < 2147483648 → Writes s (after_answer n fields s) (answer_list s n fields)
unfolding after_answer
answer_written head s n fields low =
    let written = head n 0 (block_of s.encoder fields) in
    let marked = record s { streams = change s.streams n (λ (st : Stream). record st { answered = true }); encoder = true } in
    subst (λ (xs : List ℕ). Writes s (reply xs marked) (answer_list s n fields)) (sym written.written)
    (reply_written s marked (head_list n 0 (block_of s.encoder fields)) refl refl (written.limits (omega arith)))

reset_written : (s : State) (n code : ℕ) → n < 2147483648 → Writes s (after_reset n code s) (replied s (reset_list n code))
unfolding after_reset
reset_written s n code low =
    subst (λ (xs : List ℕ). Writes s (reply xs (on_stream n shut s)) (replied s (reset_list n code))) (sym (spellings-one (frame 3 0 n (to_be_bytes w32 code))))
    (reply_written s (on_stream n shut s) (reset_list n code) refl refl (reset_within n code low, tt))

pub calls_written : ((n flags : ℕ) (block : List ℕ) → HeadIsWritten n flags block) → (s : State) (n : ℕ) → Holds s → CallsWrite s n
unfolding after_take after_queue after_finish
calls_written head s n h = record {
  begin = begin_written head s;
  answer = λ fields e. answer_written head s n fields (number_of_call s n takes_more e h);
  reset = λ code e. reset_written s n code (number_of_call s n (λ st. st.own_open) e h);
  take = λ count. none_written s (after_take n count s) refl;
  queue = λ bytes. none_written s (after_queue n bytes s) refl;
  finish = λ trailers. none_written s (after_finish n trailers s) refl;
}

-- ---- moves

pub fills_written : MovesAreWritten → FillsAreWritten
fills_written moves old new [] h e = none_written old new (ap (λ (s : State). s.out) e)
fills_written moves old new (m ∷ ms) h makes =
    let first = moves old m h makes.0 in
    written_on old (after_move old m) new (move_frames old m) (moves_list (after_move old m) ms)
    (record { written = first.written; limits = first.limits })
    (fills_written moves (after_move old m) new ms (move_keeps old m h makes.0) makes.1)
