-- What is cut out of bytes keeps to the limits of frames.
use Rattle.std.proofs.Common.{◌≡◌, ℕ, zero, suc, ◌+◌, ◌<◌, ◌≤◌, Bool, true, false, cond, eqb, leb, List, [], ◌∷◌, ◌++◌, length, drop, get_or, refl, arith, length-drop}
use Rattle.std.specs.List.{AllByRecursion}
use Rattle.std.proofs.lemmas.Bool.{and_parts, eqb-true, ltb-false}
use Rattle.kn_frames.specs.declared.frame.Frame.{Frame}
use Rattle.kn_frames.specs.declared.fault.FrameReason.TheVariants.{Preface, TooLong}
use Rattle.kn_frames.specs.declared.fault.Phase.{Phase}
use Rattle.kn_frames.specs.declared.fault.Phase.TheVariants.{InPreface, InFrames, Failed}
use Rattle.kn_frames.specs.Frames.{length_of, stream_of, frame_of, preface, IsWithinLimits}
use Rattle.kn_frames.specs.Readers.{Reading, in_frames, in_preface, failed, count_up, is_whole, is_too_long, after_byte_in, after_byte, after_bytes, whole_frame, frame_at_in, frame_at, frames_in}
use Rattle.kn_hpack.specs.Strings.{IsBytes}

bytes_push : (xs : List ℕ) (x : ℕ) → IsBytes xs → x < 256 → IsBytes (xs ++ x ∷ [])
bytes_push [] x all low = (low, tt)
bytes_push (y ∷ xs) x all low = (all.0, bytes_push xs x all.1 low)

byte_at : (xs : List ℕ) (i : ℕ) → IsBytes xs → get_or xs i 0 < 256
byte_at [] i all = omega arith
byte_at (x ∷ xs) zero all = all.0
byte_at (x ∷ xs) (suc i) all = byte_at xs i all.1

stream_fits : (bytes : List ℕ) → IsBytes bytes → stream_of bytes < 2147483648
unfolding stream_of
stream_fits bytes all = omega (arith, byte_at bytes 5 all, byte_at bytes 6 all, byte_at bytes 7 all, byte_at bytes 8 all)

whole_fits : (bytes : List ℕ) → IsBytes bytes → AllByRecursion IsWithinLimits (whole_frame bytes)
whole_fits bytes all = by_long (is_too_long bytes) refl
  where
    by_whole : (w : Bool) → is_whole bytes ≡ w → is_too_long bytes ≡ false → AllByRecursion IsWithinLimits (cond w (frame_of bytes (drop 9 bytes) ∷ []) [])
    by_whole true e short =
        let long : length bytes ≡ 9 + length_of bytes = eqb-true (length bytes) (9 + length_of bytes) (and_parts (leb 9 (length bytes)) _ e).1 in
        let small : length_of bytes ≤ 16384 = ltb-false 16384 (length_of bytes) short in
        let rest = length-drop 9 bytes in
        (record { payload = omega (arith, long, small, rest); stream = stream_fits bytes all }, tt)
    by_whole false e short = tt

    by_long : (b : Bool) → is_too_long bytes ≡ b → AllByRecursion IsWithinLimits (cond b [] (cond (is_whole bytes) (frame_of bytes (drop 9 bytes) ∷ []) []))
    by_long true e = tt
    by_long false e = by_whole (is_whole bytes) refl e

frame_fits : (r : Reading) (x : ℕ) → IsBytes r.rest → x < 256 → AllByRecursion IsWithinLimits (frame_at r x)
unfolding frame_at
frame_fits r x all low = by_phase r.phase
  where
    by_phase : (p : Phase) → AllByRecursion IsWithinLimits (frame_at_in p r x)
    by_phase InPreface = tt
    by_phase InFrames = whole_fits (r.rest ++ x ∷ []) (bytes_push r.rest x all low)
    by_phase (Failed fault) = tt

either_rest : (b : Bool) (p q : Reading) → IsBytes p.rest → IsBytes q.rest → IsBytes (cond b p q).rest
either_rest true p q h k = h
either_rest false p q h k = k

rest_fits : (r : Reading) (x : ℕ) → IsBytes r.rest → x < 256 → IsBytes (after_byte r x).rest
unfolding after_byte
rest_fits r x all low = by_phase r.phase
  where
    more : IsBytes (r.rest ++ x ∷ [])
    more = bytes_push r.rest x all low

    preface_fails : Reading → ℕ → Reading
    preface_fails q y = failed (record { offset = count_up q.offset (length q.rest); reason = Preface }) q.offset

    frames_fail : Reading → Reading
    frames_fail q = failed (record { offset = q.offset; reason = TooLong }) q.offset

    by_phase : (p : Phase) → IsBytes (after_byte_in p r x).rest
    by_phase InPreface = either_rest (eqb x (get_or preface (length r.rest) 0)) (cond (eqb (length r.rest) 23) (in_frames [] (count_up r.offset 24)) (in_preface (r.rest ++ x ∷ []) r.offset)) (preface_fails r x)
        (either_rest (eqb (length r.rest) 23) (in_frames [] (count_up r.offset 24)) (in_preface (r.rest ++ x ∷ []) r.offset) tt more) tt
    by_phase InFrames = either_rest (is_too_long (r.rest ++ x ∷ [])) (frames_fail r) (cond (is_whole (r.rest ++ x ∷ [])) (in_frames [] (count_up r.offset (length (r.rest ++ x ∷ [])))) (in_frames (r.rest ++ x ∷ []) r.offset)) tt
        (either_rest (is_whole (r.rest ++ x ∷ [])) (in_frames [] (count_up r.offset (length (r.rest ++ x ∷ [])))) (in_frames (r.rest ++ x ∷ []) r.offset) tt more)
    by_phase (Failed fault) = all

all_append : (fs gs : List Frame) → AllByRecursion IsWithinLimits fs → AllByRecursion IsWithinLimits gs → AllByRecursion IsWithinLimits (fs ++ gs)
all_append [] gs a b = b
all_append (f ∷ fs) gs a b = (a.0, all_append fs gs a.1 b)

pub frames_fit : (r : Reading) (bytes : List ℕ) → IsBytes r.rest → IsBytes bytes → AllByRecursion IsWithinLimits (frames_in r bytes)
frames_fit r [] all bytes = tt
frames_fit r (x ∷ xs) all bytes =
    all_append (frame_at r x) (frames_in (after_byte r x) xs) (frame_fits r x all bytes.0) (frames_fit (after_byte r x) xs (rest_fits r x all bytes.0) bytes.1)

pub kept_fit : (r : Reading) (bytes : List ℕ) → IsBytes r.rest → IsBytes bytes → IsBytes (after_bytes r bytes).rest
kept_fit r [] all bytes = all
kept_fit r (x ∷ xs) all bytes = kept_fit (after_byte r x) xs (rest_fits r x all bytes.0) bytes.1
