-- What acts do to one stream.
use Rattle.std.proofs.Common.{◌≡◌, ℕ, ◌<◌, ◌≤◌, Bool, true, false, not, cond, eqb, leb, List, [], ◌∷◌, Option, Some, None, is_some, refl, sym, ap, ◌∙◌, subst, arith}
use Rattle.std.specs.List.{AllByRecursion}
use Rattle.std.proofs.lemmas.Bool.{leb-true, leb-false}
use Rattle.kn_frames.specs.declared.frame.Frame.{Frame}
use Rattle.kn_frames.specs.declared.fault.FrameFault.{FrameFault}
use Rattle.kn_frames.specs.Frames.{IsWithinLimits}
use Rattle.kn_frames.specs.Readers.{after_bytes, frames_in, fault_in}
use Rattle.kn_hpack.specs.Fields.{Field}
use Rattle.kn_hpack.specs.Strings.{IsBytes}
use Rattle.kn_h2_state.specs.declared.moves.Move.{Move}
use Rattle.kn_h2_state.specs.declared.moves.Move.TheVariants.{GrantAll, Grant, Send, End, Stop}
use Rattle.kn_h2_state.specs.declared.stream.Stream.{Stream}
use Rattle.kn_h2_state.specs.declared.state.State.{State}
use Rattle.kn_h2_state.specs.Outgoing.{put}
use Rattle.kn_h2_state.specs.Streams.{stream_at, change, is_kept, shut}
use Rattle.kn_h2_state.specs.Payloads.{reset_frame}
use Rattle.kn_h2_state.specs.Rules.{is_client}
use Rattle.kn_h2_state.specs.Effects.{fail, reply, on_stream}
use Rattle.kn_h2_state.specs.Feeding.{Connection, frame_code, after_frame, after_frames, after_fault, after_piece}
use Rattle.kn_h2_state.specs.Moves.{granted, sent_some, own_ended, stopped, made, target, after_move}
use Rattle.kn_h2_state.specs.Calls.{next_number, after_begin, after_reset}
use Rattle.kn_h2_state.specs.Holding.{Holds}
use Rattle.kn_h2_state.proofs.SeenLemmas.{KeepsNumber}
use Rattle.kn_h2_state.proofs.OpenLaws.{frames_open_above}
use Rattle.kn_h2_state.proofs.BorneLemmas.{rises, none_above, climbing, rises_change, at_change, at_tidied}
use Rattle.kn_h2.proofs.FrameBounds.{holds_after_frame}
use Rattle.kn_h2_courses.proofs.ByteLemmas.{frames_fit}
use Rattle.kn_h2_courses.proofs.LifeLemmas.{IsSound}

-- ---- numbers

-- a stream that the connection has was opened
pub opened_there : (s : State) (n : ℕ) (st : Stream) → Holds s → stream_at s.streams n ≡ Some st → n ≤ s.opened
opened_there s n st h e = by_test (leb n s.opened) refl
  where
    by_test : (b : Bool) → leb n s.opened ≡ b → n ≤ s.opened
    by_test true t = leb-true n s.opened t
    by_test false t =
        let none : stream_at s.streams n ≡ None = none_above 0 s.opened n s.streams (rises 0 s.opened s.streams h.rising) (leb-false n s.opened t) in
        absurd (let both : Some st ≡ None = sym e ∙ none in cc)

opened_frames : (s : State) (fs : List Frame) → AllByRecursion IsWithinLimits fs → Holds s → s.opened ≤ (after_frames s fs).opened
unfolding after_frames
opened_frames s [] all h = omega arith
opened_frames s (f ∷ fs) all h =
    let here = (frames_open_above s f h).opened in
    let later = opened_frames (after_frame s f) fs all.1 (holds_after_frame s f h all.0) in
    omega (arith, here, later)

opened_fault : (s : State) (o : Option FrameFault) → (after_fault s o).opened ≡ s.opened
unfolding fail
opened_fault s None = refl
opened_fault s (Some fault) = by_failed (is_some s.failed)
  where
    by_failed : (b : Bool) → (cond b s (fail (frame_code fault.reason) s)).opened ≡ s.opened
    by_failed true = refl
    by_failed false = refl

-- through a piece the highest number that was opened does not fall
pub opened_piece : (c : Connection) (piece : List ℕ) → IsSound c → IsBytes piece → c.state.opened ≤ (after_piece c piece).state.opened
unfolding after_piece
opened_piece c piece h bytes = by_failed (is_some c.state.failed)
  where
    s : State
    s = after_frames c.state (frames_in c.cutter piece)

    o : Option FrameFault
    o = fault_in (after_bytes c.cutter piece).phase

    by_failed : (b : Bool) → c.state.opened ≤ (cond b c (record { cutter = after_bytes c.cutter piece; state = after_fault s o })).state.opened
    by_failed true = omega arith
    by_failed false = let up = opened_frames c.state (frames_in c.cutter piece) (frames_fit c.cutter piece h.bytes bytes) h.holds in let same = opened_fault s o in omega (arith, up, same)

pub none_there : (s : State) (n : ℕ) → Holds s → s.opened < n → stream_at s.streams n ≡ None
none_there s n h above = none_above 0 s.opened n s.streams (rises 0 s.opened s.streams h.rising) above

-- ---- one stream changed

some_is : (a b : Stream) → Some a ≡ Some b → a ≡ b
some_is a b p = cc

pub changed_all : (P : Stream → Type 0) (ss : List Stream) (n : ℕ) (f : Stream → Stream) → KeepsNumber f → ((st : Stream) → P (f st)) → (st : Stream) → stream_at (change ss n f) n ≡ Some st → P st
unfolding stream_at change
changed_all P [] n f keeps all st e = absurd cc
changed_all P (x ∷ ss) n f keeps all st e = by_test (eqb x.number n) refl (changed_all P ss n f keeps all st) e
  where
    by_test : (b : Bool) → eqb x.number n ≡ b → (stream_at (change ss n f) n ≡ Some st → P st) → stream_at (cond b (f x ∷ ss) (x ∷ change ss n f)) n ≡ Some st → P st
    by_test true t rest h =
        let same : cond (eqb (f x).number n) (Some (f x)) (stream_at ss n) ≡ Some (f x) = ap (λ (j : ℕ). cond (eqb j n) (Some (f x)) (stream_at ss n)) (keeps x) ∙ ap (λ (b : Bool). cond b (Some (f x)) (stream_at ss n)) t in
        let is : f x ≡ st = some_is (f x) st (sym same ∙ h) in
        subst P is (all x)
    by_test false t rest h = rest (ap (λ (b : Bool). cond b (Some x) (stream_at (change ss n f) n)) (sym t) ∙ h)

pub on_there : (Q : Option Stream → Type 0) (s : State) (m n : ℕ) (f : Stream → Stream) → Holds s → KeepsNumber f → ((st : Stream) → is_kept st ≡ false → Q (Some st) → Q None)
    → ((st : Stream) → Q (Some st) → Q (Some (f st))) → Q (stream_at s.streams n) → Q (stream_at (on_stream m f s).streams n)
on_there Q s m n f h keeps gone step q =
    at_tidied Q 0 n (change s.streams m f) gone (climbing 0 s.opened (change s.streams m f) (rises_change 0 s.opened s.streams m f keeps (rises 0 s.opened s.streams h.rising)))
    (at_change Q s.streams m n f keeps step q)

-- what is true of a stream before a move, and is kept by each change that moves make, is true after it
pub move_there : (Q : Option Stream → Type 0) (s : State) (move : Move) (n : ℕ) → Holds s → ((st : Stream) → is_kept st ≡ false → Q (Some st) → Q None)
    → ((st : Stream) → Q (Some st) → Q (Some (granted st))) → ((count : ℕ) (st : Stream) → Q (Some st) → Q (Some (sent_some count st)))
    → ((server : Bool) (st : Stream) → Q (Some st) → Q (Some (own_ended server st))) → ((st : Stream) → Q (Some st) → Q (Some (stopped st)))
    → Q (stream_at s.streams n) → Q (stream_at (after_move s move).streams n)
unfolding after_move
move_there Q s move n h gone grants sends ends stops q = by_move move (stream_at s.streams (target move))
  where
    by_move : (k : Move) (x : Option Stream) → Q (stream_at (made s k x).streams n)
    by_move GrantAll x = q
    by_move (Grant k) None = q
    by_move (Grant k) (Some st) = at_change Q s.streams k n granted (λ y. refl) grants q
    by_move (Send k count) None = q
    by_move (Send k count) (Some st) = at_change Q s.streams k n (sent_some count) (λ y. refl) (sends count) q
    by_move (End k) None = q
    by_move (End k) (Some st) = on_there Q s k n (own_ended (not (is_client s.role))) h (λ y. refl) gone (ends (not (is_client s.role))) q
    by_move (Stop k) None = q
    by_move (Stop k) (Some st) = on_there Q s k n stopped h (λ y. refl) gone stops q

pub opened_move : (s : State) (move : Move) → (after_move s move).opened ≡ s.opened
unfolding after_move
opened_move s move = by_move move (stream_at s.streams (target move))
  where
    by_move : (k : Move) (x : Option Stream) → (made s k x).opened ≡ s.opened
    by_move GrantAll x = refl
    by_move (Grant k) None = refl
    by_move (Grant k) (Some st) = refl
    by_move (Send k count) None = refl
    by_move (Send k count) (Some st) = refl
    by_move (End k) None = refl
    by_move (End k) (Some st) = refl
    by_move (Stop k) None = refl
    by_move (Stop k) (Some st) = refl

pub reply_opened : (frame : List ℕ) (s : State) → (reply frame s).opened ≡ s.opened
unfolding reply fail
reply_opened frame s = by_room _
  where
    by_room : (b : Bool) → (cond b (fail 11 s) (record s { out = put s.out true frame })).opened ≡ s.opened
    by_room true = refl
    by_room false = refl

pub begun_opened : (fields : List Field) (s : State) → (after_begin fields s).opened ≡ next_number s
unfolding after_begin
begun_opened fields s = refl

pub reset_opened : (m code : ℕ) (s : State) → (after_reset m code s).opened ≡ s.opened
unfolding after_reset
reset_opened m code s = reply_opened (reset_frame m code) (on_stream m shut s)
