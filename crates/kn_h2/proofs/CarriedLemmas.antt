-- What the bytes that an end writes bring to a stream.
use Rattle.std.proofs.Common.{◌≡◌, ◌-◌, ℕ, zero, suc, ◌+◌, ◌%◌, ◌<◌, Bool, true, false, ◌&&◌, cond, eqb, leb, List, [], ◌∷◌, ◌++◌, length, take, drop, Option, Some, None, is_some, refl, sym, ap, ◌∙◌, subst, arith, append_assoc, length-append}
use Rattle.std.specs.Int.{to_be_bytes, w32}
use Rattle.std.specs.List.{AllByRecursion}
use Rattle.std.proofs.lemmas.Nat.{from_be_bytes-to_be_bytes_4}
use Rattle.std.proofs.lemmas.Int.{ints}
use Rattle.std.proofs.lemmas.Bool.{eqb-true}
use Rattle.std.proofs.lemmas.List.{length-take}
use Rattle.kn_frames.specs.declared.frame.Frame.{Frame}
use Rattle.kn_frames.specs.Frames.{IsWithinLimits}
use Rattle.kn_hpack.specs.Fields.{Field}
use Rattle.kn_hpack.specs.Encoding.{block_of}
use Rattle.kn_h2_state.specs.declared.moves.Move.{Move}
use Rattle.kn_h2_state.specs.declared.moves.Move.TheVariants.{GrantAll, Grant, Send, End, Stop}
use Rattle.kn_h2_state.specs.declared.stream.Stream.{Stream}
use Rattle.kn_h2_state.specs.declared.state.State.{State}
use Rattle.kn_h2_state.specs.declared.role.Role.{Role}
use Rattle.kn_h2_state.specs.declared.role.Role.TheVariants.{Server, Client}
use Rattle.kn_h2_state.specs.Limits.{frame_limit, default_window, connection_window, stream_limit, list_limit}
use Rattle.kn_h2_state.specs.Streams.{stream_at}
use Rattle.kn_h2_state.specs.Payloads.{increment_of, setting_text}
use Rattle.kn_h2_state.specs.Rules.{is_client}
use Rattle.kn_h2_state.specs.Effects.{highest_of_peer}
use Rattle.kn_h2_state.specs.Moves.{may, after_move, target, can_end, can_stop, Makes}
use Rattle.kn_h2_state.specs.Calls.{queue_in, queue_of, next_number}
use Rattle.kn_h2_state.specs.Holding.{Holds, HasSum, HasRoom}
use Rattle.kn_h2_state.specs.Wire.{frame_text, texts_in, frame_grant, grants_in, data_length, data_lengths_in, is_end, ends_in, frame, WrittenIsRead, more_list, head_list, end_list, made_frames, move_frames, moved_text, MovesAreWritten}
use Rattle.kn_h2.specs.Finding.{owed_in}
use Rattle.kn_h2.specs.Sending.{sent}
use Rattle.kn_h2.specs.Written.{opening_list, OpeningIsWritten, OpeningsAreCarried, is_flooded, goaway_list, replied, begin_list, answer_list, reset_list, CallsAreWritten, moves_list, FillsAreWritten, Brings, once, CallsAreCarried, granted_by, ended_by, MovesBring, granted_in, ended_in, FillsBring}
use Rattle.kn_h2.proofs.StreamLemmas.{all_at}
use Rattle.kn_h2.proofs.FoundLemmas.{found_open}
use Rattle.kn_h2.proofs.MoveLemmas.{move_parts, end_parts, move_keeps}

-- ---- sums over lists of frames

pub record Sums (n : ℕ) (fs : List Frame) (words : List ℕ) (granted spent ended : ℕ) : Type 0 where
  pub text : texts_in n fs ≡ words
  pub grants : grants_in n fs ≡ granted
  pub taken : data_lengths_in n fs ≡ spent
  pub ends : ends_in n fs ≡ ended

texts-append : (n : ℕ) (fs gs : List Frame) → texts_in n (fs ++ gs) ≡ texts_in n fs ++ texts_in n gs
unfolding texts_in
texts-append n [] gs = refl
texts-append n (f ∷ fs) gs = ap (λ xs. frame_text n f ++ xs) (texts-append n fs gs) ∙ sym (append_assoc (frame_text n f) (texts_in n fs) (texts_in n gs))

grants-append : (n : ℕ) (fs gs : List Frame) → grants_in n (fs ++ gs) ≡ grants_in n fs + grants_in n gs
unfolding grants_in
grants-append n [] gs = omega arith
grants-append n (f ∷ fs) gs = let e : grants_in n (fs ++ gs) ≡ grants_in n fs + grants_in n gs = grants-append n fs gs in omega arith

lengths-append : (n : ℕ) (fs gs : List Frame) → data_lengths_in n (fs ++ gs) ≡ data_lengths_in n fs + data_lengths_in n gs
unfolding data_lengths_in
lengths-append n [] gs = omega arith
lengths-append n (f ∷ fs) gs = let e : data_lengths_in n (fs ++ gs) ≡ data_lengths_in n fs + data_lengths_in n gs = lengths-append n fs gs in omega arith

pub ends-append : (n : ℕ) (fs gs : List Frame) → ends_in n (fs ++ gs) ≡ ends_in n fs + ends_in n gs
unfolding ends_in
ends-append n [] gs = omega arith
ends-append n (f ∷ fs) gs = let e : ends_in n (fs ++ gs) ≡ ends_in n fs + ends_in n gs = ends-append n fs gs in omega arith

pub sums_on : (n : ℕ) (fs gs : List Frame) (xs ys : List ℕ) (a b c d e f : ℕ) → Sums n fs xs a c e → Sums n gs ys b d f → Sums n (fs ++ gs) (xs ++ ys) (a + b) (c + d) (e + f)
sums_on n fs gs xs ys a b c d e f one two =
    let g1 = one.grants in let g2 = two.grants in let t1 = one.taken in let t2 = two.taken in let e1 = one.ends in let e2 = two.ends in
    let g = grants-append n fs gs in let t = lengths-append n fs gs in let k = ends-append n fs gs in
    record {
      text = texts-append n fs gs ∙ ap (λ l. l ++ texts_in n gs) one.text ∙ ap (λ l. xs ++ l) two.text;
      grants = omega arith;
      taken = omega arith;
      ends = omega arith;
    }

-- frames within the limits bring their sums to a reader between two frames
pub brings : WrittenIsRead → (n : ℕ) (fs : List Frame) (words : List ℕ) (granted spent ended : ℕ) → AllByRecursion IsWithinLimits fs → Sums n fs words granted spent ended → Brings n fs words granted spent ended
brings read n fs words granted spent ended l sums r between =
    let back = read fs r l between in
    record {
      text = ap (texts_in n) back.frames ∙ sums.text;
      grants = ap (grants_in n) back.frames ∙ sums.grants;
      taken = ap (data_lengths_in n) back.frames ∙ sums.taken;
      ends = ap (ends_in n) back.frames ∙ sums.ends;
      between = back.state;
    }

-- ---- one frame

pub no_end : (b : Bool) → once (b && false) ≡ 0
no_end true = refl
no_end false = refl

one_end : (b : Bool) → once (b && true) ≡ once b
one_end true = refl
one_end false = refl

alone : (x y : ℕ) → x ≡ y → x + 0 ≡ y
alone x y e = omega arith

-- a frame that brings nothing but an end, before others that bring nothing
pub one_more : (n : ℕ) (f : Frame) (fs : List Frame) (ended : ℕ) → frame_text n f ≡ [] → frame_grant n f ≡ 0 → data_length n f ≡ 0 → once (is_end n f) ≡ ended → Sums n fs [] 0 0 0 → Sums n (f ∷ fs) [] 0 0 ended
unfolding texts_in grants_in data_lengths_in ends_in
one_more n f fs ended text grants taken ends rest =
    let g = rest.grants in let t = rest.taken in let e = rest.ends in
    record { text = ap (λ (l : List ℕ). l ++ texts_in n fs) text ∙ rest.text; grants = omega arith; taken = omega arith; ends = omega arith }

pub none : (n : ℕ) → Sums n [] [] 0 0 0
unfolding texts_in grants_in data_lengths_in ends_in
none n = record { text = refl; grants = refl; taken = refl; ends = refl }

continuation : (n m flags : ℕ) (payload : List ℕ) (fs : List Frame) → Sums n fs [] 0 0 0 → Sums n (frame 9 flags m payload ∷ fs) [] 0 0 0
unfolding frame_text frame_grant data_length is_end
continuation n m flags payload fs rest = one_more n (frame 9 flags m payload) fs 0 refl refl refl (no_end (eqb m n)) rest

open_head : (n m : ℕ) (payload : List ℕ) (fs : List Frame) → Sums n fs [] 0 0 0 → Sums n (frame 1 0 m payload ∷ fs) [] 0 0 0
unfolding frame_text frame_grant data_length is_end
open_head n m payload fs rest = one_more n (frame 1 0 m payload) fs 0 refl refl refl (no_end (eqb m n)) rest

whole_head : (n m : ℕ) (payload : List ℕ) → Sums n (frame 1 4 m payload ∷ []) [] 0 0 0
unfolding frame_text frame_grant data_length is_end
whole_head n m payload = one_more n (frame 1 4 m payload) [] 0 refl refl refl (no_end (eqb m n)) (none n)

open_trailers : (n m : ℕ) (payload : List ℕ) (fs : List Frame) → Sums n fs [] 0 0 0 → Sums n (frame 1 1 m payload ∷ fs) [] 0 0 (once (eqb m n))
unfolding frame_text frame_grant data_length is_end
open_trailers n m payload fs rest = one_more n (frame 1 1 m payload) fs (once (eqb m n)) refl refl refl (one_end (eqb m n)) rest

whole_trailers : (n m : ℕ) (payload : List ℕ) → Sums n (frame 1 5 m payload ∷ []) [] 0 0 (once (eqb m n))
unfolding frame_text frame_grant data_length is_end
whole_trailers n m payload = one_more n (frame 1 5 m payload) [] (once (eqb m n)) refl refl refl (one_end (eqb m n)) (none n)

more_sums : (n fuel m : ℕ) (block : List ℕ) → Sums n (more_list fuel m block) [] 0 0 0
unfolding more_list
more_sums n zero m block = none n
more_sums n (suc fuel) m block = by_test (leb (length block) frame_limit) (more_sums n fuel m (drop frame_limit block))
  where
    by_test : (b : Bool) → Sums n (more_list fuel m (drop frame_limit block)) [] 0 0 0
        → Sums n (cond b (frame 9 4 m block ∷ []) (frame 9 0 m (take frame_limit block) ∷ more_list fuel m (drop frame_limit block))) [] 0 0 0
    by_test true rest = continuation n m 4 block [] (none n)
    by_test false rest = continuation n m 0 (take frame_limit block) (more_list fuel m (drop frame_limit block)) rest

-- a head that ends nothing
head_sums : (n m : ℕ) (block : List ℕ) → Sums n (head_list m 0 block) [] 0 0 0
unfolding head_list
head_sums n m block = by_test (leb (length block) frame_limit)
  where
    by_test : (b : Bool) → Sums n (cond b (frame 1 (0 + 4) m block ∷ []) (frame 1 0 m (take frame_limit block) ∷ more_list (length block) m (drop frame_limit block))) [] 0 0 0
    by_test true = whole_head n m block
    by_test false = open_head n m (take frame_limit block) (more_list (length block) m (drop frame_limit block)) (more_sums n (length block) m (drop frame_limit block))

-- trailers end the stream once
pub trailer_sums : (n m : ℕ) (block : List ℕ) → Sums n (head_list m 1 block) [] 0 0 (once (eqb m n))
unfolding head_list
trailer_sums n m block = by_test (leb (length block) frame_limit)
  where
    by_test : (b : Bool) → Sums n (cond b (frame 1 (1 + 4) m block ∷ []) (frame 1 1 m (take frame_limit block) ∷ more_list (length block) m (drop frame_limit block))) [] 0 0 (once (eqb m n))
    by_test true = whole_trailers n m block
    by_test false = open_trailers n m (take frame_limit block) (more_list (length block) m (drop frame_limit block)) (more_sums n (length block) m (drop frame_limit block))

pub reset_sums : (n m : ℕ) (payload : List ℕ) → Sums n (frame 3 0 m payload ∷ []) [] 0 0 (once (eqb m n))
unfolding frame_text frame_grant data_length is_end
reset_sums n m payload = one_more n (frame 3 0 m payload) [] (once (eqb m n)) refl refl refl (one_end (eqb m n)) (none n)

pub goaway_sums : (n : ℕ) (payload : List ℕ) → Sums n (frame 7 0 0 payload ∷ []) [] 0 0 0
unfolding frame_text frame_grant data_length is_end
goaway_sums n payload = one_more n (frame 7 0 0 payload) [] 0 refl refl refl (no_end (eqb 0 n)) (none n)

-- ---- calls

replied_sums : (n : ℕ) (s : State) (fs : List Frame) → Sums n fs [] 0 0 0 → Sums n (replied s fs) [] 0 0 0
replied_sums n s fs h = by_test (is_flooded s fs)
  where
    by_test : (b : Bool) → Sums n (cond b (goaway_list s 11) fs) [] 0 0 0
    by_test true = goaway_sums n (to_be_bytes w32 (highest_of_peer s) ++ to_be_bytes w32 11)
    by_test false = h

reset_replied : (m n code : ℕ) (s : State) → Sums m (replied s (reset_list n code)) [] 0 0 (cond (is_flooded s (reset_list n code)) 0 (once (eqb n m)))
reset_replied m n code s = by_test (is_flooded s (reset_list n code))
  where
    by_test : (b : Bool) → Sums m (cond b (goaway_list s 11) (reset_list n code)) [] 0 0 (cond b 0 (once (eqb n m)))
    by_test true = goaway_sums m (to_be_bytes w32 (highest_of_peer s) ++ to_be_bytes w32 11)
    by_test false = reset_sums m n (to_be_bytes w32 code)

pub calls_bring : WrittenIsRead → CallsAreWritten → CallsAreCarried
calls_bring read written s n m h = record {
  begin = λ fields e. brings read m (begin_list s fields) [] 0 0 0 ((written s n h).begin fields e).limits (head_sums m (next_number s) (block_of s.encoder fields));
  answer = λ fields e. brings read m (answer_list s n fields) [] 0 0 0 ((written s n h).answer fields e).limits (replied_sums m s (head_list n 0 (block_of s.encoder fields)) (head_sums m n (block_of s.encoder fields)));
  reset = λ code e. brings read m (replied s (reset_list n code)) [] 0 0 (cond (is_flooded s (reset_list n code)) 0 (once (eqb n m))) ((written s n h).reset code e).limits (reset_replied m n code s);
}

-- ---- moves

increment_is : (x : ℕ) → x < 2147483648 → increment_of (to_be_bytes w32 x) ≡ x
unfolding increment_of
increment_is x low = let e = from_be_bytes-to_be_bytes_4 x (omega arith) in ap (λ k. k % 2147483648) e ∙ omega arith

grant_sum : (b : Bool) (x : ℕ) → x < 2147483648 → cond b (increment_of (to_be_bytes w32 x)) 0 + 0 ≡ cond b x 0
grant_sum true x low = let e = increment_is x low in omega arith
grant_sum false x low = refl

owed_low : (s : State) → Holds s → s.owed < 2147483648
owed_low s h = let e = h.sum in let room = h.room in omega (arith, ints)

stream_owed_low : (s : State) (n : ℕ) (st : Stream) → Holds s → stream_at s.streams n ≡ Some st → st.owed < 2147483648
stream_owed_low s n st h e =
    let sum = all_at HasSum s.streams n st h.sums e in
    let room = all_at HasRoom s.streams n st h.rooms e in
    omega (arith, ints)

-- ---- the opening

settings_sums : (n : ℕ) (payload : List ℕ) → Sums n (frame 4 0 0 payload ∷ []) [] 0 0 0
unfolding frame_text frame_grant data_length is_end
settings_sums n payload = one_more n (frame 4 0 0 payload) [] 0 refl refl refl (no_end (eqb 0 n)) (none n)

raise_sums : (n x : ℕ) → x < 2147483648 → Sums n (frame 8 0 0 (to_be_bytes w32 x) ∷ []) [] (cond (eqb 0 n) x 0) 0 0
unfolding texts_in frame_text grants_in frame_grant data_lengths_in data_length ends_in is_end
raise_sums n x low = record { text = refl; grants = grant_sum (eqb 0 n) x low; taken = refl; ends = alone (once (eqb 0 n && false)) 0 (no_end (eqb 0 n)) }

opening_sums : (n : ℕ) (payload : List ℕ) → Sums n (frame 4 0 0 payload ∷ frame 8 0 0 (to_be_bytes w32 (connection_window - default_window)) ∷ []) [] (cond (eqb 0 n) (connection_window - default_window) 0) 0 0
opening_sums n payload =
    let raised = cond (eqb 0 n) (connection_window - default_window) 0 in
    let both = sums_on n (frame 4 0 0 payload ∷ []) (frame 8 0 0 (to_be_bytes w32 (connection_window - default_window)) ∷ []) [] [] 0 raised 0 0 0 0
    (settings_sums n payload) (raise_sums n (connection_window - default_window) (omega arith)) in
    record { text = both.text; grants = both.grants ∙ plus_none raised; taken = both.taken; ends = both.ends }
  where
    plus_none : (x : ℕ) → 0 + x ≡ x
    plus_none x = omega arith

pub openings_bring : WrittenIsRead → ((role : Role) → OpeningIsWritten role) → OpeningsAreCarried
openings_bring read written Server n = brings read n (opening_list Server) [] (cond (eqb 0 n) (connection_window - default_window) 0) 0 0 (written Server).limits (opening_sums n (setting_text 3 stream_limit ++ setting_text 6 list_limit))
openings_bring read written Client n = brings read n (opening_list Client) [] (cond (eqb 0 n) (connection_window - default_window) 0) 0 0 (written Client).limits (opening_sums n (setting_text 2 0 ++ setting_text 6 list_limit))

-- ---- the grants, lengths and ends of a move

grants_by : (s : State) (m : Move) (o : Option Stream) (n : ℕ) → Holds s → stream_at s.streams (target m) ≡ o → grants_in n (made_frames s m o) ≡ granted_by n s m
unfolding grants_in frame_grant
grants_by s GrantAll o n h e = grant_sum (eqb 0 n) s.owed (owed_low s h)
grants_by s (Grant k) None n h e = by_test (eqb k n)
  where
    by_test : (b : Bool) → 0 ≡ cond b (owed_in (stream_at s.streams k)) 0
    by_test true = sym (ap owed_in e)
    by_test false = refl
grants_by s (Grant k) (Some st) n h e = grant_sum (eqb k n) st.owed (stream_owed_low s k st h e) ∙ ap (λ x. cond (eqb k n) x 0) (sym (ap owed_in e))
grants_by s (Send k count) None n h e = refl
grants_by s (Send k count) (Some st) n h e = refl
grants_by s (End k) None n h e = refl
grants_by s (End k) (Some st) n h e = by_finish st.finish
  where
    by_role : (b : Bool) (block : List ℕ) → grants_in n (cond b (frame 0 1 k [] ∷ []) (head_list k 1 block)) ≡ 0
    by_role true block = refl
    by_role false block = (trailer_sums n k block).grants

    by_finish : (finish : Option (List Field)) → grants_in n (end_list s k finish) ≡ 0
    by_finish None = refl
    by_finish (Some trailers) = by_role (is_client s.role) (block_of s.encoder trailers)
grants_by s (Stop k) None n h e = refl
grants_by s (Stop k) (Some st) n h e = refl

take_none : (i : ℕ) (xs : List ℕ) → xs ≡ [] → length (take i xs) ≡ 0
take_none i xs e = let long = length-take i xs in let empty = ap (λ (l : List ℕ). length l) e in omega arith

lengths_by : (s : State) (m : Move) (o : Option Stream) (n : ℕ) → stream_at s.streams (target m) ≡ o → data_lengths_in n (made_frames s m o) ≡ length (moved_text n s m)
unfolding data_lengths_in data_length
lengths_by s GrantAll o n e = refl
lengths_by s (Grant k) None n e = refl
lengths_by s (Grant k) (Some st) n e = refl
lengths_by s (Send k count) None n e = by_test (eqb k n) refl
  where
    by_test : (b : Bool) → eqb k n ≡ b → 0 ≡ length (cond b (take count (queue_of s n)) [])
    by_test true t =
        let here : queue_of s n ≡ [] = ap (λ i. queue_in (stream_at s.streams i)) (sym (eqb-true k n t)) ∙ ap queue_in e in
        sym (take_none count (queue_of s n) here)
    by_test false t = refl
lengths_by s (Send k count) (Some st) n e = by_test (eqb k n) refl
  where
    by_test : (b : Bool) → eqb k n ≡ b → cond b (length (take count st.queue)) 0 + 0 ≡ length (cond b (take count (queue_of s n)) [])
    by_test true t =
        let here : queue_of s n ≡ st.queue = ap (λ i. queue_in (stream_at s.streams i)) (sym (eqb-true k n t)) ∙ ap queue_in e in
        let same : length (take count (queue_of s n)) ≡ length (take count st.queue) = ap (λ q. length (take count q)) here in
        omega arith
    by_test false t = refl
lengths_by s (End k) None n e = refl
lengths_by s (End k) (Some st) n e = by_finish st.finish
  where
    by_role : (b : Bool) (block : List ℕ) → data_lengths_in n (cond b (frame 0 1 k [] ∷ []) (head_list k 1 block)) ≡ 0
    by_role true block = no_length (eqb k n)
      where
        no_length : (b : Bool) → cond b 0 0 + 0 ≡ 0
        no_length true = refl
        no_length false = refl
    by_role false block = (trailer_sums n k block).taken

    by_finish : (finish : Option (List Field)) → data_lengths_in n (end_list s k finish) ≡ 0
    by_finish None = refl
    by_finish (Some trailers) = by_role (is_client s.role) (block_of s.encoder trailers)
lengths_by s (Stop k) None n e = refl
lengths_by s (Stop k) (Some st) n e = refl

ends_by : (s : State) (m : Move) (o : Option Stream) (n : ℕ) → stream_at s.streams (target m) ≡ o → may s m ≡ true → ends_in n (made_frames s m o) ≡ ended_by n m
unfolding ends_in is_end
ends_by s GrantAll o n e ok = alone (once (eqb 0 n && false)) 0 (no_end (eqb 0 n))
ends_by s (Grant k) None n e ok = refl
ends_by s (Grant k) (Some st) n e ok = alone (once (eqb k n && false)) 0 (no_end (eqb k n))
ends_by s (Send k count) None n e ok = refl
ends_by s (Send k count) (Some st) n e ok = alone (once (eqb k n && false)) 0 (no_end (eqb k n))
ends_by s (End k) o n e ok =
    let here = found_open s.streams k can_end (move_parts s (End k) ok).due in
    subst (λ (x : Option Stream). ends_in n (made_frames s (End k) x) ≡ once (eqb k n)) (sym here.1.found ∙ e) (by_list here.0.finish (end_parts here.0 here.1.passed).asked)
  where
    by_role : (b : Bool) (block : List ℕ) → ends_in n (cond b (frame 0 1 k [] ∷ []) (head_list k 1 block)) ≡ once (eqb k n)
    by_role true block = alone (once (eqb k n && true)) (once (eqb k n)) (one_end (eqb k n))
    by_role false block = (trailer_sums n k block).ends

    by_list : (finish : Option (List Field)) → is_some finish ≡ true → ends_in n (end_list s k finish) ≡ once (eqb k n)
    by_list None a = absurd cc
    by_list (Some trailers) a = by_role (is_client s.role) (block_of s.encoder trailers)
ends_by s (Stop k) o n e ok =
    let here = found_open s.streams k can_stop (move_parts s (Stop k) ok).due in
    subst (λ (x : Option Stream). ends_in n (made_frames s (Stop k) x) ≡ once (eqb k n)) (sym here.1.found ∙ e) (alone (once (eqb k n && true)) (once (eqb k n)) (one_end (eqb k n)))

move_sums : MovesAreWritten → (s : State) (m : Move) (n : ℕ) → Holds s → may s m ≡ true → Sums n (move_frames s m) (moved_text n s m) (granted_by n s m) (length (moved_text n s m)) (ended_by n m)
unfolding move_frames
move_sums written s m n h ok = record {
  text = (written s m h ok).text n;
  grants = grants_by s m (stream_at s.streams (target m)) n h refl;
  taken = lengths_by s m (stream_at s.streams (target m)) n refl;
  ends = ends_by s m (stream_at s.streams (target m)) n refl ok;
}

pub moves_bring : WrittenIsRead → MovesAreWritten → MovesBring
moves_bring read written s m n h ok =
    brings read n (move_frames s m) (moved_text n s m) (granted_by n s m) (length (moved_text n s m)) (ended_by n m) (written s m h ok).limits (move_sums written s m n h ok)

fill_sums : MovesAreWritten → (old new : State) (ms : List Move) (n : ℕ) → Holds old → Makes old ms new → Sums n (moves_list old ms) (sent n old ms) (granted_in n old ms) (length (sent n old ms)) (ended_in n ms)
unfolding texts_in grants_in data_lengths_in ends_in
fill_sums written old new [] n h makes = record { text = refl; grants = refl; taken = refl; ends = refl }
fill_sums written old new (m ∷ ms) n h makes =
    let next = after_move old m in
    let one = move_sums written old m n h makes.0 in
    let rest = fill_sums written next new ms n (move_keeps old m h makes.0) makes.1 in
    let both = sums_on n (move_frames old m) (moves_list next ms) (moved_text n old m) (sent n next ms) (granted_by n old m) (granted_in n next ms) (length (moved_text n old m)) (length (sent n next ms)) (ended_by n m) (ended_in n ms) one rest in
    record {
      text = both.text;
      grants = both.grants;
      taken = both.taken ∙ sym (length-append (moved_text n old m) (sent n next ms));
      ends = both.ends;
    }

pub fills_bring : WrittenIsRead → MovesAreWritten → FillsAreWritten → FillsBring
fills_bring read moves written old new ms n h makes =
    brings read n (moves_list old ms) (sent n old ms) (granted_in n old ms) (length (sent n old ms)) (ended_in n ms) (written old new ms h makes).limits (fill_sums moves old new ms n h makes)
