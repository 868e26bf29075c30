-- What an end writes where there is room: what every move changes of it.
use Rattle.std.proofs.Common.{◌≡◌, inl, inr, ◌≤◌, ◌+◌, ℤ, pos, ◌+ℤ◌, ◌-ℤ◌, ℕ, zero, suc, Bool, true, false, not, length, take, drop, length-drop, length-take, List, [], ◌∷◌, Option, Some, None, refl, sym, ap, ◌∙◌, subst, arith, if◌then◌else◌}
use Rattle.std.specs.Prelude.{nat_le}
use Rattle.std.proofs.lemmas.Int.{ints}
use Rattle.kn_frames.specs.declared.frame.Frame.{Frame}
use Rattle.kn_frames.specs.Readers.{Reading, in_frames}
use Rattle.kn_hpack.specs.Fields.{Field}
use Rattle.kn_hpack.specs.Encoding.{block_of}
use Rattle.kn_h2_state.specs.declared.moves.Move.{Move}
use Rattle.kn_h2_state.specs.declared.moves.Move.TheVariants.{GrantAll, Grant, Send, End, Stop}
use Rattle.kn_h2_state.specs.declared.stream.Stream.{Stream}
use Rattle.kn_h2_state.specs.declared.state.State.{State}
use Rattle.kn_h2_state.specs.Limits.{frame_limit}
use Rattle.kn_h2_state.specs.Streams.{stream_at, change}
use Rattle.kn_h2_state.specs.Rules.{is_client}
use Rattle.kn_h2_state.specs.Feeding.{after_frames}
use Rattle.kn_h2_state.specs.Holding.{Holds}
use Rattle.kn_h2_state.specs.Preorder.{HearsMore}
use Rattle.kn_h2_state.specs.Moves.{may, can_send, made, target, after_move, granted, sent_some, own_ended, stopped}
use Rattle.kn_h2_state.specs.Wire.{frame, ends_in, grants_in, data_lengths_in, more_list, head_list, end_list, made_frames, move_frames, moved_text, WrittenIsRead, MovesAreWritten, IsBetweenFrames}
use Rattle.kn_h2_state.proofs.BorneLemmas.{rises, climbing, rises_change, at_change, at_tidied}
use Rattle.kn_h2_state.proofs.SeenLemmas.{Climbs, climbs, none_below}
use Rattle.kn_h2_state.proofs.TellLaws.{moves_are_quiet}
use Rattle.kn_h2.specs.Sending.{MoveKeeps, Spends, spent_by, spent}
use Rattle.kn_h2.specs.Windows.{MoveShifts, ConnectionRises}
use Rattle.kn_h2.specs.Written.{MovesBring, granted_by, granted_in, ended_by}
use Rattle.kn_h2.proofs.FoundLemmas.{found_open}
use Rattle.kn_h2.proofs.MoveLemmas.{move_parts, send_parts}
use Rattle.kn_facing.specs.Facing.{IsFollowed, Awaits, AreTaken}
use Rattle.kn_facing.specs.Sums.{MayCome, MayGo}
use Rattle.kn_facing.specs.Faces.{all_lengths, AnswersFirst, IsEnd, IsStep}
use Rattle.kn_facing.proofs.FaceLemmas.{Known}
use Rattle.kn_facing.proofs.OwnSumLemmas.{move_opened, moves_shift_both}
use Rattle.kn_facing.proofs.ReadStep.{FirstOf, first_at}
use Rattle.kn_facing.proofs.UnendedLemmas.{unended_move}

-- the laws of the crates below on moves
pub record Moving : Type 0 where
  pub keeps : MoveKeeps
  pub shifts : MoveShifts
  pub spends : Spends
  pub rises : ConnectionRises
  pub brings : MovesBring
  pub read : WrittenIsRead
  pub written : MovesAreWritten

-- ---- what stays

move_initial : (s : State) (m : Move) → (after_move s m).initial ≡ s.initial
unfolding after_move
move_initial s m = by_found m (stream_at s.streams (target m))
  where
    by_found : (m : Move) (o : Option Stream) → (made s m o).initial ≡ s.initial
    by_found GrantAll o = refl
    by_found (Grant n) None = refl
    by_found (Grant n) (Some st) = refl
    by_found (Send n count) None = refl
    by_found (Send n count) (Some st) = refl
    by_found (End n) None = refl
    by_found (End n) (Some st) = refl
    by_found (Stop n) None = refl
    by_found (Stop n) (Some st) = refl

climbs_changed : (s : State) (k : ℕ) (f : Stream → Stream) → ((st : Stream) → (f st).number ≡ st.number) → Holds s → Climbs 0 (change s.streams k f)
climbs_changed s k f number holds = climbing 0 s.opened (change s.streams k f) (rises_change 0 s.opened s.streams k f number (rises 0 s.opened s.streams holds.rising))

dropped : (count : ℕ) (xs : List ℕ) → length xs ≡ 0 → length (drop count xs) ≡ 0
dropped count xs e = let d = length-drop count xs in omega (arith, d, e)

move_first : (s : State) (m : Move) → Holds s → (after_move s m).role ≡ s.role → AnswersFirst s → AnswersFirst (after_move s m)
unfolding after_move
move_first s m holds role first server n st at e = subst FirstOf at (by_found m (stream_at s.streams (target m))) e
  where
    here : is_client s.role ≡ false
    here = ap is_client (sym role) ∙ server

    q : FirstOf (stream_at s.streams n)
    q = first_at s n first here (stream_at s.streams n) refl

    by_found : (m : Move) (o : Option Stream) → FirstOf (stream_at (made s m o).streams n)
    by_found GrantAll o = q
    by_found (Grant k) None = q
    by_found (Grant k) (Some st) = at_change FirstOf s.streams k n granted (λ st. refl) (λ st h. h) q
    by_found (Send k count) None = q
    by_found (Send k count) (Some st) = at_change FirstOf s.streams k n (sent_some count) (λ st. refl) (λ st h e. (dropped count st.queue (h e).0, (h e).1)) q
    by_found (End k) None = q
    by_found (End k) (Some st) =
        at_tidied FirstOf 0 n (change s.streams k (own_ended (not (is_client s.role)))) (λ st g h. tt) (climbs_changed s k (own_ended (not (is_client s.role))) (λ st. refl) holds)
        (at_change FirstOf s.streams k n (own_ended (not (is_client s.role))) (λ st. refl) (λ st h e. ((h e).0, refl)) q)
    by_found (Stop k) None = q
    by_found (Stop k) (Some st) =
        at_tidied FirstOf 0 n (change s.streams k stopped) (λ st g h. tt) (climbs_changed s k stopped (λ st. refl) holds)
        (at_change FirstOf s.streams k n stopped (λ st. refl) (λ st h. h) q)

-- ---- what its frames come to

no_data_more : (fuel n : ℕ) (block : List ℕ) → all_lengths (more_list fuel n block) ≡ 0
unfolding more_list all_lengths
no_data_more zero n block = refl
no_data_more (suc fuel) n block = by_test (nat_le (length block) frame_limit) (no_data_more fuel n (drop frame_limit block))
  where
    by_test : (b : Bool) → all_lengths (more_list fuel n (drop frame_limit block)) ≡ 0
        → all_lengths (if b then frame 9 4 n block ∷ [] else frame 9 0 n (take frame_limit block) ∷ more_list fuel n (drop frame_limit block)) ≡ 0
    by_test true e = refl
    by_test false e = omega (arith, e)

pub no_data_head : (n flags : ℕ) (block : List ℕ) → all_lengths (head_list n flags block) ≡ 0
unfolding head_list all_lengths
no_data_head n flags block = by_test (nat_le (length block) frame_limit) (no_data_more (length block) n (drop frame_limit block))
  where
    by_test : (b : Bool) → all_lengths (more_list (length block) n (drop frame_limit block)) ≡ 0
        → all_lengths (if b then frame 1 (flags + 4) n block ∷ [] else frame 1 flags n (take frame_limit block) ∷ more_list (length block) n (drop frame_limit block)) ≡ 0
    by_test true e = refl
    by_test false e = omega (arith, e)

taken_long : (count : ℕ) (xs : List ℕ) → count ≤ length xs → length (take count xs) + 0 ≡ count
taken_long count xs fits = let e = length-take count xs in omega (arith, e, fits)

all_moved : (s : State) (m : Move) → may s m ≡ true → all_lengths (move_frames s m) ≡ spent_by m
unfolding move_frames all_lengths
all_moved s GrantAll ok = refl
all_moved s (Grant n) ok = by_found (stream_at s.streams n)
  where
    by_found : (o : Option Stream) → all_lengths (made_frames s (Grant n) o) ≡ 0
    by_found None = refl
    by_found (Some st) = refl
all_moved s (Send n count) ok =
    let found = found_open s.streams n (can_send count s.send) (move_parts s (Send n count) ok).due in
    ap (λ (o : Option Stream). all_lengths (made_frames s (Send n count) o)) found.1.found ∙ taken_long count found.0.queue (send_parts count s.send found.0 found.1.passed).queued
all_moved s (End n) ok = by_found (stream_at s.streams n)
  where
    by_role : (b : Bool) (block : List ℕ) → all_lengths (if b then frame 0 1 n [] ∷ [] else head_list n 1 block) ≡ 0
    by_role true block = refl
    by_role false block = no_data_head n 1 block

    by_finish : (finish : Option (List Field)) → all_lengths (end_list s n finish) ≡ 0
    by_finish None = refl
    by_finish (Some trailers) = by_role (is_client s.role) (block_of s.encoder trailers)

    by_found : (o : Option Stream) → all_lengths (made_frames s (End n) o) ≡ 0
    by_found None = refl
    by_found (Some st) = by_finish st.finish
all_moved s (Stop n) ok = by_found (stream_at s.streams n)
  where
    by_found : (o : Option Stream) → all_lengths (made_frames s (Stop n) o) ≡ 0
    by_found None = refl
    by_found (Some st) = refl

-- there is no stream 0
no_zero_go : (s : State) (n : ℕ) (x : ℤ) → Holds s → n ≡ 0 → MayGo s n x → ⊥
no_zero_go s n x holds is_none (inr (low, is)) = omega (arith, is_none, low)
no_zero_go s n x holds is_none (inl (a, at, up, is)) = let none : stream_at s.streams n ≡ None = none_below 0 n s.streams (omega (arith, is_none)) (climbs 0 s.opened s.streams holds.rising) in absurd cc

no_zero_come : (s : State) (n : ℕ) (y : ℤ) → Holds s → n ≡ 0 → MayCome s n y → ⊥
no_zero_come s n y holds is_none (inr (low, is)) = omega (arith, is_none, low)
no_zero_come s n y holds is_none (inl (a, at, up, is)) = let none : stream_at s.streams n ≡ None = none_below 0 n s.streams (omega (arith, is_none)) (climbs 0 s.opened s.streams holds.rising) in absurd cc

-- ---- any move, where the other end takes its frames

pub record MoveTaken (s : State) (m : Move) (u : State) : Type 0 where
  pub taken : AreTaken u (move_frames s m)
  pub followed : IsFollowed (after_move s m) (after_frames u (move_frames s m))
  pub awaits : Awaits (after_move s m) (after_frames u (move_frames s m))

spent_sum : (x y : ℤ) (k all one : ℕ) → y ≡ (x -ℤ pos k) → k ≡ one + 0 → all ≡ one → x ≡ (y +ℤ pos all)
spent_sum x y k all one e f g = omega (arith, ints, e, f, g)

rise_sum : (x y : ℤ) (k all one : ℕ) → y ≡ (x +ℤ pos k) → k ≡ one + 0 → all ≡ one → y ≡ (x +ℤ pos all)
rise_sum x y k all one e f g = omega (arith, ints, e, f, g)

pub move_step : Known → Moving → (s : State) (m : Move) (u : State) → IsEnd s → may s m ≡ true → MoveTaken s m u → IsStep s (after_move s m) (move_frames s m) u
move_step k v s m u e ok t = record {
  still = record {
    holds = holds;
    facts = (k.facts s e.holds e.facts).move m;
    goes = (moves_are_quiet s m).failed ∙ e.goes;
    initial = move_initial s m ∙ e.initial;
    one = let same = move_opened s m in let few = e.one in omega (arith, same, few);
    first = move_first s m e.holds (k.roles.move s m) e.first;
  };
  role = k.roles.move s m;
  hears = hears;
  limits = (v.written s m e.holds ok).limits;
  taken = t.taken;
  followed = t.followed;
  awaits = t.awaits;
  ends = λ n g. ends n ∙ unended_move s m n e.holds e.facts ok hears g;
  goes = goes;
  comes = comes;
  all_goes = spent_sum s.send (after_move s m).send (spent (m ∷ [])) (all_lengths (move_frames s m)) (spent_by m) (v.spends s (after_move s m) (m ∷ []) (ok, refl)) refl (all_moved s m ok);
  all_comes = rise_sum s.receive (after_move s m).receive (granted_in 0 s (m ∷ [])) (grants_in 0 (move_frames s m)) (granted_by 0 s m) (v.rises s (after_move s m) (m ∷ []) e.holds (ok, refl)) refl (grants 0);
}
  where
    holds : Holds (after_move s m)
    holds = v.keeps s m e.holds ok

    hears : HearsMore s (after_move s m)
    hears = (k.steps s e.holds e.facts.known).move m e.facts.ended ok

    reader : Reading
    reader = in_frames [] 0

    between : IsBetweenFrames reader
    between = (0, refl)

    lengths : (n : ℕ) → data_lengths_in n (move_frames s m) ≡ length (moved_text n s m)
    lengths n = ap (λ (fs : List Frame). data_lengths_in n fs) (sym (v.read (move_frames s m) reader (v.written s m e.holds ok).limits between).frames) ∙ (v.brings s m n e.holds ok reader between).taken

    grants : (n : ℕ) → grants_in n (move_frames s m) ≡ granted_by n s m
    grants n = ap (λ (fs : List Frame). grants_in n fs) (sym (v.read (move_frames s m) reader (v.written s m e.holds ok).limits between).frames) ∙ (v.brings s m n e.holds ok reader between).grants

    ends : (n : ℕ) → ends_in n (move_frames s m) ≡ ended_by n m
    ends n = ap (λ (fs : List Frame). ends_in n fs) (sym (v.read (move_frames s m) reader (v.written s m e.holds ok).limits between).frames) ∙ (v.brings s m n e.holds ok reader between).ends

    goes : (n : ℕ) (x : ℤ) → MayGo (after_move s m) n x → MayGo s n (x +ℤ pos (data_lengths_in n (move_frames s m)))
    goes n x g =
        subst (λ (j : ℕ). MayGo s n (x +ℤ pos j)) (sym (lengths n))
        ((moves_shift_both k.steps v.keeps v.shifts s m n e.holds e.facts ok (λ is_none. no_zero_go (after_move s m) n x holds is_none g)).goes x g)

    comes : (n : ℕ) (y : ℤ) → MayCome (after_move s m) n y → MayCome s n (y -ℤ pos (grants_in n (move_frames s m)))
    comes n y g =
        subst (λ (j : ℕ). MayCome s n (y -ℤ pos j)) (sym (grants n))
        ((moves_shift_both k.steps v.keeps v.shifts s m n e.holds e.facts ok (λ is_none. no_zero_come (after_move s m) n y holds is_none g)).comes y g)
