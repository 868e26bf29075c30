-- Moves one after another.
use Rattle.std.proofs.Common.{◌≡◌, ℕ, ◌+◌, ◌-◌, ◌<◌, Bool, true, false, ◌||◌, cond, leb, List, [], ◌∷◌, ◌++◌, length, take, drop, Option, Some, None, is_some, is_none, refl, sym, ap, subst, arith, length-append}
use Rattle.std.specs.Int.{to_be_bytes, w32}
use Rattle.kn_frames.specs.Frames.{spelled}
use Rattle.kn_hpack.specs.Fields.{Field}
use Rattle.kn_hpack.specs.Encoding.{block_of}
use Rattle.kn_h2_state.proofs.FrameLemmas.{length_spelled}
use Rattle.kn_h2_state.specs.declared.moves.Move.{Move}
use Rattle.kn_h2_state.specs.declared.moves.Move.TheVariants.{GrantAll, Grant, Send, End, Stop}
use Rattle.kn_h2_state.specs.declared.stream.Stream.{Stream}
use Rattle.kn_h2_state.specs.declared.state.State.{State}
use Rattle.kn_h2_state.specs.Rules.{is_client}
use Rattle.kn_h2_state.specs.Moves.{may, is_owed, can_send, can_end, can_stop, made, after_move, end_frames, headers_frames, more_headers, Makes, Reaches, is_due}
use Rattle.kn_h2_state.specs.declared.event.H2Event.{H2Event}
use Rattle.kn_h2_state.specs.Outgoing.{taken}
use Rattle.kn_h2_state.specs.Calls.{after_took}
use Rattle.kn_h2.specs.Connections.{NotesDue}
use Rattle.std.proofs.lemmas.Bool.{or_parts, and_right, leb-false, false_from_ne_true}
use Rattle.kn_h2.proofs.FindLemmas.{may_from, sound_if}
use Rattle.kn_h2.proofs.FoundLemmas.{found_open}
use Rattle.kn_h2.proofs.MoveLemmas.{move_parts, end_parts}

pub none_made : (s : State) → Reaches s s
none_made s = ([], refl)

makes_more : (old mid : State) (ms : List Move) (m : Move) → Makes old ms mid → may mid m ≡ true → Makes old (ms ++ m ∷ []) (after_move mid m)
makes_more old mid [] m e ok = (subst (λ (s : State). may s m ≡ true) e ok, ap (λ (s : State). after_move s m) e)
makes_more old mid (x ∷ ms) m makes ok = (makes.0, makes_more (after_move old x) mid ms m makes.1 ok)

pub one_more : (old mid new : State) (m : Move) → Reaches old mid → may mid m ≡ true → new ≡ after_move mid m → Reaches old new
one_more old mid new m reaches ok e = subst (λ (s : State). Reaches old s) (sym e) (reaches.0 ++ m ∷ [], makes_more old mid reaches.0 m reaches.1 ok)

-- a connection that failed writes no more
pub none_of_failed : (old new : State) → Reaches old new → is_some old.failed ≡ true → new ≡ old
none_of_failed old new reaches failed = of_moves reaches.0 reaches.1
  where
    of_moves : (ms : List Move) → Makes old ms new → new ≡ old
    of_moves [] e = e
    of_moves (m ∷ ms) makes = absurd (both old.failed failed (move_parts old m makes.0).sound)
      where
        both : (o : Option ℕ) → is_some o ≡ true → is_none o ≡ true → ⊥
        both None a b = absurd cc
        both (Some code) a b = absurd cc

-- ---- each move writes

spelled_some : (kind flags n : ℕ) (payload : List ℕ) → 0 < length (spelled kind flags n payload)
spelled_some kind flags n payload = let e = length_spelled kind flags n payload in omega arith

headers_some : (n flags : ℕ) (block : List ℕ) → 0 < length (headers_frames n flags block)
unfolding headers_frames
headers_some n flags block = by_test (leb (length block) 16384)
  where
    by_test : (b : Bool) → 0 < length (cond b (spelled 1 (flags + 4) n block) (spelled 1 flags n (take 16384 block) ++ more_headers (length block) n (drop 16384 block)))
    by_test true = spelled_some 1 (flags + 4) n block
    by_test false = let e = spelled_some 1 flags n (take 16384 block) in let long = length-append (spelled 1 flags n (take 16384 block)) (more_headers (length block) n (drop 16384 block)) in omega arith

end_some : (s : State) (n : ℕ) (o : Option (List Field)) → is_some o ≡ true → 0 < length (end_frames s n o)
end_some s n None a = absurd cc
end_some s n (Some fields) a = by_test (is_client s.role)
  where
    by_test : (b : Bool) → 0 < length (cond b (spelled 0 1 n []) (headers_frames n 1 (block_of s.encoder fields)))
    by_test true = spelled_some 0 1 n []
    by_test false = headers_some n 1 (block_of s.encoder fields)

longer : (xs ys : List ℕ) → 0 < length ys → length xs < length (xs ++ ys)
longer xs ys h = let e = length-append xs ys in omega arith

pub move_grows : (s : State) (m : Move) → may s m ≡ true → length s.out.bytes < length (after_move s m).out.bytes
unfolding after_move
move_grows s GrantAll ok = longer s.out.bytes _ (spelled_some 8 0 0 (to_be_bytes w32 s.owed))
move_grows s (Grant n) ok =
    let here = found_open s.streams n is_owed (move_parts s (Grant n) ok).due in
    subst (λ (o : Option Stream). length s.out.bytes < length (made s (Grant n) o).out.bytes) (sym here.1.found) (longer s.out.bytes _ (spelled_some 8 0 n (to_be_bytes w32 here.0.owed)))
move_grows s (Send n count) ok =
    let here = found_open s.streams n (can_send count s.send) (move_parts s (Send n count) ok).due in
    subst (λ (o : Option Stream). length s.out.bytes < length (made s (Send n count) o).out.bytes) (sym here.1.found) (longer s.out.bytes _ (spelled_some 0 0 n (take count here.0.queue)))
move_grows s (End n) ok =
    let here = found_open s.streams n can_end (move_parts s (End n) ok).due in
    subst (λ (o : Option Stream). length s.out.bytes < length (made s (End n) o).out.bytes) (sym here.1.found) (longer s.out.bytes _ (end_some s n here.0.finish (end_parts here.0 here.1.passed).asked))
move_grows s (Stop n) ok =
    let here = found_open s.streams n can_stop (move_parts s (Stop n) ok).due in
    subst (λ (o : Option Stream). length s.out.bytes < length (made s (Stop n) o).out.bytes) (sym here.1.found) (longer s.out.bytes _ (spelled_some 3 0 n (to_be_bytes w32 0)))

-- so less room is left
pub less_room : (s new : State) (m : Move) → may s m ≡ true → new ≡ after_move s m → 16384 - length new.out.bytes < 16384 - length s.out.bytes
less_room s new m ok e =
    let room = (move_parts s m ok).room in
    let grows = move_grows s m ok in
    let same : length new.out.bytes ≡ length (after_move s m).out.bytes = ap (λ (x : State). length x.out.bytes) e in
    omega (arith, room, grows, same)

-- ---- what is noted

-- after everything was written something is due only where the connection has failed or is full
pub noted : (s : State) (b : Bool) → b ≡ (is_some s.failed || leb 16384 (length s.out.bytes)) → ((m : Move) → may s m ≡ false) → NotesDue b s
noted s true e none = tt
noted s false e none =
    let parts = or_parts (is_some s.failed) _ (sym e) in
    λ m. false_from_ne_true _ (λ due. absurd (let can = may_from s m (sound_if s.failed parts.0) (leb-false _ _ parts.1) due in let not : may s m ≡ false = none m in cc))

-- where nothing is noted nothing may be written
pub none_noted : (s : State) (b : Bool) → b ≡ false → NotesDue b s → (m : Move) → may s m ≡ false
unfolding may
none_noted s true e none m = absurd cc
none_noted s false e none m = and_right _ _ (and_right _ _ (none m))

pub notes_told : (s : State) (b : Bool) (es : List H2Event) → NotesDue b s → NotesDue b (record s { events = es })
notes_told s true es none = tt
notes_told s false es none = by_move
  where
    by_move : (m : Move) → is_due (record s { events = es }) m ≡ false
    by_move GrantAll = none GrantAll
    by_move (Grant n) = none (Grant n)
    by_move (Send n count) = none (Send n count)
    by_move (End n) = none (End n)
    by_move (Stop n) = none (Stop n)

pub notes_took : (s : State) (b : Bool) (count : ℕ) → NotesDue b s → NotesDue b (after_took count s)
unfolding after_took
notes_took s true count none = tt
notes_took s false count none = by_move
  where
    by_move : (m : Move) → is_due (record s { out = taken s.out count }) m ≡ false
    by_move GrantAll = none GrantAll
    by_move (Grant n) = none (Grant n)
    by_move (Send n count) = none (Send n count)
    by_move (End n) = none (End n)
    by_move (Stop n) = none (Stop n)
