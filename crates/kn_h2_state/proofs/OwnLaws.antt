-- What the peer's frames leave of this end's half of a stream.
use Rattle.std.proofs.Common.{◌≡◌, ◌⊎◌, inl, inr, ℕ, ◌≤◌, ◌+ℤ◌, ◌-ℤ◌, pos, Bool, true, false, ◌&&◌, ◌||◌, List, [], ◌∷◌, length, Option, Some, None, is_some, is_none, refl, sym, ap, ◌∙◌, subst, arith, if◌then◌else◌}
use Rattle.std.specs.Prelude.{◌==◌}
use Rattle.std.specs.List.{AllByRecursion}
use Rattle.std.proofs.lemmas.List.{nil_from_length}
use Rattle.std.proofs.lemmas.Bool.{eqb-true, and_parts, or_parts}
use Rattle.kn_frames.specs.declared.frame.Frame.{Frame}
use Rattle.kn_frames.specs.declared.fault.FrameFault.{FrameFault}
use Rattle.kn_frames.specs.Readers.{after_bytes, frames_in, fault_in}
use Rattle.kn_hpack.specs.Fields.{Field}
use Rattle.kn_h2_state.specs.declared.event.H2Event.{H2Event}
use Rattle.kn_h2_state.specs.declared.stream.Stream.{Stream}
use Rattle.kn_h2_state.specs.declared.state.State.{State}
use Rattle.kn_h2_state.specs.Streams.{stream_at, is_open, is_kept}
use Rattle.kn_h2_state.specs.Rules.{is_client}
use Rattle.kn_h2_state.specs.Effects.{fail}
use Rattle.kn_h2_state.specs.Feeding.{Connection, frame_code, after_frame, after_frames, after_fault, after_piece}
use Rattle.kn_h2_state.specs.Holding.{is_at_rest, Holds}
use Rattle.kn_h2_state.specs.Own.{OwnHalf, own_half, own_at, is_over, MayEnd, FramesLeaveOwn, PiecesLeaveOwn, OverStaysOver}
use Rattle.kn_h2_state.proofs.OwnFactLaws.{role_frame}
use Rattle.kn_h2_state.proofs.BorneLemmas.{Rises, rises, Bears, Borne, borne_by, borne_frame, borne_start, borne_fail}

-- ---- a half that is at rest

-- where it has ended nothing waits
abbrev IsRest : Option Stream → Type 0
IsRest None = Unit {0}
IsRest (Some st) = is_at_rest st ≡ true

none_of : (o : Option (List Field)) → is_none o ≡ true → o ≡ None
none_of None e = refl
none_of (Some x) e = absurd cc

rest_over : (st : Stream) → is_kept st ≡ false → is_at_rest st ≡ true → own_half (Some st) ≡ is_over
rest_over st gone rest =
    let halves : is_open st ≡ false = (or_parts (is_open st) _ gone).0 in
    let own : st.own_open ≡ false = (or_parts st.peer_open st.own_open halves).1 in
    let waits : ((length st.queue == 0) && is_none st.finish) ≡ true = subst (λ b. (b || ((length st.queue == 0) && is_none st.finish)) ≡ true) own rest in
    let parts = and_parts (length st.queue == 0) (is_none st.finish) waits in
    let queue : st.queue ≡ [] = nil_from_length st.queue (eqb-true (length st.queue) 0 parts.0) in
    let finish : st.finish ≡ None = none_of st.finish parts.1 in
    rw (queue, own, finish) refl

rest_at : (ss : List Stream) (n : ℕ) → AllByRecursion (λ st. is_at_rest st ≡ true) ss → IsRest (stream_at ss n)
unfolding stream_at
rest_at [] n all = tt
rest_at (x ∷ ss) n all = by_test (x.number == n) (rest_at ss n all.1)
  where
    by_test : (b : Bool) → IsRest (stream_at ss n) → IsRest (if b then Some x else stream_at ss n)
    by_test true rest = all.0
    by_test false rest = rest

-- ---- as it was, or over

abbrev Left : Type 0 → OwnHalf → Option Stream → Type 0
Left P was o = IsRest o × ((own_half o ≡ was) ⊎ (P × (own_half o ≡ is_over)))

left_gone : (P : Type 0) (was : OwnHalf) (st : Stream) → is_kept st ≡ false → Left P was (Some st) → Left P was None
left_gone P was st gone q = (
  tt,
  elim q.1 [
    | inl e ↦ inl (sym (rest_over st gone q.0) ∙ e)
    | inr e ↦ inr (e.0, refl)
  ],
)

bears_left : (c : Bool) (P : Type 0) (was : OwnHalf) (n low : ℕ) → n ≤ low → Bears c P (Left P was) n low
bears_left c P was n low le = record {
  gone = left_gone P was;
  texts = λ k text st q. q;
  ends = λ st q. q;
  heads = λ e st q. q;
  shuts = λ p st q. (refl, inr (p, refl));
  cuts = λ p st q. (refl, inr (p, refl));
  grants = λ by st q. grant by (is_open st) st q;
  shifts = λ old new st q. shift old new (is_open st) st q;
  fresh = λ m t above same. absurd (omega (arith, above, same, le));
}
  where
    grant : (by : ℕ) (b : Bool) (st : Stream) → Left P was (Some st) → Left P was (Some (if b then record st { send = st.send +ℤ pos by } else st))
    grant by true st q = q
    grant by false st q = q

    shift : (old new : ℕ) (b : Bool) (st : Stream) → Left P was (Some st) → Left P was (Some (if b then record st { send = st.send +ℤ (pos new -ℤ pos old) } else st))
    shift old new true st q = q
    shift old new false st q = q

left_start : (P : Type 0) (s : State) (n : ℕ) → Holds s → Left P (own_at s n) (stream_at s.streams n)
left_start P s n h = (rest_at s.streams n h.rest, inl refl)

pub frames_leave_own : FramesLeaveOwn
frames_leave_own s f n h le =
    let P : Type 0 = MayEnd s f in
    (borne_by (bears_left (is_client s.role) P (own_at s n) n s.opened le) s f (λ m. m) refl
    (borne_start {Q = Left P (own_at s n)} {n = n} s (rises 0 s.opened s.streams h.rising) (left_start P s n h))).there.1

-- ---- many frames, and a piece

borne_frames : {Q : Option Stream → Type 0} {n low : ℕ} {base : List H2Event} (c : Bool) (k : Bears c (Unit {0}) Q n low) (t : State) (fs : List Frame)
    → is_client t.role ≡ c → Borne Q n low base t → Borne Q n low base (after_frames t fs)
unfolding after_frames
borne_frames c k t [] role b = b
borne_frames c k t (f ∷ fs) role b = borne_frames c k (after_frame t f) fs (ap is_client (role_frame t f) ∙ role) (borne_frame k t f role b)

borne_fault : {Q : Option Stream → Type 0} {n low : ℕ} {base : List H2Event} (t : State) (o : Option FrameFault) → Borne Q n low base t → Borne Q n low base (after_fault t o)
borne_fault t None b = b
borne_fault {Q} {n} {low} {base} t (Some fault) b = by_failed (is_some t.failed)
  where
    by_failed : (d : Bool) → Borne Q n low base (if d then t else fail (frame_code fault.reason) t)
    by_failed true = b
    by_failed false = borne_fail (frame_code fault.reason) t b

-- what frames keep of a stream a piece keeps
pub borne_piece : {Q : Option Stream → Type 0} {n : ℕ} (c : Connection) (piece : List ℕ) → Bears (is_client c.state.role) (Unit {0}) Q n c.state.opened
    → Rises 0 c.state.opened c.state.streams → Q (stream_at c.state.streams n) → Q (stream_at (after_piece c piece).state.streams n)
unfolding after_piece
borne_piece {Q} {n} c piece k r q = by_failed (is_some c.state.failed)
  where
    after : Connection
    after = record {
      cutter = after_bytes c.cutter piece;
      state = after_fault (after_frames c.state (frames_in c.cutter piece)) (fault_in (after_bytes c.cutter piece).phase);
    }

    by_failed : (d : Bool) → Q (stream_at (if d then c else after).state.streams n)
    by_failed true = q
    by_failed false =
        (borne_fault (after_frames c.state (frames_in c.cutter piece)) (fault_in (after_bytes c.cutter piece).phase)
        (borne_frames (is_client c.state.role) k c.state (frames_in c.cutter piece) refl (borne_start {Q = Q} {n = n} c.state r q))).there

pub pieces_leave_own : PiecesLeaveOwn
pieces_leave_own c piece n h le =
    let left = borne_piece {Q = Left (Unit {0}) (own_at c.state n)} {n = n} c piece (bears_left (is_client c.state.role) (Unit {0}) (own_at c.state n) n c.state.opened le)
    (rises 0 c.state.opened c.state.streams h.rising) (left_start (Unit {0}) c.state n h) in
    elim left.1 [
      | inl e ↦ inl e
      | inr e ↦ inr e.1
    ]

pub over_stays_over : OverStaysOver
over_stays_over c piece n h le over = elim (pieces_leave_own c piece n h le) [
  | inl e ↦ ap (λ (o : OwnHalf). o.own_open) e ∙ over
  | inr e ↦ ap (λ (o : OwnHalf). o.own_open) e
]
