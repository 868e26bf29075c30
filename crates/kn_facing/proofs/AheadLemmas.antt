-- The windows of an end once it has read what is on its way, and what its peer may write then.
use Rattle.std.proofs.Common.{◌≡◌, ◌<◌, ◌≤◌, ◌+◌, ◌*◌, ◌%◌, ℤ, pos, ◌+ℤ◌, ◌-ℤ◌, ◌≤ℤ◌, ◌&&◌, ◌||◌, ℕ, Bool, true, false, not, eqb, nat_lt, length, List, [], ◌∷◌, Option, Some, None, IfSome, refl, sym, ap, ◌∙◌, subst, arith, if◌then◌else◌}
use Rattle.std.specs.Prelude.{◌==◌}
use Rattle.std.specs.List.{AllByRecursion}
use Rattle.std.proofs.lemmas.Int.{ints}
use Rattle.std.proofs.lemmas.Bool.{ltb-true, ltb-false, eqb-true}
use Rattle.kn_frames.specs.declared.frame.Frame.{Frame}
use Rattle.kn_frames.specs.Frames.{IsWithinLimits}
use Rattle.kn_windows.specs.Windows.{can_spend, can_grow}
use Rattle.kn_h2_state.specs.declared.stream.Stream.{Stream}
use Rattle.kn_h2_state.specs.declared.state.State.{State}
use Rattle.kn_h2_state.specs.InStep.{IsInStep}
use Rattle.kn_h2_state.specs.Limits.{reply_limit, default_window}
use Rattle.kn_h2_state.specs.Outgoing.{reply_bytes}
use Rattle.kn_h2_state.specs.Streams.{stream_at, is_open, on_open, passes}
use Rattle.kn_h2_state.specs.Rules.{is_client, is_idle}
use Rattle.kn_h2_state.specs.Feeding.{after_frame, after_frames}
use Rattle.kn_h2_state.specs.Holding.{Holds, Rising}
use Rattle.kn_h2_state.specs.Wire.{frame_grant, grants_in, data_length, data_lengths_in}
use Rattle.kn_facing.specs.Facing.{IsFollowed, Awaits, AreTaken, asks, asking}
use Rattle.kn_facing.specs.Sums.{MayCome, MayGo}
use Rattle.kn_facing.specs.Faces.{all_lengths}
use Rattle.kn_facing.proofs.FaceLemmas.{Known}
use Rattle.kn_facing.proofs.FollowedLemmas.{is_known}
use Rattle.kn_facing.proofs.RoomLemmas.{Replied, most, few_replies}
use Rattle.kn_facing.proofs.SteadyLemmas.{Steady, steady_frame}
use Rattle.kn_facing.proofs.StepLemmas.{Lower}
use Rattle.kn_facing.proofs.SumLemmas.{frames_take, frames_grant}

-- ---- windows behind all frames

pub record Ahead (t : State) (fs : List Frame) : Type 0 where
  pub send : (after_frames t fs).send ≡ t.send +ℤ pos (grants_in 0 fs)
  pub receive : t.receive ≡ (after_frames t fs).receive +ℤ pos (all_lengths fs)
  pub comes : (n : ℕ) (y : ℤ) → MayCome (after_frames t fs) n y → MayCome t n (y +ℤ pos (data_lengths_in n fs))
  pub goes : (n : ℕ) (x : ℤ) → MayGo (after_frames t fs) n x → MayGo t n (x -ℤ pos (grants_in n fs))

none_on : (x : ℤ) → x ≡ (x +ℤ pos 0)
none_on x = omega (arith, ints)

none_off : (x : ℤ) → x ≡ (x -ℤ pos 0)
none_off x = omega (arith, ints)

send_on : (x y z : ℤ) (g gs all : ℕ) → z ≡ (y +ℤ pos gs) → y ≡ (x +ℤ pos g) → all ≡ g + gs → z ≡ (x +ℤ pos all)
send_on x y z g gs all e f h = omega (arith, ints, e, f, h)

receive_on : (x y z : ℤ) (d ds all : ℕ) → y ≡ (z +ℤ pos ds) → y ≡ (x -ℤ pos d) → all ≡ d + ds → x ≡ (z +ℤ pos all)
receive_on x y z d ds all e f h = omega (arith, ints, e, f, h)

plus_on : (y : ℤ) (d ds : ℕ) → ((y +ℤ pos ds) +ℤ pos d) ≡ (y +ℤ pos (d + ds))
plus_on y d ds = omega (arith, ints)

minus_on : (x : ℤ) (g gs : ℕ) → ((x -ℤ pos gs) -ℤ pos g) ≡ (x -ℤ pos (g + gs))
minus_on x g gs = omega (arith, ints)

pub ahead_of : Known → (t : State) (fs : List Frame) → Holds t → t.failed ≡ None → t.initial ≡ default_window → AllByRecursion IsWithinLimits fs → AreTaken t fs
    → reply_bytes t.out + 17 * asking fs ≤ reply_limit → Ahead t fs
unfolding after_frames AreTaken asking grants_in all_lengths data_lengths_in
ahead_of k t [] holds on first limits taken room = record {
  send = none_on t.send;
  receive = none_on t.receive;
  comes = λ n y m. subst (λ (z : ℤ). MayCome t n z) (none_on y) m;
  goes = λ n x m. subst (λ (z : ℤ). MayGo t n z) (none_off x) m;
}
ahead_of k t (f ∷ fs) holds on first limits taken room =
    let here = taken.0 in
    let reply : Replied (most (asks f)) t (after_frame t f) = few_replies t f on here.kept (omega (arith, room)) in
    let few = reply.few in
    let steady : Steady t (after_frame t f) = steady_frame t f on here.kept here.plain in
    let rest = ahead_of k (after_frame t f) fs (k.keep t f holds limits.0) reply.goes (steady.initial ∙ first) limits.1 taken.1 (omega (arith, room, few)) in
    record {
      send = send_on t.send (after_frame t f).send (after_frames (after_frame t f) fs).send (frame_grant 0 f) (grants_in 0 fs) (frame_grant 0 f + grants_in 0 fs) rest.send (k.shift_all t f on here.kept).send refl;
      receive = receive_on t.receive (after_frame t f).receive (after_frames (after_frame t f) fs).receive (if f.kind == 0 then length f.payload else 0) (all_lengths fs) ((if f.kind == 0 then length f.payload else 0) + all_lengths fs) rest.receive
          (k.shift_all t f on here.kept).receive refl;
      comes = λ n y m. subst (λ (z : ℤ). MayCome t n z) (plus_on y (data_length n f) (data_lengths_in n fs))
          (frames_take k.above k.shift t f n (y +ℤ pos (data_lengths_in n fs)) holds on here.kept (rest.comes n y m));
      goes = λ n x m. subst (λ (z : ℤ). MayGo t n z) (minus_on x (frame_grant n f) (grants_in n fs))
          (frames_grant k.above k.shift t f n (x -ℤ pos (grants_in n fs)) holds on here.kept first (steady.initial ∙ first) (rest.goes n x m));
    }

-- ---- both ends change, and neither more than the other takes

-- each stream that is open was open, as far, and with its head or without
abbrev pub Upper : State → ℕ → Option Stream → Type 0
Upper u n o = IfSome o (λ st. is_open st ≡ true → (b : Stream) × (stream_at u.streams n ≡ Some b) × (is_open b ≡ true) × (st.peer_open ≡ b.peer_open) × (st.answered ≡ b.answered))

pub upper_itself : (u : State) (n : ℕ) (o : Option Stream) → stream_at u.streams n ≡ o → Upper u n o
upper_itself u n None e = tt
upper_itself u n (Some st) e = λ up. (st, e, up, refl, refl)

pub record Below (s t : State) : Type 0 where
  pub role : t.role ≡ s.role
  pub encoder : t.encoder ≡ s.encoder
  pub opened : t.opened ≡ s.opened
  pub lower : (n : ℕ) → Lower s n (stream_at t.streams n)

pub record Above (u v : State) : Type 0 where
  pub role : v.role ≡ u.role
  pub began : v.began ≡ true
  pub block : v.block ≡ u.block
  pub decoder : v.decoder ≡ u.decoder
  pub opened : v.opened ≡ u.opened
  pub upper : (n : ℕ) → Upper u n (stream_at v.streams n)

pub followed_both : (s t u v : State) → Below s t → Above u v → IsFollowed s u → IsFollowed t v
followed_both s t u v a b h = record {
  began = b.began;
  block = b.block ∙ h.block;
  decoder = subst (λ (w : Bool). IsInStep w v.decoder) (sym a.encoder) (subst (λ d. IsInStep s.encoder d) (sym b.decoder) h.decoder);
  halves = λ n x y at own there up. let l = subst (λ (o : Option Stream). Lower s n o) at (a.lower n) in let r = subst (λ (o : Option Stream). Upper u n o) there (b.upper n) up in
      r.3 ∙ h.halves n l.0 r.0 l.1 (l.2 own) r.1 r.2;
  heads = λ client n x y at there up. let l = subst (λ (o : Option Stream). Lower s n o) at (a.lower n) in let r = subst (λ (o : Option Stream). Upper u n o) there (b.upper n) up in
      r.4 ∙ (h.heads (ap is_client (sym b.role) ∙ client) n l.0 r.0 l.1 r.1 r.2 ∙ sym l.3);
  opened = λ client. b.opened ∙ (h.opened (ap is_client (sym a.role) ∙ client) ∙ sym a.opened);
  begun = λ client. let low = h.begun (ap is_client (sym b.role) ∙ client) in let same = a.opened in let there = b.opened in omega (arith, low, same, there);
}

pub awaits_both : (s t u v : State) → Below s t → Above u v → Awaits s u → Awaits t v
awaits_both s t u v a b h client n y low there up =
    let r = subst (λ (o : Option Stream). Upper u n o) there (b.upper n) up in
    let w = h (ap is_client (sym b.role) ∙ client) n r.0 (let same = a.opened in omega (arith, same, low)) r.1 r.2 in
    (r.3 ∙ w.0, r.4 ∙ w.1)

-- ---- tests

pub no_open : (ss : List Stream) (n : ℕ) (p : Stream → Bool) → ((st : Stream) → stream_at ss n ≡ Some st → is_open st ≡ true → p st ≡ false) → on_open ss n p ≡ false
no_open ss n p h = by_found (stream_at ss n) refl
  where
    by_found : (o : Option Stream) → stream_at ss n ≡ o → passes p o ≡ false
    by_found None e = refl
    by_found (Some st) e = by_open (is_open st) refl
      where
        by_open : (b : Bool) → is_open st ≡ b → (b && p st) ≡ false
        by_open true up = h st e up
        by_open false up = refl

pub may_spend : (left : ℤ) (count : ℕ) → pos count ≤ℤ left → can_spend left count ≡ true
may_spend left count fits = grind (arith, ints)

pub may_grow : (left : ℤ) (by : ℕ) → (left +ℤ pos by) ≤ℤ pos 2147483647 → can_grow left (pos by) ≡ true
may_grow left by fits = grind (arith, ints)

pub odd_at : (low high n : ℕ) (ss : List Stream) (st : Stream) → Rising low high ss → stream_at ss n ≡ Some st → n % 2 ≡ 1
unfolding Rising stream_at
odd_at low high n [] st r e = absurd cc
odd_at low high n (x ∷ ss) st (above, odd, rest) e = by_test (eqb x.number n) refl e (λ g. odd_at x.number high n ss st rest g)
  where
    by_test : (b : Bool) → eqb x.number n ≡ b → (if b then Some x else stream_at ss n) ≡ Some st → (stream_at ss n ≡ Some st → n % 2 ≡ 1) → n % 2 ≡ 1
    by_test true t g later = let same : x.number ≡ n = eqb-true x.number n t in subst (λ (k : ℕ). k % 2 ≡ 1) same odd
    by_test false t g later = later g

pub not_even : (k : ℕ) → k ≡ 1 → eqb k 0 ≡ false
not_even k e = ap (λ (j : ℕ). eqb j 0) e

not_above : (x y : ℕ) → y ≤ x → nat_lt x y ≡ false
not_above x y le = by_test (nat_lt x y) refl
  where
    by_test : (b : Bool) → nat_lt x y ≡ b → b ≡ false
    by_test false e = refl
    by_test true e = let below : x < y = ltb-true x y e in absurd (omega (arith, below, le))

-- a stream that the one end has, the other has come to know by then
pub is_not_idle : (s u : State) (n : ℕ) (st : Stream) → Holds s → is_client u.role ≡ not (is_client s.role) → IsFollowed s u → stream_at s.streams n ≡ Some st → is_idle u n ≡ false
is_not_idle s u n st holds other h at =
    ap (λ (b : Bool). b || nat_lt u.opened n) (not_even (n % 2) (odd_at 0 s.opened n s.streams st holds.rising at)) ∙ not_above u.opened n (by_role (is_client s.role) refl)
  where
    known : n ≤ s.opened
    known = by_test (nat_lt s.opened n) refl
      where
        by_test : (b : Bool) → nat_lt s.opened n ≡ b → n ≤ s.opened
        by_test true e = absurd (is_known s.opened n s.streams st holds.rising at (ltb-true s.opened n e))
        by_test false e = ltb-false s.opened n e

    by_role : (c : Bool) → is_client s.role ≡ c → n ≤ u.opened
    by_role true e = let same = h.opened e in let k = known in omega (arith, same, k)
    by_role false e = let low = h.begun (other ∙ ap not e) in let k = known in omega (arith, low, k)
