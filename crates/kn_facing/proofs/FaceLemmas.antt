-- Two ends that face each other, and a frame that one of them reads.
use Rattle.std.proofs.Common.{◌≡◌, ◌⊎◌, inl, inr, ◌≤◌, ◌+◌, ◌*◌, Bool, true, false, not, List, [], ◌∷◌, None, refl, sym, ap, ◌∙◌, arith}
use Rattle.std.specs.List.{AllByRecursion}
use Rattle.kn_frames.specs.declared.frame.Frame.{Frame}
use Rattle.kn_frames.specs.Frames.{IsWithinLimits}
use Rattle.kn_h2_state.specs.declared.state.State.{State}
use Rattle.kn_h2_state.specs.Limits.{reply_limit}
use Rattle.kn_h2_state.specs.Outgoing.{reply_bytes}
use Rattle.kn_h2_state.specs.Rules.{is_client}
use Rattle.kn_h2_state.specs.Feeding.{after_frame, after_frames}
use Rattle.kn_h2_state.specs.Holding.{Holds}
use Rattle.kn_h2_state.specs.Opening.{FramesOpenAbove, AnsweredIsKept}
use Rattle.kn_h2_state.specs.Preorder.{HearsMore, IsOpenIn, IsNewTo, MoreIsHeard, FramesKeepMore, OwnStepsAreHeard, OwnFactsAreKept}
use Rattle.kn_h2.specs.Steady.{RoleStays}
use Rattle.kn_h2.specs.Windows.{FramesShift, FramesShiftAll}
use Rattle.kn_facing.specs.Facing.{IsFollowed, Awaits, AreTaken, asks, asking}
use Rattle.kn_facing.specs.Faces.{FacesTurn}
use Rattle.kn_facing.specs.Laws.{AreTakenToo}
use Rattle.kn_facing.proofs.CarryLemmas.{more_are_taken}
use Rattle.kn_facing.proofs.FollowedLemmas.{is_known, stays_followed}
use Rattle.kn_facing.proofs.RoomLemmas.{Replied, most, few_replies, Keeps}
use Rattle.kn_facing.proofs.SteadyLemmas.{Steady, steady_frame}

-- the laws of the crates below that are used
pub record Known : Type 0 where
  pub heard : MoreIsHeard
  pub frames : FramesKeepMore
  pub above : FramesOpenAbove
  pub keep : Keeps
  pub roles : RoleStays
  pub answered : AnsweredIsKept
  pub steps : OwnStepsAreHeard
  pub facts : OwnFactsAreKept
  pub shift : FramesShift
  pub shift_all : FramesShiftAll

-- ---- whichever is named first

not_not : (a b : Bool) → b ≡ not a → a ≡ not b
not_not true b e = sym (ap not e)
not_not false b e = sym (ap not e)

pub turned : FacesTurn
turned a b ab ba h = record {
  other = not_not (is_client a.role) (is_client b.role) h.other;
  end_a = h.end_b;
  end_b = h.end_a;
  to_b = h.to_a;
  to_a = h.to_b;
  sum_ab = h.sum_ba;
  sum_ba = h.sum_ab;
  all_ab = h.all_ba;
  all_ba = h.all_ab;
}

-- ---- frames that are all taken

steady_then : (s t u : State) → Steady s t → Steady t u → Steady s u
steady_then s t u a b = record {
  role = b.role ∙ a.role;
  encoder = b.encoder ∙ a.encoder;
  initial = b.initial ∙ a.initial;
  opened = λ client. b.opened (ap is_client a.role ∙ client) ∙ a.opened client;
}

pub record Runs (s : State) (fs : List Frame) : Type 0 where
  pub steady : Steady s (after_frames s fs)
  pub goes : (after_frames s fs).failed ≡ None
  pub holds : Holds (after_frames s fs)

pub runs : Keeps → (s : State) (fs : List Frame) → Holds s → s.failed ≡ None → AllByRecursion IsWithinLimits fs → AreTaken s fs → reply_bytes s.out + 17 * asking fs ≤ reply_limit → Runs s fs
unfolding after_frames AreTaken asking
runs keep s [] holds on limits taken room = record { steady = record { role = refl; encoder = refl; initial = refl; opened = λ e. refl }; goes = on; holds = holds }
runs keep s (f ∷ fs) holds on limits taken room =
    let first : Replied (most (asks f)) s (after_frame s f) = few_replies s f on taken.0.kept (omega (arith, room)) in
    let few = first.few in
    let rest = runs keep (after_frame s f) fs (keep s f holds limits.0) first.goes limits.1 taken.1 (omega (arith, room, few)) in
    record { steady = steady_then s (after_frame s f) (after_frames (after_frame s f) fs) (steady_frame s f on taken.0.kept taken.0.plain) rest.steady; goes = rest.goes; holds = rest.holds }

awaits_on : (s t u : State) → HearsMore t u → (is_client t.role ≡ true → u.opened ≡ t.opened) → Holds u → Awaits s t → Awaits s u
awaits_on s t u h same holds waits client n b low at up = by_case (h.streams n b at up)
  where
    here : is_client t.role ≡ true
    here = ap is_client (sym h.role) ∙ client

    by_case : IsOpenIn t n b ⊎ IsNewTo t u n b → (b.peer_open ≡ true) × (b.answered ≡ false)
    by_case (inl (a, was, open_a, much)) = let w = waits here n a low was open_a in (much.half ∙ w.0, much.head here ∙ w.1)
    by_case (inr (new, above, less)) = let e = same here in absurd (is_known u.opened n u.streams b holds.rising at (omega (arith, e, above)))

-- ---- a way, where the end that it leads to hears more

pub record WayOn (s y : State) (fs : List Frame) : Type 0 where
  pub taken : AreTaken y fs
  pub followed : IsFollowed s (after_frames y fs)
  pub awaits : Awaits s (after_frames y fs)

pub record Before (s x : State) (fs : List Frame) : Type 0 where
  pub holds : Holds x
  pub goes : x.failed ≡ None
  pub other : is_client x.role ≡ not (is_client s.role)
  pub limits : AllByRecursion IsWithinLimits fs
  pub taken : AreTaken x fs
  pub followed : IsFollowed s (after_frames x fs)
  pub awaits : Awaits s (after_frames x fs)
  pub room : reply_bytes x.out + 17 * asking fs ≤ reply_limit

pub server_of : (c d : Bool) → c ≡ not d → c ≡ false → d ≡ true
server_of c true e g = refl
server_of c false e g = absurd cc

pub way_taken : Known → (s x y : State) (fs : List Frame) → s.opened ≤ 1 → Before s x fs → Holds y → y.failed ≡ None → HearsMore x y → reply_bytes y.out + 17 * asking fs ≤ reply_limit → AreTakenToo x y fs
way_taken k s x y fs one b hy on hears room = more_are_taken k.heard k.frames k.above k.keep k.roles x y fs b.holds hy hears b.goes on b.limits b.taken b.room room few
  where
    few : is_client x.role ≡ false → (after_frames x fs).opened ≤ 1
    few server = let e = b.followed.opened (server_of (is_client x.role) (is_client s.role) b.other server) in omega (arith, e, one)

pub way_followed : Known → (s x y : State) (fs : List Frame) → Holds s → Before s x fs → AreTakenToo x y fs → IsFollowed s (after_frames y fs)
way_followed k s x y fs hs b too = stays_followed s (after_frames x fs) (after_frames y fs) hs (ap is_client (runs k.keep x fs b.holds b.goes b.limits b.taken b.room).steady.role ∙ b.other) too.more b.followed

pub way_on : Known → (s x y : State) (fs : List Frame) → Holds s → s.opened ≤ 1 → Before s x fs → Holds y → y.failed ≡ None → HearsMore x y → (is_client x.role ≡ true → y.opened ≡ x.opened)
    → reply_bytes y.out + 17 * asking fs ≤ reply_limit → WayOn s y fs
way_on k s x y fs hs one b hy on hears same room = record {
  taken = too.taken;
  followed = way_followed k s x y fs hs b too;
  awaits = awaits_on s (after_frames x fs) (after_frames y fs) too.more opened run_y.holds b.awaits;
}
  where
    too : AreTakenToo x y fs
    too = way_taken k s x y fs one b hy on hears room

    run_x : Runs x fs
    run_x = runs k.keep x fs b.holds b.goes b.limits b.taken b.room

    run_y : Runs y fs
    run_y = runs k.keep y fs hy on b.limits too.taken room

    opened : is_client (after_frames x fs).role ≡ true → (after_frames y fs).opened ≡ (after_frames x fs).opened
    opened client =
        let here : is_client x.role ≡ true = ap is_client (sym run_x.steady.role) ∙ client in
        run_y.steady.opened (ap is_client hears.role ∙ here) ∙ (same here ∙ sym (run_x.steady.opened here))
