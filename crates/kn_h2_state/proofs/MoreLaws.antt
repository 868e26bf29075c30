-- A frame that breaks no rule leaves an end that hears more hearing more, and so do lists of frames.
use Rattle.std.proofs.Common.{◌≡◌, ◌<◌, true, false, List, [], ◌∷◌, None, sym, ap, ◌∙◌, subst}
use Rattle.kn_frames.specs.declared.frame.Frame.{Frame}
use Rattle.kn_h2_state.specs.declared.state.State.{State}
use Rattle.kn_h2_state.specs.Limits.{stream_limit}
use Rattle.kn_h2_state.specs.Streams.{open_count}
use Rattle.kn_h2_state.specs.Rules.{is_client, verdict}
use Rattle.kn_h2_state.specs.Effects.{effect}
use Rattle.kn_h2_state.specs.Feeding.{judged, after_frame, after_frames}
use Rattle.kn_h2_state.specs.Preorder.{FramesKeepMore, Accepts, HasRoomFor, AcceptsAll, MoreIsAccepted}
use Rattle.kn_h2_state.proofs.PieceLaws.{after_frame-judged}
use Rattle.kn_h2_state.proofs.BorneLemmas.{rises}
use Rattle.kn_h2_state.proofs.PreorderLaws.{silent, old_data, old_grant, old_reset, heard_too}
use Rattle.kn_h2_state.proofs.FacingLaws.{Facing, both_effect, begun, old_block}

abbrev HasFew : State → Type 0
HasFew s = is_client s.role ≡ false → open_count s.streams < stream_limit

both_frame : (s t : State) (f : Frame) → Facing s t → s.failed ≡ None → t.failed ≡ None → verdict s f ≡ None → HasFew s → HasFew t → Facing (after_frame s f) (after_frame t f)
both_frame s t f h on on' v a b =
    let q = silent s f v in
    let to_s : after_frame s f ≡ effect (record s { began = true }) f = after_frame-judged s f on ∙ ap (λ o. judged s f o) v in
    let to_t : after_frame t f ≡ effect (record t { began = true }) f = after_frame-judged t f on' ∙ ap (λ o. judged t f o) (heard_too s t f h.right h.more v) in
    let after : Facing (effect (record s { began = true }) f) (effect (record t { began = true }) f) =
    both_effect f (record s { began = true }) (record t { began = true }) (begun s t h)
    (λ k client above. old_data s f q.streams k above) (λ k. old_block s f h.more.known q k) (λ k client above. old_reset s f q.streams k above) (λ k client above. old_grant s f q.streams k above) a (λ e. b (ap is_client h.more.role ∙ e)) in
    subst (λ u. Facing u (after_frame t f)) (sym to_s) (subst (λ u. Facing (effect (record s { began = true }) f) u) (sym to_t) after)

pub frames_keep_more : FramesKeepMore
frames_keep_more s t f hs ht h on on' v a b =
    (both_frame s t f (record { more = h; left = rises 0 s.opened s.streams hs.rising; right = rises 0 t.opened t.streams ht.rising }) on on' v a (λ e. b (ap is_client (sym h.role) ∙ e))).more

both_frames : (s t : State) (fs : List Frame) → Facing s t → HasRoomFor s fs → HasRoomFor t fs → Accepts s fs → AcceptsAll s t fs
unfolding after_frames Accepts HasRoomFor
both_frames s t [] h a b c = record { accepts = tt; more = h.more }
both_frames s t (f ∷ fs) h (on, few, rooms) (on', few', rooms') (v, accepts) =
    let rest = both_frames (after_frame s f) (after_frame t f) fs (both_frame s t f h on on' v few few') rooms rooms' accepts in
    record { accepts = (heard_too s t f h.right h.more v, rest.accepts); more = rest.more }

pub more_is_accepted : MoreIsAccepted
more_is_accepted s t fs hs ht h a b c =
    both_frames s t fs (record { more = h; left = rises 0 s.opened s.streams hs.rising; right = rises 0 t.opened t.streams ht.rising }) a b c
