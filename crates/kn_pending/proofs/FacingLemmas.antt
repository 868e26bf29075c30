-- What is pending between two ends that face each other stays as it is where a piece is delivered.
use Rattle.std.proofs.Common.{◌≡◌, List, ◌++◌, None, sym, subst}
use Rattle.kn_frames.specs.declared.frame.Frame.{Frame}
use Rattle.kn_frames.specs.Readers.{frames_in}
use Rattle.kn_h2_state.specs.declared.state.State.{State}
use Rattle.kn_h2_state.specs.Feeding.{after_piece}
use Rattle.kn_facing.specs.Facing.{coming}
use Rattle.kn_facing.specs.Faces.{Faces}
use Rattle.kn_facing.specs.Laws.{ReadsOn}
use Rattle.kn_facing.specs.Pairs.{way, PiecesKeepFacing}
use Rattle.kn_facing.specs.Ways.{delivered}
use Rattle.kn_facing.specs.Wires.{MayHear, IsHeard, UnendedIsHeard}
use Rattle.kn_pending.specs.Facing.{FacingDelivers}
use Rattle.kn_pending.proofs.PendingLemmas.{Split, delivers_heard, piece_goes_on}

pub facing_delivers : Split → ReadsOn → PiecesKeepFacing → UnendedIsHeard → FacingDelivers
facing_delivers split reads pieces heard n kept behind piece rest a b ab ba h cut goes_on hears = record {
  stays = delivers_heard split n kept behind piece rest (way a ab b) cut on all.heard;
  hears = subst (λ (s : State). MayHear s n) (sym (piece_goes_on b piece on).state) all.still;
}
  where
    on : (after_piece b piece).state.failed ≡ None
    on = (pieces a b ab ba piece rest h cut).faces.end_b.goes

    fs : List Frame
    fs = frames_in b.cutter piece

    later : List Frame
    later = coming (delivered piece rest (way a ab b))

    faces : Faces a.state b.state (fs ++ later) (coming (way b ba a))
    faces = subst (λ (gs : List Frame). Faces a.state b.state gs (coming (way b ba a))) (reads (way a ab b) piece rest cut h.faces.end_b.goes) h.faces

    all : IsHeard b.state fs n
    all = heard a.state b.state fs later (coming (way b ba a)) n faces goes_on hears
