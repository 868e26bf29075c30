-- Two ends of a connection over the bytes between them.
use Rattle.std.proofs.Common.{◌≡◌, ℕ, true, false, List, [], ◌∷◌, ◌++◌, append_assoc, append-nil, Option, None, is_some, refl, sym, ap, ◌∙◌, subst, if◌then◌else◌}
use Rattle.std.specs.List.{AllByRecursion}
use Rattle.kn_frames.specs.declared.frame.Frame.{Frame}
use Rattle.kn_frames.specs.declared.fault.FrameFault.{FrameFault}
use Rattle.kn_frames.specs.Frames.{IsWithinLimits, preface}
use Rattle.kn_frames.specs.Readers.{Reading, in_frames, start, after_byte, frame_at, after_bytes, frames_in, fault_in}
use Rattle.kn_h2_state.specs.declared.role.Role.{Role}
use Rattle.kn_h2_state.specs.declared.role.Role.TheVariants.{Server, Client}
use Rattle.kn_h2_state.specs.declared.state.State.{State}
use Rattle.kn_h2_state.specs.Feeding.{Connection, after_frames, after_fault, after_piece}
use Rattle.kn_h2_state.specs.Calls.{opening, fresh_state, fresh, after_took}
use Rattle.kn_h2_state.specs.Wire.{spellings, IsBetweenFrames, ReadsBack, WrittenIsRead}
use Rattle.kn_h2_state.proofs.PieceLaws.{bytes-append, frames-append}
use Rattle.kn_h2.specs.Answered.{frames_answer, fault_answer, piece_answer, PiecesWrite}
use Rattle.kn_h2.specs.Written.{Writes, opening_list, OpeningIsWritten}
use Rattle.kn_facing.specs.Facing.{coming}
use Rattle.kn_facing.specs.Faces.{Faces, FacesBegin, TookKeepsFaces}
use Rattle.kn_facing.specs.Wires.{Behind, WritesBehind, all_acknowledged, AfterReading, ReadingKeepsFaces}
use Rattle.kn_facing.specs.Pairs.{way, FacingTurns, FacingBegins, PiecesKeepFacing, EntersKeepFacing, StepsKeepFacing}
use Rattle.kn_facing.proofs.FaceLemmas.{turned}
use Rattle.kn_facing.proofs.FacingLemmas.{no_fault_before, reads_on, piece_on}
use Rattle.kn_facing.proofs.WireLemmas.{enters_alike}

pub facing_turns : FacingTurns
facing_turns a b ab ba h = record { whole_ab = h.whole_ba; whole_ba = h.whole_ab; faces = turned a.state b.state (coming (way a ab b)) (coming (way b ba a)) h.faces }

-- ---- steps of an end's own

pub steps_keep_facing : WritesBehind → StepsKeepFacing
steps_keep_facing behind a b ab ba t fs h faces limits written =
    let w = behind (way a ab b) t fs h.whole_ab limits written in
    record { whole_ab = w.whole; whole_ba = h.whole_ba; faces = subst (λ (gs : List Frame). Faces t b.state gs (coming (way b ba a))) (sym w.coming) faces }

pub enters_keep_facing : TookKeepsFaces → EntersKeepFacing
enters_keep_facing took a b ab ba count h =
    let same = enters_alike (way a ab b) count in
    record {
      whole_ab = same.whole h.whole_ab;
      whole_ba = h.whole_ba;
      faces = subst (λ (gs : List Frame). Faces (after_took count a.state) b.state gs (coming (way b ba a))) (sym same.coming) (took a.state b.state (coming (way a ab b)) (coming (way b ba a)) count h.faces);
    }

-- ---- a piece

front_limits : (fs gs : List Frame) → AllByRecursion IsWithinLimits (fs ++ gs) → AllByRecursion IsWithinLimits fs
front_limits [] gs h = tt
front_limits (f ∷ fs) gs h = (h.0, front_limits fs gs h.1)

piece_answers : (c : Connection) (piece : List ℕ) → c.state.failed ≡ None → fault_in (after_bytes c.cutter piece).phase ≡ None → piece_answer c piece ≡ frames_answer c.state (frames_in c.cutter piece)
unfolding piece_answer
piece_answers c piece on sound =
    ap (λ (o : Option ℕ). if is_some o then [] else frames_answer c.state (frames_in c.cutter piece) ++ fault_answer (after_frames c.state (frames_in c.cutter piece)) (fault_in (after_bytes c.cutter piece).phase)) on
    ∙ (ap (λ (o : Option FrameFault). frames_answer c.state (frames_in c.cutter piece) ++ fault_answer (after_frames c.state (frames_in c.cutter piece)) o) sound ∙ append-nil (frames_answer c.state (frames_in c.cutter piece)))

pub pieces_keep_facing : WritesBehind → PiecesWrite → ReadingKeepsFaces → PiecesKeepFacing
pieces_keep_facing behind writes reading a b ab ba piece rest h cut = record {
  whole_ab = subst IsBetweenFrames parted h.whole_ab;
  whole_ba = back.whole;
  faces = subst (λ (gs : List Frame). Faces a.state (after_piece b piece).state later gs) (sym (back.coming ∙ ap (λ (gs : List Frame). coming (way b ba a) ++ gs) answer))
      (subst (λ (s : State). Faces a.state s later (coming (way b ba a) ++ all_acknowledged fs)) (sym state) read.faces);
}
  where
    on : b.state.failed ≡ None
    on = h.faces.end_b.goes

    sound : fault_in (after_bytes b.cutter piece).phase ≡ None
    sound = no_fault_before (way a ab b) piece rest cut h.whole_ab

    fs : List Frame
    fs = frames_in b.cutter piece

    later : List Frame
    later = coming (way a rest (after_piece b piece))

    out : List ℕ
    out = a.state.out.bytes

    whole : after_piece b piece ≡ record { cutter = after_bytes b.cutter piece; state = after_fault (after_frames b.state fs) (fault_in (after_bytes b.cutter piece).phase) }
    whole = piece_on b piece on

    state : (after_piece b piece).state ≡ after_frames b.state fs
    state = ap (λ (c : Connection). c.state) whole ∙ ap (λ (o : Option FrameFault). after_fault (after_frames b.state fs) o) sound

    cutter : (after_piece b piece).cutter ≡ after_bytes b.cutter piece
    cutter = ap (λ (c : Connection). c.cutter) whole

    parted : after_bytes b.cutter (ab ++ out) ≡ after_bytes (after_piece b piece).cutter (rest ++ out)
    parted =
        ap (λ (l : List ℕ). after_bytes b.cutter (l ++ out)) cut
        ∙ (ap (λ (l : List ℕ). after_bytes b.cutter l) (append_assoc piece rest out)
        ∙ (bytes-append b.cutter piece (rest ++ out) ∙ ap (λ (r : Reading). after_bytes r (rest ++ out)) (sym cutter)))

    split : coming (way a ab b) ≡ fs ++ later
    split = reads_on (way a ab b) piece rest cut on

    faces : Faces a.state b.state (fs ++ later) (coming (way b ba a))
    faces = subst (λ (gs : List Frame). Faces a.state b.state gs (coming (way b ba a))) split h.faces

    read : AfterReading a.state b.state fs later (coming (way b ba a))
    read = reading a.state b.state fs later (coming (way b ba a)) faces

    answer : piece_answer b piece ≡ all_acknowledged fs
    answer = piece_answers b piece on sound ∙ read.answers

    wrote : Writes b.state (after_piece b piece).state (piece_answer b piece)
    wrote = writes b piece (λ _. front_limits fs later faces.to_b.limits)

    back : Behind (way b ba a) (after_piece b piece).state (piece_answer b piece)
    back = behind (way b ba a) (after_piece b piece).state (piece_answer b piece) h.whole_ba wrote.limits wrote.written

-- ---- the beginning

preface_read : after_bytes (start true) preface ≡ in_frames [] 24
unfolding preface after_byte
preface_read = refl

preface_frames : frames_in (start true) preface ≡ []
unfolding preface after_byte frame_at
preface_frames = refl

fresh_out : (role : Role) → (fresh_state role).out.bytes ≡ opening role
unfolding fresh_state
fresh_out role = refl

record Opens (r : Reading) (role : Role) : Type 0 where
  frames : frames_in r (opening role) ≡ opening_list role
  whole : IsBetweenFrames (after_bytes r (opening role))

server_opens : WrittenIsRead → ((role : Role) → OpeningIsWritten role) → Opens (start false) Server
server_opens read written = record {
  frames = ap (λ (l : List ℕ). frames_in (start false) l) (written Server).written ∙ back.frames;
  whole = subst (λ (l : List ℕ). IsBetweenFrames (after_bytes (start false) l)) (sym (written Server).written) back.state;
}
  where
    back : ReadsBack (opening_list Server) (start false)
    back = read (opening_list Server) (start false) (written Server).limits (0, refl)

client_opens : WrittenIsRead → ((role : Role) → OpeningIsWritten role) → Opens (start true) Client
client_opens read written = record {
  frames = ap (λ (l : List ℕ). frames_in (start true) l) (written Client).written
      ∙ (frames-append (start true) preface (spellings (opening_list Client))
      ∙ (ap (λ (gs : List Frame). gs ++ frames_in (after_bytes (start true) preface) (spellings (opening_list Client))) preface_frames
      ∙ (ap (λ (r : Reading). frames_in r (spellings (opening_list Client))) preface_read ∙ back.frames)));
  whole = subst (λ (l : List ℕ). IsBetweenFrames (after_bytes (start true) l)) (sym (written Client).written)
      (subst IsBetweenFrames (sym (bytes-append (start true) preface (spellings (opening_list Client)) ∙ ap (λ (r : Reading). after_bytes r (spellings (opening_list Client))) preface_read)) back.state);
}
  where
    back : ReadsBack (opening_list Client) (in_frames [] 24)
    back = read (opening_list Client) (in_frames [] 24) (written Client).limits (24, refl)

pub facing_begins : WrittenIsRead → ((role : Role) → OpeningIsWritten role) → FacesBegin → FacingBegins
unfolding fresh
facing_begins read written begins = record {
  whole_ab = subst (λ (l : List ℕ). IsBetweenFrames (after_bytes (start true) l)) (sym (fresh_out Client)) client.whole;
  whole_ba = subst (λ (l : List ℕ). IsBetweenFrames (after_bytes (start false) l)) (sym (fresh_out Server)) server.whole;
  faces = subst (λ (gs : List Frame). Faces (fresh_state Client) (fresh_state Server) gs (frames_in (start false) (fresh_state Server).out.bytes)) (sym up)
      (subst (λ (gs : List Frame). Faces (fresh_state Client) (fresh_state Server) (opening_list Client) gs) (sym down) begins);
}
  where
    client : Opens (start true) Client
    client = client_opens read written

    server : Opens (start false) Server
    server = server_opens read written

    up : frames_in (start true) (fresh_state Client).out.bytes ≡ opening_list Client
    up = ap (λ (l : List ℕ). frames_in (start true) l) (fresh_out Client) ∙ client.frames

    down : frames_in (start false) (fresh_state Server).out.bytes ≡ opening_list Server
    down = ap (λ (l : List ℕ). frames_in (start false) l) (fresh_out Server) ∙ server.frames
