use Rattle.std.proofs.Common.{◌≡◌, ◌+◌, ◌≤◌, ◌++◌, length, arith, ap, ◌∙◌, length-append}
use Rattle.kn_frames.specs.Frames.{length_of}
use Rattle.kn_frames.proofs.Bytes.{length_of-append}
use Rattle.kn_frames.proofs.States.{at_body}
use Rattle.kn_frames.proofs.MissingBytes.{missing_body}
use Rattle.kn_frames.proofs.missing.left_of_frame.Goals as goal

pub returns-else-held-lt9-clause-value : goal.returns-else-held-lt9-clause-value
returns-else-held-lt9-clause-value c =
    let s = c.args.state.now in
    let whole : 9 ≤ length s.front = omega (arith, c.if-held-lt9.false, c.len-held.ensures.value) in
    let h = at_body s c.requires.phase c.requires.sound whole in
    let k : length (s.front ++ s.body) ≡ length s.front + length s.body = length-append s.front s.body in
    let n : length_of (s.front ++ s.body) ≡ length_of s.front = length_of-append s.front s.body (omega (arith, whole)) in
    let m = missing_body (s.front ++ s.body) (omega (arith, k, whole)) in
    let e : c.length_of.result ≡ length_of s.front = c.length_of.ensures.value ∙ ap length_of c.as_slice.ensures in
    omega (arith, e, c.len.ensures, k, n, m, h.front)
