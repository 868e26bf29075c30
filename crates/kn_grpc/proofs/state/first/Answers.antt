use Rattle.std.proofs.Common.{◌≡◌, Some, sym, ap, ◌∙◌}
use Rattle.kn_grpc.specs.Readers.{reason_in}
use Rattle.kn_grpc.proofs.Feeding.{bad_held}
use Rattle.kn_grpc.proofs.state.first.Goals as goal

pub returns-in-Some : goal.returns-in-Some
returns-in-Some c =
    let s = c.args.state.now in
    let e : reason_in s.head ≡ Some c.in-Some.reason = sym (c.in-Some.ensures ∙ ap reason_in c.as_slice.ensures) in
    sym (bad_held s.head s.body c.in-Some.reason c.requires.sound e)

pub well_front-requires-clause-well : goal.well_front-requires-clause-well
well_front-requires-clause-well c = sym (c.in-None.ensures ∙ ap reason_in c.as_slice.ensures)
