use Rattle.std.proofs.Common.{◌≡◌, ◌++◌, arith, sym, ap, ◌∙◌, Some, None}
use Rattle.kn_grpc.specs.Readers.{reason_in, taken, fed}
use Rattle.kn_grpc.proofs.Begun.{holds, rest_of, begun, begun_bad, begun_all}
use Rattle.kn_grpc.proofs.state.begin.Goals as goal

pub returns-in-Some-clause-fed : goal.returns-in-Some-clause-fed
returns-in-Some-clause-fed c =
    let s = c.args.state.now in
    let t = c.take_head-begun.ensures in
    let b = begun s.head s.body c.take_head-begun.new.head c.args.piece.now c.take_head-begun.result s.offset c.requires.sound c.requires.head t.head t.left in
    let e : reason_in c.take_head-begun.new.head ≡ Some c.in-Some.reason = sym (c.in-Some.ensures ∙ ap reason_in c.as_slice.ensures) in
    begun_bad s.head s.body c.take_head-begun.new.head c.args.piece.now c.take_head-begun.result s.offset c.in-Some.reason b e

pub returns-in-None-clause-fed : goal.returns-in-None-clause-fed
returns-in-None-clause-fed c =
    let s = c.args.state.now in
    let t = c.take_head-begun.ensures in
    let b = begun s.head s.body c.take_head-begun.new.head c.args.piece.now c.take_head-begun.result s.offset c.requires.sound c.requires.head t.head t.left in
    let e : reason_in c.take_head-begun.new.head ≡ None = sym (c.in-None.ensures ∙ ap reason_in c.as_slice.ensures) in
    begun_all s.head s.body c.take_head-begun.new.head c.args.piece.now c.take_head-begun.result s.offset b e (omega arith) t.ends

pub returns-in-Ok-clause-fed : goal.returns-in-Ok-clause-fed
returns-in-Ok-clause-fed c =
    let s = c.args.state.now in
    let t = c.take_head-begun.ensures in
    let b = begun s.head s.body c.take_head-begun.new.head c.args.piece.now c.take_head-begun.result s.offset c.requires.sound c.requires.head t.head t.left in
    let f = c.in-Ok.ensures.fed in
    let d = rest_of c.take_head-begun.result c.args.piece.now in
    let mid = holds (c.take_head-begun.new.head ++ s.body) s.offset in
    let n = ap (taken mid.kept) d in
    (omega (arith, b.left, f.0, n), f.1 ∙ ap (fed mid) d ∙ b.rest, f.2)

pub returns-in-Err-Fault-clause-fed : goal.returns-in-Err-Fault-clause-fed
returns-in-Err-Fault-clause-fed c =
    let s = c.args.state.now in
    let t = c.take_head-begun.ensures in
    let b = begun s.head s.body c.take_head-begun.new.head c.args.piece.now c.take_head-begun.result s.offset c.requires.sound c.requires.head t.head t.left in
    let f = rw c.in-Err-Fault.field-0-is at c.in-Err-Fault.ensures.fed in
    let d = rest_of c.take_head-begun.result c.args.piece.now in
    let mid = holds (c.take_head-begun.new.head ++ s.body) s.offset in
    (f.0 ∙ ap (fed mid) d ∙ b.rest, f.1)
