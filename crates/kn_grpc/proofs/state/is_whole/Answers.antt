use Rattle.std.proofs.Common.{◌≡◌, is_some, Some, None, arith, sym, ap, ◌∙◌}
use Rattle.std.proofs.lemmas.Bool.{eqb-true}
use Rattle.kn_grpc.specs.Messages.{length_of}
use Rattle.kn_grpc.specs.Readers.{message_in, reason_in}
use Rattle.kn_grpc.proofs.Feeding.{not_whole_head, bad_held, whole_held, whole_or_short}
use Rattle.kn_grpc.proofs.state.is_whole.Goals as goal

pub returns-then-len-lt5-clause-other : goal.returns-then-len-lt5-clause-other
returns-then-len-lt5-clause-other c =
    let s = c.args.state.now in
    sym (ap is_some (not_whole_head s.head s.body c.requires.sound (omega arith)))

pub returns-in-Some-clause-other : goal.returns-in-Some-clause-other
returns-in-Some-clause-other c =
    let s = c.args.state.now in
    let e : reason_in s.head ≡ Some c.in-Some._reason = sym (c.in-Some.ensures ∙ ap reason_in c.as_slice.ensures) in
    sym (ap (λ q. is_some (message_in q)) (bad_held s.head s.body c.in-Some._reason c.requires.sound e))

pub returns-in-None-clause-whole : goal.returns-in-None-clause-whole
returns-in-None-clause-whole c t =
    let s = c.args.state.now in
    let e : reason_in s.head ≡ None = sym (c.in-None.ensures ∙ ap reason_in c.as_slice.ensures) in
    let n : length_of s.head ≡ c.length_of.result = ap length_of (sym c.as_slice-in-None.ensures) ∙ sym c.length_of.ensures.value in
    let same = eqb-true c.len-in-None.result c.length_of.result t in
    whole_held s.head s.body c.requires.sound (omega arith) e (sym c.len-in-None.ensures ∙ same ∙ sym n)

pub returns-in-None-clause-other : goal.returns-in-None-clause-other
returns-in-None-clause-other c =
    let s = c.args.state.now in
    let e : reason_in s.head ≡ None = sym (c.in-None.ensures ∙ ap reason_in c.as_slice.ensures) in
    let n : length_of s.head ≡ c.length_of.result = ap length_of (sym c.as_slice-in-None.ensures) ∙ sym c.length_of.ensures.value in
    rw (c.len-in-None.ensures, ← n) (whole_or_short s.head s.body c.requires.sound (omega arith) e)
