use Rattle.std.proofs.Common.{◌≡◌, ℕ, List, ◌++◌, take, sym, ap, ◌∙◌, append_assoc, Some, None}
use Rattle.kn_grpc.specs.Readers.{Reading, reason_in, is_less, fault_by, fault_in, taken, fed}
use Rattle.kn_grpc.specs.Stored.{seen, is_sound}
use Rattle.kn_grpc.proofs.Feeding.{fed_stays, bad_held, body_reason, well_no_fault}
use Rattle.kn_grpc.proofs.state.go_on.Goals as goal

pub returns-in-Some-clause-fed : goal.returns-in-Some-clause-fed
returns-in-Some-clause-fed c =
    let s = c.args.state.now in
    let e : reason_in s.head ≡ Some c.in-Some.reason = sym (c.in-Some.ensures ∙ ap reason_in c.as_slice.ensures) in
    let b = bad_held s.head s.body c.in-Some.reason c.requires.sound e in
    (sym (fed_stays (seen s) c.args.piece.now (ap is_less b)), ap (λ q. fault_by q s.offset) b)

pub returns-in-Ok-clause-fed : goal.returns-in-Ok-clause-fed
returns-in-Ok-clause-fed c =
    let s = c.args.state.now in
    let p = c.args.piece.now in
    let n = c.in-Ok.count in
    let w : reason_in s.head ≡ None = sym (c.in-None.ensures ∙ ap reason_in c.as_slice.ensures) in
    let body = s.body ++ take n p in
    let new : c.take_body.new.state ≡ record s { body = body } = c.in-Ok.ensures.body in
    let kept : s.head ++ body ≡ (s.head ++ s.body) ++ take (taken (s.head ++ s.body) p) p =
    sym (append_assoc s.head s.body (take n p)) ∙ ap (λ k. (s.head ++ s.body) ++ take k p) c.in-Ok.ensures.count in
    let reading : seen c.take_body.new.state ≡ fed (seen s) p = ap seen new ∙ ap (λ (k : List ℕ). let q : Reading = record { kept = k; offset = s.offset } in q) kept in
    let sound = ap is_sound (sym new) ∙ c.in-Ok.ensures.sound in
    let none = well_no_fault (s.head ++ body) s.offset (body_reason s.head body sound c.requires.head w) in
    (c.in-Ok.ensures.count, reading, ap (λ q. fault_in (seen q)) new ∙ none)
