use Rattle.std.proofs.Common.{◌≡◌, ℕ, [], ◌-◌, ◌++◌, length, arith, ap, sym, ◌∙◌, length-append}
use Rattle.kn_grpc.specs.Readers.{Reading, count_up, popped_by}
use Rattle.kn_grpc.specs.Stored.{seen}
use Rattle.kn_grpc.proofs.Feeding.{whole_head, head_within}
use Rattle.kn_grpc.proofs.state.clear.Goals as goal

pub returns-clause-popped : goal.returns-clause-popped
returns-clause-popped c =
    let s = c.args.state.now in
    let h = whole_head s.head s.body s.body [] c.requires.sound (head_within s.head s.body c.requires.sound) c.requires.whole in
    let k = length-append s.head s.body in
    let o : c.saturating_add-state.result ≡ count_up s.offset (length (s.head ++ s.body) - 0) = omega (arith, c.saturating_add-state.ensures, c.len.ensures, k, h) in
    rw (c.cut.ensures, c.clear.ensures) (ap (λ (j : ℕ). let q : Reading = record { kept = []; offset = j } in q) o ∙ sym (ap (λ f. popped_by f (seen s)) c.requires.whole))
