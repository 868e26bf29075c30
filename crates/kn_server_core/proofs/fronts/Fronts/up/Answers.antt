use Rattle.std.proofs.Common.{sym, ◌∙◌, ap, subst, ◌<◌}
use Rattle.kn_server_core.proofs.FrontLemmas.{put_same, within_more}
use Rattle.kn_server_core.proofs.fronts.Fronts.up.Goals as goal

pub invariant_of-self-2 : goal.invariant_of-self-2
invariant_of-self-2 c =
    let l = subst (λ v. v.top < c.args.front) (sym c.self.view_is) c.requires in
    rw (c.in_ok-insert.ensures.keys, put_same c.args.front c.self.inside.top c.self.inside.numbers.keys l c.self.invariant) (within_more c.args.front c.self.inside.top c.self.inside.numbers.keys l c.self.invariant)

pub returns-clause-ok : goal.returns-clause-ok
returns-clause-ok c =
    let l = subst (λ v. v.top < c.args.front) (sym c.self.view_is) c.requires in
    rw (← c.self.view_is) (ap (λ k. record { fronts = k; top = c.args.front }) (c.in_ok-insert.ensures.keys ∙ put_same c.args.front c.self.inside.top c.self.inside.numbers.keys l c.self.invariant))
