use Rattle.kn_h2.proofs.MakeLemmas.{grant_number, grant_made}
use Rattle.kn_h2.proofs.moves.grant.Goals as goal

pub write_grant-requires : goal.write_grant-requires
write_grant-requires c = grant_number c.args.state.now c.args.number c.requires.holds c.requires.may

pub returns : goal.returns
returns c = grant_made c.args.state.now c.args.number _ _ _ c.requires.may c.owed_at-by.ensures c.in_ok-write_grant.ensures c.give_back_at.ensures
