use Rattle.std.proofs.Common.{false}
use Rattle.kn_frames.specs.Frames.{preface}
use Rattle.kn_h2_state.specs.Calls.{opening}
use Rattle.kn_h2_state.proofs.OutLemmas.{put_put, put_three}
use Rattle.kn_h2_state.proofs.opening.write_opening.Goals as goal

pub returns-in_ok-write_grant-in-Server : goal.returns-in_ok-write_grant-in-Server
unfolding opening
returns-in_ok-write_grant-in-Server c =
    rw (c.in_ok-write_grant-in-Server.ensures, c.in_ok-write_settings-in-Server.ensures, c.in-Server.is) (put_put c.args.out.now false _ _)

pub returns-in_ok-write_grant-in-Client : goal.returns-in_ok-write_grant-in-Client
unfolding opening preface
returns-in_ok-write_grant-in-Client c =
    rw (c.in_ok-write_grant-in-Client.ensures, c.in_ok-write_settings-in-Client.ensures, c.in_ok-put-in-Client.ensures.ok, c.in-Client.is)
    (put_three c.args.out.now false _ _ _)
