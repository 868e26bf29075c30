use Rattle.kn_h2.proofs.FrameWindows.{frames_shift}
use Rattle.kn_h2.proofs.ConnectionWindows.{frames_shift_all}
use Rattle.kn_h2.proofs.call_laws.windows_follow.Goals as goal

pub returns : goal.returns
returns c = record { stream = frames_shift; connection = frames_shift_all }
