use Rattle.kn_frames.proofs.Listed.{lines_of_frames, cut_after_frames, long_after_frames, frames_give_lines, rest_gives_cut, long_gives_fault}
use Rattle.kn_frames.proofs.laws.listed_as_spelled.Goals as goal

pub returns-clause-lines : goal.returns-clause-lines
returns-clause-lines c = lines_of_frames

pub returns-clause-only_lines : goal.returns-clause-only_lines
returns-clause-only_lines c = frames_give_lines

pub returns-clause-cut : goal.returns-clause-cut
returns-clause-cut c = cut_after_frames

pub returns-clause-only_cut : goal.returns-clause-only_cut
returns-clause-only_cut c = rest_gives_cut

pub returns-clause-too_long : goal.returns-clause-too_long
returns-clause-too_long c = long_after_frames

pub returns-clause-only_too_long : goal.returns-clause-only_too_long
returns-clause-only_too_long c = long_gives_fault
