use Rattle.kn_frames.proofs.Streams.{stream_sound, stream_only, stream_faults, stream_fails, stream_first}
use Rattle.kn_frames.proofs.laws.cut_as_spelled.Goals as goal

pub returns-clause-cut : goal.returns-clause-cut
returns-clause-cut c = stream_sound

pub returns-clause-only : goal.returns-clause-only
returns-clause-only c preface bytes rest frames s = let h = stream_only preface bytes frames rest s in (h.well, h.frames, h.held, h.offset)

pub returns-clause-fault : goal.returns-clause-fault
returns-clause-fault c = stream_faults

pub returns-clause-refused : goal.returns-clause-refused
returns-clause-refused c preface bytes more rest frames fault e = stream_first preface bytes fault e more rest frames

pub returns-clause-only_fault : goal.returns-clause-only_fault
returns-clause-only_fault c preface bytes frames fault h = let k = stream_fails preface bytes frames fault h in (k.failed, k.frames)
