-- Each by the laws of the wire, of frames that are heard, and of what is written.
use Rattle.kn_pending.proofs.ResetLemmas.{gentle_reset}
use Rattle.kn_pending.proofs.QueueLemmas.{queue_stays}
use Rattle.kn_pending.proofs.PendingLemmas.{closed_stays, delivers, delivers_heard, enters, leaves_front, reads, handles, queues, admits, keeps_behind, writes, writes_nothing, between}
use Rattle.kn_pending.proofs.laws.pending_moves.Goals as goal

pub returns : goal.returns
returns c = record {
  delivers = delivers c.wire_splits.ensures c.frames_are_heard.ensures;
  enters = enters;
  reads = reads;
  handles = handles;
  queues = queues;
  behind = keeps_behind;
  admits = admits;
  writes = writes c.wire_splits.ensures c.calls_are_written.ensures.fills c.written_is_carried.ensures.fills c.sending_laws.ensures.order;
  nothing = writes_nothing c.wire_splits.ensures;
  stays = queue_stays;
  heard = delivers_heard c.wire_splits.ensures;
  gentle = gentle_reset;
  closed = closed_stays c.closed_text_stays.ensures.frames;
  left = leaves_front c.wire_splits.ensures;
  between = between c.calls_are_written.ensures.fills c.written_is_carried.ensures.fills;
}
