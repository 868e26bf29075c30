-- What a world shows after turns is what moves lead to, so the laws of the packet world hold of it.
use Rattle.kn_packets.proofs.Outcomes.{all_accounted, delivered, emptied_world, undialled}
use Rattle.kn_packets.proofs.PhaseTables.{in_phases}
use Rattle.kn_packets.proofs.Runs.{Holds, everything}
use Rattle.kn_refinement.specs.Shown.{shown}
use Rattle.kn_refinement.proofs.OwnDials.{gets_nothing, owns}
use Rattle.kn_refinement.proofs.Promises.{keeps_apart, leaves_nothing}
use Rattle.kn_turns.specs.Promises.{TurnsKeepPromises}
use Rattle.kn_turns.proofs.Runs.{from_start}

pub promises_kept : TurnsKeepPromises
promises_kept strategies ts s turns =
    let led = from_start strategies ts s turns in
    let holds : Holds (shown s) = everything strategies led.2 (shown s) led.3 in
    record {
      bytes = keeps_apart s led.0 (delivered (shown s) holds.reached);
      own = owns s led.0;
      undialled = gets_nothing s led.0 holds.keys (undialled (shown s) holds.reached);
      connections = all_accounted (shown s) holds.keys holds.reached holds.owned;
      tables = leaves_nothing s led.0 holds.keys holds.owned (emptied_world (shown s) holds.keys holds.reached holds.owned);
      phases = in_phases (shown s) holds.keys;
    }
