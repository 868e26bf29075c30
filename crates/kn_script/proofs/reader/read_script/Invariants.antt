use Rattle.std.proofs.Common.{◌≡◌, ◌≤◌, ◌+◌, length}
use Rattle.kn_script.specs.Lines.{lines_of}
use Rattle.kn_script.specs.Script.{script_of, after_events, events_of}
use Rattle.kn_script.specs.Answers.{IsWithin}
use Rattle.kn_script.proofs.reader.read_script.Given as goal

-- The events so far stand before those of the lines that are left. Each line took at least one byte.
abbrev pub invariant-loop-rest : goal.invariant-loop-rest
invariant-loop-rest l = record {
  so_far : script_of l.bytes ≡ after_events l.reader.events.items (events_of (l.number + 1) l.reader.made (lines_of l.rest));
  within : IsWithin l.reader.made;
  bounded : l.number + length l.rest ≤ length l.bytes;
}

abbrev pub decreases-loop-rest : goal.decreases-loop-rest
decreases-loop-rest l = length l.rest
