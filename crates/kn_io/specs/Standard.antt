-- What a clause reads of a source or a sink over std.
use Rattle.std.specs.Prelude.{ℕ}
use Rattle.kn_io.specs.declared.standard.StdSource.{StdSource}
use Rattle.kn_io.specs.declared.standard.StdSink.{StdSink}

abbrev pub source_reader : {R : Type 0} → StdSource R → R
source_reader s = s.reader

abbrev pub source_faults : {R : Type 0} → StdSource R → ℕ
source_faults s = s.faults

abbrev pub sink_writer : {W : Type 0} → StdSink W → W
sink_writer s = s.writer

abbrev pub sink_faults : {W : Type 0} → StdSink W → ℕ
sink_faults s = s.faults
