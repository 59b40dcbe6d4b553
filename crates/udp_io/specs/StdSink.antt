-- The parts of a sink over a writer.
use Rattle.std.specs.Prelude.{ℕ}
use Rattle.udp_io.specs.declared.std_sink.StdSink.{StdSink}

-- what the bytes are handed to
abbrev pub inner_writer : {W : Type 0} → StdSink W → W
inner_writer sink = sink.writer

abbrev pub writer_faults : {W : Type 0} → StdSink W → ℕ
writer_faults sink = sink.faults
