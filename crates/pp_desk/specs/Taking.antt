-- What a desk answers for an answer of its reader.
use Rattle.std.specs.Prelude.{Result, Ok, Err}
use Rattle.pp_desk.specs.declared.input_line.InputLine.{InputLine}
use Rattle.pp_desk.specs.declared.input_line.InputLine.TheVariants as lines
use Rattle.pp_desk.specs.declared.line_reader.LineRead.{LineRead}
use Rattle.pp_desk.specs.declared.line_reader.LineRead.TheVariants as reads
use Rattle.pp_desk.specs.declared.stop.Stop.{Stop}
use Rattle.pp_desk.specs.declared.stop.Stop.TheVariants as stops

-- the line of an answer, or what stopped the reader
abbrev pub line_or_stop : LineRead → Result InputLine Stop
line_or_stop (reads.Line bytes) = Ok (lines.Line bytes)
line_or_stop reads.TooLong = Ok lines.TooLong
line_or_stop reads.End = Ok lines.End
line_or_stop reads.InputTooLong = Ok lines.InputTooLong
line_or_stop reads.Failed = Err stops.Input
line_or_stop reads.Memory = Err stops.Memory
