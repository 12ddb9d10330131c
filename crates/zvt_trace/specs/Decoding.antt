-- The state of a line.
use Rattle.zvt_grammar.specs.Reading.{Reading}
use Rattle.zvt_grammar.specs.Lengths.{reading_of}
use Rattle.zvt_trace.specs.Listening.{FollowBoth, TakeBy}
use Rattle.zvt_trace.specs.Trace.{Sides}
use Rattle.zvt_trace.specs.declared.decoder.Line.{Line}
use Rattle.zvt_trace.specs.declared.listener.Scope.{Scope}

abbrev pub line_reading : Line → Reading
line_reading line = reading_of line.options.lengths

abbrev pub line_scope : Line → Scope
line_scope line = line.options.scope

-- both sides have sent this
abbrev pub Stands : Line → Sides → Type 0
Stands line sides = FollowBoth (line_reading line) line.sides sides

-- both decoders take lengths as the line does
abbrev pub IsLine : Line → Type 0
IsLine line = TakeBy (line_reading line) line.sides
