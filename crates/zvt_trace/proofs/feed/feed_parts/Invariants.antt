use Rattle.std.proofs.Common.{length}
use Rattle.zvt_grammar.specs.Lengths.{reading_of}
use Rattle.zvt_trace.specs.Listening.{HearsFirst}
use Rattle.zvt_trace.specs.Meanings.{SpellsBytes, bytes_in, bytes_of}
use Rattle.zvt_trace.specs.Trace.{Side}
use Rattle.zvt_trace.specs.Written.{Follows, ReadsBy}
use Rattle.zvt_trace.proofs.feed.feed_parts.Given as goal

abbrev pub invariant-chunks : goal.invariant-chunks
invariant-chunks g l = record {
  so_far : (side : Side) → Follows (reading_of l.options.lengths) l.fn.reader side
      → HearsFirst (reading_of l.options.lengths) g.L.Listener.hears l.options.scope l.line l.from side (bytes_in l.piece) (bytes_of l.rest) l.reader l.any l.fn.listener l.listener;
  spelled : SpellsBytes l.rest;
  reading : ReadsBy (reading_of l.options.lengths) l.reader;
}

abbrev pub decreases-chunks : goal.decreases-chunks
decreases-chunks g l = length l.rest
