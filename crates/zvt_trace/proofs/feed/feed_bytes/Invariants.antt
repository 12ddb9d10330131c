use Rattle.std.proofs.Common.{length}
use Rattle.zvt_grammar.specs.Lengths.{reading_of}
use Rattle.zvt_trace.specs.Listening.{HearsFirst}
use Rattle.zvt_trace.specs.Trace.{Side}
use Rattle.zvt_trace.specs.Written.{Follows, ReadsBy}
use Rattle.zvt_trace.proofs.feed.feed_bytes.Given as goal

abbrev pub invariant-bytes : goal.invariant-bytes
invariant-bytes g l = record {
  so_far : (side : Side) → Follows (reading_of l.options.lengths) l.fn.reader side
      → HearsFirst (reading_of l.options.lengths) g.L.Listener.hears l.options.scope l.line l.from side l.bytes l.rest l.reader l.any l.fn.listener l.listener;
  reading : ReadsBy (reading_of l.options.lengths) l.reader;
}

abbrev pub decreases-bytes : goal.decreases-bytes
decreases-bytes g l = length l.rest
