use Rattle.std.proofs.Common.{◌∙◌, arith}
use Rattle.zvt_play.proofs.ListeningLemmas.{discards_more}
use Rattle.zvt_play.proofs.silence.stay_silent.Goals as goal

pub loop-preserved : goal.loop-preserved
loop-preserved g c =
    let read = c.in-Ok.ensures.bytes in
    record {
      discards = discards_more c.loop.counter c.in-Ok.count c.read.new.buffer (g.R.Source.remaining c.args.reader.now) (g.R.Source.remaining c.loop.reader) (g.R.Source.remaining c.read.new.self) c.loop.invariant.discards c.if-count-gt0.true read.0 read.1;
      failures = c.in-Ok.ensures.failures ∙ c.loop.invariant.failures;
      reads = omega (arith, c.in-Ok.ensures.counted, c.loop.invariant.reads);
    }
