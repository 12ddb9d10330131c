use Rattle.std.proofs.Common.{◌∙◌, ◌+◌, ◌*◌, refl, arith, slice_index}
use Rattle.std.proofs.lemmas.List.{length-set}
use Rattle.zvt_trace.proofs.PairLemmas.{no_byte, none_read, one_more}
use Rattle.zvt_trace.proofs.spelled.read_pairs.Goals as goal

pub pairs-init : goal.pairs-init
pairs-init c = record {
  few = omega arith;
  size = refl;
  so_far = none_read c.args.text.now c.args.buffer.now;
}

pub pairs-preserved : goal.pairs-preserved
pairs-preserved c =
    let so = c.pairs.invariant in record {
      few = omega (arith, c.pairs-test.true);
      size = length-set c.pairs.buffer c.pairs.count c.pair-byte.result ∙ so.size;
      so_far = one_more c.args.text.now c.pairs.buffer c.pairs.count c.pair-byte.result (omega arith) (omega (arith, c.pairs-test.true, c.min-most.ensures)) c.pair-byte.ensures (omega (arith, c.if-byte-gt255.false)) so.so_far;
    }

pub returns-then-byte-gt255-clause-all : goal.returns-then-byte-gt255-clause-all
returns-then-byte-gt255-clause-all c some room =
    let text = c.args.text.now in
    no_byte (slice_index text (2 * c.pairs.count)) (slice_index text (2 * c.pairs.count + 1)) (omega (arith, c.pair-byte.ensures, c.if-byte-gt255.true))
