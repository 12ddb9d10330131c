use Rattle.std.proofs.Common.{◌∙◌, ◌+◌, ◌*◌, length, ap, arith, length-drop}
use Rattle.std.proofs.lemmas.List.{length-set}
use Rattle.zvt_trace.specs.Meanings.{without_spaces}
use Rattle.zvt_trace.proofs.SpelledLemmas.{read_pair, refuses_one, refuses_pair, tail_is}
use Rattle.zvt_trace.proofs.spelled.read.Goals as goal

pub returns-in_default-skip_spaces-clause-read : goal.returns-in_default-skip_spaces-clause-read
returns-in_default-skip_spaces-clause-read c =
    refuses_one _ c.args.text.now c.pairs.rest.now c.skip_spaces.result.now c.in-len1-up.len_at_least c.pairs.invariant.none (c.skip_spaces.ensures.same ∙ ap without_spaces (tail_is c.pairs.rest.now)) c.in_default-skip_spaces.len_below c.pairs.invariant.so_far

pub returns-then-high-gt15-clause-read : goal.returns-then-high-gt15-clause-read
returns-then-high-gt15-clause-read c =
    refuses_pair _ c.args.text.now c.pairs.rest.now c.skip_spaces.result.now c.value-high.result c.value-low.result c.in-len1-up.len_at_least c.pairs.invariant.none (c.skip_spaces.ensures.same ∙ ap without_spaces (tail_is c.pairs.rest.now))
    c.in-len1-up-skip_spaces.len_at_least c.skip_spaces.ensures.none c.value-high.ensures c.value-low.ensures c.then-high-gt15.either c.pairs.invariant.so_far

pub pairs-preserved : goal.pairs-preserved
pairs-preserved c =
    let next = c.skip_spaces-rest-in-pairs.ensures in
    let first = ap length (tail_is c.pairs.rest.now) ∙ length-drop 1 c.pairs.rest.now in
    let second = ap length (tail_is c.skip_spaces.result.now) ∙ length-drop 1 c.skip_spaces.result.now in
    record {
      so_far = read_pair c.args.text.now c.pairs.rest.now c.skip_spaces.result.now c.skip_spaces-rest-in-pairs.result.now c.pairs.buffer c.pairs.count c.value-high.result c.value-low.result (omega arith)
          c.in-len1-up.len_at_least c.pairs.invariant.none (c.skip_spaces.ensures.same ∙ ap without_spaces (tail_is c.pairs.rest.now)) c.in-len1-up-skip_spaces.len_at_least c.skip_spaces.ensures.none (next.same ∙ ap without_spaces (tail_is c.skip_spaces.result.now))
          c.value-high.ensures c.value-low.ensures c.if-high-gt15.false c.if-low-gt15.false c.pairs.invariant.so_far;
      none = next.none;
      within = omega (arith, c.pairs-test.true, length-set c.pairs.buffer c.pairs.count (c.value-high.result * 16 + c.value-low.result));
      size = length-set c.pairs.buffer c.pairs.count (c.value-high.result * 16 + c.value-low.result) ∙ c.pairs.invariant.size;
      few = omega (arith, next.shorter, c.skip_spaces.ensures.shorter, first, second);
    }
