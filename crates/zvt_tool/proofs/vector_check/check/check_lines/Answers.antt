use Rattle.std.proofs.Common.{◌≡◌, length, arith, refl, ◌∙◌, rules}
use Rattle.std.proofs.lemmas.Result.{err_from_is_err_and}
use Rattle.zvt_tool.proofs.LineLemmas.{closed, failed, none_yet, one_more}
use Rattle.zvt_tool.proofs.vector_check.check.check_lines.Goals as goal

pub lines-init : goal.lines-init
lines-init g c = record {
  so_far = none_yet c.args.form c.args.text.now _ (g.W.Sink.written c.args.writer.now) refl refl;
  lines = omega arith;
  messages = omega arith;
  bad = omega arith;
  failures = refl;
}

pub returns-in_err-counted-clause-writes : goal.returns-in_err-counted-clause-writes
returns-in_err-counted-clause-writes g c =
    let p = err_from_is_err_and c.from_residual.result c.from_residual.ensures.1 in
    rw (p.1, p.2) (failed c.args.form c.args.text.now c.lines.rest.now c.next_line.result.0.now c.next_line.result.1.now c.lines.number _ c.in_err-counted.field-0.0 _ _ _ c.lines.invariant.so_far c.next_line.ensures.lines c.in_err-counted.ensures.checks)

pub lines-preserved : goal.lines-preserved
lines-preserved g c = record {
  so_far = one_more c.args.form c.args.text.now c.lines.rest.now c.next_line.result.0.now c.next_line.result.1.now c.lines.number _ c.in_ok-counted.counted _ _ _ _ c.lines.invariant.so_far c.next_line.ensures.lines c.in_ok-counted.ensures.checks refl refl;
  lines = omega (arith, c.lines.invariant.lines, c.next_line.ensures.some);
  messages = omega (arith, c.lines.invariant.messages, c.in_ok-counted.ensures.one.0);
  bad = omega (arith, c.lines.invariant.bad, c.in_ok-counted.ensures.one.1);
  failures = c.in_ok-counted.ensures.count ∙ c.lines.invariant.failures;
}

pub returns-clause-writes : goal.returns-clause-writes
returns-clause-writes g c =
    let none : length c.lines.rest.now ≡ 0 = search rules in
    closed c.args.form c.args.text.now c.lines.rest.now c.lines.number _ _ _ none c.lines.invariant.so_far
