use Rattle.std.proofs.Common.{ap, ◌≤◌, length, arith}
use Rattle.zvt_trace.specs.Written.{limit}
use Rattle.zvt_grammar.specs.Lengths.{reading_of}
use Rattle.zvt_report.proofs.WrittenLemmas.{read_written}
use Rattle.zvt_report.proofs.written.read_report.Goals as goal

pub returns-clause-writes : goal.returns-clause-writes
returns-clause-writes g c =
    let few : length c.in_ok-trace.trace.items ≤ limit = omega (arith, c.in_ok-trace.ensures.bound, c.as_slice.ensures.len, ap length c.as_slice.ensures.value) in
    read_written (reading_of c.args.lengths) c.args.scope c.args.form c.args.zone c.args.name.now _ c.in_ok-trace.trace.items c.as_slice.result.now _ _ c.write_report.result c.in_ok-trace.ensures.trace few c.as_slice.ensures.value c.write_report.ensures.writes
