use Rattle.zvt_stream.specs.LineReading.{reading_as}
use Rattle.zvt_runs.proofs.ManyTills.{served_line}
use Rattle.zvt_runs.proofs.tcp.terminal.serve_till.Goals as goal

pub returns-then-is_broken : goal.returns-then-is_broken
returns-then-is_broken g c = (_, served_line (reading_as c.args.line) c.serve.result _ _ c.args.served.now c.serve.new.served c.in_ok-end.ensures.start c.requires c.serve.ensures)

pub returns : goal.returns
returns g c = rw c.err-broke.ensures.value (served_line (reading_as c.args.line) c.serve.result _ _ c.args.served.now c.serve.new.served c.in_ok-end.ensures.start c.requires c.serve.ensures)
