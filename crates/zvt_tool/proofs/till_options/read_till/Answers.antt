use Rattle.clap.specs.Matches.{found_of}
use Rattle.clap.specs.Walk.{rows_of}
use Rattle.zvt_tool.proofs.Lacking.{till_without_port, till_without_timeout}
use Rattle.zvt_tool.proofs.till_options.read_till.Goals as goal

pub returns-in_default : goal.returns-in_default
returns-in_default c = till_without_port (rows_of (found_of c.args.inner.now)) c.in_default.ensures

pub returns-in_default-number : goal.returns-in_default-number
returns-in_default-number c = till_without_timeout (rows_of (found_of c.args.inner.now)) c.in_default-number.ensures
