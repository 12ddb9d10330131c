use Rattle.std.proofs.Common.{codes, subst, ℕ, Option}
use Rattle.clap.specs.Matches.{found_of}
use Rattle.clap.specs.Walk.{rows_of}
use Rattle.zvt_tool.specs.Given.{IsNumberOf}
use Rattle.zvt_tool.proofs.Lacking.{tap_without_connections}
use Rattle.zvt_tool.proofs.tap_options.read_tap.Goals as goal

pub returns-in_err-connections : goal.returns-in_err-connections
returns-in_err-connections c =
    rw c.from_residual-in_err-connections.ensures (tap_without_connections (rows_of (found_of c.args.inner.now))
    (subst (λ (r : Option ℕ). IsNumberOf (codes "connections") (rows_of (found_of c.args.inner.now)) 65535 r) c.in_err-connections.was c.number.ensures))
