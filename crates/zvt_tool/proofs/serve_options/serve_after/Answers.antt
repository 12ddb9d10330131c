use Rattle.std.proofs.Common.{codes, subst, ℕ, Option}
use Rattle.clap.specs.Matches.{found_of}
use Rattle.clap.specs.Walk.{rows_of}
use Rattle.zvt_tool.specs.Given.{IsNumberOf}
use Rattle.zvt_tool.proofs.Lacking.{serve_without_clients, serve_without_port, serve_without_timeout}
use Rattle.zvt_tool.proofs.serve_options.serve_after.Goals as goal

pub returns-in_err-port : goal.returns-in_err-port
returns-in_err-port c =
    rw c.from_residual.ensures (serve_without_port (rows_of (found_of c.args.inner.now))
    (subst (λ (r : Option ℕ). IsNumberOf (codes "port") (rows_of (found_of c.args.inner.now)) 65535 r) c.in_err-port.was c.number.ensures))

pub returns-in_err-timeout : goal.returns-in_err-timeout
returns-in_err-timeout c =
    rw c.from_residual-in_err-timeout.ensures (serve_without_timeout (rows_of (found_of c.args.inner.now))
    (subst (λ (r : Option ℕ). IsNumberOf (codes "timeout") (rows_of (found_of c.args.inner.now)) 65535 r) c.in_err-timeout.was c.number-2.ensures))

pub returns-in_err-clients : goal.returns-in_err-clients
returns-in_err-clients c =
    rw c.from_residual-in_err-clients.ensures (serve_without_clients (rows_of (found_of c.args.inner.now))
    (subst (λ (r : Option ℕ). IsNumberOf (codes "clients") (rows_of (found_of c.args.inner.now)) 65535 r) c.in_err-clients.was c.number-3.ensures))
