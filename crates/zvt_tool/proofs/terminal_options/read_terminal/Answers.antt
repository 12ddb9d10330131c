use Rattle.std.proofs.Common.{codes, subst, ℕ, Option}
use Rattle.clap.specs.Matches.{found_of}
use Rattle.clap.specs.Walk.{rows_of}
use Rattle.zvt_tool.specs.Given.{IsNumberOf}
use Rattle.zvt_tool.proofs.Lacking.{terminal_without_connections, terminal_without_delay, terminal_without_port, terminal_without_tid}
use Rattle.zvt_tool.proofs.terminal_options.read_terminal.Goals as goal

pub returns-in_err-port : goal.returns-in_err-port
returns-in_err-port c =
    rw c.from_residual.ensures (terminal_without_port (rows_of (found_of c.args.inner.now))
    (subst (λ (r : Option ℕ). IsNumberOf (codes "port") (rows_of (found_of c.args.inner.now)) 65535 r) c.in_err-port.was c.number.ensures))

pub returns-in_err-tid : goal.returns-in_err-tid
returns-in_err-tid c =
    rw c.from_residual-in_err-tid.ensures (terminal_without_tid (rows_of (found_of c.args.inner.now))
    (subst (λ (r : Option ℕ). IsNumberOf (codes "tid") (rows_of (found_of c.args.inner.now)) 99999999 r) c.in_err-tid.was c.tid.ensures))

pub returns-in_err-connections : goal.returns-in_err-connections
returns-in_err-connections c =
    rw c.from_residual-in_err-connections.ensures (terminal_without_connections (rows_of (found_of c.args.inner.now))
    (subst (λ (r : Option ℕ). IsNumberOf (codes "connections") (rows_of (found_of c.args.inner.now)) 65535 r) c.in_err-connections.was c.number-2.ensures))

pub returns-in_err-delay : goal.returns-in_err-delay
returns-in_err-delay c =
    rw c.from_residual-in_err-delay.ensures (terminal_without_delay (rows_of (found_of c.args.inner.now))
    (subst (λ (r : Option ℕ). IsNumberOf (codes "delay") (rows_of (found_of c.args.inner.now)) 65535 r) c.in_err-delay.was c.number-3.ensures))
