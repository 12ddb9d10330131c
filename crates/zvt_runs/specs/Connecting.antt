-- Connections, and why they cannot be opened.
use Rattle.std.specs.Prelude.{ℕ}
use Rattle.std.specs.declared.io.ErrorKind.{ErrorKind}
use Rattle.std.specs.declared.io.ErrorKind.TheVariants.{AddrInUse, AddrNotAvailable, ConnectionRefused, HostUnreachable, NetworkUnreachable, PermissionDenied, TimedOut}
use Rattle.zvt_runs.specs.declared.tcp.connection.Door.{Door}
use Rattle.zvt_runs.specs.declared.fault.NetFault.{NetFault}
use Rattle.zvt_runs.specs.declared.fault.NetFault.TheVariants.{Elsewhere, InUse, NotAllowed, Other, Refused, Silent, Unreachable}

-- the reason, by the system's error
abbrev pub why_of : ErrorKind → NetFault
why_of ConnectionRefused = Refused
why_of AddrInUse = InUse
why_of AddrNotAvailable = Elsewhere
why_of PermissionDenied = NotAllowed
why_of HostUnreachable = Unreachable
why_of NetworkUnreachable = Unreachable
why_of TimedOut = Silent
why_of _ = Other

-- the number of connections that the door accepted
abbrev pub given_by : Door → ℕ
given_by door = door.gave.count
