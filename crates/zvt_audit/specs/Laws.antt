-- A line that is read on after refused messages.
use Rattle.std.specs.Prelude.{◌≡◌, Bool, true, false, List}
use Rattle.std.specs.List.{list_any}
use Rattle.zvt_till.specs.declared.happenings.Happening.{Happening}
use Rattle.zvt_till.specs.declared.happenings.Happening.TheVariants.{Connected, Sent, Heard, Malformed, Lost}
use Rattle.zvt_trace.specs.TraceEvent.{At}
use Rattle.zvt_trace.specs.declared.listener.Scope.TheVariants.{OneMessage}
use Rattle.zvt_audit.specs.ByControl.{seen}
use Rattle.zvt_audit.specs.Happened.{log_of}

abbrev pub is_malformed : Happening → Bool
is_malformed Connected = false
is_malformed (Sent order) = false
is_malformed (Heard what) = false
is_malformed Malformed = true
is_malformed Lost = false

-- whatever its events are, it is never malformed
abbrev pub ReadOnIsWellFormed : Type 0
ReadOnIsWellFormed = (events : List At) → list_any is_malformed (log_of (seen OneMessage events)) ≡ false
