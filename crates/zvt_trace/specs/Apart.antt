-- What a listener hears whose failures are its own, and one that is told nothing of a refused line.
use Rattle.std.specs.Prelude.{◌≡◌, Bool, true, false, not, ◌&&◌, Option, None, Some}
use Rattle.zvt_trace.specs.Listening.{Fails, Hears}
use Rattle.zvt_trace.specs.TraceEvent.{At, TraceEvent, message, refused, unread, resumed, cut_off, lost}
use Rattle.zvt_trace.specs.declared.alone.Alone.{Alone}
use Rattle.zvt_trace.specs.declared.listener.ListenerError.{ListenerError}
use Rattle.zvt_trace.specs.declared.until_refused.UntilRefused.{UntilRefused}

-- ---- failures that are a listener's own

-- The listener hears the event, or fails for the first time; or it failed before, and stays as it is.
abbrev pub HearsOrFailed : {S : Type 0} → Hears S → Fails S → (was is : Option ListenerError) → (old : S) → At → (new : S) → Type 0
HearsOrFailed hears fails None None old event new = hears old event new
HearsOrFailed hears fails None (Some why) old event new = fails old event why new
HearsOrFailed hears fails (Some why) is old event new = (is ≡ Some why) × (new ≡ old)

abbrev pub HearsAlone : {S : Type 0} → Hears S → Fails S → Hears (Alone S)
HearsAlone hears fails old event new = HearsOrFailed hears fails old.fault new.fault old.listener event new.listener

-- ---- refused lines

-- A refusal lasts until the connection is lost.
abbrev pub refused_after : (was : Bool) → TraceEvent → Bool
refused_after was (message from m) = was
refused_after was (refused from before byte why) = true
refused_after was (unread from) = was
refused_after was (resumed from size) = was
refused_after was (cut_off from bytes) = was
refused_after was lost = false

-- nothing is told of a line that was refused before the event and is after it
abbrev pub is_told : (was : Bool) → TraceEvent → Bool
is_told was event = not (was && refused_after was event)

-- a listener hears an event that it is told, and else stays as it is
abbrev pub HearsIf : {S : Type 0} → (told : Bool) → Hears S → Hears S
HearsIf true hears old event new = hears old event new
HearsIf false hears old event new = new ≡ old

abbrev pub HearsUntil : {S : Type 0} → Hears S → Hears (UntilRefused S)
HearsUntil hears old event new =
    HearsIf (is_told old.is_refused event.trace_event) hears old.listener event new.listener × (new.is_refused ≡ refused_after old.is_refused event.trace_event)

-- it was told the event, and failed
abbrev pub FailsUntil : {S : Type 0} → Fails S → Fails (UntilRefused S)
FailsUntil fails old event why new = fails old.listener event why new.listener
