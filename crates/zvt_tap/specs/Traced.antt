-- The contents of the trace of a line, and how writing it fails.
use Rattle.std.specs.Prelude.{◌≡◌, ◌⊎◌, ◌<◌, ◌≤◌, ◌++◌, ◌&&◌, [], ℕ, Bool, true, false, List, Option, None, Some}
use Rattle.std.specs.Io.KnownBytes.{Appends}
use Rattle.zvt_io.specs.Devices.{IsPrefix}
use Rattle.zvt_trace.specs.declared.listener.ListenerError.{ListenerError}
use Rattle.zvt_trace.specs.declared.listener.ListenerError.TheVariants.{Memory, Write}
use Rattle.zvt_trace.specs.declared.writer.TraceWriter.{TraceWriter}
use Rattle.zvt_tap.specs.declared.tracing.Tracing.{Tracing}

-- the device has this text besides; or it failed, and has a prefix of the text besides
abbrev pub HasTraced : (failed : Bool) → (text : List ℕ) → (first now : Option (List ℕ)) → Type 0
HasTraced false text first now = Appends first now text
HasTraced true text first now = (part : List ℕ) × IsPrefix part text × Appends first now part

-- a device that had failed has, and another only if a write failed since
abbrev pub FailsOnlyIf : (was is : Bool) → (failures_before failures_after : ℕ) → Type 0
FailsOnlyIf was is before after = (before ≤ after) × (was ≡ true → is ≡ true) × (is ≡ true → (was ≡ true) ⊎ (before < after))

-- what the device of a trace has, where there is one
abbrev pub traced_by : {T : Type 0} → (T → Option (List ℕ)) → Option (TraceWriter T) → Option (List ℕ)
traced_by written None = None
traced_by written (Some writer) = written writer.device

-- how many writes to it failed
abbrev pub failures_by : {T : Type 0} → (T → ℕ) → Option (TraceWriter T) → ℕ
failures_by failures None = 0
failures_by failures (Some writer) = failures writer.device

-- the trace is on this device
abbrev pub IsOn : {T : Type 0} → Option T → Option (TraceWriter T) → Type 0
IsOn None trace = trace ≡ None
IsOn (Some device) None = ⊥
IsOn (Some device) (Some writer) = writer.device ≡ device

-- the trace has this text besides, unless it failed
pub record TracesOn {T : Type 0} (written : T → Option (List ℕ)) (failures : T → ℕ) (old : Tracing T) (text : List ℕ) (new : Tracing T) : Type 0 where
  pub traced : (trace : List ℕ) (first : Option (List ℕ)) → HasTraced old.failed trace first (traced_by written old.trace) → HasTraced new.failed (trace ++ text) first (traced_by written new.trace)
  pub fails : FailsOnlyIf old.failed new.failed (failures_by failures old.trace) (failures_by failures new.trace)
  pub required : new.required ≡ old.required

-- the line needs a trace that can't be written any more
abbrev pub is_stopped : {T : Type 0} → Tracing T → Bool
is_stopped tracing = tracing.failed && tracing.required

abbrev pub GoesOn : {T : Type 0} → (T → Option (List ℕ)) → (T → ℕ) → (old : Tracing T) → (text : List ℕ) → (new : Tracing T) → Type 0
GoesOn written failures old text new = TracesOn written failures old text new × (is_stopped new ≡ false)

-- the line has to end: there was no memory for the text, and none of it was written; or the trace can't be written
abbrev pub Stops : {T : Type 0} → (T → Option (List ℕ)) → (T → ℕ) → (old : Tracing T) → (text : List ℕ) → ListenerError → (new : Tracing T) → Type 0
Stops written failures old text Memory new = TracesOn written failures old [] new
Stops written failures old text Write new = TracesOn written failures old text new × (is_stopped new ≡ true)
