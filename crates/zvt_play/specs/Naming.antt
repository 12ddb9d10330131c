-- Where a script can use a name, and the result of reading a script.
use Rattle.std.specs.Prelude.{◌≡◌, ◌<◌, ℕ, ◌-◌, ◌⊎◌, ◌==◌, Bool, true, false, cond, nat_le, List, [], ◌∷◌, length, take, drop, slice_get, slice_index, slice_index_or, Option, Some, None, Result, Ok, Err, Vec}
use Rattle.std.specs.Option.{option_or}
use Rattle.std.specs.Global.{Global}
use Rattle.std.specs.Str.Lines.{lines}
use Rattle.zvt_stream.specs.LineReading.{LineReading}
use Rattle.zvt_trace.specs.declared.direction.Direction.{Direction}
use Rattle.zvt_play.specs.Numbers.{bmp_of, longest_line, size_of}
use Rattle.zvt_play.specs.Playing.{acts_of}
use Rattle.zvt_play.specs.Script.{Act, IsFirstWrong, LinesSay, await, bind, break, listen, prepare, same, send, silence, steps_at, wait}
use Rattle.zvt_play.specs.declared.line.ScriptLineError.{ScriptLineError}
use Rattle.zvt_play.specs.declared.line.ScriptLineError.TheVariants.{Name}
use Rattle.zvt_play.specs.declared.naming.NameFault.{NameFault}
use Rattle.zvt_play.specs.declared.naming.NameFault.TheVariants.{Bound, NoField, NoMessage, Size, Unbound}
use Rattle.zvt_play.specs.declared.numbers.NumberField.{NumberField}
use Rattle.zvt_play.specs.declared.scripts.ScriptFault.{ScriptFault}
use Rattle.zvt_play.specs.declared.scripts.ScriptFault.TheVariants as fault
use Rattle.zvt_play.specs.declared.step.ScriptStep.{ScriptStep}

-- ---- one mark

-- the step receives a message, or looks at the last received one
abbrev pub is_heard : Act → Bool
is_heard (await bytes) = true
is_heard (bind field name) = true
is_heard (same field name) = true
is_heard (send bytes) = false
is_heard break = false
is_heard (wait milliseconds) = false
is_heard silence = false
is_heard (listen milliseconds) = false
is_heard (prepare field name) = false

abbrev pub is_some_heard : Option Act → Bool
is_some_heard None = false
is_some_heard (Some act) = is_heard act

-- the last of these steps receives a message or looks at one
abbrev pub hears_last : List Act → Bool
hears_last acts = is_some_heard (slice_get acts (length acts - 1))

-- the field of the step if it binds the name
abbrev pub bound_here : (name : ℕ) → Act → Option NumberField
bound_here name (bind field bound) = cond (bound == name) (Some field) None
bound_here name (send bytes) = None
bound_here name (await bytes) = None
bound_here name break = None
bound_here name (wait milliseconds) = None
bound_here name silence = None
bound_here name (listen milliseconds) = None
bound_here name (same field used) = None
bound_here name (prepare field used) = None

-- the field of the first step that binds the name
abbrev pub bound_field : (name : ℕ) → List Act → Option NumberField
bound_field name [] = None
bound_field name (act ∷ acts) = option_or (bound_here name act) (bound_field name acts)

-- the line ends with that field, and is short enough to have a name's number there
abbrev pub has_end : NumberField → (bytes : List ℕ) → Bool
has_end field bytes =
    cond (nat_le (length bytes) (size_of field)) false (cond (nat_le (length bytes) longest_line) (slice_index bytes (length bytes - size_of field - 1) == bmp_of field) false)

abbrev pub is_end : NumberField → Act → Bool
is_end field (send bytes) = has_end field bytes
is_end field (await bytes) = false
is_end field break = false
is_end field (wait milliseconds) = false
is_end field silence = false
is_end field (listen milliseconds) = false
is_end field (bind bound name) = false
is_end field (same bound name) = false
is_end field (prepare bound name) = false

-- the first of these steps sends such a line
abbrev pub ends_with : NumberField → List Act → Bool
ends_with field [] = false
ends_with field (act ∷ acts) = is_end field act

abbrev pub unless : Bool → NameFault → Option NameFault
unless holds why = cond holds None (Some why)

-- the reason why a name can't be used for the field, given the field in which it was bound, if any
abbrev pub size_fault : (field : NumberField) → (bound : Option NumberField) → Option NameFault
size_fault field None = Some Unbound
size_fault field (Some found) = unless (size_of found == size_of field) Size

abbrev pub bound_fault : (bound : Option NumberField) → Option NameFault
bound_fault None = None
bound_fault (Some found) = Some Bound

-- the reason why the mark can't be used between these steps, if there is one
abbrev pub fault_of : (before : List Act) → Act → (after : List Act) → Option NameFault
fault_of before (bind field name) after = option_or (unless (hears_last before) NoMessage) (bound_fault (bound_field name before))
fault_of before (same field name) after = option_or (unless (hears_last before) NoMessage) (size_fault field (bound_field name before))
fault_of before (prepare field name) after = option_or (size_fault field (bound_field name before)) (unless (ends_with field after) NoField)
fault_of before (send bytes) after = None
fault_of before (await bytes) after = None
fault_of before break after = None
fault_of before (wait milliseconds) after = None
fault_of before silence after = None
fault_of before (listen milliseconds) after = None

-- ---- all marks

abbrev pub fault_by : (before : List Act) → (rest : List Act) → Option NameFault
fault_by before [] = None
fault_by before (act ∷ after) = fault_of before act after

-- the reason why the step at this place can't be played there, if there is one
abbrev pub fault_at : List Act → (place : ℕ) → Option NameFault
fault_at acts place = fault_by (take place acts) (drop place acts)

abbrev pub AreNamedTo : List Act → (place : ℕ) → Type 0
AreNamedTo acts place = (earlier : ℕ) → earlier < place → fault_at acts earlier ≡ None

-- each mark can be used where it appears
abbrev pub AreNamed : List Act → Type 0
AreNamed acts = AreNamedTo acts (length acts)

-- the step at this place is the first whose mark can't be used
abbrev pub IsFirstFault : List Act → (place : ℕ) → NameFault → Type 0
IsFirstFault acts place why = (place < length acts) × (fault_at acts place ≡ Some why) × AreNamedTo acts place

-- ---- a script

-- Each line can be played by itself, but the line with this number has the first mark that can't be used where it appears.
pub record IsMisnamed (r : LineReading) (own : Direction) (lines : List (List ℕ)) (number : ℕ) (why : ScriptLineError) : Type 0 where
  pub steps : List ScriptStep
  pub place : ℕ
  pub fault : NameFault
  pub read : LinesSay r own 0 lines (steps_at steps)
  pub first : IsFirstFault (acts_of steps) place fault
  pub step : ScriptStep
  pub is_step : step ≡ slice_index_or steps place step
  pub is_number : number ≡ step.line
  pub is_why : why ≡ Name fault

-- the result of reading a script
abbrev pub ReadsScript : LineReading → (own : Direction) → (trace : List ℕ) → Result (Vec ScriptStep Global) ScriptFault → Type 0
ReadsScript r own trace (Ok steps) = LinesSay r own 0 (lines trace) (steps_at steps.items) × AreNamed (acts_of steps.items)
ReadsScript r own trace (Err (fault.Line number why)) = IsFirstWrong r own (lines trace) number why ⊎ IsMisnamed r own (lines trace) number why
ReadsScript r own trace (Err fault.Memory) = Unit {0}
