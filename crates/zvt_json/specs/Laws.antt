-- What no JSON says.
use Rattle.std.specs.Prelude.{◌≡◌, ◌<◌, ◌^◌, ℕ, Option, Some, List, ◌∷◌, ◌++◌, length}
use Rattle.serde_json.specs.Data.{Data}
use Rattle.serde_json.specs.Read.{read}
use Rattle.serde_json.specs.Written.{compact_text}
use Rattle.zvt_field.specs.Grammar.{Field, plain}
use Rattle.zvt_field.specs.Shapes.{format_of}
use Rattle.zvt_field.specs.declared.shapes.Format.TheVariants.{Hidden}
use Rattle.zvt_apdu.specs.Message.{Message, registration, reversal, end_of_day}
use Rattle.zvt_text.specs.Secrets.{blanked}
use Rattle.zvt_trace.specs.declared.direction.Direction.{Direction}
use Rattle.zvt_trace.specs.TraceEvent.{TraceEvent, message, refused, unread, resumed, cut_off, lost}
use Rattle.zvt_json.specs.Events.{EventValue}
use Rattle.zvt_json.specs.Fields.{field_values}
use Rattle.zvt_json.specs.Messages.{message_value}

-- Two messages that differ in their passwords alone have one value.
abbrev pub PasswordsStayHidden : Type 0
PasswordsStayHidden =
    (from : Direction) (line size : ℕ) (one other : List ℕ) (config : ℕ) (rest : Option (ℕ × List Field)) (fields : List Field) →
    (message_value from line size (registration one config rest) ≡ message_value from line size (registration other config rest))
    × (message_value from line size (reversal one fields) ≡ message_value from line size (reversal other fields))
    × (message_value from line size (end_of_day one fields) ≡ message_value from line size (end_of_day other fields))

-- Two contents of one size have one value, wherever they are among other fields.
abbrev pub StaysHidden : (bmp : ℕ) → Type 0
StaysHidden bmp =
    (before after : List Field) (one other : List ℕ) → length one ≡ length other → field_values (before ++ plain bmp one ∷ after) ≡ field_values (before ++ plain bmp other ∷ after)

-- Whatever the table of BMPs hides.
abbrev pub SecretsStayHidden : Type 0
SecretsStayHidden = (bmp : ℕ) → format_of bmp ≡ Hidden → StaysHidden bmp

-- Two messages that differ only in their secrets, in contents of the same size, have one value.
abbrev pub SafeValuesAgree : Type 0
SafeValuesAgree = (from : Direction) (line size : ℕ) (one other : Message) → blanked one ≡ blanked other → message_value from line size one ≡ message_value from line size other

-- A place, a size and a count fit into 64 bits, as they do in the program.
abbrev pub NumbersFit : TraceEvent → Type 0
NumbersFit (message from m) = Unit {0}
NumbersFit (refused from before byte why) = length before < 2 ^ 64
NumbersFit (unread from) = Unit {0}
NumbersFit (resumed from size) = size < 2 ^ 64
NumbersFit (cut_off from bytes) = length bytes < 2 ^ 64
NumbersFit lost = Unit {0}

-- The reader of the kit's crate `serde_json` gives the value of each event back from its text.
abbrev pub EventsReadBack : Type 0
EventsReadBack =
    (line : ℕ) (event : TraceEvent) (value : Data) → EventValue line event value → line < 2 ^ 64 → NumbersFit event → read (compact_text value) ≡ Some value
