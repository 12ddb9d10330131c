-- The message that a value of the code represents, and what it needs to have a spelling.
use Rattle.std.specs.Prelude.{◌≡◌, ◌≢◌, ℕ, ◌<◌, ◌≤◌, ◌^◌, ◌/◌, ◌%◌, cond, nat_lt, Option, Some, None, Result, Ok, Err, List, [], ◌∷◌, ◌++◌, length, drop, slice_index_or}
use Rattle.zvt_grammar.specs.Reading.{Reading, shortest}
use Rattle.zvt_field.specs.Grammar.{Field, FieldList}
use Rattle.zvt_apdu.specs.declared.messages.Message as declared
use Rattle.zvt_apdu.specs.declared.messages.Message.TheVariants as code
use Rattle.zvt_apdu.specs.declared.messages.BadValue.{BadValue}
use Rattle.zvt_apdu.specs.declared.messages.BadValue.TheVariants.{TooLarge, NamedControl}
use Rattle.zvt_apdu.specs.declared.writer.NoRoom.{NoRoom}
use Rattle.zvt_apdu.specs.Message.{Message, ack, nack, registration, authorisation, reversal, end_of_day, abort_order, status, intermediate, print_line, text_block, completion, abort, other}
use Rattle.zvt_apdu.specs.Grammar.{form_of, IsControl, Data, Spells}

abbrev pub message_of : declared.Message → Message
message_of (code.Ack payload) = ack payload.items
message_of (code.Nack c payload) = nack c payload.items
message_of (code.Registration password config rest) = registration password config rest
message_of (code.Authorisation fields) = authorisation fields
message_of (code.Reversal password fields) = reversal password fields
message_of (code.EndOfDay password fields) = end_of_day password fields
message_of (code.AbortOrder fields) = abort_order fields
message_of (code.Status fields) = status fields
message_of (code.Intermediate step payload) = intermediate step payload.items
message_of (code.PrintLine attribute text) = print_line attribute text.items
message_of (code.TextBlock fields) = text_block fields
message_of (code.Completion fields) = completion fields
message_of (code.Abort c payload) = abort c payload.items
message_of (code.Other control payload) = other (slice_index_or control 0 0) (slice_index_or control 1 0) payload.items

pub record HasSpelling (message : Message) : Type 0 where
  pub bytes : List ℕ
  pub spelled : Spells shortest message bytes

-- The message of these control bytes whose data these bytes are.
pub record IsMessage (r : Reading) (high low : ℕ) (content : List ℕ) (message : Message) : Type 0 where
  pub is_control : IsControl message (high ∷ low ∷ [])
  pub is_content : Data r message content

-- Another message has these control bytes.
abbrev pub TakesControl : Message → Type 0
TakesControl (ack payload) = ⊥
TakesControl (nack code payload) = ⊥
TakesControl (registration password config rest) = ⊥
TakesControl (authorisation fields) = ⊥
TakesControl (reversal password fields) = ⊥
TakesControl (end_of_day password fields) = ⊥
TakesControl (abort_order fields) = ⊥
TakesControl (status fields) = ⊥
TakesControl (intermediate step payload) = ⊥
TakesControl (print_line attribute text) = ⊥
TakesControl (text_block fields) = ⊥
TakesControl (completion fields) = ⊥
TakesControl (abort code payload) = ⊥
TakesControl (other high low payload) = form_of high low ≢ None

-- Its control bytes, or none where another message has them.
abbrev pub ControlOf : Message → Option (List ℕ) → Type 0
ControlOf message None = TakesControl message
ControlOf message (Some bytes) = IsControl message bytes

abbrev pub FreeControl : (high low : ℕ) → Option (List ℕ) → Type 0
FreeControl high low None = form_of high low ≢ None
FreeControl high low (Some bytes) = (bytes ≡ high ∷ low ∷ []) × (high < 256) × (low < 256) × (form_of high low ≡ None)

-- The data of the message has that many bytes.
pub record HasData (message : Message) (n : ℕ) : Type 0 where
  pub bytes : List ℕ
  pub is_data : Data shortest message bytes
  pub sized : length bytes ≡ n

-- The data of the message has at most that many bytes.
pub record Fitting (message : Message) (room : ℕ) : Type 0 where
  pub bytes : List ℕ
  pub is_data : Data shortest message bytes
  pub fits : length bytes ≤ room

-- The fields have a spelling of that many bytes.
pub record ListedIn (fields : List Field) (n : ℕ) : Type 0 where
  pub bytes : List ℕ
  pub listed : FieldList shortest fields bytes
  pub sized : length bytes ≡ n
  pub small : n < 2 ^ 16

-- The data passes 65,535 bytes; else another message has these control bytes.
abbrev pub HasFault : Message → BadValue → Type 0
HasFault message TooLarge = (n : ℕ) × HasData message n × (2 ^ 16 ≤ n)
HasFault message NamedControl = TakesControl message × ((n : ℕ) × HasData message n × (n < 2 ^ 16))

-- The spelling is at the start and what was after it stays; where the slice is too short, nothing changes and its size is answered.
abbrev pub Encodes : Message → (old new : List ℕ) → Result ℕ NoRoom → Type 0
Encodes message old new (Ok count) = (bytes : List ℕ) → Spells shortest message bytes → (new ≡ bytes ++ drop count old) × (count ≡ length bytes) × (count ≤ length old)
Encodes message old new (Err fault) = (bytes : List ℕ) → Spells shortest message bytes → (new ≡ old) × (fault.need ≡ length bytes) × (length old < fault.need)

-- The shortest length of n.
abbrev pub length_bytes : ℕ → List ℕ
length_bytes n = cond (nat_lt n 255) (n ∷ []) (0xFF ∷ n % 256 ∷ n / 256 ∷ [])
