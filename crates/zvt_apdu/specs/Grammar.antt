-- The spelling of messages: two control bytes, the length of the data, the data (PA00P015, general command structure).
use Rattle.std.specs.Prelude.{◌≡◌, ℕ, ◌+◌, ◌*◌, ◌<◌, ◌≤◌, ◌==◌, ◌&&◌, cond, Option, Some, None, List, [], ◌∷◌, ◌++◌, length}
use Rattle.zvt_bcd.specs.Digits.{AreDigits, number_of}
use Rattle.zvt_grammar.specs.Reading.{Reading, AreBytes, least}
use Rattle.zvt_field.specs.Grammar.{Field, FieldList}
pub use Rattle.zvt_apdu.specs.declared.frame.Form.{Form}
pub use Rattle.zvt_apdu.specs.declared.frame.Form.TheVariants.{BytesFrom, FieldsFrom, Registration}
use Rattle.zvt_apdu.specs.Message.{Message, ack, nack, registration, authorisation, reversal, end_of_day, abort_order, status, intermediate, print_line, text_block, completion, abort, other}

-- The control bytes of messages that have a name of their own, and the form of their data. All of 84 are such too.
abbrev pub table : List (ℕ × ℕ × Form)
table =
    (0x80, 0x00, BytesFrom 0)
    ∷ (0x06, 0x00, Registration)
    ∷ (0x06, 0x01, FieldsFrom 0)
    ∷ (0x06, 0x30, FieldsFrom 3)
    ∷ (0x06, 0x50, FieldsFrom 3)
    ∷ (0x06, 0xB0, FieldsFrom 0)
    ∷ (0x04, 0x0F, FieldsFrom 0)
    ∷ (0x04, 0xFF, BytesFrom 1)
    ∷ (0x06, 0xD1, BytesFrom 1)
    ∷ (0x06, 0xD3, FieldsFrom 0)
    ∷ (0x06, 0x0F, FieldsFrom 0)
    ∷ (0x06, 0x1E, BytesFrom 1)
    ∷ []

abbrev pub look_up : (high low : ℕ) → List (ℕ × ℕ × Form) → Option Form
look_up high low [] = None
look_up high low (row ∷ rows) = cond ((high == row.0) && (low == row.1)) (Some row.2) (look_up high low rows)

-- The form of the data after these control bytes, if they have a name of their own.
unfoldable pub form_of : (high low : ℕ) → Option Form
form_of high low = cond (high == 0x84) (Some (BytesFrom 0)) (look_up high low table)

-- The control bytes of a message.
abbrev pub IsControl : Message → List ℕ → Type 0
IsControl (ack payload) c = c ≡ 0x80 ∷ 0x00 ∷ []
IsControl (nack code payload) c = (c ≡ 0x84 ∷ code ∷ []) × (code < 256)
IsControl (registration password config rest) c = c ≡ 0x06 ∷ 0x00 ∷ []
IsControl (authorisation fields) c = c ≡ 0x06 ∷ 0x01 ∷ []
IsControl (reversal password fields) c = c ≡ 0x06 ∷ 0x30 ∷ []
IsControl (end_of_day password fields) c = c ≡ 0x06 ∷ 0x50 ∷ []
IsControl (abort_order fields) c = c ≡ 0x06 ∷ 0xB0 ∷ []
IsControl (status fields) c = c ≡ 0x04 ∷ 0x0F ∷ []
IsControl (intermediate step payload) c = c ≡ 0x04 ∷ 0xFF ∷ []
IsControl (print_line attribute text) c = c ≡ 0x06 ∷ 0xD1 ∷ []
IsControl (text_block fields) c = c ≡ 0x06 ∷ 0xD3 ∷ []
IsControl (completion fields) c = c ≡ 0x06 ∷ 0x0F ∷ []
IsControl (abort code payload) c = c ≡ 0x06 ∷ 0x1E ∷ []
IsControl (other high low payload) c = (c ≡ high ∷ low ∷ []) × (high < 256) × (low < 256) × (form_of high low ≡ None)

-- That many bytes, then bytes of any number.
abbrev pub Free : (count : ℕ) → (first payload bytes : List ℕ) → Type 0
Free count first payload bytes = (bytes ≡ first ++ payload) × (length first ≡ count) × AreBytes first × AreBytes payload

-- That many bytes, then fields.
abbrev pub Listed : Reading → (count : ℕ) → (first : List ℕ) → List Field → (bytes : List ℕ) → Type 0
Listed r count first fields bytes =
    (listed : List ℕ) × (bytes ≡ first ++ listed) × (length first ≡ count) × AreBytes first × FieldList r fields listed

-- That many bytes, then a currency's two bytes of digits, then fields.
pub record Registered (r : Reading) (first : List ℕ) (currency : ℕ) (fields : List Field) (bytes : List ℕ) : Type 0 where
  pub digits : List ℕ
  pub listed : List ℕ
  pub whole : bytes ≡ first ++ (digits ++ listed)
  pub count : length first ≡ 4
  pub are_bytes : AreBytes first
  pub two : length digits ≡ 2
  pub are_digits : AreDigits digits
  pub number : number_of digits ≡ currency
  pub spelled : FieldList r fields listed

-- The data of a message.
abbrev pub Data : Reading → Message → List ℕ → Type 0
Data r (ack payload) bytes = Free 0 [] payload bytes
Data r (nack code payload) bytes = Free 0 [] payload bytes
Data r (registration password config None) bytes = Free 4 (password ++ config ∷ []) [] bytes
Data r (registration password config (Some rest)) bytes = Registered r (password ++ config ∷ []) rest.0 rest.1 bytes
Data r (authorisation fields) bytes = Listed r 0 [] fields bytes
Data r (reversal password fields) bytes = Listed r 3 password fields bytes
Data r (end_of_day password fields) bytes = Listed r 3 password fields bytes
Data r (abort_order fields) bytes = Listed r 0 [] fields bytes
Data r (status fields) bytes = Listed r 0 [] fields bytes
Data r (intermediate step payload) bytes = Free 1 (step ∷ []) payload bytes
Data r (print_line attribute text) bytes = Free 1 (attribute ∷ []) text bytes
Data r (text_block fields) bytes = Listed r 0 [] fields bytes
Data r (completion fields) bytes = Listed r 0 [] fields bytes
Data r (abort code payload) bytes = Free 1 (code ∷ []) payload bytes
Data r (other high low payload) bytes = Free 0 [] payload bytes

-- A length of n: a byte below FF; or FF, the low byte and the high byte.
abbrev pub IsFrameLength : Reading → ℕ → List ℕ → Type 0
IsFrameLength r n [] = ⊥
IsFrameLength r n (a ∷ []) = (n < 255) × (a ≡ n)
IsFrameLength r n (a ∷ b ∷ []) = ⊥
IsFrameLength r n (a ∷ low ∷ high ∷ []) = (a ≡ 0xFF) × (least r 255 ≤ n) × (low < 256) × (high < 256) × (n ≡ 256 * high + low)
IsFrameLength r n (a ∷ b ∷ c ∷ d ∷ more) = ⊥

-- The bytes are a spelling of the message.
pub record Spells (r : Reading) (message : Message) (bytes : List ℕ) : Type 0 where
  pub control : List ℕ
  pub size : List ℕ
  pub content : List ℕ
  pub whole : bytes ≡ control ++ (size ++ content)
  pub is_control : IsControl message control
  pub is_size : IsFrameLength r (length content) size
  pub is_content : Data r message content
