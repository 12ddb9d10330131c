-- The records of a journal, as a caller makes them durable.
use Rattle.std.specs.Prelude.{◌≡◌, ◌⊎◌, ◌==◌, ◌&&◌, ◌||◌, ◌<◌, ◌≤◌, nat_lt, ℕ, Bool, false, cond, List, [], ◌∷◌, ◌++◌, length, take, drop, Option, Some, None, option_and_then, MatchOption}
use Rattle.zvt_grammar.specs.Reading.{shortest}
use Rattle.zvt_grammar.specs.declared.answer.Scan.TheVariants.{Whole}
use Rattle.zvt_apdu.specs.Grammar.{Spells}
use Rattle.zvt_apdu.specs.Message.{Message}
use Rattle.zvt_apdu.specs.Judging as apdu
use Rattle.zvt_apdu.specs.Briefs.{message_of_brief}
use Rattle.zvt_apdu.specs.declared.brief.Brief.{Brief}
use Rattle.zvt_stream.specs.Answered.{Answered}
use Rattle.zvt_till.specs.declared.orders.Order.{Order}
use Rattle.zvt_till.specs.declared.orders.Order.TheVariants.{Register, Pay, Reverse, CloseDay, Cancel}
use Rattle.zvt_till.specs.Hearing.{heard_as}
use Rattle.zvt_till.specs.Line.{Answers as IsAnswer}
use Rattle.zvt_till.specs.Sending.{reply_to}
use Rattle.zvt_kept.specs.Masking.{masked_message}
use Rattle.zvt_kept.specs.Notes.{note_of}
use Rattle.zvt_kept.specs.Records.{IsRecordOf, asked, ask_record, heard, heard_record, ordered, order_record}
use Rattle.zvt_c.specs.declared.answer.ZvtAnswer.{ZvtAnswer}
use Rattle.zvt_c.specs.Answers.{Says, answer_of}
use Rattle.zvt_c.specs.Ordering.{order_named}
use Rattle.zvt_c.specs.Saving.{Written, bare, sized}
use Rattle.zvt_c.specs.Statuses as statuses

-- The text is at the start of the buffer if it fits, and its size is reported; or memory ran out.
abbrev pub Records : (text buffer_before buffer_after : List ℕ) → ZvtAnswer → Type 0
Records text before after answer = ((answer ≡ sized answer.size) × Written text answer.size before after) ⊎ ((after ≡ before) × (answer ≡ bare statuses.no_memory))

-- an order that a record has words for
abbrev pub spelled_order : Order → Option Order
spelled_order Register = Some Register
spelled_order (Pay amount) = Some (Pay amount)
spelled_order (Reverse entry) = cond (nat_lt entry 10000) (Some (Reverse entry)) None
spelled_order CloseDay = Some CloseDay
spelled_order Cancel = Some Cancel

-- the order that two numbers name, if a record can hold it
abbrev pub recorded_order : (kind number : ℕ) → Option Order
recorded_order kind number = option_and_then spelled_order (order_named kind number)

-- the control bytes of a registration, a reversal or an end of day
abbrev pub is_with_password : (high low : ℕ) → Bool
is_with_password high low = (high == 0x06) && ((low == 0x00) || ((low == 0x30) || (low == 0x50)))

-- The bytes begin a message whose data begins with a password: a registration, a reversal or an end of day.
abbrev pub has_password : List ℕ → Bool
has_password [] = false
has_password (high ∷ []) = false
has_password (high ∷ low ∷ []) = false
has_password (high ∷ low ∷ size ∷ []) = false
has_password (high ∷ low ∷ size ∷ first ∷ []) = false
has_password (high ∷ low ∷ size ∷ first ∷ second ∷ []) = false
has_password (high ∷ low ∷ size ∷ first ∷ second ∷ third ∷ more) = is_with_password high low

-- a message with 00 00 00 instead of its password
abbrev pub masked_bytes : List ℕ → List ℕ
masked_bytes bytes = cond (has_password bytes) (take 3 bytes ++ (0 ∷ 0 ∷ 0 ∷ drop 6 bytes)) bytes

-- Masking the bytes of a till's message gives the bytes of the message that a journal contains instead.
abbrev pub Masks : List ℕ → Type 0
Masks sent = (m : Brief) → Spells shortest (message_of_brief m) sent → Spells shortest (message_of_brief (masked_message m)) (masked_bytes sent)

-- a time or a reference, if it is not empty
abbrev pub given : List ℕ → Option (List ℕ)
given [] = None
given (byte ∷ bytes) = Some (byte ∷ bytes)

-- The numbers name no order, the time or the reference is malformed, or a till sends no message of that many bytes.
abbrev pub NoRecord : (kind number : ℕ) → (sent at reference : List ℕ) → Type 0
NoRecord kind number sent at reference =
    (recorded_order kind number ≡ None) ⊎ ((note_of (given at) (given reference) ≡ None) ⊎ (32 < length sent))

-- The record of the order that two numbers name, with its time and reference, and of the bytes that are sent for it; or
-- no record, because an argument is wrong or memory ran out.
pub data RecordsOrder (kind number : ℕ) (sent at reference buffer_before buffer_after : List ℕ) (answer : ZvtAnswer) : Type 0 where
  recorded : (order : Order) (note : List ℕ) → recorded_order kind number ≡ Some order → note_of (given at) (given reference) ≡ Some note → length sent ≤ 32
      → IsRecordOf (ordered order note) (order_record order note (masked_bytes sent)) → Records (order_record order note (masked_bytes sent)) buffer_before buffer_after answer
      → RecordsOrder kind number sent at reference buffer_before buffer_after answer
  unnamed : NoRecord kind number sent at reference → buffer_after ≡ buffer_before → answer ≡ bare statuses.argument → RecordsOrder kind number sent at reference buffer_before buffer_after answer

-- The record of an ask with this time and reference; or no record, because one of them is malformed or memory ran out.
abbrev pub RecordsAsk : (at reference buffer_before buffer_after : List ℕ) → ZvtAnswer → Type 0
RecordsAsk at reference before after answer =
    MatchOption (note_of (given at) (given reference)) ((after ≡ before) × (answer ≡ bare statuses.argument))
    (λ note. IsRecordOf (asked note) (ask_record note) × Records (ask_record note) before after answer)

-- The record of the first message and of the reply to it; or no record, for the reason in the answer.
pub data RecordsHeard (bytes buffer_before buffer_after : List ℕ) (answer : ZvtAnswer) (size : ℕ) : Type 0 where
  heard_whole : (message : Message) (taken : ℕ) (answered : Answered) → apdu.Answers shortest bytes (Whole (message, taken)) → answer ≡ answer_of (Whole (message, taken))
      → IsAnswer (reply_to (heard_as message)) answered → IsRecordOf (heard (take taken bytes)) (heard_record (take taken bytes) answered.bytes)
      → Written (heard_record (take taken bytes) answered.bytes) size buffer_before buffer_after → RecordsHeard bytes buffer_before buffer_after answer size
  not_whole : Says bytes answer → (answer.status ≡ statuses.ok → ⊥) → size ≡ 0 → buffer_after ≡ buffer_before → RecordsHeard bytes buffer_before buffer_after answer size
