-- Which of the messages one is, and the control bytes that say so (PA00P015, the chapter of each command).
use Rattle.std.specs.Prelude.{ℕ, ◌==◌, ◌&&◌, cond, List, [], ◌∷◌}
pub use Rattle.zvt_apdu.specs.declared.kinds.Kind.{Kind}
use Rattle.zvt_apdu.specs.declared.kinds.Kind.TheVariants as kind
use Rattle.zvt_apdu.specs.Message.{Message, ack, nack, registration, authorisation, reversal, end_of_day, abort_order, status, intermediate, print_line, text_block, completion, abort, other}

abbrev pub kind_of : Message → Kind
kind_of (ack payload) = kind.Ack
kind_of (nack code payload) = kind.Nack
kind_of (registration password config rest) = kind.Registration
kind_of (authorisation fields) = kind.Authorisation
kind_of (reversal password fields) = kind.Reversal
kind_of (end_of_day password fields) = kind.EndOfDay
kind_of (abort_order fields) = kind.AbortOrder
kind_of (status fields) = kind.Status
kind_of (intermediate step payload) = kind.Intermediate
kind_of (print_line attribute text) = kind.PrintLine
kind_of (text_block fields) = kind.TextBlock
kind_of (completion fields) = kind.Completion
kind_of (abort code payload) = kind.Abort
kind_of (other high low payload) = kind.Other

-- The control bytes that name one kind each. All of 84 name another.
abbrev pub kinds : List (ℕ × ℕ × Kind)
kinds =
    (0x80, 0x00, kind.Ack)
    ∷ (0x06, 0x00, kind.Registration)
    ∷ (0x06, 0x01, kind.Authorisation)
    ∷ (0x06, 0x30, kind.Reversal)
    ∷ (0x06, 0x50, kind.EndOfDay)
    ∷ (0x06, 0xB0, kind.AbortOrder)
    ∷ (0x04, 0x0F, kind.Status)
    ∷ (0x04, 0xFF, kind.Intermediate)
    ∷ (0x06, 0xD1, kind.PrintLine)
    ∷ (0x06, 0xD3, kind.TextBlock)
    ∷ (0x06, 0x0F, kind.Completion)
    ∷ (0x06, 0x1E, kind.Abort)
    ∷ []

abbrev pub kind_in : (high low : ℕ) → List (ℕ × ℕ × Kind) → Kind
kind_in high low [] = kind.Other
kind_in high low (row ∷ rows) = cond ((high == row.0) && (low == row.1)) row.2 (kind_in high low rows)

-- The kind that these control bytes name.
unfoldable pub kind_at : (high low : ℕ) → Kind
kind_at high low = cond (high == 0x84) kind.Nack (kind_in high low kinds)
