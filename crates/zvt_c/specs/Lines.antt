-- The lines that a message has to print, and how they are handed out.
use Rattle.std.specs.Prelude.{◌≡◌, ℕ, ◌<◌, ◌==◌, Bool, nat_le, if◌then◌else◌, List, [], ◌∷◌, Option, Some, None, slice_get, codes, option_and_then, MatchBool, MatchOption}
use Rattle.zvt_tlv.specs.Grammar.{none, primitive, constructed}
use Rattle.zvt_field.specs.Grammar.{tree}
use Rattle.zvt_apdu.specs.Message.{Message, print_line, text_block, abort}
use Rattle.zvt_text.specs.Codepages.{printed_text}
use Rattle.zvt_text.specs.TextBlocks.{block_lines, block_type}
use Rattle.zvt_text.specs.declared.codepages.Codepage.{Codepage}
use Rattle.zvt_text.specs.declared.codepages.Codepage.TheVariants.{Cp437, Cp850, Latin1, Utf8}
use Rattle.zvt_text.specs.declared.text_blocks.ReceiptType.{ReceiptType}
use Rattle.zvt_text.specs.declared.text_blocks.ReceiptType.TheVariants.{Merchant, Customer, Administration, Other}
use Rattle.zvt_c.specs.declared.lines.ZvtLine.{ZvtLine}
use Rattle.zvt_c.specs.declared.session.Session.{Session}
use Rattle.zvt_c.specs.Saving.{Written}
use Rattle.zvt_c.specs.Statuses as statuses

-- The text of a print line, or the lines of a text block.
abbrev pub lines_in : Message → List (List ℕ)
lines_in (print_line attribute text) = text ∷ []
lines_in (text_block fields) = block_lines fields
lines_in _ = []

-- The line at this index, from 0.
abbrev pub line_in : Message → ℕ → Option (List ℕ)
line_in message place = slice_get (lines_in message) place

-- The number of a receipt type: its byte, or 0 if there is none.
abbrev pub copy_number : Option ReceiptType → ℕ
copy_number None = 0
copy_number (Some Merchant) = 1
copy_number (Some Customer) = 2
copy_number (Some Administration) = 3
copy_number (Some (Other code)) = code

abbrev pub copy_in : Message → ℕ
copy_in (text_block fields) = copy_number (block_type fields)
copy_in _ = 0

-- The code page of a number. 0 stands for the bytes as they were sent.
abbrev pub page_of : ℕ → Option Codepage
page_of number = if number == 1 then Some Cp437 else if number == 2 then Some Cp850 else if number == 3 then Some Latin1 else if number == 4 then Some Utf8 else None

abbrev pub is_codepage : ℕ → Bool
is_codepage number = nat_le number 4

-- A line in a code page.
abbrev pub in_page : Option Codepage → List ℕ → List ℕ
in_page None line = line
in_page (Some codepage) line = printed_text codepage line

abbrev pub no_line : ZvtLine
no_line = record { size = 0; copy = 0 }

-- The line is handed out; or the message has no such line, or memory for a code page ran out, and nothing is written.
pub data GivesLine (lent : Option Message) (place codepage : ℕ) (before after : List ℕ) (line : ZvtLine) (status : ℕ) : Type 0 where
  given : (message : Message) (text : List ℕ) → lent ≡ Some message → line_in message place ≡ Some text → Written (in_page (page_of codepage) text) line.size before after
      → line.copy ≡ copy_in message → status ≡ statuses.ok → GivesLine lent place codepage before after line status
  lacking : option_and_then (λ message. line_in message place) lent ≡ None → after ≡ before → line ≡ no_line → status ≡ statuses.argument → GivesLine lent place codepage before after line status
  no_memory : (message : Message) (text : List ℕ) → lent ≡ Some message → line_in message place ≡ Some text → 0 < codepage → after ≡ before → line ≡ no_line → status ≡ statuses.no_memory
      → GivesLine lent place codepage before after line status

-- A line of the last message that a handle was fed. Nothing is written if the handle is closed, or if there is no such
-- code page.
abbrev pub LineOfHandle : Option Session → (place codepage : ℕ) → (before after : List ℕ) → ZvtLine → (status : ℕ) → Type 0
LineOfHandle held place codepage before after line status =
    MatchBool (is_codepage codepage)
    (MatchOption held ((after ≡ before) × (line ≡ no_line) × (status ≡ statuses.closed)) (λ end. GivesLine end.stream.lent place codepage before after line status))
    ((after ≡ before) × (line ≡ no_line) × (status ≡ statuses.argument))

-- ---- worked rows

-- a customer's receipt of two lines
abbrev pub customer_block : Message
customer_block =
    text_block (tree 0x06 (primitive (0x1F ∷ 0x07 ∷ []) (0x02 ∷ []) (constructed (0x25 ∷ []) (primitive (0x07 ∷ []) (codes "A") (primitive (0x07 ∷ []) (0x84 ∷ []) none)) none)) ∷ [])

abbrev pub LineRows : Type 0
LineRows =
    (lines_in customer_block ≡ codes "A" ∷ (0x84 ∷ []) ∷ []) ×
    (copy_in customer_block ≡ 2) ×
    (line_in customer_block 2 ≡ None) ×
    (line_in (print_line 0 (codes "B")) 0 ≡ Some (codes "B")) ×
    (copy_in (print_line 0 (codes "B")) ≡ 0) ×
    (lines_in (abort 0x6C []) ≡ []) ×
    (in_page (page_of 0) (0x84 ∷ []) ≡ 0x84 ∷ []) ×
    (in_page (page_of 1) (0x84 ∷ []) ≡ 0xC3 ∷ 0xA4 ∷ [])
