-- The messages of the terminal, by the few values that each is made of.
use Rattle.std.specs.Prelude.{ℕ, ◌≤◌, Option, Some, None, List, [], ◌∷◌, ◌++◌, codes}
use Rattle.std.specs.Fmt.{decimal}
use Rattle.zvt_field.specs.Grammar.{Field, plain}
use Rattle.zvt_apdu.specs.Briefs.{digits}
use Rattle.zvt_apdu.specs.Message.{Message, ack, nack, status, print_line, completion, abort}
use Rattle.zvt_term.specs.declared.messages.Line as printed
use Rattle.zvt_term.specs.declared.messages.Line.TheVariants.{Approved as ApprovedLine, Reversed as ReversedLine, DayClosed}
use Rattle.zvt_term.specs.declared.messages.Report.{Report}
use Rattle.zvt_term.specs.declared.messages.Report.TheVariants.{Ack, Nack, Registered, Approved, Result, TakenBack, Line, Done, Aborted}

-- the text of a print line
abbrev pub text_of : printed.Line → List ℕ
text_of (ApprovedLine amount) = codes "APPROVED " ++ decimal amount
text_of (ReversedLine amount) = codes "REVERSED " ++ decimal amount
text_of DayClosed = codes "DAY CLOSED"

abbrev pub currency_field : Option ℕ → List Field
currency_field None = []
currency_field (Some currency) = plain 0x49 (digits 2 currency) ∷ []

-- the numbers are in digits, a row's number as trace number and as receipt number; the attribute of a line is 0
abbrev pub message_of_report : Report → Message
message_of_report Ack = ack []
message_of_report (Nack code) = nack code []
message_of_report (Registered tid currency) = completion (plain 0x29 (digits 4 tid) ∷ currency_field currency)
message_of_report (Approved amount number currency) =
    status (plain 0x27 (0 ∷ []) ∷ plain 0x04 (digits 6 amount) ∷ plain 0x0B (digits 3 number) ∷ plain 0x87 (digits 2 number) ∷ currency_field currency)
message_of_report (Result code) = status (plain 0x27 (code ∷ []) ∷ [])
message_of_report (TakenBack amount number original currency) =
    status
    (plain 0x27 (0 ∷ []) ∷ plain 0x04 (digits 6 amount) ∷ plain 0x0B (digits 3 number) ∷ plain 0x37 (digits 3 original) ∷ plain 0x87 (digits 2 number) ∷ currency_field currency)
message_of_report (Line line) = print_line 0 (text_of line)
message_of_report Done = completion []
message_of_report (Aborted code) = abort code []

-- its numbers have few enough digits
abbrev pub IsWritable : Report → Type 0
IsWritable Ack = Unit {0}
IsWritable (Nack code) = Unit {0}
IsWritable (Registered tid currency) = tid ≤ 99999999
IsWritable (Approved amount number currency) = number ≤ 9999
IsWritable (Result code) = Unit {0}
IsWritable (TakenBack amount number original currency) = (number ≤ 9999) × (original ≤ 9999)
IsWritable (Line line) = Unit {0}
IsWritable Done = Unit {0}
IsWritable (Aborted code) = Unit {0}
