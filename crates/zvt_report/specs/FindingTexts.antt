-- What the findings about a trace say.
use Rattle.std.specs.Prelude.{◌≡◌, ℕ, Bool, true, false, List, [], ◌∷◌, ◌++◌, codes, Option, Some, None, refl}
use Rattle.std.specs.Fmt.{decimal, digits}
use Rattle.hex.specs.Hex.{encode_upper, encode_with}
use Rattle.zvt_grammar.specs.Names.{why_name}
use Rattle.zvt_grammar.specs.declared.why.Why.{Why}
use Rattle.zvt_grammar.specs.declared.why.Why.TheVariants.{NotShortest, DoesNotFit, LengthForm, TooDeep, TagTooLong, UnknownField, NotDigit, LengthDigit}
use Rattle.zvt_apdu.specs.Kinds.{kind_at}
use Rattle.zvt_apdu.specs.declared.kinds.Kind.{Kind}
use Rattle.zvt_apdu.specs.declared.kinds.Kind.TheVariants as kind
use Rattle.zvt_stream.specs.declared.head.Head.{Head}
use Rattle.zvt_stream.specs.declared.head.Head.TheVariants.{Empty, One, Two}
use Rattle.zvt_text.specs.Meanings.{command_name}
use Rattle.zvt_text.specs.MessageTexts.{four_digits}
use Rattle.zvt_trace.specs.declared.direction.Direction.{Direction}
use Rattle.zvt_trace.specs.declared.direction.Direction.TheVariants.{FromTill, FromTerminal}
use Rattle.zvt_text.specs.Numbers.{zero_padded}
use Rattle.zvt_report.specs.Amounts.{amount_text, count_text}
use Rattle.zvt_report.specs.Phrases.{trace_part}
use Rattle.zvt_report.specs.declared.currencies.Decimals.{Decimals}
use Rattle.zvt_report.specs.declared.currencies.Decimals.TheVariants as decimals_of
use Rattle.zvt_report.specs.declared.findings.Finding.{Finding}
use Rattle.zvt_report.specs.declared.findings.Finding.TheVariants.{Swapped, ApprovalUnreadable, Currencies, Refused, CutOff, MoreRefused}

-- ---- a message

abbrev pub side_name : Direction → List ℕ
side_name FromTill = codes "till"
side_name FromTerminal = codes "terminal"

-- the name of a message by its control bytes, where it is known
abbrev pub message_name : Kind → (high low : ℕ) → Option (List ℕ)
message_name kind.Ack high low = Some (codes "acknowledgement")
message_name kind.Nack high low = Some (codes "negative acknowledgement")
message_name kind.Registration high low = Some (codes "registration")
message_name kind.Authorisation high low = Some (codes "payment")
message_name kind.Reversal high low = Some (codes "reversal")
message_name kind.EndOfDay high low = Some (codes "end of day")
message_name kind.AbortOrder high low = Some (codes "abort")
message_name kind.Status high low = Some (codes "status information")
message_name kind.Intermediate high low = Some (codes "intermediate status")
message_name kind.PrintLine high low = Some (codes "print line")
message_name kind.TextBlock high low = Some (codes "text block")
message_name kind.Completion high low = Some (codes "completion")
message_name kind.Abort high low = Some (codes "abort")
message_name kind.Other high low = command_name high low

abbrev pub bracketed : Option (List ℕ) → List ℕ
bracketed None = []
bracketed (Some name) = codes " (" ++ name ++ codes ")"

-- the control bytes, as far as they have come
unfoldable pub head_part : Head → List ℕ
head_part Empty = []
head_part (One high) = 32 ∷ encode_upper (high ∷ [])
head_part (Two high low) = 32 ∷ encode_upper (high ∷ low ∷ []) ++ bracketed (message_name (kind_at high low) high low)

unfoldable pub message_part : Direction → Head → List ℕ
message_part from head = codes "The " ++ side_name from ++ codes "'s message" ++ head_part head

-- ---- a refused one

-- what is wrong with the fatal byte
abbrev pub why_words : Why → List ℕ
why_words NotShortest = codes "a length has a longer form than necessary"
why_words DoesNotFit = codes "what it begins or counts does not fit"
why_words LengthForm = codes "no length begins with it"
why_words TooDeep = codes "objects are nested more than six levels deep"
why_words TagTooLong = codes "a tag has more than three bytes"
why_words UnknownField = codes "no known field begins with it"
why_words NotDigit = codes "it must be two digits"
why_words LengthDigit = codes "a digit of a length must be F0 to F9"

-- how the report goes on
abbrev pub goes_on : (reads_on : Bool) → List ℕ
goes_on true = codes "The report goes on after the message."
goes_on false = codes "The report goes on with the next connection."

abbrev pub refused_text : (place : ℕ) → Why → (reads_on : Bool) → List ℕ
refused_text place why goes = codes "Its byte " ++ decimal place ++ codes ", counted from 0, is refused: " ++ why_words why ++ codes " (" ++ why_name why ++ codes "). " ++ goes_on goes

abbrev pub maker_advice : Direction → List ℕ
maker_advice from = codes "Send this report to the maker of the " ++ side_name from ++ codes "."

-- ---- one that is cut off

abbrev pub cut_off_text : (have : ℕ) → List ℕ
cut_off_text have = codes "It breaks off after " ++ count_text have (codes "byte") ++ codes ", where the trace or the connection ended."

-- ---- an approval that could not be read to its end

abbrev pub amount_part : Decimals → Option ℕ → List ℕ
amount_part decimals None = []
amount_part decimals (Some amount) = codes ", " ++ amount_text decimals amount

unfoldable pub approval_text : Decimals → (place : ℕ) → (amount trace : Option ℕ) → List ℕ
approval_text decimals place amount trace =
    codes "The terminal's answer could not be read to its end (byte " ++ decimal place ++ codes "). What stands before that says: approved"
    ++ amount_part decimals amount ++ trace_part trace ++ codes "."

abbrev pub look_for : Option ℕ → List ℕ
look_for None = codes "Look"
look_for (Some trace) = codes "Look for trace " ++ zero_padded 6 trace

unfoldable pub approval_advice : (trace : Option ℕ) → List ℕ
approval_advice trace =
    codes "If it answers a payment, the customer has probably been charged. " ++ look_for trace ++ codes " in the terminal's journal, and send this report to the maker of the terminal."

-- ---- the whole trace

abbrev pub swapped_text : (orders : ℕ) → List ℕ
swapped_text orders = codes "The terminal's side (<) sent " ++ count_text orders (codes "order") ++ codes ", which only a till sends, and the till's side (>) sent none."

-- the other currency is named at this line first
abbrev pub currencies_text : (first other line : ℕ) → List ℕ
currencies_text first other line =
    codes "A registration names currency " ++ four_digits first ++ codes ", and the one in line " ++ decimal line ++ codes " names " ++ four_digits other ++ codes ". The totals add amounts of both."

-- ---- a finding

abbrev pub finding_title : Finding → List ℕ
finding_title (Swapped orders) = codes "The marks > and < are swapped"
finding_title (ApprovalUnreadable line place amount trace) = codes "The terminal's approval cannot be read"
finding_title (Currencies first other line) = codes "The trace has two currencies"
finding_title (Refused line from head place why goes) = message_part from head ++ codes " cannot be read"
finding_title (CutOff line from head have) = message_part from head ++ codes " is incomplete"
finding_title (MoreRefused count) = count_text count (codes "more message") ++ codes " refused or cut off"

abbrev pub finding_text : Decimals → Finding → List ℕ
finding_text decimals (Swapped orders) = swapped_text orders
finding_text decimals (ApprovalUnreadable line place amount trace) = approval_text decimals place amount trace
finding_text decimals (Currencies first other line) = currencies_text first other line
finding_text decimals (Refused line from head place why goes) = refused_text place why goes
finding_text decimals (CutOff line from head have) = cut_off_text have
finding_text decimals (MoreRefused count) = codes "This list has only the first messages that were refused or cut off."

abbrev pub finding_advice : Finding → List ℕ
finding_advice (Swapped orders) = codes "Swap the marks of the trace (tr '<>' '><'), and make this report again."
finding_advice (ApprovalUnreadable line place amount trace) = approval_advice trace
finding_advice (Currencies first other line) = codes "Split the trace where the currency changes, and make a report of each part."
finding_advice (Refused line from head place why goes) = maker_advice from
finding_advice (CutOff line from head have) = codes "If the trace was cut short, make this report again from the whole trace."
finding_advice (MoreRefused count) = codes "'zvt show' names the others."

-- ---- rows worked by hand

one_order : finding_text decimals_of.Two (Swapped 1) ≡ codes "The terminal's side (<) sent 1 order, which only a till sends, and the till's side (>) sent none."
unfolding count_text digits
one_order = refl

euros_and_dollars : finding_text decimals_of.Two (Currencies 978 36 57) ≡ codes "A registration names currency 0978, and the one in line 57 names 0036. The totals add amounts of both."
unfolding digits
euros_and_dollars = refl

abbrev a_refusal : Finding
a_refusal = Refused 4 FromTerminal (Two 0x04 0x0F) 37 UnknownField true

a_refused_status : finding_title a_refusal ++ 10 ∷ finding_text decimals_of.Two a_refusal ++ 10 ∷ finding_advice a_refusal
    ≡ codes "The terminal's message 040F (status information) cannot be read\n"
    ++ codes "Its byte 37, counted from 0, is refused: no known field begins with it (UnknownField). The report goes on after the message.\n"
    ++ codes "Send this report to the maker of the terminal."
unfolding digits encode_with head_part kind_at message_part
a_refused_status = refl

-- a message without a name, read strictly
a_refused_order : finding_title (Refused 4 FromTill (Two 0x08 0x99) 2 DoesNotFit false) ++ 10 ∷ finding_text decimals_of.Two (Refused 4 FromTill (Two 0x08 0x99) 2 DoesNotFit false)
    ≡ codes "The till's message 0899 cannot be read\n"
    ++ codes "Its byte 2, counted from 0, is refused: what it begins or counts does not fit (DoesNotFit). The report goes on with the next connection."
unfolding command_name digits encode_with head_part kind_at message_part
a_refused_order = refl

a_cut_message : finding_title (CutOff 12 FromTill (One 0x06) 1) ++ 10 ∷ finding_text decimals_of.Two (CutOff 12 FromTill (One 0x06) 1)
    ≡ codes "The till's message 06 is incomplete\nIt breaks off after 1 byte, where the trace or the connection ended."
unfolding count_text digits encode_with head_part message_part
a_cut_message = refl

the_others : finding_title (MoreRefused 3) ≡ codes "3 more messages refused or cut off"
unfolding count_text digits
the_others = refl

an_approval : finding_text decimals_of.Two (ApprovalUnreadable 4 37 (Some 1250) (Some 123)) ++ 10 ∷ finding_advice (ApprovalUnreadable 4 37 (Some 1250) (Some 123))
    ≡ codes "The terminal's answer could not be read to its end (byte 37). What stands before that says: approved, 12.50, trace 000123.\n"
    ++ codes "If it answers a payment, the customer has probably been charged. Look for trace 000123 in the terminal's journal, and send this report to the maker of the terminal."
unfolding amount_text approval_advice approval_text digits
an_approval = refl

-- without an amount and a trace number
nothing_but_approved : finding_text decimals_of.Two (ApprovalUnreadable 4 9 None None) ++ 10 ∷ finding_advice (ApprovalUnreadable 4 9 None None)
    ≡ codes "The terminal's answer could not be read to its end (byte 9). What stands before that says: approved.\n"
    ++ codes "If it answers a payment, the customer has probably been charged. Look in the terminal's journal, and send this report to the maker of the terminal."
unfolding approval_advice approval_text digits
nothing_but_approved = refl
