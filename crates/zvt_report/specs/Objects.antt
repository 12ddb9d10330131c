-- The report of a trace as JSON.
use Rattle.std.specs.Prelude.{◌≡◌, ℕ, ◌+◌, Bool, true, false, cond, List, [], ◌∷◌, ◌++◌, length, Option, Some, None, codes, option_map, slice_get, refl}
use Rattle.std.specs.Fmt.{digits}
use Rattle.std.specs.Option.{option_and_then, option_or}
use Rattle.hex.specs.Hex.{encode_with}
use Rattle.json.specs.Print.{escape_byte}
use Rattle.zvt_text.specs.Meanings.{command_name, meaning_of}
use Rattle.zvt_till.specs.Marks.{total}
use Rattle.zvt_till.specs.declared.entries.Doubt.{Doubt}
use Rattle.zvt_till.specs.declared.entries.Doubt.TheVariants as doubt
use Rattle.zvt_till.specs.declared.entries.Entry.{Entry}
use Rattle.zvt_till.specs.declared.happenings.Sent.{Sent}
use Rattle.zvt_till.specs.declared.happenings.Sent.TheVariants as sent
use Rattle.zvt_till.specs.declared.outcomes.Cause.{Cause}
use Rattle.zvt_till.specs.declared.outcomes.Cause.TheVariants as cause
use Rattle.zvt_till.specs.declared.outcomes.Outcome.{Outcome}
use Rattle.zvt_till.specs.declared.outcomes.Outcome.TheVariants as outcome
use Rattle.zvt_trace.specs.Marks.{moment}
use Rattle.zvt_trace.specs.declared.fault.Tally.{Tally}
use Rattle.zvt_report.specs.CardObjects.{maybe_card, maybe_card_number}
use Rattle.zvt_report.specs.CloseObjects.{book_member, differs_member, explained_member, groups_member, receipts_member, stated_member}
use Rattle.zvt_report.specs.Differing.{closing_at}
use Rattle.zvt_report.specs.Day.{DayValue}
use Rattle.zvt_report.specs.Kinds.{kind_of}
pub use Rattle.zvt_report.specs.Kinds.{message_at}
use Rattle.zvt_report.specs.Laws.{booked_total}
use Rattle.zvt_report.specs.Members.{object_text}
use Rattle.zvt_report.specs.OrderNames.{order_name}
use Rattle.zvt_report.specs.Places.{counted, no_counts, payment_of, place_after, reversed_by}
use Rattle.zvt_report.specs.Sums.{reversed_count, unclear_reversals, unclear_total}
use Rattle.zvt_report.specs.TimeMembers.{back_member, bad_member, from_member, maybe_time, to_member}
use Rattle.zvt_report.specs.Times.{no_times}
use Rattle.zvt_report.specs.Words.{ending_of}
use Rattle.zvt_report.specs.declared.cases.Look.{Look}
use Rattle.zvt_report.specs.declared.closings.Closing.{Closing}
use Rattle.zvt_report.specs.declared.kinds.OrderKind.{OrderKind}
use Rattle.zvt_report.specs.declared.kinds.OrderKind.TheVariants as kind
use Rattle.zvt_report.specs.declared.findings.Finding.{Finding}
use Rattle.zvt_report.specs.declared.members.Member.{Member}
use Rattle.zvt_report.specs.declared.members.Name.{Name}
use Rattle.zvt_report.specs.declared.members.Name.TheVariants as name
use Rattle.zvt_report.specs.declared.members.Object.TheVariants as object_of
use Rattle.zvt_report.specs.declared.members.Value.{Value}
use Rattle.zvt_report.specs.declared.members.Value.TheVariants as value
use Rattle.zvt_report.specs.declared.members.Word.TheVariants as word
use Rattle.zvt_report.specs.declared.places.Counts.{Counts}
use Rattle.zvt_report.specs.declared.places.Place.{Place}
use Rattle.zvt_report.specs.declared.rows.Approval.{Approval}
use Rattle.zvt_report.specs.declared.rows.OrderMessage.{OrderMessage}
use Rattle.zvt_report.specs.declared.rows.OrderRow.{OrderRow}
use Rattle.zvt_report.specs.declared.times.Times.{Times}

-- ---- what a row has to say

abbrev pub cause_of : Outcome → Option Cause
cause_of (outcome.Unclear cause) = Some cause
cause_of _ = None

-- the terminal's result code
abbrev pub code_of : Outcome → Option ℕ
code_of (outcome.Declined code) = Some code
code_of (outcome.Refused code) = Some code
code_of (outcome.Aborted code) = Some code
code_of _ = None

-- the trace number of a booked payment, or the one in the first approval
abbrev pub trace_by : Outcome → Option Approval → Option ℕ
trace_by (outcome.Paid trace receipt) approval = Some trace
trace_by _ approval = option_and_then (λ (a : Approval). a.trace) approval

-- the receipt number of a booked payment, or the one in the first approval
abbrev pub receipt_by : Outcome → Option Approval → Option (List ℕ)
receipt_by (outcome.Paid trace receipt) approval = receipt
receipt_by _ approval = option_and_then (λ (a : Approval). a.receipt) approval

abbrev pub entry_at : List Entry → (place : Option ℕ) → Option Entry
entry_at book place = option_and_then (λ (p : ℕ). slice_get book p) place

abbrev pub amount_at : List Entry → (place : Option ℕ) → Option ℕ
amount_at book place = option_map (λ (e : Entry). e.amount) (entry_at book place)

-- the cause if the entry's last reversal is unclear
abbrev pub unclear_by : Doubt → Option Cause
unclear_by doubt.No = None
unclear_by (doubt.Unclear cause) = Some cause
unclear_by doubt.TakenBack = None

abbrev pub unclear_at : List Entry → (place : Option ℕ) → Option Cause
unclear_at book place = option_and_then (λ (e : Entry). unclear_by e.doubt) (entry_at book place)

abbrev pub is_taken_back : Doubt → Bool
is_taken_back doubt.No = false
is_taken_back (doubt.Unclear cause) = false
is_taken_back doubt.TakenBack = true

abbrev pub taken_back_at : List Entry → (place : Option ℕ) → Bool
taken_back_at book place = elim (entry_at book place) [ None ↦ false | Some e ↦ is_taken_back e.doubt ]

-- the number of the payment that booked the entry at this place
abbrev pub payment_for : (place : Option ℕ) → List OrderRow → Option ℕ
payment_for place rows = option_and_then (λ (p : ℕ). payment_of p rows) place

-- the number of the order that took back the entry at this place
abbrev pub reversed_at : (place : Option ℕ) → List OrderRow → Option ℕ
reversed_at place rows = option_and_then (λ (p : ℕ). reversed_by p rows) place

-- ---- members

abbrev pub said_as : Name → Value → Option Member
said_as n v = Some (record { name = n; value = v })

abbrev pub count : Name → ℕ → Option Member
count n number = said_as n (value.Count number)

abbrev pub maybe_count : Name → Option ℕ → Option Member
maybe_count n number = option_map (λ (k : ℕ). record { name = n; value = value.Count k }) number

abbrev pub maybe_cause : Name → Option Cause → Option Member
maybe_cause n cause = option_map (λ (c : Cause). record { name = n; value = value.Word (word.Cause c) }) cause

abbrev pub maybe_receipt : Option (List ℕ) → Option Member
maybe_receipt receipt = option_map (λ (digits : List ℕ). record { name = name.Receipt; value = value.Bytes digits }) receipt

abbrev pub true_if : Name → Bool → Option Member
true_if n holds = cond holds (said_as n value.True) None

abbrev pub code : Outcome → Option Member
code o = option_map (λ (c : ℕ). record { name = name.Code; value = value.Byte c }) (code_of o)

-- if the code has a meaning
abbrev pub words : Outcome → Option Member
words o = option_and_then (λ (c : ℕ). option_map (λ (meaning : List ℕ). record { name = name.Words; value = value.Word (word.Meaning c) }) (meaning_of c)) (code_of o)

abbrev pub lines : OrderRow → Option Member
lines row = said_as name.Lines (value.Lines row.first row.last)

abbrev pub ending : OrderRow → Option Member
ending row = said_as name.Outcome (value.Word (word.Ending (ending_of row.order row.outcome)))

abbrev pub control : OrderMessage → Option Member
control message = said_as name.Control (value.Bytes (message.high ∷ message.low ∷ []))

-- if the order has a name
abbrev pub command : OrderMessage → Option Member
command message = option_map (λ (n : List ℕ). record { name = name.Name; value = value.Word (word.Command message.high message.low) }) (order_name message.high message.low)

-- ---- a row

abbrev pub approved_of : OrderRow → Option ℕ
approved_of row = option_map (λ (a : Approval). a.amount) row.approval

abbrev pub payment_members : DayValue → Place → OrderRow → (amount : ℕ) → List (Option Member)
payment_members books place row amount =
    count name.Amount amount
    ∷ maybe_count name.Approved (approved_of row)
    ∷ maybe_card row.card
    ∷ maybe_card_number row.card
    ∷ maybe_cause name.Cause (cause_of row.outcome)
    ∷ code row.outcome
    ∷ lines row
    ∷ count name.Order place.order
    ∷ ending row
    ∷ maybe_count name.Payment place.payment
    ∷ maybe_receipt (receipt_by row.outcome row.approval)
    ∷ maybe_cause name.ReversalUnclear (unclear_at books.book place.entry)
    ∷ maybe_count name.ReversedBy (reversed_at place.entry books.orders)
    ∷ true_if name.TakenBack (taken_back_at books.book place.entry)
    ∷ maybe_time row.time
    ∷ maybe_count name.Trace (trace_by row.outcome row.approval)
    ∷ words row.outcome
    ∷ []

-- The amount of a payment that is not in the trace is the one that the message names.
abbrev pub reversal_members : DayValue → Place → OrderRow → OrderMessage → List (Option Member)
reversal_members books place row message =
    maybe_count name.Amount (option_or (amount_at books.book place.entry) message.amount)
    ∷ maybe_cause name.Cause (cause_of row.outcome)
    ∷ code row.outcome
    ∷ lines row
    ∷ count name.Order place.order
    ∷ ending row
    ∷ maybe_count name.Payment (payment_for place.entry books.orders)
    ∷ maybe_receipt message.receipt
    ∷ maybe_time row.time
    ∷ words row.outcome
    ∷ []

-- the amount is the one that the message names, or the first that was approved
abbrev pub other_members : Place → OrderRow → OrderMessage → List (Option Member)
other_members place row message =
    maybe_count name.Amount (option_or message.amount (approved_of row))
    ∷ maybe_cause name.Cause (cause_of row.outcome)
    ∷ code row.outcome
    ∷ control message
    ∷ lines row
    ∷ command message
    ∷ count name.Order place.order
    ∷ ending row
    ∷ maybe_time row.time
    ∷ words row.outcome
    ∷ []

abbrev pub close_members : Option Closing → Place → OrderRow → List (Option Member)
close_members closing place row =
    book_member closing
    ∷ maybe_cause name.Cause (cause_of row.outcome)
    ∷ code row.outcome
    ∷ differs_member closing
    ∷ explained_member closing
    ∷ groups_member closing
    ∷ lines row
    ∷ count name.Order place.order
    ∷ ending row
    ∷ receipts_member closing
    ∷ stated_member closing
    ∷ maybe_time row.time
    ∷ words row.outcome
    ∷ []

abbrev pub plain_members : Place → OrderRow → OrderMessage → List (Option Member)
plain_members place row message =
    maybe_cause name.Cause (cause_of row.outcome)
    ∷ code row.outcome
    ∷ control message
    ∷ lines row
    ∷ command message
    ∷ count name.Order place.order
    ∷ ending row
    ∷ maybe_time row.time
    ∷ words row.outcome
    ∷ []

-- an order that is no payment
abbrev pub order_line : OrderKind → DayValue → Place → OrderRow → OrderMessage → Option Closing → List ℕ
order_line kind.Reversal books place row message closing = object_text object_of.Reversal (reversal_members books place row message)
order_line kind.OtherMoney books place row message closing = object_text object_of.Other (other_members place row message)
order_line kind.Close books place row message closing = object_text object_of.Close (close_members closing place row)
order_line _ books place row message closing = object_text object_of.Order (plain_members place row message)

abbrev pub row_line_as : Sent → DayValue → Place → OrderRow → OrderMessage → Option Closing → List ℕ
row_line_as (sent.Pay amount) books place row message closing = object_text object_of.Payment (payment_members books place row amount)
row_line_as other books place row message closing = order_line (kind_of other message.high message.low) books place row message closing

abbrev pub row_line : DayValue → Place → OrderRow → OrderMessage → Option Closing → List ℕ
row_line books place row message closing = row_line_as row.order books place row message closing

-- ---- all rows

-- a line for each row, after these counts
abbrev pub rows_json : DayValue → List OrderMessage → List (Option Closing) → Counts → List OrderRow → List ℕ
rows_json books messages closings c [] = []
rows_json books messages closings c (row ∷ rows) =
    row_line books (place_after c row) row (message_at messages c.orders) (closing_at closings c.orders) ++ rows_json books messages closings (counted c row) rows

-- ---- the summary

abbrev pub one_if_other : OrderKind → ℕ
one_if_other kind.OtherMoney = 1
one_if_other _ = 0

-- the number of orders that move money and that the book does not follow; the first row has this place
abbrev pub others_from : List OrderMessage → (place : ℕ) → List OrderRow → ℕ
others_from messages place [] = 0
others_from messages place (row ∷ rows) =
    let message = message_at messages place in
    one_if_other (kind_of row.order message.high message.low) + others_from messages (place + 1) rows

abbrev pub maybe_currency : Option ℕ → Option Member
maybe_currency currency = option_map (λ (c : ℕ). record { name = name.Currency; value = value.Currency c }) currency

abbrev pub maybe_terminal : Option (List ℕ) → Option Member
maybe_terminal terminal = option_map (λ (id : List ℕ). record { name = name.Terminal; value = value.Terminal id }) terminal

abbrev pub summary_members : Tally → (currency : Option ℕ) → (terminal : Option (List ℕ)) → Times → DayValue → List OrderMessage → List Look → List Finding → List (Option Member)
summary_members tally currency terminal times books messages looks findings =
    count name.Bad tally.bad
    ∷ count name.Booked (length books.book)
    ∷ maybe_currency currency
    ∷ count name.Looks (length looks + length findings)
    ∷ count name.Messages tally.messages
    ∷ count name.Net (total books.book)
    ∷ count name.Others (others_from messages 0 books.orders)
    ∷ count name.ReversalsUnclear (unclear_reversals books.book)
    ∷ count name.Reversed (reversed_count books.book)
    ∷ maybe_terminal terminal
    ∷ from_member times.span
    ∷ to_member times.span
    ∷ back_member times.went_back
    ∷ bad_member times.bad times.first_bad
    ∷ count name.Total (booked_total books.book)
    ∷ count name.Unclear (length books.unclear)
    ∷ count name.UnclearAmount (unclear_total books.unclear)
    ∷ []

abbrev pub summary_line : Tally → (currency : Option ℕ) → (terminal : Option (List ℕ)) → Times → DayValue → List OrderMessage → List Look → List Finding → List ℕ
summary_line tally currency terminal times books messages looks findings = object_text object_of.Summary (summary_members tally currency terminal times books messages looks findings)

-- ---- rows worked by hand

abbrev a_row : Sent → ℕ → ℕ → Outcome → Option Approval → OrderRow
a_row order first last outcome approval = record { order = order; first = first; last = last; outcome = outcome; approval = approval; time = None; card = None }

abbrev a_message : ℕ → Option ℕ → Option (List ℕ) → OrderMessage
a_message low amount receipt = record { high = 0x06; low = low; amount = amount; receipt = receipt }

abbrev an_entry : ℕ → Bool → Doubt → Entry
an_entry amount reversed doubt = record { amount = amount; trace = 17; receipt = Some (0x00 ∷ 0x05 ∷ []); reversed = reversed; doubt = doubt }

abbrev a_day : List Entry → List OrderRow → DayValue
a_day book orders = record { book = book; unclear = []; orders = orders }

-- a payment that was taken back
taken_back : let orders = a_row (sent.Pay 1234) 12 38 (outcome.Paid 17 (Some (0x00 ∷ 0x05 ∷ []))) None ∷ a_row (sent.Reverse 0) 40 52 outcome.Reversed None ∷ [] in
    rows_json (a_day (an_entry 1234 true doubt.No ∷ []) orders) (a_message 0x01 (Some 1234) None ∷ a_message 0x30 None (Some (0x00 ∷ 0x05 ∷ [])) ∷ []) [] no_counts orders
    ≡ codes "{\"payment\":{\"amount\":1234,\"lines\":[12,38],\"order\":1,\"outcome\":\"paid\",\"payment\":1,\"receipt\":\"0005\",\"reversed_by\":2,\"trace\":17}}\n{\"reversal\":{\"amount\":1234,\"lines\":[40,52],\"order\":2,\"outcome\":\"reversed\",\"payment\":1,\"receipt\":\"0005\"}}\n"
unfolding object_text digits escape_byte encode_with
taken_back = refl

-- an unclear payment with an approval, and a payment whose reversal is unclear
unclear_payment : let orders = a_row (sent.Pay 3499) 128 146 (outcome.Unclear cause.Line) (Some (record { line = 144; amount = 3499; trace = Some 20; receipt = None })) ∷ [] in
    rows_json (a_day [] orders) [] [] no_counts orders
    ≡ codes "{\"payment\":{\"amount\":3499,\"approved\":3499,\"cause\":\"Line\",\"lines\":[128,146],\"order\":1,\"outcome\":\"unclear\",\"payment\":1,\"trace\":20}}\n"
unfolding object_text digits escape_byte
unclear_payment = refl

unclear_reversal : let orders = a_row (sent.Pay 1234) 12 38 (outcome.Paid 17 None) None ∷ [] in
    rows_json (a_day (an_entry 1234 false (doubt.Unclear cause.Line) ∷ []) orders) [] [] no_counts orders
    ≡ codes "{\"payment\":{\"amount\":1234,\"lines\":[12,38],\"order\":1,\"outcome\":\"paid\",\"payment\":1,\"reversal_unclear\":\"Line\",\"trace\":17}}\n"
unfolding object_text digits escape_byte
unclear_reversal = refl

taken_back_before : let orders = a_row (sent.Pay 1234) 12 38 (outcome.Paid 17 None) None ∷ [] in
    rows_json (a_day (an_entry 1234 false doubt.TakenBack ∷ []) orders) [] [] no_counts orders
    ≡ codes "{\"payment\":{\"amount\":1234,\"lines\":[12,38],\"order\":1,\"outcome\":\"paid\",\"payment\":1,\"taken_back\":true,\"trace\":17}}\n"
unfolding object_text digits escape_byte
taken_back_before = refl

-- a refund, a reversal of a payment that is not in the trace, an end of day that was aborted, and a diagnosis
other_orders : let orders = a_row sent.Foreign 2 6 outcome.DayClosed None ∷ a_row sent.Foreign 8 12 outcome.DayClosed None ∷ a_row sent.CloseDay 14 16 (outcome.Aborted 0x6C) None ∷ a_row sent.Foreign 18 20 outcome.DayClosed None ∷ [] in
    rows_json (a_day [] orders) (a_message 0x31 (Some 500) None ∷ a_message 0x30 None (Some (0x00 ∷ 0x09 ∷ [])) ∷ a_message 0x50 None None ∷ a_message 0x70 None None ∷ []) [] no_counts orders
    ≡ codes "{\"other\":{\"amount\":500,\"control\":\"0631\",\"lines\":[2,6],\"name\":\"refund\",\"order\":1,\"outcome\":\"completed\"}}\n{\"reversal\":{\"lines\":[8,12],\"order\":2,\"outcome\":\"completed\",\"receipt\":\"0009\"}}\n{\"close\":{\"code\":\"6C\",\"lines\":[14,16],\"order\":3,\"outcome\":\"aborted\",\"words\":\"abort by time-out or abort key\"}}\n{\"order\":{\"control\":\"0670\",\"lines\":[18,20],\"name\":\"diagnosis\",\"order\":4,\"outcome\":\"completed\"}}\n"
unfolding object_text digits escape_byte encode_with command_name meaning_of
other_orders = refl

a_summary : summary_line (record { messages = 12; bad = 0 }) (Some 978) (Some (0x52 ∷ 0x50 ∷ 0x00 ∷ 0x41 ∷ [])) no_times (record { book = an_entry 1234 true doubt.No ∷ an_entry 500 false doubt.No ∷ []; unclear = (700, cause.Line) ∷ []; orders = [] }) [] [] []
    ≡ codes "{\"summary\":{\"bad\":0,\"booked\":2,\"currency\":\"0978\",\"looks\":0,\"messages\":12,\"net\":500,\"others\":0,\"reversals_unclear\":0,\"reversed\":1,\"terminal\":\"52500041\",\"total\":1734,\"unclear\":1,\"unclear_amount\":700}}\n"
unfolding object_text digits escape_byte encode_with
a_summary = refl

-- a time of day, and where a trace ends
a_time : object_text object_of.Order (maybe_time (Some (moment 2026 11 28 8 14 3 250_000_000)) ∷ []) ≡ codes "{\"order\":{\"time\":\"2026-11-28T08:14:03.250Z\"}}\n"
unfolding object_text escape_byte
a_time = refl
