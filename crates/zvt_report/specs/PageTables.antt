-- The tables of a page: the payments, and the reversals and other orders that move money.
use Rattle.std.specs.Prelude.{◌≡◌, ℕ, ◌+◌, ◌==◌, ◌||◌, Bool, true, false, cond, List, [], ◌∷◌, codes, Option, Some, None, unwrap_or, refl}
use Rattle.std.specs.Fmt.{decimal, digits}
use Rattle.std.specs.Option.{option_or}
use Rattle.hex.specs.Hex.{encode_with}
use Rattle.zvt_page.specs.Html.{Html, nothing, both, element, class_of, leaf, all, attribute_text, end_tag, escaped, render, start_tag}
use Rattle.zvt_page.specs.declared.elements.Attribute.TheVariants.{Class}
use Rattle.zvt_page.specs.declared.elements.Element.TheVariants.{H2, P, Table, Tbody, Td, Thead, Tr}
use Rattle.zvt_till.specs.declared.entries.Entry.{Entry}
use Rattle.zvt_trace.specs.Marks.{moment}
use Rattle.zvt_till.specs.declared.happenings.Sent.{Sent}
use Rattle.zvt_till.specs.declared.happenings.Sent.TheVariants.{Pay}
use Rattle.zvt_till.specs.declared.outcomes.Outcome.TheVariants.{Paid}
use Rattle.zvt_report.specs.Amounts.{amount_text}
use Rattle.zvt_report.specs.CardTexts.{card_or_nothing}
use Rattle.zvt_report.specs.Day.{DayValue}
use Rattle.zvt_report.specs.Kinds.{kind_at}
use Rattle.zvt_report.specs.Objects.{amount_at, approved_of, entry_at, message_at, receipt_by, trace_by}
use Rattle.zvt_report.specs.OtherTable.{money_name, reversal_name}
use Rattle.zvt_report.specs.PageParts.{amount_cell, column, lines_cell, outcome_cell, receipt_cell, time_cell, time_heading, trace_cell}
use Rattle.zvt_report.specs.PaymentTable.{explained, outcome_text, payment_text}
use Rattle.zvt_report.specs.Places.{counted, no_counts, payments_in, place_after}
use Rattle.zvt_report.specs.Times.{have_times}
use Rattle.zvt_report.specs.Tones.{outcome_tone, payment_tone, row_class}
use Rattle.zvt_report.specs.declared.cards.Card.{Card}
use Rattle.zvt_report.specs.declared.currencies.Decimals.{Decimals}
use Rattle.zvt_report.specs.declared.currencies.Decimals.TheVariants.{Two}
use Rattle.zvt_report.specs.declared.kinds.OrderKind.{OrderKind}
use Rattle.zvt_report.specs.declared.kinds.OrderKind.TheVariants.{Reversal, OtherMoney}
use Rattle.zvt_report.specs.declared.places.Counts.{Counts}
use Rattle.zvt_report.specs.declared.places.Place.{Place}
use Rattle.zvt_report.specs.declared.rows.OrderMessage.{OrderMessage}
use Rattle.zvt_report.specs.declared.rows.OrderRow.{OrderRow}

-- a table of this head and body
abbrev pub table : (head body : Html) → Html
table head body = element Table ((Class, codes "t") ∷ []) (both (element Thead [] (element Tr [] head)) (element Tbody [] body))

-- ---- payments

unfoldable pub payment_columns : (timed : Bool) → Html
payment_columns timed =
    all (column (codes "i n") (codes "#") ∷ time_heading timed ∷ column (codes "n am") (codes "Amount") ∷ column (codes "ids") (codes "Trace") ∷ column (codes "rc") (codes "Receipt")
    ∷ column (codes "ca") (codes "Card") ∷ column (codes "oc") (codes "Outcome") ∷ column (codes "ln") (codes "Lines") ∷ [])

unfoldable pub card_cell : Option Card → Html
card_cell card = leaf Td (codes "ca") (card_or_nothing card)

unfoldable pub number_cell : (number : ℕ) → Html
number_cell number = leaf Td (codes "i n") (decimal number)

-- how a payment ended
unfoldable pub payment_end : Option Entry → OrderRow → Html
payment_end entry row = outcome_cell (payment_tone entry row.outcome) (payment_text entry row)

unfoldable pub payment_row : (timed : Bool) → Decimals → (number : ℕ) → Option Entry → OrderRow → (amount : ℕ) → Html
payment_row timed decimals number entry row amount =
    element Tr (class_of (row_class (payment_tone entry row.outcome)))
    (all (number_cell number ∷ time_cell timed row.time ∷ amount_cell decimals (Some amount) ∷ trace_cell (trace_by row.outcome row.approval) ∷ receipt_cell (receipt_by row.outcome row.approval)
    ∷ card_cell row.card ∷ payment_end entry row ∷ lines_cell row.first row.last ∷ []))

-- the row of an order, if it is a payment
unfoldable pub payment_of : (timed : Bool) → Decimals → List Entry → Place → OrderRow → Sent → Html
payment_of timed decimals book place row (Pay amount) = payment_row timed decimals (unwrap_or place.payment 0) (entry_at book place.entry) row amount
payment_of timed decimals book place row _ = nothing

abbrev pub payment_rows : (timed : Bool) → Decimals → List Entry → Counts → List OrderRow → Html
payment_rows timed decimals book c [] = nothing
payment_rows timed decimals book c (row ∷ rows) = both (payment_of timed decimals book (place_after c row) row row.order) (payment_rows timed decimals book (counted c row) rows)

unfoldable pub payments_table : Decimals → List Entry → List OrderRow → Html
payments_table decimals book rows = table (payment_columns (have_times rows)) (payment_rows (have_times rows) decimals book no_counts rows)

abbrev pub payments_or_none : Decimals → List Entry → List OrderRow → Html
payments_or_none decimals book rows =
    cond (payments_in rows == 0) (leaf P (codes "none") (codes "There is no payment in this trace.")) (payments_table decimals book rows)

unfoldable pub payments_section : Decimals → DayValue → Html
payments_section decimals books = both (leaf H2 [] (codes "Payments")) (payments_or_none decimals books.book books.orders)

-- ---- reversals and other orders

unfoldable pub other_columns : (timed : Bool) → Html
other_columns timed =
    all (time_heading timed ∷ column (codes "n am") (codes "Amount") ∷ column (codes "cd") (codes "Order") ∷ column (codes "rc") (codes "Receipt")
    ∷ column (codes "oc") (codes "Outcome") ∷ column (codes "ln") (codes "Lines") ∷ [])

-- how another order ended
unfoldable pub other_end : OrderRow → Html
other_end row = outcome_cell (outcome_tone row.outcome) (outcome_text row.order row.outcome)

unfoldable pub other_row : (timed : Bool) → Decimals → (amount : Option ℕ) → (receipt : Option (List ℕ)) → (name : List ℕ) → OrderRow → Html
other_row timed decimals amount receipt name row =
    element Tr (class_of (row_class (outcome_tone row.outcome)))
    (all (time_cell timed row.time ∷ amount_cell decimals amount ∷ leaf Td (codes "cd") name ∷ receipt_cell receipt ∷ other_end row ∷ lines_cell row.first row.last ∷ []))

-- If the payment of a reversal is not in the trace, the amount is the one that the message names.
abbrev pub reversal_row : (timed : Bool) → Decimals → List Entry → Place → OrderRow → OrderMessage → Html
reversal_row timed decimals book place row message = other_row timed decimals (option_or (amount_at book place.entry) message.amount) message.receipt (reversal_name row.order) row

abbrev pub money_row : (timed : Bool) → Decimals → OrderRow → OrderMessage → Html
money_row timed decimals row message = other_row timed decimals (option_or message.amount (approved_of row)) message.receipt (money_name message.high message.low) row

-- the row of an order, if it moves money and is no payment
unfoldable pub other_of : (timed : Bool) → OrderKind → Decimals → List Entry → Place → OrderRow → OrderMessage → Html
other_of timed Reversal decimals book place row message = reversal_row timed decimals book place row message
other_of timed OtherMoney decimals book place row message = money_row timed decimals row message
other_of timed _ decimals book place row message = nothing

abbrev pub other_rows : (timed : Bool) → Decimals → List Entry → List OrderMessage → Counts → List OrderRow → Html
other_rows timed decimals book messages c [] = nothing
other_rows timed decimals book messages c (row ∷ rows) =
    both (other_of timed (kind_at messages c.orders row) decimals book (place_after c row) row (message_at messages c.orders)) (other_rows timed decimals book messages (counted c row) rows)

abbrev pub is_listed : OrderKind → Bool
is_listed Reversal = true
is_listed OtherMoney = true
is_listed _ = false

-- whether the table has a row; the first order has this place
abbrev pub has_rows : List OrderMessage → (place : ℕ) → List OrderRow → Bool
has_rows messages place [] = false
has_rows messages place (row ∷ rows) = is_listed (kind_at messages place row) || has_rows messages (place + 1) rows

unfoldable pub others_table : Decimals → List Entry → List OrderMessage → List OrderRow → Html
others_table decimals book messages rows = table (other_columns (have_times rows)) (other_rows (have_times rows) decimals book messages no_counts rows)

-- the table under its heading
unfoldable pub headed_table : Decimals → List Entry → List OrderMessage → List OrderRow → Html
headed_table decimals book messages rows = both (leaf H2 [] (codes "Reversals and other orders that move money")) (others_table decimals book messages rows)

-- the table, if it has a row
unfoldable pub others_section : Decimals → DayValue → List OrderMessage → Html
others_section decimals books messages = cond (has_rows messages 0 books.orders) (headed_table decimals books.book messages books.orders) nothing

-- ---- a row worked by hand

-- with a card name that looks like a tag
abbrev a_payment : OrderRow
a_payment = record { order = Pay 1234; first = 12; last = 38; outcome = Paid 17 (Some (0 ∷ 5 ∷ [])); approval = None; time = Some (moment 2026 11 28 8 14 3 0); card = Some (record { card_type = None; name = Some (codes "<b>"); number = None }) }

a_row : render (payment_row true Two 1 None a_payment 1234)
    ≡ codes "<tr><td class=\"i n\">1</td><td class=\"tm\">08:14:03</td><td class=\"n am\">12.34</td><td class=\"ids\">000017</td><td class=\"rc\">0005</td><td class=\"ca\">&lt;b&gt;</td><td class=\"oc\"><span class=\"dot c-ok\">paid</span></td><td class=\"ln\">12-38</td></tr>"
unfolding amount_cell amount_text attribute_text card_cell card_or_nothing digits encode_with end_tag escaped explained lines_cell number_cell outcome_cell outcome_text payment_end payment_row payment_text receipt_cell start_tag time_cell trace_cell
a_row = refl
