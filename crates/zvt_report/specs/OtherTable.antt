-- The table of the reversals and the other orders that move money.
use Rattle.std.specs.Prelude.{◌≡◌, ℕ, true, List, [], ◌∷◌, ◌++◌, codes, Option, Some, None, refl}
use Rattle.std.specs.Fmt.{digits}
use Rattle.std.specs.Option.{option_or}
use Rattle.hex.specs.Hex.{encode_with}
use Rattle.zvt_text.specs.Meanings.{command_name}
use Rattle.zvt_till.specs.declared.entries.Doubt.TheVariants.{No}
use Rattle.zvt_till.specs.declared.entries.Entry.{Entry}
use Rattle.zvt_till.specs.declared.happenings.Sent.{Sent}
use Rattle.zvt_till.specs.declared.happenings.Sent.TheVariants.{Register, Reverse, Foreign}
use Rattle.zvt_till.specs.declared.outcomes.Outcome.TheVariants.{Registered, Reversed, DayClosed}
use Rattle.zvt_report.specs.Amounts.{amount_column}
use Rattle.zvt_report.specs.Kinds.{kind_of}
use Rattle.zvt_report.specs.Objects.{amount_at, approved_of, message_at}
use Rattle.zvt_report.specs.PaymentTable.{explained, fraction_blanks, lines_column, outcome_text, receipt_column}
use Rattle.zvt_report.specs.Places.{counted, no_counts, place_after}
use Rattle.zvt_report.specs.declared.currencies.Decimals.{Decimals}
use Rattle.zvt_report.specs.declared.currencies.Decimals.TheVariants.{Two}
use Rattle.zvt_report.specs.declared.kinds.OrderKind.{OrderKind}
use Rattle.zvt_report.specs.Times.{time_column}
use Rattle.zvt_trace.specs.Marks.{moment}
use Rattle.zvt_report.specs.declared.kinds.OrderKind.TheVariants.{Reversal, OtherMoney}
use Rattle.zvt_report.specs.declared.places.Counts.{Counts}
use Rattle.zvt_report.specs.declared.places.Place.{Place}
use Rattle.zvt_report.specs.declared.rows.OrderMessage.{OrderMessage}
use Rattle.zvt_report.specs.declared.rows.OrderRow.{OrderRow}

-- ---- columns

unfoldable pub amount_or_blank : Decimals → Option ℕ → List ℕ
amount_or_blank decimals None = codes "           -" ++ fraction_blanks decimals
amount_or_blank decimals (Some amount) = amount_column decimals [] amount

unfoldable pub reversal_name : Sent → List ℕ
reversal_name (Reverse e) = codes "reversal"
reversal_name _ = codes "reversal of a payment that is not in this trace"

abbrev pub named : Option (List ℕ) → List ℕ
named None = codes "payment without one amount"
named (Some name) = name

-- the command's name; of the orders that move money, only a payment has none
unfoldable pub money_name : (high low : ℕ) → List ℕ
money_name high low = named (command_name high low)

unfoldable pub order_columns : Decimals → (amount : Option ℕ) → (receipt : Option (List ℕ)) → OrderRow → List ℕ
order_columns decimals amount receipt row = time_column row.time ++ amount_or_blank decimals amount ++ codes "  " ++ receipt_column receipt ++ lines_column row.first row.last

unfoldable pub order_end : OrderRow → List ℕ
order_end row = codes ", " ++ outcome_text row.order row.outcome ++ 10 ∷ []

-- ---- the table

abbrev pub reversal_row : Decimals → List Entry → Place → OrderRow → OrderMessage → List ℕ
reversal_row decimals book place row message =
    order_columns decimals (option_or (amount_at book place.entry) message.amount) message.receipt row ++ reversal_name row.order ++ order_end row

abbrev pub money_row : Decimals → OrderRow → OrderMessage → List ℕ
money_row decimals row message =
    order_columns decimals (option_or message.amount (approved_of row)) message.receipt row ++ money_name message.high message.low ++ order_end row

-- the row of an order, if it moves money and is no payment
unfoldable pub order_row : OrderKind → Decimals → List Entry → Place → OrderRow → OrderMessage → List ℕ
order_row Reversal decimals book place row message = reversal_row decimals book place row message
order_row OtherMoney decimals book place row message = money_row decimals row message
order_row _ decimals book place row message = []

abbrev pub others_from : Decimals → List Entry → List OrderMessage → Counts → List OrderRow → List ℕ
others_from decimals book messages c [] = []
others_from decimals book messages c (row ∷ rows) =
    order_row (kind_of row.order (message_at messages c.orders).high (message_at messages c.orders).low) decimals book (place_after c row) row (message_at messages c.orders)
    ++ others_from decimals book messages (counted c row) rows

unfoldable pub others_heading : Decimals → List ℕ
others_heading decimals = codes "\nReversals and other orders that move money\n  Time          Amount" ++ fraction_blanks decimals ++ codes "  Receipt    Lines          Order\n"

-- the rows under the heading, if there are any
abbrev pub headed : Decimals → List ℕ → List ℕ
headed decimals [] = []
headed decimals (letter ∷ rows) = others_heading decimals ++ letter ∷ rows

abbrev pub others_text : Decimals → List Entry → List OrderMessage → List OrderRow → List ℕ
others_text decimals book messages rows = headed decimals (others_from decimals book messages no_counts rows)

-- ---- rows worked by hand

abbrev a_refund : OrderMessage
a_refund = record { high = 0x06; low = 0x31; amount = Some 500; receipt = None }

abbrev a_reversal : OrderMessage
a_reversal = record { high = 0x06; low = 0x30; amount = None; receipt = Some (0 ∷ 0x13 ∷ []) }

abbrev a_registration : OrderMessage
a_registration = record { high = 0x06; low = 0x00; amount = None; receipt = None }

abbrev an_entry : Entry
an_entry = record { amount = 1500; trace = 25; receipt = Some (0 ∷ 0x13 ∷ []); reversed = true; doubt = No }

two_orders :
    others_text Two (an_entry ∷ []) (a_registration ∷ a_refund ∷ a_reversal ∷ [])
    (record { order = Register None; first = 4; last = 10; outcome = Registered; approval = None; time = None; card = None }
    ∷ record { order = Foreign; first = 184; last = 202; outcome = DayClosed; approval = None; time = None; card = None }
    ∷ record { order = Reverse 0; first = 288; last = 302; outcome = Reversed; approval = None; time = Some (moment 2026 11 28 16 41 12 0); card = None }
    ∷ [])
    ≡ codes "\nReversals and other orders that move money\n"
    ++ codes "  Time          Amount     Receipt    Lines          Order\n"
    ++ codes "  -                  5.00  -            184-202      refund, completed\n"
    ++ codes "  16:41:12          15.00  0013         288-302      reversal, reversed\n"
unfolding amount_column amount_or_blank command_name digits encode_with explained fraction_blanks lines_column money_name order_columns order_end order_row others_heading outcome_text receipt_column reversal_name time_column
two_orders = refl

no_order : others_text Two [] [] [] ≡ []
no_order = refl
