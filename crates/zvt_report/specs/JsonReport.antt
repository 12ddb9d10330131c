-- The report of a trace as JSON objects, one per line.
use Rattle.std.specs.Prelude.{◌≡◌, ℕ, false, List, [], ◌∷◌, ◌++◌, codes, Option, Some, None, refl}
use Rattle.std.specs.Fmt.{digits}
use Rattle.hex.specs.Hex.{encode_with}
use Rattle.json.specs.Print.{escape_byte}
use Rattle.zvt_text.specs.Meanings.{command_name}
use Rattle.zvt_till.specs.declared.entries.Doubt.TheVariants as doubt
use Rattle.zvt_till.specs.declared.entries.Entry.{Entry}
use Rattle.zvt_till.specs.declared.happenings.Sent.{Sent}
use Rattle.zvt_till.specs.declared.happenings.Sent.TheVariants as sent
use Rattle.zvt_till.specs.declared.outcomes.Cause.TheVariants as cause
use Rattle.zvt_till.specs.declared.outcomes.Outcome.{Outcome}
use Rattle.zvt_till.specs.declared.outcomes.Outcome.TheVariants as outcome
use Rattle.zvt_trace.specs.declared.fault.Tally.{Tally}
use Rattle.zvt_report.specs.Amounts.{amount_text}
use Rattle.zvt_report.specs.Apart.{apart_part, card_part}
use Rattle.zvt_report.specs.Currencies.{decimals_of, money_of}
use Rattle.zvt_report.specs.Day.{DayValue}
use Rattle.zvt_report.specs.FindingObjects.{findings_json}
use Rattle.zvt_report.specs.LookObjects.{looks_json}
use Rattle.zvt_report.specs.Looks.{looks}
use Rattle.zvt_report.specs.Members.{object_text}
use Rattle.zvt_report.specs.Objects.{rows_json, summary_line}
use Rattle.zvt_report.specs.Phrases.{again_part, amount_or_dash, counted_as_paid, likeness, paid_again_by, reason}
use Rattle.zvt_report.specs.Places.{no_counts}
use Rattle.zvt_report.specs.declared.cases.Look.{Look}
use Rattle.zvt_report.specs.declared.closings.Closing.{Closing}
use Rattle.zvt_report.specs.declared.findings.Finding.{Finding}
use Rattle.zvt_report.specs.declared.rows.OrderMessage.{OrderMessage}
use Rattle.zvt_report.specs.declared.rows.OrderRow.{OrderRow}
use Rattle.zvt_report.specs.Times.{no_times}
use Rattle.zvt_report.specs.declared.times.Times.{Times}

-- the summary, then the looks, then the findings, then the orders, then the slips, which are written already
abbrev pub report_json : Tally → (currency : Option ℕ) → (terminal : Option (List ℕ)) → Times → DayValue → List OrderMessage → List (Option Closing) → List Look → List Finding → (slips : List ℕ) → List ℕ
report_json tally currency terminal times books messages closings looks findings slips =
    summary_line tally currency terminal times books messages looks findings ++ looks_json (decimals_of (money_of currency)) books.book closings messages books.orders looks ++ findings_json (decimals_of (money_of currency)) findings ++ rows_json books messages closings no_counts books.orders ++ slips

-- ---- rows worked by hand

abbrev a_row : Sent → ℕ → ℕ → Outcome → OrderRow
a_row order first last outcome = record { order = order; first = first; last = last; outcome = outcome; approval = None; time = None; card = None }

abbrev a_message : ℕ → Option ℕ → OrderMessage
a_message low amount = record { high = 0x06; low = low; amount = amount; receipt = None }

-- the summary comes first, then the look, then the orders
a_report : let orders = a_row (sent.Register None) 2 4 outcome.Registered ∷ a_row (sent.Pay 3499) 6 8 (outcome.Unclear cause.Line) ∷ a_row (sent.Pay 3499) 10 12 (outcome.Paid 21 None) ∷ [] in
    let book : List Entry = record { amount = 3499; trace = 21; receipt = None; reversed = false; doubt = doubt.No } ∷ [] in
    report_json (record { messages = 24; bad = 0 }) (Some 978) None no_times (record { book = book; unclear = (3499, cause.Line) ∷ []; orders = orders }) (a_message 0x00 None ∷ a_message 0x01 (Some 3499) ∷ a_message 0x01 (Some 3499) ∷ []) [] (looks book [] [] [] orders) [] (codes "SLIPS\n")
    ≡ codes "{\"summary\":{\"bad\":0,\"booked\":1,\"currency\":\"0978\",\"looks\":1,\"messages\":24,\"net\":3499,\"others\":0,\"reversals_unclear\":0,\"reversed\":0,\"total\":3499,\"unclear\":1,\"unclear_amount\":3499}}\n{\"look\":{\"advice\":\"Look in the terminal's journal for two payments of 34.99. The customer may have paid twice.\",\"again\":3,\"case\":\"PaymentUnclear\",\"cause\":\"Line\",\"lines\":[6,8],\"order\":2,\"payment\":1,\"text\":\"The payment of 34.99 is unclear: the connection was lost. The till heard no approval, but the terminal may have given one. Then 34.99 was paid again (line 10, trace 000021).\",\"title\":\"Payment of 34.99 unclear\",\"weight\":\"check\"}}\n{\"order\":{\"control\":\"0600\",\"lines\":[2,4],\"name\":\"registration\",\"order\":1,\"outcome\":\"completed\"}}\n{\"payment\":{\"amount\":3499,\"cause\":\"Line\",\"lines\":[6,8],\"order\":2,\"outcome\":\"unclear\",\"payment\":1}}\n{\"payment\":{\"amount\":3499,\"lines\":[10,12],\"order\":3,\"outcome\":\"paid\",\"payment\":2,\"trace\":21}}\nSLIPS\n"
unfolding again_part amount_or_dash amount_text apart_part card_part command_name counted_as_paid decimals_of digits encode_with escape_byte likeness object_text paid_again_by reason
a_report = refl
