-- The report of a trace as text.
use Rattle.std.specs.Prelude.{◌≡◌, ℕ, ◌==◌, cond, List, [], ◌∷◌, ◌++◌, codes, Option, Some, refl}
use Rattle.std.specs.Fmt.{digits}
use Rattle.hex.specs.Hex.{encode_with}
use Rattle.zvt_trace.specs.declared.fault.Tally.{Tally}
use Rattle.zvt_report.specs.Amounts.{amount_column, count_text}
use Rattle.zvt_report.specs.CloseTable.{closings_text}
use Rattle.zvt_report.specs.Currencies.{decimals_of, money_of}
use Rattle.zvt_report.specs.Day.{DayValue, no_orders}
use Rattle.zvt_report.specs.FindingList.{looks_text}
use Rattle.zvt_report.specs.OtherTable.{others_text}
use Rattle.zvt_report.specs.PaymentTable.{payments_text}
use Rattle.zvt_report.specs.Heading.{head_part, head_words}
use Rattle.zvt_report.specs.Times.{back_note, bad_note, clock_notes, from_words, span_words, times_in, to_words}
use Rattle.zvt_report.specs.Zones.{utc, zone_text}
use Rattle.zvt_trace.specs.Marks.{moment}
use Rattle.zvt_trace.specs.Moments.{timed}
use Rattle.zvt_report.specs.declared.times.Times.{Times}
use Rattle.zvt_report.specs.Summary.{booked_line, minus, net_line, summary_text, taken_back_line, unclear_line, unit_text}
use Rattle.zvt_report.specs.declared.cases.Look.{Look}
use Rattle.zvt_report.specs.declared.closings.Closing.{Closing}
use Rattle.zvt_report.specs.declared.currencies.Decimals.{Decimals}
use Rattle.zvt_report.specs.declared.currencies.Money.{Money}
use Rattle.zvt_report.specs.declared.findings.Finding.{Finding}
use Rattle.zvt_report.specs.declared.rows.OrderMessage.{OrderMessage}

-- how many streams were refused or cut off
unfoldable pub bad_text : ℕ → List ℕ
bad_text bad = cond (bad == 0) (codes "nothing refused or cut off.\n") (count_text bad (codes "stream") ++ codes " refused or cut off.\n")

unfoldable pub footer : Tally → List ℕ
footer tally = count_text tally.messages (codes "message") ++ codes ", " ++ bad_text tally.bad

unfoldable pub summary_part : Option Money → DayValue → List ℕ
summary_part money books = summary_text money books ++ 10 ∷ []

unfoldable pub looks_part : Decimals → DayValue → List OrderMessage → List (Option Closing) → List Look → List Finding → List ℕ
looks_part decimals books messages closings looks findings = looks_text decimals books.book closings messages books.orders looks findings ++ 10 ∷ []

unfoldable pub tables_part : Decimals → DayValue → List OrderMessage → List (Option Closing) → List ℕ
tables_part decimals books messages closings =
    payments_text decimals books.book books.orders ++ others_text decimals books.book messages books.orders ++ closings_text decimals closings books.orders ++ 10 ∷ []

-- the sections, with empty lines between them
abbrev pub report_in : Option Money → Tally → (terminal : Option (List ℕ)) → Times → DayValue → List OrderMessage → List (Option Closing) → List Look → List Finding → List ℕ
report_in money tally terminal times books messages closings looks findings =
    head_part times terminal ++ summary_part money books ++ looks_part (decimals_of money) books messages closings looks findings ++ tables_part (decimals_of money) books messages closings ++ footer tally
    ++ clock_notes times

abbrev pub report_text : Tally → (currency : Option ℕ) → (terminal : Option (List ℕ)) → Times → DayValue → List OrderMessage → List (Option Closing) → List Look → List Finding → List ℕ
report_text tally currency terminal times books messages closings looks findings = report_in (money_of currency) tally terminal times books messages closings looks findings

-- ---- rows worked by hand

an_empty_day : report_text (record { messages = 1; bad = 2 }) (Some 756) (Some (0x52 ∷ 0x50 ∷ 0x00 ∷ 0x41 ∷ [])) (times_in utc (timed 2 (moment 2026 11 28 7 1 12 0) ∷ []) (9 ∷ 12 ∷ [])) no_orders [] [] [] []
    ≡ codes "2026-11-28 07:01:12 to 07:01:12 UTC, terminal 52500041\n\n" ++ codes "Net total              0.00 CHF\n" ++ codes "  booked               0.00  0 payments\n" ++ codes "  taken back           0.00  0 reversals\n"
    ++ codes "Unclear                0.00  0 payments, 0 reversals\n\n"
    ++ codes "Look at these: nothing\n\n" ++ codes "Payments: none\n\n" ++ codes "1 message, 2 streams refused or cut off.\n" ++ codes "2 time marks cannot be read: see line 9.\n"
unfolding amount_column back_note bad_note bad_text booked_line clock_notes count_text decimals_of digits encode_with footer from_words head_part head_words looks_part minus net_line payments_text span_words summary_part tables_part taken_back_line to_words unclear_line unit_text zone_text
an_empty_day = refl
