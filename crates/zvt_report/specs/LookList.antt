-- The orders that a person should look at, as text.
use Rattle.std.specs.Prelude.{◌≡◌, ℕ, ◌+◌, Bool, true, false, not, cond, List, [], ◌∷◌, ◌++◌, codes, count_by, Option, Some, None, refl}
use Rattle.std.specs.Fmt.{decimal, digits}
use Rattle.hex.specs.Hex.{encode_with}
use Rattle.zvt_till.specs.declared.entries.Entry.{Entry}
use Rattle.zvt_till.specs.declared.happenings.Sent.TheVariants.{Pay, CloseDay}
use Rattle.zvt_till.specs.declared.outcomes.Cause.TheVariants.{Line}
use Rattle.zvt_till.specs.declared.outcomes.Outcome.TheVariants.{Unclear}
use Rattle.zvt_report.specs.Advices.{advice}
use Rattle.zvt_report.specs.Amounts.{amount_text}
use Rattle.zvt_report.specs.Columns.{right_aligned}
use Rattle.zvt_report.specs.Facts.{facts_of}
use Rattle.zvt_report.specs.Looks.{weight_of}
use Rattle.zvt_report.specs.Phrases.{again_part, counted_as_paid, amount_or_dash, approval_part, approved_receipt, reason, twice_part}
use Rattle.zvt_report.specs.Sentences.{account, title}
use Rattle.zvt_report.specs.Words.{is_act}
use Rattle.zvt_report.specs.Wrapping.{wrapped}
use Rattle.zvt_report.specs.declared.cases.Case.{Case}
use Rattle.zvt_report.specs.declared.cases.Case.TheVariants.{ApprovedNotCompleted, CloseUnclear}
use Rattle.zvt_report.specs.declared.cases.Look.{Look}
use Rattle.zvt_report.specs.Times.{time_first}
use Rattle.zvt_trace.specs.Marks.{moment}
use Rattle.zvt_report.specs.declared.cases.Weight.{Weight}
use Rattle.zvt_report.specs.declared.cases.Weight.TheVariants.{Act, Check, Note}
use Rattle.zvt_report.specs.declared.closings.Closing.{Closing}
use Rattle.zvt_report.specs.declared.currencies.Decimals.{Decimals}
use Rattle.zvt_report.specs.declared.currencies.Decimals.TheVariants.{Two}
use Rattle.zvt_report.specs.declared.facts.Facts.{Facts}
use Rattle.zvt_report.specs.declared.rows.OrderMessage.{OrderMessage}
use Rattle.zvt_report.specs.declared.rows.OrderRow.{OrderRow}

-- ---- one order

unfoldable pub weight_text : Weight → List ℕ
weight_text Act = codes "ACT    "
weight_text Check = codes "CHECK  "
weight_text Note = codes "NOTE   "

-- the time and the lines of an order
unfoldable pub lines_part : OrderRow → List ℕ
lines_part row = codes " (" ++ time_first row.time ++ codes "lines " ++ decimal row.first ++ 45 ∷ decimal row.last ++ codes ")\n"

-- an empty line, and the line with the title
unfoldable pub look_head : Decimals → (number : ℕ) → Facts → Case → List ℕ
look_head decimals number facts case = 10 ∷ right_aligned 2 (decimal number) ++ codes ". " ++ weight_text (weight_of case) ++ title decimals facts case ++ lines_part facts.row

unfoldable pub account_lines : List ℕ → List ℕ
account_lines sentence = codes "    " ++ wrapped 4 sentence ++ 10 ∷ []

unfoldable pub advice_lines : List ℕ → List ℕ
advice_lines sentence = codes "    -> " ++ wrapped 7 sentence ++ 10 ∷ []

unfoldable pub look_text : Decimals → (number : ℕ) → Facts → Case → List ℕ
look_text decimals number facts case = look_head decimals number facts case ++ account_lines (account decimals facts case) ++ advice_lines (advice decimals facts case)

unfoldable pub look_of : Decimals → List Entry → List (Option Closing) → List OrderMessage → List OrderRow → (number : ℕ) → Look → List ℕ
look_of decimals book closings messages rows number look =
    elim (facts_of book closings messages rows look) [ None ↦ [] | Some facts ↦ look_text decimals number facts look.case ]

-- ---- all of them

abbrev pub is_urgent : Case → Bool
is_urgent case = is_act (weight_of case)

-- in this round the urgent ones are listed, or the others
abbrev pub is_listed : (urgent : Bool) → Case → Bool
is_listed urgent case = cond urgent (is_urgent case) (not (is_urgent case))

abbrev pub step_text : Decimals → List Entry → List (Option Closing) → List OrderMessage → List OrderRow → (urgent : Bool) → (listed : ℕ) → Look → List ℕ
step_text decimals book closings messages rows urgent listed look = cond (is_listed urgent look.case) (look_of decimals book closings messages rows (listed + 1) look) []

abbrev pub listed_after : (urgent : Bool) → (listed : ℕ) → Look → ℕ
listed_after urgent listed look = cond (is_listed urgent look.case) (listed + 1) listed

-- the looks of one round; their numbers follow the number of looks listed before
abbrev pub looks_from : Decimals → List Entry → List (Option Closing) → List OrderMessage → List OrderRow → (urgent : Bool) → (listed : ℕ) → List Look → List ℕ
looks_from decimals book closings messages rows urgent listed [] = []
looks_from decimals book closings messages rows urgent listed (look ∷ looks) =
    step_text decimals book closings messages rows urgent listed look ++ looks_from decimals book closings messages rows urgent (listed_after urgent listed look) looks

abbrev pub urgent_count : List Look → ℕ
urgent_count looks = count_by (λ (look : Look). is_urgent look.case) looks

-- the urgent ones first, with numbers from 1
unfoldable pub listed_looks : Decimals → List Entry → List (Option Closing) → List OrderMessage → List OrderRow → List Look → List ℕ
listed_looks decimals book closings messages rows looks =
    codes "Look at these\n" ++ looks_from decimals book closings messages rows true 0 looks ++ looks_from decimals book closings messages rows false (urgent_count looks) looks

-- ---- rows worked by hand

abbrev a_payment : (amount first : ℕ) → OrderRow
a_payment amount first =
    record { order = Pay amount; first = first; last = first + 8; outcome = Unclear Line; approval = Some (record { line = first + 6; amount = amount; trace = Some 20; receipt = Some (0 ∷ 8 ∷ []) }); time = None; card = None }

abbrev an_end : OrderRow
an_end = record { order = CloseDay; first = 10; last = 16; outcome = Unclear Line; approval = None; time = Some (moment 2026 11 28 18 30 1 0); card = None }

abbrev a_look : Case → (order : ℕ) → Look
a_look case order = record { case = case; order = order; again = None; confirmed_by = None; undone_by = None }

-- the end of day is the first order, and not urgent
urgent_first :
    listed_looks Two [] [] [] (an_end ∷ a_payment 3499 128 ∷ []) (a_look CloseUnclear 0 ∷ a_look ApprovedNotCompleted 1 ∷ [])
    ≡ codes "Look at these\n\n"
    ++ codes " 1. ACT    34.99 may have been charged (lines 128-136)\n"
    ++ codes "    The terminal approved 34.99 (line 134, trace 000020, receipt 0008), but\n"
    ++ codes "    the payment is unclear: the connection was lost.\n"
    ++ codes "    -> The customer has probably been charged. Look for receipt 0008 in the\n"
    ++ codes "       terminal's journal before you charge again.\n\n"
    ++ codes " 2. CHECK  End of day unclear (18:30:01, lines 10-16)\n"
    ++ codes "    The end of day is unclear: the connection was lost.\n"
    ++ codes "    -> If the terminal printed no end-of-day receipt, start the end of day\n"
    ++ codes "       again.\n"
unfolding account_lines advice_lines again_part counted_as_paid amount_or_dash amount_text approval_part approved_receipt digits encode_with lines_part listed_looks look_head look_of look_text reason time_first twice_part weight_text wrapped
urgent_first = refl
