-- The findings about a trace, as text.
use Rattle.std.specs.Prelude.{◌≡◌, ℕ, ◌+◌, Bool, true, false, cond, List, [], ◌∷◌, ◌++◌, codes, length, Option, Some, None, refl}
use Rattle.std.specs.Fmt.{decimal, digits}
use Rattle.hex.specs.Hex.{encode_with}
use Rattle.zvt_apdu.specs.Kinds.{kind_at}
use Rattle.zvt_grammar.specs.declared.why.Why.TheVariants.{UnknownField}
use Rattle.zvt_stream.specs.declared.head.Head.TheVariants.{Two}
use Rattle.zvt_trace.specs.declared.direction.Direction.TheVariants.{FromTerminal}
use Rattle.zvt_report.specs.Amounts.{count_text}
use Rattle.zvt_report.specs.Columns.{right_aligned}
use Rattle.zvt_report.specs.FindingTexts.{finding_advice, finding_text, finding_title, head_part, message_part}
use Rattle.zvt_report.specs.Findings.{line_of, weight_of}
use Rattle.zvt_report.specs.LookList.{account_lines, advice_lines, listed_looks, weight_text}
use Rattle.zvt_report.specs.Wrapping.{wrapped}
use Rattle.zvt_till.specs.declared.entries.Entry.{Entry}
use Rattle.zvt_report.specs.declared.cases.Look.{Look}
use Rattle.zvt_report.specs.declared.closings.Closing.{Closing}
use Rattle.zvt_report.specs.declared.currencies.Decimals.{Decimals}
use Rattle.zvt_report.specs.declared.currencies.Decimals.TheVariants as decimals_of
use Rattle.zvt_report.specs.declared.rows.OrderMessage.{OrderMessage}
use Rattle.zvt_report.specs.declared.rows.OrderRow.{OrderRow}
use Rattle.zvt_report.specs.declared.findings.Finding.{Finding}
use Rattle.zvt_report.specs.declared.findings.Finding.TheVariants.{Refused, MoreRefused}

-- the line of a finding, if it has one
abbrev pub line_part : Option ℕ → List ℕ
line_part None = 10 ∷ []
line_part (Some line) = codes " (line " ++ decimal line ++ codes ")\n"

-- an empty line, and the line with the title
unfoldable pub finding_head : (number : ℕ) → Finding → List ℕ
finding_head number finding = 10 ∷ right_aligned 2 (decimal number) ++ codes ". " ++ weight_text (weight_of finding) ++ finding_title finding ++ line_part (line_of finding)

unfoldable pub finding_lines : Decimals → (number : ℕ) → Finding → List ℕ
finding_lines decimals number finding = finding_head number finding ++ account_lines (finding_text decimals finding) ++ advice_lines (finding_advice finding)

-- their numbers follow the number of those listed before
abbrev pub findings_text : Decimals → (listed : ℕ) → List Finding → List ℕ
findings_text decimals listed [] = []
findings_text decimals listed (finding ∷ findings) = finding_lines decimals (listed + 1) finding ++ findings_text decimals (listed + 1) findings

-- neither an order nor a finding
abbrev pub is_nothing : List Look → List Finding → Bool
is_nothing [] [] = true
is_nothing [] (finding ∷ findings) = false
is_nothing (look ∷ looks) findings = false

-- the findings after the orders
abbrev pub looks_text : Decimals → List Entry → List (Option Closing) → List OrderMessage → List OrderRow → List Look → List Finding → List ℕ
looks_text decimals book closings messages rows looks findings =
    cond (is_nothing looks findings) (codes "Look at these: nothing\n") (listed_looks decimals book closings messages rows looks ++ findings_text decimals (length looks) findings)

-- ---- a row worked by hand

two_findings : findings_text decimals_of.Two 8 (Refused 4 FromTerminal (Two 0x04 0x0F) 37 UnknownField true ∷ MoreRefused 3 ∷ [])
    ≡ codes "\n 9. NOTE   The terminal's message 040F (status information) cannot be read (line 4)\n"
    ++ codes "    Its byte 37, counted from 0, is refused: no known field begins with it\n"
    ++ codes "    (UnknownField). The report goes on after the message.\n"
    ++ codes "    -> Send this report to the maker of the terminal.\n"
    ++ codes "\n10. NOTE   3 more messages refused or cut off\n"
    ++ codes "    This list has only the first messages that were refused or cut off.\n"
    ++ codes "    -> 'zvt show' names the others.\n"
unfolding account_lines advice_lines count_text digits encode_with finding_head finding_lines head_part kind_at message_part weight_text wrapped
two_findings = refl
