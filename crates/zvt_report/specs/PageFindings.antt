-- The findings about a trace, on a page.
use Rattle.std.specs.Prelude.{◌≡◌, ℕ, true, List, [], ◌∷◌, ◌++◌, codes, Option, Some, None, refl}
use Rattle.std.specs.Fmt.{decimal, digits}
use Rattle.hex.specs.Hex.{encode_with}
use Rattle.zvt_apdu.specs.Kinds.{kind_at}
use Rattle.zvt_grammar.specs.declared.why.Why.TheVariants.{UnknownField}
use Rattle.zvt_page.specs.Html.{Html, nothing, both, class_of, element, leaf, all, attribute_text, end_tag, escaped, render, start_tag}
use Rattle.zvt_page.specs.declared.elements.Element.TheVariants.{H3, Li, P, Span}
use Rattle.zvt_stream.specs.declared.head.Head.TheVariants.{Two}
use Rattle.zvt_trace.specs.declared.direction.Direction.TheVariants.{FromTerminal}
use Rattle.zvt_report.specs.FindingTexts.{finding_advice, finding_text, finding_title, head_part, message_part}
use Rattle.zvt_report.specs.Findings.{line_of, weight_of}
use Rattle.zvt_report.specs.PageEvents.{line_id, line_link, lines_at}
use Rattle.zvt_report.specs.PageWeights.{weight_class, weight_word}
use Rattle.zvt_report.specs.declared.currencies.Decimals.{Decimals}
use Rattle.zvt_report.specs.declared.currencies.Decimals.TheVariants as decimals_of
use Rattle.zvt_report.specs.declared.findings.Finding.{Finding}
use Rattle.zvt_report.specs.declared.findings.Finding.TheVariants.{Refused}

-- the line of a finding, if it has one
abbrev pub line_part : (shown : List ℕ) → Option ℕ → Html
line_part shown None = nothing
line_part shown (Some line) = lines_at shown line (codes "line " ++ decimal line)

unfoldable pub sentences_part : Decimals → Finding → Html
sentences_part decimals finding = both (leaf P (codes "why") (finding_text decimals finding)) (leaf P (codes "do") (finding_advice finding))

-- its weight, a title, its line, what was found and what to do
unfoldable pub finding_item : (shown : List ℕ) → Decimals → Finding → Html
finding_item shown decimals finding =
    element Li (class_of (weight_class (weight_of finding)))
    (all (leaf Span (codes "sev") (weight_word (weight_of finding)) ∷ leaf H3 [] (finding_title finding) ∷ line_part shown (line_of finding) ∷ sentences_part decimals finding ∷ []))

abbrev pub finding_items : (shown : List ℕ) → Decimals → List Finding → Html
finding_items shown decimals [] = nothing
finding_items shown decimals (finding ∷ findings) = both (finding_item shown decimals finding) (finding_items shown decimals findings)

-- ---- a row worked by hand

a_finding : render (finding_item (4 ∷ []) decimals_of.Two (Refused 4 FromTerminal (Two 0x04 0x0F) 37 UnknownField true))
    ≡ codes "<li class=\"note\"><span class=\"sev\">Note</span><h3>The terminal&#39;s message 040F (status information) cannot be read</h3><a class=\"at\" href=\"#l4\">line 4</a>"
    ++ codes "<p class=\"why\">Its byte 37, counted from 0, is refused: no known field begins with it (UnknownField). The report goes on after the message.</p>"
    ++ codes "<p class=\"do\">Send this report to the maker of the terminal.</p></li>"
unfolding attribute_text digits encode_with end_tag escaped finding_item head_part kind_at line_id line_link lines_at message_part sentences_part start_tag
a_finding = refl
