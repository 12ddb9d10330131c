-- The orders that a person should look at, on a page.
use Rattle.std.specs.Prelude.{◌≡◌, ℕ, Bool, true, false, cond, List, [], ◌∷◌, ◌++◌, codes, Option, Some, None, refl}
use Rattle.std.specs.Fmt.{digits}
use Rattle.zvt_page.specs.Html.{Html, nothing, both, class_of, element, text, leaf, all, attribute_text, end_tag, escaped, render, start_tag}
use Rattle.zvt_page.specs.declared.elements.Attribute.TheVariants.{Class, Id}
use Rattle.zvt_page.specs.declared.elements.Element.TheVariants.{H2, H3, Li, Ol, P, Span}
use Rattle.zvt_till.specs.declared.entries.Entry.{Entry}
use Rattle.zvt_till.specs.declared.happenings.Sent.TheVariants.{CloseDay}
use Rattle.zvt_till.specs.declared.outcomes.Cause.TheVariants.{Line}
use Rattle.zvt_till.specs.declared.outcomes.Outcome.TheVariants.{Unclear}
use Rattle.zvt_report.specs.Advices.{advice}
use Rattle.zvt_report.specs.Day.{DayValue}
use Rattle.zvt_report.specs.Facts.{facts_of}
use Rattle.zvt_report.specs.LookList.{is_listed}
use Rattle.zvt_report.specs.Looks.{weight_of}
use Rattle.zvt_report.specs.PageEvents.{line_id, line_link, lines_at}
use Rattle.zvt_report.specs.PageParts.{from_to}
use Rattle.zvt_report.specs.FindingList.{is_nothing}
use Rattle.zvt_report.specs.PageFindings.{finding_items}
use Rattle.zvt_report.specs.PageWeights.{weight_class, weight_word}
use Rattle.zvt_report.specs.Phrases.{reason}
use Rattle.zvt_report.specs.Times.{time_first}
use Rattle.zvt_trace.specs.Marks.{moment}
use Rattle.zvt_report.specs.Sentences.{about, account, title}
use Rattle.zvt_report.specs.declared.cases.Case.{Case}
use Rattle.zvt_report.specs.declared.cases.Case.TheVariants.{CloseUnclear}
use Rattle.zvt_report.specs.declared.cases.Look.{Look}
use Rattle.zvt_report.specs.declared.closings.Closing.{Closing}
use Rattle.zvt_report.specs.declared.currencies.Decimals.{Decimals}
use Rattle.zvt_report.specs.declared.currencies.Decimals.TheVariants.{Two}
use Rattle.zvt_report.specs.declared.facts.Facts.{Facts}
use Rattle.zvt_report.specs.declared.findings.Finding.{Finding}
use Rattle.zvt_report.specs.declared.rows.OrderMessage.{OrderMessage}
use Rattle.zvt_report.specs.declared.rows.OrderRow.{OrderRow}

unfoldable pub title_part : Decimals → Facts → Case → Html
title_part decimals facts case = leaf H3 [] (title decimals facts case)

abbrev pub lines_text : OrderRow → List ℕ
lines_text row = time_first row.time ++ codes "lines " ++ from_to row.first row.last

-- the time and the lines of an order
unfoldable pub lines_part : (shown : List ℕ) → OrderRow → Html
lines_part shown row = lines_at shown row.first (lines_text row)

unfoldable pub account_part : Decimals → Facts → Case → Html
account_part decimals facts case = leaf P (codes "why") (account decimals facts case)

unfoldable pub advice_part : Decimals → Facts → Case → Html
advice_part decimals facts case = leaf P (codes "do") (advice decimals facts case)

-- one order: its weight, a title, its lines, what happened and what to do
unfoldable pub item : (shown : List ℕ) → Decimals → Facts → Case → Html
item shown decimals facts case =
    element Li (class_of (weight_class (weight_of case)))
    (all (leaf Span (codes "sev") (weight_word (weight_of case)) ∷ title_part decimals facts case ∷ lines_part shown facts.row
    ∷ account_part decimals facts case ∷ advice_part decimals facts case ∷ []))

unfoldable pub item_of : (shown : List ℕ) → Decimals → List Entry → List (Option Closing) → List OrderMessage → List OrderRow → Look → Html
item_of shown decimals book closings messages rows look = elim (facts_of book closings messages rows look) [ None ↦ nothing | Some facts ↦ item shown decimals facts look.case ]

-- an order is listed in the round of the urgent ones, or in the other one
abbrev pub listed_item : (shown : List ℕ) → Decimals → List Entry → List (Option Closing) → List OrderMessage → List OrderRow → (urgent : Bool) → Look → Html
listed_item shown decimals book closings messages rows urgent look = cond (is_listed urgent look.case) (item_of shown decimals book closings messages rows look) nothing

abbrev pub items : (shown : List ℕ) → Decimals → List Entry → List (Option Closing) → List OrderMessage → List OrderRow → (urgent : Bool) → List Look → Html
items shown decimals book closings messages rows urgent [] = nothing
items shown decimals book closings messages rows urgent (look ∷ looks) = both (listed_item shown decimals book closings messages rows urgent look) (items shown decimals book closings messages rows urgent looks)

-- the findings after the orders
unfoldable pub listed_items : (shown : List ℕ) → Decimals → List Entry → List (Option Closing) → List OrderMessage → List OrderRow → List Look → List Finding → Html
listed_items shown decimals book closings messages rows looks findings =
    element Ol ((Class, codes "look") ∷ [])
    (both (items shown decimals book closings messages rows true looks) (both (items shown decimals book closings messages rows false looks) (finding_items shown decimals findings)))

abbrev pub items_or_none : (shown : List ℕ) → Decimals → List Entry → List (Option Closing) → List OrderMessage → List OrderRow → List Look → List Finding → Html
items_or_none shown decimals book closings messages rows looks findings =
    cond (is_nothing looks findings) (leaf P (codes "none") (codes "Nothing in this trace needs a look.")) (listed_items shown decimals book closings messages rows looks findings)

unfoldable pub look_heading : (id : List ℕ) → Html
look_heading id = element H2 ((Id, id) ∷ []) (text (codes "Look at these"))

-- the urgent ones first; the dialogue has an item of each line that is shown
unfoldable pub looks_section : (id shown : List ℕ) → Decimals → DayValue → List (Option Closing) → List OrderMessage → List Look → List Finding → Html
looks_section id shown decimals books closings messages looks findings = both (look_heading id) (items_or_none shown decimals books.book closings messages books.orders looks findings)

-- ---- rows worked by hand

abbrev an_end : OrderRow
an_end = record { order = CloseDay; first = 10; last = 16; outcome = Unclear Line; approval = None; time = Some (moment 2026 11 28 18 30 1 0); card = None }

an_item : render (item [] Two (about an_end None) CloseUnclear)
    ≡ codes "<li class=\"check\"><span class=\"sev\">Check</span><h3>End of day unclear</h3><span class=\"at\">18:30:01, lines 10-16</span>"
    ++ codes "<p class=\"why\">The end of day is unclear: the connection was lost.</p>"
    ++ codes "<p class=\"do\">If the terminal printed no end-of-day receipt, start the end of day again.</p></li>"
unfolding account_part advice_part attribute_text digits end_tag escaped item lines_at lines_part reason start_tag time_first title_part
an_item = refl

-- the first line of the order has an item
a_link : render (lines_part (8 ∷ 10 ∷ []) an_end) ≡ codes "<a class=\"at\" href=\"#l10\">18:30:01, lines 10-16</a>"
unfolding attribute_text digits end_tag escaped line_id line_link lines_at lines_part start_tag time_first
a_link = refl
