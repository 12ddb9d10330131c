-- The report of a trace as a page.
use Rattle.std.specs.Prelude.{◌≡◌, ℕ, cond, List, [], ◌∷◌, ◌++◌, codes, Option, Some, None, refl}
use Rattle.hex.specs.Hex.{encode_with}
use Rattle.zvt_page.specs.Document.{document, document_end, document_start}
use Rattle.zvt_page.specs.Html.{Html, nothing, element, text, leaf, all, both, attribute_text, end_tag, escaped, render, start_tag}
use Rattle.zvt_page.specs.declared.elements.Attribute.TheVariants.{Class, Href}
use Rattle.zvt_page.specs.declared.elements.Element.TheVariants.{A, Footer, H1, Header, Main, P}
use Rattle.zvt_trace.specs.declared.fault.Tally.{Tally}
use Rattle.zvt_report.specs.Currencies.{decimals_of, money_of}
use Rattle.zvt_report.specs.Day.{DayValue}
use Rattle.zvt_report.specs.PageCards.{cards}
use Rattle.zvt_report.specs.PageClosings.{closings_section}
use Rattle.zvt_report.specs.PageLooks.{looks_section}
use Rattle.zvt_report.specs.PageTables.{others_section, payments_section}
use Rattle.zvt_report.specs.Summary.{unit_text}
use Rattle.zvt_report.specs.Heading.{has_head, head_words}
use Rattle.zvt_report.specs.Times.{clock_notes, no_times}
use Rattle.zvt_report.specs.declared.times.Times.{Times}
use Rattle.zvt_report.specs.TextReport.{footer}
use Rattle.zvt_report.specs.declared.cases.Look.{Look}
use Rattle.zvt_report.specs.declared.closings.Closing.{Closing}
use Rattle.zvt_report.specs.declared.currencies.Money.{Money}
use Rattle.zvt_report.specs.declared.findings.Finding.{Finding}
use Rattle.zvt_report.specs.declared.rows.OrderMessage.{OrderMessage}

-- the name of the file, if there is one
abbrev pub heading : (name : List ℕ) → List ℕ
heading [] = codes "Report of a trace"
heading (letter ∷ name) = letter ∷ name

abbrev pub unit_words : Option Money → List ℕ
unit_words None = codes "Amounts"
unit_words (Some money) = codes "Amounts in"

-- in which currency the amounts are
abbrev pub amounts_in : Option Money → List ℕ
amounts_in money = unit_words money ++ unit_text money

-- the day, its hours and the terminal, if any of them is known
abbrev pub hours_part : Times → (terminal : Option (List ℕ)) → Html
hours_part times terminal = cond (has_head times terminal) (leaf P (codes "meta") (head_words times terminal)) nothing

unfoldable pub page_head : (name : List ℕ) → Option Money → (terminal : Option (List ℕ)) → Times → Html
page_head name money terminal times = element Header [] (all (leaf H1 [] (heading name) ∷ hours_part times terminal ∷ leaf P (codes "meta") (amounts_in money) ∷ []))

-- how much of the trace was read, and what is wrong with its times
unfoldable pub page_foot : Tally → Times → Html
page_foot tally times = element Footer [] (leaf P [] (footer tally ++ clock_notes times))

-- for readers without a mouse
unfoldable pub skip_link : Html
skip_link = element A ((Class, codes "skip") ∷ (Href, codes "#look") ∷ []) (text (codes "Skip to what needs a look"))

unfoldable pub sections : (id shown name : List ℕ) → Option Money → (terminal : Option (List ℕ)) → Times → DayValue → List OrderMessage → List (Option Closing) → List Look → List Finding → Html
sections id shown name money terminal times books messages closings looks findings =
    all (page_head name money terminal times ∷ cards (decimals_of money) books messages ∷ looks_section id shown (decimals_of money) books closings messages looks findings
    ∷ payments_section (decimals_of money) books ∷ others_section (decimals_of money) books messages ∷ closings_section (decimals_of money) closings books.orders ∷ [])

-- the body of the page
unfoldable pub page_of : (shown name : List ℕ) → Option Money → Tally → (terminal : Option (List ℕ)) → Times → DayValue → List OrderMessage → List (Option Closing) → List Look → List Finding → (dialogue : Html) → Html
page_of shown name money tally terminal times books messages closings looks findings dialogue =
    both skip_link (element Main ((Class, codes "page") ∷ []) (both (sections (codes "look") shown name money terminal times books messages closings looks findings) (both dialogue (page_foot tally times))))

-- the same with a dialogue that is spelled already
unfoldable pub page_with : (shown name : List ℕ) → Option Money → Tally → (terminal : Option (List ℕ)) → Times → DayValue → List OrderMessage → List (Option Closing) → List Look → List Finding → (dialogue : List ℕ) → List ℕ
page_with shown name money tally terminal times books messages closings looks findings dialogue =
    render skip_link ++ (start_tag Main ((Class, codes "page") ∷ []) ++ (render (sections (codes "look") shown name money terminal times books messages closings looks findings) ++ (dialogue ++ (render (page_foot tally times) ++ end_tag Main))))

abbrev pub report_page : (shown name : List ℕ) → Tally → (currency : Option ℕ) → (terminal : Option (List ℕ)) → Times → DayValue → List OrderMessage → List (Option Closing) → List Look → List Finding → (dialogue : List ℕ) → List ℕ
report_page shown name tally currency terminal times books messages closings looks findings dialogue =
    document_start (heading name) ++ page_with shown name (money_of currency) tally terminal times books messages closings looks findings dialogue ++ document_end

-- A report is a document if its dialogue is part of one.
abbrev pub ReportsAreDocuments : Type 0
ReportsAreDocuments =
    (shown name : List ℕ) (tally : Tally) (currency : Option ℕ) (terminal : Option (List ℕ)) (times : Times) (books : DayValue) (messages : List OrderMessage) (closings : List (Option Closing)) (looks : List Look) (findings : List Finding) (dialogue : Html)
    → report_page shown name tally currency terminal times books messages closings looks findings (render dialogue)
    ≡ document (heading name) (page_of shown name (money_of currency) tally terminal times books messages closings looks findings dialogue)

-- ---- a row worked by hand

a_head : render (page_head (codes "<b>.trace") (money_of (Some 978)) (Some (0x52 ∷ 0x50 ∷ 0x00 ∷ 0x41 ∷ [])) no_times) ≡ codes "<header><h1>&lt;b&gt;.trace</h1><p class=\"meta\">Terminal 52500041</p><p class=\"meta\">Amounts in EUR</p></header>"
unfolding attribute_text encode_with end_tag escaped head_words page_head start_tag unit_text
a_head = refl
