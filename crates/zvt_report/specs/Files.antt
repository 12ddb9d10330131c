-- One page about several files: an index, and the report on each.
use Rattle.std.specs.Prelude.{◌≡◌, ℕ, ◌+◌, List, [], ◌∷◌, ◌++◌, codes, filter_map, length, Option, Some, None, Result, Ok, Err, refl}
use Rattle.std.specs.Fmt.{decimal, digits}
use Rattle.std.specs.Io.KnownBytes.{Appends, Keeps}
use Rattle.zvt_trace.specs.Written.{AppendsPrefix}
use Rattle.zvt_trace.specs.declared.fault.TraceFault.{TraceFault}
use Rattle.zvt_trace.specs.declared.fault.TraceFault.TheVariants.{Memory, Read, TooLong, Trace, Write}
use Rattle.zvt_page.specs.Document.{document, document_end, document_start}
use Rattle.zvt_page.specs.Html.{Html, nothing, both, all, element, text, leaf, attribute_text, end_tag, escaped, render, start_tag}
use Rattle.zvt_page.specs.declared.elements.Attribute.TheVariants.{Class, Href, Id}
use Rattle.zvt_page.specs.declared.elements.Element.TheVariants.{A, H1, Header, Main, Section, Table, Tbody, Td, Thead, Tr}
use Rattle.zvt_grammar.specs.Reading.{Reading}
use Rattle.zvt_trace.specs.declared.listener.Scope.{Scope}
use Rattle.zvt_report.specs.Amounts.{amount_text}
use Rattle.zvt_report.specs.Currencies.{decimals_of, money_of}
use Rattle.zvt_report.specs.Day.{DayValue}
use Rattle.zvt_report.specs.NetSum.{net_of, sum_of}
use Rattle.zvt_report.specs.Page.{page_foot, sections}
use Rattle.zvt_report.specs.PageParts.{column}
use Rattle.zvt_report.specs.Reports.{AnswersReport}
use Rattle.zvt_report.specs.Summary.{unit_text}
use Rattle.zvt_report.specs.Sums.{unclear_reversals}
use Rattle.zvt_report.specs.Written.{acts_of, looks_of, summed_up}
use Rattle.zvt_report.specs.declared.cases.Look.{Look}
use Rattle.zvt_report.specs.declared.files.FilesPage.{FilesPage}
use Rattle.zvt_report.specs.declared.net_sum.Net.{Net}
use Rattle.zvt_report.specs.declared.report.Report.{Report}
use Rattle.zvt_report.specs.declared.written.ReportSummary.{ReportSummary}
use Rattle.zvt_report.specs.declared.zones.Zone.{Zone}

-- a file, and the report on its trace if that was read
pub data FileReport : Type 0 where
  read : (name : List ℕ) → (report : Report) → FileReport
  unread : (name : List ℕ) → FileReport

-- ---- the index

-- where the links to a file lead, and where the looks of its report begin
unfoldable pub file_id : (place : ℕ) → List ℕ
file_id place = 102 ∷ decimal place

unfoldable pub looks_id : (place : ℕ) → List ℕ
looks_id place = file_id place ++ codes "-look"

unfoldable pub name_cell : (place : ℕ) → (name : List ℕ) → Html
name_cell place name = element Td [] (element A ((Href, 35 ∷ file_id place) ∷ []) (text name))

unfoldable pub net_cell : Net → Html
net_cell net = leaf Td (codes "n") (amount_text (decimals_of (money_of net.currency)) net.units ++ unit_text (money_of net.currency))

unfoldable pub count_cell : ℕ → Html
count_cell count = leaf Td (codes "n") (decimal count)

-- the payments and reversals of a report that are unclear
abbrev pub unclear_in : DayValue → ℕ
unclear_in books = length books.unclear + unclear_reversals books.book

unfoldable pub read_row : (place : ℕ) → (name : List ℕ) → Net → DayValue → (acts : ℕ) → Html
read_row place name net books acts =
    element Tr [] (all (name_cell place name ∷ net_cell net ∷ count_cell (unclear_in books) ∷ count_cell acts ∷ []))

-- the file has no report
unfoldable pub unread_row : (name : List ℕ) → Html
unread_row name = element Tr [] (all (leaf Td [] name ∷ leaf Td (codes "n") (codes "not read") ∷ leaf Td (codes "n") [] ∷ leaf Td (codes "n") [] ∷ []))

abbrev pub report_net : Report → Net
report_net report = net_of report.currency report.books.book

abbrev pub index_row : (place : ℕ) → FileReport → Html
index_row place (read name report) = read_row place name (report_net report) report.books (acts_of report)
index_row place (unread name) = unread_row name

-- the first file has the place after this one
abbrev pub index_rows : (place : ℕ) → List FileReport → Html
index_rows place [] = nothing
index_rows place (file ∷ files) = both (index_row (place + 1) file) (index_rows (place + 1) files)

-- the net totals of the files that have a report
abbrev pub net_in : FileReport → Option Net
net_in (read name report) = Some (report_net report)
net_in (unread name) = None

abbrev pub nets_of : List FileReport → List Net
nets_of files = filter_map net_in files

-- the last row of the index: the sum of the net totals, if they have one
unfoldable pub sum_cells : Net → Html
sum_cells sum = element Tr [] (all (leaf Td [] (codes "Sum") ∷ net_cell sum ∷ leaf Td (codes "n") [] ∷ leaf Td (codes "n") [] ∷ []))

abbrev pub row_if : Option Net → Html
row_if None = nothing
row_if (Some sum) = sum_cells sum

abbrev pub sum_row : List Net → Html
sum_row nets = row_if (sum_of nets)

unfoldable pub index_columns : Html
index_columns = all (column [] (codes "File") ∷ column (codes "n") (codes "Net total") ∷ column (codes "n") (codes "Unclear") ∷ column (codes "n") (codes "To act on") ∷ [])

unfoldable pub index : List FileReport → Html
index files =
    both (element Header [] (leaf H1 [] (codes "Reports")))
    (element Table ((Class, codes "t") ∷ []) (both (element Thead [] (element Tr [] index_columns)) (element Tbody [] (both (index_rows 0 files) (sum_row (nets_of files))))))

-- ---- the reports

-- a report has no dialogue here
unfoldable pub read_section : (place : ℕ) → (name : List ℕ) → Report → List Look → Html
read_section place name report looks =
    element Section ((Id, file_id place) ∷ [])
    (both (sections (looks_id place) [] name (money_of report.currency) report.terminal report.times report.books report.messages.items report.closings.items looks report.findings.items) (page_foot report.tally report.times))

abbrev pub file_section : (place : ℕ) → FileReport → Html
file_section place (read name report) = read_section place name report (looks_of report)
file_section place (unread name) = nothing

abbrev pub file_sections : (place : ℕ) → List FileReport → Html
file_sections place [] = nothing
file_sections place (file ∷ files) = both (file_section (place + 1) file) (file_sections (place + 1) files)

-- ---- the page

abbrev pub files_body : List FileReport → Html
files_body files = element Main ((Class, codes "page") ∷ []) (both (index files) (file_sections 0 files))

abbrev pub files_page : List FileReport → List ℕ
files_page files = document (codes "Reports") (files_body files)

-- the page so far has these files
pub record HasFiles (files : List FileReport) (page : FilesPage) : Type 0 where
  pub index : page.index ≡ render (index_rows 0 files)
  pub reports : page.reports ≡ render (file_sections 0 files)
  pub nets : page.nets.items ≡ nets_of files

-- a file was added with this place
abbrev pub AddsFile : FilesPage → (place : ℕ) → FileReport → FilesPage → Type 0
AddsFile old place file new = (files : List FileReport) → HasFiles files old → place ≡ length files + 1 → HasFiles (files ++ file ∷ []) new

-- What it answers to add a file with this trace. If a line can't be read, the page stays as it was.
abbrev pub AnswersAdded : Reading → Scope → Zone → (place : ℕ) → (name trace : List ℕ) → (old new : FilesPage) → Result ReportSummary TraceFault → Type 0
AnswersAdded r scope zone place name trace old new (Ok summary) =
    (report : Report) × AnswersReport zone r scope trace (Ok report) × (summary ≡ summed_up report) × AddsFile old place (read name report) new
AnswersAdded r scope zone place name trace old new (Err (Trace number what)) = AnswersReport zone r scope trace (Err (Trace number what)) × (new ≡ old)
AnswersAdded r scope zone place name trace old new (Err Memory) = Unit {0}
AnswersAdded r scope zone place name trace old new (Err Write) = ⊥
AnswersAdded r scope zone place name trace old new (Err TooLong) = ⊥
AnswersAdded r scope zone place name trace old new (Err Read) = ⊥

-- the page with rows and reports that are spelled already
unfoldable pub index_with : (rows : List ℕ) → List Net → List ℕ
index_with rows nets =
    render (element Header [] (leaf H1 [] (codes "Reports")))
    ++ (start_tag Table ((Class, codes "t") ∷ []) ++ (render (element Thead [] (element Tr [] index_columns)) ++ (start_tag Tbody [] ++ (rows ++ render (sum_row nets)) ++ end_tag Tbody) ++ end_tag Table))

unfoldable pub page_with : (rows : List ℕ) → List Net → (reports : List ℕ) → List ℕ
page_with rows nets reports =
    document_start (codes "Reports") ++ (start_tag Main ((Class, codes "page") ∷ []) ++ (index_with rows nets ++ (reports ++ end_tag Main))) ++ document_end

-- what the writing of the page answers
abbrev pub AnswersFiles : List FileReport → (old new : Option (List ℕ)) → Result Unit TraceFault → Type 0
AnswersFiles files old new (Ok done) = Appends old new (files_page files)
AnswersFiles files old new (Err Memory) = Keeps old new
AnswersFiles files old new (Err Write) = AppendsPrefix old new (files_page files)
AnswersFiles files old new (Err (Trace number what)) = ⊥
AnswersFiles files old new (Err TooLong) = ⊥
AnswersFiles files old new (Err Read) = ⊥

-- ---- rows worked by hand

a_missing_file : render (index_rows 0 (unread (codes "<b>") ∷ [])) ≡ codes "<tr><td>&lt;b&gt;</td><td class=\"n\">not read</td><td class=\"n\"></td><td class=\"n\"></td></tr>"
unfolding attribute_text end_tag escaped start_tag unread_row
a_missing_file = refl

a_name : render (name_cell 2 (codes "till2.trace")) ≡ codes "<td><a href=\"#f2\">till2.trace</a></td>"
unfolding attribute_text digits end_tag escaped file_id name_cell start_tag
a_name = refl

a_sum : render (sum_row (record { currency = Some 978; units = 3534 } ∷ record { currency = Some 978; units = 0 } ∷ []))
    ≡ codes "<tr><td>Sum</td><td class=\"n\">35.34 EUR</td><td class=\"n\"></td><td class=\"n\"></td></tr>"
unfolding amount_text attribute_text decimals_of digits end_tag escaped net_cell start_tag sum_cells unit_text
a_sum = refl
