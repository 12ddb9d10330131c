-- The commands on traces.
use Rattle.std.specs.Prelude.{◌≡◌, ◌∷◌, [], ◌||◌, Bool, cond, not, true, false, List, Option, Some, None, codes, map, unwrap_or}
use Rattle.std.specs.Option.{option_and_then}
use Rattle.std.specs.Str.{bytes_eq}
use Rattle.clap.specs.Words.{App, Row, Rule, Text, first_of}
use Rattle.zvt_grammar.specs.declared.lengths.Lengths.{Lengths}
use Rattle.zvt_grammar.specs.declared.lengths.Lengths.TheVariants.{Shortest}
use Rattle.zvt_show.specs.declared.receipts.ReceiptOptions.{ReceiptOptions}
use Rattle.zvt_show.specs.declared.render.Style.{Style}
use Rattle.zvt_show.specs.declared.render.Style.TheVariants.{Show, Join, Receipts, Json, JsonReceipts}
use Rattle.zvt_text.specs.declared.codepages.Codepage.{Codepage}
use Rattle.zvt_text.specs.declared.codepages.Codepage.TheVariants.{Cp437, Cp850, Latin1, Utf8}
use Rattle.zvt_report.specs.Zones.{utc, zone_of}
use Rattle.zvt_report.specs.declared.form.ReportForm.{ReportForm}
use Rattle.zvt_report.specs.declared.zones.Zone.{Zone}
use Rattle.zvt_report.specs.declared.form.ReportForm.TheVariants as report
use Rattle.zvt_text.specs.declared.form.Form.TheVariants as form
use Rattle.zvt_trace.specs.Resuming.{side_scope}
use Rattle.zvt_trace.specs.declared.listener.Scope.{Scope}
use Rattle.zvt_audit.specs.Line.{books_scope}
use Rattle.zvt_tool.specs.Given.{IsByFlag, IsFlagOf, IsTextOf, words_of}
use Rattle.zvt_tool.specs.Options.{command_app, flag_rule, form_by, lengths_by, option_rule, several_rule}
use Rattle.zvt_tool.specs.declared.trace_command.TraceCommand.{TraceCommand}
use Rattle.zvt_tool.specs.declared.trace_command.TraceWork.{TraceWork}
use Rattle.zvt_tool.specs.declared.trace_command.TraceWork.TheVariants.{Render, Audit, Report, Vectors}

abbrev pub style_by : (plain objects : Style) → (is_json : Bool) → Style
style_by plain objects false = plain
style_by plain objects true = objects

-- each line of the output is a JSON object
abbrev pub is_json : TraceWork → Bool
is_json (Render (Show options)) = false
is_json (Render Join) = false
is_json (Render (Receipts options)) = false
is_json (Render Json) = true
is_json (Render (JsonReceipts text_blocks)) = true
is_json (Audit form.Text) = false
is_json (Audit form.Json) = true
is_json (Report report.Text zone strict) = false
is_json (Report report.Json zone strict) = true
is_json (Report report.Page zone strict) = false
is_json (Vectors form.Text) = false
is_json (Vectors form.Json) = true

-- what is skipped after a refusal: the side, for an audit or a strict report the whole line, and only the refused message if the line is read on
abbrev pub work_scope : TraceWork → (reads_on : Bool) → Scope
work_scope (Render style) reads_on = side_scope reads_on
work_scope (Audit written) reads_on = books_scope reads_on
work_scope (Report written zone strict) reads_on = books_scope (reads_on || not strict)
work_scope (Vectors written) reads_on = side_scope reads_on

-- ---- the options

-- the traces of a command line
abbrev pub files_rule : Rule
files_rule = several_rule (codes "file")

abbrev pub show_app : App
show_app = command_app (codes "show") (
    files_rule ∷
    flag_rule (codes "loose") ∷
    flag_rule (codes "json") ∷
    flag_rule (codes "follow") ∷
    flag_rule (codes "open") ∷
    flag_rule (codes "resync") ∷
    flag_rule (codes "safe") ∷
    flag_rule (codes "explain") ∷
    flag_rule (codes "times") ∷
    [])

abbrev pub join_app : App
join_app = command_app (codes "join") (files_rule ∷ flag_rule (codes "follow") ∷ [])

abbrev pub normalise_app : App
normalise_app = command_app (codes "normalise") (files_rule ∷ [])

abbrev pub audit_app : App
audit_app = command_app (codes "audit") (
    files_rule ∷
    flag_rule (codes "loose") ∷
    flag_rule (codes "check") ∷
    flag_rule (codes "json") ∷
    flag_rule (codes "follow") ∷
    flag_rule (codes "open") ∷
    [])

abbrev pub report_app : App
report_app = command_app (codes "report") (
    files_rule ∷
    flag_rule (codes "loose") ∷
    flag_rule (codes "check") ∷
    flag_rule (codes "json") ∷
    flag_rule (codes "html") ∷
    option_rule (codes "zone") ∷
    flag_rule (codes "strict") ∷
    [])

abbrev pub receipts_app : App
receipts_app = command_app (codes "receipts") (
    files_rule ∷
    flag_rule (codes "loose") ∷
    flag_rule (codes "json") ∷
    flag_rule (codes "follow") ∷
    flag_rule (codes "open") ∷
    flag_rule (codes "text-blocks") ∷
    option_rule (codes "codepage") ∷
    [])

abbrev pub vectors_app : App
vectors_app = command_app (codes "vectors") (files_rule ∷ flag_rule (codes "json") ∷ [])

-- ---- what the words give

-- the files and flags in the parsed words; a flag that the command does not have is not set
pub record IsTraceCommandOf (rows : List Row) (writes : TraceWork) (reads : Lengths) (command : TraceCommand) : Type 0 where
  pub files : map (λ file. file.now) command.files.items ≡ words_of (codes "file") rows
  pub work : command.work ≡ writes
  pub lengths : command.lengths ≡ reads
  pub check : IsFlagOf (codes "check") rows command.check
  pub follow : IsFlagOf (codes "follow") rows command.follow
  pub reads_on : IsByFlag (codes "open") rows (λ by_name. IsByFlag (codes "resync") rows (λ by_other. command.reads_on ≡ (by_name || by_other)))
  pub times : IsFlagOf (codes "times") rows command.times
  pub html : IsFlagOf (codes "html") rows command.html
  pub codepage : IsTextOf (codes "codepage") rows command.codepage
  pub zone : IsTextOf (codes "zone") rows command.zone

-- the lengths and the form, by `--loose` and `--json`
abbrev pub IsByForm : List Row → (Bool → TraceWork) → TraceCommand → Type 0
IsByForm rows work command = IsByFlag (codes "json") rows (λ json. IsByFlag (codes "loose") rows (λ loose. IsTraceCommandOf rows (work json) (lengths_by loose) command))

-- this text, or the JSON objects
abbrev pub IsRendering : List Row → (plain objects : Style) → TraceCommand → Type 0
IsRendering rows plain objects = IsByForm rows (λ json. Render (style_by plain objects json))

-- the text, its safe form or either with the words of codes, or the JSON objects
abbrev pub IsShow : List Row → TraceCommand → Type 0
IsShow rows command = IsByFlag (codes "safe") rows (λ safe. IsByFlag (codes "explain") rows (λ explain. IsRendering rows (Show (record { safe = safe; explained = explain })) Json command))

abbrev pub codepage_named : Text → Option Codepage
codepage_named name =
    cond (bytes_eq name (codes "437")) (Some Cp437)
    (cond (bytes_eq name (codes "850")) (Some Cp850) (cond (bytes_eq name (codes "iso-8859-1")) (Some Latin1) (cond (bytes_eq name (codes "utf-8")) (Some Utf8) None)))

-- the code page of a name, if there is a name and it is known
abbrev pub codepage_by : Option Text → Option Codepage
codepage_by = option_and_then codepage_named

abbrev pub receipt_options : (text_blocks : Bool) → Option Codepage → ReceiptOptions
receipt_options text_blocks codepage = record { text_blocks = text_blocks; codepage = codepage }

-- the lines of receipts in the named code page, with text blocks if that flag is set
abbrev pub IsReceipts : List Row → TraceCommand → Type 0
IsReceipts rows command =
    IsByFlag (codes "text-blocks") rows
    (λ text_blocks. IsRendering rows (Receipts (receipt_options text_blocks (codepage_by (first_of (codes "codepage") rows)))) (JsonReceipts text_blocks) command)

abbrev pub IsAudit : List Row → TraceCommand → Type 0
IsAudit rows = IsByForm rows (λ json. Audit (form_by json))

abbrev pub report_form : (json html : Bool) → ReportForm
report_form json html = cond json report.Json (cond html report.Page report.Text)

-- UTC, unless a zone is named
abbrev pub zone_by : Option Text → Zone
zone_by given = unwrap_or (option_and_then zone_of given) utc

abbrev pub IsReport : List Row → TraceCommand → Type 0
IsReport rows command =
    IsByFlag (codes "strict") rows
    (λ strict. IsByFlag (codes "html") rows (λ html. IsByForm rows (λ json. Report (report_form json html) (zone_by (first_of (codes "zone") rows)) strict) command))

abbrev pub IsVectors : List Row → TraceCommand → Type 0
IsVectors rows command = IsByFlag (codes "json") rows (λ json. IsTraceCommandOf rows (Vectors (form_by json)) Shortest command)
