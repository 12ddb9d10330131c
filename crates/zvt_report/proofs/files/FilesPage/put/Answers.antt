use Rattle.std.proofs.Common.{ℕ, List, [], ◌∷◌, ◌≡◌, ◌++◌, ◌∙◌, ap, ap₂}
use Rattle.std.proofs.lemmas.Result.{on_ok_weaker}
use Rattle.zvt_page.specs.Html.{render}
use Rattle.zvt_report.specs.Files.{read, read_row, read_section, report_net}
use Rattle.zvt_report.specs.Written.{acts_of}
use Rattle.zvt_report.specs.declared.cases.Look.{Look}
use Rattle.zvt_report.specs.declared.net_sum.Net.{Net}
use Rattle.zvt_report.proofs.FilesLemmas.{added}
use Rattle.zvt_report.proofs.files.FilesPage.put.Goals as goal

pub returns : goal.returns
returns c =
    let report = c.args.report.now in
    let row : c.read_row.new.page ≡ c.args.self.now.index ++ render (read_row c.args.place c.args.name.now (report_net report) report.books (acts_of report)) =
    c.in_ok-read_row.ensures ∙ ap₂ (λ (net : Net) (n : ℕ). c.args.self.now.index ++ render (read_row c.args.place c.args.name.now net report.books n)) c.report_net-net.ensures c.acts_of-acts.ensures in
    on_ok_weaker c.read_section.result
    (λ section. added c.args.self.now _ c.args.place (read c.args.name.now report) row
    (section ∙ ap (λ (looks : List Look). c.args.self.now.reports ++ render (read_section c.args.place c.args.name.now report looks)) c.requires)
    (c.in_ok-push.ensures.items ∙ ap (λ (net : Net). c.args.self.now.nets.items ++ net ∷ []) c.report_net-net.ensures))
    c.read_section.ensures
