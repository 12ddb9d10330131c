use Rattle.std.proofs.Common.{sym, append-nil}
use Rattle.std.proofs.lemmas.Result.{on_ok_weaker}
use Rattle.zvt_report.specs.Files.{unread}
use Rattle.zvt_report.proofs.FilesLemmas.{added}
use Rattle.zvt_report.proofs.files.FilesPage.add_unread.Goals as goal

pub returns : goal.returns
returns c =
    on_ok_weaker c.unread_row.result (λ row. added c.args.self.now _ c.args.place (unread c.args.name.now) row (sym (append-nil c.args.self.now.reports)) (sym (append-nil c.args.self.now.nets.items))) c.unread_row.ensures
