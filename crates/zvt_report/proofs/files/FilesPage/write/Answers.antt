use Rattle.std.proofs.Common.{ℕ, List, ◌≡◌, ◌∙◌, subst}
use Rattle.std.proofs.lemmas.Result.{err_from_is_err_and}
use Rattle.std.specs.Io.KnownBytes.{Appends}
use Rattle.zvt_trace.specs.Written.{AppendsPrefix}
use Rattle.zvt_report.specs.Files.{files_page}
use Rattle.zvt_report.proofs.FilesLemmas.{page_of}
use Rattle.zvt_report.proofs.files.FilesPage.write.Goals as goal

pub returns-in_err-write_all-clause-writes : goal.returns-in_err-write_all-clause-writes
returns-in_err-write_all-clause-writes g c = λ files has.
    let p = err_from_is_err_and c.from_residual-in_err-write_all.result c.from_residual-in_err-write_all.ensures.1 in
    rw (p.1, p.2)
    (subst (λ (text : List ℕ). AppendsPrefix (g.W.Sink.written c.args.writer.now) (g.W.Sink.written c.write_all.new.self) text)
    (c.bytes.ensures ∙ c.in_ok-page.ensures ∙ page_of files c.args.self.now has) c.in_err-write_all.ensures.bytes)

pub returns-clause-writes : goal.returns-clause-writes
returns-clause-writes g c = λ files has.
    subst (λ (text : List ℕ). Appends (g.W.Sink.written c.args.writer.now) (g.W.Sink.written c.write_all.new.self) text)
    (c.bytes.ensures ∙ c.in_ok-page.ensures ∙ page_of files c.args.self.now has) c.in_ok-write_all.ensures.bytes
