use Rattle.std.proofs.Common.{refl}
use Rattle.zvt_audit.specs.Ends.{lines_of}
use Rattle.zvt_audit.proofs.EndLemmas.{ends_noticed, where_ok}
use Rattle.zvt_audit.proofs.auditor.Auditor.malform.Goals as goal

pub returns : goal.returns
returns c =
    let old = c.args.self.now in
    where_ok c.notice.result (λ noticed. (c.in_ok-take.ensures, refl, refl, ends_noticed old.books c.take.new.self _ c.args.line (lines_of old.ends) (lines_of c.notice.new.self) c.in_ok-take.ensures noticed, c.in_ok-take-2.ensures)) c.notice.ensures
