use Rattle.std.proofs.Common.{[], ◌∷◌, ◌∙◌, refl}
use Rattle.zvt_till.specs.declared.happenings.Happening.TheVariants.{Connected, Lost}
use Rattle.zvt_audit.specs.Audited.{Takes}
use Rattle.zvt_audit.specs.Ends.{lines_of}
use Rattle.zvt_audit.proofs.BecomeLemmas.{takes_more}
use Rattle.zvt_audit.proofs.EndLemmas.{ends_noticed, where_ok}
use Rattle.zvt_audit.proofs.UnfollowedLemmas.{found_lost}
use Rattle.zvt_audit.proofs.auditor.Auditor.lose.Goals as goal

pub returns : goal.returns
returns c =
    let old = c.args.self.now in
    let takes : Takes old.books c.take-2.new.self (Lost ∷ Connected ∷ []) =
    takes_more old.books c.take.new.self c.take-2.new.self (Lost ∷ []) (Connected ∷ []) c.in_ok-take.ensures c.in_ok-take-2.ensures in
    where_ok c.notice.result (λ noticed. (takes, refl, refl, ends_noticed old.books c.take-2.new.self _ c.args.line (lines_of old.ends) (lines_of c.notice.new.self) takes noticed, λ later. c.in_ok-take-3.ensures later ∙ found_lost old.unfollowed later)) c.notice.ensures
