use Rattle.std.proofs.Common.{[], ◌∷◌, refl}
use Rattle.zvt_till.specs.declared.happenings.Happening.TheVariants.{Connected, Lost}
use Rattle.zvt_audit.proofs.EndLemmas.{where_ok}
use Rattle.zvt_report.proofs.ReporterLemmas.{judges_more}
use Rattle.zvt_report.proofs.reporter.Reporter.lose.Goals as goal

pub returns-clause-judges : goal.returns-clause-judges
returns-clause-judges c =
    where_ok c.take-2.result (λ second. (judges_more c.args.self.now.day c.take.new.self c.take-2.new.self c.args.line Lost (Connected ∷ []) c.in_ok-take.ensures second, refl, refl, refl)) c.take-2.ensures

pub returns-clause-ends : goal.returns-clause-ends
returns-clause-ends c = where_ok c.take-2.result (λ second. c.in_ok-end.ensures) c.take-2.ensures
