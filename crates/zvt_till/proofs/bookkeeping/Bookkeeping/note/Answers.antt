use Rattle.std.proofs.Common.{refl, ap, ◌∙◌}
use Rattle.zvt_till.specs.Judging.{paying}
use Rattle.zvt_till.specs.Outcomes.{note}
use Rattle.zvt_till.proofs.HeardLemmas.{heard-more, heard-rest, or-false}
use Rattle.zvt_till.proofs.bookkeeping.Bookkeeping.note.Goals.{in-Some, in_default}
use Rattle.zvt_till.proofs.bookkeeping.Bookkeeping.note.Goals as goal

pub returns : goal.returns
returns c = λ log judged.
    let before = rw (← c.self.view_is) at judged in
    elim c.match-self.branch [
      | in-Some w ↦
          let noted = w.note.ensures in
          rw w.self-inside-is (heard-more log _ _ _ _ w.in-Some.payment _ w.in-Some.is refl noted.amount noted.currency (noted.positive ∙ or-false _) (noted.statuses ∙ ap (λ facts. note (paying w.in-Some.payment.currency w.in-Some.payment.amount) w.in-Some.payment.statuses facts) w.facts_shown.ensures) before)
      | in_default w ↦ rw w.self-inside-is (heard-rest log _ _ _ _ w.in_default.is before)
    ]
