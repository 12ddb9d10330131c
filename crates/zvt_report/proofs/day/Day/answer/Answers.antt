use Rattle.std.proofs.Common.{◌≡◌, ◌∷◌, ◌++◌, [], Some, None, sym, subst, ap, ap₂, ◌∙◌}
use Rattle.zvt_till.specs.UsedTraces.{AreTracesOf}
use Rattle.zvt_till.specs.Outcomes.{outcome_by}
use Rattle.zvt_report.specs.Chapters.{chapters, noted}
use Rattle.zvt_report.specs.Day.{DayValue}
use Rattle.zvt_report.specs.Judging.{DaySoFar, IsJudged, Rests, Runs, added, goes_on, row_at}
use Rattle.zvt_report.proofs.DayLemmas.{judged-end, judged-more, judged-rest}
use Rattle.zvt_report.proofs.day.Day.answer.Goals as goal

pub returns-in_default-clause-judged : goal.returns-in_default-clause-judged
returns-in_default-clause-judged c = λ notes j.
    let n = noted c.args.line c.args.happening.now in
    let d = c.args.self.now.day in
    let none : c.args.self.now.current ≡ None = ap (λ (s : DaySoFar). s.current) (sym c.self.view_is) ∙ c.in_default.is in
    subst (λ x. IsJudged (chapters (notes ++ n ∷ [])) d x) (sym none)
    (judged-rest notes n d c.requires.none (subst (λ x. IsJudged (chapters notes) d x) none j.0))

pub returns-in_ok-add-clause-judged : goal.returns-in_ok-add-clause-judged
returns-in_ok-add-clause-judged c = λ notes j.
    let n = noted c.args.line c.args.happening.now in
    let d = c.args.self.now.day in
    let o = c.in-Some.open in
    let running : c.args.self.now.current ≡ Some o = ap (λ (s : DaySoFar). s.current) (sym c.self.view_is) ∙ c.in-Some.is in
    let book : c.self.inside.book.items ≡ d.book = ap (λ (s : DaySoFar). s.day.book) c.self.view_is in
    let outcome : c.outcome_by-outcome.result ≡ outcome_by d.book o.running.order o.running.statuses c.args.happening.now =
    c.outcome_by-outcome.ensures d.book (subst (λ b. AreTracesOf c.self.inside.used b) book c.self.invariant) in
    let row : c.row.result ≡ row_at o c.args.line (outcome_by d.book o.running.order o.running.statuses c.args.happening.now) = c.row.ensures ∙ ap (row_at o c.args.line) outcome in
    let after = c.self-then-ends.view_is ∙ c.in_ok-add.ensures ∙ ap (added c.args.self.now) row in
    subst (λ (x : DayValue). Rests (chapters (notes ++ n ∷ [])) x) (sym (ap (λ (s : DaySoFar). s.day) after))
    (judged-end notes n d o c.requires.none (sym c.ends.ensures ∙ c.if-ends.true) (subst (λ x. IsJudged (chapters notes) d x) running j.0))

pub returns-else-ends-clause-judged : goal.returns-else-ends-clause-judged
returns-else-ends-clause-judged c = λ notes j.
    let n = noted c.args.line c.args.happening.now in
    let d = c.args.self.now.day in
    let o = c.in-Some.open in
    let running : c.args.self.now.current ≡ Some o = ap (λ (s : DaySoFar). s.current) (sym c.self.view_is) ∙ c.in-Some.is in
    let book = ap (λ (s : DaySoFar). s.day.book) c.self.view_is in
    let unclear = ap (λ (s : DaySoFar). s.day.unclear) c.self.view_is in
    let after : c.after.result ≡ goes_on d.book d.unclear o n =
    c.after.ensures ∙ ap₂ (λ b u. goes_on b u o n) (c.deref.ensures.value ∙ book) (c.deref-else-ends.ensures.value ∙ unclear) in
    subst (λ (x : DayValue). Runs (chapters (notes ++ n ∷ [])) x c.after.result) (sym (ap (λ (s : DaySoFar). s.day) c.self.view_is))
    (subst (λ x. Runs (chapters (notes ++ n ∷ [])) d x) (sym after)
    (judged-more notes n d o c.requires.none (sym c.ends.ensures ∙ c.if-ends.false) (subst (λ x. IsJudged (chapters notes) d x) running j.0)))
