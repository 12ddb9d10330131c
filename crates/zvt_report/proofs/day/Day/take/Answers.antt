use Rattle.std.proofs.Common.{◌≡◌, ℕ, ◌∷◌, ◌++◌, [], Option, Some, sym, ap, subst, ◌∙◌}
use Rattle.zvt_till.specs.Segments.{force_after, in_force}
use Rattle.zvt_report.specs.Chapters.{chapters, happenings, noted}
use Rattle.zvt_report.specs.Judging.{DaySoFar, IsJudged, opened}
use Rattle.zvt_report.proofs.ChapterLemmas.{force-snoc}
use Rattle.zvt_report.proofs.DayLemmas.{judged-next}
use Rattle.zvt_report.proofs.day.Day.take.Goals.{in-Some+in_ok-close-in-Some, in-None+in_ok-answer-in-None}
use Rattle.zvt_report.proofs.day.Day.take.Goals as goal

pub returns : goal.returns
returns c = elim c.match-begun.branch [
  | in-Some+in_ok-close-in-Some w ↦ λ notes j.
      let n = noted c.args.line c.args.happening.now in
      let new : DaySoFar = record { day = record { book = c.self-2.inside.book.items; unclear = c.self-2.inside.unclear.items; orders = c.self-2.inside.orders.items }; current = c.self-2.inside.current; currency = c.self-2.inside.currency } in
      let after = c.self-2.view_is ∙ w.self-is in
      let force : w.self.inside.currency ≡ in_force (happenings notes) = ap (λ (s : DaySoFar). s.currency) w.self.view_is ∙ w.in_ok-close-in-Some.ensures.currency ∙ j.1 in
      let day = ap (λ (s : DaySoFar). s.day) after ∙ ap (λ (s : DaySoFar). s.day) w.self.view_is in
      let current = ap (λ (s : DaySoFar). s.current) after ∙ ap Some (w.new.ensures ∙ ap (λ (x : Option ℕ). opened x w.in-Some.order c.args.line) force) in
      let same = ap (λ (s : DaySoFar). s.currency) after ∙ force in (
        judged-next notes n w.in-Some.order new (sym c.begun.ensures ∙ w.in-Some.is) (day ∙ w.in_ok-close-in-Some.ensures.day notes j) current,
        c.force_after-self-inside.ensures ∙ ap (λ (x : Option ℕ). force_after x c.args.happening.now) same ∙ sym (force-snoc notes n),
      )
  | in-None+in_ok-answer-in-None w ↦ λ notes j.
      let n = noted c.args.line c.args.happening.now in
      let after = c.self-2.view_is ∙ w.self-is in
      let same = ap (λ (s : DaySoFar). s.currency) after ∙ w.in_ok-answer-in-None.ensures.currency ∙ j.1 in (
        subst (λ (s : DaySoFar). IsJudged (chapters (notes ++ n ∷ [])) s.day s.current) (sym after) (w.in_ok-answer-in-None.ensures.judged notes j),
        c.force_after-self-inside.ensures ∙ ap (λ (x : Option ℕ). force_after x c.args.happening.now) same ∙ sym (force-snoc notes n),
      )
]
