use Rattle.std.proofs.Common.{◌≡◌, ℕ, List, Option, Some, sym, ap, ap₂, ◌∙◌}
use Rattle.zvt_till.specs.declared.entries.Entry.{Entry}
use Rattle.zvt_till.specs.declared.happenings.Happening.TheVariants.{Sent as SentOut}
use Rattle.zvt_till.specs.declared.happenings.Sent.{Sent}
use Rattle.zvt_till.specs.Segments.{in_force}
use Rattle.zvt_report.specs.Chapters.{happenings, noted}
use Rattle.zvt_report.specs.Day.{DayValue, day_of}
use Rattle.zvt_report.specs.Judging.{DaySoFar, opened}
use Rattle.zvt_report.specs.Naming.{reversing}
use Rattle.zvt_report.proofs.ChapterLemmas.{force-snoc}
use Rattle.zvt_report.proofs.DayLemmas.{judged-next}
use Rattle.zvt_report.proofs.NamingLemmas.{begins, keeps_force}
use Rattle.zvt_report.proofs.day.Day.reverse.Goals as goal

pub returns : goal.returns
returns c = λ notes j.
    let all = c.in_ok-close.ensures.day notes j in
    let day = ap (λ (s : DaySoFar). s.day) c.self.view_is ∙ all in
    let book = ap (λ (d : DayValue). d.book) day in
    let order : c.reversing-order.result ≡ reversing (day_of notes).book c.args.receipt =
    c.reversing-order.ensures ∙ ap (λ (b : List Entry). reversing b c.args.receipt) (c.deref.ensures.value ∙ book) in
    let sent : Sent = reversing (day_of notes).book c.args.receipt in
    let n = noted c.args.line (SentOut sent) in
    let force : c.self.inside.currency ≡ in_force (happenings notes) = ap (λ (s : DaySoFar). s.currency) c.self.view_is ∙ c.in_ok-close.ensures.currency ∙ j.1 in
    let new : DaySoFar = record { day = record { book = c.self.inside.book.items; unclear = c.self.inside.unclear.items; orders = c.self.inside.orders.items }; current = Some c.new.result; currency = c.self.inside.currency } in
    let current = ap Some (c.new.ensures ∙ ap₂ (λ (x : Option ℕ) (s : Sent). opened x s c.args.line) force order) in (
      judged-next notes n sent new (begins (day_of notes).book c.args.receipt) day current,
      force ∙ keeps_force (day_of notes).book c.args.receipt (in_force (happenings notes)) ∙ sym (force-snoc notes n),
    )
