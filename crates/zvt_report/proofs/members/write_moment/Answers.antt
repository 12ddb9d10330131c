use Rattle.std.proofs.Common.{◌≡◌, ◌++◌, ◌∙◌, ap, List, ℕ}
use Rattle.zvt_trace.specs.Marks.{moment_text}
use Rattle.zvt_report.proofs.MemberLemmas.{quoted_said}
use Rattle.zvt_report.proofs.TimeLemmas.{moment_plain}
use Rattle.zvt_report.proofs.members.write_moment.Goals as goal

pub returns : goal.returns
returns c =
    let words = moment_text c.args.moment in
    let said : c.word.new.self ≡ c.push.new.self ++ words = c.in_ok-word.ensures ∙ ap (λ (l : List ℕ). c.push.new.self ++ l) (c.as_slice.ensures.value ∙ c.text.ensures.text) in
    quoted_said c.push-2.result c.args.text.now c.push.new.self c.word.new.self c.push-2.new.self words c.in_ok-push.ensures said (moment_plain c.args.moment) c.push-2.ensures
