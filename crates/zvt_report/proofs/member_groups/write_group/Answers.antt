use Rattle.std.proofs.Common.{◌∙◌, ◌++◌, ap, List, ℕ, append_assoc}
use Rattle.serde_json.specs.Written.{comma_if}
use Rattle.zvt_report.proofs.GroupLemmas.{group_said}
use Rattle.zvt_report.proofs.TextLemmas.{completes}
use Rattle.zvt_report.specs.GroupObjects.{group_words}
use Rattle.zvt_report.proofs.member_groups.write_group.Goals as goal

pub returns : goal.returns
returns c =
    completes c.group_words.result c.write_comma.new.text c.group_words.new.text (group_words c.args.group.now) _
    (ap (λ (l : List ℕ). l ++ group_words c.args.group.now) c.in_ok-write_comma.ensures ∙ append_assoc c.args.text.now (comma_if c.args.later) (group_words c.args.group.now)
    ∙ ap (λ (l : List ℕ). c.args.text.now ++ (comma_if c.args.later ++ l)) (group_said c.args.group.now)) c.group_words.ensures
