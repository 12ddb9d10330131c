use Rattle.std.proofs.Common.{◌++◌, ◌∷◌, [], ◌∙◌, List, ℕ, ap}
use Rattle.serde_json.specs.Data.{string}
use Rattle.zvt_report.specs.FindingObjects as finding
use Rattle.zvt_report.specs.FindingTexts.{finding_advice, finding_text, finding_title}
use Rattle.zvt_report.specs.declared.members.Name.TheVariants as name
use Rattle.zvt_report.proofs.FindingLemmas.{six_parts, three_told_at}
use Rattle.zvt_report.proofs.TextLemmas.{adds_completely}
use Rattle.zvt_report.proofs.finding_objects.finding_members.Goals as goal

pub returns : goal.returns
returns c =
    let at = c.args.finding.now in
    adds_completely c.push.result c.last_members.new.text c.push.new.self _ _
    (six_parts c.args.text.now c.advice_member.new.text c.middle.new.text c.text_member.new.text c.title_member.new.text c.last_members.new.text _ _ _ _ _ (125 ∷ [])
    c.in_ok-advice_member.ensures c.in_ok-middle.ensures c.in_ok-text_member.ensures c.in_ok-title_member.ensures c.in_ok-last_members.ensures
    ∙ ap (λ (l : List ℕ). c.args.text.now ++ l)
    (three_told_at name.Advice name.Text name.Title (string (finding_advice at)) (string (finding_text c.args.decimals at)) (string (finding_title at)) (finding.finding_members at) (finding.last_members at)))
    c.push.ensures
