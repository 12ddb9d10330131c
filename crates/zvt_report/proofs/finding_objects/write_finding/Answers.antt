use Rattle.zvt_report.specs.FindingObjects.{finding_told}
use Rattle.zvt_report.proofs.FindingLemmas.{object_around}
use Rattle.zvt_report.proofs.TextLemmas.{adds_completely}
use Rattle.zvt_report.proofs.finding_objects.write_finding.Goals as goal

pub returns : goal.returns
returns c =
    adds_completely c.word-2.result c.finding_members.new.text c.word-2.new.self _ _
    (object_around c.args.text.now c.word.new.self c.finding_members.new.text (finding_told c.args.decimals c.args.finding.now) c.in_ok-word.ensures c.in_ok-finding_members.ensures) c.word-2.ensures
