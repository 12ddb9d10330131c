use Rattle.std.proofs.Common.{◌≡◌, ◌++◌, ◌∷◌, [], ◌∙◌, List, ℕ, ap}
use Rattle.serde_json.specs.Data.{string}
use Rattle.zvt_report.specs.Advices.{advice}
use Rattle.zvt_report.specs.LookObjects as look
use Rattle.zvt_report.specs.Sentences.{account, title}
use Rattle.zvt_report.specs.TimeMembers.{maybe_time}
use Rattle.zvt_report.specs.declared.members.Name.TheVariants as name
use Rattle.zvt_report.proofs.LookObjectLemmas.{seven_parts, three_told_of}
use Rattle.zvt_report.proofs.TextLemmas.{adds_completely}
use Rattle.zvt_report.proofs.look_objects.look_members.Goals as goal

pub returns : goal.returns
returns c =
    let decimals = c.args.decimals in
    let facts = c.args.facts.now in
    let rows = c.args.rows.now in
    let at = c.args.look.now in
    let members = look.look_members rows at facts.row in
    let time : c.more.new.text ≡ c.text_member.new.text ++ look.more_of (maybe_time facts.row.time ∷ []) = simp (c.in_ok-more.ensures, c.maybe_time.ensures) in
    let weight : c.more-2.new.text ≡ c.title_member.new.text ++ look.more_of (look.weight_member at ∷ []) = simp (c.in_ok-more-2.ensures, c.weight_member.ensures) in
    adds_completely c.push.result c.more-2.new.text c.push.new.self _ _
    (seven_parts c.args.text.now c.advice_member.new.text c.middle.new.text c.text_member.new.text c.more.new.text c.title_member.new.text c.more-2.new.text _ _ _ _ _ _ (125 ∷ [])
    c.in_ok-advice_member.ensures c.in_ok-middle.ensures c.in_ok-text_member.ensures time c.in_ok-title_member.ensures weight
    ∙ ap (λ (l : List ℕ). c.args.text.now ++ l)
    (three_told_of name.Advice name.Text name.Title (string (advice decimals facts at.case)) (string (account decimals facts at.case)) (string (title decimals facts at.case)) members (maybe_time facts.row.time ∷ []) (look.weight_member at ∷ [])))
    c.push.ensures
