use Rattle.std.proofs.Common.{◌≡◌, ◌++◌, ◌∷◌, ◌-◌, ◌∙◌, sym, Some, ap, arith, drop, length, take}
use Rattle.std.proofs.lemmas.Grind.{common_steps}
use Rattle.serde_json.specs.Written.{members_text}
use Rattle.zvt_report.specs.Members.{said}
use Rattle.zvt_report.proofs.MemberLemmas.{member_added}
use Rattle.zvt_report.proofs.members.write_members.Goals as goal

pub members-preserved-in_ok-write_member : goal.members-preserved-in_ok-write_member
members-preserved-in_ok-write_member c =
    let rest = c.members.rest.now in
    let after = take (length rest - 1) (drop 1 rest) in
    let split : rest ≡ Some c.in-Some.member ∷ after = grind (arith, common_steps) in
    member_added c.members.text c.write_member.new.text c.members.later c.in-Some.member after _ (ap (λ l. c.members.text ++ members_text c.members.later (said l)) (sym split) ∙ c.members.invariant) c.in_ok-write_member.ensures
