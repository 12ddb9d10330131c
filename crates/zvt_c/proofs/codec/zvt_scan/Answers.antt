use Rattle.std.proofs.Common.{ℕ, subst, ◌∙◌, ap}
use Rattle.zvt_grammar.specs.Reading.{shortest}
use Rattle.zvt_grammar.specs.declared.answer.Scan.{Scan}
use Rattle.zvt_grammar.specs.declared.answer.Scan.TheVariants.{Whole, More, Refused}
use Rattle.zvt_apdu.specs.Message.{Message}
use Rattle.zvt_apdu.specs.Judging as apdu
use Rattle.zvt_c.specs.Answers.{scanned, refused_memory}
use Rattle.zvt_c.proofs.codec.zvt_scan.Goals as goal
use Rattle.zvt_c.proofs.codec.zvt_scan.Goals.{in-Ok-Whole, in-Ok-More, in-Ok-Refused, in-Err}

pub returns : goal.returns
returns c = elim c.match-scan.branch [
  | in-Ok-Whole w ↦ scanned (Whole (w.in-Ok-Whole.field-0-0-0, w.in-Ok-Whole.size)) (subst (λ (s : Scan (Message × ℕ)). apdu.Answers shortest c.args.bytes.now s) w.in-Ok-Whole.field-0-is w.in-Ok-Whole.ensures) (w.answer-is ∙ w.found.ensures)
  | in-Ok-More w ↦ scanned More (subst (λ (s : Scan (Message × ℕ)). apdu.Answers shortest c.args.bytes.now s) w.in-Ok-More.field-0-is w.in-Ok-More.ensures) (w.answer-is ∙ w.bare.ensures)
  | in-Ok-Refused w ↦ scanned (Refused w.in-Ok-Refused.place w.in-Ok-Refused.why) (subst (λ (s : Scan (Message × ℕ)). apdu.Answers shortest c.args.bytes.now s) w.in-Ok-Refused.field-0-is w.in-Ok-Refused.ensures) (w.answer-is ∙ ap (λ (n : ℕ). record { size = 0; place = w.in-Ok-Refused.place; reason = n; status = 2 }) w.reason_code.ensures)
  | in-Err w ↦ refused_memory (w.answer-is ∙ w.bare-in-Err.ensures)
]
