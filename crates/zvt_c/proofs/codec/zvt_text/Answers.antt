use Rattle.std.proofs.Common.{◌≡◌, ℕ, cond, nat_eq, refl, subst, ap, sym, length, ◌∙◌}
use Rattle.zvt_grammar.specs.Reading.{shortest}
use Rattle.zvt_grammar.specs.declared.answer.Scan.{Scan}
use Rattle.zvt_grammar.specs.declared.answer.Scan.TheVariants.{More, Refused}
use Rattle.zvt_apdu.specs.Message.{Message}
use Rattle.zvt_apdu.specs.Judging as apdu
use Rattle.zvt_apdu.proofs.ViewLemmas.{spelled_bytes, message_loosened}
use Rattle.zvt_c.specs.declared.answer.ZvtAnswer.{ZvtAnswer}
use Rattle.zvt_c.specs.Answers.{scanned}
use Rattle.zvt_c.specs.Texts.{told, untold, Writes}
use Rattle.zvt_text.specs.MessageTexts.{said}
use Rattle.zvt_text.specs.TextOptions.{plain_text}
use Rattle.zvt_c.proofs.codec.zvt_text.Goals as goal

one_none : ◌≡◌ {A = ℕ} 1 0 → ⊥
one_none e = subst (λ (k : ℕ). cond (nat_eq k 0) ⊥ (Unit {0})) e tt

two_none : ◌≡◌ {A = ℕ} 2 0 → ⊥
two_none e = subst (λ (k : ℕ). cond (nat_eq k 0) ⊥ (Unit {0})) e tt

pub view-requires : goal.view-requires
view-requires c =
    spelled_bytes _ _ (subst (λ (s : Scan (Message × ℕ)). apdu.Answers shortest c.args.bytes.now s) c.in-Ok-Whole.field-0-is c.in-Ok-Whole.ensures).spelled

pub returns-in-Some : goal.returns-in-Some
returns-in-Some c =
    let m = c.in-Ok-Whole.field-0-0-0 in
    let found = subst (λ (s : Scan (Message × ℕ)). apdu.Answers shortest c.args.bytes.now s) c.in-Ok-Whole.field-0-is c.in-Ok-Whole.ensures in
    let shown : c.view.result ≡ m = c.view.ensures m (message_loosened m _ found.spelled) in
    told m c.in-Ok-Whole.size found c.found.ensures
    (c.in-Some.ensures.some.0 ∙ ap (λ (v : Message). length (said plain_text v)) shown)
    (subst (λ (v : Message). Writes (said plain_text v) c.args.buffer.now c.report.new.buffer) shown c.in-Some.ensures.some.1)

pub returns-in-Ok-More : goal.returns-in-Ok-More
returns-in-Ok-More c =
    untold (scanned More (subst (λ (s : Scan (Message × ℕ)). apdu.Answers shortest c.args.bytes.now s) c.in-Ok-More.field-0-is c.in-Ok-More.ensures) c.bare-in-Ok-More.ensures)
    (λ e. one_none (sym (ap (λ (a : ZvtAnswer). a.status) c.bare-in-Ok-More.ensures) ∙ e)) refl refl

pub returns-in-Ok-Refused : goal.returns-in-Ok-Refused
returns-in-Ok-Refused c =
    untold (scanned (Refused c.in-Ok-Refused.place c.in-Ok-Refused.why) (subst (λ (s : Scan (Message × ℕ)). apdu.Answers shortest c.args.bytes.now s) c.in-Ok-Refused.field-0-is c.in-Ok-Refused.ensures)
    (ap (λ (n : ℕ). record { size = 0; place = c.in-Ok-Refused.place; reason = n; status = 2 }) c.reason_code.ensures))
    two_none refl refl
