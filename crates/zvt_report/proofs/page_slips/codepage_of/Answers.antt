use Rattle.std.proofs.Common.{Bool, cond, inl, inr, refl, sym, ap}
use Rattle.std.proofs.lemmas.Bool.{cases_Bool}
use Rattle.std.proofs.lemmas.Str.{IsUtf8-from_is_utf8, is_utf8-from_IsUtf8}
use Rattle.std.specs.Str.{is_utf8}
use Rattle.zvt_text.specs.declared.codepages.Codepage.TheVariants.{Cp437, Utf8}
use Rattle.zvt_report.proofs.page_slips.codepage_of.Goals as goal

pub returns-in-Ok : goal.returns-in-Ok
returns-in-Ok c = sym (ap (λ (b : Bool). cond b Utf8 Cp437) (is_utf8-from_IsUtf8 c.args.text.now c.in-Ok.ensures.cases.1))

pub returns-in-Err : goal.returns-in-Err
returns-in-Err c = elim (cases_Bool (is_utf8 c.args.text.now)) [
  | inl is ↦ absurd (c.in-Err.ensures.cases.0 (IsUtf8-from_is_utf8 c.args.text.now is))
  | inr none ↦ rw none refl
]
