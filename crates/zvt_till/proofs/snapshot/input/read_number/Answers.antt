use Rattle.std.proofs.Common.{sym, ap, subst, length, ◌∙◌, Some}
use Rattle.std.proofs.lemmas.Bool.{true≢false}
use Rattle.zvt_bcd.specs.Digits.{AreDigits, number_of}
use Rattle.zvt_till.proofs.SnapshotNumbers.{digits-number, digits-pairs}
use Rattle.zvt_till.proofs.snapshot.input.read_number.Goals as goal

pub returns-then-is_digits-clause-value : goal.returns-then-is_digits-clause-value
returns-then-is_digits-clause-value c n h is = ap Some (c.number.ensures.value ∙ ap number_of is ∙ digits-number (length c.args.bytes.now) n h)

pub returns-else-is_digits-clause-value : goal.returns-else-is_digits-clause-value
returns-else-is_digits-clause-value c n h is =
    absurd (true≢false (sym (c.is_digits.ensures.1 (subst AreDigits (sym is) (digits-pairs (length c.args.bytes.now) n h))) ∙ c.if-is_digits.false))
