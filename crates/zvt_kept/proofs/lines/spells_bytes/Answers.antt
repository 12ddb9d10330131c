use Rattle.std.proofs.Common.{◌≡◌, ◌<◌, ◌%◌, length, arith, rules}
use Rattle.zvt_kept.proofs.Bytes.{digits_tested, none_tested, odd_tested}
use Rattle.zvt_kept.proofs.lines.spells_bytes.Goals as goal
use Rattle.zvt_kept.proofs.lines.spells_bytes.Goals.{then-is_empty-via-then-is_empty, then-is_empty-via-else-is_empty+then-digits-eq1}

pub returns-then-is_empty : goal.returns-then-is_empty
returns-then-is_empty c =
    elim c.then-is_empty.branch [
      | then-is_empty-via-then-is_empty w ↦ none_tested c.args.digits.now (search rules)
      | then-is_empty-via-else-is_empty+then-digits-eq1 w ↦ odd_tested c.args.digits.now (omega (arith, w.if-digits-eq1.true))
    ]

pub returns : goal.returns
returns c =
    let some : 0 < length c.args.digits.now = search rules in
    let even : length c.args.digits.now % 2 ≡ 0 = omega (arith, c.if-digits-eq1.false) in
    rw c.all_digits.ensures (digits_tested c.args.digits.now some even)
