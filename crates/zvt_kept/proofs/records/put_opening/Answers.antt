use Rattle.std.proofs.Common.{◌≤◌, subst}
use Rattle.zvt_kept.proofs.Made.{opening_is_taken}
use Rattle.zvt_kept.proofs.Short.{opening_short}
use Rattle.zvt_kept.proofs.records.put_opening.Goals as goal

pub returns-clause-written : goal.returns-clause-written
returns-clause-written c =
    let named = rw c.get.ensures.value at c.put_numbered.ensures in
    rw c.rule_words-rule.ensures at named

pub returns-clause-taken : goal.returns-clause-taken
returns-clause-taken c = (opening_is_taken c.args.currency c.args.by_receipt (subst (λ n. n ≤ 9999) c.get.ensures.value c.get.ensures.most)).1

pub returns-clause-kept : goal.returns-clause-kept
returns-clause-kept c = (opening_is_taken c.args.currency c.args.by_receipt (subst (λ n. n ≤ 9999) c.get.ensures.value c.get.ensures.most)).0

pub returns-clause-short : goal.returns-clause-short
returns-clause-short c = opening_short c.args.currency c.args.by_receipt (subst (λ n. n ≤ 9999) c.get.ensures.value c.get.ensures.most)
