use Rattle.std.proofs.Common.{sym, ◌∙◌, subst}
use Rattle.std.proofs.lemmas.Bool.Decides.{Decides-eqb}
use Rattle.std.proofs.lemmas.Slice.Eq.{strip_prefix_is}
use Rattle.zvt_tool.specs.Vectors.{IsReason}
use Rattle.zvt_tool.proofs.ClaimLemmas.{found, made, same_prefix, same_rest}
use Rattle.zvt_tool.proofs.vector_check.claims.is_refusal.Goals as goal

pub returns-then-is_number-clause-yes : goal.returns-then-is_number-clause-yes
returns-then-is_number-clause-yes c h =
    let told = rw c.in-Some.is at (strip_prefix_is Decides-eqb c.split_at.result.1.now c.as_slice.result.now c.strip_prefix.result c.strip_prefix.ensures.cases) in
    made c.args.text.now c.split_at.result.0.now c.split_at.result.1.now c.as_slice.result.now c.in-Some.reason.now c.count_digits.result c.split_at.ensures.front c.split_at.ensures.back c.as_slice.ensures told (c.is_number.ensures.yes c.if-is_number.true) (c.is_reason.ensures.yes h)

pub returns-then-is_number-clause-no : goal.returns-then-is_number-clause-no
returns-then-is_number-clause-no c h is =
    let told = rw c.in-Some.is at (strip_prefix_is Decides-eqb c.split_at.result.1.now c.as_slice.result.now c.strip_prefix.result c.strip_prefix.ensures.cases) in
    let f = found c.args.text.now c.split_at.result.0.now c.split_at.result.1.now c.count_digits.result is c.split_at.ensures.front c.split_at.ensures.back c.count_digits.ensures.few c.count_digits.ensures.digits c.count_digits.ensures.all in
    c.is_reason.ensures.no h (subst IsReason (sym (same_rest _ _ c.in-Some.reason.now f.reason c.as_slice.ensures (sym told ∙ f.after))) f.word)

pub returns-else-is_number-clause-no : goal.returns-else-is_number-clause-no
returns-else-is_number-clause-no c h is =
    let f = found c.args.text.now c.split_at.result.0.now c.split_at.result.1.now c.count_digits.result is c.split_at.ensures.front c.split_at.ensures.back c.count_digits.ensures.few c.count_digits.ensures.digits c.count_digits.ensures.all in
    c.is_number.ensures.no h f.number

pub returns-in-None-clause-no : goal.returns-in-None-clause-no
returns-in-None-clause-no c h is =
    let told = rw c.in-None.is at (strip_prefix_is Decides-eqb c.split_at.result.1.now c.as_slice.result.now c.strip_prefix.result c.strip_prefix.ensures.cases) in
    let f = found c.args.text.now c.split_at.result.0.now c.split_at.result.1.now c.count_digits.result is c.split_at.ensures.front c.split_at.ensures.back c.count_digits.ensures.few c.count_digits.ensures.digits c.count_digits.ensures.all in
    told f.reason (f.after ∙ sym (same_prefix _ _ f.reason c.as_slice.ensures))
