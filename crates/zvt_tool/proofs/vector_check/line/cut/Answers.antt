use Rattle.std.proofs.Common.{ℕ, List, ◌++◌, ap, sym, ◌∙◌, subst}
use Rattle.std.proofs.lemmas.Bool.Decides.{Decides-eqb}
use Rattle.std.proofs.lemmas.Slice.Eq.{strip_prefix_is, strip_suffix_is}
use Rattle.zvt_tool.specs.Vectors.{IsClaim, IsSpelling}
use Rattle.zvt_tool.proofs.ClaimLemmas.{cut_at, joined, same_begin, same_prefix, same_rest}
use Rattle.zvt_tool.proofs.vector_check.line.cut.Goals as goal
use Rattle.zvt_tool.proofs.vector_check.line.cut.Goals.{else-is_spelling-via-then-is_spelling+else-is_claim, else-is_spelling-via-else-is_spelling}

pub returns-in_err-spelled-clause-none : goal.returns-in_err-spelled-clause-none
returns-in_err-spelled-clause-none c h spelled claim v =
    let told = rw c.in_err-spelled.was at (strip_suffix_is Decides-eqb c.split_at.result.0.now c.as_slice.result.now c.strip_suffix.result c.strip_suffix.ensures.cases) in
    let at = cut_at c.args.line.now c.split_at.result.0.now c.split_at.result.1.now spelled claim c.count_before.result v c.split_at.ensures.front c.split_at.ensures.back c.count_before.ensures.few c.count_before.ensures.others c.count_before.ensures.all in
    told spelled (at.before ∙ ap (λ (t : List ℕ). spelled ++ t) (sym c.as_slice.ensures))

pub returns-in_err-claim-clause-none : goal.returns-in_err-claim-clause-none
returns-in_err-claim-clause-none c h spelled claim v =
    let told = rw c.in_err-claim.was at (strip_prefix_is Decides-eqb c.split_at.result.1.now c.as_slice-2.result.now c.strip_prefix.result c.strip_prefix.ensures.cases) in
    let at = cut_at c.args.line.now c.split_at.result.0.now c.split_at.result.1.now spelled claim c.count_before.result v c.split_at.ensures.front c.split_at.ensures.back c.count_before.ensures.few c.count_before.ensures.others c.count_before.ensures.all in
    told claim (at.after ∙ sym (same_prefix _ _ claim c.as_slice-2.ensures))

pub returns-then-is_claim-clause-some : goal.returns-then-is_claim-clause-some
returns-then-is_claim-clause-some c =
    let before = rw c.in_ok-spelled.was at (strip_suffix_is Decides-eqb c.split_at.result.0.now c.as_slice.result.now c.strip_suffix.result c.strip_suffix.ensures.cases) in
    let after = rw c.in_ok-claim.was at (strip_prefix_is Decides-eqb c.split_at.result.1.now c.as_slice-2.result.now c.strip_prefix.result c.strip_prefix.ensures.cases) in
    joined c.args.line.now c.split_at.result.0.now c.split_at.result.1.now c.as_slice.result.now c.as_slice-2.result.now c.in_ok-spelled.spelled.now c.in_ok-claim.claim.now c.count_before.result c.split_at.ensures.front c.split_at.ensures.back c.as_slice.ensures c.as_slice-2.ensures before after c.count_before.ensures.others (c.is_spelling.ensures.yes c.if-is_spelling.true) (c.is_claim.ensures.yes c.if-is_claim.true)

pub returns-else-is_spelling-clause-none : goal.returns-else-is_spelling-clause-none
returns-else-is_spelling-clause-none c h spelled claim v =
    let before = rw c.in_ok-spelled.was at (strip_suffix_is Decides-eqb c.split_at.result.0.now c.as_slice.result.now c.strip_suffix.result c.strip_suffix.ensures.cases) in
    let after = rw c.in_ok-claim.was at (strip_prefix_is Decides-eqb c.split_at.result.1.now c.as_slice-2.result.now c.strip_prefix.result c.strip_prefix.ensures.cases) in
    let at = cut_at c.args.line.now c.split_at.result.0.now c.split_at.result.1.now spelled claim c.count_before.result v c.split_at.ensures.front c.split_at.ensures.back c.count_before.ensures.few c.count_before.ensures.others c.count_before.ensures.all in
    elim c.else-is_spelling.branch [
      | else-is_spelling-via-then-is_spelling+else-is_claim w ↦ w.is_claim.ensures.no w.if-is_claim.false (subst IsClaim (sym (same_rest _ _ c.in_ok-claim.claim.now claim c.as_slice-2.ensures (sym after ∙ at.after))) v.claims)
      | else-is_spelling-via-else-is_spelling w ↦ c.is_spelling.ensures.no w.if-is_spelling.false (subst IsSpelling (sym (same_begin _ _ c.in_ok-spelled.spelled.now spelled c.as_slice.ensures (sym before ∙ at.before))) v.spells)
    ]
