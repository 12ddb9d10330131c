use Rattle.std.proofs.Common.{◌≡◌, ◌++◌, sym, ◌∙◌, ap, refl, List, ℕ}
use Rattle.std.proofs.lemmas.Result.{err_from_is_err_and}
use Rattle.zvt_tool.specs.Got.{got_in}
use Rattle.zvt_tool.proofs.VectorLemmas.{other, right, same, unwritten, wrong}
use Rattle.zvt_tool.proofs.vector_check.check.check_vector.Goals as goal

pub returns-then-eq-clause-checks : goal.returns-then-eq-clause-checks
returns-then-eq-clause-checks g c =
    let told = c.in_ok-write_answer.ensures in
    let answer = told.0 in
    let made : c.as_bytes.result.now ≡ answer = c.as_bytes.ensures.value ∙ told.2 ∙ ap (λ (t : List ℕ). t ++ answer) c.new-answer.ensures.bytes in
    right c.args.form c.args.number c.args.bytes.now c.args.claim.now answer _ _ told.1 (same c.as_bytes.result.now c.args.claim.now (sym c.if-eq.ensures) ∙ made) refl refl

pub returns-in_err-write_all-clause-checks : goal.returns-in_err-write_all-clause-checks
returns-in_err-write_all-clause-checks g c =
    let told = c.in_ok-write_answer.ensures in
    let answer = told.0 in
    let made : c.as_bytes.result.now ≡ answer = c.as_bytes.ensures.value ∙ told.2 ∙ ap (λ (t : List ℕ). t ++ answer) c.new-answer.ensures.bytes in
    let p = err_from_is_err_and c.from_residual-in_err-write_all.result c.from_residual-in_err-write_all.ensures.1 in
    let is : c.as_str.result.now ≡ answer = c.as_str.ensures.value ∙ told.2 ∙ ap (λ (t : List ℕ). t ++ answer) c.new-answer.ensures.bytes in
    let said : c.as_bytes-2.result.now ≡ got_in c.args.form c.args.number answer = c.as_bytes-2.ensures.value ∙ c.in_ok-text.ensures ∙ ap (got_in c.args.form c.args.number) is in
    rw (p.1, p.2) (unwritten c.args.form c.args.number c.args.bytes.now c.args.claim.now answer c.as_bytes-2.result.now _ _ told.1 (λ e. other c.as_bytes.result.now c.args.claim.now (sym c.if-eq.ensures) (e ∙ sym made)) said c.in_err-write_all.ensures.bytes)

pub returns-clause-checks : goal.returns-clause-checks
returns-clause-checks g c =
    let told = c.in_ok-write_answer.ensures in
    let answer = told.0 in
    let made : c.as_bytes.result.now ≡ answer = c.as_bytes.ensures.value ∙ told.2 ∙ ap (λ (t : List ℕ). t ++ answer) c.new-answer.ensures.bytes in
    let is : c.as_str.result.now ≡ answer = c.as_str.ensures.value ∙ told.2 ∙ ap (λ (t : List ℕ). t ++ answer) c.new-answer.ensures.bytes in
    let said : c.as_bytes-2.result.now ≡ got_in c.args.form c.args.number answer = c.as_bytes-2.ensures.value ∙ c.in_ok-text.ensures ∙ ap (got_in c.args.form c.args.number) is in
    wrong c.args.form c.args.number c.args.bytes.now c.args.claim.now answer c.as_bytes-2.result.now _ _ _ told.1 (λ e. other c.as_bytes.result.now c.args.claim.now (sym c.if-eq.ensures) (e ∙ sym made)) said c.in_ok-write_all.ensures.bytes refl refl
