use Rattle.std.proofs.Common.{◌≡◌, rules, tests}
use Rattle.std.proofs.lemmas.Iterator.{cases_from_any, YieldsList-from_slice}
use Rattle.zvt_grammar.specs.Names.{why_name}
use Rattle.zvt_grammar.specs.declared.why.Why.{Why}
use Rattle.zvt_tool.specs.declared.vector_check.claims.TheConstants.{REASONS}
use Rattle.zvt_tool.proofs.ClaimLemmas.{none_named, some_named}
use Rattle.zvt_tool.proofs.vector_check.claims.is_reason.Goals as goal

pub returns-clause-yes : goal.returns-clause-yes
returns-clause-yes c =
    let told = cases_from_any _ _ c.any.result (λ (why : Why). why_name why ≡ c.args.text.now) (λ (why : Why). why_name why ≡ c.args.text.now → ⊥) c.any.ensures.ran (YieldsList-from_slice REASONS cc) (λ x q k. search (rules, tests)) (λ x q k. search (rules, tests)) in
    some_named c.any.result c.args.text.now told

pub returns-clause-no : goal.returns-clause-no
returns-clause-no c =
    let told = cases_from_any _ _ c.any.result (λ (why : Why). why_name why ≡ c.args.text.now) (λ (why : Why). why_name why ≡ c.args.text.now → ⊥) c.any.ensures.ran (YieldsList-from_slice REASONS cc) (λ x q k. search (rules, tests)) (λ x q k. search (rules, tests)) in
    none_named c.any.result c.args.text.now told
