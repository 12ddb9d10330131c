use Rattle.std.proofs.Common.{◌≡◌, ◌==◌, ℕ, Bool, true, false, cond, eqb-true, List, [], ◌∷◌, ◌++◌, ◌∙◌, length, ap, codes, sym, subst, refl, arith}
use Rattle.std.specs.Prelude.{OnOk}
use Rattle.zvt_tool.specs.Verdicts.{case, escaped}
use Rattle.zvt_tool.proofs.Parts.{begins, ends}
use Rattle.zvt_tool.proofs.verdicts.add_case.Goals as goal

-- a situation that is passed
passes : (name difference : List ℕ) → true ≡ (length difference == 0) → codes "  <testcase name=\"" ++ (escaped name ++ codes "\"/>\n") ≡ case name difference
passes name [] empty = refl
passes name (byte ∷ more) empty = absurd (omega (arith, eqb-true (length (byte ∷ more)) 0 (sym empty)))

-- a situation that is not
differs : (name difference : List ℕ) → false ≡ (length difference == 0)
    → codes "  <testcase name=\"" ++ (escaped name ++ (codes "\"><failure>" ++ (escaped difference ++ codes "</failure></testcase>\n"))) ≡ case name difference
differs name [] some = absurd (subst (λ (b : Bool). cond b ⊥ (Unit {0})) some tt)
differs name (byte ∷ more) some = refl

pub returns-then-is_empty : goal.returns-then-is_empty
returns-then-is_empty c =
    let r = c.word-then-is_empty.result in
    let new = c.word-then-is_empty.new.self in
    let named = escaped c.args.name.now in
    let closed = codes "\"/>\n" in
    subst (λ (said : List ℕ). OnOk r (new ≡ c.args.text.now ++ said)) (passes c.args.name.now c.args.difference.now c.if-is_empty.ensures)
    (begins r c.args.text.now c.word.new.self new (codes "  <testcase name=\"") (named ++ closed) c.in_ok-word.ensures
    (ends r c.word.new.self c.add_escaped.new.text new named closed (c.in_ok-add_escaped.ensures ∙ ap (λ (l : List ℕ). c.word.new.self ++ escaped l) c.as_bytes.ensures.value) c.word-then-is_empty.ensures))

pub returns : goal.returns
returns c =
    let r = c.word-3.result in
    let new = c.word-3.new.self in
    let named = escaped c.args.name.now in
    let told = escaped c.args.difference.now in
    let closed = codes "</failure></testcase>\n" in
    let failure = codes "\"><failure>" in
    subst (λ (said : List ℕ). OnOk r (new ≡ c.args.text.now ++ said)) (differs c.args.name.now c.args.difference.now c.if-is_empty.ensures)
    (begins r c.args.text.now c.word.new.self new (codes "  <testcase name=\"") (named ++ (failure ++ (told ++ closed))) c.in_ok-word.ensures
    (begins r c.word.new.self c.add_escaped.new.text new named (failure ++ (told ++ closed)) (c.in_ok-add_escaped.ensures ∙ ap (λ (l : List ℕ). c.word.new.self ++ escaped l) c.as_bytes.ensures.value)
    (begins r c.add_escaped.new.text c.word-2.new.self new failure (told ++ closed) c.in_ok-word-2.ensures
    (ends r c.word-2.new.self c.add_escaped-2.new.text new told closed c.in_ok-add_escaped-2.ensures c.word-3.ensures))))
