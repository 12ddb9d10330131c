use Rattle.std.proofs.Common.{rules, sym, ◌∙◌, refl}
use Rattle.zvt_field.proofs.BodyLemmas.{size_known, body_spelled}
use Rattle.zvt_field.proofs.bodies.Field.checked.Goals as goal

pub returns-then-not-size_agrees-clause-ok : goal.returns-then-not-size_agrees-clause-ok
returns-then-not-size_agrees-clause-ok c =
    (λ e. absurd (cc (e)), λ h. c.if-not-size_agrees.ensures.size c.args.bmp ∙ size_known c.args.bmp c.args.body c.in-Some.shape (sym c.shape.ensures ∙ c.in-Some.is) h)

pub invariant_of-result : goal.invariant_of-result
invariant_of-result c =
    body_spelled c.args.bmp c.args.body c.in-Some.shape (sym c.shape.ensures ∙ c.in-Some.is) (c.if-not-size_agrees.ensures.size c.args.bmp) ((c.if-not-digits_agree.ensures c.args.bmp).0 (search rules)) (c.if-not-size_agrees.ensures.parts c.args.bmp)

pub returns-clause-ok : goal.returns-clause-ok
returns-clause-ok c = (λ e. invariant_of-result c, λ h. refl)
