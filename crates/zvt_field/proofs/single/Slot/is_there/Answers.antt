use Rattle.std.proofs.Common.{[], subst}
use Rattle.zvt_field.specs.Single.{Saw}
use Rattle.zvt_field.proofs.ViewLemmas.{is_there, not_there}
use Rattle.zvt_field.proofs.single.Slot.is_there.Goals as goal

pub returns-in-Absent : goal.returns-in-Absent
returns-in-Absent c = λ fields saw. not_there c.args.bmp fields (subst (λ s. Saw c.args.bmp fields s []) c.in-Absent.is saw)

pub returns-in-Once : goal.returns-in-Once
returns-in-Once c = λ fields saw. is_there c.args.bmp fields _ _ (subst (λ s. Saw c.args.bmp fields s []) c.in-Once.is saw)

pub returns-in-Many : goal.returns-in-Many
returns-in-Many c = λ fields saw. let many = subst (λ s. Saw c.args.bmp fields s []) c.in-Many.is saw in is_there c.args.bmp fields _ _ many.3
