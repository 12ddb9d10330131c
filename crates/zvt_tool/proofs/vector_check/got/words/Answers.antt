use Rattle.std.proofs.Common.{◌∙◌}
use Rattle.zvt_tool.proofs.VectorLemmas.{if_ok, same_line}
use Rattle.zvt_tool.proofs.vector_check.got.words.Goals as goal

pub returns : goal.returns
returns c = if_ok c.format.result (λ s told. told ∙ same_line c.args.number c.args.answer.now) c.format.ensures.ok
