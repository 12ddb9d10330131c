use Rattle.std.proofs.Common.{rules}
use Rattle.zvt_trace.proofs.MarkingLemmas.{behind}
use Rattle.zvt_trace.proofs.marking.spell.Goals as goal

pub returns-in-Some : goal.returns-in-Some
returns-in-Some g c = λ done. behind c.in-Some.moment c.spell_at.new.line c.args.bytes.now (search rules) (search rules)
