use Rattle.std.proofs.Common.{List, Option, subst, ℕ}
use Rattle.zvt_text.specs.Results.{with_meaning}
use Rattle.zvt_text.specs.Writing.{Puts}
use Rattle.zvt_text.proofs.write.put_result.Goals as goal

pub returns : goal.returns
returns c =
    subst (λ (meaning : Option (List ℕ)). Puts c.put_code.result c.args.at c.args.buffer.now c.put_code.new.buffer (with_meaning c.args.code meaning)) c.printed_meaning.ensures
    c.put_code.ensures
