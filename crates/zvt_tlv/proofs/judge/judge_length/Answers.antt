use Rattle.std.proofs.Common.{rules}
use Rattle.zvt_tlv.proofs.judge.judge_length.Goals as goal

pub returns-in-First : goal.returns-in-First
returns-in-First c depth = rw c.in-First.is (c.judge_first_length_byte.ensures depth)

pub returns-else-size-least : goal.returns-else-size-least
returns-else-size-least c = search rules
