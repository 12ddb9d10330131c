use Rattle.std.proofs.Common.{◌∙◌, ap}
use Rattle.zvt_stream.specs.Head.{head_of}
use Rattle.zvt_stream.proofs.buffer.Held.head.Goals as goal

pub returns : goal.returns
returns c = c.of.ensures ∙ ap head_of c.arrived.ensures
