use Rattle.std.proofs.Common.{refl}
use Rattle.std.specs.Str.Parse.{ParsesUnsigned, ExplainsUnsignedError, HasUnsignedDigitsIfOk}
use Rattle.clap.specs.Matches.{found_of}
use Rattle.zvt_tool.proofs.Reading.{number_read}
use Rattle.zvt_tool.proofs.given.number.Goals as goal

pub returns : goal.returns
returns c =
    number_read (λ bs r. ParsesUnsigned 16 10 bs r × ExplainsUnsignedError 10 bs r × HasUnsignedDigitsIfOk bs r)
    16 65535 (found_of c.args.inner.now) c.args.id.now c.get_one.result (λ t n given. given.0) refl
    c.get_one.ensures.none c.get_one.ensures.value
