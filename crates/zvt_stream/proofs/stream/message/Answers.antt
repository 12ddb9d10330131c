use Rattle.zvt_grammar.specs.Lengths.{reading_of}
use Rattle.zvt_stream.proofs.LentLemmas.{message_bytes}
use Rattle.zvt_stream.proofs.stream.message.Goals as goal

pub spelled-requires : goal.spelled-requires
spelled-requires c = message_bytes (reading_of c.args.lengths) _ c.requires.whole
