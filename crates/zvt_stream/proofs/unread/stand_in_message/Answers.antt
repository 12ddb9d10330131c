use Rattle.std.proofs.Common.{subst, sym}
use Rattle.zvt_apdu.specs.Messages.{HasSpelling}
use Rattle.zvt_stream.proofs.StandIns.{has_spelling}
use Rattle.zvt_stream.proofs.unread.stand_in_message.Goals as goal

pub unreachable-requires : goal.unreachable-requires
unreachable-requires c = c.in-Err.ensures.err.2 (subst HasSpelling (sym c.unchecked_stand_in.ensures) (has_spelling c.args.kind))
