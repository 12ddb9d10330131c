use Rattle.std.proofs.Common.{true}
use Rattle.zvt_grammar.specs.Lengths.{reading_of}
use Rattle.zvt_tlv.specs.Answers.{role_of_length}
use Rattle.zvt_tlv.proofs.SizedReading.{InLength}
use Rattle.zvt_tlv.proofs.heads.scan_size.Given as goal

abbrev pub invariant-loop-count : goal.invariant-loop-count
invariant-loop-count l = InLength (reading_of l.lengths) l.room (role_of_length true l.at) l.bytes l.count
