use Rattle.zvt_grammar.specs.Lengths.{reading_of}
use Rattle.zvt_tlv.specs.Answers.{role_of_tag}
use Rattle.zvt_tlv.proofs.Reading.{InHead}
use Rattle.zvt_tlv.proofs.heads.scan_tag.Given as goal

abbrev pub invariant-loop-count : goal.invariant-loop-count
invariant-loop-count l = InHead (reading_of l.lengths) l.depth l.room (role_of_tag l.at) l.bytes l.count
