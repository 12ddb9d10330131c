use Rattle.zvt_tlv.proofs.LawProofs as law
use Rattle.zvt_tlv.proofs.laws.answers_are_one.Goals as goal

pub returns : goal.returns
returns c = record { rooms = law.answers_are_one; sized = law.sized_answers_are_one }
