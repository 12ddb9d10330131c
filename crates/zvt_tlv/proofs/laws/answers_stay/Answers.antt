use Rattle.zvt_tlv.proofs.LawProofs as law
use Rattle.zvt_tlv.proofs.laws.answers_stay.Goals as goal

pub returns : goal.returns
returns c = record { rooms = law.answers_stay; sized = law.sized_answers_stay }
