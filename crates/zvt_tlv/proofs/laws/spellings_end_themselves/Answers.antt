use Rattle.zvt_tlv.proofs.LawProofs as law
use Rattle.zvt_tlv.proofs.laws.spellings_end_themselves.Goals as goal

pub returns : goal.returns
returns c = record { objects = law.objects_end_themselves; rooms = law.rooms_end_themselves; sized = law.sized_end_themselves }
