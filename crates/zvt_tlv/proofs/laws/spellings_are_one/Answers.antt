use Rattle.zvt_tlv.proofs.LawProofs as law
use Rattle.zvt_tlv.proofs.laws.spellings_are_one.Goals as goal

pub returns : goal.returns
returns c = record { objects = law.spellings_are_one; sized = law.sized_spellings_are_one }
