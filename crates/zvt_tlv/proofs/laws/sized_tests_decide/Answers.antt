use Rattle.zvt_tlv.proofs.LawProofs as law
use Rattle.zvt_tlv.proofs.laws.sized_tests_decide.Goals as goal

pub returns : goal.returns
returns c = record { decide = law.sized_tests_decide; some = law.each_sized_beginning_stands; one = law.sized_positions_are_one }
