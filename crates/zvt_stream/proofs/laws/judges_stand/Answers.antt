use Rattle.zvt_stream.proofs.DecoderStateLemmas.{stood}
use Rattle.zvt_stream.proofs.laws.judges_stand.Goals as goal

pub returns : goal.returns
returns c judge bytes h = stood judge.reading judge.at judge.left judge.outer bytes h.stands
