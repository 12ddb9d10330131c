use Rattle.std.proofs.Common.{◌∙◌, ap, refl, sym, take}
use Rattle.zvt_stream.specs.StreamState.{StreamState}
use Rattle.zvt_trace.proofs.StartLemmas.{new_follows}
use Rattle.zvt_trace.proofs.side.SideReader.new.Goals as goal

pub returns-clause-follows : goal.returns-clause-follows
returns-clause-follows c = (new_follows c.of.result c.of.ensures, refl)

pub returns-clause-reading : goal.returns-clause-reading
returns-clause-reading c = (ap (λ (s : StreamState). s.reading) c.of.ensures, tt)
