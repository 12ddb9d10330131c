use Rattle.std.proofs.Common.{false, ap, refl}
use Rattle.zvt_stream.proofs.LentLemmas.{emptied}
use Rattle.zvt_stream.proofs.stream.Stream.reading.Goals as goal

pub invariant_of-result-2 : goal.invariant_of-result-2
invariant_of-result-2 c = emptied c.args.form.passes _ false false c.new.result.bytes c.of.result refl refl c.of.ensures.new (ap (λ h. h.bytes) c.new.ensures)
