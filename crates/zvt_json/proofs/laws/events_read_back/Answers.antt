use Rattle.zvt_json.proofs.Depths.{event_fits}
use Rattle.zvt_json.proofs.Order.{event_ordered}
use Rattle.zvt_json.proofs.ReadBack.{reads_back}
use Rattle.zvt_json.proofs.laws.events_read_back.Goals as goal

pub returns : goal.returns
returns c = λ line event value is small numbers.
    let fit = event_fits line event value is small numbers in
    reads_back value fit.0 (event_ordered line event value is) fit.1
