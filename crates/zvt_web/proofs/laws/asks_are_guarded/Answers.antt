use Rattle.zvt_web.proofs.Guarded.{passes}
use Rattle.zvt_web.proofs.Routing as routing
use Rattle.zvt_web.proofs.laws.asks_are_guarded.Goals as goal

pub returns : goal.returns
returns c = λ g r a asked.
    let p = passes g r a asked in
    record {
      host = p.host;
      origin = p.origin;
      token = routing.token_shown g r a p.shown p.asks;
      posted = routing.orders_are_posted r a p.asks;
    }
