use Rattle.zvt_term.specs.Inside.{value_of}
use Rattle.zvt_term.proofs.TurnLemmas.{one_more}
use Rattle.zvt_term.proofs.terminal.Terminal.write_down.Goals as goal

pub invariant_of-self : goal.invariant_of-self
invariant_of-self c =
    one_more c.args.self.now (value_of c.self.inside) c.args.row.now c.in-Some.row c.push.new.self.items c.self.invariant c.self.view_is c.in-Some.is c.requires c.in_ok-push.ensures.items
