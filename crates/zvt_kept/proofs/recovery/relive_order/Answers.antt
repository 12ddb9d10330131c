use Rattle.std.proofs.Common.{◌≡◌, false, true, ap, ◌∙◌}
use denote.Enum.Bare.{sameb}
use Rattle.zvt_till.specs.contracts.orders.OrderRefusal.{the_type}
use Rattle.zvt_till.specs.declared.orders.OrderRefusal.TheVariants.{Memory}
use Rattle.zvt_settle.specs.Inside.{both_of}
use Rattle.zvt_kept.proofs.Replayed.{order_replays, order_turned}
use Rattle.zvt_kept.proofs.recovery.relive_order.Goals as goal

pub returns-in-Ok : goal.returns-in-Ok
returns-in-Ok c = λ note.
    order_replays c.args.order.now note (both_of c.args.till.now) (both_of c.order.new.self) c.in-Ok.ensures.taken c.in-Ok.ensures.idle c.in-Ok.ensures.sent

pub returns-in-Err-2 : goal.returns-in-Err-2
returns-in-Err-2 c = λ note.
    order_turned c.args.order.now note (both_of c.args.till.now) (both_of c.order.new.self) c.args.till.now.till.spare c.in-Err.why c.in-Err.ensures.refused
    (λ is. let both : false ≡ true = c.if-eq.ensures ∙ ap (λ w. sameb the_type w Memory) is in absurd cc)
