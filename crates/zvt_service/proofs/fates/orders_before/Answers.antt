use Rattle.std.proofs.Common.{◌∙◌, ap, not, take}
use Rattle.std.proofs.lemmas.List.Folds.{length-prefix_len}
use Rattle.zvt_kept.specs.PastOrders.{is_noted_as}
use Rattle.zvt_service.proofs.fates.orders_before.Goals as goal

pub returns : goal.returns
returns c = ap (λ n. take n c.args.orders.now) (c.count_before.ensures ∙ length-prefix_len (λ one. not (is_noted_as c.args.key.now one)) c.args.orders.now)
