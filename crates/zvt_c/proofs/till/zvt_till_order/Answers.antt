use Rattle.std.proofs.Common.{◌≡◌, Bool, Option, Some, option_map, sym, subst, ap, ◌∙◌, MatchBool, MatchOption}
use Rattle.zvt_till.specs.declared.orders.Order.{Order}
use Rattle.zvt_c.specs.declared.session.Session.{Session}
use Rattle.zvt_c.specs.Numbers.{nothing}
use Rattle.zvt_c.specs.Ordering.{OrdersEnd, OrdersHandle}
use Rattle.zvt_c.proofs.till.zvt_till_order.Goals as goal

pub returns : goal.returns
returns c =
    subst
    (λ (small : Bool). MatchBool small ((c.of.result.raw_handle.held ≡ c.args.till.now.raw_handle.held) × (c.give-status.new.out ≡ c.args.out.now) × (c.give-status.new.answer ≡ nothing) × (c.give-status.result ≡ 4))
    (OrdersHandle c.args.till.now.raw_handle.held c.args.kind c.args.number c.of.result.raw_handle.held c.args.out.now c.give-status.new.out c.give-status.new.answer c.give-status.result))
    (sym (sym c.lacks_capacity.ensures.lacks ∙ c.if-lacks_capacity.false))
    (subst
    (λ (held : Option Session). OrdersHandle held c.args.kind c.args.number c.of.result.raw_handle.held c.args.out.now c.give-status.new.out c.give-status.new.answer c.give-status.result)
    (ap Some c.deref_mut.ensures.value ∙ (sym (ap (option_map (λ end. end.value)) c.in-Some-take.is) ∙ c.take.ensures.taken))
    (subst
    (λ (named : Option Order). MatchOption named ((c.of.result.raw_handle.held ≡ Some c.deref_mut.result.now) × (c.give-status.new.out ≡ c.args.out.now) × (c.give-status.new.answer ≡ nothing) × (c.give-status.result ≡ 5))
    (λ order. (end : Session) × (c.of.result.raw_handle.held ≡ Some end) × OrdersEnd c.deref_mut.result.now order end c.args.out.now c.give-status.new.out c.give-status.new.answer c.give-status.result))
    (sym c.in-Some.is ∙ c.order_of.ensures)
    (c.give-status.new.end, c.of.ensures, c.give-status.ensures)))
