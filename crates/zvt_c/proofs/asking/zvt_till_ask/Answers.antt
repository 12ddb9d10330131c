use Rattle.std.proofs.Common.{◌≡◌, Bool, Option, Some, option_map, sym, subst, ap, ◌∙◌, MatchBool}
use Rattle.zvt_c.specs.declared.session.Session.{Session}
use Rattle.zvt_c.specs.Asking.{AsksHandle}
use Rattle.zvt_c.specs.Numbers.{nothing}
use Rattle.zvt_c.proofs.asking.zvt_till_ask.Goals as goal

pub returns : goal.returns
returns c =
    subst
    (λ (small : Bool). MatchBool small ((c.of.result.raw_handle.held ≡ c.args.till.now.raw_handle.held) × (c.ask-status.new.out ≡ c.args.out.now) × (c.ask-status.new.answer ≡ nothing) × (c.ask-status.result ≡ 4))
    (AsksHandle c.args.till.now.raw_handle.held c.of.result.raw_handle.held c.args.out.now c.ask-status.new.out c.ask-status.new.answer c.ask-status.result))
    (sym (sym c.lacks_capacity.ensures.lacks ∙ c.if-lacks_capacity.false))
    (subst
    (λ (held : Option Session). AsksHandle held c.of.result.raw_handle.held c.args.out.now c.ask-status.new.out c.ask-status.new.answer c.ask-status.result)
    (ap Some c.deref_mut.ensures.value ∙ (sym (ap (option_map (λ end. end.value)) c.in-Some.is) ∙ c.take.ensures.taken))
    (c.ask-status.new.end, c.of.ensures, c.ask-status.ensures))
