use Rattle.std.proofs.Common.{Option, Some, option_map, sym, subst, ap, ◌∙◌}
use Rattle.zvt_c.specs.declared.session.Session.{Session}
use Rattle.zvt_c.specs.Recovering.{RecoversHandle}
use Rattle.zvt_c.proofs.recovery.zvt_till_recover.Goals as goal

pub returns : goal.returns
returns c =
    subst (λ (held : Option Session). RecoversHandle held c.args.text.now c.of.result.raw_handle.held c.recover_end.result)
    (ap Some c.deref_mut.ensures.value ∙ (sym (ap (option_map (λ end. end.value)) c.in-Some.is) ∙ c.take.ensures.taken)) (c.recover_end.new.end, c.of.ensures, c.recover_end.ensures)
