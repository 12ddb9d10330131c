use Rattle.std.proofs.Common.{ℕ, Some, option_map, ap, ◌∙◌}
use Rattle.zvt_till.specs.Settings.{strict}
use Rattle.zvt_till.specs.Till.{TillState, new_till}
use Rattle.zvt_settle.specs.Inside.{both_of}
use Rattle.zvt_settle.specs.Settling.{Both, new_settling}
use Rattle.zvt_c.proofs.till.zvt_till_new.Goals as goal

abbrev with_nothing_settled : TillState → Both
with_nothing_settled state = record { till = state; settling = new_settling }

pub returns-in-Ok-clause-made : goal.returns-in-Ok-clause-made
returns-in-Ok-clause-made c _ =
    let held = c.of.ensures ∙ ap Some c.in-Ok.ensures.ok in
    let opened = c.new-2.ensures.state ∙ ap (λ (n : ℕ). new_till (record { password = c.put.new.out; config = c.args.config; currency = n; rules = strict })) c.in-Some.ensures.value in (
      c.put.new.out,
      c.put.ensures.digits,
      c.put.ensures.value ∙ c.from.ensures,
      ap (option_map (λ end. both_of end.till)) held ∙ ap Some (c.new-3.ensures.both ∙ ap with_nothing_settled opened),
      ap (option_map (λ end. end.stream)) held ∙ ap Some c.new-4.ensures,
      ap (option_map (λ end. end.card)) held ∙ ap Some c.none.ensures,
    )
