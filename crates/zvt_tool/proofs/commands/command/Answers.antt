use Rattle.std.proofs.Common.{◌∙◌, ap, add-one, map, take}
use Rattle.std.proofs.Math.Seq.{take-suc}
use Rattle.std.proofs.lemmas.List.{take_all}
use Rattle.std.proofs.lemmas.Result.{IfOk-weaker}
use Rattle.clap.specs.Walk.{rule_of}
use Rattle.zvt_tool.specs.Options.{rule_for, with_rules}
use Rattle.zvt_tool.proofs.Builders.{local_more, rules_more, with_options}
use Rattle.zvt_tool.proofs.commands.command.Goals as goal

pub options-preserved : goal.options-preserved
options-preserved c =
    let rows = c.args.row.now.options.now in
    let i = c.options.option-index in
    let longer = ap (λ k. take k rows) (add-one i) ∙ take-suc rows i _ c.options-test.true in
    record {
      rules = rules_more c.options.options.items c.push.new.self.items rows i c.arg.result _ c.in_ok-push.ensures.items c.arg.ensures.rule longer c.options.invariant.rules;
      local = local_more c.options.options.items c.push.new.self.items c.arg.result c.in_ok-push.ensures.items c.options.invariant.local c.arg.ensures.local;
    }

pub returns : goal.returns
returns c =
    let options = c.options.options.items in
    let rules = c.options.invariant.rules ∙ ap (map rule_for) (take_all c.options.option-index c.args.row.now.options.now c.options-test.false) in
    record {
      app = IfOk-weaker c.args-2.result _ _ (λ r adds. (with_options c.plain.result r options c.plain.ensures.local c.options.invariant.local adds).0 ∙ (ap (λ app. with_rules app (map rule_of options)) c.plain.ensures.app ∙ ap (with_rules _) rules)) c.args-2.ensures;
      local = IfOk-weaker c.args-2.result _ _ (λ r adds. (with_options c.plain.result r options c.plain.ensures.local c.options.invariant.local adds).1) c.args-2.ensures;
    }
