use Rattle.std.proofs.Common.{◌≡◌, map, take}
use Rattle.clap.specs.Words.{rule_of}
use Rattle.zvt_tool.specs.Options.{AreLocal, rule_for}
use Rattle.zvt_tool.proofs.commands.command.Given as goal

abbrev pub invariant-options : goal.invariant-options
invariant-options l = record {
  rules : map rule_of l.options.items ≡ map rule_for (take l.option-index l.fn.row.options.now);
  local : AreLocal l.options.items;
}
