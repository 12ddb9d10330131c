use Rattle.std.proofs.Common.{◌≡◌, map, take}
use Rattle.clap.specs.Words.{app_of}
use Rattle.zvt_tool.specs.Commands.{all_commands, program_app, with_commands}
use Rattle.zvt_tool.specs.Options.{app_for}
use Rattle.zvt_tool.proofs.commands.zvt.Given as goal

abbrev pub invariant-commands : goal.invariant-commands
invariant-commands l = record {
  added : app_of l.program ≡ with_commands program_app (map app_for (take l.row-index l.row-items));
  all : map app_for l.row-items ≡ all_commands;
}
