use Rattle.std.proofs.Common.{◌∙◌, ◌∷◌, [], ap, ap₂, add-one, map, refl, take}
use Rattle.std.proofs.Math.Seq.{take-suc}
use Rattle.std.proofs.lemmas.List.{take_all}
use Rattle.zvt_tool.specs.Commands.{program_app, with_commands}
use Rattle.zvt_tool.specs.Options.{app_for}
use Rattle.zvt_tool.proofs.Builders.{command_added}
use Rattle.zvt_tool.proofs.commands.zvt.Goals as goal

pub commands-init : goal.commands-init
commands-init c =
    let ends = ap₂ (◌∷◌) c.tap_row.ensures (ap₂ (◌∷◌) c.serve_row.ensures (ap₂ (◌∷◌) c.play_row.ensures (ap₂ (◌∷◌) c.check_till_row.ensures (ap₂ (◌∷◌) c.check_terminal_row.ensures refl)))) in
    let runs = ap₂ (◌∷◌) c.book_row.ensures (ap₂ (◌∷◌) c.loop_row.ensures (ap₂ (◌∷◌) c.till_row.ensures (ap₂ (◌∷◌) c.terminal_row.ensures ends))) in
    let reads = ap₂ (◌∷◌) c.audit_row.ensures (ap₂ (◌∷◌) c.report_row.ensures (ap₂ (◌∷◌) c.receipts_row.ensures (ap₂ (◌∷◌) c.vectors_row.ensures runs))) in
    record {
      added = c.program-program.ensures;
      all = ap₂ (◌∷◌) c.show_row.ensures (ap₂ (◌∷◌) c.join_row.ensures (ap₂ (◌∷◌) c.normalise_row.ensures reads));
    }

pub commands-preserved : goal.commands-preserved
commands-preserved c =
    let rows = c.show_row.result ∷ c.join_row.result ∷ c.normalise_row.result ∷ c.audit_row.result ∷ c.report_row.result ∷ c.receipts_row.result ∷ c.vectors_row.result ∷ c.book_row.result ∷ c.loop_row.result ∷ c.till_row.result ∷ c.terminal_row.result ∷ c.tap_row.result ∷ c.serve_row.result ∷ c.play_row.result ∷ c.check_till_row.result ∷ c.check_terminal_row.result ∷ [] in
    let i = c.commands.row-index in
    record {
      added = command_added c.commands.program c.in_ok-program.program c.in_ok-command.field-0 rows i _ c.in_ok-command.ensures.app (c.in_ok-program.ensures.shape c.in_ok-command.ensures.local) (ap (λ k. take k rows) (add-one i) ∙ take-suc rows i _ c.commands-test.true) c.commands.invariant.added;
      all = c.commands.invariant.all;
    }

pub returns : goal.returns
returns c =
    c.commands.invariant.added ∙ (ap (λ rows. with_commands program_app (map app_for rows)) (take_all c.commands.row-index _ c.commands-test.false) ∙ ap (with_commands program_app) c.commands.invariant.all)
