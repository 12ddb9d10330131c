use Rattle.std.proofs.Common.{map, Bor, List, ℕ}
use Rattle.zvt_tool.proofs.Program.{fails_by, fault_taken, no_fault, reading_known}
use Rattle.zvt_tool.proofs.arguments.matches.Goals as goal

pub returns-in-Ok-clause-read : goal.returns-in-Ok-clause-read
returns-in-Ok-clause-read c =
    let words = map (λ (w : Bor (List ℕ)). w.now) c.args.arguments.now in
    reading_known c.in_ok-command.command words c.in-Ok.matches c.in_ok-command.ensures c.in-Ok.ensures.matches

pub returns-in-Ok-clause-faultless : goal.returns-in-Ok-clause-faultless
returns-in-Ok-clause-faultless c =
    let words = map (λ (w : Bor (List ℕ)). w.now) c.args.arguments.now in
    let parse = c.try_get_matches_from in
    no_fault words parse.result c.in-Ok.matches c.in-Ok.is
    (fails_by c.in_ok-command.command words parse.result c.in_ok-command.ensures parse.ensures.kinds)

pub returns-in-Err-clause-refused : goal.returns-in-Err-clause-refused
returns-in-Err-clause-refused c =
    let words = map (λ (w : Bor (List ℕ)). w.now) c.args.arguments.now in
    let parse = c.try_get_matches_from in
    fault_taken words parse.result c.in-Err.error c.refused.result c.in-Err.is
    (fails_by c.in_ok-command.command words parse.result c.in_ok-command.ensures parse.ensures.kinds) c.refused.ensures
