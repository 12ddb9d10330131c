use Rattle.zvt_runs.proofs.Crashed.{crashes_account, crashes_are_losses, crashes_keep_reversals, crashes_match, files_are_worlds}
use Rattle.zvt_runs.proofs.laws.crashes_are_losses.Goals as goal

pub returns-clause-same : goal.returns-clause-same
returns-clause-same c = crashes_are_losses

pub returns-clause-files : goal.returns-clause-files
returns-clause-files c = files_are_worlds

pub returns-clause-matches : goal.returns-clause-matches
returns-clause-matches c = crashes_match

pub returns-clause-account : goal.returns-clause-account
returns-clause-account c = crashes_account

pub returns-clause-reversals : goal.returns-clause-reversals
returns-clause-reversals c = crashes_keep_reversals
