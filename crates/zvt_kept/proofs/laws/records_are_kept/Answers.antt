use Rattle.zvt_kept.proofs.Made.{records_are_kept, records_are_taken, records_are_whole}
use Rattle.zvt_kept.proofs.laws.records_are_kept.Goals as goal

pub returns-clause-kept : goal.returns-clause-kept
returns-clause-kept c = records_are_kept

pub returns-clause-whole : goal.returns-clause-whole
returns-clause-whole c = records_are_whole

pub returns-clause-taken : goal.returns-clause-taken
returns-clause-taken c = records_are_taken
