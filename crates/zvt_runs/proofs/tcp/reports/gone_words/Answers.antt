use Rattle.zvt_runs.proofs.Gone.{says_words}
use Rattle.zvt_runs.proofs.tcp.reports.gone_words.Goals as goal

pub returns : goal.returns
returns c = says_words c.args.till c.args.broke c.args.approved _ _ _ c.new-text.ensures c.in_ok-say_gone.ensures c.in_ok-say_ledger.ensures
