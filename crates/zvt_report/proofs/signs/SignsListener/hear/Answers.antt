use Rattle.zvt_report.proofs.signs.SignsListener.hear.Goals as goal

pub returns-in-FromTerminal : goal.returns-in-FromTerminal
returns-in-FromTerminal c = rw (c.in-Message.is, c.in-FromTerminal.is) (c.hear_terminal.ensures c.args.line)
