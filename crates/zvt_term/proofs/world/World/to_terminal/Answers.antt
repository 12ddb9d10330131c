use Rattle.std.proofs.Common.{sym, subst}
use Rattle.zvt_term.specs.declared.turns.Turn.{Turn}
use Rattle.zvt_term.specs.Steps.{AreWritable, IsNext}
use Rattle.zvt_term.specs.Terminal.{reports_of}
use Rattle.zvt_term.proofs.TurnLemmas.{turn-sound, short-before}
use Rattle.zvt_term.proofs.world.World.to_terminal.Goals as goal

pub make-requires : goal.make-requires
make-requires c = subst (λ (t : Turn). IsNext c.args.self.now.terminal t.row) (sym c.turn_of-turn.ensures) (turn-sound c.args.self.now.terminal c.asked.result c.args.verdict).next

pub keep_said-requires : goal.keep_said-requires
keep_said-requires c =
    subst (λ (t : Turn). AreWritable (reports_of t.reply)) (sym c.turn_of-turn.ensures) ((turn-sound c.args.self.now.terminal c.asked.result c.args.verdict).writable
    (short-before c.args.self.now.terminal c.turn_of-turn.result c.in_ok-make.ensures.made c.in_ok-make.ensures.sound))
