use Rattle.std.proofs.Common.{sym, subst}
use Rattle.zvt_term.specs.declared.turns.Turn.{Turn}
use Rattle.zvt_term.specs.Steps.{AreWritable, IsNext}
use Rattle.zvt_term.specs.Terminal.{reports_of}
use Rattle.zvt_term.proofs.TurnLemmas.{turn-sound, short-before}
use Rattle.zvt_term.proofs.terminal.Terminal.hear.Goals as goal

pub make-requires : goal.make-requires
make-requires c = subst (λ (t : Turn). IsNext c.args.self.now t.row) (sym c.turn_of-turn.ensures) (turn-sound c.args.self.now c.args.asked.now c.args.verdict).next

pub answers_of-requires : goal.answers_of-requires
answers_of-requires c =
    subst (λ (t : Turn). AreWritable (reports_of t.reply)) (sym c.turn_of-turn.ensures) ((turn-sound c.args.self.now c.args.asked.now c.args.verdict).writable
    (short-before c.args.self.now c.turn_of-turn.result c.in_ok-make.ensures.made c.in_ok-make.ensures.sound))
