use Rattle.std.proofs.Common.{sym, subst}
use Rattle.zvt_term.specs.declared.turns.Turn.{Turn}
use Rattle.zvt_term.specs.Inside.{IsSound}
use Rattle.zvt_term.specs.Steps.{AreWritable, IsNext}
use Rattle.zvt_term.specs.Terminal.{after, reports_of}
use Rattle.zvt_term.proofs.ExtraLemmas.{window_next, window_writable}
use Rattle.zvt_term.proofs.extended.Extended.hear_window.Goals as goal

pub hear_turn-requires-clause-next : goal.hear_turn-requires-clause-next
hear_turn-requires-clause-next c = subst (λ (t : Turn). IsNext c.args.self.now.served.terminal t.row) (sym c.window_turn-turn.ensures) (window_next c.args.self.now.served.terminal c.args.asked.now)

pub hear_turn-requires-clause-writable : goal.hear_turn-requires-clause-writable
hear_turn-requires-clause-writable c =
    subst (λ (t : Turn). IsSound (after c.args.self.now.served.terminal t) → AreWritable (reports_of t.reply)) (sym c.window_turn-turn.ensures)
    (λ sound. window_writable c.args.self.now.served.terminal c.args.asked.now)
