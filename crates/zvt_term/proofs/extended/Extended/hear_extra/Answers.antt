use Rattle.std.proofs.Common.{refl, sym, subst}
use Rattle.zvt_term.specs.declared.turns.Turn.{Turn}
use Rattle.zvt_term.specs.Inside.{IsSound}
use Rattle.zvt_term.specs.Extended.{extra_turn}
use Rattle.zvt_term.specs.Steps.{AreWritable, IsNext}
use Rattle.zvt_term.specs.Terminal.{after, reports_of}
use Rattle.zvt_term.proofs.ExtraLemmas.{extra_writable, next_row}
use Rattle.zvt_term.proofs.TurnLemmas.{short-before}
use Rattle.zvt_term.proofs.extended.Extended.hear_extra.Goals as goal

pub hear_turn-requires-clause-next : goal.hear_turn-requires-clause-next
hear_turn-requires-clause-next c = subst (λ (t : Turn). IsNext c.args.self.now.served.terminal t.row) (sym c.turn_of-turn.ensures) (next_row c.args.self.now.served.terminal c.args.self.now.refund c.args.extra.now)

pub hear_turn-requires-clause-writable : goal.hear_turn-requires-clause-writable
hear_turn-requires-clause-writable c =
    subst (λ (t : Turn). IsSound (after c.args.self.now.served.terminal t) → AreWritable (reports_of t.reply)) (sym c.turn_of-turn.ensures)
    (λ sound. extra_writable c.args.self.now.served.terminal c.args.self.now.refund c.args.extra.now (short-before c.args.self.now.served.terminal (extra_turn c.args.self.now.served.terminal c.args.self.now.refund c.args.extra.now) refl sound))
