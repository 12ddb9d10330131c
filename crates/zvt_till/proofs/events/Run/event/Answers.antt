use Rattle.std.proofs.Common.{◌≡◌, true, false, ◌∙◌, sym}
use Rattle.zvt_till.specs.Log.{line_up}
use Rattle.zvt_till.proofs.Runs.{tied-line}
use Rattle.zvt_till.proofs.Lines.{piece-follows, piece-unread, connected-follows, lost-follows, order-follows}
use Rattle.zvt_till.proofs.events.Run.event.Goals as goal

pub piece-requires-clause-up : goal.piece-requires-clause-up
piece-requires-clause-up c = sym (tied-line _ _ _ c.requires.tied) ∙ sym c.line_up-in-Piece.ensures ∙ c.if-line_up.true

pub piece-requires-clause-strict : goal.piece-requires-clause-strict
piece-requires-clause-strict c = c.requires.strict (sym (tied-line _ _ _ c.requires.tied) ∙ sym c.line_up-in-Piece.ensures ∙ c.if-line_up.true)

pub piece-requires-clause-runs : goal.piece-requires-clause-runs
piece-requires-clause-runs c = c.requires.runs (sym (tied-line _ _ _ c.requires.tied) ∙ sym c.line_up-in-Piece.ensures ∙ c.if-line_up.true)

pub returns-in_ok-connected-in-Connected-clause-follows : goal.returns-in_ok-connected-in-Connected-clause-follows
returns-in_ok-connected-in-Connected-clause-follows c bytes holds =
    rw c.in-Connected.is
    (connected-follows c.args.self.now.log.items _ bytes _ _ c.line_up.result (c.line_up.ensures ∙ tied-line _ _ _ c.requires.tied) c.start_line.ensures c.in_ok-connected-in-Connected.ensures.log holds)

pub returns-in_ok-order-in-Order-clause-follows : goal.returns-in_ok-order-in-Order-clause-follows
returns-in_ok-order-in-Order-clause-follows c bytes holds = rw c.in-Order.is (order-follows c.args.self.now.log.items _ bytes c.args.stream.now c.in-Order.order c.in_ok-order-in-Order.ensures.log holds)

pub returns-in_ok-piece-in-Piece-clause-follows : goal.returns-in_ok-piece-in-Piece-clause-follows
returns-in_ok-piece-in-Piece-clause-follows c bytes holds =
    let up : line_up c.args.self.now.log.items ≡ true = sym (tied-line _ _ _ c.requires.tied) ∙ sym c.line_up-in-Piece.ensures ∙ c.if-line_up.true in
    let read = rw c.as_slice.ensures.value at c.in_ok-piece-in-Piece.ensures.read in
    rw c.in-Piece.is (piece-follows c.args.self.now.log.items _ bytes c.in-Piece.piece.items c.args.stream.now c.piece.new.stream holds up read)

pub returns-else-line_up-clause-follows : goal.returns-else-line_up-clause-follows
returns-else-line_up-clause-follows c bytes holds =
    let down : line_up c.args.self.now.log.items ≡ false = sym (tied-line _ _ _ c.requires.tied) ∙ sym c.line_up-in-Piece.ensures ∙ c.if-line_up.false in
    rw c.in-Piece.is (piece-unread c.args.self.now.log.items bytes c.in-Piece.piece.items c.args.stream.now holds down)

pub returns-in_ok-lost-in-Lost-clause-follows : goal.returns-in_ok-lost-in-Lost-clause-follows
returns-in_ok-lost-in-Lost-clause-follows c bytes holds = rw c.in-Lost.is (lost-follows c.args.self.now.log.items _ bytes c.args.stream.now c.in_ok-lost-in-Lost.ensures.log)
