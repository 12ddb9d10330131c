use Rattle.std.proofs.Common.{◌≡◌, ◌∙◌, refl, sym, rules}
use Rattle.std.proofs.lemmas.Result.{err_from_is_err_and}
use Rattle.zvt_grammar.specs.Lengths.{reading_of}
use Rattle.zvt_trace.specs.Lending.{side_of}
use Rattle.zvt_trace.specs.Emitting.{other}
use Rattle.zvt_trace.specs.Listening.{FollowBoth}
use Rattle.zvt_trace.specs.Trace.{Sides}
use Rattle.zvt_trace.specs.Written.{Follows}
use Rattle.zvt_trace.specs.declared.listener.Scope.TheVariants.{WholeLine}
use Rattle.zvt_trace.proofs.SidesLemmas.{facing, follows_own, own, side_end_fails, side_gives_up, side_goes_on, side_piece_fails, unheard_ends}
use Rattle.zvt_trace.proofs.walker.BothSides.feed_piece.Goals.{else-has_stopped-via-then-has_stopped+else-eq, else-has_stopped-via-else-has_stopped, in-FromTill, in-FromTerminal}
use Rattle.zvt_trace.proofs.walker.BothSides.feed_piece.Goals as goal

pub returns-then-self-clause-emits : goal.returns-then-self-clause-emits
returns-then-self-clause-emits g c = λ sides follow. unheard_ends g.L.Listener.hears g.L.Listener.fails _ _ _ _ sides _ _ _ c.emit_unread.result follow c.if-self.true c.emit_unread.ensures

pub returns-in_err-feed_piece-clause-emits : goal.returns-in_err-feed_piece-clause-emits
returns-in_err-feed_piece-clause-emits g c = λ sides follow.
    let p = err_from_is_err_and c.from_residual.result c.from_residual.ensures.1 in
    let follows : Follows (reading_of c.args.options.now.lengths) c.side-reader.result.now (own c.args.from sides) = rw c.side-reader.ensures.value (follows_own c.args.from c.args.self.now sides follow c.if-self.false) in
    rw (p.1, p.2) (side_piece_fails g.L.Listener.hears g.L.Listener.fails _ _ _ c.args.from _ sides c.args.self.now _ _ follow c.if-self.false (c.in_err-feed_piece.ensures.emits (own c.args.from sides) follows))

pub returns-in_err-emit_truncation-clause-emits : goal.returns-in_err-emit_truncation-clause-emits
returns-in_err-emit_truncation-clause-emits g c = λ sides follow.
    let p = err_from_is_err_and c.from_residual-in_err-emit_truncation.result c.from_residual-in_err-emit_truncation.ensures.1 in
    let follows : Follows (reading_of c.args.options.now.lengths) c.side-reader.result.now (own c.args.from sides) = rw c.side-reader.ensures.value (follows_own c.args.from c.args.self.now sides follow c.if-self.false) in
    let beside : c.match-from.other.now ≡ side_of (other c.args.from) c.args.self.now = elim c.match-from.branch [
      | in-FromTill w ↦ rw (w.other-is, w.in-FromTill.is) refl
      | in-FromTerminal w ↦ rw (w.other-is, w.in-FromTerminal.is) refl
    ] in
    let facing_it : Follows (reading_of c.args.options.now.lengths) c.match-from.other.now (facing c.args.from sides) = rw beside (follows_own (other c.args.from) c.args.self.now sides follow c.if-self.false) in
    let whole : c.args.options.now.scope ≡ WholeLine = search rules in
    rw (p.1, p.2) (side_end_fails g.L.Listener.hears g.L.Listener.fails _ _ _ c.args.from _ _ sides c.feed_piece.new.reader _ _ _ whole c.other.ensures (c.in_ok-feed_piece.ensures.emits (own c.args.from sides) follows) (search rules)
    (c.in_err-emit_truncation.ensures _ (facing c.args.from sides) facing_it.0))

pub returns-in_ok-emit_truncation-clause-emits : goal.returns-in_ok-emit_truncation-clause-emits
returns-in_ok-emit_truncation-clause-emits g c = λ sides follow.
    let follows : Follows (reading_of c.args.options.now.lengths) c.side-reader.result.now (own c.args.from sides) = rw c.side-reader.ensures.value (follows_own c.args.from c.args.self.now sides follow c.if-self.false) in
    let beside : c.match-from.other.now ≡ side_of (other c.args.from) c.args.self.now = elim c.match-from.branch [
      | in-FromTill w ↦ rw (w.other-is, w.in-FromTill.is) refl
      | in-FromTerminal w ↦ rw (w.other-is, w.in-FromTerminal.is) refl
    ] in
    let facing_it : Follows (reading_of c.args.options.now.lengths) c.match-from.other.now (facing c.args.from sides) = rw beside (follows_own (other c.args.from) c.args.self.now sides follow c.if-self.false) in
    let whole : c.args.options.now.scope ≡ WholeLine = search rules in
    side_gives_up g.L.Listener.hears _ _ c.args.from _ _ sides c.args.self.now c.feed_piece.new.reader _ _ _ whole c.other.ensures (c.in_ok-feed_piece.ensures.emits (own c.args.from sides) follows) (search rules)
    (c.in_ok-emit_truncation.ensures _ (facing c.args.from sides) facing_it.0)

pub returns-else-has_stopped-clause-emits : goal.returns-else-has_stopped-clause-emits
returns-else-has_stopped-clause-emits g c = λ sides follow.
    let follows : Follows (reading_of c.args.options.now.lengths) c.side-reader.result.now (own c.args.from sides) = rw c.side-reader.ensures.value (follows_own c.args.from c.args.self.now sides follow c.if-self.false) in
    side_goes_on g.L.Listener.hears _ _ c.args.from _ sides c.args.self.now c.feed_piece.new.reader _ _ follow c.if-self.false (c.in_ok-feed_piece.ensures.emits (own c.args.from sides) follows)
    (λ whole. elim c.else-has_stopped.branch [
      | else-has_stopped-via-then-has_stopped+else-eq w ↦ let no = w.if-eq.false in search rules
      | else-has_stopped-via-else-has_stopped w ↦ sym c.has_stopped.ensures ∙ w.if-has_stopped.false
    ])
