use Rattle.std.proofs.Common.{arith, refl, ◌∙◌}
use Rattle.std.proofs.lemmas.Result.{err_from_is_err_and}
use Rattle.zvt_play.specs.Unheard.{unheard_in}
use Rattle.zvt_play.proofs.NextLemmas.{begins, comes, filled, holds_all, malformed, nothing_more}
use Rattle.zvt_play.proofs.HearLemmas.{none_yet}
use Rattle.zvt_play.proofs.messages.next_message.Goals as goal

pub returns-in_err-fill-clause-err : goal.returns-in_err-fill-clause-err
returns-in_err-fill-clause-err g c =
    let p = err_from_is_err_and c.from_residual.result c.from_residual.ensures.1 in
    rw (p.1, p.2) (nothing_more c.args.stream.now.reading _ (unheard_in c.args.unheard.now) (g.R.Source.remaining c.args.reader.now) c.pieces.stream.held (unheard_in c.pieces.unheard) (g.R.Source.remaining c.pieces.reader) (g.R.Source.remaining c.fill.new.reader) c.held-have.result
    c.pieces.stream.reading c.pieces.invariant.reading c.held-have.ensures.unfinished c.held-have.ensures.count c.pieces.invariant.coming c.in_err-fill.ensures.err)

pub pieces-init : goal.pieces-init
pieces-init g c = record {
  coming = begins (unheard_in c.args.unheard.now) c.args.stream.now.held (g.R.Source.remaining c.args.reader.now) c.requires.holds;
  agreed = none_yet c.args.demanded.now c.args.stream.now.held c.requires.holds;
  goes_on = c.requires.goes_on;
  reading = refl;
  reserved = c.requires.reserved;
  failures = refl;
}

pub returns-in-Ok-Message-clause-ok : goal.returns-in-Ok-Message-clause-ok
returns-in-Ok-Message-clause-ok g c =
    let fed = rw (c.in-Ok-Message.field-0-is, c.bytes.ensures) at c.in-Ok-Message.ensures.fed in
    let coming = filled (unheard_in c.args.unheard.now) (g.R.Source.remaining c.args.reader.now) c.pieces.stream.held (unheard_in c.pieces.unheard) (g.R.Source.remaining c.pieces.reader) (unheard_in c.fill.new.unheard) (g.R.Source.remaining c.fill.new.reader) c.pieces.invariant.coming c.in_ok-fill.ensures.ok in
    let agreed = rw c.bytes-in-Ok-Message.ensures at (c.left_after_more-after.ensures c.args.demanded.now c.pieces.stream.held c.pieces.invariant.agreed) in
    let next = comes c.args.stream.now.reading c.args.demanded.now (unheard_in c.args.unheard.now) (g.R.Source.remaining c.args.reader.now) (unheard_in c.fill.new.unheard) (g.R.Source.remaining c.fill.new.reader) c.pieces.stream c.feed_view.new.self c.in-Ok-Message.taken c.left_after_more-after.result c.pieces.invariant.reading coming fed agreed in
    rw c.drop_first.ensures next

pub pieces-preserved : goal.pieces-preserved
pieces-preserved g c =
    let fed = rw (c.in-Ok-More.field-0-is, c.bytes.ensures) at c.in-Ok-More.ensures.fed in
    let coming = filled (unheard_in c.args.unheard.now) (g.R.Source.remaining c.args.reader.now) c.pieces.stream.held (unheard_in c.pieces.unheard) (g.R.Source.remaining c.pieces.reader) (unheard_in c.fill.new.unheard) (g.R.Source.remaining c.fill.new.reader) c.pieces.invariant.coming c.in_ok-fill.ensures.ok in
    let agreed = rw c.bytes-in-Ok-More.ensures at (c.left_after_more-left.ensures c.args.demanded.now c.pieces.stream.held c.pieces.invariant.agreed) in
    record {
      coming = holds_all (unheard_in c.args.unheard.now) (g.R.Source.remaining c.args.reader.now) c.pieces.stream.held (unheard_in c.fill.new.unheard) (g.R.Source.remaining c.fill.new.reader) c.feed_view.new.self.held (unheard_in c.clear.new.self) coming fed.0.1.0 c.clear.ensures;
      agreed = rw fed.0.1.0 agreed;
      goes_on = fed.0.1.1;
      reading = fed.0.2 ∙ c.pieces.invariant.reading;
      reserved = omega (arith, c.in-Ok-More.ensures.room, c.pieces.invariant.reserved);
      failures = c.in_ok-fill.ensures.failures ∙ c.pieces.invariant.failures;
    }

pub returns-in-Ok-Refused-clause-err : goal.returns-in-Ok-Refused-clause-err
returns-in-Ok-Refused-clause-err g c =
    let fed = rw (c.in-Ok-Refused.field-0-is, c.bytes.ensures) at c.in-Ok-Refused.ensures.fed in
    let coming = filled (unheard_in c.args.unheard.now) (g.R.Source.remaining c.args.reader.now) c.pieces.stream.held (unheard_in c.pieces.unheard) (g.R.Source.remaining c.pieces.reader) (unheard_in c.fill.new.unheard) (g.R.Source.remaining c.fill.new.reader) c.pieces.invariant.coming c.in_ok-fill.ensures.ok in
    malformed c.args.stream.now.reading c.in-Ok-Refused.place c.in-Ok-Refused.why (unheard_in c.args.unheard.now) (g.R.Source.remaining c.args.reader.now) (unheard_in c.fill.new.unheard) (g.R.Source.remaining c.fill.new.reader) c.pieces.stream c.feed_view.new.self c.pieces.invariant.reading coming fed
