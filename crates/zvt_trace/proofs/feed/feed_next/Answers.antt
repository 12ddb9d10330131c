use Rattle.std.proofs.Common.{◌∙◌, ◌+◌, ◌-◌, ◌++◌, length, length-append, take, drop, Err, ap, append-nil, arith, refl, subst, sym}
use Rattle.std.proofs.lemmas.List.{length-take-le, take-append-drop}
use Rattle.std.proofs.lemmas.Result.{err_from_is_err_and}
use Rattle.zvt_trace.proofs.EmitLemmas.{ends_refusal, fails_message, fails_refused, fails_resumed, fails_skipped, hears_message, hears_more, hears_refused, hears_skipped, skipped_part, skips_part}
use Rattle.zvt_trace.proofs.FeedLemmas.{split_is}
use Rattle.zvt_stream.specs.StreamState.{HasRefused, Keeps}
use Rattle.zvt_grammar.specs.Lengths.{reading_of}
use Rattle.zvt_trace.proofs.PassLemmas.{fails_part, stops_here}
use Rattle.zvt_trace.proofs.PieceLemmas.{fatal_cut, fed_as, going, refused_by, spells_by, unfinished_by}
use Rattle.zvt_stream.specs.declared.stream.FedView.TheVariants as fed
use Rattle.zvt_trace.proofs.feed.feed_next.Goals as goal

pub returns-in_err-emit_message-in-Ok-Message-clause-emits :
    goal.returns-in_err-emit_message-in-Ok-Message-clause-emits
returns-in_err-emit_message-in-Ok-Message-clause-emits g c = λ side follows.
    let p = err_from_is_err_and c.from_residual.result c.from_residual.ensures.1 in
    let bytes = c.args.bytes.now in
    let taken = c.in-Ok-Message.taken in
    let found = fed_as c.args.reader.now.stream c.feed_view.new.self bytes c.in-Ok-Message.field-0 (fed.Message taken) c.in-Ok-Message.field-0-is c.in-Ok-Message.ensures.fed in
    let feeds = found.1 in
    rw (p.1, p.2) (fails_part g.L.Listener.hears g.L.Listener.fails _ _ _ _ side bytes (take taken bytes) (drop taken bytes) _ _ (sym (take-append-drop taken bytes))
    (fails_message g.L.Listener.hears g.L.Listener.fails _ _ _ _ (take taken bytes) c.args.reader.now found.0 _ _
    (going _ _ _ c.in-Ok-Message.is c.feed_view.ensures.stopped) (spells_by _ _ found.0 _ c.requires.reading.0 feeds.2) (c.in_err-emit_message-in-Ok-Message.ensures found.0 found.2) side follows))

pub returns-in_ok-emit_message-in-Ok-Message-clause-emits :
    goal.returns-in_ok-emit_message-in-Ok-Message-clause-emits
returns-in_ok-emit_message-in-Ok-Message-clause-emits g c = λ side follows.
    let bytes = c.args.bytes.now in
    let taken = c.in-Ok-Message.taken in
    let found = fed_as c.args.reader.now.stream c.feed_view.new.self bytes c.in-Ok-Message.field-0 (fed.Message taken) c.in-Ok-Message.field-0-is c.in-Ok-Message.ensures.fed in
    let feeds = found.1 in
    (record {
      first = take taken bytes;
      cut = sym (take-append-drop taken bytes) ∙ ap (λ b. take taken bytes ++ b) (sym c.split_at.ensures.back);
      heard = hears_message g.L.Listener.hears _ _ _ (take taken bytes) c.args.reader.now _ found.0 _ _ (omega (arith, feeds.0, length-take-le taken bytes feeds.1)) (going _ _ _ c.in-Ok-Message.is c.feed_view.ensures.stopped) (spells_by _ _ found.0 _ c.requires.reading.0 feeds.2)
          feeds.3 refl (c.in_ok-emit_message-in-Ok-Message.ensures found.0 found.2) side follows;
    })

pub returns-in-Ok-More-clause-emits : goal.returns-in-Ok-More-clause-emits
returns-in-Ok-More-clause-emits g c = λ side follows.
    let bytes = c.args.bytes.now in
    let found = fed_as c.args.reader.now.stream c.feed_view.new.self bytes c.in-Ok-More.field-0 fed.More c.in-Ok-More.field-0-is c.in-Ok-More.ensures.fed in
    let feeds = found.0 in
    (record {
      first = bytes;
      cut = sym (append-nil bytes);
      heard = hears_more g.L.Listener.hears _ _ _ bytes c.args.reader.now _ _ (going _ _ _ c.in-Ok-More.is c.feed_view.ensures.stopped) (unfinished_by _ _ _ c.requires.reading.0 feeds.0) feeds.1 refl side follows;
    })

pub returns-in-Err-Memory-clause-emits : goal.returns-in-Err-Memory-clause-emits
returns-in-Err-Memory-clause-emits g c = λ side follows. stops_here g.L.Listener.hears g.L.Listener.fails _ _ _ side c.args.bytes.now _

pub returns-in_err-emit_refusal-in-Ok-Refused-clause-emits :
    goal.returns-in_err-emit_refusal-in-Ok-Refused-clause-emits
returns-in_err-emit_refusal-in-Ok-Refused-clause-emits g c = λ side follows.
    let p = err_from_is_err_and c.from_residual-in_err-emit_refusal-in-Ok-Refused.result c.from_residual-in_err-emit_refusal-in-Ok-Refused.ensures.1 in
    let bytes = c.args.bytes.now in
    let part = c.split_at-in-Ok-Refused.result.0.now in
    let rest = c.split_at-in-Ok-Refused.result.1.now in
    let held = c.args.reader.now.stream.held in
    let found = fed_as c.args.reader.now.stream c.feed_view.new.self bytes c.in-Ok-Refused.field-0 (fed.Refused c.in-Ok-Refused.place c.in-Ok-Refused.why) c.in-Ok-Refused.field-0-is c.in-Ok-Refused.ensures.fed in
    let feeds = found.0 in
    let fatal = fatal_cut _ held bytes part c.in-Ok-Refused.place (c.in-Ok-Refused.place - length held + 1) c.in-Ok-Refused.why (refused_by _ _ _ _ _ c.requires.reading.0 feeds.0) feeds.1 refl (c.split_at-in-Ok-Refused.ensures.front ∙ ap (λ n. take (c.in-Ok-Refused.place - n + 1) bytes) c.held-held.ensures.count) in
    rw (p.1, p.2) (fails_part g.L.Listener.hears g.L.Listener.fails _ _ _ _ side bytes part rest _ _ (split_is _ bytes part rest c.split_at-in-Ok-Refused.ensures.front c.split_at-in-Ok-Refused.ensures.back)
    (fails_refused g.L.Listener.hears g.L.Listener.fails _ _ _ _ part c.args.reader.now c.feed_view.new.self.refused_bytes c.in-Ok-Refused.place c.in-Ok-Refused.why _ _ (going _ _ _ c.in-Ok-Refused.is c.feed_view.ensures.stopped) fatal.0 fatal.1 (feeds.4 ∙ fatal.2)
    c.in_err-emit_refusal-in-Ok-Refused.ensures side follows))

pub returns-in_err-emit_resumed-in-Ok-Refused-clause-emits :
    goal.returns-in_err-emit_resumed-in-Ok-Refused-clause-emits
returns-in_err-emit_resumed-in-Ok-Refused-clause-emits g c = λ side follows.
    let p = err_from_is_err_and c.from_residual-in_err-emit_resumed-in-Ok-Refused.result c.from_residual-in_err-emit_resumed-in-Ok-Refused.ensures.1 in
    let bytes = c.args.bytes.now in
    let part = c.split_at-in-Ok-Refused.result.0.now in
    let rest = c.split_at-in-Ok-Refused.result.1.now in
    let held = c.args.reader.now.stream.held in
    let found = fed_as c.args.reader.now.stream c.feed_view.new.self bytes c.in-Ok-Refused.field-0 (fed.Refused c.in-Ok-Refused.place c.in-Ok-Refused.why) c.in-Ok-Refused.field-0-is c.in-Ok-Refused.ensures.fed in
    let feeds = found.0 in
    let fatal = fatal_cut _ held bytes part c.in-Ok-Refused.place (c.in-Ok-Refused.place - length held + 1) c.in-Ok-Refused.why (refused_by _ _ _ _ _ c.requires.reading.0 feeds.0) feeds.1 refl (c.split_at-in-Ok-Refused.ensures.front ∙ ap (λ n. take (c.in-Ok-Refused.place - n + 1) bytes) c.held-held.ensures.count) in
    rw (p.1, p.2) (fails_part g.L.Listener.hears g.L.Listener.fails _ _ _ _ side bytes part rest _ _ (split_is _ bytes part rest c.split_at-in-Ok-Refused.ensures.front c.split_at-in-Ok-Refused.ensures.back)
    (fails_resumed g.L.Listener.hears g.L.Listener.fails _ _ _ _ part c.args.reader.now c.emit_resumed.new.reader c.feed_view.new.self.refused_bytes c.in-Ok-Refused.place c.in-Ok-Refused.why _ _ _ (going _ _ _ c.in-Ok-Refused.is c.feed_view.ensures.stopped) fatal.0 fatal.1 (feeds.4 ∙ fatal.2)
    c.in_ok-emit_refusal-in-Ok-Refused.ensures
    (ends_refusal (reading_of c.args.options.now.lengths) g.L.Listener.hears g.L.Listener.fails _ _ _ _ c.refuse.new.self c.emit_resumed.new.reader _ _ _ (subst HasRefused (sym c.refuse.ensures.stream) feeds.2) (c.refuse.ensures.skipped (fatal.1 ∙ sym (ap length (feeds.4 ∙ fatal.2)))) c.in_err-emit_resumed-in-Ok-Refused.ensures.rest c.in_err-emit_resumed-in-Ok-Refused.ensures.none) side follows))

pub returns-in_ok-emit_resumed-in-Ok-Refused-clause-emits :
    goal.returns-in_ok-emit_resumed-in-Ok-Refused-clause-emits
returns-in_ok-emit_resumed-in-Ok-Refused-clause-emits g c = λ side follows.
    let bytes = c.args.bytes.now in
    let part = c.split_at-in-Ok-Refused.result.0.now in
    let rest = c.split_at-in-Ok-Refused.result.1.now in
    let held = c.args.reader.now.stream.held in
    let found = fed_as c.args.reader.now.stream c.feed_view.new.self bytes c.in-Ok-Refused.field-0 (fed.Refused c.in-Ok-Refused.place c.in-Ok-Refused.why) c.in-Ok-Refused.field-0-is c.in-Ok-Refused.ensures.fed in
    let feeds = found.0 in
    let fatal = fatal_cut _ held bytes part c.in-Ok-Refused.place (c.in-Ok-Refused.place - length held + 1) c.in-Ok-Refused.why (refused_by _ _ _ _ _ c.requires.reading.0 feeds.0) feeds.1 refl (c.split_at-in-Ok-Refused.ensures.front ∙ ap (λ n. take (c.in-Ok-Refused.place - n + 1) bytes) c.held-held.ensures.count) in
    (record {
      first = part;
      cut = split_is _ bytes part rest c.split_at-in-Ok-Refused.ensures.front c.split_at-in-Ok-Refused.ensures.back;
      heard = hears_refused g.L.Listener.hears g.L.Listener.fails _ _ _ part c.args.reader.now c.emit_resumed.new.reader c.feed_view.new.self.refused_bytes c.in-Ok-Refused.place c.in-Ok-Refused.why _ _ _ c.in_ok-emit_resumed-in-Ok-Refused.field-0 (omega (arith, fatal.1, feeds.1, length-append held part)) (going _ _ _ c.in-Ok-Refused.is c.feed_view.ensures.stopped) fatal.0 fatal.1 (feeds.4 ∙ fatal.2)
          c.in_ok-emit_refusal-in-Ok-Refused.ensures
          (ends_refusal (reading_of c.args.options.now.lengths) g.L.Listener.hears g.L.Listener.fails _ _ _ _ c.refuse.new.self c.emit_resumed.new.reader _ _ _ (subst HasRefused (sym c.refuse.ensures.stream) feeds.2) (c.refuse.ensures.skipped (fatal.1 ∙ sym (ap length (feeds.4 ∙ fatal.2)))) c.in_ok-emit_resumed-in-Ok-Refused.ensures.rest c.in_ok-emit_resumed-in-Ok-Refused.ensures.none) side follows;
    })

pub returns-in_err-any-in-Err-Stopped-clause-emits : goal.returns-in_err-any-in-Err-Stopped-clause-emits
returns-in_err-any-in-Err-Stopped-clause-emits g c = λ side follows.
    let p = err_from_is_err_and c.from_residual-in_err-any-in-Err-Stopped.result c.from_residual-in_err-any-in-Err-Stopped.ensures.1 in
    let bytes = c.args.bytes.now in
    let rest = c.skip-rest.result.now in
    let part = skipped_part c.args.reader.now.skipped bytes in
    rw (p.1, p.2) (fails_part g.L.Listener.hears g.L.Listener.fails _ _ _ _ side bytes part rest _ _ (skips_part _ _ bytes rest c.skip-rest.ensures.skips)
    (fails_skipped g.L.Listener.hears g.L.Listener.fails _ _ _ _ bytes rest c.args.reader.now c.skip-rest.new.self c.emit_resumed-in-Err-Stopped.new.reader _ _ (c.in-Err-Stopped.ensures.only (ap Err c.in-Err-Stopped.field-0-is))
    (subst (λ s. Keeps c.args.reader.now.stream s) (sym c.skip-rest.ensures.stream) c.in-Err-Stopped.ensures.err) c.skip-rest.ensures.skips c.in_err-any-in-Err-Stopped.ensures.rest c.in_err-any-in-Err-Stopped.ensures.none side follows))

pub returns-in_ok-any-in-Err-Stopped-clause-emits : goal.returns-in_ok-any-in-Err-Stopped-clause-emits
returns-in_ok-any-in-Err-Stopped-clause-emits g c = λ side follows.
    let bytes = c.args.bytes.now in
    let rest = c.skip-rest.result.now in
    (record {
      first = skipped_part c.args.reader.now.skipped bytes;
      cut = skips_part _ _ bytes rest c.skip-rest.ensures.skips;
      heard = hears_skipped g.L.Listener.hears g.L.Listener.fails _ _ _ bytes rest c.args.reader.now c.skip-rest.new.self c.emit_resumed-in-Err-Stopped.new.reader _ _ _ (c.in-Err-Stopped.ensures.only (ap Err c.in-Err-Stopped.field-0-is))
          (subst (λ s. Keeps c.args.reader.now.stream s) (sym c.skip-rest.ensures.stream) c.in-Err-Stopped.ensures.err) c.skip-rest.ensures.skips c.in_ok-any-in-Err-Stopped.ensures.rest c.in_ok-any-in-Err-Stopped.ensures.none side follows;
    })
