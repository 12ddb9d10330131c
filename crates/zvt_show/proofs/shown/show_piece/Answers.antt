use Rattle.std.proofs.Common.{◌++◌, refl}
use Rattle.zvt_trace.specs.Lines.{piece_text}
use Rattle.zvt_show.proofs.BesideLemmas.{first_stays, read_more, rest_empty, second_stays, told_more, turn_more}
use Rattle.zvt_show.proofs.shown.show_piece.Goals as goal

pub returns-clause-shows : goal.returns-clause-shows
returns-clause-shows g c = λ r scope style trace first has.
    let some = c.requires.read in
    turn_more g.W.Sink.written g.W.Sink.failures g.L.Listener.hears g.L.Listener.fails c.args.walker.now c.take-answer.new.self trace (trace ++ piece_text c.args.from c.args.bytes.now) c.take-answer.result c.args.listeners.now c.take-answer.new.listener r scope style first c.print_rest.new.shown
    (piece_text c.args.from c.args.bytes.now) refl c.is_some-was_failed.result c.is_some-was_failed.ensures
    (first_stays g.W.Sink.written g.W.Sink.failures g.L.Listener.hears g.L.Listener.fails c.args.walker.now c.take-answer.new.self some.0 (some.0 ++ piece_text c.args.from c.args.bytes.now) c.take-answer.result c.args.listeners.now c.take-answer.new.listener some.1 some.2 (c.take-answer.ensures.reads some.0))
    c.requires.empty c.take-answer.ensures.reading c.take-answer.ensures.scope (c.take-answer.ensures.reads trace) c.print_rest.ensures has

pub returns-clause-tells : goal.returns-clause-tells
returns-clause-tells g c = λ r scope trace start has.
    let some = c.requires.read in
    told_more g.W.Sink.written g.W.Sink.failures g.L.Listener.hears g.L.Listener.fails c.args.walker.now c.take-answer.new.self trace (trace ++ piece_text c.args.from c.args.bytes.now) c.take-answer.result c.args.listeners.now c.take-answer.new.listener r scope start
    (second_stays g.W.Sink.written g.W.Sink.failures g.L.Listener.hears g.L.Listener.fails c.args.walker.now c.take-answer.new.self some.0 (some.0 ++ piece_text c.args.from c.args.bytes.now) c.take-answer.result c.args.listeners.now c.take-answer.new.listener some.1 some.2 (c.take-answer.ensures.reads some.0))
    c.take-answer.ensures.reading c.take-answer.ensures.scope (c.take-answer.ensures.reads trace) has

pub returns-clause-read : goal.returns-clause-read
returns-clause-read g c =
    let some = c.requires.read in
    read_more g.W.Sink.written g.W.Sink.failures g.L.Listener.hears g.L.Listener.fails c.args.walker.now c.take-answer.new.self some.0 (some.0 ++ piece_text c.args.from c.args.bytes.now) c.take-answer.result c.args.listeners.now c.take-answer.new.listener c.take-answer.ensures.reading c.take-answer.ensures.scope some.1 some.2 (c.take-answer.ensures.reads some.0)

pub returns-clause-empty : goal.returns-clause-empty
returns-clause-empty g c =
    let some = c.requires.read in
    rest_empty g.W.Sink.written g.W.Sink.failures g.L.Listener.hears g.L.Listener.fails c.args.walker.now c.take-answer.new.self some.0 (some.0 ++ piece_text c.args.from c.args.bytes.now) c.take-answer.result c.args.listeners.now c.take-answer.new.listener c.print_rest.new.shown c.is_some-was_failed.result c.is_some-was_failed.ensures
    (first_stays g.W.Sink.written g.W.Sink.failures g.L.Listener.hears g.L.Listener.fails c.args.walker.now c.take-answer.new.self some.0 (some.0 ++ piece_text c.args.from c.args.bytes.now) c.take-answer.result c.args.listeners.now c.take-answer.new.listener some.1 some.2 (c.take-answer.ensures.reads some.0)) c.print_rest.ensures
