use Rattle.std.proofs.Common.{◌++◌, ◌∷◌, [], codes, refl}
use Rattle.zvt_show.proofs.BesideLemmas.{first_stays, read_more, rest_empty, second_stays, told_more, turn_more}
use Rattle.zvt_show.proofs.shown.show_loss.Goals as goal

pub returns-clause-shows : goal.returns-clause-shows
returns-clause-shows g c = λ r scope style trace first has.
    let some = c.requires.read in
    turn_more g.W.Sink.written g.W.Sink.failures g.L.Listener.hears g.L.Listener.fails c.args.walker.now c.feed-answer.new.self trace (trace ++ (codes "!" ++ 10 ∷ [])) c.feed-answer.result c.args.listeners.now c.feed-answer.new.listener r scope style first c.print_rest.new.shown
    ((codes "!" ++ 10 ∷ [])) refl c.is_some-was_failed.result c.is_some-was_failed.ensures
    (first_stays g.W.Sink.written g.W.Sink.failures g.L.Listener.hears g.L.Listener.fails c.args.walker.now c.feed-answer.new.self some.0 (some.0 ++ (codes "!" ++ 10 ∷ [])) c.feed-answer.result c.args.listeners.now c.feed-answer.new.listener some.1 some.2 (c.feed-answer.ensures.reads some.0))
    c.requires.empty c.feed-answer.ensures.reading c.feed-answer.ensures.scope (c.feed-answer.ensures.reads trace) c.print_rest.ensures has

pub returns-clause-tells : goal.returns-clause-tells
returns-clause-tells g c = λ r scope trace start has.
    let some = c.requires.read in
    told_more g.W.Sink.written g.W.Sink.failures g.L.Listener.hears g.L.Listener.fails c.args.walker.now c.feed-answer.new.self trace (trace ++ (codes "!" ++ 10 ∷ [])) c.feed-answer.result c.args.listeners.now c.feed-answer.new.listener r scope start
    (second_stays g.W.Sink.written g.W.Sink.failures g.L.Listener.hears g.L.Listener.fails c.args.walker.now c.feed-answer.new.self some.0 (some.0 ++ (codes "!" ++ 10 ∷ [])) c.feed-answer.result c.args.listeners.now c.feed-answer.new.listener some.1 some.2 (c.feed-answer.ensures.reads some.0))
    c.feed-answer.ensures.reading c.feed-answer.ensures.scope (c.feed-answer.ensures.reads trace) has

pub returns-clause-read : goal.returns-clause-read
returns-clause-read g c =
    let some = c.requires.read in
    read_more g.W.Sink.written g.W.Sink.failures g.L.Listener.hears g.L.Listener.fails c.args.walker.now c.feed-answer.new.self some.0 (some.0 ++ (codes "!" ++ 10 ∷ [])) c.feed-answer.result c.args.listeners.now c.feed-answer.new.listener c.feed-answer.ensures.reading c.feed-answer.ensures.scope some.1 some.2 (c.feed-answer.ensures.reads some.0)

pub returns-clause-empty : goal.returns-clause-empty
returns-clause-empty g c =
    let some = c.requires.read in
    rest_empty g.W.Sink.written g.W.Sink.failures g.L.Listener.hears g.L.Listener.fails c.args.walker.now c.feed-answer.new.self some.0 (some.0 ++ (codes "!" ++ 10 ∷ [])) c.feed-answer.result c.args.listeners.now c.feed-answer.new.listener c.print_rest.new.shown c.is_some-was_failed.result c.is_some-was_failed.ensures
    (first_stays g.W.Sink.written g.W.Sink.failures g.L.Listener.hears g.L.Listener.fails c.args.walker.now c.feed-answer.new.self some.0 (some.0 ++ (codes "!" ++ 10 ∷ [])) c.feed-answer.result c.args.listeners.now c.feed-answer.new.listener some.1 some.2 (c.feed-answer.ensures.reads some.0)) c.print_rest.ensures
