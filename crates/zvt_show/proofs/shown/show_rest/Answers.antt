use Rattle.zvt_show.proofs.BesideLemmas.{all_shown, all_told, first_stands, second_stands}
use Rattle.zvt_show.proofs.shown.show_rest.Goals as goal

pub returns-clause-shows : goal.returns-clause-shows
returns-clause-shows g c = λ r scope style trace first has.
    let some = c.requires.read in
    all_shown g.W.Sink.written g.W.Sink.failures g.L.Listener.hears g.L.Listener.fails c.args.walker trace c.finish-answer.result c.args.listeners.now c.finish-answer.new.listener r scope style first c.print_rest.new.shown c.is_some-was_failed.result c.is_some-was_failed.ensures
    (first_stands g.W.Sink.written g.W.Sink.failures g.L.Listener.hears g.L.Listener.fails c.args.walker some.0 c.finish-answer.result c.args.listeners.now c.finish-answer.new.listener some.1 some.2 (c.finish-answer.ensures some.0))
    c.requires.empty (c.finish-answer.ensures trace) c.print_rest.ensures has

pub returns-clause-tells : goal.returns-clause-tells
returns-clause-tells g c = λ r scope trace start has.
    let some = c.requires.read in
    all_told g.W.Sink.written g.W.Sink.failures g.L.Listener.hears g.L.Listener.fails c.args.walker trace c.finish-answer.result c.args.listeners.now c.finish-answer.new.listener r scope start
    (second_stands g.W.Sink.written g.W.Sink.failures g.L.Listener.hears g.L.Listener.fails c.args.walker some.0 c.finish-answer.result c.args.listeners.now c.finish-answer.new.listener some.1 some.2 (c.finish-answer.ensures some.0))
    (c.finish-answer.ensures trace) has
