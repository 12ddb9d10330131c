use Rattle.std.proofs.Common.{refl, ◌∙◌, ◌-◌, ◌≤◌, arith, length}
use Rattle.zvt_play.specs.Unheard.{unheard_in}
use Rattle.zvt_play.proofs.HearLemmas.{another, hears_all, hears_more, is_part, is_prefix, none_heard, wanted_few}
use Rattle.zvt_play.proofs.messages.hear.Goals as goal

pub messages-init : goal.messages-init
messages-init g c = record { part = none_heard c.args.stream.now.reading c.args.demanded.now (unheard_in c.args.unheard.now) (g.R.Source.remaining c.args.reader.now); ready = c.requires; failures = refl }

pub overflow_sub-at : goal.overflow_sub-at
overflow_sub-at g c = wanted_few c.args.demanded.now c.messages.invariant.part.messages c.messages.wanted.now c.messages.invariant.part.agrees

pub returns-in-None-clause-err : goal.returns-in-None-clause-err
returns-in-None-clause-err g c =
    let next = rw (c.messages.invariant.ready.reading, c.in-None.is) at c.in_ok-next_message.ensures.ok in
    let part = c.messages.invariant.part in
    let few : length c.messages.wanted.now ≤ length c.args.demanded.now = wanted_few c.args.demanded.now part.messages c.messages.wanted.now part.agrees in
    another c.args.stream.now.reading (length c.args.demanded.now - length c.messages.wanted.now) c.args.demanded.now (unheard_in c.args.unheard.now) (g.R.Source.remaining c.args.reader.now) (unheard_in c.messages.unheard) (g.R.Source.remaining c.messages.reader) c.messages.wanted.now
    (unheard_in c.next_message.new.unheard) (g.R.Source.remaining c.next_message.new.reader) c.next_message.new.stream part next.0 next.1 (omega arith)

pub returns-in-Some-empty-clause-ok : goal.returns-in-Some-empty-clause-ok
returns-in-Some-empty-clause-ok g c =
    let next = rw (c.messages.invariant.ready.reading, c.in-Some-empty.is) at c.in_ok-next_message.ensures.ok in
    let prefix = is_prefix c.messages.wanted.now next.0.bytes c.in-Some-empty.field-0.now next.1 (omega (arith, c.in-Some-empty.len_below)) in
    hears_all c.args.stream.now.reading c.args.demanded.now (unheard_in c.args.unheard.now) (g.R.Source.remaining c.args.reader.now) (unheard_in c.messages.unheard) (g.R.Source.remaining c.messages.reader) c.messages.wanted.now
    (unheard_in c.next_message.new.unheard) (g.R.Source.remaining c.next_message.new.reader) c.next_message.new.stream c.messages.invariant.part next.0 prefix

pub messages-preserved : goal.messages-preserved
messages-preserved g c =
    let next = rw (c.messages.invariant.ready.reading, c.in-Some.is) at c.in_ok-next_message.ensures.ok in
    let part = is_part c.messages.wanted.now next.0.bytes c.in-Some.left.now next.1 (omega (arith, c.in-Some.len_at_least)) in
    record {
      part = hears_more c.args.stream.now.reading c.args.demanded.now (unheard_in c.args.unheard.now) (g.R.Source.remaining c.args.reader.now) (unheard_in c.messages.unheard) (g.R.Source.remaining c.messages.reader) c.messages.wanted.now
          (unheard_in c.next_message.new.unheard) (g.R.Source.remaining c.next_message.new.reader) c.next_message.new.stream c.in-Some.left.now c.messages.invariant.part next.0 part (omega (arith, c.in-Some.len_at_least));
      ready = rw c.messages.invariant.ready.reading at c.in_ok-next_message.ensures.ready;
      failures = c.in_ok-next_message.ensures.failures ∙ c.messages.invariant.failures;
    }
