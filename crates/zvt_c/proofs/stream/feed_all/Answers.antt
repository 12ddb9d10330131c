use Rattle.std.proofs.Common.{◌≡◌, ℕ, ◌≤◌, ◌-◌, List, length, take, drop, true, arith, rules, sym, subst}
use Rattle.zvt_c.specs.declared.numbers.ZvtStep.{ZvtStep}
use Rattle.zvt_c.specs.Feeding.{FeedsEnd}
use Rattle.zvt_c.specs.FeedingAll.{FedSoFar, start, further, broken, goes_on}
use Rattle.std.proofs.lemmas.List.{length-drop}
use Rattle.zvt_c.proofs.Slices.{part_end, put_end}
use Rattle.zvt_c.proofs.stream.feed_all.Goals as goal

pub messages-init : goal.messages-init
messages-init c =
    record {
      so_far = subst (λ (s : ZvtStep). FedSoFar c.args.end.now c.args.piece.now c.args.out.now c.args.line.now c.args.end.now c.args.out.now c.args.line.now s) (sym c.no_step.ensures) start;
      taken = subst (λ (s : ZvtStep). s.taken ≤ length c.args.piece.now) (sym c.no_step.ensures) (omega arith);
      send = subst (λ (s : ZvtStep). s.send ≤ length c.args.out.now) (sym c.no_step.ensures) (omega arith);
    }

pub returns-then-status-ne-OK : goal.returns-then-status-ne-OK
returns-then-status-ne-OK c =
    let test : goes_on (length c.args.piece.now) (length c.args.out.now) c.messages.answer ≡ true = search rules in
    let one =
    subst (λ (rest : List ℕ). FeedsEnd c.messages.end rest c.feed-status.new.end (drop c.messages.answer.send c.messages.out) c.feed-status.new.out c.messages.line c.feed-status.new.line c.feed-status.new.answer c.feed-status.result) (part_end c.messages.answer.taken c.args.piece.now)
    (subst (λ (buffer : List ℕ). FeedsEnd c.messages.end (take (length c.args.piece.now - c.messages.answer.taken) (drop c.messages.answer.taken c.args.piece.now)) c.feed-status.new.end buffer c.feed-status.new.out c.messages.line c.feed-status.new.line c.feed-status.new.answer c.feed-status.result) (part_end c.messages.answer.send c.messages.out)
    c.feed-status.ensures.fed) in
    broken c.messages.invariant.so_far test one c.if-status-ne-OK.true (put_end c.messages.answer.send c.messages.out c.feed-status.new.out) c.add.ensures

pub messages-preserved : goal.messages-preserved
messages-preserved c =
    let test : goes_on (length c.args.piece.now) (length c.args.out.now) c.messages.answer ≡ true = search rules in
    let piece = length-drop c.messages.answer.taken c.args.piece.now in
    let buffer = length-drop c.messages.answer.send c.messages.out in
    let taken : c.feed-status.new.answer.taken ≤ length (drop c.messages.answer.taken c.args.piece.now) =
    subst (λ (rest : List ℕ). c.feed-status.new.answer.taken ≤ length rest) (part_end c.messages.answer.taken c.args.piece.now) c.feed-status.ensures.taken in
    let send : c.feed-status.new.answer.send ≤ length (drop c.messages.answer.send c.messages.out) =
    subst (λ (rest : List ℕ). c.feed-status.new.answer.send ≤ length rest) (part_end c.messages.answer.send c.messages.out) c.feed-status.ensures.buffer in
    let one =
    subst (λ (rest : List ℕ). FeedsEnd c.messages.end rest c.feed-status.new.end (drop c.messages.answer.send c.messages.out) c.feed-status.new.out c.messages.line c.feed-status.new.line c.feed-status.new.answer 0) (part_end c.messages.answer.taken c.args.piece.now)
    (subst (λ (buffer : List ℕ). FeedsEnd c.messages.end (take (length c.args.piece.now - c.messages.answer.taken) (drop c.messages.answer.taken c.args.piece.now)) c.feed-status.new.end buffer c.feed-status.new.out c.messages.line c.feed-status.new.line c.feed-status.new.answer 0) (part_end c.messages.answer.send c.messages.out)
    (subst (λ (status : ℕ). FeedsEnd c.messages.end (take (length c.args.piece.now - c.messages.answer.taken) (drop c.messages.answer.taken c.args.piece.now)) c.feed-status.new.end (take (length c.messages.out - c.messages.answer.send) (drop c.messages.answer.send c.messages.out)) c.feed-status.new.out c.messages.line c.feed-status.new.line c.feed-status.new.answer status) c.if-status-ne-OK.false
    c.feed-status.ensures.fed)) in
    rw (c.add.ensures, put_end c.messages.answer.send c.messages.out c.feed-status.new.out)
    (record {
      so_far = further c.messages.invariant.so_far test one;
      taken = omega (arith, taken, piece, c.messages.invariant.taken);
      send = omega (arith, send, buffer, c.messages.invariant.send, c.messages.auto.out);
    })
