use Rattle.std.proofs.Common.{◌≡◌, ◌∙◌, ap, Err}
use Rattle.zvt_trace.specs.declared.fault.TraceLineError.TheVariants.{Hex}
use Rattle.zvt_trace.proofs.SpelledLemmas.{no_piece, piece_few, piece_read, refused}
use Rattle.zvt_trace.proofs.line.read_piece.Goals as goal

pub returns-in_default-clause-wrong : goal.returns-in_default-clause-wrong
returns-in_default-clause-wrong c = λ what e.
    let same : Hex ≡ what = cc e in
    no_piece c.args.from c.args.text.now c.in_default.ensures.read ∙ ap (λ w. Err w) same

pub returns-then-not-is_spelled-clause-wrong : goal.returns-then-not-is_spelled-clause-wrong
returns-then-not-is_spelled-clause-wrong c = λ what e.
    let same : Hex ≡ what = cc e in
    no_piece c.args.from c.args.text.now (refused _ c.args.text.now c.in-Some.undecoded.now (c.is_spelled.ensures.no c.if-not-is_spelled.true) c.in-Some.ensures.read) ∙ ap (λ w. Err w) same

pub returns-clause-ok : goal.returns-clause-ok
returns-clause-ok c = piece_read c.args.from _ c.args.text.now c.in-Some.undecoded.now c.in-Some.ensures.read (c.is_spelled.ensures.yes c.if-not-is_spelled.false)

pub returns-clause-few : goal.returns-clause-few
returns-clause-few c = piece_few c.args.text.now c.in-Some.undecoded.now c.read.new.buffer c.in-Some.count c.in-Some.ensures.few.1
