use Rattle.std.proofs.lemmas.Bool.{and_parts}
use Rattle.std.proofs.lemmas.List.{take_more}
use Rattle.zvt_trace.proofs.SpelledLemmas.{hex_digit, hex_push}
use Rattle.zvt_trace.proofs.spelled.are_digits.Goals as goal

pub loop-byte-preserved : goal.loop-byte-preserved
loop-byte-preserved c = λ both.
    let parts = and_parts c.loop-byte.all c.is_ascii_hexdigit-all.result both in
    rw (take_more c.args.text.now c.loop-byte.byte-index 0 c.loop-byte-test.true)
    (hex_push _ _ (c.loop-byte.invariant parts.0) (hex_digit _ _ parts.1 c.is_ascii_hexdigit-all.ensures.cases))
