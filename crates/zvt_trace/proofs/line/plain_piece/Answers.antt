use Rattle.std.proofs.Common.{◌≡◌, ◌*◌, slice_index, rules}
use Rattle.zvt_trace.proofs.PlainLemmas.{after_first, plain_read}
use Rattle.zvt_trace.proofs.line.plain_piece.Goals as goal

pub returns-in-10-clause-begins : goal.returns-in-10-clause-begins
returns-in-10-clause-begins c =
    let rest = c.args.rest.now in
    let space : slice_index rest 1 ≡ 32 = search rules in
    let feed : slice_index (after_first (2 * c.read_pairs-count.result) (after_first 2 rest)) 0 ≡ 10 = search rules in
    plain_read rest c.read_pairs-count.new.buffer c.read_pairs-count.result c.in_ok-from.from c.in-32.len_at_least space c.in_ok-from.ensures
    c.read_pairs-count.ensures.few.0 c.read_pairs-count.ensures.read.0 c.read_pairs-count.ensures.read.1 c.in-10.len_at_least feed
