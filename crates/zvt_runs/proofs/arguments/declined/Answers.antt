use Rattle.std.proofs.Common.{◌≡◌, ◌≤◌, ◌-◌, length, get_or, arith, rules}
use Rattle.zvt_runs.proofs.Numbers.{declined_three}
use Rattle.zvt_runs.proofs.arguments.declined.Goals as goal

pub returns-in-58 : goal.returns-in-58
returns-in-58 c =
    let words = c.args.words.now in
    let trailing = c.split_at.result.1.now in
    let prefix : c.in_ok-prefix.prefix ≡ length words - 3 = omega (arith, c.in_ok-prefix.ensures) in
    let long : 3 ≤ length words = omega (arith, c.split_at.ensures.back_len) in
    let three : length trailing ≡ 3 = omega (arith, c.in-58.len_at_least, c.in-58.len_below) in
    let colon : get_or trailing 0 0 ≡ 58 = search rules in
    let e = declined_three words c.in_ok-prefix.prefix c.split_at.result.0.now trailing prefix long c.split_at.ensures.front c.split_at.ensures.back three in
    rw (e, colon, ← c.amount.ensures, ← c.code.ensures) c.declining.ensures
