use Rattle.std.proofs.Common.{refl, rules}
use Rattle.zvt_text.proofs.RoomLemmas.{prefix_full}
use Rattle.zvt_json.proofs.EscapeLemmas.{all_written, byte_written, run_written}
use Rattle.zvt_json.proofs.strings.escape_all.Goals as goal

pub returns-in_err-end : goal.returns-in_err-end
returns-in_err-end c =
    let full = prefix_full _ _ _ _ (run_written _ _ _ _ _ _ c.plain_first.result c.runs.invariant.written c.split_at.ensures.front c.split_at.ensures.back c.plain_first.ensures.plain refl) c.in_err-end.ensures in
    search (rules, full)

pub returns-in_default : goal.returns-in_default
returns-in_default c =
    let run = run_written _ _ _ _ _ _ c.plain_first.result c.runs.invariant.written c.split_at.ensures.front c.split_at.ensures.back c.plain_first.ensures.plain c.in_ok-end.ensures.1 in
    (c.in_ok-end.ensures.0, all_written _ _ _ c.in_default.len_below run)

pub returns-in_err-end-2 : goal.returns-in_err-end-2
returns-in_err-end-2 c =
    let run = run_written _ _ _ _ _ _ c.plain_first.result c.runs.invariant.written c.split_at.ensures.front c.split_at.ensures.back c.plain_first.ensures.plain c.in_ok-end.ensures.1 in
    let full = prefix_full _ _ _ _ (byte_written _ _ _ _ c.in-len1-up.len_at_least run refl) c.in_err-end-2.ensures in
    search (rules, full)

pub runs-preserved : goal.runs-preserved
runs-preserved c = record {
  inside = c.in_ok-end-2.ensures.0;
  written =
      let run = run_written _ _ _ _ _ _ c.plain_first.result c.runs.invariant.written c.split_at.ensures.front c.split_at.ensures.back c.plain_first.ensures.plain c.in_ok-end.ensures.1 in
      byte_written _ _ _ _ c.in-len1-up.len_at_least run c.in_ok-end-2.ensures.1;
}
