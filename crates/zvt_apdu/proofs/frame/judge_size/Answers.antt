use Rattle.std.proofs.Common.{sym, subst, ◌≤◌}
use Rattle.zvt_apdu.specs.Judging.{Layout, head_size}
use Rattle.zvt_apdu.proofs.Opened.{head_short}
use Rattle.zvt_apdu.proofs.frame.judge_size.Goals as goal

pub can_fill-requires : goal.can_fill-requires
can_fill-requires c = subst (λ (l : Layout). head_size l ≤ 6) (sym c.layout_of-layout.ensures) (head_short _ _ c.args.size)
