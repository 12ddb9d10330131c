use Rattle.std.proofs.Common.{◌≡◌, ◌≤◌, ◌-◌, ◌^◌, length, take}
use Rattle.zvt_text.proofs.text.Text.add.Given as goal

abbrev pub invariant-tries : goal.invariant-tries
invariant-tries g l = record {
  inside : l.self-inside.size ≤ length l.self-inside.buffer.items;
  same : take l.self-inside.size l.self-inside.buffer.items ≡ l.fn.self;
}

abbrev pub decreases-tries : goal.decreases-tries
decreases-tries g l = 2 ^ 64 - length l.self-inside.buffer.items
