-- Files that a crash may leave between two contents, one call apart.
use Rattle.std.specs.Prelude.{ℕ, ◌-◌, List, ◌++◌, length, take, drop, max, replicate, nat_lt, if◌then◌else◌}
use Rattle.zvt_journal.specs.declared.tears.Tear.{Tear}
use Rattle.zvt_journal.specs.declared.tears.Tear.TheVariants.{First, Last, Padded}

-- a write that was cut short
abbrev pub torn_write : Tear → ℕ → List ℕ → List ℕ → List ℕ
torn_write First at old new = take at new ++ drop at old
torn_write Last at old new = take at old ++ drop at new
torn_write Padded at old new = take at new ++ drop at old ++ replicate (length new - length (take at new ++ drop at old)) 0

-- a cut makes the file shorter
abbrev pub torn : Tear → ℕ → List ℕ → List ℕ → List ℕ
torn tear at old new = if nat_lt (length new) (length old) then take (max at (length new)) old else torn_write tear at old new
