-- What a device over a reader or a writer of std has counted.
use Rattle.std.specs.Prelude.{ℕ}
use Rattle.zvt_io.specs.declared.over.Over.{Over}

abbrev pub reads_of : {T : Type 0} → Over T → ℕ
reads_of over = over.calls.count

abbrev pub failures_of : {T : Type 0} → Over T → ℕ
failures_of over = over.failed.count
