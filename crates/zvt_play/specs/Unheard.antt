-- What was read and not heard.
use Rattle.std.specs.Prelude.{ℕ, List, slice_range}
use Rattle.zvt_play.specs.declared.unheard.Unheard.{Unheard}

abbrev pub unheard_in : Unheard → List ℕ
unheard_in unheard = slice_range unheard.chunk unheard.from unheard.to
