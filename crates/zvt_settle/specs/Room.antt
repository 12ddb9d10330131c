-- The room of a till that settles.
use Rattle.std.specs.Prelude.{◌<◌, Bool, Option, vec_len, vec_capacity}
use Rattle.std.specs.Option.{ForSome}
use Rattle.std.specs.Global.{Vec}
use Rattle.zvt_settle.specs.declared.deciding.Settlement.{Settlement}

-- there is room for what an ask settles
abbrev pub CanSettle : Vec Settlement → Type 0
CanSettle settled = vec_len settled < vec_capacity settled

-- this holds while an ask runs
abbrev pub HasRoom : Option Bool → Vec Settlement → Type 0
HasRoom asking settled = ForSome asking (λ positive. CanSettle settled)
