-- An encoding that distinguishes the contents of a handle.
use Rattle.std.specs.Coded.{Coded}
use Rattle.zvt_c.specs.contracts.session.Session.{the_row}
use Rattle.zvt_c.specs.declared.session.Session.{Session}

abbrev pub end_code : Coded Session
end_code = the_row.coded
