use Rattle.std.proofs.Common.{Option, subst, sym}
use Rattle.zvt_till.specs.Settings.{settings_of}
use Rattle.zvt_journal.specs.declared.file.FileDevice.{FileDevice}
use Rattle.zvt_kept.specs.KeptTill.{KeptValue}
use Rattle.zvt.specs.Runs.{RunsEither}
use Rattle.zvt.proofs.ends.make_with_either.Goals as goal

pub returns-in-None : goal.returns-in-None
returns-in-None c =
    subst (λ (kept : Option (KeptValue FileDevice)). RunsEither c.args.run.now (settings_of c.args.settings.now) kept c.make_with.result.answer) (sym c.in-None.is) (c.new_till.result, c.new_till.ensures, c.make_with.ensures)
