use Rattle.zvt_runs.proofs.objects.say_asked.Goals as goal

pub returns-in-Nothing : goal.returns-in-Nothing
returns-in-Nothing c = rw c.in-Nothing.is c.say_ended.ensures
