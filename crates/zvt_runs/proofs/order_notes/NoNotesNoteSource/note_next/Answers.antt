use Rattle.std.proofs.Common.{[], None, inr, refl}
use Rattle.zvt_runs.proofs.order_notes.NoNotesNoteSource.note_next.Goals as goal

pub returns : goal.returns
returns g c = ([], (None, inr refl), refl)
