use Rattle.std.proofs.Common.{◌≡◌, ◌++◌, take}
use Rattle.zvt_c.specs.Listing.{note_lines}
use Rattle.zvt_c.proofs.notes.say_lines.Given as goal

abbrev pub invariant-loop-note : goal.invariant-loop-note
invariant-loop-note l = l.lines ≡ l.initial.lines ++ note_lines l.kind (take l.note-index l.notes)
