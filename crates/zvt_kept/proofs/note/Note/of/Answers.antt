use Rattle.std.proofs.Common.{◌≤◌, length, ap, arith}
use Rattle.zvt_kept.proofs.NoteLemmas.{extended, note_few}
use Rattle.zvt_kept.proofs.note.Note.of.Goals as goal

pub returns : goal.returns
returns c =
    let few : length c.args.words.now ≤ 69 = note_few c.args.words.now c.requires in
    let held = c.new-held.result.items in
    extended c.try_extend_from_slice.result c.try_extend_from_slice.new.self.items held c.args.words.now (c.try_extend_from_slice.ensures.variant.1 (omega (arith, few, ap length c.new-held.ensures))) c.try_extend_from_slice.ensures.ok c.new-held.ensures
