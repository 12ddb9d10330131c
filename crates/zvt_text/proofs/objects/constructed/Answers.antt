use Rattle.std.proofs.Common.{[], ◌∷◌, codes}
use Rattle.zvt_text.specs.Meanings.{tag_name}
use Rattle.zvt_text.specs.Notes.{note}
use Rattle.zvt_text.proofs.RoomLemmas.{puts_more}
use Rattle.zvt_text.proofs.objects.constructed.Goals as goal

pub returns : goal.returns
returns c =
    puts_more c.push.result _ _ _ _ _ (codes "constructed") _ c.in_ok-at.ensures.1
    (puts_more c.push.result _ _ _ _ _ (note c.args.options (tag_name c.args.tag.now)) (10 ∷ []) c.in_ok-at-2.ensures.1 c.push.ensures)
