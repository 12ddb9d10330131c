use Rattle.std.proofs.Common.{◌≡◌, option_map, true, arith, sym, subst, ◌∙◌, ap, length}
use Rattle.zvt_kept.specs.Notes.{at_in, is_note, reference_in}
use Rattle.zvt_kept.proofs.NoteLemmas.{both_added, first_added, note_few, reference_back, right_fits, time_back}
use Rattle.zvt_kept.proofs.note.Note.new.Goals as goal

pub add-requires : goal.add-requires
add-requires c =
    let f = right_fits (option_map (λ text. text.now) c.args.at) (option_map (λ text. text.now) c.args.reference) (sym c.are_right.ensures ∙ c.if-not-are_right.false) in
    omega (arith, ap length c.new-words.ensures, f.at_few)

pub add-requires-2 : goal.add-requires-2
add-requires-2 c =
    let at = option_map (λ text. text.now) c.args.at in
    let f = right_fits at (option_map (λ text. text.now) c.args.reference) (sym c.are_right.ensures ∙ c.if-not-are_right.false) in
    omega (arith, ap length (first_added at c.new-words.result.items c.add.new.words.items c.new-words.ensures c.add.ensures), f.at_few, f.reference_few)

pub invariant_of-result : goal.invariant_of-result
invariant_of-result c =
    let at = option_map (λ text. text.now) c.args.at in
    let reference = option_map (λ text. text.now) c.args.reference in
    let f = right_fits at reference (sym c.are_right.ensures ∙ c.if-not-are_right.false) in
    let whole = both_added at reference c.new-words.result.items c.add.new.words.items c.add-2.new.words.items c.new-words.ensures c.add.ensures c.add-2.ensures in
    let noted = subst (λ l. is_note l ≡ true) (sym whole) f.made in
    (noted, note_few c.add-2.new.words.items noted)

pub returns-clause-at : goal.returns-clause-at
returns-clause-at c =
    let at = option_map (λ text. text.now) c.args.at in
    let reference = option_map (λ text. text.now) c.args.reference in
    let whole = both_added at reference c.new-words.result.items c.add.new.words.items c.add-2.new.words.items c.new-words.ensures c.add.ensures c.add-2.ensures in
    ap at_in whole ∙ time_back at reference (sym c.are_right.ensures ∙ c.if-not-are_right.false)

pub returns-clause-reference : goal.returns-clause-reference
returns-clause-reference c =
    let at = option_map (λ text. text.now) c.args.at in
    let reference = option_map (λ text. text.now) c.args.reference in
    let whole = both_added at reference c.new-words.result.items c.add.new.words.items c.add-2.new.words.items c.new-words.ensures c.add.ensures c.add-2.ensures in
    ap reference_in whole ∙ reference_back at reference (sym c.are_right.ensures ∙ c.if-not-are_right.false)
