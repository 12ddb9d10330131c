use Rattle.zvt_grammar.specs.Lengths.{reading_of}
use Rattle.zvt_stream.proofs.FieldMoves.{name_fixed, name_digits, name_ll, name_lll, name_tree}
use Rattle.zvt_stream.proofs.transitions.judge_field.Goals as goal

pub returns-in-Fixed-clause-judges : goal.returns-in-Fixed-clause-judges
returns-in-Fixed-clause-judges c depth =
    let told = rw c.in-Fixed.is at c.in_ok-more.ensures in
    name_fixed (reading_of c.args.lengths) c.in-Fixed.more c.args.goes.now.left depth c.args.byte c.requires told.0 told.1

pub returns-in-Digits-clause-judges : goal.returns-in-Digits-clause-judges
returns-in-Digits-clause-judges c depth =
    let told = rw c.in-Digits.is at c.in_ok-more.ensures in
    name_digits (reading_of c.args.lengths) c.in-Digits.more c.args.goes.now.left depth c.args.byte c.requires told.0 told.1

pub returns-in-Ll-clause-judges : goal.returns-in-Ll-clause-judges
returns-in-Ll-clause-judges c depth =
    let told = rw c.in-Ll.is at c.in_ok-more.ensures in
    name_ll (reading_of c.args.lengths) c.args.goes.now.left depth c.args.byte c.requires told.0 told.1

pub returns-in-Lll-clause-judges : goal.returns-in-Lll-clause-judges
returns-in-Lll-clause-judges c depth =
    let told = rw c.in-Lll.is at c.in_ok-more.ensures in
    name_lll (reading_of c.args.lengths) c.args.goes.now.left depth c.args.byte c.requires told.0 told.1

pub returns-in-Tree-clause-judges : goal.returns-in-Tree-clause-judges
returns-in-Tree-clause-judges c depth =
    let told = rw c.in-Tree.is at c.in_ok-more.ensures in
    name_tree (reading_of c.args.lengths) c.args.goes.now.left depth c.args.byte c.requires told.0 told.1
