-- How urgent an order or a finding is, on a page.
use Rattle.std.specs.Prelude.{ℕ, List, codes}
use Rattle.zvt_report.specs.declared.cases.Weight.{Weight}
use Rattle.zvt_report.specs.declared.cases.Weight.TheVariants.{Act, Check, Note}

-- by a class, which gives a shape and a colour, and by a word
abbrev pub weight_class : Weight → List ℕ
weight_class Act = codes "act"
weight_class Check = codes "check"
weight_class Note = codes "note"

abbrev pub weight_word : Weight → List ℕ
weight_word Act = codes "Act"
weight_word Check = codes "Check"
weight_word Note = codes "Note"
