-- What views of fields lend.
use Rattle.std.specs.Prelude.{Option, List}
use Rattle.std.specs.Option.{option_map}
use Rattle.std.specs.Iterator.{Count, YieldsFirstBy, item_count}
use Rattle.zvt_field.specs.declared.views.FieldView.{FieldView}
use Rattle.zvt_field.specs.Grammar.{Field}

-- The field that a view shows.
abbrev pub shown : FieldView → Field
shown v = v.field.0

abbrev pub all_shown : Option FieldView → Option Field
all_shown = option_map shown

-- A call gives the first field and leaves the others.
abbrev pub GivesField : List Field → Option FieldView → List Field → Type 0
GivesField = YieldsFirstBy shown (λ fields. fields)

abbrev pub fields_left : List Field → Count
fields_left = item_count (λ fields. fields)
