-- What a view of objects lends.
use Rattle.std.specs.Prelude.{◌≡◌, true, false, Option, Some, None}
use Rattle.std.specs.Iterator.{Count, at_most}
use Rattle.zvt_tlv.specs.declared.views.TlvView.{TlvView}
use Rattle.zvt_tlv.specs.Grammar.{Objects, none, primitive, constructed, is_constructed}
use Rattle.zvt_tlv.specs.Views.{count}

-- The view shows the first object, and the others are left.
abbrev pub IsFirst : TlvView → (objects left : Objects) → Type 0
IsFirst v none left = ⊥
IsFirst v (primitive tag content rest) left =
    (v.tag.now ≡ tag) × (is_constructed v.tag.now ≡ false) × (v.content.now ≡ content) × (left ≡ rest)
IsFirst v (constructed tag inner rest) left =
    (v.tag.now ≡ tag) × ((kind : is_constructed v.tag.now ≡ true) × ((v.inside kind).0 ≡ inner)) × (left ≡ rest)

-- A call gives the first object and leaves the others; at the end it gives and leaves nothing.
abbrev pub GivesObject : Objects → Option TlvView → Objects → Type 0
GivesObject objects None left = (objects ≡ none) × (left ≡ none)
GivesObject objects (Some v) left = IsFirst v objects left

abbrev pub objects_left : Objects → Count
objects_left objects = at_most (count objects)

-- The children of what the view shows, if its tag is constructed.
abbrev pub IsChildren : TlvView → Option Objects → Type 0
IsChildren v None = is_constructed v.tag.now ≡ false
IsChildren v (Some inner) = (kind : is_constructed v.tag.now ≡ true) × ((v.inside kind).0 ≡ inner)
