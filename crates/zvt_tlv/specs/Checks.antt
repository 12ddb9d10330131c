-- What a list of objects needs to have a spelling.
use Rattle.std.specs.Prelude.{◌≡◌, ℕ, suc, ◌≤◌, ◌^◌, ◌&&◌, not, nat_lt, Bool, true, false}
use Rattle.zvt_grammar.specs.Reading.{AreBytes}
use Rattle.zvt_tlv.specs.Grammar.{Objects, none, primitive, constructed, is_constructed, IsTag}
use Rattle.zvt_tlv.specs.Sizes.{size_of}
use Rattle.zvt_tlv.specs.declared.trees.BadForest.{BadForest}
use Rattle.zvt_tlv.specs.declared.trees.BadForest.TheVariants.{Kind, TooDeep, TooLarge}

-- Each body is of the kind that bit 6 of its tag says.
abbrev pub kinds_agree : Objects → Bool
kinds_agree none = true
kinds_agree (primitive tag c rest) = not (is_constructed tag) && kinds_agree rest
kinds_agree (constructed tag inner rest) = (is_constructed tag && kinds_agree inner) && kinds_agree rest

-- No constructed object stands deeper than 5.
abbrev pub is_shallow : ℕ → Objects → Bool
is_shallow depth none = true
is_shallow depth (primitive tag c rest) = is_shallow depth rest
is_shallow depth (constructed tag inner rest) = (nat_lt depth 6 && is_shallow (suc depth) inner) && is_shallow depth rest

-- The first of the three faults that the objects have.
abbrev pub HasFault : Objects → BadForest → Type 0
HasFault f Kind = kinds_agree f ≡ false
HasFault f TooDeep = (kinds_agree f ≡ true) × (is_shallow 1 f ≡ false)
HasFault f TooLarge = (kinds_agree f ≡ true) × (is_shallow 1 f ≡ true) × (2 ^ 16 ≤ size_of f)

-- Each tag is one, and each content is bytes.
abbrev pub AllParts : Objects → Type 0
AllParts none = Unit {0}
AllParts (primitive tag c rest) = IsTag tag × AreBytes c × AllParts rest
AllParts (constructed tag inner rest) = IsTag tag × AllParts inner × AllParts rest
