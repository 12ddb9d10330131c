-- Worked rows of the definitions: in a room, the tests of each byte on both sides of each border, and small spellings.
use Rattle.std.proofs.Common.{◌≡◌, ℕ, Some, None, List, [], ◌∷◌, ◌++◌, true, false, refl, arith, inr}
use Rattle.zvt_grammar.specs.declared.why.Why.TheVariants.{NotShortest, DoesNotFit, LengthForm, TooDeep, TagTooLong}
use Rattle.zvt_grammar.specs.Reading.{shortest, padded}
use Rattle.zvt_tlv.specs.Grammar.{Objects, none, primitive, constructed, IsTag, Spells}
use Rattle.zvt_tlv.specs.Answers.{TakesMemory}
use Rattle.zvt_tlv.specs.Judging.{first_tag, second_tag, third_tag, first_length, after_81, high_length, low_length, fault}
use Rattle.zvt_tlv.specs.Sizes.{size_of, spelling}

deep_tag : fault shortest 6 first_tag 2 0x25 ≡ Some TooDeep
deep_tag = refl

plain_tag_at_depth_6 : fault shortest 6 first_tag 1 0x07 ≡ None
plain_tag_at_depth_6 = refl

constructed_before_two : fault shortest 1 first_tag 2 0x25 ≡ Some DoesNotFit
constructed_before_two = refl

constructed_before_two_padded : fault padded 1 first_tag 2 0x25 ≡ None
constructed_before_two_padded = refl

constructed_before_three : fault shortest 1 first_tag 3 0x25 ≡ None
constructed_before_three = refl

long_tag_before_one : fault shortest 1 first_tag 1 0x1F ≡ Some DoesNotFit
long_tag_before_one = refl

long_tag_before_two : fault shortest 1 first_tag 2 0x3F ≡ None
long_tag_before_two = refl

second_before_two : fault shortest 1 (second_tag true) 2 0x07 ≡ Some DoesNotFit
second_before_two = refl

second_plain_before_two : fault shortest 1 (second_tag false) 2 0x07 ≡ None
second_plain_before_two = refl

second_again_before_three : fault shortest 1 (second_tag true) 3 0x81 ≡ Some DoesNotFit
second_again_before_three = refl

second_again_before_two : fault shortest 1 (second_tag true) 2 0x81 ≡ None
second_again_before_two = refl

third_again : fault shortest 1 (third_tag false) 9 0x80 ≡ Some TagTooLong
third_again = refl

third_last : fault shortest 1 (third_tag false) 9 0x7F ≡ None
third_last = refl

length_that_fills : fault shortest 1 (first_length false) 2 2 ≡ None
length_that_fills = refl

length_one_over : fault shortest 1 (first_length false) 3 2 ≡ Some DoesNotFit
length_one_over = refl

length_of_one_object_byte : fault shortest 1 (first_length true) 9 1 ≡ Some DoesNotFit
length_of_one_object_byte = refl

no_form : fault shortest 1 (first_length false) 300 0x80 ≡ Some LengthForm
no_form = refl

long_form_too_early : fault shortest 1 (first_length false) 128 0x81 ≡ Some NotShortest
long_form_too_early = refl

long_form : fault shortest 1 (first_length false) 129 0x81 ≡ None
long_form = refl

long_form_of_objects_padded : fault padded 1 (first_length true) 2 0x81 ≡ Some DoesNotFit
long_form_of_objects_padded = refl

after_81_short : fault shortest 1 (after_81 false) 127 127 ≡ Some NotShortest
after_81_short = refl

after_81_one_over : fault shortest 1 (after_81 false) 129 128 ≡ Some DoesNotFit
after_81_one_over = refl

longer_form_too_early : fault shortest 1 (first_length false) 257 0x82 ≡ Some NotShortest
longer_form_too_early = refl

longer_form : fault shortest 1 (first_length false) 258 0x82 ≡ None
longer_form = refl

high_byte_0 : fault shortest 1 (high_length false) 300 0 ≡ Some NotShortest
high_byte_0 = refl

high_byte_that_does_not_fit : fault shortest 1 (high_length false) 256 1 ≡ Some DoesNotFit
high_byte_that_does_not_fit = refl

low_byte : fault shortest 1 (low_length false 1) 258 2 ≡ None
low_byte = refl

low_byte_one_over : fault shortest 1 (low_length false 1) 259 2 ≡ Some DoesNotFit
low_byte_one_over = refl

-- 25 03 07 01 41
nested : Objects
nested = constructed (0x25 ∷ []) (primitive (0x07 ∷ []) (0x41 ∷ []) none) none

nested_size : size_of nested ≡ 5
unfolding nested
nested_size = refl

nested_spelling : spelling nested ≡ 0x25 ∷ 3 ∷ 7 ∷ 1 ∷ 0x41 ∷ []
unfolding nested
nested_spelling = refl

nested_spelled : Spells shortest 1 nested (0x25 ∷ 3 ∷ 7 ∷ 1 ∷ 0x41 ∷ [])
unfolding nested
nested_spelled = record {
  size = 3 ∷ [];
  content = 7 ∷ 1 ∷ 0x41 ∷ [];
  after = [];
  whole = refl;
  is_tag = (omega arith, refl);
  is_kind = refl;
  is_length = (omega arith, refl);
  inside = (
    omega arith,
    record {
      size = 1 ∷ [];
      content = 0x41 ∷ [];
      after = [];
      whole = refl;
      is_tag = (omega arith, refl);
      is_kind = refl;
      is_length = (omega arith, refl);
      inside = (refl, (omega arith, tt));
      others = refl;
    },
  );
  others = refl;
}

-- 07 81 01 41 is a spelling of the padded reading
padded_spelled : Spells padded 1 (primitive (0x07 ∷ []) (0x41 ∷ []) none) (7 ∷ 0x81 ∷ 1 ∷ 0x41 ∷ [])
padded_spelled = record {
  size = 0x81 ∷ 1 ∷ [];
  content = 0x41 ∷ [];
  after = [];
  whole = refl;
  is_tag = (omega arith, refl);
  is_kind = refl;
  is_length = (refl, omega arith, omega arith, refl);
  inside = (refl, (omega arith, tt));
  others = refl;
}

-- an object of one byte is stored, and of no bytes nothing is
kept : TakesMemory shortest 3 (0x07 ∷ 0x01 ∷ 0x41 ∷ [])
kept = record {
  some = omega arith;
  tag = 0x07 ∷ [];
  size = 0x01 ∷ [];
  content = 1;
  trailing = 0x41 ∷ [];
  whole = refl;
  is_tag = (omega arith, refl);
  is_length = (omega arith, refl);
  kept = inr (omega arith);
}

nothing_kept : (room : ℕ) → TakesMemory shortest room [] → ⊥
nothing_kept room t = no_tag t.tag (t.size ++ t.trailing) t.is_tag t.whole
  where
    no_tag : (tag rest : List ℕ) → IsTag tag → [] ≡ tag ++ rest → ⊥
    no_tag [] rest i e = i
    no_tag (x ∷ tag) rest i e = absurd cc
