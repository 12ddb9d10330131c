-- Rows worked by hand.
use Rattle.std.proofs.Common.{◌≡◌, Some, None, List, [], ◌∷◌, refl, arith, true, false, replicate}
use Rattle.zvt_grammar.specs.declared.why.Why.TheVariants.{DoesNotFit, UnknownField, NotDigit, LengthDigit}
use Rattle.zvt_grammar.specs.Reading.{shortest}
use Rattle.zvt_tlv.specs.Grammar as tlv
use Rattle.zvt_tlv.specs.Judging.{first_length}
use Rattle.zvt_field.specs.declared.shapes.Shape.TheVariants.{Ll}
use Rattle.zvt_field.specs.Shapes.{shape_of}
use Rattle.zvt_field.specs.Grammar.{Field, plain, tree, Filled}
use Rattle.zvt_field.specs.Spelling.{spelling_of}
use Rattle.zvt_field.specs.Bodies.{size_agrees}
use Rattle.zvt_field.specs.Named.{count_of, trace_of, amount_of, receipt_of}
use Rattle.zvt_field.specs.Answers.{Begun}
use Rattle.zvt_field.proofs.NoneFound.{none_in, least_two}
use Rattle.zvt_field.specs.Judging.{name, digit, in_content, in_container, fault, WhyIn}

-- 22 F0 F1 55: a pan of one byte
pub one_byte_pan : Filled shortest 4 (plain 0x22 (0x55 ∷ []) ∷ []) (0x22 ∷ 0xF0 ∷ 0xF1 ∷ 0x55 ∷ [])
unfolding shape_of
one_byte_pan = ((0x22 ∷ 0xF0 ∷ 0xF1 ∷ 0x55 ∷ [], [], refl, record { digits = false; size = 0xF0 ∷ 0xF1 ∷ []; whole = refl; is_head = (refl, (refl, (omega arith, omega arith, (omega arith, omega arith, tt)), refl)); is_content = (omega arith, tt) }, refl), refl)

-- 06 00: an empty container
pub empty_container : Filled shortest 2 (tree 0x06 tlv.none ∷ []) (0x06 ∷ 0x00 ∷ [])
unfolding shape_of
empty_container = ((0x06 ∷ 0x00 ∷ [], [], refl, record { one = 0 ∷ []; whole = refl; is_tree = refl; sized = record { size = 0 ∷ []; content = []; whole = refl; is_length = (omega arith, refl); inside = refl } }, refl), refl)

-- 22 F0 F0 in a room of 4: one byte would be left over
pub last_digit : WhyIn shortest 4 (0x22 ∷ 0xF0 ∷ 0xF0 ∷ []) 2 DoesNotFit
unfolding shape_of
last_digit = record {
  openers = [];
  role = digit 0 0;
  left = 1;
  byte = 0xF0;
  stands = (refl, record { fields = []; done = []; beginning = 0x22 ∷ 0xF0 ∷ []; whole = refl; spelled = refl; begins = (0x22, 0xF0 ∷ [], refl, refl, (omega arith, omega arith, tt), refl); filled = refl });
  is_byte = refl;
  fails = refl;
}

-- 06 01 in a room of 5
pub one_byte_container : WhyIn shortest 5 (0x06 ∷ 0x01 ∷ []) 1 DoesNotFit
unfolding shape_of
one_byte_container = record {
  openers = [];
  role = in_container 0 (first_length true);
  left = 3;
  byte = 0x01;
  stands = record { fields = []; done = []; bmp = 0x06; inside = []; whole = refl; spelled = refl; is_tree = refl; level = 4; filled = refl; stands = (record { is_tag = (omega arith, refl); is_kind = refl; deep = λ e. omega arith }, refl, refl) };
  is_byte = refl;
  fails = refl;
}

pub unknown_name : fault shortest name 0 0xD0 ≡ Some UnknownField
unfolding shape_of
unknown_name = refl

pub no_length_digit : fault shortest (digit 0 0) 2 0xFA ≡ Some LengthDigit
no_length_digit = refl

pub no_digit : fault shortest (in_content true) 0 0x3A ≡ Some NotDigit
no_digit = refl

-- the shortest spelling of a pan of one byte, of an empty text, of an empty container
pub spelled_pan : spelling_of (plain 0x22 (0x55 ∷ [])) ≡ 0x22 ∷ 0xF0 ∷ 0xF1 ∷ 0x55 ∷ []
unfolding shape_of
spelled_pan = refl

pub spelled_text : spelling_of (plain 0x3C []) ≡ 0x3C ∷ 0xF0 ∷ 0xF0 ∷ 0xF0 ∷ []
unfolding shape_of
spelled_text = refl

pub spelled_container : spelling_of (tree 0x06 tlv.none) ≡ 0x06 ∷ 0x00 ∷ []
spelled_container = refl

-- two traces are none
abbrev two_traces : List Field
two_traces = plain 0x0B (0x00 ∷ 0x00 ∷ 0x17 ∷ []) ∷ plain 0x0B (0x00 ∷ 0x00 ∷ 0x17 ∷ []) ∷ []

pub two_are_counted : count_of 0x0B two_traces ≡ 2
two_are_counted = refl

pub two_are_none : trace_of two_traces ≡ None
two_are_none = refl

pub zero_is_none : amount_of (plain 0x04 (0 ∷ 0 ∷ 0 ∷ 0 ∷ 0 ∷ 0 ∷ []) ∷ []) ≡ None
zero_is_none = refl

pub an_amount : amount_of (plain 0x27 (0 ∷ []) ∷ plain 0x04 (0 ∷ 0 ∷ 0 ∷ 0 ∷ 0x10 ∷ 0 ∷ []) ∷ []) ≡ Some 1000
an_amount = refl

pub any_receipt : receipt_of (plain 0x87 (0xFF ∷ 0xFF ∷ []) ∷ []) ≡ Some (0xFF ∷ 0xFF ∷ [])
any_receipt = refl

-- sizes at their limits
pub pan_of_99 : size_agrees Ll (plain 0x22 (replicate 99 0)) ≡ true
pan_of_99 = refl

pub no_pan_of_100 : size_agrees Ll (plain 0x22 (replicate 100 0)) ≡ false
no_pan_of_100 = refl

-- 27 00 FF: the result code is whole, and no field begins with FF
pub begun_before_unknown : Begun shortest (0x27 ∷ 0x00 ∷ 0xFF ∷ []) (plain 0x27 (0x00 ∷ []) ∷ [])
unfolding shape_of
begun_before_unknown = (
  0xFF ∷ [],
  record {
    spelled = (0x27 ∷ 0x00 ∷ [], 0xFF ∷ [], refl, record { digits = false; size = []; whole = refl; is_head = (refl, refl, refl); is_content = (omega arith, tt) }, refl);
    none_whole = none_in shortest (0xFF ∷ []) 2 (least_two shortest (0xFF ∷ [])) (omega arith);
  },
)

-- 27: the result code is not whole yet
pub begun_nothing : Begun shortest (0x27 ∷ []) []
begun_nothing = (0x27 ∷ [], record { spelled = refl; none_whole = none_in shortest (0x27 ∷ []) 2 (least_two shortest (0x27 ∷ [])) (omega arith) })
