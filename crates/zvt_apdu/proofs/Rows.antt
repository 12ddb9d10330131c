-- Rows worked by hand.
use Rattle.std.proofs.Common.{◌≡◌, ℕ, None, Some, List, [], ◌∷◌, ◌++◌, length, refl, ap, arith, false}
use Rattle.zvt_grammar.specs.declared.why.Why.TheVariants.{NotShortest, DoesNotFit, UnknownField}
use Rattle.zvt_grammar.specs.Reading.{shortest}
use Rattle.zvt_field.specs.Shapes.{shape_of}
use Rattle.zvt_field.specs.Grammar.{plain}
use Rattle.zvt_field.specs.Judging.{name}
use Rattle.zvt_apdu.specs.Message.{authorisation}
use Rattle.zvt_apdu.specs.Grammar.{form_of, IsFrameLength, Spells}
use Rattle.zvt_apdu.specs.Judging.{first_size, high_size, in_fields, fault, WhyOf, TakesMemory}

-- 06 01 04 22 F0 F1 55
pub one_pan : Spells shortest (authorisation (plain 0x22 (0x55 ∷ []) ∷ [])) (0x06 ∷ 0x01 ∷ 0x04 ∷ 0x22 ∷ 0xF0 ∷ 0xF1 ∷ 0x55 ∷ [])
unfolding shape_of
one_pan = record {
  control = 0x06 ∷ 0x01 ∷ [];
  size = 0x04 ∷ [];
  content = 0x22 ∷ 0xF0 ∷ 0xF1 ∷ 0x55 ∷ [];
  whole = refl;
  is_control = refl;
  is_size = (omega arith, refl);
  is_content = (
    0x22 ∷ 0xF0 ∷ 0xF1 ∷ 0x55 ∷ [],
    refl,
    refl,
    tt,
    (0x22 ∷ 0xF0 ∷ 0xF1 ∷ 0x55 ∷ [], [], refl, record { digits = false; size = 0xF0 ∷ 0xF1 ∷ []; whole = refl; is_head = (refl, (refl, (omega arith, omega arith, (omega arith, omega arith, tt)), refl)); is_content = (omega arith, tt) }, refl),
  );
}

-- 06 00 05 and 06 01 01: no data of that length
pub five : fault shortest (first_size 0x06 0x00) 0x05 ≡ Some DoesNotFit
unfolding form_of
five = refl

pub one : fault shortest (first_size 0x06 0x01) 0x01 ≡ Some DoesNotFit
unfolding form_of
one = refl

pub six : fault shortest (first_size 0x06 0x00) 0x06 ≡ None
unfolding form_of
six = refl

pub four : fault shortest (first_size 0x06 0x00) 0x04 ≡ None
unfolding form_of
four = refl

-- 06 D1 FF FE 00
pub short_long : WhyOf shortest (0x06 ∷ 0xD1 ∷ 0xFF ∷ 0xFE ∷ 0x00 ∷ []) 4 NotShortest
unfolding form_of
short_long = record { openers = []; role = high_size 0x06 0xD1 0xFE; byte = 0; stands = (refl, refl, omega arith, omega arith, omega arith); is_byte = refl; fails = refl }

-- 06 01 02 D0
pub unknown : WhyOf shortest (0x06 ∷ 0x01 ∷ 0x02 ∷ 0xD0 ∷ []) 3 UnknownField
unfolding form_of shape_of
unknown = record {
  openers = [];
  role = in_fields name 1;
  byte = 0xD0;
  stands = record {
    data_begun = record { high = 0x06; low = 0x01; size = 0x02 ∷ []; n = 2; inside = []; whole = refl; are_bytes = (omega arith, omega arith); is_size = (omega arith, refl); fills = refl; short = omega arith };
    has_fields = refl;
    head = [];
    part = [];
    whole = refl;
    sized = refl;
    room = 2;
    filled = refl;
    stands = (refl, record { fields = []; done = []; beginning = []; whole = refl; spelled = refl; begins = refl; filled = refl });
  };
  is_byte = refl;
  fails = refl;
}

-- of control bytes alone nothing is stored
nothing_kept : TakesMemory shortest (0x06 ∷ 0x0F ∷ []) → ⊥
nothing_kept t = no_size t.headed.opens.size t.headed.opens.inside t.opening.size t.opening.high t.opening.low t.headed.opens.is_size t.headed.opens.whole
  where
    no_size : (size inside : List ℕ) (n high low : ℕ) → IsFrameLength shortest n size → 0x06 ∷ 0x0F ∷ [] ≡ high ∷ low ∷ (size ++ inside) → ⊥
    no_size [] inside n high low i e = i
    no_size (x ∷ size) inside n high low i e = omega (arith, ap length e)
