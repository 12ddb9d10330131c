-- The role of the next byte, with the numbers that its tests need, and the state after a judged byte.
use Rattle.std.specs.Prelude.{ℕ, Bool}
use Rattle.zvt_tlv.specs.declared.judge.LengthAt.{LengthAt}
use Rattle.zvt_tlv.specs.declared.judge.TagAt.{TagAt}

pub data At : Type 0 where
  FirstControl : At
  SecondControl : (high : ℕ) → At
  FirstSize : (high low : ℕ) → At
  LowSize : (high low : ℕ) → At
  HighSize : (high low size_low : ℕ) → At
  Payload : At
  Head : (free digits : ℕ) → At
  Name : At
  Digit : (more before : ℕ) → At
  Content : (digits : Bool) → (more : ℕ) → At
  Container : (at : LengthAt) → At
  Tag : (at : TagAt) → At
  Length : (nests : Bool) → (at : LengthAt) → At
  Object : (more : ℕ) → At

-- Another byte of the same item, the end of one, or a level inside of one and that many bytes after it. `left` counts the
-- bytes of the innermost level that are to come.
pub data Move : Type 0 where
  Within : (at : At) → (left : ℕ) → Move
  Ends : (left : ℕ) → Move
  Opens : (trailing left : ℕ) → Move
