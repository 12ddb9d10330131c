-- The numbers under which a payment is stored.
use Rattle.std.specs.Prelude.{ℕ, ◌-◌, List, ◌++◌, codes, length, replicate, Option, Some, None}
use Rattle.std.specs.Fmt.{decimal}
use Rattle.zvt_text.specs.Bytes.{hex_or_dash}

-- a number in that many digits, zeros before it where it has fewer
abbrev pub zero_padded : (width number : ℕ) → List ℕ
zero_padded width number = replicate (width - length (decimal number)) 48 ++ decimal number

abbrev pub trace_text : ℕ → List ℕ
trace_text trace = codes "trace " ++ zero_padded 6 trace

abbrev pub receipt_text : Option (List ℕ) → List ℕ
receipt_text None = codes "-"
receipt_text (Some bytes) = hex_or_dash bytes

abbrev pub numbers_text : ℕ → Option (List ℕ) → List ℕ
numbers_text trace receipt = trace_text trace ++ codes " receipt " ++ receipt_text receipt
