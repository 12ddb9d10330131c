-- The checksums after the saved bytes.
use Rattle.std.specs.Prelude.{ℕ, ◌+◌, ◌%◌, List, fold}

-- the sum of the bytes, and the sum of all partial sums, modulo the size of four bytes of digits
abbrev pub add_byte : ℕ × ℕ → ℕ → ℕ × ℕ
add_byte sums byte = ((sums.0 + byte) % 100000000, (sums.1 + (sums.0 + byte) % 100000000) % 100000000)

abbrev pub sums_of : List ℕ → ℕ × ℕ
sums_of bytes = fold add_byte (0, 0) bytes
