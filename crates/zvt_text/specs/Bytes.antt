-- The text of bytes.
use Rattle.std.specs.Prelude.{ℕ, Bool, not, ◌==◌, ◌&&◌, nat_le, List, [], ◌∷◌, ◌++◌, if◌then◌else◌, codes}
use Rattle.std.specs.List.{flat_map}
use Rattle.hex.specs.Hex.{encode_upper}

abbrev pub hex_of : ℕ → List ℕ
hex_of byte = encode_upper (byte ∷ [])

abbrev pub hex_or_dash : List ℕ → List ℕ
hex_or_dash [] = codes "-"
hex_or_dash (byte ∷ bytes) = encode_upper (byte ∷ bytes)

-- a byte that is as it is: a printing one, but for the quotation mark and the backslash
abbrev pub is_plain : ℕ → Bool
is_plain byte = nat_le 0x20 byte && (nat_le byte 0x7E && (not (byte == 0x22) && not (byte == 0x5C)))

abbrev pub escaped : ℕ → List ℕ
escaped byte = if is_plain byte then byte ∷ [] else codes "\\x" ++ hex_of byte

abbrev pub escaped_text : List ℕ → List ℕ
escaped_text bytes = flat_map escaped bytes

abbrev pub quoted : List ℕ → List ℕ
quoted bytes = 0x22 ∷ escaped_text bytes ++ 0x22 ∷ []
