-- The table of the BMPs (PA00P015, list of bitmaps): the shape of each, its name in every output, and how an output
-- shows its content.
use Rattle.std.specs.Prelude.{ℕ, ◌==◌, cond, Option, Some, None, List, [], ◌∷◌, option_map, codes}
use Rattle.zvt_field.specs.declared.shapes.Shape.{Shape}
use Rattle.zvt_field.specs.declared.shapes.Shape.TheVariants.{Fixed, Digits, Ll, Lll, Tree}
use Rattle.zvt_field.specs.declared.shapes.Format.{Format}
use Rattle.zvt_field.specs.declared.shapes.Format.TheVariants.{Amount, Bytes, Hidden, Result, Text}

pub record BmpRow : Type 0 where
  pub bmp : ℕ
  pub shape : Shape
  pub name : List ℕ
  pub format : Format

abbrev pub row : ℕ → Shape → List ℕ → Format → BmpRow
row bmp shape name format = record { bmp = bmp; shape = shape; name = name; format = format }

abbrev pub table : List BmpRow
table =
    row 0x01 (Fixed 1) (codes "time-out") Bytes ∷
    row 0x02 (Fixed 1) (codes "max-status") Bytes ∷
    row 0x03 (Fixed 1) (codes "service") Bytes ∷
    row 0x04 (Digits 6) (codes "amount") Amount ∷
    row 0x05 (Fixed 1) (codes "pump") Bytes ∷
    row 0x06 Tree (codes "container") Bytes ∷
    row 0x0B (Digits 3) (codes "trace") Bytes ∷
    row 0x0C (Digits 3) (codes "time") Bytes ∷
    row 0x0D (Digits 2) (codes "date") Bytes ∷
    row 0x0E (Fixed 2) (codes "expiry") Bytes ∷
    row 0x17 (Fixed 2) (codes "sequence") Bytes ∷
    row 0x19 (Fixed 1) (codes "payment-type") Bytes ∷
    row 0x22 Ll (codes "pan") Hidden ∷
    row 0x23 Ll (codes "track2") Hidden ∷
    row 0x24 Lll (codes "track3") Hidden ∷
    row 0x27 (Fixed 1) (codes "result") Result ∷
    row 0x29 (Digits 4) (codes "terminal") Bytes ∷
    row 0x2A (Fixed 15) (codes "contract") Text ∷
    row 0x2D Ll (codes "track1") Hidden ∷
    row 0x2E Lll (codes "chip-data") Bytes ∷
    row 0x37 (Fixed 3) (codes "original-trace") Bytes ∷
    row 0x3A (Fixed 2) (codes "verification") Hidden ∷
    row 0x3B (Fixed 8) (codes "attribute") Bytes ∷
    row 0x3C Lll (codes "text") Bytes ∷
    row 0x3D (Fixed 3) (codes "password") Hidden ∷
    row 0x49 (Digits 2) (codes "currency") Bytes ∷
    row 0x60 Lll (codes "totals") Bytes ∷
    row 0x87 (Fixed 2) (codes "receipt") Bytes ∷
    row 0x88 (Fixed 3) (codes "turnover") Bytes ∷
    row 0x8A (Fixed 1) (codes "card-type") Bytes ∷
    row 0x8B Ll (codes "card-name") Text ∷
    row 0x8C (Fixed 1) (codes "network-card") Bytes ∷
    row 0x92 Lll (codes "field-92") Bytes ∷
    row 0x9A Lll (codes "field-9A") Bytes ∷
    row 0xA0 (Fixed 1) (codes "result-as") Bytes ∷
    row 0xA7 Ll (codes "ef-id") Bytes ∷
    row 0xAA (Digits 3) (codes "date-ymd") Bytes ∷
    row 0xAF Lll (codes "field-AF") Bytes ∷
    row 0xBA (Fixed 5) (codes "aid") Bytes ∷
    []

-- The first row of the BMP.
abbrev pub look_up : ℕ → List BmpRow → Option BmpRow
look_up bmp [] = None
look_up bmp (one ∷ rows) = cond (bmp == one.bmp) (Some one) (look_up bmp rows)

unfoldable pub shape_of : ℕ → Option Shape
shape_of bmp = option_map (λ one. one.shape) (look_up bmp table)

abbrev pub name_of : ℕ → Option (List ℕ)
name_of bmp = option_map (λ one. one.name) (look_up bmp table)

-- What the table does not list is shown as bytes.
abbrev pub format_in : Option Format → Format
format_in None = Bytes
format_in (Some format) = format

abbrev pub format_of : ℕ → Format
format_of bmp = format_in (option_map (λ one. one.format) (look_up bmp table))
