-- What some files represent, which of them count as begun, and what opening repairs, worked out.
use Rattle.std.proofs.Common.{◌≡◌, ◌⊎◌, get_or, ℕ, zero, suc, ◌<◌, true, false, inl, inr, List, [], ◌∷◌, ◌++◌, codes, refl, arith}
use Rattle.zvt_journal.specs.declared.tears.Tear.TheVariants.{First, Last, Padded}
use Rattle.zvt_journal.specs.Device.{Torn}
use Rattle.zvt_journal.specs.Files.{behind_gate, gate_line, is_begun, records_behind, IsRepairable}
use Rattle.zvt_journal.specs.Text.{begins_marked, recovered}
use Rattle.zvt_journal.specs.Torn.{torn}

empty : recovered [] ≡ []
empty = refl

-- "\n"
gate_alone : recovered (10 ∷ []) ≡ []
gate_alone = refl

-- "!\n\n"
one_record : recovered (33 ∷ 10 ∷ 10 ∷ []) ≡ 33 ∷ 10 ∷ []
one_record = refl

-- "!\n\n< \n\n": what comes after the closed gate doesn't count
after_gate : recovered (33 ∷ 10 ∷ 10 ∷ 60 ∷ 10 ∷ 10 ∷ []) ≡ 33 ∷ 10 ∷ []
after_gate = refl

-- "!\n<": nor does a line that is cut short
cut_short : recovered (33 ∷ 10 ∷ 60 ∷ []) ≡ 33 ∷ 10 ∷ []
cut_short = refl

-- "!\n#\n"
two_records : recovered (33 ∷ 10 ∷ 35 ∷ 10 ∷ []) ≡ 33 ∷ 10 ∷ 35 ∷ 10 ∷ []
two_records = refl

-- ---- a file without a record

begun_empty : is_begun [] ≡ true
begun_empty = refl

begun_gate : is_begun (10 ∷ []) ≡ true
begun_gate = refl

-- a gate that isn't there yet
begun_zero : is_begun (0 ∷ []) ≡ true
begun_zero = refl

-- an opening without its first byte, and a part of one, some of whose bytes are still 0
begun_opening : is_begun (10 ∷ codes " zvt journal 1, currency 978" ++ 10 ∷ 10 ∷ []) ≡ true
begun_opening = refl

begun_part : is_begun (10 ∷ 32 ∷ 0 ∷ 0 ∷ 116 ∷ []) ≡ true
begun_part = refl

-- the same for an opening that names the rule
begun_ruled : is_begun (10 ∷ codes " zvt journal 1, currency 0978, reversals by receipt" ++ 10 ∷ 10 ∷ []) ≡ true
begun_ruled = refl

begun_ruled_part : is_begun (10 ∷ codes " zvt journal 1, currency 978, re" ++ 0 ∷ 0 ∷ []) ≡ true
begun_ruled_part = refl

-- a note of 21 bytes, one byte, a currency of five digits
no_note : is_begun (10 ∷ codes "milk, bread and eggs") ≡ false
no_note = refl

no_byte : is_begun (120 ∷ []) ≡ false
no_byte = refl

no_currency : is_begun (10 ∷ codes " zvt journal 1, currency 12345") ≡ false
no_currency = refl

-- another rule
no_rule : is_begun (10 ∷ codes " zvt journal 1, currency 978, reversals by trace") ≡ false
no_rule = refl

-- ---- what an append leaves

-- "!\n\n" and " pay 12\n\n": a record whose first byte is missing
first_byte_missing : IsRepairable (33 ∷ 10 ∷ 10 ∷ codes " pay 12" ++ 10 ∷ 10 ∷ [])
first_byte_missing = record { few = omega arith; no_line = refl }

-- the same, torn: the file has its length, and zeros where the record is not yet
with_zeros : IsRepairable (33 ∷ 10 ∷ 10 ∷ 0 ∷ 0 ∷ 97 ∷ 121 ∷ 0 ∷ [])
with_zeros = record { few = omega arith; no_line = refl }

closed_gate : IsRepairable (33 ∷ 10 ∷ 10 ∷ [])
closed_gate = record { few = omega arith; no_line = refl }

line_feed_alone : IsRepairable (10 ∷ [])
line_feed_alone = record { few = omega arith; no_line = refl }

-- "!\n\n# pay\n< 80\n> 06\n!\n": whole records behind an empty line are not repaired; an answer is none of its own
abbrev emptied : List ℕ
emptied = 33 ∷ 10 ∷ 10 ∷ codes "# pay" ++ 10 ∷ codes "< 80" ++ 10 ∷ codes "> 06" ++ 10 ∷ 33 ∷ 10 ∷ []

line_behind : begins_marked (behind_gate emptied) ≡ true
line_behind = refl

three_behind : records_behind emptied ≡ 3
three_behind = refl

second_line : gate_line emptied ≡ 2
second_line = refl

-- ---- torn writes

abbrev Is : (byte new old : ℕ) → Type 0
Is byte new old = (byte ≡ new) ⊎ (byte ≡ old)

-- "bc" behind "a", whose first byte is not there yet
torn_write : Torn 1 (98 ∷ 99 ∷ []) (97 ∷ []) (97 ∷ 0 ∷ 99 ∷ [])
torn_write = record { before = refl; after = refl; no_shorter = omega arith; no_longer = omega arith; each = each_byte }
  where
    each_byte : (i : ℕ) → i < 2 → Is (get_or (0 ∷ 99 ∷ []) i 0) (get_or (98 ∷ 99 ∷ []) i 0) (get_or [] i 0)
    each_byte zero lt = inr refl
    each_byte (suc zero) lt = inl refl
    each_byte (suc (suc i)) lt = absurd (omega (arith, lt))

torn_first : torn First 2 (97 ∷ []) (97 ∷ 98 ∷ 99 ∷ []) ≡ 97 ∷ 98 ∷ []
torn_first = refl

torn_last : torn Last 1 (97 ∷ 97 ∷ []) (98 ∷ 99 ∷ []) ≡ 97 ∷ 99 ∷ []
torn_last = refl

torn_padded : torn Padded 2 (97 ∷ []) (97 ∷ 98 ∷ 99 ∷ []) ≡ 97 ∷ 98 ∷ 0 ∷ []
torn_padded = refl

-- a cut ends at the place
torn_cut : torn First 2 (97 ∷ 98 ∷ 99 ∷ []) (97 ∷ []) ≡ 97 ∷ 98 ∷ []
torn_cut = refl
