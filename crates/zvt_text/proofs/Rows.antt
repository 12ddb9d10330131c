-- Lines worked by hand.
use Rattle.std.proofs.Common.{◌≡◌, ℕ, Bool, true, ◌&&◌, nat_lt, length, List, [], ◌∷◌, None, Some, refl, codes}
use Rattle.std.specs.Fmt.{digits}
use Rattle.hex.specs.Hex.{encode_with}
use Rattle.zvt_tlv.specs.Grammar.{none, primitive, constructed}
use Rattle.zvt_field.specs.Grammar.{plain, tree}
use Rattle.zvt_apdu.specs.Message.{abort, intermediate, nack, other, print_line, registration, reversal}
use Rattle.zvt_text.specs.Lines.{field_line}
use Rattle.zvt_text.specs.Meanings.{card_type_name, card_types, command_name, commands, meaning_of, printed_of, results, status_words, statuses, tag_name, tags, unprinted_of}
use Rattle.zvt_text.specs.MessageTexts.{said}
use Rattle.zvt_text.specs.TextOptions.{explained_text, plain_text, safe_explained_text, safe_text}

-- 04 00 00 00 00 12 34
pub amount : field_line plain_text (plain 0x04 (0x00 ∷ 0x00 ∷ 0x00 ∷ 0x00 ∷ 0x12 ∷ 0x34 ∷ [])) ≡ codes "  04 amount 1234\n"
unfolding encode_with digits
amount = refl

-- 27 00
pub result : field_line plain_text (plain 0x27 (0x00 ∷ [])) ≡ codes "  27 result 00 success\n"
unfolding encode_with printed_of meaning_of
result = refl

-- 22 F0 F1 55
pub pan : field_line plain_text (plain 0x22 (0x55 ∷ [])) ≡ codes "  22 pan hidden 1\n"
unfolding encode_with digits
pan = refl

-- 2D F0 F0
pub track : field_line plain_text (plain 0x2D []) ≡ codes "  2D track1 hidden 0\n"
unfolding encode_with digits
track = refl

-- 8B F0 F2 41 5C
pub card_name : field_line plain_text (plain 0x8B (0x41 ∷ 0x5C ∷ [])) ≡ codes "  8B card-name \"A\\x5C\"\n"
unfolding encode_with
card_name = refl

-- 06 04 25 02 07 00
pub container : field_line safe_text (tree 0x06 (constructed (0x25 ∷ []) (primitive (0x07 ∷ []) [] none) none)) ≡ codes "  06 container\n    25 constructed\n      07 -\n"
unfolding encode_with
container = refl

-- 06 D1 05 00 4F 4B 22 80
pub line : said plain_text (print_line 0x00 (0x4F ∷ 0x4B ∷ 0x22 ∷ 0x80 ∷ [])) ≡ codes "PrintLine 00 \"OK\\x22\\x80\"\n"
unfolding encode_with
line = refl

-- 84 83 00
pub refused : said plain_text (nack 0x83 []) ≡ codes "Nack 83\n"
unfolding encode_with
refused = refl

-- 06 1E 01 6C
pub given_up : said plain_text (abort 0x6C []) ≡ codes "Abort 6C abort by time-out or abort key\n"
unfolding encode_with printed_of meaning_of
given_up = refl

-- 06 1E 01 65, whose meaning is not in this text
pub no_card_data : said plain_text (abort 0x65 []) ≡ codes "Abort code 65\n"
unfolding encode_with printed_of meaning_of
no_card_data = refl

pub no_card_data_means : meaning_of 0x65 ≡ Some (codes "no card data found")
unfolding meaning_of
no_card_data_means = refl

-- a code of the network operator's
pub operator_code : meaning_of 0x05 ≡ None
unfolding meaning_of
operator_code = refl

-- 04 FF 01 0A
pub card_wanted : status_words 0x0A ≡ Some (codes "insert the card")
unfolding status_words
card_wanted = refl

pub abort_key : status_words 0x6C ≡ None
unfolding status_words
abort_key = refl

-- 06 31, and 06 30 of the profile
pub refund : command_name 0x06 0x31 ≡ Some (codes "refund")
unfolding command_name
refund = refl

pub reversal_is_named : command_name 0x06 0x30 ≡ None
unfolding command_name
reversal_is_named = refl

-- 8A 05
pub girocard : card_type_name 0x05 ≡ Some (codes "girocard")
unfolding card_type_name
girocard = refl

-- the tags 07, 1F 07 and 1F 1F 07
pub text_line : tag_name (0x07 ∷ []) ≡ Some (codes "text line")
unfolding tag_name
text_line = refl

pub receipt_type : tag_name (0x1F ∷ 0x07 ∷ []) ≡ Some (codes "receipt type")
unfolding tag_name
receipt_type = refl

pub long_tag : tag_name (0x1F ∷ 0x1F ∷ 0x07 ∷ []) ≡ None
unfolding tag_name
long_tag = refl

-- 64 bytes hold any words
abbrev are_short : List (ℕ × List ℕ) → Bool
are_short [] = true
are_short (row ∷ rows) = nat_lt (length row.1) 64 && are_short rows

pub short_words : (are_short results && (are_short statuses && (are_short commands && (are_short card_types && are_short tags)))) ≡ true
short_words = refl

-- 05 02 01 4F
pub unnamed : said plain_text (other 0x05 0x02 (0x4F ∷ [])) ≡ codes "Other 0502 data 4F\n"
unfolding encode_with
unnamed = refl

-- 06 00 08 01 02 03 BE 09 78 03 01
pub registered : said plain_text (registration (0x01 ∷ 0x02 ∷ 0x03 ∷ []) 0xBE (Some (978, plain 0x03 (0x01 ∷ []) ∷ []))) ≡ codes "Registration config BE currency 0978\n  03 service 01\n"
unfolding encode_with
registered = refl

-- 06 30 06 12 34 56 87 00 01
pub reversed : said plain_text (reversal (0x12 ∷ 0x34 ∷ 0x56 ∷ []) (plain 0x87 (0x00 ∷ 0x01 ∷ []) ∷ [])) ≡ codes "Reversal\n  87 receipt 0001\n"
unfolding encode_with
reversed = refl

-- 06 93 03 12 34 56, and 06 70 00
pub unknown : said safe_text (other 0x06 0x93 (0x12 ∷ 0x34 ∷ 0x56 ∷ [])) ≡ codes "Other 0693 data hidden 3\n"
unfolding encode_with digits
unknown = refl

pub unknown_empty : said safe_text (other 0x06 0x70 []) ≡ codes "Other 0670\n"
unfolding encode_with
unknown_empty = refl

-- 06 08 25 06 57 01 AB 5A 01 CD
pub card : field_line safe_text (tree 0x06 (constructed (0x25 ∷ []) (primitive (0x57 ∷ []) (0xAB ∷ []) (primitive (0x5A ∷ []) (0xCD ∷ []) none)) none))
    ≡ codes "  06 container\n    25 constructed\n      57 hidden 1\n      5A hidden 1\n"
unfolding encode_with digits
card = refl

-- ---- explained lines

-- 04 FF 02 0A 01, and 04 FF 01 BB
pub card_awaited : said explained_text (intermediate 0x0A (0x01 ∷ [])) ≡ codes "Intermediate 0A data 01 (insert the card)\n"
unfolding encode_with status_words
card_awaited = refl

pub status_unknown : said explained_text (intermediate 0xBB []) ≡ codes "Intermediate BB\n"
unfolding encode_with status_words
status_unknown = refl

-- 06 1E 01 65, and 06 1E 01 6C, whose meaning is there already
pub no_card_explained : said explained_text (abort 0x65 []) ≡ codes "Abort code 65 (no card data found)\n"
unfolding encode_with printed_of unprinted_of meaning_of
no_card_explained = refl

pub given_up_explained : said explained_text (abort 0x6C []) ≡ codes "Abort 6C abort by time-out or abort key\n"
unfolding encode_with printed_of unprinted_of meaning_of
given_up_explained = refl

-- 06 31 03 00 00 00
pub refund_explained : said safe_explained_text (other 0x06 0x31 (0 ∷ 0 ∷ 0 ∷ [])) ≡ codes "Other 0631 data hidden 3 (refund)\n"
unfolding encode_with digits command_name
refund_explained = refl

-- 27 6E, 8A 05, and 8C 05
pub result_explained : field_line explained_text (plain 0x27 (0x6E ∷ [])) ≡ codes "  27 result code 6E (card is on the blocked list)\n"
unfolding encode_with printed_of unprinted_of meaning_of
result_explained = refl

pub card_explained : field_line explained_text (plain 0x8A (0x05 ∷ [])) ≡ codes "  8A card-type 05 (girocard)\n"
unfolding encode_with card_type_name
card_explained = refl

pub other_field : field_line explained_text (plain 0x8C (0x05 ∷ [])) ≡ codes "  8C network-card 05\n"
unfolding encode_with
other_field = refl

-- 06 08 25 06 07 01 41 5A 01 CD
pub objects_explained : field_line safe_explained_text (tree 0x06 (constructed (0x25 ∷ []) (primitive (0x07 ∷ []) (0x41 ∷ []) (primitive (0x5A ∷ []) (0xCD ∷ []) none)) none))
    ≡ codes "  06 container\n    25 constructed (print texts)\n      07 41 (text line)\n      5A hidden 1 (card number)\n"
unfolding encode_with digits tag_name
objects_explained = refl
