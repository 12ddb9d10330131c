-- What an explained text adds to a line: the words of a code, or the name of a command, a card type or a tag.
use Rattle.std.specs.Prelude.{ℕ, ◌==◌, Bool, true, false, cond, List, [], ◌∷◌, ◌++◌, codes, Option, Some, None}
use Rattle.zvt_field.specs.Shapes.{format_of}
use Rattle.zvt_field.specs.declared.shapes.Format.{Format}
use Rattle.zvt_field.specs.declared.shapes.Format.TheVariants.{Amount, Bytes, Hidden, Result, Text}
use Rattle.zvt_apdu.specs.Message.{Message, ack, nack, registration, authorisation, reversal, end_of_day, abort_order, status, intermediate, print_line, text_block, completion, abort, other}
use Rattle.zvt_text.specs.Meanings.{card_type_name, command_name, status_words, unprinted_of}
use Rattle.zvt_text.specs.declared.text_options.TextOptions.{TextOptions}

-- words in parentheses, if there are some
abbrev pub noted : Option (List ℕ) → List ℕ
noted None = []
noted (Some words) = codes " (" ++ words ++ codes ")"

abbrev pub note : TextOptions → Option (List ℕ) → List ℕ
note options words = cond options.explained (noted words) []

-- the words of a message's first line; the text of an abort may have the meaning of its code already
abbrev pub head_note : Message → Option (List ℕ)
head_note (ack payload) = None
head_note (nack code payload) = None
head_note (registration password config rest) = None
head_note (authorisation fields) = None
head_note (reversal password fields) = None
head_note (end_of_day password fields) = None
head_note (abort_order fields) = None
head_note (status fields) = None
head_note (intermediate step payload) = status_words step
head_note (print_line attribute text) = None
head_note (text_block fields) = None
head_note (completion fields) = None
head_note (abort code payload) = unprinted_of code
head_note (other high low payload) = command_name high low

abbrev pub result_note : List ℕ → Option (List ℕ)
result_note (code ∷ []) = unprinted_of code
result_note content = None

-- of a field with the BMP 8A
abbrev pub card_note : ℕ → List ℕ → Option (List ℕ)
card_note bmp (card_type ∷ []) = cond (bmp == 0x8A) (card_type_name card_type) None
card_note bmp content = None

abbrev pub note_in : Format → ℕ → List ℕ → Option (List ℕ)
note_in Amount bmp content = None
note_in Result bmp content = result_note content
note_in Text bmp content = None
note_in Hidden bmp content = None
note_in Bytes bmp content = card_note bmp content

-- the words of a field whose content is bytes
abbrev pub value_note : ℕ → List ℕ → Option (List ℕ)
value_note bmp content = note_in (format_of bmp) bmp content
