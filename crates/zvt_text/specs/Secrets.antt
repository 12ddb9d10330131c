-- What a safe text does not show: passwords, card data, and the data of messages outside the payment profile.
use Rattle.std.specs.Prelude.{ℕ, Bool, true, false, ◌==◌, ◌&&◌, ◌||◌, if◌then◌else◌, List, [], ◌∷◌, ◌++◌, length, map, replicate, codes, option_map}
use Rattle.std.specs.Fmt.{decimal}
use Rattle.zvt_tlv.specs.Grammar.{Objects, none, primitive, constructed}
use Rattle.zvt_field.specs.Grammar.{Field, plain, tree}
use Rattle.zvt_field.specs.Shapes.{format_of}
use Rattle.zvt_field.specs.declared.shapes.Format.{Format}
use Rattle.zvt_field.specs.declared.shapes.Format.TheVariants.{Amount, Bytes, Hidden, Result, Text}
use Rattle.zvt_apdu.specs.Message.{Message, ack, nack, registration, authorisation, reversal, end_of_day, abort_order, status, intermediate, print_line, text_block, completion, abort, other}
use Rattle.zvt_text.specs.declared.text_options.TextOptions.{TextOptions}

-- the tags of the objects that have card data: the card's track 2 (57) and its number (5A)
abbrev pub is_secret_tag : List ℕ → Bool
is_secret_tag (tag ∷ []) = tag == 0x57 || tag == 0x5A
is_secret_tag tag = false

-- whether a text hides the content of objects with the tag
abbrev pub hides_tag : TextOptions → List ℕ → Bool
hides_tag options tag = options.safe && is_secret_tag tag

-- of what is hidden the size alone
abbrev pub hidden_text : List ℕ → List ℕ
hidden_text content = codes "hidden " ++ decimal (length content)

-- ---- a message with zeros in place of its secrets

abbrev pub blank : List ℕ → List ℕ
blank content = replicate (length content) 0

abbrev pub blanked_objects : Objects → Objects
blanked_objects none = none
blanked_objects (primitive tag content rest) = primitive tag (if is_secret_tag tag then blank content else content) (blanked_objects rest)
blanked_objects (constructed tag inner rest) = constructed tag (blanked_objects inner) (blanked_objects rest)

-- a content that is shown so
abbrev pub blanked_in : Format → List ℕ → List ℕ
blanked_in Hidden content = blank content
blanked_in Amount content = content
blanked_in Result content = content
blanked_in Text content = content
blanked_in Bytes content = content

abbrev pub blanked_field : Field → Field
blanked_field (plain bmp content) = plain bmp (blanked_in (format_of bmp) content)
blanked_field (tree bmp objects) = tree bmp (blanked_objects objects)

abbrev pub blanked_fields : List Field → List Field
blanked_fields = map blanked_field

abbrev pub blanked_rest : ℕ × List Field → ℕ × List Field
blanked_rest rest = (rest.0, blanked_fields rest.1)

abbrev pub blanked : Message → Message
blanked (ack payload) = ack payload
blanked (nack code payload) = nack code payload
blanked (registration password config rest) = registration (blank password) config (option_map blanked_rest rest)
blanked (authorisation fields) = authorisation (blanked_fields fields)
blanked (reversal password fields) = reversal (blank password) (blanked_fields fields)
blanked (end_of_day password fields) = end_of_day (blank password) (blanked_fields fields)
blanked (abort_order fields) = abort_order (blanked_fields fields)
blanked (status fields) = status (blanked_fields fields)
blanked (intermediate step payload) = intermediate step payload
blanked (print_line attribute text) = print_line attribute text
blanked (text_block fields) = text_block (blanked_fields fields)
blanked (completion fields) = completion (blanked_fields fields)
blanked (abort code payload) = abort code payload
blanked (other high low payload) = other high low (blank payload)
