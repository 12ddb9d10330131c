-- What no text says, and what no safe text says.
use Rattle.std.specs.Prelude.{◌≡◌, ℕ, true, Option, List, ◌∷◌, ◌++◌, length}
use Rattle.zvt_field.specs.Grammar.{Field, plain}
use Rattle.zvt_field.specs.Shapes.{format_of}
use Rattle.zvt_field.specs.declared.shapes.Format.TheVariants.{Hidden}
use Rattle.zvt_apdu.specs.Message.{Message, registration, reversal, end_of_day}
use Rattle.zvt_text.specs.Lines.{field_lines}
use Rattle.zvt_text.specs.MessageTexts.{said}
use Rattle.zvt_text.specs.Secrets.{blanked}
use Rattle.zvt_text.specs.declared.text_options.TextOptions.{TextOptions}

-- Two messages that differ in their passwords alone have one text.
abbrev pub PasswordsStayHidden : Type 0
PasswordsStayHidden =
    (options : TextOptions) (one other : List ℕ) (config : ℕ) (rest : Option (ℕ × List Field)) (fields : List Field) →
    (said options (registration one config rest) ≡ said options (registration other config rest))
    × (said options (reversal one fields) ≡ said options (reversal other fields))
    × (said options (end_of_day one fields) ≡ said options (end_of_day other fields))

-- Two contents of one size have one line, wherever they are among other fields.
abbrev pub StaysHidden : (bmp : ℕ) → Type 0
StaysHidden bmp =
    (options : TextOptions) (before after : List Field) (one other : List ℕ) → length one ≡ length other
    → field_lines options (before ++ plain bmp one ∷ after) ≡ field_lines options (before ++ plain bmp other ∷ after)

-- Whatever the table of BMPs hides.
abbrev pub SecretsStayHidden : Type 0
SecretsStayHidden = (bmp : ℕ) → format_of bmp ≡ Hidden → StaysHidden bmp

-- Two messages that differ only in their secrets, in contents of the same size, have one safe text, explained or not.
abbrev pub SafeTextsAgree : Type 0
SafeTextsAgree = (options : TextOptions) → options.safe ≡ true → (one other : Message) → blanked one ≡ blanked other → said options one ≡ said options other
