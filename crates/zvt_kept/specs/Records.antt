-- The records of a till's journal: the text of each record, and the meaning of a text of records. A line feed is 10.
use Rattle.std.specs.Prelude.{◌≡◌, ◌<◌, ◌≤◌, ◌==◌, ◌&&◌, ◌||◌, ⊤, Bool, true, false, not, ℕ, ◌+◌, ◌-◌, if◌then◌else◌, List, [], ◌∷◌, ◌++◌, All, codes, decimal, length, take, drop, Option, Some, None, option_map, option_and_then, Result, Ok, Err}
use Rattle.std.specs.Char.{is_ascii_alphabetic}
use Rattle.std.specs.Str.Lines.{lines}
use Rattle.hex.specs.Hex.{IsBytes, decode_of, encode_upper}
use Rattle.hex.specs.declared.error.FromHexError.{FromHexError}
use Rattle.std.specs.List.{position_or_len}
use Rattle.zvt_text.specs.Words.{number_in, trailing}
use Rattle.zvt_kept.specs.Masking.{masked_ask}
use Rattle.zvt_kept.specs.Notes.{is_note}
use Rattle.zvt_till.specs.declared.orders.Order.{Order}
use Rattle.zvt_till.specs.declared.orders.Order.TheVariants.{Register, Pay, Reverse, CloseDay, Cancel}
use Rattle.zvt_journal.specs.Files.{IsOpening, rule_words}
use Rattle.zvt_journal.specs.Text.{recovered, IsRecord}
use Rattle.zvt_kept.specs.Checks.{are_right, checked, is_sent}

-- an entry of a journal
pub data Kept : Type 0 where
  ordered : (order : Order) → (note : List ℕ) → Kept
  asked : (note : List ℕ) → Kept
  heard : (message : List ℕ) → Kept
  lost : Kept

-- ---- the text of a record

-- the words of an order; an entry is counted from 1 there
abbrev pub order_words : Order → List ℕ
order_words Register = codes "register"
order_words (Pay amount) = codes "pay " ++ decimal amount
order_words (Reverse entry) = codes "reverse " ++ decimal (entry + 1)
order_words CloseDay = codes "close"
order_words Cancel = codes "cancel"

-- a line of bytes that the till sends
abbrev pub sent_line : List ℕ → List ℕ
sent_line bytes = codes "> " ++ encode_upper bytes ++ 10 ∷ []

-- a line for each
abbrev pub sent_lines : List (List ℕ) → List ℕ
sent_lines [] = []
sent_lines (bytes ∷ more) = sent_line bytes ++ sent_lines more

-- one piece, or none if there are no bytes
abbrev pub one_or_none : List ℕ → List (List ℕ)
one_or_none [] = []
one_or_none (byte ∷ bytes) = (byte ∷ bytes) ∷ []

-- the words of an order, and the words of its note
abbrev pub noted_words : Order → (note : List ℕ) → List ℕ
noted_words order note = order_words order ++ note

abbrev pub order_line : Order → (note : List ℕ) → List ℕ
order_line order note = codes "# " ++ noted_words order note ++ 10 ∷ []

-- an ask has no words but its note's
abbrev pub ask_line : (note : List ℕ) → List ℕ
ask_line note = codes "# ask" ++ note ++ 10 ∷ []

abbrev pub heard_line : List ℕ → List ℕ
heard_line message = codes "< " ++ encode_upper message ++ 10 ∷ []

-- an order with its note, and the bytes that are sent for it
abbrev pub order_lines : Order → (note sent : List ℕ) → List ℕ
order_lines order note sent = order_line order note ++ sent_lines (one_or_none sent)

-- an ask with its note, and the bytes that are sent for it
abbrev pub ask_lines : (note : List ℕ) → List ℕ
ask_lines note = ask_line note ++ sent_lines (masked_ask ∷ [])

-- a message of the terminal, and the bytes of all replies to it
abbrev pub heard_lines : List ℕ → List (List ℕ) → List ℕ
heard_lines message answers = heard_line message ++ sent_lines answers

abbrev pub lost_line : List ℕ
lost_line = codes "!" ++ 10 ∷ []

-- A record is its lines and their check.
abbrev pub order_record : Order → (note sent : List ℕ) → List ℕ
order_record order note sent = checked (order_lines order note sent)

abbrev pub ask_record : (note : List ℕ) → List ℕ
ask_record note = checked (ask_lines note)

abbrev pub heard_record : List ℕ → List ℕ → List ℕ
heard_record message answers = checked (heard_lines message (one_or_none answers))

abbrev pub lost_record : List ℕ
lost_record = checked lost_line

-- The first line of a journal: the number of its currency, and whether its reversals go by their receipt numbers. That
-- rule decides which entries are marked, so a journal names it.
abbrev pub opening : (currency : ℕ) → (by_receipt : Bool) → List ℕ
opening currency by_receipt = codes "# zvt journal 1, currency " ++ decimal currency ++ rule_words by_receipt ++ 10 ∷ []

-- the words of the order can be read back
abbrev pub IsSpelledOrder : Order → Type 0
IsSpelledOrder Register = ⊤
IsSpelledOrder (Pay amount) = (1 ≤ amount) × (amount ≤ 999999999999)
IsSpelledOrder (Reverse entry) = entry < 10000
IsSpelledOrder CloseDay = ⊤
IsSpelledOrder Cancel = ⊤

-- bytes that a line can have
pub record IsPiece (piece : List ℕ) : Type 0 where
  pub some : 0 < length piece
  pub bytes : IsBytes piece

-- a text is the record of an order with this note
pub record IsOrderRecord (order : Order) (note text : List ℕ) : Type 0 where
  pub sent : List ℕ
  pub bytes : IsBytes sent
  pub spelled : IsSpelledOrder order
  pub noted : is_note note ≡ true
  pub is : text ≡ order_record order note sent

-- a text is the record of a message, with any lines of replies to it
pub record IsHeardRecord (message text : List ℕ) : Type 0 where
  pub answers : List (List ℕ)
  pub piece : IsPiece message
  pub answer_pieces : All IsPiece answers
  pub is : text ≡ checked (heard_lines message answers)

-- a text is the record of this entry
abbrev pub IsRecordOf : Kept → List ℕ → Type 0
IsRecordOf (ordered order note) text = IsOrderRecord order note text
IsRecordOf (asked note) text = (is_note note ≡ true) × (text ≡ ask_record note)
IsRecordOf (heard message) text = IsHeardRecord message text
IsRecordOf lost text = text ≡ lost_record

-- ---- what a line means

abbrev pub not_zero : ℕ → Option ℕ
not_zero n = if n == 0 then None else Some n

-- one to twelve decimal digits of a number that is not 0
abbrev pub number_of : List ℕ → Option ℕ
number_of digits = option_and_then not_zero (number_in 12 digits)

-- up to the first space
abbrev pub word_size : List ℕ → ℕ
word_size words = position_or_len (λ byte. byte == 32) words

-- the first word and the note behind it
abbrev pub noted_digits : (tail : List ℕ) → Option (List ℕ × List ℕ)
noted_digits tail = if is_note (drop (word_size tail) tail) then Some (take (word_size tail) tail, drop (word_size tail) tail) else None

-- an entry whose words have no number, before its note
abbrev pub plain : (List ℕ → Kept) → (rest : List ℕ) → Option Kept
plain entry rest = if is_note rest then Some (entry rest) else None

-- an order that has a number, before its note
abbrev pub with_number : (ℕ → Order) → (tail : List ℕ) → Option Kept
with_number order tail =
    if is_note (drop (word_size tail) tail)
    then option_map (λ n. ordered (order n) (drop (word_size tail) tail)) (number_of (take (word_size tail) tail))
    else None

abbrev pub by_rest : Option (List ℕ) → (List ℕ → Option Kept) → Option Kept → Option Kept
by_rest None found other = other
by_rest (Some rest) found other = found rest

-- by the text after this word, if the words begin with it
abbrev pub by_word : (word words : List ℕ) → (List ℕ → Option Kept) → (other : Option Kept) → Option Kept
by_word word words found other = by_rest (trailing word words) found other

-- the order or the ask that words name, with the note behind it
abbrev pub entry_of : List ℕ → Option Kept
entry_of words =
    by_word (codes "register") words (plain (ordered Register))
    (by_word (codes "close") words (plain (ordered CloseDay))
    (by_word (codes "cancel") words (plain (ordered Cancel))
    (by_word (codes "ask") words (plain asked)
    (by_word (codes "pay ") words (with_number Pay)
    (by_word (codes "reverse ") words (with_number (λ n. Reverse (n - 1))) None)))))

-- the first words of a journal
abbrev pub format_name : List ℕ
format_name = codes "zvt journal 1"

abbrev pub named_by : Option Kept → (words : List ℕ) → Option (List Kept)
named_by None words = option_map (λ rest. []) (trailing format_name words)
named_by (Some one) words = Some (one ∷ [])

-- a check means nothing
abbrev pub check : (after_sign : List ℕ) → Option (List Kept)
check [] = None
check (space ∷ digits) = if space == 32 then Some [] else None

-- the word ends here: no letter follows
abbrev pub ends_word : List ℕ → Bool
ends_word [] = true
ends_word (byte ∷ rest) = not (is_ascii_alphabetic byte)

abbrev pub ends_there : Option (List ℕ) → Bool
ends_there None = false
ends_there (Some rest) = ends_word rest

-- this is the first word
abbrev pub begins_with : (word words : List ℕ) → Bool
begins_with word words = ends_there (trailing word words)

-- the first word begins an order, an ask or the opening of a journal
abbrev pub is_reserved : (words : List ℕ) → Bool
is_reserved words =
    begins_with (codes "register") words || begins_with (codes "pay") words || begins_with (codes "reverse") words
    || begins_with (codes "close") words || begins_with (codes "cancel") words || begins_with (codes "ask") words
    || begins_with (codes "zvt") words

-- the text after `# `: with a reserved word an order, an ask, or the opening of a journal, which has no meaning; any
-- other words are a remark, which a person may add, and have no meaning
abbrev pub words_meaning : (words : List ℕ) → Option (List Kept)
words_meaning words = if is_reserved words then named_by (entry_of words) words else Some []

-- a comment is words, or a check
abbrev pub comment : (after_sign : List ℕ) → Option (List Kept)
comment [] = None
comment (sign ∷ rest) = if sign == 32 then words_meaning rest else if sign == 61 then check rest else None

-- at least one byte
abbrev pub some_bytes : Result (List ℕ) FromHexError → Option (List ℕ)
some_bytes (Ok []) = None
some_bytes (Ok (byte ∷ bytes)) = Some (byte ∷ bytes)
some_bytes (Err wrong) = None

-- a space, and bytes in hexadecimal
abbrev pub bytes_in : (after_sign : List ℕ) → Option (List ℕ)
bytes_in [] = None
bytes_in (space ∷ digits) = if space == 32 then some_bytes (decode_of digits) else None

-- The meaning of a line. `#`, a space and the words of an order mean that order, and the words of an ask mean an ask; an
-- opening, a remark and a check have no meaning of their own. `> ` and bytes have none either, `< ` and bytes mean a message, and `!` alone means a loss.
-- Any other line is invalid.
abbrev pub meaning : (line : List ℕ) → Option (List Kept)
meaning [] = None
meaning (first ∷ rest) =
    if first == 35 then comment rest
    else if first == 62 then option_map (λ bytes. []) (bytes_in rest)
    else if first == 60 then option_map (λ bytes. heard bytes ∷ []) (bytes_in rest)
    else if first == 33 && length rest == 0 then Some (lost ∷ [])
    else None

-- ---- what a text means

-- one after the other, if both are valid
abbrev pub then_kept : Option (List Kept) → Option (List Kept) → Option (List Kept)
then_kept None more = None
then_kept (Some kept) None = None
then_kept (Some kept) (Some more) = Some (kept ++ more)

-- a line is a remark
abbrev pub is_remark : (line : List ℕ) → Bool
is_remark [] = false
is_remark (sign ∷ []) = false
is_remark (sign ∷ space ∷ words) = sign == 35 && space == 32 && not (is_reserved words)

-- The meaning of a line after another one. Sent bytes after a remark are invalid, because its line may be a damaged
-- order or ask.
abbrev pub meaning_behind : (last line : List ℕ) → Option (List Kept)
meaning_behind last line = if is_sent line && is_remark last then None else meaning line

-- the last of the lines; before the first one comes an empty one
abbrev pub last_of : (last : List ℕ) → (lines : List (List ℕ)) → List ℕ
last_of last [] = last
last_of last (line ∷ more) = last_of line more

-- the meanings of lines one after another, after this one, if each is valid
abbrev pub meanings : (last : List ℕ) → List (List ℕ) → Option (List Kept)
meanings last [] = Some []
meanings last (line ∷ more) = then_kept (meaning_behind last line) (meanings line more)

-- the meaning of the lines of a text, if each check is right
abbrev pub kept_in : (text : List ℕ) → Option (List Kept)
kept_in text = if are_right (lines text) then meanings [] (lines text) else None

-- ---- laws

-- A record after complete lines adds the entry that it was written for.
abbrev pub RecordsAreKept : Type 0
RecordsAreKept = (text : List ℕ) (kept : List Kept) (one : Kept) (added : List ℕ) → recovered text ≡ text → kept_in text ≡ Some kept → IsRecordOf one added → kept_in (text ++ added) ≡ Some (kept ++ one ∷ [])

-- The result is complete lines.
abbrev pub RecordsAreWhole : Type 0
RecordsAreWhole = (text : List ℕ) (one : Kept) (added : List ℕ) → recovered text ≡ text → IsRecordOf one added → recovered (text ++ added) ≡ text ++ added

-- A journal accepts it as a record.
abbrev pub RecordsAreTaken : Type 0
RecordsAreTaken = (one : Kept) (added : List ℕ) → IsRecordOf one added → IsRecord added

-- The opening has no meaning of its own, and a journal accepts it as its first record: whenever a crash happens, it
-- leaves a journal's file.
abbrev pub OpeningIsTaken : Type 0
OpeningIsTaken =
    (currency : ℕ) (by_receipt : Bool) → currency ≤ 9999
    → (kept_in (opening currency by_receipt) ≡ Some []) × IsRecord (opening currency by_receipt) × IsOpening (opening currency by_receipt)
