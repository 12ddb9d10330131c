-- The text of a till's book.
use Rattle.std.specs.Prelude.{ℕ, Bool, true, false, List, [], ◌∷◌, ◌++◌, Option, Some, None, codes, slice_get}
use Rattle.std.specs.Fmt.{decimal}
use Rattle.std.specs.List.{enumerate_from, flat_map}
use Rattle.zvt_text.specs.Numbers.{numbers_text}
use Rattle.zvt_till.specs.Names.{cause_name}
use Rattle.zvt_till.specs.declared.entries.Doubt.{Doubt}
use Rattle.zvt_till.specs.declared.entries.Doubt.TheVariants.{No, Unclear, TakenBack}
use Rattle.zvt_till.specs.declared.entries.Entry.{Entry}
use Rattle.zvt_till.specs.declared.numbers.Numbers.{Numbers}
use Rattle.zvt_till.specs.declared.outcomes.Cause.{Cause}
use Rattle.zvt_runs.specs.Named.{named_text}

-- the text after an entry that a completed reversal took back
abbrev pub reversed_text : Bool → List ℕ
reversed_text false = []
reversed_text true = codes " reversed"

abbrev pub unclear_reversal_text : Cause → List ℕ
unclear_reversal_text cause = codes " reversal unclear " ++ cause_name cause

-- the text after an entry whose reversals leave a doubt
abbrev pub doubt_text : Doubt → List ℕ
doubt_text No = []
doubt_text (Unclear cause) = unclear_reversal_text cause
doubt_text TakenBack = codes " taken back"

-- the amount and the numbers of an entry
abbrev pub booked_text : Entry → List ℕ
booked_text entry = codes "booked " ++ decimal entry.amount ++ 32 ∷ numbers_text entry.trace entry.receipt

-- the time and the reference of an order, if its record has them
abbrev pub noted_text : (note : Option (List ℕ)) → List ℕ
noted_text None = []
noted_text (Some note) = note

abbrev pub entry_text : Entry → (note : Option (List ℕ)) → List ℕ
entry_text entry note = booked_text entry ++ reversed_text entry.reversed ++ doubt_text entry.doubt ++ noted_text note ++ 10 ∷ []

-- the numbers that the terminal named for a payment
abbrev pub heard_words : Option Numbers → List ℕ
heard_words None = []
heard_words (Some numbers) = named_text numbers.trace numbers.receipt

abbrev pub unclear_text : ℕ × Cause → Option Numbers → (note : Option (List ℕ)) → List ℕ
unclear_text row heard note = codes "unclear " ++ decimal row.0 ++ 32 ∷ cause_name row.1 ++ heard_words heard ++ noted_text note ++ 10 ∷ []

-- the entries, each with the note at the same index
abbrev pub entries_text : List Entry → (notes : List (List ℕ)) → List ℕ
entries_text book notes = flat_map (λ it. entry_text it.1 (slice_get notes it.0)) (enumerate_from 0 book)

-- the unclear payments, each with the numbers and the note at the same index
abbrev pub unclears_text : List (ℕ × Cause) → (heard : List Numbers) → (notes : List (List ℕ)) → List ℕ
unclears_text unclear heard notes = flat_map (λ it. unclear_text it.1 (slice_get heard it.0) (slice_get notes it.0)) (enumerate_from 0 unclear)
