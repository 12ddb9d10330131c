-- What a turn writes down has the next number, and what it says has few enough digits.
use Rattle.std.proofs.Common.{◌≡◌, ℕ, zero, suc, slice_get, ap, ◌+◌, ◌<◌, ◌≤◌, Bool, true, false, cond, List, [], ◌∷◌, ◌++◌, length, Option, Some, None, option_to_list, refl, sym, subst, arith, length-append, append-nil}
use Rattle.std.proofs.lemmas.Bool.{ltb-true}
use Rattle.std.specs.List.{find}
use Rattle.zvt_till.specs.declared.messages.CurrencyFact.{CurrencyFact}
use Rattle.zvt_term.specs.declared.messages.Asked.{Asked}
use Rattle.zvt_term.specs.declared.messages.Asked.TheVariants.{Registration, Authorisation, Reversal, EndOfDay, AbortOrder, Answer, Unknown}
use Rattle.zvt_term.specs.declared.messages.Line.TheVariants.{Reversed as ReversedLine}
use Rattle.zvt_term.specs.declared.messages.Report.TheVariants.{TakenBack}
use Rattle.zvt_term.specs.declared.ledger.Row.{Row}
use Rattle.zvt_term.specs.declared.turns.Verdict.{Verdict}
use Rattle.zvt_term.specs.declared.turns.Verdict.TheVariants.{Approve, Decline}
use Rattle.zvt_term.specs.declared.turns.Phase.{Phase}
use Rattle.zvt_term.specs.declared.turns.Phase.TheVariants.{Idle, Printing, Completing, Aborting, Ending}
use Rattle.zvt_term.specs.declared.turns.Turn.{Turn}
use Rattle.zvt_term.specs.Inside.{IsSound}
use Rattle.zvt_term.specs.Ledger.{NumberedFrom, IsBefore, IsRowOf, ReverseEarlier, approval_by, is_approval_named, is_taken_back}
use Rattle.zvt_term.specs.Steps.{AreWritable, IsNext}
use Rattle.zvt_term.specs.Terminal.{TerminalState, most_rows, has_capacity, next_number, is_idle, is_ready, writes, aborts, refuses, registers, takes_currency, decides, authorises, takes_back_row, reverses_found, reverses, closes, goes_on, when, turn_of, after, state_after, reports_of}

pub numbered-append : (n : ℕ) (rows : List Row) (row : Row) → NumberedFrom n rows → row.number ≡ n + length rows → NumberedFrom n (rows ++ row ∷ [])
numbered-append n [] row h e = (omega arith, tt)
numbered-append n (first ∷ rows) row h e = (h.0, numbered-append (n + 1) rows row h.1 (omega arith))

-- each number has four digits
abbrev pub AllShort : List Row → Type 0
AllShort [] = Unit {0}
AllShort (row ∷ rows) = (row.number ≤ 9999) × AllShort rows

pub numbered-short : (n : ℕ) (rows more : List Row) → NumberedFrom n (rows ++ more) → n + length (rows ++ more) ≤ 10000 → AllShort rows
numbered-short n [] more h few = tt
numbered-short n (row ∷ rows) more h few = (omega (arith, h.0), numbered-short (n + 1) rows more h.1 (omega arith))

pub short-found : (test : Row → Bool) (rows : List Row) (row : Row) → AllShort rows → find test rows ≡ Some row → row.number ≤ 9999
short-found test [] row h e = absurd cc
short-found test (first ∷ rows) row h e = by_test (test first) (short-found test rows row h.1) e
  where
    by_test : (b : Bool) → (find test rows ≡ Some row → row.number ≤ 9999) → cond b (Some first) (find test rows) ≡ Some row → row.number ≤ 9999
    by_test true later e = let same : first ≡ row = cc in subst (λ (r : Row). r.number ≤ 9999) same h.0
    by_test false later e = later e

-- the row that a search finds
found_at : (test : Row → Bool) (rows : List Row) (row : Row) → find test rows ≡ Some row → (k : ℕ) × (slice_get rows k ≡ Some row)
found_at test [] row e = absurd cc
found_at test (first ∷ rows) row e = by_test (test first) (found_at test rows row) e
  where
    by_test : (b : Bool) → (find test rows ≡ Some row → (k : ℕ) × (slice_get rows k ≡ Some row)) → cond b (Some first) (find test rows) ≡ Some row → (k : ℕ) × (slice_get (first ∷ rows) k ≡ Some row)
    by_test true later e = (0, e)
    by_test false later e = let at = later e in (suc at.0, at.1)

numbered_at : (n : ℕ) (rows : List Row) (k : ℕ) (row : Row) → NumberedFrom n rows → slice_get rows k ≡ Some row → row.number < n + length rows
numbered_at n [] k row h e = absurd cc
numbered_at n (first ∷ rows) zero row h e = let same : first ≡ row = cc in omega (arith, h.0, ap (λ (r : Row). r.number) same)
numbered_at n (first ∷ rows) (suc k) row h e = omega (arith, numbered_at (n + 1) rows k row h.1 e)

-- the next row comes after the one that it reverses
is_before : (rows : List Row) (number : ℕ) (reversed : Option ℕ) → NumberedFrom 1 rows → number ≡ length rows + 1 → IsRowOf rows reversed → IsBefore reversed number
is_before rows number None numbered next is = tt
is_before rows number (Some original) numbered next is = omega (arith, numbered_at 1 rows is.0 is.1 numbered is.2, is.3, next)

earlier-append : (rows : List Row) (row : Row) → ReverseEarlier rows → IsBefore row.reverses row.number → ReverseEarlier (rows ++ row ∷ [])
earlier-append [] row h e = (e, tt)
earlier-append (first ∷ rows) row h e = (h.0, earlier-append rows row h.1 e)

earlier-first : (rows more : List Row) → ReverseEarlier (rows ++ more) → ReverseEarlier rows
earlier-first [] more h = tt
earlier-first (row ∷ rows) more h = (h.0, earlier-first rows more h.1)

-- the numbers of a terminal have few enough digits
pub record Short (s : TerminalState) : Type 0 where
  pub tid : s.tid ≤ 99999999
  pub rows : AllShort s.ledger
  pub earlier : ReverseEarlier s.ledger

-- the row of a turn is the next one, and its reports can be written
pub record Sound (s : TerminalState) (turn : Turn) : Type 0 where
  pub next : IsNext s turn.row
  pub writable : Short s → AreWritable (reports_of turn.reply)

when-sound : (s : TerminalState) (ready : Bool) (turn : Turn) → Sound s turn → Sound s (when ready s turn)
when-sound s true turn h = h
when-sound s false turn h = record { next = tt; writable = λ k. (tt, tt) }

refuses-sound : (s : TerminalState) (code : ℕ) → Sound s (refuses s code)
refuses-sound s code = record { next = tt; writable = λ k. (tt, tt) }

aborts-sound : (s : TerminalState) (code : ℕ) → Sound s (aborts s code)
aborts-sound s code = record { next = tt; writable = λ k. (tt, (tt, tt)) }

decides-sound : (s : TerminalState) (amount : ℕ) (v : Verdict) → length s.ledger < most_rows → Sound s (decides s amount v)
decides-sound s amount Approve h = record { next = (h, refl, tt); writable = λ k. (tt, (omega (arith, h), tt)) }
decides-sound s amount (Decline code) h = record { next = tt; writable = λ k. (tt, (tt, tt)) }

authorises-sound : (s : TerminalState) (amount : Option ℕ) (named : CurrencyFact) (v : Verdict) → Sound s (authorises s amount named v)
authorises-sound s None named v = refuses-sound s 255
authorises-sound s (Some amount) named v = by_both (has_capacity s) (takes_currency s.currency named) refl
  where
    by_both : (a b : Bool) → has_capacity s ≡ a → Sound s (cond a (cond b (decides s amount v) (refuses s 111)) (refuses s 255))
    by_both true true is = decides-sound s amount v (ltb-true (length s.ledger) most_rows is)
    by_both true false is = refuses-sound s 111
    by_both false b is = refuses-sound s 255

abbrev pub taken_back : TerminalState → Row → Turn
taken_back s row =
    writes s (Printing (ReversedLine row.amount)) (record { number = next_number s; amount = row.amount; currency = s.currency; reverses = Some row.number })
    (TakenBack row.amount (next_number s) row.number s.currency)

takes_back-sound : (s : TerminalState) (row : Row) → (k : ℕ) × (slice_get s.ledger k ≡ Some row) → (Short s → row.number ≤ 9999) → Sound s (takes_back_row s row)
takes_back-sound s row at few = by_both (is_taken_back row.number s.ledger) (has_capacity s) refl
  where
    by_both : (a b : Bool) → has_capacity s ≡ b → Sound s (cond a (aborts s 180) (cond b (taken_back s row) (aborts s 255)))
    by_both true b is = aborts-sound s 180
    by_both false true is = let h : length s.ledger < most_rows = ltb-true (length s.ledger) most_rows is in record { next = (h, refl, (at.0, row, at.1, refl)); writable = λ k. (tt, ((omega (arith, h), few k), tt)) }
    by_both false false is = aborts-sound s 255

reverses-sound : (s : TerminalState) (receipt : Option (List ℕ)) → Sound s (reverses s receipt)
reverses-sound s None = aborts-sound s 181
reverses-sound s (Some receipt) = by_row (approval_by receipt s.ledger) refl
  where
    by_row : (row : Option Row) → approval_by receipt s.ledger ≡ row → Sound s (reverses_found s row)
    by_row None is = aborts-sound s 181
    by_row (Some row) is = takes_back-sound s row (found_at (is_approval_named receipt) s.ledger row is) (λ k. short-found (is_approval_named receipt) s.ledger row k.rows is)

pub goes_on-sound : (s : TerminalState) (phase : Phase) → Sound s (goes_on s phase)
goes_on-sound s Idle = record { next = tt; writable = λ k. tt }
goes_on-sound s (Printing line) = record { next = tt; writable = λ k. (tt, tt) }
goes_on-sound s Completing = record { next = tt; writable = λ k. (tt, tt) }
goes_on-sound s (Aborting code) = record { next = tt; writable = λ k. (tt, tt) }
goes_on-sound s Ending = record { next = tt; writable = λ k. tt }

pub turn-sound : (s : TerminalState) (asked : Asked) (v : Verdict) → Sound s (turn_of s asked v)
turn-sound s (Registration currency) v = when-sound s (is_idle s.phase) (registers s currency) (record { next = tt; writable = λ k. (tt, (k.tid, tt)) })
turn-sound s (Authorisation amount named) v = when-sound s (is_ready s) (authorises s amount named v) (authorises-sound s amount named v)
turn-sound s (Reversal receipt) v = when-sound s (is_ready s) (reverses s receipt) (reverses-sound s receipt)
turn-sound s EndOfDay v = when-sound s (is_ready s) (closes s) (record { next = tt; writable = λ k. (tt, (tt, tt)) })
turn-sound s AbortOrder v = record { next = tt; writable = λ k. (tt, tt) }
turn-sound s Answer v = goes_on-sound s s.phase
turn-sound s Unknown v = refuses-sound s 131

-- a terminal stays sound by one row more
pub one_more : (s v : TerminalState) (given : Option Row) (row : Row) (rows : List Row) → IsSound v → v ≡ s → given ≡ Some row → IsNext s given → rows ≡ v.ledger ++ row ∷ []
    → IsSound (record v { ledger = rows })
one_more s v given row rows sound is gives next grown =
    let room : IsNext v (Some row) = subst (λ (o : Option Row). IsNext v o) gives (subst (λ (u : TerminalState). IsNext u given) (sym is) next) in
    subst (λ (l : List Row). IsSound (record v { ledger = l })) (sym grown)
    (sound.0, omega (arith, room.0, length-append v.ledger (row ∷ [])), numbered-append 1 v.ledger row sound.2 (omega (arith, room.1)), earlier-append v.ledger row sound.3 (is_before v.ledger row.number row.reverses sound.2 room.1 room.2))

-- what is sound after a turn was short before
pub short-before : {new : TerminalState} (s : TerminalState) (turn : Turn) → new ≡ after s turn → IsSound new → Short s
short-before s turn made sound =
    let k : IsSound (after s turn) = subst IsSound made sound in
    record { tid = k.0; rows = numbered-short 1 s.ledger (option_to_list turn.row) k.2 (omega (arith, k.1)); earlier = earlier-first s.ledger (option_to_list turn.row) k.3 }

-- the terminal is sound after each turn
pub sound-after : (s : TerminalState) (asked : Asked) (v : Verdict) → IsSound s → IsSound (state_after s asked v)
sound-after s asked v sound = by_row (turn_of s asked v).row (turn-sound s asked v).next
  where
    by_row : (row : Option Row) → IsNext s row → IsSound (record s { ledger = s.ledger ++ option_to_list row })
    by_row None next = subst (λ (l : List Row). IsSound (record s { ledger = l })) (sym (append-nil s.ledger)) sound
    by_row (Some row) next = one_more s s (Some row) row (s.ledger ++ row ∷ []) sound refl refl next refl

pub short-of : (s : TerminalState) → IsSound s → Short s
short-of s sound = record { tid = sound.0; rows = numbered-short 1 s.ledger [] (subst (λ (l : List Row). NumberedFrom 1 l) (sym (append-nil s.ledger)) sound.2) (omega (arith, sound.1, length-append s.ledger [])); earlier = sound.3 }
