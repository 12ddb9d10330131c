-- What stays true as the terminal loses its line: what it had still to say is never said. For the proof that settlements
-- agree with the ledger.
use Rattle.std.proofs.Common.{◌≡◌, ℕ, ◌⊎◌, inl, inr, Bool, true, false, List, [], ◌∷◌, ◌++◌, Option, Some, None, map}
use Rattle.zvt_till.specs.declared.messages.Heard.{Heard}
use Rattle.zvt_till.specs.declared.messages.Heard.TheVariants.{Negative, Status, Passing, Completion, Abort}
use Rattle.zvt_till.specs.declared.messages.StatusFacts.{StatusFacts}
use Rattle.zvt_till.specs.declared.orders.Order.{Order}
use Rattle.zvt_till.specs.declared.orders.Order.TheVariants.{Register, Pay, Reverse, CloseDay, Cancel}
use Rattle.zvt_till.specs.declared.outcomes.Cause.{Cause}
use Rattle.zvt_till.specs.declared.statuses.Running.{Running}
use Rattle.zvt_till.specs.declared.statuses.Statuses.{Statuses}
use Rattle.zvt_till.specs.Books.{Booked}
use Rattle.zvt_till.specs.Laws.{row_of}
use Rattle.zvt_till.specs.Till.{TillState}
use Rattle.zvt_term.specs.declared.extras.Extra.TheVariants.{RepeatReceipt}
use Rattle.zvt_term.specs.declared.ledger.Row.{Row}
use Rattle.zvt_term.proofs.Accounts.{EndsLast}
use Rattle.zvt_term.proofs.Talking.{nothing-first}
use Rattle.zvt_settle.specs.declared.deciding.StatusSoFar.{StatusSoFar}
use Rattle.zvt_settle.specs.declared.deciding.StatusSoFar.TheVariants.{Nothing, One, Mixed}
use Rattle.zvt_term.specs.Ledgers.{status_of_row}
use Rattle.zvt_settle.specs.Settling.{Settling}
use Rattle.zvt_term.proofs.AskedMeans.{Word, Beyond}
use Rattle.zvt_term.proofs.Standing.{FitsOrder, Goes, Tells, Denies, Repeats, Answers, Taking, InFlight, Denied, Unsaid, Said, Paying, Quiet, RunsAs, Stage, Stands}

ends-first : (xs ys : List Heard) → EndsLast (xs ++ ys) → EndsLast xs
ends-first [] ys h = tt
ends-first (Negative c ∷ xs) ys h = nothing-first xs ys h
ends-first (Completion ∷ xs) ys h = nothing-first xs ys h
ends-first (Abort c ∷ xs) ys h = nothing-first xs ys h
ends-first (m ∷ xs) ys h = ends-first xs ys h

goes-first : (xs ys : List Heard) → Goes (xs ++ ys) → Goes xs
goes-first [] ys h = tt
goes-first (Passing ∷ xs) ys h = goes-first xs ys h
goes-first (Completion ∷ xs) ys h = nothing-first xs ys h
goes-first (m ∷ xs) ys h = absurd h

tells-first : (f : StatusFacts) (xs ys : List Heard) → Tells f (xs ++ ys) → Tells f xs
tells-first f [] ys h = tt
tells-first f (Status g ∷ xs) ys h = (h.0, goes-first xs ys h.1)
tells-first f (m ∷ xs) ys h = absurd h

denies-first : (xs ys : List Heard) → Denies (xs ++ ys) → Denies xs
denies-first [] ys h = tt
denies-first (Status f ∷ xs) ys h = (h.0, denies-first xs ys h.1)
denies-first (Negative c ∷ xs) ys h = nothing-first xs ys h
denies-first (Abort c ∷ xs) ys h = nothing-first xs ys h
denies-first (m ∷ xs) ys h = absurd h

repeats-first : (l : List Row) (xs ys : List Heard) → Repeats l (xs ++ ys) → Repeats l xs
repeats-first l [] ys h = tt
repeats-first l (Status f ∷ xs) ys h = (h.0, goes-first xs ys h.1)
repeats-first l (Negative c ∷ xs) ys h = nothing-first xs ys h
repeats-first l (Abort c ∷ xs) ys h = nothing-first xs ys h
repeats-first l (m ∷ xs) ys h = absurd h

answers-first : (l : List Row) (so_far : StatusSoFar) (xs ys : List Heard) → Answers l so_far (xs ++ ys) → Answers l so_far xs
answers-first l Nothing xs ys h = repeats-first l xs ys h
answers-first l (One f) xs ys h = (h.0, goes-first xs ys h.1)
answers-first l Mixed xs ys h = absurd h

taking-first : (own : ℕ) (rows : List Booked) (before now : List Row) (asked : List Word) (o : Order) (st : Statuses) (so_far : StatusSoFar) (xs ys : List Heard)
    → Taking own rows before now asked o st so_far (xs ++ ys) → Taking own rows before now asked o st so_far xs
taking-first own rows before now asked o st so_far xs ys (InFlight m e f none same nothing empty) = InFlight m e f (nothing-first xs ys none) same nothing empty
taking-first own rows before now asked o st so_far xs ys (Denied e same k d) = Denied e same k (denies-first xs ys d)
taking-first own rows before now asked o st so_far xs ys (Unsaid row e same f nothing empty k) = Unsaid row e same f nothing empty (tells-first (status_of_row row) xs ys k)
taking-first own rows before now asked o st so_far xs ys (Said row e same f claims one k) = Said row e same f claims one (goes-first xs ys k)

paying-first : (own : ℕ) (rows : List Booked) (before now : List Row) (asked : List Word) (s : Settling) (o : Order) (st : Statuses) (xs ys : List Heard)
    → Paying own rows before now asked s o st (xs ++ ys) → Paying own rows before now asked s o st xs
paying-first own rows before now asked s o st xs ys k = record { last = k.last; pending = k.pending; fresh = k.fresh; taking = taking-first own rows before now asked o st s.so_far xs ys k.taking }

quiet-first : (own : ℕ) (rows : List Booked) (loose : List (ℕ × Cause)) (before now : List Row) (asked : List Word) (s : Settling) (o : Order) (xs ys : List Heard)
    → Quiet own rows loose before now asked s o (xs ++ ys) → Quiet own rows loose before now asked s o xs
quiet-first own rows loose before now asked s o xs ys k = record { known = k.known; words = by_words k.words }
  where
    by_words : ((m : Word) × (asked ≡ m ∷ []) × FitsOrder own rows o m × (xs ++ ys ≡ [])) ⊎ ((asked ≡ []) × EndsLast (xs ++ ys))
        → ((m : Word) × (asked ≡ m ∷ []) × FitsOrder own rows o m × (xs ≡ [])) ⊎ ((asked ≡ []) × EndsLast xs)
    by_words (inl w) = inl (w.0, w.1, w.2, nothing-first xs ys w.3)
    by_words (inr w) = inr (w.0, ends-first xs ys w.1)

runs-first : (own : ℕ) (rows : List Booked) (loose : List (ℕ × Cause)) (before now : List Row) (asked : List Word) (s : Settling) (o : Order) (st : Statuses) (xs ys : List Heard)
    → RunsAs own rows loose before now asked s o st (xs ++ ys) → RunsAs own rows loose before now asked s o st xs
runs-first own rows loose before now asked s Register st xs ys k = quiet-first own rows loose before now asked s Register xs ys k
runs-first own rows loose before now asked s (Pay a) st xs ys k = paying-first own rows before now asked s (Pay a) st xs ys k
runs-first own rows loose before now asked s (Reverse e) st xs ys k = paying-first own rows before now asked s (Reverse e) st xs ys k
runs-first own rows loose before now asked s CloseDay st xs ys k = quiet-first own rows loose before now asked s CloseDay xs ys k
runs-first own rows loose before now asked s Cancel st xs ys k = absurd k

stage-first : (own : ℕ) (rows : List Booked) (loose : List (ℕ × Cause)) (before now : List Row) (asked : List Word) (s : Settling) (run : Option Running) (asking : Option Bool) (xs ys : List Heard)
    → Stage own rows loose before now asked s run asking (xs ++ ys) → Stage own rows loose before now asked s run asking xs
stage-first own rows loose before now asked s None None xs ys k = record { known = k.known; no_request = k.no_request; no_word = nothing-first xs ys k.no_word }
stage-first own rows loose before now asked s None (Some accepted) xs ys k = record { known = k.known; words = by_words k.words }
  where
    by_words : ((asked ≡ Beyond RepeatReceipt ∷ []) × (xs ++ ys ≡ []) × (s.so_far ≡ Nothing)) ⊎ ((asked ≡ []) × Answers now s.so_far (xs ++ ys))
        → ((asked ≡ Beyond RepeatReceipt ∷ []) × (xs ≡ []) × (s.so_far ≡ Nothing)) ⊎ ((asked ≡ []) × Answers now s.so_far xs)
    by_words (inl w) = inl (w.0, nothing-first xs ys w.1, w.2)
    by_words (inr w) = inr (w.0, answers-first now s.so_far xs ys w.1)
stage-first own rows loose before now asked s (Some r) None xs ys k = runs-first own rows loose before now asked s r.order r.statuses xs ys k
stage-first own rows loose before now asked s (Some r) (Some accepted) xs ys k = absurd k

pub stands-first : (down : Bool) (own : ℕ) (before now : List Row) (asked : List Word) (t : TillState) (s : Settling) (xs ys : List Heard)
    → Stands down own before now asked t s (xs ++ ys) → Stands down own before now asked t s xs
stands-first true own before now asked t s xs ys k = k
stands-first false own before now asked t s xs ys (up, k) = (up, stage-first own (map row_of t.book) t.unclear before now asked s t.running s.asking xs ys k)
