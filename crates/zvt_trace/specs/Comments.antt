-- Comments, and with them time marks, mean nothing.
use Rattle.std.specs.Prelude.{◌≡◌, ⊤, ◌⊎◌, ℕ, List, [], ◌∷◌, Ok}
use Rattle.zvt_grammar.specs.Reading.{Reading}
use Rattle.zvt_trace.specs.Emitting.{WholeTrace}
use Rattle.zvt_trace.specs.Meanings.{comment, meaning_of}
use Rattle.zvt_trace.specs.TraceEvent.{At}
use Rattle.zvt_trace.specs.declared.listener.Scope.{Scope}

-- two lines that are one, or are both comments or empty
abbrev pub AreAlike : (one other : List ℕ) → Type 0
AreAlike one other = (one ≡ other) ⊎ ((meaning_of one ≡ Ok comment) × (meaning_of other ≡ Ok comment))

-- two traces that differ in comments alone
abbrev pub DifferInComments : (ones others : List (List ℕ)) → Type 0
DifferInComments [] [] = ⊤
DifferInComments [] (other ∷ others) = ⊥
DifferInComments (one ∷ ones) [] = ⊥
DifferInComments (one ∷ ones) (other ∷ others) = AreAlike one other × DifferInComments ones others

-- A trace whose comments are emptied or replaced by other comments has the same events.
abbrev pub CommentsMeanNothing : Type 0
CommentsMeanNothing = (r : Reading) (scope : Scope) (ones others : List (List ℕ)) (events : List At)
    → DifferInComments ones others → WholeTrace r scope ones events → WholeTrace r scope others events
