-- What is skipped after a refusal, worked out.
use Rattle.std.proofs.Common.{◌≡◌, [], ◌∷◌, arith, refl}
use Rattle.zvt_grammar.specs.Reading.{shortest}
use Rattle.zvt_trace.specs.Emitting.{PartEmits, told}
use Rattle.zvt_trace.specs.Trace.{running, skipping, stopped}
use Rattle.zvt_trace.specs.TraceEvent.{on, resumed, unread}
use Rattle.zvt_trace.specs.declared.direction.Direction.TheVariants.{FromTerminal}
use Rattle.zvt_trace.specs.declared.listener.Scope.TheVariants.{OneMessage}

-- four bytes are left of a refused message of 19: three of them leave one
three_come : PartEmits shortest OneMessage 5 FromTerminal (skipping 19 4) (0 ∷ 0 ∷ 0 ∷ []) [] (skipping 19 1)
three_come = (omega arith, refl, refl)

-- with the fourth the side is read anew
four_come : PartEmits shortest OneMessage 5 FromTerminal (skipping 19 4) (0 ∷ 0 ∷ 0 ∷ 0 ∷ []) (on 5 (resumed FromTerminal 19) ∷ []) (running [])
four_come = (omega arith, refl, refl)

-- and the fifth is none of it
five_come : PartEmits shortest OneMessage 5 FromTerminal (skipping 19 4) (0 ∷ 0 ∷ 0 ∷ 0 ∷ 0 ∷ []) (on 5 (resumed FromTerminal 19) ∷ []) (running []) → ⊥
five_come emits = absurd (omega (arith, emits.0))

-- that a piece is not read is told where none of it is, and not where the side is read on
not_read : told 5 FromTerminal (skipping 19 4) [] ≡ on 5 (unread FromTerminal) ∷ []
not_read = refl

read_on : told 5 FromTerminal (skipping 19 4) (on 5 (resumed FromTerminal 19) ∷ []) ≡ on 5 (resumed FromTerminal 19) ∷ []
read_on = refl

nothing_sent : told 5 FromTerminal (running []) [] ≡ []
nothing_sent = refl

still_stopped : told 5 FromTerminal stopped [] ≡ on 5 (unread FromTerminal) ∷ []
still_stopped = refl
