-- Lines at which payments ended, worked by hand.
use Rattle.std.proofs.Common.{◌≡◌, ℕ, zero, suc, List, [], ◌∷◌, Some, refl, sym, subst, arith}
use Rattle.std.specs.List.{slice_get}
use Rattle.zvt_field.specs.Grammar.{plain}
use Rattle.zvt_apdu.specs.Message.{authorisation, status, completion}
use Rattle.zvt_till.specs.declared.happenings.Happening.{Happening}
use Rattle.zvt_trace.specs.TraceEvent.{At, on}
use Rattle.zvt_trace.specs.TraceEvent as trace_event
use Rattle.zvt_trace.specs.declared.direction.Direction.TheVariants.{FromTill, FromTerminal}
use Rattle.zvt_audit.specs.Ends.{AreEndLines, AreEndsOf, EndsAt, booked_count, unclear_count}
use Rattle.zvt_audit.specs.Happened.{log_of}
use Rattle.zvt_audit.proofs.EndLemmas.{booked_grow, unclear_grow}

abbrev ordered_at : ℕ → At
ordered_at line = on line (trace_event.message FromTill (authorisation (plain 0x04 (0 ∷ 0 ∷ 0 ∷ 0 ∷ 0 ∷ 1 ∷ []) ∷ [])))

-- approved under the trace number 7
abbrev approved_at : ℕ → At
approved_at line = on line (trace_event.message FromTerminal (status (plain 0x27 (0 ∷ []) ∷ plain 0x04 (0 ∷ 0 ∷ 0 ∷ 0 ∷ 0 ∷ 1 ∷ []) ∷ plain 0x0B (0 ∷ 0 ∷ 7 ∷ []) ∷ [])))

abbrev completed_at : ℕ → At
completed_at line = on line (trace_event.message FromTerminal (completion []))

none_of : (count : List Happening → ℕ) (events : List At) → count (log_of events) ≡ 0 → AreEndsOf count events []
none_of count events none = record { all = sym none; each = λ row line is. absurd cc }

one_of : (count : List Happening → ℕ) (events : List At) (line : ℕ) → count (log_of events) ≡ 1 → EndsAt count events 0 line → AreEndsOf count events (line ∷ [])
one_of count events line one ends = record { all = sym one; each = λ row at is. by row at is }
  where
    by : (row at : ℕ) → slice_get (line ∷ []) row ≡ Some at → EndsAt count events row at
    by zero at is = let same : line ≡ at = cc in subst (λ (n : ℕ). EndsAt count events 0 n) same ends
    by (suc row) at is = absurd cc

-- a payment that was completed ends with the completion, and not with its order or its status
pub booked_by_completion : AreEndLines (ordered_at 1 ∷ approved_at 2 ∷ completed_at 4 ∷ []) (record { booked = 4 ∷ []; unclear = [] })
booked_by_completion = record {
  booked = one_of booked_count _ 4 refl (record { before = ordered_at 1 ∷ approved_at 2 ∷ []; event = completed_at 4; later = []; is = refl; first = λ some rest cut. omega (arith, booked_grow _ some rest cut); then = omega arith; at_line = refl });
  unclear = none_of unclear_count _ refl;
}

-- without a status it is unclear from the completion on
pub unclear_by_completion : AreEndLines (ordered_at 1 ∷ completed_at 3 ∷ approved_at 5 ∷ []) (record { booked = []; unclear = 3 ∷ [] })
unclear_by_completion = record {
  booked = none_of booked_count _ refl;
  unclear = one_of unclear_count _ 3 refl (record { before = ordered_at 1 ∷ []; event = completed_at 3; later = approved_at 5 ∷ []; is = refl; first = λ some rest cut. omega (arith, unclear_grow _ some rest cut); then = omega arith; at_line = refl });
}

-- a lost connection ends it
pub unclear_by_loss : AreEndLines (ordered_at 1 ∷ approved_at 2 ∷ on 6 trace_event.lost ∷ []) (record { booked = []; unclear = 6 ∷ [] })
unclear_by_loss = record {
  booked = none_of booked_count _ refl;
  unclear = one_of unclear_count _ 6 refl (record { before = ordered_at 1 ∷ approved_at 2 ∷ []; event = on 6 trace_event.lost; later = []; is = refl; first = λ some rest cut. omega (arith, unclear_grow _ some rest cut); then = omega arith; at_line = refl });
}

-- the next order ends it; the payment that this order begins has no end
pub unclear_by_order : AreEndLines (ordered_at 1 ∷ ordered_at 8 ∷ []) (record { booked = []; unclear = 8 ∷ [] })
unclear_by_order = record {
  booked = none_of booked_count _ refl;
  unclear = one_of unclear_count _ 8 refl (record { before = ordered_at 1 ∷ []; event = ordered_at 8; later = []; is = refl; first = λ some rest cut. omega (arith, unclear_grow _ some rest cut); then = omega arith; at_line = refl });
}

-- nothing ended it
pub unended : AreEndLines (ordered_at 1 ∷ approved_at 2 ∷ []) (record { booked = []; unclear = [] })
unended = record { booked = none_of booked_count _ refl; unclear = none_of unclear_count _ refl }
