-- Worked worlds, computed.
use Rattle.std.proofs.Common.{◌≡◌, ℕ, zero, suc, inl, inr, List, [], ◌∷◌, ◌++◌, Some, None, true, false, refl, sym, subst, slice_get, arith}
use Rattle.zvt_till.specs.declared.entries.Doubt.{Doubt}
use Rattle.zvt_till.specs.declared.entries.Doubt.TheVariants.{No, Unclear, TakenBack}
use Rattle.zvt_till.specs.declared.entries.Entry.{Entry}
use Rattle.zvt_till.specs.declared.orders.Order.TheVariants.{Register, Pay, Reverse}
use Rattle.zvt_till.specs.declared.outcomes.Cause.TheVariants.{Line}
use Rattle.zvt_term.specs.declared.turns.Verdict.TheVariants.{Approve, Decline}
use Rattle.zvt_term.specs.declared.world.Move.{Move}
use Rattle.zvt_term.specs.declared.world.Move.TheVariants.{Connect, Order as Ordered, ToTerminal, ToTill, TillLost, TerminalLost}
use Rattle.zvt_term.specs.Ledger.{is_taken_back}
use Rattle.zvt_term.specs.World.{world, IsTakenBack}
use Rattle.zvt_term.specs.Orderly.{are_orderly, approvals, IsAccounted}
use Rattle.zvt_term.specs.Returned.{is_told, Reverses, KeepsReversals}

-- the line is cut after an approval
cut : List Move
cut =
    Connect ∷ Ordered Register ∷ ToTerminal 0 Approve ∷ ToTill 0 ∷ ToTill 1 ∷ ToTerminal 1 Approve ∷ Ordered (Pay 1000) ∷ ToTerminal 2 Approve ∷ TillLost ∷ []

cut-orderly : are_orderly cut ≡ true
unfolding cut
cut-orderly = refl

-- the law is met with nothing to spare
cut-approved : approvals 1000 (world cut).terminal.ledger ≡ 1
unfolding cut
cut-approved = refl

cut-unbooked : (world cut).till.book ≡ []
unfolding cut
cut-unbooked = refl

-- a line is raised anew only where both ends have lost it
raised_at_once : are_orderly (cut ++ Connect ∷ []) ≡ false
unfolding cut
raised_at_once = refl

raised_anew : are_orderly (cut ++ TerminalLost ∷ Connect ∷ []) ≡ true
unfolding cut
raised_anew = refl

cut-unclear : (world cut).till.unclear ≡ (1000, Line) ∷ []
unfolding cut
cut-unclear = refl

-- an authorisation that comes twice, out of order, is approved twice and booked once: the premise is needed
twice : List Move
twice =
    Connect ∷ Ordered Register ∷ ToTerminal 0 Approve ∷ ToTill 0 ∷ ToTill 1 ∷ ToTerminal 1 Approve ∷ Ordered (Pay 1000) ∷ ToTerminal 2 Approve ∷ ToTill 2 ∷ ToTill 3
    ∷ ToTerminal 3 Approve ∷ ToTill 4 ∷ ToTerminal 4 Approve ∷ ToTill 5 ∷ ToTerminal 5 Approve ∷ ToTerminal 2 Approve ∷ []

twice-not_orderly : are_orderly twice ≡ false
unfolding twice
twice-not_orderly = refl

twice-unaccounted : IsAccounted (world twice).till (world twice).terminal.ledger → ⊥
unfolding twice
twice-unaccounted h = let n = h 1000 in omega (arith, n)

-- the line is cut after a payment was taken back
cut_back : List Move
cut_back =
    Connect ∷ Ordered Register ∷ ToTerminal 0 Approve ∷ ToTill 0 ∷ ToTill 1 ∷ ToTerminal 1 Approve ∷ Ordered (Pay 1000) ∷ ToTerminal 2 Approve ∷ ToTill 2 ∷ ToTill 3
    ∷ ToTerminal 3 Approve ∷ ToTill 4 ∷ ToTerminal 4 Approve ∷ ToTill 5 ∷ ToTerminal 5 Approve ∷ Ordered (Reverse 0) ∷ ToTerminal 6 Approve ∷ TillLost ∷ []

cut_back-orderly : are_orderly cut_back ≡ true
unfolding cut_back
cut_back-orderly = refl

cut_back-taken : is_taken_back 1 (world cut_back).terminal.ledger ≡ true
unfolding cut_back
cut_back-taken = refl

-- the entry of the payment
paid : Doubt → Entry
paid doubt = record { amount = 1000; trace = 1; receipt = Some (0 ∷ 1 ∷ []); reversed = false; doubt = doubt }

cut_back-unclear : (world cut_back).till.book ≡ paid (Unclear Line) ∷ []
unfolding cut_back paid
cut_back-unclear = refl

-- over a new line the reversal is aborted by B4
asked_again : List Move
asked_again =
    cut_back ++ TerminalLost ∷ Connect ∷ Ordered Register ∷ ToTerminal 7 Approve ∷ ToTill 8 ∷ ToTill 9 ∷ ToTerminal 8 Approve ∷ Ordered (Reverse 0) ∷ ToTerminal 9 Approve ∷ ToTill 10 ∷ ToTill 11 ∷ []

asked_again-orderly : are_orderly asked_again ≡ true
unfolding cut_back asked_again
asked_again-orderly = refl

asked_again-told : (world asked_again).till.book ≡ paid TakenBack ∷ []
unfolding cut_back asked_again paid
asked_again-told = refl

-- the abort of a declined payment that comes again, late, ends a reversal that the terminal made: the premise is needed
late : List Move
late =
    Connect ∷ Ordered Register ∷ ToTerminal 0 Approve ∷ ToTill 0 ∷ ToTill 1 ∷ ToTerminal 1 Approve ∷ Ordered (Pay 500) ∷ ToTerminal 2 (Decline 100) ∷ ToTill 2 ∷ ToTill 3
    ∷ ToTerminal 3 Approve ∷ ToTill 4 ∷ ToTerminal 4 Approve ∷ Ordered (Pay 1000) ∷ ToTerminal 5 Approve ∷ ToTill 5 ∷ ToTill 6 ∷ ToTerminal 6 Approve ∷ ToTill 7
    ∷ ToTerminal 7 Approve ∷ ToTill 8 ∷ ToTerminal 8 Approve ∷ Ordered (Reverse 0) ∷ ToTerminal 9 Approve ∷ ToTill 4 ∷ []

late-not_orderly : are_orderly late ≡ false
unfolding late
late-not_orderly = refl

late-book : (world late).till.book ≡ paid No ∷ []
unfolding late paid
late-book = refl

late-idle : (world late).till.running ≡ None
unfolding late
late-idle = refl

late-taken : IsTakenBack (world late).terminal.ledger 1
unfolding late
late-taken = (1, record { number = 2; amount = 1000; currency = Some 978; reverses = Some 1 }, refl, refl)

untold : (place : ℕ) (entry : Entry) → slice_get (paid No ∷ []) place ≡ Some entry → is_told entry ≡ true → ⊥
unfolding paid
untold zero entry e t = let same : paid No ≡ entry = cc in let told : is_told (paid No) ≡ true = subst (λ x. is_told x ≡ true) (sym same) t in cc
untold (suc place) entry e t = cc

late-forgotten : KeepsReversals (world late).till (world late).terminal.ledger → ⊥
late-forgotten h =
    let w = h 1 late-taken in
    elim w.4 [
      | inl told ↦ untold w.0 w.1 (subst (λ book. slice_get book w.0 ≡ Some w.1) late-book w.2) told
      | inr runs ↦ subst (λ run. Reverses w.0 run) late-idle runs
    ]
