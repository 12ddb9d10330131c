-- Three days of a till whose line is lost: a payment that happened, one that did not, and a reversal that happened.
use Rattle.std.specs.Prelude.{◌≡◌, ℕ, true, List, [], ◌∷◌, ◌++◌, Some}
use Rattle.zvt_till.specs.declared.orders.Order.TheVariants.{Register, Pay, Reverse}
use Rattle.zvt_term.specs.declared.turns.Verdict.TheVariants.{Approve}
use Rattle.zvt_term.specs.declared.world.Move.TheVariants.{Connect, Order as Ordered, ToTerminal, ToTill, TillLost, TerminalLost}
use Rattle.zvt_settle.specs.declared.deciding.Settlement.TheVariants.{Paid, NotPaid, Reversed}
use Rattle.zvt_term.specs.AskedWorld.{Act, Does, Asks, asked_world, are_orderly}

-- message k of the till arrives, and message k of the terminal
abbrev in_ : ℕ → Act
in_ k = Does (ToTerminal k Approve)

abbrev out : ℕ → Act
out k = Does (ToTill k)

-- the till registers, and a payment of 10.00 is booked under number 1
abbrev pub sale : List Act
sale =
    Does Connect ∷ Does (Ordered Register) ∷ in_ 0 ∷ out 0 ∷ out 1 ∷ in_ 1
    ∷ Does (Ordered (Pay 1000)) ∷ in_ 2 ∷ out 2 ∷ out 3 ∷ in_ 3 ∷ out 4 ∷ in_ 4 ∷ out 5 ∷ in_ 5 ∷ []

abbrev pub broken : List Act
broken = Does TillLost ∷ Does TerminalLost ∷ Does Connect ∷ Does (Ordered Register) ∷ []

-- 5.00 is approved, but the till does not hear it until it asks
abbrev pub paid_life : List Act
paid_life = sale ++ Does (Ordered (Pay 500)) ∷ in_ 6 ∷ broken ++ in_ 7 ∷ out 8 ∷ out 9 ∷ in_ 8 ∷ Asks ∷ in_ 9 ∷ out 10 ∷ out 11 ∷ in_ 10 ∷ out 12 ∷ []

-- the order for another 10.00 never reaches the terminal
abbrev pub unpaid_life : List Act
unpaid_life = sale ++ Does (Ordered (Pay 1000)) ∷ broken ++ in_ 7 ∷ out 6 ∷ out 7 ∷ in_ 8 ∷ Asks ∷ in_ 9 ∷ out 8 ∷ out 9 ∷ in_ 10 ∷ out 10 ∷ []

-- the payment is reversed, but the till does not hear it until it asks
abbrev pub reversed_life : List Act
reversed_life = sale ++ Does (Ordered (Reverse 0)) ∷ in_ 6 ∷ broken ++ in_ 7 ∷ out 8 ∷ out 9 ∷ in_ 8 ∷ Asks ∷ in_ 9 ∷ out 10 ∷ out 11 ∷ in_ 10 ∷ out 12 ∷ []

pub record RowsHold : Type 0 where
  pub paid_orderly : are_orderly paid_life ≡ true
  pub paid : (asked_world paid_life).settling.settled ≡ Paid 0 2 (Some (0 ∷ 2 ∷ [])) ∷ []
  pub unpaid_orderly : are_orderly unpaid_life ≡ true
  pub unpaid : (asked_world unpaid_life).settling.settled ≡ NotPaid 0 ∷ []
  pub reversed_orderly : are_orderly reversed_life ≡ true
  pub reversed : (asked_world reversed_life).settling.settled ≡ Reversed 0 ∷ []
