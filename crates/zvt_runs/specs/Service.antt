-- The service of a simulated terminal on its connection.
use Rattle.std.specs.Prelude.{◌≡◌, ◌≢◌, ◌⊎◌, ℕ, ◌+◌, zero, suc, Bool, true, false, cond, List, Option, None, Result, Ok, Err}
use Rattle.std.specs.Io.KnownBytes.{Appends}
use Rattle.zvt_io.specs.Devices.{IsPrefix}
use Rattle.zvt_stream.specs.Answered.{Answered}
use Rattle.zvt_stream.specs.EndState.{EndState}
use Rattle.zvt_stream.specs.LineRun.{Reported}
use Rattle.zvt_stream.specs.Pumping.{Comes, FallsShort, GivesUp}
use Rattle.zvt_stream.specs.declared.line.LineFault.{LineFault}
use Rattle.zvt_stream.specs.declared.line.LineFault.TheVariants.{Ended, Memory, Turns, Write}
use Rattle.zvt_stream.specs.declared.line.Until.{Until}
use Rattle.zvt_stream.specs.declared.line.Until.TheVariants.{Rest, Sent}
use Rattle.zvt_term.specs.Extended.{ExtendedLoses, extended_elapses, extended_hears, holds_payment}
use Rattle.zvt_term.specs.declared.extended.Extended.{Extended}

-- a terminal reads until it holds a payment, and while it holds one it makes one read at a time
abbrev pub until_of : Extended → Until
until_of terminal = cond (holds_payment terminal) Sent Rest

-- ---- one step

-- It received and answered messages.
abbrev pub Hears : EndState → Extended → EndState → Extended → Type 0
Hears before old after new = Comes extended_hears holds_payment (until_of old) 1000000 before old after new

-- The delay was over: it decided the payment that it held, and wrote what follows the acknowledgement.
pub record Decides (before : EndState) (old : Extended) (after : EndState) (new : Extended) : Type 0 where
  pub holds : holds_payment old ≡ true
  pub answers : Answered
  pub elapsed : extended_elapses old answers new
  pub appended : Appends before.written after.written answers.bytes
  pub same_end : after ≡ record before { written = after.written }

-- While it received and answered messages, the line broke.
abbrev pub Misses : LineFault → EndState → Extended → EndState → Extended → Type 0
Misses fault before old after new = FallsShort extended_hears holds_payment (until_of old) 1000000 fault before old after new

-- When the delay of the payment that it held was over, memory was refused and nothing changed, or a part of what follows the
-- acknowledgement was written.
abbrev pub Fails : LineFault → EndState → Extended → EndState → Extended → Type 0
Fails Memory before old after new = (holds_payment old ≡ true) × (new ≡ old) × (after ≡ before)
Fails Write before old after new =
    (holds_payment old ≡ true) × (answers : Answered) × (part : List ℕ) × extended_elapses old answers new × IsPrefix part answers.bytes × Appends before.written after.written part
    × (after ≡ record before { written = after.written; failed_writes = before.failed_writes + 1 })
Fails fault before old after new = ⊥

-- a fault was reported to the terminal
abbrev pub IsTold : LineFault → Extended → Extended → Type 0
IsTold fault old new = Reported ExtendedLoses ExtendedLoses fault old new

-- the result of deciding a payment
abbrev pub Decided : EndState → Extended → EndState → Extended → Result Unit LineFault → Type 0
Decided before old after new (Ok done) = Decides before old after new
Decided before old after new (Err fault) = (middle : Extended) × Fails fault before old after middle × IsTold fault middle new

-- the result of a step
abbrev pub Stepped : EndState → Extended → EndState → Extended → Result Unit LineFault → Type 0
Stepped before old after new (Ok done) = Hears before old after new ⊎ Decides before old after new
Stepped before old after new (Err fault) =
    (middle : Extended) × (Misses fault before old after middle ⊎ Fails fault before old after middle) × IsTold fault middle new

-- ---- the steps of a service

-- This many steps.
abbrev pub Steps : ℕ → EndState → Extended → EndState → Extended → Type 0
Steps zero before old after new = (after ≡ before) × (new ≡ old)
Steps (suc n) before old after new =
    (middle : EndState) × (terminal : Extended) × Steps n before old middle terminal × (Hears middle terminal after new ⊎ Decides middle terminal after new)

-- How the step after this many steps broke, or that all steps were made.
abbrev pub Stops : ℕ → LineFault → EndState → Extended → EndState → Extended → Type 0
Stops steps fault before old after new =
    Misses fault before old after new ⊎ (Fails fault before old after new ⊎ ((steps ≡ 1000000) × (fault ≡ Turns) × (after ≡ before) × (new ≡ old)))

-- the terminal received and answered messages, and decided payments, until the line broke with this fault, and was notified
-- of it
pub record ServesUntil (fault : LineFault) (before : EndState) (old : Extended) (after : EndState) (new : Extended) : Type 0 where
  pub steps : ℕ
  pub last_end : EndState
  pub last : Extended
  pub middle : Extended
  pub stepped : Steps steps before old last_end last
  pub stops : Stops steps fault last_end last after middle
  pub reported : IsTold fault middle new

-- The result of a service: the end of the line between two messages is not a fault, and any other end is.
abbrev pub Serves : EndState → Extended → EndState → Extended → Result Unit LineFault → Type 0
Serves before old after new (Ok done) = ServesUntil (Ended 0) before old after new
Serves before old after new (Err fault) = (fault ≢ Ended 0) × ServesUntil fault before old after new

-- ---- a law

abbrev pub never_rests : Extended → Bool
never_rests terminal = false

-- a terminal without a delay answers each message as soon as it has come, until the line breaks
abbrev pub UndelayedServes : Type 0
UndelayedServes =
    (fault : LineFault) (before after : EndState) (old new : Extended) → old.extras.delay ≡ 0 → old.held ≡ None → ServesUntil fault before old after new
    → GivesUp extended_hears never_rests Rest 1000000 ExtendedLoses ExtendedLoses fault before old after new
