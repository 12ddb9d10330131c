-- The effect of a device's calls on its file, and the files that a crash may leave.
use Rattle.std.specs.Prelude.{◌<◌, ◌≡◌, ◌⊎◌, ℕ, ◌+◌, ◌≤◌, min, max, List, [], ◌∷◌, ◌++◌, get_or, length, take, drop, Result, IsErrOf}
use Rattle.zvt_journal.specs.declared.device.DeviceError.{DeviceError}
use Rattle.zvt_journal.specs.declared.device.DeviceError.TheVariants.{Failed, Full}

-- new is old with these bytes over it from `at` on
abbrev pub Over : ℕ → List ℕ → List ℕ → List ℕ → Type 0
Over at bytes old new = new ≡ take at old ++ bytes ++ drop (at + length bytes) old

-- A crash during a write of these bytes from `at` on. Each of its bytes is the new byte or the old one, which is 0 if
-- the file grew. All other bytes keep their values.
pub record Torn (at : ℕ) (bytes old new : List ℕ) : Type 0 where
  pub before : take at new ≡ take at old
  pub after : drop (at + length bytes) new ≡ drop (at + length bytes) old
  pub no_shorter : length old ≤ length new
  pub no_longer : length new ≤ max (length old) (at + length bytes)
  pub each : (i : ℕ) → i < length bytes → (get_or (drop at new) i 0 ≡ get_or bytes i 0) ⊎ (get_or (drop at new) i 0 ≡ get_or (drop at old) i 0)

-- One byte over another that a crash cuts short: the one or the other.
abbrev pub Swapped : ℕ → ℕ → List ℕ → List ℕ → Type 0
Swapped at byte old new = (new ≡ old) ⊎ Over at (byte ∷ []) old new

-- A crash during a cut to n bytes: a prefix of the file, with at least n bytes if the file had so many.
pub record Cut (n : ℕ) (old new : List ℕ) : Type 0 where
  pub no_shorter : min n (length old) ≤ length new
  pub prefix : take (length new) old ≡ new

-- a file that may be left after a step is a file that may have been left before it, after this step
abbrev pub Follows : (List ℕ → List ℕ → Type 0) → (List ℕ → Type 0) → (List ℕ → Type 0) → Type 0
Follows step before after = (file : List ℕ) → after file → (was : List ℕ) × before was × step was file

-- a crash leaves this file alone
abbrev pub Only : List ℕ → (List ℕ → Type 0) → Type 0
Only this may_leave = (file : List ℕ) → may_leave file → file ≡ this

-- Time passes: a crash since t might have left the files that it might have left before, or those that it may leave
-- now.
pub record Elapses (then now : ℕ) (left_then left_now : ℕ → List ℕ → Type 0) (may_leave : List ℕ → Type 0) : Type 0 where
  pub later : then ≤ now
  pub nothing_else : (t : ℕ) (file : List ℕ) → t ≤ then → left_now t file → left_then t file ⊎ may_leave file
  pub keeps : (t : ℕ) (file : List ℕ) → t ≤ then → left_then t file → left_now t file

-- a crash at any moment from old to new leaves a file that has P
pub record LeavesOnly {D : Type 0} (moment : D → ℕ) (left_since : D → ℕ → List ℕ → Type 0) (old new : D) (P : List ℕ → Type 0) : Type 0 where
  pub later : moment old ≤ moment new
  -- also for one who counts from an earlier moment on
  pub each : (t : ℕ) (file : List ℕ) → t ≤ moment old → left_since new t file → left_since old t file ⊎ P file
  -- and at the first moment too
  pub here : (file : List ℕ) → left_since new (moment old) file → P file

-- the device reports a failure only if the disk has failed, and never reports that it is full
pub record HasCause {T : Type 0} (before after : ℕ) (result : Result T DeviceError) : Type 0 where
  pub later : before ≤ after
  pub failed : IsErrOf result Failed → before < after
  pub not_full : IsErrOf result Full → ⊥
