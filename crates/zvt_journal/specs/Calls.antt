-- The content of a file after these calls, newest first, and the contents that a crash may leave.
use Rattle.std.specs.Prelude.{◌≡◌, ◌⊎◌, ℕ, ◌+◌, ◌≤◌, ◌<◌, Bool, true, false, List, [], ◌∷◌, ◌++◌, length, take, drop}
use mathlib.Core.Logic.{inl, inr}
use Rattle.std.proofs.Math.Nat.{le_trans, le-suc, not-suc-le_self}
use Rattle.zvt_journal.specs.declared.call.Call.{Call}
use Rattle.zvt_journal.specs.declared.call.Call.TheVariants.{Wrote, SetByte, CutTo, Synced, Aside}
use Rattle.zvt_journal.specs.Device.{Torn, Swapped, Cut}

-- a call, its bytes, and whether it returned Ok
abbrev pub Event : Type 0
Event = Call × List ℕ × Bool

-- the bytes that a read returns after a call that returned Ok
abbrev pub after_call : Call → List ℕ → List ℕ → List ℕ
after_call (Wrote at) bytes old = take at old ++ bytes ++ drop (at + length bytes) old
after_call (SetByte at byte) bytes old = take at old ++ (byte ∷ []) ++ drop (at + length (byte ∷ [])) old
after_call (CutTo len) bytes old = take len old
after_call Synced bytes old = old
after_call (Aside step) bytes old = old

-- the bytes that a read returns: a failed call has no effect
abbrev pub seen_after : List ℕ → List Event → List ℕ
seen_after start [] = start
seen_after start ((call, bytes, true) ∷ made) = after_call call bytes (seen_after start made)
seen_after start ((call, bytes, false) ∷ made) = seen_after start made

-- the files that a crash may leave during this call, or after it and before the next sync
abbrev pub IsCutShort : Call → List ℕ → List ℕ → List ℕ → Type 0
IsCutShort (Wrote at) bytes old new = Torn at bytes old new
IsCutShort (SetByte at byte) bytes old new = Swapped at byte old new
IsCutShort (CutTo len) bytes old new = Cut len old new
IsCutShort Synced bytes old new = old ≡ new
IsCutShort (Aside step) bytes old new = old ≡ new

-- The files that a crash may leave now. After a sync that returned Ok, only the bytes that a read returns are left of
-- the files that were possible.
abbrev pub may_leave_after : List ℕ → List Event → List ℕ → Type 0
may_leave_after start [] file = file ≡ start
may_leave_after start ((Synced, bytes, true) ∷ made) file = (file ≡ seen_after start made) × may_leave_after start made file
may_leave_after start ((call, bytes, done) ∷ made) file = (was : List ℕ) × may_leave_after start made was × IsCutShort call bytes was file

-- The files that a crash might have left at some moment from t on. Moments are counted by calls.
abbrev pub left_since_after : List ℕ → List Event → ℕ → List ℕ → Type 0
left_since_after start [] t file = (t ≤ 0) × (file ≡ start)
left_since_after start (event ∷ made) t file = ((t ≤ length (event ∷ made)) × may_leave_after start (event ∷ made) file) ⊎ left_since_after start made t file

-- the number of failed calls
abbrev pub failed_among : List Event → ℕ
failed_among [] = 0
failed_among ((call, bytes, true) ∷ made) = failed_among made
failed_among ((call, bytes, false) ∷ made) = failed_among made + 1

pub counts_now : (start : List ℕ) (made : List Event) (t : ℕ) (file : List ℕ) → t ≤ length made → may_leave_after start made file → left_since_after start made t file
counts_now start [] t file le now = (le, now)
counts_now start (event ∷ made) t file le now = inl (le, now)

not_later : (start : List ℕ) (made : List Event) (t : ℕ) (file : List ℕ) → left_since_after start made t file → t ≤ length made
not_later start [] t file left = left.0
not_later start (event ∷ made) t file (inl now) = now.0
not_later start (event ∷ made) t file (inr left) = le_trans (not_later start made t file left) (le-suc (length made))

pub only_now : (start : List ℕ) (made : List Event) (file : List ℕ) → left_since_after start made (length made) file → may_leave_after start made file
only_now start [] file left = left.1
only_now start (event ∷ made) file (inl now) = now.1
only_now start (event ∷ made) file (inr left) = absurd (not-suc-le_self (length made) (not_later start made (length (event ∷ made)) file left))

-- the call stays within the file
abbrev pub IsCallWithin : Call → List ℕ → Type 0
IsCallWithin (Wrote at) seen = at ≤ length seen
IsCallWithin (SetByte at byte) seen = at < length seen
IsCallWithin (CutTo len) seen = len ≤ length seen
IsCallWithin Synced seen = Unit {0}
IsCallWithin (Aside step) seen = Unit {0}

-- each of them did, in the file as it was then
abbrev pub AreWithin : List ℕ → List Event → Type 0
AreWithin start [] = Unit {0}
AreWithin start ((call, bytes, done) ∷ made) = IsCallWithin call (seen_after start made) × AreWithin start made

-- the bytes that a read returns are one of the files that a crash may leave
abbrev pub SeenMayBeLeft : Type 0
SeenMayBeLeft = (start : List ℕ) (made : List Event) → AreWithin start made → may_leave_after start made (seen_after start made)
