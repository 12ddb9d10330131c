-- Turns, one after another.
use Rattle.std.proofs.Common.{◌≡◌, ℕ, ◌+◌, Bool, true, false, refl, sym, ap, ◌∙◌, subst, add-one}
use Rattle.zvt_apdu.specs.Message.{Message}
use Rattle.zvt_stream.specs.declared.line.LineFault.{LineFault}
use Rattle.zvt_stream.specs.declared.line.LineFault.TheVariants as faults
use Rattle.zvt_stream.specs.Answered.{Answered}
use Rattle.zvt_stream.specs.LineRun.{there_at_once, reached}
use Rattle.zvt_stream.specs.declared.line.Until.{Until}
use Rattle.zvt_stream.specs.declared.line.Until.TheVariants.{Rest, Sent}
use Rattle.zvt_stream.specs.Turns.{LineState, Turned, Waited, Broke, Falters}

-- one more turn, after which the line had not come there
pub waited_more : {S : Type 0} (step : S → Message → Answered → S → Type 0) (resting : S → Bool) (until : Until) (n : ℕ) (old middle new : LineState S) → Waited step resting until n old middle → Turned step middle new → reached until (resting new.machine) new.sent ≡ false → Waited step resting until (n + 1) old new
waited_more step resting until n old middle new w t r =
    let P : ℕ → Type 0 = λ k. Waited step resting until k old new in
    subst P (sym (add-one n)) (middle, w, t, r)

-- what a test of the machine said
pub said : (until : Until) (resting now sent found value : Bool) → resting ≡ now → found ≡ reached until resting sent → found ≡ value → reached until now sent ≡ value
said until resting now sent found value r f v = ap (λ b. reached until b sent) (sym r) ∙ sym f ∙ v

-- what is there before the first turn has come there
pub reached_at_once : (until : Until) (resting now : Bool) → resting ≡ now → there_at_once until resting ≡ true → reached until now false ≡ true
reached_at_once Rest resting now e h = sym e ∙ h
reached_at_once Sent resting now e h = sym e ∙ absurd (cc (h))

-- the turn after these broke
pub falters : {S : Type 0} (step : S → Message → Answered → S → Type 0) (resting : S → Bool) (until : Until) (fault : LineFault) (turns before reads_before reads_after : ℕ) (old middle : LineState S) (new : Bool → LineState S) → (fault ≡ faults.Turns → ⊥) → Waited step resting until before old middle → Broke step fault turns before reads_before reads_after middle (new middle.sent) → Falters step resting until fault turns reads_before reads_after old new
falters step resting until faults.Read turns before reads_before reads_after old middle new other w b = record { before = before; middle = middle; waited = w; last = b }
falters step resting until faults.Write turns before reads_before reads_after old middle new other w b = record { before = before; middle = middle; waited = w; last = b }
falters step resting until (faults.Ended have) turns before reads_before reads_after old middle new other w b = record { before = before; middle = middle; waited = w; last = b }
falters step resting until (faults.Malformed place why) turns before reads_before reads_after old middle new other w b = record { before = before; middle = middle; waited = w; last = b }
falters step resting until faults.Memory turns before reads_before reads_after old middle new other w b = record { before = before; middle = middle; waited = w; last = b }
falters step resting until faults.Stopped turns before reads_before reads_after old middle new other w b = record { before = before; middle = middle; waited = w; last = b }
falters step resting until faults.Turns turns before reads_before reads_after old middle new other w b = absurd (other refl)
