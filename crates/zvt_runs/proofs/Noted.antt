-- The notes of a run so far: all of them were reported, or a prefix up to where the device failed.
use Rattle.std.proofs.Common.{Bool, true, false, ℕ, ◌+◌, List, ◌++◌, Option, Result, Ok, Err, ap, ◌∙◌, inl, inr}
use Rattle.std.proofs.KnownBytes.{Appends-trans}
use Rattle.std.specs.Result.{is_ok}
use Rattle.zvt_io.specs.Devices.{CountsFailure, Writes}
use Rattle.zvt_runs.specs.Reporting.{ReportedSoFar, Reports}
use Rattle.zvt_runs.proofs.Unclear.{prefix_of, trailing}

pub reported : (works : Bool) (old new : Option (List ℕ)) (before after : ℕ) (text : List ℕ) → ReportedSoFar works old new before after text → Reports text old new before after
reported true old new before after text notes = inl notes
reported false old new before after text notes = inr notes

-- one more note was reported, or the device failed
pub noted : {E : Type 0} (r : Result Unit E) (note : List ℕ) (old now new : Option (List ℕ)) (before middle after : ℕ) → Writes now new r note → CountsFailure middle after r
    → (text : List ℕ) → ReportedSoFar true old now before middle text → ReportedSoFar (is_ok r) old new before after (text ++ note)
noted (Ok done) note old now new before middle after writes counts text notes = (counts ∙ notes.0, Appends-trans old now new text note notes.1 writes)
noted (Err failed) note old now new before middle after writes counts text notes =
    let whole = trailing text note old now new notes.1 writes in
    (counts ∙ ap (λ n. n + 1) notes.0, whole.0, whole.1, whole.2)

-- after a failure nothing more is reported
pub not_noted : (note : List ℕ) (old new : Option (List ℕ)) (before after : ℕ) (text : List ℕ) → ReportedSoFar false old new before after text → ReportedSoFar false old new before after (text ++ note)
not_noted note old new before after text notes =
    let part = prefix_of text note old new (notes.1, notes.2, notes.3) in
    (notes.0, part.0, part.1, part.2)
