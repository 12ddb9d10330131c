-- What is shown of a trace, once more of it has come.
use Rattle.std.proofs.Common.{◌≡◌, ◌∙◌, ◌++◌, ap, true, append_assoc, is_some, List, ℕ, Option, None, Some, Result, Ok, Err}
use Rattle.std.proofs.Common.{inl, inr}
use Rattle.std.specs.Str.Lines.{lines}
use Rattle.zvt_grammar.specs.Reading.{Reading}
use Rattle.zvt_trace.specs.declared.fault.Tally.{Tally}
use Rattle.zvt_trace.specs.declared.fault.TraceFault.{TraceFault}
use Rattle.zvt_trace.specs.declared.listener.Scope.{Scope}
use Rattle.zvt_show.specs.declared.follow.Follower.{Follower}
use Rattle.zvt_show.specs.declared.render.Style.{Style}
use Rattle.zvt_show.specs.Shown.{AnswersShown, HasShownBy}
use Rattle.zvt_show.specs.Written.{AnswersLinesBy}

-- after a fault nothing more is shown
pub shown_still : (fault : Option TraceFault) (r : Reading) (scope : Scope) (style : Style) (trace text : List ℕ) (first now : Option (List ℕ)) (follower : Follower)
    → is_some fault ≡ true → HasShownBy fault r scope style trace first now follower → HasShownBy fault r scope style (trace ++ text) first now follower
shown_still None r scope style trace text first now follower e has = let bad = e in cc
shown_still (Some fault) r scope style trace text first now follower e has =
    let prefix = has.1 in
    (has.0, (prefix.0 ++ text, ap (λ (xs : List ℕ). xs ++ text) prefix.1 ∙ append_assoc has.0 prefix.0 text), has.2)

-- ---- the end of a line

-- it failed before
pub ended_before : (fault : TraceFault) (r : Reading) (scope : Scope) (style : Style) (trace text : List ℕ) (first now : Option (List ℕ)) (follower : Follower)
    → HasShownBy (Some fault) r scope style trace first now follower → AnswersShown r scope style (trace ++ text) first now (Err fault)
ended_before fault r scope style trace text first now follower has =
    let prefix = has.1 in
    inr (has.0, (prefix.0 ++ text, ap (λ (xs : List ℕ). xs ++ text) prefix.1 ∙ append_assoc has.0 prefix.0 text), has.2)

-- the text was written to its end, or not
pub ended_whole : (answer : Result Tally TraceFault) (r : Reading) (scope : Scope) (style : Style) (trace : List ℕ) (first now : Option (List ℕ))
    → AnswersLinesBy r scope style (lines trace) first now answer → AnswersShown r scope style trace first now answer
ended_whole (Ok tally) r scope style trace first now written = written
ended_whole (Err fault) r scope style trace first now written = inl written
