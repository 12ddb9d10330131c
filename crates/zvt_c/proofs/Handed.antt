-- A text that was handed out.
use Rattle.std.proofs.Common.{◌≡◌, ℕ, inl, inr, List, [], ◌++◌, Result, Ok, Err, OnOk, MatchResult, subst, ap, ◌∙◌}
use Rattle.zvt_kept.specs.Reading.{Extends}
use Rattle.zvt_c.specs.declared.answer.ZvtAnswer.{ZvtAnswer}
use Rattle.zvt_c.specs.Records.{Records}
use Rattle.zvt_c.specs.Saving.{Written, bare, sized}

-- a text that was written from the start is handed out as what was to be written
pub handed_whole : {E : Type 0} (written : Result Unit E) (text said before after : List ℕ) (answer : ZvtAnswer) → OnOk written (text ≡ said)
    → MatchResult written (λ _. (answer ≡ sized answer.size) × Written text answer.size before after) (λ _. (after ≡ before) × (answer ≡ bare 3)) → Records said before after answer
handed_whole (Ok done) text said before after answer is out = inl (out.0, subst (λ (t : List ℕ). Written t answer.size before after) is out.1)
handed_whole (Err why) text said before after answer is out = inr out

pub handed : {E : Type 0} (written : Result Unit E) (text said before after : List ℕ) (answer : ZvtAnswer) → Extends written [] text said
    → MatchResult written (λ _. (answer ≡ sized answer.size) × Written text answer.size before after) (λ _. (after ≡ before) × (answer ≡ bare 3)) → Records said before after answer
handed {E} (Ok done) text said before after answer extends out = handed_whole {E = E} (Ok done) text said before after answer extends out
handed {E} (Err why) text said before after answer extends out = inr out

-- a text that was begun anew
pub anew : (text start added : List ℕ) → text ≡ start ++ added → start ≡ [] → text ≡ added
anew text start added grown none = grown ∙ ap (λ (l : List ℕ). l ++ added) none
