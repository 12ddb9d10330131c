-- Bytes behind a mark.
use Rattle.std.proofs.Common.{◌≡◌, inl, inr, ℕ, true, List, [], ◌∷◌, ◌++◌, refl, append_assoc, sym, ◌∙◌}
use Rattle.zvt_trace.specs.Marking.{IsMarked}
use Rattle.zvt_trace.specs.Marks.{is_real, mark_text}
use Rattle.zvt_trace.specs.declared.moment.Moment.{Moment}

pub alone : (bytes : List ℕ) → IsMarked bytes bytes
alone bytes = ([], inl refl, refl)

pub behind : (moment : Moment) (text bytes : List ℕ) → is_real moment ≡ true → text ≡ mark_text moment ++ 10 ∷ bytes → IsMarked text bytes
behind moment text bytes real is = (mark_text moment ++ 10 ∷ [], inr (moment, real, refl), is ∙ sym (append_assoc (mark_text moment) (10 ∷ []) bytes))
