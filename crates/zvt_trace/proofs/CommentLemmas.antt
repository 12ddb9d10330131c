-- Traces that differ in comments alone have the same events.
use Rattle.std.proofs.Common.{◌≡◌, inl, inr, ℕ, suc, ◌+◌, List, [], ◌∷◌, length, refl, sym, ap, subst, ◌∙◌}
use Rattle.std.specs.Prelude.{Ok}
use Rattle.zvt_grammar.specs.Reading.{Reading}
use Rattle.zvt_trace.specs.Comments.{AreAlike, CommentsMeanNothing, DifferInComments}
use Rattle.zvt_trace.specs.Emitting.{LineEnds, LinesEmit}
use Rattle.zvt_trace.specs.Meanings.{Meaning, meaning_of}
use Rattle.zvt_trace.specs.Trace.{Sides}
use Rattle.zvt_trace.specs.TraceEvent.{At}
use Rattle.zvt_trace.specs.declared.listener.Scope.{Scope}

means_alike : (one other : List ℕ) (meaning : Meaning) → AreAlike one other → meaning_of one ≡ Ok meaning → meaning_of other ≡ Ok meaning
means_alike one other meaning (inl same) means = subst (λ (line : List ℕ). meaning_of line ≡ Ok meaning) same means
means_alike one other meaning (inr both) means = both.1 ∙ sym both.0 ∙ means

same_length : (ones others : List (List ℕ)) → DifferInComments ones others → length ones ≡ length others
same_length [] [] differ = refl
same_length [] (other ∷ others) differ = absurd differ
same_length (one ∷ ones) [] differ = absurd differ
same_length (one ∷ ones) (other ∷ others) differ = ap suc (same_length ones others differ.1)

emit_alike : (r : Reading) (scope : Scope) (count : ℕ) (sides : Sides) (ones others : List (List ℕ)) (events : List At) (after : Sides)
    → DifferInComments ones others → LinesEmit r scope count sides ones events after → LinesEmit r scope count sides others events after
emit_alike r scope count sides [] [] events after differ emit = emit
emit_alike r scope count sides [] (other ∷ others) events after differ emit = absurd differ
emit_alike r scope count sides (one ∷ ones) [] events after differ emit = absurd differ
emit_alike r scope count sides (one ∷ ones) (other ∷ others) events after differ emit =
    record {
      meaning = emit.meaning;
      own = emit.own;
      rest = emit.rest;
      middle = emit.middle;
      means = means_alike one other emit.meaning differ.0 emit.means;
      emits = emit.emits;
      others = emit_alike r scope (count + 1) emit.middle ones others emit.rest after differ.1 emit.others;
      is_all = emit.is_all;
    }

pub comments_mean_nothing : CommentsMeanNothing
comments_mean_nothing r scope ones others events differ whole =
    record {
      body = whole.body;
      after = whole.after;
      last = whole.last;
      emit = emit_alike r scope 0 _ ones others whole.body whole.after differ whole.emit;
      ends = subst (λ (n : ℕ). LineEnds r n whole.after whole.last) (same_length ones others differ) whole.ends;
      is_all = whole.is_all;
    }
