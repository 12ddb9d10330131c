-- The moments of a trace's lines, line by line.
use Rattle.std.proofs.Common.{◌≡◌, ℕ, ◌+◌, List, [], ◌∷◌, ◌++◌, Option, length, arith, sym, ap, ◌∙◌, append_assoc}
use Rattle.std.specs.Str.Lines.{lines}
use Rattle.std.proofs.lemmas.List.{append-nil}
use Rattle.zvt_trace.specs.Moments.{bad_from, bad_line, line_times, mark_after, times_from}
use Rattle.zvt_trace.specs.declared.moment.Moment.{Moment}
use Rattle.zvt_trace.specs.declared.moments.Timed.{Timed}

pub one_time : (count : ℕ) (mark : Option Moment) (text line rest : List ℕ) (all done more : List Timed) → lines text ≡ line ∷ lines rest
    → all ≡ done ++ times_from count mark (lines text) → more ≡ done ++ line_times (count + 1) mark line
    → all ≡ more ++ times_from (count + 1) (mark_after mark line) (lines rest)
one_time count mark text line rest all done more is so now =
    so ∙ ap (λ (ls : List (List ℕ)). done ++ times_from count mark ls) is
    ∙ sym (append_assoc done (line_times (count + 1) mark line) (times_from (count + 1) (mark_after mark line) (lines rest)))
    ∙ ap (λ (d : List Timed). d ++ times_from (count + 1) (mark_after mark line) (lines rest)) (sym now)

pub one_bad : (count : ℕ) (text line rest : List ℕ) (all done more : List ℕ) → lines text ≡ line ∷ lines rest
    → all ≡ done ++ bad_from count (lines text) → more ≡ done ++ bad_line (count + 1) line
    → all ≡ more ++ bad_from (count + 1) (lines rest)
one_bad count text line rest all done more is so now =
    so ∙ ap (λ (ls : List (List ℕ)). done ++ bad_from count ls) is
    ∙ sym (append_assoc done (bad_line (count + 1) line) (bad_from (count + 1) (lines rest)))
    ∙ ap (λ (d : List ℕ). d ++ bad_from (count + 1) (lines rest)) (sym now)

pub all_times : (count : ℕ) (mark : Option Moment) (text : List ℕ) (all done : List Timed) → length text ≡ 0 → all ≡ done ++ times_from count mark (lines text) → done ≡ all
all_times count mark [] all done none so = sym (so ∙ append-nil done)
all_times count mark (byte ∷ text) all done none so = absurd (omega (arith, none))

pub all_bad : (count : ℕ) (text : List ℕ) (all done : List ℕ) → length text ≡ 0 → all ≡ done ++ bad_from count (lines text) → done ≡ all
all_bad count [] all done none so = sym (so ∙ append-nil done)
all_bad count (byte ∷ text) all done none so = absurd (omega (arith, none))
