-- A remark of a person changes nothing of what a journal stands for.
use Rattle.std.proofs.Common.{◌≡◌, ℕ, ◌<◌, ◌-◌, Bool, true, false, zero, suc, cond, List, [], ◌∷◌, ◌++◌, All, length, take, Option, Some, None, if◌then◌else◌, refl, ap, ap₂, sym, subst, ◌∙◌, arith, append_assoc}
use Rattle.std.specs.Prelude.{◌==◌, ◌&&◌, not}
use Rattle.std.proofs.lemmas.Bool.Decides.{nat_tests}
use Rattle.std.proofs.lemmas.List.Elements.{All-nil, All-cons, All-head}
use Rattle.std.specs.Str.Lines.{lines, strip_carriage_return}
use Rattle.zvt_till.specs.declared.happenings.Happening.{Happening}
use Rattle.zvt_till.specs.Sending.{Settings}
use Rattle.zvt_journal.specs.Text.{IsLine, recovered, text_of}
use Rattle.zvt_journal.proofs.Lines.{itself_whole, recovered_then}
use Rattle.zvt_journal.proofs.Meaning.{recovered_is_lines}
use Rattle.zvt_kept.specs.Logs.{HasOpening, StandsFor, opening_of}
use Rattle.zvt_kept.specs.Checks.{are_right, is_check, is_right, is_sent, last_record, right_after, then_line}
use Rattle.zvt_kept.specs.Records.{Kept, is_remark, is_reserved, kept_in, last_of, meaning_behind, meanings, then_kept}
use Rattle.zvt_kept.specs.Remarks.{IsRemark, RemarksMeanNothing}
use Rattle.zvt_kept.proofs.CheckLemmas.{begins_anew, first_unchecked, right_append, taken_unchecked}
use Rattle.zvt_kept.proofs.LineLemmas.{lines_line}
use Rattle.zvt_kept.proofs.Logged.{whole_text}
use Rattle.zvt_kept.proofs.Made.{any_last, lines_after, whole_lines}
use Rattle.zvt_kept.proofs.ReadLines.{meanings_append}

-- ---- no line of bytes that were sent comes first

taken_unsent : (n : ℕ) (line : List ℕ) → is_sent line ≡ false → is_sent (take n line) ≡ false
taken_unsent zero line is = refl
taken_unsent (suc n) [] is = refl
taken_unsent (suc n) (byte ∷ line) is = is

cond_unsent : (b : Bool) (x y : List ℕ) → is_sent x ≡ false → is_sent y ≡ false → is_sent (cond b x y) ≡ false
cond_unsent true x y first second = first
cond_unsent false x y first second = second

stripped_unsent : (line : List ℕ) → is_sent line ≡ false → is_sent (strip_carriage_return line) ≡ false
stripped_unsent line is = cond_unsent _ (take (length line - 1) line) line (taken_unsent (length line - 1) line is) is

first_unsent : (line rest : List ℕ) → 0 < length line → is_sent (line ++ rest) ≡ false → is_sent line ≡ false
first_unsent [] rest some is = absurd (omega (arith, some))
first_unsent (byte ∷ line) rest some is = is

parts_unsent : (last : List ℕ) (parts : List (List ℕ)) → All IsLine parts → is_sent (text_of parts) ≡ false → meanings last (lines (text_of parts)) ≡ meanings [] (lines (text_of parts))
parts_unsent last [] all is = refl
parts_unsent last (line ∷ parts) all is =
    let this = All-head IsLine line parts all in
    let cut = lines_line line (text_of parts) this.no_end in
    let unsent = stripped_unsent line (first_unsent line (10 ∷ text_of parts) this.some is) in
    ap (meanings last) cut ∙ any_last last [] (strip_carriage_return line) (lines (text_of parts)) unsent ∙ sym (ap (meanings []) cut)

-- such a text means behind each line the same
text_unsent : (last text : List ℕ) → recovered text ≡ text → is_sent text ≡ false → meanings last (lines text) ≡ meanings [] (lines text)
text_unsent last text is unsent =
    let parts = recovered_is_lines text in
    let same : text_of parts.0 ≡ text = parts.2 ∙ is in
    subst (λ t. meanings last (lines t) ≡ meanings [] (lines t)) same (parts_unsent last parts.0 parts.1 (ap is_sent same ∙ unsent))

-- ---- nor a check

cond_unchecked : (b : Bool) (x y : List ℕ) → is_check x ≡ false → is_check y ≡ false → is_check (cond b x y) ≡ false
cond_unchecked true x y first second = first
cond_unchecked false x y first second = second

stripped_unchecked : (line : List ℕ) → is_check line ≡ false → is_check (strip_carriage_return line) ≡ false
stripped_unchecked line is = cond_unchecked _ (take (length line - 1) line) line (taken_unchecked (length line - 1) line is) is

parts_anew : (a b : List (List ℕ)) (parts : List (List ℕ)) → All IsLine parts → is_sent (text_of parts) ≡ false → is_check (text_of parts) ≡ false → right_after a (lines (text_of parts)) ≡ right_after b (lines (text_of parts))
parts_anew a b [] all unsent unchecked = refl
parts_anew a b (line ∷ parts) all unsent unchecked =
    let this = All-head IsLine line parts all in
    let cut = lines_line line (text_of parts) this.no_end in
    let sent = stripped_unsent line (first_unsent line (10 ∷ text_of parts) this.some unsent) in
    let checked = stripped_unchecked line (first_unchecked line (10 ∷ text_of parts) unchecked) in
    ap (right_after a) cut ∙ begins_anew a b (strip_carriage_return line) (lines (text_of parts)) sent checked ∙ sym (ap (right_after b) cut)

-- the checks of such a text are right behind each record, or behind none
text_anew : (a b : List (List ℕ)) (text : List ℕ) → recovered text ≡ text → is_sent text ≡ false → is_check text ≡ false → right_after a (lines text) ≡ right_after b (lines text)
text_anew a b text is unsent unchecked =
    let parts = recovered_is_lines text in
    let same : text_of parts.0 ≡ text = parts.2 ∙ is in
    subst (λ t. right_after a (lines t) ≡ right_after b (lines t)) same (parts_anew a b parts.0 parts.1 (ap is_sent same ∙ unsent) (ap is_check same ∙ unchecked))

-- ---- a remark means nothing

plainly : (words last : List ℕ) (b : Bool) → is_reserved words ≡ b → not b ≡ true → meaning_behind last (35 ∷ 32 ∷ words) ≡ Some []
plainly words last true is other = absurd cc
plainly words last false is other = rw is refl

both : (a b : Bool) → (a && b) ≡ true → (a ≡ true) × (b ≡ true)
both true b e = (refl, e)
both false b e = absurd cc

equal : (n m : ℕ) → (n == m) ≡ true → n ≡ m
equal n m is = grind (arith, nat_tests)

remark_behind : (last line : List ℕ) → is_remark line ≡ true → meaning_behind last line ≡ Some []
remark_behind last [] is = absurd cc
remark_behind last (sign ∷ []) is = absurd cc
remark_behind last (sign ∷ space ∷ words) is =
    let one = both (sign == 35 && space == 32) (not (is_reserved words)) is in
    let two = both (sign == 35) (space == 32) one.0 in
    subst (λ n. meaning_behind last (n ∷ space ∷ words) ≡ Some []) (sym (equal sign 35 two.0))
    (subst (λ n. meaning_behind last (35 ∷ n ∷ words) ≡ Some []) (sym (equal space 32 two.1)) (plainly words last (is_reserved words) refl one.1))

remark_line : (remark : List ℕ) → IsRemark remark → IsLine remark
remark_line [] r = absurd (nothing r.remark)
  where
    nothing : false ≡ true → ⊥
    nothing e = absurd cc
remark_line (byte ∷ remark) r = record { some = omega arith; no_end = r.no_end }

first_kept : (a : Option (List Kept)) → then_kept (Some []) a ≡ a
first_kept None = refl
first_kept (Some kept) = refl

-- a remark, and then a text, mean what the text means
remark_text : (last remark text : List ℕ) → IsRemark remark → recovered text ≡ text → is_sent text ≡ false → meanings last (lines (remark ++ 10 ∷ text)) ≡ meanings [] (lines text)
remark_text last remark text r is unsent =
    let line = strip_carriage_return remark in
    ap (meanings last) (lines_line remark text r.no_end) ∙ ap (λ m. then_kept m (meanings line (lines text))) (remark_behind last line r.remark)
    ∙ first_kept (meanings line (lines text)) ∙ text_unsent line text is unsent

-- a remark is no check, so it makes none wrong
remark_right : (a : List (List ℕ)) (line : List ℕ) → is_remark line ≡ true → is_right a line ≡ true
remark_right a [] is = absurd cc
remark_right a (sign ∷ []) is = absurd cc
remark_right a (sign ∷ space ∷ words) is =
    let one = both (sign == 35 && space == 32) (not (is_reserved words)) is in
    let two = both (sign == 35) (space == 32) one.0 in
    subst (λ n. is_right a (n ∷ space ∷ words) ≡ true) (sym (equal sign 35 two.0)) (subst (λ n. is_right a (35 ∷ n ∷ words) ≡ true) (sym (equal space 32 two.1)) refl)

remark_checks : (a b : List (List ℕ)) (remark text : List ℕ) → IsRemark remark → recovered text ≡ text → is_sent text ≡ false → is_check text ≡ false → right_after a (lines (remark ++ 10 ∷ text)) ≡ right_after b (lines text)
remark_checks a b remark text r is unsent unchecked =
    let line = strip_carriage_return remark in
    ap (right_after a) (lines_line remark text r.no_end) ∙ ap (λ (t : Bool). t && right_after (then_line a line) (lines text)) (remark_right a line r.remark)
    ∙ text_anew (then_line a line) b text is unsent unchecked

-- ---- the law

same_right : (before remark text : List ℕ) → recovered before ≡ before → IsRemark remark → recovered text ≡ text → is_sent text ≡ false → is_check text ≡ false → are_right (lines (before ++ (remark ++ 10 ∷ text))) ≡ are_right (lines (before ++ text))
same_right before remark text first r is unsent unchecked =
    let here = last_record (lines before) in
    ap are_right (lines_after before (remark ++ 10 ∷ text) first) ∙ right_append [] (lines before) (lines (remark ++ 10 ∷ text))
    ∙ ap (λ (t : Bool). are_right (lines before) && t) (remark_checks here here remark text r is unsent unchecked)
    ∙ sym (ap are_right (lines_after before text first) ∙ right_append [] (lines before) (lines text))

same_kept : (before remark text : List ℕ) → recovered before ≡ before → IsRemark remark → recovered text ≡ text → is_sent text ≡ false → is_check text ≡ false → kept_in (before ++ (remark ++ 10 ∷ text)) ≡ kept_in (before ++ text)
same_kept before remark text first r is unsent unchecked =
    let last = last_of [] (lines before) in
    let with_it = ap (meanings []) (lines_after before (remark ++ 10 ∷ text) first) ∙ meanings_append [] (lines before) (lines (remark ++ 10 ∷ text)) in
    let without = ap (meanings []) (lines_after before text first) ∙ meanings_append [] (lines before) (lines text) in
    let meant = with_it ∙ ap (then_kept (meanings [] (lines before))) (remark_text last remark text r is unsent ∙ sym (text_unsent last text is unsent)) ∙ sym without in
    ap₂ (λ (b : Bool) (o : Option (List Kept)). if b then o else None) (same_right before remark text first r is unsent unchecked) meant

with_remark : (before remark after : List ℕ) → recovered before ≡ before → IsRemark remark → recovered (before ++ (remark ++ 10 ∷ after)) ≡ before ++ (remark ++ 10 ∷ recovered after)
with_remark before remark after first r =
    let line = recovered_then (remark ++ 10 ∷ []) after (whole_lines (remark ∷ []) (All-cons IsLine remark [] (remark_line remark r) (All-nil IsLine))) in
    recovered_then before (remark ++ 10 ∷ after) (itself_whole before first)
    ∙ ap (λ t. before ++ t) (ap recovered (sym (append_assoc remark (10 ∷ []) after)) ∙ line ∙ append_assoc remark (10 ∷ []) (recovered after))

moved : (settings : Settings) (before x y : List ℕ) (log : List Happening) → HasOpening settings before → kept_in (before ++ x) ≡ kept_in (before ++ y) → StandsFor settings (before ++ x) log → StandsFor settings (before ++ y) log
moved settings before x y log opened same s = record {
  opened = (opened.0 ++ y, ap (λ t. t ++ y) opened.1 ∙ append_assoc (opening_of settings) opened.0 y);
  kept = s.kept;
  happened = s.happened;
  read = sym same ∙ s.read;
  happens = s.happens;
  begins = s.begins;
  asks = s.asks;
}

pub remarks_mean_nothing : RemarksMeanNothing
remarks_mean_nothing settings before remark after log first opened r unsent unchecked =
    let text = recovered after in
    let same = same_kept before remark text first r (whole_text after) (taken_unsent _ after unsent) (taken_unchecked _ after unchecked) in
    let with_it = with_remark before remark after first r in
    let without = recovered_then before after (itself_whole before first) in (
      λ s. subst (λ t. StandsFor settings t log) (sym without) (moved settings before (remark ++ 10 ∷ text) text log opened same (subst (λ t. StandsFor settings t log) with_it s)),
      λ s. subst (λ t. StandsFor settings t log) (sym with_it) (moved settings before text (remark ++ 10 ∷ text) log opened (sym same) (subst (λ t. StandsFor settings t log) without s)),
    )
