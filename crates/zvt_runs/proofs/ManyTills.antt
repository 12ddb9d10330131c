-- Lines that a terminal served one after another.
use Rattle.std.proofs.Common.{◌≡◌, ◌∙◌, ◌+◌, ◌<◌, ℕ, List, [], ◌∷◌, ◌++◌, Option, Some, None, Result, Ok, Err, ap, refl, subst, sym, arith}
use Rattle.std.proofs.lemmas.List.{length-append}
use Rattle.std.specs.Result.{result_err}
use Rattle.zvt_stream.specs.LineReading.{LineReading}
use Rattle.zvt_stream.specs.EndState.{EndState}
use Rattle.zvt_stream.specs.LineRun.{Reported}
use Rattle.zvt_stream.specs.StreamState.{start_by}
use Rattle.zvt_stream.specs.declared.line.LineFault.{LineFault}
use Rattle.zvt_stream.specs.declared.line.LineFault.TheVariants.{Read, Write, Ended, Turns, Malformed, Memory, Stopped}
use Rattle.zvt_term.specs.Extended.{ExtendedLoses}
use Rattle.zvt_term.specs.Terminal.{TerminalState, lost_terminal}
use Rattle.zvt_term.specs.declared.extended.Extended.{Extended}
use Rattle.zvt_runs.specs.declared.fault.EndFault.{EndFault}
use Rattle.zvt_runs.specs.declared.fault.EndFault.TheVariants.{BadStep, Book, Line as LineBroke, Memory as NoMemory, Net, Silent, Trace, Unsuccessful, Write as NotWritten}
use Rattle.zvt_runs.specs.Service.{Serves}
use Rattle.zvt_runs.specs.Tills.{AnswersTill, AnswersTills, IsOffline, ServesLine, ServesLines, ServesMany, ServesSome, first_broken}

lost_offline : (old new : TerminalState) → new ≡ lost_terminal old → IsOffline new
lost_offline old new e = e ∙ sym (ap lost_terminal e)

-- a terminal to which a fault was reported has no line
reported_offline : (fault : LineFault) (old new : Extended) → Reported ExtendedLoses ExtendedLoses fault old new → IsOffline new.served.terminal
reported_offline Read old new t = lost_offline old.served.terminal new.served.terminal t.served.0
reported_offline Write old new t = lost_offline old.served.terminal new.served.terminal t.served.0
reported_offline (Ended have) old new t = lost_offline old.served.terminal new.served.terminal t.served.0
reported_offline Turns old new t = lost_offline old.served.terminal new.served.terminal t.served.0
reported_offline (Malformed place why) old new t = lost_offline old.served.terminal new.served.terminal t.served.0
reported_offline Memory old new t = lost_offline old.served.terminal new.served.terminal t.served.0
reported_offline Stopped old new t = lost_offline old.served.terminal new.served.terminal t.served.0

pub left_offline : (r : LineReading) (old : Extended) (broke : Option LineFault) (new : Extended) → ServesLine r old broke new → IsOffline new.served.terminal
left_offline r old None new line = reported_offline (Ended 0) line.serves.middle new line.serves.reported
left_offline r old (Some fault) new line = reported_offline fault line.serves.1.middle new line.serves.1.reported

pub served_line : (r : LineReading) (result : Result Unit LineFault) (before after : EndState) (old new : Extended) → before.stream ≡ start_by r → IsOffline old.served.terminal
    → Serves before old after new result → ServesLine r old (result_err result) new
served_line r (Ok done) before after old new begins offline serves = record { before = before; after = after; begins = begins; offline = offline; serves = serves }
served_line r (Err fault) before after old new begins offline serves = record { before = before; after = after; begins = begins; offline = offline; serves = serves }

-- ---- one line more

one_more : (r : LineReading) (lines : List (Option LineFault)) (broke : Option LineFault) (old middle new : Extended) → ServesLines r lines old middle → ServesLine r middle broke new
    → ServesLines r (lines ++ broke ∷ []) old new
one_more r [] broke old middle new e line = (new, subst (λ (s : Extended). ServesLine r s broke new) e line, refl)
one_more r (first ∷ lines) broke old middle new so line = (so.0, so.1, one_more r lines broke so.0 middle new so.2 line)

-- the first of both that broke
abbrev pub or_later : Option LineFault → Option LineFault → Option LineFault
or_later None later = later
or_later (Some fault) later = Some fault

still_first : (lines : List (Option LineFault)) (broke : Option LineFault) → first_broken (lines ++ broke ∷ []) ≡ or_later (first_broken lines) broke
still_first [] None = refl
still_first [] (Some fault) = refl
still_first (None ∷ lines) broke = still_first lines broke
still_first (Some fault ∷ lines) broke = refl

many_more : (r : LineReading) (count : ℕ) (first broke : Option LineFault) (old middle new : Extended) → ServesMany r count first old middle → ServesLine r middle broke new
    → ServesMany r (count + 1) (or_later first broke) old new
many_more r count first broke old middle new so line = record {
  lines = so.lines ++ broke ∷ [];
  serves = one_more r so.lines broke old middle new so.serves line;
  counted = length-append so.lines (broke ∷ []) ∙ ap (λ n. n + 1) so.counted;
  is_first = still_first so.lines broke ∙ ap (λ f. or_later f broke) so.is_first;
}

-- a fault of the next line ends the service
pub stopped : (r : LineReading) (count most : ℕ) (first : Option LineFault) (fault : EndFault) (old middle new : Extended) → count < most → ServesMany r count first old middle
    → AnswersTill r middle new (Err fault) → AnswersTills r most old new (Err fault)
stopped r count most first Trace old middle new below so till = (count + 1, or_later first till.0, omega (arith, below), many_more r count first till.0 old middle new so till.1)
stopped r count most first (LineBroke fault) old middle new below so till = absurd till
stopped r count most first (Net why) old middle new below so till = absurd till
stopped r count most first (BadStep at) old middle new below so till = absurd till
stopped r count most first (Silent seconds) old middle new below so till = absurd till
stopped r count most first Book old middle new below so till = absurd till
stopped r count most first Unsuccessful old middle new below so till = absurd till
stopped r count most first NotWritten old middle new below so till = absurd till
stopped r count most first NoMemory old middle new below so till = (count, first, omega (arith, below), subst (λ (s : Extended). ServesMany r count first old s) (sym till) so)

-- that a line was served could not be reported, which ends the service
pub unreported : (r : LineReading) (count most : ℕ) (first broke : Option LineFault) (old middle new : Extended) → count < most → ServesMany r count first old middle
    → ServesLine r middle broke new → ServesSome r most old new
unreported r count most first broke old middle new below so line = (count + 1, or_later first broke, omega (arith, below), many_more r count first broke old middle new so line)

-- the line that was served is one more
pub goes_on : (r : LineReading) (count : ℕ) (first kept broke : Option LineFault) (old middle new : Extended) → kept ≡ or_later first broke → ServesMany r count first old middle
    → ServesLine r middle broke new → ServesMany r (count + 1) kept old new
goes_on r count first kept broke old middle new e so line = subst (λ (f : Option LineFault). ServesMany r (count + 1) f old new) (sym e) (many_more r count first broke old middle new so line)

-- no line was served
pub none_served : (r : LineReading) (most : ℕ) (served : Extended) → ServesSome r most served served
none_served r most served = (0, None, omega arith, record { lines = []; serves = refl; counted = refl; is_first = refl })
