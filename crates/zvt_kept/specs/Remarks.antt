-- Remarks: comments that a person adds to a journal.
use Rattle.std.specs.Prelude.{◌≡◌, ◌≢◌, ◌↔◌, true, false, ℕ, List, ◌∷◌, ◌++◌, All}
use Rattle.std.specs.Str.Lines.{strip_carriage_return}
use Rattle.zvt_till.specs.declared.happenings.Happening.{Happening}
use Rattle.zvt_till.specs.Sending.{Settings}
use Rattle.zvt_journal.specs.Text.{recovered}
use Rattle.zvt_kept.specs.Checks.{is_check, is_sent}
use Rattle.zvt_kept.specs.Records.{is_remark}
use Rattle.zvt_kept.specs.Logs.{HasOpening, StandsFor}

-- one line, which is a remark apart from a possible carriage return at its end
pub record IsRemark (line : List ℕ) : Type 0 where
  pub remark : is_remark (strip_carriage_return line) ≡ true
  pub no_end : All (λ byte. byte ≢ 10) line

-- A remark after complete records of a journal changes nothing: the file represents the same logs as without it. The
-- text after the remark must not continue a record: it begins neither with sent bytes nor with a check.
abbrev pub RemarksMeanNothing : Type 0
RemarksMeanNothing =
    (settings : Settings) (before remark after : List ℕ) (log : List Happening)
    → recovered before ≡ before → HasOpening settings before → IsRemark remark → is_sent after ≡ false → is_check after ≡ false
    → StandsFor settings (recovered (before ++ (remark ++ 10 ∷ after))) log ↔ StandsFor settings (recovered (before ++ after)) log
