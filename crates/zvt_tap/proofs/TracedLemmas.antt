-- What the trace of a line has, once more was written.
use Rattle.std.proofs.Common.{◌≡◌, ◌∙◌, inr, Bool, true, false, ℕ, List, ◌++◌, Option, None, Some, ap, append_assoc, arith, refl, sym}
use Rattle.std.proofs.KnownBytes.{Appends-trans}
use Rattle.std.specs.Io.KnownBytes.{Appends}
use Rattle.zvt_io.specs.Devices.{IsPrefix}
use Rattle.zvt_trace.specs.Lines.{piece_text}
use Rattle.zvt_trace.specs.Observing.{MissesLine, SomeMisses}
use Rattle.zvt_trace.specs.declared.direction.Direction.{Direction}
use Rattle.zvt_trace.specs.declared.listener.ListenerError.TheVariants.{Write}
use Rattle.zvt_trace.specs.declared.writer.TraceWriter.{TraceWriter}
use Rattle.zvt_tap.specs.Traced.{HasTraced, TracesOn, failures_by, traced_by}
use Rattle.zvt_tap.specs.declared.tracing.Tracing.{Tracing}
use Rattle.zvt_tap.proofs.LogLemmas.{fails_not}

-- a prefix of a text is one of a longer text
longer : (part text more : List ℕ) → IsPrefix part text → IsPrefix part (text ++ more)
longer part text more (rest, is) = (rest ++ more, ap (λ (t : List ℕ). t ++ more) is ∙ append_assoc part rest more)

module _ {T : Type 0} (written : T → Option (List ℕ)) (failures : T → ℕ) where
  abbrev Writer : Type 0
  Writer = TraceWriter T

  -- a trace that failed stays as it is
  pub failed_still : (failed : Bool) (text : List ℕ) (trace : List ℕ) (first now : Option (List ℕ)) → failed ≡ true → HasTraced failed trace first now → HasTraced failed (trace ++ text) first now
  failed_still true text trace first now is (part, prefix, has) = (part, longer part trace text prefix, has)
  failed_still false text trace first now is has = let bad = is in cc

  -- a prefix of a text came, and then a write failed
  pub prefix_came : (failed : Bool) (text part trace : List ℕ) (first old now : Option (List ℕ)) → failed ≡ false → IsPrefix part text → Appends old now part → HasTraced failed trace first old → HasTraced true (trace ++ text) first now
  prefix_came false text part trace first old now is (rest, cut) came has =
      (trace ++ part, (rest, ap (λ (t : List ℕ). trace ++ t) cut ∙ sym (append_assoc trace part rest)), Appends-trans first old now trace part has came)
  prefix_came true text part trace first old now is prefix came has = let bad = is in cc

  -- it could not be written
  pub wrote_not : (from : Direction) (bytes : List ℕ) (failed required : Bool) (old new : Option Writer) → failed ≡ false → SomeMisses (λ (a : Writer) from bytes why (b : Writer). MissesLine written failures from bytes why a.device b.device) from bytes Write old new
      → TracesOn written failures (record { trace = old; failed = failed; required = required }) (piece_text from bytes) (record { trace = new; failed = true; required = required })
  wrote_not from bytes failed required None new is never = absurd never
  wrote_not from bytes failed required (Some old) None is never = absurd never
  wrote_not from bytes failed required (Some old) (Some new) is ((part, prefix, came), count) = record {
    traced = λ trace first has. prefix_came failed (piece_text from bytes) part trace first (written old.device) (written new.device) is prefix came has;
    fails = (omega (arith, count), λ e. refl, λ e. inr (omega (arith, count)));
    required = refl;
  }

  -- nothing more is written
  pub wrote_still : (text : List ℕ) (tracing : Tracing T) → tracing.failed ≡ true → TracesOn written failures tracing text tracing
  wrote_still text tracing is = record {
    traced = λ trace first has. failed_still tracing.failed text trace first (traced_by written tracing.trace) is has;
    fails = fails_not tracing.failed (failures_by failures tracing.trace);
    required = refl;
  }
