-- The rules but the one for reversals change no log and no book.
use Rattle.std.proofs.Common.{◌≡◌, List, [], ◌∷◌, ◌++◌, sym, ap, subst, ◌∙◌}
use Rattle.zvt_till.specs.declared.happenings.Happening.{Happening}
use Rattle.zvt_till.specs.declared.happenings.Happening.TheVariants.{Connected, Sent as SentOut, Heard as HeardIn, Malformed, Lost}
use Rattle.zvt_till.specs.declared.settings.Rules.{Rules}
use Rattle.zvt_till.specs.Sending.{Settings}
use Rattle.zvt_till.specs.Refusals.{Facts}
use Rattle.zvt_till.specs.Segments.{segments}
use Rattle.zvt_till.specs.Marks.{ruled}
use Rattle.zvt_till.specs.Log.{line_up, facts_in, facts_in_segments, CanFollow, IsLogFrom}
use Rattle.zvt_till.specs.Laws.{with_rules, RulesKeepBooks}
use Rattle.zvt_till.proofs.Steps.{steps_meet_log}

follows-too : (settings : Settings) (rules : Rules) (f : Facts) (h : Happening) → CanFollow settings f h → CanFollow (with_rules rules settings) f h
follows-too settings rules f Connected k = k
follows-too settings rules f (SentOut o) k = k
follows-too settings rules f (HeardIn m) k = k
follows-too settings rules f Malformed k = k
follows-too settings rules f Lost k = k

-- only one rule changes what a log says
same-facts : (one other : Rules) → one.reversal_by_receipt ≡ other.reversal_by_receipt → (log : List Happening) → facts_in one log ≡ facts_in other log
same-facts one other e log = ap (λ b. facts_in_segments (line_up log) (ruled b (segments log))) e

log-too : (settings : Settings) (rules : Rules) → rules.reversal_by_receipt ≡ settings.rules.reversal_by_receipt
    → (past log : List Happening) → IsLogFrom settings past log → IsLogFrom (with_rules rules settings) past log
log-too settings rules e past [] k = k
log-too settings rules e past (h ∷ log) k = (
  subst (λ f. CanFollow (with_rules rules settings) f h) (sym (same-facts rules settings.rules e past)) (follows-too settings rules (facts_in settings.rules past) h k.0),
  log-too settings rules e (past ++ h ∷ []) log k.1,
)

pub rules_keep_books : RulesKeepBooks
rules_keep_books settings rules log e k =
    let same = log-too settings rules e [] log k in
    (same, steps_meet_log (with_rules rules settings) log same ∙ same-facts rules settings.rules e log ∙ sym (steps_meet_log settings log k))
