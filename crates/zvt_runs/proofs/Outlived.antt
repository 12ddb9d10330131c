-- What a crash leaves of a till's book while it runs over TCP.
use Rattle.std.proofs.Common.{◌≡◌, ◌⊎◌, ⊎_elim, inl, inr, ℕ, Bool, true, false, List, [], ◌∷◌, ◌++◌, map, Option, Some, None, Result, Ok, Err, refl, sym, ap, subst, ◌∙◌, append_assoc}
use Rattle.std.proofs.lemmas.List.{append-nil}
use Rattle.zvt_stream.specs.LineReading.{LineReading}
use Rattle.zvt_stream.specs.EndState.{EndState}
use Rattle.zvt_till.specs.declared.entries.Entry.{Entry}
use Rattle.zvt_till.specs.declared.happenings.Happening.{Happening}
use Rattle.zvt_till.specs.declared.line.RunFault.{RunFault}
use Rattle.zvt_till.specs.declared.keeper.BookFault.{BookFault}
use Rattle.zvt_till.specs.declared.keeper.BookFault.TheVariants.{NoSpace, Failed}
use Rattle.zvt_till.specs.declared.line.RunFault.TheVariants.{Order as OrderFault, Line as LineFault, Book as BookBroke}
use Rattle.zvt_till.specs.declared.orders.Order.{Order}
use Rattle.zvt_till.specs.declared.orders.OrderRefusal.TheVariants.{Memory as NoMemory}
use Rattle.zvt_till.specs.declared.outcomes.Outcome.{Outcome}
use Rattle.zvt_settle.specs.AskRuns.{AskRuns}
use Rattle.zvt_runs.specs.Asking.{asked_by, ended_by}
use Rattle.zvt_runs.specs.declared.arguments.Step.{Step}
use Rattle.zvt_runs.specs.declared.asking.Asked.{Asked as AskEnd}
use Rattle.zvt_runs.specs.declared.asking.Ended.{Ended}
use Rattle.zvt_runs.specs.declared.asking.Ended.TheVariants.{Order as EndedOrder, Ask}
use Rattle.zvt_till.specs.Sending.{Settings}
use Rattle.zvt_till.proofs.BookStepLemmas.{settings-kept}
use Rattle.zvt_kept.specs.Keeping.{kept_asks, kept_connects, kept_orders}
use Rattle.zvt_kept.specs.KeptTill.{Connects, HasLog, Hears, IsKept, Keeps, KeptValue, LosesLine, both_in, has_failed, kept_rests, settling_in, till_of, unless_up, with_note}
use Rattle.zvt_kept.specs.Outliving.{CallsOutlive, Did, DidAll, HappenInAll, KeptStep, connects}
use Rattle.zvt_kept.specs.Runs.{RanKept}
use Rattle.zvt_runs.specs.declared.fault.EndFault.{EndFault}
use Rattle.zvt_runs.specs.declared.fault.EndFault.TheVariants.{BadStep, Book, Line as LineBroke, Memory, Net, Silent, Trace, Unsuccessful, Write}
use Rattle.zvt_runs.specs.declared.plans.Planned.{Planned}
use Rattle.zvt_runs.specs.declared.plans.StepOptions.{StepOptions}
use Rattle.zvt_runs.specs.TillRuns.{RunsTill}
use Rattle.zvt_runs.specs.Made.{Made, stop_of}
use Rattle.zvt_runs.specs.Runs.{Answers, BreaksIn, EndsInStep, EndsInTotal, GoesOn, MakesAll, MakesTo, RunsOut, Standing, standing}
use Rattle.zvt_runs.specs.Reporting.{ReportsRun}
use Rattle.zvt_runs.specs.Steps.{order_of}
use Rattle.zvt_runs.specs.TillEnd.{AskedThere, BeginsThere, OrderedThere, StepThere}
use Rattle.zvt_runs.specs.Outliving.{BookRunsOutlive, MakesKept, OutlivesRun, call_by, call_of, calls_of}

map_snoc : (done : List Planned) (planned : Planned) → map call_of (done ++ planned ∷ []) ≡ map call_of done ++ call_of planned ∷ []
map_snoc [] planned = refl
map_snoc (first ∷ done) planned = ap (λ (l : List KeptStep). call_of first ∷ l) (map_snoc done planned)

module _ {D : Type 0} (seen : D → List ℕ) (may_leave : D → List ℕ → Type 0) (moment : D → ℕ) (left_since : D → ℕ → List ℕ → Type 0) (faults : D → ℕ) (outlive : CallsOutlive seen may_leave moment left_since faults) where
  abbrev Kept : Type 0
  Kept = KeptValue D

  abbrev Makes : EndState → Kept → Planned → Result Ended RunFault → EndState → Kept → Type 0
  Makes = MakesKept seen may_leave moment left_since faults

  abbrev Calls : List KeptStep → Kept → Kept → Type 0
  Calls = DidAll seen may_leave moment left_since faults

  abbrev Logs : Settings → List Happening → Kept → Type 0
  Logs settings log till = HasLog seen may_leave moment left_since faults settings log till.standing

  -- the journal has not failed, and keeps some log of the till
  record Going (settings : Settings) (till : Kept) : Type 0 where
    pub log : List Happening
    pub has : Logs settings log till
    pub whole : has_failed till ≡ false

  is_kept : (settings : Settings) (till : Kept) → Going settings till → IsKept (has_failed till) (seen till.standing.device) (may_leave till.standing.device) till.standing.gate (both_in till.standing)
  is_kept settings till g =
      let state = till.standing.till.state in
      let own : settings ≡ state.settings = sym (ap (λ s. s.settings) g.has.stands.1 ∙ settings-kept settings (g.log ++ unless_up state.line_up)) in
      let keeps = subst (λ s. Keeps s g.log (seen till.standing.device) (may_leave till.standing.device) till.standing.gate (both_in till.standing)) own g.has in
      subst (λ (failed : Bool). IsKept failed (seen till.standing.device) (may_leave till.standing.device) till.standing.gate (both_in till.standing)) (sym g.whole) (g.log, keeps)

  after_call : (settings : Settings) (call : KeptStep) (old new : Kept) → Going settings old → Did seen may_leave moment left_since faults call old new → has_failed new ≡ false → Going settings new
  after_call settings call old new g did whole =
      let r = outlive settings g.log (call ∷ []) old new g.has g.whole (is_kept settings old g, new, did, refl) in
      record { log = g.log ++ r.0; has = r.3 whole; whole = whole }

  -- ---- a step

  abbrev Ordered : Order → EndState → Kept → Result Ended RunFault → EndState → Kept → Type 0
  Ordered = OrderedThere (kept_orders seen may_leave moment left_since faults) (Hears seen may_leave moment left_since faults) kept_rests has_failed till_of (LosesLine seen may_leave moment left_since faults) (LosesLine seen may_leave moment left_since faults)

  abbrev Asked : Step → EndState → Kept → Result Ended RunFault → EndState → Kept → Type 0
  Asked = AskedThere (Hears seen may_leave moment left_since faults) kept_rests has_failed till_of (LosesLine seen may_leave moment left_since faults) (LosesLine seen may_leave moment left_since faults) (kept_asks seen may_leave moment left_since faults) settling_in

  abbrev Stepped : Step → Option Order → EndState → Kept → Result Ended RunFault → EndState → Kept → Type 0
  Stepped = StepThere (kept_orders seen may_leave moment left_since faults) (Hears seen may_leave moment left_since faults) kept_rests has_failed till_of (LosesLine seen may_leave moment left_since faults) (LosesLine seen may_leave moment left_since faults) (kept_asks seen may_leave moment left_since faults) settling_in

  abbrev Ran : Order → EndState → Kept → Result Outcome RunFault → EndState → Kept → Type 0
  Ran order before old result after new =
      RanKept seen may_leave moment left_since faults order before.stream after.stream old new before.coming after.coming before.written after.written 100000 before.reads after.reads result

  ran_of : (order : Order) (before after : EndState) (old new : Kept) (result : Result Ended RunFault) → Ordered order before old result after new → (outcome : Result Outcome RunFault) × Ran order before old outcome after new
  ran_of order before after old new (Ok (EndedOrder outcome)) m = (Ok outcome, m.runs)
  ran_of order before after old new (Ok (Ask asked)) m = absurd m
  ran_of order before after old new (Err fault) m = (Err fault, m.fails)

  -- An ask that would be of no use is one that is refused for lack of memory, as far as the journal goes.
  unasked : (before after : EndState) (old new : Kept) → after ≡ before → new ≡ old
      → AskRuns (kept_asks seen may_leave moment left_since faults) (Hears seen may_leave moment left_since faults) kept_rests 100000 (LosesLine seen may_leave moment left_since faults) (LosesLine seen may_leave moment left_since faults) has_failed (Err (OrderFault NoMemory)) before after old new
  unasked before after old new same unchanged = inl (
    (((inl refl, ap (λ (k : Kept). k.standing) unchanged, ap (λ (k : Kept). k.failure) unchanged), unchanged), ap (λ (e : EndState). e.written) same),
    subst (λ (e : EndState). e ≡ record before { written = e.written; failed_writes = e.failed_writes }) (sym same) refl,
  )

  did_by : (step : Step) (order : Option Order) (before after : EndState) (old new : Kept) (note : List ℕ) (result : Result Ended RunFault) → Stepped step order before (with_note old note) result after new
      → Did seen may_leave moment left_since faults (call_by order) old new
  did_by step (Some order) before after old new note result m =
      let ran = ran_of order before after (with_note old note) new result m in
      (note, before.stream, after.stream, before.coming, after.coming, before.written, after.written, 100000, before.reads, after.reads, ran.0, ran.1)
  did_by step None before after old new note result (inl none) = (note, before, after, 100000, Err (OrderFault NoMemory), unasked before after (with_note old note) new none.2 none.3)
  did_by step None before after old new note result (inr m) = (note, before, after, 100000, m.1, m.2.runs)

  step_did : (planned : Planned) (before after : Standing EndState Kept) (result : Result Ended RunFault) → Makes before.line before.till planned result after.line after.till
      → Did seen may_leave moment left_since faults (call_of planned) before.till after.till
  step_did planned before after result m = did_by planned.step (order_of planned.step) before.line after.line before.till after.till m.0 result m.2

  ordered_whole : (order : Order) (before after : EndState) (old new : Kept) (result : Result Ended RunFault) → Ordered order before old result after new → GoesOn result → has_failed old ≡ false → has_failed new ≡ false
  ordered_whole order before after old new (Ok (EndedOrder outcome)) m goes whole = m.runs.whole
  ordered_whole order before after old new (Ok (Ask asked)) m goes whole = absurd m
  ordered_whole order before after old new (Err (OrderFault why)) m goes whole = ⊎_elim
      (λ unsent. subst (λ (k : Kept). has_failed k ≡ false) (sym unsent.0.0.1) whole)
      (λ more. ⊎_elim (λ broke. absurd (cc broke.1)) (λ failed. absurd (cc failed.0)) more)
      m.fails
  ordered_whole order before after old new (Err (LineFault fault)) m goes whole = absurd (cc goes.0)
  ordered_whole order before after old new (Err (BookBroke why)) m goes whole = absurd (cc goes.0)

  asked_whole : (ran : Result Unit RunFault) (asked : AskEnd) (before after : EndState) (old new : Kept)
      → AskRuns (kept_asks seen may_leave moment left_since faults) (Hears seen may_leave moment left_since faults) kept_rests 100000 (LosesLine seen may_leave moment left_since faults) (LosesLine seen may_leave moment left_since faults) has_failed ran before after old new
      → GoesOn (ended_by ran asked) → has_failed old ≡ false → has_failed new ≡ false
  asked_whole (Ok done) asked before after old new runs goes whole = runs.1
  asked_whole (Err (OrderFault why)) asked before after old new runs goes whole = ⊎_elim
      (λ unsent. subst (λ (k : Kept). has_failed k ≡ false) (sym unsent.0.0.1) whole)
      (λ more. ⊎_elim (λ broke. absurd (cc broke.1)) (λ failed. absurd (cc failed.0)) more)
      runs
  asked_whole (Err (LineFault fault)) asked before after old new runs goes whole = absurd (cc goes.0)
  asked_whole (Err (BookBroke why)) asked before after old new runs goes whole = absurd (cc goes.0)

  whole_by : (step : Step) (order : Option Order) (before after : EndState) (old new : Kept) (result : Result Ended RunFault) → Stepped step order before old result after new → GoesOn result → has_failed old ≡ false → has_failed new ≡ false
  whole_by step (Some order) before after old new result m goes whole = ordered_whole order before after old new result m goes whole
  whole_by step None before after old new result (inl none) goes whole = subst (λ (k : Kept). has_failed k ≡ false) (sym none.3) whole
  whole_by step None before after old new result (inr m) goes whole =
      asked_whole m.1 (asked_by (settling_in old) (settling_in new)) before after old new m.2.runs (subst (λ (r : Result Ended RunFault). GoesOn r) m.3 goes) whole

  -- a step after which the next one is made left the journal whole
  stays_whole : (planned : Planned) (before after : Standing EndState Kept) (result : Result Ended RunFault) → Makes before.line before.till planned result after.line after.till → GoesOn result
      → has_failed before.till ≡ false → has_failed after.till ≡ false
  stays_whole planned before after result m goes whole = whole_by planned.step (order_of planned.step) before.line after.line (with_note before.till m.0) after.till result m.2 goes whole

  -- steps that were all made, and then some calls
  then_calls : (settings : Settings) (plan : List Planned) (before after : Standing EndState Kept) (all : List Made) (calls : List KeptStep) (new : Kept)
      → Going settings before.till → MakesAll till_of Makes plan before after all → (Going settings after.till → Calls calls after.till new) → Calls (map call_of plan ++ calls) before.till new
  then_calls settings [] before after all calls new g made rest =
      subst (λ (s : Standing EndState Kept). Calls calls s.till new) made.0 (rest (subst (λ (s : Standing EndState Kept). Going settings s.till) (sym made.0) g))
  then_calls settings (planned ∷ plan) before after all calls new g made rest =
      let did = step_did planned before made.1 made.0 made.3 in
      let whole = stays_whole planned before made.1 made.0 made.3 made.4 g.whole in
      (is_kept settings before.till g, made.1.till, did, then_calls settings plan made.1 after made.2 calls new (after_call settings (call_of planned) before.till made.1.till g did whole) made.5 rest)

  -- ---- a run

  -- some first steps of the plan, as calls
  record Part (plan : List Planned) (old new : Kept) : Type 0 where
    pub done : List Planned
    pub later : List Planned
    pub cut : plan ≡ done ++ later
    pub calls : Calls (map call_of done) old new

  all_made : (settings : Settings) (plan : List Planned) (before after : Standing EndState Kept) (all : List Made) → Going settings before.till → MakesAll till_of Makes plan before after all → Part plan before.till after.till
  all_made settings plan before after all g made = record {
    done = plan;
    later = [];
    cut = sym (append-nil plan);
    calls = subst (λ (l : List KeptStep). Calls l before.till after.till) (append-nil (map call_of plan)) (then_calls settings plan before after all [] after.till g made (λ going. refl));
  }

  -- the steps before one, and that one
  up_to : (settings : Settings) (plan done later : List Planned) (planned : Planned) (before middle after : Standing EndState Kept) (earlier : List Made) (result : Result Ended RunFault)
      → plan ≡ done ++ planned ∷ later → Going settings before.till → MakesAll till_of Makes done before middle earlier → Makes middle.line middle.till planned result after.line after.till → Part plan before.till after.till
  up_to settings plan done later planned before middle after earlier result cut g made last = record {
    done = done ++ planned ∷ [];
    later = later;
    cut = cut ∙ sym (append_assoc done (planned ∷ []) later);
    calls = subst (λ (l : List KeptStep). Calls l before.till after.till) (sym (map_snoc done planned))
        (then_calls settings done before middle earlier (call_of planned ∷ []) after.till g made (λ going. (is_kept settings middle.till going, after.till, step_did planned middle after result last, refl)));
  }

  made_to : (settings : Settings) (plan : List Planned) (broken : Option EndFault) (before after : Standing EndState Kept) (all : List Made) → Going settings before.till → MakesTo till_of Makes plan broken before after all → Part plan before.till after.till
  made_to settings plan None before after all g made = all_made settings plan before after all g made
  made_to settings plan (Some fault) before after all g b = up_to settings plan b.done b.later b.planned before b.middle after b.earlier b.result b.cut g b.made b.breaks

  answered : (settings : Settings) (options : StepOptions) (Noted : List ℕ → Type 0) (plan : List Planned) (before after : Standing EndState Kept) (first last : Option (List ℕ)) (ended : Result Unit EndFault)
      → Going settings before.till → Answers till_of Makes options Noted plan before after first last ended → Part plan before.till after.till
  answered settings options Noted plan before after first last (Ok done) g a = made_to settings plan None before after a.0.all g a.0.made
  answered settings options Noted plan before after first last (Err Unsuccessful) g a = made_to settings plan None before after a.0.all g a.0.made
  answered settings options Noted plan before after first last (Err (LineBroke fault)) g a = made_to settings plan (Some (LineBroke fault)) before after a.all g a.made
  answered settings options Noted plan before after first last (Err Write) g a = ⊎_elim
      (λ e. up_to settings plan e.done e.later e.planned before e.middle after e.earlier e.result e.cut g e.all e.made)
      (λ e. made_to settings plan e.broken before after e.all g e.made)
      a
  answered settings options Noted plan before after first last (Err Memory) g a = ⊎_elim
      (λ e. up_to settings plan e.done e.later e.planned before e.middle after e.earlier e.result e.cut g e.all e.made)
      (λ e. made_to settings plan e.broken before after e.all g e.made)
      a
  answered settings options Noted plan before after first last (Err (BadStep at)) g a = absurd a
  answered settings options Noted plan before after first last (Err (Net why)) g a = absurd a
  answered settings options Noted plan before after first last (Err (Silent seconds)) g a = absurd a
  answered settings options Noted plan before after first last (Err Trace) g a = absurd a
  answered settings options Noted plan before after first last (Err Book) g a = made_to settings plan (Some Book) before after a.all g a.made

  -- ---- what the calls leave

  by_calls : (settings : Settings) (log : List Happening) (plan done later : List Planned) (old new : Kept) → plan ≡ done ++ later → Logs settings log old → has_failed old ≡ false → Calls (calls_of done) old new → OutlivesRun seen may_leave moment left_since faults settings log plan old new
  by_calls settings log plan done later old new cut has whole did =
      let r = outlive settings log (calls_of done) old new has whole did in
      record { done = done; later = later; cut = cut; happened = r.0; by = r.1; leaves = r.2; then = r.3 }

  unbegun : (settings : Settings) (log : List Happening) (plan : List Planned) (old new : Kept) → new ≡ old → Logs settings log old → has_failed old ≡ false → OutlivesRun seen may_leave moment left_since faults settings log plan old new
  unbegun settings log plan old new same has whole =
      let r = outlive settings log [] old new has whole (sym same) in
      record { done = []; later = plan; cut = refl; happened = r.0; by = ([], r.0, inl refl, r.1, refl); leaves = r.2; then = r.3 }

  -- a line that is up leaves the journal whole
  up_whole : (old new : Kept) → Connects seen may_leave moment left_since faults old new (Ok tt) → has_failed old ≡ false → has_failed new ≡ false
  up_whole old new up whole = ⊎_elim (λ still. subst (λ (k : Kept). has_failed k ≡ false) (sym still.1) whole) (λ line. line.1) up

  begun : (settings : Settings) (log : List Happening) (reading : LineReading) (options : StepOptions) (plan : List Planned) (old new : Kept) (first last : Option (List ℕ)) (Reported : List ℕ → List Entry → Type 0) (result : Result Unit EndFault)
      → Logs settings log old → has_failed old ≡ false → RunsTill (kept_connects seen may_leave moment left_since faults) has_failed till_of Makes (BeginsThere reading) options plan old new first last Reported result → OutlivesRun seen may_leave moment left_since faults settings log plan old new
  begun settings log reading options plan old new first last Reported result has whole run =
      let g : Going settings old = record { log = log; has = has; whole = whole } in
      let up = after_call settings connects old run.connected g (Ok tt, run.up) (up_whole old run.connected run.up whole) in
      let part = answered settings options (λ notes. Reported notes new.standing.till.state.book) plan (standing run.before run.connected) (standing run.after new) first last run.ended up run.answers in
      by_calls settings log plan part.done part.later old new part.cut has whole (is_kept settings old g, run.connected, (Ok tt, run.up), part.calls)

  no_line : (settings : Settings) (log : List Happening) (plan : List Planned) (old new : Kept) (why : BookFault) → Logs settings log old → has_failed old ≡ false → kept_connects seen may_leave moment left_since faults old (Err why) new
      → OutlivesRun seen may_leave moment left_since faults settings log plan old new
  no_line settings log plan old new NoSpace has whole broke = absurd broke
  no_line settings log plan old new Failed has whole broke =
      let g : Going settings old = record { log = log; has = has; whole = whole } in
      by_calls settings log plan [] plan old new refl has whole (is_kept settings old g, new, (Err broke.0, broke.1), refl)

  pub book_runs_outlive : BookRunsOutlive seen may_leave moment left_since faults
  book_runs_outlive settings log reading options plan old new first last report_first report_last failures_before failures_after result has whole (inl t) = ⊎_elim
      (λ run. begun settings log reading options plan old new first last (ReportsRun report_first report_last failures_before failures_after) t.ended has whole run)
      (λ none. no_line settings log plan old new none.why has whole none.broke)
      t.answers
  book_runs_outlive settings log reading options plan old new first last report_first report_last failures_before failures_after result has whole (inr not_begun) = unbegun settings log plan old new not_begun.unchanged has whole
