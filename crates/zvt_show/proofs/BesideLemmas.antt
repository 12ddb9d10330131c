-- What is shown of a line while another listener hears it, once more of the line has come.
use Rattle.std.proofs.Common.{◌≡◌, ◌∙◌, ◌⊎◌, inl, inr, ℕ, Bool, true, false, List, [], ◌++◌, Option, None, Some, Result, Ok, Err, refl, sym, ap, subst, is_some, append_assoc, append-nil}
use Rattle.std.specs.Io.KnownBytes.{Appends}
use Rattle.std.specs.Prelude.{OnOk}
use Rattle.std.specs.Result.{result_err}
use Rattle.std.specs.Str.Lines.{lines}
use Rattle.zvt_grammar.specs.Reading.{Reading}
use Rattle.zvt_trace.specs.Chunks.{AnswersFeed, HasRead, walker_reading, walker_scope}
use Rattle.zvt_trace.specs.Listening.{AnswersFrom, Fails, Hears, HearsAll, fault_of}
use Rattle.zvt_trace.specs.TraceEvent.{At}
use Rattle.zvt_trace.specs.Written.{AppendsPrefix}
use Rattle.zvt_trace.specs.declared.alone.Alone.{Alone}
use Rattle.zvt_trace.specs.declared.both.Both.{Both}
use Rattle.zvt_trace.specs.declared.chunks.Walker.{Walker}
use Rattle.zvt_trace.specs.declared.fault.Tally.{Tally}
use Rattle.zvt_trace.specs.declared.fault.TraceFault.{TraceFault}
use Rattle.zvt_trace.specs.declared.fault.TraceFault.TheVariants.{Write}
use Rattle.zvt_trace.specs.declared.listener.ListenerError.{ListenerError}
use Rattle.zvt_trace.specs.declared.listener.ListenerError.TheVariants as failure
use Rattle.zvt_trace.specs.declared.listener.Scope.{Scope}
use Rattle.zvt_trace.proofs.EventLemmas.{hears_append}
use Rattle.zvt_show.specs.Beside.{AnswersTold, HasReadSome, HasToldBy, PrintsRest, Tells, Watching, first_fault, or_failed, showing_of, told_all}
use Rattle.zvt_show.specs.Followed.{AnswersTurn, HasWritten}
use Rattle.zvt_show.specs.Printed.{printing_page}
use Rattle.zvt_show.specs.Shown.{AnswersShown, HasShownBy, Shows}
use Rattle.zvt_show.specs.Text.{untimed}
use Rattle.zvt_show.specs.Written.{Page}
use Rattle.zvt_show.specs.declared.follow.Follower.{Follower}
use Rattle.zvt_show.specs.declared.pages.Printing.{Printing}
use Rattle.zvt_show.specs.declared.render.Style.{Style}
use Rattle.zvt_show.proofs.ApartLemmas.{Ended, Fed, HeardOrFailed, PairFails, PairHears, alone_ended, alone_fed, first_heard, heard_alone, pair_ended, pair_fed, second_heard, stays}
use Rattle.zvt_show.proofs.FollowLemmas.{Said, end_lost, end_written}
use Rattle.zvt_show.proofs.PageLemmas.{fails, writes}
use Rattle.zvt_show.proofs.ShownLemmas.{ended_before, ended_whole, shown_still}
use Rattle.zvt_show.proofs.TurnLemmas.{at_both, end_fed, turn_fed, turn_lost, turn_said, turn_written}

-- ---- faults

-- a text that has failed is a prefix of a longer one too
pub failed_still : (why : ListenerError) (next : Option TraceFault) (r : Reading) (scope : Scope) (style : Style) (trace text : List ℕ) (first now : Option (List ℕ)) (before after : Follower)
    → HasShownBy (Some (fault_of why)) r scope style trace first now before → next ≡ Some (fault_of why) → HasShownBy next r scope style (trace ++ text) first now after
failed_still why next r scope style trace text first now before after has is =
    let prefix = has.1 in
    subst (λ (f : Option TraceFault). HasShownBy f r scope style (trace ++ text) first now after) (sym is) (has.0, (prefix.0 ++ text, ap (λ (xs : List ℕ). xs ++ text) prefix.1 ∙ append_assoc has.0 prefix.0 text), has.2)

-- the fault of an answer
fault_in : (fault : Option ListenerError) (answer : Result Unit TraceFault) → result_err (or_failed fault answer) ≡ first_fault fault (result_err answer)
fault_in None answer = refl
fault_in (Some why) answer = refl

-- what a turn leaves
turn_shown : (answer : Result Unit TraceFault) (r : Reading) (scope : Scope) (style : Style) (trace : List ℕ) (first now : Option (List ℕ)) (follower : Follower)
    → AnswersTurn r scope style trace first now follower answer → HasShownBy (result_err answer) r scope style trace first now follower
turn_shown (Ok fed) r scope style trace first now follower answers = answers
turn_shown (Err fault) r scope style trace first now follower answers = (trace, ([], sym (append-nil trace)), answers)

module _ {W L : Type 0} (written : W → Option (List ℕ)) (failures : W → ℕ) (hears : Hears L) (fails_there : Fails L) where
  abbrev pub View : Printing W → Page
  View = printing_page written failures

  abbrev pub Listening : Type 0
  Listening = Both (Alone (Printing W)) (Alone L)

  abbrev pub LineHears : Hears Listening
  LineHears = PairHears (writes View) (fails View) hears fails_there

  abbrev pub LineFails : Fails Listening
  LineFails = PairFails (writes View) (fails View) hears fails_there

  -- ---- the text

  -- a walker brings these bytes, of which some were read before
  module _ (old walker : Walker) (bytes all : List ℕ) (answer : Result Unit TraceFault) (x y : Listening) where
    abbrev pub Feeds : Type 0
    Feeds = (earlier : List At) → HasRead (walker_reading old) (walker_scope old) bytes earlier old → AnswersFeed (walker_reading old) LineHears LineFails (walker_scope old) all earlier walker x y answer

    -- what both heard
    some_heard : (earlier : List At) → HasRead (walker_reading old) (walker_scope old) bytes earlier old → Feeds → (own : List At) × Fed (walker_reading old) (walker_scope old) all (earlier ++ own) walker answer × HearsAll LineHears x own y
    some_heard earlier read feeds = pair_fed (writes View) (fails View) hears fails_there (walker_reading old) (walker_scope old) all earlier walker answer x y (feeds earlier read)

    -- a listener that failed before is as it was
    pub first_stays : (earlier : List At) → HasRead (walker_reading old) (walker_scope old) bytes earlier old → Feeds → (why : ListenerError) → x.first.fault ≡ Some why → (y.first.listener ≡ x.first.listener) × (y.first.fault ≡ Some why)
    first_stays earlier read feeds why failed =
        let heard = some_heard earlier read feeds in
        stays (writes View) (fails View) heard.0 why x.first y.first failed (first_heard (writes View) (fails View) hears fails_there heard.0 x y heard.2)

    pub second_stays : (earlier : List At) → HasRead (walker_reading old) (walker_scope old) bytes earlier old → Feeds → (why : ListenerError) → x.second.fault ≡ Some why → y.second.fault ≡ Some why
    second_stays earlier read feeds why failed =
        let heard = some_heard earlier read feeds in
        (stays hears fails_there heard.0 why x.second y.second failed (second_heard (writes View) (fails View) hears fails_there heard.0 x y heard.2)).1

    -- ---- the text

    module _ (r : Reading) (scope : Scope) (style : Style) (first : Option (List ℕ)) (z : Alone (Printing W)) where
      abbrev before : Follower
      before = record { pages = x.first.listener.pages; walker = old }

      abbrev after : Follower
      after = record { pages = z.listener.pages; walker = walker }

      -- printing had not failed before
      more_shown : x.first.fault ≡ None → x.first.listener.pages.block ≡ [] → walker_reading walker ≡ walker_reading old → walker_scope walker ≡ walker_scope old → Feeds → PrintsRest written false y.first z
          → HasWritten r scope style bytes first (written x.first.listener.output) before → HasShownBy (first_fault z.fault (result_err answer)) r scope style all first (written z.listener.output) after
      more_shown sound empty same_reading same_scope feeds rest has = by rest.2
        where
          fed : AnswersFeed r LineHears LineFails scope all has.events walker x y answer
          fed = turn_fed r scope LineHears LineFails style bytes all first (written x.first.listener.output) before walker answer x y has (feeds has.events)

          heard : (own : List At) × Fed r scope all (has.events ++ own) walker answer × HearsAll LineHears x own y
          heard = pair_fed (writes View) (fails View) hears fails_there r scope all has.events walker answer x y fed

          own : AnswersFeed r (writes View) (fails View) scope all has.events walker x.first.listener y.first.listener (or_failed y.first.fault answer)
          own = alone_fed (writes View) (fails View) r scope all has.events heard.0 walker answer y.first.fault x.first.listener y.first.listener heard.1
              (heard_alone (writes View) (fails View) heard.0 x.first y.first sound (first_heard (writes View) (fails View) hears fails_there heard.0 x y heard.2))

          said : Said (untimed style) has.events first (View x.first.listener)
          said = turn_said r scope style bytes first (View x.first.listener) before has empty

          by : (((z.fault ≡ y.first.fault) × Appends (written y.first.listener.output) (written z.listener.output) y.first.listener.pages.block) ⊎ ((z.fault ≡ Some failure.Write) × AppendsPrefix (written y.first.listener.output) (written z.listener.output) y.first.listener.pages.block))
              → HasShownBy (first_fault z.fault (result_err answer)) r scope style all first (written z.listener.output) after
          by (inl (same, out)) =
              subst (λ (f : Option TraceFault). HasShownBy f r scope style all first (written z.listener.output) after) (fault_in y.first.fault answer ∙ ap (λ (f : Option ListenerError). first_fault f (result_err answer)) (sym same))
              (turn_shown (or_failed y.first.fault answer) r scope style all first (written z.listener.output) after
              (turn_written r scope View style all has.events first (written z.listener.output) after (or_failed y.first.fault answer) x.first.listener y.first.listener (ap untimed has.in_style) said own out rest.0 (same_reading ∙ has.reading) (same_scope ∙ has.by_scope)))
          by (inr (failed, out)) =
              subst (λ (f : Option ListenerError). HasShownBy (first_fault f (result_err answer)) r scope style all first (written z.listener.output) after) (sym failed)
              (all, ([], sym (append-nil all)), turn_lost r scope View style all has.events first (written z.listener.output) walker (or_failed y.first.fault answer) x.first.listener y.first.listener (ap untimed has.in_style) said own out)

      pub turn_more : (text : List ℕ) → all ≡ bytes ++ text → (was : Bool) → was ≡ is_some x.first.fault → ((why : ListenerError) → x.first.fault ≡ Some why → (y.first.listener ≡ x.first.listener) × (y.first.fault ≡ Some why)) → (x.first.fault ≡ None → x.first.listener.pages.block ≡ [])
          → walker_reading walker ≡ walker_reading old → walker_scope walker ≡ walker_scope old → Feeds → PrintsRest written was y.first z
          → HasShownBy (first_fault x.first.fault None) r scope style bytes first (written x.first.listener.output) before → HasShownBy (first_fault z.fault (result_err answer)) r scope style all first (written z.listener.output) after
      turn_more text is_all was is_was still empty same_reading same_scope feeds rest = by x.first.fault refl
        where
          by : (f : Option ListenerError) → x.first.fault ≡ f → HasShownBy (first_fault f None) r scope style bytes first (written x.first.listener.output) before → HasShownBy (first_fault z.fault (result_err answer)) r scope style all first (written z.listener.output) after
          by None e has = more_shown e (empty e) same_reading same_scope feeds (subst (λ (b : Bool). PrintsRest written b y.first z) (is_was ∙ ap is_some e) rest) has
          by (Some why) e has =
              let kept = still why e in
              let same : z ≡ y.first = subst (λ (b : Bool). PrintsRest written b y.first z) (is_was ∙ ap is_some e) rest in
              let there : HasShownBy (Some (fault_of why)) r scope style bytes first (written z.listener.output) before =
              subst (λ (p : Printing W). HasShownBy (Some (fault_of why)) r scope style bytes first (written p.output) before) (sym (ap (λ (a : Alone (Printing W)). a.listener) same ∙ kept.0)) has in
              subst (λ (t : List ℕ). HasShownBy (first_fault z.fault (result_err answer)) r scope style t first (written z.listener.output) after) (sym is_all)
              (failed_still why (first_fault z.fault (result_err answer)) r scope style bytes text first (written z.listener.output) before after there
              (ap (λ (f : Option ListenerError). first_fault f (result_err answer)) (ap (λ (a : Alone (Printing W)). a.fault) same ∙ kept.1)))

    -- ---- the other listener

    pub told_more : (r : Reading) (scope : Scope) (start : L) → ((why : ListenerError) → x.second.fault ≡ Some why → y.second.fault ≡ Some why) → walker_reading walker ≡ walker_reading old → walker_scope walker ≡ walker_scope old → Feeds
        → HasToldBy None x.second.fault hears r scope bytes start x.second.listener old → HasToldBy (result_err answer) y.second.fault hears r scope all start y.second.listener walker
    told_more r scope start still same_reading same_scope feeds = by answer refl y.second.fault refl x.second.fault refl
      where
        by : (a : Result Unit TraceFault) → answer ≡ a → (f : Option ListenerError) → y.second.fault ≡ f → (g : Option ListenerError) → x.second.fault ≡ g → HasToldBy None g hears r scope bytes start x.second.listener old
            → HasToldBy (result_err a) f hears r scope all start y.second.listener walker
        by (Err fault) is f there g here has = tt
        by (Ok done) is (Some why) there g here has = tt
        by (Ok done) is None there (Some was) here has = let bad = sym there ∙ still was here in cc
        by (Ok done) is None there None here has =
            let fed = at_both (λ q s. HasRead q s bytes has.events old → AnswersFeed q LineHears LineFails s all has.events walker x y answer) (walker_reading old) r (walker_scope old) scope has.reading has.by_scope (feeds has.events) has.read in
            let own = pair_fed (writes View) (fails View) hears fails_there r scope all has.events walker answer x y fed in
            let hear = heard_alone hears fails_there own.0 x.second y.second here (second_heard (writes View) (fails View) hears fails_there own.0 x y own.2) in
            record {
              events = has.events ++ own.0;
              read = subst (λ (a : Result Unit TraceFault). Fed r scope all (has.events ++ own.0) walker a) is own.1;
              heard = hears_append hears has.events own.0 start x.second.listener y.second.listener has.heard (subst (λ (f : Option ListenerError). HeardOrFailed hears fails_there f x.second.listener own.0 y.second.listener) there hear);
              reading = same_reading ∙ has.reading;
              by_scope = same_scope ∙ has.by_scope;
            }

    -- no text waits, unless printing failed
    pub rest_empty : (z : Alone (Printing W)) (was : Bool) → was ≡ is_some x.first.fault → ((why : ListenerError) → x.first.fault ≡ Some why → (y.first.listener ≡ x.first.listener) × (y.first.fault ≡ Some why)) → PrintsRest written was y.first z → z.fault ≡ None → z.listener.pages.block ≡ []
    rest_empty z false is_was still rest sound = rest.1
    rest_empty z true is_was still rest sound = by x.first.fault refl
      where
        by : (f : Option ListenerError) → x.first.fault ≡ f → z.listener.pages.block ≡ []
        by None e = let bad : true ≡ false = is_was ∙ ap is_some e in absurd (cc bad)
        by (Some why) e = let bad : None ≡ Some why = sym sound ∙ ap (λ (a : Alone (Printing W)). a.fault) rest ∙ (still why e).1 in absurd (cc bad)

    -- the walker has read some bytes
    pub read_more : walker_reading walker ≡ walker_reading old → walker_scope walker ≡ walker_scope old → (earlier : List At) → HasRead (walker_reading old) (walker_scope old) bytes earlier old → Feeds → OnOk answer (HasReadSome walker)
    read_more same_reading same_scope earlier read feeds = by answer refl
      where
        by : (a : Result Unit TraceFault) → answer ≡ a → OnOk a (HasReadSome walker)
        by (Err fault) is = tt
        by (Ok done) is =
            let heard = some_heard earlier read feeds in
            let now = subst (λ (a : Result Unit TraceFault). Fed (walker_reading old) (walker_scope old) all (earlier ++ heard.0) walker a) is heard.1 in
            (all, earlier ++ heard.0, at_both (λ q s. HasRead q s all (earlier ++ heard.0) walker) (walker_reading old) (walker_reading walker) (walker_scope old) (walker_scope walker) (sym same_reading) (sym same_scope) now)

  -- ---- the end of a line

  module _ (old : Walker) (bytes : List ℕ) (answer : Result Tally TraceFault) (x y : Listening) where
    abbrev pub Ends : Type 0
    Ends = (earlier : List At) → HasRead (walker_reading old) (walker_scope old) bytes earlier old → AnswersFrom (walker_reading old) LineHears LineFails (walker_scope old) (lines bytes) earlier x y answer

    some_ended : (earlier : List At) → HasRead (walker_reading old) (walker_scope old) bytes earlier old → Ends → (own : List At) × Ended (walker_reading old) (walker_scope old) (lines bytes) (earlier ++ own) answer × HearsAll LineHears x own y
    some_ended earlier read ends = pair_ended (writes View) (fails View) hears fails_there (walker_reading old) (walker_scope old) (lines bytes) earlier answer x y (ends earlier read)

    pub first_stands : (earlier : List At) → HasRead (walker_reading old) (walker_scope old) bytes earlier old → Ends → (why : ListenerError) → x.first.fault ≡ Some why → (y.first.listener ≡ x.first.listener) × (y.first.fault ≡ Some why)
    first_stands earlier read ends why failed =
        let heard = some_ended earlier read ends in
        stays (writes View) (fails View) heard.0 why x.first y.first failed (first_heard (writes View) (fails View) hears fails_there heard.0 x y heard.2)

    pub second_stands : (earlier : List At) → HasRead (walker_reading old) (walker_scope old) bytes earlier old → Ends → (why : ListenerError) → x.second.fault ≡ Some why → y.second.fault ≡ Some why
    second_stands earlier read ends why failed =
        let heard = some_ended earlier read ends in
        (stays hears fails_there heard.0 why x.second y.second failed (second_heard (writes View) (fails View) hears fails_there heard.0 x y heard.2)).1

    module _ (r : Reading) (scope : Scope) (style : Style) (first : Option (List ℕ)) (z : Alone (Printing W)) where
      abbrev there : Follower
      there = record { pages = x.first.listener.pages; walker = old }

      rest_shown : x.first.fault ≡ None → x.first.listener.pages.block ≡ [] → Ends → PrintsRest written false y.first z → HasWritten r scope style bytes first (written x.first.listener.output) there
          → AnswersShown r scope style bytes first (written z.listener.output) (or_failed z.fault answer)
      rest_shown sound empty ends rest has = by rest.2
        where
          from : AnswersFrom r LineHears LineFails scope (lines bytes) has.events x y answer
          from = end_fed r scope LineHears LineFails style bytes first (written x.first.listener.output) there answer x y has (ends has.events)

          heard : (own : List At) × Ended r scope (lines bytes) (has.events ++ own) answer × HearsAll LineHears x own y
          heard = pair_ended (writes View) (fails View) hears fails_there r scope (lines bytes) has.events answer x y from

          own : AnswersFrom r (writes View) (fails View) scope (lines bytes) has.events x.first.listener y.first.listener (or_failed y.first.fault answer)
          own = alone_ended (writes View) (fails View) r scope (lines bytes) has.events heard.0 answer y.first.fault x.first.listener y.first.listener heard.1
              (heard_alone (writes View) (fails View) heard.0 x.first y.first sound (first_heard (writes View) (fails View) hears fails_there heard.0 x y heard.2))

          said : Said (untimed style) has.events first (View x.first.listener)
          said = turn_said r scope style bytes first (View x.first.listener) there has empty

          by : (((z.fault ≡ y.first.fault) × Appends (written y.first.listener.output) (written z.listener.output) y.first.listener.pages.block) ⊎ ((z.fault ≡ Some failure.Write) × AppendsPrefix (written y.first.listener.output) (written z.listener.output) y.first.listener.pages.block))
              → AnswersShown r scope style bytes first (written z.listener.output) (or_failed z.fault answer)
          by (inl (same, out)) =
              subst (λ (f : Option ListenerError). AnswersShown r scope style bytes first (written z.listener.output) (or_failed f answer)) (sym same)
              (ended_whole (or_failed y.first.fault answer) r scope style bytes first (written z.listener.output)
              (end_written r scope View (untimed style) (lines bytes) has.events first (written z.listener.output) (or_failed y.first.fault answer) x.first.listener y.first.listener (ap untimed has.in_style) said own out))
          by (inr (failed, out)) =
              subst (λ (f : Option ListenerError). AnswersShown r scope style bytes first (written z.listener.output) (or_failed f answer)) (sym failed)
              (ended_whole (Err Write) r scope style bytes first (written z.listener.output)
              (end_lost r scope View (untimed style) (lines bytes) has.events first (written z.listener.output) (or_failed y.first.fault answer) x.first.listener y.first.listener (ap untimed has.in_style) said own out))

      pub all_shown : (was : Bool) → was ≡ is_some x.first.fault → ((why : ListenerError) → x.first.fault ≡ Some why → (y.first.listener ≡ x.first.listener) × (y.first.fault ≡ Some why)) → (x.first.fault ≡ None → x.first.listener.pages.block ≡ []) → Ends → PrintsRest written was y.first z
          → HasShownBy (first_fault x.first.fault None) r scope style bytes first (written x.first.listener.output) there → AnswersShown r scope style bytes first (written z.listener.output) (or_failed z.fault answer)
      all_shown was is_was still empty ends rest = by x.first.fault refl
        where
          by : (f : Option ListenerError) → x.first.fault ≡ f → HasShownBy (first_fault f None) r scope style bytes first (written x.first.listener.output) there → AnswersShown r scope style bytes first (written z.listener.output) (or_failed z.fault answer)
          by None e has = rest_shown e (empty e) ends (subst (λ (b : Bool). PrintsRest written b y.first z) (is_was ∙ ap is_some e) rest) has
          by (Some why) e has =
              let kept = still why e in
              let same : z ≡ y.first = subst (λ (b : Bool). PrintsRest written b y.first z) (is_was ∙ ap is_some e) rest in
              let there_now : HasShownBy (Some (fault_of why)) r scope style bytes first (written z.listener.output) there =
              subst (λ (p : Printing W). HasShownBy (Some (fault_of why)) r scope style bytes first (written p.output) there) (sym (ap (λ (a : Alone (Printing W)). a.listener) same ∙ kept.0)) has in
              subst (λ (f : Option ListenerError). AnswersShown r scope style bytes first (written z.listener.output) (or_failed f answer)) (sym (ap (λ (a : Alone (Printing W)). a.fault) same ∙ kept.1)) (inr there_now)

    pub all_told : (r : Reading) (scope : Scope) (start : L) → ((why : ListenerError) → x.second.fault ≡ Some why → y.second.fault ≡ Some why) → Ends → HasToldBy None x.second.fault hears r scope bytes start x.second.listener old
        → AnswersTold hears r scope bytes start (told_all y.second.fault answer y.second.listener)
    all_told r scope start still ends = by answer refl y.second.fault refl x.second.fault refl
      where
        by : (a : Result Tally TraceFault) → answer ≡ a → (f : Option ListenerError) → y.second.fault ≡ f → (g : Option ListenerError) → x.second.fault ≡ g → HasToldBy None g hears r scope bytes start x.second.listener old
            → AnswersTold hears r scope bytes start (told_all f a y.second.listener)
        by a is (Some why) there g here has = tt
        by (Err fault) is None there g here has = tt
        by (Ok tally) is None there (Some was) here has = let bad = sym there ∙ still was here in cc
        by (Ok tally) is None there None here has =
            let from = at_both (λ q s. HasRead q s bytes has.events old → AnswersFrom q LineHears LineFails s (lines bytes) has.events x y answer) (walker_reading old) r (walker_scope old) scope has.reading has.by_scope (ends has.events) has.read in
            let own = pair_ended (writes View) (fails View) hears fails_there r scope (lines bytes) has.events answer x y from in
            let hear = heard_alone hears fails_there own.0 x.second y.second here (second_heard (writes View) (fails View) hears fails_there own.0 x y own.2) in
            let whole = subst (λ (a : Result Tally TraceFault). Ended r scope (lines bytes) (has.events ++ own.0) a) is own.1 in
            (has.events ++ own.0, whole.0, hears_append hears has.events own.0 start x.second.listener y.second.listener has.heard (subst (λ (f : Option ListenerError). HeardOrFailed hears fails_there f x.second.listener own.0 y.second.listener) there hear))

-- ---- a line that can't be read on

pub failed_end : (printing_fault : Option ListenerError) (fault : TraceFault) (r : Reading) (scope : Scope) (style : Style) (trace text : List ℕ) (first now : Option (List ℕ)) (follower : Follower)
    → HasShownBy (first_fault printing_fault (Some fault)) r scope style trace first now follower → AnswersShown r scope style (trace ++ text) first now (or_failed printing_fault (Err fault))
failed_end None fault r scope style trace text first now follower has = ended_before fault r scope style trace text first now follower has
failed_end (Some why) fault r scope style trace text first now follower has = ended_before (fault_of why) r scope style trace text first now follower has

-- it could not be read to its end
pub failed_now : (printing_fault : Option ListenerError) (fault : TraceFault) (r : Reading) (scope : Scope) (style : Style) (trace : List ℕ) (first now : Option (List ℕ)) (follower : Follower)
    → HasShownBy (first_fault printing_fault (Some fault)) r scope style trace first now follower → AnswersShown r scope style trace first now (or_failed printing_fault (Err fault))
failed_now None fault r scope style trace first now follower has = inr has
failed_now (Some why) fault r scope style trace first now follower has = inr has

-- nothing more of it is shown, and nothing is heard
module _ {W L : Type 0} (written : W → Option (List ℕ)) (hears : Hears L) (one : Watching W L) (text : List ℕ) (failed : is_some one.fault ≡ true) where
  pub shows_still : Shows written (showing_of one) text (showing_of one)
  shows_still r scope style trace first has = shown_still (first_fault one.printing_fault one.fault) r scope style trace text first (written one.output) one.follower (by one.printing_fault) has
    where
      by : (printing_fault : Option ListenerError) → is_some (first_fault printing_fault one.fault) ≡ true
      by None = failed
      by (Some why) = refl

  pub tells_still : Tells hears one text one
  tells_still r scope trace start has = by one.fault failed one.beside_fault
    where
      by : (fault : Option TraceFault) → is_some fault ≡ true → (beside_fault : Option ListenerError) → HasToldBy fault beside_fault hears r scope (trace ++ text) start one.beside one.follower.walker
      by None e beside_fault = let bad = e in cc
      by (Some fault) e beside_fault = tt
