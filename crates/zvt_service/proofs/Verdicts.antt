-- A verdict stays.
use Rattle.std.specs.Prelude.{if◌then◌else◌, option_map}
use Rattle.std.specs.Option.{option_or}
use Rattle.std.proofs.Common.{◌≡◌, ℕ, Bool, true, false, ◌||◌, List, [], ◌∷◌, ◌++◌, Option, Some, None, is_some, refl, sym, ap, subst, ◌∙◌}
use Rattle.std.proofs.lemmas.List.Sums.{fold-append}
use Rattle.zvt_till.specs.declared.happenings.Happening.TheVariants.{Connected}
use Rattle.zvt_till.specs.declared.outcomes.Outcome.{Outcome}
use Rattle.zvt_settle.specs.declared.deciding.Settlement.{Settlement}
use Rattle.zvt_settle.specs.Settling.{Both, Line, both_after, new_both, take}
use Rattle.zvt_journal.specs.Text.{recovered}
use Rattle.zvt_kept.specs.declared.past_orders.PastOrder.{PastOrder}
use Rattle.zvt_kept.specs.KeptTill.{Settles, both_in}
use Rattle.zvt_kept.specs.Logs.{MeanAll, Means, StandsFor}
use Rattle.zvt_kept.specs.PastOrders.{ArePast, StaysAs, first_noted}
use Rattle.zvt_kept.proofs.PastOrdersStay.{each_split}
use Rattle.zvt_service.specs.declared.fates.Fate.TheVariants.{Settled}
use Rattle.zvt_service.specs.declared.fates.Verdict.{Verdict}
use Rattle.zvt_service.specs.Books.{OrderIn, in_earlier, order_in}
use Rattle.zvt_service.specs.Fates.{fate_as, fate_of, is_payment, is_unclear, is_unclear_payment, row_of, unclear_payments, verdict_in}
use Rattle.zvt_service.specs.Service.{ServiceValue, found_by, is_known, state_of, unless_lost}
use Rattle.zvt_service.specs.Lives.{IsWhole, VerdictsStay}
use Rattle.zvt_service.proofs.Rows.{Fixed, all_fixed, before_same}
use Rattle.zvt_service.proofs.Keys.{any_has, known_is, or-right, records}
use Rattle.zvt_service.proofs.Sent.{Adds, moved}
use Rattle.zvt_service.proofs.Settled.{Grown, fold_grows, found_more, notes_of, own_settled, settled_after}
use Rattle.zvt_service.proofs.Stays.{EachStays, Grows, first_stays, lived_more, moved_grows, one_stays, same_found, still_none}

-- ---- one order

record IsSettled (unclear : Bool) (found : Option Verdict) (verdict : Verdict) : Type 0 where
  unclear_is : unclear ≡ true
  found_is : found ≡ Some verdict

settled_fate : (unclear : Bool) (found : Option Verdict) (outcome : Option Outcome) (verdict : Verdict) → fate_as (if unclear then found else None) outcome ≡ Settled verdict → IsSettled unclear found verdict
settled_fate true (Some v) outcome verdict is = record { unclear_is = refl; found_is = ap (λ x. Some x) (cc is) }
settled_fate true None (Some outcome) verdict is = absurd cc
settled_fate true None None verdict is = absurd cc
settled_fate false found (Some outcome) verdict is = absurd cc
settled_fate false found None verdict is = absurd cc

still_unclear : (a b : PastOrder) → StaysAs a b → is_unclear_payment a ≡ true → is_unclear_payment b ≡ true
still_unclear a b stays is = by_outcome a.outcome refl is
  where
    by_payment : (p : Bool) → (if p then false else false) ≡ true → is_unclear_payment b ≡ true
    by_payment true e = absurd cc
    by_payment false e = absurd cc

    by_outcome : (outcome : Option Outcome) → a.outcome ≡ outcome → (if is_payment a.order then is_unclear outcome else false) ≡ true → is_unclear_payment b ≡ true
    by_outcome None none e = by_payment (is_payment a.order) e
    by_outcome (Some outcome) some e =
        ap (λ o. if is_payment o then is_unclear b.outcome else false) stays.order ∙ ap (λ o. if is_payment a.order then is_unclear o else false) (stays.outcome outcome some) ∙ e

-- an unclear payment whose row stays keeps what was settled about it
fate_stays : (key : List ℕ) (old new : List PastOrder) (before after : List Settlement) (a b : PastOrder) (verdict : Verdict) → StaysAs a b → row_of key new ≡ row_of key old → Grown before after
    → fate_of key old before a ≡ Settled verdict → fate_of key new after b ≡ Settled verdict
fate_stays key old new before after a b verdict stays rows grown is =
    let s = settled_fate (is_unclear_payment a) (verdict_in (row_of key old) before) a.outcome verdict is in
    let found : verdict_in (row_of key new) after ≡ Some verdict = ap (λ row. verdict_in row after) rows ∙ ap (verdict_in (row_of key old)) grown.1 ∙ found_more (row_of key old) before grown.0 verdict s.found_is in
    ap (λ u. fate_as (if u then verdict_in (row_of key new) after else None) b.outcome) (still_unclear a b stays s.unclear_is) ∙ ap (λ v. fate_as v b.outcome) found

module _ {D : Type 0} (seen : D → List ℕ) (may_leave : D → List ℕ → Type 0) (moment : D → ℕ) (left_since : D → ℕ → List ℕ → Type 0) (faults : D → ℕ) where
  module _ (only_now : (device : D) (file : List ℕ) → left_since device (moment device) file → may_leave device file) where
    abbrev settled_of : ServiceValue D → List Settlement
    settled_of s = s.kept.standing.settling.settled

    -- ---- one move

    settled_grow : (old new : ServiceValue D) → IsWhole seen may_leave moment left_since faults old → IsWhole seen may_leave moment left_since faults new → Grows seen may_leave moment left_since faults old new → Grown (settled_of old) (settled_of new)
    settled_grow old new is whole g =
        let settings = (state_of old.kept).settings in
        let p = is.served is.whole in
        let q = whole.served whole.whole in
        let more = lived_more seen may_leave moment left_since faults only_now old new is whole g in
        let text_old = recovered (seen old.kept.standing.device) in
        let text = recovered (seen new.kept.standing.device) in
        let both = both_in new.kept.standing in
        let recorded : StandsFor settings text whole.kept.0 = subst (λ s. StandsFor s text whole.kept.0) g.settings whole.kept.1.recorded in
        let settles : Settles settings text both = subst (λ s. Settles s text both) g.settings whole.kept.1.settles in
        let notes = notes_of settings text q.kept (state_of new.kept).line_up (whole.kept.0, recorded) q.read in
        let split = each_split (Means settings.currency) (p.kept ++ unless_lost (state_of old.kept).line_up) more.0 notes.0 (subst (λ k. MeanAll settings.currency k notes.0) more.1 notes.1) in
        let first = Line Connected ∷ split.0 in
        let goes = fold_grows (both_after settings first) split.1 in (
          goes.0,
          own_settled settings text q.kept both notes.0 q.read settles notes.1 ∙ ap (settled_after settings) split.4 ∙ ap (λ (b : Both). b.settling.settled) (fold-append take (new_both settings) first split.1)
              ∙ goes.1 ∙ ap (λ l. l ++ goes.0) (sym (own_settled settings text_old p.kept (both_in old.kept.standing) split.0 p.read is.kept.1.settles split.2)),
        )

    fixed : (old new : ServiceValue D) → IsWhole seen may_leave moment left_since faults old → IsWhole seen may_leave moment left_since faults new → Grows seen may_leave moment left_since faults old new → Fixed old.past new.past
    fixed old new is whole g =
        let more = lived_more seen may_leave moment left_since faults only_now old new is whole g in
        let p = is.served is.whole in
        let q = whole.served whole.whole in
        let settings = (state_of old.kept).settings in
        all_fixed settings (p.kept ++ unless_lost (state_of old.kept).line_up) more.0 old.past new.past p.are
        (subst (λ k. ArePast settings k new.past) more.1 (subst (λ s. ArePast s (q.kept ++ unless_lost (state_of new.kept).line_up) new.past) g.settings q.are))

    verdict_stays : (key : List ℕ) (old new : ServiceValue D) (sent : List (List ℕ)) (one : OrderIn) (verdict : Verdict) → Adds old new sent → EachStays old.past new.past → Fixed old.past new.past → Grown (settled_of old) (settled_of new)
        → found_by key old ≡ Some one → one.fate ≡ Settled verdict → (later : OrderIn) × (found_by key new ≡ Some later) × (later.fate ≡ Settled verdict)
    verdict_stays key old new sent one verdict a each fix grown found fate = by_own (first_noted key old.past) refl found
      where
        before : Both
        before = both_in old.kept.standing

        after : Both
        after = both_in new.kept.standing

        by_own : (own : Option PastOrder) → first_noted key old.past ≡ own → option_or (option_map (order_in key true before old.past) own) (in_earlier key old.earlier) ≡ Some one
            → (later : OrderIn) × (found_by key new ≡ Some later) × (later.fate ≡ Settled verdict)
        by_own (Some past) own is =
            let stays = first_stays key old.past new.past past each own in
            let same = same_found seen may_leave moment left_since faults only_now (order_in key true before old.past past) one is in
            let rows : row_of key new.past ≡ row_of key old.past = ap unclear_payments (before_same key old.past new.past past each fix own) in (
              order_in key true after new.past stays.0,
              ap (λ f. option_or (option_map (order_in key true after new.past) f) (in_earlier key new.earlier)) stays.1,
              fate_stays key old.past new.past (settled_of old) (settled_of new) past stays.0 verdict stays.2 rows grown (ap (λ (o : OrderIn). o.fate) same ∙ fate),
            )
        by_own None own is =
            let known : is_known key old ≡ true = known_is key old ∙ ap (λ b. any_has key (records old) || b) (ap is_some is) ∙ or-right (any_has key (records old)) in
            let none = still_none seen may_leave moment left_since faults only_now key old new sent a known own in (
              one,
              ap (λ f. option_or (option_map (order_in key true after new.past) f) (in_earlier key new.earlier)) none ∙ ap (in_earlier key) a.earlier ∙ is,
              fate,
            )

    -- ---- all moves

    pub verdicts_stay : VerdictsStay seen may_leave moment left_since faults
    verdicts_stay [] old new sent key one verdict is lives found fate = (one, ap (found_by key) (sym lives.0) ∙ found, fate)
    verdicts_stay (move ∷ more) old new sent key one verdict is lives found fate =
        let middle = lives.0 in
        let next = moved seen may_leave moment left_since faults only_now move old middle lives.1 is lives.3 in
        let grows = moved_grows seen may_leave moment left_since faults only_now move old middle lives.1 is lives.3 in
        let each = one_stays seen may_leave moment left_since faults only_now move old middle lives.1 is lives.3 in
        let first = verdict_stays key old middle lives.1 one verdict next.0 each (fixed old middle is next.1 grows) (settled_grow old middle is next.1 grows) found fate in
        verdicts_stay more middle new lives.2 key first.0 verdict next.1 lives.4 first.1 first.2
