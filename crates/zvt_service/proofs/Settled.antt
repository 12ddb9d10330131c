-- What was settled stays settled.
use Rattle.std.specs.Prelude.{fold, find, option_and_then, option_to_list}
use Rattle.std.proofs.Common.{◌≡◌, ℕ, Bool, true, false, cond, ◌||◌, List, [], ◌∷◌, ◌++◌, append-nil, Option, Some, None, option_map, length, refl, sym, ap, subst, ◌∙◌, append_assoc}
use Rattle.std.proofs.lemmas.List.Sums.{fold-append}
use Rattle.zvt_till.specs.declared.happenings.Happening.{Happening}
use Rattle.zvt_till.specs.declared.happenings.Happening.TheVariants.{Connected, Sent as SentOut, Heard as HeardIn, Malformed, Lost}
use Rattle.zvt_till.specs.declared.messages.StatusFacts.{StatusFacts}
use Rattle.zvt_till.specs.declared.orders.Order.{Order}
use Rattle.zvt_till.specs.declared.orders.Order.TheVariants.{Register, Pay, Reverse, CloseDay, Cancel}
use Rattle.zvt_till.specs.declared.outcomes.Outcome.{Outcome}
use Rattle.zvt_till.specs.declared.outcomes.Outcome.TheVariants.{Registered, Paid, Declined, Refused, Aborted, Unclear, Reversed, DayClosed}
use Rattle.zvt_till.specs.Refusals.{order_in}
use Rattle.zvt_till.specs.Segments.{ends, is_positive}
use Rattle.zvt_till.specs.Sending.{Settings}
use Rattle.zvt_till.specs.Till.{TillState, outcome_at}
use Rattle.zvt_till.proofs.Segments.{fold-snoc}
use Rattle.zvt_settle.specs.declared.deciding.Settlement.{Settlement}
use Rattle.zvt_settle.specs.declared.deciding.What.{What}
use Rattle.zvt_settle.specs.Settling.{Note, Line, Asked, Both, Settling, answer_by, answered, asked as asked_on, both_after, decided, ended, ended_as, meets, met, new_both, noted, opened, opened_by, sent_if, take}
use Rattle.zvt_kept.specs.KeptTill.{Settles, unless_up}
use Rattle.zvt_kept.specs.Logs.{MeanAll, Means, StandsFor, on_line}
use Rattle.zvt_kept.specs.Records.{Kept, kept_in, lost}
use Rattle.zvt_kept.proofs.AskLemmas.{each_last, each_more}
use Rattle.zvt_service.specs.declared.fates.Verdict.{Verdict}
use Rattle.zvt_service.specs.Fates.{is_about, verdict_in, verdict_of}
use Rattle.zvt_service.specs.Service.{unless_lost}

-- what was settled stays, and more may follow
abbrev pub Grown : List Settlement → List Settlement → Type 0
Grown old new = (more : List Settlement) × (new ≡ old ++ more)

none_more : (old new : List Settlement) → new ≡ old → Grown old new
none_more old new is = ([], is ∙ sym (append-nil old))

-- ---- one note

sent_keeps : (s : Settling) (order : Option Order) → (sent_if s order).settled ≡ s.settled
sent_keeps s None = refl
sent_keeps s (Some Register) = refl
sent_keeps s (Some (Pay amount)) = refl
sent_keeps s (Some (Reverse entry)) = refl
sent_keeps s (Some CloseDay) = refl
sent_keeps s (Some Cancel) = refl

opened_keeps : (s : Settling) (what : Option What) → (opened s what).settled ≡ s.settled
opened_keeps s None = refl
opened_keeps s (Some what) = refl

ended_keeps : (s : Settling) (order : Order) (outcome : Outcome) (place : ℕ) → (ended s order outcome place).settled ≡ s.settled
ended_keeps s order Registered place = refl
ended_keeps s order (Paid trace receipt) place = refl
ended_keeps s order (Declined code) place = refl
ended_keeps s order (Refused code) place = refl
ended_keeps s order (Aborted code) place = refl
ended_keeps s order (Unclear cause) place = opened_keeps s (opened_by order place)
ended_keeps s order Reversed place = refl
ended_keeps s order DayClosed place = refl

all_ended_keep : (s : Settling) (order : Option Order) (outcome : Option Outcome) (place : ℕ) → (ended_as s order outcome place).settled ≡ s.settled
all_ended_keep s None outcome place = refl
all_ended_keep s (Some order) None place = refl
all_ended_keep s (Some order) (Some outcome) place = ended_keeps s order outcome place

asked_grows : (till : TillState) (s : Settling) (positive : Bool) (h : Happening) → Grown s.settled (asked_on till s positive h).settled
asked_grows till s positive h = by_end (ends positive h) (answer_by s.so_far h)
  where
    by_end : (b : Bool) (answer : Option StatusFacts) → Grown s.settled (cond b (answered till s answer) (record s { asking = Some (positive || is_positive h) })).settled
    by_end true None = none_more s.settled s.settled refl
    by_end true (Some a) = (option_to_list (decided till s.settled a s.pending), refl)
    by_end false answer = none_more s.settled s.settled refl

met_grows : (till : TillState) (s : Settling) (asking : Option Bool) (h : Happening) → Grown s.settled (met till s asking h).settled
met_grows till s None h =
    let place = length till.unclear in
    none_more s.settled (ended_as s (option_map (λ r. r.order) till.running) (outcome_at till h) place).settled (all_ended_keep s (option_map (λ r. r.order) till.running) (outcome_at till h) place)
met_grows till s (Some positive) h = asked_grows till s positive h

either_grows : (b : Bool) (s x y : Settling) → Grown s.settled x.settled → Grown s.settled y.settled → Grown s.settled (cond b x y).settled
either_grows true s x y first second = first
either_grows false s x y first second = second

take_grows : (b : Both) (note : Note) → Grown b.settling.settled (take b note).settling.settled
take_grows b (Line Connected) = none_more b.settling.settled b.settling.settled refl
take_grows b (Line (SentOut o)) = none_more b.settling.settled (sent_if b.settling (order_in o)).settled (sent_keeps b.settling (order_in o))
take_grows b (Line (HeardIn m)) =
    either_grows b.till.line_up b.settling (meets b.till b.settling (HeardIn m)) b.settling (met_grows b.till (noted b.settling (HeardIn m)) b.settling.asking (HeardIn m)) (none_more b.settling.settled b.settling.settled refl)
take_grows b (Line Malformed) = met_grows b.till (noted b.settling Malformed) b.settling.asking Malformed
take_grows b (Line Lost) = met_grows b.till (noted b.settling Lost) b.settling.asking Lost
take_grows b Asked = none_more b.settling.settled b.settling.settled refl

-- ---- all notes

pub fold_grows : (b : Both) (notes : List Note) → Grown b.settling.settled (fold take b notes).settling.settled
fold_grows b [] = none_more b.settling.settled b.settling.settled refl
fold_grows b (note ∷ notes) =
    let first = take_grows b note in
    let rest = fold_grows (take b note) notes in
    (first.0 ++ rest.0, rest.1 ∙ ap (λ l. l ++ rest.0) first.1 ∙ append_assoc b.settling.settled first.0 rest.0)

-- what is settled after these notes
abbrev pub settled_after : Settings → List Note → List Settlement
settled_after settings notes = (both_after settings (Line Connected ∷ notes)).settling.settled

abbrev lost_notes : List Note
lost_notes = Line Lost ∷ Line Connected ∷ []

same_kept : (a b : List Kept) → Some a ≡ Some b → a ≡ b
same_kept a b is = cc is

-- the notes of a journal's records, and of the loss of a line that is down
pub notes_of : (settings : Settings) (text : List ℕ) (kept : List Kept) (up : Bool) → (s : (log : List Happening) × StandsFor settings text log) → kept_in text ≡ Some kept → (notes : List Note) × MeanAll settings.currency (kept ++ unless_lost up) notes
notes_of settings text kept up s read = by_line up
  where
    notes : List Note
    notes = s.1.asks.notes

    means : MeanAll settings.currency kept notes
    means = subst (λ k. MeanAll settings.currency k notes) (same_kept s.1.kept kept (sym s.1.read ∙ read)) s.1.asks.means

    by_line : (b : Bool) → (all : List Note) × MeanAll settings.currency (kept ++ unless_lost b) all
    by_line true = (notes, subst (λ k. MeanAll settings.currency k notes) (sym (append-nil kept)) means)
    by_line false = (notes ++ lost_notes, each_more (Means settings.currency) kept lost notes lost_notes means (Lost ∷ Connected ∷ [], refl, refl))

-- what a till with a journal has settled
pub own_settled : (settings : Settings) (text : List ℕ) (kept : List Kept) (both : Both) (notes : List Note) → kept_in text ≡ Some kept → Settles settings text both → MeanAll settings.currency (kept ++ unless_lost both.till.line_up) notes
    → both.settling.settled ≡ settled_after settings notes
own_settled settings text kept both notes read s means = by_line both.till.line_up means (λ n m. s kept n read m)
  where
    settled_in : Both → List Settlement
    settled_in b = b.settling.settled

    by_line : (up : Bool) → MeanAll settings.currency (kept ++ unless_lost up) notes → ((n : List Note) → MeanAll settings.currency kept n → both ≡ both_after settings ((Line Connected ∷ n) ++ on_line (unless_up up))) → both.settling.settled ≡ settled_after settings notes
    by_line true m is = ap settled_in (is notes (subst (λ k. MeanAll settings.currency k notes) (append-nil kept) m) ∙ ap (both_after settings) (append-nil (Line Connected ∷ notes)))
    by_line false m is =
        let cut = each_last (Means settings.currency) kept lost notes m in
        let first = Line Connected ∷ cut.0 in
        let added : cut.1 ≡ lost_notes = cut.3.2 ∙ ap on_line cut.3.1 in
        ap settled_in (is cut.0 cut.2 ∙ fold-snoc take (new_both settings) first (Line Lost))
        ∙ sym (ap (settled_after settings) (cut.4 ∙ ap (λ l. cut.0 ++ l) added) ∙ ap settled_in (fold-append take (new_both settings) first lost_notes))

-- ---- verdicts

pub found_more : (row : ℕ) (settled more : List Settlement) (verdict : Verdict) → verdict_in row settled ≡ Some verdict → verdict_in row (settled ++ more) ≡ Some verdict
found_more row [] more verdict is = absurd cc
found_more row (one ∷ settled) more verdict is = by_row (is_about row one) is (found_more row settled more verdict)
  where
    by_row : (b : Bool) → option_and_then verdict_of (cond b (Some one) (find (is_about row) settled)) ≡ Some verdict → (verdict_in row settled ≡ Some verdict → verdict_in row (settled ++ more) ≡ Some verdict)
        → option_and_then verdict_of (cond b (Some one) (find (is_about row) (settled ++ more))) ≡ Some verdict
    by_row true found rest = found
    by_row false found rest = rest found
