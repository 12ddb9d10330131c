-- What is known of a judged log, with one more happening.
use Rattle.std.proofs.Common.{◌≡◌, ℕ, true, false, ◌||◌, List, [], ◌∷◌, ◌++◌, Option, Some, None, refl, sym, ap, ap₂, subst, ◌∙◌, ◌⊎◌, inl, inr}
use Rattle.std.proofs.lemmas.Simd.{map-map}
use Rattle.zvt_till.specs.declared.happenings.Happening.{Happening}
use Rattle.zvt_till.specs.declared.happenings.Sent.{Sent}
use Rattle.zvt_till.specs.declared.happenings.Sent.TheVariants.{Register, Pay, Reverse, CloseDay, Cancel, Foreign}
use Rattle.zvt_till.specs.declared.orders.Order.TheVariants.{Pay as PayOrder}
use Rattle.zvt_till.specs.declared.entries.Entry.{Entry}
use Rattle.zvt_till.specs.declared.outcomes.Outcome.{Outcome}
use Rattle.zvt_till.specs.declared.outcomes.Outcome.TheVariants.{Registered, Paid, Declined, Refused, Aborted, Unclear, Reversed, DayClosed}
use Rattle.zvt_till.specs.declared.log_books.OpenPayment.{OpenPayment}
use Rattle.zvt_till.specs.Statuses.{Charge}
use Rattle.zvt_till.specs.Segments.{Opening, Segment, Ended, begun, in_force, segments, ends, is_positive, status_of, statuses, end_of}
use Rattle.zvt_till.specs.Books.{Books, Booked, charge_of, traces, verdict_by, write_down, judge_as, books_of, books}
use Rattle.zvt_till.specs.declared.entries.Doubt.TheVariants.{No}
use Rattle.zvt_till.specs.Marks.{entry_of}
use Rattle.zvt_till.specs.Outcomes.{note_if, outcome_by}
use Rattle.zvt_till.specs.Judging.{as_book, written, paying, is_open_as, open_after, ends_open, Runs, Rests, IsJudged, opened}
use Rattle.zvt_till.proofs.Segments.{heard_last, grown, segments-snoc, end_grown, end_of-snoc, list_any-snoc, fold-snoc, heard_last-snoc, split_last}
use Rattle.zvt_till.proofs.Summaries.{summary, summary-snoc}
use Rattle.zvt_till.proofs.Payment.{verdict_of, payment-verdict}
use Rattle.zvt_till.proofs.SegmentEndLemmas.{seg, begun_by, books-snoc, end-missing, end-reached}

-- what is written is the verdict
written-verdict : (b : Books) (a : ℕ) (out : Outcome) → written b a out ≡ write_down b a (verdict_of a out)
written-verdict b a Registered = refl
written-verdict b a (Paid t r) = refl
written-verdict b a (Declined c) = refl
written-verdict b a (Refused c) = refl
written-verdict b a (Aborted c) = refl
written-verdict b a (Unclear x) = refl
written-verdict b a Reversed = refl
written-verdict b a DayClosed = refl

-- the next order is sent

segments-order : (log : List Happening) (h : Happening) (o : Sent) → begun h ≡ Some o → segments (log ++ h ∷ []) ≡ segments log ++ seg (begun_by (in_force log) o) [] ∷ []
segments-order log h o e = segments-snoc log h ∙ ap (grown (in_force log) (segments log) h) e

-- an order that is no payment
rests-order : (log : List Happening) (h : Happening) (o : Sent) (b : Books) → begun h ≡ Some o → b ≡ books log
    → judge_as o (books log) (begun_by (in_force log) o) None ≡ books log → is_open_as o None ≡ false → Rests (segments (log ++ h ∷ [])) b
rests-order log h o b e all plain shut =
    let ss = segments-order log h o e in
    record {
      all = all ∙ sym (ap books_of ss ∙ books-snoc (segments log) (begun_by (in_force log) o) [] None refl ∙ plain);
      ended = ap ends_open ss ∙ fold-snoc open_after false (segments log) (seg (begun_by (in_force log) o) []) ∙ shut;
    }

pub judged-order : (log : List Happening) (h : Happening) (o : Sent) (b : Books) → begun h ≡ Some o → b ≡ books log → IsJudged (log ++ h ∷ []) b (opened (in_force log) o)
judged-order log h (Register c) b e all = rests-order log h (Register c) b e all refl refl
judged-order log h (Pay a) b e all =
    record { closed = segments log; answers = []; is = segments-order log h (Pay a) e; earlier = all; unended = refl; positive = refl; noted = refl }
judged-order log h (Reverse k) b e all = rests-order log h (Reverse k) b e all refl refl
judged-order log h CloseDay b e all = rests-order log h CloseDay b e all refl refl
judged-order log h Cancel b e all = rests-order log h Cancel b e all refl refl
judged-order log h Foreign b e all = rests-order log h Foreign b e all refl refl

segments-answer : (log : List Happening) (h : Happening) → begun h ≡ None → segments (log ++ h ∷ []) ≡ heard_last (segments log) h
segments-answer log h e = segments-snoc log h ∙ ap (grown (in_force log) (segments log) h) e

segments-running : (log : List Happening) (h : Happening) (closed : List Segment) (o : Opening) (hs : List Happening) → begun h ≡ None
    → segments log ≡ closed ++ seg o hs ∷ [] → segments (log ++ h ∷ []) ≡ closed ++ seg o (hs ++ h ∷ []) ∷ []
segments-running log h closed o hs e is = segments-answer log h e ∙ ap (λ ss. heard_last ss h) is ∙ heard_last-snoc closed (seg o hs) h

-- something is heard while no payment runs

same-worth : (b : Books) (opening : Opening) (o : Sent) (hs : List Happening) (h : Happening) (x : Option Ended) → is_open_as o x ≡ false
    → judge_as o b opening (end_grown hs h x) ≡ judge_as o b opening x
same-worth b opening (Register c) hs h x e = refl
same-worth b opening (Pay a) hs h None e = absurd cc
same-worth b opening (Pay a) hs h (Some k) e = refl
same-worth b opening (Reverse k) hs h x e = refl
same-worth b opening CloseDay hs h x e = refl
same-worth b opening Cancel hs h x e = refl
same-worth b opening Foreign hs h x e = refl

stays-shut : (o : Sent) (hs : List Happening) (h : Happening) (x : Option Ended) → is_open_as o x ≡ false → is_open_as o (end_grown hs h x) ≡ false
stays-shut (Register c) hs h x e = refl
stays-shut (Pay a) hs h None e = absurd cc
stays-shut (Pay a) hs h (Some k) e = refl
stays-shut (Reverse k) hs h x e = refl
stays-shut CloseDay hs h x e = refl
stays-shut Cancel hs h x e = refl
stays-shut Foreign hs h x e = refl

rests-last : (closed : List Segment) (s : Segment) (h : Happening) (b : Books) → Rests (closed ++ s ∷ []) b
    → Rests (closed ++ seg s.opening (s.answers ++ h ∷ []) ∷ []) b
rests-last closed s h b r =
    let more = end_of-snoc s.answers h in
    let shut : is_open_as s.opening.order (end_of s.answers) ≡ false = sym (fold-snoc open_after false closed s) ∙ r.ended in
    record {
      all =
          r.all ∙ books-snoc closed s.opening s.answers (end_of s.answers) refl
          ∙ sym (books-snoc closed s.opening (s.answers ++ h ∷ []) (end_grown s.answers h (end_of s.answers)) more ∙ same-worth (books_of closed) s.opening s.opening.order s.answers h (end_of s.answers) shut);
      ended =
          fold-snoc open_after false closed (seg s.opening (s.answers ++ h ∷ []))
          ∙ ap (is_open_as s.opening.order) more ∙ stays-shut s.opening.order s.answers h (end_of s.answers) shut;
    }

rests-heard : (ss : List Segment) (h : Happening) (b : Books) → Rests ss b → Rests (heard_last ss h) b
rests-heard ss h b r = by_last (split_last ss)
  where
    by_last : (ss ≡ []) ⊎ ((closed : List Segment) × (s : Segment) × (ss ≡ closed ++ s ∷ [])) → Rests (heard_last ss h) b
    by_last (inl e) = subst (λ x. Rests x b → Rests (heard_last x h) b) (sym e) (λ k. k) r
    by_last (inr w) =
        subst (λ x. Rests (heard_last x h) b) (sym w.2)
        (subst (λ x. Rests x b) (sym (heard_last-snoc w.0 w.1 h))
        (rests-last w.0 w.1 h b (subst (λ x. Rests x b) w.2 r)))

pub judged-rest : (log : List Happening) (h : Happening) (b : Books) → begun h ≡ None → Rests (segments log) b → Rests (segments (log ++ h ∷ [])) b
judged-rest log h b e r = subst (λ ss. Rests ss b) (sym (segments-answer log h e)) (rests-heard (segments log) h b r)

-- the running payment ends

verdict-here : (force : Option ℕ) (a : ℕ) (rows : List Booked) (hs : List Happening) (h : Happening)
    → verdict_by (charge_of (begun_by force (Pay a)) a) (traces rows) (statuses hs) h ≡ verdict_of a (outcome_by (as_book rows) (PayOrder a) (summary (paying force a) (statuses hs)) h)
verdict-here force a rows hs h =
    let charge : Charge = charge_of (begun_by force (Pay a)) a in
    ap (λ ts. verdict_by charge ts (statuses hs) h) (sym (map-map (λ (row : Entry). row.trace) (entry_of false No) rows))
    ∙ payment-verdict charge (as_book rows) (statuses hs) h

pub judged-end : (log : List Happening) (h : Happening) (b : Books) (p : OpenPayment) → begun h ≡ None → ends p.positive h ≡ true → Runs (segments log) b p
    → Rests (segments (log ++ h ∷ [])) (written b p.amount (outcome_by (as_book b.booked) (PayOrder p.amount) p.statuses h))
judged-end log h b p e n r =
    let o : Opening = begun_by p.currency (Pay p.amount) in
    let ended : Ended = record { before = r.answers; by = h } in
    let reached = end-reached r.answers h r.unended (ap (λ x. ends x h) (sym r.positive) ∙ n) in
    let ss = segments-running log h r.closed o r.answers e r.is in
    let worth : books (log ++ h ∷ []) ≡ judge_as (Pay p.amount) (books_of r.closed) o (Some ended) =
    ap books_of ss ∙ books-snoc r.closed o (r.answers ++ h ∷ []) (Some ended) reached in
    record {
      all =
          written-verdict b p.amount (outcome_by (as_book b.booked) (PayOrder p.amount) p.statuses h)
          ∙ ap (λ st. write_down b p.amount (verdict_of p.amount (outcome_by (as_book b.booked) (PayOrder p.amount) st h))) r.noted
          ∙ ap (write_down b p.amount) (sym (verdict-here p.currency p.amount b.booked r.answers h))
          ∙ ap (λ x. write_down x p.amount (verdict_by (charge_of o p.amount) (traces x.booked) (statuses r.answers) h)) r.earlier
          ∙ sym worth;
      ended = ap ends_open ss ∙ fold-snoc open_after false r.closed (seg o (r.answers ++ h ∷ [])) ∙ ap (is_open_as (Pay p.amount)) reached;
    }

-- the running payment goes on

pub judged-more : (log : List Happening) (h : Happening) (b : Books) (p q : OpenPayment) → begun h ≡ None → ends p.positive h ≡ false
    → q.amount ≡ p.amount → q.currency ≡ p.currency → q.positive ≡ (p.positive || is_positive h) → q.statuses ≡ note_if (paying p.currency p.amount) p.statuses (status_of h)
    → Runs (segments log) b p → Runs (segments (log ++ h ∷ [])) b q
judged-more log h b p q e n amount currency positive noted r =
    record {
      closed = r.closed;
      answers = r.answers ++ h ∷ [];
      is =
          segments-running log h r.closed (begun_by p.currency (Pay p.amount)) r.answers e r.is
          ∙ ap₂ (λ c a. r.closed ++ seg (begun_by c (Pay a)) (r.answers ++ h ∷ []) ∷ []) (sym currency) (sym amount);
      earlier = r.earlier;
      unended = end-missing r.answers h r.unended (ap (λ x. ends x h) (sym r.positive) ∙ n);
      positive = positive ∙ ap (λ x. x || is_positive h) r.positive ∙ sym (list_any-snoc is_positive r.answers h);
      noted =
          noted ∙ ap (λ st. note_if (paying p.currency p.amount) st (status_of h)) r.noted
          ∙ sym (summary-snoc (paying p.currency p.amount) r.answers h)
          ∙ ap₂ (λ c a. summary (paying c a) (statuses (r.answers ++ h ∷ []))) (sym currency) (sym amount);
    }
