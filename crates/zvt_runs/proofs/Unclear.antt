-- What is reported of unclear reversals, part by part and entry by entry.
use Rattle.std.proofs.Common.{◌≡◌, ℕ, ◌+◌, ◌<◌, List, [], ◌∷◌, ◌++◌, length, take, drop, get_or, Option, Result, Ok, Err, refl, sym, ap, subst, ◌∙◌, append-nil, append_assoc, zero-add, arith}
use Rattle.std.specs.Io.KnownBytes.{Appends}
use Rattle.std.proofs.KnownBytes.{Appends-trans}
use Rattle.std.proofs.lemmas.Grind.{flat_map-append}
use Rattle.std.proofs.lemmas.List.{take-append-drop, length-take-le}
use Rattle.zvt_io.specs.Devices.{IsPrefix, Writes}
use Rattle.zvt_till.specs.declared.entries.Doubt.{Doubt}
use Rattle.zvt_till.specs.declared.entries.Doubt.TheVariants.{No, Unclear as UnclearReversal, TakenBack}
use Rattle.zvt_till.specs.declared.entries.Entry.{Entry}
use Rattle.zvt_till.specs.Doubts.{unclear_reversals_from, unclear_reversals}
use Rattle.zvt_till.proofs.Unclear.{unclear-append}
use Rattle.zvt_runs.specs.Reporting.{reversal_text, entry_text, reversals_text}
use Rattle.zvt_runs.proofs.Runs.{taken}

-- a prefix of a text was written
abbrev pub WritesPrefix : List ℕ → (old new : Option (List ℕ)) → Type 0
WritesPrefix text old new = (part : List ℕ) × IsPrefix part text × Appends old new part

-- with more to come
pub prefix_of : (text rest : List ℕ) (old new : Option (List ℕ)) → WritesPrefix text old new → WritesPrefix (text ++ rest) old new
prefix_of text rest old new (part, prefix, adds) = (part, (prefix.0 ++ rest, ap (λ t. t ++ rest) prefix.1 ∙ append_assoc part prefix.0 rest), adds)

-- after what comes before it
pub trailing : (before text : List ℕ) (old now new : Option (List ℕ)) → Appends old now before → WritesPrefix text now new → WritesPrefix (before ++ text) old new
trailing before text old now new first (part, prefix, adds) =
    (before ++ part, (prefix.0, ap (λ t. before ++ t) prefix.1 ∙ sym (append_assoc before part prefix.0)), Appends-trans old now new before part first adds)

pub writes_after : {E : Type 0} (r : Result Unit E) (before text : List ℕ) (old now new : Option (List ℕ)) → Appends old now before → Writes now new r text → Writes old new r (before ++ text)
writes_after (Ok done) before text old now new first adds = Appends-trans old now new before text first adds
writes_after (Err failed) before text old now new first fails = trailing before text old now new first fails

-- the lines of the first entries, and that of one more

entry_alone : (place : ℕ) (entry : Entry) (d : Doubt) → entry.doubt ≡ d → reversals_text (unclear_reversals_from place (entry ∷ [])) ≡ entry_text (place + 1) entry
entry_alone place entry No is = rw is refl
entry_alone place entry (UnclearReversal cause) is = rw is (append-nil (reversal_text (place + 1) cause))
entry_alone place entry TakenBack is = rw is refl

reported_more : (book : List Entry) (i number : ℕ) (entry : Entry) → i < length book → entry ≡ get_or book i entry → number ≡ i + 1
    → reversals_text (unclear_reversals (take (i + 1) book)) ≡ reversals_text (unclear_reversals (take i book)) ++ entry_text number entry
reported_more book i number entry below is named =
    let first = take i book in
    let place : 0 + length first ≡ i = zero-add (length first) ∙ length-take-le i book (omega (arith, below)) in
    ap (λ b. reversals_text (unclear_reversals b)) (taken book i entry below is)
    ∙ ap reversals_text (unclear-append 0 first (entry ∷ []))
    ∙ flat_map-append (λ row. reversal_text (row.0 + 1) row.1) (unclear_reversals first) (unclear_reversals_from (0 + length first) (entry ∷ []))
    ∙ ap (λ n. reversals_text (unclear_reversals first) ++ reversals_text (unclear_reversals_from n (entry ∷ []))) place
    ∙ ap (λ t. reversals_text (unclear_reversals first) ++ t) (entry_alone i entry entry.doubt refl)
    ∙ ap (λ n. reversals_text (unclear_reversals first) ++ entry_text n entry) (sym named)

pub adds_entry : (book : List Entry) (i number : ℕ) (entry : Entry) (old now new : Option (List ℕ)) → i < length book → entry ≡ get_or book i entry → number ≡ i + 1
    → Appends old now (reversals_text (unclear_reversals (take i book))) → Appends now new (entry_text number entry) → Appends old new (reversals_text (unclear_reversals (take (i + 1) book)))
adds_entry book i number entry old now new below is named so_far adds =
    subst (λ t. Appends old new t) (sym (reported_more book i number entry below is named)) (Appends-trans old now new (reversals_text (unclear_reversals (take i book))) (entry_text number entry) so_far adds)

-- a prefix of the lines of more entries is a prefix of those of all
more_follow : (book : List Entry) (k : ℕ) → (rest : List ℕ) × (reversals_text (unclear_reversals book) ≡ reversals_text (unclear_reversals (take k book)) ++ rest)
more_follow book k =
    let first = take k book in
    let others = unclear_reversals_from (0 + length first) (drop k book) in (
      reversals_text others,
      ap (λ b. reversals_text (unclear_reversals b)) (sym (take-append-drop k book))
          ∙ ap reversals_text (unclear-append 0 first (drop k book))
          ∙ flat_map-append (λ row. reversal_text (row.0 + 1) row.1) (unclear_reversals first) others,
    )

pub stops_at_entry : (book : List Entry) (i number : ℕ) (entry : Entry) (old now new : Option (List ℕ)) → i < length book → entry ≡ get_or book i entry → number ≡ i + 1
    → Appends old now (reversals_text (unclear_reversals (take i book))) → WritesPrefix (entry_text number entry) now new → WritesPrefix (reversals_text (unclear_reversals book)) old new
stops_at_entry book i number entry old now new below is named so_far fails =
    let more = more_follow book (i + 1) in
    let upto = subst (λ t. WritesPrefix t old new) (sym (reported_more book i number entry below is named)) (trailing (reversals_text (unclear_reversals (take i book))) (entry_text number entry) old now new so_far fails) in
    subst (λ t. WritesPrefix t old new) (sym more.1) (prefix_of (reversals_text (unclear_reversals (take (i + 1) book))) more.0 old new upto)
