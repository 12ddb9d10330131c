-- The orders of a journal, as a till lives through its records again.
use Rattle.std.proofs.Common.{◌≡◌, ◌⊎◌, ⊎_elim, inl, inr, ℕ, zero, suc, ◌+◌, ◌-◌, ◌<◌, Bool, true, false, cond, List, [], ◌∷◌, ◌++◌, All, append-nil, get_or, length, map, take, Option, Some, None, slice_get, slice_set, refl, sym, ap, subst, ◌∙◌, append_assoc, length-append, arith}
use mathlib.Core.List.{map-append}
use Rattle.std.proofs.lemmas.List.{length-set, take_all}
use Rattle.std.proofs.lemmas.List.Elements.{All-append, All-cons, All-head, All-nil, All-tail}
use Rattle.std.proofs.lemmas.Option.{slice_get_within}
use Rattle.zvt_till.specs.declared.happenings.Happening.TheVariants.{Connected, Lost}
use Rattle.zvt_till.specs.declared.orders.Order.{Order}
use Rattle.zvt_till.specs.Sending.{Settings}
use Rattle.zvt_till.specs.Till.{TillState, step}
use Rattle.zvt_kept.specs.declared.past_orders.PastOrder.{PastOrder}
use Rattle.zvt_kept.specs.declared.records.Entry.{Entry}
use Rattle.zvt_kept.specs.PastOrders.{ArePast, HasOrders, IsPastOrder, count_starts, ended, followed, held, record_of, runs, started, starting, starts, starts_at_once}
use Rattle.zvt_kept.specs.Records.{Kept, ordered, asked, heard, lost, kept_in}
use Rattle.zvt_kept.specs.Reading.{kept_of}
use Rattle.zvt_kept.specs.Recovery.{Relives}
use Rattle.zvt_kept.specs.RowNotes.{LivedThrough}
use Rattle.zvt_kept.proofs.AskLemmas.{each_more}
use Rattle.zvt_kept.proofs.Relived.{line_lost}
use Rattle.zvt_kept.proofs.Replayed.{taken}
use Rattle.zvt_kept.specs.Logs.{Happens}

-- ---- lists

get_at_end : {X : Type 0} (xs : List X) (x : X) → slice_get (xs ++ x ∷ []) (length xs) ≡ Some x
get_at_end [] x = refl
get_at_end (first ∷ xs) x = get_at_end xs x

set_at_end : {X : Type 0} (xs : List X) (x y : X) → slice_set (xs ++ x ∷ []) (length xs) y ≡ xs ++ y ∷ []
set_at_end [] x y = refl
set_at_end (first ∷ xs) x y = ap (λ l. first ∷ l) (set_at_end xs x y)

-- an element of a longer list
get_last : {X : Type 0} (xs : List X) (x : X) (i : ℕ) (y : X) → slice_get (xs ++ x ∷ []) i ≡ Some y → (slice_get xs i ≡ Some y) ⊎ ((i ≡ length xs) × (y ≡ x))
get_last [] x zero y is = let same : Some x ≡ Some y = is in inr (refl, cc same)
get_last [] x (suc i) y is = absurd cc
get_last (first ∷ xs) x zero y is = inl is
get_last (first ∷ xs) x (suc i) y is = ⊎_elim (λ here. inl here) (λ end. inr (ap suc end.0, end.1)) (get_last xs x i y is)

-- an element of a list in which one was replaced
get_set : {X : Type 0} (xs : List X) (n : ℕ) (x : X) (i : ℕ) (y : X) → slice_get (slice_set xs n x) i ≡ Some y → ((i ≡ n) × (y ≡ x)) ⊎ ((i ≡ n → ⊥) × (slice_get xs i ≡ Some y))
get_set [] n x i y is = absurd cc
get_set (first ∷ xs) zero x zero y is = let same : Some x ≡ Some y = is in inl (refl, cc same)
get_set (first ∷ xs) zero x (suc i) y is = inr (λ same. absurd cc, is)
get_set (first ∷ xs) (suc n) x zero y is = inr (λ same. absurd cc, is)
get_set (first ∷ xs) (suc n) x (suc i) y is = ⊎_elim (λ here. inl (ap suc here.0, here.1)) (λ other. inr (λ same. other.0 (cc same), other.1)) (get_set xs n x i y is)

pub map_set : {X Y : Type 0} (f : X → Y) (xs : List X) (n : ℕ) (x y : X) → slice_get xs n ≡ Some x → f y ≡ f x → map f (slice_set xs n y) ≡ map f xs
map_set f [] n x y is same = refl
map_set f (first ∷ xs) zero x y is same = let here : Some first ≡ Some x = is in ap (λ v. v ∷ map f xs) (same ∙ ap f (sym (cc here)))
map_set f (first ∷ xs) (suc n) x y is same = ap (λ l. f first ∷ l) (map_set f xs n x y is same)

-- ---- which orders start, and how many

starting_append : (a b : List Kept) → starting (a ++ b) ≡ starting a ++ starting b
starting_append [] b = refl
starting_append (one ∷ a) b = by_start (starts one) (starting_append a b)
  where
    by_start : (s : Bool) → starting (a ++ b) ≡ starting a ++ starting b → cond s (one ∷ starting (a ++ b)) (starting (a ++ b)) ≡ cond s (one ∷ starting a) (starting a) ++ starting b
    by_start true more = ap (λ l. one ∷ l) more
    by_start false more = more

pub starting_one : (kept : List Kept) (one : Kept) (s : Bool) → starts one ≡ s → starting (kept ++ one ∷ []) ≡ starting kept ++ cond s (one ∷ []) []
starting_one kept one s is = starting_append kept (one ∷ []) ∙ ap (λ (b : Bool). starting kept ++ cond b (one ∷ []) []) is

pub count_append : (a b : List Kept) → count_starts (a ++ b) ≡ count_starts a + count_starts b
count_append [] b = omega arith
count_append (one ∷ a) b = by_start (starts one) (count_append a b)
  where
    by_start : (s : Bool) → count_starts (a ++ b) ≡ count_starts a + count_starts b → cond s (1 + count_starts (a ++ b)) (count_starts (a ++ b)) ≡ cond s (1 + count_starts a) (count_starts a) + count_starts b
    by_start true more = omega (arith, more)
    by_start false more = more

count_one : (one : Kept) (s : Bool) → starts one ≡ s → count_starts (one ∷ []) ≡ cond s 1 0
count_one one s is = ap (λ (b : Bool). cond b 1 0) is

count_quiet : (during : List Kept) → All (λ one. starts one ≡ false) during → count_starts during ≡ 0
count_quiet [] quiet = refl
count_quiet (one ∷ during) quiet =
    ap (λ (b : Bool). cond b (1 + count_starts during) (count_starts during)) (All-head (λ k. starts k ≡ false) one during quiet) ∙ count_quiet during (All-tail (λ k. starts k ≡ false) one during quiet)

none_after : (after : List Kept) → starts_at_once after ≡ true → count_starts after ≡ 0 → after ≡ []
none_after [] next none = refl
none_after (one ∷ after) next none =
    let more : 1 + count_starts after ≡ 0 = sym (ap (λ (b : Bool). cond b (1 + count_starts after) (count_starts after)) next) ∙ none in
    absurd (omega (arith, more))

-- ---- one record more

none_before : (during after : List Kept) → count_starts during ≡ 0 → count_starts (during ++ after) ≡ count_starts after
none_before during after none = let all = count_append during after in omega (arith, all, none)

count_from : (settings : Settings) (kept : List Kept) (index : ℕ) (past : PastOrder) (p : IsPastOrder settings kept index past) → count_starts kept ≡ index + (1 + count_starts p.after)
count_from settings kept index past p =
    ap count_starts p.is ∙ count_append p.before (ordered past.order past.note ∷ (p.during ++ p.after))
    ∙ ap (λ n. n + count_starts (ordered past.order past.note ∷ (p.during ++ p.after))) p.number
    ∙ ap (λ (b : Bool). index + cond b (1 + count_starts (p.during ++ p.after)) (count_starts (p.during ++ p.after))) p.runs
    ∙ ap (λ n. index + (1 + n)) (none_before p.during p.after (count_quiet p.during p.quiet))

still_next : (after : List Kept) (one : Kept) → starts_at_once after ≡ true → (after ≡ [] → starts one ≡ true) → starts_at_once (after ++ one ∷ []) ≡ true
still_next [] one next last = last refl
still_next (first ∷ after) one next last = next

joined : (before : List Kept) (first one : Kept) (during after : List Kept) → (before ++ first ∷ (during ++ after)) ++ one ∷ [] ≡ before ++ first ∷ (during ++ (after ++ one ∷ []))
joined before first one during after =
    append_assoc before (first ∷ (during ++ after)) (one ∷ []) ∙ ap (λ l. before ++ first ∷ l) (append_assoc during after (one ∷ []))

-- an order that was followed by another, or is now
of_more : (settings : Settings) (kept : List Kept) (one : Kept) (index : ℕ) (past : PastOrder) (p : IsPastOrder settings kept index past) → (p.after ≡ [] → starts one ≡ true) → IsPastOrder settings (kept ++ one ∷ []) index past
of_more settings kept one index past p last = record {
  before = p.before;
  during = p.during;
  after = p.after ++ one ∷ [];
  is = ap (λ l. l ++ one ∷ []) p.is ∙ joined p.before (ordered past.order past.note) one p.during p.after;
  runs = p.runs;
  number = p.number;
  quiet = p.quiet;
  next = still_next p.after one p.next last;
  state = p.state;
  lived = p.lived;
  outcome = p.outcome;
}

-- the last order, when a record follows that starts none
goes_on : (settings : Settings) (kept : List Kept) (one : Kept) (new : TillState) (index : ℕ) (past : PastOrder) (p : IsPastOrder settings kept index past) → p.after ≡ [] → starts one ≡ false → LivedThrough settings (kept ++ one ∷ []) new
    → IsPastOrder settings (kept ++ one ∷ []) index (record past { outcome = ended new })
goes_on settings kept one new index past p last quiet lived =
    let first = ordered past.order past.note in
    let all : kept ++ one ∷ [] ≡ p.before ++ first ∷ (p.during ++ one ∷ []) =
    ap (λ l. l ++ one ∷ []) p.is ∙ joined p.before first one p.during p.after ∙ ap (λ l. p.before ++ first ∷ (p.during ++ (l ++ one ∷ []))) last in
    record {
      before = p.before;
      during = p.during ++ one ∷ [];
      after = [];
      is = all ∙ ap (λ l. p.before ++ first ∷ l) (sym (append-nil (p.during ++ one ∷ [])));
      runs = p.runs;
      number = p.number;
      quiet = All-append (λ k. starts k ≡ false) p.during (one ∷ []) p.quiet (All-cons (λ k. starts k ≡ false) one [] quiet (All-nil (λ k. starts k ≡ false)));
      next = refl;
      state = new;
      lived = subst (λ k. LivedThrough settings k new) all lived;
      outcome = refl;
    }

-- an order that starts is the last one
starts_now : (settings : Settings) (kept : List Kept) (order : Order) (note : List ℕ) (new : TillState) → runs order ≡ true → LivedThrough settings (kept ++ ordered order note ∷ []) new
    → IsPastOrder settings (kept ++ ordered order note ∷ []) (count_starts kept) (record { order = order; note = note; outcome = ended new })
starts_now settings kept order note new is lived = record {
  before = kept;
  during = [];
  after = [];
  is = refl;
  runs = is;
  number = refl;
  quiet = All-nil (λ k. starts k ≡ false);
  next = refl;
  state = new;
  lived = lived;
  outcome = refl;
}

-- ---- the list after one record

followed_started : (past : List PastOrder) (order : Order) (note : List ℕ) (new : TillState) → followed (started past order note) new ≡ past ++ record { order = order; note = note; outcome = ended new } ∷ []
followed_started past order note new =
    let fresh : PastOrder = record { order = order; note = note; outcome = None } in
    let all = past ++ fresh ∷ [] in
    let place : length all - 1 ≡ length past = ap (λ n. n - 1) (length-append past (fresh ∷ [])) ∙ omega arith in
    let by_place : (n : ℕ) → PastOrder → List PastOrder = λ n last. slice_set all n (record last { outcome = ended new }) in
    ap (λ n. elim (slice_get all n) [ None ↦ all | Some last ↦ by_place n last ]) place
    ∙ ap (λ found. elim found [ None ↦ all | Some last ↦ by_place (length past) last ]) (get_at_end past fresh)
    ∙ set_at_end past fresh (record fresh { outcome = ended new })

more_started : (settings : Settings) (kept : List Kept) (order : Order) (note : List ℕ) (new : TillState) (past : List PastOrder) → runs order ≡ true → LivedThrough settings (kept ++ ordered order note ∷ []) new → ArePast settings kept past
    → ArePast settings (kept ++ ordered order note ∷ []) (followed (started past order note) new)
more_started settings kept order note new past is lived are =
    let one = ordered order note in
    let last : PastOrder = record { order = order; note = note; outcome = ended new } in
    subst (ArePast settings (kept ++ one ∷ [])) (sym (followed_started past order note new)) (record {
      listed = map-append record_of past (last ∷ []) ∙ ap (λ l. l ++ one ∷ []) are.listed ∙ sym (starting_one kept one true is);
      as_many = length-append past (last ∷ []) ∙ ap (λ n. n + 1) are.as_many ∙ sym (count_append kept (one ∷ []) ∙ ap (λ n. count_starts kept + n) (count_one one true is));
      each = λ index found at. ⊎_elim
          (λ here. of_more settings kept one index found (are.each index found here) (λ none. is))
          (λ end. subst (λ i. IsPastOrder settings (kept ++ one ∷ []) i found) (sym (end.0 ∙ are.as_many)) (subst (IsPastOrder settings (kept ++ one ∷ []) (count_starts kept)) (sym end.1) (starts_now settings kept order note new is lived)))
          (get_last past last index found at);
    })

more_quiet : (settings : Settings) (kept : List Kept) (one : Kept) (new : TillState) (past : List PastOrder) → starts one ≡ false → LivedThrough settings (kept ++ one ∷ []) new → ArePast settings kept past → ArePast settings (kept ++ one ∷ []) (followed past new)
more_quiet settings kept one new past quiet lived are = by_last (slice_get past (length past - 1)) refl
  where
    all_listed : map record_of past ≡ starting (kept ++ one ∷ [])
    all_listed = are.listed ∙ sym (starting_one kept one false quiet ∙ append-nil (starting kept))

    counted : count_starts (kept ++ one ∷ []) ≡ count_starts kept
    counted = count_append kept (one ∷ []) ∙ ap (λ n. count_starts kept + n) (count_one one false quiet) ∙ omega arith

    -- an order before the last one
    earlier : (index : ℕ) (found : PastOrder) → slice_get past index ≡ Some found → (index ≡ length past - 1 → ⊥) → IsPastOrder settings (kept ++ one ∷ []) index found
    earlier index found at not =
        let p = are.each index found at in
        let below = slice_get_within past index found at in
        let many = count_from settings kept index found p in
        of_more settings kept one index found p (λ none. absurd (not (omega (arith, below, are.as_many, many, ap count_starts none))))

    by_last : (last : Option PastOrder) → slice_get past (length past - 1) ≡ last → ArePast settings (kept ++ one ∷ []) (elim last [ None ↦ past | Some l ↦ slice_set past (length past - 1) (record l { outcome = ended new }) ])
    by_last None none = record {
      listed = all_listed;
      as_many = are.as_many ∙ sym counted;
      each = λ index found at. earlier index found at (λ same. some_none found (sym at ∙ ap (slice_get past) same ∙ none));
    }
      where
        some_none : (x : PastOrder) → Some x ≡ None → ⊥
        some_none x is = absurd cc
    by_last (Some last) is =
        let p = are.each (length past - 1) last is in
        let below = slice_get_within past (length past - 1) last is in
        let many = count_from settings kept (length past - 1) last p in
        let none : p.after ≡ [] = none_after p.after p.next (omega (arith, below, are.as_many, many)) in
        record {
          listed = map_set record_of past (length past - 1) last (record last { outcome = ended new }) is refl ∙ all_listed;
          as_many = length-set past (length past - 1) (record last { outcome = ended new }) ∙ are.as_many ∙ sym counted;
          each = λ index found at. ⊎_elim
              (λ here. subst (λ i. IsPastOrder settings (kept ++ one ∷ []) i found) (sym here.0) (subst (IsPastOrder settings (kept ++ one ∷ []) (length past - 1)) (sym here.1) (goes_on settings kept one new (length past - 1) last p none quiet lived)))
              (λ other. earlier index found other.1 other.0)
              (get_set past (length past - 1) (record last { outcome = ended new }) index found at);
        }

-- one record more, which the till has lived through
pub past_more : (settings : Settings) (kept : List Kept) (one : Kept) (new : TillState) (past : List PastOrder) → LivedThrough settings (kept ++ one ∷ []) new → ArePast settings kept past → ArePast settings (kept ++ one ∷ []) (followed (held past one) new)
past_more settings kept (ordered order note) new past lived are = by_test (runs order) refl
  where
    by_test : (b : Bool) → runs order ≡ b → ArePast settings (kept ++ ordered order note ∷ []) (followed (cond b (started past order note) past) new)
    by_test true is = more_started settings kept order note new past is lived are
    by_test false is = more_quiet settings kept (ordered order note) new past is lived are
past_more settings kept (asked note) new past lived are = more_quiet settings kept (asked note) new past refl lived are
past_more settings kept (heard message) new past lived are = more_quiet settings kept (heard message) new past refl lived are
past_more settings kept lost new past lived are = more_quiet settings kept lost new past refl lived are

-- ---- a till that lives through its records

pub record PastSoFar (settings : Settings) (kept : List Kept) (state : TillState) (past : List PastOrder) : Type 0 where
  pub lived : LivedThrough settings kept state
  pub are : ArePast settings kept past

pub none_past : (settings : Settings) (state : TillState) (past : List PastOrder) → past ≡ [] → LivedThrough settings [] state → PastSoFar settings [] state past
none_past settings state past none lived = record {
  lived = lived;
  are = subst (ArePast settings []) (sym none) (record { listed = refl; as_many = refl; each = λ index one is. absurd cc });
}

past_by : (settings : Settings) (kept : List Kept) (one : Kept) (old new : TillState) (past : List PastOrder) → Relives true one old new → old.line_up ≡ true → PastSoFar settings kept old past → PastSoFar settings (kept ++ one ∷ []) new (followed (held past one) new)
past_by settings kept one old new past lives up p =
    let so_far = p.lived.happened in
    let next = lives settings (Connected ∷ so_far) p.lived.stands up in
    let lived : LivedThrough settings (kept ++ one ∷ []) new = record { happened = so_far ++ next.0; happens = each_more (Happens settings.currency) kept one so_far next.0 p.lived.happens next.1; stands = next.2 } in
    record { lived = lived; are = past_more settings kept one new past lived p.are }

-- one entry more
pub past_on : (settings : Settings) (entries : List Entry) (i : ℕ) (entry : Entry) (old new : TillState) (past holds follows : List PastOrder) → i < length entries → entry ≡ get_or entries i entry
    → holds ≡ held past (kept_of entry) → follows ≡ followed holds new → Relives true (kept_of entry) old new → old.line_up ≡ true
    → PastSoFar settings (map kept_of (take i entries)) old past → PastSoFar settings (map kept_of (take (i + 1) entries)) new follows
past_on settings entries i entry old new past holds follows below is holds_is follows_is lives up p =
    let kept = map kept_of (take i entries) in
    let more = past_by settings kept (kept_of entry) old new past lives up p in
    let same : follows ≡ followed (held past (kept_of entry)) new = follows_is ∙ ap (λ h. followed h new) holds_is in
    subst (λ k. PastSoFar settings k new follows) (sym (taken entries i entry below is)) (subst (PastSoFar settings (kept ++ kept_of entry ∷ []) new) (sym same) more)

-- and then the line is lost
pub past_at_end : (settings : Settings) (text : List ℕ) (entries : List Entry) (old new : TillState) (past follows : List PastOrder) → kept_in text ≡ Some (map kept_of entries) → old.line_up ≡ true → new ≡ step old Lost → follows ≡ followed past new
    → PastSoFar settings (map kept_of (take (length entries) entries)) old past → HasOrders settings text follows
past_at_end settings text entries old new past follows read up is follows_is p =
    let kept = map kept_of entries in
    let after = step (step old Lost) Connected in
    let all : PastSoFar settings kept old past = subst (λ es. PastSoFar settings (map kept_of es) old past) (take_all (length entries) entries (omega arith)) p in
    let more = past_by settings kept lost old after past (line_lost old (step old Lost) after refl refl) up all in
    let same : followed past new ≡ followed past after = ap (followed past) is in
    record { kept = kept; read = read; are = subst (ArePast settings (kept ++ lost ∷ [])) (sym (follows_is ∙ same)) more.are }
