-- The till's book, unclear list and running order, tied to the segments of its log.
use Rattle.std.proofs.Common.{◌≡◌, ℕ, ◌≤◌, Bool, true, false, cond, ◌||◌, List, [], ◌∷◌, ◌++◌, length, Option, Some, None, refl, sym, ap, ap₂, subst, ◌∙◌, ◌⊎◌, inl, inr}
use Rattle.std.specs.List.{list_any}
use Rattle.std.proofs.Math.Bool.{or-false}
use Rattle.zvt_till.specs.declared.happenings.Happening.{Happening}
use Rattle.zvt_till.specs.declared.happenings.Happening.TheVariants.{Connected, Sent as SentOut}
use Rattle.zvt_till.specs.declared.happenings.Sent.TheVariants.{Cancel}
use Rattle.zvt_till.specs.declared.statuses.Running.{Running}
use Rattle.zvt_till.specs.declared.entries.Entry.{Entry}
use Rattle.zvt_till.specs.declared.outcomes.Cause.{Cause}
use Rattle.zvt_till.specs.declared.outcomes.Outcome.{Outcome}
use Rattle.zvt_till.specs.Segments.{Opening, Segment, Ended, begun, segments, ends, is_positive, is_completion, status_of, statuses, end_of, completes}
use Rattle.zvt_till.specs.Books.{books_of, settled}
use Rattle.zvt_till.specs.Marks.{entries_of}
use Rattle.zvt_till.specs.Till.{TillState, book_after, unclear_after, finish, meet_running, meet}
use Rattle.zvt_till.specs.Outcomes.{demand_of, note_if, outcome_by, listened}
use Rattle.zvt_till.specs.Refusals.{sent_as}
use Rattle.zvt_till.specs.Sending.{Settings}
use Rattle.zvt_till.specs.Log.{is_break, awaited_by_end, awaited_of}
use Rattle.zvt_till.specs.declared.settings.Rules.{Rules}
use Rattle.zvt_till.proofs.Segments.{heard_last, list_any-snoc, heard_last-snoc, split_last}
use Rattle.zvt_till.proofs.Summaries.{summary, summary-snoc}
use Rattle.zvt_till.proofs.Marks.{IsPlaced, Placed, Placed-more, Placed-snoc, Placed-prefix, Placed-last}
use Rattle.zvt_till.proofs.SegmentEndLemmas.{seg, opened, rows, loose, books-snoc, books-alike, entries-alike, rows-open, loose-open, entries-open, end-kept, awaited-snoc, has-ended, end-missing, end-reached, unbroken-by}
use Rattle.zvt_till.proofs.Endings.{shut, grows}

-- the running order of a till of this currency is the last segment, without an end so far; its statuses are measured by the currency in force
pub record Open (rules : Rules) (own : ℕ) (ss : List Segment) (book : List Entry) (unclear : List (ℕ × Cause)) (r : Running) : Type 0 where
  pub closed : List Segment
  pub answers : List Happening
  pub force : Option ℕ
  pub forced : (rows : List Entry) (lost : List (ℕ × Cause)) → demand_of rules (Some own) rows lost r.order ≡ demand_of rules force rows lost r.order
  pub is : ss ≡ closed ++ seg (opened rules.reversal_by_receipt closed own force r.order) answers ∷ []
  pub unended : end_of answers ≡ None
  pub unbroken : list_any is_break answers ≡ false
  pub positive : r.positive ≡ list_any is_positive answers
  pub statuses : r.statuses ≡ summary (demand_of rules (Some own) book unclear r.order) (Rattle.zvt_till.specs.Segments.statuses answers)

abbrev pub TiedTo : Rules → ℕ → List Segment → List Entry → List (ℕ × Cause) → Option Running → Type 0
TiedTo rules own ss book unclear None = awaited_of ss ≡ None
TiedTo rules own ss book unclear (Some r) = Open rules own ss book unclear r

pub record Core (rules : Rules) (own : ℕ) (ss : List Segment) (the_book : List Entry) (the_unclear : List (ℕ × Cause)) (running : Option Running) : Type 0 where
  pub book : the_book ≡ entries_of ss
  pub unclear : the_unclear ≡ settled (books_of ss).unclear
  pub placed : Placed (length (books_of ss).booked) ss
  pub tied : TiedTo rules own ss the_book the_unclear running

abbrev pub more_heard : Segment → Happening → Segment
more_heard s h = seg s.opening (s.answers ++ h ∷ [])

idle-last : (rules : Rules) (own : ℕ) (closed : List Segment) (s : Segment) (h : Happening) (book : List Entry) (unclear : List (ℕ × Cause))
    → Core rules own (closed ++ s ∷ []) book unclear None → Core rules own (closed ++ more_heard s h ∷ []) book unclear None
idle-last rules own closed s h book unclear c =
    let w = has-ended closed s c.tied in
    let after = end-kept s.answers h w.0 w.1 in
    let same : end_of s.answers ≡ end_of (s.answers ++ h ∷ []) = w.1 ∙ sym after in
    let books_same = books-alike closed s.opening s.answers (s.answers ++ h ∷ []) same in
    let n_same : length (rows (closed ++ s ∷ [])) ≡ length (rows (closed ++ more_heard s h ∷ [])) = ap (λ x. length x.booked) books_same in
    record {
      book = c.book ∙ entries-alike closed s.opening s.answers (s.answers ++ h ∷ []) same;
      unclear = c.unclear ∙ ap (λ x. settled x.unclear) books_same;
      placed =
          subst (λ n. Placed n (closed ++ more_heard s h ∷ [])) n_same
          (Placed-snoc (length (rows (closed ++ s ∷ []))) closed (more_heard s h)
          (Placed-prefix (length (rows (closed ++ s ∷ []))) closed s c.placed)
          (Placed-last (length (rows (closed ++ s ∷ []))) closed s c.placed));
      tied = awaited-snoc closed (more_heard s h) ∙ ap (awaited_by_end (more_heard s h)) after;
    }

core-idle : (rules : Rules) (own : ℕ) (ss : List Segment) (h : Happening) (book : List Entry) (unclear : List (ℕ × Cause))
    → Core rules own ss book unclear None → Core rules own (heard_last ss h) book unclear None
core-idle rules own ss h book unclear c = by_last (split_last ss)
  where
    by_last : (ss ≡ []) ⊎ ((closed : List Segment) × (s : Segment) × (ss ≡ closed ++ s ∷ [])) → Core rules own (heard_last ss h) book unclear None
    by_last (inl e) = subst (λ x. Core rules own x book unclear None → Core rules own (heard_last x h) book unclear None) (sym e) (λ k. k) c
    by_last (inr w) =
        subst (λ x. Core rules own (heard_last x h) book unclear None) (sym w.2)
        (subst (λ x. Core rules own x book unclear None) (sym (heard_last-snoc w.0 w.1 h))
        (idle-last rules own w.0 w.1 h book unclear (subst (λ x. Core rules own x book unclear None) w.2 c)))

-- the running order goes on

core-on : (rules : Rules) (own : ℕ) (ss : List Segment) (h : Happening) (book : List Entry) (unclear : List (ℕ × Cause)) (r : Running)
    → Core rules own ss book unclear (Some r) → ends r.positive h ≡ false
    → Core rules own (heard_last ss h) book unclear (Some (listened (demand_of rules (Some own) book unclear r.order) r h))
core-on rules own ss h book unclear r c n =
    let t = c.tied in
    let closed = t.closed in
    let hs = t.answers in
    let o = opened rules.reversal_by_receipt closed own t.force r.order in
    let on : ends (list_any is_positive hs) h ≡ false = subst (λ b. ends b h ≡ false) t.positive n in
    let unended : end_of (hs ++ h ∷ []) ≡ None = end-missing hs h t.unended on in
    let same : end_of hs ≡ end_of (hs ++ h ∷ []) = t.unended ∙ sym unended in
    let before : ss ≡ closed ++ seg o hs ∷ [] = t.is in
    let now : heard_last ss h ≡ closed ++ seg o (hs ++ h ∷ []) ∷ [] = ap (λ x. heard_last x h) before ∙ heard_last-snoc closed (seg o hs) h in
    let books_same : books_of ss ≡ books_of (heard_last ss h) = ap books_of before ∙ books-alike closed o hs (hs ++ h ∷ []) same ∙ ap books_of (sym now) in
    let count = length (rows ss) in
    let was_placed : Placed count (closed ++ seg o hs ∷ []) = subst (λ x. Placed count x) before c.placed in
    record {
      book = c.book ∙ ap entries_of before ∙ entries-alike closed o hs (hs ++ h ∷ []) same ∙ ap entries_of (sym now);
      unclear = c.unclear ∙ ap (λ x. settled x.unclear) books_same;
      placed =
          subst (λ k. Placed k (heard_last ss h)) (ap (λ x. length x.booked) books_same)
          (subst (λ x. Placed count x) (sym now)
          (Placed-snoc count closed (seg o (hs ++ h ∷ [])) (Placed-prefix count closed (seg o hs) was_placed) (Placed-last count closed (seg o hs) was_placed)));
      tied = record {
        closed = closed;
        answers = hs ++ h ∷ [];
        force = t.force;
        forced = t.forced;
        is = now;
        unended = unended;
        unbroken = list_any-snoc is_break hs h ∙ ap₂ (λ a b. a || b) t.unbroken (unbroken-by r.positive h n);
        positive = ap (λ b. b || is_positive h) t.positive ∙ sym (list_any-snoc is_positive hs h);
        statuses =
            ap (λ x. note_if (demand_of rules (Some own) book unclear r.order) x (status_of h)) t.statuses
            ∙ sym (summary-snoc (demand_of rules (Some own) book unclear r.order) hs h);
      };
    }

-- the running order ends

core-shut : (rules : Rules) (own : ℕ) (ss : List Segment) (h : Happening) (book : List Entry) (unclear : List (ℕ × Cause)) (r : Running)
    → Core rules own ss book unclear (Some r) → ends r.positive h ≡ true
    → let out : Outcome = outcome_by book r.order r.statuses h in
    Core rules own (heard_last ss h) (book_after book r.order out) (unclear_after unclear r.order out) None
core-shut rules own ss h book unclear r c n =
    let t = c.tied in
    let closed = t.closed in
    let hs = t.answers in
    let o = opened rules.reversal_by_receipt closed own t.force r.order in
    let es : List Entry = entries_of closed in
    let ended : Option Ended = Some (record { before = hs; by = h }) in
    let on : ends (list_any is_positive hs) h ≡ true = subst (λ b. ends b h ≡ true) t.positive n in
    let reached : end_of (hs ++ h ∷ []) ≡ ended = end-reached hs h t.unended on in
    let before : ss ≡ closed ++ seg o hs ∷ [] = t.is in
    let now : heard_last ss h ≡ closed ++ seg o (hs ++ h ∷ []) ∷ [] = ap (λ x. heard_last x h) before ∙ heard_last-snoc closed (seg o hs) h in
    let book_is : book ≡ es = c.book ∙ ap entries_of before ∙ entries-open closed o hs t.unended in
    let loose_is : unclear ≡ loose closed = c.unclear ∙ ap loose before ∙ loose-open closed o hs t.unended in
    let count_is : length (rows ss) ≡ length (rows closed) = ap (λ x. length (rows x)) before ∙ ap (λ x. length x) (rows-open closed o hs t.unended) in
    let was : Placed (length (rows closed)) (closed ++ seg o hs ∷ []) = subst (λ k. Placed k (closed ++ seg o hs ∷ [])) count_is (subst (λ x. Placed (length (rows ss)) x) before c.placed) in
    let p1 : Placed (length (rows closed)) closed = Placed-prefix (length (rows closed)) closed (seg o hs) was in
    let p2 : IsPlaced (length (rows closed)) (sent_as own r.order) = Placed-last (length (rows closed)) closed (seg o hs) was in
    let done = shut rules own t.force r.order closed hs h r.positive reached n p1 p2 in
    let more : length (rows closed) ≤ length (rows (closed ++ seg o (hs ++ h ∷ []) ∷ [])) =
    subst (λ b. length (rows closed) ≤ length b.booked) (sym (books-snoc closed o (hs ++ h ∷ []) ended reached)) (grows (books_of closed) o o.order ended) in
    record {
      book =
          ap (λ st. book_after book r.order (outcome_by book r.order st h)) t.statuses
          ∙ ap₂ (λ b u. book_after b r.order (outcome_by b r.order (summary (demand_of rules (Some own) b u r.order) (statuses hs)) h)) book_is loose_is
          ∙ ap (λ d. book_after es r.order (outcome_by es r.order (summary d (statuses hs)) h)) (t.forced es (loose closed))
          ∙ done.book
          ∙ ap entries_of (sym now);
      unclear =
          ap (λ st. unclear_after unclear r.order (outcome_by book r.order st h)) t.statuses
          ∙ ap₂ (λ u b. unclear_after u r.order (outcome_by b r.order (summary (demand_of rules (Some own) b u r.order) (statuses hs)) h)) loose_is book_is
          ∙ ap (λ d. unclear_after (loose closed) r.order (outcome_by es r.order (summary d (statuses hs)) h)) (t.forced es (loose closed))
          ∙ done.unclear
          ∙ ap loose (sym now);
      placed =
          subst (λ x. Placed (length (rows x)) x) (sym now)
          (Placed-more (length (rows closed)) (length (rows (closed ++ seg o (hs ++ h ∷ []) ∷ []))) more (closed ++ seg o (hs ++ h ∷ []) ∷ [])
          (Placed-snoc (length (rows closed)) closed (seg o (hs ++ h ∷ [])) p1 p2));
      tied = ap awaited_of now ∙ awaited-snoc closed (seg o (hs ++ h ∷ [])) ∙ ap (awaited_by_end (seg o (hs ++ h ∷ []))) reached;
    }

abbrev pub CoreAt : List Segment → TillState → Type 0
CoreAt ss s = Core s.settings.rules s.settings.currency ss s.book s.unclear s.running

core-running : (ss : List Segment) (h : Happening) (s : TillState) (r : Running) → Core s.settings.rules s.settings.currency ss s.book s.unclear (Some r) → (b : Bool) → ends r.positive h ≡ b
    → CoreAt (heard_last ss h) (cond b (finish s r.order (outcome_by s.book r.order r.statuses h)) (record s { running = Some (listened (demand_of s.settings.rules (Some s.settings.currency) s.book s.unclear r.order) r h) }))
core-running ss h s r c true e = core-shut s.settings.rules s.settings.currency ss h s.book s.unclear r c e
core-running ss h s r c false e = core-on s.settings.rules s.settings.currency ss h s.book s.unclear r c e

abbrev pub state : Settings → Bool → Bool → Option Running → List Entry → List (ℕ × Cause) → Option Outcome → TillState
state settings up registered running book unclear last =
    record { settings = settings; line_up = up; registered = registered; running = running; book = book; unclear = unclear; last_outcome = last }

core-meet-by : (ss : List Segment) (h : Happening) (k : Settings) (up g : Bool) (run : Option Running) (es : List Entry) (u : List (ℕ × Cause)) (last : Option Outcome)
    → Core k.rules k.currency ss es u run → CoreAt (heard_last ss h) (meet (state k up g run es u last) h)
core-meet-by ss h k up g None es u last c = core-idle k.rules k.currency ss h es u c
core-meet-by ss h k up g (Some r) es u last c = core-running ss h (state k up g (Some r) es u last) r c (ends r.positive h) refl

pub core-meet : (ss : List Segment) (h : Happening) (s : TillState) → CoreAt ss s → CoreAt (heard_last ss h) (meet s h)
core-meet ss h s c = core-meet-by ss h s.settings s.line_up s.registered s.running s.book s.unclear s.last_outcome c

-- what has no part in an order changes nothing

pub IsQuiet : Happening → Type 0
IsQuiet h = ((p : Bool) → ends p h ≡ false) × (is_positive h ≡ false) × (status_of h ≡ None)

pub quiet-connected : IsQuiet Connected
unfolding IsQuiet
quiet-connected = ((λ p. refl), refl, refl)

pub quiet-cancel : IsQuiet (SentOut Cancel)
unfolding IsQuiet
quiet-cancel = ((λ p. refl), refl, refl)

quiet-running : (h : Happening) (s : TillState) (r : Running) → IsQuiet h → meet_running s r h ≡ record s { running = Some r }
unfolding IsQuiet
quiet-running h s r q =
    ap (λ b. cond b (finish s r.order (outcome_by s.book r.order r.statuses h)) (record s { running = Some (listened (demand_of s.settings.rules (Some s.settings.currency) s.book s.unclear r.order) r h) })) (q.0 r.positive)
    ∙ ap₂ (λ b st. record s { running = Some (record { order = r.order; positive = b; statuses = st }) })
    (ap (λ b. r.positive || b) q.1 ∙ or-false r.positive)
    (ap (note_if (demand_of s.settings.rules (Some s.settings.currency) s.book s.unclear r.order) r.statuses) q.2)

quiet-by : (h : Happening) (k : Settings) (up g : Bool) (run : Option Running) (es : List Entry) (u : List (ℕ × Cause)) (last : Option Outcome)
    → IsQuiet h → meet (state k up g run es u last) h ≡ state k up g run es u last
quiet-by h k up g None es u last q = refl
quiet-by h k up g (Some r) es u last q = quiet-running h (state k up g (Some r) es u last) r q

pub meet-quiet : (h : Happening) (s : TillState) → IsQuiet h → meet s h ≡ s
meet-quiet h s q = quiet-by h s.settings s.line_up s.registered s.running s.book s.unclear s.last_outcome q

pub core-quiet : (ss : List Segment) (h : Happening) (s : TillState) → IsQuiet h → CoreAt ss s → CoreAt (heard_last ss h) s
core-quiet ss h s q c = subst (λ x. CoreAt (heard_last ss h) x) (meet-quiet h s q) (core-meet ss h s c)
