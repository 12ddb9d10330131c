-- How the segments of a log, and the end of an order, change with one more happening.
use Rattle.std.proofs.Common.{◌≡◌, ℕ, Bool, true, false, cond, ◌||◌, List, [], ◌∷◌, ◌++◌, Option, Some, None, refl, sym, ap, ap₂, subst, ◌∙◌, append_assoc, append-nil, fold, ◌⊎◌, inl, inr}
use Rattle.std.specs.List.{list_any}
use Rattle.std.proofs.Math.Bool.{or-false}
use Rattle.zvt_till.specs.declared.happenings.Happening.{Happening}
use Rattle.zvt_till.specs.declared.happenings.Sent.{Sent}
use Rattle.zvt_till.specs.Segments.{Segment, Ended, begun, up_to_order, force_after, in_force, segments_from, segments, ends, is_positive, end_after, end_of}

-- the last segment gets one more answer
abbrev pub heard_last : List Segment → Happening → List Segment
heard_last [] h = []
heard_last (s ∷ []) h = record { opening = s.opening; answers = s.answers ++ h ∷ [] } ∷ []
heard_last (s ∷ t ∷ ss) h = s ∷ heard_last (t ∷ ss) h

abbrev pub grown : Option ℕ → List Segment → Happening → Option Sent → List Segment
grown force ss h None = heard_last ss h
grown force ss h (Some o) = ss ++ record { opening = record { order = o; currency = force; sole = None }; answers = [] } ∷ []

abbrev answers_grown : List Segment → List Happening → Happening → Option Sent → List Happening
answers_grown [] hs h None = hs ++ h ∷ []
answers_grown [] hs h (Some o) = hs
answers_grown (s ∷ ss) hs h o = hs

answers_grown-cons : (ss : List Segment) (g : Happening) (hs : List Happening) (h : Happening) (o : Option Sent) → g ∷ answers_grown ss hs h o ≡ answers_grown ss (g ∷ hs) h o
answers_grown-cons [] g hs h None = refl
answers_grown-cons [] g hs h (Some o) = refl
answers_grown-cons (s ∷ ss) g hs h o = refl

abbrev up_by : Option Sent → Happening → List Happening → List Happening
up_by b g more = elim b [ None ↦ g ∷ more | Some o ↦ [] ]

abbrev segments_by : Option ℕ → Option Sent → List Happening → List Segment → List Segment
segments_by force b more ss = elim b [ None ↦ ss | Some o ↦ record { opening = record { order = o; currency = force; sole = None }; answers = more } ∷ ss ]

up-one : (b : Option Sent) (h : Happening) → up_by b h [] ≡ answers_grown [] [] h b
up-one None h = refl
up-one (Some o) h = refl

up-more : (b : Option Sent) (g : Happening) (ss : List Segment) (log : List Happening) (more : List Happening) (h : Happening)
    → up_to_order (log ++ h ∷ []) ≡ answers_grown ss (up_to_order log) h (begun h)
    → (force : Option ℕ) → up_by b g (up_to_order (log ++ h ∷ [])) ≡ answers_grown (segments_by force b more ss) (up_by b g (up_to_order log)) h (begun h)
up-more None g ss log more h ih force = ap (λ x. g ∷ x) ih ∙ answers_grown-cons ss g (up_to_order log) h (begun h)
up-more (Some o) g ss log more h ih force = refl

up_to_order-snoc : (force : Option ℕ) (log : List Happening) (h : Happening) → up_to_order (log ++ h ∷ []) ≡ answers_grown (segments_from force log) (up_to_order log) h (begun h)
up_to_order-snoc force [] h = up-one (begun h) h
up_to_order-snoc force (g ∷ log) h =
    up-more (begun g) g (segments_from (force_after force g) log) log (up_to_order log) h (up_to_order-snoc (force_after force g) log h) force

segments-one : (force : Option ℕ) (b : Option Sent) (h : Happening) → segments_by force b [] [] ≡ grown force [] h b
segments-one force None h = refl
segments-one force (Some o) h = refl

abbrev seg : Option ℕ → Sent → List Happening → Segment
seg force o hs = record { opening = record { order = o; currency = force; sole = None }; answers = hs }

first-grown : (force now : Option ℕ) (o : Sent) (ss : List Segment) (hs : List Happening) (h : Happening) (b : Option Sent)
    → seg force o (answers_grown ss hs h b) ∷ grown now ss h b ≡ grown now (seg force o hs ∷ ss) h b
first-grown force now o [] hs h None = refl
first-grown force now o [] hs h (Some p) = refl
first-grown force now o (s ∷ ss) hs h None = refl
first-grown force now o (s ∷ ss) hs h (Some p) = refl

segments-more : (force later now : Option ℕ) (b : Option Sent) (log : List Happening) (h : Happening)
    → segments_from later (log ++ h ∷ []) ≡ grown now (segments_from later log) h (begun h)
    → segments_by force b (up_to_order (log ++ h ∷ [])) (segments_from later (log ++ h ∷ [])) ≡ grown now (segments_by force b (up_to_order log) (segments_from later log)) h (begun h)
segments-more force later now None log h ih = ih
segments-more force later now (Some o) log h ih =
    ap₂ (λ x y. seg force o x ∷ y) (up_to_order-snoc later log h) ih ∙ first-grown force now o (segments_from later log) (up_to_order log) h (begun h)

segments_from-snoc : (force : Option ℕ) (log : List Happening) (h : Happening) → segments_from force (log ++ h ∷ []) ≡ grown (fold force_after force log) (segments_from force log) h (begun h)
segments_from-snoc force [] h = segments-one force (begun h) h
segments_from-snoc force (g ∷ log) h =
    segments-more force (force_after force g) (fold force_after (force_after force g) log) (begun g) log h (segments_from-snoc (force_after force g) log h)

-- an order begins a segment under the currency in force before it
pub segments-snoc : (log : List Happening) (h : Happening) → segments (log ++ h ∷ []) ≡ grown (in_force log) (segments log) h (begun h)
segments-snoc log h = segments_from-snoc None log h

-- the end with one more answer
abbrev pub end_grown : List Happening → Happening → Option Ended → Option Ended
end_grown hs h None = cond (ends (list_any is_positive hs) h) (Some (record { before = hs; by = h })) None
end_grown hs h (Some e) = Some e

end-more : (b : Bool) (before hs : List Happening) (g h : Happening)
    → end_after (before ++ g ∷ []) (hs ++ h ∷ []) ≡ end_grown (before ++ g ∷ hs) h (end_after (before ++ g ∷ []) hs)
    → cond b (Some (record { before = before; by = g })) (end_after (before ++ g ∷ []) (hs ++ h ∷ []))
    ≡ end_grown (before ++ g ∷ hs) h (cond b (Some (record { before = before; by = g })) (end_after (before ++ g ∷ []) hs))
end-more true before hs g h ih = refl
end-more false before hs g h ih = ih

end_after-snoc : (before hs : List Happening) (h : Happening) → end_after before (hs ++ h ∷ []) ≡ end_grown (before ++ hs) h (end_after before hs)
end_after-snoc before [] h = ap (λ x. end_grown x h None) (sym (append-nil before))
end_after-snoc before (g ∷ hs) h =
    end-more (ends (list_any is_positive before) g) before hs g h
    (subst (λ x. end_after (before ++ g ∷ []) (hs ++ h ∷ []) ≡ end_grown x h (end_after (before ++ g ∷ []) hs)) (append_assoc before (g ∷ []) hs) (end_after-snoc (before ++ g ∷ []) hs h))

pub end_of-snoc : (hs : List Happening) (h : Happening) → end_of (hs ++ h ∷ []) ≡ end_grown hs h (end_of hs)
end_of-snoc hs h = end_after-snoc [] hs h

pub list_any-snoc : {X : Type 0} (p : X → Bool) (xs : List X) (x : X) → list_any p (xs ++ x ∷ []) ≡ (list_any p xs || p x)
list_any-snoc p [] x = or-false (p x)
list_any-snoc p (y ∷ xs) x = or-step (p y) (list_any p (xs ++ x ∷ [])) (list_any p xs) (p x) (list_any-snoc p xs x)
  where
    or-step : (a b c d : Bool) → b ≡ (c || d) → (a || b) ≡ ((a || c) || d)
    or-step true b c d e = refl
    or-step false b c d e = e

pub fold-snoc : {A B : Type 0} (f : B → A → B) (b : B) (xs : List A) (x : A) → fold f b (xs ++ x ∷ []) ≡ f (fold f b xs) x
fold-snoc f b [] x = refl
fold-snoc f b (y ∷ xs) x = fold-snoc f (f b y) xs x

pub heard_last-snoc : (closed : List Segment) (s : Segment) (h : Happening)
    → heard_last (closed ++ s ∷ []) h ≡ closed ++ record { opening = s.opening; answers = s.answers ++ h ∷ [] } ∷ []
heard_last-snoc [] s h = refl
heard_last-snoc (c ∷ []) s h = refl
heard_last-snoc (c ∷ d ∷ closed) s h = ap (λ x. c ∷ x) (heard_last-snoc (d ∷ closed) s h)

-- no segment, or a last one
pub split_last : (ss : List Segment) → (ss ≡ []) ⊎ ((closed : List Segment) × (s : Segment) × (ss ≡ closed ++ s ∷ []))
split_last [] = inl refl
split_last (s ∷ ss) = inr (after s ss (split_last ss))
  where
    after : (s : Segment) (ss : List Segment) → (ss ≡ []) ⊎ ((closed : List Segment) × (t : Segment) × (ss ≡ closed ++ t ∷ [])) → (closed : List Segment) × (t : Segment) × (s ∷ ss ≡ closed ++ t ∷ [])
    after s ss (inl e) = ([], s, ap (λ x. s ∷ x) e)
    after s ss (inr w) = (s ∷ w.0, w.1, ap (λ x. s ∷ x) w.2)
