-- How the chapters of notes change with one more note.
use Rattle.std.proofs.Common.{◌≡◌, ℕ, List, [], ◌∷◌, ◌++◌, Option, Some, None, refl, ap, ap₂, ◌∙◌, fold, ◌⊎◌, inl, inr}
use Rattle.zvt_till.specs.declared.happenings.Sent.{Sent}
use Rattle.zvt_till.specs.Segments.{begun, force_after, in_force}
use Rattle.zvt_till.proofs.Segments.{fold-snoc}
use Rattle.zvt_report.specs.Chapters.{Noted, Chapter, happenings, up_to_order, chapters_from, chapters, last_line}

abbrev pub chap : Option ℕ → Sent → ℕ → List Noted → Chapter
chap force o line answers = record { order = o; currency = force; line = line; answers = answers }

-- the last chapter gets one more note
abbrev pub heard_last : List Chapter → Noted → List Chapter
heard_last [] n = []
heard_last (c ∷ []) n = chap c.currency c.order c.line (c.answers ++ n ∷ []) ∷ []
heard_last (c ∷ d ∷ cs) n = c ∷ heard_last (d ∷ cs) n

abbrev pub grown : Option ℕ → List Chapter → Noted → Option Sent → List Chapter
grown force cs n None = heard_last cs n
grown force cs n (Some o) = cs ++ chap force o n.line [] ∷ []

abbrev answers_grown : List Chapter → List Noted → Noted → Option Sent → List Noted
answers_grown [] ns n None = ns ++ n ∷ []
answers_grown [] ns n (Some o) = ns
answers_grown (c ∷ cs) ns n o = ns

answers_grown-cons : (cs : List Chapter) (g : Noted) (ns : List Noted) (n : Noted) (o : Option Sent) → g ∷ answers_grown cs ns n o ≡ answers_grown cs (g ∷ ns) n o
answers_grown-cons [] g ns n None = refl
answers_grown-cons [] g ns n (Some o) = refl
answers_grown-cons (c ∷ cs) g ns n o = refl

abbrev up_by : Option Sent → Noted → List Noted → List Noted
up_by b g more = elim b [ None ↦ g ∷ more | Some o ↦ [] ]

abbrev chapters_by : Option ℕ → ℕ → Option Sent → List Noted → List Chapter → List Chapter
chapters_by force line b more cs = elim b [ None ↦ cs | Some o ↦ record { order = o; currency = force; line = line; answers = more } ∷ cs ]

up-one : (b : Option Sent) (n : Noted) → up_by b n [] ≡ answers_grown [] [] n b
up-one None n = refl
up-one (Some o) n = refl

up-more : (b : Option Sent) (g : Noted) (cs : List Chapter) (ns : List Noted) (n : Noted)
    → up_to_order (ns ++ n ∷ []) ≡ answers_grown cs (up_to_order ns) n (begun n.happening)
    → (force : Option ℕ) → up_by b g (up_to_order (ns ++ n ∷ [])) ≡ answers_grown (chapters_by force g.line b (up_to_order ns) cs) (up_by b g (up_to_order ns)) n (begun n.happening)
up-more None g cs ns n ih force = ap (λ x. g ∷ x) ih ∙ answers_grown-cons cs g (up_to_order ns) n (begun n.happening)
up-more (Some o) g cs ns n ih force = refl

up_to_order-snoc : (force : Option ℕ) (ns : List Noted) (n : Noted) → up_to_order (ns ++ n ∷ []) ≡ answers_grown (chapters_from force ns) (up_to_order ns) n (begun n.happening)
up_to_order-snoc force [] n = up-one (begun n.happening) n
up_to_order-snoc force (g ∷ ns) n =
    up-more (begun g.happening) g (chapters_from (force_after force g.happening) ns) ns n (up_to_order-snoc (force_after force g.happening) ns n) force

chapters-one : (force : Option ℕ) (b : Option Sent) (n : Noted) → chapters_by force n.line b [] [] ≡ grown force [] n b
chapters-one force None n = refl
chapters-one force (Some o) n = refl

first-grown : (force now : Option ℕ) (o : Sent) (line : ℕ) (cs : List Chapter) (ns : List Noted) (n : Noted) (b : Option Sent)
    → chap force o line (answers_grown cs ns n b) ∷ grown now cs n b ≡ grown now (chap force o line ns ∷ cs) n b
first-grown force now o line [] ns n None = refl
first-grown force now o line [] ns n (Some p) = refl
first-grown force now o line (c ∷ cs) ns n None = refl
first-grown force now o line (c ∷ cs) ns n (Some p) = refl

chapters-more : (force later now : Option ℕ) (line : ℕ) (b : Option Sent) (ns : List Noted) (n : Noted)
    → chapters_from later (ns ++ n ∷ []) ≡ grown now (chapters_from later ns) n (begun n.happening)
    → chapters_by force line b (up_to_order (ns ++ n ∷ [])) (chapters_from later (ns ++ n ∷ [])) ≡ grown now (chapters_by force line b (up_to_order ns) (chapters_from later ns)) n (begun n.happening)
chapters-more force later now line None ns n ih = ih
chapters-more force later now line (Some o) ns n ih =
    ap₂ (λ x y. chap force o line x ∷ y) (up_to_order-snoc later ns n) ih ∙ first-grown force now o line (chapters_from later ns) (up_to_order ns) n (begun n.happening)

chapters_from-snoc : (force : Option ℕ) (ns : List Noted) (n : Noted) → chapters_from force (ns ++ n ∷ []) ≡ grown (fold force_after force (happenings ns)) (chapters_from force ns) n (begun n.happening)
chapters_from-snoc force [] n = chapters-one force (begun n.happening) n
chapters_from-snoc force (g ∷ ns) n =
    chapters-more force (force_after force g.happening) (fold force_after (force_after force g.happening) (happenings ns)) g.line (begun g.happening) ns n (chapters_from-snoc (force_after force g.happening) ns n)

-- an order begins a chapter under the currency in force before it
pub chapters-snoc : (ns : List Noted) (n : Noted) → chapters (ns ++ n ∷ []) ≡ grown (in_force (happenings ns)) (chapters ns) n (begun n.happening)
chapters-snoc ns n = chapters_from-snoc None ns n

pub heard_last-snoc : (closed : List Chapter) (c : Chapter) (n : Noted) → heard_last (closed ++ c ∷ []) n ≡ closed ++ chap c.currency c.order c.line (c.answers ++ n ∷ []) ∷ []
heard_last-snoc [] c n = refl
heard_last-snoc (a ∷ []) c n = refl
heard_last-snoc (a ∷ b ∷ closed) c n = ap (λ x. a ∷ x) (heard_last-snoc (b ∷ closed) c n)

-- no chapter, or a last one
pub split_last : (cs : List Chapter) → (cs ≡ []) ⊎ ((closed : List Chapter) × (c : Chapter) × (cs ≡ closed ++ c ∷ []))
split_last [] = inl refl
split_last (c ∷ cs) = inr (after c cs (split_last cs))
  where
    after : (c : Chapter) (cs : List Chapter) → (cs ≡ []) ⊎ ((closed : List Chapter) × (d : Chapter) × (cs ≡ closed ++ d ∷ [])) → (closed : List Chapter) × (d : Chapter) × (c ∷ cs ≡ closed ++ d ∷ [])
    after c cs (inl e) = ([], c, ap (λ x. c ∷ x) e)
    after c cs (inr w) = (c ∷ w.0, w.1, ap (λ x. c ∷ x) w.2)

pub happenings-snoc : (ns : List Noted) (n : Noted) → happenings (ns ++ n ∷ []) ≡ happenings ns ++ n.happening ∷ []
happenings-snoc [] n = refl
happenings-snoc (g ∷ ns) n = ap (λ x. g.happening ∷ x) (happenings-snoc ns n)

pub force-snoc : (ns : List Noted) (n : Noted) → in_force (happenings (ns ++ n ∷ [])) ≡ force_after (in_force (happenings ns)) n.happening
force-snoc ns n = ap in_force (happenings-snoc ns n) ∙ fold-snoc force_after None (happenings ns) n.happening

pub last_line-snoc : (line : ℕ) (ns : List Noted) (n : Noted) → last_line line (ns ++ n ∷ []) ≡ n.line
last_line-snoc line [] n = refl
last_line-snoc line (g ∷ ns) n = last_line-snoc g.line ns n
