-- What follows from spellings that end themselves, the grammar aside.
use Rattle.std.proofs.Common.{◌≡◌, ℕ, List, [], ◌∷◌, ◌++◌, length, drop, refl, sym, ◌∙◌, ap, subst, append_assoc, append-nil}
use Rattle.std.proofs.Math.Seq.{drop-append_seam}
use Rattle.zvt_grammar.specs.Beginnings.{NoneWhole}
use Rattle.zvt_grammar.specs.Cuts.{Spelled}
use Rattle.zvt_grammar.specs.Laws.{EndThemselves, CutsAreOne, PrefixesOfCut, PrefixesAlive, Growth}

-- what follows one prefix is one list
same_rest : (a x y : List ℕ) → a ++ x ≡ a ++ y → x ≡ y
same_rest a x y e = sym (drop-append_seam a x) ∙ ap (drop (length a)) e ∙ drop-append_seam a y

module _ {V : Type 0} (spells : V → List ℕ → Type 0) where
  -- more bytes are more rest
  pub spelled_more : (ms : List V) (bytes rest more : List ℕ) → Spelled spells bytes ms rest → Spelled spells (bytes ++ more) ms (rest ++ more)
  spelled_more [] bytes rest more e = ap (λ b. b ++ more) e
  spelled_more (m ∷ ms) bytes rest more s =
      (s.0, s.1 ++ more, ap (λ b. b ++ more) s.2 ∙ append_assoc s.0 s.1 more, s.3, spelled_more ms s.1 rest more s.4)

  -- values, and then the values of what they leave
  pub spelled_append : (ms ns : List V) (bytes middle rest : List ℕ) → Spelled spells bytes ms middle → Spelled spells middle ns rest → Spelled spells bytes (ms ++ ns) rest
  spelled_append [] ns bytes middle rest e t = let P : List ℕ → Type 0 = λ b. Spelled spells b ns rest in subst P (sym e) t
  spelled_append (m ∷ ms) ns bytes middle rest s t = (s.0, s.1, s.2, s.3, spelled_append ms ns s.1 middle rest s.4 t)

  -- one more value at the end
  pub spelled_push : (ms : List V) (m : V) (bytes prefix later rest : List ℕ) → Spelled spells bytes ms rest → rest ≡ prefix ++ later → spells m prefix → Spelled spells bytes (ms ++ m ∷ []) later
  spelled_push ms m bytes prefix later rest s e p = spelled_append ms (m ∷ []) bytes rest later s (prefix, later, e, p, refl)

  -- what is spelled at the start goes on to the cut
  pub goes_on : EndThemselves spells → (ms ns : List V) (bytes r s : List ℕ) → Spelled spells bytes ms r → Spelled spells bytes ns s → NoneWhole spells s
      → (later : List V) × (ns ≡ ms ++ later) × Spelled spells r later s
  goes_on one [] ns bytes r s e t none = (ns, refl, let P : List ℕ → Type 0 = λ b. Spelled spells b ns s in subst P e t)
  goes_on one (m ∷ ms) [] bytes r s t e none = absurd (none m t.0 t.1 (sym e ∙ t.2) t.3)
  goes_on one (m ∷ ms) (n ∷ ns) bytes r s t u none =
      let same = one m n t.0 u.0 t.1 u.1 t.3 u.3 (sym t.2 ∙ u.2) in
      let rest : t.1 ≡ u.1 = same_rest t.0 t.1 u.1 (sym t.2 ∙ u.2 ∙ ap (λ f. f ++ u.1) (sym same.1)) in
      let P : List ℕ → Type 0 = λ b. Spelled spells b ns s in
      let more = goes_on one ms ns t.1 r s t.4 (subst P (sym rest) u.4) none in
      (more.0, cc, more.2)

  -- the same with nothing whole left on either side
  pub cuts_are_one : EndThemselves spells → CutsAreOne spells
  cuts_are_one one bytes ms ns r s c d =
      let more = goes_on one ms ns bytes r s c.spelled d.spelled d.none_whole in
      ends ms ns more.0 r s more.1 more.2 c.none_whole
    where
      ends : (ms ns later : List V) (r s : List ℕ) → ns ≡ ms ++ later → Spelled spells r later s → NoneWhole spells r → (ms ≡ ns) × (r ≡ s)
      ends ms ns [] r s e t none = (sym (e ∙ append-nil ms), t)
      ends ms ns (l ∷ later) r s e t none = absurd (none l t.0 t.1 t.2 t.3)

  pub prefixes_of_cut : EndThemselves spells → PrefixesOfCut spells
  prefixes_of_cut one bytes ms ns r s t d =
      let more = goes_on one ms ns bytes r s t d.spelled d.none_whole in (more.0, more.1)

  pub grows : EndThemselves spells → Growth spells
  grows one bytes more ms ns r s c d =
      prefixes_of_cut one (bytes ++ more) ms ns (r ++ more) s (spelled_more ms bytes r more c.spelled) d

  pub prefixes_alive : PrefixesAlive spells
  prefixes_alive prefix rest a = record {
    value = a.value;
    rest = rest ++ a.rest;
    spelled = let P : List ℕ → Type 0 = λ b. spells a.value b in subst P (append_assoc prefix rest a.rest) a.spelled;
  }
