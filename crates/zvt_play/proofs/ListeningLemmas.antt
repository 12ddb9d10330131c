-- What has come of what may come after the last line.
use Rattle.std.proofs.Common.{◌≡◌, ◌⊎◌, inl, inr, ℕ, ◌+◌, ◌-◌, ◌<◌, ◌≤◌, Bool, List, [], ◌∷◌, ◌++◌, Option, length, take, refl, sym, ◌∙◌, ap, subst, arith, append_assoc, append-nil, length-append, length-take}
use Rattle.std.specs.Io.KnownBytes.{Consumes, IsAtEnd}
use Rattle.zvt_stream.proofs.HearingLemmas.{consumes_more, consumes_none}
use Rattle.zvt_play.specs.Playing.{FallsSilent, MayFollow, NoneCame, SaysMore, may_come}
use Rattle.zvt_play.specs.declared.difference.Difference.TheVariants.{Surplus}

-- the first bytes of those that may come, and the rest of these
pub record CameOf (all rest : List ℕ) (coming left : Option (List ℕ)) : Type 0 where
  pub came : List ℕ
  pub cut : all ≡ came ++ rest
  pub consumed : Consumes coming left came

pub none_came : (all : List ℕ) (coming : Option (List ℕ)) → CameOf all all coming coming
none_came all coming = record { came = []; cut = refl; consumed = consumes_none coming }

pub rest_fits : (all rest : List ℕ) (coming left : Option (List ℕ)) → CameOf all rest coming left → length rest ≤ length all
rest_fits all rest coming left c = omega (arith, ap length c.cut, length-append c.came rest)

pub came_more : (all rest more after : List ℕ) (coming middle left : Option (List ℕ)) → CameOf all rest coming middle → rest ≡ more ++ after → Consumes middle left more → CameOf all after coming left
came_more all rest more after coming middle left c is read = record {
  came = c.came ++ more;
  cut = c.cut ∙ ap (λ (b : List ℕ). c.came ++ b) is ∙ sym (append_assoc c.came more after);
  consumed = consumes_more coming middle left c.came more c.consumed read;
}

none_of : (bytes : List ℕ) → length bytes ≡ 0 → bytes ≡ []
none_of [] none = refl
none_of (byte ∷ bytes) none = absurd (omega arith)

same_rest : (came rest more : List ℕ) → came ++ rest ≡ came ++ more → rest ≡ more
same_rest [] rest more e = e
same_rest (byte ∷ came) rest more e = let f : came ++ rest ≡ came ++ more = cc in same_rest came rest more f

pub silent_at_once : (owed : Bool) (all rest : List ℕ) (coming middle left : Option (List ℕ)) (failures between now : ℕ) → CameOf all rest coming middle → all ≡ may_come owed → (length rest ≡ length all) ⊎ (length rest ≡ 0)
    → between ≡ failures → NoneCame middle left between now → FallsSilent owed coming left failures now
silent_at_once owed all rest coming middle left failures between now c is whole same none = record {
  came = c.came ++ [];
  may_follow = follows whole;
  consumed = consumes_more coming middle left c.came [] c.consumed none.0;
  silent = subst (λ (n : ℕ). IsAtEnd left ⊎ (now ≡ n + 1)) same none.1;
}
  where
    follows : (length rest ≡ length all) ⊎ (length rest ≡ 0) → MayFollow owed (c.came ++ [])
    follows (inl none_yet) = inl (append-nil c.came ∙ none_of c.came (omega (arith, none_yet, ap length c.cut, length-append c.came rest)))
    follows (inr all_of_it) = inr (append-nil c.came ∙ sym (append-nil c.came) ∙ ap (λ (b : List ℕ). c.came ++ b) (sym (none_of rest all_of_it)) ∙ sym c.cut ∙ is)

pub part_alone : (owed : Bool) (all rest : List ℕ) (coming middle left : Option (List ℕ)) (count : ℕ) → CameOf all rest coming middle → all ≡ may_come owed → count ≡ length all - length rest → 0 < count → 0 < length rest
    → Consumes middle left [] → SaysMore owed (Surplus count) coming left
part_alone owed all rest coming middle left count c is counted some more none = record {
  came = c.came ++ [];
  may_not_follow = never;
  consumed = consumes_more coming middle left c.came [] c.consumed none;
  surplus = ap Surplus (omega (arith, counted, ap length c.cut, length-append c.came rest, ap length (append-nil c.came)));
}
  where
    never : MayFollow owed (c.came ++ []) → ⊥
    never (inl e) = absurd (omega (arith, counted, some, ap length e, ap length c.cut, length-append c.came rest, ap length (append-nil c.came)))
    never (inr e) = absurd (omega (arith, more, ap length e, ap length is, ap length c.cut, length-append c.came rest, ap length (append-nil c.came)))

pub came_besides : (owed : Bool) (all rest more : List ℕ) (coming middle left : Option (List ℕ)) (count : ℕ) → CameOf all rest coming middle → all ≡ may_come owed → count ≡ length all - length rest + length more → 0 < length more
    → ((after : List ℕ) → rest ≡ more ++ after → ⊥) → Consumes middle left more → SaysMore owed (Surplus count) coming left
came_besides owed all rest more coming middle left count c is counted some apart read = record {
  came = c.came ++ more;
  may_not_follow = never;
  consumed = consumes_more coming middle left c.came more c.consumed read;
  surplus = ap Surplus (omega (arith, counted, ap length c.cut, length-append c.came rest, length-append c.came more));
}
  where
    never : MayFollow owed (c.came ++ more) → ⊥
    never (inl e) = absurd (omega (arith, some, ap length e, length-append c.came more))
    never (inr e) = apart [] (same_rest c.came rest more (sym c.cut ∙ is ∙ sym e) ∙ sym (append-nil more))

-- ---- what is discarded

-- so many reads brought some bytes each
pub record Discards (count : ℕ) (coming left : Option (List ℕ)) : Type 0 where
  pub came : List ℕ
  pub consumed : Consumes coming left came
  pub some : count ≤ length came

pub none_discarded : (coming : Option (List ℕ)) → Discards 0 coming coming
none_discarded coming = record { came = []; consumed = consumes_none coming; some = omega arith }

pub discards_more : (count n : ℕ) (buffer : List ℕ) (coming middle left : Option (List ℕ)) → Discards count coming middle → 0 < n → n ≤ length buffer → Consumes middle left (take n buffer) → Discards (count + 1) coming left
discards_more count n buffer coming middle left d some fits read = record {
  came = d.came ++ take n buffer;
  consumed = consumes_more coming middle left d.came (take n buffer) d.consumed read;
  some = omega (arith, d.some, some, fits, length-append d.came (take n buffer), length-take n buffer);
}
