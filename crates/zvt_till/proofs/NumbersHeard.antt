-- What was heard of the unclear payments, after an order and what follows it.
use Rattle.std.proofs.Common.{◌≡◌, ◌⊎◌, ⊎_elim, List, [], ◌∷◌, ◌++◌, inl, inr, refl, sym, ap, subst, ◌∙◌}
use Rattle.zvt_till.specs.declared.orders.Order.{Order}
use Rattle.zvt_till.specs.declared.orders.Order.TheVariants.{Register, Pay, Reverse, CloseDay, Cancel}
use Rattle.zvt_till.specs.Till.{TillState, accept}
use Rattle.zvt_till.specs.View.{TillValue, KeepsHeard}

-- an order that is accepted leaves the unclear payments
accepted-unclear : (s : TillState) (o : Order) → (accept s o).unclear ≡ s.unclear
accepted-unclear s Register = refl
accepted-unclear s (Pay a) = refl
accepted-unclear s (Reverse e) = refl
accepted-unclear s CloseDay = refl
accepted-unclear s Cancel = refl

-- what follows an order that was accepted keeps what was heard before the order
pub ordered-keeps : (o : Order) (old sent new : TillValue) → sent.state ≡ accept old.state o → sent.heard ≡ old.heard → KeepsHeard sent new → KeepsHeard old new
ordered-keeps o old sent new runs same keeps =
    let rows : sent.state.unclear ≡ old.state.unclear = ap (λ s. s.unclear) runs ∙ accepted-unclear old.state o in
    ⊎_elim
    (λ still. inl (still.0 ∙ rows, still.1 ∙ same))
    (λ grown. inr (grown.0, grown.1 ∙ ap (λ l. l ++ grown.0 ∷ []) rows, grown.2 ∙ ap (λ l. l ++ new.numbers ∷ []) same))
    keeps
