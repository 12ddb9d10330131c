-- A payment that was answered as paid is in the book.
use Rattle.std.proofs.Common.{◌≡◌, ℕ, suc, Bool, true, false, cond, List, [], ◌∷◌, ◌++◌, append-nil, map, Some, slice_get, refl, ap, subst, ◌∙◌}
use Rattle.zvt_till.specs.declared.happenings.Happening.TheVariants.{Connected, Lost}
use Rattle.zvt_till.specs.Books.{Booked, booked_as}
use Rattle.zvt_till.specs.Laws.{row_of}
use Rattle.zvt_till.specs.Till.{TillState, step}
use Rattle.zvt_till.specs.TillHistory.{Stands}
use Rattle.zvt_journal.specs.Text.{recovered}
use Rattle.zvt_kept.specs.declared.past_orders.PastOrder.{PastOrder}
use Rattle.zvt_kept.specs.KeptTill.{unless_up}
use Rattle.zvt_kept.specs.Notes.{is_noted_by}
use Rattle.zvt_kept.specs.PastOrders.{ArePast, first_noted}
use Rattle.zvt_kept.specs.Records.{lost}
use Rattle.zvt_kept.proofs.PaidOrders.{paid_are_booked}
use Rattle.zvt_service.specs.Service.{HasPast, state_of, unless_lost}
use Rattle.zvt_service.specs.Lives.{PaidIsBooked}
use Rattle.zvt_service.proofs.Living.{lived_down, lived_up}

-- an order that is found has a place
place_of : (key : List ℕ) (past : List PastOrder) (one : PastOrder) → first_noted key past ≡ Some one → (index : ℕ) × (slice_get past index ≡ Some one)
place_of key [] one is = absurd cc
place_of key (x ∷ past) one is = by_first (is_noted_by key x.note) is (place_of key past one)
  where
    by_first : (b : Bool) → cond b (Some x) (first_noted key past) ≡ Some one → (first_noted key past ≡ Some one → (index : ℕ) × (slice_get past index ≡ Some one)) → (index : ℕ) × (slice_get (x ∷ past) index ≡ Some one)
    by_first true found more = (0, found)
    by_first false found more = let rest = more found in (suc rest.0, rest.1)

module _ {D : Type 0} (seen : D → List ℕ) (may_leave : D → List ℕ → Type 0) (moment : D → ℕ) (left_since : D → ℕ → List ℕ → Type 0) (faults : D → ℕ) where
  pub paid_is_booked : PaidIsBooked seen may_leave moment left_since faults
  paid_is_booked service key one amount trace receipt is found pays paid = by_line state.line_up refl
    where
      state : TillState
      state = state_of service.kept

      past : HasPast state.settings (recovered (seen service.kept.standing.device)) state.line_up service.past
      past = is.served is.whole

      place : (index : ℕ) × (slice_get service.past index ≡ Some one)
      place = place_of key service.past one found

      by_line : (up : Bool) → state.line_up ≡ up → (before after : List Booked) × (map row_of state.book ≡ before ++ booked_as amount trace receipt ∷ after)
      by_line true up =
          let lived = lived_up state.settings is.kept.0 (recovered (seen service.kept.standing.device)) past.kept state past.read is.kept.1.recorded up is.kept.1.stands in
          let are = subst (λ k. ArePast state.settings k service.past) (ap (λ b. past.kept ++ unless_lost b) up ∙ append-nil past.kept) past.are in
          paid_are_booked state.settings past.kept state service.past lived are place.0 one place.1 amount trace receipt pays paid
      by_line false down =
          let stands : Stands state.settings (is.kept.0 ++ Lost ∷ []) state = subst (λ l. Stands state.settings l state) (ap (λ b. is.kept.0 ++ unless_up b) down) is.kept.1.stands in
          let lived = lived_down state.settings is.kept.0 (recovered (seen service.kept.standing.device)) past.kept state past.read is.kept.1.recorded stands in
          let are = subst (λ k. ArePast state.settings k service.past) (ap (λ b. past.kept ++ unless_lost b) down) past.are in
          paid_are_booked state.settings (past.kept ++ lost ∷ []) (step state Connected) service.past lived are place.0 one place.1 amount trace receipt pays paid
