-- A journal that was begun, and its new till.
use Rattle.std.proofs.Common.{◌≡◌, ℕ, List, [], ◌∷◌, Some, length, refl, sym, ap, subst, ◌++◌, ◌∙◌}
use Rattle.std.proofs.lemmas.List.{append-nil}
use Rattle.std.proofs.lemmas.Option.{same_Some}
use Rattle.zvt_till.specs.declared.happenings.Happening.TheVariants.{Connected, Lost}
use Rattle.zvt_till.specs.Sending.{Settings}
use Rattle.zvt_till.specs.Till.{TillState, new_till}
use Rattle.zvt_settle.specs.Settling.{Line, Both, both_after, new_both}
use Rattle.zvt_journal.specs.Text.{recovered, IsSettled}
use Rattle.zvt_kept.specs.Records.{kept_in}
use Rattle.zvt_kept.specs.Logs.{MeanAll, opening_of}
use Rattle.zvt_kept.specs.KeptTill.{Keeps, Settles, unless_up}
use Rattle.zvt_till.specs.TillHistory.{Stands}
use Rattle.zvt_kept.proofs.AskLemmas.{asks_none}

nothing : (l : List ℕ) → length l ≡ 0 → l ≡ []
nothing [] none = refl
nothing (x ∷ l) none = absurd cc

-- a gate at the start of a file has no records before it
pub empty_text : (file : List ℕ) → 0 ≡ length (recovered file) → recovered file ≡ []
empty_text file at_gate = nothing (recovered file) (sym at_gate)

stands_new : (settings : Settings) (state : TillState) → state ≡ new_till settings → Stands settings ((Connected ∷ []) ++ unless_up state.line_up) state
stands_new settings state is = subst (λ s. Stands settings ((Connected ∷ []) ++ unless_up s.line_up) s) (sym is) ((tt, (tt, tt)), refl)

-- nothing is settled yet
settles_new : (settings : Settings) (text : List ℕ) → kept_in text ≡ Some [] → Settles settings text (new_both settings)
settles_new settings text read kept notes told means =
    let none : kept ≡ [] = same_Some kept [] (sym told ∙ read) in
    let quiet : notes ≡ [] = subst (λ k. MeanAll settings.currency k notes) none means in
    ap (λ l. both_after settings ((Line Connected ∷ l) ++ Line Lost ∷ [])) (sym quiet)

pub begun : (settings : Settings) (seen : List ℕ) (may_leave : List ℕ → Type 0) (gate : ℕ) (both : Both) → IsSettled seen may_leave gate → recovered seen ≡ opening_of settings
    → kept_in (opening_of settings) ≡ Some [] → both ≡ new_both settings → Keeps settings (Connected ∷ []) seen may_leave gate both
begun settings seen may_leave gate both settled text means new = record {
  settled = settled;
  recorded = record { opened = ([], text ∙ sym (append-nil (opening_of settings))); kept = []; happened = []; read = ap kept_in text ∙ means; happens = refl; begins = refl; asks = asks_none settings };
  stands = stands_new settings both.till (ap (λ b. b.till) new);
  settles = subst (λ b. Settles settings (recovered seen) b) (sym new) (settles_new settings (recovered seen) (ap kept_in text ∙ means));
}
