-- What a crash leaves while the end of a file is repaired.
use Rattle.std.proofs.Common.{◌≡◌, ℕ, ◌+◌, List, [], ◌∷◌, ◌++◌, length, take, drop, sym, ◌∙◌, ap, arith, length-drop, take-append-drop}
use Rattle.std.proofs.lemmas.List.{take_all, drop_all, append-nil}
use Rattle.zvt_journal.specs.Device.{Over, Torn, Cut, Only}
use Rattle.zvt_journal.specs.Text.{whole, recovered, at_rest, IsSettled}
use Rattle.zvt_journal.proofs.Lines.{whole_within, recovered_closed, recovered_short, recovered_prefix}

-- any cut after the whole lines keeps them
pub cut_keeps : (file left : List ℕ) → Cut (whole 0 file) file left → recovered left ≡ recovered file
cut_keeps file left cut =
    ap recovered (sym cut.prefix) ∙ recovered_prefix file (length left) (omega (arith, cut.no_shorter, whole_within 0 file))

module _ (text : List ℕ) (is : whole 0 text ≡ length text) where
  -- one byte after them is no line
  pub torn_end : (left : List ℕ) → Torn (length text) (10 ∷ []) text left → recovered left ≡ text
  torn_end left torn =
      let prefix : take (length text) left ≡ text = torn.before ∙ take_all (length text) text (omega arith) in
      let parted : left ≡ text ++ drop (length text) left =
      sym (take-append-drop (length text) left) ∙ ap (λ (l : List ℕ). l ++ drop (length text) left) prefix in
      ap recovered parted ∙ recovered_short text (drop (length text) left) is (omega (arith, length-drop (length text) left, torn.no_longer))

  pub closed_again : (file : List ℕ) → Over (length text) (10 ∷ []) text file → file ≡ at_rest text
  closed_again file over =
      over
      ∙ ap (λ (l : List ℕ). l ++ (10 ∷ []) ++ drop (length text + 1) text) (take_all (length text) text (omega arith))
      ∙ ap (λ (l : List ℕ). text ++ (10 ∷ []) ++ l) (drop_all (length text + 1) text (omega arith))
      ∙ append-nil (at_rest text)

  pub stands_for_same : (file : List ℕ) → file ≡ at_rest text → recovered file ≡ text
  stands_for_same file same = ap recovered same ∙ recovered_closed text [] is

  pub settled_again : (file : List ℕ) (may_leave : List ℕ → Type 0) → file ≡ at_rest text → Only file may_leave → IsSettled file may_leave (length text)
  settled_again file may_leave same only =
      let text_is = stands_for_same file same in
      record { rest = same ∙ ap at_rest (sym text_is); at_gate = ap length (sym text_is); durable = only }
