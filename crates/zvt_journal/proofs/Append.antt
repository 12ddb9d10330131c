-- What a crash leaves in each of the two steps of an append.
use Rattle.std.proofs.Common.{◌≡◌, inl, inr, ⊎_elim, ℕ, ◌+◌, ◌<◌, List, [], ◌∷◌, ◌++◌, length, get_or, take, drop, refl, sym, ◌∙◌, ap, arith, append_assoc, length-append, take-append-drop}
use Rattle.std.proofs.lemmas.List.{take_at, drop_at, take_all, drop_all, append-nil}
use Rattle.zvt_journal.specs.Device.{Over, Torn, Swapped, Only}
use Rattle.zvt_journal.specs.Text.{whole, recovered, at_rest, IsRecord, IsSettled, IsWithOrWithout}
use Rattle.zvt_journal.proofs.Lines.{itself_whole, recovered_closed, append_whole}

-- a record is its first byte and the others
parts : (entry : List ℕ) → 0 < length entry → get_or entry 0 0 ∷ drop 1 entry ≡ entry
parts [] some = absurd (omega (arith, some))
parts (byte ∷ entry) some = refl

-- what is written after the closed gate
abbrev pub following : List ℕ → List ℕ
following entry = drop 1 entry ++ 10 ∷ []

-- the file with that after the closed gate
abbrev pub staged : List ℕ → List ℕ → List ℕ
staged text entry = text ++ 10 ∷ following entry

module _ (text : List ℕ) (is : whole 0 text ≡ length text) (gate : ℕ) (at_gate : gate ≡ length text) where
  pub length-at_rest : length (at_rest text) ≡ gate + 1
  length-at_rest = omega (arith, at_gate, length-append text (10 ∷ []))

  -- the closed gate is there whatever the first write leaves
  pub torn_parted : (bytes file : List ℕ) → Torn (gate + 1) bytes (at_rest text) file → file ≡ text ++ 10 ∷ drop (gate + 1) file
  torn_parted bytes file torn =
      let prefix : take (gate + 1) file ≡ at_rest text = torn.before ∙ take_all (gate + 1) (at_rest text) (omega (arith, length-at_rest)) in
      sym (take-append-drop (gate + 1) file) ∙ ap (λ (l : List ℕ). l ++ drop (gate + 1) file) prefix ∙ append_assoc text (10 ∷ []) (drop (gate + 1) file)

  pub torn_after : (bytes file : List ℕ) → Torn (gate + 1) bytes (at_rest text) file → recovered file ≡ text
  torn_after bytes file torn = ap recovered (torn_parted bytes file torn) ∙ recovered_closed text (drop (gate + 1) file) is

  pub written_after : (bytes file : List ℕ) → Over (gate + 1) bytes (at_rest text) file → file ≡ text ++ 10 ∷ bytes
  written_after bytes file over =
      over
      ∙ ap (λ (l : List ℕ). l ++ bytes ++ drop (gate + 1 + length bytes) (at_rest text)) (take_all (gate + 1) (at_rest text) (omega (arith, length-at_rest)))
      ∙ ap (λ (l : List ℕ). at_rest text ++ bytes ++ l) (drop_all (gate + 1 + length bytes) (at_rest text) (omega (arith, length-at_rest)))
      ∙ append-nil (at_rest text ++ bytes)
      ∙ append_assoc text (10 ∷ []) bytes

  opened_by : (byte : ℕ) (bytes file : List ℕ) → Over gate (byte ∷ []) (text ++ 10 ∷ bytes) file → file ≡ text ++ byte ∷ bytes
  opened_by byte bytes file over =
      over
      ∙ ap (λ (l : List ℕ). l ++ (byte ∷ []) ++ drop (gate + 1) (text ++ 10 ∷ bytes)) (take_at text (10 ∷ bytes) gate (sym at_gate))
      ∙ ap (λ (l : List ℕ). text ++ (byte ∷ []) ++ l) (ap (λ (l : List ℕ). drop (gate + 1) l) (sym (append_assoc text (10 ∷ []) bytes)) ∙ drop_at (at_rest text) bytes (gate + 1) length-at_rest)
      ∙ append_assoc text (byte ∷ []) bytes

  pub staged_whole : (entry : List ℕ) → recovered (staged text entry) ≡ text
  staged_whole entry = recovered_closed text (following entry) is

  module _ (entry : List ℕ) (good : IsRecord entry) where
    pub opened : (file : List ℕ) → Over gate (get_or entry 0 0 ∷ []) (staged text entry) file → file ≡ at_rest (text ++ entry)
    opened file over =
        opened_by (get_or entry 0 0) (following entry) file over
        ∙ ap (λ (l : List ℕ). text ++ (l ++ 10 ∷ [])) (parts entry good.some)
        ∙ sym (append_assoc text entry (10 ∷ []))

    -- and then the file represents one record more
    pub more_whole : whole 0 (text ++ entry) ≡ length (text ++ entry)
    more_whole = append_whole text entry is (itself_whole entry good.lines) ∙ sym (length-append text entry)

    pub stands_for_more : (file : List ℕ) → file ≡ at_rest (text ++ entry) → recovered file ≡ text ++ entry
    stands_for_more file same = ap recovered same ∙ recovered_closed (text ++ entry) [] more_whole

    -- the gate is closed or open, and nothing between
    pub swapped_gate : (file : List ℕ) → Swapped gate (get_or entry 0 0) (staged text entry) file → IsWithOrWithout text entry file
    swapped_gate file swapped = ⊎_elim
        (λ same. inl (ap recovered same ∙ recovered_closed text (following entry) is))
        (λ over. inr (stands_for_more file (opened file over)))
        swapped

    pub settled : (file : List ℕ) (may_leave : List ℕ → Type 0) → file ≡ at_rest (text ++ entry) → Only file may_leave → IsSettled file may_leave (gate + length entry)
    settled file may_leave same only =
        let more = stands_for_more file same in
        record {
          rest = same ∙ ap at_rest (sym more);
          at_gate = omega (arith, at_gate, length-append text entry, ap length more);
          durable = only;
        }
