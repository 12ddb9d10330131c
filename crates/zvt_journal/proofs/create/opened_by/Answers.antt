use Rattle.std.proofs.Common.{rules, ◌≡◌, List, ℕ, true, [], ◌∷◌, ◌++◌, length, drop, ap, ◌∙◌}
use Rattle.zvt_journal.specs.declared.call.Call.TheVariants.{Aside}
use Rattle.zvt_journal.specs.declared.call.Step.TheVariants.{Locked, Read, InPlace, FolderSynced}
use Rattle.zvt_journal.specs.Calls.{Event}
use Rattle.zvt_journal.specs.Files.{after_gate, behind_gate, file_seen}
use Rattle.zvt_journal.specs.Opening.{found_by, kept_beside}
use Rattle.zvt_journal.specs.Text.{recovered, whole}
use Rattle.zvt_journal.proofs.create.opened_by.Goals as goal

pub returns-in-Ok-clause-calls : goal.returns-in-Ok-clause-calls
returns-in-Ok-clause-calls c =
    let bytes = c.in_ok-bytes.bytes.items in
    let cut_is : c.to_cut.result.now ≡ behind_gate bytes =
    c.to_cut.ensures ∙ ap (λ (l : List ℕ). after_gate (drop c.in_ok-end.end l)) c.deref-2.ensures.value
    ∙ ap (λ (n : ℕ). after_gate (drop n bytes)) (c.in_ok-end.ensures.whole ∙ ap (λ (l : List ℕ). whole 0 l) c.deref.ensures.value) in
    let synced : c.sync_folder.new.calls.made ≡ (Aside FolderSynced, c.args.path.now, true) ∷ c.keep_cut.new.calls.made = search rules in
    let kept : c.keep_cut.new.calls.made ≡ kept_beside c.args.path.now c.to_cut.result.now ++ c.is_in_place.new.calls.made = c.in_ok-cut.ensures.1 in
    let placed : c.is_in_place.new.calls.made ≡ (Aside InPlace, c.args.path.now, true) ∷ c.read.new.calls.made = search rules in
    let read : c.read.new.calls.made ≡ (Aside Read, bytes, true) ∷ c.try_lock.new.calls.made = search rules in
    let locked : c.try_lock.new.calls.made ≡ (Aside Locked, [], true) ∷ c.open_or_make.new.calls.made = search rules in
    let found : c.open_or_make.new.calls.made ≡ (Aside (found_by c.in_ok-file.created), c.args.path.now, true) ∷ [] = search rules in
    let seen : file_seen c.new-device.result ≡ bytes = search rules in
    record {
      bytes = bytes;
      calls = synced ∙ ap (λ (l : List Event). (Aside FolderSynced, c.args.path.now, true) ∷ l) (kept
          ∙ ap (λ (k : List ℕ). kept_beside c.args.path.now k ++ c.is_in_place.new.calls.made) cut_is
          ∙ ap (λ (l : List Event). kept_beside c.args.path.now (behind_gate bytes) ++ l) (placed ∙ ap (λ (l : List Event). (Aside InPlace, c.args.path.now, true) ∷ l)
          (read ∙ ap (λ (l : List Event). (Aside Read, bytes, true) ∷ l) (locked ∙ ap (λ (l : List Event). (Aside Locked, [], true) ∷ l) found))));
      text_is = c.in-Ok.ensures.text ∙ ap recovered seen;
      cut_is = c.in_ok-cut.ensures.0 ∙ ap length cut_is;
      accepted = search rules;
    }
