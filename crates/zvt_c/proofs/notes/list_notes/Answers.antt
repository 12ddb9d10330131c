use Rattle.std.proofs.Common.{◌≡◌, ◌++◌, ℕ, List, Ok, Err, OnOk, refl, subst}
use Rattle.zvt_till.specs.Sending.{Settings}
use Rattle.zvt_kept.specs.Recovery.{Recovers}
use Rattle.zvt_kept.specs.RowNotes.{HasNotes}
use Rattle.zvt_c.specs.Listing.{notes_text, listed, unlisted}
use Rattle.zvt_c.proofs.Handed.{handed_whole}
use Rattle.zvt_c.proofs.notes.list_notes.Goals as goal

pub returns-in-Err : goal.returns-in-Err
returns-in-Err c =
    unlisted c.in-Err.why (subst (λ (settings : Settings). Recovers settings c.args.text.now (Err c.in-Err.why)) c.settings.ensures c.in-Err.ensures.till) refl c.unrecovered.ensures

pub returns-in-Ok : goal.returns-in-Ok
returns-in-Ok c =
    let recovered = c.in-Ok.recovered in
    listed recovered.till.till recovered.booked.items recovered.unclear.items
    (subst (λ (settings : Settings). Recovers settings c.args.text.now (Ok recovered.till.till)) c.settings.ensures c.in-Ok.ensures.till)
    (subst (λ (settings : Settings). HasNotes settings c.args.text.now recovered.till.till.state recovered.booked.items recovered.unclear.items) c.settings.ensures c.in-Ok.ensures.notes)
    (handed_whole c.say_notes-written.result _ _ _ _ _ (subst (λ (old : List ℕ). OnOk c.say_notes-written.result (c.say_notes-written.new.lines ≡ old ++ notes_text recovered.booked.items recovered.unclear.items)) c.new-lines.ensures c.say_notes-written.ensures) c.hand_out.ensures)
