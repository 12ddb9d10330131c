use Rattle.std.proofs.Common.{MatchResult, ◌≡◌, ℕ, ◌*◌, List, Option, Some, None, length, min, take, drop, sym, subst, ap, unwrap_or, ◌∙◌, arith, rules}
use Rattle.zvt_till.specs.Till.{TillState, step}
use Rattle.zvt_till.specs.Restoring.{at_rest}
use Rattle.zvt_till.specs.declared.snapshot.decoder.Made.{Made}
use Rattle.zvt_till.specs.declared.snapshot.decoder.LoadError.TheVariants.{Memory}
use Rattle.zvt_till.specs.SnapshotDecoding.{strictly, made_of, settings_of}
use Rattle.zvt_till.specs.declared.happenings.Happening.TheVariants.{Lost}
use Rattle.zvt_till.proofs.SnapshotBodies.{on_value}
use Rattle.zvt_till.proofs.SnapshotHeaders.{body-made, body-rows, entries-are, entries-end, of-layout, others-are, rows-held}
use Rattle.zvt_till.proofs.SnapshotNumbers.{none-some}
use Rattle.zvt_till.proofs.snapshot.decoder.read_body.Goals as goal

pub returns-in_default-clause-value : goal.returns-in_default-clause-value
returns-in_default-clause-value c s k of is =
    let none : c.read_made.result ≡ None = search rules in
    absurd (none-some (made_of s.settings s.last_outcome) (sym none ∙ c.read_made.ensures s.settings s.last_outcome k.outcome k.currency k.password (body-made c.args.layout s c.args.bytes.now k is)))

pub returns-in-Err-clause-value : goal.returns-in-Err-clause-value
returns-in-Err-clause-value c s k of is =
    let rows = c.split_at.ensures.back ∙ body-rows c.args.layout s c.args.bytes.now k is in
    let booked : c.booked_of.result ≡ length s.book = c.booked_of.ensures.value (length s.book) (omega (arith, k.stands.few_booked)) (ap (λ (b : List ℕ). take 3 (drop 4 b)) is) in
    let size = c.min-size.ensures ∙ ap (λ (w : ℕ). min (w * c.booked_of.result) (length c.split_at.result.1.now)) c.entry_size.ensures ∙ entries-end c.args.layout s c.booked_of.result c.split_at.result.1.now k.entries booked rows in
    c.in-Err.ensures.value s.book (rows-held c.args.layout s k.entries of) (c.split_at-2.ensures.front ∙ entries-are c.args.layout s c.min-size.result c.split_at.result.1.now size rows)

pub returns-in-Err-read_rows-clause-value : goal.returns-in-Err-read_rows-clause-value
returns-in-Err-read_rows-clause-value c s k of is =
    let rows = c.split_at.ensures.back ∙ body-rows c.args.layout s c.args.bytes.now k is in
    let booked : c.booked_of.result ≡ length s.book = c.booked_of.ensures.value (length s.book) (omega (arith, k.stands.few_booked)) (ap (λ (b : List ℕ). take 3 (drop 4 b)) is) in
    let size = c.min-size.ensures ∙ ap (λ (w : ℕ). min (w * c.booked_of.result) (length c.split_at.result.1.now)) c.entry_size.ensures ∙ entries-end c.args.layout s c.booked_of.result c.split_at.result.1.now k.entries booked rows in
    c.in-Err-read_rows.ensures s.unclear k.rows (c.split_at-2.ensures.back ∙ others-are c.args.layout s c.min-size.result c.split_at.result.1.now size rows)

pub returns-clause-value : goal.returns-clause-value
returns-clause-value c s k of is =
    let rows = c.split_at.ensures.back ∙ body-rows c.args.layout s c.args.bytes.now k is in
    let booked : c.booked_of.result ≡ length s.book = c.booked_of.ensures.value (length s.book) (omega (arith, k.stands.few_booked)) (ap (λ (b : List ℕ). take 3 (drop 4 b)) is) in
    let size = c.min-size.ensures ∙ ap (λ (w : ℕ). min (w * c.booked_of.result) (length c.split_at.result.1.now)) c.entry_size.ensures ∙ entries-end c.args.layout s c.booked_of.result c.split_at.result.1.now k.entries booked rows in
    let book : c.in-Ok.book.items ≡ s.book = c.in-Ok.ensures.value s.book (rows-held c.args.layout s k.entries of) (c.split_at-2.ensures.front ∙ entries-are c.args.layout s c.min-size.result c.split_at.result.1.now size rows) in
    let unclear : c.in-Ok-read_rows.unclear.items ≡ s.unclear = c.in-Ok-read_rows.ensures s.unclear k.rows (c.split_at-2.ensures.back ∙ others-are c.args.layout s c.min-size.result c.split_at.result.1.now size rows) in
    let read : c.read_made.result ≡ Some c.in-Some.made = search rules in
    let made : c.in-Some.made ≡ made_of s.settings s.last_outcome =
    ap (λ (o : Option Made). unwrap_or o c.in-Some.made)
    (sym read ∙ c.read_made.ensures s.settings s.last_outcome k.outcome k.currency k.password (body-made c.args.layout s c.args.bytes.now k is)) in
    let loaded = c.restore.ensures.value (rw (book, unclear) k.stands) in
    let state : strictly (at_rest (settings_of c.in-Some.made) c.in-Ok.book.items c.in-Ok-read_rows.unclear.items c.in-Some.made.last) ≡ strictly s = rw (book, unclear, made) (ap strictly (sym k.rests)) in
    subst (λ (t : TillState). MatchResult c.restore.result (λ till. till.state ≡ t) (λ why. why ≡ Memory)) state loaded

pub returns-clause-held : goal.returns-clause-held
returns-clause-held c =
    on_value c.restore.result (λ till is. of-layout c.args.layout (step till.state Lost) c.in-Ok.book.items is c.in-Ok.ensures.held) c.restore.ensures.rests
