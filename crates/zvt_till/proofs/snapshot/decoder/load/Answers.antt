use Rattle.std.proofs.Common.{◌≡◌, ◌∙◌, ℕ, List, sym, ap, slice_get}
use Rattle.zvt_till.specs.declared.happenings.Happening.TheVariants.{Lost}
use Rattle.zvt_till.specs.Till.{step}
use Rattle.zvt_till.specs.declared.snapshot.layouts.Layout.{Layout}
use Rattle.zvt_till.specs.declared.snapshot.layouts.Layout.TheVariants.{First, Second}
use Rattle.zvt_till.specs.SnapshotEncoded.{saved_in}
use Rattle.zvt_till.proofs.SnapshotBodies.{on_both}
use Rattle.zvt_till.proofs.SnapshotHeaders.{saved-as}
use Rattle.zvt_till.proofs.snapshot.decoder.load.Goals as goal

pub returns-clause-whole : goal.returns-clause-whole
returns-clause-whole c s k is =
    let named : c.layout_of.result ≡ Second = c.layout_of.ensures Second (ap (λ (b : List ℕ). slice_get b 3) is) in
    c.load_in.ensures.value s k (rw named tt) (is ∙ ap (λ (layout : Layout). saved_in layout s) (sym named))

pub returns-clause-first : goal.returns-clause-first
returns-clause-first c s k of is =
    let named : c.layout_of.result ≡ First = c.layout_of.ensures First (ap (λ (b : List ℕ). slice_get b 3) is) in
    c.load_in.ensures.value s k (rw named of) (is ∙ ap (λ (layout : Layout). saved_in layout s) (sym named))

pub returns-clause-only : goal.returns-clause-only
returns-clause-only c = on_both c.load_in.result (λ till is of. saved-as c.layout_of.result (step till.state Lost) c.args.bytes.now is of) c.load_in.ensures.only c.load_in.ensures.held
