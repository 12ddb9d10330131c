use Rattle.std.proofs.Common.{◌≡◌, ◌∙◌, ◌∷◌, [], None, sym}
use Rattle.zvt_apdu.specs.Message.{registration, authorisation, reversal, end_of_day, abort_order, status, completion, abort, other}
use Rattle.zvt_apdu.specs.declared.kinds.Kind.TheVariants as kind
use Rattle.zvt_stream.specs.declared.head.Head.TheVariants.{Two}
use Rattle.zvt_trace.specs.TraceEvent.{TraceEvent, message}
use Rattle.zvt_audit.specs.ByControl.{known_by}
use Rattle.zvt_audit.proofs.ControlLemmas.{known_as, spells_abort, spells_abort_order, spells_authorisation, spells_completion, spells_end_of_day, spells_other, spells_registration, spells_reversal, spells_status}
use Rattle.zvt_audit.proofs.by_control.hear_named.Goals as goal

pub hear_bytes-requires : goal.hear_bytes-requires
hear_bytes-requires g c = (registration (0 ∷ 0 ∷ 0 ∷ []) 0 None, spells_registration)

pub returns-in-Registration : goal.returns-in-Registration
returns-in-Registration g c =
    let known : known_by c.args.from (Two c.args.high c.args.low) ≡ message c.args.from (registration (0 ∷ 0 ∷ 0 ∷ []) 0 None) = known_as c.args.from c.args.high c.args.low kind.Registration (sym c.kind_at.ensures ∙ c.in-Registration.is) in
    rw known (c.hear_bytes.ensures (registration (0 ∷ 0 ∷ 0 ∷ []) 0 None) spells_registration)

pub hear_bytes-requires-in-Authorisation : goal.hear_bytes-requires-in-Authorisation
hear_bytes-requires-in-Authorisation g c = (authorisation [], spells_authorisation)

pub returns-in-Authorisation : goal.returns-in-Authorisation
returns-in-Authorisation g c =
    let known : known_by c.args.from (Two c.args.high c.args.low) ≡ message c.args.from (authorisation []) = known_as c.args.from c.args.high c.args.low kind.Authorisation (sym c.kind_at.ensures ∙ c.in-Authorisation.is) in
    rw known (c.hear_bytes-in-Authorisation.ensures (authorisation []) spells_authorisation)

pub hear_bytes-requires-in-Reversal : goal.hear_bytes-requires-in-Reversal
hear_bytes-requires-in-Reversal g c = (reversal (0 ∷ 0 ∷ 0 ∷ []) [], spells_reversal)

pub returns-in-Reversal : goal.returns-in-Reversal
returns-in-Reversal g c =
    let known : known_by c.args.from (Two c.args.high c.args.low) ≡ message c.args.from (reversal (0 ∷ 0 ∷ 0 ∷ []) []) = known_as c.args.from c.args.high c.args.low kind.Reversal (sym c.kind_at.ensures ∙ c.in-Reversal.is) in
    rw known (c.hear_bytes-in-Reversal.ensures (reversal (0 ∷ 0 ∷ 0 ∷ []) []) spells_reversal)

pub hear_bytes-requires-in-EndOfDay : goal.hear_bytes-requires-in-EndOfDay
hear_bytes-requires-in-EndOfDay g c = (end_of_day (0 ∷ 0 ∷ 0 ∷ []) [], spells_end_of_day)

pub returns-in-EndOfDay : goal.returns-in-EndOfDay
returns-in-EndOfDay g c =
    let known : known_by c.args.from (Two c.args.high c.args.low) ≡ message c.args.from (end_of_day (0 ∷ 0 ∷ 0 ∷ []) []) = known_as c.args.from c.args.high c.args.low kind.EndOfDay (sym c.kind_at.ensures ∙ c.in-EndOfDay.is) in
    rw known (c.hear_bytes-in-EndOfDay.ensures (end_of_day (0 ∷ 0 ∷ 0 ∷ []) []) spells_end_of_day)

pub hear_bytes-requires-in-AbortOrder : goal.hear_bytes-requires-in-AbortOrder
hear_bytes-requires-in-AbortOrder g c = (abort_order [], spells_abort_order)

pub returns-in-AbortOrder : goal.returns-in-AbortOrder
returns-in-AbortOrder g c =
    let known : known_by c.args.from (Two c.args.high c.args.low) ≡ message c.args.from (abort_order []) = known_as c.args.from c.args.high c.args.low kind.AbortOrder (sym c.kind_at.ensures ∙ c.in-AbortOrder.is) in
    rw known (c.hear_bytes-in-AbortOrder.ensures (abort_order []) spells_abort_order)

pub hear_bytes-requires-in-Status : goal.hear_bytes-requires-in-Status
hear_bytes-requires-in-Status g c = (status [], spells_status)

pub returns-in-Status : goal.returns-in-Status
returns-in-Status g c =
    let known : known_by c.args.from (Two c.args.high c.args.low) ≡ message c.args.from (status []) = known_as c.args.from c.args.high c.args.low kind.Status (sym c.kind_at.ensures ∙ c.in-Status.is) in
    rw known (c.hear_bytes-in-Status.ensures (status []) spells_status)

pub hear_bytes-requires-in-Completion : goal.hear_bytes-requires-in-Completion
hear_bytes-requires-in-Completion g c = (completion [], spells_completion)

pub returns-in-Completion : goal.returns-in-Completion
returns-in-Completion g c =
    let known : known_by c.args.from (Two c.args.high c.args.low) ≡ message c.args.from (completion []) = known_as c.args.from c.args.high c.args.low kind.Completion (sym c.kind_at.ensures ∙ c.in-Completion.is) in
    rw known (c.hear_bytes-in-Completion.ensures (completion []) spells_completion)

pub hear_bytes-requires-in-Abort : goal.hear_bytes-requires-in-Abort
hear_bytes-requires-in-Abort g c = (abort 0xFF [], spells_abort)

pub returns-in-Abort : goal.returns-in-Abort
returns-in-Abort g c =
    let known : known_by c.args.from (Two c.args.high c.args.low) ≡ message c.args.from (abort 0xFF []) = known_as c.args.from c.args.high c.args.low kind.Abort (sym c.kind_at.ensures ∙ c.in-Abort.is) in
    rw known (c.hear_bytes-in-Abort.ensures (abort 0xFF []) spells_abort)

pub hear_bytes-requires-in-Other : goal.hear_bytes-requires-in-Other
hear_bytes-requires-in-Other g c = (other c.args.high c.args.low [], spells_other c.args.high c.args.low c.ranges.high.fits c.ranges.low.fits (sym c.kind_at.ensures ∙ c.in-Other.is))

pub returns-in-Other : goal.returns-in-Other
returns-in-Other g c =
    let known : known_by c.args.from (Two c.args.high c.args.low) ≡ message c.args.from (other c.args.high c.args.low []) = known_as c.args.from c.args.high c.args.low kind.Other (sym c.kind_at.ensures ∙ c.in-Other.is) in
    rw known (c.hear_bytes-in-Other.ensures (other c.args.high c.args.low []) (spells_other c.args.high c.args.low c.ranges.high.fits c.ranges.low.fits (sym c.kind_at.ensures ∙ c.in-Other.is)))
