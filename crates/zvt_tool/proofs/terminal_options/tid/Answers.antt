use Rattle.std.proofs.Common.{◌≡◌, arith, codes, refl, ℕ, None, Option, Some}
use Rattle.std.specs.Str.Parse.{ParsesUnsigned, ExplainsUnsignedError, HasUnsignedDigitsIfOk}
use Rattle.clap.specs.Matches.{ReadsOne, found_of, one_text}
use Rattle.clap.specs.Walk.{Text, rows_of}
use Rattle.clap.specs.declared.parser.matches.Found.{Found}
use Rattle.zvt_tool.specs.Given.{IsNumberOf}
use Rattle.zvt_tool.proofs.Reading.{none_under, number_read, some_over, some_under}
use Rattle.zvt_tool.proofs.terminal_options.tid.Goals as goal

read : (f : Found) (r : Option ℕ) → (one_text f (codes "tid") ≡ None → r ≡ None)
    → ((t : Text) → one_text f (codes "tid") ≡ Some t
    → ReadsOne (λ bs r. ParsesUnsigned 32 10 bs r × ExplainsUnsignedError 10 bs r × HasUnsignedDigitsIfOk bs r) t r)
    → IsNumberOf (codes "tid") (rows_of f) 4294967295 r
read f r none value =
    number_read (λ bs r. ParsesUnsigned 32 10 bs r × ExplainsUnsignedError 10 bs r × HasUnsignedDigitsIfOk bs r)
    32 4294967295 f (codes "tid") r (λ t n given. given.0) refl none value

pub returns-in_err-tid : goal.returns-in_err-tid
returns-in_err-tid c =
    let f = found_of c.args.inner.now in
    let known = read f c.get_one.result c.get_one.ensures.none c.get_one.ensures.value in
    rw c.from_residual.ensures (none_under (codes "tid") (rows_of f) 99999999 4294967295 c.get_one.result known c.in_err-tid.was (omega arith))

pub returns-then-tid-le-LARGEST_TID : goal.returns-then-tid-le-LARGEST_TID
returns-then-tid-le-LARGEST_TID c =
    let f = found_of c.args.inner.now in
    let known = read f c.get_one.result c.get_one.ensures.none c.get_one.ensures.value in
    some_under (codes "tid") (rows_of f) 99999999 4294967295 c.in_ok-tid.tid c.get_one.result known c.in_ok-tid.was c.if-tid-le-LARGEST_TID.true

pub returns-else-tid-le-LARGEST_TID : goal.returns-else-tid-le-LARGEST_TID
returns-else-tid-le-LARGEST_TID c =
    let f = found_of c.args.inner.now in
    let known = read f c.get_one.result c.get_one.ensures.none c.get_one.ensures.value in
    some_over (codes "tid") (rows_of f) 99999999 4294967295 c.in_ok-tid.tid c.get_one.result known c.in_ok-tid.was c.if-tid-le-LARGEST_TID.false
