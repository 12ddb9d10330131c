-- Where each form of length is taken, none is refused as too long a form.
use Rattle.std.proofs.Common.{◌≡◌, ℕ, ◌+◌, ◌*◌, ◌==◌, nat_le, nat_lt, cond, Bool, true, false, Option, Some, None, arith}
use Rattle.std.proofs.lemmas.Bool.{le-leb}
use Rattle.zvt_grammar.specs.declared.why.Why.{Why}
use Rattle.zvt_grammar.specs.declared.why.Why.TheVariants.{NotShortest, DoesNotFit, LengthForm, TooDeep, TagTooLong, NotDigit, LengthDigit}
use Rattle.zvt_grammar.specs.Reading.{padded}
use Rattle.zvt_grammar.specs.Tests.{check}
use Rattle.zvt_tlv.specs.Judging as object
use Rattle.zvt_field.specs.declared.shapes.Shape.{Shape}
use Rattle.zvt_field.specs.Shapes.{shape_of}
use Rattle.zvt_field.specs.Judging as field
use Rattle.zvt_apdu.specs.Judging.{Role, first_control, second_control, first_size, low_size, high_size, free, digit, in_fields, fault}
use Rattle.zvt_apdu.specs.Laws.{NeverNotShortest}

abbrev IsOther : Option Why → Type 0
IsOther o = o ≡ Some NotShortest → ⊥

none : IsOther None
none e = cc (e)

length_form : IsOther (Some LengthForm)
length_form e = cc (e)

checked : (b : Bool) (w : Why) (o : Option Why) → IsOther (Some w) → IsOther o → IsOther (check b w o)
checked true w o p q = q
checked false w o p q = p

passed : (b : Bool) (o : Option Why) → b ≡ true → IsOther o → IsOther (check b NotShortest o)
passed true o t q = q
passed false o t q = absurd (cc (t))

either : (b : Bool) (o p : Option Why) → IsOther o → IsOther p → IsOther (cond b o p)
either true o p q r = q
either false o p q r = r

fits : (b : Bool) → IsOther (check b DoesNotFit None)
fits b = checked b DoesNotFit None (λ e. cc (e)) none

no_less : (x : ℕ) → nat_le 0 x ≡ true
no_less x = le-leb 0 x (omega arith)

long_other : (nests : Bool) (left from bytes : ℕ) → IsOther (object.long_form padded nests left from bytes)
long_other nests left from bytes = fits _

object_other : (depth : ℕ) (role : object.Role) (left x : ℕ) → IsOther (object.fault padded depth role left x)
object_other d object.first_tag left x = checked _ TooDeep _ (λ e. cc (e)) (fits _)
object_other d (object.second_tag nests) left x = fits _
object_other d (object.third_tag nests) left x = checked _ TagTooLong None (λ e. cc (e)) none
object_other d (object.first_length nests) left x =
    either (nat_lt x 128) _ _ (fits (object.content_fits nests x left))
    (either (x == 0x81) _ _ (long_other nests left 128 1) (either (x == 0x82) _ _ (long_other nests left 256 2) length_form))
object_other d (object.after_81 nests) left x = passed _ _ (no_less x) (fits _)
object_other d (object.high_length nests) left x = passed _ _ (no_less x) (fits _)
object_other d (object.low_length nests high) left x = fits _
object_other d object.in_content left x = none

name_other : (o : Option Shape) (left : ℕ) → IsOther (field.name_fault padded o left)
name_other None left = λ e. cc (e)
name_other (Some s) left = fits _

field_other : (role : field.Role) (left x : ℕ) → IsOther (field.fault padded role left x)
field_other field.name left x = name_other (shape_of x) left
field_other (field.digit more before) left x = checked _ LengthDigit _ (λ e. cc (e)) (fits _)
field_other (field.in_content true) left x = checked _ NotDigit None (λ e. cc (e)) none
field_other (field.in_content false) left x = none
field_other (field.in_container at role) left x = object_other at role left x

message_other : (role : Role) (x : ℕ) → IsOther (fault padded role x)
message_other first_control x = none
message_other second_control x = none
message_other (first_size high low) x = either _ _ _ none (fits _)
message_other (low_size high low) x = none
message_other (high_size high low size_low) x = passed _ _ (no_less (256 * x + size_low)) (fits _)
message_other free x = none
message_other digit x = checked _ NotDigit None (λ e. cc (e)) none
message_other (in_fields role left) x = field_other role left x

pub never_not_shortest : NeverNotShortest
never_not_shortest bytes place w = message_other w.role w.byte w.fails
