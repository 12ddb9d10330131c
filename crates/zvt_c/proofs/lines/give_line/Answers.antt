use Rattle.std.proofs.Common.{◌≡◌, ℕ, zero, suc, ◌<◌, Option, Some, refl, sym, ap, subst, arith, ◌∙◌}
use Rattle.std.specs.Option.{option_copied}
use Rattle.zvt_text.specs.declared.codepages.Codepage.{Codepage}
use Rattle.zvt_c.specs.Lines.{given, in_page, no_memory, page_of}
use Rattle.zvt_c.specs.Saving.{Written}
use Rattle.zvt_c.proofs.lines.give_line.Goals as goal
use Rattle.zvt_c.proofs.lines.give_line.Goals.{in-None, in-Some-page_of+in-Some-put_decoded}

-- a number that names a code page is not 0
paged : (n : ℕ) (page : Codepage) → page_of n ≡ Some page → 0 < n
paged zero page e = absurd (cc (e))
paged (suc n) page e = omega arith

pub returns-in-None-put_decoded : goal.returns-in-None-put_decoded
returns-in-None-put_decoded c =
    no_memory c.in-Some.apdu c.in-Some-line_in.text.now c.in-Some.is (sym c.line_in.ensures ∙ ap option_copied c.in-Some-line_in.is)
    (paged c.args.codepage c.in-Some-page_of.codepage (sym c.page_of.ensures ∙ c.in-Some-page_of.is)) c.in-None-put_decoded.ensures.none refl refl

pub returns : goal.returns
returns c =
    let found = sym c.line_in.ensures ∙ ap option_copied c.in-Some-line_in.is in
    elim c.match-page_of.branch [
      | in-None w ↦ given c.in-Some.apdu c.in-Some-line_in.text.now c.in-Some.is found
          (rw (w.buffer-is, w.size-is) (subst (λ (page : Option Codepage). Written (in_page page c.in-Some-line_in.text.now) w.put-size.result c.args.buffer.now w.put-size.new.buffer) (sym w.in-None.is ∙ c.page_of.ensures) w.put-size.ensures)) c.copy_in.ensures refl
      | in-Some-page_of+in-Some-put_decoded w ↦ given c.in-Some.apdu c.in-Some-line_in.text.now c.in-Some.is found
          (rw (w.buffer-is, w.size-is) (subst (λ (page : Option Codepage). Written (in_page page c.in-Some-line_in.text.now) w.in-Some-put_decoded.size c.args.buffer.now w.put_decoded.new.buffer) (sym w.in-Some-page_of.is ∙ c.page_of.ensures) w.in-Some-put_decoded.ensures.some)) c.copy_in.ensures refl
    ]
