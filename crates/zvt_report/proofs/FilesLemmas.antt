-- One more file of a page.
use Rattle.std.proofs.Common.{◌≡◌, ℕ, ◌+◌, List, [], ◌∷◌, ◌++◌, Option, Some, None, codes, length, refl, sym, ◌∙◌, ap, ap₂, append_assoc, append-nil, subst, arith}
use Rattle.zvt_page.specs.Html.{Html, render}
use Rattle.zvt_page.specs.Document.{document_end, document_start}
use Rattle.std.specs.List.{cons_option}
use Rattle.zvt_report.specs.Files.{AddsFile, FileReport, HasFiles, file_section, file_sections, files_page, index, index_row, index_rows, index_with, net_in, nets_of, page_with}
use Rattle.zvt_report.specs.declared.net_sum.Net.{Net}
use Rattle.zvt_report.specs.declared.files.FilesPage.{FilesPage}

-- one more row comes last
row_last : (place last : ℕ) (files : List FileReport) (file : FileReport) → last ≡ place + (length files + 1) → render (index_rows place (files ++ file ∷ [])) ≡ render (index_rows place files) ++ render (index_row last file)
row_last place last [] file is =
    let one : place + 1 ≡ last = omega (arith, is) in
    ap (λ (p : ℕ). render (index_row p file) ++ []) one ∙ append-nil (render (index_row last file))
row_last place last (first ∷ files) file is =
    ap (λ (text : List ℕ). render (index_row (place + 1) first) ++ text) (row_last (place + 1) last files file (omega (arith, is)))
    ∙ sym (append_assoc (render (index_row (place + 1) first)) (render (index_rows (place + 1) files)) (render (index_row last file)))

-- and one more report
section_last : (place last : ℕ) (files : List FileReport) (file : FileReport) → last ≡ place + (length files + 1) → render (file_sections place (files ++ file ∷ [])) ≡ render (file_sections place files) ++ render (file_section last file)
section_last place last [] file is =
    let one : place + 1 ≡ last = omega (arith, is) in
    ap (λ (p : ℕ). render (file_section p file) ++ []) one ∙ append-nil (render (file_section last file))
section_last place last (first ∷ files) file is =
    ap (λ (text : List ℕ). render (file_section (place + 1) first) ++ text) (section_last (place + 1) last files file (omega (arith, is)))
    ∙ sym (append_assoc (render (file_section (place + 1) first)) (render (file_sections (place + 1) files)) (render (file_section last file)))

-- and one more net total, if there is a report
net_last : (files : List FileReport) (file : FileReport) → nets_of (files ++ file ∷ []) ≡ nets_of files ++ cons_option (net_in file) []
net_last [] file = refl
net_last (first ∷ files) file = by (net_in first) (net_last files file)
  where
    by : (o : Option Net) → nets_of (files ++ file ∷ []) ≡ nets_of files ++ cons_option (net_in file) [] → cons_option o (nets_of (files ++ file ∷ [])) ≡ cons_option o (nets_of files) ++ cons_option (net_in file) []
    by None later = later
    by (Some net) later = ap (λ (nets : List Net). net ∷ nets) later

-- its row, its report and its net total were written
pub added : (old new : FilesPage) (place : ℕ) (file : FileReport) → new.index ≡ old.index ++ render (index_row place file) → new.reports ≡ old.reports ++ render (file_section place file)
    → new.nets.items ≡ old.nets.items ++ cons_option (net_in file) [] → AddsFile old place file new
added old new place file row report net files has is =
    let last : place ≡ 0 + (length files + 1) = omega (arith, is) in record {
      index = row ∙ ap (λ (text : List ℕ). text ++ render (index_row place file)) has.index ∙ sym (row_last 0 place files file last);
      reports = report ∙ ap (λ (text : List ℕ). text ++ render (file_section place file)) has.reports ∙ sym (section_last 0 place files file last);
      nets = net ∙ ap (λ (nets : List Net). nets ++ cons_option (net_in file) []) has.nets ∙ sym (net_last files file);
    }

-- ---- the whole page

pub page_of : (files : List FileReport) (page : FilesPage) → HasFiles files page → page_with page.index page.nets.items page.reports ≡ files_page files
unfolding index index_with page_with
page_of files page has = ap₂ (λ (rows reports : List ℕ). page_with rows page.nets.items reports) has.index has.reports ∙ ap (λ (nets : List Net). page_with (render (index_rows 0 files)) nets (render (file_sections 0 files))) has.nets ∙ spelled
  where
    spelled : page_with (render (index_rows 0 files)) (nets_of files) (render (file_sections 0 files)) ≡ files_page files
    spelled = simp (append_assoc) refl
