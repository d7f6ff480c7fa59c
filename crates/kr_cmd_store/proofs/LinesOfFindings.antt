-- The lines of what rows are found to be, one behind another.
use Rattle.std.proofs.Common.{◌≡◌, ℕ, zero, suc, ◌+◌, ◌<◌, List, [], ◌∷◌, ◌++◌, length, take, get_or, append_assoc, append-nil, sym, ◌∙◌, ap, arith, add-one}
use Rattle.kr_store.specs.declared.rows.Row.{Row}
use Rattle.kr_cmd_steps.specs.RowFindings.{finding_lines, finding_text}
use Rattle.kr_cmd_steps.specs.RowLines.{row_line}
use Rattle.kr_cmd_steps.specs.declared.finding.Finding.{Finding}

line_more : (rows : List Row) (findings : List Finding) (at : ℕ) (row : Row) (finding : Finding)
    → at < length rows → at < length findings
    → finding_lines (take (suc at) rows) (take (suc at) findings)
    ≡ finding_lines (take at rows) (take at findings)
    ++ row_line (get_or rows at row) (finding_text (get_or findings at finding))
line_more [] findings at row finding a b = absurd (omega (arith, a))
line_more (first ∷ rows) [] at row finding a b = absurd (omega (arith, b))
line_more (first ∷ rows) (own ∷ findings) zero row finding a b =
    append-nil (row_line first (finding_text own))
line_more (first ∷ rows) (own ∷ findings) (suc at) row finding a b =
    ap (λ l. row_line first (finding_text own) ++ l)
    (line_more rows findings at row finding (omega (arith, a)) (omega (arith, b)))
    ∙ sym (append_assoc (row_line first (finding_text own))
    (finding_lines (take at rows) (take at findings))
    (row_line (get_or rows at row) (finding_text (get_or findings at finding))))

-- one line more
pub lines_more : (rows : List Row) (findings : List Finding) (at : ℕ) (row shown : Row)
    (finding : Finding) (old before new : List ℕ) → at < length rows → at < length findings
    → shown ≡ get_or rows at row
    → new ≡ before ++ row_line shown (finding_text (get_or findings at finding))
    → before ≡ old ++ finding_lines (take at rows) (take at findings)
    → new ≡ old ++ finding_lines (take (at + 1) rows) (take (at + 1) findings)
lines_more rows findings at row shown finding old before new a b is added so_far =
    let text = finding_text (get_or findings at finding) in
    let lines = finding_lines (take at rows) (take at findings) in
    added ∙ ap (λ r. before ++ row_line r text) is
    ∙ ap (λ l. l ++ row_line (get_or rows at row) text) so_far
    ∙ append_assoc old lines (row_line (get_or rows at row) text)
    ∙ ap (λ l. old ++ l) (sym (line_more rows findings at row finding a b))
    ∙ ap (λ n. old ++ finding_lines (take n rows) (take n findings)) (sym (add-one at))
