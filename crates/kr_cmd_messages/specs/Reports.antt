-- What `rewrite` reports.
use Rattle.std.specs.Prelude.{ℕ, ◌==◌, List, ◌++◌, codes, decimal, if◌then◌else◌}
use Rattle.kr_cmd_messages.specs.declared.refusal.Done.{Done}
use Rattle.kr_cmd_messages.specs.declared.refusal.Done.TheVariants.{Silent, Blocked}
use Rattle.kr_cmd_messages.specs.declared.refusal.Outcome.{Outcome}
use Rattle.kr_cmd_messages.specs.declared.report.RewriteCounts.{RewriteCounts}

abbrev pub count_line : (word : List ℕ) → ℕ → List ℕ
count_line word n = word ++ (codes " " ++ (decimal n ++ codes "\n"))

abbrev pub report_text : RewriteCounts → List ℕ
report_text counts = count_line (codes "rewritten") counts.rewritten
    ++ (count_line (codes "fresh") counts.fresh
    ++ (count_line (codes "changed") counts.changed ++ count_line (codes "left") counts.left))

-- rows that were left have a status of their own
abbrev pub report_done : RewriteCounts → Done
report_done counts = if counts.left == 0 then Silent else Blocked

abbrev pub report_outcome : RewriteCounts → Outcome
report_outcome counts = record { bytes = report_text counts; done = report_done counts }
