-- What `verify` writes of a store.
use Rattle.std.specs.Prelude.{ℕ, ◌==◌, Bool, true, false, List, [], ◌∷◌, ◌++◌, codes, decimal, Result, Ok, Err, if◌then◌else◌}
use Rattle.std.specs.List.{count_by}
use Rattle.kr_provider.specs.Refusals.{number_of, name_of}
use Rattle.kr_provider.specs.declared.refusal.Opened.{Opened}
use Rattle.kr_provider.specs.declared.refusal.ValueNo.{ValueNo}
use Rattle.kr_store.specs.declared.rows.Row.{Row}
use Rattle.kr_cmd_messages.specs.Reports.{count_line}
use Rattle.kr_cmd_messages.specs.declared.refusal.Done as done
use Rattle.kr_cmd_messages.specs.declared.refusal.Done.TheVariants.{Silent, Blocked}
use Rattle.kr_cmd_messages.specs.declared.refusal.Outcome.{Outcome}
use Rattle.kr_cmd_steps.specs.RowLines.{row_line}
use Rattle.kr_cmd_steps.specs.declared.finding.Finding.{Finding}
use Rattle.kr_cmd_steps.specs.declared.finding.Finding.TheVariants.{Fresh, Stale, Refused}

-- what a value is found to be by its reading; its data are let go
abbrev pub finding_of : Result Opened ValueNo → Finding
finding_of (Ok opened) = if opened.stale then Stale else Fresh
finding_of (Err why) = Refused why

-- `fresh`, `stale`, or `refused N NAME`
abbrev pub finding_text : Finding → List ℕ
finding_text Fresh = codes "fresh"
finding_text Stale = codes "stale"
finding_text (Refused why) =
    codes "refused " ++ (decimal (number_of why) ++ (codes " " ++ name_of why))

-- `REVISION RESOURCE PATH` and the finding, a line for each row
abbrev pub finding_lines : List Row → List Finding → List ℕ
finding_lines (row ∷ rows) (finding ∷ findings) =
    row_line row (finding_text finding) ++ finding_lines rows findings
finding_lines rows findings = []

abbrev pub found_fresh : Finding → Bool
found_fresh Fresh = true
found_fresh finding = false

abbrev pub is_stale : Finding → Bool
is_stale Stale = true
is_stale finding = false

abbrev pub is_refused : Finding → Bool
is_refused (Refused why) = true
is_refused finding = false

-- how many values are of each kind
abbrev pub count_lines : List Finding → List ℕ
count_lines findings = count_line (codes "fresh") (count_by found_fresh findings)
    ++ (count_line (codes "stale") (count_by is_stale findings)
    ++ count_line (codes "refused") (count_by is_refused findings))

-- values that are refused have a status of their own
abbrev pub findings_done : List Finding → done.Done
findings_done findings = if count_by is_refused findings == 0 then Silent else Blocked

abbrev pub findings_outcome : List Row → List Finding → Outcome
findings_outcome rows findings = record {
  bytes = finding_lines rows findings ++ count_lines findings;
  done = findings_done findings;
}
