-- The file isn't among those so far.
use Rattle.std.proofs.Common.{◌≡◌, drop}
use Rattle.kr_workers.specs.Files.{rows_at}
use Rattle.kr_workers.proofs.files.file_settings.Given as goal

abbrev pub invariant-loop-file : goal.invariant-loop-file
invariant-loop-file l =
    rows_at l.files l.name ≡ rows_at (drop l.file-index l.files) l.name
