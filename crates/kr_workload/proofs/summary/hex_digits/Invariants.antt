-- `hex_digits`: the digits of the bytes so far, and of the others.
use Rattle.std.proofs.Common.{◌≡◌, ◌++◌, drop}
use Rattle.std.specs.String.{string_bytes}
use Rattle.kr_workload.specs.Summaries.{hex_text}
use Rattle.kr_workload.proofs.summary.hex_digits.Given as goal

abbrev pub invariant-loop-byte : goal.invariant-loop-byte
invariant-loop-byte l =
    string_bytes l.text ++ hex_text (drop l.byte-index l.bytes) ≡ hex_text l.bytes
