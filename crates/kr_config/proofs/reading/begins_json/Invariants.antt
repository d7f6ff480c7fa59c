-- What the loop of `begins_json` keeps.
use Rattle.std.proofs.Common.{◌≡◌, drop}
use Rattle.kr_config.specs.Meanings.{begins_json}
use Rattle.kr_config.proofs.reading.begins_json.Given as goal

abbrev pub invariant-loop-byte : goal.invariant-loop-byte
invariant-loop-byte l = begins_json l.bytes ≡ begins_json (drop l.byte-index l.bytes)
