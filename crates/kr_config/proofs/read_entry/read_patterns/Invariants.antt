-- What the loop of `read_patterns` keeps.
use Rattle.std.proofs.Common.{◌≡◌, drop, map, []}
use Rattle.serde_json.specs.View.{view}
use Rattle.kr_config.specs.Walk.{walk, pattern_step}
use Rattle.kr_config.proofs.read_entry.read_patterns.Given as goal

abbrev pub invariant-loop-text : goal.invariant-loop-text
invariant-loop-text l = walk (pattern_step l.counted l.entry) 0 [] (map view l.texts)
    ≡ walk (pattern_step l.counted l.entry) l.item l.patterns.0
    (map view (drop l.text-index l.texts))
