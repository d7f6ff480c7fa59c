-- What the loop of `read_each_key` keeps.
use Rattle.std.proofs.Common.{◌≡◌, drop, map}
use Rattle.serde_json.specs.View.{view}
use Rattle.kr_config.specs.Walk.{walk_each, key_step}
use Rattle.kr_config.proofs.read_element.read_each_key.Given as goal

abbrev pub invariant-loop-key : goal.invariant-loop-key
invariant-loop-key l = walk_each (key_step l.cipher l.counted l.place) l.initial.before.0
    (map view l.keys) ≡ walk_each (key_step l.cipher l.counted l.place) l.before.0
    (map view (drop l.key-index l.keys))
