-- What the loop of `read_elements` keeps.
use Rattle.std.proofs.Common.{◌≡◌, drop, map, []}
use Rattle.serde_json.specs.View.{view}
use Rattle.kr_config.specs.Walk.{walk, element_step}
use Rattle.kr_config.proofs.read_entry.read_elements.Given as goal

abbrev pub invariant-loop-element : goal.invariant-loop-element
invariant-loop-element l = walk (element_step l.counts l.entry) 0 [] (map view l.elements)
    ≡ walk (element_step l.counts l.entry) l.item l.providers.0
    (map view (drop l.element-index l.elements))
