-- `end_outfits`: each turn ends the last one's links, of which there are none.
use Rattle.std.proofs.Common.{◌∙◌, ap, arith, length}
use Rattle.std.proofs.lemmas.List.{length_push}
use Rattle.kr_cmd_gen.proofs.Generating.{bare_front, bare_last}
use Rattle.kr_cmd_gen.proofs.loads.end_outfits.Goals as goal

pub loop-outfit-init : goal.loop-outfit-init
loop-outfit-init g c = c.requires.bare

pub end-requires : goal.end-requires
end-requires g c = bare_last c.loop-outfit.outfits.0 c.pop.new.self.0 c.in-Some.outfit
    c.in-Some.ensures.items c.loop-outfit.invariant

pub loop-outfit-preserved : goal.loop-outfit-preserved
loop-outfit-preserved g c = bare_front c.loop-outfit.outfits.0 c.pop.new.self.0 c.in-Some.outfit
    c.in-Some.ensures.items c.loop-outfit.invariant

pub loop-outfit-smaller : goal.loop-outfit-smaller
loop-outfit-smaller g c = omega (
  arith,
  ap length c.in-Some.ensures.items ∙ length_push c.pop.new.self.0 c.in-Some.outfit,
)
