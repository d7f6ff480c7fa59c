use Rattle.std.proofs.Common.{◌≡◌, ◌+◌, ◌-◌, ◌/◌, arith, sym, ap, get_or, ◌∙◌}
use Rattle.kr_paths.specs.Paths.{path_cmp}
use Rattle.kr_paths.proofs.Searches.{looks_less, looks_greater, looks_equal}
use Rattle.kr_paths.proofs.part.PathPart.find.Goals as goal

pub loop-low-preserved-in-Less : goal.loop-low-preserved-in-Less
loop-low-preserved-in-Less c = looks_less c.args.path.now c.args.self.now c.loop-low.low c.loop-low.high (c.loop-low.low + (c.loop-low.high - c.loop-low.low) / 2) c.index.result.now c.loop-low.invariant (omega arith) (omega arith)
    (ap (λ e. path_cmp c.args.path.now e.0) (sym (c.index.ensures ∙ ap (λ l. get_or l (c.loop-low.low + (c.loop-low.high - c.loop-low.low) / 2) c.index.result.now) c.self.view_is)) ∙ ap (path_cmp c.args.path.now) (sym c.as_str.ensures) ∙ sym c.cmp.ensures ∙ c.in-Less.is)

pub returns-in-Equal : goal.returns-in-Equal
returns-in-Equal c = looks_equal c.args.path.now c.args.self.now c.loop-low.low c.loop-low.high (c.loop-low.low + (c.loop-low.high - c.loop-low.low) / 2) c.index.result.now c.loop-low.invariant (omega arith) (omega arith)
    (ap (λ e. path_cmp c.args.path.now e.0) (sym (c.index.ensures ∙ ap (λ l. get_or l (c.loop-low.low + (c.loop-low.high - c.loop-low.low) / 2) c.index.result.now) c.self.view_is)) ∙ ap (path_cmp c.args.path.now) (sym c.as_str.ensures) ∙ sym c.cmp.ensures ∙ c.in-Equal.is)

pub loop-low-preserved : goal.loop-low-preserved
loop-low-preserved c = looks_greater c.args.path.now c.args.self.now c.loop-low.low c.loop-low.high (c.loop-low.low + (c.loop-low.high - c.loop-low.low) / 2) c.index.result.now c.loop-low.invariant (omega arith) (omega arith)
    (ap (λ e. path_cmp c.args.path.now e.0) (sym (c.index.ensures ∙ ap (λ l. get_or l (c.loop-low.low + (c.loop-low.high - c.loop-low.low) / 2) c.index.result.now) c.self.view_is)) ∙ ap (path_cmp c.args.path.now) (sym c.as_str.ensures) ∙ sym c.cmp.ensures ∙ c.in-Greater.is)
