-- `KeyPages::words`: the number out at a place is one of the pool.
use Rattle.std.proofs.Common.{ap, ◌∙◌, slice_index_or}
use Rattle.kr_pages.specs.Pool.{is_free}
use Rattle.kr_provider.proofs.Stacks.{place_out}
use Rattle.kr_provider.proofs.key_pages.KeyPages.words.Goals as goal

pub words-requires-clause-out : goal.words-requires-clause-out
words-requires-clause-out c =
    let lt = rw (← c.self.view_is) at c.requires in
    ap (is_free c.self.inside.pool) (c.index-as_slice-place.is
    ∙ ap (λ l. slice_index_or l c.args.place c.index-as_slice-place.result) c.as_slice.ensures)
    ∙ place_out (record { pool = c.self.inside.pool; out = c.self.inside.out.0 }) c.args.place
    c.index-as_slice-place.result c.self.invariant.0 lt
