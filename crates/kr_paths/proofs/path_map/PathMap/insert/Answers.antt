use Rattle.std.proofs.Common.{◌≡◌, ◌+◌, ℕ, length, sym, subst, ap, ◌∙◌}
use Rattle.std.specs.Prelude.{IsSome, slice_set}
use Rattle.std.specs.Map.{lookup}
use Rattle.std.specs.BTreeMap.{insert_entry, is_at}
use Rattle.kr_paths.specs.Paths.{path_cmp, AreSorted}
use Rattle.kr_paths.specs.inner.Parts.{AreParts, IsSpot, joined, with_number}
use Rattle.kr_paths.proofs.Orders.{sorted_put}
use Rattle.kr_paths.proofs.Joins.{put_there, put_length, there_kept, there_if, not_both}
use Rattle.kr_paths.proofs.path_map.PathMap.insert.Goals as goal

pub invariant_of-self-then-spot : goal.invariant_of-self-then-spot
invariant_of-self-then-spot c = subst (λ l. AreParts (slice_set c.self.inside.parts.items c.find-spot.result.part l) × (c.self.inside.count ≡ length (joined (slice_set c.self.inside.parts.items c.find-spot.result.part l))))
    (sym (c.set_number.ensures ∙ ap (λ l. with_number l c.find-spot.result.place c.args.number) c.index_mut.ensures.value))
    (there_kept c.args.path c.self.inside.parts.items c.find-spot.result c.index_mut.result.now c.args.number c.self.inside.count
    (subst (λ l. IsSpot c.args.path l c.find-spot.result) c.as_slice.ensures.value (subst (λ p. IsSpot p c.as_slice.result.now c.find-spot.result) c.as_str.ensures c.find-spot.ensures))
    c.if-spot.true c.self.invariant.0 c.self.invariant.1)

pub returns-then-spot-clause-ok : goal.returns-then-spot-clause-ok
returns-then-spot-clause-ok c =
    ap (λ l. joined (slice_set c.self.inside.parts.items c.find-spot.result.part l)) (c.set_number.ensures ∙ ap (λ l. with_number l c.find-spot.result.place c.args.number) c.index_mut.ensures.value)
    ∙ put_there c.args.path c.self.inside.parts.items c.find-spot.result c.index_mut.result.now c.args.number
    (subst (λ l. IsSpot c.args.path l c.find-spot.result) c.as_slice.ensures.value (subst (λ p. IsSpot p c.as_slice.result.now c.find-spot.result) c.as_str.ensures c.find-spot.ensures)) c.if-spot.true
    ∙ ap (λ l. insert_entry path_cmp l c.args.path c.args.number) c.self.view_is

pub returns-then-spot-clause-sorted : goal.returns-then-spot-clause-sorted
returns-then-spot-clause-sorted c = subst AreSorted
    (sym (ap (λ l. joined (slice_set c.self.inside.parts.items c.find-spot.result.part l)) (c.set_number.ensures ∙ ap (λ l. with_number l c.find-spot.result.place c.args.number) c.index_mut.ensures.value)
    ∙ put_there c.args.path c.self.inside.parts.items c.find-spot.result c.index_mut.result.now c.args.number
    (subst (λ l. IsSpot c.args.path l c.find-spot.result) c.as_slice.ensures.value (subst (λ p. IsSpot p c.as_slice.result.now c.find-spot.result) c.as_str.ensures c.find-spot.ensures)) c.if-spot.true))
    (sorted_put (joined c.self.inside.parts.items) c.args.path c.args.number c.self.invariant.0.1)

pub returns-then-self-clause-there : goal.returns-then-self-clause-there
returns-then-self-clause-there c some = absurd (not_both c.find-spot.result.there
    (there_if c.args.path c.self.inside.parts.items c.find-spot.result
    (subst (λ l. IsSpot c.args.path l c.find-spot.result) c.as_slice.ensures.value (subst (λ p. IsSpot p c.as_slice.result.now c.find-spot.result) c.as_str.ensures c.find-spot.ensures))
    (subst (λ l. IsSome (lookup (is_at (path_cmp c.args.path)) l)) (sym c.self.view_is) some)) c.if-spot.false)

pub put_new-requires-clause-spot : goal.put_new-requires-clause-spot
put_new-requires-clause-spot c = subst (λ l. IsSpot c.args.path l c.find-spot.result) c.as_slice.ensures.value (subst (λ p. IsSpot p c.as_slice.result.now c.find-spot.result) c.as_str.ensures c.find-spot.ensures)

pub returns-in_err-put_new-clause-there : goal.returns-in_err-put_new-clause-there
returns-in_err-put_new-clause-there c some = absurd (not_both c.find-spot.result.there
    (there_if c.args.path c.self.inside.parts.items c.find-spot.result
    (subst (λ l. IsSpot c.args.path l c.find-spot.result) c.as_slice.ensures.value (subst (λ p. IsSpot p c.as_slice.result.now c.find-spot.result) c.as_str.ensures c.find-spot.ensures))
    (subst (λ l. IsSome (lookup (is_at (path_cmp c.args.path)) l)) (sym c.self.view_is) some)) c.if-spot.false)

pub invariant_of-self-2 : goal.invariant_of-self-2
invariant_of-self-2 c = (
  c.put_new.ensures.parts,
  ap (λ n. n + 1) c.self.invariant.1
      ∙ sym (ap length c.in_ok-put_new.ensures.ok ∙ put_length c.args.path c.self.inside.parts.items c.find-spot.result c.args.number
      (subst (λ l. IsSpot c.args.path l c.find-spot.result) c.as_slice.ensures.value (subst (λ p. IsSpot p c.as_slice.result.now c.find-spot.result) c.as_str.ensures c.find-spot.ensures)) c.if-spot.false),
)
