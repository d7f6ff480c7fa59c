use Rattle.std.proofs.Common.{true, cond, sym, ap, ◌∙◌, ◌++◌, ◌∷◌, []}
use Rattle.std.specs.List.{list_any}
use Rattle.std.specs.Str.{bytes_eq}
use Rattle.std.specs.Ordering.{nat_cmp, is_eq}
use Rattle.std.specs.Cmp.Lexicographic.{slice_cmp}
use Rattle.std.specs.BTreeSet.{contains}
use Rattle.kr_yaml.specs.Forms.{keys}
use Rattle.kr_yaml.specs.Shown.{member_views}
use Rattle.kr_yaml.proofs.KeySets.{with_key, key_push}
use Rattle.kr_yaml.proofs.open_mapping.OpenMapping.add.Goals as goal

pub invariant_of-result : goal.invariant_of-result
invariant_of-result c = record {
  known = λ k.
      c.in-Ok-insert.ensures.updates.0 k
      ∙ ap (λ key. cond (is_eq (slice_cmp nat_cmp key k)) true (contains (slice_cmp nat_cmp)
      c.args.self.keys k)) (c.in-Ok.ensures ∙ c.as_str.ensures)
      ∙ ap (λ v. cond (is_eq (slice_cmp nat_cmp c.args.key k)) true v) (c.args.self.known k)
      ∙ with_key (keys (member_views c.args.self.done.0) ++ c.args.self.key ∷ []) c.args.key k
      ∙ ap (λ ks. list_any (λ x. bytes_eq x k) (ks ++ c.args.key ∷ []))
      (sym (ap (λ l. keys (member_views l)) c.in-Ok-with_member.ensures
      ∙ key_push c.args.self.done.0 (record { key = c.args.self.key; value = c.args.value })));
}
