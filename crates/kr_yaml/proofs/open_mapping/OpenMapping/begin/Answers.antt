use Rattle.std.proofs.Common.{true, cond, sym, ap, ◌∙◌, ◌++◌, ◌∷◌, []}
use Rattle.std.specs.List.{list_any}
use Rattle.std.specs.Str.{bytes_eq}
use Rattle.std.specs.Ordering.{nat_cmp, is_eq}
use Rattle.std.specs.Cmp.Lexicographic.{slice_cmp}
use Rattle.kr_yaml.specs.Forms.{keys}
use Rattle.kr_yaml.specs.Shown.{member_views}
use Rattle.kr_yaml.proofs.KeySets.{with_key}
use Rattle.kr_yaml.proofs.open_mapping.OpenMapping.begin.Goals as goal

pub invariant_of-result : goal.invariant_of-result
invariant_of-result c = record {
  known = λ k.
      c.in-Ok-insert.ensures.updates.0 k
      ∙ ap (λ ks. cond (is_eq (slice_cmp nat_cmp c.in-Ok.copy k)) true
      (list_any (λ x. is_eq (slice_cmp nat_cmp k x)) ks)) c.new-keys.ensures.empty
      ∙ ap (λ key. cond (is_eq (slice_cmp nat_cmp key k)) true (list_any (λ x. bytes_eq x k) []))
      (c.in-Ok.ensures ∙ c.as_str.ensures)
      ∙ with_key [] c.args.key k
      ∙ ap (λ l. list_any (λ x. bytes_eq x k) (keys (member_views l) ++ c.args.key ∷ []))
      (sym c.new.ensures);
}
