-- The test of keys decides whether they are the same.
use Rattle.std.proofs.Common.{◌≡◌, true, refl, subst}
use Rattle.std.specs.Bool.{Decides}
use Rattle.std.specs.Prelude.{◌&&◌}
use Rattle.std.specs.Cmp.{first_so, second_so}
use Rattle.std.specs.Cmp.Lexicographic.{bytes_decides}
use Rattle.kr_base.specs.Pairs.{pairs_decide}
use Rattle.kr_kms.specs.Cache.{key_eq}
use Rattle.kr_kms.specs.declared.seeds.SeedKey.{SeedKey}

same_as_itself : (a : SeedKey) → key_eq a a ≡ true
same_as_itself a i = (bytes_decides a.name a.name).1 refl i
    && ((bytes_decides a.key_id a.key_id).1 refl i
    && ((pairs_decide a.annotations a.annotations).1 refl i
    && (bytes_decides a.source a.source).1 refl i))

pub same_key : (a b : SeedKey) → Decides (key_eq a b) (a ≡ b)
same_key a b = (
  λ h. let three = second_so _ _ h in let two = second_so _ _ three in
      let name = (bytes_decides a.name b.name).0 (first_so _ _ h) in
      let key_id = (bytes_decides a.key_id b.key_id).0 (first_so _ _ three) in
      let annotations = (pairs_decide a.annotations b.annotations).0 (first_so _ _ two) in
      let source = (bytes_decides a.source b.source).0 (second_so _ _ two) in
      λ i. record {
        name = name i;
        key_id = key_id i;
        annotations = annotations i;
        source = source i;
      },
  λ e. subst (λ k. key_eq a k ≡ true) e (same_as_itself a),
)
