-- The set of a mapping's keys has the keys of its members.
use Rattle.std.proofs.Common.{◌≡◌, ℕ, Bool, true, false, cond, List, [], ◌∷◌, ◌++◌, refl, sym, ap}
use Rattle.std.proofs.Common.{◌∙◌}
use Rattle.std.specs.Prelude.{◌||◌}
use Rattle.std.specs.List.{list_any}
use Rattle.std.specs.Str.{bytes_eq}
use Rattle.std.specs.Ordering.{nat_cmp, is_eq}
use Rattle.std.specs.Cmp.Lexicographic.{slice_cmp}
use Rattle.std.proofs.lemmas.Map.Text.{is_eq-slice_cmp}
use Rattle.kr_yaml.specs.Forms.{keys}
use Rattle.kr_yaml.specs.Shown.{member_views, view_member}
use Rattle.kr_yaml.specs.declared.tree.Member.{Member}

or_none : (v : Bool) → (v || false) ≡ v
or_none true = refl
or_none false = refl

or_assoc : (u v w : Bool) → (u || (v || w)) ≡ ((u || v) || w)
or_assoc true v w = refl
or_assoc false v w = refl

any_last : (k l : List ℕ) (ks : List (List ℕ)) → list_any (λ x. bytes_eq x k) (ks ++ l ∷ [])
    ≡ (list_any (λ x. bytes_eq x k) ks || bytes_eq l k)
any_last k l [] = or_none (bytes_eq l k)
any_last k l (x ∷ ks) = ap (λ u. bytes_eq x k || u) (any_last k l ks)
    ∙ or_assoc (bytes_eq x k) (list_any (λ x. bytes_eq x k) ks) (bytes_eq l k)

cond_or : (b v : Bool) → cond b true v ≡ (v || b)
cond_or true true = refl
cond_or false true = refl
cond_or other another = refl

pub with_key : (ks : List (List ℕ)) (key k : List ℕ) → cond (is_eq (slice_cmp nat_cmp key k)) true
    (list_any (λ x. bytes_eq x k) ks) ≡ list_any (λ x. bytes_eq x k) (ks ++ key ∷ [])
with_key ks key k = ap (λ b. cond b true (list_any (λ x. bytes_eq x k) ks)) (is_eq-slice_cmp key k)
    ∙ cond_or (bytes_eq key k) (list_any (λ x. bytes_eq x k) ks) ∙ sym (any_last k key ks)

pub member_push : (ms : List Member) (m : Member) → member_views (ms ++ m ∷ [])
    ≡ member_views ms ++ view_member m ∷ []
member_push [] m = refl
member_push (x ∷ ms) m = ap (λ l. view_member x ∷ l) (member_push ms m)

pub key_push : (ms : List Member) (m : Member) → keys (member_views (ms ++ m ∷ []))
    ≡ keys (member_views ms) ++ m.key ∷ []
key_push [] m = refl
key_push (x ∷ ms) m = ap (λ l. x.key ∷ l) (key_push ms m)
