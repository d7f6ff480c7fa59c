-- Two providers that read one value have one kind and name, and a list has no two such.
use Rattle.std.proofs.Common.{◌≡◌, ℕ, zero, suc, Bool, true, false, List, [], ◌∷◌, length, Some, refl, sym, ◌∙◌, ap, subst, arith, IsTrue}
use Rattle.std.specs.Prelude.{◌&&◌, cond, not, nat_le, Contains}
use Rattle.std.specs.List.{list_all}
use Rattle.std.specs.Str.{bytes_eq}
use Rattle.std.proofs.lemmas.Slice.Eq.{bytes_eq-Decides}
use Rattle.kr_base.specs.Rules.{IsName, is_name}
use Rattle.kr_base.proofs.RuleTests as rules
use Rattle.kr_envelope.specs.declared.prefix.Kind.{Kind}
use Rattle.kr_envelope.specs.declared.prefix.Kind.TheVariants as kind
use Rattle.kr_envelope.specs.Prefixes.{begins, is_marked, mark, prefix}
use Rattle.kr_envelope.proofs.Prefixing.{begins_is, one_prefix, prefix_marked}
use Rattle.kr_config.specs.declared.who.Who.{Who}
use Rattle.kr_config.specs.declared.who.Who.TheVariants.{Identity, Aescbc, Aesgcm, Kms}
use Rattle.kr_config.specs.Kept.{apart, keeps_providers}
use Rattle.kr_config.specs.Providers.{is_provider, is_secret, rivals}
use Rattle.kr_config.proofs.Inversions.{left as and_left, right as and_right}
use Rattle.kr_provider.specs.Readers.{is_reader, reader_in}

pub name_of : (name : List ℕ) → is_name name ≡ true → IsName name
name_of name t = (rules.name name).0 t

pub key_name : (name secret : List ℕ) → (is_name name && is_secret secret) ≡ true → IsName name
key_name name secret t = name_of name (and_left (is_name name) (is_secret secret) t)

one : (k l : Kind) (n m bytes : List ℕ) → IsName n → IsName m → begins (prefix k n) bytes ≡ true
    → begins (prefix l m) bytes ≡ true → (k ≡ l) × (n ≡ m)
one k l n m bytes p q s t =
    let b = (begins_is (prefix k n) bytes).0 s in
    let c = (begins_is (prefix l m) bytes).0 t in
    let same = one_prefix k l n m b.0 c.0 p q (sym b.1 ∙ c.1) in
    (same.0, same.1)

alike : (k : Kind) (n m bytes : List ℕ) → IsName n → IsName m → begins (prefix k n) bytes ≡ true
    → begins (prefix k m) bytes ≡ true → bytes_eq n m ≡ true
alike k n m bytes p q s t = (bytes_eq-Decides n m).1 (one k k n m bytes p q s t).1

bare : (k : Kind) (n bytes : List ℕ) → not (is_marked bytes) ≡ true
    → begins (prefix k n) bytes ≡ true → ⊥
bare k n bytes s t =
    let m : is_marked bytes ≡ true = (begins_is mark bytes).1
    (prefix_marked k n bytes ((begins_is (prefix k n) bytes).0 t)) in
    never (is_marked bytes) m s
  where
    never : (b : Bool) → b ≡ true → not b ≡ true → ⊥
    never true e f = cc
    never false e f = cc

both_read : (bytes : List ℕ) (w v : Who) → is_provider w ≡ true → is_provider v ≡ true
    → is_reader bytes w ≡ true → is_reader bytes v ≡ true → rivals w v ≡ true
both_read bytes Identity Identity p q s t = refl
both_read bytes Identity (Aescbc m u) p q s t = absurd (bare kind.Aescbc m bytes s t)
both_read bytes Identity (Aesgcm m u) p q s t = absurd (bare kind.Aesgcm m bytes s t)
both_read bytes Identity (Kms m) p q s t = absurd (bare kind.Kms m bytes s t)
both_read bytes (Aescbc n u) Identity p q s t = absurd (bare kind.Aescbc n bytes t s)
both_read bytes (Aescbc n u) (Aescbc m v) p q s t =
    alike kind.Aescbc n m bytes (key_name n u p) (key_name m v q) s t
both_read bytes (Aescbc n u) (Aesgcm m v) p q s t = let e =
    (one kind.Aescbc kind.Aesgcm n m bytes (key_name n u p) (key_name m v q) s t).0 in absurd (cc)
both_read bytes (Aescbc n u) (Kms m) p q s t = let e =
    (one kind.Aescbc kind.Kms n m bytes (key_name n u p) (name_of m q) s t).0 in absurd (cc)
both_read bytes (Aesgcm n u) Identity p q s t = absurd (bare kind.Aesgcm n bytes t s)
both_read bytes (Aesgcm n u) (Aescbc m v) p q s t = let e =
    (one kind.Aesgcm kind.Aescbc n m bytes (key_name n u p) (key_name m v q) s t).0 in absurd (cc)
both_read bytes (Aesgcm n u) (Aesgcm m v) p q s t =
    alike kind.Aesgcm n m bytes (key_name n u p) (key_name m v q) s t
both_read bytes (Aesgcm n u) (Kms m) p q s t = let e =
    (one kind.Aesgcm kind.Kms n m bytes (key_name n u p) (name_of m q) s t).0 in absurd (cc)
both_read bytes (Kms n) Identity p q s t = absurd (bare kind.Kms n bytes t s)
both_read bytes (Kms n) (Aescbc m v) p q s t = let e =
    (one kind.Kms kind.Aescbc n m bytes (name_of n p) (key_name m v q) s t).0 in absurd (cc)
both_read bytes (Kms n) (Aesgcm m v) p q s t = let e =
    (one kind.Kms kind.Aesgcm n m bytes (name_of n p) (key_name m v q) s t).0 in absurd (cc)
both_read bytes (Kms n) (Kms m) p q s t = alike kind.Kms n m bytes (name_of n p) (name_of m q) s t

-- what holds of all holds of one that is there
of_one : {X : Type 0} (test : X → Bool) (xs : List X) (x : X) → list_all test xs ≡ true
    → Contains xs x → test x ≡ true
of_one test [] x t c = absurd (omega (arith, c.1))
of_one test (y ∷ ys) x t (zero, lt, e) = subst (λ z. test z ≡ true) e
    (and_left (test y) (list_all test ys) t)
of_one test (y ∷ ys) x t (suc k, lt, e) = of_one test ys x (and_right (test y) (list_all test ys) t)
    (k, omega (arith, lt), e)

found : (bytes : List ℕ) (list : List Who) (who : Who) → list_all is_provider list ≡ true
    → apart rivals list ≡ true → is_reader bytes who ≡ true → Contains list who
    → reader_in list bytes ≡ Some who
found bytes [] who p a r c = absurd (omega (arith, c.1))
found bytes (w ∷ rest) who p a r (zero, lt, e) =
    ap (λ b. cond b (Some w) (reader_in rest bytes)) (ap (is_reader bytes) e ∙ r)
    ∙ ap (λ v. Some v) e
found bytes (w ∷ rest) who p a r (suc k, lt, e) =
    let within : Contains rest who = (k, omega (arith, lt), e) in
    later (is_reader bytes w) refl (of_one is_provider rest who
    (and_right (is_provider w) (list_all is_provider rest) p) within)
    (of_one (λ v. not (rivals w v)) rest who
    (and_left (list_all (λ v. not (rivals w v)) rest) (apart rivals rest) a) within)
    (found bytes rest who (and_right (is_provider w) (list_all is_provider rest) p)
    (and_right (list_all (λ v. not (rivals w v)) rest) (apart rivals rest) a) r within)
  where
    never : (b : Bool) → b ≡ true → not b ≡ true → ⊥
    never true f g = cc
    never false f g = cc

    later : (b : Bool) → is_reader bytes w ≡ b → is_provider who ≡ true → not (rivals w who) ≡ true
        → reader_in rest bytes ≡ Some who → cond b (Some w) (reader_in rest bytes) ≡ Some who
    later true s q n more = absurd (never (rivals w who)
        (both_read bytes w who (and_left (is_provider w) (list_all is_provider rest) p) q s r) n)
    later false s q n more = more

pub one_reader : (bytes : List ℕ) (list : List Who) (who : Who) → IsTrue (keeps_providers list)
    → is_reader bytes who ≡ true → Contains list who → reader_in list bytes ≡ Some who
one_reader bytes list who k r c =
    found bytes list who
    (and_right (nat_le 1 (length list)) (list_all is_provider list)
    (and_left (nat_le 1 (length list) && list_all is_provider list) (apart rivals list) k))
    (and_right (nat_le 1 (length list) && list_all is_provider list) (apart rivals list) k) r c
