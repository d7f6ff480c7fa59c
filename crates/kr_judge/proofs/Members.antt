-- A list has a provider exactly where that is one of its members.
use Rattle.std.proofs.Common.{◌≡◌, ℕ, zero, suc, Bool, true, false, List, [], ◌∷◌, Contains, refl, sym, ap, subst, ◌∙◌, arith}
use Rattle.std.specs.Prelude.{◌&&◌, ◌||◌}
use Rattle.std.specs.Str.{bytes_eq}
use Rattle.std.specs.Cmp.{first_so, second_so}
use Rattle.std.proofs.lemmas.List.Folds.{Any-from_list_any}
use Rattle.std.proofs.lemmas.Slice.Eq.{bytes_eq-Decides}
use Rattle.kr_config.specs.declared.who.Who.{Who}
use Rattle.kr_config.specs.declared.who.Who.TheVariants.{Identity, Aescbc, Aesgcm, Kms}
use Rattle.kr_judge.specs.Providers.{same_who, has}
use Rattle.kr_judge.specs.Laws.{HasMembers}

both : (a b s t : List ℕ) (F : List ℕ → List ℕ → Who) → (bytes_eq a b && bytes_eq s t) ≡ true → F a s ≡ F b t
both a b s t F h = ap (λ x. F x s) ((bytes_eq-Decides a b).0 (first_so _ _ h)) ∙ ap (λ x. F b x) ((bytes_eq-Decides s t).0 (second_so _ _ h))

pub is_one : (own who : Who) → same_who own who ≡ true → own ≡ who
is_one Identity Identity h = refl
is_one (Aescbc a s) (Aescbc b t) h = both a b s t Aescbc h
is_one (Aesgcm a s) (Aesgcm b t) h = both a b s t Aesgcm h
is_one (Kms a) (Kms b) h = ap Kms ((bytes_eq-Decides a b).0 h)
is_one other another h = cc

pub its_own : (a : List ℕ) → bytes_eq a a ≡ true
its_own a = (bytes_eq-Decides a a).1 refl

pub and_true : (u v : Bool) → u ≡ true → v ≡ true → (u && v) ≡ true
and_true true v h k = k
and_true false v h k = cc

pub itself : (who : Who) → same_who who who ≡ true
itself Identity = refl
itself (Aescbc a s) = and_true (bytes_eq a a) (bytes_eq s s) (its_own a) (its_own s)
itself (Aesgcm a s) = and_true (bytes_eq a a) (bytes_eq s s) (its_own a) (its_own s)
itself (Kms a) = its_own a

or_true : (v : Bool) → (v || true) ≡ true
or_true true = refl
or_true false = refl

had : (providers : List Who) (who : Who) → Contains providers who → has providers who ≡ true
had [] who h = absurd (omega (arith, h.1))
had (own ∷ providers) who (zero, l, e) = ap (λ v. v || has providers who) (subst (λ w. same_who w who ≡ true) (sym e) (itself who))
had (own ∷ providers) who (suc k, l, e) = ap (λ v. same_who own who || v) (had providers who (k, omega arith, e)) ∙ or_true (same_who own who)

pub has_members : HasMembers
has_members providers who = (
  λ h. (let some = Any-from_list_any (λ own. same_who own who) providers h in subst (Contains providers) (is_one some.1 who some.4) (some.0, some.2, some.3)),
  had providers who,
)
