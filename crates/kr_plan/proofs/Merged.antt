-- The members of merged lists.
use Rattle.std.proofs.Common.{◌≡◌, Bool, true, false, List, [], ◌∷◌, Contains, Some, refl, ap, ◌⊎◌, inl, inr}
use Rattle.std.specs.Prelude.{not}
use Rattle.std.specs.List.{filter}
use Rattle.std.proofs.lemmas.List.Elements.{Contains-append_left, Contains-append_right, Contains-append_cases}
use Rattle.std.proofs.lemmas.Option.{none-some, same_Some}
use Rattle.kr_config.specs.declared.who.Who.{Who}
use Rattle.kr_judge.specs.Providers.{has}
use Rattle.kr_judge.specs.Verdicts.{first}
use Rattle.kr_judge.proofs.Lacking.{filtered, passing}
use Rattle.kr_judge.proofs.Lists.{head_is}
use Rattle.kr_judge.proofs.Members.{has_members}
use Rattle.kr_plan.specs.Laws.{MergesMembers}
use Rattle.kr_plan.specs.Merges.{merge}

pub in_one : (one other : List Who) (who : Who) → Contains one who → Contains (merge one other) who
in_one one other who m =
    Contains-append_left one (filter (λ own. not (has one own)) other) who m

pub in_other : (one other : List Who) (who : Who) → Contains other who
    → Contains (merge one other) who
in_other one other who m = by (has one who) refl
  where
    by : (v : Bool) → has one who ≡ v → Contains (merge one other) who
    by true t = in_one one other who ((has_members one who).0 t)
    by false f = Contains-append_right one (filter (λ own. not (has one own)) other) who
        (passing (λ own. not (has one own)) other who m (ap not f))

pub in_either : (one other : List Who) (who : Who) → Contains (merge one other) who
    → Contains one who ⊎ Contains other who
in_either one other who m =
    elim (Contains-append_cases one (filter (λ own. not (has one own)) other) who m) [
      | inl k ↦ inl k
      | inr k ↦ inr (filtered (λ own. not (has one own)) other who k).0
    ]

turns : (one other : List Who) (who : Who) → Contains (merge one other) who
    → Contains (merge other one) who
turns one other who m = elim (in_either one other who m) [
  | inl k ↦ in_other other one who k
  | inr k ↦ in_one other one who k
]

pub merges_members : MergesMembers
merges_members one other who = (turns one other who, turns other one who)

-- ---- the first

pub first_member : (xs : List Who) (x : Who) → first xs ≡ Some x → Contains xs x
first_member [] x h = absurd (none-some x h)
first_member (y ∷ ys) x h = head_is y x ys (same_Some y x h)

-- the first of a merged list is of the one list, where that isn't empty
pub first_merged : (one other : List Who) (x : Who) → (one ≡ [] → ⊥)
    → first (merge one other) ≡ Some x → Contains one x
first_merged [] other x some h = absurd (some refl)
first_merged (y ∷ ys) other x some h = head_is y x ys (same_Some y x h)
