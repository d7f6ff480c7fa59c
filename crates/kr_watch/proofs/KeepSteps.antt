-- What the methods of the list of changes do, as their calls tell it.
use Rattle.std.proofs.Common.{◌≡◌, ℕ, ◌<◌, ◌≤◌, ◌+◌, ◌-◌, List, [], ◌∷◌, ◌++◌, length, get_or, drop, refl, sym, ap, ◌∙◌, subst, arith, length-append}
use Rattle.kr_watch.specs.declared.change.ObjectChange.{ObjectChange}
use Rattle.kr_watch.specs.Changes.{FollowOn, changes_above, earlier_ones, last_ones, revision_after}
use Rattle.kr_watch.specs.inner.Keeping.{IsKept, KeptState}
use Rattle.kr_watch.proofs.KeptChanges.{above_from_place, first_goes, follow_append, kept_stays, newest_is_last, none_dropped}

pub none_kept : (keep oldest : ℕ) (changes : List ObjectChange) → 1 ≤ keep → changes ≡ []
    → IsKept keep oldest changes
none_kept keep oldest changes some none = subst (IsKept keep oldest) (sym none) (record {
  some = some;
  few = omega arith;
  follow = tt;
})

-- ---- one more change

module _ (keep oldest : ℕ) {spare : ℕ} {old now : List ObjectChange} (change : ObjectChange)
    {own : KeptState × ℕ}
    (view : (record { keep = keep; oldest = oldest; changes = old }, spare) ≡ own)
    (k : IsKept keep oldest old)
    (next : change.revision ≡ revision_after own.0.oldest own.0.changes + 1)
    (is : now ≡ old ++ change ∷ []) where
  follows_now : FollowOn oldest (old ++ change ∷ [])
  follows_now = follow_append oldest old (change ∷ []) k.follow
      (next ∙ ap (λ (s : KeptState × ℕ). revision_after s.0.oldest s.0.changes + 1) (sym view), tt)

  -- the last ones, as the caller sees them
  are_last : last_ones keep (old ++ change ∷ [])
      ≡ last_ones own.0.keep (own.0.changes ++ change ∷ [])
  are_last = ap (λ (s : KeptState × ℕ). last_ones s.0.keep (s.0.changes ++ change ∷ [])) view

  -- and the revision before them
  is_before : revision_after oldest (earlier_ones keep (old ++ change ∷ []))
      ≡ revision_after own.0.oldest (earlier_ones own.0.keep (own.0.changes ++ change ∷ []))
  is_before = ap (λ (s : KeptState × ℕ). revision_after s.0.oldest
      (earlier_ones s.0.keep (s.0.changes ++ change ∷ []))) view

  -- all stay
  module _ (few : length now ≤ keep) where
    pub still_kept : IsKept keep oldest now
    still_kept = record {
      some = k.some;
      few = few;
      follow = subst (FollowOn oldest) (sym is) follows_now;
    }

    pub all_kept : now ≡ last_ones own.0.keep (own.0.changes ++ change ∷ [])
    all_kept = sym (ap (last_ones keep) (sym is) ∙ kept_stays keep now few) ∙ are_last

    pub nothing_dropped : oldest
        ≡ revision_after own.0.oldest (earlier_ones own.0.keep (own.0.changes ++ change ∷ []))
    nothing_dropped = sym (ap (λ l. revision_after oldest (earlier_ones keep l)) (sym is)
        ∙ ap (revision_after oldest) (none_dropped keep now few)) ∙ is_before

  -- the first one goes
  module _ (first : ObjectChange) {rest : List ObjectChange} (whole : now ≡ first ∷ rest)
      (many : keep < length now) where
    own_ones : first ∷ rest ≡ old ++ change ∷ []
    own_ones = sym whole ∙ is

    count : length (first ∷ rest) ≡ keep + 1
    count =
        let size = length-append old (change ∷ []) in
        let same = ap length own_ones in
        let there = ap length whole in
        omega (arith, size, same, there, many, k.few)

    pub rest_kept : IsKept keep first.revision rest
    rest_kept = record {
      some = k.some;
      few = (let n = count in omega (arith, n));
      follow = (subst (FollowOn oldest) (sym own_ones) follows_now).1;
    }

    pub rest_last : rest ≡ last_ones own.0.keep (own.0.changes ++ change ∷ [])
    rest_last = sym (ap (last_ones keep) (sym own_ones) ∙ (first_goes keep first rest count).0)
        ∙ are_last

    pub first_dropped : first.revision
        ≡ revision_after own.0.oldest (earlier_ones own.0.keep (own.0.changes ++ change ∷ []))
    first_dropped = sym (ap (λ l. revision_after oldest (earlier_ones keep l)) (sym own_ones)
        ∙ ap (revision_after oldest) (first_goes keep first rest count).1) ∙ is_before

-- ---- the newest one

pub none_newest : (oldest : ℕ) (changes : List ObjectChange) → length changes ≡ 0
    → oldest ≡ revision_after oldest changes
none_newest oldest [] e = refl
none_newest oldest (x ∷ xs) e = absurd (omega (arith, e))

pub last_newest : (oldest : ℕ) (changes : List ObjectChange) (last : ObjectChange) → 0 < length changes
    → last ≡ get_or changes (length changes - 1) last
    → last.revision ≡ revision_after oldest changes
last_newest oldest changes last some is = ap (λ (c : ObjectChange). c.revision) is
    ∙ sym (newest_is_last oldest changes last some)

-- ---- those above a revision

-- from the place that the revision tells on they are those above it
pub told_above : (keep oldest revision place : ℕ) (changes told : List ObjectChange)
    → IsKept keep oldest changes → oldest ≤ revision → place ≡ revision - oldest
    → told ≡ drop place changes → told ≡ changes_above revision changes
told_above keep oldest revision place changes told k l e is =
    is ∙ ap (λ n. drop n changes) e ∙ above_from_place revision oldest changes k.follow l
