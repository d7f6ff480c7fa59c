-- All replicas go from one configuration to another, and on from there.
use Rattle.std.proofs.Common.{◌≡◌, ℕ, zero, suc, ◌<◌, ◌≤◌, Bool, true, false, List, [], ◌∷◌}
use Rattle.std.proofs.Common.{Contains, Some, refl, sym, ap, subst, ◌∙◌, ◌⊎◌, inl, inr, arith, map}
use Rattle.std.specs.Prelude.{◌&&◌, ◌||◌, ◌==◌, nat_lt, not, if◌then◌else◌}
use Rattle.std.specs.List.{list_any}
use Rattle.std.proofs.lemmas.Bool.{eq-eqb, eqb-true, ltb-true, ltb-false, false≢true}
use Rattle.std.proofs.lemmas.List.Elements.{Contains-append_cases, Contains-append_left}
use Rattle.std.proofs.lemmas.List.Elements.{Contains-append_right}
use Rattle.std.proofs.lemmas.List.Folds.{Any-from_list_any, list_any_at}
use Rattle.kr_config.specs.declared.class.Class.{Class}
use Rattle.kr_config.specs.declared.class.Class.TheVariants.{Exact}
use Rattle.kr_config.specs.Kept.{ConfigEntry, keeps}
use Rattle.kr_config.specs.Lists.{list_of, class_list}
use Rattle.kr_config.proofs.Inversions.{both, left, right}
use Rattle.kr_judge.specs.declared.need.Need.{Need}
use Rattle.kr_judge.specs.declared.verdict.Verdict.TheVariants.{Pass}
use Rattle.kr_judge.specs.Boards.{GenerationState, is_live, left_by, without_current, added_generation, given_to, is_replica_current}
use Rattle.kr_judge.specs.Lacks.{IsLiveIn, IsLiveBeside}
use Rattle.kr_judge.specs.LiveFits.{AreFit}
use Rattle.kr_judge.specs.Verdicts.{first, verdict_of}
use Rattle.kr_judge.proofs.Lacking.{mapped, image, passes_where_all_fit}
use Rattle.kr_config.proofs.ListParts.{here, cases}
use Rattle.kr_plan.specs.Merges.{merge, wide_rows, turned_rows}
use Rattle.kr_plan.specs.Rollouts.{IsBetween, GivesEither}
use Rattle.kr_plan.proofs.ClassLists.{merges_each_class}
use Rattle.kr_plan.proofs.Merged.{first_member, in_one}
use Rattle.kr_plan.proofs.Passing.{wide_passes, turned_passes, target_passes}
use Rattle.kr_plan_laws.specs.Rounds.{AllGive, unheld, let_go, all_given, PassesOn}
use Rattle.kr_plan_laws.specs.Rounds.{RoundsFollow, RoundsPass}

-- ---- live generations

-- fewer are live, and with the same rows
module _ (change : GenerationState → GenerationState)
    (same : (own : GenerationState) → (change own).rows ≡ own.rows)
    (live : (own : GenerationState) → is_live (change own) ≡ true → is_live own ≡ true) where
  fewer : (generations : List GenerationState) (rows : List ConfigEntry)
      → IsLiveIn (map change generations) rows → IsLiveIn generations rows
  fewer generations rows (own, m, alive, is) =
      let made = mapped change generations own m in (
        made.from,
        made.member,
        live made.from (subst (λ g. is_live g ≡ true) (sym made.of) alive),
        sym (same made.from) ∙ ap (λ (g : GenerationState). g.rows) made.of ∙ is,
      )

no_longer : (replica : ℕ) (own : GenerationState) → is_live (left_by replica own) ≡ true
    → is_live own ≡ true
no_longer replica own h = by own.current h
  where
    by : (v : Bool) → ((v && not (own.replica == replica)) || nat_lt 0 own.holders) ≡ true
        → (v || nat_lt 0 own.holders) ≡ true
    by true k = refl
    by false k = k

none_more : (own : GenerationState) → is_live (unheld own) ≡ true → is_live own ≡ true
none_more own h = by own.current h
  where
    by : (v : Bool) → (v || nat_lt 0 (if v then own.holders else 0)) ≡ true
        → (v || nat_lt 0 own.holders) ≡ true
    by true k = refl
    by false k = absurd (false≢true k)

fit_of : (Live Fewer : List ConfigEntry → Type 0) (needs : List Need)
    → ((rows : List ConfigEntry) → Fewer rows → Live rows) → AreFit Live needs → AreFit Fewer needs
fit_of Live Fewer needs fewer_live fit = record {
  writers = λ rows other class a b.
      fit.writers rows other class (fewer_live rows a) (fewer_live other b);
  stored = λ rows need a m. fit.stored rows need (fewer_live rows a) m;
}

-- ---- a phase in its midst

-- the replicas below k give the other settings, and those from k on the one
pub record IsMixed (one other : List ConfigEntry) (k replicas : ℕ) (needs : List Need)
    (generations : List GenerationState) : Type 0 where
  pub fit : AreFit (IsLiveIn generations) needs
  pub held : (own : GenerationState) → Contains generations own → 0 < own.holders
      → own.current ≡ true
  pub are_in : (replica : ℕ) → replica < replicas
      → list_any (is_replica_current replica) generations ≡ true
  pub within : (own : GenerationState) → Contains generations own → own.current ≡ true
      → own.replica < replicas
  pub done : (own : GenerationState) → Contains generations own → own.current ≡ true
      → own.replica < k → (class : Class) → class_list own.rows class ≡ class_list other class
  pub left_over : (own : GenerationState) → Contains generations own → own.current ≡ true
      → k ≤ own.replica → (class : Class) → class_list own.rows class ≡ class_list one class

begins : (one other : List ConfigEntry) (replicas : ℕ) (needs : List Need)
    (generations : List GenerationState) → AllGive one replicas needs generations
    → IsMixed one other 0 replicas needs generations
begins one other replicas needs generations all = record {
  fit = all.fit;
  held = all.held;
  are_in = all.are_in;
  within = λ own m current. (all.gives own m current).0;
  done = λ own m current h. absurd (omega (arith, h));
  left_over = λ own m current h. (all.gives own m current).1;
}

ends : (one other : List ConfigEntry) (replicas : ℕ) (needs : List Need)
    (generations : List GenerationState) → IsMixed one other replicas replicas needs generations
    → AllGive other replicas needs generations
ends one other replicas needs generations mixed = record {
  fit = mixed.fit;
  held = mixed.held;
  are_in = mixed.are_in;
  gives = λ own m current. (
    mixed.within own m current,
    mixed.done own m current (mixed.within own m current),
  );
}

module _ (one other : List ConfigEntry) (replicas : ℕ) (needs : List Need)
    (passes : (generations : List GenerationState) (replica : ℕ)
    → IsBetween one other needs generations replica
    → verdict_of needs generations replica other ≡ Pass) where
  between : (k : ℕ) (generations : List GenerationState) → k < replicas
      → IsMixed one other k replicas needs generations
      → IsBetween one other needs generations k
  between k generations h mixed = record {
    fit = mixed.fit;
    is_in = mixed.are_in k h;
    held = mixed.held;
    gives = λ own class m current. by own class m current (nat_lt own.replica k) refl;
  }
    where
      by : (own : GenerationState) (class : Class) → Contains generations own
          → own.current ≡ true → (v : Bool) → nat_lt own.replica k ≡ v
          → GivesEither one other own.rows class
      by own class m current true e =
          inr (mixed.done own m current (ltb-true own.replica k e) class)
      by own class m current false e =
          inl (mixed.left_over own m current (ltb-false own.replica k e) class)

  module _ (k : ℕ) (generations : List GenerationState) (h : k < replicas)
      (mixed : IsMixed one other k replicas needs generations) where
    abbrev New : GenerationState
    New = added_generation k other

    abbrev Given : List GenerationState
    Given = given_to k other generations

    pub passed : verdict_of needs generations k other ≡ Pass
    passed = passes generations k (between k generations h mixed)

    fit_given : AreFit (IsLiveIn Given) needs
    fit_given = (passes_where_all_fit needs generations k other
        (fit_of (IsLiveIn generations) (IsLiveBeside k generations) needs
        (fewer (left_by k) (λ own. refl) (no_longer k) generations) mixed.fit)).0 passed

    -- what is current then: the new one, or one of another replica that was current before
    pub record WasCurrent (own : GenerationState) : Type 0 where
      pub before : GenerationState
      pub there : Contains generations before
      pub current : before.current ≡ true
      pub other_one : (before.replica == k) ≡ false
      pub same_replica : before.replica ≡ own.replica
      pub same_rows : before.rows ≡ own.rows

    given_cases : (own : GenerationState) → Contains (let_go Given) own → own.current ≡ true
        → ((own.rows ≡ other) × (own.replica ≡ k)) ⊎ WasCurrent own
    given_cases own m current =
        let kept = mapped unheld Given own m in
        let is_current : (kept.from).current ≡ true =
        ap (λ (g : GenerationState). g.current) kept.of ∙ current in
        elim (Contains-append_cases (without_current k generations) (New ∷ []) kept.from
        kept.member) [
          | inl old ↦ (let was = mapped (left_by k) generations kept.from old in
              let flag : ((was.from).current && not ((was.from).replica == k)) ≡ true =
              ap (λ (g : GenerationState). g.current) was.of ∙ is_current in
              inr (record {
                before = was.from;
                there = was.member;
                current = left (was.from).current (not ((was.from).replica == k)) flag;
                other_one = negated ((was.from).replica == k)
                    (right (was.from).current (not ((was.from).replica == k)) flag);
                same_replica = ap (λ (g : GenerationState). g.replica) was.of
                    ∙ ap (λ (g : GenerationState). g.replica) kept.of;
                same_rows = ap (λ (g : GenerationState). g.rows) was.of
                    ∙ ap (λ (g : GenerationState). g.rows) kept.of;
              }))
          | inr new ↦ elim (cases New kept.from [] new) [
            | inl e ↦ inl (
              sym (ap (λ (g : GenerationState). g.rows) e
                  ∙ ap (λ (g : GenerationState). g.rows) kept.of),
              sym (ap (λ (g : GenerationState). g.replica) e
                  ∙ ap (λ (g : GenerationState). g.replica) kept.of),
            )
            | inr n ↦ absurd (omega (arith, n.1))
          ]
        ]
      where
        negated : (v : Bool) → not v ≡ true → v ≡ false
        negated true e = absurd (false≢true e)
        negated false e = refl

    held_then : (own : GenerationState) → Contains (let_go Given) own → 0 < own.holders
        → own.current ≡ true
    held_then own m l =
        let kept = mapped unheld Given own m in
        by (kept.from).holders (kept.from).current
        (subst (λ n. 0 < n) (sym (ap (λ (g : GenerationState). g.holders) kept.of)) l)
        (ap (λ (g : GenerationState). g.current) kept.of)
      where
        by : (n : ℕ) (v : Bool) → 0 < (if v then n else 0) → v ≡ own.current
            → own.current ≡ true
        by n true z is = sym is
        by n false z is = absurd (omega (arith, z))

    in_then : (replica : ℕ) → replica < replicas
        → list_any (is_replica_current replica) (let_go Given) ≡ true
    in_then replica l = by (replica == k) refl
      where
        among : (own : GenerationState) → Contains Given own
            → is_replica_current replica own ≡ true
            → list_any (is_replica_current replica) (let_go Given) ≡ true
        among own m is =
            let c = image unheld Given own m in
            list_any_at (is_replica_current replica) (let_go Given) c.0 (unheld own) c.1
            (ap (is_replica_current replica) c.2 ∙ is)

        by : (v : Bool) → (replica == k) ≡ v
            → list_any (is_replica_current replica) (let_go Given) ≡ true
        by true e = among New
            (Contains-append_right (without_current k generations) (New ∷ []) New (here New []))
            (eq-eqb k replica (sym (eqb-true replica k e)))
        by false e =
            let some = Any-from_list_any (is_replica_current replica) generations
            (mixed.are_in replica l) in
            let own : GenerationState = some.1 in
            let its =
            eqb-true own.replica replica (right own.current (own.replica == replica) some.4) in
            let apart : (own.replica == k) ≡ false =
            ap (λ n. n == k) its ∙ e in
            among (left_by k own)
            (Contains-append_left (without_current k generations) (New ∷ []) (left_by k own)
            (image (left_by k) generations own (some.0, some.2, some.3)))
            (both (own.current && not (own.replica == k)) (own.replica == replica)
            (both own.current (not (own.replica == k))
            (left own.current (own.replica == replica) some.4) (ap not apart))
            (right own.current (own.replica == replica) some.4))

    pub goes_on : IsMixed one other (suc k) replicas needs (let_go Given)
    goes_on = record {
      fit = fit_of (IsLiveIn Given) (IsLiveIn (let_go Given)) needs
          (fewer unheld (λ own. refl) none_more Given) fit_given;
      held = held_then;
      are_in = in_then;
      within = λ own m current. elim (given_cases own m current) [
        | inl new ↦ subst (λ n. n < replicas) (sym new.1) h
        | inr was ↦ subst (λ n. n < replicas) was.same_replica
            (mixed.within was.before was.there was.current)
      ];
      done = λ own m current l class. elim (given_cases own m current) [
        | inl new ↦ ap (λ rows. class_list rows class) new.0
        | inr was ↦ ap (λ rows. class_list rows class) (sym was.same_rows)
            ∙ mixed.done was.before was.there was.current
            (below_now was l) class
      ];
      left_over = λ own m current l class. elim (given_cases own m current) [
        | inl new ↦ absurd (omega (arith, new.1, l))
        | inr was ↦ ap (λ rows. class_list rows class) (sym was.same_rows)
            ∙ mixed.left_over was.before was.there was.current
            (omega (arith, was.same_replica, l)) class
      ];
    }
      where
        below_now : {own : GenerationState} (was : WasCurrent own) → own.replica < suc k
            → (was.before).replica < k
        below_now was l = by (nat_lt (was.before).replica k) refl
          where
            by : (v : Bool) → nat_lt (was.before).replica k ≡ v → (was.before).replica < k
            by true e = ltb-true (was.before).replica k e
            by false e =
                let over = ltb-false (was.before).replica k e in
                let is : (was.before).replica ≡ k = omega (arith, was.same_replica, l, over) in
                absurd (false≢true (sym was.other_one ∙ eq-eqb (was.before).replica k is))

  -- ---- a whole phase

  module _ (generations : List GenerationState)
      (all : AllGive one replicas needs generations) where
    mixed_at : (k : ℕ) → k ≤ replicas
        → IsMixed one other k replicas needs (all_given other k generations)
    mixed_at zero h = begins one other replicas needs generations all
    mixed_at (suc k) h =
        goes_on k (all_given other k generations) (omega arith) (mixed_at k (omega arith))

    pub phase_done : AllGive other replicas needs (all_given other replicas generations)
    phase_done = ends one other replicas needs (all_given other replicas generations)
        (mixed_at replicas (omega arith))

    pub phase_passes : PassesOn other replicas needs generations
    phase_passes replica h =
        passed replica (all_given other replica generations) h (mixed_at replica (omega arith))

-- ---- the rewrite

-- what is stored then is what `to` writes, which all turned settings read
rewritten_fits : (from to : List ConfigEntry) (replicas : ℕ) (needs rewritten : List Need)
    (generations : List GenerationState)
    → AllGive (turned_rows from to) replicas needs generations
    → ((need : Need) → Contains rewritten need → first (list_of to need.resource) ≡ Some need.who)
    → AllGive (turned_rows from to) replicas rewritten generations
rewritten_fits from to replicas needs rewritten generations all written = record {
  fit = record {
    writers = all.fit.writers;
    stored = λ rows need live m.
        let own : GenerationState = live.0 in
        let current : own.current ≡ true = by own live.1 own.current refl live.2 in
        let is : class_list own.rows (Exact need.resource)
        ≡ merge (class_list to (Exact need.resource)) (class_list from (Exact need.resource)) =
        (all.gives own live.1 current).1 (Exact need.resource)
        ∙ (merges_each_class from to (Exact need.resource)).1 in
        subst (λ (r : List ConfigEntry). Contains (list_of r need.resource) need.who) live.3
        (subst (λ l. Contains l need.who) (sym is)
        (in_one (class_list to (Exact need.resource)) (class_list from (Exact need.resource))
        need.who (first_member (list_of to need.resource) need.who (written need m))));
  };
  held = all.held;
  are_in = all.are_in;
  gives = all.gives;
}
  where
    by : (own : GenerationState) → Contains generations own → (v : Bool) → own.current ≡ v
        → (v || nat_lt 0 own.holders) ≡ true → own.current ≡ true
    by own m true e k = e
    by own m false e k = all.held own m (ltb-true 0 own.holders k)

-- ---- the laws

module _ (from to : List ConfigEntry) (replicas : ℕ) (needs rewritten : List Need)
    (generations : List GenerationState) (kept_from : keeps from ≡ true)
    (kept_to : keeps to ≡ true) (all : AllGive from replicas needs generations)
    (written : (need : Need) → Contains rewritten need
    → first (list_of to need.resource) ≡ Some need.who) where
  abbrev Wide : List GenerationState
  Wide = all_given (wide_rows from to) replicas generations

  abbrev Turned : List GenerationState
  Turned = all_given (turned_rows from to) replicas Wide

  wide_goes : (gs : List GenerationState) (replica : ℕ)
      → IsBetween from (wide_rows from to) needs gs replica
      → verdict_of needs gs replica (wide_rows from to) ≡ Pass
  wide_goes gs replica b = wide_passes from to needs gs replica kept_from b

  turned_goes : (gs : List GenerationState) (replica : ℕ)
      → IsBetween (wide_rows from to) (turned_rows from to) needs gs replica
      → verdict_of needs gs replica (turned_rows from to) ≡ Pass
  turned_goes gs replica b = turned_passes from to needs gs replica b

  target_goes : (gs : List GenerationState) (replica : ℕ)
      → IsBetween (turned_rows from to) to rewritten gs replica
      → verdict_of rewritten gs replica to ≡ Pass
  target_goes gs replica b = target_passes from to rewritten gs replica kept_to b written

  all_wide : AllGive (wide_rows from to) replicas needs Wide
  all_wide = phase_done from (wide_rows from to) replicas needs wide_goes generations all

  all_turned : AllGive (turned_rows from to) replicas rewritten Turned
  all_turned = rewritten_fits from to replicas needs rewritten Turned
      (phase_done (wide_rows from to) (turned_rows from to) replicas needs turned_goes Wide
      all_wide) written

  pub all_target : AllGive to replicas rewritten (all_given to replicas Turned)
  all_target =
      phase_done (turned_rows from to) to replicas rewritten target_goes Turned all_turned

  pub all_pass : PassesOn (wide_rows from to) replicas needs generations
      × PassesOn (turned_rows from to) replicas needs Wide × PassesOn to replicas rewritten Turned
  all_pass = (
    phase_passes from (wide_rows from to) replicas needs wide_goes generations all,
    phase_passes (wide_rows from to) (turned_rows from to) replicas needs turned_goes Wide all_wide,
    phase_passes (turned_rows from to) to replicas rewritten target_goes Turned all_turned,
  )

pub rounds_follow : RoundsFollow
rounds_follow from to replicas needs rewritten generations kept_from kept_to all written =
    all_target from to replicas needs rewritten generations kept_from kept_to all written

pub rounds_pass : RoundsPass
rounds_pass from to replicas needs rewritten generations kept_from kept_to all written =
    all_pass from to replicas needs rewritten generations kept_from kept_to all written
