-- The verdict on one replica's new settings beside those of the replicas that are in.
use Rattle.std.proofs.Common.{◌≡◌, ℕ, zero, suc, ◌+◌, ◌<◌, ◌⊎◌, Bool, true, false, List, [], ◌∷◌, length, get_or, Contains, Option, None, Some, refl, sym, ap, subst, ◌∙◌, inl, inr, arith}
use Rattle.std.specs.Prelude.{◌==◌, ◌||◌, not, nat_lt, slice_set}
use Rattle.std.specs.List.{slice_get}
use Rattle.std.proofs.lemmas.Bool.{cases_eq, eqb-false, ne_eqb}
use Rattle.std.proofs.lemmas.List.{length-set, get_or-set_same, get_or-set_other}
use Rattle.std.proofs.lemmas.Option.{none-some, same_Some, slice_get-get_or, slice_get_within}
use Rattle.kr_config.specs.declared.who.Who.{Who}
use Rattle.kr_config.specs.Kept.{ConfigEntry}
use Rattle.kr_judge.specs.declared.need.Need.{Need}
use Rattle.kr_judge.specs.Boards.{GenerationState, is_live, left_by, added_generation, given_to}
use Rattle.kr_judge.specs.Lacks.{LacksProvider, IsNeeded, IsLiveIn, IsLiveBeside}
use Rattle.kr_judge.specs.LiveFits.{AreFit}
use Rattle.kr_judge.proofs.Lacking.{beside_lives, image, lives_then, mapped, new_lives, passes_where_all_fit, refuses_exactly}
use Rattle.kr_config.proofs.ListParts.{cases, here, there}
use Rattle.kr_opening.specs.ReplicaLaws.{AreOfAnother, JudgesReplicas}
use Rattle.kr_opening.specs.Starts.{opening_generations}

-- ---- the replicas' generations

contained : {X : Type 0} (xs : List X) (i : ℕ) (x : X) → slice_get xs i ≡ Some x → Contains xs x
contained [] i x e = absurd (none-some x e)
contained (y ∷ ys) zero x e = subst (Contains (y ∷ ys)) (same_Some y x e) (here y ys)
contained (y ∷ ys) (suc i) x e = there y x ys (contained ys i x e)

-- each is that of a replica which is in
record IsOpened (k : ℕ) (replicas : List (Option (List ConfigEntry))) (own : GenerationState)
    : Type 0 where
  place : ℕ
  there_is : slice_get replicas place ≡ Some (Some own.rows)
  is : added_generation (k + place) own.rows ≡ own

further : (k : ℕ) (first : Option (List ConfigEntry)) (replicas : List (Option (List ConfigEntry)))
    (own : GenerationState) → IsOpened (k + 1) replicas own → IsOpened k (first ∷ replicas) own
further k first replicas own r = record {
  place = suc r.place;
  there_is = r.there_is;
  is = ap (λ (n : ℕ). added_generation n own.rows) (omega arith) ∙ r.is;
}

is_opened : (k : ℕ) (replicas : List (Option (List ConfigEntry))) (own : GenerationState)
    → Contains (opening_generations k replicas) own → IsOpened k replicas own
is_opened k [] own m = absurd (omega (arith, m.1))
is_opened k (None ∷ replicas) own m =
    further k None replicas own (is_opened (k + 1) replicas own m)
is_opened k (Some rows ∷ replicas) own m =
    elim (cases (added_generation k rows) own (opening_generations (k + 1) replicas) m) [
      | inl e ↦ (let same : rows ≡ own.rows = ap (λ (x : GenerationState). x.rows) e in
          record {
            place = 0;
            there_is = ap (λ (x : List ConfigEntry). Some (Some x)) same;
            is = ap (λ (x : List ConfigEntry). added_generation (k + 0) x) (sym same)
                ∙ ap (λ (n : ℕ). added_generation n rows) (omega arith) ∙ e;
          })
      | inr n ↦ further k (Some rows) replicas own (is_opened (k + 1) replicas own n)
    ]

opened_there : (k i : ℕ) (replicas : List (Option (List ConfigEntry))) (rows : List ConfigEntry)
    → slice_get replicas i ≡ Some (Some rows)
    → Contains (opening_generations k replicas) (added_generation (k + i) rows)
opened_there k i [] rows e = absurd (none-some (Some rows) e)
opened_there k zero (None ∷ replicas) rows e = absurd (none_is (same_Some None (Some rows) e))
  where
    none_is : ◌≡◌ {A = Option (List ConfigEntry)} None (Some rows) → ⊥
    none_is e = none-some rows e
opened_there k zero (Some own ∷ replicas) rows e =
    subst (Contains (opening_generations k (Some own ∷ replicas)))
    (ap (λ (x : List ConfigEntry). added_generation k x)
    (same_Some own rows (same_Some (Some own) (Some rows) e))
    ∙ ap (λ (n : ℕ). added_generation n rows) (omega arith))
    (here (added_generation k own) (opening_generations (k + 1) replicas))
opened_there k (suc i) (None ∷ replicas) rows e =
    subst (λ (n : ℕ). Contains (opening_generations (k + 1) replicas) (added_generation n rows))
    (omega arith)
    (opened_there (k + 1) i replicas rows e)
opened_there k (suc i) (Some own ∷ replicas) rows e =
    subst (λ (n : ℕ). Contains (opening_generations k (Some own ∷ replicas))
    (added_generation n rows))
    (omega arith)
    (there (added_generation k own) (added_generation (k + 1 + i) rows)
    (opening_generations (k + 1) replicas)
    (opened_there (k + 1) i replicas rows e))

-- ---- beside a replica's new settings

-- one that has left is its replica's, and one that hasn't is another's
left_apart : (replica place : ℕ) (rows : List ConfigEntry)
    → is_live (left_by replica (added_generation (0 + place) rows)) ≡ true → place ≡ replica → ⊥
left_apart replica place rows live same = by ((0 + place) == replica) refl live
  where
    by : (v : Bool) → ((0 + place) == replica) ≡ v → (not v || nat_lt 0 0) ≡ true → ⊥
    by true e h = cc
    by false e h = eqb-false (0 + place) replica e (omega (arith, same))

module _ (replicas : List (Option (List ConfigEntry))) (replica : ℕ) where
  another_by : (rows : List ConfigEntry) → IsLiveBeside replica (opening_generations 0 replicas) rows
      → AreOfAnother replicas replica rows
  another_by rows (own, m, live, is) =
      let r = mapped (left_by replica) (opening_generations 0 replicas) own m in
      let g = is_opened 0 replicas r.from r.member in
      let rows_are : r.from.rows ≡ rows = ap (λ (x : GenerationState). x.rows) r.of ∙ is in (
        g.place,
        left_apart replica g.place r.from.rows
            (ap (λ (x : GenerationState). is_live (left_by replica x)) g.is
            ∙ ap (λ (x : GenerationState). is_live x) r.of ∙ live),
        g.there_is ∙ ap (λ (x : List ConfigEntry). Some (Some x)) rows_are,
      )

  by_another : (rows : List ConfigEntry) → AreOfAnother replicas replica rows
      → IsLiveBeside replica (opening_generations 0 replicas) rows
  by_another rows (other, apart, is) = (
    left_by replica (added_generation (0 + other) rows),
    image (left_by replica) (opening_generations 0 replicas) (added_generation (0 + other) rows)
        (opened_there 0 other replicas rows is),
    ap (λ v. not v || nat_lt 0 0)
        (ne_eqb (0 + other) replica (λ e. apart (omega (arith, e)))),
    refl,
  )

  among : (rows : List ConfigEntry) → AreOfAnother replicas replica rows → Contains replicas (Some rows)
  among rows (other, apart, is) = contained replicas other (Some rows) is

  module _ (rows : List ConfigEntry) (l : replica < length replicas) where
    abbrev given : List (Option (List ConfigEntry))
    given = slice_set replicas replica (Some rows)

    given_new : Contains given (Some rows)
    given_new = (
      replica,
      omega (arith, l, length-set replicas replica (Some rows)),
      get_or-set_same replicas replica (Some rows) (Some rows) l,
    )

    given_other : (own : List ConfigEntry) → AreOfAnother replicas replica own → Contains given (Some own)
    given_other own (other, apart, is) = (
      other,
      omega (
        arith,
        slice_get_within replicas other (Some own) is,
        length-set replicas replica (Some rows),
      ),
      get_or-set_other replicas replica other (Some rows) (Some own) apart
          ∙ same_Some (get_or replicas other (Some own)) (Some own)
          (sym (slice_get-get_or replicas other (Some own)
          (slice_get_within replicas other (Some own) is)) ∙ is),
    )

    given_is : (own : List ConfigEntry) → Contains given (Some own)
        → AreOfAnother replicas replica own ⊎ (rows ≡ own)
    given_is own (place, less, e) =
        let within : place < length replicas =
        omega (arith, less, length-set replicas replica (Some rows)) in
        elim (cases_eq place replica) [
          | inl same ↦ inr (same_Some rows own (sym (get_or-set_same replicas replica (Some rows)
              (Some own) l)
              ∙ ap (λ (i : ℕ). get_or given i (Some own)) (sym same) ∙ e))
          | inr other ↦ inl (
            place,
            other,
            slice_get-get_or replicas place (Some own) within
                ∙ ap Some (sym (get_or-set_other replicas replica place (Some rows) (Some own)
                other) ∙ e),
          )
        ]

-- ---- the law

fit_less : (Live More : List ConfigEntry → Type 0) (needs : List Need)
    → ((rows : List ConfigEntry) → Live rows → More rows) → AreFit More needs → AreFit Live needs
fit_less Live More needs to f = record {
  writers = λ rows other class a b. f.writers rows other class (to rows a) (to other b);
  stored = λ rows need a m. f.stored rows need (to rows a) m;
}

lacks_by : (Stored : List ℕ → Who → Type 0) (Other More : List ConfigEntry → Type 0) (rows : List ConfigEntry)
    → ((own : List ConfigEntry) → Other own → More own) → LacksProvider Stored Other rows
    → LacksProvider Stored More rows
lacks_by Stored Other More rows to (inl s) = inl s
lacks_by Stored Other More rows to (inr (other, live, w)) = inr (other, to other live, w)

module _ (needs : List Need) (replicas : List (Option (List ConfigEntry))) (replica : ℕ)
    (rows : List ConfigEntry) (l : replica < length replicas) where
  abbrev generations : List GenerationState
  generations = opening_generations 0 replicas

  live_given : (own : List ConfigEntry) → IsLiveIn (given_to replica rows generations) own
      → Contains (slice_set replicas replica (Some rows)) (Some own)
  live_given own live = elim (lives_then generations replica rows own live) [
    | inl beside ↦ given_other replicas replica rows l own (another_by replicas replica own beside)
    | inr same ↦ subst (λ (x : List ConfigEntry). Contains (slice_set replicas replica (Some rows))
        (Some x)) same (given_new replicas replica rows l)
  ]

  given_live : (own : List ConfigEntry) → Contains (slice_set replicas replica (Some rows)) (Some own)
      → IsLiveIn (given_to replica rows generations) own
  given_live own m = elim (given_is replicas replica rows l own m) [
    | inl another ↦ beside_lives generations replica rows own
        (by_another replicas replica own another)
    | inr same ↦ subst (IsLiveIn (given_to replica rows generations)) same
        (new_lives generations replica rows)
  ]

pub judges_replicas : JudgesReplicas
judges_replicas = record {
  refuses = λ needs replicas replica rows.
      let r = refuses_exactly needs (opening_generations 0 replicas) replica rows in (
        λ n. lacks_by (IsNeeded needs) (IsLiveBeside replica (opening_generations 0 replicas))
            (AreOfAnother replicas replica) rows (another_by replicas replica) (r.0 n),
        λ lacks. r.1 (lacks_by (IsNeeded needs) (AreOfAnother replicas replica)
            (IsLiveBeside replica (opening_generations 0 replicas)) rows
            (by_another replicas replica) lacks),
      );
  passes = λ needs replicas replica rows fit l.
      let generations = opening_generations 0 replicas in
      let before : AreFit (IsLiveBeside replica generations) needs =
      fit_less (IsLiveBeside replica generations) (λ own. Contains replicas (Some own)) needs
      (λ own live. among replicas replica own (another_by replicas replica own live)) fit in
      let p = passes_where_all_fit needs generations replica rows before in (
        λ passed. fit_less
            (λ own. Contains (slice_set replicas replica (Some rows)) (Some own))
            (IsLiveIn (given_to replica rows generations)) needs
            (given_live needs replicas replica rows l) (p.0 passed),
        λ then_fit. p.1 (fit_less (IsLiveIn (given_to replica rows generations))
            (λ own. Contains (slice_set replicas replica (Some rows)) (Some own)) needs
            (live_given needs replicas replica rows l) then_fit),
      );
}
