-- Settings that fit with those that are live aren't refused.
use Rattle.std.proofs.Common.{◌≡◌, ℕ, zero, suc, ◌+◌, Bool, true, false, cond, List, [], ◌∷◌, take, drop, Contains, Option, None, Some, ap, subst, ◌∙◌, arith}
use Rattle.std.specs.List.{filter, slice_get}
use Rattle.std.proofs.lemmas.List.{take-append-drop}
use Rattle.std.proofs.lemmas.List.Elements.{Contains-append_left}
use Rattle.std.proofs.lemmas.Option.{none-some, same_Some}
use Rattle.kr_config.specs.declared.class.Class.{Class}
use Rattle.kr_config.specs.Kept.{ConfigEntry}
use Rattle.kr_config.specs.Lists.{list_of, class_list}
use Rattle.kr_judge.specs.declared.need.Need.{Need}
use Rattle.kr_judge.specs.declared.verdict.Verdict.TheVariants.{Pass}
use Rattle.kr_judge.specs.Boards.{GenerationState}
use Rattle.kr_judge.specs.Fits.{ReadsWriter}
use Rattle.kr_judge.specs.Verdicts.{with_numbers, is_other, others, verdict_of}
use Rattle.kr_judge.proofs.Passing.{passes_exactly}
use Rattle.kr_rollout.specs.Laws.{UnfitIsUnfit}
use Rattle.kr_opening.specs.Starts.{opening_generations}

-- ---- the others

in_filter : {X : Type 0} (test : X → Bool) (xs : List X) (x : X) → Contains (filter test xs) x
    → Contains xs x
in_filter test [] x c = c
in_filter test (y ∷ ys) x c = by (test y) (in_filter test ys x) c
  where
    by : (v : Bool) → (Contains (filter test ys) x → Contains ys x)
        → Contains (cond v (y ∷ filter test ys) (filter test ys)) x → Contains (y ∷ ys) x
    by true again (zero, l, e) = (0, omega arith, e)
    by true again (suc k, l, e) =
        let r = again (k, omega arith, e) in (suc r.0, omega (arith, r.1), r.2)
    by false again c = let r = again c in (suc r.0, omega (arith, r.1), r.2)

in_numbered : (k : ℕ) (generations : List GenerationState) (n : ℕ × GenerationState)
    → Contains (with_numbers k generations) n → Contains generations n.1
in_numbered k [] n c = absurd (omega (arith, c.1))
in_numbered k (g ∷ gs) n (zero, l, e) = (0, omega arith, ap (λ (x : ℕ × GenerationState). x.1) e)
in_numbered k (g ∷ gs) n (suc i, l, e) =
    let r = in_numbered (k + 1) gs n (i, omega arith, e) in (suc r.0, omega (arith, r.1), r.2)

other_in : (replica : ℕ) (generations : List GenerationState) (n : ℕ × GenerationState)
    → Contains (others replica generations) n → Contains generations n.1
unfolding others
other_in replica generations n c = in_numbered 0 generations n
    (in_filter (λ m. is_other replica m.1) (with_numbers 0 generations) n c)

-- ---- the verdict

pub pass_by : (needs : List Need) (generations : List GenerationState) (replica : ℕ)
    (rows : List ConfigEntry)
    → ((need : Need) → Contains needs need → Contains (list_of rows need.resource) need.who)
    → ((t : GenerationState) → Contains generations t → (class : Class)
    → ReadsWriter (class_list t.rows class) (class_list rows class))
    → ((t : GenerationState) → Contains generations t → (class : Class)
    → ReadsWriter (class_list rows class) (class_list t.rows class))
    → verdict_of needs generations replica rows ≡ Pass
pass_by needs generations replica rows stored writers readers =
    (passes_exactly needs generations replica rows).1 (record {
      stored = stored;
      writers = λ other class there judged.
          writers other.1 (other_in replica generations other there) class;
      readers = λ other class there judged.
          readers other.1 (other_in replica generations other there) class;
    })

-- ---- the replicas

in_opening : (k : ℕ) (rs : List (Option (List ConfigEntry))) (t : GenerationState)
    → Contains (opening_generations k rs) t → Contains rs (Some t.rows)
in_opening k [] t c = absurd (omega (arith, c.1))
in_opening k (None ∷ rs) t c =
    let r = in_opening (k + 1) rs t c in (suc r.0, omega (arith, r.1), r.2)
in_opening k (Some rows ∷ rs) t (zero, l, e) =
    (0, omega arith, ap (λ (x : GenerationState). Some x.rows) e)
in_opening k (Some rows ∷ rs) t (suc i, l, e) =
    let r = in_opening (k + 1) rs t (i, omega arith, e) in (suc r.0, omega (arith, r.1), r.2)

got_there : {X : Type 0} (xs : List X) (i : ℕ) (x : X) → slice_get xs i ≡ Some x → Contains xs x
got_there [] i x e = absurd (none-some x e)
got_there (y ∷ ys) zero x e = (0, omega arith, same_Some y x e)
got_there (y ∷ ys) (suc i) x e =
    let r = got_there ys i x e in (suc r.0, omega (arith, r.1), r.2)

in_front : (rs : List (Option (List ConfigEntry))) (i : ℕ) (rows : List ConfigEntry)
    → Contains (take i rs) (Some rows) → Contains rs (Some rows)
in_front rs i rows c = subst (λ l. Contains l (Some rows)) (take-append-drop i rs)
    (Contains-append_left (take i rs) (drop i rs) (Some rows) c)

pub unfit_law : UnfitIsUnfit
unfit_law replicas needs replica verdict u f =
    let own = got_there replicas replica (Some u.rows) u.is in
    let generations = opening_generations 0 (take replica replicas) in
    u.refused (u.verdict_is ∙ pass_by needs generations replica u.rows
    (λ need c. f.stored u.rows need own c)
    (λ t c class. f.writers u.rows t.rows class own
    (in_front replicas replica t.rows (in_opening 0 (take replica replicas) t c)))
    (λ t c class. f.writers t.rows u.rows class
    (in_front replicas replica t.rows (in_opening 0 (take replica replicas) t c)) own))
