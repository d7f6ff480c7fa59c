-- A refused start has one cause alone.
use Rattle.std.proofs.Common.{◌≡◌, ◌≢◌, ℕ, zero, suc, ◌<◌, ◌≤◌, List, [], ◌∷◌, take, Option, None, Some, IsSome, refl, sym, ap, subst, ◌∙◌, arith, inl, inr}
use Rattle.std.specs.List.{slice_get}
use Rattle.std.specs.Ordering.{ordering_reverse}
use Rattle.std.specs.declared.cmp.Ordering.{Ordering}
use Rattle.std.specs.declared.cmp.Ordering.TheVariants.{Less, Equal, Greater}
use Rattle.std.proofs.lemmas.Bool.{cases_lt}
use Rattle.std.proofs.lemmas.Cmp.{nat_list_cmp_total}
use Rattle.std.proofs.lemmas.Option.{same_Some}
use Rattle.kr_store.specs.declared.rows.LogRow.{LogRow}
use Rattle.kr_config.specs.declared.who.Who.{Who}
use Rattle.kr_config.specs.Kept.{ConfigEntry}
use Rattle.kr_config.specs.Nexts.{name_cmp}
use Rattle.kr_judge.specs.declared.need.Need.{Need}
use Rattle.kr_judge.specs.declared.verdict.Verdict.{Verdict}
use Rattle.kr_judge.specs.Verdicts.{verdict_of}
use Rattle.kr_judge.proofs.Needs.{equal_paths}
use Rattle.kr_opening.specs.declared.opening_board.StartNo.TheVariants.{Stray, OtherSecret, Unfit, NoMemory}
use Rattle.kr_opening.specs.Needs.{needs_of, HasNoStray, IsOtherSecret}
use Rattle.kr_opening.specs.Replicas.{first_rows}
use Rattle.kr_opening.specs.Starts.{opening_generations, IsStray, AllFit, IsUnfit}
use Rattle.kr_history.specs.FitLaws.{OneCause}
use Rattle.kr_rollout.proofs.Refusing.{unfit_law}

-- ---- the least path

least_path : (P : List ℕ → Type 0) (p q : List ℕ) → P p → P q
    → ((lesser : List ℕ) → P lesser → name_cmp lesser p ≢ Less)
    → ((lesser : List ℕ) → P lesser → name_cmp lesser q ≢ Less) → p ≡ q
least_path P p q a b below_p below_q = by (name_cmp p q) refl
  where
    by : (order : Ordering) → name_cmp p q ≡ order → p ≡ q
    by Less e = absurd (below_q p a e)
    by Equal e = equal_paths p q e
    by Greater e =
        absurd (below_p q b (nat_list_cmp_total.antisymm q p ∙ ap ordering_reverse e))

no_provider : IsSome {T = Who} None → ⊥
no_provider e = cc

not_stray : (first : List ConfigEntry) (rows : List LogRow) (path : List ℕ) → IsStray first rows path
    → HasNoStray first rows → ⊥
not_stray first rows path s none =
    no_provider (subst (λ who. IsSome who) s.2 (none path s.0 s.1))

-- ---- the first replica that doesn't fit

take_front : {X : Type 0} (i j : ℕ) (xs : List X) → i ≤ j → take i (take j xs) ≡ take i xs
take_front zero j xs l = refl
take_front (suc i) zero xs l = absurd (omega (arith, l))
take_front (suc i) (suc j) [] l = refl
take_front (suc i) (suc j) (x ∷ xs) l =
    ap (λ rest. x ∷ rest) (take_front i j xs (omega (arith, l)))

got_front : {X : Type 0} (xs : List X) (i j : ℕ) → i < j
    → slice_get (take j xs) i ≡ slice_get xs i
got_front xs i zero l = absurd (omega (arith, l))
got_front [] i (suc j) l = refl
got_front (x ∷ xs) zero (suc j) l = refl
got_front (x ∷ xs) (suc i) (suc j) l = got_front xs i j (omega (arith, l))

module _ (replicas : List (Option (List ConfigEntry))) (needs : List Need) where
  -- one that doesn't fit with those before it is in no front that fits
  none_before : (i j : ℕ) (v w : Verdict) → IsUnfit replicas needs i v
      → IsUnfit replicas needs j w → i < j → ⊥
  none_before i j v w a b l =
      let same : take i (take j replicas) ≡ take i replicas =
      take_front i j replicas (omega (arith, l)) in
      unfit_law (take j replicas) needs i v (record {
        rows = a.rows;
        is = got_front replicas i j l ∙ a.is;
        before = subst (λ front. AllFit front needs) (sym same) a.before;
        verdict_is = a.verdict_is
            ∙ ap (λ front. verdict_of needs (opening_generations 0 front) i a.rows) (sym same);
        refused = a.refused;
      }) b.before

  one_replica : (i j : ℕ) (v w : Verdict) → IsUnfit replicas needs i v
      → IsUnfit replicas needs j w → i ≡ j
  one_replica i j v w a b = elim (cases_lt i j) [
    | inl l ↦ absurd (none_before i j v w a b l)
    | inr m ↦ elim (cases_lt j i) [
      | inl l ↦ absurd (none_before j i w v b a l)
      | inr n ↦ omega (arith, m, n)
    ]
  ]

  same_verdict : (i : ℕ) (v w : Verdict) → IsUnfit replicas needs i v
      → IsUnfit replicas needs i w → v ≡ w
  same_verdict i v w a b =
      let rows = same_Some a.rows b.rows
      (same_Some (Some a.rows) (Some b.rows) (sym a.is ∙ b.is)) in
      a.verdict_is
      ∙ ap (λ r. verdict_of needs (opening_generations 0 (take i replicas)) i r) rows
      ∙ sym b.verdict_is

  one_verdict : (i j : ℕ) (v w : Verdict) → i ≡ j → IsUnfit replicas needs i v
      → IsUnfit replicas needs j w → v ≡ w
  one_verdict i j v w same a b =
      same_verdict i v w a (subst (λ k. IsUnfit replicas needs k w) (sym same) b)

-- ---- the cause

pub one_cause : OneCause
one_cause rows replicas (Stray p) (Stray q) n m a b =
    ap Stray (least_path (IsStray (first_rows replicas) rows) p q a.stray b.stray a.least b.least)
one_cause rows replicas (OtherSecret p) (OtherSecret q) n m a b =
    ap OtherSecret (least_path (IsOtherSecret (first_rows replicas) rows) p q a.1.other b.1.other
    a.1.least b.1.least)
one_cause rows replicas (OtherSecret p) (Unfit j w) n m a b = absurd (b.1 p a.1.other)
one_cause rows replicas (Unfit i v) (OtherSecret q) n m a b = absurd (a.1 q b.1.other)
one_cause rows replicas (Unfit i v) (Unfit j w) n m a b =
    let needs = needs_of (first_rows replicas) rows in
    let same = one_replica replicas needs i j v w a.2 b.2 in
    let verdict = one_verdict replicas needs i j v w same a.2 b.2 in
    (λ t. Unfit (same t) (verdict t))
one_cause rows replicas NoMemory why n m a b = absurd (n refl)
one_cause rows replicas other NoMemory n m a b = absurd (m refl)
one_cause rows replicas (Stray p) other n m a b = absurd (not_stray (first_rows replicas) rows p a.stray b.0)
one_cause rows replicas other (Stray q) n m a b = absurd (not_stray (first_rows replicas) rows q b.stray a.0)
