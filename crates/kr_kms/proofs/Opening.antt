-- By what agrees with each exchange, what is kept and what is made opens.
use Rattle.std.proofs.Common.{◌≡◌, ◌∙◌, ℕ, List, [], ◌∷◌, ◌++◌, Option, Some, Result, Ok, Err, IfOk, sym, ap, subst, inl, inr}
use Rattle.std.specs.Prelude.{◌-◌}
use Rattle.lru.proofs.CallerLemmas.{Contains-promoted, Contains-take}
use Rattle.lru.proofs.Splits.{Contains-cons}
use Rattle.kr_kms.specs.Cache.{CacheState, AreOpenBy, FetchesBy, kept, no_memory, unwrapped, GivesSeed, KeepsAnswer, key_eq, with_used, with_seed}
use Rattle.kr_kms.specs.Exchanges.{Exchange, WrapCall, UnwrapCall, AgreesWith, AgreeAll}
use Rattle.kr_kms.specs.Seeds.{MakesSeedBy, no_status, unhealthy, no_memory as no_seed_memory, dice_failed, not_wrapped, made}
use Rattle.kr_kms.specs.Table.{Table, TableStep, table_opens}
use Rattle.kr_kms.specs.Opens.{Opens, key_of}
use Rattle.kr_kms.specs.Calls.{key_in}
use Rattle.kr_kms.specs.declared.plugin.KmsNo.{KmsNo}
use Rattle.kr_kms.specs.declared.plugin.Wrapped.{Wrapped}
use Rattle.kr_kms.specs.declared.seeds.SeedKey.{SeedKey}
use Rattle.kr_kms.specs.declared.seeds.SeedRow.{SeedRow}
use Rattle.kr_kms.specs.declared.health.SeedNo.{SeedNo}
use Rattle.kr_kms.proofs.Fetching.{found_there}
use Rattle.kr_kms.proofs.Masks.{opens_wrapped}

-- what agrees with all agrees with each part
pub agree_parts : (opens : Opens) (a b : List Exchange) → AgreeAll opens (a ++ b) → AgreeAll opens a × AgreeAll opens b
agree_parts opens [] b h = (tt, h)
agree_parts opens (e ∷ a) b h = let rest = agree_parts opens a b h.1 in ((h.0, rest.0), rest.1)

module _ (opens : Opens) where
  used_open : (cache : CacheState) (key : SeedKey) → AreOpenBy opens cache.rows → AreOpenBy opens (with_used cache key).rows
  used_open cache key so other seed there = so other seed (Contains-promoted (key_eq key) cache.rows (other, seed) there)

  seed_open : (cache : CacheState) (key : SeedKey) (seed : List ℕ) → AreOpenBy opens cache.rows → opens key ≡ Some seed → AreOpenBy opens (with_seed cache key seed).rows
  seed_open cache key seed so is other bytes there =
      elim (Contains-cons _ _ _ there) [
        | inl e ↦ ap opens (sym (ap (λ (p : SeedKey × List ℕ). p.0) e)) ∙ is ∙ ap (λ (p : SeedKey × List ℕ). Some p.1) e
        | inr d ↦ so other bytes (Contains-take (cache.size - 1) cache.rows (other, bytes) d)
      ]

  gives_open : (key : SeedKey) (seed : List ℕ) (result : Result (List ℕ) KmsNo) → opens key ≡ Some seed → GivesSeed seed result → IfOk result (λ s. opens key ≡ Some s)
  gives_open key seed (Ok bytes) h is = h ∙ ap Some (sym is)
  gives_open key seed (Err why) h is = tt

  abbrev Open : CacheState → Type 0
  Open cache = AreOpenBy opens cache.rows

  answer_open : (key : SeedKey) (cache : CacheState) (seed : List ℕ) (after : CacheState) → Open cache → opens key ≡ Some seed → KeepsAnswer cache key (Ok seed) after → Open after
  answer_open key cache seed after so is (inl same) = subst Open (sym same) so
  answer_open key cache seed after so is (inr put) = subst Open (sym put) (seed_open cache key seed so is)

  pub fetch_open : (key : SeedKey) (cache : CacheState) (result : Result (List ℕ) KmsNo) (after : CacheState) (es : List Exchange) → FetchesBy key cache result after es
      → AgreeAll opens es → AreOpenBy opens cache.rows → AreOpenBy opens after.rows × IfOk result (λ seed. opens key ≡ Some seed)
  fetch_open key cache result after _ (kept seed found gives same) agree so =
      (subst Open (sym same) (used_open cache key so), gives_open key seed result (so key seed (found_there cache.rows key seed found)) gives)
  fetch_open key cache result after _ (no_memory is same) agree so =
      (subst Open (sym same) so, subst (λ (r : Result (List ℕ) KmsNo). IfOk r (λ seed. opens key ≡ Some seed)) (sym is) tt)
  fetch_open key cache (Ok seed) after _ (unwrapped none keeps) agree so = (answer_open key cache seed after so agree.0 keeps, agree.0)
  fetch_open key cache (Err why) after _ (unwrapped none keeps) agree so = (subst Open (sym keeps) so, tt)

  abbrev OpensSeed : Result SeedRow SeedNo → Type 0
  OpensSeed result = IfOk result (λ row. opens (key_of row) ≡ Some row.seed)

  -- a seed that was made is what its key opens to
  pub seed_opens : {D : Type 0} (left : D → Option (List ℕ)) (count : D → ℕ) (name : List ℕ) (dice : D) (result : Result SeedRow SeedNo) (after : D) (es : List Exchange)
      → MakesSeedBy left count name dice result after es → AgreeAll opens es → OpensSeed result
  seed_opens left count name dice result after _ (no_status why is same) agree = subst OpensSeed (sym is) tt
  seed_opens left count name dice result after _ (unhealthy status field text breaks is same) agree = subst OpensSeed (sym is) tt
  seed_opens left count name dice result after _ (no_seed_memory status well is draws) agree = subst OpensSeed (sym is) tt
  seed_opens left count name dice result after _ (dice_failed status well is fails) agree = subst OpensSeed (sym is) tt
  seed_opens left count name dice result after _ (not_wrapped status seed why well draws is) agree = subst OpensSeed (sym is) tt
  seed_opens left count name dice result after _ (made status seed wrapped well draws is) agree = subst OpensSeed (sym is) agree.1.0

-- a plugin in memory meets what is supposed of plugins
pub table_agrees : (old : Table) (exchange : Exchange) (new : Table) → TableStep old exchange new → AgreesWith table_opens exchange
table_agrees old (WrapCall name plain (Ok wrapped)) new h =
    ap (λ (w : Wrapped). table_opens (key_in name w)) h.answers.2 ∙ opens_wrapped name old plain
table_agrees old (UnwrapCall key (Ok bytes)) new h = ap Some (sym h.answers.2)
table_agrees old other new h = tt
