-- Of a wrapped key that stands in no answer a truth may say anything: so a seed with such a key is
-- none that was published.
use Rattle.std.specs.Prelude.{All, IfSome, cond}
use Rattle.std.proofs.Common.{◌≡◌, ◌≢◌, ℕ, suc, Bool, true, false, List, [], ◌∷◌, Contains, Option, None, Some, Ok, get_or, refl, ap, sym, subst, ◌∙◌, arith}
use Rattle.std.proofs.lemmas.Option.{none-some}
use Rattle.kr_kms.specs.Cache.{key_eq}
use Rattle.kr_kms.specs.Calls.{key_in}
use Rattle.kr_kms.specs.Exchanges.{AgreeAll, AgreesWith, Exchange, UnwrapCall, WrapCall}
use Rattle.kr_kms.specs.Opens.{OpenAll, Opens, key_of}
use Rattle.kr_kms.specs.declared.seeds.SeedKey.{SeedKey}
use Rattle.kr_kms.specs.declared.seeds.SeedRow.{SeedRow}
use Rattle.kr_kms.proofs.Keys.{same_key}
use Rattle.kr_provider.specs.Publication.{Publication}
use Rattle.kr_rollout.specs.declared.opening.Opening.{Opening}
use Rattle.kr_workers.specs.Heard.{Heard}
use Rattle.kr_headline.specs.Fleets.{AgreesWithAll}
use Rattle.kr_headline.specs.WrongSeals.{IsUntold, TellsOfKey}

module _ (key : SeedKey) (opens : Opens) where
  -- the same truth, but for this key
  abbrev pub other : Opens
  other own = cond (key_eq own key) None (opens own)

  stays : (own : SeedKey) → own ≢ key → other own ≡ opens own
  stays own differ = by (key_eq own key) refl
    where
      by : (b : Bool) → key_eq own key ≡ b → cond b None (opens own) ≡ opens own
      by true is = absurd (differ ((same_key own key).0 is))
      by false is = refl

  shut : other key ≡ None
  shut = ap (λ (b : Bool). cond b None (opens key)) ((same_key key key).1 refl)

  one_agrees : (e : Exchange) → (TellsOfKey key e → ⊥) → AgreesWith opens e → AgreesWith other e
  one_agrees (WrapCall name plain (Ok wrapped)) none a = stays (key_in name wrapped) none ∙ a
  one_agrees (UnwrapCall own (Ok bytes)) none a = stays own none ∙ a
  one_agrees other none a = tt

  all_agree : (es : List Exchange) → ((e : Exchange) → Contains es e → TellsOfKey key e → ⊥)
      → AgreeAll opens es → AgreeAll other es
  all_agree [] none a = tt
  all_agree (e ∷ es) none a = (
    one_agrees e (none e (0, omega arith, refl)) a.0,
    all_agree es (λ x there. none x (suc there.0, (let l = there.1 in omega (arith, l)), there.2))
        a.1,
  )

  seeds_agree : (published : Option Publication)
      → IfSome published (λ p. All (λ row. key_of row ≢ key) p.seeds)
      → IfSome published (λ p. OpenAll opens p.seeds)
      → IfSome published (λ p. OpenAll other p.seeds)
  seeds_agree None none a = tt
  seeds_agree (Some p) none a =
      λ k row below. stays (key_of (get_or p.seeds k row)) (none k row below) ∙ a k row below

  others_agree : (heard : (worker : ℕ) → Heard) (o : Opening) → IsUntold heard o key
      → AgreesWithAll heard opens o → AgreesWithAll heard other o
  others_agree heard o u agrees = (
    λ worker. record {
      kept = λ own seed there. stays own (λ same. u.kept worker seed
          (subst (λ q. Contains (heard worker).kept (q, seed)) same there))
          ∙ (agrees.0 worker).kept own seed there;
      answers = all_agree (heard worker).exchanges (u.answered worker) (agrees.0 worker).answers;
    },
    λ k published below. seeds_agree (get_or o.replicas k published) (u.started k published below)
        (agrees.1 k published below),
  )

  -- no seed of this key opens by it
  pub none_invented : (heard : (worker : ℕ) → Heard) (o : Opening) → IsUntold heard o key
      → AgreesWithAll heard opens o → (seeds : List SeedRow)
      → (AgreesWithAll heard other o → OpenAll other seeds) → (row : SeedRow)
      → Contains seeds row → key_of row ≡ key → ⊥
  none_invented heard o u agrees seeds all row there same =
      let open_all = all (others_agree heard o u agrees) in
      let here : other (key_of row) ≡ Some row.seed =
      subst (λ (r : SeedRow). other (key_of r) ≡ Some r.seed) there.2
      (open_all there.0 row there.1) in
      none-some row.seed (sym shut ∙ ap other (sym same) ∙ here)
