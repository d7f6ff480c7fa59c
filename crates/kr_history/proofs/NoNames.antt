-- Where configurations may name no plugin, none does.
use Rattle.std.proofs.Common.{◌≡◌, ℕ, ◌||◌, false, List, [], ◌∷◌, ◌++◌, get_or, length, All, Contains, refl, ap, subst, arith}
use Rattle.std.specs.List.{list_any}
use Rattle.kr_config.specs.Kept.{ConfigEntry, plugins_in}
use Rattle.kr_config.specs.Providers.{is_kms, plugins_among}
use Rattle.kr_config.specs.declared.who.Who.{Who}
use Rattle.kr_config.specs.declared.who.Who.TheVariants.{Kms}
use Rattle.kr_provider.specs.Publication.{names_plugin}
use Rattle.kr_opening.specs.declared.generation.Generation.{Generation}
use Rattle.kr_history.specs.ContentLaws.{NoNamesNoPlugin}
use Rattle.kr_rollout.specs.Histories.{state_of}
use Rattle.kr_rollout.specs.Openings.{NamesAmong}
use Rattle.kr_history.proofs.HeldFacts.{IsAdmittedIn, all_admitted}

no_first : {X : Type 0} (xs ys : List X) → xs ++ ys ≡ [] → xs ≡ []
no_first [] ys e = refl
no_first (x ∷ xs) ys e = absurd (omega (arith, ap length e))

no_second : {X : Type 0} (xs ys : List X) → xs ++ ys ≡ [] → ys ≡ []
no_second [] ys e = e
no_second (x ∷ xs) ys e = absurd (omega (arith, ap length e))

no_kms : (list : List Who) → plugins_among list ≡ [] → list_any is_kms list ≡ false
no_kms [] e = refl
no_kms (Kms name ∷ list) e =
    absurd (omega (arith, ap (λ (l : List (List ℕ)). length l) e))
no_kms (other ∷ list) e = no_kms list e

no_plugin : (rows : List ConfigEntry) → plugins_in rows ≡ [] → names_plugin rows ≡ false
no_plugin [] e = refl
no_plugin (row ∷ rows) e =
    let first = no_kms row.providers
    (no_first (plugins_among row.providers) (plugins_in rows) e) in
    let rest = no_plugin rows (no_second (plugins_among row.providers) (plugins_in rows) e) in
    λ i. first i || rest i

none_among : (xs : List (List ℕ)) → All (λ name. Contains [] name) xs → xs ≡ []
none_among [] a = refl
none_among (x ∷ xs) a = let c = a 0 x (omega arith) in absurd (omega (arith, c.1))

without_names : (names : List (List ℕ)) (g : Generation) → names ≡ [] → IsAdmittedIn names g
    → names_plugin g.published.rows ≡ false
without_names names g none a = no_plugin g.published.rows
    (none_among (plugins_in g.published.rows)
    (subst (λ n. NamesAmong n g.published.rows) none a.1))

pub no_names_no_plugin : NoNamesNoPlugin
no_names_no_plugin o history legal none = λ k d within.
    without_names o.names (get_or (state_of o history).generations k d) none
    (all_admitted o history legal k d within)
