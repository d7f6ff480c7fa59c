-- The list of a resource, by settings that keep their rules and name no plugin.
use Rattle.std.proofs.Common.{◌≡◌, ℕ, zero, suc, ◌<◌, ◌≤◌, Bool, true, false, List, [], ◌∷◌, ◌++◌, length, get_or, map, refl, sym, ◌∙◌, ap, subst, arith, IsTrue, lit≤}
use Rattle.std.specs.Prelude.{◌&&◌, ◌||◌, if◌then◌else◌, nat_le}
use Rattle.std.specs.List.{list_all, list_any}
use Rattle.std.proofs.lemmas.Bool.Decides.{nat_tests}
use Rattle.kr_config.specs.declared.pattern.Pattern.{Pattern}
use Rattle.kr_config.specs.declared.who.Who.{Who}
use Rattle.kr_config.specs.declared.who.Who.TheVariants.{Identity, Kms}
use Rattle.kr_config.specs.Kept.{ConfigEntry, apart, keeps, keeps_row, keeps_patterns, keeps_providers, patterns_in, count_entry_keys, kms_in, plugins_in}
use Rattle.kr_config.specs.Lists.{first_list, list_of}
use Rattle.kr_config.specs.Patterns.{matches}
use Rattle.kr_config.specs.Providers.{is_kms, is_provider, plugins_among, rivals}
use Rattle.kr_config.proofs.Inversions.{left as and_left, right as and_right}
use Rattle.kr_provider.specs.Names.{HasLinks}
use Rattle.kr_provider.specs.Publication.{IsProviderList, names_plugin}
use Rattle.kr_provider.proofs.Booleans.{or_left, or_right}

-- what holds of a row's own list, and stays where a row comes before, holds of the list that is found
pub first_has : (Has : List ConfigEntry → List Who → Type 0) → Has [] (Identity ∷ [])
    → ((row : ConfigEntry) (rows : List ConfigEntry) → Has (row ∷ rows) row.providers)
    → ((row : ConfigEntry) (rows : List ConfigEntry) (list : List Who) → Has rows list
    → Has (row ∷ rows) list)
    → (test : Pattern → Bool) (rows : List ConfigEntry) → Has rows (first_list test rows)
first_has Has none own more test [] = none
first_has Has none own more test (row ∷ rows) = chosen (list_any test row.patterns)
    (own row rows) (more row rows (first_list test rows) (first_has Has none own more test rows))
  where
    chosen : (q : Bool) → Has (row ∷ rows) row.providers → Has (row ∷ rows) (first_list test rows)
        → Has (row ∷ rows) (if q then row.providers else first_list test rows)
    chosen true a b = a
    chosen false a b = b

-- what holds of each provider of a list holds of the one at a place
pub each_at : (Is : Who → Type 0) (Are : List Who → Type 0)
    → ((who : Who) (list : List Who) → Are (who ∷ list) → Is who × Are list)
    → (list : List Who) (i : ℕ) (who : Who) → Are list → i < length list → who ≡ get_or list i who
    → Is who
each_at Is Are parts [] i who all h is = absurd (omega (arith, h))
each_at Is Are parts (x ∷ xs) zero who all h is = subst Is (sym is) (parts x xs all).0
each_at Is Are parts (x ∷ xs) (suc i) who all h is =
    each_at Is Are parts xs i who (parts x xs all).1 (omega (arith, h)) is

some_of : (n : ℕ) → nat_le 1 n ≡ true → 1 ≤ n
some_of n e = grind (arith, nat_tests)

-- the rules of a list, whatever it names
pub record Listed (list : List Who) : Type 0 where
  pub some : 1 ≤ length list
  pub providers : list_all is_provider list ≡ true
  pub stand : apart rivals list ≡ true

pub of_row : (row : ConfigEntry) → keeps_row row ≡ true → Listed row.providers
of_row row e =
    let providers = and_right (keeps_patterns row.patterns) (keeps_providers row.providers) e in
    let front = and_left (nat_le 1 (length row.providers) && list_all is_provider row.providers)
    (apart rivals row.providers) providers in
    record {
      some = some_of (length row.providers) (and_left (nat_le 1 (length row.providers))
          (list_all is_provider row.providers) front);
      providers = and_right (nat_le 1 (length row.providers))
          (list_all is_provider row.providers) front;
      stand = and_right (nat_le 1 (length row.providers) && list_all is_provider row.providers)
          (apart rivals row.providers) providers;
    }

first_keeps : (P : List Who → Type 0) (test : Pattern → Bool) (rows : List ConfigEntry) → P (Identity ∷ [])
    → ((row : ConfigEntry) → keeps_row row ≡ true → P row.providers) → list_all keeps_row rows ≡ true
    → P (first_list test rows)
first_keeps P test [] one each e = one
first_keeps P test (row ∷ rows) one each e = chosen (list_any test row.patterns)
    (each row (and_left (keeps_row row) (list_all keeps_row rows) e))
    (first_keeps P test rows one each (and_right (keeps_row row) (list_all keeps_row rows) e))
  where
    chosen : (q : Bool) → P row.providers → P (first_list test rows)
        → P (if q then row.providers else first_list test rows)
    chosen true a b = a
    chosen false a b = b

pub rows_keep : (rows : List ConfigEntry) → IsTrue (keeps rows) → list_all keeps_row rows ≡ true
unfolding keeps
rows_keep rows e =
    let a = and_left (nat_le 1 (length rows) && nat_le (length rows) 64 && list_all keeps_row rows
    && nat_le (patterns_in rows) 256 && nat_le (count_entry_keys rows) 64) (nat_le (kms_in rows) 16) e in
    let b = and_left (nat_le 1 (length rows) && nat_le (length rows) 64 && list_all keeps_row rows
    && nat_le (patterns_in rows) 256) (nat_le (count_entry_keys rows) 64) a in
    let c = and_left (nat_le 1 (length rows) && nat_le (length rows) 64 && list_all keeps_row rows)
    (nat_le (patterns_in rows) 256) b in
    and_right (nat_le 1 (length rows) && nat_le (length rows) 64) (list_all keeps_row rows) c

pub few_keys : (rows : List ConfigEntry) → IsTrue (keeps rows) → count_entry_keys rows ≤ 64
unfolding keeps
few_keys rows e =
    let a = and_left (nat_le 1 (length rows) && nat_le (length rows) 64 && list_all keeps_row rows
    && nat_le (patterns_in rows) 256 && nat_le (count_entry_keys rows) 64) (nat_le (kms_in rows) 16) e in
    at_most (count_entry_keys rows) (and_right (nat_le 1 (length rows) && nat_le (length rows) 64
    && list_all keeps_row rows && nat_le (patterns_in rows) 256) (nat_le (count_entry_keys rows) 64) a)
  where
    at_most : (n : ℕ) → nat_le n 64 ≡ true → n ≤ 64
    at_most n e = grind (arith, nat_tests)

pub listed : (rows : List ConfigEntry) (resource : List ℕ) → IsTrue (keeps rows)
    → Listed (list_of rows resource)
listed rows resource k = first_keeps Listed (λ pattern. matches pattern resource) rows
    (record { some = lit≤ tt; providers = refl; stand = refl }) of_row (rows_keep rows k)

pub list_rules : (rows : List ConfigEntry) (resource : List ℕ) → IsTrue (keeps rows)
    → IsProviderList (list_of rows resource)
list_rules rows resource k =
    let rules = listed rows resource k in record { some = rules.some; providers = rules.providers }

-- ---- settings without plugins

no_name : (list : List Who) → list_any is_kms list ≡ false → plugins_among list ≡ []
no_name [] e = refl
no_name (Kms name ∷ list) e = absurd (cc)
no_name (other ∷ list) e = no_name list e

pub no_names : (rows : List ConfigEntry) → names_plugin rows ≡ false → plugins_in rows ≡ []
no_names [] e = refl
no_names (row ∷ rows) e = ap (λ l. l ++ plugins_in rows)
    (no_name row.providers (or_left (list_any is_kms row.providers) (names_plugin rows) e))
    ∙ no_names rows (or_right (list_any is_kms row.providers) (names_plugin rows) e)

-- need no link
pub no_links : (names : List (List ℕ)) (rows : List ConfigEntry) → names_plugin rows ≡ false
    → HasLinks names rows
no_links names rows e = λ name c.
    absurd (omega (arith, c.1, ap (λ (l : List (List ℕ)). length l) (no_names rows e)))

-- ---- a test over entries, and over their rows

pub list_any-map : {X Y : Type 0} (f : X → Y) (test : Y → Bool) (xs : List X)
    → list_any test (map f xs) ≡ list_any (λ x. test (f x)) xs
list_any-map f test [] = refl
list_any-map f test (x ∷ xs) = ap (λ b. test (f x) || b) (list_any-map f test xs)
