-- The names of the plugins in settings that keep their rules, and the seeds that were made for
-- them.
use Rattle.std.proofs.Common.{◌≡◌, ℕ, zero, suc, ◌<◌, Bool, true, false, List, [], ◌∷◌, ◌++◌, length, map, refl, sym, subst, arith, Contains, inl, inr, IsTrue}
use Rattle.std.specs.Prelude.{cond, get_or, IsSome, Option, None, Some}
use Rattle.std.specs.List.{list_all}
use Rattle.std.specs.Str.{bytes_eq}
use Rattle.std.proofs.lemmas.Slice.Eq.{bytes_eq-Decides}
use Rattle.std.proofs.lemmas.List.Elements.{Contains-append_cases, Contains-append_left, Contains-append_right}
use Rattle.kr_base.specs.Rules.{IsName}
use Rattle.kr_config.specs.declared.who.Who.{Who}
use Rattle.kr_config.specs.declared.who.Who.TheVariants.{Kms}
use Rattle.kr_config.specs.Kept.{ConfigEntry, keeps, keeps_row, plugins_in}
use Rattle.kr_config.specs.Lists.{list_of}
use Rattle.kr_config.specs.Patterns.{matches}
use Rattle.kr_config.specs.Providers.{is_provider, plugin_of, plugins_among}
use Rattle.kr_config.proofs.Inversions.{left as and_left, right as and_right}
use Rattle.kr_kms.specs.Calls.{Link}
use Rattle.kr_kms.specs.declared.seeds.SeedRow.{SeedRow}
use Rattle.kr_provider.specs.Publication.{IsPublished, Publication, seed_of}
use Rattle.kr_provider.specs.Publishing.{AreSeedsOf}
use Rattle.kr_provider.specs.Readers.{writer_of}
use Rattle.kr_provider.specs.inner.Scan.{AreNamedIn, HasSeed, HaveSeeds, IsNamedIn}
use Rattle.kr_provider.proofs.Lists.{each_at, first_has, of_row, rows_keep}
use Rattle.kr_provider.proofs.NameOrder.{comes_earlier}
use Rattle.kr_provider.proofs.Rivals.{name_of}

some_name : (name : List ℕ) → IsName name → comes_earlier [] name ≡ true
some_name [] n = absurd (omega (arith, n.0))
some_name (byte ∷ bytes) n = refl

named_who : (who : Who) (name : List ℕ) → is_provider who ≡ true → Contains (plugin_of who) name
    → comes_earlier [] name ≡ true
named_who (Kms n) name p (zero, lt, e) = subst (λ m. comes_earlier [] m ≡ true) e
    (some_name n (name_of n p))
named_who (Kms n) name p (suc k, lt, e) = absurd (omega (arith, lt))
named_who other name p c = absurd (omega (arith, c.1))

named_among : (list : List Who) (name : List ℕ) → list_all is_provider list ≡ true
    → Contains (plugins_among list) name → comes_earlier [] name ≡ true
named_among [] name p c = absurd (omega (arith, c.1))
named_among (who ∷ list) name p c = elim (Contains-append_cases (plugin_of who)
    (plugins_among list) name c) [
      | inl d ↦ named_who who name (and_left (is_provider who) (list_all is_provider list) p) d
      | inr d ↦ named_among list name (and_right (is_provider who) (list_all is_provider list) p) d
    ]

named_in : (rows : List ConfigEntry) (name : List ℕ) → list_all keeps_row rows ≡ true
    → Contains (plugins_in rows) name → comes_earlier [] name ≡ true
named_in [] name k c = absurd (omega (arith, c.1))
named_in (row ∷ rows) name k c = elim (Contains-append_cases (plugins_among row.providers)
    (plugins_in rows) name c) [
      | inl d ↦ named_among row.providers name (of_row row
          (and_left (keeps_row row) (list_all keeps_row rows) k)).providers d
      | inr d ↦ named_in rows name (and_right (keeps_row row) (list_all keeps_row rows) k) d
    ]

-- no plugin's name is empty
pub names_some : (rows : List ConfigEntry) → IsTrue (keeps rows) → (name : List ℕ)
    → Contains (plugins_in rows) name → comes_earlier [] name ≡ true
names_some rows k name c = named_in rows name (rows_keep rows k) c

-- ---- a resource's list names plugins of the settings alone

named_ahead : (names behind : List (List ℕ)) (who : Who) → IsNamedIn names who
    → IsNamedIn (names ++ behind) who
named_ahead names behind (Kms name) n = Contains-append_left names behind name n
named_ahead names behind other n = tt

named_by : (names others : List (List ℕ))
    → ((name : List ℕ) → Contains names name → Contains others name) → (who : Who)
    → IsNamedIn names who → IsNamedIn others who
named_by names others more (Kms name) n = more name n
named_by names others more other n = tt

-- names that are among others
pub all_named_by : (names others : List (List ℕ))
    → ((name : List ℕ) → Contains names name → Contains others name) → (list : List Who)
    → AreNamedIn names list → AreNamedIn others list
all_named_by names others more [] n = tt
all_named_by names others more (who ∷ list) n =
    (named_by names others more who n.0, all_named_by names others more list n.1)

own_name : (who : Who) → IsNamedIn (plugin_of who) who
own_name (Kms name) = (0, omega arith, refl)
own_name other = tt

own_names : (list : List Who) → AreNamedIn (plugins_among list) list
own_names [] = tt
own_names (who ∷ list) = (
  named_ahead (plugin_of who) (plugins_among list) who (own_name who),
  all_named_by (plugins_among list) (plugin_of who ++ plugins_among list)
      (λ name c. Contains-append_right (plugin_of who) (plugins_among list) name c) list
      (own_names list),
)

pub list_named : (rows : List ConfigEntry) (resource : List ℕ)
    → AreNamedIn (plugins_in rows) (list_of rows resource)
list_named rows resource =
    first_has (λ rows list. AreNamedIn (plugins_in rows) list) (tt, tt)
    (λ row rows. all_named_by (plugins_among row.providers) (plugins_in (row ∷ rows))
    (Contains-append_left (plugins_among row.providers) (plugins_in rows)) row.providers
    (own_names row.providers))
    (λ row rows. all_named_by (plugins_in rows) (plugins_in (row ∷ rows))
    (Contains-append_right (plugins_among row.providers) (plugins_in rows)))
    (λ pattern. matches pattern resource) rows

-- ---- each has its seed

seed_there : (seeds : List SeedRow) (name : List ℕ)
    → Contains (map (λ row. row.name) seeds) name → IsSome (seed_of name seeds)
seed_there [] name c = absurd (omega (arith, c.1))
seed_there (row ∷ rows) name c = at (bytes_eq row.name name) refl (seed_there rows name) c
  where
    at : (b : Bool) → bytes_eq row.name name ≡ b
        → (Contains (map (λ r. r.name) rows) name → IsSome (seed_of name rows))
        → Contains (map (λ r. r.name) (row ∷ rows)) name
        → IsSome (cond b (Some row) (seed_of name rows))
    at true t more c = refl
    at false t more (zero, lt, e) =
        let s = (bytes_eq-Decides row.name name).1 e in absurd (cc)
    at false t more (suc k, lt, e) = more (k, omega (arith, lt), e)

seeded_who : (p : Publication) → IsPublished p → (who : Who) → IsNamedIn (plugins_in p.rows) who
    → HasSeed p.seeds who
seeded_who p is (Kms name) n = seed_there p.seeds name ((is.names name).1 n)
seeded_who p is other n = tt

seeded : (p : Publication) → IsPublished p → (list : List Who)
    → AreNamedIn (plugins_in p.rows) list → HaveSeeds p.seeds list
seeded p is [] n = tt
seeded p is (who ∷ list) n = (seeded_who p is who n.0, seeded p is list n.1)

pub list_seeded : (p : Publication) (resource : List ℕ) → IsPublished p
    → HaveSeeds p.seeds (list_of p.rows resource)
list_seeded p resource is = seeded p is (list_of p.rows resource) (list_named p.rows resource)

pub seeded_at : (seeds : List SeedRow) (list : List Who) (i : ℕ) (who : Who)
    → HaveSeeds seeds list → i < length list → who ≡ get_or list i who → HasSeed seeds who
seeded_at seeds = each_at (HasSeed seeds) (HaveSeeds seeds) (λ x xs all. (all.0, all.1))

pub writer_seeded : (seeds : List SeedRow) (list : List Who) → HaveSeeds seeds list
    → HasSeed seeds (writer_of list)
writer_seeded seeds [] a = tt
writer_seeded seeds (who ∷ rest) a = a.0

-- ---- what was made for all names is published

pub all_published : {L : Type 0} (link : L → Link) (links : List L)
    (rows : List ConfigEntry) (seeds : List SeedRow) → IsTrue (keeps rows)
    → AreSeedsOf link links (plugins_in rows) (λ name. true) seeds
    → IsPublished (record { rows = rows; seeds = seeds })
all_published link links rows seeds k s = record {
  kept = k;
  ascend = s.ascend;
  names = λ name. (λ c. ((s.named name).0 c).0, λ c. (s.named name).1 (c, refl));
  seeds = s.rows;
}

-- ---- what a list's plugin has

pub unseeded : (seeds : List SeedRow) (list : List Who) (i : ℕ) (who : Who) (name asked : List ℕ)
    → HaveSeeds seeds list → i < length list → who ≡ get_or list i who → who ≡ Kms name
    → asked ≡ name → seed_of asked seeds ≡ None → ⊥
unseeded seeds list i who name asked a h is k s none =
    let has : HasSeed seeds (Kms name) =
    subst (HasSeed seeds) k (seeded_at seeds list i who a h is) in
    let found : IsSome (seed_of asked seeds) =
    subst (λ n. IsSome (seed_of n seeds)) (sym s) has in
    let nothing = subst (λ (o : Option SeedRow). IsSome o) none found in cc

pub linked : (names : List (List ℕ)) (list : List Who) (i : ℕ) (who : Who) (name asked : List ℕ)
    → AreNamedIn names list → i < length list → who ≡ get_or list i who → who ≡ Kms name
    → asked ≡ name → Contains names asked
linked names list i who name asked a h is k s =
    let there : IsNamedIn names (Kms name) =
    subst (IsNamedIn names) k (each_at (IsNamedIn names) (AreNamedIn names)
    (λ x xs all. (all.0, all.1)) list i who a h is) in
    subst (Contains names) (sym s) there
