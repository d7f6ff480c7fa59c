-- Links that serve settings: there is one to each plugin that they name.
use Rattle.std.proofs.Common.{◌≡◌, ℕ, zero, suc, Bool, true, List, [], ◌∷◌, refl, subst, arith, inl, inr}
use Rattle.std.specs.Prelude.{◌↔◌, Contains, IsTrue}
use Rattle.std.specs.List.{list_all}
use Rattle.std.proofs.lemmas.List.Elements.{Contains-append_cases, Contains-append_left, Contains-append_right}
use Rattle.kr_config.specs.declared.settings.Entry.{Entry}
use Rattle.kr_config.specs.declared.who.Who.{Who}
use Rattle.kr_config.specs.declared.who.Who.TheVariants.{Kms}
use Rattle.kr_config.specs.Kept.{plugins_in, rows_of}
use Rattle.kr_config.specs.Providers.{plugin_of, plugins_among}
use Rattle.kr_config.proofs.Inversions.{both as and_both, left as and_left, right as and_right}
use Rattle.kr_kms.specs.Calls.{Link}
use Rattle.kr_provider.specs.Names.{HasLinks, names_of}
use Rattle.kr_provider.specs.inner.Scan.{is_served}
use Rattle.kr_provider.proofs.LinkNames.{named}

module _ {L : Type 0} (link : L → Link) (links : List L) where
  abbrev serves_list : List Who → Bool
  serves_list list = list_all (is_served link links) list

  abbrev pub serves_entry : Entry → Bool
  serves_entry entry = list_all (is_served link links) entry.providers.0

  -- ---- what the test says

  who_named : (who : Who) (name : List ℕ) → is_served link links who ≡ true
      → Contains (plugin_of who) name → Contains (names_of link links) name
  who_named (Kms n) name t (zero, lt, e) =
      subst (Contains (names_of link links)) e ((named link links n).0 t)
  who_named (Kms n) name t (suc k, lt, e) = absurd (omega (arith, lt))
  who_named other name t c = absurd (omega (arith, c.1))

  list_named : (list : List Who) (name : List ℕ) → serves_list list ≡ true
      → Contains (plugins_among list) name → Contains (names_of link links) name
  list_named [] name t c = absurd (omega (arith, c.1))
  list_named (who ∷ list) name t c = elim (Contains-append_cases (plugin_of who)
      (plugins_among list) name c) [
        | inl d ↦ who_named who name (and_left (is_served link links who) (serves_list list) t) d
        | inr d ↦ list_named list name
            (and_right (is_served link links who) (serves_list list) t) d
      ]

  entries_named : (entries : List Entry) → list_all serves_entry entries ≡ true
      → HasLinks (names_of link links) (rows_of entries)
  entries_named [] t name c = absurd (omega (arith, c.1))
  entries_named (entry ∷ entries) t name c = elim (Contains-append_cases
      (plugins_among entry.providers.0) (plugins_in (rows_of entries)) name c) [
        | inl d ↦ list_named entry.providers.0 name
            (and_left (serves_entry entry) (list_all serves_entry entries) t) d
        | inr d ↦ entries_named entries
            (and_right (serves_entry entry) (list_all serves_entry entries) t) name d
      ]

  -- ---- when it says so

  who_served : (who : Who)
      → ((name : List ℕ) → Contains (plugin_of who) name → Contains (names_of link links) name)
      → is_served link links who ≡ true
  who_served (Kms n) h = (named link links n).1 (h n (0, omega arith, refl))
  who_served other h = refl

  list_served : (list : List Who)
      → ((name : List ℕ) → Contains (plugins_among list) name → Contains (names_of link links) name)
      → serves_list list ≡ true
  list_served [] h = refl
  list_served (who ∷ list) h = and_both (is_served link links who) (serves_list list)
      (who_served who
      (λ name c. h name (Contains-append_left (plugin_of who) (plugins_among list) name c)))
      (list_served list
      (λ name c. h name (Contains-append_right (plugin_of who) (plugins_among list) name c)))

  entries_served : (entries : List Entry) → HasLinks (names_of link links) (rows_of entries)
      → list_all serves_entry entries ≡ true
  entries_served [] h = refl
  entries_served (entry ∷ entries) h = and_both (serves_entry entry)
      (list_all serves_entry entries)
      (list_served entry.providers.0 (λ name c. h name (Contains-append_left
      (plugins_among entry.providers.0) (plugins_in (rows_of entries)) name c)))
      (entries_served entries (λ name c. h name (Contains-append_right
      (plugins_among entry.providers.0) (plugins_in (rows_of entries)) name c)))

  pub served : (entries : List Entry) → IsTrue (list_all serves_entry entries)
      ↔ HasLinks (names_of link links) (rows_of entries)
  served entries = (entries_named entries, entries_served entries)
