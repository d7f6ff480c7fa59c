-- The plugins of several configurations in the order of their names.
use Rattle.std.proofs.Common.{◌≡◌, ℕ, ◌+◌, ◌<◌, ◌≤◌, ◌⊎◌, inl, inr, List, [], ◌∷◌, ◌++◌, length, get_or, take, Option, None, Contains, refl, sym, ◌∙◌, ap, subst, arith, true, false}
use Rattle.std.specs.List.{flat_map}
use Rattle.std.proofs.lemmas.Grind.{flat_map-append}
use Rattle.std.proofs.lemmas.List.Elements.{Contains-append_cases}
use Rattle.kr_config.specs.Kept.{ConfigEntry, plugins_in, rows_of}
use Rattle.kr_config.specs.Providers.{plugins_among}
use Rattle.kr_config.specs.Nexts.{earlier, name_cmp, IsNextName}
use Rattle.kr_config.proofs.Nexts.{names_joined, no_name}
use Rattle.kr_provider.proofs.NameOrder.{IsStrictlySortedBy-none, comes_earlier}
use Rattle.kr_provider.proofs.PluginNames.{names_some}
use Rattle.kr_workers.specs.declared.files.SettingsFile.{SettingsFile}
use Rattle.kr_cmd_fleet.specs.FleetFiles.{all_rows}
use Rattle.kr_cmd_fleet.specs.inner.Plans.{named}
use Rattle.kr_cmd_fleet.proofs.FleetLoads.{all_parts, more_parts}
use Rattle.kr_cmd_steps.proofs.NamedPrograms.{ArePassed}

-- ---- the next name of all files

abbrev pub file_names : SettingsFile → List (List ℕ)
file_names file = plugins_in (rows_of file.settings.entries.0)

names_parts : (files : List SettingsFile)
    → plugins_in (all_rows (named files)) ≡ flat_map file_names files
names_parts [] = refl
names_parts (file ∷ files) =
    flat_map-append (λ (row : ConfigEntry). plugins_among row.providers)
    (rows_of file.settings.entries.0) (all_rows (named files))
    ∙ ap (λ l. file_names file ++ l) (names_parts files)

pub files_begin : (files : List SettingsFile) (after : List ℕ)
    → IsNextName (flat_map file_names (take 0 files)) after None
files_begin files after = no_name after

pub files_more : (files : List SettingsFile) (i : ℕ) (file : SettingsFile) (after : List ℕ)
    (old other new : Option (List ℕ)) → i < length files → file ≡ get_or files i file
    → IsNextName (flat_map file_names (take i files)) after old
    → IsNextName (plugins_in (rows_of file.settings.entries.0)) after other
    → new ≡ earlier name_cmp old other
    → IsNextName (flat_map file_names (take (i + 1) files)) after new
files_more files i file after old other new h is before own e =
    subst (λ l. IsNextName l after new) (more_parts file_names files i file h is)
    (subst (IsNextName (flat_map file_names (take i files) ++ file_names file) after) (sym e)
    (names_joined (flat_map file_names (take i files)) (file_names file) after old other before
    own))

pub files_end : (files : List SettingsFile) (i : ℕ) (after : List ℕ) (next : Option (List ℕ))
    → length files ≤ i → IsNextName (flat_map file_names (take i files)) after next
    → IsNextName (plugins_in (all_rows (named files))) after next
files_end files i after next h all = subst (λ l. IsNextName l after next)
    (all_parts file_names files i h ∙ sym (names_parts files)) all

-- ---- no name is empty

some_names : (files : List SettingsFile) (name : List ℕ)
    → Contains (flat_map file_names files) name → comes_earlier [] name ≡ true
some_names [] name c = absurd (omega (arith, c.1))
some_names (file ∷ files) name c =
    by (Contains-append_cases (file_names file) (flat_map file_names files) name c)
    (some_names files name)
  where
    by : Contains (file_names file) name ⊎ Contains (flat_map file_names files) name
        → (Contains (flat_map file_names files) name → comes_earlier [] name ≡ true)
        → comes_earlier [] name ≡ true
    by (inl here) later = names_some (rows_of file.settings.entries.0) file.settings.kept name here
    by (inr behind) later = later behind

pub none_passed_yet : (files : List SettingsFile)
    → ArePassed (all_rows (named files)) [] []
none_passed_yet files = record {
  ascend = IsStrictlySortedBy-none;
  has = λ name. (
    λ c. absurd (omega (arith, c.1)),
    λ h. absurd (let t : true ≡ false = sym (some_names files name
        (subst (λ l. Contains l name) (names_parts files) h.0)) ∙ h.1 in cc),
  );
}
