-- One part more of what a loop goes over.
use Rattle.std.proofs.Common.{◌≡◌, Option, None, subst, ℕ, ◌+◌, ◌<◌, ◌≤◌, List, [], ◌∷◌, ◌++◌}
use Rattle.std.proofs.Common.{length, get_or, take, refl, sym, ap, ◌∙◌}
use Rattle.std.specs.List.{flat_map}
use Rattle.std.proofs.lemmas.List.{take_all, take_more, flat_map_more}
use Rattle.kr_config.specs.declared.settings.Entry.{Entry}
use Rattle.kr_config.specs.declared.who.Who.{Who}
use Rattle.kr_config.specs.Providers.{plugin_of, plugins_among}
use Rattle.kr_config.specs.Kept.{ConfigEntry, entry_lists, rows_of, plugins_in}
use Rattle.kr_config.specs.Nexts.{earlier, name_cmp, IsNextName}
use Rattle.kr_config.proofs.Nexts.{names_joined, no_name}

more_parts : {X Y : Type 0} (f : X → List Y) (xs : List X) (i : ℕ) (x : X) → i < length xs
    → x ≡ get_or xs i x → flat_map f (take i xs) ++ f x ≡ flat_map f (take (i + 1) xs)
more_parts f xs i x h is = flat_map_more f [] (take i xs) x
    ∙ ap (λ y. flat_map f (take i xs ++ y ∷ [])) is ∙ ap (flat_map f) (sym (take_more xs i x h))

all_parts : {X Y : Type 0} (f : X → List Y) (xs : List X) (i : ℕ) → length xs ≤ i
    → flat_map f (take i xs) ≡ flat_map f xs
all_parts f xs i h = ap (flat_map f) (take_all i xs h)

row_parts : {Y : Type 0} (f : ConfigEntry → List Y) (entries : List Entry)
    → flat_map f (rows_of entries) ≡ flat_map (λ entry. f (entry_lists entry)) entries
row_parts f [] = refl
row_parts f (e ∷ entries) = ap (λ l. f (entry_lists e) ++ l) (row_parts f entries)

-- over providers
pub names_begin : (providers : List Who) (after : List ℕ)
    → IsNextName (plugins_among (take 0 providers)) after None
names_begin providers after = no_name after

pub names_more : (providers : List Who) (i : ℕ) (who : Who) (after : List ℕ)
    (old other new : Option (List ℕ)) → i < length providers → who ≡ get_or providers i who
    → IsNextName (plugins_among (take i providers)) after old
    → IsNextName (plugin_of who) after other → new ≡ earlier name_cmp old other
    → IsNextName (plugins_among (take (i + 1) providers)) after new
names_more providers i who after old other new h is before own e =
    subst (λ l. IsNextName l after new) (more_parts plugin_of providers i who h is)
    (subst (IsNextName (plugins_among (take i providers) ++ plugin_of who) after) (sym e)
    (names_joined (plugins_among (take i providers)) (plugin_of who) after old other before
    own))

pub names_end : (providers : List Who) (i : ℕ) (after : List ℕ) (next : Option (List ℕ))
    → length providers ≤ i → IsNextName (plugins_among (take i providers)) after next
    → IsNextName (plugins_among providers) after next
names_end providers i after next h all =
    subst (λ l. IsNextName l after next) (all_parts plugin_of providers i h) all

-- over entries
abbrev pub entry_names : Entry → List (List ℕ)
entry_names entry = plugins_among entry.providers.0

pub entries_begin : (entries : List Entry) (after : List ℕ)
    → IsNextName (flat_map entry_names (take 0 entries)) after None
entries_begin entries after = no_name after

pub entries_more : (entries : List Entry) (i : ℕ) (entry : Entry) (after : List ℕ)
    (old other new : Option (List ℕ)) → i < length entries → entry ≡ get_or entries i entry
    → IsNextName (flat_map entry_names (take i entries)) after old
    → IsNextName (plugins_among entry.providers.0) after other
    → new ≡ earlier name_cmp old other
    → IsNextName (flat_map entry_names (take (i + 1) entries)) after new
entries_more entries i entry after old other new h is before own e =
    subst (λ l. IsNextName l after new) (more_parts entry_names entries i entry h is)
    (subst (IsNextName (flat_map entry_names (take i entries) ++ entry_names entry) after) (sym e)
    (names_joined (flat_map entry_names (take i entries)) (entry_names entry) after old other
    before own))

pub entries_end : (entries : List Entry) (i : ℕ) (after : List ℕ) (next : Option (List ℕ))
    → length entries ≤ i → IsNextName (flat_map entry_names (take i entries)) after next
    → IsNextName (plugins_in (rows_of entries)) after next
entries_end entries i after next h all =
    subst (λ l. IsNextName l after next)
    (all_parts entry_names entries i h
    ∙ sym (row_parts (λ row. plugins_among row.providers) entries)) all
