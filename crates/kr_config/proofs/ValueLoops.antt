-- Lists of values, as loops make them, and what they tell of secrets.
use Rattle.std.proofs.Common.{◌≡◌, ℕ, ◌+◌, ◌<◌, ◌≤◌, List, [], ◌∷◌, ◌++◌, length, get_or, take, map, All, refl, sym, ap, subst, ◌∙◌}
use Rattle.std.proofs.lemmas.List.{map-append, take_all}
use Rattle.std.proofs.lemmas.List.Elements.{All-append, All-cons, All-nil}
use Rattle.serde_json.specs.Data.{Data, Items, item, no_items}
use Rattle.serde_json.specs.View.{view, items_of, items_view}
use Rattle.serde_json.specs.declared.value.Value.{Value}
use Rattle.kr_config.specs.declared.settings.Entry.{Entry}
use Rattle.kr_config.specs.declared.who.Who.{Who}
use Rattle.kr_config.specs.Kept.{ConfigEntry, entry_lists, rows_of}
use Rattle.kr_config.proofs.ListParts.{take_at_more}
use Rattle.kr_config.specs.Texts.{entry_data}
use Rattle.kr_config.specs.inner.Written.{IsOfBytes, AreOfBytes}

-- one value more
abbrev with_item : Items → Data → Items
with_item no_items d = item d no_items
with_item (item e es) d = item e (with_item es d)

items_push : (ds : List Data) (d : Data) → items_of (ds ++ d ∷ []) ≡ with_item (items_of ds) d
items_push [] d = refl
items_push (e ∷ ds) d = ap (item e) (items_push ds d)

more_by : {T : Type 0} (write : T → Data) (ys zs : List T) (y : T) (values : List Value)
    (value : Value) → zs ≡ ys ++ y ∷ [] → items_view values ≡ items_of (map write ys)
    → view value ≡ write y → items_view (values ++ value ∷ []) ≡ items_of (map write zs)
more_by write ys zs y values value is was own =
    ap items_of (map-append view values (value ∷ []))
    ∙ items_push (map view values) (view value)
    ∙ ap (λ l. with_item l (view value)) was
    ∙ ap (with_item (items_of (map write ys))) own
    ∙ sym (items_push (map write ys) (write y))
    ∙ sym (ap items_of (ap (map write) is ∙ map-append write ys (y ∷ [])))

pub values_more : {T : Type 0} (write : T → Data) (xs : List T) (i : ℕ) (x : T)
    (values : List Value) (value : Value) → items_view values ≡ items_of (map write (take i xs))
    → i < length xs → x ≡ get_or xs i x → view value ≡ write x
    → items_view (values ++ value ∷ []) ≡ items_of (map write (take (i + 1) xs))
values_more write xs i x values value was h is own =
    more_by write (take i xs) (take (i + 1) xs) x values value (take_at_more xs i x h is) was own

pub values_end : {T : Type 0} (write : T → Data) (xs : List T) (i : ℕ) (values : List Value)
    → items_view values ≡ items_of (map write (take i xs)) → length xs ≤ i
    → items_view values ≡ items_of (map write xs)
values_end write xs i values was h = was ∙ ap (λ l. items_of (map write l)) (take_all i xs h)

rows_push : (entries : List Entry) (i : ℕ) (entry : Entry) → i < length entries
    → entry ≡ get_or entries i entry
    → rows_of (take (i + 1) entries) ≡ rows_of (take i entries) ++ entry_lists entry ∷ []
rows_push entries i entry h is =
    ap rows_of (take_at_more entries i entry h is)
    ∙ map-append entry_lists (take i entries) (entry ∷ [])

pub entries_more : (entries : List Entry) (i : ℕ) (entry : Entry) (values : List Value)
    (value : Value)
    → items_view values ≡ items_of (map entry_data (rows_of (take i entries)))
    → i < length entries → entry ≡ get_or entries i entry
    → view value ≡ entry_data (entry_lists entry)
    → items_view (values ++ value ∷ []) ≡ items_of (map entry_data (rows_of (take (i + 1) entries)))
entries_more entries i entry values value was h is own =
    more_by entry_data (rows_of (take i entries)) (rows_of (take (i + 1) entries)) (entry_lists entry)
    values value (rows_push entries i entry h is) was own

pub entries_end : (entries : List Entry) (i : ℕ) (values : List Value)
    → items_view values ≡ items_of (map entry_data (rows_of (take i entries)))
    → length entries ≤ i → items_view values ≡ items_of (map entry_data (rows_of entries))
entries_end entries i values was h =
    was ∙ ap (λ l. items_of (map entry_data (rows_of l))) (take_all i entries h)

-- ---- secrets

pub secrets_more : (entries : List Entry) (i : ℕ) (entry : Entry)
    → AreOfBytes (rows_of (take i entries)) → i < length entries
    → entry ≡ get_or entries i entry → All IsOfBytes entry.providers.0
    → AreOfBytes (rows_of (take (i + 1) entries))
secrets_more entries i entry was h is own =
    subst AreOfBytes (sym (rows_push entries i entry h is))
    (All-append (λ (row : ConfigEntry). All IsOfBytes row.providers) (rows_of (take i entries))
    (entry_lists entry ∷ []) was
    (All-cons (λ (row : ConfigEntry). All IsOfBytes row.providers) (entry_lists entry) [] own
    (All-nil (λ (row : ConfigEntry). All IsOfBytes row.providers))))

pub secrets_end : (entries : List Entry) (i : ℕ) → AreOfBytes (rows_of (take i entries))
    → length entries ≤ i → AreOfBytes (rows_of entries)
secrets_end entries i was h = subst (λ l. AreOfBytes (rows_of l)) (take_all i entries h) was

pub among_more : (providers : List Who) (i : ℕ) (who : Who) → All IsOfBytes (take i providers)
    → i < length providers → who ≡ get_or providers i who → IsOfBytes who
    → All IsOfBytes (take (i + 1) providers)
among_more providers i who was h is own =
    subst (All IsOfBytes) (sym (take_at_more providers i who h is))
    (All-append IsOfBytes (take i providers) (who ∷ []) was
    (All-cons IsOfBytes who [] own (All-nil IsOfBytes)))

pub among_end : (providers : List Who) (i : ℕ) → All IsOfBytes (take i providers)
    → length providers ≤ i → All IsOfBytes providers
among_end providers i was h = subst (All IsOfBytes) (take_all i providers h) was
