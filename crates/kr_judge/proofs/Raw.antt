-- What comes next among the classes of the new settings and of the live generations, one after
-- another.
use Rattle.std.proofs.Common.{◌≡◌, ◌≢◌, ℕ, ◌<◌, ◌≤◌, ◌+◌, true, false, List, [], ◌∷◌, ◌++◌, Option, None, Some, All, Contains, length, get_or, take, map, sym, ap, subst, ◌∙◌, inl, inr, arith, append-nil}
use Rattle.std.specs.List.{filter, flat_map, slice_get}
use Rattle.std.specs.declared.cmp.Ordering.TheVariants.{Less}
use Rattle.std.proofs.lemmas.List.{take_all, map-append, length-map}
use Rattle.std.proofs.lemmas.List.Elements.{All-contains, All-contains_itself, All-weaker, Contains-append_left, Contains-append_right, Contains-append_cases}
use Rattle.std.proofs.lemmas.Grind.{flat_map-append}
use Rattle.kr_config.specs.declared.class.Class.{Class}
use Rattle.kr_config.specs.declared.class.Class.TheVariants.{Rest}
use Rattle.kr_config.specs.Kept.{ConfigEntry, rows_of}
use Rattle.kr_config.specs.Classes.{class_cmp, classes_in}
use Rattle.kr_config.specs.Nexts.{earlier, comes_after, IsNextClass}
use Rattle.kr_config.proofs.Nexts.{classes_joined}
use Rattle.kr_config.proofs.Narrowing.{next_in_table}
use Rattle.kr_judge.specs.declared.generation.JudgedGeneration.{JudgedGeneration}
use Rattle.kr_config.specs.declared.settings.Settings.{Settings}
use Rattle.kr_judge.specs.Boards.{GenerationState, is_live}
use Rattle.kr_judge.specs.Scans.{live_from, live_numbers}
use Rattle.kr_judge.specs.inner.Views.{generation_of}
use Rattle.kr_judge.specs.Tables.{table_of}
use Rattle.kr_judge.specs.Verdicts.{judged_classes}
use Rattle.kr_judge.proofs.Lives.{live_more, live_settings}
use Rattle.kr_judge.proofs.Tables.{is_table}

abbrev with_rest : List ConfigEntry → List Class
with_rest rows = Rest ∷ classes_in rows

abbrev rows_in : List (ℕ × GenerationState) → List (List ConfigEntry)
rows_in lives = map (λ n. n.1.rows) lives

abbrev raw : List ConfigEntry → List (ℕ × GenerationState) → List Class
raw rows lives = flat_map with_rest (rows ∷ rows_in lives)

-- the classes come next among those of the new settings and of the live generations so far
pub record IsRaw (rows : List ConfigEntry) (generations : List GenerationState) (j : ℕ) (after next : Option Class) : Type 0 where
  pub so_far : IsNextClass (raw rows (take j (live_from 0 generations))) after next

pub raw_begin : (rows : List ConfigEntry) (generations : List GenerationState) (after next : Option Class) → IsNextClass (Rest ∷ classes_in rows) after next → IsRaw rows generations 0 after next
raw_begin rows generations after next h = record { so_far = subst (λ l. IsNextClass l after next) (sym (append-nil (with_rest rows))) h }

raw_joined : (rows : List ConfigEntry) (lives : List (ℕ × GenerationState)) (n : ℕ) (g : GenerationState) → raw rows (lives ++ (n, g) ∷ []) ≡ raw rows lives ++ with_rest g.rows
raw_joined rows lives n g =
    ap (λ l. flat_map with_rest (rows ∷ l)) (map-append (λ m. m.1.rows) lives ((n, g) ∷ []))
    ∙ flat_map-append with_rest (rows ∷ rows_in lives) (g.rows ∷ []) ∙ ap (λ l. raw rows lives ++ l) (append-nil (with_rest g.rows))

pub raw_more : (rows : List ConfigEntry) (generations : List GenerationState) (live : List ℕ) (j n : ℕ) (g : JudgedGeneration) (own : Settings) (after old other new : Option Class) → IsRaw rows generations j after old
    → live ≡ live_numbers generations → j < length live → n ≡ get_or live j 0 → Some (generation_of g) ≡ slice_get generations n → own ≡ g.settings
    → IsNextClass (Rest ∷ classes_in (rows_of own.entries.0)) after other → new ≡ earlier class_cmp old other → IsRaw rows generations (j + 1) after new
raw_more rows generations live j n g own after old other new before e h is shown settings next latest =
    let step : take (j + 1) (live_from 0 generations) ≡ take j (live_from 0 generations) ++ (n, generation_of g) ∷ [] = live_more generations j n (generation_of g) (subst (λ l. j < length l) e h) (is ∙ ap (λ l. get_or l j 0) e) shown in
    let joined : raw rows (take (j + 1) (live_from 0 generations)) ≡ raw rows (take j (live_from 0 generations)) ++ with_rest (rows_of own.entries.0) =
    ap (raw rows) step ∙ raw_joined rows (take j (live_from 0 generations)) n (generation_of g) ∙ ap (λ (s : Settings). raw rows (take j (live_from 0 generations)) ++ with_rest (rows_of s.entries.0)) (sym settings) in record {
      so_far = subst (λ l. IsNextClass l after new) (sym joined)
          (subst (IsNextClass (raw rows (take j (live_from 0 generations)) ++ with_rest (rows_of own.entries.0)) after) (sym latest)
          (classes_joined (raw rows (take j (live_from 0 generations))) (with_rest (rows_of own.entries.0)) after old other before.so_far next));
    }

-- the same members
each : (added : List (List ConfigEntry)) (c : Class) → Contains (flat_map with_rest added) c → Contains (Rest ∷ flat_map classes_in added) c
each [] c h = absurd (omega (arith, h.1))
each (rows ∷ added) c h = elim (Contains-append_cases (with_rest rows) (flat_map with_rest added) c h) [
  | inl k ↦ Contains-append_left (with_rest rows) (flat_map classes_in added) c k
  | inr k ↦ elim (Contains-append_cases (Rest ∷ []) (flat_map classes_in added) c (each added c k)) [
    | inl m ↦ Contains-append_left (Rest ∷ []) (classes_in rows ++ flat_map classes_in added) c m
    | inr m ↦ Contains-append_right (with_rest rows) (flat_map classes_in added) c m
  ]
]

later : (added : List (List ConfigEntry)) (c : Class) → Contains (flat_map classes_in added) c → Contains (flat_map with_rest added) c
later [] c h = h
later (rows ∷ added) c h = elim (Contains-append_cases (classes_in rows) (flat_map classes_in added) c h) [
  | inl k ↦ Contains-append_left (with_rest rows) (flat_map with_rest added) c (Contains-append_right (Rest ∷ []) (classes_in rows) c k)
  | inr k ↦ Contains-append_right (with_rest rows) (flat_map with_rest added) c (later added c k)
]

back : (rows : List ConfigEntry) (added : List (List ConfigEntry)) (c : Class) → Contains (Rest ∷ flat_map classes_in (rows ∷ added)) c → Contains (flat_map with_rest (rows ∷ added)) c
back rows added c h = elim (Contains-append_cases (Rest ∷ []) (flat_map classes_in (rows ∷ added)) c h) [
  | inl k ↦ Contains-append_left (with_rest rows) (flat_map with_rest added) c (Contains-append_left (Rest ∷ []) (classes_in rows) c k)
  | inr k ↦ later (rows ∷ added) c k
]

all_same : (P : Class → Type 0) (xs ys : List Class) → ((c : Class) → Contains ys c → Contains xs c) → All P xs → All P ys
all_same P xs ys same h = All-weaker (Contains ys) P (λ c there. All-contains P xs c h (same c there)) ys (All-contains_itself ys)

once : (rows : List ConfigEntry) (added : List (List ConfigEntry)) (after next : Option Class) → IsNextClass (flat_map with_rest (rows ∷ added)) after next → IsNextClass (Rest ∷ flat_map classes_in (rows ∷ added)) after next
once rows added after None h = all_same (λ c. comes_after after c ≡ false) (flat_map with_rest (rows ∷ added)) (Rest ∷ flat_map classes_in (rows ∷ added)) (back rows added) h
once rows added after (Some next) h = (
  each (rows ∷ added) next h.0,
  h.1,
  all_same (λ c. comes_after after c ≡ true → class_cmp c next ≢ Less) (flat_map with_rest (rows ∷ added)) (Rest ∷ flat_map classes_in (rows ∷ added)) (back rows added) h.2,
)

pub raw_end : (rows : List ConfigEntry) (generations : List GenerationState) (live : List ℕ) (j : ℕ) (after next : Option Class) → IsRaw rows generations j after next → live ≡ live_numbers generations → length live ≤ j → IsNextClass (judged_classes rows generations) after next
raw_end rows generations live j after next all e h =
    let whole : take j (live_from 0 generations) ≡ live_from 0 generations = take_all j (live_from 0 generations) (omega (arith, h, ap length e, length-map (live_from 0 generations) (λ n. n.0))) in
    let same : rows_in (take j (live_from 0 generations)) ≡ map (λ g. g.rows) (filter is_live generations) = ap rows_in whole ∙ live_settings 0 generations in
    let added : List (List ConfigEntry) = rows ∷ map (λ g. g.rows) (filter is_live generations) in
    next_in_table added (table_of added) after next (is_table added)
    (once rows (map (λ g. g.rows) (filter is_live generations)) after next (subst (λ l. IsNextClass (flat_map with_rest (rows ∷ l)) after next) same all.so_far))
