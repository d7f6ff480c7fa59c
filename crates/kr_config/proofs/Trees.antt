-- The items of a list of values.
use Rattle.std.proofs.Common.{◌≡◌, List, [], ◌∷◌, refl, ap, map, ◌∙◌, ◌==◌, length, ℕ, ◌+◌, ◌<◌}
use Rattle.std.proofs.Common.{◌≤◌, get_or, drop, suc, add-one, sym, drop-cons, Ok, Err, Some, false}
use Rattle.std.proofs.Common.{arith}
use Rattle.serde_json.specs.Data.{Data}
use Rattle.serde_json.specs.View.{view, items_of, items_view}
use Rattle.serde_json.specs.declared.value.Value.{Value}
use Rattle.std.specs.Prelude.{if◌then◌else◌, option_and_then, Result}
use Rattle.std.specs.Option.{option_map_or}
use Rattle.std.proofs.lemmas.List.{drop_all}
use Rattle.serde_json.specs.Find.{get, as_array}
use Rattle.kr_config.specs.declared.refusal.Rule.TheVariants as rule
use Rattle.kr_config.specs.declared.refusal.ConfigNo.{ConfigNo}
use Rattle.kr_config.specs.declared.place.ConfigPlace.{ConfigPlace}
use Rattle.kr_base.specs.Numbering.{next_place}
use Rattle.kr_config.specs.Walk.{list_of_items, named_list, breach, then_unless_breach, walk, walk_each}

items_back : (ds : List Data) → list_of_items (items_of ds) ≡ ds
items_back [] = refl
items_back (d ∷ ds) = ap (λ l. d ∷ l) (items_back ds)

list_of_view : (values : List Value) → list_of_items (items_view values) ≡ map view values
list_of_view values = items_back (map view values)

not_empty : (values : List Value) → (length values ≡ 0 → ⊥)
    → (length (map view values) == 0) ≡ false
not_empty [] h = absurd (h refl)
not_empty (v ∷ values) h = grind arith

pub named_ok : (key : List ℕ) (place : ConfigPlace) (d : Data) (values : List Value)
    → option_and_then as_array (get key d) ≡ Some (items_view values) → (length values ≡ 0 → ⊥)
    → named_list key place d ≡ Ok (map view values)
unfolding named_list
named_ok key place d values is some =
    ap (λ o. option_map_or (λ items. if length (list_of_items items) == 0
    then breach rule.EmptyList place else Ok (list_of_items items)) o (breach rule.Form place))
    is
    ∙ ap (λ l. if length l == 0 then breach rule.EmptyList place else Ok l) (list_of_view values)
    ∙ ap (λ b. if b then breach rule.EmptyList place else Ok (map view values))
    (not_empty values some)

-- the steps of a loop over values
front : {Y : Type 0} (F : List Data → Y) (values : List Value) (k : ℕ) (v : Value)
    → k < length values → v ≡ get_or values k v
    → F (map view (drop k values)) ≡ F (view v ∷ map view (drop (k + 1) values))
front F values k v h is = ap (λ l. F (map view l)) (drop-cons values k v h)
    ∙ ap (λ w. F (view w ∷ map view (drop (suc k) values))) (sym is)
    ∙ ap (λ n. F (view v ∷ map view (drop n values))) (sym (add-one k))

pub walk_more : {S : Type 0} (step : ℕ → S → Data → Result S ConfigNo) (i : ℕ) (s t : S)
    (values : List Value) (k : ℕ) (v : Value) → k < length values → v ≡ get_or values k v
    → step i s (view v) ≡ Ok t → walk step i s (map view (drop k values))
    ≡ walk step (next_place i) t (map view (drop (k + 1) values))
walk_more step i s t values k v h is ok =
    front (walk step i s) values k v h is
    ∙ ap (λ r. then_unless_breach r (λ u. walk step (next_place i) u (map view (drop (k + 1) values)))) ok

pub walk_stops : {S : Type 0} (step : ℕ → S → Data → Result S ConfigNo) (i : ℕ) (s : S)
    (why : ConfigNo) (values : List Value) (k : ℕ) (v : Value) → k < length values
    → v ≡ get_or values k v
    → step i s (view v) ≡ Err why → walk step i s (map view (drop k values)) ≡ Err why
walk_stops step i s why values k v h is err =
    front (walk step i s) values k v h is
    ∙ ap (λ r. then_unless_breach r (λ u. walk step (next_place i) u (map view (drop (k + 1) values)))) err

pub walk_ends : {S : Type 0} (step : ℕ → S → Data → Result S ConfigNo) (i : ℕ) (s : S)
    (values : List Value) (k : ℕ) → length values ≤ k
    → walk step i s (map view (drop k values)) ≡ Ok s
walk_ends step i s values k h = ap (λ l. walk step i s (map view l)) (drop_all k values h)

pub each_more : {S : Type 0} (step : S → Data → Result S ConfigNo) (s t : S) (values : List Value)
    (k : ℕ) (v : Value) → k < length values → v ≡ get_or values k v
    → step s (view v) ≡ Ok t → walk_each step s (map view (drop k values))
    ≡ walk_each step t (map view (drop (k + 1) values))
each_more step s t values k v h is ok =
    front (walk_each step s) values k v h is
    ∙ ap (λ r. then_unless_breach r (λ u. walk_each step u (map view (drop (k + 1) values)))) ok

pub each_stops : {S : Type 0} (step : S → Data → Result S ConfigNo) (s : S) (why : ConfigNo)
    (values : List Value) (k : ℕ) (v : Value) → k < length values → v ≡ get_or values k v
    → step s (view v) ≡ Err why → walk_each step s (map view (drop k values)) ≡ Err why
each_stops step s why values k v h is err =
    front (walk_each step s) values k v h is
    ∙ ap (λ r. then_unless_breach r (λ u. walk_each step u (map view (drop (k + 1) values)))) err

pub each_ends : {S : Type 0} (step : S → Data → Result S ConfigNo) (s : S) (values : List Value)
    (k : ℕ) → length values ≤ k → walk_each step s (map view (drop k values)) ≡ Ok s
each_ends step s values k h = ap (λ l. walk_each step s (map view l)) (drop_all k values h)
