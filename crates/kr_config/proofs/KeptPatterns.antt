-- The patterns that a walk reads keep the rules.
use Rattle.std.proofs.Common.{◌≡◌, ℕ, ◌+◌, ◌<◌, ◌≤◌, Bool, true, false, List, [], ◌∷◌, ◌++◌, length}
use Rattle.std.proofs.Common.{Some, None, Ok, refl, sym, ◌∙◌, ap, subst, arith, length-append}
use Rattle.std.proofs.Common.{codes}
use Rattle.std.specs.Prelude.{if◌then◌else◌, ◌&&◌, ◌==◌, nat_lt}
use Rattle.std.specs.List.{list_all, list_any, before_first}
use Rattle.std.specs.Option.{option_map_or}
use Rattle.std.specs.Str.{bytes_eq}
use Rattle.serde_json.specs.Data.{Data}
use Rattle.serde_json.specs.Find.{as_str}
use Rattle.kr_base.specs.Rules.{is_resource}
use Rattle.kr_config.specs.declared.pattern.Pattern.{Pattern}
use Rattle.kr_config.specs.declared.pattern.Pattern.TheVariants.{Exact, Group, All}
use Rattle.kr_config.specs.declared.refusal.Rule.TheVariants as rule
use Rattle.kr_config.specs.declared.place.ConfigPlace.{ConfigPlace}
use Rattle.kr_config.specs.Patterns.{resource_group, is_group_name, is_pattern, same, overlap, clash}
use Rattle.kr_config.specs.Kept.{apart}
use Rattle.kr_base.specs.Numbering.{next_place}
use Rattle.kr_config.specs.Walk.{breach, place_at, walk, spelled_pattern, star_pattern, place_pattern}
use Rattle.kr_config.specs.Walk.{pattern_step}
use Rattle.kr_config.proofs.Inversions.{same_ok, same_some, if_ok, if_not, some_ok, neither_any}
use Rattle.kr_config.proofs.Inversions.{all_push, apart_push, walk_keeps, and_then_ok}

pub record Patterns (counted : ℕ) (ps : List Pattern) : Type 0 where
  pub forms : list_all is_pattern ps ≡ true
  pub stand : apart clash ps ≡ true
  pub few : counted + length ps ≤ 256

form_by : (a b c r : Bool) (group text : List ℕ) (p : Pattern) → is_group_name group ≡ c
    → is_resource text ≡ r
    → (if a then (if b then Some All else if c then Some (Group group) else None) else if r
    then Some (Exact text) else None) ≡ Some p → is_pattern p ≡ true
form_by true true c r group text p g e h = ap is_pattern (sym (same_some All p h))
form_by true false true r group text p g e h = ap is_pattern (sym (same_some (Group group) p h)) ∙ g
form_by false b c true group text p g e h = ap is_pattern (sym (same_some (Exact text) p h)) ∙ e
form_by other b c r group text p g e h = absurd (cc)

form : (text : List ℕ) (p : Pattern) → spelled_pattern text ≡ Some p → is_pattern p ≡ true
unfolding spelled_pattern star_pattern
form text p h = form_by (list_any (λ byte. byte == 0x2E) text
    && bytes_eq (before_first (λ byte. byte == 0x2E) text) (codes "*"))
    (bytes_eq (resource_group text) (codes "*")) (is_group_name (resource_group text)) (is_resource text)
    (resource_group text) text p refl refl h

place_keeps : (counted : ℕ) (place : ConfigPlace) (before : List Pattern) (p : Pattern)
    (after : List Pattern)
    → Patterns counted before → is_pattern p ≡ true
    → place_pattern counted place before p ≡ Ok after
    → Patterns counted after × (1 ≤ length after)
unfolding place_pattern
place_keeps counted place before p after k f h =
    let a = if_not (list_any (λ q. same q p) before) _ _ after h in
    let b = if_not (list_any (λ q. overlap q p) before) _ _ after a.1 in
    let c = if_ok (nat_lt (counted + length before) 256) (Ok (before ++ p ∷ [])) _ after b.1 in
    let below : counted + length before < 256 = grind (arith, c.0) in
    let long : length (before ++ p ∷ []) ≡ length before + 1 = length-append before (p ∷ []) in
    let P : List Pattern → Type 0 = λ l. Patterns counted l × (1 ≤ length l) in
    subst P (same_ok (before ++ p ∷ []) after c.1) (
      record {
        forms = all_push is_pattern before p k.forms f;
        stand =
            apart_push clash before p k.stand
            (neither_any (λ q. same q p) (λ q. overlap q p) before a.0 b.0);
        few =
            omega (arith, long, below);
      },
      omega (arith, long),
    )

pub pattern_kept : (counted entry item : ℕ) (before : List Pattern) (d : Data)
    (after : List Pattern) → Patterns counted before
    → pattern_step counted entry item before d ≡ Ok after
    → Patterns counted after × (1 ≤ length after)
unfolding pattern_step
pattern_kept counted entry item before d after k h =
    let text = some_ok (as_str d)
    (λ text. option_map_or (place_pattern counted (place_at entry item) before)
    (spelled_pattern text) (breach rule.Pattern (place_at entry item))) _ after h in
    let pattern = some_ok (spelled_pattern text.0) (place_pattern counted (place_at entry item) before) _
    after text.2 in
    place_keeps counted (place_at entry item) before pattern.0 after k
    (form text.0 pattern.0 pattern.1)
    pattern.2

-- a list that isn't empty gives one that isn't
pub patterns_kept : (counted entry : ℕ) (ds : List Data) (after : List Pattern) → counted ≤ 256
    → (length ds ≡ 0 → ⊥) → walk (pattern_step counted entry) 0 [] ds ≡ Ok after
    → Patterns counted after × (1 ≤ length after)
patterns_kept counted entry [] after m some h = absurd (some refl)
patterns_kept counted entry (d ∷ ds) after m some h =
    let P : List Pattern → Type 0 = λ l. Patterns counted l × (1 ≤ length l) in
    let first = and_then_ok (pattern_step counted entry 0 [] d)
    (λ u. walk (pattern_step counted entry) (next_place 0) u ds) after h in
    walk_keeps (pattern_step counted entry) P
    (λ i s x t p q. pattern_kept counted entry i s x t p.0 q) (next_place 0) first.0 ds after
    (pattern_kept counted entry 0 [] d first.0
    (record { forms = refl; stand = refl; few = omega arith }) first.1) first.2
