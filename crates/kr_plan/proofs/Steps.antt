-- Loops over classes, providers and entries.
use Rattle.std.proofs.Common.{◌≡◌, ℕ, ◌+◌, ◌<◌, ◌≤◌, Bool, true, false, List, [], ◌∷◌, ◌++◌, length, get_or, take, drop, map, Option, None, Some, refl, sym, ap, ◌∙◌, arith, append-nil}
use Rattle.std.specs.Prelude.{not, cond}
use Rattle.std.specs.List.{cons_option, filter}
use Rattle.std.specs.Option.{option_map}
use Rattle.std.proofs.lemmas.List.{append_assoc, map-append, take_all}
use Rattle.std.proofs.lemmas.List.Elements.{filter-append}
use Rattle.std.proofs.lemmas.List.FromFn.{map-range_with_len_more}
use Rattle.kr_config.specs.declared.class.Class.{Class}
use Rattle.kr_config.specs.declared.settings.Entry.{Entry}
use Rattle.kr_config.specs.declared.who.Who.{Who}
use Rattle.kr_config.specs.Kept.{ConfigEntry, entry_lists, rows_of}
use Rattle.kr_config.specs.Lists.{class_list}
use Rattle.kr_config.specs.ClassEntries.{class_row}
use Rattle.kr_judge.specs.Providers.{has}
use Rattle.kr_judge.specs.Verdicts.{first}
use Rattle.kr_judge.proofs.Parts.{drop_at, drop_end, take_at_more}
use Rattle.kr_plan.specs.Merges.{merged_list, merged_rows}
use Rattle.kr_plan.specs.Plans.{reloads, first_clash, clashes_at}
use Rattle.kr_plan.specs.declared.moves.Move.{Move}
use Rattle.kr_plan.specs.declared.moves.Move.TheVariants.{Reload}
use Rattle.kr_plan.specs.declared.moves.Phase.{Phase}

-- ---- the first clash

-- what is left of the classes decides
pub record IsLeft (classes : List Class) (one other : List ConfigEntry) (i : ℕ) : Type 0 where
  pub first_is : first (clashes_at classes one other) ≡ first (clashes_at (drop i classes) one other)

-- what one class adds
abbrev at_class : Class → Option Who → List (Class × Who) → List (Class × Who)
at_class class who rest = cons_option (option_map (λ own. (class, own)) who) rest

pub left_begin : (classes : List Class) (one other : List ConfigEntry) → IsLeft classes one other 0
left_begin classes one other = record { first_is = refl }

pub left_more : (classes : List Class) (one other : List ConfigEntry) (i : ℕ) (class : Class)
    → IsLeft classes one other i → i < length classes → class ≡ get_or classes i class
    → None ≡ first_clash (class_list one class) (class_list other class)
    → IsLeft classes one other (i + 1)
left_more classes one other i class left h is none = record {
  first_is = left.first_is
      ∙ ap (λ l. first (clashes_at l one other)) (drop_at classes i class h is)
      ∙ ap (λ w. first (at_class class w (clashes_at (drop (i + 1) classes) one other)))
      (sym none);
}

pub left_found : (classes : List Class) (one other : List ConfigEntry) (i : ℕ) (class : Class) (who : Who)
    → IsLeft classes one other i → i < length classes → class ≡ get_or classes i class
    → Some who ≡ first_clash (class_list one class) (class_list other class)
    → Some (class, who) ≡ first (clashes_at classes one other)
left_found classes one other i class who left h is some =
    sym (left.first_is ∙ ap (λ l. first (clashes_at l one other)) (drop_at classes i class h is)
    ∙ ap (λ w. first (at_class class w (clashes_at (drop (i + 1) classes) one other))) (sym some))

pub left_end : (classes : List Class) (one other : List ConfigEntry) (i : ℕ) → IsLeft classes one other i
    → length classes ≤ i → None ≡ first (clashes_at classes one other)
left_end classes one other i left h =
    sym (left.first_is ∙ ap (λ l. first (clashes_at l one other)) (drop_end classes i h))

-- ---- entries

pub merged_more : (classes : List Class) (one other : List ConfigEntry) (i : ℕ) (class : Class)
    (entries : List Entry) (entry : Entry)
    → rows_of entries ≡ merged_rows (take i classes) one other → i < length classes
    → class ≡ get_or classes i class → entry_lists entry ≡ class_row (merged_list one other) class
    → rows_of (entries ++ entry ∷ []) ≡ merged_rows (take (i + 1) classes) one other
merged_more classes one other i class entries entry was h is row =
    map-append entry_lists entries (entry ∷ [])
    ∙ ap (λ l. l ++ entry_lists entry ∷ []) was
    ∙ ap (λ r. merged_rows (take i classes) one other ++ r ∷ []) row
    ∙ sym (ap (map (class_row (merged_list one other))) (take_at_more classes i class h is)
    ∙ map-append (class_row (merged_list one other)) (take i classes) (class ∷ []))

pub merged_end : (classes : List Class) (one other : List ConfigEntry) (i : ℕ) (entries : List Entry)
    → rows_of entries ≡ merged_rows (take i classes) one other → length classes ≤ i
    → rows_of entries ≡ merged_rows classes one other
merged_end classes one other i entries was h =
    was ∙ ap (λ l. merged_rows l one other) (take_all i classes h)

-- ---- providers

pub copied_more : (begun one : List Who) (i : ℕ) (who copy : Who) (providers : List Who)
    → providers ≡ begun ++ take i one → i < length one → who ≡ get_or one i who → copy ≡ who
    → providers ++ copy ∷ [] ≡ begun ++ take (i + 1) one
copied_more begun one i who copy providers was h is same =
    ap (λ l. l ++ copy ∷ []) was ∙ append_assoc begun (take i one) (copy ∷ [])
    ∙ ap (λ w. begun ++ (take i one ++ w ∷ [])) same
    ∙ ap (λ l. begun ++ l) (sym (take_at_more one i who h is))

pub copied_end : (begun one : List Who) (i : ℕ) (providers : List Who)
    → providers ≡ begun ++ take i one → length one ≤ i → providers ≡ begun ++ one
copied_end begun one i providers was h = was ∙ ap (λ l. begun ++ l) (take_all i one h)

abbrev new : List Who → Who → Bool
new one who = not (has one who)

new_step : (one other : List Who) (i : ℕ) (who : Who) → i < length other
    → who ≡ get_or other i who
    → filter (new one) (take (i + 1) other)
    ≡ filter (new one) (take i other) ++ cond (new one who) (who ∷ []) []
new_step one other i who h is =
    ap (filter (new one)) (take_at_more other i who h is)
    ∙ filter-append (new one) (take i other) (who ∷ [])

pub new_more : (begun one other : List Who) (i : ℕ) (who copy : Who) (providers : List Who)
    → providers ≡ begun ++ filter (new one) (take i other) → i < length other
    → who ≡ get_or other i who → has one who ≡ false → copy ≡ who
    → providers ++ copy ∷ [] ≡ begun ++ filter (new one) (take (i + 1) other)
new_more begun one other i who copy providers was h is absent same =
    ap (λ l. l ++ copy ∷ []) was
    ∙ append_assoc begun (filter (new one) (take i other)) (copy ∷ [])
    ∙ ap (λ w. begun ++ (filter (new one) (take i other) ++ w ∷ [])) same
    ∙ ap (λ l. begun ++ l) (sym (new_step one other i who h is
    ∙ ap (λ v. filter (new one) (take i other) ++ cond (not v) (who ∷ []) []) absent))

pub new_over : (begun one other : List Who) (i : ℕ) (who : Who) (providers : List Who)
    → providers ≡ begun ++ filter (new one) (take i other) → i < length other
    → who ≡ get_or other i who → has one who ≡ true
    → providers ≡ begun ++ filter (new one) (take (i + 1) other)
new_over begun one other i who providers was h is present =
    was ∙ ap (λ l. begun ++ l) (sym (new_step one other i who h is
    ∙ ap (λ v. filter (new one) (take i other) ++ cond (not v) (who ∷ []) []) present
    ∙ append-nil (filter (new one) (take i other))))

pub new_end : (begun one other : List Who) (i : ℕ) (providers : List Who)
    → providers ≡ begun ++ filter (new one) (take i other) → length other ≤ i
    → providers ≡ begun ++ filter (new one) other
new_end begun one other i providers was h =
    was ∙ ap (λ l. begun ++ filter (new one) l) (take_all i other h)

-- ---- moves

pub reloads_more : (phase : Phase) (i : ℕ) (begun moves : List Move)
    → moves ≡ begun ++ reloads phase i
    → moves ++ Reload i phase ∷ [] ≡ begun ++ reloads phase (i + 1)
reloads_more phase i begun moves was =
    ap (λ l. l ++ Reload i phase ∷ []) was ∙ append_assoc begun (reloads phase i) (Reload i phase ∷ [])
    ∙ ap (λ l. begun ++ l) (sym (map-range_with_len_more (λ replica. Reload replica phase) 0 i i (omega arith)))
