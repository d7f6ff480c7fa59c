-- The settings of both phases keep the rules, and what may pass a limit can be counted.
use Rattle.std.proofs.Common.{◌≡◌, ℕ, ◌+◌, ◌*◌, ◌<◌, ◌≤◌, ◌^◌, Bool, true, false, List, [], ◌∷◌, ◌++◌, length, Contains, refl, ap, subst, ◌∙◌, inl, inr, arith, count_by, length-append}
use Rattle.std.specs.Prelude.{◌&&◌, nat_le, not, if◌then◌else◌}
use Rattle.std.specs.List.{filter, list_all, list_any, flat_map, sum_by}
use Rattle.std.specs.Option.{option_map}
use Rattle.std.specs.Ordering.{match_ordering}
use Rattle.std.specs.BTreeSet.{insert_key}
use Rattle.std.specs.declared.cmp.Ordering.{Ordering}
use Rattle.std.specs.declared.cmp.Ordering.TheVariants.{Less, Equal, Greater}
use Rattle.std.proofs.lemmas.Bool.{le-leb, leb-true, ltb-false}
use Rattle.std.proofs.lemmas.List.{length-map}
use Rattle.std.proofs.lemmas.List.Elements.{All-weaker, All-contains_itself, All-map, Contains-append_cases}
use Rattle.std.proofs.lemmas.List.Folds.{list_all-append}
use Rattle.std.proofs.lemmas.List.Sums.{list_all-from_AllPass, sum_by-cons}
use Rattle.kr_config.specs.declared.class.Class.{Class}
use Rattle.kr_config.specs.declared.class.Class.TheVariants.{Exact, Group, Rest}
use Rattle.kr_config.specs.declared.pattern.Pattern.{Pattern}
use Rattle.kr_config.specs.declared.pattern.Pattern.TheVariants as pattern
use Rattle.kr_config.specs.declared.refusal.Counted.{Counted}
use Rattle.kr_config.specs.declared.refusal.Counted.TheVariants.{Entries, Keys, Plugins}
use Rattle.kr_config.specs.declared.who.Who.{Who}
use Rattle.kr_config.specs.Classes.{class_cmp, class_made, classes_made, classes_in}
use Rattle.kr_config.specs.Kept.{ConfigEntry, apart, keeps, keeps_patterns, keeps_providers, keeps_row, patterns_in, count_entry_keys, kms_in}
use Rattle.kr_config.specs.Lists.{first_list, class_list}
use Rattle.kr_config.specs.ClassEntries.{class_pattern, class_row}
use Rattle.kr_config.specs.Patterns.{is_pattern, matches, covers_group, covers_rest}
use Rattle.kr_config.specs.Patterns as patterns
use Rattle.kr_config.specs.Providers.{is_provider, is_key, is_kms, rivals}
use Rattle.kr_config.proofs.Inversions.{both, left, right}
use Rattle.kr_judge.specs.Providers.{has}
use Rattle.kr_judge.specs.Tables.{in_order, table_of}
use Rattle.kr_config.proofs.ListParts.{cases}
use Rattle.kr_judge.proofs.Lists.{filtered_none, map_empty, mapped_none, option_none}
use Rattle.kr_judge.proofs.Tables.{is_table}
use Rattle.kr_plan.specs.Merges.{merge, merged_list, merged_rows, classes_of, wide_rows, turned_rows}
use Rattle.kr_plan.specs.declared.refusal.PlanNo.TheVariants.{SecretClash, TooMany}
use Rattle.kr_plan.specs.Plans.{clash, first_clash, clashes_at, clash_reasons, amounts, exceeds_limit, limit_reasons}
use Rattle.kr_plan.proofs.Apart.{no_clash, clash_turn, merged_apart, all_filter}
use Rattle.kr_plan.proofs.ClassLists.{rest_in}
use Rattle.kr_plan.proofs.Counting.{count_turn, count_most}
use Rattle.kr_config.proofs.KeptLists.{kept_of, each_kept, list_keeps}

-- ---- the pattern of a class is of its form

abbrev IsFormed : Class → Type 0
IsFormed class = is_pattern (class_pattern class) ≡ true

made_formed : (p : Pattern) (class : Class) → is_pattern p ≡ true → Contains (class_made p) class
    → IsFormed class
made_formed (pattern.Exact text) class h m = elim (cases (Exact text) class [] m) [
  | inl e ↦ subst IsFormed e h
  | inr n ↦ absurd (omega (arith, n.1))
]
made_formed (pattern.Group group) class h m = elim (cases (Group group) class [] m) [
  | inl e ↦ subst IsFormed e h
  | inr n ↦ absurd (omega (arith, n.1))
]
made_formed pattern.All class h m = absurd (omega (arith, m.1))

all_formed : (ps : List Pattern) (class : Class) → list_all is_pattern ps ≡ true
    → Contains (classes_made ps) class → IsFormed class
all_formed [] class h m = absurd (omega (arith, m.1))
all_formed (p ∷ ps) class h m =
    elim (Contains-append_cases (class_made p) (classes_made ps) class m) [
      | inl k ↦ made_formed p class (left (is_pattern p) (list_all is_pattern ps) h) k
      | inr k ↦ all_formed ps class (right (is_pattern p) (list_all is_pattern ps) h) k
    ]

patterns_formed : (ps : List Pattern) → keeps_patterns ps ≡ true → list_all is_pattern ps ≡ true
patterns_formed ps h = right (nat_le 1 (length ps)) (list_all is_pattern ps)
    (left (nat_le 1 (length ps) && list_all is_pattern ps) (apart patterns.clash ps) h)

rows_formed : (rows : List ConfigEntry) (class : Class) → list_all keeps_row rows ≡ true
    → Contains (classes_in rows) class → IsFormed class
rows_formed [] class h m = absurd (omega (arith, m.1))
rows_formed (row ∷ rows) class h m =
    elim (Contains-append_cases (classes_made row.patterns) (classes_in rows) class m) [
      | inl k ↦ all_formed row.patterns class
          (patterns_formed row.patterns (left (keeps_patterns row.patterns)
          (keeps_providers row.providers) (left (keeps_row row) (list_all keeps_row rows) h))) k
      | inr k ↦ rows_formed rows class (right (keeps_row row) (list_all keeps_row rows) h) k
    ]

-- two settings that keep the rules
module _ (from to : List ConfigEntry) (kept_from : keeps from ≡ true) (kept_to : keeps to ≡ true) where
  abbrev Table : List Class
  Table = classes_of from to

  formed : (class : Class) → Contains Table class → IsFormed class
  formed class m = elim (cases Rest class (flat_map classes_in (from ∷ to ∷ []))
      (((is_table (from ∷ to ∷ [])).members class).0 m)) [
        | inl e ↦ subst IsFormed e refl
        | inr n ↦ elim (Contains-append_cases (classes_in from) (classes_in to ++ []) class n) [
          | inl k ↦ rows_formed from class (each_kept from kept_from) k
          | inr k ↦ elim (Contains-append_cases (classes_in to) [] class k) [
            | inl l ↦ rows_formed to class (each_kept to kept_to) l
            | inr l ↦ absurd (omega (arith, l.1))
          ]
        ]
      ]

-- ---- an entry

longer : (one other : List Who) → nat_le 1 (length one) ≡ true
    → nat_le 1 (length (merge one other)) ≡ true
longer [] other h = absurd cc
longer (x ∷ one) other h = le-leb 1 (length (merge (x ∷ one) other)) (omega arith)

pub providers_keep : (one other : List Who) → keeps_providers one ≡ true
    → keeps_providers other ≡ true
    → ((a b : Who) → Contains one a → Contains other b → clash a b ≡ false)
    → keeps_providers (merge one other) ≡ true
providers_keep one other a b none =
    let new : List Who = filter (λ who. not (has one who)) other in
    let long = left (nat_le 1 (length one)) (list_all is_provider one)
    (left (nat_le 1 (length one) && list_all is_provider one) (apart rivals one) a) in
    let forms = right (nat_le 1 (length one)) (list_all is_provider one)
    (left (nat_le 1 (length one) && list_all is_provider one) (apart rivals one) a) in
    let other_forms = right (nat_le 1 (length other)) (list_all is_provider other)
    (left (nat_le 1 (length other) && list_all is_provider other) (apart rivals other) b) in
    both (nat_le 1 (length (merge one other)) && list_all is_provider (merge one other))
    (apart rivals (merge one other))
    (both (nat_le 1 (length (merge one other))) (list_all is_provider (merge one other))
    (longer one other long)
    (list_all-append is_provider one new
    ∙ both (list_all is_provider one) (list_all is_provider new) forms
    (all_filter is_provider (λ who. not (has one who)) other other_forms)))
    (merged_apart one other
    (right (nat_le 1 (length one) && list_all is_provider one) (apart rivals one) a)
    (right (nat_le 1 (length other) && list_all is_provider other) (apart rivals other) b) none)

row_keeps : (one other : List ConfigEntry) (class : Class) → IsFormed class
    → keeps_providers (merge (class_list one class) (class_list other class)) ≡ true
    → keeps_row (class_row (merged_list one other) class) ≡ true
row_keeps one other class formed kept = both (keeps_patterns (class_pattern class ∷ []))
    (keeps_providers (merge (class_list one class) (class_list other class)))
    (ap (λ v. (v && true) && true) formed) kept

-- ---- all entries

abbrev Unclashed : (classes : List Class) → (one other : List ConfigEntry) → Type 0
Unclashed classes one other = (class : Class) → Contains classes class → (a b : Who)
    → Contains (class_list one class) a → Contains (class_list other class) b
    → clash a b ≡ false

pub unclashed : (classes : List Class) (one other : List ConfigEntry)
    → clash_reasons (clashes_at classes one other) ≡ [] → Unclashed classes one other
unclashed classes one other none class m =
    no_clash (class_list one class) (class_list other class)
    (option_none (λ who. (class, who)) (first_clash (class_list one class) (class_list other class))
    (mapped_none (λ c. option_map (λ who. (c, who))
    (first_clash (class_list one c) (class_list other c))) classes
    (map_empty (λ own. SecretClash own.0 own.1) (clashes_at classes one other) none) class m))

turn_unclashed : (classes : List Class) (one other : List ConfigEntry) → Unclashed classes one other
    → Unclashed classes other one
turn_unclashed classes one other h class m a b x y = clash_turn b a (h class m b a y x)

rows_keep : (classes : List Class) (one other : List ConfigEntry) → keeps one ≡ true → keeps other ≡ true
    → ((class : Class) → Contains classes class → IsFormed class)
    → Unclashed classes one other
    → list_all keeps_row (merged_rows classes one other) ≡ true
rows_keep classes one other a b formed none =
    list_all-from_AllPass keeps_row (merged_rows classes one other)
    (All-map (λ row. keeps_row row ≡ true) (class_row (merged_list one other)) classes
    (All-weaker (Contains classes) (λ class. keeps_row (class_row (merged_list one other) class) ≡ true)
    (λ class m. row_keeps one other class (formed class m)
    (providers_keep (class_list one class) (class_list other class) (list_keeps one class a)
    (list_keeps other class b) (none class m))) classes (All-contains_itself classes)))

patterns_each : (classes : List Class) (one other : List ConfigEntry)
    → patterns_in (merged_rows classes one other) ≡ length classes
patterns_each [] one other = refl
patterns_each (class ∷ classes) one other =
    let s = sum_by-cons (λ (row : ConfigEntry). length row.patterns) (class_row (merged_list one other) class)
    (merged_rows classes one other) in
    let r = patterns_each classes one other in omega (arith, s, r)

pub whole : (classes : List Class) (one other : List ConfigEntry) → Contains classes Rest
    → length classes ≤ 64 → list_all keeps_row (merged_rows classes one other) ≡ true
    → count_entry_keys (merged_rows classes one other) ≤ 64 → kms_in (merged_rows classes one other) ≤ 16
    → keeps (merged_rows classes one other) ≡ true
unfolding keeps
whole classes one other some few rows keys plugins =
    let made : List ConfigEntry = merged_rows classes one other in
    let long : length made ≡ length classes = length-map classes (class_row (merged_list one other)) in
    let each = patterns_each classes one other in
    six (le-leb 1 (length made) (omega (arith, long, some.1)))
    (le-leb (length made) 64 (omega (arith, long, few))) rows
    (le-leb (patterns_in made) 256 (omega (arith, each, few))) (le-leb (count_entry_keys made) 64 keys)
    (le-leb (kms_in made) 16 plugins)
  where
    six : {a b c d e f : Bool} → a ≡ true → b ≡ true → c ≡ true → d ≡ true → e ≡ true
        → f ≡ true → (a && b && c && d && e && f) ≡ true
    six ha hb hc hd he hf = cc

-- ---- the limits

pub record IsWithin (rows : List ConfigEntry) : Type 0 where
  pub entries : length rows ≤ 64
  pub keys : count_entry_keys rows ≤ 64
  pub plugins : kms_in rows ≤ 16

pub within : (rows : List ConfigEntry) → limit_reasons (amounts rows) ≡ [] → IsWithin rows
within rows none =
    let left_out : filter exceeds_limit (amounts rows) ≡ [] =
    map_empty (λ own. TooMany own.0 own.1) (filter exceeds_limit (amounts rows)) none in
    let at : (amount : Counted × ℕ) → Contains (amounts rows) amount → exceeds_limit amount ≡ false =
    filtered_none exceeds_limit (amounts rows) left_out in
    record {
      entries = ltb-false 64 (length rows) (at (Entries, length rows) (0, omega arith, refl));
      keys = ltb-false 64 (count_entry_keys rows) (at (Keys, count_entry_keys rows) (1, omega arith, refl));
      plugins = ltb-false 16 (kms_in rows) (at (Plugins, kms_in rows) (2, omega arith, refl));
    }

-- both phases have as many of each
counts_turn : (p : Who → Bool) (classes : List Class) (one other : List ConfigEntry) → keeps one ≡ true
    → keeps other ≡ true
    → sum_by (λ (row : ConfigEntry). count_by p row.providers) (merged_rows classes one other)
    ≡ sum_by (λ (row : ConfigEntry). count_by p row.providers) (merged_rows classes other one)
counts_turn p [] one other a b = refl
counts_turn p (class ∷ classes) one other a b =
    let many : ConfigEntry → ℕ = λ row. count_by p row.providers in
    let s = sum_by-cons many (class_row (merged_list one other) class) (merged_rows classes one other) in
    let t = sum_by-cons many (class_row (merged_list other one) class) (merged_rows classes other one) in
    let r = counts_turn p classes one other a b in
    let c = count_turn p (class_list one class) (class_list other class)
    (stands one class a) (stands other class b) in
    omega (arith, s, t, r, c)
  where
    stands : (rows : List ConfigEntry) (c : Class) → keeps rows ≡ true
        → apart rivals (class_list rows c) ≡ true
    stands rows c h =
        let ws : List Who = class_list rows c in
        right (nat_le 1 (length ws) && list_all is_provider ws) (apart rivals ws)
        (list_keeps rows c h)

-- ---- the settings of both phases

wide_long : (from to : List ConfigEntry) → length (wide_rows from to) ≡ length (classes_of from to)
wide_long from to = length-map (classes_of from to) (class_row (merged_list from to))

pub wide_keeps : (from to : List ConfigEntry) → keeps from ≡ true → keeps to ≡ true
    → clash_reasons (clashes_at (classes_of from to) from to) ≡ []
    → IsWithin (wide_rows from to) → keeps (wide_rows from to) ≡ true
wide_keeps from to a b none few =
    let classes : List Class = classes_of from to in
    whole classes from to (rest_in (from ∷ to ∷ [])) (omega (arith, wide_long from to, few.entries))
    (rows_keep classes from to a b (formed from to a b) (unclashed classes from to none)) few.keys
    few.plugins

pub turned_keeps : (from to : List ConfigEntry) → keeps from ≡ true → keeps to ≡ true
    → clash_reasons (clashes_at (classes_of from to) from to) ≡ []
    → IsWithin (wide_rows from to) → keeps (turned_rows from to) ≡ true
turned_keeps from to a b none few =
    let classes : List Class = classes_of from to in
    let keys = counts_turn is_key classes from to a b in
    let plugins = counts_turn is_kms classes from to a b in
    whole classes to from (rest_in (from ∷ to ∷ [])) (omega (arith, wide_long from to, few.entries))
    (rows_keep classes to from b a (formed from to a b)
    (turn_unclashed classes from to (unclashed classes from to none)))
    (omega (arith, keys, few.keys)) (omega (arith, plugins, few.plugins))

-- ---- bounds, so that the amounts can be counted

insert_long : (c : Class) (cs : List Class) → length (insert_key class_cmp cs c) ≤ length cs + 1
insert_long c [] = omega arith
insert_long c (o ∷ os) = by (class_cmp c o) (insert_long c os)
  where
    by : (r : Ordering) → length (insert_key class_cmp os c) ≤ length os + 1
        → length (match_ordering r (c ∷ o ∷ os) (o ∷ os) (o ∷ insert_key class_cmp os c))
        ≤ length (o ∷ os) + 1
    by Less h = omega arith
    by Equal h = omega arith
    by Greater h = omega (arith, h)

order_long : (cs : List Class) → length (in_order cs) ≤ length cs
order_long [] = omega arith
order_long (c ∷ cs) = omega (arith, insert_long c (in_order cs), order_long cs)

made_long : (p : Pattern) → length (class_made p) ≤ 1
made_long (pattern.Exact text) = omega arith
made_long other = omega arith

all_long : (ps : List Pattern) → length (classes_made ps) ≤ length ps
all_long [] = omega arith
all_long (p ∷ ps) = omega (
  arith,
  length-append (class_made p) (classes_made ps),
  made_long p,
  all_long ps,
)

in_long : (rows : List ConfigEntry) → length (classes_in rows) ≤ patterns_in rows
in_long [] = omega arith
in_long (row ∷ rows) =
    let s = sum_by-cons (λ (r : ConfigEntry). length r.patterns) row rows in
    omega (
      arith,
      s,
      length-append (classes_made row.patterns) (classes_in rows),
      all_long row.patterns,
      in_long rows,
    )

few_patterns : (rows : List ConfigEntry) → keeps rows ≡ true → patterns_in rows ≤ 256
few_patterns rows h =
    let kept = kept_of rows h in leb-true (patterns_in rows) 256 kept.patterns

few_keys : (rows : List ConfigEntry) → keeps rows ≡ true → count_entry_keys rows ≤ 64
few_keys rows h = let kept = kept_of rows h in leb-true (count_entry_keys rows) 64 kept.keys

few_plugins : (rows : List ConfigEntry) → keeps rows ≡ true → kms_in rows ≤ 16
few_plugins rows h = let kept = kept_of rows h in leb-true (kms_in rows) 16 kept.plugins

table_long : (from to : List ConfigEntry) → keeps from ≡ true → keeps to ≡ true
    → length (classes_of from to) ≤ 513
unfolding table_of
table_long from to a b =
    let o = order_long (Rest ∷ flat_map classes_in (from ∷ to ∷ [])) in
    let one = length-append (classes_in from) (classes_in to ++ []) in
    let none : List Class = [] in
    let other = length-append (classes_in to) none in
    omega (arith, o, one, other, in_long from, in_long to, few_patterns from a, few_patterns to b)

-- the providers of a list are among all
list_most : (p : Who → Bool) (test : Pattern → Bool) (rows : List ConfigEntry) (most : ℕ)
    → count_by p (first_list test []) ≤ most
    → sum_by (λ (row : ConfigEntry). count_by p row.providers) rows ≤ most
    → count_by p (first_list test rows) ≤ most
list_most p test [] most none h = none
list_most p test (row ∷ rows) most none h =
    let s = sum_by-cons (λ (r : ConfigEntry). count_by p r.providers) row rows in
    by (list_any test row.patterns) (omega (arith, s, h))
    (list_most p test rows most none (omega (arith, s, h)))
  where
    by : (v : Bool) → count_by p row.providers ≤ most → count_by p (first_list test rows) ≤ most
        → count_by p (if v then row.providers else first_list test rows) ≤ most
    by true own rest = own
    by false own rest = rest

class_most : (p : Who → Bool) (rows : List ConfigEntry) (class : Class) (most : ℕ)
    → count_by p (class_list [] class) ≤ most
    → sum_by (λ (row : ConfigEntry). count_by p row.providers) rows ≤ most
    → count_by p (class_list rows class) ≤ most
class_most p rows (Exact text) most none h =
    list_most p (λ pattern. matches pattern text) rows most none h
class_most p rows (Group group) most none h =
    list_most p (λ pattern. covers_group pattern group) rows most none h
class_most p rows Rest most none h = list_most p covers_rest rows most none h

merged_most : (p : Who → Bool) (classes : List Class) (one other : List ConfigEntry) (most : ℕ)
    → ((class : Class) → count_by p (class_list [] class) ≤ most)
    → sum_by (λ (row : ConfigEntry). count_by p row.providers) one ≤ most
    → sum_by (λ (row : ConfigEntry). count_by p row.providers) other ≤ most
    → sum_by (λ (row : ConfigEntry). count_by p row.providers) (merged_rows classes one other)
    ≤ length classes * (most + most)
merged_most p [] one other most none a b = omega arith
merged_most p (class ∷ classes) one other most none a b =
    let many : ConfigEntry → ℕ = λ row. count_by p row.providers in
    let s = sum_by-cons many (class_row (merged_list one other) class) (merged_rows classes one other) in
    let r = merged_most p classes one other most none a b in
    let c = count_most p (class_list one class) (class_list other class) in
    let x = class_most p one class most (none class) a in
    let y = class_most p other class most (none class) b in
    grind (arith, s, r, c, x, y)

no_key : (class : Class) → count_by is_key (class_list [] class) ≤ 64
no_key (Exact text) = omega arith
no_key other = omega arith

no_plugin : (class : Class) → count_by is_kms (class_list [] class) ≤ 16
no_plugin (Exact text) = omega arith
no_plugin other = omega arith

pub record IsSmall (rows : List ConfigEntry) : Type 0 where
  pub entries : length rows < 2 ^ 32
  pub keys : count_entry_keys rows < 2 ^ 32
  pub plugins : kms_in rows < 2 ^ 32

pub wide_small : (from to : List ConfigEntry) → keeps from ≡ true → keeps to ≡ true
    → IsSmall (wide_rows from to)
wide_small from to a b =
    let classes : List Class = classes_of from to in
    let most = table_long from to a b in
    let keys = merged_most is_key classes from to 64 no_key (few_keys from a) (few_keys to b) in
    let plugins =
    merged_most is_kms classes from to 16 no_plugin (few_plugins from a) (few_plugins to b) in
    record {
      entries = omega (arith, wide_long from to, most);
      keys = omega (arith, keys, most);
      plugins = omega (arith, plugins, most);
    }
