-- The lists of settings that keep the rules keep them too.
use Rattle.std.proofs.Common.{◌≡◌, Bool, true, false, List, [], ◌∷◌, length, refl, sym, subst}
use Rattle.std.specs.Prelude.{◌&&◌, nat_le, if◌then◌else◌}
use Rattle.std.specs.List.{list_all, list_any}
use Rattle.std.proofs.lemmas.Bool.{false≢true}
use Rattle.kr_config.specs.declared.class.Class.{Class}
use Rattle.kr_config.specs.declared.class.Class.TheVariants.{Exact, Group, Rest}
use Rattle.kr_config.specs.declared.pattern.Pattern.{Pattern}
use Rattle.kr_config.specs.Kept.{ConfigEntry, keeps, keeps_patterns, keeps_providers, keeps_row, patterns_in, count_entry_keys, kms_in}
use Rattle.kr_config.specs.Lists.{first_list, class_list}
use Rattle.kr_config.specs.Patterns.{matches, covers_group, covers_rest}
use Rattle.kr_config.proofs.Inversions.{left, right}

first_keeps : (test : Pattern → Bool) (rows : List ConfigEntry) → list_all keeps_row rows ≡ true
    → keeps_providers (first_list test rows) ≡ true
first_keeps test [] h = refl
first_keeps test (row ∷ rows) h =
    by (list_any test row.patterns)
    (first_keeps test rows (right (keeps_row row) (list_all keeps_row rows) h))
  where
    by : (v : Bool) → keeps_providers (first_list test rows) ≡ true
        → keeps_providers (if v then row.providers else first_list test rows) ≡ true
    by true rest = right (keeps_patterns row.patterns) (keeps_providers row.providers)
        (left (keeps_row row) (list_all keeps_row rows) h)
    by false rest = rest

-- what settings keep, one by one
pub record IsKept (rows : List ConfigEntry) : Type 0 where
  pub some : nat_le 1 (length rows) ≡ true
  pub few : nat_le (length rows) 64 ≡ true
  pub each : list_all keeps_row rows ≡ true
  pub patterns : nat_le (patterns_in rows) 256 ≡ true
  pub keys : nat_le (count_entry_keys rows) 64 ≡ true
  pub plugins : nat_le (kms_in rows) 16 ≡ true

all_six : (a b c d e f : Bool) → (a && b && c && d && e && f) ≡ true
    → (a ≡ true) × (b ≡ true) × (c ≡ true) × (d ≡ true) × (e ≡ true) × (f ≡ true)
all_six a b c d e f h =
    let five = left (a && b && c && d && e) f h in
    let four = left (a && b && c && d) e five in
    let three = left (a && b && c) d four in
    let two = left (a && b) c three in (
      left a b two,
      right a b two,
      right (a && b) c three,
      right (a && b && c) d four,
      right (a && b && c && d) e five,
      right (a && b && c && d && e) f h,
    )

pub kept_of : (rows : List ConfigEntry) → keeps rows ≡ true → IsKept rows
unfolding keeps
kept_of rows h =
    let k = all_six (nat_le 1 (length rows)) (nat_le (length rows) 64) (list_all keeps_row rows)
    (nat_le (patterns_in rows) 256) (nat_le (count_entry_keys rows) 64) (nat_le (kms_in rows) 16) h in
    record {
      some = k.0;
      few = k.1;
      each = k.2;
      patterns = k.3;
      keys = k.4;
      plugins = k.5;
    }

pub each_kept : (rows : List ConfigEntry) → keeps rows ≡ true → list_all keeps_row rows ≡ true
each_kept rows h = let kept = kept_of rows h in kept.each

pub list_keeps : (rows : List ConfigEntry) (class : Class) → keeps rows ≡ true
    → keeps_providers (class_list rows class) ≡ true
list_keeps rows (Exact text) h =
    first_keeps (λ pattern. matches pattern text) rows (each_kept rows h)
list_keeps rows (Group group) h =
    first_keeps (λ pattern. covers_group pattern group) rows (each_kept rows h)
list_keeps rows Rest h = first_keeps covers_rest rows (each_kept rows h)

pub full_list : (rows : List ConfigEntry) (class : Class) → keeps rows ≡ true → class_list rows class ≡ []
    → ⊥
full_list rows class h none =
    false≢true (subst (λ l. keeps_providers l ≡ true) none (list_keeps rows class h))
