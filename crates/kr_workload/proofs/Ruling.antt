-- The fleet of a load keeps the rules of a fleet file.
use Rattle.std.proofs.Common.{◌≡◌, ℕ, zero, suc, ◌+◌, ◌*◌, ◌%◌, ◌^◌, ◌<◌, ◌≤◌, Bool, true, false, List, [], ◌∷◌, ◌++◌, codes, length, map, get_or, refl, ◌∙◌, ap, arith}
use Rattle.std.specs.Prelude.{◌&&◌, ◌||◌, nat_le, decimal}
use Rattle.std.specs.Int.{IsInRange}
use Rattle.std.specs.List.{list_all, list_any, range_with_len}
use Rattle.std.specs.Str.Parse.{digits_value}
use Rattle.std.proofs.lemmas.Bool.{le-leb}
use Rattle.std.proofs.lemmas.Bool.Decides.{nat_tests}
use Rattle.std.proofs.lemmas.Fmt.{decimal_digit, digits_decimal, length-decimal-le}
use Rattle.std.proofs.lemmas.List.{length-append}
use Rattle.std.proofs.lemmas.List.Folds.{list_all-append, list_all-map, list_any-append}
use Rattle.std.proofs.lemmas.Str.Parse.{IsNumeralModel, numerals_by_value, tells_by_index}
use Rattle.kr_base.specs.Rules.{is_graphic, is_name, is_path}
use Rattle.kr_script.specs.Rules.{are_distinct, has_long_line, is_line, is_long, is_worker, worker_names}
use Rattle.kr_workload.specs.Loads.{KeepsRules, load_get_line, lines_of, load_fleet, load_worker, object_path, put_of, load_reloads}
use Rattle.kr_workload.specs.Streams.{stream_key, piece}
use Rattle.kr_workload.proofs.Streaming.{bytes_long}

-- ---- digits

abbrev AreDigits : List ℕ → Type 0
AreDigits text = (i : ℕ) → i < length text → IsInRange 48 57 (get_or text i 0)

own : IsNumeralModel AreDigits (digits_value 10)
own = numerals_by_value AreDigits tells_by_index

graphic : (byte : ℕ) → IsInRange 48 57 byte → is_graphic byte ≡ true
graphic byte h = grind (arith, nat_tests)

all_by_index : (text : List ℕ) → AreDigits text → list_all is_graphic text ≡ true
all_by_index [] h = refl
all_by_index (byte ∷ text) h =
    let first : is_graphic byte ≡ true = graphic byte (h 0 (omega arith)) in
    let rest = all_by_index text (λ i lt. h (suc i) (omega (arith, lt))) in
    λ i. first i && rest i

digits_graphic : (n : ℕ) → n < 2 ^ 64 → list_all is_graphic (decimal n) ≡ true
digits_graphic n small = all_by_index (decimal n) (digits_decimal own n small)

-- ---- paths

both_graphic : (front back : List ℕ) → list_all is_graphic front ≡ true
    → list_all is_graphic back ≡ true → list_all is_graphic (front ++ back) ≡ true
both_graphic front back f b = list_all-append is_graphic front back ∙ (λ i. f i && b i)

path_by : (path : List ℕ) → 1 ≤ length path → length path ≤ 1024
    → list_all is_graphic path ≡ true → is_path path ≡ true
path_by path some few all =
    λ i. le-leb 1 (length path) some i && le-leb (length path) 1024 few i && all i

pub path_ok : (worker number : ℕ) → worker < 4 → number < 2 ^ 32
    → is_path (object_path worker number) ≡ true
path_ok worker number w n =
    let begin = codes "/registry/secrets/gen/w" in
    let dash = codes "-" in
    let first = decimal worker in
    let last = decimal number in
    let worker_fits : worker < 2 ^ 64 = omega (arith, w) in
    let number_fits : number < 2 ^ 64 = omega (arith, n) in
    let first_short : length first ≤ 20 =
    length-decimal-le 20 worker (omega arith) (omega (arith, w)) worker_fits in
    let last_short : length last ≤ 20 =
    length-decimal-le 20 number (omega arith) (omega (arith, n)) number_fits in
    let a = length-append ((begin ++ first) ++ dash) last in
    let b = length-append (begin ++ first) dash in
    let c = length-append begin first in
    path_by (object_path worker number) (omega (arith, a, b, c))
    (omega (arith, a, b, c, first_short, last_short))
    (both_graphic ((begin ++ first) ++ dash) last
    (both_graphic (begin ++ first) dash
    (both_graphic begin first refl (digits_graphic worker worker_fits)) refl)
    (digits_graphic number number_fits))

-- ---- lines

all_below : (p : ℕ → Bool) (first count : ℕ) → ((k : ℕ) → k < first + count → p k ≡ true)
    → list_all p (range_with_len first count) ≡ true
all_below p first zero h = refl
all_below p first (suc count) h =
    let here : p first ≡ true = h first (omega arith) in
    let rest = all_below p (first + 1) count (λ k lt. h k (omega (arith, lt))) in
    λ i. here i && rest i

module _ (seed size worker : ℕ) (small : size < 2 ^ 32) (few : worker < 4) where
  puts_ok : list_all (is_line 2) (map (put_of seed size worker) (range_with_len 0 size)) ≡ true
  puts_ok =
      list_all-map (is_line 2) (put_of seed size worker) (range_with_len 0 size)
      ∙ all_below (λ number. is_line 2 (put_of seed size worker number)) 0 size
      (λ k lt. path_ok worker k few (omega (arith, lt, small)))

  gets_ok : list_all (is_line 2) (map (load_get_line worker) (range_with_len 0 size)) ≡ true
  gets_ok =
      list_all-map (is_line 2) (load_get_line worker) (range_with_len 0 size)
      ∙ all_below (λ number. is_line 2 (load_get_line worker number)) 0 size
      (λ k lt. path_ok worker k few (omega (arith, lt, small)))

reloads_ok : (worker : ℕ) → list_all (is_line 2) (load_reloads worker) ≡ true
reloads_ok zero = refl
reloads_ok (suc worker) = refl

lines_ok : (seed size worker : ℕ) → size < 2 ^ 32 → worker < 4
    → list_all (is_line 2) (lines_of seed size worker) ≡ true
lines_ok seed size worker small few =
    let puts = map (put_of seed size worker) (range_with_len 0 size) in
    let gets = map (load_get_line worker) (range_with_len 0 size) in
    list_all-append (is_line 2) puts (load_reloads worker ++ gets)
    ∙ (λ i. puts_ok seed size worker small few i
    && (list_all-append (is_line 2) (load_reloads worker) gets
    ∙ (λ j. reloads_ok worker j && gets_ok seed size worker small few j)) i)

-- ---- workers

worker_by : (seed size worker : ℕ) → size < 2 ^ 32 → worker < 4
    → is_name (codes "w" ++ decimal worker) ≡ true
    → is_worker 2 (load_worker seed size worker) ≡ true
worker_by seed size worker small few named =
    let below : nat_le (suc (worker % 2)) 2 ≡ true = le-leb (suc (worker % 2)) 2 (omega arith) in
    λ i. named i && below i && lines_ok seed size worker small few i

name_ok : (worker : ℕ) → worker < 10 → is_name (codes "w" ++ (48 + worker) ∷ []) ≡ true
    → is_name (codes "w" ++ decimal worker) ≡ true
name_ok worker few h = ap (λ d. is_name (codes "w" ++ d)) (decimal_digit worker few) ∙ h

workers_ok : (seed size : ℕ) → size < 2 ^ 32
    → list_all (is_worker 2) (load_fleet seed size).workers ≡ true
workers_ok seed size small =
    let w0 = worker_by seed size 0 small (omega arith) (name_ok 0 (omega arith) refl) in
    let w1 = worker_by seed size 1 small (omega arith) (name_ok 1 (omega arith) refl) in
    let w2 = worker_by seed size 2 small (omega arith) (name_ok 2 (omega arith) refl) in
    let w3 = worker_by seed size 3 small (omega arith) (name_ok 3 (omega arith) refl) in
    λ i. w0 i && (w1 i && (w2 i && (w3 i && true)))

names_apart : (seed size : ℕ) → are_distinct (worker_names (load_fleet seed size)) ≡ true
names_apart seed size =
    λ i. are_distinct ((codes "w" ++ decimal_digit 0 (omega arith) i)
    ∷ ((codes "w" ++ decimal_digit 1 (omega arith) i)
    ∷ ((codes "w" ++ decimal_digit 2 (omega arith) i)
    ∷ ((codes "w" ++ decimal_digit 3 (omega arith) i) ∷ []))))

-- ---- data

pub piece_long : (seed number : ℕ) → length (piece seed number) ≡ 32
piece_long seed number = bytes_long (stream_key seed 0) (32 * number) 32

none_below : (p : ℕ → Bool) (first count : ℕ) → ((k : ℕ) → p k ≡ false)
    → list_any p (range_with_len first count) ≡ false
none_below p first zero h = refl
none_below p first (suc count) h =
    let rest = none_below p (first + 1) count h in λ i. h first i || rest i

any_map : {A : Type 0} (p : A → Bool) (f : ℕ → A) (ks : List ℕ)
    → list_any p (map f ks) ≡ list_any (λ k. p (f k)) ks
any_map p f [] = refl
any_map p f (k ∷ ks) = ap (λ b. p (f k) || b) (any_map p f ks)

short_put : (seed size worker number : ℕ) → is_long (put_of seed size worker number) ≡ false
short_put seed size worker number =
    let long = piece_long seed (2 + worker * size + number) in grind (arith, nat_tests, long)

puts_short : (seed size worker : ℕ)
    → list_any is_long (map (put_of seed size worker) (range_with_len 0 size)) ≡ false
puts_short seed size worker =
    any_map is_long (put_of seed size worker) (range_with_len 0 size)
    ∙ none_below (λ number. is_long (put_of seed size worker number)) 0 size
    (short_put seed size worker)

gets_short : (size worker : ℕ)
    → list_any is_long (map (load_get_line worker) (range_with_len 0 size)) ≡ false
gets_short size worker =
    any_map is_long (load_get_line worker) (range_with_len 0 size)
    ∙ none_below (λ number. is_long (load_get_line worker number)) 0 size (λ k. refl)

reloads_short : (worker : ℕ) → list_any is_long (load_reloads worker) ≡ false
reloads_short zero = refl
reloads_short (suc worker) = refl

lines_short : (seed size worker : ℕ) → list_any is_long (lines_of seed size worker) ≡ false
lines_short seed size worker =
    let puts = map (put_of seed size worker) (range_with_len 0 size) in
    let gets = map (load_get_line worker) (range_with_len 0 size) in
    list_any-append is_long puts (load_reloads worker ++ gets)
    ∙ (λ i. puts_short seed size worker i
    || (list_any-append is_long (load_reloads worker) gets
    ∙ (λ j. reloads_short worker j || gets_short size worker j)) i)

none_long : (seed size : ℕ) → has_long_line (load_fleet seed size) ≡ false
none_long seed size = λ i. lines_short seed size 0 i || (lines_short seed size 1 i
    || (lines_short seed size 2 i || (lines_short seed size 3 i || false)))

-- ---- all of it

pub keeps_rules : (seed size : ℕ) → size < 2 ^ 32 → KeepsRules seed size
keeps_rules seed size small = record {
  rules = record {
    replicas = refl;
    apart = refl;
    first = refl;
    workers = workers_ok seed size small;
    workers_apart = names_apart seed size;
  };
  whole = record { replicas = omega arith; workers = omega arith };
  within = record {
    replicas = omega arith;
    workers = omega arith;
    lines = none_long seed size;
  };
}
