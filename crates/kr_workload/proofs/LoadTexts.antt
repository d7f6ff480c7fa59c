-- The paths of a load: short, and each of one worker's one object alone.
use Rattle.std.proofs.Common.{◌≡◌, ℕ, ◌+◌, ◌<◌, ◌≤◌, ◌^◌, [], ◌∷◌, ◌++◌, codes, length, get_or, drop, sym, ap, ◌∙◌, arith}
use Rattle.std.specs.Prelude.{decimal}
use Rattle.std.proofs.lemmas.Fmt.{decimal_digit, decimal_injective, length-decimal-le}
use Rattle.std.proofs.lemmas.List.{length-append}
use Rattle.kr_workload.specs.Loads.{object_path}

pub path_short : (worker number : ℕ) → worker < 4 → number < 2 ^ 32
    → length (object_path worker number) ≤ 65
path_short worker number w n =
    let begin = codes "/registry/secrets/gen/w" in
    let dash = codes "-" in
    let first = decimal worker in
    let last = decimal number in
    let first_short : length first ≤ 20 =
    length-decimal-le 20 worker (omega arith) (omega (arith, w)) (omega (arith, w)) in
    let last_short : length last ≤ 20 =
    length-decimal-le 20 number (omega arith) (omega (arith, n)) (omega (arith, n)) in
    let a = length-append ((begin ++ first) ++ dash) last in
    let b = length-append (begin ++ first) dash in
    let c = length-append begin first in omega (arith, a, b, c, first_short, last_short)

-- with the worker's digit
written : (worker number : ℕ) → worker < 4 → object_path worker number
    ≡ codes "/registry/secrets/gen/w" ++ (48 + worker) ∷ [] ++ codes "-" ++ decimal number
written worker number few = ap
    (λ d. codes "/registry/secrets/gen/w" ++ d ++ codes "-" ++ decimal number)
    (decimal_digit worker (omega (arith, few)))

pub one_worker : (worker other number next : ℕ) → worker < 4 → other < 4
    → object_path worker number ≡ object_path other next → worker ≡ other
one_worker worker other number next few less same =
    let e : 48 + worker ≡ 48 + other = ap (λ path. get_or path 23 0)
    (sym (written worker number few) ∙ same ∙ written other next less) in omega (arith, e)

pub one_number : (worker other number next : ℕ) → worker < 4 → other < 4 → number < 2 ^ 64
    → next < 2 ^ 64 → object_path worker number ≡ object_path other next → number ≡ next
one_number worker other number next few less n m same = decimal_injective number next n m
    (ap (drop 25) (sym (written worker number few) ∙ same ∙ written other next less))
