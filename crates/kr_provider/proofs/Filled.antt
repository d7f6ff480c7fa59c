-- A sealed value: a prefix, and what was written behind it.
use Rattle.std.proofs.Common.{◌≡◌, ℕ, ◌≤◌, List, ◌++◌, length, take, drop, Bool, false, sym, ◌∙◌, ap, arith}
use Rattle.std.specs.Prelude.{if◌then◌else◌, nat_lt, None}
use Rattle.std.proofs.Math.Seq.{take-length}
use Rattle.std.proofs.lemmas.Bool.Decides.{nat_tests}
use Rattle.std.proofs.lemmas.List.{take-append-le}
use Rattle.kr_config.specs.declared.who.Who.{Who}
use Rattle.kr_kms.specs.declared.seeds.SeedRow.{SeedRow}
use Rattle.kr_provider.specs.Sealing.{sealed_by, value_by}

front : (xs ys : List ℕ) (n : ℕ) → n ≡ length xs → take n (xs ++ ys) ≡ xs
front xs ys n e = ap (λ k. take k (xs ++ ys)) e ∙ take-append-le (length xs) xs ys (omega arith)
    ∙ take-length xs

-- what was written into a vector that kept its length is all of it
pub all_new : (result new now items : List ℕ) (count : ℕ)
    → result ≡ take count (new ++ drop (length new) items) → length new ≡ length now → now ≡ items
    → count ≡ length items → result ≡ new
all_new result new now items count r long same counted =
    r ∙ front new (drop (length new) items) count (counted ∙ sym (long ∙ ap length same))

not_above : (n m : ℕ) → n ≤ m → nat_lt m n ≡ false
not_above n m h = grind (arith, nat_tests)

-- where the data aren't too large, the value is the provider's
pub sealed_fits : (seeds : List SeedRow) (who : Who) (path plain drawn : List ℕ)
    → length plain ≤ 2097152 → sealed_by seeds who path plain drawn
    ≡ value_by seeds who path plain drawn
sealed_fits seeds who path plain drawn h = ap
    (λ (b : Bool). if b then None else value_by seeds who path plain drawn)
    (not_above (length plain) 2097152 h)
