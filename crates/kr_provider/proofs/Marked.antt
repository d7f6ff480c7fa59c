-- What a test for the mark tells, and a front that got zeros behind it.
use Rattle.std.proofs.Common.{◌≡◌, ℕ, ◌+◌, ◌-◌, List, ◌++◌, length, take, drop, replicate, eqb, Bool, true, false, refl, sym, ◌∙◌, ap, arith}
use Rattle.std.specs.Cmp.Lexicographic.{pointwise}
use Rattle.std.proofs.lemmas.Bool.{false≢true}
use Rattle.std.proofs.lemmas.Bool.Decides.{Decides-eqb}
use Rattle.std.proofs.lemmas.List.{take_all}
use Rattle.std.proofs.lemmas.Slice.Eq.{starts_is}
use Rattle.kr_envelope.specs.Prefixes.{is_marked, mark}
use Rattle.kr_envelope.proofs.Prefixing.{begins_is}
use Rattle.kr_provider.proofs.Behind.{not_begun}

-- the test is `is_marked`
pub marked : (r : Bool) (bytes : List ℕ) → r ≡ pointwise eqb mark (take (length mark) bytes)
    → r ≡ is_marked bytes
marked true bytes e = sym ((begins_is mark bytes).1
    (drop (length mark) bytes, (starts_is Decides-eqb bytes mark true e).0 refl))
marked false bytes e = sym (not_begun mark bytes
    (λ rest s. false≢true ((starts_is Decides-eqb bytes mark false e).1 rest s)))

-- a buffer that grows by so many zeros
pub grown : (items front : List ℕ) (size k many : ℕ) → items ≡ front → size ≡ many
    → many ≡ length items
    → take (size + k) items ++ replicate (size + k - many) 0 ≡ front ++ replicate k 0
grown items front size k many same e counted =
    let left : size + k - many ≡ k = omega (arith, e) in
    (λ i. take_all (size + k) items (omega (arith, e, counted)) i ++ replicate (left i) 0)
    ∙ ap (λ l. l ++ replicate k 0) same
