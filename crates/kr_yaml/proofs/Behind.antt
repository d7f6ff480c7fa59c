-- What stands behind a byte.
use Rattle.std.proofs.Common.{◌≡◌, ◌≢◌, ℕ, ◌+◌, ◌<◌, true, eqb, List, [], ◌∷◌, ◌++◌, length, drop}
use Rattle.std.proofs.Common.{Option, None, Some, refl, sym, ap, ◌∙◌, arith}
use denote.Ref.{Bor}
use Rattle.std.specs.Prelude.{MatchOption, if◌then◌else◌, reverse, ◌==◌}
use Rattle.std.specs.Option.{option_map}
use Rattle.std.specs.Str.Pattern.{FindsCharPrefix}
use Rattle.std.proofs.lemmas.Str.Pattern.{strip_prefix_char}
use Rattle.std.proofs.lemmas.List.{reverse-reverse, reverse-append}
use Rattle.kr_yaml.specs.Bytes.{behind, skip}
use Rattle.kr_yaml.specs.inner.Stops.{trim}

pub is_byte : (b c : ℕ) → (b == c) ≡ true → b ≡ c
is_byte b c h = grind arith

eqb_same : (n : ℕ) → eqb n n ≡ true
eqb_same n = grind arith

pub chosen_not : {X : Type 0} (b c : ℕ) (x y : X) → b ≢ c → (if b == c then x else y) ≡ y
chosen_not b c x y ne = grind arith

chosen_byte : (c b : ℕ) (bs : List ℕ) → ((rest : List ℕ) → b ∷ bs ≢ c ∷ rest)
    → None ≡ behind c (b ∷ bs)
chosen_byte c b bs h = sym (chosen_not b c (Some bs) None (λ e. h bs (ap (λ x. x ∷ bs) e)))

behind_some : (c : ℕ) (bs rest : List ℕ) → bs ≡ c ∷ rest → Some rest ≡ behind c bs
behind_some c bs rest e = rw e (ap (λ t. if t then Some rest else None) (sym (eqb_same c)))

behind_none : (c : ℕ) (bs : List ℕ) → ((rest : List ℕ) → bs ≢ c ∷ rest) → None ≡ behind c bs
behind_none c [] h = refl
behind_none c (b ∷ bs) h = chosen_byte c b bs h

by_cases : (c : ℕ) (bs : List ℕ) (r : Option (Bor (List ℕ))) → MatchOption r ((rest : List ℕ)
    → bs ≢ c ∷ rest) (λ x. bs ≡ c ∷ x.now) → option_map (λ x. x.now) r ≡ behind c bs
by_cases c bs None h = behind_none c bs h
by_cases c bs (Some x) h = behind_some c bs x.now h

pub behind_is : (c : ℕ) (bs : List ℕ) (r : Option (Bor (List ℕ)))
    → MatchOption r (FindsCharPrefix c bs None) (λ x. (n : ℕ) × FindsCharPrefix c bs (Some n)
    × (x.now ≡ drop n bs) × (length x.now + n ≡ length bs)) → c < 128 → option_map (λ x. x.now) r
    ≡ behind c bs
behind_is c bs r h small = by_cases c bs r (strip_prefix_char c bs r h small)

trimmed_back : (bs r : List ℕ) → ((front : List ℕ) → bs ≢ front ++ (32 ∷ [])) → reverse r ≡ bs
    → reverse (skip r) ≡ bs
trimmed_back bs [] h e = e
trimmed_back bs (b ∷ r) h e =
    ap reverse (chosen_not b 32 (skip r) (b ∷ r) (λ same. h (reverse r) (sym e
    ∙ reverse-append (b ∷ []) r ∙ ap (λ x. reverse r ++ (x ∷ [])) same))) ∙ e

pub trim_same : (bs : List ℕ) → ((front : List ℕ) → bs ≢ front ++ (32 ∷ [])) → trim bs ≡ bs
trim_same bs h = trimmed_back bs (reverse bs) h (reverse-reverse bs)
