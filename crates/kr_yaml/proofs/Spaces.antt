-- Spaces at the begin and at the end of bytes, and the tails of lines.
use Rattle.std.proofs.Common.{◌≡◌, ◌≢◌, ℕ, Bool, true, false, List, [], ◌∷◌, ◌++◌, reverse}
use Rattle.std.proofs.Common.{None, Some, refl, sym, ap, ◌∙◌, subst, arith, suc, zero}
use Rattle.std.specs.Prelude.{if◌then◌else◌, ◌==◌, ◌&&◌}
use Rattle.std.proofs.lemmas.List.{append_assoc, append-nil, reverse-append, reverse-reverse}
use Rattle.kr_yaml.specs.Bytes.{behind, skip, spaces, over}
use Rattle.kr_yaml.specs.Written.{NoSpaceBehind}
use Rattle.kr_yaml.specs.Lines.{IsTail, spaces_alone, comment_behind}
use Rattle.kr_yaml.specs.inner.Stops.{trim, opens, closes, is_hash}
use Rattle.kr_yaml.proofs.Behind.{is_byte, trim_same}

pub heads : {x y : ℕ} {xs ys : List ℕ} → x ∷ xs ≡ y ∷ ys → x ≡ y
heads e = cc

pub tails : {x y : ℕ} {xs ys : List ℕ} → x ∷ xs ≡ y ∷ ys → xs ≡ ys
tails e = cc

pub differ : (b c : ℕ) → (b == c) ≡ false → b ≡ c → ⊥
differ b c e h = grind arith

pub clash : true ≡ false → ⊥
clash e = cc

pub both_true : (v w : Bool) → (v && w) ≡ true → (v ≡ true) × (w ≡ true)
both_true true w e = (refl, e)
both_true false w e = cc

pub none_of : (v : Bool) → (v ≡ true → ⊥) → v ≡ false
none_of true h = absurd (h refl)
none_of false h = refl

-- spaces at the begin

-- they begin with no space
abbrev pub NoSpaceFront : List ℕ → Type 0
NoSpaceFront bs = (more : List ℕ) → bs ≢ 32 ∷ more

pub skip_spaces : (n : ℕ) (bs : List ℕ) → skip (spaces n ++ bs) ≡ skip bs
skip_spaces zero bs = refl
skip_spaces (suc n) bs = skip_spaces n bs

skip_by : (b : ℕ) (bs : List ℕ) (v : Bool) → (b == 32) ≡ v → (n : ℕ) × (bs ≡ spaces n ++ skip bs)
    → (n : ℕ) × (b ∷ bs ≡ spaces n ++ (if v then skip bs else b ∷ bs))
skip_by b bs true e h = (suc h.0, ap (λ c. c ∷ bs) (is_byte b 32 e) ∙ ap (λ l. 32 ∷ l) h.1)
skip_by b bs false e h = (zero, refl)

pub skip_is : (bs : List ℕ) → (n : ℕ) × (bs ≡ spaces n ++ skip bs)
skip_is [] = (zero, refl)
skip_is (b ∷ bs) = skip_by b bs (b == 32) refl (skip_is bs)

front_by : (b : ℕ) (bs : List ℕ) (v : Bool) → (b == 32) ≡ v → NoSpaceFront (skip bs)
    → NoSpaceFront (if v then skip bs else b ∷ bs)
front_by b bs true e h = h
front_by b bs false e h = λ more k. differ b 32 e (heads k)

pub skip_front : (bs : List ℕ) → NoSpaceFront (skip bs)
skip_front [] = λ more k. cc
skip_front (b ∷ bs) = front_by b bs (b == 32) refl (skip_front bs)

-- spaces at the end

pub spaces_last : (n : ℕ) → spaces n ++ 32 ∷ [] ≡ spaces (suc n)
spaces_last zero = refl
spaces_last (suc n) = ap (λ l. 32 ∷ l) (spaces_last n)

reverse_spaces : (n : ℕ) → reverse (spaces n) ≡ spaces n
reverse_spaces zero = refl
reverse_spaces (suc n) =
    reverse-append (32 ∷ []) (spaces n) ∙ ap (λ l. l ++ 32 ∷ []) (reverse_spaces n) ∙ spaces_last n

trim_spaces : (n : ℕ) (bs : List ℕ) → trim (bs ++ spaces n) ≡ trim bs
trim_spaces zero bs = ap trim (append-nil bs)
trim_spaces (suc n) bs =
    ap trim (sym (append_assoc bs (32 ∷ []) (spaces n))) ∙ trim_spaces n (bs ++ 32 ∷ [])
    ∙ ap (λ l. reverse (skip l)) (reverse-append bs (32 ∷ []))

pub trim_text : (text : List ℕ) (n : ℕ) → NoSpaceBehind text → trim (text ++ spaces n) ≡ text
trim_text text n h = trim_spaces n text ∙ trim_same text h

trim_end : (bs front : List ℕ) → trim bs ≡ front ++ 32 ∷ [] → ⊥
trim_end bs front e =
    skip_front (reverse bs) (reverse front)
    (sym (reverse-reverse (skip (reverse bs))) ∙ ap reverse e ∙ reverse-append front (32 ∷ []))

pub trim_is : (bs : List ℕ) → (n : ℕ) × (bs ≡ trim bs ++ spaces n) × NoSpaceBehind (trim bs)
trim_is bs =
    let s = skip_is (reverse bs) in (
      s.0,
      sym (reverse-reverse bs) ∙ ap reverse s.1
          ∙ reverse-append (spaces s.0) (skip (reverse bs))
          ∙ ap (λ l. trim bs ++ l) (reverse_spaces s.0),
      trim_end bs,
    )

-- tails

-- what holds of spaces and of spaces with a comment behind them holds of tails
of_tail : (P : List ℕ → Type 0) → ((n : ℕ) → P (spaces n))
    → ((n : ℕ) (text : List ℕ) → P (spaces (suc n) ++ 35 ∷ text)) → (tail : List ℕ) → IsTail tail
    → P tail
of_tail P alone comment tail (spaces_alone n) = alone n
of_tail P alone comment tail (comment_behind n text) = comment n text

over_spaces : (n : ℕ) → over (skip (spaces n)) ≡ true
over_spaces zero = refl
over_spaces (suc n) = over_spaces n

spaces_close : (n : ℕ) → closes (spaces n) ≡ true
spaces_close zero = refl
spaces_close (suc n) = over_spaces n

pub tail_closes : (tail : List ℕ) → IsTail tail → closes tail ≡ true
tail_closes =
    of_tail (λ l. closes l ≡ true) spaces_close (λ n text. ap over (skip_spaces n (35 ∷ text)))

spaces_open : (n : ℕ) → opens (spaces n) ≡ true
spaces_open zero = refl
spaces_open (suc n) = refl

pub tail_opens : (tail : List ℕ) → IsTail tail → opens tail ≡ true
tail_opens = of_tail (λ l. opens l ≡ true) spaces_open (λ n text. refl)

spaces_no_hash : (n : ℕ) → is_hash (spaces n) ≡ false
spaces_no_hash zero = refl
spaces_no_hash (suc n) = refl

pub tail_no_hash : (tail : List ℕ) → IsTail tail → is_hash tail ≡ false
tail_no_hash = of_tail (λ l. is_hash l ≡ false) spaces_no_hash (λ n text. refl)

spaces_no_byte : (c n : ℕ) → (32 == c) ≡ false → behind c (spaces n) ≡ None
spaces_no_byte c zero h = refl
spaces_no_byte c (suc n) h = ap (λ v. if v then Some (spaces n) else None) h

-- a tail begins with no other byte than the space
pub tail_no_byte : (c : ℕ) (tail : List ℕ) → (32 == c) ≡ false → IsTail tail
    → behind c tail ≡ None
tail_no_byte c tail h (spaces_alone n) = spaces_no_byte c n h
tail_no_byte c tail h (comment_behind n text) =
    ap (λ v. if v then Some (spaces n ++ 35 ∷ text) else None) h

over_tail : (s : List ℕ) → over s ≡ true → (n : ℕ) (bs : List ℕ) → bs ≡ spaces n ++ s
    → IsTail (32 ∷ bs)
over_tail [] e n bs h =
    subst (λ l. IsTail (32 ∷ l)) (sym (h ∙ append-nil (spaces n))) (spaces_alone (suc n))
over_tail (c ∷ s) e n bs h =
    subst (λ l. IsTail (32 ∷ l)) (sym (h ∙ ap (λ x. spaces n ++ x ∷ s) (is_byte c 35 e)))
    (comment_behind n s)

pub closes_tail : (bs : List ℕ) → closes bs ≡ true → IsTail bs
closes_tail [] e = spaces_alone zero
closes_tail (b ∷ bs) e =
    let h = both_true (b == 32) (over (skip bs)) e in
    let s = skip_is bs in
    subst (λ c. IsTail (c ∷ bs)) (sym (is_byte b 32 h.0)) (over_tail (skip bs) h.1 s.0 bs s.1)

-- what opens and is over behind its spaces is a tail
pub over_closes : (bs : List ℕ) → opens bs ≡ true → over (skip bs) ≡ true → closes bs ≡ true
over_closes [] e h = refl
over_closes (b ∷ bs) e h =
    ap (λ v. v && over (skip bs)) e
    ∙ sym (ap (λ v. over (if v then skip bs else b ∷ bs)) e) ∙ h

pub closes_over : (bs : List ℕ) → closes bs ≡ true → over (skip bs) ≡ true
closes_over [] e = refl
closes_over (b ∷ bs) e =
    let h = both_true (b == 32) (over (skip bs)) e in
    ap (λ v. over (if v then skip bs else b ∷ bs)) h.0 ∙ h.1

tail_space : (rest : List ℕ) → IsTail rest → IsTail (32 ∷ rest)
tail_space rest (spaces_alone n) = spaces_alone (suc n)
tail_space rest (comment_behind n text) = comment_behind (suc n) text

pub tail_spaces : (n : ℕ) (rest : List ℕ) → IsTail rest → IsTail (spaces n ++ rest)
tail_spaces zero rest t = t
tail_spaces (suc n) rest t = tail_space (spaces n ++ rest) (tail_spaces n rest t)
