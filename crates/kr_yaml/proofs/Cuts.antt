-- Bytes that are cut before the first place where something stands.
use Rattle.std.proofs.Common.{◌≡◌, ℕ, Bool, true, false, List, [], ◌∷◌, ◌++◌, length, drop, take}
use Rattle.std.proofs.Common.{refl, sym, ap, ◌∙◌, arith, zero, suc}
use Rattle.std.specs.Prelude.{if◌then◌else◌, nat_lt}
use Rattle.std.proofs.lemmas.List.{append_assoc, append-nil, take-append-drop}
use Rattle.kr_yaml.specs.Bytes.{spaces}
use Rattle.kr_yaml.specs.inner.Stops.{stops, length_before_stop, has}
use Rattle.kr_yaml.specs.declared.bytes.ScanStop.{ScanStop}
use Rattle.kr_yaml.proofs.Spaces.{heads, tails}

-- at no place of the front it stands, where this rest stands behind
abbrev pub Inside : (List ℕ → Bool) → List ℕ → List ℕ → Type 0
Inside t front rest =
    (a u : List ℕ) (b : ℕ) → front ≡ a ++ b ∷ u → t (b ∷ (u ++ rest)) ≡ false

pub no_byte : (a u : List ℕ) (b : ℕ) → [] ≡ a ++ b ∷ u → ⊥
no_byte [] u b e = cc
no_byte (x ∷ a) u b e = cc

inside_nil : (t : List ℕ → Bool) (rest : List ℕ) → Inside t [] rest
inside_nil t rest a u b e = absurd (no_byte a u b e)

pub inside_cons : (t : List ℕ → Bool) (b : ℕ) (front rest : List ℕ)
    → t (b ∷ (front ++ rest)) ≡ false → Inside t front rest → Inside t (b ∷ front) rest
inside_cons t b front rest off h [] u c e =
    ap (λ x. t (x ∷ (u ++ rest))) (sym (heads e)) ∙ ap (λ l. t (b ∷ (l ++ rest))) (sym (tails e))
    ∙ off
inside_cons t b front rest off h (x ∷ a) u c e = h a u c (tails e)

pub inside_append : (t : List ℕ → Bool) (text more rest : List ℕ) → Inside t text (more ++ rest)
    → Inside t more rest → Inside t (text ++ more) rest
inside_append t [] more rest h k = k
inside_append t (b ∷ text) more rest h k =
    inside_cons t b (text ++ more) rest
    (ap (λ l. t (b ∷ l)) (append_assoc text more rest) ∙ h [] text b refl)
    (inside_append t text more rest (λ a u c e. h (b ∷ a) u c (ap (λ l. b ∷ l) e)) k)

pub inside_spaces : (stop : ScanStop) (n : ℕ) (rest : List ℕ)
    → ((n : ℕ) → stops stop (32 ∷ (spaces n ++ rest)) ≡ false)
    → Inside (stops stop) (spaces n) rest
inside_spaces stop zero rest off = inside_nil (stops stop) rest
inside_spaces stop (suc n) rest off =
    inside_cons (stops stop) 32 (spaces n) rest (off n) (inside_spaces stop n rest off)

-- what the cut gives

until_by : (t : List ℕ → Bool) (b : ℕ) (bs : List ℕ) (v : Bool) → t (b ∷ bs) ≡ v
    → Inside t (take (length_before_stop t bs) bs) (drop (length_before_stop t bs) bs)
    → Inside t (take (if v then 0 else suc (length_before_stop t bs)) (b ∷ bs))
    (drop (if v then 0 else suc (length_before_stop t bs)) (b ∷ bs))
until_by t b bs true e h = inside_nil t (b ∷ bs)
until_by t b bs false e h =
    inside_cons t b (take (length_before_stop t bs) bs) (drop (length_before_stop t bs) bs)
    (ap (λ l. t (b ∷ l)) (take-append-drop (length_before_stop t bs) bs) ∙ e) h

pub until_inside : (t : List ℕ → Bool) (bs : List ℕ)
    → Inside t (take (length_before_stop t bs) bs) (drop (length_before_stop t bs) bs)
until_inside t [] = inside_nil t []
until_inside t (b ∷ bs) = until_by t b bs (t (b ∷ bs)) refl (until_inside t bs)

-- where the cut is

pub until_at : (t : List ℕ → Bool) (text rest : List ℕ) → Inside t text rest
    → length_before_stop t rest ≡ 0
    → (take (length_before_stop t (text ++ rest)) (text ++ rest) ≡ text)
    × (drop (length_before_stop t (text ++ rest)) (text ++ rest) ≡ rest)
until_at t [] rest h z = (ap (λ n. take n rest) z, ap (λ n. drop n rest) z)
until_at t (b ∷ text) rest h z =
    let off = h [] text b refl in
    let more = until_at t text rest (λ a u c e. h (b ∷ a) u c (ap (λ l. b ∷ l) e)) z in
    let n = length_before_stop t (text ++ rest) in (
      ap (λ v. take (if v then 0 else suc n) (b ∷ (text ++ rest))) off ∙ ap (λ l. b ∷ l) more.0,
      ap (λ v. drop (if v then 0 else suc n) (b ∷ (text ++ rest))) off ∙ more.1,
    )

until_none : (t : List ℕ → Bool) (bs : List ℕ) → Inside t bs [] → length_before_stop t bs ≡ length bs
until_none t [] h = refl
until_none t (b ∷ bs) h =
    let off : t (b ∷ bs) ≡ false = ap (λ l. t (b ∷ l)) (sym (append-nil bs)) ∙ h [] bs b refl in
    ap (λ v. if v then 0 else suc (length_before_stop t bs)) off
    ∙ ap suc (until_none t bs (λ a u c e. h (b ∷ a) u c (ap (λ l. b ∷ l) e)))

not_less : (n : ℕ) → nat_lt n n ≡ false
not_less n = grind arith

pub has_not : (stop : ScanStop) (bs : List ℕ) → Inside (stops stop) bs [] → has stop bs ≡ false
has_not stop bs h =
    ap (λ n. nat_lt n (length bs)) (until_none (stops stop) bs h) ∙ not_less (length bs)

zero_less : (n : ℕ) → nat_lt 0 (suc n) ≡ true
zero_less n = grind arith

less_more : (n m : ℕ) → nat_lt n m ≡ true → nat_lt (suc n) (suc m) ≡ true
less_more n m h = grind arith

less_back : (n m : ℕ) → nat_lt (suc n) (suc m) ≡ true → nat_lt n m ≡ true
less_back n m h = grind arith

has_by : (stop : ScanStop) (bs : List ℕ) (v : Bool) → has stop bs ≡ true
    → nat_lt (if v then 0 else suc (length_before_stop (stops stop) bs)) (suc (length bs)) ≡ true
has_by stop bs true e = zero_less (length bs)
has_by stop bs false e = less_more (length_before_stop (stops stop) bs) (length bs) e

-- it stands at a place
pub stop_there : (stop : ScanStop) (front : List ℕ) (b : ℕ) (rest : List ℕ)
    → stops stop (b ∷ rest) ≡ true → has stop (front ++ b ∷ rest) ≡ true
stop_there stop [] b rest h =
    ap (λ v. nat_lt (if v then 0 else suc (length_before_stop (stops stop) rest)) (suc (length rest))) h
    ∙ zero_less (length rest)
stop_there stop (c ∷ front) b rest h =
    has_by stop (front ++ b ∷ rest) (stops stop (c ∷ (front ++ b ∷ rest)))
    (stop_there stop front b rest h)
