-- The one prefix that bytes begin with, and what that says of the test for a prefix.
use Rattle.std.proofs.Common.{◌≡◌, ◌≢◌, ℕ, suc, ◌+◌, ◌-◌, ◌<◌, List, [], ◌∷◌, ◌++◌, length, take, drop, get_or, Bool, true, false, Some, None, refl, sym, ◌∙◌, ap, subst, arith, append_assoc, add-one}
use Rattle.std.specs.Prelude.{position, ◌==◌, cond, nat_lt}
use Rattle.std.proofs.lemmas.List.Quantifiers.{position-Some}
use Rattle.std.specs.Bool.{Decides}
use denote.Ref.{Bor}
use Rattle.std.proofs.lemmas.Bool.Decides.{nat_tests}
use Rattle.std.proofs.lemmas.Slice.Eq.{bytes_eq-Decides}
use Rattle.std.specs.List.{position_or_len}
use Rattle.std.specs.Str.{IsUtf8}
use Rattle.std.proofs.lemmas.List.{get_or_append_left, length-append, length-drop, append_cancel_left, take-append-drop}
use Rattle.std.proofs.lemmas.List.Sums.{position_or_len_is}
use Rattle.std.proofs.lemmas.Str.{IsUtf8-from_ascii}
use Rattle.std.proofs.lemmas.Str.Ascii.{IsAscii-from_all}
use Rattle.std.proofs.Math.Seq.{take-append_seam, drop-append_seam, take-length, drop-cons}
use Rattle.kr_base.specs.Rules.{IsName}
use Rattle.kr_envelope.specs.declared.prefix.Kind.{Kind}
use Rattle.kr_envelope.specs.declared.prefix.Kind.TheVariants.{Aescbc, Aesgcm, Kms}
use Rattle.kr_envelope.specs.declared.prefix.Tagged.TheVariants.{Plain, Known, Strange}
use Rattle.kr_envelope.specs.inner.Parting.{IsParted}
use Rattle.kr_envelope.specs.Prefixes.{mark, head, prefix, Begins, IsSplit, begins, is_marked}

-- the prefix of a kind and a name, as a test that computes
abbrev pub has_prefix : Kind → List ℕ → List ℕ → Bool
has_prefix kind name bytes = begins (prefix kind name) bytes

-- a name is text, and has no colon
pub text_of_name : (name : List ℕ) → IsName name → IsUtf8 name
text_of_name name n = IsUtf8-from_ascii name (IsAscii-from_all name (λ k d h. let e = n.2 k d h in omega arith))

not_colon : (byte : ℕ) → byte ≢ 0x3A → (byte == 0x3A) ≡ false
not_colon byte h = grind (arith, nat_tests)

seam : (xs ys : List ℕ) (y : ℕ) → get_or (xs ++ y ∷ ys) (length xs) 0 ≡ y
seam [] ys y = refl
seam (x ∷ xs) ys y = seam xs ys y

below_some : (i n : ℕ) → i < n → cond (nat_lt i n) (Some i) None ≡ Some i
below_some i n h = grind (arith, nat_tests)

-- the first colon is the one behind the name
pub colon_at : (name rest : List ℕ) → IsName name → position (λ byte. byte == 0x3A) (name ++ 0x3A ∷ rest) ≡ Some (length name)
colon_at name rest n =
    let within : length name < length (name ++ 0x3A ∷ rest) = omega (arith, length-append name (0x3A ∷ rest)) in
    let at : position_or_len (λ byte. byte == 0x3A) (name ++ 0x3A ∷ rest) ≡ length name =
    position_or_len_is (λ byte. byte == 0x3A) (name ++ 0x3A ∷ rest) (length name) 0 (omega arith)
    (λ k h. rw (get_or_append_left name (0x3A ∷ rest) 0 k h) (not_colon _ (n.2 k 0 h).1))
    (λ h. ap (λ byte. byte == 0x3A) (seam name rest 0x3A))
    in
    ap (λ i. cond (nat_lt i (length (name ++ 0x3A ∷ rest))) (Some i) None) at ∙ below_some _ _ within

-- behind the head stand the name, the colon and the rest
pub headed : (kind : Kind) (name rest : List ℕ) → prefix kind name ++ rest ≡ head kind ++ (name ++ 0x3A ∷ rest)
unfolding prefix
headed kind name rest = append_assoc (head kind) (name ++ 0x3A ∷ []) rest ∙ ap (λ l. head kind ++ l) (append_assoc name (0x3A ∷ []) rest)

pub without_head : (kind : Kind) (bytes : List ℕ) → ((rest : List ℕ) → bytes ≢ head kind ++ rest) → (name : List ℕ) → IsName name → Begins (prefix kind name) bytes → ⊥
without_head kind bytes h name n b = h (name ++ 0x3A ∷ b.0) (b.1 ∙ headed kind name b.0)

-- the name of a prefix is what stands before the first colon
behind : (kind : Kind) (bytes rest : List ℕ) → bytes ≡ head kind ++ rest → (name : List ℕ) → (b : Begins (prefix kind name) bytes) → rest ≡ name ++ 0x3A ∷ b.0
behind kind bytes rest e name b = append_cancel_left (head kind) rest (name ++ 0x3A ∷ b.0) (sym e ∙ b.1 ∙ headed kind name b.0)

pub without_colon : (kind : Kind) (bytes rest : List ℕ) → bytes ≡ head kind ++ rest → position (λ byte. byte == 0x3A) rest ≡ None → (name : List ℕ) → IsName name → Begins (prefix kind name) bytes → ⊥
without_colon kind bytes rest e none name n b =
    let found = colon_at name b.0 n in
    let same = behind kind bytes rest e name b in
    cc

pub before_colon : (kind : Kind) (bytes rest : List ℕ) (at : ℕ) → bytes ≡ head kind ++ rest → position (λ byte. byte == 0x3A) rest ≡ Some at → (name : List ℕ) → IsName name → Begins (prefix kind name) bytes → take at rest ≡ name
before_colon kind bytes rest at e some name n b =
    let found = colon_at name b.0 n in
    let same = behind kind bytes rest e name b in
    let length_is : at ≡ length name = cc in
    ap (λ i. take i rest) length_is ∙ ap (take (length name)) same ∙ take-append_seam name (0x3A ∷ b.0)

pub without_name : (kind : Kind) (bytes rest : List ℕ) (at : ℕ) → bytes ≡ head kind ++ rest → position (λ byte. byte == 0x3A) rest ≡ Some at → (IsName (take at rest) → ⊥) → (name : List ℕ) → IsName name → Begins (prefix kind name) bytes → ⊥
without_name kind bytes rest at e some h name n b = h (subst IsName (sym (before_colon kind bytes rest at e some name n b)) n)

pub with_name : (kind : Kind) (bytes rest name : List ℕ) (at : ℕ) → bytes ≡ head kind ++ rest → position (λ byte. byte == 0x3A) rest ≡ Some at → name ≡ take at rest → bytes ≡ prefix kind name ++ take (length rest - (at + 1)) (drop (at + 1) rest)
with_name kind bytes rest name at e some n =
    let found = position-Some (λ byte. byte == 0x3A) rest at 0 some in
    let h : at < length rest = found.0 in
    let is_colon : get_or rest at 0 ≡ 0x3A = grind (arith, nat_tests, found.1) in
    let tail : take (length rest - (at + 1)) (drop (at + 1) rest) ≡ drop (suc at) rest = rest_all (at + 1) rest ∙ ap (λ i. drop i rest) (add-one at) in
    let parted : rest ≡ take at rest ++ 0x3A ∷ drop (suc at) rest = sym (take-append-drop at rest) ∙ ap (λ l. take at rest ++ l) (drop-cons rest at 0 h ∙ ap (λ x. x ∷ drop (suc at) rest) is_colon) in
    e ∙ ap (λ l. head kind ++ l) (parted ∙ ap (λ l. l ++ 0x3A ∷ drop (suc at) rest) (sym n)) ∙ sym (headed kind name (drop (suc at) rest)) ∙ ap (λ l. prefix kind name ++ l) (sym tail)
  where
    rest_all : (i : ℕ) (l : List ℕ) → take (length l - i) (drop i l) ≡ drop i l
    rest_all i l = ap (λ n. take n (drop i l)) (sym (length-drop i l)) ∙ take-length (drop i l)

-- three kinds without a prefix of theirs are all
pub of_no_kind : (bytes : List ℕ) → IsParted Aescbc bytes None → IsParted Aesgcm bytes None → IsParted Kms bytes None → (kind : Kind) (name : List ℕ) → IsName name → Begins (prefix kind name) bytes → ⊥
of_no_kind bytes a g k Aescbc = a
of_no_kind bytes a g k Aesgcm = g
of_no_kind bytes a g k Kms = k

-- a name ends at the first colon
one_name : (n m b c : List ℕ) → IsName n → IsName m → n ++ 0x3A ∷ b ≡ m ++ 0x3A ∷ c → (n ≡ m) × (b ≡ c)
one_name n m b c p q e =
    let left = colon_at n b p in
    let right = colon_at m c q in
    let lengths : length n ≡ length m = cc in
    let names : n ≡ m = sym (take-append_seam n (0x3A ∷ b)) ∙ ap (λ i. take i (n ++ 0x3A ∷ b)) lengths ∙ ap (take (length m)) e ∙ take-append_seam m (0x3A ∷ c) in
    let tails : 0x3A ∷ b ≡ 0x3A ∷ c = append_cancel_left n (0x3A ∷ b) (0x3A ∷ c) (e ∙ ap (λ l. l ++ 0x3A ∷ c) (sym names)) in
    (names, cc)

one_head : (k l : Kind) (x y : List ℕ) → head k ++ x ≡ head l ++ y → (k ≡ l) × (x ≡ y)
one_head Aescbc Aescbc x y e = (refl, append_cancel_left (head Aescbc) x y e)
one_head Aescbc Aesgcm x y e = absurd (omega (arith, ap (λ (l : List ℕ). get_or l 11 0) e))
one_head Aesgcm Aescbc x y e = absurd (omega (arith, ap (λ (l : List ℕ). get_or l 11 0) e))
one_head Aesgcm Aesgcm x y e = (refl, append_cancel_left (head Aesgcm) x y e)
one_head Kms Kms x y e = (refl, append_cancel_left (head Kms) x y e)
one_head other another x y e = absurd (omega (arith, ap (λ (l : List ℕ). get_or l 8 0) e))

-- the prefix that bytes begin with is the only one: its kind, its name, and the body behind it
pub one_prefix : (k l : Kind) (n m b c : List ℕ) → IsName n → IsName m → prefix k n ++ b ≡ prefix l m ++ c → (k ≡ l) × (n ≡ m) × (b ≡ c)
one_prefix k l n m b c p q e =
    let heads = one_head k l (n ++ 0x3A ∷ b) (m ++ 0x3A ∷ c) (sym (headed k n b) ∙ e ∙ headed l m c) in
    let names = one_name n m b c p q heads.1 in
    (heads.0, names.0, names.1)

pub no_other : (k : Kind) (n b bytes : List ℕ) → IsName n → bytes ≡ prefix k n ++ b → (l : Kind) (m : List ℕ) → IsName m → Begins (prefix l m) bytes → (k ≡ l) × (n ≡ m)
no_other k n b bytes p e l m q c = let one = one_prefix k l n m b c.0 p q (sym e ∙ c.1) in (one.0, one.1)

-- the tests say what they are to
pub begins_is : (start bytes : List ℕ) → Decides (begins start bytes) (Begins start bytes)
begins_is start bytes =
    let eq = bytes_eq-Decides (take (length start) bytes) start in (
      λ t. (drop (length start) bytes, sym (take-append-drop (length start) bytes) ∙ ap (λ l. l ++ drop (length start) bytes) (eq.0 t)),
      λ b. eq.1 (ap (take (length start)) b.1 ∙ take-append_seam start b.0),
    )

-- every prefix begins with the mark
head_marked : (kind : Kind) → head kind ≡ mark ++ drop 8 (head kind)
head_marked Aescbc = refl
head_marked other = refl

pub prefix_marked : (kind : Kind) (name bytes : List ℕ) → Begins (prefix kind name) bytes → Begins mark bytes
prefix_marked kind name bytes b = (
  drop 8 (head kind) ++ (name ++ 0x3A ∷ b.0),
  b.1 ∙ headed kind name b.0 ∙ ap (λ l. l ++ (name ++ 0x3A ∷ b.0)) (head_marked kind) ∙ append_assoc mark (drop 8 (head kind)) (name ++ 0x3A ∷ b.0),
)

refuted : (b : Bool) (P : Type 0) → Decides b P → (P → ⊥) → b ≡ false
refuted true P d n = absurd (n (d.0 refl))
refuted false P d n = refl

-- what a value split says of the tests for a prefix

pub plain_split : (bytes : List ℕ) (content : Bor (List ℕ)) → IsSplit bytes (Plain content) → (is_marked bytes ≡ false) × ((kind : Kind) (name : List ℕ) → has_prefix kind name bytes ≡ false)
plain_split bytes content s = (refuted _ _ (begins_is mark bytes) s.0, λ kind name. refuted _ _ (begins_is (prefix kind name) bytes) (λ b. s.0 (prefix_marked kind name bytes b)))

pub known_split : (bytes : List ℕ) (kind : Kind) (name body : Bor (List ℕ)) → IsSplit bytes (Known kind name body)
    → (is_marked bytes ≡ true) × (has_prefix kind name.now bytes ≡ true) × ((l : Kind) (m : List ℕ) → IsName m → has_prefix l m bytes ≡ true → (kind ≡ l) × (name.now ≡ m)) × (body.now ≡ drop (length (prefix kind name.now)) bytes)
known_split bytes kind name body s =
    let here : Begins (prefix kind name.now) bytes = (body.now, s.1) in (
      (begins_is mark bytes).1 (prefix_marked kind name.now bytes here),
      (begins_is (prefix kind name.now) bytes).1 here,
      (λ l m q t. let b = (begins_is (prefix l m) bytes).0 t in let one = one_prefix kind l name.now m body.now b.0 s.0 q (sym s.1 ∙ b.1) in (one.0, one.1)),
      sym (ap (drop (length (prefix kind name.now))) s.1 ∙ drop-append_seam (prefix kind name.now) body.now),
    )

pub strange_split : (bytes : List ℕ) → IsSplit bytes Strange → (is_marked bytes ≡ true) × ((kind : Kind) (name : List ℕ) → IsName name → has_prefix kind name bytes ≡ false)
strange_split bytes s = ((begins_is mark bytes).1 s.0, λ kind name n. refuted _ _ (begins_is (prefix kind name) bytes) (s.1 kind name n))
