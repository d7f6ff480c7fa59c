-- Words spell at most one list of options with plain names.
use Rattle.std.proofs.Common.{◌≡◌, ◌≢◌, ℕ, ◌<◌, List, [], ◌∷◌, ◌++◌, length, get_or, refl, sym, ◌∙◌}
use Rattle.std.proofs.Common.{ap, subst, inl, inr, arith, codes, append_assoc, drop, Bool, true}
use Rattle.std.proofs.Common.{false, eqb}
use Rattle.std.proofs.lemmas.Bool.Decides.{Decides-eqb}
use Rattle.std.proofs.lemmas.List.{append-nil}
use Rattle.std.proofs.lemmas.List.Elements.{All-from_get_or, recursion_from_All}
use Rattle.std.specs.declared.alloc.Global.{Global}
use Rattle.std.specs.declared.string.String.{String}
use Rattle.std.specs.String.{string_bytes}
use Rattle.kr_words.specs.Grammar.{texts, BeginsWithOption, SpellsOptions}
use Rattle.kr_words.specs.inner.Spelling.{IsPlain, ArePlain, BeginNoOption}

pub plain_bytes : (name : List ℕ) → ((i : ℕ) → i < length name → get_or name i 0 ≢ 61)
    → IsPlain name
plain_bytes name h = recursion_from_All (λ byte. byte ≢ 61) name
    (All-from_get_or (λ byte. byte ≢ 61) name 0 h)

-- a plain name holds no `=`
not_plain : (a b : List ℕ) → IsPlain (a ++ (61 ∷ b)) → ⊥
not_plain [] b p = p.0 refl
not_plain (x ∷ a) b p = not_plain a b p.1

-- a text is parted at its first `=` in one way
parted_once : (a b v w : List ℕ) → IsPlain a → IsPlain b → a ++ (61 ∷ v) ≡ b ++ (61 ∷ w)
    → (a ≡ b) × (v ≡ w)
parted_once [] [] v w p q e = (refl, cc)
parted_once [] (y ∷ b) v w p q e = absurd (q.0 (cc))
parted_once (x ∷ a) [] v w p q e = absurd (p.0 (cc))
parted_once (x ∷ a) (y ∷ b) v w p q e = let h = parted_once a b v w p.1 q.1 (cc) in
    let h0 : a ≡ b = h.0 in (cc, h.1)

pub begins_once : (words : List (List ℕ)) (o p : List ℕ × List ℕ) (r s : List (List ℕ))
    → IsPlain o.0 → IsPlain p.0 → BeginsWithOption words o r → BeginsWithOption words p s → (o ≡ p) × (r ≡ s)
begins_once words (a, v) (b, w) r s p q (inl e) (inl f) = (cc, cc)
begins_once words (a, v) (b, w) r s p q (inl e) (inr f) = let same : a ≡ b ++ (61 ∷ w) = cc in
    absurd (not_plain b w (subst IsPlain same p))
begins_once words (a, v) (b, w) r s p q (inr e) (inl f) = let same : b ≡ a ++ (61 ∷ v) = cc in
    absurd (not_plain a v (subst IsPlain same q))
begins_once words (a, v) (b, w) r s p q (inr e) (inr f) =
    let h = parted_once a b v w p q (cc) in
    let h0 : a ≡ b = h.0 in
    let h1 : v ≡ w = h.1 in (cc, cc)

begins_some : (words : List (List ℕ)) (o : List ℕ × List ℕ) (r : List (List ℕ)) → BeginsWithOption words o r
    → words ≡ [] → ⊥
begins_some words o r (inl e) h = cc
begins_some words o r (inr e) h = cc

pub spelled_once : (words : List (List ℕ)) (a b : List (List ℕ × List ℕ)) → ArePlain a → ArePlain b
    → SpellsOptions words a → SpellsOptions words b → a ≡ b
spelled_once words [] [] p q s t = refl
spelled_once words [] (y ∷ b) p q s t = absurd (begins_some words y t.0 t.1 s)
spelled_once words (x ∷ a) [] p q s t = absurd (begins_some words x s.0 s.1 t)
spelled_once words (x ∷ a) (y ∷ b) p q s t =
    let h = begins_once words x y s.0 t.0 p.0 q.0 s.1 t.1 in
    let h0 : x ≡ y = h.0 in
    let same : a ≡ b = spelled_once t.0 a b p.1 q.1 (subst (λ r. SpellsOptions r a) h.1 s.2) t.2 in
    cc

-- what is left to read of the words, behind the options so far
pub record IsLeft (words : List (List ℕ)) (so_far : List (List ℕ × List ℕ)) (rest : List (List ℕ)) :
    Type 0 where
  pub plain : ArePlain so_far
  pub forth : (tail : List (List ℕ × List ℕ)) → SpellsOptions rest tail → SpellsOptions words (so_far ++ tail)
  pub back : (all : List (List ℕ × List ℕ)) → ArePlain all → SpellsOptions words all
      → (tail : List (List ℕ × List ℕ)) × ArePlain tail × (all ≡ so_far ++ tail) × SpellsOptions rest tail

pub left_whole : (words : List (List ℕ)) → IsLeft words [] words
left_whole words = record { plain = tt; forth = λ tail s. s; back = λ all p s. (all, p, refl, s) }

plain_push : (options : List (List ℕ × List ℕ)) (option : List ℕ × List ℕ) → ArePlain options
    → IsPlain option.0 → ArePlain (options ++ (option ∷ []))
plain_push [] option p q = (q, tt)
plain_push (x ∷ options) option p q = (p.0, plain_push options option p.1 q)

one_less : (words : List (List ℕ)) (so_far : List (List ℕ × List ℕ)) (rest next : List (List ℕ))
    (option : List ℕ × List ℕ) → IsPlain option.0 → BeginsWithOption rest option next
    → (all tail : List (List ℕ × List ℕ)) → ArePlain tail → all ≡ so_far ++ tail → SpellsOptions rest tail
    → (less : List (List ℕ × List ℕ)) × ArePlain less
    × (all ≡ (so_far ++ (option ∷ [])) ++ less) × SpellsOptions next less
one_less words so_far rest next option plain b all [] p e s =
    absurd (begins_some rest option next b s)
one_less words so_far rest next option plain b all (x ∷ tail) p e s =
    let h = begins_once rest x option s.0 next p.0 plain s.1 b in (
      tail,
      p.1,
      e ∙ ap (λ y. so_far ++ (y ∷ tail)) h.0
          ∙ sym (append_assoc so_far (option ∷ []) tail),
      subst (λ r. SpellsOptions r tail) h.1 s.2,
    )

pub left_less : (words : List (List ℕ)) (so_far : List (List ℕ × List ℕ))
    (rest next : List (List ℕ)) (option : List ℕ × List ℕ) → IsPlain option.0
    → BeginsWithOption rest option next
    → IsLeft words so_far rest → IsLeft words (so_far ++ (option ∷ [])) next
left_less words so_far rest next option plain b left = record {
  plain = plain_push so_far option left.plain plain;
  forth = λ tail s. subst (SpellsOptions words) (sym (append_assoc so_far (option ∷ []) tail))
      (left.forth (option ∷ tail) (next, b, s));
  back = λ all p s. let w = left.back all p s in
      one_less words so_far rest next option plain b all w.0 w.1 w.2 w.3;
}

pub left_none : (words : List (List ℕ)) (so_far : List (List ℕ × List ℕ)) → IsLeft words so_far []
    → ArePlain so_far × SpellsOptions words so_far
left_none words so_far left =
    (left.plain, subst (SpellsOptions words) (append-nil so_far) (left.forth [] refl))

no_tail : (rest : List (List ℕ)) → rest ≢ [] → BeginNoOption rest → (tail : List (List ℕ × List ℕ))
    → ArePlain tail → SpellsOptions rest tail → ⊥
no_tail rest some none [] p s = some s
no_tail rest some none (x ∷ tail) p s = none x s.0 p.0 s.1

pub left_refused : (words : List (List ℕ)) (so_far : List (List ℕ × List ℕ)) (rest : List (List ℕ))
    → rest ≢ [] → BeginNoOption rest → IsLeft words so_far rest
    → (options : List (List ℕ × List ℕ)) → ArePlain options → SpellsOptions words options → ⊥
left_refused words so_far rest some none left options p s = let w = left.back options p s in
    no_tail rest some none w.0 w.1 w.3

-- what begins with an option is longer than what is behind it
pub begins_longer : (words : List (List ℕ)) (option : List ℕ × List ℕ) (rest : List (List ℕ))
    → BeginsWithOption words option rest → length rest < length words
begins_longer words option rest (inl e) = omega (arith, ap length e)
begins_longer words option rest (inr e) = omega (arith, ap length e)

-- the one reading of a last word without `=`
pub no_value : (words : List (List ℕ)) (name : List ℕ) → IsPlain name
    → words ≡ (codes "--" ++ name) ∷ [] → BeginNoOption words
no_value words name plain e (a, v) r p (inl f) = cc
no_value words name plain e (a, v) r p (inr f) = let same : name ≡ a ++ (61 ∷ v) = cc in
    not_plain a v (subst IsPlain same plain)

pub none_begin : (words : List (List ℕ)) → words ≡ [] → BeginNoOption words
none_begin words e option rest p b = begins_some words option rest b e

pub undashed : (words rest : List (List ℕ)) (word : List ℕ) → words ≡ word ∷ rest
    → ((after : List ℕ) → word ≡ 45 ∷ 45 ∷ after → ⊥) → BeginNoOption words
undashed words rest word e none (a, v) r p (inl f) = none a (cc)
undashed words rest word e none (a, v) r p (inr f) = none (a ++ (61 ∷ v)) (cc)

pub none_left : {X : Type 0} (xs : List X) → length xs ≡ 0 → xs ≡ []
none_left [] e = refl
none_left (x ∷ xs) e = absurd (omega (arith, e))

-- the texts of words of which the first begins with two dashes
pub dashed : {words rest : List (String Global)} {word : String Global} {bytes option : List ℕ}
    (n : ℕ) → words ≡ word ∷ rest → bytes ≡ string_bytes word
    → bytes ≡ 45 ∷ 45 ∷ drop n bytes → option ≡ drop n bytes
    → texts words ≡ (codes "--" ++ option) ∷ texts rest
dashed n e is front o = let f = ap texts e in cc

pub joined : (words rest : List (List ℕ)) (option name value : List ℕ)
    → words ≡ (codes "--" ++ option) ∷ rest → option ≡ name ++ (61 ∷ value)
    → BeginsWithOption words (name, value) rest
joined words rest option name value e f = inr (e ∙ ap (λ o. (codes "--" ++ o) ∷ rest) f)

pub parted : (words rest : List (List ℕ)) (option value : List ℕ) (behind : List (List ℕ))
    → words ≡ (codes "--" ++ option) ∷ rest → rest ≡ value ∷ behind
    → BeginsWithOption words (option, value) behind
parted words rest option value behind e f = inl (e ∙ ap (λ r. (codes "--" ++ option) ∷ r) f)

pub some_left : (rest : List (String Global)) (b : Bool) → b ≡ eqb (length rest) 0 → b ≡ false
    → texts rest ≡ [] → ⊥
some_left [] b e f t = cc
some_left (word ∷ rest) b e f t = cc

pub no_texts : (rest : List (String Global)) (b : Bool) → b ≡ eqb (length rest) 0 → b ≡ true
    → texts rest ≡ []
no_texts rest b e f = ap texts (none_left rest ((Decides-eqb (length rest) 0).0 (sym e ∙ f)))
