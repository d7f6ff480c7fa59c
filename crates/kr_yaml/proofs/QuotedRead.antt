-- Quoted scalars are read as they are written.
use Rattle.std.proofs.Common.{◌≡◌, ℕ, Bool, true, false, List, [], ◌∷◌, ◌++◌, Option, None, Some}
use Rattle.std.proofs.Common.{refl, sym, ap, ◌∙◌, subst}
use Rattle.std.specs.Prelude.{if◌then◌else◌, ◌==◌}
use Rattle.std.specs.Option.{option_map_or}
use Rattle.kr_yaml.specs.Bytes.{behind}
use Rattle.kr_yaml.specs.Written.{with_quotes_twice, escape, IsEscaped, nothing, itself, by_escape}
use Rattle.kr_yaml.specs.inner.ScalarReading.{with_front, single, single_quote, double}
use Rattle.kr_yaml.specs.inner.ScalarReading.{behind_backslash}
use Rattle.kr_yaml.proofs.Behind.{is_byte}

-- Behind its opening quote a single quoted scalar is its text with quotes twice, and a quote
-- behind which none stands; a double quoted one its text with escapes, and a quote.
abbrev pub IsSingle : List ℕ → List ℕ → List ℕ → Type 0
IsSingle text bytes rest =
    (bytes ≡ with_quotes_twice text ++ 39 ∷ rest) × (behind 39 rest ≡ None)

abbrev pub IsDouble : List ℕ → List ℕ → List ℕ → Type 0
IsDouble text bytes rest =
    (written : List ℕ) × IsEscaped text written × (bytes ≡ written ++ 34 ∷ rest)

abbrev Read : Type 0
Read = List ℕ × List ℕ

abbrev found : List ℕ → List ℕ → Option Read
found text rest = Some (text, rest)

some_pair : (x y : Read) → Some x ≡ Some y → x ≡ y
some_pair x y h = ap (λ o. option_map_or (λ z. z) o x) h

-- what was read behind a front
record Front (front : List ℕ) (o : Option Read) (text rest : List ℕ) : Type 0 where
  inner : List ℕ
  reads : o ≡ Some (inner, rest)
  whole : front ++ inner ≡ text

fronted : (front : List ℕ) (o : Option Read) (text rest : List ℕ)
    → with_front front o ≡ Some (text, rest) → Front front o text rest
fronted front None text rest h = absurd cc
fronted front (Some x) text rest h =
    let e = some_pair (front ++ x.0, x.1) (text, rest) h in
    record {
      inner = x.0;
      reads = ap (λ r. Some (x.0, r)) (ap (λ p. p.1) e);
      whole =
          ap (λ p. p.0) e;
    }

-- single quotes
pub no_quote : (b : ℕ) (bs : List ℕ) → (b == 39) ≡ false → behind 39 (b ∷ bs) ≡ None
no_quote b bs h = ap (λ v. if v then Some bs else None) h

abbrev pub SingleRead : List ℕ → Type 0
SingleRead bs = (text rest : List ℕ) → single bs ≡ Some (text, rest) → IsSingle text bs rest

single_last : (b : ℕ) (text rest : List ℕ) (v : Bool) → (b == 39) ≡ v
    → (if v then found [] [] else None) ≡ Some (text, rest) → IsSingle text (b ∷ []) rest
single_last b text rest true e h = subst (λ p. IsSingle p.0 (b ∷ []) p.1)
    (some_pair ([], []) (text, rest) h) (ap (λ c. c ∷ []) (is_byte b 39 e), refl)
single_last b text rest false e h = absurd cc

single_by : (b c : ℕ) (cs text rest : List ℕ) (v w : Bool) → (b == 39) ≡ v → (c == 39) ≡ w
    → SingleRead (c ∷ cs) → SingleRead cs
    → (if v then (if w then with_front (39 ∷ []) (single cs) else Some ([], c ∷ cs)) else with_front
    (b ∷ []) (single (c ∷ cs))) ≡ Some (text, rest) → IsSingle text (b ∷ (c ∷ cs)) rest
single_by b c cs text rest true true e f ih inner h =
    let g = fronted (39 ∷ []) (single cs) text rest h in
    let s = inner g.inner rest g.reads in
    subst (λ t. IsSingle t (b ∷ (c ∷ cs)) rest) g.whole (
      ap (λ x. x ∷ (c ∷ cs)) (is_byte b 39 e)
          ∙ ap (λ x. 39 ∷ (x ∷ cs)) (is_byte c 39 f) ∙ ap (λ l. 39 ∷ (39 ∷ l)) s.0,
      s.1,
    )
single_by b c cs text rest true false e f ih inner h =
    subst (λ p. IsSingle p.0 (b ∷ (c ∷ cs)) p.1) (some_pair ([], c ∷ cs) (text, rest) h)
    (ap (λ x. x ∷ (c ∷ cs)) (is_byte b 39 e), no_quote c cs f)
single_by b c cs text rest false w e f ih inner h =
    let g = fronted (b ∷ []) (single (c ∷ cs)) text rest h in
    let s = ih g.inner rest g.reads in
    subst (λ t. IsSingle t (b ∷ (c ∷ cs)) rest) g.whole (
      ap (λ l. b ∷ l) s.0
          ∙ ap (λ v. (if v then 39 ∷ (39 ∷ with_quotes_twice g.inner) else b ∷ with_quotes_twice
          g.inner) ++ 39 ∷ rest) (sym e),
      s.1,
    )

pub single_is : (bs : List ℕ) → SingleRead bs
single_is [] = λ text rest h. absurd cc
single_is (b ∷ []) = λ text rest h. single_last b text rest (b == 39) refl h
single_is (b ∷ (c ∷ cs)) = λ text rest h. single_by b c cs text rest (b == 39) (c == 39) refl refl
    (single_is (c ∷ cs)) (single_is cs) h

quote_ends : (rest : List ℕ) → behind 39 rest ≡ None → single_quote rest ≡ Some ([], rest)
quote_ends [] h = refl
quote_ends (b ∷ bs) h = by (b == 39) h
  where
    by : (v : Bool) → (if v then Some bs else None) ≡ None
        → (if v then with_front (39 ∷ []) (single bs) else Some ([], b ∷ bs)) ≡ Some ([], b ∷ bs)
    by true e = absurd cc
    by false e = refl

pub single_reads : (text rest : List ℕ) → behind 39 rest ≡ None
    → single (with_quotes_twice text ++ 39 ∷ rest) ≡ Some (text, rest)
single_reads [] rest h = quote_ends rest h
single_reads (b ∷ text) rest h = reads_by b text rest (b == 39) refl (single_reads text rest h)
  where
    reads_by : (b : ℕ) (text rest : List ℕ) (v : Bool) → (b == 39) ≡ v
        → single (with_quotes_twice text ++ 39 ∷ rest) ≡ Some (text, rest)
        → single ((if v then 39 ∷ (39 ∷ with_quotes_twice text) else b ∷ with_quotes_twice
        text) ++ 39 ∷ rest) ≡ Some (b ∷ text, rest)
    reads_by b text rest true e inner = ap (with_front (39 ∷ [])) inner
        ∙ ap (λ c. Some (c ∷ text, rest)) (sym (is_byte b 39 e))
    reads_by b text rest false e inner =
        ap (λ v. if v then single_quote (with_quotes_twice text ++ 39 ∷ rest) else with_front
        (b ∷ []) (single (with_quotes_twice text ++ 39 ∷ rest))) e ∙ ap (with_front (b ∷ [])) inner

-- double quotes
abbrev pub DoubleRead : List ℕ → Type 0
DoubleRead bs = (text rest : List ℕ) → double bs ≡ Some (text, rest) → IsDouble text bs rest

double_last : (b : ℕ) (text rest : List ℕ) (v w : Bool) → (b == 34) ≡ v
    → (if v then found [] [] else if w then None else None) ≡ Some (text, rest)
    → IsDouble text (b ∷ []) rest
double_last b text rest true w e h = subst (λ p. IsDouble p.0 (b ∷ []) p.1)
    (some_pair ([], []) (text, rest) h) ([], nothing, ap (λ c. c ∷ []) (is_byte b 34 e))
double_last b text rest false true e h = absurd cc
double_last b text rest false false e h = absurd cc

double_by : (b c : ℕ) (cs text rest : List ℕ) (v w : Bool) (o : Option ℕ) → (b == 34) ≡ v
    → (b == 92) ≡ w → escape c ≡ o → DoubleRead (c ∷ cs) → DoubleRead cs
    → (if v then Some ([], c ∷ cs) else if w then option_map_or
    (λ d. with_front (d ∷ []) (double cs)) o None else with_front (b ∷ []) (double (c ∷ cs)))
    ≡ Some (text, rest) → IsDouble text (b ∷ (c ∷ cs)) rest
double_by b c cs text rest true w o e f g ih inner h =
    subst (λ p. IsDouble p.0 (b ∷ (c ∷ cs)) p.1) (some_pair ([], c ∷ cs) (text, rest) h)
    ([], nothing, ap (λ x. x ∷ (c ∷ cs)) (is_byte b 34 e))
double_by b c cs text rest false true None e f g ih inner h = absurd cc
double_by b c cs text rest false true (Some d) e f g ih inner h =
    let r = fronted (d ∷ []) (double cs) text rest h in
    let s = inner r.inner rest r.reads in
    subst (λ t. IsDouble t (b ∷ (c ∷ cs)) rest) r.whole (
      92 ∷ (c ∷ s.0),
      by_escape c d r.inner s.0 g
          s.1,
      ap (λ x. x ∷ (c ∷ cs)) (is_byte b 92 f) ∙ ap (λ l. 92 ∷ (c ∷ l)) s.2,
    )
double_by b c cs text rest false false o e f g ih inner h =
    let r = fronted (b ∷ []) (double (c ∷ cs)) text rest h in
    let s = ih r.inner rest r.reads in
    subst (λ t. IsDouble t (b ∷ (c ∷ cs)) rest) r.whole (
      b ∷ s.0,
      itself b r.inner s.0 e f s.1,
      ap
          (λ l. b ∷ l) s.2,
    )

pub double_is : (bs : List ℕ) → DoubleRead bs
double_is [] = λ text rest h. absurd cc
double_is (b ∷ []) = λ text rest h. double_last b text rest (b == 34) (b == 92) refl h
double_is (b ∷ (c ∷ cs)) = λ text rest h. double_by b c cs text rest (b == 34) (b == 92) (escape c)
    refl refl refl (double_is (c ∷ cs)) (double_is cs) h

pub double_reads : (text written rest : List ℕ) → IsEscaped text written
    → double (written ++ 34 ∷ rest) ≡ Some (text, rest)
double_reads text written rest nothing = refl
double_reads text written rest (itself b t w e f more) =
    ap (λ v. if v then Some ([], w ++ 34 ∷ rest) else if b == 92 then behind_backslash
    (w ++ 34 ∷ rest) else with_front (b ∷ []) (double (w ++ 34 ∷ rest))) e
    ∙ ap (λ v. if v then behind_backslash (w ++ 34 ∷ rest) else with_front (b ∷ [])
    (double (w ++ 34 ∷ rest))) f
    ∙ ap (with_front (b ∷ [])) (double_reads t w rest more)
double_reads text written rest (by_escape b c t w e more) =
    ap (λ o. option_map_or (λ c. with_front (c ∷ []) (double (w ++ 34 ∷ rest))) o None) e
    ∙ ap (with_front (c ∷ [])) (double_reads t w rest more)
