-- Flow lists are read as they are written.
use Rattle.std.proofs.Common.{◌≡◌, ℕ, ◌≤◌, List, [], ◌∷◌, ◌++◌}
use Rattle.std.proofs.Common.{Option, None, Some, refl, sym, ap, ◌∙◌, subst, arith, zero, suc}
use Rattle.std.proofs.Common.{length}
use Rattle.std.specs.Option.{option_map, option_map_or}
use Rattle.std.proofs.lemmas.List.{append_assoc, length-append}
use Rattle.kr_yaml.specs.Bytes.{behind, skip, spaces}
use Rattle.kr_yaml.specs.Data.{Data, list, items_of}
use Rattle.kr_yaml.specs.Written.{IsPart}
use Rattle.kr_yaml.specs.Lines.{AreParts, last_part, one_more_part}
use Rattle.kr_yaml.specs.inner.ScalarReading.{leading_scalar, data_of, with_front}
use Rattle.kr_yaml.specs.inner.LineReading.{scalars, list_of, flow_list}
use Rattle.kr_yaml.specs.declared.scalar.Scalar.{Scalar}
use Rattle.kr_yaml.specs.declared.scalar.Context.TheVariants.{Flow}
use Rattle.kr_yaml.proofs.Flows.{next, with_scalar}
use Rattle.kr_yaml.proofs.Quotes.{behind_cons}
use Rattle.kr_yaml.proofs.Spaces.{skip_spaces, skip_is, skip_front}
use Rattle.kr_yaml.proofs.ScalarRead.{part_start, start_behind, start_skip}
use Rattle.kr_yaml.proofs.ScalarRead.{flow_part, IsRead, part_is_read}

abbrev Found : Type 0
Found = List Data × List ℕ

abbrev found : List Data → List ℕ → Option Found
found ds rest = Some (ds, rest)

-- brackets to the left

three : (a b c d : List ℕ) → a ++ (b ++ (c ++ d)) ≡ (a ++ (b ++ c)) ++ d
three a b c d = ap (λ l. a ++ l) (sym (append_assoc b c d)) ∙ sym (append_assoc a (b ++ c) d)

four : (a b c d e : List ℕ) → a ++ (b ++ (c ++ (d ++ e))) ≡ (a ++ (b ++ (c ++ d))) ++ e
four a b c d e =
    ap (λ l. a ++ (b ++ l)) (sym (append_assoc c d e)) ∙ three a b (c ++ d) e

-- what was read

some_pair : (x y : Found) → Some x ≡ Some y → x ≡ y
some_pair x y h = ap (λ o. option_map_or (λ z. z) o x) h

record Fronted (front : List Data) (o : Option Found) (ds : List Data) (rest : List ℕ) : Type 0
  where
    inner : List Data
    reads : o ≡ found inner rest
    whole : front ++ inner ≡ ds

fronted : (front : List Data) (o : Option Found) (ds : List Data) (rest : List ℕ)
    → with_front front o ≡ found ds rest → Fronted front o ds rest
fronted front None ds rest h = absurd cc
fronted front (Some x) ds rest h =
    let e = some_pair (front ++ x.0, x.1) (ds, rest) h in
    record {
      inner = x.0;
      reads = ap (λ (p : Found). found x.0 p.1) e;
      whole =
          ap (λ (p : Found). p.0) e;
    }

-- scalars and the closing bracket
pub record Listed (bs : List ℕ) (ds : List Data) (rest : List ℕ) : Type 0 where
  pub bytes : List ℕ
  pub whole : bs ≡ bytes ++ 93 ∷ rest
  pub parts : AreParts ds bytes

-- a scalar and what stands behind its spaces
record Split (bs : List ℕ) (d : Data) (z : List ℕ) : Type 0 where
  before : ℕ
  bytes : List ℕ
  after : ℕ
  whole : bs ≡ spaces before ++ (bytes ++ (spaces after ++ z))
  part : IsPart d bytes

split : (bs : List ℕ) (s : Scalar) (x z : List ℕ) → leading_scalar Flow (skip bs) ≡ Some (s, x)
    → skip x ≡ z → Split bs (data_of s) z
split bs s x z h e =
    let p = flow_part (skip bs) s x (skip_front bs) h in
    let before = skip_is bs in
    let after = skip_is (spaces p.count ++ x) in
    let same : skip (spaces p.count ++ x) ≡ z = skip_spaces p.count x ∙ e in
    record {
      before = before.0;
      bytes = p.bytes;
      after = after.0;
      whole = before.1 ∙ ap (λ l. spaces before.0 ++ l) p.whole
          ∙ ap (λ l. spaces before.0 ++ (p.bytes ++ l)) after.1
          ∙ ap (λ l. spaces before.0 ++ (p.bytes ++ (spaces after.0 ++ l))) same;
      part = p.scalar;
    }

abbrev ReadsList : ℕ → Type 0
ReadsList n = (bs : List ℕ) (ds : List Data) (rest : List ℕ) → scalars n bs ≡ found ds rest
    → Listed bs ds rest

listed_last : (bs : List ℕ) (d : Data) (z rest : List ℕ) → Split bs d z → z ≡ 93 ∷ rest
    → Listed bs (d ∷ []) rest
listed_last bs d z rest p e = record {
  bytes = spaces p.before ++ (p.bytes ++ spaces p.after);
  whole = p.whole ∙ ap (λ l. spaces p.before ++ (p.bytes ++ (spaces p.after ++ l))) e
      ∙ three (spaces p.before) p.bytes (spaces p.after) (93 ∷ rest);
  parts = last_part p.before p.after d p.bytes p.part;
}

listed_more : (bs : List ℕ) (d : Data) (z more : List ℕ) (ds : List Data) (rest : List ℕ)
    → Split bs d z → z ≡ 44 ∷ more → Listed more ds rest → Listed bs (d ∷ ds) rest
listed_more bs d z more ds rest p e l = record {
  bytes = spaces p.before ++ (p.bytes ++ (spaces p.after ++ 44 ∷ l.bytes));
  whole = p.whole ∙ ap (λ l. spaces p.before ++ (p.bytes ++ (spaces p.after ++ l))) e
      ∙ ap (λ m. spaces p.before ++ (p.bytes ++ (spaces p.after ++ 44 ∷ m))) l.whole
      ∙ four (spaces p.before) p.bytes (spaces p.after) (44 ∷ l.bytes) (93 ∷ rest);
  parts = one_more_part p.before p.after d p.bytes ds l.bytes p.part l.parts;
}

abbrev next_by : ℕ → Option (List ℕ) → Option (List ℕ) → Option Found
next_by n o p = option_map_or (λ more. scalars n more) o (option_map (λ more. ([], more)) p)

listed_by : (n : ℕ) → ReadsList n → (bs : List ℕ) (d : Data) (z : List ℕ) (ds : List Data)
    (rest : List ℕ) (o p : Option (List ℕ)) → o ≡ behind 44 z → p ≡ behind 93 z → Split bs d z
    → next_by n o p ≡ found ds rest → Listed bs (d ∷ ds) rest
listed_by n ih bs d z ds rest (Some more) p e f s h =
    listed_more bs d z more ds rest s (behind_cons 44 z more e) (ih more ds rest h)
listed_by n ih bs d z ds rest None (Some more) e f s h =
    let same = some_pair ([], more) (ds, rest) h in
    subst (λ (x : Found). Listed bs (d ∷ x.0) x.1) same
    (listed_last bs d z more s (behind_cons 93 z more f))
listed_by n ih bs d z ds rest None None e f s h = absurd cc

listed_scalar : (n : ℕ) → ReadsList n → (bs : List ℕ) (o : Option (Scalar × List ℕ))
    → leading_scalar Flow (skip bs) ≡ o → (ds : List Data) (rest : List ℕ)
    → with_scalar n o ≡ found ds rest → Listed bs ds rest
listed_scalar n ih bs None e ds rest h = absurd cc
listed_scalar n ih bs (Some x) e ds rest h =
    let f = fronted (data_of x.0 ∷ []) (next n (skip x.1)) ds rest h in
    let z = skip x.1 in
    subst (λ l. Listed bs l rest) f.whole
    (listed_by n ih bs (data_of x.0) z f.inner rest (behind 44 z) (behind 93 z) refl refl
    (split bs x.0 x.1 z e refl) f.reads)

scalars_read : (n : ℕ) → ReadsList n
scalars_read zero = λ bs ds rest h. absurd cc
scalars_read (suc n) = λ bs ds rest h.
    listed_scalar n (scalars_read n) bs (leading_scalar Flow (skip bs)) refl ds rest h

abbrev pub FoundList : Type 0
FoundList = Data × List ℕ

abbrev pub found_list : Data → List ℕ → Option FoundList
found_list d rest = Some (d, rest)

some_list : (x y : FoundList) → Some x ≡ Some y → x ≡ y
some_list x y h = ap (λ o. option_map_or (λ z. z) o x) h

-- a flow list behind its bracket
pub data FlowSplit : List ℕ → Data → List ℕ → Type 0 where
  no_part : (rest : List ℕ) → FlowSplit (93 ∷ rest) (list (items_of [])) rest
  parts : (ds : List Data) (bytes rest : List ℕ) → AreParts ds bytes
      → FlowSplit (bytes ++ 93 ∷ rest) (list (items_of ds)) rest

abbrev list_or : Option (List ℕ) → Option Found → Option FoundList
list_or o p = option_map_or (λ more. Some (list_of ([], more))) o (option_map list_of p)

flow_by : (bs : List ℕ) (d : Data) (rest : List ℕ) (o : Option (List ℕ)) (p : Option Found)
    → o ≡ behind 93 bs → scalars (length bs) bs ≡ p
    → list_or o p ≡ found_list d rest → FlowSplit bs d rest
flow_by bs d rest (Some more) p e f h =
    let same = some_list (list (items_of []), more) (d, rest) h in
    subst (λ (x : FoundList). FlowSplit bs x.0 x.1) same
    (subst (λ l. FlowSplit l (list (items_of [])) more) (sym (behind_cons 93 bs more e))
    (no_part more))
flow_by bs d rest None (Some x) e f h =
    let l = scalars_read (length bs) bs x.0 x.1 f in
    let same = some_list (list (items_of x.0), x.1) (d, rest) h in
    subst (λ (y : FoundList). FlowSplit bs y.0 y.1) same
    (subst (λ b. FlowSplit b (list (items_of x.0)) x.1) (sym l.whole)
    (parts x.0 l.bytes x.1 l.parts))
flow_by bs d rest None None e f h = absurd cc

pub flow_is : (bs : List ℕ) (d : Data) (rest : List ℕ) → flow_list bs ≡ found_list d rest
    → FlowSplit bs d rest
unfolding flow_list
flow_is bs d rest h = flow_by bs d rest (behind 93 bs) (scalars (length bs) bs) refl refl h

-- what is written is read

part_step : (n before after b : ℕ) (d : Data) (bytes more : List ℕ) → IsPart d bytes
    → (rest : List ℕ) → IsRead Flow d (bytes ++ (spaces after ++ b ∷ more)) rest
    → skip rest ≡ b ∷ more
    → scalars (suc n) (spaces before ++ (bytes ++ (spaces after ++ b ∷ more)))
    ≡ with_front (d ∷ []) (next n (b ∷ more))
part_step n before after b d bytes more p rest r e =
    let behind_it = spaces after ++ b ∷ more in
    ap (λ l. with_scalar n (leading_scalar Flow l))
    (skip_spaces before (bytes ++ behind_it) ∙ start_skip bytes behind_it (part_start d bytes p))
    ∙ ap (with_scalar n) r.reads
    ∙ ap (λ x. with_front (x ∷ []) (next n (skip rest))) r.says
    ∙ ap (λ l. with_front (d ∷ []) (next n l)) e

abbrev MakesTree : List Data → List ℕ → ℕ → List ℕ → Type 0
MakesTree ds bytes n rest =
    length (bytes ++ 93 ∷ rest) ≤ n → scalars n (bytes ++ 93 ∷ rest) ≡ found ds rest

longer : (a b : List ℕ) (n : ℕ) → length (a ++ b) ≤ n → length b ≤ n
longer a b n h = let e = length-append a b in omega arith

last_makes : (before after : ℕ) (d : Data) (bytes : List ℕ) → IsPart d bytes → (n : ℕ)
    (rest : List ℕ) → MakesTree (d ∷ []) (spaces before ++ (bytes ++ spaces after)) n rest
last_makes before after d bytes p zero rest h =
    absurd (let k = longer (spaces before ++ (bytes ++ spaces after)) (93 ∷ rest) zero h in omega
    arith)
last_makes before after d bytes p (suc n) rest h =
    let r = part_is_read after 93 rest refl refl d bytes p in
    ap (scalars (suc n)) (sym (three (spaces before) bytes (spaces after) (93 ∷ rest)))
    ∙ part_step n before after 93 d bytes rest p r.0 r.1 r.2

more_makes : (before after : ℕ) (d : Data) (bytes : List ℕ) (ds : List Data) (more : List ℕ)
    → IsPart d bytes → ((n : ℕ) (rest : List ℕ) → MakesTree ds more n rest) → (n : ℕ)
    (rest : List ℕ)
    → MakesTree (d ∷ ds) (spaces before ++ (bytes ++ (spaces after ++ 44 ∷ more))) n rest
more_makes before after d bytes ds more p ih zero rest h =
    absurd (let k = longer (spaces before ++ (bytes ++ (spaces after ++ 44 ∷ more))) (93 ∷ rest)
    zero h in omega arith)
more_makes before after d bytes ds more p ih (suc n) rest h =
    let r = part_is_read after 44 (more ++ 93 ∷ rest) refl refl d bytes p in
    let e = four (spaces before) bytes (spaces after) (44 ∷ more) (93 ∷ rest) in
    let whole : length (spaces before ++ (bytes ++ (spaces after ++ (44 ∷ more ++ 93 ∷ rest))))
    ≤ suc n =
    subst (λ l. length l ≤ suc n) (sym e) h in
    let tail = longer (spaces after) (44 ∷ (more ++ 93 ∷ rest)) (suc n)
    (longer bytes (spaces after ++ 44 ∷ (more ++ 93 ∷ rest)) (suc n)
    (longer (spaces before) (bytes ++ (spaces after ++ 44 ∷ (more ++ 93 ∷ rest))) (suc n) whole)) in
    ap (scalars (suc n)) (sym e)
    ∙ part_step n before after 44 d bytes (more ++ 93 ∷ rest) p r.0 r.1 r.2
    ∙ ap (with_front (d ∷ [])) (ih n rest (omega arith))

parts_make : (ds : List Data) (bytes : List ℕ) → AreParts ds bytes → (n : ℕ) (rest : List ℕ)
    → MakesTree ds bytes n rest
parts_make ds bytes (last_part before after d bs p) = last_makes before after d bs p
parts_make ds bytes (one_more_part before after d bs es more p l) =
    more_makes before after d bs es more p (parts_make es more l)

spaces_no_end : (n : ℕ) (bs : List ℕ) → behind 93 bs ≡ None → behind 93 (spaces n ++ bs) ≡ None
spaces_no_end zero bs h = h
spaces_no_end (suc n) bs h = refl

no_end_at : (before : ℕ) (d : Data) (bytes more rest : List ℕ) → IsPart d bytes
    → behind 93 ((spaces before ++ (bytes ++ more)) ++ rest) ≡ None
no_end_at before d bytes more rest p =
    let s = part_start d bytes p in
    ap (behind 93) (sym (three (spaces before) bytes more rest))
    ∙ spaces_no_end before (bytes ++ (more ++ rest)) (start_behind 93 bytes (more ++ rest) s
    s.no_end)

parts_no_end : (ds : List Data) (bytes rest : List ℕ) → AreParts ds bytes
    → behind 93 (bytes ++ rest) ≡ None
parts_no_end ds bytes rest (last_part before after d bs p) =
    no_end_at before d bs (spaces after) rest p
parts_no_end ds bytes rest (one_more_part before after d bs es more p l) =
    no_end_at before d bs (spaces after ++ 44 ∷ more) rest p

pub flow_makes : (ds : List Data) (bytes rest : List ℕ) → AreParts ds bytes
    → flow_list (bytes ++ 93 ∷ rest) ≡ found_list (list (items_of ds)) rest
unfolding flow_list
flow_makes ds bytes rest p =
    ap (λ o. list_or o (scalars (length (bytes ++ 93 ∷ rest)) (bytes ++ 93 ∷ rest)))
    (parts_no_end ds bytes (93 ∷ rest) p)
    ∙ ap (option_map list_of)
    (parts_make ds bytes p (length (bytes ++ 93 ∷ rest)) rest (omega arith))
