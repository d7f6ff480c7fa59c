-- Plain scalars are read as they are written.
use Rattle.std.proofs.Common.{◌≡◌, ◌≢◌, ℕ, Bool, true, false, List, [], ◌∷◌, ◌++◌, drop, take}
use Rattle.std.proofs.Common.{Option, None, Some, refl, sym, ap, ◌∙◌, subst, suc, zero}
use Rattle.std.specs.Prelude.{if◌then◌else◌, ◌==◌, ◌&&◌, ◌||◌, not}
use Rattle.std.specs.Option.{option_map_or}
use Rattle.std.proofs.lemmas.List.{append_assoc, append-nil, take-append-drop}
use Rattle.std.specs.List.{list_all}
use Rattle.kr_yaml.specs.Bytes.{behind, spaces, is_blank}
use Rattle.kr_yaml.specs.Written.{is_indicator, IsPlain, NoSpaceBehind, NoFlowSign}
use Rattle.kr_yaml.specs.Lines.{IsTail, spaces_alone, comment_behind}
use Rattle.kr_yaml.specs.inner.Stops.{opens, closes, is_hash, trim, has, stops, length_before_stop}
use Rattle.kr_yaml.specs.inner.ScalarReading.{is_space, is_plain, plain_text, plain_scalar}
use Rattle.kr_yaml.specs.inner.ScalarReading.{leading_plain}
use Rattle.kr_yaml.specs.declared.bytes.ScanStop.TheVariants.{Colon, Comment, KeyEnd, FlowSign}
use Rattle.kr_yaml.specs.declared.scalar.Scalar.{Scalar}
use Rattle.kr_yaml.specs.declared.scalar.Context.TheVariants.{Line, Flow}
use Rattle.kr_yaml.proofs.Behind.{is_byte}
use Rattle.kr_yaml.proofs.Spaces.{clash, both_true, none_of, NoSpaceFront}
use Rattle.kr_yaml.proofs.Spaces.{spaces_last, trim_text, trim_is}
use Rattle.kr_yaml.proofs.Cuts.{Inside, inside_append, inside_spaces, until_inside, until_at}
use Rattle.kr_yaml.proofs.Cuts.{has_not, stop_there}

abbrev NoComment : List ℕ → Type 0
NoComment text = (front rest : List ℕ) → text ≢ front ++ 32 ∷ (35 ∷ rest)

-- the rules of a plain scalar, as the reader has them

all_four : (a b c d : Bool) → (not a && not b && not c && not d) ≡ true
    → (a ≡ false) × (b ≡ false) × (c ≡ false) × (d ≡ false)
all_four false false false false h = (refl, refl, refl, refl)
all_four other b c d h = absurd cc

abbrev dash_space : List ℕ → Bool
dash_space [] = false
dash_space (b ∷ bs) = b == 45 && is_space bs

abbrev first_is : List ℕ → Bool
first_is [] = false
first_is (b ∷ bs) = is_indicator b

no_dash : (b : ℕ) (bs rest : List ℕ) → (b == 45 && is_space bs) ≡ false → b ∷ bs ≢ 45 ∷ (32 ∷ rest)
no_dash b bs rest h e =
    let f : (45 == 45 && is_space (32 ∷ rest)) ≡ false = subst (λ l. dash_space l ≡ false) e h in cc

no_stop : (text front rest : List ℕ) (b : ℕ) → has Colon text ≡ false
    → stops Colon (b ∷ rest) ≡ true → text ≢ front ++ b ∷ rest
no_stop text front rest b h t e =
    clash (sym (stop_there Colon front b rest t) ∙ ap (has Colon) (sym e) ∙ h)

not_space : (b : ℕ) (bs more whole : List ℕ) → whole ≡ (b ∷ bs) ++ more → NoSpaceFront whole
    → (b == 32) ≡ false
not_space b bs more whole e h =
    none_of (b == 32) (λ t. h (bs ++ more) (e ∙ ap (λ c. c ∷ (bs ++ more)) (is_byte b 32 t)))

plain_is : (text more whole : List ℕ) → is_plain text ≡ true → whole ≡ text ++ more
    → NoSpaceFront whole → NoComment text → IsPlain text
plain_is [] more whole h e f k = absurd cc
plain_is (b ∷ bs) more whole h e f k =
    let a = all_four (is_indicator b) (b == 45 && is_space bs) (has Colon (b ∷ bs))
    (list_all is_blank (b ∷ bs)) h in
    record {
      first = b;
      more = bs;
      begins = refl;
      no_space = not_space b bs more whole e f;
      no_blanks = a.3;
      no_indicator = a.0;
      no_item = λ rest. no_dash b bs rest a.1;
      no_key = λ front rest. no_stop (b ∷ bs) front (32 ∷ rest) 58 a.2 refl;
      no_end = λ front. no_stop (b ∷ bs) front [] 58 a.2 refl;
      no_comment = k;
    }

dash_space_is : (b : ℕ) (bs : List ℕ) → (b == 45 && is_space bs) ≡ true
    → (rest : List ℕ) × (b ∷ bs ≡ 45 ∷ (32 ∷ rest))
dash_space_is b [] h =
    absurd (let e = (both_true (b == 45) false h).1 in clash (sym e))
dash_space_is b (c ∷ bs) h =
    let e = both_true (b == 45) (c == 32) h in
    (bs, ap (λ x. x ∷ (c ∷ bs)) (is_byte b 45 e.0) ∙ ap (λ y. 45 ∷ (y ∷ bs)) (is_byte c 32 e.1))

off : (v o w h : Bool) → (v && o) ≡ false → (w && h) ≡ false → ((v && o) || (w && h)) ≡ false
off v o w h e f = ap (λ x. x || (w && h)) e ∙ f

left_off : (v o : Bool) → v ≡ false → (v && o) ≡ false
left_off v o e = ap (λ x. x && o) e

right_off : (w h : Bool) → h ≡ false → (w && h) ≡ false
right_off true h e = e
right_off false h e = refl

-- no colon ends a key in it, and no comment begins in it

colon_off : (text rest : List ℕ) → IsPlain text → (a u : List ℕ) (b : ℕ) → text ≡ a ++ b ∷ u
    → stops Colon (b ∷ (u ++ rest)) ≡ false
colon_off text rest p a [] b e =
    left_off (b == 58) (opens rest)
    (none_of (b == 58) (λ t. p.no_end a (e ∙ ap (λ x. a ++ x ∷ []) (is_byte b 58 t))))
colon_off text rest p a (x ∷ u) b e =
    none_of (b == 58 && x == 32) (λ t.
    let h = both_true (b == 58) (x == 32) t in
    p.no_key a u (e ∙ ap (λ y. a ++ y ∷ (x ∷ u)) (is_byte b 58 h.0)
    ∙ ap (λ y. a ++ 58 ∷ (y ∷ u)) (is_byte x 32 h.1)))

comment_off : (text rest : List ℕ) → IsPlain text → is_hash rest ≡ false → (a u : List ℕ) (b : ℕ)
    → text ≡ a ++ b ∷ u → stops Comment (b ∷ (u ++ rest)) ≡ false
comment_off text rest p h a [] b e = right_off (b == 32) (is_hash rest) h
comment_off text rest p h a (x ∷ u) b e =
    none_of (b == 32 && x == 35) (λ t.
    let k = both_true (b == 32) (x == 35) t in
    p.no_comment a u (e ∙ ap (λ y. a ++ y ∷ (x ∷ u)) (is_byte b 32 k.0)
    ∙ ap (λ y. a ++ 32 ∷ (y ∷ u)) (is_byte x 35 k.1)))

key_off : (text rest : List ℕ) → IsPlain text → is_hash rest ≡ false
    → Inside (stops KeyEnd) text rest
key_off text rest p h a u b e =
    off (b == 58) (opens (u ++ rest)) (b == 32) (is_hash (u ++ rest))
    (colon_off text rest p a u b e) (comment_off text rest p h a u b e)

no_colon : (text : List ℕ) → IsPlain text → has Colon text ≡ false
no_colon text p = has_not Colon text (colon_off text [] p)

pub plain_reads : (text : List ℕ) → IsPlain text → is_plain text ≡ true
plain_reads text p = subst (λ t. is_plain t ≡ true) (sym p.begins) (by p.first p.more p.begins)
  where
    by : (b : ℕ) (bs : List ℕ) → text ≡ b ∷ bs → is_plain (b ∷ bs) ≡ true
    by b bs e =
        let first : is_indicator b ≡ false = subst (λ l. first_is l ≡ false) (sym p.begins
        ∙ e) p.no_indicator in
        let item : (b == 45 && is_space bs) ≡ false = none_of (b == 45 && is_space bs) (λ t. let d =
        dash_space_is b bs t in p.no_item d.0 (e ∙ d.1)) in
        let key : has Colon (b ∷ bs) ≡ false = ap (has Colon) (sym e) ∙ no_colon text p in
        let some : list_all is_blank (b ∷ bs) ≡ false =
        ap (list_all is_blank) (sym e) ∙ p.no_blanks in
        λ i. not (first i) && not (item i) && not (key i) && not (some i)

-- what was read

abbrev plain_of : List ℕ → Scalar
plain_of text = record { text = text; plain = true }

record Plain (text gone : List ℕ) (s : Scalar) (rest : List ℕ) : Type 0 where
  rules : is_plain text ≡ true
  scalar : plain_of text ≡ s
  behind : gone ≡ rest

abbrev found : Scalar → List ℕ → Option (Scalar × List ℕ)
found s rest = Some (s, rest)

some_pair : (x y : Scalar × List ℕ) → Some x ≡ Some y → x ≡ y
some_pair x y h = ap (λ o. option_map_or (λ z. z) o x) h

plain_by : (text gone : List ℕ) (s : Scalar) (rest : List ℕ) (v : Bool) → is_plain text ≡ v
    → (if v then found (plain_of text) gone else None) ≡ found s rest → Plain text gone s rest
plain_by text gone s rest true e h =
    let same = some_pair (plain_of text, gone) (s, rest) h in
    record { rules = e; scalar = ap (λ x. x.0) same; behind = ap (λ x. x.1) same }
plain_by text gone s rest false e h = absurd cc

plain_read : (text gone : List ℕ) (s : Scalar) (rest : List ℕ)
    → plain_scalar text gone ≡ found s rest → Plain text gone s rest
plain_read text gone s rest h = plain_by text gone s rest (is_plain text) refl h

-- a plain scalar and what stands between it and the rest
pub record PlainSplit (bs : List ℕ) (s : Scalar) (rest : List ℕ) : Type 0 where
  pub text : List ℕ
  pub count : ℕ
  pub scalar : record { text = text; plain = true } ≡ s
  pub whole : bs ≡ text ++ (spaces count ++ rest)
  pub rules : IsPlain text

closes_no_colon : (bs : List ℕ) → closes bs ≡ true → behind 58 bs ≡ None
closes_no_colon [] h = refl
closes_no_colon (b ∷ bs) h =
    let e = is_byte b 32 (both_true (b == 32) _ h).0 in
    ap (λ c. if c == 58 then Some bs else None) e

no_comment_in : (front rest text more : List ℕ) → Inside (stops KeyEnd) front rest
    → front ≡ text ++ more → NoComment text
no_comment_in front rest text more h e a b k =
    clash (h a (35 ∷ (b ++ more)) 32
    (e ∙ ap (λ l. l ++ more) k ∙ append_assoc a (32 ∷ (35 ∷ b)) more))

-- what is cut is its text without the spaces at its end, these, and the rest
parted : (front : List ℕ) {bs gone rest : List ℕ} → front ++ gone ≡ bs → gone ≡ rest
    → bs ≡ trim front ++ (spaces (trim_is front).0 ++ rest)
parted front {bs} {gone} {rest} whole behind =
    let t = trim_is front in
    sym whole ∙ ap (λ l. l ++ gone) t.1 ∙ append_assoc (trim front) (spaces t.0) gone
    ∙ ap (λ l. trim front ++ (spaces t.0 ++ l)) behind

value_made : (bs front gone : List ℕ) (s : Scalar) (rest : List ℕ) → NoSpaceFront bs
    → front ++ gone ≡ bs → Inside (stops KeyEnd) front gone → closes rest ≡ true
    → plain_scalar (plain_text front gone) gone ≡ found s rest
    → (r : PlainSplit bs s rest) × NoSpaceBehind r.text
value_made bs front gone s rest f whole inside c h =
    let p = plain_read (plain_text front gone) gone s rest h in
    let none = closes_no_colon gone (ap closes p.behind ∙ c) in
    let text : plain_text front gone ≡ trim front =
    ap (λ o. option_map_or (λ _. front) o (trim front)) none in
    let t = trim_is front in
    let split = parted front whole p.behind in (
      record {
        text = trim front;
        count = t.0;
        scalar = ap (λ l. plain_of l) (sym text) ∙ p.scalar;
        whole = split;
        rules = plain_is (trim front) (spaces t.0 ++ rest) bs (ap is_plain (sym text)
            ∙ p.rules) split f
            (no_comment_in front gone (trim front) (spaces t.0) inside t.1);
      },
      t.2,
    )

-- a plain value on a line
pub value_read : (bs : List ℕ) (s : Scalar) (rest : List ℕ) → NoSpaceFront bs
    → closes rest ≡ true → leading_plain Line bs ≡ found s rest
    → (r : PlainSplit bs s rest) × NoSpaceBehind r.text
unfolding leading_plain
value_read bs s rest f c h =
    let n = length_before_stop (stops KeyEnd) bs in
    value_made bs (take n bs) (drop n bs) s rest f (take-append-drop n bs)
    (until_inside (stops KeyEnd) bs) c h

key_made : (bs front gone : List ℕ) (s : Scalar) (r : List ℕ) → NoSpaceFront bs
    → front ++ gone ≡ bs → Inside (stops KeyEnd) front gone
    → plain_scalar (plain_text front gone) gone ≡ found s (58 ∷ r)
    → (text : List ℕ) × (plain_of text ≡ s) × (bs ≡ text ++ 58 ∷ r) × IsPlain text
key_made bs front gone s r f whole inside h =
    let p = plain_read (plain_text front gone) gone s (58 ∷ r) h in
    let text : plain_text front gone ≡ front = ap (plain_text front) p.behind in
    let split : bs ≡ front ++ 58 ∷ r = sym whole ∙ ap (λ l. front ++ l) p.behind in (
      front,
      ap (λ l. plain_of l) (sym text) ∙ p.scalar,
      split,
      plain_is front (58 ∷ r) bs (ap is_plain (sym text) ∙ p.rules) split f
          (no_comment_in front gone front [] inside (sym (append-nil front))),
    )

-- a plain key
pub key_read : (bs : List ℕ) (s : Scalar) (r : List ℕ) → NoSpaceFront bs
    → leading_plain Line bs ≡ found s (58 ∷ r)
    → (text : List ℕ) × (plain_of text ≡ s) × (bs ≡ text ++ 58 ∷ r) × IsPlain text
unfolding leading_plain
key_read bs s r f h =
    let n = length_before_stop (stops KeyEnd) bs in
    key_made bs (take n bs) (drop n bs) s r f (take-append-drop n bs)
    (until_inside (stops KeyEnd) bs) h

no_comment_here : (front text more : List ℕ) → has Comment front ≡ false → front ≡ text ++ more
    → NoComment text
no_comment_here front text more h e a b k =
    clash (sym (stop_there Comment a 32 (35 ∷ (b ++ more)) refl)
    ∙ ap (has Comment) (sym (e ∙ ap (λ l. l ++ more) k ∙ append_assoc a (32 ∷ (35 ∷ b)) more)) ∙ h)

no_sign_in : (front rest text more : List ℕ) → Inside (stops FlowSign) front rest
    → front ≡ text ++ more → NoFlowSign text
no_sign_in front rest text more h e a u b k =
    h a (u ++ more) b (e ∙ ap (λ l. l ++ more) k ∙ append_assoc a (b ∷ u) more)

flow_made : (bs front gone : List ℕ) (s : Scalar) (rest : List ℕ) (v : Bool) → NoSpaceFront bs
    → front ++ gone ≡ bs → Inside (stops FlowSign) front gone → has Comment front ≡ v
    → (if v then None else plain_scalar (trim front) gone) ≡ found s rest
    → (r : PlainSplit bs s rest) × NoSpaceBehind r.text × NoFlowSign r.text
flow_made bs front gone s rest true f whole inside c h = absurd cc
flow_made bs front gone s rest false f whole inside c h =
    let p = plain_read (trim front) gone s rest h in
    let t = trim_is front in
    let split = parted front whole p.behind in (
      record {
        text = trim front;
        count = t.0;
        scalar = p.scalar;
        whole = split;
        rules = plain_is (trim front) (spaces t.0 ++ rest) bs p.rules split f
            (no_comment_here front (trim front) (spaces t.0) c t.1);
      },
      t.2,
      no_sign_in front gone (trim front) (spaces t.0) inside t.1,
    )

-- a plain scalar in a flow list
pub flow_read : (bs : List ℕ) (s : Scalar) (rest : List ℕ) → NoSpaceFront bs
    → leading_plain Flow bs ≡ found s rest
    → (r : PlainSplit bs s rest) × NoSpaceBehind r.text × NoFlowSign r.text
unfolding leading_plain
flow_read bs s rest f h =
    let n = length_before_stop (stops FlowSign) bs in
    flow_made bs (take n bs) (drop n bs) s rest (has Comment (take n bs)) f (take-append-drop n bs)
    (until_inside (stops FlowSign) bs) refl h

-- what is written is read

plain_line : (bs front rest : List ℕ) → take (length_before_stop (stops KeyEnd) bs) bs ≡ front
    → drop (length_before_stop (stops KeyEnd) bs) bs ≡ rest
    → leading_plain Line bs ≡ plain_scalar (plain_text front rest) rest
unfolding leading_plain
plain_line bs front rest e f =
    let n = length_before_stop (stops KeyEnd) bs in
    ap (λ l. plain_scalar (plain_text l (drop n bs)) (drop n bs)) e
    ∙ ap (λ l. plain_scalar (plain_text front l) l) f

plain_made : (text rest : List ℕ) → IsPlain text
    → plain_scalar text rest ≡ found (plain_of text) rest
plain_made text rest p =
    ap (λ v. if v then found (plain_of text) rest else None) (plain_reads text p)

pub key_reads : (text r : List ℕ) → IsPlain text → opens r ≡ true
    → leading_plain Line (text ++ 58 ∷ r) ≡ found (plain_of text) (58 ∷ r)
key_reads text r p o =
    let stop : length_before_stop (stops KeyEnd) (58 ∷ r) ≡ 0 =
    ap (λ v. if v || false then 0 else suc (length_before_stop (stops KeyEnd) r)) o in
    let cut = until_at (stops KeyEnd) text (58 ∷ r) (key_off text (58 ∷ r) p refl) stop in
    plain_line (text ++ 58 ∷ r) text (58 ∷ r) cut.0 cut.1 ∙ plain_made text (58 ∷ r) p

-- a tail is spaces and what the cut leaves
record TailCut (tail : List ℕ) : Type 0 where
  count : ℕ
  rest : List ℕ
  whole : tail ≡ spaces count ++ rest
  stop : length_before_stop (stops KeyEnd) rest ≡ 0
  no_hash : is_hash rest ≡ false
  no_colon : behind 58 rest ≡ None
  shut : closes rest ≡ true

tail_cut : (tail : List ℕ) → IsTail tail → TailCut tail
tail_cut tail (spaces_alone n) = record {
  count = n;
  rest = [];
  whole = sym (append-nil (spaces n));
  stop = refl;
  no_hash = refl;
  no_colon = refl;
  shut = refl;
}
tail_cut tail (comment_behind n text) = record {
  count = n;
  rest = 32 ∷ (35 ∷ text);
  whole = ap (λ l. l ++ 35 ∷ text) (sym (spaces_last n))
      ∙ append_assoc (spaces n) (32 ∷ []) (35 ∷ text);
  stop = refl;
  no_hash = refl;
  no_colon = refl;
  shut = refl;
}

spaces_hash : (n : ℕ) (rest : List ℕ) → is_hash rest ≡ false → is_hash (spaces n ++ rest) ≡ false
spaces_hash zero rest h = h
spaces_hash (suc n) rest h = refl

pub value_reads : (text tail : List ℕ) → IsPlain text → NoSpaceBehind text → IsTail tail
    → (rest : List ℕ) × (leading_plain Line (text ++ tail) ≡ found (plain_of text) rest)
    × (closes rest ≡ true)
value_reads text tail p e t =
    let c = tail_cut tail t in
    let whole : text ++ tail ≡ (text ++ spaces c.count) ++ c.rest =
    ap (λ l. text ++ l) c.whole ∙ sym (append_assoc text (spaces c.count) c.rest) in
    let h : Inside (stops KeyEnd) text (spaces c.count ++ c.rest) =
    key_off text (spaces c.count ++ c.rest) p (spaces_hash c.count c.rest c.no_hash) in
    let inside = inside_append (stops KeyEnd) text (spaces c.count) c.rest h
    (inside_spaces KeyEnd c.count c.rest (λ n. spaces_hash n c.rest c.no_hash)) in
    let cut = until_at (stops KeyEnd) (text ++ spaces c.count) c.rest inside c.stop in (
      c.rest,
      ap (leading_plain Line) whole
          ∙ plain_line ((text ++ spaces c.count) ++ c.rest) (text ++ spaces c.count) c.rest cut.0
          cut.1
          ∙ ap (λ o. plain_scalar (option_map_or (λ _. text ++ spaces c.count) o
          (trim (text ++ spaces c.count))) c.rest) c.no_colon
          ∙ ap (λ l. plain_scalar l c.rest) (trim_text text c.count e) ∙ plain_made text c.rest p,
      c.shut,
    )

plain_flow : (bs front rest : List ℕ) → take (length_before_stop (stops FlowSign) bs) bs ≡ front
    → drop (length_before_stop (stops FlowSign) bs) bs ≡ rest → has Comment front ≡ false
    → leading_plain Flow bs ≡ plain_scalar (trim front) rest
unfolding leading_plain
plain_flow bs front rest e f c =
    let n = length_before_stop (stops FlowSign) bs in
    ap (λ l. if has Comment l then None else plain_scalar (trim l) (drop n bs)) e
    ∙ ap (λ l. if has Comment front then None else plain_scalar (trim front) l) f
    ∙ ap (λ v. if v then None else plain_scalar (trim front) rest) c

pub flow_reads : (text : List ℕ) (n b : ℕ) (more : List ℕ) → IsPlain text → NoSpaceBehind text
    → NoFlowSign text → stops FlowSign (b ∷ more) ≡ true
    → leading_plain Flow (text ++ (spaces n ++ b ∷ more)) ≡ found (plain_of text) (b ∷ more)
flow_reads text n b more p e s t =
    let stop : length_before_stop (stops FlowSign) (b ∷ more) ≡ 0 =
    ap (λ v. if v then 0 else suc (length_before_stop (stops FlowSign) more)) t in
    let inside = inside_append (stops FlowSign) text (spaces n) (b ∷ more) (λ a u c k. s a u c k)
    (inside_spaces FlowSign n (b ∷ more) (λ m. refl)) in
    let cut = until_at (stops FlowSign) (text ++ spaces n) (b ∷ more) inside stop in
    let none = has_not Comment (text ++ spaces n)
    (inside_append (stops Comment) text (spaces n) []
    (comment_off text (spaces n ++ []) p (spaces_hash n [] refl))
    (inside_spaces Comment n [] (λ m. spaces_hash m [] refl))) in
    ap (leading_plain Flow) (sym (append_assoc text (spaces n) (b ∷ more)))
    ∙ plain_flow ((text ++ spaces n) ++ b ∷ more) (text ++ spaces n) (b ∷ more) cut.0 cut.1 none
    ∙ ap (λ l. plain_scalar l (b ∷ more)) (trim_text text n e) ∙ plain_made text (b ∷ more) p
