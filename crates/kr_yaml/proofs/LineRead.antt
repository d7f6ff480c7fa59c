-- The tokens of a line are read as they are written.
use Rattle.std.proofs.Common.{◌≡◌, ◌≢◌, ℕ, ◌+◌, Bool, true, false, List, [], ◌∷◌, ◌++◌, Option}
use Rattle.std.proofs.Common.{None, Some, refl, sym, ap, ◌∙◌, subst, arith, zero, suc, map, inl}
use Rattle.std.proofs.Common.{inr, ◌⊎◌}
use Rattle.std.specs.Prelude.{if◌then◌else◌, ◌==◌, ◌&&◌, ◌||◌, not, is_some, option_and_then}
use Rattle.std.specs.Option.{option_map, option_map_or}
use Rattle.std.specs.List.{list_all}
use Rattle.std.specs.Str.{chars}
use Rattle.std.proofs.lemmas.List.{append_assoc}
use Rattle.kr_yaml.specs.Characters.{is_allowed}
use Rattle.kr_yaml.specs.Bytes.{behind, skip, spaces, over}
use Rattle.kr_yaml.specs.Lines.{Token, dash, pair, leaf, IsTail, spaces_alone, comment_behind}
use Rattle.kr_yaml.specs.Lines.{AreContentTokens, empty_item, item, empty_member, member, value}
use Rattle.kr_yaml.specs.Lines.{IsLine, empty_line, comment_line, content_line}
use Rattle.kr_yaml.specs.Texts.{is_parted, is_mark, StandsFor, first_mark, first_dots, no_mark}
use Rattle.kr_yaml.specs.Texts.{HasTokens}
use Rattle.kr_yaml.specs.inner.Stops.{opens, closes}
use Rattle.kr_yaml.specs.inner.LineReading.{content_token, onto, head, tokens_in, tokenize_line}
use Rattle.kr_yaml.specs.inner.TextReading.{marks, begins_blank, continues_text, marks_more}
use Rattle.kr_yaml.specs.inner.TextReading.{line_tokens}
use Rattle.kr_yaml.proofs.Behind.{is_byte}
use Rattle.kr_yaml.proofs.Quotes.{behind_cons}
use Rattle.kr_yaml.proofs.Spaces.{differ, heads, clash, none_of, both_true, skip_spaces}
use Rattle.kr_yaml.proofs.Spaces.{tail_opens, closes_tail, tail_closes}
use Rattle.kr_yaml.proofs.ScalarRead.{key_start}
use Rattle.kr_yaml.proofs.ContentRead.{LeafStart, leaf_begins, leaf_start, content_read}
use Rattle.kr_yaml.proofs.ContentRead.{leaf_is_read, empty_is_read, member_is_read}

abbrev tokens_at : ℕ → List ℕ → Option (List Token)
tokens_at c bs = tokens_in (head c bs)

-- one byte of the head

onto_by : (c : ℕ) (ds : List ℕ) (v : Bool) (o : Option Token)
    → (if v then Some (dash c ∷ map dash ds) else option_map
    (λ t. dash c ∷ (map dash ds ++ (t ∷ []))) o)
    ≡ option_map (λ ts. dash c ∷ ts) (if v then Some (map dash ds) else option_map
    (λ t. map dash ds ++ (t ∷ [])) o)
onto_by c ds true o = refl
onto_by c ds false None = refl
onto_by c ds false (Some t) = refl

at_dash : (c : ℕ) (bs : List ℕ) → opens bs ≡ true
    → tokens_at c (45 ∷ bs) ≡ option_map (λ ts. dash c ∷ ts) (tokens_at (c + 1) bs)
at_dash c bs o =
    let h = head (c + 1) bs in
    ap (λ v. tokens_in (if v then onto (c ∷ []) (head (c + 1) bs) else record {
      dashes =
          [];
      column = c;
      rest = 45 ∷ bs;
    })) o
    ∙ onto_by c h.dashes (over h.rest) (content_token h.column h.rest)

abbrev last_token : ℕ → List ℕ → Bool → Option (List Token)
last_token c bs v = if v then Some [] else option_map (λ t. t ∷ []) (content_token c bs)

at_content : (c b : ℕ) (bs : List ℕ) → (b == 32) ≡ false → (b == 45 && opens bs) ≡ false
    → tokens_at c (b ∷ bs) ≡ last_token c (b ∷ bs) (b == 35)
at_content c b bs e f =
    ap (λ v. tokens_in (if v then head (c + 1) bs else if b == 45 && opens bs then onto (c ∷ [])
    (head (c + 1) bs) else record { dashes = []; column = c; rest = b ∷ bs })) e
    ∙ ap (λ v. tokens_in (if v then onto (c ∷ []) (head (c + 1) bs) else record {
      dashes =
          [];
      column = c;
      rest = b ∷ bs;
    })) f

-- what was read

-- spaces, a content and a tail, from this column on
data Spaced : ℕ → List ℕ → List Token → Type 0 where
  empty : (c n : ℕ) → Spaced c (spaces n) []
  remark : (c n : ℕ) (text : List ℕ) → Spaced c (spaces n ++ 35 ∷ text) []
  full : (c n : ℕ) (bytes tail : List ℕ) (ts : List Token) → AreContentTokens (c + n) bytes ts
      → IsTail tail → Spaced c (spaces n ++ (bytes ++ tail)) ts

column_same : (b n c m : ℕ) (bytes : List ℕ) (ts : List Token) → b + n ≡ c + m
    → AreContentTokens (b + n) bytes ts → AreContentTokens (c + m) bytes ts
column_same b n c m bytes ts e h = subst (λ k. AreContentTokens k bytes ts) e h

one_more : (b c n : ℕ) → b ≡ c + 1 → b + n ≡ c + suc n
one_more b c n e = omega arith

spaced_more : (c e : ℕ) (bs : List ℕ) (ts : List Token) → e ≡ c + 1 → Spaced e bs ts
    → Spaced c (32 ∷ bs) ts
spaced_more c e bs ts h (empty b n) = empty c (suc n)
spaced_more c e bs ts h (remark b n text) = remark c (suc n) text
spaced_more c e bs ts h (full b n bytes tail us t k) =
    full c (suc n) bytes tail us (column_same b n c (suc n) bytes us (one_more b c n h) t) k

-- how a content begins
record ContentStart (bytes : List ℕ) : Type 0 where
  first : ℕ
  more : List ℕ
  begins : bytes ≡ first ∷ more
  no_space : (first == 32) ≡ false

leaf_first : (bytes rest : List ℕ) → LeafStart bytes → ContentStart (bytes ++ rest)
leaf_first bytes rest s = record {
  first = s.first;
  more = s.more ++ rest;
  begins =
      ap (λ l. l ++ rest) s.begins;
  no_space = s.no_space;
}

content_start : (c : ℕ) (bytes : List ℕ) (ts : List Token) → AreContentTokens c bytes ts
    → ContentStart bytes
content_start c bytes ts (empty_item b) = record {
  first = 45;
  more = [];
  begins = refl;
  no_space =
      refl;
}
content_start c bytes ts (item b n bs us h) = record {
  first = 45;
  more =
      spaces (suc n) ++ bs;
  begins = refl;
  no_space = refl;
}
content_start c bytes ts (empty_member b key bs k) = leaf_first bs (58 ∷ [])
    (leaf_begins bs (key_start key bs k))
content_start c bytes ts (member b n key bs d more k l) =
    leaf_first bs (58 ∷ (spaces (suc n) ++ more)) (leaf_begins bs (key_start key bs k))
content_start c bytes ts (value b d bs l h) =
    let s = leaf_start d bs l in
    record { first = s.first; more = s.more; begins = s.begins; no_space = s.no_space }

not_open : (bytes tail : List ℕ) → ContentStart bytes → opens (bytes ++ tail) ≡ false
not_open bytes tail s = ap (λ l. opens (l ++ tail)) s.begins ∙ s.no_space

at_zero : (c : ℕ) → c ≡ c + zero
at_zero c = omega arith

alone_item : (c : ℕ) (tail : List ℕ) → IsTail tail → Spaced c (45 ∷ tail) (dash c ∷ [])
alone_item c tail t =
    full c zero (45 ∷ []) tail (dash c ∷ []) (subst (λ k. AreContentTokens k (45 ∷ []) (dash c ∷ []))
    (at_zero c) (empty_item c)) t

item_of : (c b n : ℕ) (bytes tail : List ℕ) (us : List Token) → b ≡ c + 1
    → AreContentTokens (b + suc n) bytes us → IsTail tail
    → Spaced c (45 ∷ (spaces (suc n) ++ (bytes ++ tail))) (dash c ∷ us)
item_of c b n bytes tail us e t k =
    let inner = item c n bytes us (subst (λ m. AreContentTokens (m + suc n) bytes us) e t) in
    subst (λ l. Spaced c (45 ∷ l) (dash c ∷ us)) (append_assoc (spaces (suc n)) bytes tail)
    (full c zero (45 ∷ (spaces (suc n) ++ bytes)) tail (dash c ∷ us)
    (subst (λ m. AreContentTokens m (45 ∷ (spaces (suc n) ++ bytes)) (dash c ∷ us)) (at_zero c) inner) k)

remark_tail : (c n : ℕ) (text : List ℕ) → opens (spaces n ++ 35 ∷ text) ≡ true
    → Spaced c (45 ∷ (spaces n ++ 35 ∷ text)) (dash c ∷ [])
remark_tail c zero text o = absurd (clash (sym o))
remark_tail c (suc n) text o = alone_item c (spaces (suc n) ++ 35 ∷ text) (comment_behind n text)

full_item : (c b n : ℕ) (bytes tail : List ℕ) (us : List Token) → b ≡ c + 1
    → opens (spaces n ++ (bytes ++ tail)) ≡ true → AreContentTokens (b + n) bytes us → IsTail tail
    → Spaced c (45 ∷ (spaces n ++ (bytes ++ tail))) (dash c ∷ us)
full_item c b zero bytes tail us e o t k =
    absurd (clash (sym o ∙ not_open bytes tail (content_start (b + zero) bytes us t)))
full_item c b (suc n) bytes tail us e o t k = item_of c b n bytes tail us e t k

dash_more : (c e : ℕ) (bs : List ℕ) (ts : List Token) → e ≡ c + 1 → opens bs ≡ true
    → Spaced e bs ts → Spaced c (45 ∷ bs) (dash c ∷ ts)
dash_more c e bs ts h o (empty b n) = alone_item c (spaces n) (spaces_alone n)
dash_more c e bs ts h o (remark b n text) = remark_tail c n text o
dash_more c e bs ts h o (full b n bytes tail us t k) = full_item c b n bytes tail us h o t k

abbrev ReadsFrom : ℕ → List ℕ → Type 0
ReadsFrom c bs = (ts : List Token) → tokens_at c bs ≡ Some ts → Spaced c bs ts

some_same : {X : Type 0} (x y : X) → Some x ≡ Some y → x ≡ y
some_same x y h = ap (λ o. option_map_or (λ z. z) o x) h

dash_read : (c : ℕ) (bs : List ℕ) (ts : List Token) (o : Option (List Token)) → opens bs ≡ true
    → ((us : List Token) → o ≡ Some us → Spaced (c + 1) bs us)
    → option_map (λ us. dash c ∷ us) o ≡ Some ts → Spaced c (45 ∷ bs) ts
dash_read c bs ts None p ih h = absurd cc
dash_read c bs ts (Some us) p ih h =
    subst (Spaced c (45 ∷ bs)) (some_same (dash c ∷ us) ts h)
    (dash_more c (c + 1) bs us refl p (ih us refl))

no_front : (b : ℕ) (bs more : List ℕ) → (b == 32) ≡ false → b ∷ bs ≢ 32 ∷ more
no_front b bs more e h = differ b 32 e (heads h)

abbrev first_opens : List ℕ → Bool
first_opens [] = false
first_opens (c ∷ cs) = c == 45 && opens cs

no_item_at : (b : ℕ) (bs rest : List ℕ) → (b == 45 && opens bs) ≡ false → b ∷ bs ≡ 45 ∷ rest
    → opens rest ≡ false
no_item_at b bs rest e h = sym (ap first_opens h) ∙ e

content_end : (c b : ℕ) (bs : List ℕ) (ts : List Token) (v : Bool) (o : Option Token)
    → (b == 32) ≡ false → (b == 45 && opens bs) ≡ false → (b == 35) ≡ v
    → content_token c (b ∷ bs) ≡ o
    → (if v then Some [] else option_map (λ t. t ∷ []) o) ≡ Some ts → Spaced c (b ∷ bs) ts
content_end c b bs ts true o e f g k h =
    subst (Spaced c (b ∷ bs)) (some_same [] ts h)
    (subst (λ x. Spaced c (x ∷ bs) []) (sym (is_byte b 35 g)) (remark c zero bs))
content_end c b bs ts false (Some t) e f g k h =
    let r = content_read c (b ∷ bs) t (λ more. no_front b bs more e) (λ rest. no_item_at b bs rest
    f) k in
    subst (Spaced c (b ∷ bs)) (some_same (t ∷ []) ts h)
    (subst (λ l. Spaced c l (t ∷ [])) (sym r.whole)
    (full c zero r.bytes r.tail (t ∷ []) (subst (λ m. AreContentTokens m r.bytes (t ∷ [])) (at_zero c)
    r.content) r.behind))
content_end c b bs ts false None e f g k h = absurd cc

line_by : (c b : ℕ) (bs : List ℕ) (v w : Bool) → (b == 32) ≡ v → (b == 45 && opens bs) ≡ w
    → ReadsFrom (c + 1) bs → ReadsFrom c (b ∷ bs)
line_by c b bs true w e f ih = λ ts h.
    let same = is_byte b 32 e in
    subst (λ x. Spaced c (x ∷ bs) ts) (sym same)
    (spaced_more c (c + 1) bs ts refl (ih ts (ap (λ x. tokens_at c (x ∷ bs)) (sym same) ∙ h)))
line_by c b bs false true e f ih = λ ts h.
    let both = both_true (b == 45) (opens bs) f in
    let same = is_byte b 45 both.0 in
    subst (λ x. Spaced c (x ∷ bs) ts) (sym same)
    (dash_read c bs ts (tokens_at (c + 1) bs) both.1 ih
    (sym (at_dash c bs both.1) ∙ ap (λ x. tokens_at c (x ∷ bs)) (sym same) ∙ h))
line_by c b bs false false e f ih = λ ts h.
    content_end c b bs ts (b == 35) (content_token c (b ∷ bs)) e f refl refl
    (sym (at_content c b bs e f) ∙ h)

line_read : (bs : List ℕ) (c : ℕ) → ReadsFrom c bs
line_read [] c = λ ts h. subst (Spaced c []) (some_same [] ts h) (empty c zero)
line_read (b ∷ bs) c = line_by c b bs (b == 32) (b == 45 && opens bs) refl refl
    (line_read bs (c + 1))

no_tab : (bytes rest : List ℕ) → behind 9 (bytes ++ rest) ≡ None → (more : List ℕ)
    → bytes ≢ 9 ∷ more
no_tab bytes rest h more e =
    let some : Some (more ++ rest) ≡ None = sym (ap (λ l. behind 9 (l ++ rest)) e) ∙ h in
    absurd cc

content_skip : (bytes rest : List ℕ) → ContentStart bytes → skip (bytes ++ rest) ≡ bytes ++ rest
content_skip bytes rest s =
    ap (λ l. skip (l ++ rest)) s.begins
    ∙ ap (λ v. if v then skip (s.more ++ rest) else s.first ∷ (s.more ++ rest)) s.no_space
    ∙ ap (λ l. l ++ rest) (sym s.begins)

spaced_line : (c : ℕ) (line : List ℕ) (ts : List Token) → c ≡ zero → behind 9 (skip line) ≡ None
    → Spaced c line ts → IsLine line ts
spaced_line c line ts z h (empty b n) = empty_line n
spaced_line c line ts z h (remark b n text) = comment_line n text
spaced_line c line ts z h (full b n bytes tail us t k) =
    let e : skip (spaces n ++ (bytes ++ tail)) ≡ bytes ++ tail =
    skip_spaces n (bytes ++ tail) ∙ content_skip bytes tail (content_start (b + n) bytes us t) in
    let at : b + n ≡ n = omega arith in
    content_line n bytes tail us (subst (λ m. AreContentTokens m bytes us) at t) k
    (no_tab bytes tail (ap (behind 9) (sym e) ∙ h))

tokens_by : (line : List ℕ) (ts : List Token) (o : Option (List ℕ)) → behind 9 (skip line) ≡ o
    → (if is_some o then None else tokens_at 0 line) ≡ Some ts → IsLine line ts
tokens_by line ts (Some x) e h = absurd cc
tokens_by line ts None e h = spaced_line 0 line ts refl e (line_read line 0 ts h)

tokens_read : (line : List ℕ) (ts : List Token) → tokenize_line line ≡ Some ts → IsLine line ts
unfolding tokenize_line
tokens_read line ts h = tokens_by line ts (behind 9 (skip line)) refl h

-- what is written is read

spaces_at : (c n : ℕ) (bs : List ℕ) → tokens_at c (spaces n ++ bs) ≡ tokens_at (c + n) bs
spaces_at c zero bs = ap (λ k. tokens_at k bs) (at_zero c)
spaces_at c (suc n) bs = spaces_at (c + 1) n bs
    ∙ ap (λ k. tokens_at k bs) (one_more (c + 1) c n refl)

spaces_none : (c n : ℕ) → tokens_at c (spaces n) ≡ Some []
spaces_none c zero = refl
spaces_none c (suc n) = spaces_none (c + 1) n

tail_none : (c : ℕ) (tail : List ℕ) → IsTail tail → tokens_at c tail ≡ Some []
tail_none c tail (spaces_alone n) = spaces_none c n
tail_none c tail (comment_behind n text) = spaces_at c (suc n) (35 ∷ text)

-- where a dash stands alone, nothing opens behind it
dash_off : (b : ℕ) (more rest whole : List ℕ) → whole ≡ b ∷ more
    → ((r : List ℕ) → whole ≢ 45 ∷ (32 ∷ r)) → (whole ≡ 45 ∷ [] → opens rest ≡ false)
    → (b == 45 && opens (more ++ rest)) ≡ false
dash_off b [] rest whole e h k =
    none_of (b == 45 && opens rest) (λ t.
    let both = both_true (b == 45) (opens rest) t in
    clash (sym both.1 ∙ k (e ∙ ap (λ c. c ∷ []) (is_byte b 45 both.0))))
dash_off b (x ∷ more) rest whole e h k =
    none_of (b == 45 && x == 32) (λ t.
    let both = both_true (b == 45) (x == 32) t in
    h more (e ∙ ap (λ c. c ∷ (x ∷ more)) (is_byte b 45 both.0)
    ∙ ap (λ c. 45 ∷ (c ∷ more)) (is_byte x 32 both.1)))

last_made : (c : ℕ) (bytes rest : List ℕ) (t : Token) (s : LeafStart bytes)
    → (bytes ≡ 45 ∷ [] → opens rest ≡ false) → content_token c (bytes ++ rest) ≡ Some t
    → tokens_at c (bytes ++ rest) ≡ Some (t ∷ [])
last_made c bytes rest t s k h =
    let e = s.begins in
    let whole : s.first ∷ (s.more ++ rest) ≡ bytes ++ rest = sym (ap (λ l. l ++ rest) e) in
    ap (tokens_at c) (sym whole)
    ∙ at_content c s.first (s.more ++ rest) s.no_space (dash_off s.first s.more rest bytes e
    s.no_item k)
    ∙ ap (last_token c (s.first ∷ (s.more ++ rest))) s.no_hash
    ∙ ap (λ l. option_map (λ t. t ∷ []) (content_token c l)) whole
    ∙ ap (option_map (λ t. t ∷ [])) h

content_made : (tail : List ℕ) → IsTail tail → (c : ℕ) (bytes : List ℕ) (ts : List Token)
    → AreContentTokens c bytes ts → tokens_at c (bytes ++ tail) ≡ Some ts
content_made tail t c bytes ts (empty_item b) =
    at_dash b tail (tail_opens tail t)
    ∙ ap (option_map (λ us. dash b ∷ us)) (tail_none (b + 1) tail t)
content_made tail t c bytes ts (item b n bs us h) =
    at_dash b ((spaces (suc n) ++ bs) ++ tail) refl
    ∙ ap (λ l. option_map (λ us. dash b ∷ us) (tokens_at (b + 1) l)) (append_assoc (spaces (suc n))
    bs tail)
    ∙ ap (option_map (λ us. dash b ∷ us)) (spaces_at (b + 1) (suc n) (bs ++ tail)
    ∙ content_made tail t (b + 1 + suc n) bs us h)
content_made tail t c bytes ts (empty_member b key bs k) =
    ap (tokens_at b) (append_assoc bs (58 ∷ []) tail)
    ∙ last_made b bs (58 ∷ tail) (pair b key None) (leaf_begins bs (key_start key bs k)) (λ e. refl)
    (empty_is_read b tail t key bs k)
content_made tail t c bytes ts (member b n key bs d more k l) =
    ap (tokens_at b) (append_assoc bs (58 ∷ (spaces (suc n) ++ more)) tail
    ∙ ap (λ m. bs ++ 58 ∷ m) (append_assoc (spaces (suc n)) more tail))
    ∙ last_made b bs (58 ∷ (spaces (suc n) ++ (more ++ tail))) (pair b key (Some d))
    (leaf_begins bs (key_start key bs k)) (λ e. refl)
    (member_is_read b n tail t key bs d more k l)
content_made tail t c bytes ts (value b d bs l h) =
    last_made b bs tail (leaf b d) (leaf_start d bs l) (λ e. absurd (h e))
    (leaf_is_read b tail t d bs l)

tokens_untabbed : (line : List ℕ) → behind 9 (skip line) ≡ None → tokenize_line line ≡ tokens_at 0 line
unfolding tokenize_line
tokens_untabbed line h = ap (λ o. if is_some o then None else tokens_at 0 line) h

untabbed : (b : ℕ) (bs : List ℕ) → ((more : List ℕ) → b ∷ bs ≢ 9 ∷ more) → behind 9 (b ∷ bs) ≡ None
untabbed b bs h =
    ap (λ v. if v then Some bs else None)
    (none_of (b == 9) (λ t. h bs (ap (λ c. c ∷ bs) (is_byte b 9 t))))

content_untabbed : (bytes tail : List ℕ) → ContentStart bytes → ((more : List ℕ) → bytes ≢ 9 ∷ more)
    → behind 9 (bytes ++ tail) ≡ None
content_untabbed bytes tail s h =
    ap (λ l. behind 9 (l ++ tail)) s.begins
    ∙ ap (λ v. if v then Some (s.more ++ tail) else None)
    (none_of (s.first == 9) (λ t. h s.more (s.begins
    ∙ ap (λ c. c ∷ s.more) (is_byte s.first 9 t))))

spaces_untabbed : (n : ℕ) → behind 9 (skip (spaces n)) ≡ None
spaces_untabbed zero = refl
spaces_untabbed (suc n) = spaces_untabbed n

tokens_made : (line : List ℕ) (ts : List Token) → IsLine line ts → tokenize_line line ≡ Some ts
tokens_made line ts (empty_line n) = tokens_untabbed (spaces n) (spaces_untabbed n)
    ∙ spaces_none 0 n
tokens_made line ts (comment_line n text) =
    tokens_untabbed (spaces n ++ 35 ∷ text) (ap (behind 9) (skip_spaces n (35 ∷ text)))
    ∙ spaces_at 0 n (35 ∷ text)
tokens_made line ts (content_line n bytes tail us c t h) =
    let s = content_start n bytes us c in
    let e = skip_spaces n (bytes ++ tail) ∙ content_skip bytes tail s in
    let at : 0 + n ≡ n = omega arith in
    tokens_untabbed (spaces n ++ (bytes ++ tail)) (ap (behind 9) e
    ∙ content_untabbed bytes tail s h)
    ∙ spaces_at 0 n (bytes ++ tail) ∙ ap (λ k. tokens_at k (bytes ++ tail)) at
    ∙ content_made tail t n bytes us c

-- marks

-- three of a byte with nothing but a comment behind them
record Shut (c : ℕ) (line : List ℕ) (m n i : Bool) : Type 0 where
  rest : List ℕ
  is : line ≡ c ∷ (c ∷ (c ∷ rest))
  tail : closes rest ≡ true
  marks : m ≡ true
  more : n ≡ false
  mark : i ≡ true

-- or else a line is a mark where it is one with more behind it
abbrev Kind : ℕ → List ℕ → Bool → Bool → Bool → Type 0
Kind c line m n i = Shut c line m n i ⊎ ((m ≡ false) × (n ≡ i))

and_false : (v : Bool) → (v && false) ≡ false
and_false true = refl
and_false false = refl

and_true : (v : Bool) → (v && true) ≡ v
and_true true = refl
and_true false = refl

shut_more : (rest : List ℕ) → closes rest ≡ true → continues_text rest ≡ false
shut_more rest h =
    ap (λ v. begins_blank rest && not v) h ∙ and_false (begins_blank rest)

parted_opens : (rest : List ℕ) → closes rest ≡ true → is_parted rest ≡ true
parted_opens [] h = refl
parted_opens (b ∷ bs) h = ap (λ v. v || b == 9) (both_true (b == 32) (over (skip bs)) h).0

parted_blank : (rest : List ℕ) → closes rest ≡ false → begins_blank rest ≡ is_parted rest
parted_blank [] h = absurd (clash h)
parted_blank (b ∷ bs) h = refl

kind_by : (c : ℕ) (line rest : List ℕ) (v : Bool) → line ≡ c ∷ (c ∷ (c ∷ rest))
    → closes rest ≡ v → Kind c line (closes rest) (continues_text rest) (is_parted rest)
kind_by c line rest true e h = inl (record {
  rest = rest;
  is = e;
  tail = h;
  marks = h;
  more =
      shut_more rest h;
  mark = parted_opens rest h;
})
kind_by c line rest false e h =
    inr (
      h,
      ap (λ v. begins_blank rest && not v) h ∙ and_true (begins_blank rest)
          ∙ parted_blank rest h,
    )

kind_third : (c : ℕ) (line l : List ℕ) (o : Option (List ℕ)) → line ≡ c ∷ (c ∷ l)
    → o ≡ behind c l
    → Kind c line (option_map_or closes o false) (option_map_or continues_text o false)
    (option_map_or is_parted o false)
kind_third c line l (Some rest) e h =
    kind_by c line rest (closes rest) (e ∙ ap (λ m. c ∷ (c ∷ m)) (behind_cons c l rest h)) refl
kind_third c line l None e h = inr (refl, refl)

abbrev Kinds : ℕ → List ℕ → Option (List ℕ) → Type 0
Kinds c line o =
    Kind c line (option_map_or closes o false) (option_map_or continues_text o false)
    (option_map_or is_parted o false)

kind_second : (c : ℕ) (line l : List ℕ) (o : Option (List ℕ)) → line ≡ c ∷ l → o ≡ behind c l
    → Kinds c line (option_and_then (behind c) o)
kind_second c line l (Some m) e h =
    kind_third c line m (behind c m) (e ∙ ap (λ m. c ∷ m) (behind_cons c l m h)) refl
kind_second c line l None e h = inr (refl, refl)

kind_first : (c : ℕ) (line : List ℕ) (o : Option (List ℕ)) → o ≡ behind c line
    → Kinds c line (option_and_then (behind c) (option_and_then (behind c) o))
kind_first c line (Some l) h = kind_second c line l (behind c l) (behind_cons c line l h) refl
kind_first c line None h = inr (refl, refl)

kind : (c : ℕ) (line : List ℕ) → Kind c line (marks c line) (marks_more c line) (is_mark c line)
kind c line = kind_first c line (behind c line) refl

-- the tokens where these are the marks
abbrev by_marks : Bool → Bool → Bool → Bool → Bool → Bool → Option (List Token)
    → Option (List Token)
by_marks allowed first m n p q o =
    if not allowed || (n || q) then None
    else if m then (if first then Some [] else None) else if p && not first then None else o

abbrev Left : Bool → Bool → Bool → Option (List Token) → List Token → Type 0
Left first m p o ts =
    ((m ≡ true) × (first ≡ true) × ([] ≡ ts)) ⊎ ((m ≡ false) × ((p && not first) ≡ false)
    × (o ≡ Some ts))

record Unmarked (allowed first m n p q : Bool) (o : Option (List Token)) (ts : List Token) : Type 0
  where
    allows : allowed ≡ true
    no_more : n ≡ false
    no_dots : q ≡ false
    left : Left first m p o ts

left_by : (first m p : Bool) (o : Option (List Token)) (ts : List Token)
    → (if m then (if first then Some [] else None) else if p && not first then None else o)
    ≡ Some ts
    → Left first m p o ts
left_by true true p o ts h = inl (refl, refl, some_same [] ts h)
left_by false true p o ts h = absurd cc
left_by false false true o ts h = absurd cc
left_by true false true o ts h = inr (refl, refl, h)
left_by other false another o ts h = inr (refl, refl, h)

unmarked_by : (allowed first m n p q : Bool) (o : Option (List Token)) (ts : List Token)
    → by_marks allowed first m n p q o ≡ Some ts → Unmarked allowed first m n p q o ts
unmarked_by true first m false p false o ts h = record {
  allows = refl;
  no_more = refl;
  no_dots =
      refl;
  left = left_by first m p o ts h;
}
unmarked_by other first m n p q o ts h = absurd cc

first_of : (p first : Bool) → p ≡ true → (p && not first) ≡ false → first ≡ true
first_of true true e h = refl
first_of true false e h = absurd (clash h)
first_of false first e h = absurd (clash (sym e))

begin_stands : (first : Bool) (line : List ℕ) (ts : List Token) (m n i : Bool)
    → Kind 45 line m n i → m ≡ true → first ≡ true → [] ≡ ts → StandsFor first line ts
begin_stands first line ts m n i (inl s) e f g =
    subst (λ l. StandsFor first l ts) (sym s.is)
    (subst (λ v. StandsFor v (45 ∷ (45 ∷ (45 ∷ s.rest))) ts) (sym f)
    (subst (StandsFor true (45 ∷ (45 ∷ (45 ∷ s.rest)))) g
    (first_mark s.rest (closes_tail s.rest s.tail))))
begin_stands first line ts m n i (inr z) e f g = absurd (clash (sym e ∙ z.0))

dots_stand : (first : Bool) (line : List ℕ) (ts : List Token) (p q j : Bool)
    → is_mark 45 line ≡ false
    → is_mark 46 line ≡ j → Kind 46 line p q j → q ≡ false → (p && not first) ≡ false
    → IsLine line ts → StandsFor first line ts
dots_stand first line ts p q j e f (inl s) g h l =
    subst (λ m. StandsFor first m ts) (sym s.is)
    (subst (λ v. StandsFor v (46 ∷ (46 ∷ (46 ∷ s.rest))) ts) (sym (first_of p first s.marks h))
    (first_dots s.rest ts (closes_tail s.rest s.tail) (subst (λ m. IsLine m ts) s.is l)))
dots_stand first line ts p q j e f (inr z) g h l = no_mark first line ts e (f ∙ sym z.1 ∙ g) l

not_mark : (c : ℕ) (line : List ℕ) (m n i : Bool) → Kind c line m n i → m ≡ false → n ≡ false
    → i ≡ false
not_mark c line m n i (inl s) e f = absurd (clash (sym s.marks ∙ e))
not_mark c line m n i (inr z) e f = sym z.1 ∙ f

pub line_has : (first : Bool) (line : List ℕ) (ts : List Token) → line_tokens first line ≡ Some ts
    → HasTokens first line ts
line_has first line ts h =
    let dashes = kind 45 line in
    let u = unmarked_by (list_all is_allowed (chars line)) first (marks 45 line)
    (marks_more 45 line) (marks 46 line) (marks_more 46 line) (tokenize_line line) ts h in (
      u.allows,
      elim u.left [
        | inl l ↦ begin_stands first line ts (marks 45 line) (marks_more 45 line) (is_mark 45 line)
            dashes l.0 l.1 l.2
        | inr l ↦ dots_stand first line ts (marks 46 line) (marks_more 46 line) (is_mark 46 line)
            (not_mark 45 line (marks 45 line) (marks_more 45 line) (is_mark 45 line) dashes l.0
            u.no_more)
            refl (kind 46 line) u.no_dots l.1 (tokens_read line ts l.2)
      ],
    )

by_marks_is : (allowed first m n p q : Bool) (o : Option (List Token)) → allowed ≡ true → n ≡ false
    → q ≡ false → by_marks allowed first m n p q o
    ≡ (if m then (if first then Some [] else None) else if p && not first then None else o)
by_marks_is allowed first m n p q o e f g =
    ap (λ a. by_marks a first m n p q o) e ∙ ap (λ a. by_marks true first m a p q o) f
    ∙ ap (λ a. by_marks true first m false p a o) g

no_kind : (c : ℕ) (line : List ℕ) (m n i : Bool) → Kind c line m n i → i ≡ false
    → (m ≡ false) × (n ≡ false)
no_kind c line m n i (inl s) e = absurd (clash (sym s.mark ∙ e))
no_kind c line m n i (inr z) e = (z.0, z.1 ∙ e)

pub has_line : (first : Bool) (line : List ℕ) (ts : List Token) → list_all is_allowed (chars line)
    ≡ true
    → StandsFor first line ts → line_tokens first line ≡ Some ts
has_line first line ts a (first_mark tail t) =
    let bs = 45 ∷ (45 ∷ (45 ∷ tail)) in
    by_marks_is (list_all is_allowed (chars bs)) true (closes tail) (continues_text tail) false false
    (tokenize_line bs) a (shut_more tail (tail_closes tail t)) refl
    ∙ ap (λ v. if v then Some [] else tokenize_line bs) (tail_closes tail t)
has_line first line ts a (first_dots tail us t l) =
    let bs = 46 ∷ (46 ∷ (46 ∷ tail)) in
    by_marks_is (list_all is_allowed (chars bs)) true false false (closes tail) (continues_text tail)
    (tokenize_line bs) a refl (shut_more tail (tail_closes tail t))
    ∙ ap (λ v. if v then None else tokenize_line bs) (and_false (closes tail)) ∙ tokens_made bs us l
has_line first line ts a (no_mark f bs us e g l) =
    let d = no_kind 45 bs (marks 45 bs) (marks_more 45 bs) (is_mark 45 bs) (kind 45 bs) e in
    let o = no_kind 46 bs (marks 46 bs) (marks_more 46 bs) (is_mark 46 bs) (kind 46 bs) g in
    by_marks_is (list_all is_allowed (chars bs)) f (marks 45 bs) (marks_more 45 bs) (marks 46 bs)
    (marks_more 46 bs) (tokenize_line bs) a d.1 o.1
    ∙ ap (λ v. if v then (if f then Some [] else None) else if marks 46 bs && not
    f then None else tokenize_line bs) d.0
    ∙ ap (λ v. if v && not f then None else tokenize_line bs) o.0 ∙ tokens_made bs us l
