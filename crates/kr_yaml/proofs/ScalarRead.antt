-- Scalars are read as they are written: as values on a line, as keys and in flow lists.
use Rattle.std.proofs.Common.{◌≡◌, ◌≢◌, ℕ, true, false, List, [], ◌∷◌, ◌++◌}
use Rattle.std.proofs.Common.{Option, None, Some, refl, sym, ap, ◌∙◌, subst, zero, suc, inl, inr}
use Rattle.std.proofs.Common.{◌⊎◌}
use Rattle.std.specs.Prelude.{if◌then◌else◌, ◌==◌, ◌&&◌, ◌||◌, codes}
use Rattle.std.specs.Option.{option_map_or}
use Rattle.std.specs.Str.{bytes_eq}
use Rattle.std.proofs.lemmas.List.{append_assoc}
use Rattle.kr_yaml.specs.Bytes.{behind, skip, spaces}
use Rattle.kr_yaml.specs.Data.{Data, null, word}
use Rattle.kr_yaml.specs.Written.{with_quotes_twice, IsQuoted, in_single, in_double, is_indicator}
use Rattle.kr_yaml.specs.Written.{IsPlain, IsScalar, quoted_value, plain_value}
use Rattle.kr_yaml.specs.Written.{IsPart}
use Rattle.kr_yaml.specs.Written.{quoted_part, plain_part, IsKey, quoted_key}
use Rattle.kr_yaml.specs.Written.{plain_key}
use Rattle.kr_yaml.specs.Lines.{IsTail}
use Rattle.kr_yaml.specs.inner.Stops.{opens, closes, stops}
use Rattle.kr_yaml.specs.inner.ScalarReading.{single, double, leading_plain, quoted_scalar, leading_scalar}
use Rattle.kr_yaml.specs.inner.ScalarReading.{data_of, is_merge}
use Rattle.kr_yaml.specs.declared.bytes.ScanStop.TheVariants.{FlowSign}
use Rattle.kr_yaml.specs.declared.scalar.Scalar.{Scalar}
use Rattle.kr_yaml.specs.declared.scalar.Context.{Context}
use Rattle.kr_yaml.specs.declared.scalar.Context.TheVariants.{Line, Flow}
use Rattle.kr_yaml.proofs.Behind.{is_byte}
use Rattle.kr_yaml.proofs.Quotes.{behind_cons}
use Rattle.kr_yaml.proofs.QuotedRead.{single_is, single_reads, double_is, double_reads}
use Rattle.kr_yaml.proofs.Spaces.{heads, differ, clash, none_of, NoSpaceFront, skip_spaces}
use Rattle.kr_yaml.proofs.Spaces.{tail_spaces, closes_tail, tail_closes, tail_no_byte}
use Rattle.kr_yaml.proofs.PlainRead.{value_read, key_read, flow_read}
use Rattle.kr_yaml.proofs.PlainRead.{value_reads, key_reads, flow_reads}

-- how a scalar or a key begins

pub record Start (bytes : List ℕ) : Type 0 where
  pub first : ℕ
  pub more : List ℕ
  pub begins : bytes ≡ first ∷ more
  pub no_space : (first == 32) ≡ false
  pub no_hash : (first == 35) ≡ false
  pub no_list : (first == 91) ≡ false
  pub no_end : (first == 93) ≡ false
  pub no_mapping : (first == 123) ≡ false
  pub no_item : (rest : List ℕ) → bytes ≢ 45 ∷ (32 ∷ rest)

pub other_first : (c : ℕ) (bs rest : List ℕ) → (c == 45) ≡ false → c ∷ bs ≢ 45 ∷ rest
other_first c bs rest h e = differ c 45 h (heads e)

-- a byte that begins nothing else
begun_by : (c : ℕ) (more : List ℕ) → (c == 32) ≡ false → (c == 35) ≡ false → (c == 91) ≡ false
    → (c == 93) ≡ false → (c == 123) ≡ false → (c == 45) ≡ false → Start (c ∷ more)
begun_by c more space hash list end mapping item = record {
  first = c;
  more = more;
  begins = refl;
  no_space = space;
  no_hash = hash;
  no_list = list;
  no_end = end;
  no_mapping = mapping;
  no_item = λ rest. other_first c more (32 ∷ rest) item;
}

quoted_start : (text bytes : List ℕ) → IsQuoted text bytes → Start bytes
quoted_start text bytes (in_single t) =
    begun_by 39 (with_quotes_twice t ++ 39 ∷ []) refl refl refl refl refl refl
quoted_start text bytes (in_double t w e) =
    begun_by 34 (w ++ 34 ∷ []) refl refl refl refl refl refl

not_first : (b c : ℕ) → is_indicator c ≡ true → is_indicator b ≡ false → (b == c) ≡ false
not_first b c h e =
    none_of (b == c) (λ t. clash (sym h ∙ ap is_indicator (sym (is_byte b c t)) ∙ e))

plain_start : (text : List ℕ) → IsPlain text → Start text
plain_start text p = record {
  first = p.first;
  more = p.more;
  begins = p.begins;
  no_space = p.no_space;
  no_hash = not_first p.first 35 refl p.no_indicator;
  no_list = not_first p.first 91 refl p.no_indicator;
  no_end = not_first p.first 93 refl p.no_indicator;
  no_mapping = not_first p.first 123 refl p.no_indicator;
  no_item = p.no_item;
}

pub scalar_start : (d : Data) (bytes : List ℕ) → IsScalar d bytes → Start bytes
scalar_start d bytes (quoted_value text bs q) = quoted_start text bs q
scalar_start d bytes (plain_value text p e) = plain_start text p

pub part_start : (d : Data) (bytes : List ℕ) → IsPart d bytes → Start bytes
part_start d bytes (quoted_part text bs q) = quoted_start text bs q
part_start d bytes (plain_part text p e s) = plain_start text p

pub key_start : (key bytes : List ℕ) → IsKey key bytes → Start bytes
key_start key bytes (quoted_key text bs q) = quoted_start text bs q
key_start key bytes (plain_key text p m) = plain_start text p

-- what stands behind a byte that isn't the first
pub start_behind : (c : ℕ) (bytes rest : List ℕ) (s : Start bytes) → (s.first == c) ≡ false
    → behind c (bytes ++ rest) ≡ None
start_behind c bytes rest s h =
    ap (λ l. behind c (l ++ rest)) s.begins ∙ ap (λ v. if v then Some (s.more ++ rest) else None) h

pub start_skip : (bytes rest : List ℕ) → Start bytes → skip (bytes ++ rest) ≡ bytes ++ rest
start_skip bytes rest s =
    ap (λ l. skip (l ++ rest)) s.begins
    ∙ ap (λ v. if v then skip (s.more ++ rest) else s.first ∷ (s.more ++ rest)) s.no_space
    ∙ ap (λ l. l ++ rest) (sym s.begins)

-- what was read

record InQuotes (bs : List ℕ) (s : Scalar) (rest : List ℕ) : Type 0 where
  bytes : List ℕ
  quoted : IsQuoted s.text bytes
  not_plain : s.plain ≡ false
  whole : bs ≡ bytes ++ rest

abbrev pub found : Scalar → List ℕ → Option (Scalar × List ℕ)
found s rest = Some (s, rest)

abbrev Texts : Type 0
Texts = List ℕ × List ℕ

abbrev texts : List ℕ → List ℕ → Option Texts
texts text rest = Some (text, rest)

record Read (o : Option Texts) (s : Scalar) (rest : List ℕ) : Type 0 where
  reads : o ≡ texts s.text rest
  not_plain : s.plain ≡ false

some_pair : (x y : Scalar × List ℕ) → Some x ≡ Some y → x ≡ y
some_pair x y h = ap (λ o. option_map_or (λ z. z) o x) h

quoted_by : (o : Option Texts) (s : Scalar) (rest : List ℕ) → quoted_scalar o ≡ found s rest
    → Read o s rest
quoted_by None s rest h = absurd cc
quoted_by (Some x) s rest h =
    let same = some_pair (record { text = x.0; plain = false }, x.1) (s, rest) h in
    record {
      reads = ap (λ (y : Scalar × List ℕ). texts y.0.text y.1) same;
      not_plain = ap (λ (y : Scalar × List ℕ). y.0.plain) (sym same);
    }

single_made : (bs r : List ℕ) (s : Scalar) (rest : List ℕ) → bs ≡ 39 ∷ r
    → quoted_scalar (single r) ≡ found s rest → InQuotes bs s rest
single_made bs r s rest e h =
    let q = quoted_by (single r) s rest h in
    let w = single_is r s.text rest q.reads in
    record {
      bytes = 39 ∷ (with_quotes_twice s.text ++ 39 ∷ []);
      quoted = in_single s.text;
      not_plain = q.not_plain;
      whole = e ∙ ap (λ l. 39 ∷ l)
          (w.0 ∙ sym (append_assoc (with_quotes_twice s.text) (39 ∷ []) rest));
    }

double_made : (bs r : List ℕ) (s : Scalar) (rest : List ℕ) → bs ≡ 34 ∷ r
    → quoted_scalar (double r) ≡ found s rest → InQuotes bs s rest
double_made bs r s rest e h =
    let q = quoted_by (double r) s rest h in
    let w = double_is r s.text rest q.reads in
    record {
      bytes = 34 ∷ (w.0 ++ 34 ∷ []);
      quoted = in_double s.text w.0 w.1;
      not_plain = q.not_plain;
      whole = e ∙ ap (λ l. 34 ∷ l) (w.2 ∙ sym (append_assoc w.0 (34 ∷ []) rest));
    }

scalar_by : (context : Context) (bs : List ℕ) (s : Scalar) (rest : List ℕ) (o p : Option (List ℕ))
    → o ≡ behind 39 bs → p ≡ behind 34 bs
    → option_map_or (λ r. quoted_scalar (single r)) o
    (option_map_or (λ r. quoted_scalar (double r)) p (leading_plain context bs)) ≡ found s rest
    → InQuotes bs s rest ⊎ (leading_plain context bs ≡ found s rest)
scalar_by context bs s rest (Some r) p e f h =
    inl (single_made bs r s rest (behind_cons 39 bs r e) h)
scalar_by context bs s rest None (Some r) e f h =
    inl (double_made bs r s rest (behind_cons 34 bs r f) h)
scalar_by context bs s rest None None e f h = inr h

scalar_read : (context : Context) (bs : List ℕ) (s : Scalar) (rest : List ℕ)
    → leading_scalar context bs ≡ found s rest
    → InQuotes bs s rest ⊎ (leading_plain context bs ≡ found s rest)
unfolding leading_scalar
scalar_read context bs s rest h =
    scalar_by context bs s rest (behind 39 bs) (behind 34 bs) refl refl h

quoted_data : (s : Scalar) → s.plain ≡ false → data_of s ≡ word s.text
quoted_data s e =
    ap (λ v. if v && (bytes_eq s.text (codes "null") || bytes_eq s.text
    (codes "~")) then null else word s.text) e

-- a value on a line and its tail
pub record Valued (bs : List ℕ) (d : Data) : Type 0 where
  pub bytes : List ℕ
  pub tail : List ℕ
  pub whole : bs ≡ bytes ++ tail
  pub scalar : IsScalar d bytes
  pub behind : IsTail tail

pub line_value : (bs : List ℕ) (s : Scalar) (rest : List ℕ) → NoSpaceFront bs
    → closes rest ≡ true → leading_scalar Line bs ≡ found s rest → Valued bs (data_of s)
line_value bs s rest f c h = elim (scalar_read Line bs s rest h) [
  | inl q ↦ record {
    bytes = q.bytes;
    tail = rest;
    whole = q.whole;
    scalar = subst (λ d. IsScalar d q.bytes) (sym (quoted_data s q.not_plain))
        (quoted_value s.text q.bytes q.quoted);
    behind = closes_tail rest c;
  }
  | inr k ↦ (let v = value_read bs s rest f c k in
      record {
        bytes = v.0.text;
        tail = spaces v.0.count ++ rest;
        whole = v.0.whole;
        scalar = subst (λ s. IsScalar (data_of s) v.0.text) v.0.scalar
            (plain_value v.0.text v.0.rules v.1);
        behind = tail_spaces v.0.count rest (closes_tail rest c);
      })
]

pub line_key : (bs : List ℕ) (s : Scalar) (r : List ℕ) → NoSpaceFront bs → is_merge s ≡ false
    → leading_scalar Line bs ≡ found s (58 ∷ r)
    → (bytes : List ℕ) × (bs ≡ bytes ++ 58 ∷ r) × IsKey s.text bytes
line_key bs s r f m h = elim (scalar_read Line bs s (58 ∷ r) h) [
  | inl q ↦ (q.bytes, q.whole, quoted_key s.text q.bytes q.quoted)
  | inr k ↦ (let v = key_read bs s r f k in
      (v.0, v.2, subst (λ s. IsKey s.text v.0) v.1 (plain_key v.0 v.3 (ap is_merge v.1 ∙ m))))
]

-- a scalar of a flow list, with spaces behind it
pub record Parted (bs : List ℕ) (d : Data) (rest : List ℕ) : Type 0 where
  pub bytes : List ℕ
  pub count : ℕ
  pub whole : bs ≡ bytes ++ (spaces count ++ rest)
  pub scalar : IsPart d bytes

pub flow_part : (bs : List ℕ) (s : Scalar) (rest : List ℕ) → NoSpaceFront bs
    → leading_scalar Flow bs ≡ found s rest → Parted bs (data_of s) rest
flow_part bs s rest f h = elim (scalar_read Flow bs s rest h) [
  | inl q ↦ record {
    bytes = q.bytes;
    count = zero;
    whole = q.whole;
    scalar = subst (λ d. IsPart d q.bytes) (sym (quoted_data s q.not_plain))
        (quoted_part s.text q.bytes q.quoted);
  }
  | inr k ↦ (let v = flow_read bs s rest f k in
      record {
        bytes = v.0.text;
        count = v.0.count;
        whole = v.0.whole;
        scalar = subst (λ s. IsPart (data_of s) v.0.text) v.0.scalar (plain_part v.0.text v.0.rules
            v.1 v.2);
      })
]

-- what is written is read

quoted_reads : (context : Context) (text bytes rest : List ℕ) → behind 39 rest ≡ None
    → IsQuoted text bytes
    → leading_scalar context (bytes ++ rest) ≡ found (record { text = text; plain = false }) rest
unfolding leading_scalar
quoted_reads context text bytes rest h (in_single t) =
    ap (λ l. quoted_scalar (single l)) (append_assoc (with_quotes_twice t) (39 ∷ []) rest)
    ∙ ap quoted_scalar (single_reads t rest h)
quoted_reads context text bytes rest h (in_double t w e) =
    ap (λ l. quoted_scalar (double l)) (append_assoc w (34 ∷ []) rest)
    ∙ ap quoted_scalar (double_reads t w rest e)

plain_reads_at : (context : Context) (text rest : List ℕ) → IsPlain text
    → leading_scalar context (text ++ rest) ≡ leading_plain context (text ++ rest)
unfolding leading_scalar plain_start
plain_reads_at context text rest p =
    let s = plain_start text p in
    let no_single = start_behind 39 text rest s (not_first p.first 39 refl p.no_indicator) in
    let no_double = start_behind 34 text rest s (not_first p.first 34 refl p.no_indicator) in
    ap (λ o. option_map_or (λ r. quoted_scalar (single r)) o
    (option_map_or (λ r. quoted_scalar (double r)) (behind 34 (text ++ rest))
    (leading_plain context (text ++ rest)))) no_single
    ∙ ap (λ o. option_map_or (λ r. quoted_scalar (double r)) o (leading_plain context (text ++ rest)))
    no_double

pub record IsRead (context : Context) (d : Data) (bs rest : List ℕ) : Type 0 where
  pub scalar : Scalar
  pub says : data_of scalar ≡ d
  pub reads : leading_scalar context bs ≡ found scalar rest

pub value_is_read : (tail : List ℕ) → IsTail tail → (d : Data) (bytes : List ℕ)
    → IsScalar d bytes
    → (rest : List ℕ) × IsRead Line d (bytes ++ tail) rest × (closes rest ≡ true)
value_is_read tail t d bytes (quoted_value text bs q) = (
  tail,
  record {
    scalar = record { text = text; plain = false };
    says = refl;
    reads =
        quoted_reads Line text bs tail (tail_no_byte 39 tail refl t) q;
  },
  tail_closes tail t,
)
value_is_read tail t d bytes (plain_value text p e) =
    let v = value_reads text tail p e t in (
      v.0,
      record {
        scalar = record { text = text; plain = true };
        says = refl;
        reads =
            plain_reads_at Line text tail p ∙ v.1;
      },
      v.2,
    )

pub record KeyReads (key bs r : List ℕ) : Type 0 where
  pub scalar : Scalar
  pub text : scalar.text ≡ key
  pub no_merge : is_merge scalar ≡ false
  pub reads : leading_scalar Line bs ≡ found scalar (58 ∷ r)

pub key_is_read : (r : List ℕ) → opens r ≡ true → (key bytes : List ℕ) → IsKey key bytes
    → KeyReads key (bytes ++ 58 ∷ r) r
key_is_read r o key bytes (quoted_key text bs q) = record {
  scalar = record { text = text; plain = false };
  text = refl;
  no_merge = refl;
  reads = quoted_reads Line text bs (58 ∷ r) refl q;
}
key_is_read r o key bytes (plain_key text p m) = record {
  scalar = record { text = text; plain = true };
  text = refl;
  no_merge = m;
  reads = plain_reads_at Line text (58 ∷ r) p ∙ key_reads text r p o;
}

spaces_no_quote : (n b : ℕ) (more : List ℕ) → (b == 39) ≡ false
    → behind 39 (spaces n ++ b ∷ more) ≡ None
spaces_no_quote zero b more h = ap (λ v. if v then Some more else None) h
spaces_no_quote (suc n) b more h = refl

sign_no_quote : (b : ℕ) (more : List ℕ) → stops FlowSign (b ∷ more) ≡ true → (b == 39) ≡ false
sign_no_quote b more h =
    none_of (b == 39) (λ t. clash (sym h ∙ ap (λ c. stops FlowSign (c ∷ more)) (is_byte b 39 t)))

pub part_is_read : (n b : ℕ) (more : List ℕ) → stops FlowSign (b ∷ more) ≡ true
    → (b == 32) ≡ false → (d : Data) (bytes : List ℕ) → IsPart d bytes
    → (rest : List ℕ) × IsRead Flow d (bytes ++ (spaces n ++ b ∷ more)) rest
    × (skip rest ≡ b ∷ more)
part_is_read n b more h k d bytes (quoted_part text bs q) = (
  spaces n ++ b ∷ more,
  record {
    scalar = record { text = text; plain = false };
    says = refl;
    reads =
        quoted_reads Flow text bs (spaces n ++ b ∷ more)
        (spaces_no_quote n b more (sign_no_quote b more h)) q;
  },
  skip_spaces n (b ∷ more) ∙ ap (λ v. if v then skip more else b ∷ more) k,
)
part_is_read n b more h k d bytes (plain_part text p e s) = (
  b ∷ more,
  record {
    scalar = record { text = text; plain = true };
    says = refl;
    reads =
        plain_reads_at Flow text (spaces n ++ b ∷ more) p ∙ flow_reads text n b more p e s h;
  },
  ap (λ v. if v then skip more else b ∷ more) k,
)
