-- Contents are read as they are written.
use Rattle.std.proofs.Common.{◌≡◌, ◌≢◌, ℕ, Bool, true, false, List, [], ◌∷◌, ◌++◌, Option, None}
use Rattle.std.proofs.Common.{Some, refl, sym, ap, ◌∙◌, subst, suc}
use Rattle.std.specs.Prelude.{if◌then◌else◌, ◌==◌}
use Rattle.std.specs.Option.{option_map, option_map_or}
use Rattle.std.proofs.lemmas.List.{append_assoc}
use Rattle.kr_yaml.specs.Bytes.{behind, skip, spaces, over}
use Rattle.kr_yaml.specs.Data.{Data, list, mapping, items_of, members_of}
use Rattle.kr_yaml.specs.Written.{IsKey}
use Rattle.kr_yaml.specs.Lines.{Token, pair, leaf, IsTail, IsLeaf, scalar, empty_list, flow_list}
use Rattle.kr_yaml.specs.Lines.{empty_mapping, AreContentTokens, empty_member, member, value}
use Rattle.kr_yaml.specs.inner.Stops.{opens, closes}
use Rattle.kr_yaml.specs.inner.ScalarReading.{leading_scalar, data_of, is_merge}
use Rattle.kr_yaml.specs.inner.LineReading.{flow_list as read_list, alone, list_alone}
use Rattle.kr_yaml.specs.inner.LineReading.{mapping_alone, scalar_alone, leaf_value, key_value}
use Rattle.kr_yaml.specs.inner.LineReading.{member_token, key_token, scalar_or_key, content_token}
use Rattle.kr_yaml.specs.declared.scalar.Scalar.{Scalar}
use Rattle.kr_yaml.specs.declared.scalar.Context.TheVariants.{Line}
use Rattle.kr_yaml.proofs.Behind.{is_byte}
use Rattle.kr_yaml.proofs.Quotes.{behind_cons}
use Rattle.kr_yaml.proofs.Spaces.{clash, NoSpaceFront, skip_spaces, skip_is, skip_front}
use Rattle.kr_yaml.proofs.Spaces.{tail_closes, tail_opens, closes_tail, over_closes, closes_over}
use Rattle.kr_yaml.proofs.ScalarRead.{Start, key_start, scalar_start, start_behind, other_first}
use Rattle.kr_yaml.proofs.ScalarRead.{found, line_value, line_key, IsRead, value_is_read}
use Rattle.kr_yaml.proofs.ScalarRead.{key_is_read}
use Rattle.kr_yaml.proofs.FlowRead.{FlowSplit, found_list, no_part, parts, flow_is, flow_makes}

-- a scalar or a flow value, and its tail
pub record Leaf (bs : List ℕ) (d : Data) : Type 0 where
  pub bytes : List ℕ
  pub tail : List ℕ
  pub whole : bs ≡ bytes ++ tail
  pub leaf : IsLeaf d bytes
  pub behind : IsTail tail

some_same : {X : Type 0} (x y : X) → Some x ≡ Some y → x ≡ y
some_same x y h = ap (λ o. option_map_or (λ z. z) o x) h

list_leaf : (r : List ℕ) (d : Data) (rest : List ℕ) → closes rest ≡ true → FlowSplit r d rest
    → Leaf (91 ∷ r) d
list_leaf r d rest c (no_part more) = record {
  bytes = 91 ∷ (93 ∷ []);
  tail = more;
  whole = refl;
  leaf = empty_list;
  behind = closes_tail more c;
}
list_leaf r d rest c (parts ds bytes more p) = record {
  bytes = 91 ∷ (bytes ++ 93 ∷ []);
  tail = more;
  whole = ap (λ l. 91 ∷ l) (sym (append_assoc bytes (93 ∷ []) more));
  leaf = flow_list ds bytes p;
  behind = closes_tail more c;
}

list_alone_by : (r : List ℕ) (d : Data) (x : Data × List ℕ) (v : Bool) → closes x.1 ≡ v
    → FlowSplit r x.0 x.1 → (if v then Some x.0 else None) ≡ Some d → Leaf (91 ∷ r) d
list_alone_by r d x true c f h =
    subst (Leaf (91 ∷ r)) (some_same x.0 d h) (list_leaf r x.0 x.1 c f)
list_alone_by r d x false c f h = absurd cc

list_by : (r : List ℕ) (d : Data) (o : Option (Data × List ℕ)) → read_list r ≡ o
    → option_map_or alone o None ≡ Some d → Leaf (91 ∷ r) d
list_by r d None e h = absurd cc
list_by r d (Some x) e h = list_alone_by r d x (closes x.1) refl (flow_is r x.0 x.1 e) h

list_read : (r : List ℕ) (d : Data) → list_alone r ≡ Some d → Leaf (91 ∷ r) d
list_read r d h = list_by r d (read_list r) refl h

mapping_end : (r rest : List ℕ) (d : Data) (v : Bool) → r ≡ 125 ∷ rest → closes rest ≡ v
    → (if v then Some (mapping (members_of [])) else None) ≡ Some d → Leaf (123 ∷ r) d
mapping_end r rest d true e c h =
    subst (Leaf (123 ∷ r)) (some_same (mapping (members_of [])) d h)
    (record {
      bytes = 123 ∷ (125 ∷ []);
      tail = rest;
      whole = ap (λ l. 123 ∷ l) e;
      leaf =
          empty_mapping;
      behind = closes_tail rest c;
    })
mapping_end r rest d false e c h = absurd cc

abbrev empty_with : List ℕ → Data × List ℕ
empty_with rest = (mapping (members_of []), rest)

mapping_by : (r : List ℕ) (d : Data) (o : Option (List ℕ)) → o ≡ behind 125 r
    → option_map_or alone (option_map empty_with o) None ≡ Some d
    → Leaf (123 ∷ r) d
mapping_by r d None e h = absurd cc
mapping_by r d (Some rest) e h =
    mapping_end r rest d (closes rest) (behind_cons 125 r rest e) refl h

mapping_read : (r : List ℕ) (d : Data) → mapping_alone r ≡ Some d → Leaf (123 ∷ r) d
mapping_read r d h = mapping_by r d (behind 125 r) refl h

scalar_leaf : (bs : List ℕ) (s : Scalar) (rest : List ℕ) → NoSpaceFront bs
    → leading_scalar Line bs ≡ found s rest → closes rest ≡ true → Leaf bs (data_of s)
scalar_leaf bs s rest f e c =
    let v = line_value bs s rest f c e in
    record {
      bytes = v.bytes;
      tail = v.tail;
      whole = v.whole;
      leaf = scalar (data_of s) v.bytes v.scalar;
      behind = v.behind;
    }

scalar_end : (bs : List ℕ) (d : Data) (x : Scalar × List ℕ) (v : Bool) → NoSpaceFront bs
    → leading_scalar Line bs ≡ found x.0 x.1 → closes x.1 ≡ v
    → (if v then Some (data_of x.0) else None) ≡ Some d → Leaf bs d
scalar_end bs d x true f e c h =
    subst (Leaf bs) (some_same (data_of x.0) d h) (scalar_leaf bs x.0 x.1 f e c)
scalar_end bs d x false f e c h = absurd cc

leaf_by : (bs : List ℕ) (d : Data) (o p : Option (List ℕ)) (q : Option (Scalar × List ℕ))
    → NoSpaceFront bs → o ≡ behind 91 bs → p ≡ behind 123 bs → leading_scalar Line bs ≡ q
    → option_map_or list_alone o (option_map_or mapping_alone p (option_map_or scalar_alone q None))
    ≡ Some d → Leaf bs d
leaf_by bs d (Some r) p q f e g k h =
    subst (λ l. Leaf l d) (sym (behind_cons 91 bs r e)) (list_read r d h)
leaf_by bs d None (Some r) q f e g k h =
    subst (λ l. Leaf l d) (sym (behind_cons 123 bs r g)) (mapping_read r d h)
leaf_by bs d None None (Some x) f e g k h = scalar_end bs d x (closes x.1) f k refl h
leaf_by bs d None None None f e g k h = absurd cc

leaf_read : (bs : List ℕ) (d : Data) → NoSpaceFront bs → leaf_value bs ≡ Some d → Leaf bs d
unfolding leaf_value
leaf_read bs d f h =
    leaf_by bs d (behind 91 bs) (behind 123 bs) (leading_scalar Line bs) f refl refl refl h

-- a content without a dash, and its tail
pub record Content (c : ℕ) (bs : List ℕ) (t : Token) : Type 0 where
  pub bytes : List ℕ
  pub tail : List ℕ
  pub whole : bs ≡ bytes ++ tail
  pub content : AreContentTokens c bytes (t ∷ [])
  pub behind : IsTail tail

-- no dash begins an item
abbrev pub NoItem : List ℕ → Type 0
NoItem bs = (rest : List ℕ) → bs ≡ 45 ∷ rest → opens rest ≡ false

leaf_content : (c : ℕ) (bs : List ℕ) (d : Data) (t : Token) → NoItem bs → Leaf bs d
    → leaf c d ≡ t → Content c bs t
leaf_content c bs d t n l e =
    subst (Content c bs) e
    (record {
      bytes = l.bytes;
      tail = l.tail;
      whole = l.whole;
      content = value c d l.bytes l.leaf (λ k. clash (sym (tail_opens l.tail l.behind)
          ∙ n l.tail (l.whole ∙ ap (λ m. m ++ l.tail) k)));
      behind = l.behind;
    })

leaf_content_by : (c : ℕ) (bs : List ℕ) (t : Token) (o : Option Data) → NoItem bs
    → ((d : Data) → o ≡ Some d → Leaf bs d) → option_map (leaf c) o ≡ Some t → Content c bs t
leaf_content_by c bs t None n l h = absurd cc
leaf_content_by c bs t (Some d) n l h =
    leaf_content c bs d t n (l d refl) (some_same (leaf c d) t h)

empty_content : (c : ℕ) (bs bytes key r : List ℕ) → bs ≡ bytes ++ 58 ∷ r → IsKey key bytes
    → IsTail r → Content c bs (pair c key None)
empty_content c bs bytes key r e k t = record {
  bytes = bytes ++ 58 ∷ [];
  tail = r;
  whole = e ∙ sym (append_assoc bytes (58 ∷ []) r);
  content = empty_member c key bytes k;
  behind = t;
}

moved : (a b c d : List ℕ) → a ++ 58 ∷ (b ++ (c ++ d)) ≡ (a ++ 58 ∷ (b ++ c)) ++ d
moved a b c d =
    ap (λ l. a ++ 58 ∷ l) (sym (append_assoc b c d)) ∙ sym (append_assoc a (58 ∷ (b ++ c)) d)

member_content : (c : ℕ) (bs bytes key r : List ℕ) (d : Data) (n : ℕ) → bs ≡ bytes ++ 58 ∷ r
    → IsKey key bytes → (l : List ℕ) → r ≡ spaces (suc n) ++ l → Leaf l d
    → Content c bs (pair c key (Some d))
member_content c bs bytes key r d n e k l s v = record {
  bytes = bytes ++ 58 ∷ (spaces (suc n) ++ v.bytes);
  tail = v.tail;
  whole = e ∙ ap (λ m. bytes ++ 58 ∷ m) (s ∙ ap (λ m. spaces (suc n) ++ m) v.whole)
      ∙ moved bytes (spaces (suc n)) v.bytes v.tail;
  content = member c n key bytes d v.bytes k v.leaf;
  behind = v.behind;
}

-- what opens and isn't over begins with a space
more_at : (b : ℕ) (r : List ℕ) → (b == 32) ≡ true → (n : ℕ) × (r ≡ spaces n ++ skip r)
    → (n : ℕ) × (b ∷ r ≡ spaces (suc n) ++ (if b == 32 then skip r else b ∷ r))
more_at b r o s = (
  s.0,
  ap (λ c. c ∷ r) (is_byte b 32 o) ∙ ap (λ l. 32 ∷ l) s.1
      ∙ ap (λ v. spaces (suc s.0) ++ (if v then skip r else b ∷ r)) (sym o),
)

more_spaces : (r : List ℕ) → opens r ≡ true → over (skip r) ≡ false
    → (n : ℕ) × (r ≡ spaces (suc n) ++ skip r)
more_spaces [] o h = absurd (clash h)
more_spaces (b ∷ r) o h = more_at b r o (skip_is r)

value_by : (c : ℕ) (bs bytes key r : List ℕ) (t : Token) (w : Bool) (o : Option Data)
    → bs ≡ bytes ++ 58 ∷ r → IsKey key bytes → opens r ≡ true → over (skip r) ≡ w
    → leaf_value (skip r) ≡ o
    → option_map (λ v. pair c key v) (if w then Some None else option_map (λ d. Some d) o) ≡ Some t
    → Content c bs t
value_by c bs bytes key r t true o e k p w l h =
    subst (Content c bs) (some_same (pair c key None) t h)
    (empty_content c bs bytes key r e k (closes_tail r (over_closes r p w)))
value_by c bs bytes key r t false (Some d) e k p w l h =
    let s = more_spaces r p w in
    subst (Content c bs) (some_same (pair c key (Some d)) t h)
    (member_content c bs bytes key r d s.0 e k (skip r) s.1 (leaf_read (skip r) d (skip_front r) l))
value_by c bs bytes key r t false None e k p w l h = absurd cc

value_read_at : (c : ℕ) (bs bytes key r : List ℕ) (t : Token) → bs ≡ bytes ++ 58 ∷ r
    → IsKey key bytes → opens r ≡ true
    → option_map (λ v. pair c key v) (key_value r) ≡ Some t → Content c bs t
unfolding key_value
value_read_at c bs bytes key r t e k p h =
    value_by c bs bytes key r t (over (skip r)) (leaf_value (skip r)) e k p refl refl h

key_opens : (c : ℕ) (bs r : List ℕ) (s : Scalar) (t : Token) (v : Bool) → NoSpaceFront bs
    → leading_scalar Line bs ≡ found s (58 ∷ r) → is_merge s ≡ false → opens r ≡ v
    → (if v then option_map (λ x. pair c s.text x) (key_value r) else None) ≡ Some t
    → Content c bs t
key_opens c bs r s t true f e m o h =
    let k = line_key bs s r f m e in
    value_read_at c bs k.0 s.text r t k.1 k.2 o h
key_opens c bs r s t false f e m o h = absurd cc

key_by : (c : ℕ) (bs r : List ℕ) (s : Scalar) (t : Token) (v : Bool) → NoSpaceFront bs
    → leading_scalar Line bs ≡ found s (58 ∷ r) → is_merge s ≡ v
    → (if v then None else member_token c s.text r) ≡ Some t → Content c bs t
key_by c bs r s t true f e m h = absurd cc
key_by c bs r s t false f e m h = key_opens c bs r s t (opens r) f e m refl h

colon_by : (c : ℕ) (bs : List ℕ) (x : Scalar × List ℕ) (t : Token) (o : Option (List ℕ))
    → NoSpaceFront bs → leading_scalar Line bs ≡ found x.0 x.1 → o ≡ behind 58 x.1
    → option_map_or (λ rest. key_token c x.0 rest) o None ≡ Some t → Content c bs t
colon_by c bs x t None f e k h = absurd cc
colon_by c bs x t (Some r) f e k h =
    key_by c bs r x.0 t (is_merge x.0) f (e ∙ ap (λ l. found x.0 l) (behind_cons 58 x.1 r k)) refl h

scalar_content : (c : ℕ) (bs : List ℕ) (x : Scalar × List ℕ) (t : Token) (v : Bool)
    → NoSpaceFront bs → NoItem bs → leading_scalar Line bs ≡ found x.0 x.1 → closes x.1 ≡ v
    → (if v then Some (leaf c (data_of x.0)) else option_map_or (λ rest. key_token c x.0 rest)
    (behind 58 x.1) None)
    ≡ Some t → Content c bs t
scalar_content c bs x t true f n e k h =
    leaf_content c bs (data_of x.0) t n (scalar_leaf bs x.0 x.1 f e k)
    (some_same (leaf c (data_of x.0)) t h)
scalar_content c bs x t false f n e k h = colon_by c bs x t (behind 58 x.1) f e refl h

content_by : (c : ℕ) (bs : List ℕ) (t : Token) (o p : Option (List ℕ))
    (q : Option (Scalar × List ℕ)) → NoSpaceFront bs → NoItem bs → o ≡ behind 91 bs
    → p ≡ behind 123 bs → leading_scalar Line bs ≡ q
    → option_map_or (λ rest. option_map (leaf c) (list_alone rest)) o
    (option_map_or (λ rest. option_map (leaf c) (mapping_alone rest)) p
    (option_map_or (scalar_or_key c) q None)) ≡ Some t → Content c bs t
content_by c bs t (Some r) p q f n e g k h =
    leaf_content_by c bs t (list_alone r) n (λ d l. subst (λ m. Leaf m d)
    (sym (behind_cons 91 bs r e)) (list_read r d l)) h
content_by c bs t None (Some r) q f n e g k h =
    leaf_content_by c bs t (mapping_alone r) n (λ d l. subst (λ m. Leaf m d)
    (sym (behind_cons 123 bs r g)) (mapping_read r d l)) h
content_by c bs t None None (Some x) f n e g k h = scalar_content c bs x t (closes x.1) f n k refl h
content_by c bs t None None None f n e g k h = absurd cc

pub content_read : (c : ℕ) (bs : List ℕ) (t : Token) → NoSpaceFront bs → NoItem bs
    → content_token c bs ≡ Some t → Content c bs t
unfolding content_token
content_read c bs t f n h =
    content_by c bs t (behind 91 bs) (behind 123 bs) (leading_scalar Line bs) f n refl refl refl h

-- what is written is read

list_makes : (bs tail : List ℕ) (d : Data) → read_list bs ≡ found_list d tail → IsTail tail
    → list_alone bs ≡ Some d
list_makes bs tail d e t =
    ap (λ o. option_map_or alone o None) e
    ∙ ap (λ v. if v then Some d else None) (tail_closes tail t)

empty_list_makes : (tail : List ℕ) → read_list (93 ∷ tail) ≡ found_list (list (items_of [])) tail
unfolding read_list
empty_list_makes tail = refl

leaf_makes : (tail : List ℕ) → IsTail tail → (d : Data) (bytes : List ℕ) → IsLeaf d bytes
    → leaf_value (bytes ++ tail) ≡ Some d
unfolding leaf_value
leaf_makes tail t d bytes (scalar e bs s) = by (value_is_read tail t e bs s) (scalar_start e bs s)
  where
    by : (rest : List ℕ) × IsRead Line e (bs ++ tail) rest × (closes rest ≡ true) → Start bs
        → leaf_value (bs ++ tail) ≡ Some e
    by v st =
        ap (λ o. option_map_or list_alone o (option_map_or mapping_alone (behind 123 (bs ++ tail))
        (option_map_or scalar_alone (leading_scalar Line (bs ++ tail)) None)))
        (start_behind 91 bs tail st st.no_list)
        ∙ ap (λ o. option_map_or mapping_alone o (option_map_or scalar_alone
        (leading_scalar Line (bs ++ tail)) None)) (start_behind 123 bs tail st st.no_mapping)
        ∙ ap (λ o. option_map_or scalar_alone o None) v.1.reads
        ∙ ap (λ w. if w then Some (data_of v.1.scalar) else None) v.2
        ∙ ap (λ y. Some y) v.1.says
leaf_makes tail t d bytes empty_list = list_makes (93 ∷ tail) tail (list (items_of []))
    (empty_list_makes tail) t
leaf_makes tail t d bytes (flow_list ds bs p) =
    ap list_alone (append_assoc bs (93 ∷ []) tail)
    ∙ list_makes (bs ++ 93 ∷ tail) tail (list (items_of ds)) (flow_makes ds bs tail p) t
leaf_makes tail t d bytes empty_mapping =
    ap (λ v. if v then Some (mapping (members_of [])) else None) (tail_closes tail t)

-- the same as a content

abbrev leaf_or_key : ℕ → Option (List ℕ) → Option (List ℕ) → Option (Scalar × List ℕ)
    → Option Token
leaf_or_key c o p q =
    option_map_or (λ rest. option_map (leaf c) (list_alone rest)) o
    (option_map_or (λ rest. option_map (leaf c) (mapping_alone rest)) p
    (option_map_or (scalar_or_key c) q None))

same_end : (c : ℕ) (x : Scalar × List ℕ) (d : Data) (v : Bool) (other : Option Token)
    → (if v then Some (data_of x.0) else None) ≡ Some d
    → (if v then Some (leaf c (data_of x.0)) else other) ≡ Some (leaf c d)
same_end c x d true other h = ap (λ o. option_map (leaf c) o) h
same_end c x d false other h = absurd cc

same_leaf : (c : ℕ) (d : Data) (o p : Option (List ℕ)) (q : Option (Scalar × List ℕ))
    → option_map_or list_alone o (option_map_or mapping_alone p (option_map_or scalar_alone q None))
    ≡ Some d → leaf_or_key c o p q ≡ Some (leaf c d)
same_leaf c d (Some r) p q h = ap (option_map (leaf c)) h
same_leaf c d None (Some r) q h = ap (option_map (leaf c)) h
same_leaf c d None None (Some x) h = same_end c x d (closes x.1)
    (option_map_or (λ rest. key_token c x.0 rest) (behind 58 x.1) None) h
same_leaf c d None None None h = absurd cc

content_of_leaf : (c : ℕ) (bs : List ℕ) (d : Data) → leaf_value bs ≡ Some d
    → content_token c bs ≡ Some (leaf c d)
unfolding leaf_value content_token
content_of_leaf c bs d h = same_leaf c d (behind 91 bs) (behind 123 bs) (leading_scalar Line bs) h

pub leaf_is_read : (c : ℕ) (tail : List ℕ) → IsTail tail → (d : Data) (bytes : List ℕ)
    → IsLeaf d bytes → content_token c (bytes ++ tail) ≡ Some (leaf c d)
leaf_is_read c tail t d bytes l =
    content_of_leaf c (bytes ++ tail) d (leaf_makes tail t d bytes l)

value_none : (r : List ℕ) → closes r ≡ true → key_value r ≡ Some None
unfolding key_value
value_none r c =
    ap (λ v. if v then Some None else option_map (λ d. Some d) (leaf_value (skip r))) (closes_over r c)

value_some : (r l : List ℕ) (d : Data) → skip r ≡ l → over l ≡ false → leaf_value l ≡ Some d
    → key_value r ≡ Some (Some d)
unfolding key_value
value_some r l d e o h =
    ap (λ m. if over m then Some None else option_map (λ d. Some d) (leaf_value m)) e
    ∙ ap (λ v. if v then Some None else option_map (λ d. Some d) (leaf_value l)) o
    ∙ ap (λ o. option_map (λ d. Some d) o) h

key_makes : (c : ℕ) (key bytes r : List ℕ) (v : Option Data) → IsKey key bytes → opens r ≡ true
    → key_value r ≡ Some v → content_token c (bytes ++ 58 ∷ r) ≡ Some (pair c key v)
unfolding content_token
key_makes c key bytes r v k o h =
    let s = key_start key bytes k in
    let x = key_is_read r o key bytes k in
    let bs = bytes ++ 58 ∷ r in
    ap (λ y. leaf_or_key c y (behind 123 bs) (leading_scalar Line bs)) (start_behind 91 bytes (58 ∷ r) s
    s.no_list)
    ∙ ap (λ y. leaf_or_key c None y (leading_scalar Line bs)) (start_behind 123 bytes (58 ∷ r) s
    s.no_mapping)
    ∙ ap (λ y. leaf_or_key c None None y) x.reads
    ∙ ap (λ w. if w then None else member_token c x.scalar.text r) x.no_merge
    ∙ ap (λ w. if w then option_map (λ y. pair c x.scalar.text y) (key_value r) else None) o
    ∙ ap (λ y. option_map (λ z. pair c x.scalar.text z) y) h
    ∙ ap (λ l. Some (pair c l v)) x.text

pub empty_is_read : (c : ℕ) (tail : List ℕ) → IsTail tail → (key bytes : List ℕ)
    → IsKey key bytes → content_token c (bytes ++ 58 ∷ tail) ≡ Some (pair c key None)
empty_is_read c tail t key bytes k =
    key_makes c key bytes tail None k (tail_opens tail t) (value_none tail (tail_closes tail t))

-- how a scalar or a flow value begins
pub record LeafStart (bytes : List ℕ) : Type 0 where
  pub first : ℕ
  pub more : List ℕ
  pub begins : bytes ≡ first ∷ more
  pub no_space : (first == 32) ≡ false
  pub no_hash : (first == 35) ≡ false
  pub no_item : (rest : List ℕ) → bytes ≢ 45 ∷ (32 ∷ rest)

pub leaf_begins : (bytes : List ℕ) → Start bytes → LeafStart bytes
leaf_begins bytes s = record {
  first = s.first;
  more = s.more;
  begins = s.begins;
  no_space =
      s.no_space;
  no_hash = s.no_hash;
  no_item = s.no_item;
}

leaf_from : (c : ℕ) (more : List ℕ) → (c == 32) ≡ false → (c == 35) ≡ false → (c == 45) ≡ false
    → LeafStart (c ∷ more)
leaf_from c more space hash item = record {
  first = c;
  more = more;
  begins = refl;
  no_space = space;
  no_hash = hash;
  no_item = λ rest. other_first c more (32 ∷ rest) item;
}

pub leaf_start : (d : Data) (bytes : List ℕ) → IsLeaf d bytes → LeafStart bytes
leaf_start d bytes (scalar e bs s) = leaf_begins bs (scalar_start e bs s)
leaf_start d bytes empty_list = leaf_from 91 (93 ∷ []) refl refl refl
leaf_start d bytes (flow_list ds bs p) = leaf_from 91 (bs ++ 93 ∷ []) refl refl refl
leaf_start d bytes empty_mapping = leaf_from 123 (125 ∷ []) refl refl refl

skip_leaf : (bytes rest : List ℕ) → LeafStart bytes → skip (bytes ++ rest) ≡ bytes ++ rest
skip_leaf bytes rest s =
    ap (λ l. skip (l ++ rest)) s.begins
    ∙ ap (λ v. if v then skip (s.more ++ rest) else s.first ∷ (s.more ++ rest)) s.no_space
    ∙ ap (λ l. l ++ rest) (sym s.begins)

pub member_is_read : (c n : ℕ) (tail : List ℕ) → IsTail tail → (key bytes : List ℕ) (d : Data)
    (more : List ℕ) → IsKey key bytes → IsLeaf d more
    → content_token c (bytes ++ 58 ∷ (spaces (suc n) ++ (more ++ tail))) ≡ Some (pair c key (Some d))
member_is_read c n tail t key bytes d more k l =
    let s = leaf_start d more l in
    let rest = more ++ tail in
    key_makes c key bytes (spaces (suc n) ++ rest) (Some d) k refl
    (value_some (spaces (suc n) ++ rest) rest d (skip_spaces n rest ∙ skip_leaf more tail s)
    (ap (λ l. over (l ++ tail)) s.begins ∙ s.no_hash) (leaf_makes tail t d more l))
