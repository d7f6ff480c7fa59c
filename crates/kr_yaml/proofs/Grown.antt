-- What open nodes stand for grows with each token as the grammar says.
use Rattle.std.proofs.Common.{◌≡◌, ℕ, ◌<◌, ◌≤◌, max, Bool, true, false, List, [], ◌∷◌, ◌++◌, length}
use Rattle.std.proofs.Common.{Option, None, Some, refl, sym, ap, ◌∙◌, subst, arith, suc}
use Rattle.std.specs.Prelude.{if◌then◌else◌, ◌==◌, ◌||◌, nat_lt, unwrap_or}
use Rattle.std.proofs.lemmas.List.{append_assoc, length-append}
use Rattle.std.specs.List.{list_any}
use Rattle.std.specs.Str.{bytes_eq}
use Rattle.kr_yaml.specs.Data.{Data}
use Rattle.kr_yaml.specs.Lines.{Token, dash, pair, leaf}
use Rattle.kr_yaml.specs.Forms.{Shape, flat, both, deeper, with_keys, keys, repeats, IsNode}
use Rattle.kr_yaml.specs.Forms.{no_tokens, one_leaf, one_list, one_mapping, AreItems, no_items}
use Rattle.kr_yaml.specs.Forms.{one_more_item, AreMembers, no_members, one_more_member, IsValue}
use Rattle.kr_yaml.specs.Forms.{on_line, to_the_right, list_below}
use Rattle.kr_yaml.specs.inner.Standing.{Stands, empty, full, in_item, in_value, Holds, held, right}
use Rattle.kr_yaml.specs.inner.Standing.{below}
use Rattle.kr_yaml.specs.inner.Open.{Frame, items, members, State, token_column, is_dash_in_column, close}
use Rattle.kr_yaml.specs.inner.Open.{closed_value, first_state, next, under, put, doubles}
use Rattle.kr_yaml.specs.inner.Open.{is_repeated}

last_length : {X : Type 0} (xs : List X) (x : X) → 0 < length (xs ++ x ∷ [])
last_length xs x = omega (arith, length-append xs (x ∷ []))

pub keys_push : (ms : List (List ℕ × Data)) (k : List ℕ) (d : Data) → keys (ms ++ (k, d) ∷ [])
    ≡ keys ms ++ k ∷ []
keys_push [] k d = refl
keys_push (m ∷ ms) k d = ap (λ l. m.0 ∷ l) (keys_push ms k d)

mutual
  -- what stands in open nodes is a node
  pub stands_node : (low : ℕ) (ts : List Token) (fs : List Frame) (o : Option Data) (s : Shape)
      → Stands low ts fs o s → IsNode low ts (closed_value fs o) s
  stands_node low ts fs o s (empty l) = no_tokens low
  stands_node low ts fs o s (full l c d h) = one_leaf low c d h
  stands_node low ts fs o s (in_item l c us ws ds gs p m n h before rest) =
      one_list low c (us ++ dash c ∷ ws) (ds ++ closed_value gs p ∷ []) (both m n) h
      (last_length ds (closed_value gs p)) (one_more_item c us ws ds (closed_value gs p) m n
      before (stands_node (suc c) ws gs p n rest))
  stands_node low ts fs o s (in_value l c us ws ms k v gs p m n h before rest) =
      subst (λ ks. IsNode low (us ++ pair c k v ∷ ws) (close (members c ms k) (closed_value gs p))
      (with_keys ks (both m n))) (keys_push ms k (closed_value gs p))
      (one_mapping low c (us ++ pair c k v ∷ ws) (ms ++ (k, closed_value gs p) ∷ []) (both m n) h
      (last_length ms (k, closed_value gs p)) (one_more_member c us ws ms k v
      (closed_value gs p) m n before (holds_value c v ws gs p n rest)))

  pub holds_value : (c : ℕ) (v : Option Data) (ts : List Token) (fs : List Frame) (o : Option Data)
      (s : Shape) → Holds c v ts fs o s → IsValue c v ts (closed_value fs o) s
  holds_value c v ts fs o s (held b d) = on_line c d
  holds_value c v ts fs o s (right b ws gs p n rest) = to_the_right c ws (closed_value gs p) n
      (stands_node (suc c) ws gs p n rest)
  holds_value c v ts fs o s (below b vs ws ds gs p m n before rest) =
      list_below c (vs ++ dash c ∷ ws) (ds ++ closed_value gs p ∷ []) (both m n)
      (last_length ds (closed_value gs p)) (one_more_item c vs ws ds (closed_value gs p) m n
      before (stands_node (suc c) ws gs p n rest))

-- one shape has at least what the other has
pub record Within (s t : Shape) : Type 0 where
  pub levels : s.levels ≤ t.levels
  pub twice : s.twice ≡ true → t.twice ≡ true

-- a token more
pub record Grows (low : ℕ) (ts : List Token) (t : Token) (b : Bool) (s : Shape) (st : State) : Type
    0 where
  pub shape : Shape
  pub stands : Stands low (ts ++ t ∷ []) st.0 st.1 shape
  pub more : Within s shape
  pub levels : shape.levels ≤ max s.levels (length st.0)
  pub twice : s.twice ≡ false → shape.twice ≡ b

pub record HoldsMore (c : ℕ) (v : Option Data) (ts : List Token) (t : Token) (b : Bool) (s : Shape)
    (st : State) : Type 0 where
  pub shape : Shape
  pub holds : Holds c v (ts ++ t ∷ []) st.0 st.1 shape
  pub more : Within s shape
  pub levels : shape.levels ≤ max s.levels (length st.0)
  pub twice : s.twice ≡ false → shape.twice ≡ b

-- a token more in a list
pub record ItemMore (c : ℕ) (ts : List Token) (t : Token) (b : Bool) (s : Shape) (st : State) : Type
    0 where
  pub us : List Token
  pub ws : List Token
  pub ds : List Data
  pub gs : List Frame
  pub m : Shape
  pub n : Shape
  pub before : AreItems c us ds m
  pub rest : Stands (suc c) ws gs st.1 n
  pub tokens : us ++ dash c ∷ ws ≡ ts ++ t ∷ []
  pub frames : items c ds ∷ gs ≡ st.0
  pub more : Within s (deeper (both m n))
  pub levels : suc (max m.levels n.levels) ≤ max s.levels (length st.0)
  pub twice : s.twice ≡ false → (m.twice || n.twice) ≡ b

some_same : {X : Type 0} (x y : X) → Some x ≡ Some y → x ≡ y
some_same x y e = ap (λ o. unwrap_or o x) e

below_col : (c n : ℕ) → nat_lt c n ≡ true → suc c ≤ n
below_col c n e = grind arith

same_col : (b c : ℕ) → (b == c) ≡ true → c ≡ b
same_col b c e = grind arith

or_left : (v w : Bool) → (v || w) ≡ false → v ≡ false
or_left true w e = cc
or_left false w e = refl

or_right : (v w : Bool) → (v || w) ≡ false → w ≡ false
or_right true w e = cc
or_right false w e = e

or_of : (v w x : Bool) → v ≡ false → w ≡ x → (v || w) ≡ x
or_of v w x e f = ap (λ u. u || w) e ∙ f

or_none : (v : Bool) → (v || false) ≡ v
or_none true = refl
or_none false = refl

or_more : (x y : Bool) → y ≡ true → (x || y) ≡ true
or_more true y h = refl
or_more false y h = h

or_both : (v w x y : Bool) → (v ≡ true → x ≡ true) → (w ≡ true → y ≡ true) → (v || w) ≡ true
    → (x || y) ≡ true
or_both true w x y f g e = ap (λ u. u || y) (f refl)
or_both false w x y f g e = or_more x y (g e)

within_flat : (t : Shape) → Within flat t
within_flat t = record { levels = omega arith; twice = λ e. cc }

within_both : (m n g : Shape) → Within n g → Within (both m n) (both m g)
within_both m n g h = record {
  levels = (let l = h.levels in omega arith);
  twice =
      or_both m.twice n.twice m.twice g.twice (λ e. e) h.twice;
}

within_deeper : (s t : Shape) → Within s t → Within (deeper s) (deeper t)
within_deeper s t h = record { levels = (let l = h.levels in omega arith); twice = h.twice }

within_keys : (ks ls : List (List ℕ)) (s t : Shape) → (repeats ks ≡ true → repeats ls ≡ true)
    → Within s t → Within (with_keys ks s) (with_keys ls t)
within_keys ks ls s t f h = record {
  levels = (let l = h.levels in omega arith);
  twice =
      or_both (repeats ks) s.twice (repeats ls) t.twice f h.twice;
}

within_next : (s : Shape) → Within s (both s flat)
within_next s = record { levels = omega arith; twice = λ e. or_none s.twice ∙ e }

holds_none : (c : ℕ) (v : Option Data) → Holds c v [] [] v flat
holds_none c None = right c [] [] None flat (empty (suc c))
holds_none c (Some d) = held c d

begins : (low : ℕ) (t : Token) → low ≤ token_column t → Grows low [] t false flat (first_state t)
begins low (dash c) h = record {
  shape = deeper (both flat flat);
  stands = in_item low c [] [] [] []
      None flat flat h (no_items c) (empty (suc c));
  more = within_flat (deeper (both flat flat));
  levels = omega arith;
  twice = λ e. refl;
}
begins low (pair c k v) h = record {
  shape = with_keys (k ∷ []) (both flat flat);
  stands =
      in_value low c [] [] [] k v [] v flat flat h (no_members c) (holds_none c v);
  more =
      within_flat (with_keys (k ∷ []) (both flat flat));
  levels = omega arith;
  twice = λ e. refl;
}
begins low (leaf c d) h = record {
  shape = flat;
  stands = full low c d h;
  more =
      within_flat flat;
  levels = omega arith;
  twice = λ e. refl;
}

-- the same tokens, in brackets the other way
regroup : (us : List Token) (a : Token) (ws : List Token) (t : Token) → us ++ (a ∷ (ws ++ t ∷ []))
    ≡ (us ++ a ∷ ws) ++ t ∷ []
regroup us a ws t = sym (append_assoc us (a ∷ ws) (t ∷ []))

abbrev GrowsIn : ℕ → List Token → List Frame → Option Data → Shape → Type 0
GrowsIn low ts fs o s = (t : Token) → low ≤ token_column t → (st : State) → put t fs o ≡ Some st
    → Grows low ts t (doubles t fs) s st

item_inner : (c : ℕ) (us ws : List Token) (ds : List Data) (gs : List Frame) (p : Option Data)
    (m n : Shape) (t : Token) (b : Bool) (inner st : State) → AreItems c us ds m
    → Grows (suc c) ws t b n inner
    → (items c ds ∷ inner.0, inner.1) ≡ st → ItemMore c (us ++ dash c ∷ ws) t b (deeper (both m n))
    st
item_inner c us ws ds gs p m n t b inner st before g e =
    subst (ItemMore c (us ++ dash c ∷ ws) t b (deeper (both m n))) e
    (record {
      us = us;
      ws = ws ++ t ∷ [];
      ds = ds;
      gs = inner.0;
      m = m;
      n = g.shape;
      before = before;
      rest = g.stands;
      tokens = regroup us (dash c) ws t;
      frames = refl;
      more = within_deeper (both m n) (both m g.shape) (within_both m n g.shape g.more);
      levels = (let l = g.levels in omega arith);
      twice = λ q. or_of m.twice g.shape.twice b (or_left m.twice n.twice q)
          (g.twice (or_right m.twice n.twice q));
    })

item_under : (c : ℕ) (us ws : List Token) (ds : List Data) (gs : List Frame) (p : Option Data)
    (m n : Shape) (t : Token) (st : State) (r : Option State) → put t gs p ≡ r → AreItems c us ds m
    → GrowsIn (suc c) ws gs p n → suc c ≤ token_column t
    → under (items c ds) r ≡ Some st → ItemMore c (us ++ dash c ∷ ws) t (doubles t gs)
    (deeper (both m n)) st
item_under c us ws ds gs p m n t st None q before rest h e = cc
item_under c us ws ds gs p m n t st (Some inner) q before rest h e =
    item_inner c us ws ds gs p m n t (doubles t gs) inner st before (rest t h inner q)
    (some_same (items c ds ∷ inner.0, inner.1) st e)

item_next : (c b : ℕ) (us ws : List Token) (ds : List Data) (d : Data) (m n : Shape) (w : Bool)
    → (b == c) ≡ w → AreItems c us ds m → IsNode (suc c) ws d n → (st : State)
    → (if w then Some (items c (ds ++ d ∷ []) ∷ [], None) else None) ≡ Some st
    → ItemMore c (us ++ dash c ∷ ws) (dash b) false (deeper (both m n)) st
item_next c b us ws ds d m n true q before rest st e =
    subst (ItemMore c (us ++ dash c ∷ ws) (dash b) false (deeper (both m n)))
    (some_same (items c (ds ++ d ∷ []) ∷ [], None) st e)
    (record {
      us = us ++ dash c ∷ ws;
      ws = [];
      ds = ds ++ d ∷ [];
      gs = [];
      m = both m n;
      n = flat;
      before = one_more_item c us ws ds d m n before rest;
      rest = empty (suc c);
      tokens = ap (λ x. (us ++ dash c ∷ ws) ++ dash x ∷ []) (same_col b c q);
      frames = refl;
      more = within_deeper (both m n) (both (both m n) flat) (within_next (both m n));
      levels = omega arith;
      twice = λ q. or_none (m.twice || n.twice) ∙ q;
    })
item_next c b us ws ds d m n false q before rest st e = cc

item_grows : (c : ℕ) (us ws : List Token) (ds : List Data) (gs : List Frame) (p : Option Data)
    (m n : Shape) → AreItems c us ds m → IsNode (suc c) ws (closed_value gs p) n
    → GrowsIn (suc c) ws gs p n → (t : Token) (v : Bool) → nat_lt c (token_column t) ≡ v → (st : State)
    → (if v then under (items c ds) (put t gs p) else next t (items c ds) (closed_value gs p))
    ≡ Some st → ItemMore c (us ++ dash c ∷ ws) t (if v then doubles t gs else is_repeated t
    (items c ds)) (deeper (both m n)) st
item_grows c us ws ds gs p m n before node rest t true q st e = item_under c us ws ds gs p m n t st
    (put t gs p) refl before rest (below_col c (token_column t) q) e
item_grows c us ws ds gs p m n before node rest (dash b) false q st e = item_next c b us ws ds
    (closed_value gs p) m n (b == c) refl before node st e
item_grows c us ws ds gs p m n before node rest (pair b k v) false q st e = cc
item_grows c us ws ds gs p m n before node rest (leaf b d) false q st e = cc

abbrev HoldsIn : ℕ → Option Data → List Token → List Frame → Option Data → Shape → Type 0
HoldsIn c v ts fs o s = (t : Token) → (nat_lt c (token_column t) || is_dash_in_column c t) ≡ true
    → (st : State) → put t fs o ≡ Some st → HoldsMore c v ts t (doubles t fs) s st

member_inner : (low c : ℕ) (us ws : List Token) (ms : List (List ℕ × Data)) (k : List ℕ)
    (v : Option Data) (m n : Shape) (t : Token) (b : Bool) (inner st : State) → low ≤ c
    → AreMembers c us ms m → HoldsMore c v ws t b n inner
    → (members c ms k ∷ inner.0, inner.1) ≡ st
    → Grows low (us ++ pair c k v ∷ ws) t b (with_keys (keys ms ++ k ∷ []) (both m n)) st
member_inner low c us ws ms k v m n t b inner st h before g e =
    subst (Grows low (us ++ pair c k v ∷ ws) t b (with_keys (keys ms ++ k ∷ []) (both m n))) e
    (record {
      shape = with_keys (keys ms ++ k ∷ []) (both m g.shape);
      stands = subst (λ ts. Stands low ts (members c ms k ∷ inner.0) inner.1
          (with_keys (keys ms ++ k ∷ []) (both m g.shape))) (regroup us (pair c k v) ws t)
          (in_value low c us (ws ++ t ∷ []) ms k v inner.0 inner.1 m g.shape h before g.holds);
      more = within_keys (keys ms ++ k ∷ []) (keys ms ++ k ∷ []) (both m n) (both m g.shape)
          (λ e. e) (within_both m n g.shape g.more);
      levels = (let l = g.levels in omega arith);
      twice = λ q. let r = or_right (repeats (keys ms ++ k ∷ [])) (m.twice || n.twice) q in
          or_of (repeats (keys ms ++ k ∷ [])) (m.twice || g.shape.twice) b
          (or_left (repeats (keys ms ++ k ∷ [])) (m.twice || n.twice) q)
          (or_of m.twice g.shape.twice b (or_left m.twice n.twice r)
          (g.twice (or_right m.twice n.twice r)));
    })

member_under : (low c : ℕ) (us ws : List Token) (ms : List (List ℕ × Data)) (k : List ℕ)
    (v : Option Data) (gs : List Frame) (p : Option Data) (m n : Shape) (t : Token) (st : State)
    (r : Option State) → put t gs p ≡ r → low ≤ c → AreMembers c us ms m
    → HoldsIn c v ws gs p n → (nat_lt c (token_column t) || is_dash_in_column c t) ≡ true
    → under (members c ms k) r ≡ Some st
    → Grows low (us ++ pair c k v ∷ ws) t (doubles t gs) (with_keys (keys ms ++ k ∷ []) (both m n))
    st
member_under low c us ws ms k v gs p m n t st None q h before rest x e = cc
member_under low c us ws ms k v gs p m n t st (Some inner) q h before rest x e =
    member_inner low c us ws ms k v m n t (doubles t gs) inner st h before (rest t x inner q)
    (some_same (members c ms k ∷ inner.0, inner.1) st e)

or_assoc : (u v w : Bool) → (u || (v || w)) ≡ ((u || v) || w)
or_assoc true v w = refl
or_assoc false v w = refl

any_push : (l : List ℕ) (ks : List (List ℕ)) (k : List ℕ)
    → list_any (λ x. bytes_eq k x) (ks ++ l ∷ []) ≡ (list_any (λ x. bytes_eq k x) ks || bytes_eq k
    l)
any_push l [] k = or_none (bytes_eq k l)
any_push l (x ∷ ks) k = ap (λ u. bytes_eq k x || u) (any_push l ks k)
    ∙ or_assoc (bytes_eq k x) (list_any (λ x. bytes_eq k x) ks) (bytes_eq k l)

repeats_push : (ks : List (List ℕ)) (l : List ℕ) → repeats ks ≡ false → repeats (ks ++ l ∷ [])
    ≡ list_any (λ x. bytes_eq x l) ks
repeats_push [] l e = refl
repeats_push (k ∷ ks) l e =
    ap (λ u. u || repeats (ks ++ l ∷ [])) (any_push l ks k
    ∙ ap (λ u. u || bytes_eq k l) (or_left (list_any (λ x. bytes_eq k x) ks) (repeats ks) e))
    ∙ ap (λ u. bytes_eq k l || u) (repeats_push ks l (or_right (list_any (λ x. bytes_eq k x) ks)
    (repeats ks) e))

repeats_more : (ks : List (List ℕ)) (l : List ℕ) → repeats ks ≡ true → repeats (ks ++ l ∷ []) ≡ true
repeats_more [] l e = cc
repeats_more (k ∷ ks) l e =
    or_both (list_any (λ x. bytes_eq k x) ks) (repeats ks) (list_any (λ x. bytes_eq k x)
    (ks ++ l ∷ [])) (repeats (ks ++ l ∷ []))
    (λ h. any_push l ks k ∙ ap (λ u. u || bytes_eq k l) h) (repeats_more ks l) e

member_next : (low c b : ℕ) (us ws : List Token) (ms : List (List ℕ × Data)) (k l : List ℕ)
    (v x : Option Data) (d : Data) (m n : Shape) (w : Bool) → (b == c) ≡ w → low ≤ c
    → AreMembers c us ms m → IsValue c v ws d n → (st : State)
    → (if w then Some (members c (ms ++ (k, d) ∷ []) l ∷ [], x) else None) ≡ Some st
    → Grows low (us ++ pair c k v ∷ ws) (pair b l x) (list_any (λ y. bytes_eq y l)
    (keys ms ++ k ∷ [])) (with_keys (keys ms ++ k ∷ []) (both m n)) st
member_next low c b us ws ms k l v x d m n true q h before rest st e =
    subst (Grows low (us ++ pair c k v ∷ ws) (pair b l x) (list_any (λ y. bytes_eq y l)
    (keys ms ++ k ∷ [])) (with_keys (keys ms ++ k ∷ []) (both m n)))
    (some_same (members c (ms ++ (k, d) ∷ []) l ∷ [], x) st e)
    (record {
      shape = with_keys (keys (ms ++ (k, d) ∷ []) ++ l ∷ []) (both (both m n) flat);
      stands = subst (λ y. Stands low ((us ++ pair c k v ∷ ws) ++ pair y l x ∷ [])
          (members c (ms ++ (k, d) ∷ []) l ∷ []) x (with_keys (keys (ms ++ (k, d) ∷ []) ++ l ∷ [])
          (both (both m n) flat))) (same_col b c q)
          (in_value low c (us ++ pair c k v ∷ ws) [] (ms ++ (k, d) ∷ []) l x [] x (both m n) flat h
          (one_more_member c us ws ms k v d m n before rest) (holds_none c x));
      more = within_keys (keys ms ++ k ∷ []) (keys (ms ++ (k, d) ∷ []) ++ l ∷ []) (both m n)
          (both (both m n) flat)
          (λ e. ap (λ ks. repeats (ks ++ l ∷ [])) (keys_push ms k d)
          ∙ repeats_more (keys ms ++ k ∷ []) l e) (within_next (both m n));
      levels = omega arith;
      twice = λ q. ap (λ ks. repeats (ks ++ l ∷ []) || ((m.twice || n.twice) || false))
          (keys_push ms k d)
          ∙ ap (λ u. repeats ((keys ms ++ k ∷ []) ++ l ∷ []) || u) (or_none (m.twice || n.twice)
          ∙ or_right (repeats (keys ms ++ k ∷ [])) (m.twice || n.twice) q)
          ∙ or_none (repeats ((keys ms ++ k ∷ []) ++ l ∷ []))
          ∙ repeats_push (keys ms ++ k ∷ []) l (or_left (repeats (keys ms ++ k ∷ []))
          (m.twice || n.twice) q);
    })
member_next low c b us ws ms k l v x d m n false q h before rest st e = cc

member_grows : (low c : ℕ) (us ws : List Token) (ms : List (List ℕ × Data)) (k : List ℕ)
    (v : Option Data) (gs : List Frame) (p : Option Data) (m n : Shape) → low ≤ c
    → AreMembers c us ms m → IsValue c v ws (closed_value gs p) n → HoldsIn c v ws gs p n
    → (t : Token) (x : Bool) → (nat_lt c (token_column t) || is_dash_in_column c t) ≡ x → (st : State)
    → (if x then under (members c ms k) (put t gs p) else next t (members c ms k)
    (closed_value gs p)) ≡ Some st
    → Grows low (us ++ pair c k v ∷ ws) t (if x then doubles t gs else is_repeated t
    (members c ms k)) (with_keys (keys ms ++ k ∷ []) (both m n)) st
member_grows low c us ws ms k v gs p m n h before value rest t true q st e =
    member_under low c us ws ms k v gs p m n t st (put t gs p) refl h before rest q e
member_grows low c us ws ms k v gs p m n h before value rest (dash b) false q st e = cc
member_grows low c us ws ms k v gs p m n h before value rest (pair b l x) false q st e =
    member_next low c b us ws ms k l v x (closed_value gs p) m n (b == c) refl h before value st e
member_grows low c us ws ms k v gs p m n h before value rest (leaf b d) false q st e = cc

blocked_items : (c b : ℕ) (x y : Option State) → suc c ≤ b
    → (if nat_lt b c then x else (if c == b then y else None)) ≡ None
blocked_items c b x y h = grind arith

blocked_members : (c b : ℕ) (x : Option State) → suc c ≤ b
    → (if nat_lt b c || (c == b) then x else None) ≡ None
blocked_members c b x h = grind arith

-- a dash at a key's own column can only begin its value
dash_below : (low c : ℕ) (ws : List Token) (gs : List Frame) (p : Option Data) (n : Shape)
    → suc c ≤ low → Stands low ws gs p n → (st : State) → put (dash c) gs p ≡ Some st
    → HoldsMore c None ws (dash c) (doubles (dash c) gs) n st
dash_below low c ws gs p n h (empty l) st e =
    subst (HoldsMore c None [] (dash c) false flat) (some_same (items c [] ∷ [], None) st e)
    (record {
      shape = deeper (both flat flat);
      holds = below c [] [] [] [] None flat flat
          (no_items c) (empty (suc c));
      more = within_flat (deeper (both flat flat));
      levels =
          omega arith;
      twice = λ e. refl;
    })
dash_below low c ws gs p n h (full l b d k) st e = cc
dash_below low c ws gs p n h (in_item l b us vs ds hs q m r k before rest) st e =
    let z = blocked_items c b (under (items b ds) (put (dash c) hs q))
    (Some (items b (ds ++ closed_value hs q ∷ []) ∷ [], None)) (omega arith) in cc
dash_below low c ws gs p n h (in_value l b us vs ms key v hs q m r k before rest) st e =
    let z = blocked_members c b (under (members b ms key) (put (dash c) hs q)) (omega arith) in cc

right_grows : (c : ℕ) (ws : List Token) (gs : List Frame) (p : Option Data) (n : Shape)
    → Stands (suc c) ws gs p n → GrowsIn (suc c) ws gs p n → (t : Token) (x : Bool)
    → nat_lt c (token_column t) ≡ x → (x || is_dash_in_column c t) ≡ true → (st : State)
    → put t gs p ≡ Some st
    → HoldsMore c None ws t (doubles t gs) n st
right_grows c ws gs p n stands rest t true q h st e =
    let g = rest t (below_col c (token_column t) q) st e in
    record {
      shape = g.shape;
      holds = right c (ws ++ t ∷ []) st.0 st.1 g.shape g.stands;
      more =
          g.more;
      levels = g.levels;
      twice = g.twice;
    }
right_grows c ws gs p n stands rest (dash b) false q h st e =
    let same = same_col b c h in
    subst (λ y. HoldsMore c None ws (dash y) (doubles (dash y) gs) n st) same
    (dash_below (suc c) c ws gs p n (omega arith) stands st (ap (λ y. put (dash y) gs p) same
    ∙ e))
right_grows c ws gs p n stands rest (pair b k v) false q h st e = cc
right_grows c ws gs p n stands rest (leaf b d) false q h st e = cc

list_grows : (c : ℕ) (ts : List Token) (t : Token) (b : Bool) (s : Shape) (st : State)
    → ItemMore c ts t b s st → HoldsMore c None ts t b s st
list_grows c ts t b s st g = record {
  shape = deeper (both g.m g.n);
  holds = subst (λ us. Holds c None us st.0 st.1 (deeper (both g.m g.n))) g.tokens
      (subst (λ fs. Holds c None (g.us ++ dash c ∷ g.ws) fs st.1 (deeper (both g.m g.n))) g.frames
      (below c g.us g.ws g.ds g.gs st.1 g.m g.n g.before g.rest));
  more = g.more;
  levels = g.levels;
  twice = g.twice;
}

mutual
  pub grows : (low : ℕ) (ts : List Token) (fs : List Frame) (o : Option Data) (s : Shape)
      → Stands low ts fs o s → GrowsIn low ts fs o s
  grows low ts fs o s (empty l) = λ t h st e. subst (Grows low [] t false flat)
      (some_same (first_state t) st e) (begins low t h)
  grows low ts fs o s (full l c d k) = λ t h st e. cc
  grows low ts fs o s (in_item l c us ws ds gs p m n k before rest) = λ t h st e.
      let g = item_grows c us ws ds gs p m n before (stands_node (suc c) ws gs p n rest)
      (grows (suc c) ws gs p n rest) t (nat_lt c (token_column t)) refl st e in
      record {
        shape = deeper (both g.m g.n);
        stands = subst (λ us. Stands low us st.0 st.1 (deeper (both g.m g.n))) g.tokens
            (subst (λ fs. Stands low (g.us ++ dash c ∷ g.ws) fs st.1 (deeper (both g.m g.n)))
            g.frames (in_item low c g.us g.ws g.ds g.gs st.1 g.m g.n k g.before g.rest));
        more = g.more;
        levels = g.levels;
        twice = g.twice;
      }
  grows low ts fs o s (in_value l c us ws ms key v gs p m n k before rest) = λ t h st e.
      member_grows low c us ws ms key v gs p m n k before (holds_value c v ws gs p n rest)
      (holds_grow c v ws gs p n rest) t (nat_lt c (token_column t) || is_dash_in_column c t) refl st e

  pub holds_grow : (c : ℕ) (v : Option Data) (ts : List Token) (fs : List Frame) (o : Option Data)
      (s : Shape) → Holds c v ts fs o s → HoldsIn c v ts fs o s
  holds_grow c v ts fs o s (held b d) = λ t h st e. cc
  holds_grow c v ts fs o s (right b ws gs p n rest) = λ t h st e. right_grows c ws gs p n rest
      (grows (suc c) ws gs p n rest) t (nat_lt c (token_column t)) refl h st e
  holds_grow c v ts fs o s (below b vs ws ds gs p m n before rest) = λ t h st e.
      list_grows c (vs ++ dash c ∷ ws) t (doubles t (items c ds ∷ gs)) (deeper (both m n)) st
      (item_grows c vs ws ds gs p m n before (stands_node (suc c) ws gs p n rest)
      (grows (suc c) ws gs p n rest) t (nat_lt c (token_column t)) refl st e)

mutual
  -- open nodes are levels
  pub frames_levels : (low : ℕ) (ts : List Token) (fs : List Frame) (o : Option Data) (s : Shape)
      → Stands low ts fs o s → length fs ≤ s.levels
  frames_levels low ts fs o s (empty l) = omega arith
  frames_levels low ts fs o s (full l c d h) = omega arith
  frames_levels low ts fs o s (in_item l c us ws ds gs p m n h before rest) = let k =
      frames_levels (suc c) ws gs p n rest in omega arith
  frames_levels low ts fs o s (in_value l c us ws ms key v gs p m n h before rest) = let k =
      holds_levels c v ws gs p n rest in omega arith

  holds_levels : (c : ℕ) (v : Option Data) (ts : List Token) (fs : List Frame) (o : Option Data)
      (s : Shape) → Holds c v ts fs o s → length fs ≤ s.levels
  holds_levels c v ts fs o s (held b d) = omega arith
  holds_levels c v ts fs o s (right b ws gs p n rest) = frames_levels (suc c) ws gs p n rest
  holds_levels c v ts fs o s (below b vs ws ds gs p m n before rest) = let k =
      frames_levels (suc c) ws gs p n rest in omega arith
