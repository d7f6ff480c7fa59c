-- Tokens that form a tree are put one after the other, and the open nodes then hold that tree.
use Rattle.std.proofs.Common.{◌≡◌, ℕ, ◌<◌, ◌≤◌, Bool, true, false, List, [], ◌∷◌, ◌++◌, length}
use Rattle.std.proofs.Common.{Option, None, Some, refl, sym, ap, ◌∙◌, arith, suc}
use Rattle.std.specs.Prelude.{if◌then◌else◌, ◌==◌, ◌||◌, nat_lt, option_and_then, unwrap_or}
use Rattle.std.proofs.lemmas.List.{append_assoc}
use Rattle.kr_yaml.specs.Data.{Data, list, mapping, items_of, members_of}
use Rattle.kr_yaml.specs.Lines.{Token, dash, pair}
use Rattle.kr_yaml.specs.Forms.{Shape, IsNode, no_tokens, one_leaf, one_list, one_mapping, AreItems}
use Rattle.kr_yaml.specs.Forms.{no_items, one_more_item, AreMembers, no_members, one_more_member}
use Rattle.kr_yaml.specs.Forms.{IsValue, on_line, to_the_right, list_below}
use Rattle.kr_yaml.specs.inner.Open.{Frame, items, members, State, token_column, is_dash_in_column, belongs_to_node}
use Rattle.kr_yaml.specs.inner.Open.{closed_value, next, under, put, run}

append_at : (xs ys : List Token) (o : Option State)
    → ((st : State) → run (xs ++ ys) st ≡ option_and_then (run ys) (run xs st))
    → option_and_then (run (xs ++ ys)) o ≡ option_and_then (run ys) (option_and_then (run xs) o)
append_at xs ys None h = refl
append_at xs ys (Some st) h = h st

pub run_append : (xs ys : List Token) (st : State) → run (xs ++ ys) st ≡ option_and_then (run ys)
    (run xs st)
run_append [] ys st = refl
run_append (t ∷ xs) ys st = append_at xs ys (put t st.0 st.1) (run_append xs ys)

-- each token belongs inside
abbrev pub AllInside : Frame → List Token → Type 0
AllInside f [] = Unit {0}
AllInside f (t ∷ ts) = (belongs_to_node t f ≡ true) × AllInside f ts

under_at : (f : Frame) (ts : List Token) (o : Option State)
    → ((st : State) → run ts (f ∷ st.0, st.1) ≡ under f (run ts st))
    → option_and_then (run ts) (under f o) ≡ under f (option_and_then (run ts) o)
under_at f ts None h = refl
under_at f ts (Some st) h = h st

pub run_under : (f : Frame) (ts : List Token) → AllInside f ts → (st : State)
    → run ts (f ∷ st.0, st.1) ≡ under f (run ts st)
run_under f [] h st = refl
run_under f (t ∷ ts) h st =
    ap (λ v. option_and_then (run ts) (if v then under f (put t st.0 st.1) else next t f
    (closed_value st.0 st.1))) h.0
    ∙ under_at f ts (put t st.0 st.1) (run_under f ts h.1)

-- each token stands at this column or further to the right
abbrev pub Above : ℕ → List Token → Type 0
Above low [] = Unit {0}
Above low (t ∷ ts) = (low ≤ token_column t) × Above low ts

above_append : (low : ℕ) (xs ys : List Token) → Above low xs → Above low ys → Above low (xs ++ ys)
above_append low [] ys h k = k
above_append low (t ∷ xs) ys h k = (h.0, above_append low xs ys h.1 k)

above_more : (low c : ℕ) (ts : List Token) → low ≤ c → Above c ts → Above low ts
above_more low c [] h k = tt
above_more low c (t ∷ ts) h k = (let a = k.0 in omega arith, above_more low c ts h k.1)

mutual
  above_node : (low : ℕ) (ts : List Token) (d : Data) (s : Shape) → IsNode low ts d s → Above low ts
  above_node low ts d s (no_tokens l) = tt
  above_node low ts d s (one_leaf l c e h) = (h, tt)
  above_node low ts d s (one_list l c us ds n h k rest) =
      above_more low c us h (above_items c us ds n rest)
  above_node low ts d s (one_mapping l c us ms n h k rest) =
      above_more low c us h (above_members c us ms n rest)

  above_items : (c : ℕ) (ts : List Token) (ds : List Data) (s : Shape) → AreItems c ts ds s
      → Above c ts
  above_items c ts ds s (no_items b) = tt
  above_items c ts ds s (one_more_item b us ws es d m n before rest) =
      above_append c us (dash c ∷ ws) (above_items c us es m before) (
        omega arith,
        above_more c
            (suc c) ws (omega arith) (above_node (suc c) ws d n rest),
      )

  above_members : (c : ℕ) (ts : List Token) (ms : List (List ℕ × Data)) (s : Shape)
      → AreMembers c ts ms s → Above c ts
  above_members c ts ms s (no_members b) = tt
  above_members c ts ms s (one_more_member b us ws ns k v d m n before rest) =
      above_append c us (pair c k v ∷ ws) (above_members c us ns m before)
      (omega arith, above_value c v ws d n rest)

  above_value : (c : ℕ) (v : Option Data) (ts : List Token) (d : Data) (s : Shape)
      → IsValue c v ts d s → Above c ts
  above_value c v ts d s (on_line b e) = tt
  above_value c v ts d s (to_the_right b us e n rest) = above_more c (suc c) us (omega arith)
      (above_node (suc c) us e n rest)
  above_value c v ts d s (list_below b us ds n k rest) = above_items c us ds n rest

right_of : (c n : ℕ) → suc c ≤ n → nat_lt c n ≡ true
right_of c n h = grind arith

right_or : (c n : ℕ) (v : Bool) → suc c ≤ n → (nat_lt c n || v) ≡ true
right_or c n v h = ap (λ u. u || v) (right_of c n h)

not_right : (c : ℕ) → nat_lt c c ≡ false
not_right c = grind arith

at_itself : (c : ℕ) → (c == c) ≡ true
at_itself c = grind arith

dash_at_itself : (c : ℕ) → (nat_lt c c || (c == c)) ≡ true
dash_at_itself c = grind arith

inside_items : (c : ℕ) (ds : List Data) (ts : List Token) → Above (suc c) ts
    → AllInside (items c ds) ts
inside_items c ds [] h = tt
inside_items c ds (t ∷ ts) h = (right_of c (token_column t) h.0, inside_items c ds ts h.1)

inside_members : (c : ℕ) (ms : List (List ℕ × Data)) (k : List ℕ) (ts : List Token)
    → Above (suc c) ts → AllInside (members c ms k) ts
inside_members c ms k [] h = tt
inside_members c ms k (t ∷ ts) h = (
  right_or c (token_column t) (is_dash_in_column c t) h.0,
  inside_members c
      ms k ts h.1,
)

inside_append : (f : Frame) (xs ys : List Token) → AllInside f xs → AllInside f ys
    → AllInside f (xs ++ ys)
inside_append f [] ys h k = k
inside_append f (t ∷ xs) ys h k = (h.0, inside_append f xs ys h.1 k)

items_inside : (c : ℕ) (ms : List (List ℕ × Data)) (k : List ℕ) (ts : List Token) (ds : List Data)
    (s : Shape) → AreItems c ts ds s → AllInside (members c ms k) ts
items_inside c ms k ts ds s (no_items b) = tt
items_inside c ms k ts ds s (one_more_item b us ws es d m n before rest) =
    inside_append (members c ms k) us (dash c ∷ ws) (items_inside c ms k us es m before)
    (dash_at_itself c, inside_members c ms k ws (above_node (suc c) ws d n rest))

value_inside : (c : ℕ) (ms : List (List ℕ × Data)) (k : List ℕ) (v : Option Data) (ts : List Token)
    (d : Data) (s : Shape) → IsValue c v ts d s → AllInside (members c ms k) ts
value_inside c ms k v ts d s (on_line b e) = tt
value_inside c ms k v ts d s (to_the_right b us e n rest) = inside_members c ms k us
    (above_node (suc c) us e n rest)
value_inside c ms k v ts d s (list_below b us ds n h rest) = items_inside c ms k us ds n rest

abbrev pub start : State
start = ([], None)

-- the tokens run, and leave this
pub record Ran (ts : List Token) (o : Option Data) (d : Data) : Type 0 where
  pub st : State
  pub runs : run ts ([], o) ≡ Some st
  pub closes : closed_value st.0 st.1 ≡ d

record ItemsRan (c : ℕ) (ts : List Token) (ds : List Data) : Type 0 where
  more : run (ts ++ dash c ∷ []) start ≡ Some (items c ds ∷ [], None)
  whole : 0 < length ds → Ran ts None (list (items_of ds))

record MembersRan (c : ℕ) (ts : List Token) (ms : List (List ℕ × Data)) : Type 0 where
  more : (k : List ℕ) (v : Option Data) → run (ts ++ pair c k v ∷ []) start
      ≡ Some (members c ms k ∷ [], v)
  whole : 0 < length ms → Ran ts None (mapping (members_of ms))

-- what comes behind a front, where the front and what is inside of its last node are known
joined : (us : List Token) (t : Token) (ws : List Token) (f : Frame) (o : Option Data) (st : State)
    → run (us ++ t ∷ []) start ≡ Some (f ∷ [], o) → AllInside f ws → run ws ([], o) ≡ Some st
    → run (us ++ t ∷ ws) start ≡ Some (f ∷ st.0, st.1)
joined us t ws f o st front inside rest =
    ap (λ l. run l start) (sym (append_assoc us (t ∷ []) ws))
    ∙ run_append (us ++ t ∷ []) ws start
    ∙ ap (option_and_then (run ws)) front
    ∙ run_under f ws inside ([], o)
    ∙ ap (under f) rest

items_step : (c : ℕ) (us ws : List Token) (ds : List Data) (d : Data) → ItemsRan c us ds
    → Above (suc c) ws → Ran ws None d → ItemsRan c (us ++ dash c ∷ ws) (ds ++ d ∷ [])
items_step c us ws ds d before above rest =
    let whole = joined us (dash c) ws (items c ds) None rest.st before.more
    (inside_items c ds ws above) rest.runs in
    record {
      more = run_append (us ++ dash c ∷ ws) (dash c ∷ []) start
          ∙ ap (option_and_then (run (dash c ∷ []))) whole
          ∙ ap (λ v. option_and_then (run []) (if v then under (items c ds)
          (put (dash c) rest.st.0 rest.st.1) else (if c == c then Some
          (items c (ds ++ closed_value rest.st.0 rest.st.1 ∷ []) ∷ [], None) else None)))
          (not_right c)
          ∙ ap (λ v. option_and_then (run [])
          (if v then Some (
            items c (ds ++ closed_value rest.st.0 rest.st.1 ∷ []) ∷ [],
            None,
          ) else None)) (at_itself c)
          ∙ ap (λ e. Some (items c (ds ++ e ∷ []) ∷ [], None)) rest.closes;
      whole = λ h. record {
        st = (items c ds ∷ rest.st.0, rest.st.1);
        runs = whole;
        closes =
            ap (λ e. list (items_of (ds ++ e ∷ []))) rest.closes;
      };
    }

members_step : (c : ℕ) (us ws : List Token) (ms : List (List ℕ × Data)) (l : List ℕ)
    (o : Option Data) (d : Data) → MembersRan c us ms → AllInside (members c ms l) ws → Ran ws o d
    → MembersRan c (us ++ pair c l o ∷ ws) (ms ++ (l, d) ∷ [])
members_step c us ws ms l o d before inside rest =
    let whole = joined us (pair c l o) ws (members c ms l) o rest.st (before.more l o) inside
    rest.runs in
    record {
      more = λ k v. run_append (us ++ pair c l o ∷ ws) (pair c k v ∷ []) start
          ∙ ap (option_and_then (run (pair c k v ∷ []))) whole
          ∙ ap (λ x. option_and_then (run []) (if x || false then under (members c ms l)
          (put (pair c k v) rest.st.0 rest.st.1) else (if c == c then Some
          (members c (ms ++ (l, closed_value rest.st.0 rest.st.1) ∷ []) k ∷ [], v) else None)))
          (not_right c)
          ∙ ap (λ x. option_and_then (run [])
          (if x then Some (
            members c (ms ++ (l, closed_value rest.st.0 rest.st.1) ∷ []) k ∷ [],
            v,
          ) else None)) (at_itself c)
          ∙ ap (λ e. Some (members c (ms ++ (l, e) ∷ []) k ∷ [], v)) rest.closes;
      whole = λ h. record {
        st = (members c ms l ∷ rest.st.0, rest.st.1);
        runs = whole;
        closes =
            ap (λ e. mapping (members_of (ms ++ (l, e) ∷ []))) rest.closes;
      };
    }

mutual
  pub node_ran : (low : ℕ) (ts : List Token) (d : Data) (s : Shape) → IsNode low ts d s
      → Ran ts None d
  node_ran low ts d s (no_tokens l) = record { st = start; runs = refl; closes = refl }
  node_ran low ts d s (one_leaf l c e h) = record { st = ([], Some e); runs = refl; closes = refl }
  node_ran low ts d s (one_list l c us ds n h k rest) = (items_ran c us ds n rest).whole k
  node_ran low ts d s (one_mapping l c us ms n h k rest) = (members_ran c us ms n rest).whole k

  items_ran : (c : ℕ) (ts : List Token) (ds : List Data) (s : Shape) → AreItems c ts ds s
      → ItemsRan c ts ds
  items_ran c ts ds s (no_items b) = record { more = refl; whole = λ h. absurd (omega arith) }
  items_ran c ts ds s (one_more_item b us ws es d m n before rest) = items_step c us ws es d
      (items_ran c us es m before) (above_node (suc c) ws d n rest) (node_ran (suc c) ws d n rest)

  members_ran : (c : ℕ) (ts : List Token) (ms : List (List ℕ × Data)) (s : Shape)
      → AreMembers c ts ms s → MembersRan c ts ms
  members_ran c ts ms s (no_members b) = record {
    more = λ k v. refl;
    whole =
        λ h. absurd (omega arith);
  }
  members_ran c ts ms s (one_more_member b us ws ns k v d m n before rest) = members_step c us ws ns
      k v d (members_ran c us ns m before) (value_inside c ns k v ws d n rest)
      (value_ran c v ws d n rest)

  value_ran : (c : ℕ) (v : Option Data) (ts : List Token) (d : Data) (s : Shape)
      → IsValue c v ts d s → Ran ts v d
  value_ran c v ts d s (on_line b e) = record { st = ([], Some e); runs = refl; closes = refl }
  value_ran c v ts d s (to_the_right b us e n rest) = node_ran (suc c) us e n rest
  value_ran c v ts d s (list_below b us ds n k rest) = (items_ran c us ds n rest).whole k

pub one_tree : (ts : List Token) (d e : Data) (s t : Shape) → IsNode 0 ts d s → IsNode 0 ts e t
    → d ≡ e
one_tree ts d e s t f g =
    let x = node_ran 0 ts d s f in
    let y = node_ran 0 ts e t g in
    let same : x.st ≡ y.st = ap (λ o. unwrap_or o x.st) (sym x.runs ∙ y.runs) in
    sym x.closes ∙ ap (λ st. closed_value st.0 st.1) same ∙ y.closes
