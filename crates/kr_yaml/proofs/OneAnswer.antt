-- Tokens make one tree or have one first breach.
use Rattle.std.proofs.Common.{◌≡◌, ℕ, ◌≤◌, Bool, true, false, List, [], ◌∷◌, ◌++◌, max, length, ◌⊎◌}
use Rattle.std.proofs.Common.{inl, inr, Option, None, Some, Result, Ok, Err, refl, sym, ap, ◌∙◌}
use Rattle.std.proofs.Common.{subst, arith}
use Rattle.std.specs.Prelude.{if◌then◌else◌, ◌==◌, option_and_then}
use Rattle.std.proofs.lemmas.List.{append-nil}
use Rattle.kr_yaml.specs.Data.{Data}
use Rattle.kr_yaml.specs.Lines.{Token, pair}
use Rattle.kr_yaml.specs.Forms.{Shape, flat, Form}
use Rattle.kr_yaml.specs.inner.Open.{Frame, members, State, belongs_to_node, is_repeated, next}
use Rattle.kr_yaml.specs.inner.Open.{under, put, doubles, run, closed_value}
use Rattle.kr_yaml.specs.inner.Standing.{Stands, empty}
use Rattle.kr_yaml.specs.Shown.{view}
use Rattle.kr_yaml.specs.Reads.{plain, MakesTree, FormNone, FormTwice, FormDeep, BreaksTree, IsFirst}
use Rattle.kr_yaml.specs.Reads.{ReadsTree, Refuses}
use Rattle.kr_yaml.specs.Laws.{OneForm, OneAnswer}
use Rattle.kr_yaml.specs.declared.tree.Tree.{Tree}
use Rattle.kr_yaml.specs.declared.yaml_no.YamlNo.{YamlNo}
use Rattle.kr_yaml.specs.declared.yaml_no.YamlNo.TheVariants.{Outside, Indent, DuplicateKey, Deep}
use Rattle.kr_yaml.specs.declared.yaml_no.YamlNo.TheVariants.{NoMemory}
use Rattle.kr_yaml.proofs.Grown.{grows, stands_node, frames_levels}
use Rattle.kr_yaml.proofs.Runs.{run_append, node_ran, one_tree, start}
use Rattle.kr_yaml.proofs.Shapes.{one_shape}
use Rattle.kr_yaml.proofs.Breaches.{went, put_run, Stops, none_stops, twice_stops, deep_stops}
use Rattle.kr_yaml.proofs.Breaches.{plain_split, first_stops}

-- a repeated key opens no node
repeated_next : (c b : ℕ) (ms : List (List ℕ × Data)) (l k : List ℕ) (v : Option Data) (d : Data)
    (st : State) (w : Bool) → (if w then Some (members b (ms ++ (l, d) ∷ []) k ∷ [], v) else None)
    ≡ Some st → length st.0 ≤ 1
repeated_next c b ms l k v d st true e = let same : (members b (ms ++ (l, d) ∷ []) k ∷ [], v) ≡ st =
    cc in let n = ap (λ (s : State). length s.0) same in omega arith
repeated_next c b ms l k v d st false e = cc

next_length : (t : Token) (f : Frame) (d : Data) (st : State) → is_repeated t f ≡ true
    → next t f d ≡ Some st → length st.0 ≤ 1
next_length (pair c k v) (members b ms l) d st h e = repeated_next c b ms l k v d st (c == b) e
next_length other f d st h e = cc

abbrev Flat : Token → List Frame → Type 0
Flat t fs = (o : Option Data) (st : State) → doubles t fs ≡ true → put t fs o ≡ Some st
    → length st.0 ≤ length fs

flat_under : (t : Token) (f : Frame) (fs : List Frame) (o : Option Data) (st : State)
    (r : Option State) → put t fs o ≡ r → Flat t fs → doubles t fs ≡ true → under f r ≡ Some st
    → length st.0 ≤ length (f ∷ fs)
flat_under t f fs o st None q rest h e = cc
flat_under t f fs o st (Some inner) q rest h e =
    let n = rest o inner h q in
    let same : (f ∷ inner.0, inner.1) ≡ st = cc in
    let m = ap (λ (s : State). length s.0) same in omega arith

flat_at : (t : Token) (f : Frame) (fs : List Frame) (o : Option Data) (st : State) (v : Bool)
    → Flat t fs → (if v then doubles t fs else is_repeated t f) ≡ true
    → (if v then under f (put t fs o) else next t f (closed_value fs o)) ≡ Some st
    → length st.0 ≤ length (f ∷ fs)
flat_at t f fs o st true rest h e = flat_under t f fs o st (put t fs o) refl rest h e
flat_at t f fs o st false rest h e = let n = next_length t f (closed_value fs o) st h e in omega
    arith

repeated_flat : (t : Token) (fs : List Frame) → Flat t fs
repeated_flat t [] = λ o st h e. cc
repeated_flat t (f ∷ fs) = λ o st h e. flat_at t f fs o st (belongs_to_node t f) (repeated_flat t fs) h e

-- one token more on a tree
record More (xs : List Token) (t : Token) (s u : Shape) : Type 0 where
  old : State
  new : State
  stands : Stands 0 xs old.0 old.1 s
  puts : put t old.0 old.1 ≡ Some new
  levels : u.levels ≤ max s.levels (length new.0)
  twice : s.twice ≡ false → u.twice ≡ doubles t old.0

one_more : (xs : List Token) (t : Token) (d e : Data) (s u : Shape) → Form xs d s
    → Form (xs ++ t ∷ []) e u → More xs t s u
one_more xs t d e s u f g =
    let x = node_ran 0 xs d s f in
    let y = node_ran 0 (xs ++ t ∷ []) e u g in
    let v = went xs [] start x.st flat (empty 0) x.runs in
    let puts : put t x.st.0 x.st.1 ≡ Some y.st = put_run (put t x.st.0 x.st.1) y.st
    (sym (run_append xs (t ∷ []) start ∙ ap (option_and_then (run (t ∷ []))) x.runs)
    ∙ y.runs) in
    let front : v.shape ≡ s = one_shape xs (closed_value x.st.0 x.st.1) d v.shape s
    (stands_node 0 xs x.st.0 x.st.1 v.shape v.stands) f in
    let stands = subst (λ s. Stands 0 xs x.st.0 x.st.1 s) front v.stands in
    let m = grows 0 xs x.st.0 x.st.1 s stands t (omega arith) y.st puts in
    let whole : m.shape ≡ u = one_shape (xs ++ t ∷ []) (closed_value y.st.0 y.st.1) e m.shape u
    (stands_node 0 (xs ++ t ∷ []) y.st.0 y.st.1 m.shape m.stands) g in
    record {
      old = x.st;
      new = y.st;
      stands = stands;
      puts = puts;
      levels = subst (λ u. u.levels ≤ max s.levels (length y.st.0)) whole m.levels;
      twice = subst (λ u. s.twice ≡ false → u.twice ≡ doubles t x.st.0) whole m.twice;
    }

none_twice : (ts : List Token) → FormNone ts → FormTwice ts → ⊥
none_twice ts h k = h [] k.0 k.1 (subst (λ ts. Form ts k.0 k.1) (sym (append-nil ts)) k.2)

none_deep : (ts : List Token) → FormNone ts → FormDeep ts → ⊥
none_deep ts h k = h [] k.0 k.1 (subst (λ ts. Form ts k.0 k.1) (sym (append-nil ts)) k.2)

twice_deep : (xs : List Token) (t : Token) (d : Data) → MakesTree xs d → FormTwice (xs ++ t ∷ [])
    → FormDeep (xs ++ t ∷ []) → ⊥
twice_deep xs t d m h k =
    let a = one_more xs t d h.0 m.shape h.1 m.forms h.2 in
    let same : h.1 ≡ k.1 = one_shape (xs ++ t ∷ []) h.0 k.0 h.1 k.1 h.2 k.2 in
    let n = repeated_flat t a.old.0 a.old.1 a.new (sym (a.twice m.once) ∙ h.3) a.puts in
    let l = frames_levels 0 xs a.old.0 a.old.1 m.shape a.stands in
    let i = m.levels in
    let j = a.levels in
    let g = ap (λ (s : Shape). s.levels) same in
    let deep = k.3 in
    omega arith

-- a list that goes on where another one ends
record Longer (xs ys : List (ℕ × Token)) (u : ℕ × Token) : Type 0 where
  more : List (ℕ × Token)
  is : xs ≡ ys ++ u ∷ more

abbrev Splits : List (ℕ × Token) → List (ℕ × Token) → ℕ × Token → ℕ × Token → Type 0
Splits xs ys u v = ((xs ≡ ys) × (u ≡ v)) ⊎ (Longer xs ys v ⊎ Longer ys xs u)

splits_cons : (x y u v : ℕ × Token) (xs ys : List (ℕ × Token)) → x ≡ y → Splits xs ys u v
    → Splits (x ∷ xs) (y ∷ ys) u v
splits_cons x y u v xs ys e (inl h) = inl ((let a = h.0 in cc), h.1)
splits_cons x y u v xs ys e (inr (inl l)) =
    inr (inl (record { more = l.more; is = ap (λ w. w ∷ xs) e ∙ ap (λ l. y ∷ l) l.is }))
splits_cons x y u v xs ys e (inr (inr l)) =
    inr (inr (record { more = l.more; is = ap (λ w. w ∷ ys) (sym e) ∙ ap (λ l. x ∷ l) l.is }))

splits : (xs ys us vs : List (ℕ × Token)) (u v : ℕ × Token) → xs ++ u ∷ us ≡ ys ++ v ∷ vs
    → Splits xs ys u v
splits [] [] us vs u v e = inl (refl, cc)
splits [] (y ∷ ys) us vs u v e =
    inr (inr (record { more = ys; is = (let h : u ≡ y = cc in ap (λ w. w ∷ ys) (sym h)) }))
splits (x ∷ xs) [] us vs u v e =
    inr (inl (record { more = xs; is = (let h : x ≡ v = cc in ap (λ w. w ∷ xs) h) }))
splits (x ∷ xs) (y ∷ ys) us vs u v e = splits_cons x y u v xs ys (cc) (splits xs ys us vs u v (cc))

-- two breaches are at one token
record Meets (n m : ℕ) (P Q : List Token → Type 0) : Type 0 where
  line : n ≡ m
  before : List Token
  token : Token
  tree : Data
  makes : MakesTree before tree
  first : P (before ++ token ∷ [])
  second : Q (before ++ token ∷ [])

too_long : (P : List Token → Type 0) (xs ys : List (ℕ × Token)) (n : ℕ) (t : Token) (d : Data)
    → Stops P → P (plain ys ++ t ∷ []) → Longer xs ys (n, t) → MakesTree (plain xs) d → ⊥
too_long P xs ys n t d stops h l m = stops (plain ys ++ t ∷ []) (plain l.more) d h
    (subst (λ ts. MakesTree ts d) (plain_split xs ys l.more n t l.is) m)

meets_at : (us : List (ℕ × Token)) (n m : ℕ) (P Q : List Token → Type 0) → Stops P → Stops Q
    → (b : BreaksTree us n P) (c : BreaksTree us m Q) → Splits b.before c.before (n, b.token) (m, c.token)
    → Meets n m P Q
meets_at us n m P Q p q b c (inl h) = record {
  line = ap (λ (u : ℕ × Token). u.0) h.1;
  before = plain b.before;
  token = b.token;
  tree = b.tree;
  makes = b.makes;
  first = b.breach;
  second = subst (λ l. Q (plain l ++ b.token ∷ [])) (sym h.0)
      (subst (λ t. Q (plain c.before ++ t ∷ [])) (sym (ap (λ (u : ℕ × Token). u.1) h.1)) c.breach);
}
meets_at us n m P Q p q b c (inr (inl l)) = absurd (too_long Q b.before c.before m c.token b.tree q
    c.breach l b.makes)
meets_at us n m P Q p q b c (inr (inr l)) = absurd (too_long P c.before b.before n b.token c.tree p
    b.breach l c.makes)

meets : (us : List (ℕ × Token)) (n m : ℕ) (P Q : List Token → Type 0) → Stops P → Stops Q
    → BreaksTree us n P → BreaksTree us m Q → Meets n m P Q
meets us n m P Q p q b c = meets_at us n m P Q p q b c (splits b.before c.before b.after c.after
    (n, b.token) (m, c.token) (sym b.split ∙ c.split))

apart_none_twice : (us : List (ℕ × Token)) (n m : ℕ) → BreaksTree us n FormNone → BreaksTree us m FormTwice
    → ⊥
apart_none_twice us n m h k = let a = meets us n m FormNone FormTwice none_stops twice_stops h
    k in none_twice (a.before ++ a.token ∷ []) a.first a.second

apart_none_deep : (us : List (ℕ × Token)) (n m : ℕ) → BreaksTree us n FormNone → BreaksTree us m FormDeep
    → ⊥
apart_none_deep us n m h k = let a = meets us n m FormNone FormDeep none_stops deep_stops h
    k in none_deep (a.before ++ a.token ∷ []) a.first a.second

apart_twice_deep : (us : List (ℕ × Token)) (n m : ℕ) → BreaksTree us n FormTwice → BreaksTree us m FormDeep
    → ⊥
apart_twice_deep us n m h k = let a = meets us n m FormTwice FormDeep twice_stops deep_stops h
    k in twice_deep a.before a.token a.tree a.makes a.first a.second

one_breach : (us : List (ℕ × Token)) (why other : YamlNo) → IsFirst us why → IsFirst us other
    → why ≡ other
one_breach us (Outside n) other h k = absurd h
one_breach us NoMemory other h k = absurd h
one_breach us (Indent n) (Indent m) h k = ap Indent (meets us n m FormNone FormNone none_stops
    none_stops h k).line
one_breach us (Indent n) (DuplicateKey m) h k = absurd (apart_none_twice us n m h k)
one_breach us (Indent n) (Deep m) h k = absurd (apart_none_deep us n m h k)
one_breach us (DuplicateKey n) (Indent m) h k = absurd (apart_none_twice us m n k h)
one_breach us (DuplicateKey n) (DuplicateKey m) h k =
    ap DuplicateKey (meets us n m FormTwice FormTwice twice_stops twice_stops h k).line
one_breach us (DuplicateKey n) (Deep m) h k = absurd (apart_twice_deep us n m h k)
one_breach us (Deep n) (Indent m) h k = absurd (apart_none_deep us m n k h)
one_breach us (Deep n) (DuplicateKey m) h k = absurd (apart_twice_deep us m n k h)
one_breach us (Deep n) (Deep m) h k = ap Deep (meets us n m FormDeep FormDeep deep_stops deep_stops
    h k).line
one_breach us other another h k = absurd k

refuses_first : (us : List (ℕ × Token)) (why : YamlNo) → Refuses (Ok us) why
    → (why ≡ NoMemory) ⊎ IsFirst us why
refuses_first us NoMemory h = inl refl
refuses_first us other h = inr h

refuses_line : (n : ℕ) (why : YamlNo) → Refuses (Err n) why → (why ≡ NoMemory) ⊎ (why ≡ Outside n)
refuses_line n (Outside m) h = inr (ap Outside h)
refuses_line n NoMemory h = inl refl
refuses_line n other h = absurd h

tree_or : (wanted : Result (List (ℕ × Token)) ℕ) (x : Tree) (why : YamlNo) → ReadsTree wanted x
    → Refuses wanted why → why ≡ NoMemory
tree_or (Ok us) x why h k = elim (refuses_first us why k) [
  | inl e ↦ e
  | inr f ↦ absurd
      (first_stops us why f (view x) h)
]
tree_or (Err n) x why h k = absurd h

two_trees : (wanted : Result (List (ℕ × Token)) ℕ) (x y : Tree) → ReadsTree wanted x
    → ReadsTree wanted y → view x ≡ view y
two_trees (Ok us) x y h k = one_tree (plain us) (view x) (view y) h.shape k.shape h.forms k.forms
two_trees (Err n) x y h k = absurd h

two_refusals : (wanted : Result (List (ℕ × Token)) ℕ) (why other : YamlNo) → Refuses wanted why
    → Refuses wanted other → (why ≡ NoMemory) ⊎ ((other ≡ NoMemory) ⊎ (why ≡ other))
two_refusals (Ok us) why other h k = elim (refuses_first us why h) [
  | inl e ↦ inl e
  | inr f ↦ elim (refuses_first us other k)
      [ inl e ↦ inr (inl e) | inr g ↦ inr (inr (one_breach us why other f g)) ]
]
two_refusals (Err n) why other h k = elim (refuses_line n why h) [
  | inl e ↦ inl e
  | inr f ↦ elim (refuses_line n other k) [ inl e ↦ inr (inl e) | inr g ↦ inr (inr (f ∙ sym g)) ]
]

pub one_form : OneForm
one_form ts d e s t f g = (one_tree ts d e s t f g, one_shape ts d e s t f g)

pub one_answer : OneAnswer
one_answer wanted (Ok x) (Ok y) h k = two_trees wanted x y h k
one_answer wanted (Ok x) (Err why) h k = tree_or wanted x why h k
one_answer wanted (Err why) (Ok x) h k = tree_or wanted x why k h
one_answer wanted (Err why) (Err other) h k = two_refusals wanted why other h k
