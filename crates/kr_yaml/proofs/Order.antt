-- Behind a token of its own line a token always goes on, since it stands to the right of a dash.
use Rattle.std.proofs.Common.{◌≡◌, ℕ, ◌+◌, ◌<◌, ◌≤◌, Bool, true, false, List, [], ◌∷◌, ◌++◌, length}
use Rattle.std.proofs.Common.{Option, None, Some, refl, sym, ap, ◌∙◌, subst, arith, suc}
use Rattle.std.specs.Prelude.{if◌then◌else◌, ◌==◌, ◌||◌, nat_lt, option_and_then}
use Rattle.kr_yaml.specs.Data.{Data}
use Rattle.kr_yaml.specs.Lines.{Token, dash, pair, leaf, AreContentTokens, empty_item, item}
use Rattle.kr_yaml.specs.Lines.{IsLine, empty_line, comment_line, content_line}
use Rattle.kr_yaml.specs.Forms.{Shape, flat, Form}
use Rattle.kr_yaml.specs.Laws.{OnALine}
use Rattle.kr_yaml.specs.inner.Open.{Frame, items, members, State, token_column, is_dash_in_column, belongs_to_node}
use Rattle.kr_yaml.specs.inner.Open.{first_state, next, under, put, doubles, run, closed_value}
use Rattle.kr_yaml.specs.inner.Open.{place}
use Rattle.kr_yaml.specs.inner.Standing.{Stands, empty}
use Rattle.kr_yaml.proofs.Grown.{grows, stands_node}
use Rattle.kr_yaml.proofs.Putting.{put_innermost}
use Rattle.kr_yaml.proofs.Runs.{run_append, node_ran, start}
use Rattle.kr_yaml.proofs.Shapes.{one_shape}
use Rattle.kr_yaml.proofs.Breaches.{went, put_run}

-- each token but the last is a dash, and the next one stands behind it
abbrev After : ℕ → List Token → Type 0
After c [] = Unit {0}
After c (dash b ∷ ts) = (c ≤ b) × After (suc b) ts
After c (pair b k v ∷ ts) = (c ≤ b) × (ts ≡ [])
After c (leaf b d ∷ ts) = (c ≤ b) × (ts ≡ [])

after_more : (c e : ℕ) (ts : List Token) → c ≤ e → After e ts → After c ts
after_more c e [] h a = tt
after_more c e (dash b ∷ ts) h a = (let l = a.0 in omega arith, a.1)
after_more c e (other ∷ ts) h a = (let l = a.0 in omega arith, a.1)

after_content : (c : ℕ) (bytes : List ℕ) (ts : List Token) → AreContentTokens c bytes ts → After c ts
after_content c bytes ts (empty_item b) = (omega arith, tt)
after_content c bytes ts (item b n bs us h) = (
  omega arith,
  after_more (suc b) (b + 1 + suc n) us (omega arith) (after_content (b + 1 + suc n)
      bs us h),
)
after_content c bytes ts other = (omega arith, refl)

after_line : (line : List ℕ) (ts : List Token) → IsLine line ts → After 0 ts
after_line line ts (empty_line n) = tt
after_line line ts (comment_line n text) = tt
after_line line ts (content_line n bytes tail us c t h) =
    after_more 0 n us (omega arith) (after_content n bytes us c)

-- two tokens of a line, one behind the other
record Behind (t u : Token) : Type 0 where
  column : ℕ
  is : t ≡ dash column
  right : column < token_column u

not_over : (front : List Token) (t : Token) (ts : List Token) → front ++ t ∷ ts ≡ [] → ⊥
not_over [] t ts e = cc
not_over (x ∷ front) t ts e = cc

after_column : (c : ℕ) (u : Token) (rest : List Token) → After c (u ∷ rest) → c ≤ token_column u
after_column c (dash b) rest a = a.0
after_column c other rest a = a.0

behind_of : (c : ℕ) (front : List Token) (t u : Token) (rest : List Token)
    → After c (front ++ t ∷ (u ∷ rest)) → Behind t u
behind_of c [] (dash b) u rest a = let h = after_column (suc b) u rest a.1 in record {
  column =
      b;
  is = refl;
  right = omega arith;
}
behind_of c (dash b ∷ front) t u rest a = behind_of (suc b) front t u rest a.1
behind_of c [] other u rest a = absurd (not_over [] u rest a.1)
behind_of c (other ∷ front) t u rest a = absurd (not_over front t (u ∷ rest) a.1)

-- the open nodes behind a dash stand at its column or to the left
abbrev column : Frame → ℕ
column (items c ds) = c
column (members c ms k) = c

abbrev UpTo : ℕ → List Frame → Type 0
UpTo c [] = Unit {0}
UpTo c (f ∷ fs) = (column f ≤ c) × UpTo c fs

abbrev Ready : ℕ → State → Type 0
Ready c st = UpTo c st.0 × (st.1 ≡ None)

inside_column : (c : ℕ) (f : Frame) → belongs_to_node (dash c) f ≡ true → column f ≤ c
inside_column c (items b ds) e = grind arith
inside_column c (members b ms k) e = grind arith

ready_under : (c : ℕ) (f : Frame) (fs : List Frame) (o : Option Data) (st : State)
    (r : Option State) → put (dash c) fs o ≡ r → ((new : State) → put (dash c) fs o ≡ Some new
    → Ready c new) → column f ≤ c → under f r ≡ Some st → Ready c st
ready_under c f fs o st None q rest h e = cc
ready_under c f fs o st (Some new) q rest h e = let a = rest new q in subst (Ready c)
    (let same : (f ∷ new.0, new.1) ≡ st = cc in same) ((h, a.0), a.1)

ready_same : (c b : ℕ) (ds : List Data) (st : State) (w : Bool) → (c == b) ≡ w
    → (if w then Some (items b ds ∷ [], None) else None) ≡ Some st → Ready c st
ready_same c b ds st true q e =
    subst (Ready c) (let same : (items b ds ∷ [], None) ≡ st = cc in same)
    (((grind arith), tt), refl)
ready_same c b ds st false q e = cc

ready_next : (c : ℕ) (f : Frame) (d : Data) (st : State) → next (dash c) f d ≡ Some st → Ready c st
ready_next c (items b ds) d st e = ready_same c b (ds ++ d ∷ []) st (c == b) refl e
ready_next c (members b ms k) d st e = cc

ready_at : (c : ℕ) (f : Frame) (fs : List Frame) (o : Option Data) (st : State) (v : Bool)
    → belongs_to_node (dash c) f ≡ v → ((new : State) → put (dash c) fs o ≡ Some new → Ready c new)
    → (if v then under f (put (dash c) fs o) else next (dash c) f (closed_value fs o)) ≡ Some st
    → Ready c st
ready_at c f fs o st true q rest e = ready_under c f fs o st (put (dash c) fs o) refl rest
    (inside_column c f q) e
ready_at c f fs o st false q rest e = ready_next c f (closed_value fs o) st e

ready : (c : ℕ) (fs : List Frame) (o : Option Data) (st : State) → put (dash c) fs o ≡ Some st
    → Ready c st
ready c [] None st e = subst (Ready c) (let same : (items c [] ∷ [], None) ≡ st = cc in same)
    ((omega arith, tt), refl)
ready c [] (Some d) st e = cc
ready c (f ∷ fs) o st e = ready_at c f fs o st (belongs_to_node (dash c) f) refl
    (λ new h. ready c fs o new h) e

right_or : (b n : ℕ) (v : Bool) → b < n → (nat_lt b n || v) ≡ true
right_or b n v h = grind arith

is_right : (c : ℕ) (u : Token) (f : Frame) → column f ≤ c → c < token_column u → belongs_to_node u f ≡ true
is_right c u (items b ds) h k = grind arith
is_right c u (members b ms l) h k = right_or b (token_column u) (is_dash_in_column b u) (omega arith)

all_right : (c : ℕ) (u : Token) (fs : List Frame) → UpTo c fs → c < token_column u
    → place u fs ≡ length fs
all_right c u [] h k = refl
all_right c u (f ∷ fs) h k = ap (λ v. if v then suc (place u fs) else 0) (is_right c u f h.0 k)
    ∙ ap suc (all_right c u fs h.1 k)

put_last : (xs : List Token) (t : Token) (st : State) (r : Option State) → run xs start ≡ r
    → option_and_then (run (t ∷ [])) r ≡ Some st → (old : State) × (put t old.0 old.1 ≡ Some st)
put_last xs t st None q e = cc
put_last xs t st (Some old) q e = (old, put_run (put t old.0 old.1) st e)

same_twice : (v w x : Bool) → (v ≡ false → w ≡ x) → x ≡ false → (v ≡ true → w ≡ true) → w ≡ v
same_twice true w x f h g = g refl
same_twice false w x f h g = f refl ∙ h

continues_text : (c : ℕ) (xs : List Token) (u : Token) (d : Data) (s : Shape) → c < token_column u
    → Form (xs ++ dash c ∷ []) d s
    → (e : Data) × (x : Shape) × Form ((xs ++ dash c ∷ []) ++ u ∷ []) e x × (x.twice ≡ s.twice)
continues_text c xs u d s h f =
    let ts : List Token = xs ++ dash c ∷ [] in
    let y = node_ran 0 ts d s f in
    let old = put_last xs (dash c) y.st (run xs start) refl (sym (run_append xs (dash c ∷ []) start)
    ∙ y.runs) in
    let r = ready c old.0.0 old.0.1 y.st old.1 in
    let p = put_innermost u y.st.0 None (all_right c u y.st.0 r.0 h) in
    let new : State = (y.st.0 ++ (first_state u).0, (first_state u).1) in
    let puts : put u y.st.0 y.st.1 ≡ Some new = ap (put u y.st.0) r.1 ∙ p.0 in
    let v = went ts [] start y.st flat (empty 0) y.runs in
    let same : v.shape ≡ s = one_shape ts (closed_value y.st.0 y.st.1) d v.shape s
    (stands_node 0 ts y.st.0 y.st.1 v.shape v.stands) f in
    let g = grows 0 ts y.st.0 y.st.1 s (subst (λ s. Stands 0 ts y.st.0 y.st.1 s) same v.stands) u
    (omega arith) new puts in
    let twice : doubles u y.st.0 ≡ false = p.1 in (
      closed_value new.0 new.1,
      g.shape,
      stands_node 0 (ts ++ u ∷ []) new.0 new.1 g.shape g.stands,
      same_twice s.twice g.shape.twice (doubles u y.st.0) g.twice twice g.more.twice,
    )

goes_behind : (t u : Token) (xs : List Token) (d : Data) (s : Shape) → Behind t u
    → Form (xs ++ t ∷ []) d s → (e : Data) × (x : Shape) × Form ((xs ++ t ∷ []) ++ u ∷ []) e x
    × (x.twice ≡ s.twice)
goes_behind t u xs d s b f =
    subst (λ t. (e : Data) × (x : Shape) × Form ((xs ++ t ∷ []) ++ u ∷ []) e x
    × (x.twice ≡ s.twice)) (sym b.is)
    (continues_text b.column xs u d s b.right (subst (λ t. Form (xs ++ t ∷ []) d s) b.is f))

pub on_a_line : OnALine
on_a_line line front rest before t u d s e f = goes_behind t u before d s
    (behind_of 0 front t u rest (after_line line (front ++ t ∷ (u ∷ rest)) e)) f
