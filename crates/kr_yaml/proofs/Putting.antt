-- Where a token goes among open nodes.
use Rattle.std.proofs.Common.{◌≡◌, ℕ, ◌+◌, ◌<◌, ◌≤◌, Bool, true, false, List, [], ◌∷◌, ◌++◌, length}
use Rattle.std.proofs.Common.{take, drop, Option, None, Some, Err, refl, sym, ap, ◌∙◌, subst, arith}
use Rattle.std.proofs.Common.{suc}
use Rattle.std.specs.Prelude.{if◌then◌else◌, ◌==◌, unwrap_or}
use Rattle.std.specs.Option.{option_map}
use Rattle.std.proofs.lemmas.List.{append_assoc, append-nil, length-append, take-append-drop}
use Rattle.std.proofs.lemmas.List.{length-take-le}
use Rattle.kr_yaml.specs.Data.{Data, null}
use Rattle.kr_yaml.specs.Shown.{view}
use Rattle.kr_yaml.specs.Lines.{Token, pair}
use Rattle.kr_yaml.specs.inner.Open.{Frame, members, State, belongs_to_node, close, closed_value}
use Rattle.kr_yaml.specs.inner.Open.{first_state, begin, next, under, put, doubles, is_repeated}
use Rattle.kr_yaml.specs.inner.Open.{place}
use Rattle.kr_yaml.specs.inner.Frames.{frame_view, frame_views, state_view}
use Rattle.kr_yaml.specs.inner.Puts.{Continues, Puts}
use Rattle.kr_yaml.specs.inner.Adds.{Adds}
use Rattle.kr_yaml.specs.declared.tree.Tree.{Tree}
use Rattle.kr_yaml.specs.declared.open.OpenNode.{OpenNode}
use Rattle.kr_yaml.specs.declared.place_error.PlaceError.{PlaceError}
use Rattle.kr_yaml.specs.declared.place_error.PlaceError.TheVariants.{Indent, DuplicateKey, Deep}
use Rattle.kr_yaml.specs.declared.place_error.PlaceError.TheVariants.{NoMemory}

abbrev pub onto : List Frame → Option State → Option State
onto fs None = None
onto fs (Some s) = Some (fs ++ s.0, s.1)

onto_nil : (o : Option State) → o ≡ onto [] o
onto_nil None = refl
onto_nil (Some s) = refl

under_onto : (f : Frame) (fs : List Frame) (o : Option State)
    → under f (onto fs o) ≡ onto (f ∷ fs) o
under_onto f fs None = refl
under_onto f fs (Some s) = refl

-- inside of all
inside_at : (t : Token) (f : Frame) (fs : List Frame) (o : Option Data) (v : Bool)
    → belongs_to_node t f ≡ v → (if v then suc (place t fs) else 0) ≡ suc (length fs)
    → (place t fs ≡ length fs → (put t fs o ≡ onto fs (begin t o)) × (doubles t fs ≡ false))
    → (put t (f ∷ fs) o ≡ onto (f ∷ fs) (begin t o)) × (doubles t (f ∷ fs) ≡ false)
inside_at t f fs o true e h rest =
    let both = rest (omega arith) in (
      ap (λ v. if v then under f (put t fs o) else next t f (closed_value fs o)) e
          ∙ ap (under f) both.0 ∙ under_onto f fs (begin t o),
      ap (λ v. if v then doubles t fs else is_repeated t f) e ∙ both.1,
    )
inside_at t f fs o false e h rest = absurd (omega arith)

pub put_innermost : (t : Token) (fs : List Frame) (o : Option Data) → place t fs ≡ length fs
    → (put t fs o ≡ onto fs (begin t o)) × (doubles t fs ≡ false)
put_innermost t [] o h = (onto_nil (begin t o), refl)
put_innermost t (f ∷ fs) o h = inside_at t f fs o (belongs_to_node t f) refl h (put_innermost t fs o)

-- at one of them
first_at : (t : Token) (f : Frame) (ys : List Frame) (o : Option Data) (v : Bool)
    → belongs_to_node t f ≡ v → (if v then suc (place t ys) else 0) ≡ 0
    → (put t (f ∷ ys) o ≡ next t f (closed_value ys o)) × (doubles t (f ∷ ys) ≡ is_repeated t f)
first_at t f ys o true e h = absurd (omega arith)
first_at t f ys o false e h = (
  ap (λ v. if v then under f (put t ys o) else next t f (closed_value ys o)) e,
  ap
      (λ v. if v then doubles t ys else is_repeated t f) e,
)

next_at : (t : Token) (x : Frame) (xs : List Frame) (f : Frame) (ys : List Frame) (o : Option Data)
    (v : Bool) → belongs_to_node t x ≡ v → (if v then suc (place t (xs ++ f ∷ ys)) else 0)
    ≡ suc (length xs)
    → (place t (xs ++ f ∷ ys) ≡ length xs
    → (put t (xs ++ f ∷ ys) o ≡ onto xs (next t f (closed_value ys o)))
    × (doubles t (xs ++ f ∷ ys) ≡ is_repeated t f))
    → (put t (x ∷ (xs ++ f ∷ ys)) o ≡ onto (x ∷ xs) (next t f (closed_value ys o)))
    × (doubles t (x ∷ (xs ++ f ∷ ys)) ≡ is_repeated t f)
next_at t x xs f ys o true e h rest =
    let both = rest (omega arith) in (
      ap (λ v. if v then under x (put t (xs ++ f ∷ ys) o) else next t x (closed_value (xs ++ f ∷ ys)
          o)) e ∙ ap (under x) both.0 ∙ under_onto x xs (next t f (closed_value ys o)),
      ap (λ v. if v then doubles t (xs ++ f ∷ ys) else is_repeated t x) e ∙ both.1,
    )
next_at t x xs f ys o false e h rest = absurd (omega arith)

put_next : (t : Token) (xs : List Frame) (f : Frame) (ys : List Frame) (o : Option Data)
    → place t (xs ++ f ∷ ys) ≡ length xs
    → (put t (xs ++ f ∷ ys) o ≡ onto xs (next t f (closed_value ys o))) × (doubles t (xs ++ f ∷ ys)
    ≡ is_repeated t f)
put_next t [] f ys o h = let both = first_at t f ys o (belongs_to_node t f) refl h in (
  both.0
      ∙ onto_nil (next t f (closed_value ys o)),
  both.1,
)
put_next t (x ∷ xs) f ys o h = next_at t x xs f ys o (belongs_to_node t x) refl h (put_next t xs f ys o)

frames_append : (xs ys : List OpenNode) → frame_views (xs ++ ys) ≡ frame_views xs ++ frame_views ys
frames_append [] ys = refl
frames_append (x ∷ xs) ys = ap (λ l. frame_view x ∷ l) (frames_append xs ys)

pub frames_length : (xs : List OpenNode) → length (frame_views xs) ≡ length xs
frames_length [] = refl
frames_length (x ∷ xs) = ap suc (frames_length xs)

-- of the code's nodes
pub full_refused : (t : Token) (nodes : List OpenNode) (value : Option Tree) (tree : Tree)
    → place t (frame_views nodes) ≡ length nodes → value ≡ Some tree
    → put t (frame_views nodes) (option_map view value) ≡ None
full_refused t nodes value tree at is = (put_innermost t (frame_views nodes) (option_map view value)
    (at ∙ sym (frames_length nodes))).0
    ∙ ap (λ v. onto (frame_views nodes) (begin t (option_map view v))) is

begun_is : (t : Token) (nodes : List OpenNode) (value : Option Tree) → place t (frame_views nodes)
    ≡ length nodes → value ≡ None → put t (frame_views nodes) (option_map view value)
    ≡ Some (frame_views nodes ++ (first_state t).0, (first_state t).1)
begun_is t nodes value at is = (put_innermost t (frame_views nodes) (option_map view value) (at
    ∙ sym (frames_length nodes))).0
    ∙ ap (λ v. onto (frame_views nodes) (begin t (option_map view v))) is

pub begins_single : (t : Token) (nodes : List OpenNode) (value : Option Tree)
    → place t (frame_views nodes) ≡ length nodes → doubles t (frame_views nodes) ≡ false
begins_single t nodes value at = (put_innermost t (frame_views nodes) (option_map view value) (at
    ∙ sym (frames_length nodes))).1

pub begins_value : (t : Token) (nodes : List OpenNode) (value new : Option Tree)
    → place t (frame_views nodes) ≡ length nodes → value ≡ None
    → first_state t ≡ ([], option_map view new)
    → put t (frame_views nodes) (option_map view value) ≡ Some (state_view nodes new)
begins_value t nodes value new at is e = begun_is t nodes value at is
    ∙ ap (λ s. Some (frame_views nodes ++ s.0, s.1)) e
    ∙ ap (λ l. Some (l, option_map view new)) (append-nil (frame_views nodes))

pub begins_node : (t : Token) (nodes : List OpenNode) (value new : Option Tree) (node : OpenNode)
    → place t (frame_views nodes) ≡ length nodes → value ≡ None
    → first_state t ≡ (frame_view node ∷ [], option_map view new)
    → put t (frame_views nodes) (option_map view value) ≡ Some (state_view (nodes ++ node ∷ []) new)
begins_node t nodes value new node at is e = begun_is t nodes value at is
    ∙ ap (λ s. Some (frame_views nodes ++ s.0, s.1)) e
    ∙ ap (λ l. Some (l, option_map view new)) (sym (frames_append nodes (node ∷ [])))

pub begins_deep : (nodes : List OpenNode) (node : OpenNode) (new : Option Tree) → 16 ≤ length nodes
    → 16 < length (state_view (nodes ++ node ∷ []) new).0
begins_deep nodes node new h = let e = frames_length (nodes ++ node ∷ [])
    ∙ length-append nodes (node ∷ []) in omega arith

pub record Next (t : Token) (all rest : List OpenNode) (node : OpenNode) (n : ℕ)
    (o : Option Data) : Type 0 where
  pub puts : put t (frame_views all) o ≡ onto (frame_views rest)
      (next t (frame_view node) (closed_value (frame_views (drop (n + 1) all)) o))
  pub twice : doubles t (frame_views all) ≡ is_repeated t (frame_view node)
  pub front : length rest ≡ n

pub next_node : (t : Token) (all rest : List OpenNode) (node : OpenNode) (n : ℕ) (o : Option Data)
    → n ≡ place t (frame_views all) → n + 1 ≤ length all → take (n + 1) all ≡ rest ++ node ∷ []
    → Next t all rest node n o
next_node t all rest node n o at h e =
    let l = sym (length-take-le (n + 1) all h) ∙ ap length e ∙ length-append rest (node ∷ []) in
    let front : length rest ≡ n = omega arith in
    let whole : all ≡ rest ++ (node ∷ drop (n + 1) all) = sym (take-append-drop (n + 1) all)
    ∙ ap (λ l. l ++ drop (n + 1) all) e ∙ append_assoc rest (node ∷ []) (drop (n + 1) all) in
    let seen : frame_views all ≡ frame_views rest ++ frame_view node ∷ frame_views
    (drop (n + 1) all) = ap frame_views whole ∙ frames_append rest (node ∷ drop (n + 1) all) in
    let both = put_next t (frame_views rest) (frame_view node) (frame_views (drop (n + 1) all)) o
    (ap (place t) (sym seen) ∙ sym at ∙ sym front ∙ sym (frames_length rest)) in
    record {
      puts = ap (λ fs. put t fs o) seen ∙ both.0;
      twice = ap (doubles t) seen
          ∙ both.1;
      front = front;
    }

pub next_refused : (t : Token) (all rest : List OpenNode) (node : OpenNode) (n : ℕ)
    (o : Option Data) (tree : Tree) (why : PlaceError) → Next t all rest node n o
    → view tree ≡ closed_value (frame_views (drop (n + 1) all)) o
    → Continues (next t (frame_view node) (view tree)) (is_repeated t (frame_view node)) (Err why)
    → Puts (put t (frame_views all) o) (doubles t (frame_views all)) (Err why)
next_refused t all rest node n o tree Indent h e g = h.puts
    ∙ ap (λ d. onto (frame_views rest) (next t (frame_view node) d)) (sym e)
    ∙ ap (onto (frame_views rest)) g
next_refused t all rest node n o tree DuplicateKey h e g = (
  (frame_views rest ++ g.0.0, g.0.1),
  h.puts
      ∙ ap (λ d. onto (frame_views rest) (next t (frame_view node) d)) (sym e)
      ∙ ap (onto (frame_views rest)) g.1,
  h.twice ∙ g.2,
)
next_refused t all rest node n o tree Deep h e g = (
  (frame_views rest ++ g.0.0, g.0.1),
  h.puts
      ∙ ap (λ d. onto (frame_views rest) (next t (frame_view node) d)) (sym e)
      ∙ ap (onto (frame_views rest)) g.1,
  (let k =
      g.2 in omega (arith, length-append (frame_views rest) g.0.0)),
  h.twice ∙ g.3,
)
next_refused t all rest node n o tree NoMemory h e g = tt

pub next_put : (t : Token) (all rest : List OpenNode) (node new : OpenNode) (n : ℕ)
    (o : Option Data) (tree : Tree) (value : Option Tree) → Next t all rest node n o
    → view tree ≡ closed_value (frame_views (drop (n + 1) all)) o
    → next t (frame_view node) (view tree) ≡ Some (frame_view new ∷ [], option_map view value)
    → put t (frame_views all) o ≡ Some (state_view (rest ++ new ∷ []) value)
next_put t all rest node new n o tree value h e g =
    h.puts ∙ ap (λ d. onto (frame_views rest) (next t (frame_view node) d)) (sym e)
    ∙ ap (onto (frame_views rest)) g
    ∙ ap (λ l. Some (l, option_map view value)) (sym (frames_append rest (new ∷ [])))

pub closed_or_null : (fs : List Frame) (o : Option Data)
    → closed_value fs o ≡ closed_value fs (Some (unwrap_or o null))
closed_or_null [] None = refl
closed_or_null [] (Some d) = refl
closed_or_null (f ∷ fs) o = ap (close f) (closed_or_null fs o)

-- a key that isn't added
equal : (c : ℕ) → (c == c) ≡ true
equal c = grind arith

pub added : (c : ℕ) (ms : List (List ℕ × Data)) (l k : List ℕ) (v : Option Data) (d : Data)
    (why : PlaceError) → Adds (members c ms l) d k (Err why)
    → Continues (next (pair c k v) (members c ms l) d) (is_repeated (pair c k v) (members c ms l))
    (Err why)
added c ms l k v d DuplicateKey h = (
  (members c (ms ++ (l, d) ∷ []) k ∷ [], v),
  ap
      (λ x. if x then Some (members c (ms ++ (l, d) ∷ []) k ∷ [], v) else None) (equal c),
  h,
)
added c ms l k v d NoMemory h = tt
added c ms l k v d other h = absurd h

pub goes : (t u : Token) (f g : Frame) (d : Data) (why : PlaceError) → t ≡ u → f ≡ g
    → Continues (next u g d) (is_repeated u g) (Err why)
    → Continues (next t f d) (is_repeated t f) (Err why)
goes t u f g d why e h x = subst (λ t. Continues (next t f d) (is_repeated t f) (Err why)) (sym e)
    (subst (λ f. Continues (next u f d) (is_repeated u f) (Err why)) (sym h) x)
