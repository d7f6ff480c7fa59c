-- The steps of reading the tokens of a text.
use Rattle.std.proofs.Common.{◌≡◌, ℕ, ◌+◌, ◌<◌, ◌≤◌, Bool, true, List, [], ◌∷◌, ◌++◌, length, drop}
use Rattle.std.proofs.Common.{Option, None, Some, Result, Ok, Err, refl, sym, ap, ◌∙◌, subst, arith}
use Rattle.std.proofs.Common.{suc, add-one, drop-cons, get_or, map}
use Rattle.std.specs.Prelude.{option_and_then, ◌&&◌}
use Rattle.std.specs.Option.{option_map}
use Rattle.std.proofs.lemmas.List.{append_assoc, append-nil, drop_all}
use Rattle.kr_yaml.specs.Lines.{Token}
use Rattle.kr_yaml.specs.Forms.{flat}
use Rattle.kr_yaml.specs.Shown.{view}
use Rattle.kr_yaml.specs.inner.Open.{State, put, doubles, run, closed_value}
use Rattle.kr_yaml.specs.inner.Frames.{frame_views, state_view}
use Rattle.kr_yaml.specs.inner.Standing.{Stands, empty}
use Rattle.kr_yaml.specs.Lines.{at_line}
use Rattle.kr_yaml.specs.inner.TextReading.{before_rest, tokens_from}
use Rattle.kr_yaml.specs.Bytes.{is_empty}
use Rattle.kr_yaml.specs.inner.TextReading.{line_tokens}
use Rattle.kr_base.specs.Numbering.{next_place}
use Rattle.kr_yaml.specs.Reads.{plain, MakesTree, FormNone, FormTwice, FormDeep, BreaksTree, IsFirst}
use Rattle.kr_yaml.specs.Reads.{ReadsTree, OnlyTree, NoTree}
use Rattle.kr_yaml.specs.inner.Progress.{Fails, Moves, IsGoing, HoldsTokens, Extends, ReadsLines}
use Rattle.kr_yaml.specs.declared.standing.Standing.{Standing as Nodes}
use Rattle.kr_yaml.specs.declared.tree.Tree.{Tree}
use Rattle.kr_yaml.specs.declared.progress.Progress.{Progress}
use Rattle.kr_yaml.specs.declared.progress.Progress.TheVariants.{Going, Broken}
use Rattle.kr_yaml.specs.declared.yaml_no.YamlNo.{YamlNo}
use Rattle.kr_yaml.specs.declared.yaml_no.YamlNo.TheVariants.{Indent, DuplicateKey, Deep}
use Rattle.kr_yaml.proofs.Grown.{grows, stands_node, frames_levels}
use Rattle.kr_yaml.proofs.Putting.{frames_length}
use Rattle.kr_yaml.proofs.Breaches.{first_none}
use Rattle.kr_yaml.proofs.Runs.{run_append, node_ran, one_tree, start}

pub plain_push : (us : List (ℕ × Token)) (n : ℕ) (t : Token) → plain (us ++ (n, t) ∷ [])
    ≡ plain us ++ t ∷ []
plain_push [] n t = refl
plain_push (u ∷ us) n t = ap (λ l. u.1 ∷ l) (plain_push us n t)

-- what stands makes a tree
pub going_makes : (us : List (ℕ × Token)) (nodes : Nodes) → IsGoing us nodes
    → MakesTree (plain us) (closed_value (frame_views nodes.nodes.items) (option_map view nodes.value))
going_makes us nodes g = record {
  shape = g.shape;
  forms = stands_node 0 (plain us)
      (frame_views nodes.nodes.items) (option_map view nodes.value) g.shape g.stands;
  levels =
      g.levels;
  once = g.once;
}

-- a run that is known, and one token more
pub run_more : (us : List Token) (t : Token) (st : State) (r : Option State)
    → run us start ≡ Some st → put t st.0 st.1 ≡ r → run (us ++ t ∷ []) start
    ≡ option_and_then (run []) r
run_more us t st r h e = run_append us (t ∷ []) start ∙ ap (option_and_then (run (t ∷ []))) h
    ∙ ap (option_and_then (run [])) e

none_some : (st : State) → None ≡ Some st → ⊥
none_some st e = cc

pub none_forms : (us : List Token) (t : Token) (st : State) → run us start ≡ Some st
    → put t st.0 st.1 ≡ None → FormNone (us ++ t ∷ [])
none_forms us t st h e more d s form =
    let r = node_ran 0 ((us ++ t ∷ []) ++ more) d s form in
    none_some r.st (sym (run_append (us ++ t ∷ []) more start
    ∙ ap (option_and_then (run more)) (run_more us t st None h e)) ∙ r.runs)

breaks_more : (us : List (ℕ × Token)) (line : ℕ) (P : List Token → Type 0) (n : ℕ) (t : Token)
    → BreaksTree us line P → BreaksTree (us ++ (n, t) ∷ []) line P
breaks_more us line P n t b = record {
  before = b.before;
  token = b.token;
  after = b.after ++ (n, t) ∷ [];
  split = ap (λ l. l ++ (n, t) ∷ []) b.split ∙ append_assoc b.before ((line, b.token) ∷ b.after)
      ((n, t) ∷ []);
  tree = b.tree;
  makes = b.makes;
  breach = b.breach;
}

pub first_more : (us : List (ℕ × Token)) (why : YamlNo) (n : ℕ) (t : Token) → IsFirst us why
    → IsFirst (us ++ (n, t) ∷ []) why
first_more us (Indent line) n t h = breaks_more us line FormNone n t h
first_more us (DuplicateKey line) n t h = breaks_more us line FormTwice n t h
first_more us (Deep line) n t h = breaks_more us line FormDeep n t h
first_more us other n t h = absurd h

breaks_here : (us : List (ℕ × Token)) (nodes : Nodes) (n : ℕ) (t : Token) (P : List Token → Type 0)
    → IsGoing us nodes → P (plain us ++ t ∷ []) → BreaksTree (us ++ (n, t) ∷ []) n P
breaks_here us nodes n t P g h = record {
  before = us;
  token = t;
  after = [];
  split = refl;
  tree =
      closed_value (frame_views nodes.nodes.items) (option_map view nodes.value);
  makes =
      going_makes us nodes g;
  breach = h;
}

failed : (us : List (ℕ × Token)) (nodes : Nodes) (n : ℕ) (t : Token) (why : YamlNo)
    → IsGoing us nodes → Fails (put t (frame_views nodes.nodes.items) (option_map view nodes.value))
    (doubles t (frame_views nodes.nodes.items)) n why → IsFirst (us ++ (n, t) ∷ []) why
failed us nodes n t (Indent line) g f =
    subst (λ m. BreaksTree (us ++ (n, t) ∷ []) m FormNone) (sym f.0) (breaks_here us nodes n t FormNone
    g (none_forms (plain us) t (state_view nodes.nodes.items nodes.value) g.runs f.1))
failed us nodes n t (DuplicateKey line) g f =
    let m = grows 0 (plain us) (frame_views nodes.nodes.items) (option_map view nodes.value) g.shape
    g.stands t (omega arith) f.1.0 f.1.1 in
    subst (λ m. BreaksTree (us ++ (n, t) ∷ []) m FormTwice) (sym f.0)
    (breaks_here us nodes n t FormTwice g (
      closed_value f.1.0.0 f.1.0.1,
      m.shape,
      stands_node 0 (plain us ++ t ∷ []) f.1.0.0 f.1.0.1
          m.shape m.stands,
      m.twice g.once ∙ f.1.2,
    ))
failed us nodes n t (Deep line) g f =
    let m = grows 0 (plain us) (frame_views nodes.nodes.items) (option_map view nodes.value) g.shape
    g.stands t (omega arith) f.1.0 f.1.1 in
    let l = frames_levels 0 (plain us ++ t ∷ []) f.1.0.0 f.1.0.1 m.shape m.stands in
    let k = f.1.2 in
    subst (λ m. BreaksTree (us ++ (n, t) ∷ []) m FormDeep) (sym f.0) (breaks_here us nodes n t FormDeep
    g (
      closed_value f.1.0.0 f.1.0.1,
      m.shape,
      stands_node 0 (plain us ++ t ∷ []) f.1.0.0 f.1.0.1
          m.shape m.stands,
      omega arith,
    ))
failed us nodes n t other g f = absurd f

frames_count : (nodes : Nodes) → length (frame_views nodes.nodes.items) ≤ 16
frames_count nodes = let few : length nodes.nodes.items ≤ 16 =
    nodes.few in omega (arith, frames_length nodes.nodes.items)

-- one token more
pub moved : (us : List (ℕ × Token)) (n : ℕ) (t : Token) (old new : Progress) → HoldsTokens us old
    → Moves old n t new → HoldsTokens (us ++ (n, t) ∷ []) new
moved us n t (Going old) (Going new) g h =
    let m = grows 0 (plain us) (frame_views old.nodes.items) (option_map view old.value) g.shape
    g.stands t (omega arith) (state_view new.nodes.items new.value) h.0 in
    let few = frames_count new in
    let l = m.levels in
    let k = g.levels in
    record {
      shape = m.shape;
      stands = subst (λ ts. Stands 0 ts (frame_views new.nodes.items) (option_map view new.value)
          m.shape) (sym (plain_push us n t)) m.stands;
      levels = omega arith;
      once = m.twice g.once ∙ h.1;
      runs = ap (λ ts. run ts start) (plain_push us n t)
          ∙ run_more (plain us) t (state_view old.nodes.items old.value)
          (Some (state_view new.nodes.items new.value)) g.runs h.0;
    }
moved us n t (Going old) (Broken why) g h = failed us old n t why g h
moved us n t (Broken why) (Going new) g h = absurd h
moved us n t (Broken why) (Broken now) g h = subst (λ w. IsFirst (us ++ (n, t) ∷ []) w) (sym h)
    (first_more us why n t g)

numbered_push : (n : ℕ) (ts : List Token) (t : Token) → at_line n (ts ++ t ∷ [])
    ≡ at_line n ts ++ (n, t) ∷ []
numbered_push n [] t = refl
numbered_push n (x ∷ ts) t = ap (λ l. (n, x) ∷ l) (numbered_push n ts t)

pub same_items : {X : Type 0} (xs : List X) → map (λ x. x) xs ≡ xs
same_items [] = refl
same_items (x ∷ xs) = ap (λ l. x ∷ l) (same_items xs)

pub extends_none : (old : Progress) (n : ℕ) → Extends old n [] old
extends_none old n = λ us h. subst (λ l. HoldsTokens l old) (sym (append-nil us)) h

pub extends_more : (old now new : Progress) (n : ℕ) (ts : List Token) (t : Token)
    → Extends old n ts now → Moves now n t new → Extends old n (ts ++ t ∷ []) new
extends_more old now new n ts t e m = λ us h.
    subst (λ l. HoldsTokens l new) (append_assoc us (at_line n ts) ((n, t) ∷ [])
    ∙ ap (λ l. us ++ l) (sym (numbered_push n ts t))) (moved (us ++ at_line n ts) n t now new
    (e us h) m)

-- with the tokens of the lines before
abbrev pub with_seen : List (ℕ × Token) → Result (List (ℕ × Token)) ℕ → Result (List (ℕ × Token)) ℕ
with_seen us (Err n) = Err n
with_seen us (Ok vs) = Ok (us ++ vs)

seen_none : (r : Result (List (ℕ × Token)) ℕ) → r ≡ with_seen [] r
seen_none (Err n) = refl
seen_none (Ok vs) = refl

seen_line : (us : List (ℕ × Token)) (n : ℕ) (ts : List Token) (r : Result (List (ℕ × Token)) ℕ)
    → with_seen us (before_rest n (Some ts) r) ≡ with_seen (us ++ at_line n ts) r
seen_line us n ts (Err m) = refl
seen_line us n ts (Ok vs) = ap Ok (sym (append_assoc us (at_line n ts) vs))

-- the lines so far were read
pub record Reading (lines : List (List ℕ)) (i n : ℕ) (first : Bool) (progress : Progress) : Type 0
  where
    pub us : List (ℕ × Token)
    pub walked : tokens_from 1 true lines ≡ with_seen us (tokens_from n first (drop i lines))
    pub stays : HoldsTokens us progress

pub reading_begins : (lines : List (List ℕ)) (nodes : Nodes) → nodes.nodes.items ≡ []
    → nodes.value ≡ None → Reading lines 0 1 true (Going nodes)
reading_begins lines nodes e v = record {
  us = [];
  walked = seen_none (tokens_from 1 true lines);
  stays = record {
    shape = flat;
    stands = subst (λ x. Stands 0 [] x (option_map view nodes.value) flat) (sym (ap frame_views e))
        (subst (λ o. Stands 0 [] [] o flat) (sym (ap (option_map view) v)) (empty 0));
    levels = omega arith;
    once = refl;
    runs = ap (λ x. Some x) (sym (ap (λ l. state_view l nodes.value) e
        ∙ ap (λ o. state_view [] o) v));
  };
}

front : {Y : Type 0} (F : List (List ℕ) → Y) (lines : List (List ℕ)) (i : ℕ) (line : List ℕ)
    → i < length lines → line ≡ get_or lines i line
    → F (drop i lines) ≡ F (line ∷ drop (i + 1) lines)
front F lines i line h is = ap F (drop-cons lines i line h)
    ∙ ap (λ l. F (l ∷ drop (suc i) lines)) (sym is)
    ∙ ap (λ n. F (line ∷ drop n lines)) (sym (add-one i))

pub reading_more : (lines : List (List ℕ)) (i j n m : ℕ) (first now : Bool) (old new : Progress)
    (line : List ℕ) (ts : List Token) → Reading lines i n first old
    → (i < length lines) × (line ≡ get_or lines i line) → j ≡ i + 1
    → line_tokens first line ≡ Some ts → Extends old n ts new → now ≡ (first && is_empty line)
    → m ≡ next_place n → Reading lines j m now new
reading_more lines i j n m first now old new line ts r h next e x f k =
    subst (λ j. Reading lines j m now new) (sym next)
    (record {
      us = r.us ++ at_line n ts;
      walked = r.walked ∙ front (λ l. with_seen r.us (tokens_from n first l)) lines i line h.0 h.1
          ∙ ap (λ o. with_seen r.us
          (before_rest n o (tokens_from (next_place n) (first && is_empty line)
          (drop (i + 1) lines)))) e
          ∙ seen_line r.us n ts (tokens_from (next_place n) (first && is_empty line)
          (drop (i + 1) lines))
          ∙ ap (λ b. with_seen (r.us ++ at_line n ts) (tokens_from (next_place n) b
          (drop (i + 1) lines))) (sym f)
          ∙ ap (λ a. with_seen (r.us ++ at_line n ts) (tokens_from a now (drop (i + 1) lines)))
          (sym k);
      stays = x r.us r.stays;
    })

pub reading_stops : (lines : List (List ℕ)) (i n : ℕ) (first : Bool) (old : Progress)
    (line : List ℕ) → Reading lines i n first old
    → (i < length lines) × (line ≡ get_or lines i line)
    → line_tokens first line ≡ None → tokens_from 1 true lines ≡ Err n
reading_stops lines i n first old line r h e = r.walked
    ∙ front (λ l. with_seen r.us (tokens_from n first l)) lines i line h.0 h.1
    ∙ ap (λ o. with_seen r.us (before_rest n o (tokens_from (next_place n) (first && is_empty line)
    (drop (i + 1) lines)))) e

pub reading_ends : (lines : List (List ℕ)) (i n : ℕ) (first : Bool) (old : Progress)
    → Reading lines i n first old → i ≡ length lines → (us : List (ℕ × Token))
    × (tokens_from 1 true lines ≡ Ok us) × HoldsTokens us old
reading_ends lines i n first old r h = (
  r.us,
  r.walked
      ∙ ap (λ l. with_seen r.us (tokens_from n first l)) (drop_all i lines (omega arith))
      ∙ ap Ok (append-nil r.us),
  r.stays,
)

pub read_made : (wanted : Result (List (ℕ × Token)) ℕ) (progress : Progress) (nodes : Nodes)
    (tree : Tree) → ReadsLines wanted (Ok progress) → progress ≡ Going nodes
    → view tree ≡ closed_value (frame_views nodes.nodes.items) (option_map view nodes.value)
    → ReadsTree wanted tree
read_made wanted progress nodes tree r e t = subst (λ w. ReadsTree w tree) (sym r.1)
    (subst (MakesTree (plain r.0)) (sym t) (going_makes r.0 nodes (subst (HoldsTokens r.0) e r.2)))

pub reads_only : (wanted : Result (List (ℕ × Token)) ℕ) (tree : Tree) → ReadsTree wanted tree
    → OnlyTree wanted (view tree)
reads_only (Ok us) tree m = λ d s f. one_tree (plain us) d (view tree) s m.shape f m.forms
reads_only (Err n) tree m = m

-- where a breach is answered there is no tree
pub broken_none : (wanted : Result (List (ℕ × Token)) ℕ) (progress : Progress) (why : YamlNo)
    → ReadsLines wanted (Ok progress) → progress ≡ Broken why → NoTree wanted why
broken_none wanted progress why r e = subst (λ w. NoTree w why) (sym r.1)
    (first_none r.0 why (subst (HoldsTokens r.0) e r.2))
