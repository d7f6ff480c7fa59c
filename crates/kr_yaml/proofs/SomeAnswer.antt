-- A text has an answer: its tree, or its first breach.
use Rattle.std.proofs.Common.{◌≡◌, ℕ, ◌<◌, ◌≤◌, ◌≢◌, Bool, true, false, List, [], ◌∷◌, ◌++◌, ◌⊎◌}
use Rattle.std.proofs.Common.{inl, inr, Option, None, Some, Ok, Err, refl, sym, ap, ◌∙◌, subst}
use Rattle.std.proofs.Common.{arith}
use Rattle.std.specs.Prelude.{nat_lt}
use Rattle.std.proofs.lemmas.List.{append_assoc, append-nil}
use Rattle.kr_yaml.specs.Lines.{Token}
use Rattle.kr_yaml.specs.Data.{Data}
use Rattle.kr_yaml.specs.Forms.{Form, Shape, flat}
use Rattle.kr_yaml.specs.inner.Open.{State, put, doubles, run, closed_value}
use Rattle.kr_yaml.specs.inner.Standing.{Stands, empty}
use Rattle.kr_yaml.specs.Reads.{plain, MakesTree, FormNone, BreaksTree, IsFirst}
use Rattle.kr_yaml.specs.Reads.{Refuses}
use Rattle.kr_yaml.specs.Laws.{AnswerOf, SomeAnswer}
use Rattle.kr_yaml.specs.declared.yaml_no.YamlNo.{YamlNo}
use Rattle.kr_yaml.specs.declared.yaml_no.YamlNo.TheVariants.{Outside, Indent, DuplicateKey, Deep}
use Rattle.kr_yaml.specs.declared.yaml_no.YamlNo.TheVariants.{NoMemory}
use Rattle.kr_yaml.proofs.Grown.{Grows, grows, stands_node}
use Rattle.kr_yaml.proofs.Runs.{start}
use Rattle.kr_yaml.proofs.Following.{plain_push, run_more, none_forms, first_more}

-- the tokens so far make a tree, and this stands
record Stood (us : List (ℕ × Token)) : Type 0 where
  st : State
  shape : Shape
  stands : Stands 0 (plain us) st.0 st.1 shape
  levels : shape.levels ≤ 16
  once : shape.twice ≡ false
  runs : run (plain us) start ≡ Some st

-- they have a first breach
record Broke (us : List (ℕ × Token)) : Type 0 where
  why : YamlNo
  first : IsFirst us why

makes : (us : List (ℕ × Token)) (g : Stood us) → MakesTree (plain us) (closed_value g.st.0 g.st.1)
makes us g = record {
  shape = g.shape;
  forms = stands_node 0 (plain us) g.st.0 g.st.1 g.shape
      g.stands;
  levels = g.levels;
  once = g.once;
}

breaks : (us : List (ℕ × Token)) (n : ℕ) (t : Token) (P : List Token → Type 0) → Stood us
    → P (plain us ++ t ∷ []) → BreaksTree (us ++ (n, t) ∷ []) n P
breaks us n t P g h = record {
  before = us;
  token = t;
  after = [];
  split = refl;
  tree =
      closed_value g.st.0 g.st.1;
  makes = makes us g;
  breach = h;
}

more_levels : (n : ℕ) → nat_lt 16 n ≡ true → 16 < n
more_levels n h = grind arith

few_levels : (n : ℕ) → nat_lt 16 n ≡ false → n ≤ 16
few_levels n h = grind arith

-- the tokens form a tree, and this holds of its shape
abbrev FormWith : (Shape → Type 0) → List Token → Type 0
FormWith P ts = (d : Data) × (s : Shape) × Form ts d s × P s

-- with this token they form one whose shape is refused
broken : (us : List (ℕ × Token)) (n : ℕ) (t : Token) (g : Stood us) (new : State)
    (m : Grows 0 (plain us) t (doubles t g.st.0) g.shape new) (P : Shape → Type 0)
    → P m.shape → BreaksTree (us ++ (n, t) ∷ []) n (FormWith P)
broken us n t g new m P h = breaks us n t (FormWith P) g (
  closed_value new.0 new.1,
  m.shape,
  stands_node 0 (plain us ++ t ∷ []) new.0 new.1 m.shape m.stands,
  h,
)

single : (us : List (ℕ × Token)) (n : ℕ) (t : Token) (g : Stood us) (new : State)
    → put t g.st.0 g.st.1 ≡ Some new → (m : Grows 0 (plain us) t (doubles t g.st.0) g.shape new)
    → m.shape.twice ≡ false → (v : Bool) → (v ≡ true → 16 < m.shape.levels)
    → (v ≡ false → m.shape.levels ≤ 16)
    → Stood (us ++ (n, t) ∷ []) ⊎ Broke (us ++ (n, t) ∷ [])
single us n t g new e m once true deep few = inr (record {
  why = Deep n;
  first = broken us n t g new m (λ s. 16 < s.levels) (deep refl);
})
single us n t g new e m once false deep few = inl (record {
  st = new;
  shape = m.shape;
  stands = subst (λ ts. Stands 0 ts new.0 new.1 m.shape) (sym (plain_push us n t)) m.stands;
  levels = few refl;
  once = once;
  runs = ap (λ ts. run ts start) (plain_push us n t) ∙ run_more (plain us) t g.st (Some new) g.runs
      e;
})

grown : (us : List (ℕ × Token)) (n : ℕ) (t : Token) (g : Stood us) (new : State)
    → put t g.st.0 g.st.1 ≡ Some new → (m : Grows 0 (plain us) t (doubles t g.st.0) g.shape new)
    → (v : Bool) → m.shape.twice ≡ v → Stood (us ++ (n, t) ∷ []) ⊎ Broke (us ++ (n, t) ∷ [])
grown us n t g new e m true twice = inr (record {
  why = DuplicateKey n;
  first = broken us n t g new m (λ s. s.twice ≡ true) twice;
})
grown us n t g new e m false once = single us n t g new e m once (nat_lt 16 m.shape.levels)
    (more_levels m.shape.levels) (few_levels m.shape.levels)

stood_more : (us : List (ℕ × Token)) (n : ℕ) (t : Token) (g : Stood us) (r : Option State)
    → put t g.st.0 g.st.1 ≡ r → Stood (us ++ (n, t) ∷ []) ⊎ Broke (us ++ (n, t) ∷ [])
stood_more us n t g None e =
    inr (record {
      why = Indent n;
      first = breaks us n t FormNone g (none_forms (plain us) t g.st
          g.runs e);
    })
stood_more us n t g (Some new) e =
    let m = grows 0 (plain us) g.st.0 g.st.1 g.shape g.stands t (omega arith) new e in
    grown us n t g new e m m.shape.twice refl

abbrev Reached : List (ℕ × Token) → Type 0
Reached us = Stood us ⊎ Broke us

more : (us : List (ℕ × Token)) (n : ℕ) (t : Token) → Reached us → Reached (us ++ (n, t) ∷ [])
more us n t (inl g) = stood_more us n t g (put t g.st.0 g.st.1) refl
more us n t (inr b) = inr (record { why = b.why; first = first_more us b.why n t b.first })

all : (vs us : List (ℕ × Token)) → Reached us → Reached (us ++ vs)
all [] us h = subst Reached (sym (append-nil us)) h
all (v ∷ vs) us h = subst Reached (append_assoc us (v ∷ []) vs)
    (all vs (us ++ v ∷ []) (more us v.0 v.1 h))

none_yet : Stood []
none_yet = record {
  st = start;
  shape = flat;
  stands = empty 0;
  levels = omega arith;
  once =
      refl;
  runs = refl;
}

refuses : (us : List (ℕ × Token)) (why : YamlNo) → IsFirst us why
    → Refuses (Ok us) why × (why ≢ NoMemory)
refuses us (Outside n) h = absurd h
refuses us NoMemory h = absurd h
refuses us other h = (h, λ e. cc)

answered : (us : List (ℕ × Token)) → Reached us → AnswerOf (Ok us)
answered us (inl g) = inl (closed_value g.st.0 g.st.1, makes us g)
answered us (inr b) = let r = refuses us b.why b.first in inr (b.why, r.0, r.1)

pub some_answer : SomeAnswer
some_answer (Ok us) = answered us (all us [] (inl none_yet))
some_answer (Err n) = inr (Outside n, refl, λ e. cc)
