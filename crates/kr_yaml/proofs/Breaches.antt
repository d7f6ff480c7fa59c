-- Where tokens have a breach they make no tree, whatever stands behind them.
use Rattle.std.proofs.Common.{◌≡◌, ℕ, List, [], ◌∷◌, ◌++◌, Option, None, Some, Ok, refl, sym, ap}
use Rattle.std.proofs.Common.{◌∙◌, subst, arith}
use Rattle.std.specs.Prelude.{option_and_then, unwrap_or}
use Rattle.std.proofs.lemmas.List.{append_assoc, append-nil, map-append}
use Rattle.kr_yaml.specs.Data.{Data}
use Rattle.kr_yaml.specs.Lines.{Token}
use Rattle.kr_yaml.specs.Forms.{Shape, flat, Form}
use Rattle.kr_yaml.specs.inner.Open.{State, put, run, closed_value}
use Rattle.kr_yaml.specs.inner.Standing.{Stands, empty}
use Rattle.kr_yaml.specs.Reads.{plain, MakesTree, FormNone, FormTwice, FormDeep, BreaksTree, IsFirst}
use Rattle.kr_yaml.specs.Reads.{NoTree}
use Rattle.kr_yaml.specs.declared.yaml_no.YamlNo.{YamlNo}
use Rattle.kr_yaml.specs.declared.yaml_no.YamlNo.TheVariants.{Outside, Indent, DuplicateKey, Deep}
use Rattle.kr_yaml.specs.declared.yaml_no.YamlNo.TheVariants.{NoMemory}
use Rattle.kr_yaml.proofs.Grown.{Within, grows, stands_node}
use Rattle.kr_yaml.proofs.Runs.{run_append, node_ran, start}
use Rattle.kr_yaml.proofs.Shapes.{one_shape}

-- more tokens were put
pub record Went (ts : List Token) (s : Shape) (st : State) : Type 0 where
  pub shape : Shape
  pub stands : Stands 0 ts st.0 st.1 shape
  pub more : Within s shape

within_same : (s : Shape) → Within s s
within_same s = record { levels = omega arith; twice = λ e. e }

within_within : (s t u : Shape) → Within s t → Within t u → Within s u
within_within s t u h k = record {
  levels = (let a = h.levels in let b = k.levels in omega arith);
  twice = λ e. k.twice (h.twice e);
}

some_same : {X : Type 0} (x y : X) → Some x ≡ Some y → x ≡ y
some_same x y e = ap (λ o. unwrap_or o x) e

abbrev pub WentBy : List Token → Type 0
WentBy qs = (ts : List Token) (st new : State) (s : Shape) → Stands 0 ts st.0 st.1 s
    → run qs st ≡ Some new → Went (ts ++ qs) s new

went_at : (t : Token) (qs ts : List Token) (st new : State) (s : Shape) (r : Option State)
    → put t st.0 st.1 ≡ r → WentBy qs → Stands 0 ts st.0 st.1 s → option_and_then (run qs) r
    ≡ Some new → Went (ts ++ t ∷ qs) s new
went_at t qs ts st new s None q rest h e = cc
went_at t qs ts st new s (Some mid) q rest h e =
    let g = grows 0 ts st.0 st.1 s h t (omega arith) mid q in
    let w = rest (ts ++ t ∷ []) mid new g.shape g.stands e in
    record {
      shape = w.shape;
      stands = subst (λ l. Stands 0 l new.0 new.1 w.shape) (append_assoc ts (t ∷ []) qs) w.stands;
      more = within_within s g.shape w.shape g.more w.more;
    }

pub went : (qs : List Token) → WentBy qs
went [] = λ ts st new s h e. subst (Went (ts ++ []) s) (some_same st new e)
    (record {
      shape = s;
      stands = subst (λ l. Stands 0 l st.0 st.1 s) (sym (append-nil ts)) h;
      more = within_same s;
    })
went (t ∷ qs) = λ ts st new s h e. went_at t qs ts st new s (put t st.0 st.1) refl (went qs) h e

pub put_run : (r : Option State) (new : State) → option_and_then (run []) r ≡ Some new
    → r ≡ Some new
put_run None new e = cc
put_run (Some st) new e = e

-- what begins a form is within it
pub front_within : (xs ys : List Token) (d e : Data) (s t : Shape) → Form xs d s
    → Form (xs ++ ys) e t → Within s t
front_within xs ys d e s t f g =
    let x = node_ran 0 xs d s f in
    let y = node_ran 0 (xs ++ ys) e t g in
    let v = went xs [] start x.st flat (empty 0) x.runs in
    let w = went ys xs x.st y.st v.shape v.stands (sym (run_append xs ys start
    ∙ ap (option_and_then (run ys)) x.runs) ∙ y.runs) in
    let front : s ≡ v.shape = one_shape xs d (closed_value x.st.0 x.st.1) s v.shape f
    (stands_node 0 xs x.st.0 x.st.1 v.shape v.stands) in
    let whole : t ≡ w.shape = one_shape (xs ++ ys) e (closed_value y.st.0 y.st.1) t w.shape g
    (stands_node 0 (xs ++ ys) y.st.0 y.st.1 w.shape w.stands) in
    subst (λ t. Within s t) (sym whole) (subst (λ s. Within s w.shape) (sym front) w.more)

-- behind such tokens there is no tree
abbrev pub Stops : (List Token → Type 0) → Type 0
Stops P = (ts more : List Token) (d : Data) → P ts → MakesTree (ts ++ more) d → ⊥

pub none_stops : Stops FormNone
none_stops ts more d h m = h more d m.shape m.forms

pub twice_stops : Stops FormTwice
twice_stops ts more d h m = let w = front_within ts more h.0 d h.1 m.shape h.2 m.forms in let t =
    w.twice h.3 in let o = m.once in cc

pub deep_stops : Stops FormDeep
deep_stops ts more d h m = let w = front_within ts more h.0 d h.1 m.shape h.2 m.forms in let l =
    w.levels in let k = h.3 in let o = m.levels in omega arith

pub plain_split : (us before after : List (ℕ × Token)) (n : ℕ) (t : Token)
    → us ≡ before ++ (n, t) ∷ after → plain us ≡ (plain before ++ t ∷ []) ++ plain after
plain_split us before after n t e = ap plain e ∙ map-append (λ (u : ℕ × Token). u.1) before
    ((n, t) ∷ after) ∙ sym (append_assoc (plain before) (t ∷ []) (plain after))

breaks_none : (us : List (ℕ × Token)) (n : ℕ) (P : List Token → Type 0) → Stops P → BreaksTree us n P
    → (d : Data) → MakesTree (plain us) d → ⊥
breaks_none us n P stops b d m = stops (plain b.before ++ b.token ∷ []) (plain b.after) d b.breach
    (subst (λ ts. MakesTree ts d) (plain_split us b.before b.after n b.token b.split) m)

pub first_stops : (us : List (ℕ × Token)) (why : YamlNo) → IsFirst us why → (d : Data)
    → MakesTree (plain us) d → ⊥
first_stops us (Outside n) h d m = h
first_stops us (Indent n) h d m = breaks_none us n FormNone none_stops h d m
first_stops us (DuplicateKey n) h d m = breaks_none us n FormTwice twice_stops h d m
first_stops us (Deep n) h d m = breaks_none us n FormDeep deep_stops h d m
first_stops us NoMemory h d m = h

pub first_none : (us : List (ℕ × Token)) (why : YamlNo) → IsFirst us why → NoTree (Ok us) why
first_none us (Outside n) h = first_stops us (Outside n) h
first_none us (Indent n) h = first_stops us (Indent n) h
first_none us (DuplicateKey n) h = first_stops us (DuplicateKey n) h
first_none us (Deep n) h = first_stops us (Deep n) h
first_none us NoMemory h = absurd h
