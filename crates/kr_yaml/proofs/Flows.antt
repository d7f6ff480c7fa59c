-- The steps of reading a flow list.
use Rattle.std.proofs.Common.{◌≡◌, ℕ, ◌+◌, ◌-◌, ◌<◌, ◌≤◌, List, [], ◌∷◌, ◌++◌, Option, None, Some}
use Rattle.std.proofs.Common.{refl, sym, ap, ◌∙◌, arith, suc, Err}
use Rattle.std.specs.Option.{option_map, option_map_or}
use Rattle.std.proofs.lemmas.List.{append-nil}
use Rattle.kr_yaml.specs.Bytes.{behind, skip}
use Rattle.kr_yaml.specs.Data.{Data}
use Rattle.kr_yaml.specs.inner.ScalarReading.{leading_scalar, data_of, with_front}
use Rattle.kr_yaml.specs.inner.LineReading.{scalars}
use Rattle.kr_yaml.specs.Shown.{view, views}
use Rattle.kr_yaml.specs.declared.tree.Tree.{Tree}
use Rattle.kr_yaml.specs.declared.scalar.Scalar.{Scalar}
use Rattle.kr_yaml.specs.declared.scalar.Context.TheVariants.{Flow}
use Rattle.kr_yaml.specs.declared.line_error.LineError.{LineError}
use Rattle.kr_yaml.specs.declared.line_error.LineError.TheVariants.{Form, NoMemory}
use Rattle.kr_yaml.specs.inner.Gives.{Gives, with_rest}
use Rattle.kr_yaml.specs.inner.Seen.{lent_trees}
use Rattle.kr_yaml.proofs.Quotes.{nil_bytes, join_bytes}

abbrev pub next : ℕ → List ℕ → Option (List Data × List ℕ)
next n bs = option_map_or (λ rest. scalars n rest) (behind 44 bs) (option_map (λ rest. ([], rest))
    (behind 93 bs))

abbrev pub with_scalar : ℕ → Option (Scalar × List ℕ) → Option (List Data × List ℕ)
with_scalar n o = option_map_or (λ x. with_front (data_of x.0 ∷ []) (next n (skip x.1))) o None

left : (n i : ℕ) → i < n → n - i ≡ suc (n - (i + 1))
left n i h = omega arith

pub scalars_begin : (n : ℕ) (text : List ℕ) → scalars n text ≡ with_front [] (scalars (n - 0) text)
scalars_begin n text = ap (λ m. scalars m text) (omega arith)
    ∙ sym (nil_bytes (scalars (n - 0) text))

scalars_step : (n i : ℕ) (text rest : List ℕ) (ds : List Data) (o : Option (Scalar × List ℕ))
    → i < n → scalars n text ≡ with_front ds (scalars (n - i) rest) → leading_scalar Flow (skip rest) ≡ o
    → scalars n text ≡ with_front ds (with_scalar (n - (i + 1)) o)
scalars_step n i text rest ds o h inv e = inv
    ∙ ap (λ m. with_front ds (scalars m rest)) (left n i h)
    ∙ ap (λ o. with_front ds (with_scalar (n - (i + 1)) o)) e

pub scalars_refused : (n i : ℕ) (text rest : List ℕ) (ds : List Data) → i < n
    → scalars n text ≡ with_front ds (scalars (n - i) rest) → leading_scalar Flow (skip rest) ≡ None
    → scalars n text ≡ None
scalars_refused n i text rest ds h inv e = scalars_step n i text rest ds None h inv e

pub scalars_why : (n i : ℕ) (text rest front : List ℕ) (ds : List Data) (why : LineError) → i < n
    → scalars n text ≡ with_front ds (scalars (n - i) rest) → front ≡ skip rest
    → Gives with_rest (leading_scalar Flow front) (Err why) → Gives lent_trees (scalars n text)
    (Err why)
scalars_why n i text rest front ds Form h inv e none = scalars_refused n i text rest ds h inv
    (sym (ap (leading_scalar Flow) e) ∙ none)
scalars_why n i text rest front ds NoMemory h inv e none = tt

scalars_read : (n i : ℕ) (text rest : List ℕ) (ds : List Data) (s : Scalar) (after : List ℕ) → i < n
    → scalars n text ≡ with_front ds (scalars (n - i) rest) → leading_scalar Flow (skip rest)
    ≡ Some (s, after)
    → scalars n text ≡ with_front (ds ++ data_of s ∷ []) (next (n - (i + 1)) (skip after))
scalars_read n i text rest ds s after h inv e = scalars_step n i text rest ds (Some (s, after)) h
    inv e ∙ sym (join_bytes ds (data_of s ∷ []) (next (n - (i + 1)) (skip after)))

pub scalars_go_on : (n i : ℕ) (text rest : List ℕ) (ds : List Data) (s : Scalar)
    (after more : List ℕ) → i < n → scalars n text ≡ with_front ds (scalars (n - i) rest)
    → leading_scalar Flow (skip rest) ≡ Some (s, after)
    → Some more ≡ behind 44 (skip after) → scalars n text ≡ with_front (ds ++ data_of s ∷ [])
    (scalars (n - (i + 1)) more)
scalars_go_on n i text rest ds s after more h inv e comma = scalars_read n i text rest ds s after h
    inv e
    ∙ ap (λ o. with_front (ds ++ data_of s ∷ []) (option_map_or (λ rest. scalars (n - (i + 1)) rest)
    o (option_map (λ rest. ([], rest)) (behind 93 (skip after))))) (sym comma)

pub scalars_end : (n i : ℕ) (text rest : List ℕ) (ds : List Data) (s : Scalar) (after more : List ℕ)
    → i < n → scalars n text ≡ with_front ds (scalars (n - i) rest) → leading_scalar Flow (skip rest)
    ≡ Some (s, after)
    → None ≡ behind 44 (skip after) → Some more ≡ behind 93 (skip after)
    → scalars n text ≡ Some (ds ++ data_of s ∷ [], more)
scalars_end n i text rest ds s after more h inv e comma bracket = scalars_read n i text rest ds s
    after h inv e
    ∙ ap (λ o. with_front (ds ++ data_of s ∷ []) (option_map_or (λ rest. scalars (n - (i + 1)) rest)
    o (option_map (λ rest. ([], rest)) (behind 93 (skip after))))) (sym comma)
    ∙ ap (λ o. with_front (ds ++ data_of s ∷ []) (option_map (λ rest. ([], rest)) o)) (sym bracket)
    ∙ ap (λ l. Some (l, more)) (append-nil (ds ++ data_of s ∷ []))

pub scalars_open : (n i : ℕ) (text rest : List ℕ) (ds : List Data) (s : Scalar) (after : List ℕ)
    → i < n → scalars n text ≡ with_front ds (scalars (n - i) rest) → leading_scalar Flow (skip rest)
    ≡ Some (s, after)
    → None ≡ behind 44 (skip after) → None ≡ behind 93 (skip after) → scalars n text ≡ None
scalars_open n i text rest ds s after h inv e comma bracket = scalars_read n i text rest ds s after
    h inv e
    ∙ ap (λ o. with_front (ds ++ data_of s ∷ []) (option_map_or (λ rest. scalars (n - (i + 1)) rest)
    o (option_map (λ rest. ([], rest)) (behind 93 (skip after))))) (sym comma)
    ∙ ap (λ o. with_front (ds ++ data_of s ∷ []) (option_map (λ rest. ([], rest)) o)) (sym bracket)

pub scalars_out : (n i : ℕ) (text rest : List ℕ) (ds : List Data) → n ≤ i
    → scalars n text ≡ with_front ds (scalars (n - i) rest) → scalars n text ≡ None
scalars_out n i text rest ds h inv = let e : n - i ≡ 0 = omega arith in inv
    ∙ ap (λ m. with_front ds (scalars m rest)) e

pub views_push : (trees : List Tree) (tree : Tree) → views (trees ++ tree ∷ [])
    ≡ views trees ++ view tree ∷ []
views_push [] tree = refl
views_push (t ∷ trees) tree = ap (λ l. view t ∷ l) (views_push trees tree)

pub views_more : (trees more : List Tree) (tree : Tree) (d : Data) → more ≡ trees ++ tree ∷ []
    → view tree ≡ d → views more ≡ views trees ++ d ∷ []
views_more trees more tree d is seen = ap views is ∙ views_push trees tree
    ∙ ap (λ e. views trees ++ e ∷ []) seen
