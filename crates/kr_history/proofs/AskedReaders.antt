-- Whoever is asked for an unsealing is one of the links.
use Rattle.std.proofs.Common.{ℕ, suc, List, [], ◌∷◌, Option, None, Some, Result, Err, refl, sym, subst, arith}
use Rattle.std.specs.Prelude.{Contains, IfSome, IsSome}
use Rattle.std.proofs.lemmas.Bool.{false≢true}
use Rattle.kr_kms.specs.Calls.{Link}
use Rattle.kr_provider.specs.AskedLinks.{AskedOnly}
use Rattle.kr_provider.specs.Names.{names_of}
use Rattle.kr_provider.specs.Publication.{Publication, list_at}
use Rattle.kr_provider.specs.Readers.{reader_in}
use Rattle.kr_provider.specs.Unsealing.{UnsealsBy, plugin_reading}
use Rattle.kr_provider.specs.declared.refusal.Opened.{Opened}
use Rattle.kr_provider.specs.declared.refusal.UnsealNo.{UnsealNo}
use Rattle.kr_provider.specs.declared.refusal.UnsealNo.TheVariants.{PluginFailed}

there_later : {X : Type 0} (xs : List X) (x y : X) → Contains xs y → Contains (x ∷ xs) y
there_later xs x y (k, l, is) = (suc k, omega (arith, l), is)

asked_within : {L : Type 0} (link : L → Link) (names more : List (List ℕ)) (olds news : List L)
    → ((name : List ℕ) → Contains (names_of link olds) name → Contains more name)
    → AskedOnly link names olds news → AskedOnly link more olds news
asked_within link names more [] [] t a = tt
asked_within link names more (x ∷ xs) (y ∷ ys) t a = (
  a.0,
  λ none. absurd (none (t (link x).name (0, omega arith, refl))),
  asked_within link names more xs ys
      (λ name c. t name (there_later (names_of link xs) (link x).name name c)) a.2,
)
asked_within link names more other another t a = absurd a

-- whoever was asked is one of the links
pub asked_all : {L : Type 0} (link : L → Link) (names : List (List ℕ)) (olds news : List L)
    → AskedOnly link names olds news → AskedOnly link (names_of link olds) olds news
asked_all link names olds news a =
    asked_within link names (names_of link olds) olds news (λ name c. c) a

-- an unsealing asks none but the reader's plugin
module _ {L : Type 0} (link : L → Link) (p : Publication)
    (resource path bytes : List ℕ) (olds news : List L) where
  unsealed_asks : (result : Result Opened UnsealNo)
      → UnsealsBy link p.seeds (list_at p resource) path bytes olds result news
      → AskedOnly link (plugin_reading (reader_in (list_at p resource) bytes)) olds news
  unsealed_asks (Err (PluginFailed name)) u =
      subst (λ o. AskedOnly link (plugin_reading o) olds news) (sym u.reader) u.others
  unsealed_asks other u = u.asked

pub unsealed_all : {L : Type 0} (link : L → Link) (resource path bytes : List ℕ)
    (olds news : List L) (published : Option Publication) (result : Result Opened UnsealNo)
    → IsSome published
    → IfSome published (λ p. UnsealsBy link p.seeds (list_at p resource) path bytes olds
    result news)
    → AskedOnly link (names_of link olds) olds news
unsealed_all link resource path bytes olds news None result is u = absurd (false≢true is)
unsealed_all link resource path bytes olds news (Some p) result is u =
    asked_all link (plugin_reading (reader_in (list_at p resource) bytes)) olds news
    (unsealed_asks link p resource path bytes olds news result u)
