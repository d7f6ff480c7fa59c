-- A walk over the live rows of a store by their paths: what was shown of them, and that it ends.
use Rattle.std.proofs.Common.{◌≡◌, ℕ, List, [], ◌∷◌, ◌++◌, append-nil, append_assoc, None, Some, Ok, refl, sym, ap, subst, ◌∙◌}
use Rattle.std.specs.Prelude.{codes, decimal, Result, Err, IfOk}
use Rattle.kr_store.specs.declared.format.Format.{Format}
use Rattle.kr_store.specs.declared.rows.LogRow.{LogRow}
use Rattle.kr_store.specs.declared.rows.Row.{Row}
use Rattle.kr_store.specs.Laws.{FollowEachOther}
use Rattle.kr_store.specs.Rows.{AreRows}
use Rattle.kr_store.specs.Stores.{IsNext}
use Rattle.kr_store.proofs.Listings.{nexts_are_listing}
use Rattle.kr_cmd_steps.specs.RowLines.{IsTag, spaced_word, row_line, AreLines, ShowsRows}

-- ---- what was passed

-- from a path on, these rows follow each other up to the path of the last one
abbrev pub Passes : List LogRow → List ℕ → List Row → List ℕ → Type 0
Passes rows from [] path = path ≡ from
Passes rows from (row ∷ more) path =
    IsNext rows from (Some row) × Passes rows row.path more path

-- the text is that of the rows up to this path
pub record IsShown (rows : List LogRow) (path text : List ℕ) : Type 0 where
  pub passed : List Row
  pub passes : Passes rows [] passed path
  pub lines : AreLines passed text

pub passes_more : (rows : List LogRow) (from path : List ℕ) (passed : List Row) (row : Row)
    → Passes rows from passed path → IsNext rows path (Some row)
    → Passes rows from (passed ++ row ∷ []) row.path
passes_more rows from path [] row e next =
    (subst (λ p. IsNext rows p (Some row)) e next, refl)
passes_more rows from path (first ∷ passed) row p next =
    (p.0, passes_more rows first.path path passed row p.1 next)

pub follow : (rows : List LogRow) (from path : List ℕ) (passed : List Row)
    → Passes rows from passed path → IsNext rows path None → FollowEachOther rows from passed
follow rows from path [] e end = subst (λ p. IsNext rows p None) e end
follow rows from path (first ∷ passed) p end =
    (p.0, follow rows first.path path passed p.1 end)

lines_more : (passed : List Row) (row : Row) (text tag new : List ℕ) → AreLines passed text
    → IsTag row.stored tag → new ≡ text ++ row_line row tag → AreLines (passed ++ row ∷ []) new
lines_more [] row text tag new e is made =
    (tag, [], is, refl, made ∙ ap (λ t. t ++ row_line row tag) e ∙ sym (append-nil (row_line row tag)))
lines_more (first ∷ passed) row text tag new (own, rest, a, l, e) is made = (
  own,
  rest ++ row_line row tag,
  a,
  lines_more passed row rest tag (rest ++ row_line row tag) l is refl,
  made ∙ ap (λ t. t ++ row_line row tag) e
      ∙ append_assoc (row_line first own) rest (row_line row tag),
)

pub shown_none : (rows : List LogRow) → IsShown rows [] []
shown_none rows = record { passed = []; passes = refl; lines = refl }

pub shown_more : (rows : List LogRow) (path text new : List ℕ) (row : Row)
    → IsShown rows path text → IsNext rows path (Some row)
    → (tag : List ℕ) × IsTag row.stored tag × (new ≡ text ++ row_line row tag)
    → IsShown rows row.path new
shown_more rows path text new row s next (tag, is, made) = record {
  passed = s.passed ++ row ∷ [];
  passes = passes_more rows [] path s.passed row s.passes next;
  lines = lines_more s.passed row text tag new s.lines is made;
}

pub shown_all : (format : Format) (rows : List LogRow) (path text : List ℕ) → AreRows format rows
    → IsShown rows path text → IsNext rows path None → ShowsRows rows (Ok text)
shown_all format rows path text are s end = (
  s.passed,
  text,
  nexts_are_listing format rows s.passed are (follow rows [] path s.passed s.passes end),
  s.lines,
  refl,
)

-- ---- a line, piece by piece

-- a piece at the end is one at the front of the rest
hands_over : {now : List ℕ} (before piece rest : List ℕ) → now ≡ before ++ piece
    → now ++ rest ≡ before ++ (piece ++ rest)
hands_over before piece rest e = ap (λ l. l ++ rest) e ∙ append_assoc before piece rest

pub row_added : {T E : Type 0} (row : Row) (old a b d e new : List ℕ)
    {resource path stored : List ℕ} (result : Result T E)
    → resource ≡ row.resource → path ≡ row.path → stored ≡ row.stored
    → a ≡ old ++ decimal row.revision → b ≡ a ++ spaced_word resource → d ≡ b ++ spaced_word path
    → (tag : List ℕ) × IsTag stored tag × (e ≡ d ++ spaced_word tag)
    → IfOk result (λ done. new ≡ e ++ codes "\n")
    → IfOk result
    (λ done. (tag : List ℕ) × IsTag row.stored tag × (new ≡ old ++ row_line row tag))
row_added row old a b d e new (Err why) r p s h i j t l = tt
row_added row old a b d e new (Ok done) r p s h i j (tag, is, k) l =
    let end : List ℕ = spaced_word tag ++ codes "\n" in
    let from_path : List ℕ = spaced_word row.path ++ end in (
      tag,
      subst (λ x. IsTag x tag) s is,
      l ∙ hands_over d (spaced_word tag) (codes "\n") k
          ∙ hands_over b (spaced_word row.path) end (j ∙ ap (λ x. b ++ spaced_word x) p)
          ∙ hands_over a (spaced_word row.resource) from_path (i ∙ ap (λ x. a ++ spaced_word x) r)
          ∙ hands_over old (decimal row.revision) (spaced_word row.resource ++ from_path) h,
    )
