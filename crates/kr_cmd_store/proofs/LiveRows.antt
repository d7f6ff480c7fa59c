-- A walk over the live rows of a store that keeps them: they are its listing.
use Rattle.std.proofs.Common.{◌≡◌, ◌<◌, ◌-◌, suc, List, [], ◌∷◌, ◌++◌, length, get_or, Option, None, Some, Result, Ok, Err, refl, sym, ◌∙◌, ap, subst, arith, inl, inr}
use Rattle.std.specs.Prelude.{All}
use Rattle.std.specs.List.{last_or}
use Rattle.std.proofs.lemmas.List.Elements.{All-append, All-cons, All-nil}
use Rattle.kr_store.specs.declared.format.Format.{Format}
use Rattle.kr_store.specs.declared.rows.LogRow.{LogRow}
use Rattle.kr_store.specs.declared.rows.Row.{Row}
use Rattle.kr_store.specs.Rows.{AreRows, IsRow}
use Rattle.kr_store.specs.Stores.{IsListing, IsNext}
use Rattle.kr_store.proofs.Listings.{nexts_are_listing}
use Rattle.kr_cmd_steps.specs.Environment.{Environment}
use Rattle.kr_cmd_steps.specs.Steps.{find, give}
use Rattle.kr_cmd_steps.specs.inner.Phases.{Does}
use Rattle.kr_cmd_steps.specs.inner.Tapes.{walk_path}
use Rattle.kr_cmd_messages.specs.declared.refusal.Stop.{Stop}
use Rattle.kr_cmd_steps.proofs.RunTo.{home_refl, reach}
use Rattle.kr_cmd_store.specs.inner.Verifying.{IsWithin, ListsRows}
use Rattle.kr_cmd_store.proofs.Walk.{Passes, follow, passes_more}

pub last_behind : {A : Type 0} (first : Option A) (rows : List A) (row : A)
    → last_or first (rows ++ row ∷ []) ≡ Some row
last_behind first [] row = refl
last_behind first (other ∷ rows) row = last_behind (Some other) rows row

pub last_is : {A : Type 0} (o : Option A) (items : List A) (d : A) → 0 < length items
    → last_or o items ≡ Some (get_or items (length items - 1) d)
last_is o [] d l = absurd (omega (arith, l))
last_is o (x ∷ []) d l = refl
last_is o (x ∷ (y ∷ more)) d l =
    let place : suc (suc (length more)) - 1 ≡ suc (suc (length more) - 1) = omega arith in
    last_is (Some x) (y ∷ more) d (omega arith)
    ∙ sym (ap (λ n. Some (get_or (x ∷ (y ∷ more)) n d)) place)

-- so many rows were passed, which are kept
pub record AreKept (rows : List LogRow) (kept : List Row) : Type 0 where
  pub passes : Passes rows [] kept (walk_path (last_or None kept))
  pub within : All IsWithin kept

pub kept_none : (rows : List LogRow) → AreKept rows []
kept_none rows = record { passes = refl; within = All-nil IsWithin }

pub row_within : (format : Format) (row : Row) → IsRow format row → IsWithin row
row_within format row is = (is.0.1, is.1.1)

pub kept_more : (format : Format) (rows : List LogRow) (kept : List Row) (row : Row)
    → AreKept rows kept → IsNext rows (walk_path (last_or None kept)) (Some row) → IsRow format row
    → AreKept rows (kept ++ row ∷ [])
kept_more format rows kept row so_far next is = record {
  passes = subst (λ o. Passes rows [] (kept ++ row ∷ []) (walk_path o))
      (sym (last_behind None kept row))
      (passes_more rows [] (walk_path (last_or None kept)) kept row so_far.passes next);
  within = All-append IsWithin kept (row ∷ []) so_far.within
      (All-cons IsWithin row [] (row_within format row is) (All-nil IsWithin));
}

pub kept_all : (format : Format) (rows : List LogRow) (kept : List Row) → AreRows format rows
    → AreKept rows kept → IsNext rows (walk_path (last_or None kept)) None → IsListing rows kept
kept_all format rows kept are so_far end = nexts_are_listing format rows kept are
    (follow rows [] (walk_path (last_or None kept)) kept so_far.passes end)

-- ---- steps

pub live_found : (rows : List LogRow) (a : Environment) (result : Result (List Row) Stop)
    → ListsRows rows result → Does (find (List Row) (IsListing rows) give) a a result
live_found rows a (Ok live) is = record {
  home = home_refl a;
  ends = λ left s. reach left (inr (live, is, (refl, refl))) s;
}
live_found rows a (Err why) is =
    subst (λ s. Does (find (List Row) (IsListing rows) give) a a (Err s)) (sym is)
    (record { home = home_refl a; ends = λ left s. inr (reach left (inl (refl, refl)) s) })
