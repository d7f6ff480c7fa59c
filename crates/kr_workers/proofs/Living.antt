-- Which paths live in the history that workers leave: those of the opening's live rows, and those
-- that the workers' lines put.
use Rattle.std.specs.Prelude.{Contains, IsSome, cond, is_some}
use Rattle.std.proofs.Common.{◌≡◌, ◌⊎◌, inl, inr, ℕ, zero, suc, ◌<◌, List, [], ◌∷◌, ◌++◌, length, map, get_or, count_by, append-nil, length-append, Option, None, Some, Result, Ok, Err, refl, ap, sym, subst, ◌∙◌, arith}
use Rattle.std.specs.List.{slice_get}
use Rattle.std.proofs.lemmas.Bool.{false≢true}
use Rattle.std.proofs.lemmas.List.{append_assoc, get_or-map, length-map}
use Rattle.std.proofs.lemmas.List.Elements.{Contains-append_cases, Contains-append_left, Contains-append_right}
use Rattle.std.proofs.lemmas.List.Sums.{sum_by-cons}
use Rattle.std.proofs.lemmas.Option.{same_Some}
use Rattle.kr_base.specs.declared.errors.Spent.{Spent}
use Rattle.kr_kms.specs.Calls.{Link}
use Rattle.kr_kms.specs.Exchanges.{Exchange}
use Rattle.kr_provider.specs.BenchState.{BenchState}
use Rattle.kr_store.specs.declared.rows.Row.{Row}
use Rattle.kr_store.specs.Rows.{live}
use Rattle.kr_store.specs.Stores.{IsListing}
use Rattle.kr_store.proofs.Places.{live_at_revision}
use Rattle.kr_rollout.specs.declared.line.Did.{Did}
use Rattle.kr_rollout.specs.declared.line.Did.TheVariants as did
use Rattle.kr_rollout.specs.declared.opening.Entry.{Entry}
use Rattle.kr_rollout.specs.declared.opening.Opening.{Opening}
use Rattle.kr_history.specs.Acting.{Caller}
use Rattle.kr_rollout.specs.Histories.{IsLegal, state_of}
use Rattle.kr_history.specs.Parts.{written_put, written_puts}
use Rattle.kr_rollout.proofs.Appending.{front_law}
use Rattle.kr_history.proofs.LivePuts.{live_was_put}
use Rattle.kr_history.proofs.PartsAdd.{parts_sum_to_whole}
use Rattle.kr_rewrite.specs.DriveLaws.{LiveAmong}
use Rattle.kr_script.specs.declared.script.Part.{Part}
use Rattle.kr_script.specs.declared.script.ScriptLine.{ScriptLine}
use Rattle.kr_script.specs.declared.script.ScriptLine.TheVariants as line
use Rattle.kr_script.specs.declared.told.Told.{Told}
use Rattle.kr_workers.specs.declared.files.SettingsFile.{SettingsFile}
use Rattle.kr_workers.specs.Budgets.{is_put, put_lines, puts_of}
use Rattle.kr_workers.specs.Runs.{DoesAll, LineDone, entries_in, lines_in}
use Rattle.kr_workers.specs.inner.WholeRuns.{EndsRun, Runs}
use Rattle.kr_workers.specs.ScriptLines.{Workplace}
use Rattle.kr_workers.specs.inner.Serving.{place_of}
use mathlib.Core.List.{IsPrefix}

-- each path that had a live row at some time in the history is one of these
abbrev pub LivesIn : Opening → List Entry → List (List ℕ) → Type 0
LivesIn o history paths = (path : List ℕ) (before rest : List Entry) → history ≡ before ++ rest
    → IsSome (live (state_of o before).rows path) → Contains paths path

-- so it is up to what a caller saw
pub among_front : (o : Opening) (history : List Entry) (paths : List (List ℕ)) (c : Caller)
    → LivesIn o history paths → c.opening ≡ o → IsPrefix c.seen history → LiveAmong paths c
among_front o history paths c among opening front = λ path before rest is lives.
    among path before (rest ++ front.0)
    (sym front.1 ∙ ap (λ s. s ++ front.0) is ∙ append_assoc before rest front.0)
    (subst (λ (p : Opening). IsSome (live (state_of p before).rows path)) opening lives)

contains_map : {X Y : Type 0} (f : X → Y) (xs : List X) (x : X) → Contains xs x
    → Contains (map f xs) (f x)
contains_map f xs x c =
    let e = length-map xs f in
    (c.0, omega (arith, c.1, e), get_or-map f xs c.0 x (f x) c.1 ∙ ap f c.2)

none_there : {X : Type 0} (x : X) → Contains [] x → ⊥
none_there x c = absurd (omega (arith, c.1))

only_one : {X : Type 0} (y x : X) → Contains (y ∷ []) x → y ≡ x
only_one y x (zero, l, is) = is
only_one y x (suc k, l, is) = absurd (omega (arith, l))

-- ---- written Puts are those of entries

-- the entry of the history that wrote it
pub record IsPutBy (history : List Entry) (d : Did) : Type 0 where
  pub entry : Entry
  pub there : Contains history entry
  pub puts : Contains (written_put entry.line.gave entry.line.did) d

pub put_by_entry : (history : List Entry) (d : Did) → Contains (written_puts history) d
    → IsPutBy history d
put_by_entry [] d c = absurd (none_there d c)
put_by_entry (e ∷ history) d c =
    by (Contains-append_cases (written_put e.line.gave e.line.did) (written_puts history) d c)
    (put_by_entry history d)
  where
    by : Contains (written_put e.line.gave e.line.did) d ⊎ Contains (written_puts history) d
        → (Contains (written_puts history) d → IsPutBy history d) → IsPutBy (e ∷ history) d
    by (inl here) later = record { entry = e; there = (0, omega arith, refl); puts = here }
    by (inr behind) later =
        let r = later behind in record {
          entry = r.entry;
          there = Contains-append_right (e ∷ []) history r.entry r.there;
          puts = r.puts;
        }

entry_puts : (history : List Entry) (k : ℕ) (e : Entry) (d : Did) → k < length history
    → get_or history k e ≡ e → Contains (written_put e.line.gave e.line.did) d
    → Contains (written_puts history) d
entry_puts [] k e d l is c = absurd (omega (arith, l))
entry_puts (x ∷ history) zero e d l is c =
    Contains-append_left (written_put x.line.gave x.line.did) (written_puts history) d
    (subst (λ (y : Entry). Contains (written_put y.line.gave y.line.did) d) (sym is) c)
entry_puts (x ∷ history) (suc k) e d l is c =
    Contains-append_right (written_put x.line.gave x.line.did) (written_puts history) d
    (entry_puts history k e d (omega (arith, l)) is c)

pub puts_with_entry : (history : List Entry) (e : Entry) (d : Did) → Contains history e
    → Contains (written_put e.line.gave e.line.did) d → Contains (written_puts history) d
puts_with_entry history e d there puts = entry_puts history there.0 e d there.1 there.2 puts

-- ---- paths that lines put

abbrev pub path_put : ScriptLine → List (List ℕ)
path_put (line.Put resource path plain) = path ∷ []
path_put other = []

abbrev pub paths_put : List ScriptLine → List (List ℕ)
paths_put [] = []
paths_put (asked ∷ lines) = path_put asked ++ paths_put lines

abbrev pub all_put : List Part → List (List ℕ)
all_put [] = []
all_put (part ∷ parts) = paths_put part.lines.0 ++ all_put parts

one_path : (asked : ScriptLine) → length (path_put asked) ≡ cond (is_put asked) 1 0
one_path (line.Put resource path plain) = refl
one_path other = refl

paths_counted : (lines : List ScriptLine) → length (paths_put lines) ≡ count_by is_put lines
paths_counted [] = refl
paths_counted (asked ∷ lines) = omega (
  arith,
  length-append (path_put asked) (paths_put lines),
  one_path asked,
  paths_counted lines,
  sum_by-cons (λ x. cond (is_put x) 1 0) asked lines,
)

pub all_counted : (parts : List Part) → length (all_put parts) ≡ put_lines parts
all_counted [] = refl
all_counted (part ∷ parts) = omega (
  arith,
  length-append (paths_put part.lines.0) (all_put parts),
  paths_counted part.lines.0,
  all_counted parts,
  sum_by-cons (λ x. x) (count_by is_put part.lines.0)
      (map (λ (p : Part). count_by is_put p.lines.0) parts),
)

pub put_in_part : (parts : List Part) (k : ℕ) (part : Part) (path : List ℕ)
    → slice_get parts k ≡ Some part → Contains (paths_put part.lines.0) path
    → Contains (all_put parts) path
put_in_part [] k part path is c = absurd (false≢true (ap is_some is))
put_in_part (x ∷ parts) zero part path is c =
    Contains-append_left (paths_put x.lines.0) (all_put parts) path
    (subst (λ (p : Part). Contains (paths_put p.lines.0) path) (sym (same_Some x part is)) c)
put_in_part (x ∷ parts) (suc k) part path is c =
    Contains-append_right (paths_put x.lines.0) (all_put parts) path
    (put_in_part parts k part path is c)

paths_joined : (front back : List ScriptLine)
    → paths_put (front ++ back) ≡ paths_put front ++ paths_put back
paths_joined [] back = refl
paths_joined (asked ∷ front) back = ap (λ l. path_put asked ++ l) (paths_joined front back)
    ∙ sym (append_assoc (path_put asked) (paths_put front) (paths_put back))

-- ---- what runs added

module _ {L D : Type 0} (link : L → Link) (step : L → Exchange → L → Type 0) (left : D → Option (List ℕ))
    (count : D → ℕ) (files : List SettingsFile) (replica : ℕ) where
  -- the parts are what the seat added
  pub parts_added : (first : Workplace L D) (run : List LineDone) (last : Workplace L D)
      → DoesAll link step left count files replica first run last
      → last.caller.mine ≡ first.caller.mine ++ entries_in run
  parts_added first [] last same = ap (λ (w : Workplace L D). w.caller.mine) same
      ∙ sym (append-nil first.caller.mine)
  parts_added first (done ∷ run) last does = parts_added does.0 run last does.2
      ∙ ap (λ l. l ++ entries_in run) (ap (λ (c : Caller). c.mine) does.1.adds.new_is)
      ∙ append_assoc first.caller.mine done.part (entries_in run)

-- ---- what a worker put is the path of one of its lines

abbrev path_in : Did → List ℕ
path_in (did.Put path resource plain) = path
path_in other = []

module _ (path resource plain : List ℕ) where
  abbrev this_put : Did
  this_put = did.Put path resource plain

  of_line : (asked : ScriptLine) → Contains (puts_of asked) this_put
      → Contains (path_put asked) path
  of_line (line.Put r p d) c =
      (0, omega arith, ap path_in (only_one (did.Put p r d) this_put c))
  of_line other c = absurd (none_there this_put c)

  of_part : (asked : ScriptLine) (puts : List Did) → (puts ≡ []) ⊎ (puts ≡ puts_of asked)
      → Contains puts this_put → Contains (path_put asked) path
  of_part asked puts (inl none) c =
      absurd (none_there this_put (subst (λ ps. Contains ps this_put) none c))
  of_part asked puts (inr these) c =
      of_line asked (subst (λ ps. Contains ps this_put) these c)

  module _ {L D : Type 0} (link : L → Link) (step : L → Exchange → L → Type 0) (left : D → Option (List ℕ))
      (count : D → ℕ) (files : List SettingsFile) (replica : ℕ) where
    of_run : (first : Workplace L D) (run : List LineDone) (last : Workplace L D)
        → DoesAll link step left count files replica first run last
        → Contains (written_puts (entries_in run)) this_put
        → Contains (paths_put (lines_in run)) path
    of_run first [] last same c = absurd (none_there this_put c)
    of_run first (done ∷ run) last does c =
        by (Contains-append_cases (written_puts done.part) (written_puts (entries_in run)) this_put
        (subst (λ ps. Contains ps this_put) (parts_sum_to_whole.puts done.part (entries_in run)) c))
        (of_run does.0 run last does.2)
      where
        by : Contains (written_puts done.part) this_put
            ⊎ Contains (written_puts (entries_in run)) this_put
            → (Contains (written_puts (entries_in run)) this_put
            → Contains (paths_put (lines_in run)) path)
            → Contains (path_put done.line ++ paths_put (lines_in run)) path
        by (inl here) later =
            Contains-append_left (path_put done.line) (paths_put (lines_in run)) path
            (of_part done.line (written_puts done.part) does.1.within.puts_are here)
        by (inr behind) later = Contains-append_right (path_put done.line)
            (paths_put (lines_in run)) path (later behind)

    module _ (lines : List ScriptLine) (old : Caller) (bench : BenchState L D)
        (replies : List Told) (new : Caller) (after : BenchState L D) (none : old.mine ≡ []) where
      ends_put : (ended : Result (Unit {0}) Spent) (run : List LineDone) (middle : Workplace L D)
          → DoesAll link step left count files replica (place_of old bench) run middle
          → EndsRun link step left count files replica lines run middle ended
          (place_of new after)
          → Contains (written_puts new.mine) this_put → Contains (paths_put lines) path
      ends_put (Ok done) run middle does ends c =
          let mine : new.mine ≡ entries_in run =
          ap (λ (w : Workplace L D). w.caller.mine) ends.1
          ∙ parts_added link step left count files replica (place_of old bench) run middle does
          ∙ ap (λ l. l ++ entries_in run) none in
          subst (λ ls. Contains (paths_put ls) path) ends.0
          (of_run (place_of old bench) run middle does
          (subst (λ l. Contains (written_puts l) this_put) mine c))
      ends_put (Err spent) run middle does cut c =
          let mine : new.mine ≡ entries_in run ++ cut.part =
          ap (λ (d : Caller). d.mine) cut.adds.new_is
          ∙ ap (λ l. l ++ cut.part)
          (parts_added link step left count files replica (place_of old bench) run middle does
          ∙ ap (λ l. l ++ entries_in run) none) in
          let puts : written_puts new.mine
          ≡ written_puts (entries_in run) ++ written_puts cut.part =
          ap written_puts mine ∙ parts_sum_to_whole.puts (entries_in run) cut.part in
          subst (λ ls. Contains ls path)
          (sym (ap paths_put cut.lines_are ∙ paths_joined (lines_in run) (cut.line ∷ cut.rest)))
          (by (Contains-append_cases (written_puts (entries_in run)) (written_puts cut.part)
          this_put (subst (λ ps. Contains ps this_put) puts c)))
        where
          by : Contains (written_puts (entries_in run)) this_put
              ⊎ Contains (written_puts cut.part) this_put
              → Contains (paths_put (lines_in run)
              ++ (path_put cut.line ++ paths_put cut.rest)) path
          by (inl before) = Contains-append_left (paths_put (lines_in run))
              (path_put cut.line ++ paths_put cut.rest) path
              (of_run (place_of old bench) run middle does before)
          by (inr here) = Contains-append_right (paths_put (lines_in run))
              (path_put cut.line ++ paths_put cut.rest) path
              (Contains-append_left (path_put cut.line) (paths_put cut.rest) path
              (of_part cut.line (written_puts cut.part) cut.within.puts_are here))

      pub runs_put : (ended : Result (Unit {0}) Spent)
          → Runs link step left count files replica lines old bench replies ended new after
          → Contains (written_puts new.mine) this_put → Contains (paths_put lines) path
      runs_put ended runs c = ends_put ended runs.run runs.middle runs.does runs.ends c

-- ---- what lives

some_row : (r : Option Row) → IsSome r → (row : Row) × (r ≡ Some row)
some_row None h = absurd (false≢true h)
some_row (Some row) h = (row, refl)

-- the paths of live rows, and others
abbrev pub known_paths : List Row → List (List ℕ) → List (List ℕ)
known_paths listing puts = map (λ (row : Row). row.path) listing ++ puts

module _ (o : Opening) (history : List Entry) (listing : List Row) (puts : List (List ℕ))
    (legal : IsLegal o history) (lists : IsListing o.rows listing)
    (known : (path resource plain : List ℕ)
    → Contains (written_puts history) (did.Put path resource plain) → Contains puts path) where
  pub lives_in : LivesIn o history (known_paths listing puts)
  lives_in path before rest is lives =
      let found = some_row (live (state_of o before).rows path) lives in
      by (live_was_put o before path found.0
      (front_law o before rest (subst (IsLegal o) is legal)) found.1)
    where
      by : IsSome (live o.rows path)
          ⊎ ((resource : List ℕ) × (plain : List ℕ)
          × Contains (written_puts before) (did.Put path resource plain))
          → Contains (known_paths listing puts) path
      by (inl first) =
          let found = some_row (live o.rows path) first in
          let paths = map (λ (row : Row). row.path) listing in
          Contains-append_left paths puts path (subst (λ p. Contains paths p)
          (live_at_revision o.rows path found.0 found.1).1
          (contains_map (λ (row : Row). row.path) listing found.0
          (lists.whole path found.0 found.1)))
      by (inr put) = Contains-append_right (map (λ (row : Row). row.path) listing) puts path
          (known path put.0 put.1 (subst (λ ps. Contains ps (did.Put path put.0 put.1))
          (sym (ap written_puts is ∙ parts_sum_to_whole.puts before rest))
          (Contains-append_left (written_puts before) (written_puts rest)
          (did.Put path put.0 put.1) put.2)))
