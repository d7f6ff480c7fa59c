-- The lines of a load, and what their entries are.
use Rattle.std.specs.Prelude.{All}
use Rattle.std.specs.List.{find, range_with_len}
use Rattle.std.specs.Option.{option_map}
use Rattle.std.specs.Str.{bytes_eq}
use Rattle.std.proofs.Common.{◌≡◌, ℕ, zero, suc, ◌+◌, ◌<◌, ◌≤◌, ◌*◌, ◌⊎◌, length-append, Bool, true, false, cond, List, [], ◌∷◌, ◌++◌, codes, length, map, Option, Some, inl, inr, refl, ap, sym, subst, ◌∙◌, arith}
use Rattle.std.proofs.lemmas.Bool.{false≢true}
use Rattle.std.proofs.lemmas.List.Elements.{All-append, All-cons, All-head, All-nil, All-tail}
use Rattle.std.proofs.lemmas.Option.{same_Some}
use Rattle.kr_config.specs.Kept.{ConfigEntry, plugins_in, rows_of}
use Rattle.kr_config.specs.Lists.{list_of}
use Rattle.kr_config.specs.declared.who.Who.TheVariants.{Aesgcm, Identity}
use Rattle.kr_envelope.specs.Prefixes.{prefix}
use Rattle.kr_envelope.specs.declared.prefix.Kind.TheVariants as kind
use Rattle.kr_provider.specs.Readers.{writer_of}
use Rattle.kr_rollout.specs.declared.line.Did.{Did}
use Rattle.kr_rollout.specs.declared.line.Did.TheVariants as did
use Rattle.kr_script.specs.declared.script.ScriptLine.{ScriptLine}
use Rattle.kr_script.specs.declared.script.ScriptLine.TheVariants as line
use Rattle.kr_workers.specs.Budgets.{budget_of, line_entries}
use Rattle.kr_workers.specs.Files.{rows_at}
use Rattle.kr_workers.specs.declared.files.SettingsFile.{SettingsFile}
use Rattle.kr_workload.specs.LoadRuns.{opening_rows}
use Rattle.kr_workload.specs.Loads.{configurations, g1, g2, load_get_line, lines_of, named_configuration, of_secrets, put_of, load_reloads}
use Rattle.kr_workload.specs.Streams.{piece}
use Rattle.kr_workload.proofs.LineParts.{IsOf, IsSimple}
use Rattle.kr_workload.proofs.LoadHistories.{IsLoads, WritesByKey, secrets}

-- ---- the lines

-- it puts or gets one of the worker's objects, or reloads with B or C
abbrev pub IsReloading : ScriptLine → Type 0
IsReloading asked = (replica : ℕ) × (file : List ℕ) × (asked ≡ line.Reload replica file)
    × ((file ≡ codes "B") ⊎ (file ≡ codes "C"))

abbrev pub IsLoadLine : (seed size worker : ℕ) → ScriptLine → Type 0
IsLoadLine seed size worker asked =
    ((number : ℕ) × (number < size) × (asked ≡ put_of seed size worker number))
    ⊎ ((number : ℕ) × (number < size) × (asked ≡ load_get_line worker number))
    ⊎ IsReloading asked

pub load_simple : (seed size worker : ℕ) (asked : ScriptLine)
    → IsLoadLine seed size worker asked → IsSimple asked
load_simple seed size worker asked (inl (number, below, is)) = subst IsSimple (sym is) tt
load_simple seed size worker asked (inr (inl (number, below, is))) = subst IsSimple (sym is) tt
load_simple seed size worker asked (inr (inr (replica, file, is, named))) =
    subst IsSimple (sym is) tt

-- ---- parts of lines

abbrev path_in : List ℕ → ScriptLine → List ℕ
path_in other (line.Put resource path plain) = path
path_in other asked = other

abbrev resource_in : List ℕ → ScriptLine → List ℕ
resource_in other (line.Put resource path plain) = resource
resource_in other asked = other

abbrev plain_in : List ℕ → ScriptLine → List ℕ
plain_in other (line.Put resource path plain) = plain
plain_in other asked = other

abbrev file_in : List ℕ → ScriptLine → List ℕ
file_in other (line.Reload replica file) = file
file_in other asked = other

abbrev is_put_line : ScriptLine → Bool
is_put_line (line.Put resource path plain) = true
is_put_line asked = false

abbrev is_reload_line : ScriptLine → Bool
is_reload_line (line.Reload replica file) = true
is_reload_line asked = false

-- ---- the files

abbrev found_rows : List ℕ → List (List ℕ × List ConfigEntry) → Option (List ConfigEntry)
found_rows name files =
    option_map (λ (q : List ℕ × List ConfigEntry). q.1)
    (find (λ (q : List ℕ × List ConfigEntry). bytes_eq q.0 name) files)

rows_named : (files : List SettingsFile) (name : List ℕ)
    → rows_at files name ≡ found_rows name (map named_configuration files)
rows_named [] name = refl
rows_named (file ∷ files) name = by (bytes_eq file.name name) (rows_named files name)
  where
    by : (b : Bool) → rows_at files name ≡ found_rows name (map named_configuration files)
        → option_map (λ (f : SettingsFile). rows_of f.settings.entries.0)
        (cond b (Some file) (find (λ (f : SettingsFile). bytes_eq f.name name) files))
        ≡ option_map (λ (q : List ℕ × List ConfigEntry). q.1)
        (cond b (Some (named_configuration file))
        (find (λ (q : List ℕ × List ConfigEntry). bytes_eq q.0 name) (map named_configuration files)))
    by true e = refl
    by false e = e

short_first : length (prefix kind.Aesgcm (codes "g1")) ≤ 30
unfolding prefix
short_first = omega arith

short_other : length (prefix kind.Aesgcm (codes "g2")) ≤ 30
unfolding prefix
short_other = omega arith

-- rows whose writer is this key
keyed : (name secret : List ℕ) (rows : List ConfigEntry)
    → writer_of (list_of rows secrets) ≡ Aesgcm name secret
    → length (prefix kind.Aesgcm name) ≤ 30 → WritesByKey rows
keyed name secret rows writer short =
    record { name = name; secret = secret; writer = writer; short = short }

pub opening_keyed : (seed : ℕ) → WritesByKey (opening_rows seed)
opening_keyed seed = keyed (codes "g1") (piece seed 0) (opening_rows seed) refl short_first

module _ (seed : ℕ) (files : List SettingsFile)
    (files_are : map named_configuration files ≡ configurations seed) where
  rows_b : rows_at files (codes "B")
      ≡ Some (of_secrets (g1 seed ∷ (g2 seed ∷ (Identity ∷ []))))
  rows_b = rows_named files (codes "B") ∙ ap (found_rows (codes "B")) files_are

  rows_c : rows_at files (codes "C")
      ≡ Some (of_secrets (g2 seed ∷ (g1 seed ∷ (Identity ∷ []))))
  rows_c = rows_named files (codes "C") ∙ ap (found_rows (codes "C")) files_are

  -- the rows of a file that has this name
  named_rows : (name file : List ℕ) (own rows : List ConfigEntry) → rows_at files name ≡ Some own
      → file ≡ name → rows_at files file ≡ Some rows → own ≡ rows
  named_rows name file own rows there same is =
      same_Some own rows (sym there ∙ sym (ap (rows_at files) same) ∙ is)

  abbrev first_rows : List ConfigEntry
  first_rows = of_secrets (g1 seed ∷ (g2 seed ∷ (Identity ∷ [])))

  abbrev other_rows : List ConfigEntry
  other_rows = of_secrets (g2 seed ∷ (g1 seed ∷ (Identity ∷ [])))

  file_keyed : (file : List ℕ) (rows : List ConfigEntry) → (file ≡ codes "B") ⊎ (file ≡ codes "C")
      → rows_at files file ≡ Some rows → WritesByKey rows
  file_keyed file rows (inl b) is =
      subst WritesByKey (named_rows (codes "B") file first_rows rows rows_b b is)
      (keyed (codes "g1") (piece seed 0) first_rows refl short_first)
  file_keyed file rows (inr c) is =
      subst WritesByKey (named_rows (codes "C") file other_rows rows rows_c c is)
      (keyed (codes "g2") (piece seed 1) other_rows refl short_other)

  -- it names no plugin
  pub file_bare : (file : List ℕ) → (file ≡ codes "B") ⊎ (file ≡ codes "C") → (rows : List ConfigEntry)
      → rows_at files file ≡ Some rows → plugins_in rows ≡ []
  file_bare file (inl b) rows is =
      sym (ap plugins_in (named_rows (codes "B") file first_rows rows rows_b b is))
  file_bare file (inr c) rows is =
      sym (ap plugins_in (named_rows (codes "C") file other_rows rows rows_c c is))

  -- ---- entries

  -- what an entry of such a line does is what a load's worker asks for
  pub of_load : (size worker : ℕ) (asked : ScriptLine) → IsLoadLine seed size worker asked
      → (done : Did) → IsOf files asked done → IsLoads seed size worker done
  of_load size worker asked own (did.Adopt replica) is = tt
  of_load size worker asked own (did.Fetch path) is = tt
  of_load size worker asked (inl (number, below, put)) (did.Put path resource plain) is = (
    number,
    below,
    ap (path_in path) (sym is ∙ put),
    ap (resource_in resource) (sym is ∙ put),
    ap (plain_in plain) (sym is ∙ put),
  )
  of_load size worker asked (inr (inl (number, below, get))) (did.Put path resource plain) is =
      absurd (false≢true (sym (ap is_put_line get) ∙ ap is_put_line is))
  of_load size worker asked (inr (inr (replica, file, reload, named)))
      (did.Put path resource plain) is =
      absurd (false≢true (sym (ap is_put_line reload) ∙ ap is_put_line is))
  of_load size worker asked own did.LetGo is = tt
  of_load size worker asked (inl (number, below, put)) (did.Reload replica p expect)
      (named, file, is, found) =
      absurd (false≢true (sym (ap is_reload_line put) ∙ ap is_reload_line is))
  of_load size worker asked (inr (inl (number, below, get))) (did.Reload replica p expect)
      (named, file, is, found) =
      absurd (false≢true (sym (ap is_reload_line get) ∙ ap is_reload_line is))
  of_load size worker asked (inr (inr (other, own, reload, which))) (did.Reload replica p expect)
      (named, file, is, found) =
      let same : own ≡ file = ap (file_in file) (sym reload ∙ is) in
      file_keyed file p.rows (subst (λ f. (f ≡ codes "B") ⊎ (f ≡ codes "C")) same which) found
  of_load size worker asked own other is = absurd is

-- ---- how many entries they may add

line_few : (seed size worker paths : ℕ) (asked : ScriptLine)
    → IsLoadLine seed size worker asked → line_entries paths asked ≤ 3
line_few seed size worker paths asked (inl (number, below, is)) =
    subst (λ (l : ScriptLine). line_entries paths l ≤ 3) (sym is) (omega arith)
line_few seed size worker paths asked (inr (inl (number, below, is))) =
    subst (λ (l : ScriptLine). line_entries paths l ≤ 3) (sym is) (omega arith)
line_few seed size worker paths asked (inr (inr (replica, file, is, named))) =
    subst (λ (l : ScriptLine). line_entries paths l ≤ 3) (sym is) (omega arith)

all_few : (seed size worker paths : ℕ) (lines : List ScriptLine)
    → All (IsLoadLine seed size worker) lines → budget_of paths lines ≤ 3 * length lines
all_few seed size worker paths [] all = omega arith
all_few seed size worker paths (asked ∷ lines) all =
    let Is = IsLoadLine seed size worker in
    let first = line_few seed size worker paths asked (All-head Is asked lines all) in
    let rest = all_few seed size worker paths lines (All-tail Is asked lines all) in
    omega (arith, first, rest)

-- ---- a worker's lines

numbered : (P : ScriptLine → Type 0) (f : ℕ → ScriptLine) (first size : ℕ)
    → ((number : ℕ) → number < first + size → P (f number))
    → All P (map f (range_with_len first size))
numbered P f first zero each = All-nil P
numbered P f first (suc size) each = All-cons P (f first)
    (map f (range_with_len (first + 1) size)) (each first (omega arith))
    (numbered P f (first + 1) size (λ number below. each number (omega (arith, below))))

-- of B and C, at both replicas
pub reloading : (worker : ℕ) → All IsReloading (load_reloads worker)
reloading zero =
    let b0 = line.Reload 0 (codes "B") in
    let b1 = line.Reload 1 (codes "B") in
    let c0 = line.Reload 0 (codes "C") in
    let c1 = line.Reload 1 (codes "C") in
    All-cons IsReloading b0 (b1 ∷ (c0 ∷ (c1 ∷ []))) (0, codes "B", refl, inl refl)
    (All-cons IsReloading b1 (c0 ∷ (c1 ∷ [])) (1, codes "B", refl, inl refl)
    (All-cons IsReloading c0 (c1 ∷ []) (0, codes "C", refl, inr refl)
    (All-cons IsReloading c1 [] (1, codes "C", refl, inr refl) (All-nil IsReloading))))
reloading (suc worker) = All-nil IsReloading

pub lines_are : (seed size worker : ℕ)
    → All (IsLoadLine seed size worker) (lines_of seed size worker)
lines_are seed size worker =
    let P = IsLoadLine seed size worker in
    let puts = map (put_of seed size worker) (range_with_len 0 size) in
    let gets = map (load_get_line worker) (range_with_len 0 size) in
    All-append P puts (load_reloads worker ++ gets)
    (numbered P (put_of seed size worker) 0 size
    (λ number below. inl (number, omega (arith, below), refl)))
    (All-append P (load_reloads worker) gets
    (λ k d below. inr (inr (reloading worker k d below)))
    (numbered P (load_get_line worker) 0 size
    (λ number below. inr (inl (number, omega (arith, below), refl)))))

-- they are few
pub long : (f : ℕ → ScriptLine) (first size : ℕ)
    → length (map f (range_with_len first size)) ≡ size
long f first zero = refl
long f first (suc size) = ap suc (long f (first + 1) size)

reloads_few : (worker : ℕ) → length (load_reloads worker) ≤ 4
reloads_few zero = omega arith
reloads_few (suc worker) = omega arith

pub lines_few : (seed size worker : ℕ) → length (lines_of seed size worker) ≤ 2 * size + 4
lines_few seed size worker =
    let puts = map (put_of seed size worker) (range_with_len 0 size) in
    let gets = map (load_get_line worker) (range_with_len 0 size) in omega (
      arith,
      length-append puts (load_reloads worker ++ gets),
      length-append (load_reloads worker) gets,
      long (put_of seed size worker) 0 size,
      long (load_get_line worker) 0 size,
      reloads_few worker,
    )

pub budget_few : (seed size worker paths : ℕ)
    → budget_of paths (lines_of seed size worker) ≤ 3 * (2 * size + 4)
budget_few seed size worker paths =
    let few = all_few seed size worker paths (lines_of seed size worker)
    (lines_are seed size worker) in omega (arith, few, lines_few seed size worker)
