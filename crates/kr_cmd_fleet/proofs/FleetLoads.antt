-- The configurations that a fleet file names are loaded one behind another, each once.
use Rattle.std.proofs.Common.{◌≡◌, ℕ, zero, suc, ◌+◌, ◌<◌, ◌≤◌, Bool, true, false, List, [], ◌∷◌, ◌++◌, length, take, get_or, map, append-nil, All, Option, None, Some, Result, Ok, Err, refl, sym, ◌∙◌, ap, subst, inl, inr, arith}
use Rattle.std.specs.Prelude.{IfOk, IsSome, find, if◌then◌else◌}
use Rattle.std.specs.List.{flat_map}
use Rattle.std.specs.Option.{option_map}
use Rattle.std.specs.Str.{bytes_eq}
use Rattle.std.proofs.lemmas.List.Elements.{All-append, All-cons, All-nil, All-weaker}
use Rattle.std.proofs.lemmas.Slice.Eq.{bytes_eq-Decides}
use Rattle.std.proofs.lemmas.List.{append_assoc, take_all, take_more, flat_map_more, map-append}
use Rattle.kr_base.specs.Limits.{store_limit}
use Rattle.kr_base.specs.Told.{Agrees}
use Rattle.kr_config.specs.Kept.{ConfigEntry, rows_of}
use Rattle.kr_config.specs.declared.settings.Settings.{Settings}
use Rattle.kr_kms.specs.Outside.{Outside, KeepsFiles, KeepsObjects, with_call}
use Rattle.kr_kms.specs.declared.world.WorldCall.TheVariants.{File}
use Rattle.kr_script.specs.Fleets.{Fleet, fleet_of, worker_of}
use Rattle.kr_script.specs.Meanings.{ReadsScript}
use Rattle.kr_script.specs.declared.script.Part.{Part}
use Rattle.kr_script.specs.declared.script.Script.{Script}
use Rattle.kr_script.specs.declared.script.ScriptNo.{ScriptNo}
use Rattle.kr_script.specs.declared.script.ScriptNo.TheVariants as no
use Rattle.kr_workers.specs.declared.files.SettingsFile.{SettingsFile}
use Rattle.kr_workers.specs.Files as workers
use Rattle.kr_cmd_steps.specs.Environment.{Environment, Ends, StepsEndAt, IsStateOf, with_world}
use Rattle.kr_cmd_steps.specs.Phases.{configuration, with_memory}
use Rattle.kr_cmd_fleet.specs.FleetFiles.{NamedRows, file_in, files_in, fleet_in, named_rows, file_entries, unless_read}
use Rattle.kr_cmd_steps.specs.Steps.{Steps, StepState, and_then, awaits, loading, with_asked}
use Rattle.kr_cmd_messages.specs.declared.refusal.Refusal.{Refusal}
use Rattle.kr_cmd_messages.specs.declared.refusal.Stop.{Stop}
use Rattle.kr_cmd_messages.specs.declared.refusal.Stop.TheVariants.{Words, Refused, Fault, NoMemory}
use Rattle.kr_cmd_fleet.specs.inner.Plans.{Covers, GoesThrough, IsFleetRead, IsRuled, ReadsBytes, ReadsFleet, fleet_in_result, named, script_stop}
use Rattle.kr_cmd_steps.specs.inner.Phases.{AskedFor, Configures, Does}
use Rattle.kr_cmd_steps.proofs.RunTo.{asked_home, by_goes, by_point, configures, given, goes_on, reach, stays_noted, stops, unasked}
use Rattle.kr_cmd_steps.proofs.Made.{remembers}
use Rattle.kr_cmd_steps.proofs.Works.{lacks}

-- ---- the fleet file

pub script_refused : (bytes : List ℕ) (why : ScriptNo) → ReadsScript bytes (Err why)
    → ReadsBytes bytes (Err (script_stop why))
script_refused bytes (no.Breach at) m = (no.Breach at, m, refl)
script_refused bytes no.Replicas m = (no.Replicas, m, refl)
script_refused bytes no.Workers m = (no.Workers, m, refl)
script_refused bytes no.TooLarge m = (no.TooLarge, m, refl)
script_refused bytes no.NoMemory m = tt

-- the rules of a fleet file
pub rules_read : (old new : Outside) (name : List ℕ) (result : Result Script Stop)
    → ReadsFleet old new name result
    → IfOk result (λ script. IsRuled (fleet_of script))
rules_read old new name (Ok script) (None, agrees, e) = absurd cc
rules_read old new name (Ok script) (Some bytes, agrees, inl (long, e)) = absurd cc
rules_read old new name (Ok script) (Some bytes, agrees, inr (short, (says, within, whole))) =
    (says.rules, whole, within)
rules_read old new name (Err stop) m = tt

pub script_read : (old new : Outside) (name bytes : List ℕ) (result : Result Script Stop)
    → Agrees (old.file name) (Some bytes) × (length bytes ≤ store_limit)
    → ReadsBytes bytes result → ReadsFleet old new name result
script_read old new name bytes (Ok script) l m = (Some bytes, l.0, inr (l.1, m))
script_read old new name bytes (Err (Words why)) l m = m
script_read old new name bytes (Err (Refused why)) l m = (Some bytes, l.0, inr (l.1, m))
script_read old new name bytes (Err (Fault object count)) l m = absurd m
script_read old new name bytes (Err NoMemory) l m = tt

module _ {old new : Outside} (files : KeepsFiles old new) (objects : KeepsObjects old new)
    (a : Environment) (name : List ℕ) where
  fleet_passes : {left : StepState} (read : Result Fleet Refusal) → IsStateOf left (with_world old a)
      → IsFleetRead old name read → new.asked ≡ with_call (File name) old.asked
      → StepsEndAt (fleet_in name) left (with_world new a) (by_point read)
  fleet_passes {left} read s (file, agrees, is) made =
      let now : StepState = with_asked (File name) left in
      reach now (inr (inr (
        file,
        subst (λ t. Agrees (t name) file) s.file agrees,
        inr (read, is, by_goes read now),
      )))
      (stays_noted files objects a (File name) s made)

  fleet_not_loaded : {left : StepState} → IsStateOf left (with_world old a)
      → new.asked ≡ with_call (File name) old.asked
      → StepsEndAt (fleet_in name) left (with_world new a) (awaits (loading name))
  fleet_not_loaded {left} s made = reach (with_asked (File name) left) (inr (inl (refl, refl)))
      (stays_noted files objects a (File name) s made)

  fleet_at : {left : StepState} (result : Result Script Stop) → IsStateOf left (with_world old a)
      → ReadsFleet old new name result → AskedFor old.asked new.asked (File name) result
      → Ends (fleet_in name) left (with_world old a) (with_world new a)
      (fleet_in_result result)
  fleet_at (Ok script) s c q = fleet_passes (Ok (fleet_of script)) s c q
  fleet_at (Err (Words why)) s c q = c
  fleet_at (Err (Refused why)) s c q = fleet_passes (Err why) s c q
  fleet_at (Err (Fault object count)) s c q = (loading name, fleet_not_loaded s q, c)
  fleet_at (Err NoMemory) s c (inl q) =
      inr (unasked files objects a s q (inl (refl, refl)))
  fleet_at (Err NoMemory) s c (inr q) = inl (loading name, tt, fleet_not_loaded s q)

  pub fleet_loads : (result : Result Script Stop) → ReadsFleet old new name result
      → AskedFor old.asked new.asked (File name) result
      → Does (fleet_in name) (with_world old a) (with_world new a) (fleet_in_result result)
  fleet_loads result c q = record {
    home = asked_home files objects a;
    ends = λ left s. fleet_at result s c q;
  }

-- ---- which files are there

-- the file of the name was read
abbrev pub IsRead : List NamedRows → List ℕ → Type 0
IsRead files name = IsSome (file_entries files name)

covers_none : (files : List NamedRows) → Covers files files []
covers_none files = record { read = All-nil (IsRead files); stays = λ name is. refl }

-- what was read is there later on
still_read : (f g : List NamedRows)
    → ((name : List ℕ) → IsRead f name → file_entries g name ≡ file_entries f name) → (name : List ℕ)
    → IsRead f name → IsRead g name
still_read f g stays name is = subst IsSome (sym (stays name is)) is

covers_both : (f g h : List NamedRows) (xs ys : List (List ℕ)) → Covers f g xs → Covers g h ys
    → Covers f h (xs ++ ys)
covers_both f g h xs ys first second = record {
  read = All-append (IsRead h) xs ys
      (All-weaker (IsRead g) (IsRead h) (still_read g h second.stays) xs first.read) second.read;
  stays = λ name is. second.stays name (still_read f g first.stays name is)
      ∙ first.stays name is;
}

-- the steps of a search, by the test of the first
abbrev pub found_by : Bool → NamedRows → Option (List ConfigEntry) → Option (List ConfigEntry)
found_by b file behind = if b then Some file.1 else behind

pub first_found : (file : NamedRows) (files : List NamedRows) (name : List ℕ)
    → file_entries (file ∷ files) name ≡ found_by (bytes_eq file.0 name) file (file_entries files name)
first_found file files name = by (bytes_eq file.0 name)
  where
    by : (b : Bool) → option_map (λ (f : NamedRows). f.1) (if b then Some file
        else find (λ (f : NamedRows). bytes_eq f.0 name) files)
        ≡ found_by b file (file_entries files name)
    by true = refl
    by false = refl

-- one more behind them changes nothing of those that are there
pub more_stays : (files : List NamedRows) (file : NamedRows) (name : List ℕ) → IsRead files name
    → file_entries (files ++ file ∷ []) name ≡ file_entries files name
more_stays [] file name is = absurd (let f : false ≡ true = is in cc)
more_stays (first ∷ files) file name is = first_found first (files ++ file ∷ []) name
    ∙ by (bytes_eq first.0 name) (subst IsSome (first_found first files name) is)
    (more_stays files file name)
    ∙ sym (first_found first files name)
  where
    by : (b : Bool) → IsSome (found_by b first (file_entries files name))
        → (IsRead files name → file_entries (files ++ file ∷ []) name ≡ file_entries files name)
        → found_by b first (file_entries (files ++ file ∷ []) name)
        ≡ found_by b first (file_entries files name)
    by true is behind = refl
    by false is behind = behind is

-- it is there itself
pub last_read : (files : List NamedRows) (name : List ℕ) (rows : List ConfigEntry)
    → IsRead (files ++ (name, rows) ∷ []) name
last_read [] name rows = subst IsSome
    (sym (first_found (name, rows) [] name
    ∙ ap (λ b. found_by b (name, rows) None) ((bytes_eq-Decides name name).1 refl))) refl
last_read (first ∷ files) name rows = subst IsSome
    (sym (first_found first (files ++ (name, rows) ∷ []) name))
    (by (bytes_eq first.0 name) (last_read files name rows))
  where
    by : (b : Bool) → IsRead (files ++ (name, rows) ∷ []) name
        → IsSome (found_by b first (file_entries (files ++ (name, rows) ∷ []) name))
    by true behind = refl
    by false behind = behind

-- ---- one behind another

pub through_none : (files : List NamedRows) (world : Outside)
    → GoesThrough files files [] world world (Ok tt)
through_none files world = (refl, covers_none files, λ a end names result d. d)

module _ (f g h : List NamedRows) (xs ys : List (List ℕ)) (old mid new : Outside)
    (first : GoesThrough f g xs old mid (Ok tt)) where
  pub through_then : (result : Result (Unit {0}) Stop) → GoesThrough g h ys mid new result
      → GoesThrough f h (xs ++ ys) old new result
  through_then (Ok done) second = (
    second.0 ∙ first.0,
    covers_both f g h xs ys first.1 second.1,
    λ a end names result d.
        subst (λ l. Does (files_in f l) (with_world old a) end result)
        (sym (append_assoc xs ys names))
        (first.2 a end (ys ++ names) result (second.2 a end names result d)),
  )
  through_then (Err stop) second = (
    second.0 ∙ first.0,
    λ a names. subst (λ l. Does (files_in f l) (with_world old a) (with_world new a) (Err stop))
        (sym (append_assoc xs ys names)) (first.2 a (with_world new a) (ys ++ names) (Err stop)
        (second.1 a names)),
  )

  -- what comes behind stays undone
  pub through_stops : (stop : Stop) → GoesThrough g h ys mid new (Err stop)
      → (zs : List (List ℕ)) → GoesThrough f h ((xs ++ ys) ++ zs) old new (Err stop)
  through_stops stop second zs = let both = through_then (Err stop) second in (
    both.0,
    λ a names. subst (λ l. Does (files_in f l) (with_world old a) (with_world new a) (Err stop))
        (sym (append_assoc (xs ++ ys) zs names)) (both.1 a (zs ++ names)),
  )

pub through_cut : (f g h : List NamedRows) (xs : List (List ℕ)) (old new : Outside)
    (stop : Stop) (ys : List (List ℕ)) → GoesThrough f g xs old new (Err stop)
    → GoesThrough f h (xs ++ ys) old new (Err stop)
through_cut f g h xs old new stop ys first = (
  first.0,
  λ a names. subst (λ l. Does (files_in f l) (with_world old a) (with_world new a) (Err stop))
      (sym (append_assoc xs ys names)) (first.1 a (ys ++ names)),
)

-- the parts of a list one behind another
pub more_parts : {X Y : Type 0} (f : X → List Y) (xs : List X) (i : ℕ) (x : X) → i < length xs
    → x ≡ get_or xs i x → flat_map f (take i xs) ++ f x ≡ flat_map f (take (i + 1) xs)
more_parts f xs i x h is = flat_map_more f [] (take i xs) x
    ∙ ap (λ y. flat_map f (take i xs ++ y ∷ [])) is ∙ ap (flat_map f) (sym (take_more xs i x h))

pub all_parts : {X Y : Type 0} (f : X → List Y) (xs : List X) (i : ℕ) → length xs ≤ i
    → flat_map f (take i xs) ≡ flat_map f xs
all_parts f xs i h = ap (flat_map f) (take_all i xs h)

-- the parts in front, this one, and those behind
pub parted : {X Y : Type 0} (f : X → List Y) (xs : List X) (i : ℕ) (x : X) → i < length xs
    → x ≡ get_or xs i x
    → (behind : List Y) × (flat_map f xs ≡ (flat_map f (take i xs) ++ f x) ++ behind)
parted f [] i x h is = absurd (omega (arith, h))
parted f (y ∷ xs) zero x h is = (
  flat_map f xs,
  ap (λ z. f z ++ flat_map f xs) (sym is),
)
parted f (y ∷ xs) (suc i) x h is =
    let r = parted f xs i x (omega (arith, h)) is in (
      r.0,
      ap (λ l. f y ++ l) r.1 ∙ sym (append_assoc (f y) (flat_map f (take i xs) ++ f x) r.0)
          ∙ ap (λ l. l ++ r.0) (sym (append_assoc (f y) (flat_map f (take i xs)) (f x))),
    )

-- so many were gone through, and this one is next
pub record ComesTo {X : Type 0} (of : X → List (List ℕ)) (xs : List X) (f g : List NamedRows)
    (old mid : Outside) (i : ℕ) (x : X) : Type 0 where
  pub below : i < length xs
  pub is : x ≡ get_or xs i x
  pub so_far : GoesThrough f g (flat_map of (take i xs)) old mid (Ok tt)

module _ {X : Type 0} {of : X → List (List ℕ)} {xs : List X} {f g : List NamedRows}
    {old mid : Outside} {i : ℕ} {x : X} (come : ComesTo of xs f g old mid i x)
    (h : List NamedRows) (new : Outside) where
  pub through_more : GoesThrough g h (of x) mid new (Ok tt)
      → GoesThrough f h (flat_map of (take (i + 1) xs)) old new (Ok tt)
  through_more next = subst (λ l. GoesThrough f h l old new (Ok tt))
      (more_parts of xs i x come.below come.is)
      (through_then f g h (flat_map of (take i xs)) (of x) old mid new come.so_far (Ok tt) next)

  pub through_not : (stop : Stop) → GoesThrough g h (of x) mid new (Err stop)
      → GoesThrough f h (flat_map of xs) old new (Err stop)
  through_not stop next =
      let p = parted of xs i x come.below come.is in
      subst (λ l. GoesThrough f h l old new (Err stop)) (sym p.1)
      (through_stops f g h (flat_map of (take i xs)) (of x) old mid new come.so_far stop next p.0)

pub through_all : {X : Type 0} (of : X → List (List ℕ)) (xs : List X) (f g : List NamedRows)
    (old new : Outside) (i : ℕ) → length xs ≤ i
    → GoesThrough f g (flat_map of (take i xs)) old new (Ok tt)
    → GoesThrough f g (flat_map of xs) old new (Ok tt)
through_all of xs f g old new i past all =
    subst (λ l. GoesThrough f g l old new (Ok tt)) (all_parts of xs i past) all

-- the workers' lines are those of their parts
pub lines_mentioned : (parts : List Part)
    → flat_map (λ (part : Part). flat_map file_in part.lines.0) parts
    ≡ flat_map (λ w. flat_map file_in w.lines) (map worker_of parts)
lines_mentioned [] = refl
lines_mentioned (part ∷ parts) =
    ap (λ l. flat_map file_in part.lines.0 ++ l) (lines_mentioned parts)

-- ---- one of them

-- a file that was read is there by its name
pub same_rows : (files : List SettingsFile) (name : List ℕ)
    → file_entries (named files) name ≡ workers.rows_at files name
same_rows [] name = refl
same_rows (file ∷ files) name = by (bytes_eq file.name name) (same_rows files name)
  where
    by : (b : Bool) → file_entries (named files) name ≡ workers.rows_at files name
        → option_map (λ (f : NamedRows). f.1) (if b then Some (named_rows file)
        else find (λ (f : NamedRows). bytes_eq f.0 name) (named files))
        ≡ option_map (λ (f : SettingsFile). rows_of f.settings.entries.0) (if b then Some file
        else find (λ (f : SettingsFile). bytes_eq f.name name) files)
    by true rest = refl
    by false rest = rest

module _ (files : List NamedRows) (name : List ℕ) where
  -- the steps of the name, by what was read of it
  abbrev once : List (List ℕ) → Option (List ConfigEntry) → Steps (List NamedRows)
  once names read = unless_read read (files_in files names) (and_then (configuration name)
      (λ rows. with_memory (files_in (files ++ (name, rows) ∷ []) names)))

  pub already : (world : Outside) (rows : List ConfigEntry) → file_entries files name ≡ Some rows
      → GoesThrough files files (name ∷ []) world world (Ok tt)
  already world rows there = (
    refl,
    record {
      read = All-cons (IsRead files) name [] (subst IsSome (sym there) refl)
          (All-nil (IsRead files));
      stays = λ other is. refl;
    },
    λ a end names result d.
        subst (λ r. Does (once names r) (with_world world a) end result) (sym there) d,
  )

  module _ {old new : Outside} (kept : KeepsFiles old new) (objects : KeepsObjects old new)
      (absent : file_entries files name ≡ None) where
    pub loaded : (settings : Settings) → Configures old new name (Ok settings)
        → AskedFor {T = Settings} old.asked new.asked (File name) (Ok settings)
        → GoesThrough files (files ++ (name, rows_of settings.entries.0) ∷ []) (name ∷ []) old new
        (Ok tt)
    loaded settings c q =
        let file : NamedRows = (name, rows_of settings.entries.0) in (
          objects.links,
          record {
            read = All-cons (IsRead (files ++ file ∷ [])) name []
                (last_read files name (rows_of settings.entries.0))
                (All-nil (IsRead (files ++ file ∷ [])));
            stays = more_stays files file;
          },
          λ a end names result d.
              subst (λ r. Does (once names r) (with_world old a) end result) (sym absent)
              (goes_on (configuration name)
              (λ rows. with_memory (files_in (files ++ (name, rows) ∷ []) names))
              (rows_of settings.entries.0) (configures kept objects a name (Ok settings) c q)
              (remembers d)),
        )

    -- the command ended at it
    ends_at : (others : List NamedRows) (stop : Stop) → ((a : Environment) (names : List (List ℕ))
        → Does (and_then (configuration name)
        (λ rows. with_memory (files_in (files ++ (name, rows) ∷ []) names))) (with_world old a)
        (with_world new a) (Err stop)) → GoesThrough files others (name ∷ []) old new (Err stop)
    ends_at others stop d = (
      objects.links,
      λ a names. subst (λ r. Does (once names r) (with_world old a) (with_world new a) (Err stop))
          (sym absent) (d a names),
    )

    pub not_loaded : (others : List NamedRows) (stop : Stop)
        → Configures old new name (Err stop)
        → AskedFor {T = Settings} old.asked new.asked (File name) (Err stop)
        → GoesThrough files others (name ∷ []) old new (Err stop)
    not_loaded others stop c q = ends_at others stop (λ a names. stops (configuration name)
        (λ rows. with_memory (files_in (files ++ (name, rows) ∷ []) names)) stop
        (configures kept objects a name (Err stop) c q))

    -- it was loaded, but there was no memory to keep it
    pub not_kept : (others : List NamedRows) (settings : Settings)
        → Configures old new name (Ok settings)
        → AskedFor {T = Settings} old.asked new.asked (File name) (Ok settings)
        → GoesThrough files others (name ∷ []) old new (Err NoMemory)
    not_kept others settings c q = ends_at others NoMemory (λ a names.
        goes_on (configuration name)
        (λ rows. with_memory (files_in (files ++ (name, rows) ∷ []) names))
        (rows_of settings.entries.0) (configures kept objects a name (Ok settings) c q)
        (lacks (files_in (files ++ (name, rows_of settings.entries.0) ∷ []) names)
        (with_world new a)))

-- it stands behind the others
pub named_more : (files all : List SettingsFile) (file : SettingsFile) (name : List ℕ)
    (rows : List ConfigEntry) → all ≡ files ++ file ∷ [] → file.name ≡ name
    → rows_of file.settings.entries.0 ≡ rows
    → named all ≡ named files ++ (name, rows) ∷ []
named_more files all file name rows is n r = ap named is
    ∙ map-append named_rows files (file ∷ [])
    ∙ (λ i. named files ++ (n i, r i) ∷ [])

-- ---- all of them

-- what was gone through to its end
pub through_from : (first : List SettingsFile) (files : List NamedRows) (names : List (List ℕ))
    (old new : Outside) (result : Result (Unit {0}) Stop) → first ≡ []
    → GoesThrough (named first) files names old new result
    → GoesThrough [] files names old new result
through_from first files names old new result none all =
    subst (λ l. GoesThrough (named l) files names old new result) none all

pub all_through : (files : List NamedRows) (names : List (List ℕ)) {old new : Outside}
    → GoesThrough [] files names old new (Ok tt) → (a : Environment)
    → Does (files_in [] names) (with_world old a) (with_world new a) (Ok files)
all_through files names {old} {new} all a =
    subst (λ l. Does (files_in [] l) (with_world old a) (with_world new a) (Ok files))
    (append-nil names)
    (all.2 a (with_world new a) [] (Ok files) (given files (with_world new a)))

pub all_read : (files : List NamedRows) (names : List (List ℕ)) {old new : Outside}
    → GoesThrough [] files names old new (Ok tt)
    → All (λ name. IsSome (file_entries files name)) names
all_read files names all = all.1.read

pub not_through : (files : List NamedRows) (names : List (List ℕ)) {old new : Outside}
    (stop : Stop) → GoesThrough [] files names old new (Err stop) → (a : Environment)
    → Does (files_in [] names) (with_world old a) (with_world new a) (Err stop)
not_through files names {old} {new} stop none a =
    subst (λ l. Does (files_in [] l) (with_world old a) (with_world new a) (Err stop))
    (append-nil names) (none.1 a [])
