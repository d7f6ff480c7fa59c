-- The verdict passes exactly where the new settings and the others read all that they must.
use Rattle.std.proofs.Common.{◌≡◌, ◌≢◌, ℕ, Bool, true, false, List, [], ◌∷◌, ◌++◌, Option, None, Some, Contains, map, refl, sym, ap, subst}
use Rattle.std.specs.Prelude.{if◌then◌else◌, not}
use Rattle.std.specs.List.{flat_map}
use Rattle.std.specs.Option.{option_map}
use Rattle.kr_config.specs.declared.class.Class.{Class}
use Rattle.kr_config.specs.declared.who.Who.{Who}
use Rattle.kr_config.specs.Kept.{ConfigEntry}
use Rattle.kr_config.specs.Lists.{list_of, class_list}
use Rattle.kr_judge.specs.declared.need.Need.{Need}
use Rattle.kr_judge.specs.declared.verdict.Verdict.{Verdict}
use Rattle.kr_judge.specs.declared.verdict.Verdict.TheVariants.{Pass, DropsStored, DropsWriter, Unread}
use Rattle.kr_judge.specs.Boards.{GenerationState}
use Rattle.kr_judge.specs.Providers.{has, unread_writer}
use Rattle.kr_judge.specs.Verdicts.{others, judged_classes, unread_classes, dropped_needs, lost_writers, unread_writers, first, first_or_pass, verdict_of}
use Rattle.kr_judge.specs.Fits.{ReadsWriter}
use Rattle.kr_judge.specs.Laws.{PassesExactly}
use Rattle.kr_judge.proofs.Lists.{filtered_none, none_filtered, flattened_none, none_flattened, mapped_none, none_mapped, map_empty, option_none}
use Rattle.kr_judge.proofs.Members.{has_members}
use Rattle.kr_judge.proofs.Verdicts.{passes}

-- one list's writer in another
reads : (writers readers : List Who) → unread_writer writers readers ≡ None → ReadsWriter writers readers
reads [] readers h who e = cc
reads (writer ∷ writers) readers h who e = by (has readers writer) refl h
  where
    by : (v : Bool) → has readers writer ≡ v → (if v then None else Some writer) ≡ None → Contains readers who
    by true t k = subst (Contains readers) (let q : writer ≡ who = cc in q) ((has_members readers writer).0 t)
    by false t k = cc

is_read : (writers readers : List Who) → ReadsWriter writers readers → unread_writer writers readers ≡ None
is_read [] readers h = refl
is_read (writer ∷ writers) readers h = ap (λ (v : Bool). if v then None else Some writer) ((has_members readers writer).1 (h writer refl))

-- at all classes
abbrev AllRead : List Class → (writing reading : List ConfigEntry) → Type 0
AllRead classes writing reading = (class : Class) → Contains classes class → ReadsWriter (class_list writing class) (class_list reading class)

abbrev unread_provider : (writing reading : List ConfigEntry) → Class → Option (Class × Who)
unread_provider writing reading class = option_map (λ who. (class, who)) (unread_writer (class_list writing class) (class_list reading class))

all_read : (classes : List Class) (writing reading : List ConfigEntry) → unread_classes classes writing reading ≡ [] → AllRead classes writing reading
all_read classes writing reading h class there = reads (class_list writing class) (class_list reading class)
    (option_none (λ who. (class, who)) (unread_writer (class_list writing class) (class_list reading class)) (mapped_none (unread_provider writing reading) classes h class there))

none_unread : (classes : List Class) (writing reading : List ConfigEntry) → AllRead classes writing reading → unread_classes classes writing reading ≡ []
none_unread classes writing reading h = none_mapped (unread_provider writing reading) classes
    (λ class there. ap (option_map (λ who. (class, who))) (is_read (class_list writing class) (class_list reading class) (h class there)))

-- among all others
abbrev numbering : ℕ → Class × Who → ℕ × Class × Who
numbering n lost = (n, lost.0, lost.1)

all_others : (says : ℕ × GenerationState → List (Class × Who)) (those : List (ℕ × GenerationState)) → flat_map (λ other. map (numbering other.0) (says other)) those ≡ []
    → (other : ℕ × GenerationState) → Contains those other → says other ≡ []
all_others says those h other there = map_empty (numbering other.0) (says other) (flattened_none (λ one. map (numbering one.0) (says one)) those h other there)

no_others : (says : ℕ × GenerationState → List (Class × Who)) (those : List (ℕ × GenerationState)) → ((other : ℕ × GenerationState) → Contains those other → says other ≡ [])
    → flat_map (λ other. map (numbering other.0) (says other)) those ≡ []
no_others says those h = none_flattened (λ other. map (numbering other.0) (says other)) those (λ other there. ap (map (numbering other.0)) (h other there))

writers_read : (replica : ℕ) (rows : List ConfigEntry) (generations : List GenerationState) → lost_writers replica rows generations ≡ []
    → (other : ℕ × GenerationState) → Contains (others replica generations) other → AllRead (judged_classes rows generations) other.1.rows rows
unfolding lost_writers
writers_read replica rows generations h other there =
    let classes : List Class = judged_classes rows generations in
    all_read classes other.1.rows rows (all_others (λ one. unread_classes classes one.1.rows rows) (others replica generations) h other there)

no_writers : (replica : ℕ) (rows : List ConfigEntry) (generations : List GenerationState) → ((other : ℕ × GenerationState) → Contains (others replica generations) other → AllRead (judged_classes rows generations) other.1.rows rows)
    → lost_writers replica rows generations ≡ []
unfolding lost_writers
no_writers replica rows generations h =
    let classes : List Class = judged_classes rows generations in
    no_others (λ one. unread_classes classes one.1.rows rows) (others replica generations) (λ other there. none_unread classes other.1.rows rows (h other there))

readers_read : (replica : ℕ) (rows : List ConfigEntry) (generations : List GenerationState) → unread_writers replica rows generations ≡ []
    → (other : ℕ × GenerationState) → Contains (others replica generations) other → AllRead (judged_classes rows generations) rows other.1.rows
unfolding unread_writers
readers_read replica rows generations h other there =
    let classes : List Class = judged_classes rows generations in
    all_read classes rows other.1.rows (all_others (λ one. unread_classes classes rows one.1.rows) (others replica generations) h other there)

no_readers : (replica : ℕ) (rows : List ConfigEntry) (generations : List GenerationState) → ((other : ℕ × GenerationState) → Contains (others replica generations) other → AllRead (judged_classes rows generations) rows other.1.rows)
    → unread_writers replica rows generations ≡ []
unfolding unread_writers
no_readers replica rows generations h =
    let classes : List Class = judged_classes rows generations in
    no_others (λ one. unread_classes classes rows one.1.rows) (others replica generations) (λ other there. none_unread classes rows other.1.rows (h other there))

-- the needs
not_false : (v : Bool) → not v ≡ false → v ≡ true
not_false true h = refl
not_false false h = cc

stored_read : (rows : List ConfigEntry) (needs : List Need) → dropped_needs rows needs ≡ [] → (need : Need) → Contains needs need → Contains (list_of rows need.resource) need.who
stored_read rows needs h need there = (has_members (list_of rows need.resource) need.who).0
    (not_false (has (list_of rows need.resource) need.who) (filtered_none (λ own. not (has (list_of rows own.resource) own.who)) needs h need there))

none_dropped : (rows : List ConfigEntry) (needs : List Need) → ((need : Need) → Contains needs need → Contains (list_of rows need.resource) need.who) → dropped_needs rows needs ≡ []
none_dropped rows needs h = none_filtered (λ own. not (has (list_of rows own.resource) own.who)) needs
    (λ need there. ap not ((has_members (list_of rows need.resource) need.who).1 (h need there)))

-- no reason at all
none_said : {X : Type 0} (says : X → Verdict) → ((x : X) → says x ≢ Pass) → (xs : List X) (more : List Verdict) → first_or_pass (map says xs ++ more) ≡ Pass → (xs ≡ []) × (first_or_pass more ≡ Pass)
none_said says apart [] more h = (refl, h)
none_said says apart (x ∷ xs) more h = absurd (apart x h)

none_last : {X : Type 0} (says : X → Verdict) → ((x : X) → says x ≢ Pass) → (xs : List X) → first_or_pass (map says xs) ≡ Pass → xs ≡ []
none_last says apart [] h = refl
none_last says apart (x ∷ xs) h = absurd (apart x h)

nothing_said : (needs : List Need) (generations : List GenerationState) (replica : ℕ) (rows : List ConfigEntry) → verdict_of needs generations replica rows ≡ Pass
    → (dropped_needs rows needs ≡ []) × (lost_writers replica rows generations ≡ []) × (unread_writers replica rows generations ≡ [])
unfolding verdict_of
nothing_said needs generations replica rows h =
    let one = none_said (λ need. DropsStored need.path need.who) (λ need e. cc) (dropped_needs rows needs) _ h in
    let two = none_said (λ lost. DropsWriter lost.0 lost.1 lost.2) (λ lost e. cc) (lost_writers replica rows generations) _ one.1 in
    (one.0, two.0, none_last (λ lost. Unread lost.0 lost.1 lost.2) (λ lost e. cc) (unread_writers replica rows generations) two.1)

pub passes_exactly : PassesExactly
passes_exactly needs generations replica rows = (
  λ h. (
      let parts = nothing_said needs generations replica rows h in record {
        stored = stored_read rows needs parts.0;
        writers = λ other class there of. writers_read replica rows generations parts.1 other there class of;
        readers = λ other class there of. readers_read replica rows generations parts.2 other there class of;
      }
      ),
  λ fits. sym (passes needs generations replica rows
      (sym (ap first (none_dropped rows needs fits.stored)))
      (sym (ap first (no_writers replica rows generations (λ other there class of. fits.writers other class there of))))
      (sym (ap first (no_readers replica rows generations (λ other there class of. fits.readers other class there of))))),
)
