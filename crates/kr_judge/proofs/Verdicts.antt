-- The verdict from the first reason of each kind.
use Rattle.std.proofs.Common.{◌≡◌, ◌≢◌, ℕ, List, [], ◌∷◌, ◌++◌, None, Some, Result, Ok, Err, IfOk, MatchResult, map, refl, sym, ap, subst, ◌∙◌}
use Rattle.std.specs.Option.{option_map}
use Rattle.kr_base.specs.declared.errors.NoMemory.{NoMemory}
use Rattle.kr_config.specs.declared.class.Class.{Class}
use Rattle.kr_config.specs.declared.who.Who.{Who}
use Rattle.kr_config.specs.Kept.{ConfigEntry}
use Rattle.kr_judge.specs.declared.need.Need.{Need}
use Rattle.kr_judge.specs.declared.verdict.Verdict.{Verdict}
use Rattle.kr_judge.specs.declared.verdict.Verdict.TheVariants.{Pass, DropsStored, DropsWriter, Unread}
use Rattle.kr_judge.specs.Boards.{GenerationState}
use Rattle.kr_judge.specs.inner.Earliest.{at_path, stored_by}
use Rattle.kr_judge.specs.Verdicts.{dropped_needs, lost_writers, unread_writers, first, first_or_pass, verdict_of}

found : {X : Type 0} (says : X → Verdict) (xs : List X) (more : List Verdict) (x : X) → Some x ≡ first xs → first_or_pass (map says xs ++ more) ≡ says x
found says [] more x h = cc
found says (y ∷ xs) more x h = ap says (let e : y ≡ x = cc in e)

none : {X : Type 0} (says : X → Verdict) (xs : List X) (more : List Verdict) → None ≡ first xs → first_or_pass (map says xs ++ more) ≡ first_or_pass more
none says [] more h = refl
none says (y ∷ xs) more h = cc

last_found : {X : Type 0} (says : X → Verdict) (xs : List X) (x : X) → Some x ≡ first xs → first_or_pass (map says xs) ≡ says x
last_found says [] x h = cc
last_found says (y ∷ xs) x h = ap says (let e : y ≡ x = cc in e)

last_none : {X : Type 0} (says : X → Verdict) (xs : List X) → None ≡ first xs → first_or_pass (map says xs) ≡ Pass
last_none says [] h = refl
last_none says (y ∷ xs) h = cc

abbrev unread_reasons : ℕ → List ConfigEntry → List GenerationState → List Verdict
unread_reasons replica rows generations = map (λ lost. Unread lost.0 lost.1 lost.2) (unread_writers replica rows generations)

abbrev later_reasons : ℕ → List ConfigEntry → List GenerationState → List Verdict
later_reasons replica rows generations = map (λ lost. DropsWriter lost.0 lost.1 lost.2) (lost_writers replica rows generations) ++ unread_reasons replica rows generations

-- a reason that is copied out, or want of memory where there is one
abbrev pub Tells : Verdict → Result Verdict NoMemory → Type 0
Tells told result = MatchResult result (λ verdict. verdict ≡ told) (λ _. told ≢ Pass)

tells : (told copied : Verdict) (result : Result Verdict NoMemory) → told ≡ copied → copied ≢ Pass → IfOk result (λ verdict. verdict ≡ copied) → Tells told result
tells told copied (Ok verdict) e n h = h ∙ sym e
tells told copied (Err why) e n h = λ p. n (sym e ∙ p)

pub tells_stored : (needs : List Need) (generations : List GenerationState) (replica : ℕ) (rows : List ConfigEntry) (need : Need) (result : Result Verdict NoMemory) → Some need ≡ first (dropped_needs rows needs)
    → IfOk result (λ verdict. verdict ≡ DropsStored need.path need.who) → Tells (verdict_of needs generations replica rows) result
unfolding verdict_of
tells_stored needs generations replica rows need result h k =
    tells (verdict_of needs generations replica rows) (DropsStored need.path need.who) result (found (λ own. DropsStored own.path own.who) (dropped_needs rows needs) (later_reasons replica rows generations) need h) (λ p. cc) k

pub tells_writer : (needs : List Need) (generations : List GenerationState) (replica : ℕ) (rows : List ConfigEntry) (number : ℕ) (class : Class) (who : Who) (result : Result Verdict NoMemory) → None ≡ first (dropped_needs rows needs)
    → Some (number, class, who) ≡ first (lost_writers replica rows generations) → IfOk result (λ verdict. verdict ≡ DropsWriter number class who) → Tells (verdict_of needs generations replica rows) result
unfolding verdict_of
tells_writer needs generations replica rows number class who result h k m =
    tells (verdict_of needs generations replica rows) (DropsWriter number class who) result
    (none (λ own. DropsStored own.path own.who) (dropped_needs rows needs) (later_reasons replica rows generations) h ∙ found (λ lost. DropsWriter lost.0 lost.1 lost.2) (lost_writers replica rows generations) (unread_reasons replica rows generations) (number, class, who) k) (λ p. cc) m

pub tells_unread : (needs : List Need) (generations : List GenerationState) (replica : ℕ) (rows : List ConfigEntry) (number : ℕ) (class : Class) (who : Who) (result : Result Verdict NoMemory) → None ≡ first (dropped_needs rows needs)
    → None ≡ first (lost_writers replica rows generations) → Some (number, class, who) ≡ first (unread_writers replica rows generations) → IfOk result (λ verdict. verdict ≡ Unread number class who)
    → Tells (verdict_of needs generations replica rows) result
unfolding verdict_of
tells_unread needs generations replica rows number class who result h k m o =
    tells (verdict_of needs generations replica rows) (Unread number class who) result
    (none (λ own. DropsStored own.path own.who) (dropped_needs rows needs) (later_reasons replica rows generations) h ∙ none (λ lost. DropsWriter lost.0 lost.1 lost.2) (lost_writers replica rows generations) (unread_reasons replica rows generations) k
    ∙ last_found (λ lost. Unread lost.0 lost.1 lost.2) (unread_writers replica rows generations) (number, class, who) m) (λ p. cc) o

pub passes : (needs : List Need) (generations : List GenerationState) (replica : ℕ) (rows : List ConfigEntry) → None ≡ first (dropped_needs rows needs) → None ≡ first (lost_writers replica rows generations)
    → None ≡ first (unread_writers replica rows generations) → Pass ≡ verdict_of needs generations replica rows
unfolding verdict_of
passes needs generations replica rows h k m =
    sym (none (λ own. DropsStored own.path own.who) (dropped_needs rows needs) (later_reasons replica rows generations) h ∙ none (λ lost. DropsWriter lost.0 lost.1 lost.2) (lost_writers replica rows generations) (unread_reasons replica rows generations) k
    ∙ last_none (λ lost. Unread lost.0 lost.1 lost.2) (unread_writers replica rows generations) m)

-- the first need that is lost by its path and its provider
none_need : (xs : List Need) → None ≡ option_map stored_by (first xs) → None ≡ first xs
none_need [] h = refl
none_need (x ∷ xs) h = cc

pub passes_none : (needs : List Need) (generations : List GenerationState) (replica : ℕ) (rows : List ConfigEntry) → None ≡ option_map stored_by (first (dropped_needs rows needs)) → None ≡ first (lost_writers replica rows generations)
    → None ≡ first (unread_writers replica rows generations) → Pass ≡ verdict_of needs generations replica rows
passes_none needs generations replica rows h k m = passes needs generations replica rows (none_need (dropped_needs rows needs) h) k m

pub none_stored : (rows : List ConfigEntry) (needs : List Need) → None ≡ option_map stored_by (first (dropped_needs rows needs)) → None ≡ first (dropped_needs rows needs)
none_stored rows needs h = none_need (dropped_needs rows needs) h

some_need : (xs : List Need) (path : List ℕ) (who : Who) → Some (at_path who path) ≡ option_map stored_by (first xs) → (need : Need) × (Some need ≡ first xs) × (path ≡ need.path) × (who ≡ need.who)
some_need [] path who h = cc
some_need (x ∷ xs) path who h = (let e : at_path who path ≡ stored_by x = cc in (x, refl, ap (λ (p : List ℕ × Who). p.0) e, ap (λ (p : List ℕ × Who). p.1) e))

pub tells_lost : (needs : List Need) (generations : List GenerationState) (replica : ℕ) (rows : List ConfigEntry) (path : List ℕ) (who : Who) (result : Result Verdict NoMemory)
    → Some (at_path who path) ≡ option_map stored_by (first (dropped_needs rows needs)) → IfOk result (λ verdict. verdict ≡ DropsStored path who) → Tells (verdict_of needs generations replica rows) result
tells_lost needs generations replica rows path who result h k =
    let own = some_need (dropped_needs rows needs) path who h in
    tells_stored needs generations replica rows own.0 result own.1 (subst (λ v. IfOk result (λ verdict. verdict ≡ v)) (ap (λ p. DropsStored p who) own.2 ∙ ap (DropsStored own.0.path) own.3) k)
