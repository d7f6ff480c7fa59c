-- Going through the other live generations.
use Rattle.std.proofs.Common.{◌≡◌, ℕ, ◌<◌, ◌≤◌, ◌+◌, Bool, true, false, List, ◌∷◌, None, Some, length, get_or, drop, sym, ap, subst, ◌∙◌, arith}
use Rattle.std.specs.Prelude.{cond}
use Rattle.std.specs.List.{filter, flat_map, slice_get}
use Rattle.std.specs.Option.{option_map}
use Rattle.std.proofs.lemmas.List.{length-map}
use Rattle.kr_config.specs.declared.class.Class.{Class}
use Rattle.kr_config.specs.declared.who.Who.{Who}
use Rattle.kr_config.specs.declared.settings.Settings.{Settings}
use Rattle.kr_config.specs.Kept.{ConfigEntry, rows_of}
use Rattle.kr_judge.specs.declared.generation.JudgedGeneration.{JudgedGeneration}
use Rattle.kr_judge.specs.declared.judging.Writer.{Writer}
use Rattle.kr_judge.specs.Boards.{GenerationState}
use Rattle.kr_judge.specs.Verdicts.{is_other, first}
use Rattle.kr_judge.specs.Scans.{live_from, live_numbers}
use Rattle.kr_judge.specs.inner.Losses.{losses_at, losses_by, losses_on}
use Rattle.kr_judge.specs.inner.Views.{generation_of}
use Rattle.kr_judge.proofs.Parts.{drop_end, first_none, first_some, first_map}
use Rattle.kr_judge.proofs.Lives.{live_within, live_step, others_live}

abbrev numbering : ℕ → Class × Who → ℕ × Class × Who
numbering n lost = (n, lost.0, lost.1)

-- what is lost of the others among the live generations from a place on
abbrev pub remaining : Writer → List Class → ℕ → List ConfigEntry → List GenerationState → ℕ → List (ℕ × Class × Who)
remaining writer classes replica rows generations j = flat_map (losses_by writer classes rows) (filter (λ n. is_other replica n.1) (drop j (live_from 0 generations)))

-- what is left of the live generations decides
pub record AreLost (writer : Writer) (classes : List Class) (replica : ℕ) (rows : List ConfigEntry) (generations : List GenerationState) (j : ℕ) : Type 0 where
  pub first_is : first (losses_on writer classes replica rows generations) ≡ first (remaining writer classes replica rows generations j)

pub loss_begin : (writer : Writer) (classes : List Class) (replica : ℕ) (rows : List ConfigEntry) (generations : List GenerationState) → AreLost writer classes replica rows generations 0
loss_begin writer classes replica rows generations = record { first_is = ap (λ l. first (flat_map (losses_by writer classes rows) l)) (others_live replica generations) }

pub loss_within : (generations : List GenerationState) (live : List ℕ) (j n : ℕ) → live ≡ live_numbers generations → j < length live → n ≡ get_or live j 0 → n < length generations
loss_within generations live j n e h is = live_within generations j n (subst (λ l. j < length l) e h) (is ∙ ap (λ l. get_or l j 0) e)

step : (writer : Writer) (classes : List Class) (replica : ℕ) (rows : List ConfigEntry) (generations : List GenerationState) (live : List ℕ) (j n : ℕ) (g : JudgedGeneration) (v : Bool) → live ≡ live_numbers generations → j < length live → n ≡ get_or live j 0
    → Some (generation_of g) ≡ slice_get generations n → is_other replica (generation_of g) ≡ v
    → remaining writer classes replica rows generations j ≡ flat_map (losses_by writer classes rows) (cond v ((n, generation_of g) ∷ filter (λ m. is_other replica m.1) (drop (j + 1) (live_from 0 generations))) (filter (λ m. is_other replica m.1) (drop (j + 1) (live_from 0 generations))))
step writer classes replica rows generations live j n g v e h is shown other =
    ap (λ l. flat_map (losses_by writer classes rows) (filter (λ m. is_other replica m.1) l)) (live_step generations j n (generation_of g) (subst (λ l. j < length l) e h) (is ∙ ap (λ l. get_or l j 0) e) shown)
    ∙ ap (λ t. flat_map (losses_by writer classes rows) (cond t ((n, generation_of g) ∷ filter (λ m. is_other replica m.1) (drop (j + 1) (live_from 0 generations))) (filter (λ m. is_other replica m.1) (drop (j + 1) (live_from 0 generations))))) other

pub loss_skip : (writer : Writer) (classes : List Class) (replica : ℕ) (rows : List ConfigEntry) (generations : List GenerationState) (live : List ℕ) (j n : ℕ) (g : JudgedGeneration) → AreLost writer classes replica rows generations j → live ≡ live_numbers generations
    → j < length live → n ≡ get_or live j 0 → Some (generation_of g) ≡ slice_get generations n → is_other replica (generation_of g) ≡ false → AreLost writer classes replica rows generations (j + 1)
loss_skip writer classes replica rows generations live j n g before e h is shown other = record { first_is = before.first_is ∙ ap (first {X = ℕ × Class × Who}) (step writer classes replica rows generations live j n g false e h is shown other) }

-- what is said of one of them
own_said : (writer : Writer) (classes : List Class) (rows : List ConfigEntry) (n : ℕ) (g : JudgedGeneration) (own : Settings) → own ≡ g.settings
    → first (losses_by writer classes rows (n, generation_of g)) ≡ option_map (numbering n) (first (losses_at writer classes (rows_of own.entries.0) rows))
own_said writer classes rows n g own settings = first_map (numbering n) (losses_at writer classes (rows_of g.settings.entries.0) rows)
    ∙ ap (λ (s : Settings). option_map (numbering n) (first (losses_at writer classes (rows_of s.entries.0) rows))) (sym settings)

pub loss_none : (writer : Writer) (classes : List Class) (replica : ℕ) (rows : List ConfigEntry) (generations : List GenerationState) (live : List ℕ) (j n : ℕ) (g : JudgedGeneration) (own : Settings) → AreLost writer classes replica rows generations j → live ≡ live_numbers generations
    → j < length live → n ≡ get_or live j 0 → Some (generation_of g) ≡ slice_get generations n → is_other replica (generation_of g) ≡ true → own ≡ g.settings
    → None ≡ first (losses_at writer classes (rows_of own.entries.0) rows) → AreLost writer classes replica rows generations (j + 1)
loss_none writer classes replica rows generations live j n g own before e h is shown other settings none = record {
  first_is = before.first_is ∙ ap (first {X = ℕ × Class × Who}) (step writer classes replica rows generations live j n g true e h is shown other)
      ∙ first_none (losses_by writer classes rows (n, generation_of g)) (remaining writer classes replica rows generations (j + 1)) (ap (option_map (numbering n)) none ∙ sym (own_said writer classes rows n g own settings));
}

pub loss_found : (writer : Writer) (classes : List Class) (replica : ℕ) (rows : List ConfigEntry) (generations : List GenerationState) (live : List ℕ) (j n : ℕ) (g : JudgedGeneration) (own : Settings) (class : Class) (who : Who) → AreLost writer classes replica rows generations j
    → live ≡ live_numbers generations → j < length live → n ≡ get_or live j 0 → Some (generation_of g) ≡ slice_get generations n → is_other replica (generation_of g) ≡ true → own ≡ g.settings
    → Some (class, who) ≡ first (losses_at writer classes (rows_of own.entries.0) rows) → Some (n, class, who) ≡ first (losses_on writer classes replica rows generations)
loss_found writer classes replica rows generations live j n g own class who before e h is shown other settings some =
    sym (before.first_is ∙ ap (first {X = ℕ × Class × Who}) (step writer classes replica rows generations live j n g true e h is shown other)
    ∙ first_some (losses_by writer classes rows (n, generation_of g)) (remaining writer classes replica rows generations (j + 1)) (n, class, who) (ap (option_map (numbering n)) some ∙ sym (own_said writer classes rows n g own settings)))

pub loss_end : (writer : Writer) (classes : List Class) (replica : ℕ) (rows : List ConfigEntry) (generations : List GenerationState) (live : List ℕ) (j : ℕ) → AreLost writer classes replica rows generations j → live ≡ live_numbers generations → length live ≤ j
    → None ≡ first (losses_on writer classes replica rows generations)
loss_end writer classes replica rows generations live j before e h = sym (before.first_is ∙ ap (λ l. first (flat_map (losses_by writer classes rows) (filter (λ n. is_other replica n.1) l)))
    (drop_end (live_from 0 generations) j (omega (arith, h, ap length e, length-map (live_from 0 generations) (λ n. n.0)))))
