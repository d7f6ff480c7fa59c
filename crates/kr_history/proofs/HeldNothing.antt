-- A caller that holds nothing: the entry of its next event names no generation.
use Rattle.std.proofs.Common.{◌≡◌, ℕ, zero, suc, ◌<◌, ◌==◌, List, [], ◌∷◌, ◌++◌, length, Contains, Option, None, Some, refl, sym, ap, ◌∙◌, arith, append-nil}
use Rattle.std.proofs.lemmas.List.Elements.{filter-append}
use Rattle.std.proofs.lemmas.Option.{none-some}
use Rattle.kr_base.specs.Lines.{of_seat}
use Rattle.kr_opening.specs.declared.generation.Generation.{Generation}
use Rattle.kr_rollout.specs.declared.answer.Answer.{Answer}
use Rattle.kr_rollout.specs.declared.event.Event.{Event}
use Rattle.kr_rollout.specs.declared.opening.Entry.{Entry}
use Rattle.kr_rollout.specs.Callers.{holding, number_with, with_published}
use Rattle.kr_rollout.specs.Entries.{published_at, seat_of}
use Rattle.kr_rollout.specs.Histories.{state_of}
use Rattle.kr_rollout.specs.States.{State, held_by, number_at}
use Rattle.kr_rollout.proofs.Holdings.{holding_of}
use Rattle.kr_history.specs.Acting.{AddsEntry, Caller, IsCaller}
use Rattle.kr_history.proofs.Fitting.{legal_sound}
use Rattle.kr_history.proofs.Sound.{contains_at}

-- the number of a generation has its configuration
is_named : (number : ℕ) (generations : List Generation) (place : ℕ) → place < length generations
    → with_published number (published_at generations (Some place)) ≡ None → ⊥
is_named number [] place l e = absurd (omega (arith, l))
is_named number (g ∷ generations) zero l e = none-some (number, g.published) (sym e)
is_named number (g ∷ generations) (suc place) l e =
    is_named number generations place (omega (arith, l)) e

none_held : (generations : List Generation) (held : List (Option ℕ)) (seat : ℕ)
    → ((number : ℕ) → Contains held (Some number) → number < length generations)
    → number_with generations (number_at held seat) ≡ None → number_at held seat ≡ None
none_held generations held seat within = by (number_at held seat) refl
  where
    by : (x : Option ℕ) → number_at held seat ≡ x → number_with generations x ≡ None → x ≡ None
    by None is e = refl
    by (Some n) is e =
        absurd (is_named n generations n (within n (contains_at held seat n is)) e)

pub holds_nothing : (old new : Caller) (asked : Event) (given : Answer) → IsCaller old
    → (a : AddsEntry old asked given new) → holding old.mine ≡ None → a.entry.line.held ≡ None
holds_nothing old new asked given k a none =
    let before : List Entry = old.seen ++ a.others in
    let st : State = state_of old.opening before in
    let own : of_seat seat_of old.seat before ≡ old.mine =
    filter-append (λ (e : Entry). seat_of e == old.seat) old.seen a.others
    ∙ ap (λ more. of_seat seat_of old.seat old.seen ++ more) a.apart
    ∙ append-nil (of_seat seat_of old.seat old.seen) ∙ k.own in
    a.step.held ∙ ap (held_by st) a.records.seat_is
    ∙ none_held st.generations st.held old.seat (legal_sound old.opening before a.legal).held
    (sym (holding_of old.opening before old.seat a.legal k.seat_in) ∙ ap holding own ∙ none)
