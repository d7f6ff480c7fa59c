-- `next_byte`: the word at hand gives it, or the next one.
use Rattle.std.proofs.Common.{◌≡◌, ◌<◌, ◌^◌, ◌+◌, ◌%◌, ◌∷◌, ap, length, refl, slice_index, sym, subst, ◌∙◌, arith}
use Rattle.kr_workload.specs.Streams.{rest_at}
use Rattle.kr_workload.specs.inner.Standing.{StandsAt}
use Rattle.kr_workload.proofs.Streaming.{Gives, given_byte, gives_next, gives_within, some_left}
use Rattle.kr_workload.proofs.stream.Stream.next_byte.Goals.{then-within-eq0, else-within-eq0}
use Rattle.kr_workload.proofs.stream.Stream.next_byte.Goals as goal

pub invariant_of-self : goal.invariant_of-self
invariant_of-self c =
    let was = c.self.inside in
    let now = c.if-within-eq0.self-inside in
    let below : was.place < 2 ^ 70 = some_left was.generator.key was.place
    (subst (λ n. 0 < n) (sym (ap length c.self.view_is)) c.requires) in
    let given : Gives was.generator now.generator now.word was.place × (now.place ≡ was.place) =
    elim c.if-within-eq0.branch [
      | then-within-eq0 w ↦ subst
          (λ x. Gives was.generator x.generator x.word was.place × (x.place ≡ was.place))
          (sym w.self-inside-is) (
            subst (λ b. Gives was.generator w.next_word.new.self b was.place)
                (sym w.to_le_bytes-self-inside.ensures)
                (gives_next was.generator w.next_word.new.self was.word was.place w.next_word.result
                c.self.invariant below w.if-within-eq0.true w.next_word.ensures),
            refl,
          )
      | else-within-eq0 w ↦ subst
          (λ x. Gives was.generator x.generator x.word was.place × (x.place ≡ was.place))
          (sym w.self-inside-is) (
            let some : 0 < was.place % 4 = omega (arith, w.if-within-eq0.false) in
                gives_within was.generator was.word was.place c.self.invariant below some,
            refl,
          )
    ] in
    subst (λ p. StandsAt now.generator now.word (p + 1)) (sym given.1) given.0.stands

pub returns : goal.returns
returns c =
    let was = c.self.inside in
    let now = c.if-within-eq0.self-inside in
    let below : was.place < 2 ^ 70 = some_left was.generator.key was.place
    (subst (λ n. 0 < n) (sym (ap length c.self.view_is)) c.requires) in
    let given : Gives was.generator now.generator now.word was.place × (now.place ≡ was.place) =
    elim c.if-within-eq0.branch [
      | then-within-eq0 w ↦ subst
          (λ x. Gives was.generator x.generator x.word was.place × (x.place ≡ was.place))
          (sym w.self-inside-is) (
            subst (λ b. Gives was.generator w.next_word.new.self b was.place)
                (sym w.to_le_bytes-self-inside.ensures)
                (gives_next was.generator w.next_word.new.self was.word was.place w.next_word.result
                c.self.invariant below w.if-within-eq0.true w.next_word.ensures),
            refl,
          )
      | else-within-eq0 w ↦ subst
          (λ x. Gives was.generator x.generator x.word was.place × (x.place ≡ was.place))
          (sym w.self-inside-is) (
            let some : 0 < was.place % 4 = omega (arith, w.if-within-eq0.false) in
                gives_within was.generator was.word was.place c.self.invariant below some,
            refl,
          )
    ] in
    sym c.self.view_is ∙ given_byte was.generator now.generator now.word was.place below given.0
    ∙ ap (λ p. slice_index now.word (was.place % 4) ∷ rest_at now.generator.key (p + 1))
    (sym given.1)
