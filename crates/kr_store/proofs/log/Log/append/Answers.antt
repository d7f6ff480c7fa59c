-- Answers of Log::append.
use Rattle.std.proofs.Common.{◌≡◌, ℕ, Bool, true, List, ◌++◌, take, Option, None, Some, refl, sym, ◌∙◌, ap, subst, arith, length-append}
use Rattle.std.proofs.lemmas.List.{take-take, length-take-le}
use Rattle.std.specs.Option.{option_map}
use Rattle.kr_base.specs.Tapes.{KeepsFront}
use Rattle.kr_store.specs.inner.Log.{Tail, HoldsEnd}
use Rattle.kr_store.proofs.log.Log.append.Goals as goal

-- what a failed write leaves of a tape that was cut to the file
still_front : (told mid now : Option (List ℕ)) (end at : ℕ)
    → mid ≡ option_map (λ held. take end held) told → at ≡ end → KeepsFront mid now at
    → KeepsFront told now end
still_front told mid now end at m e k =
    (k.0, k.1 ∙ ap (λ t. option_map (λ bytes. take at bytes ++ k.0) t) m ∙ same told)
  where
    same : (t : Option (List ℕ))
        → option_map (λ bytes. take at bytes ++ k.0) (option_map (λ held. take end held) t)
        ≡ option_map (λ bytes. take end bytes ++ k.0) t
    same None = refl
    same (Some held) = ap (λ (l : List ℕ). Some (l ++ k.0))
        (ap (λ n. take n (take end held)) e ∙ take-take end end held (omega arith))

still_held : (mid now : Option (List ℕ)) (end : ℕ) (torn : Bool) → HoldsEnd mid end torn
    → KeepsFront mid now end → HoldsEnd now end true
still_held None now end torn h k = subst (λ t. HoldsEnd t end true) (sym k.1) tt
still_held (Some held) now end torn h k = subst (λ t. HoldsEnd t end true) (sym k.1) (
  omega (arith, length-append (take end held) k.0, length-take-le end held h.0),
  λ e. cc,
)

pub invariant_of-self-in-Err : goal.invariant_of-self-in-Err
invariant_of-self-in-Err g c = (
  still_held (g.T.Tape.told c.self.inside.tape) (g.T.Tape.told c.put_at.new.self) c.self.inside.end
      c.self.inside.torn c.self.invariant.0 c.in-Err.ensures.bytes,
  λ e. cc,
)

-- what was cut is settled before this is put
pub put_at-requires-clause-cuts : goal.put_at-requires-clause-cuts
put_at-requires-clause-cuts g c = c.self.invariant.1
    (ap (λ (a : Tail). a.torn) c.self.view_is ∙ c.in_ok-ready.ensures.readies.2)

pub returns-in-Err-clause-extends : goal.returns-in-Err-clause-extends
returns-in-Err-clause-extends g c =
    let at = ap (λ (a : Tail). a.end) c.self.view_is ∙ c.in_ok-ready.ensures.readies.1 in (
      still_front c.args.self.now.told (g.T.Tape.told c.self.inside.tape)
          (g.T.Tape.told c.put_at.new.self) c.args.self.now.end c.self.inside.end
          (ap (λ (a : Tail). a.told) c.self.view_is ∙ c.in_ok-ready.ensures.readies.0) at
          c.in-Err.ensures.bytes,
      at,
      refl,
    )
