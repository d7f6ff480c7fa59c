-- Filling a buffer: how it begins, and how it stops.
use Rattle.std.proofs.Common.{◌≡◌, ℕ, ◌+◌, ◌-◌, ◌<◌, ◌≤◌, List, [], ◌++◌, length, take, false, Option, None, Some, Err, IfSome, refl, sym, subst, arith, length-append}
use Rattle.std.specs.Io.KnownBytes.{Consumes}
use Rattle.kr_base.specs.Told.{Agrees}
use Rattle.kr_store.specs.Breaches.{part}
use Rattle.kr_store.specs.inner.Reading.{Ahead, Moves, Breaks, Begins, Fills}
use Rattle.kr_store.specs.declared.answers.LoadStop.{LoadStop}
use Rattle.kr_store.specs.declared.answers.LoadStop.TheVariants.{Breach, Failed, NoMemory}
use Rattle.kr_store.specs.declared.answers.Cause.TheVariants.{Torn}
use Rattle.kr_store.proofs.Parts.{part_torn}
use Rattle.kr_store.proofs.Steps.{seen, rest_of, stays, untold_first, Filling}

-- nothing was read
pub stays_torn : (told : Option (List ℕ)) (place end count : ℕ) (old : Ahead)
    → IfSome told (λ bytes. end ≡ length bytes) → place ≤ end → seen told place end count ≡ old
    → Moves false old old
stays_torn told place end count old e w is =
    subst (λ (a : Ahead). Moves false a a) is (stays told place end count e w)

pub begins_filling : (told : Option (List ℕ)) (place end count : ℕ) (old : Ahead) (into : List ℕ)
    → IfSome told (λ bytes. end ≡ length bytes) → place ≤ end → length into ≤ end - place
    → seen told place end count ≡ old → Filling old old into 0
begins_filling told place end count old into e w l is =
    subst (λ (a : Ahead). Filling a a into 0) is (record {
      moves = stays told place end count e w;
      takes = record { consumed = none (rest_of place told); place = omega arith };
      within = omega arith;
      room = omega (arith, w, l);
    })
  where
    none : (t : Option (List ℕ)) → Consumes t t []
    none None = tt
    none (Some bytes) = refl

-- where the tape tells nothing, it may have no more
breaks_untold : (first : Ahead) (n : ℕ) → first.left ≡ None → first.place ≤ first.end → 0 < n
    → Breaks first (part n) Torn
breaks_untold first n u w s = record {
  bytes = [];
  agrees = subst (λ t. Agrees t []) (sym u) tt;
  within = omega (arith, w);
  breaks = part_torn [] n s;
}

pub not_filled : (first now next : Ahead) (into piece : List ℕ) (done : ℕ) (stop : LoadStop)
    → Filling first now into done → done < length into → length piece ≡ length into - done
    → Begins now next piece (Err stop)
    → Fills {A = Unit {0}} first next (take done into ++ piece) (Err stop)
not_filled first now next into piece done (Breach cause) f l e b =
    subst (λ k. Breaks first (part (length (take done into ++ piece))) k) (sym b.1)
    (breaks_untold first (length (take done into ++ piece))
    (untold_first first.left now.left (take done into) f.takes.consumed b.0)
    (omega (arith, f.room, f.moves.end, f.takes.place))
    (omega (arith, length-append (take done into) piece, e, l)))
not_filled first now next into piece done Failed f l e b = tt
not_filled first now next into piece done NoMemory f l e b = b
