-- What events of a caller add, one behind another.
use Rattle.std.proofs.Common.{◌≡◌, ◌⊎◌, inl, inr, ℕ, ◌+◌, ◌≤◌, ◌==◌, cond, List, [], ◌∷◌, ◌++◌, refl, sym, ap, subst, ◌∙◌, append-nil, length-append, arith}
use Rattle.std.proofs.lemmas.Bool.{eq-eqb}
use Rattle.std.proofs.lemmas.List.{append_assoc}
use Rattle.std.proofs.lemmas.List.Elements.{filter-append}
use Rattle.kr_base.specs.Lines.{of_seat}
use Rattle.kr_rollout.specs.declared.answer.Answer.{Answer}
use Rattle.kr_rollout.specs.declared.event.Event.{Event}
use Rattle.kr_rollout.specs.declared.line.Did.{Did}
use Rattle.kr_rollout.specs.declared.line.Gave.{Gave}
use Rattle.kr_rollout.specs.declared.line.Gave.TheVariants.{Written}
use Rattle.kr_rollout.specs.declared.opening.Entry.{Entry}
use Rattle.kr_history.specs.Acting.{Caller, AddsEntry}
use Rattle.kr_rollout.specs.Callers.{brings_settings, did_of, reloads_in}
use Rattle.kr_rollout.specs.Entries.{seat_of}
use Rattle.kr_history.specs.PartLaws.{BoundsFollow, PartsAddUp, PartsFollow}
use Rattle.kr_history.specs.Parts.{Adds, AddsWithin, IsPartWithin, put_by, written_put, written_puts}
use Rattle.kr_rollout.proofs.Budgets.{reloads_more}

-- ---- parts

none_added : (c : Caller) → Adds c [] c
none_added c = record {
  more = [];
  new_is = (λ i. record {
    opening = c.opening;
    seat = c.seat;
    seen = sym (append-nil c.seen) i;
    mine = sym (append-nil c.mine) i;
    left = c.left;
  });
  own = refl;
  left_is = omega arith;
}

pub entry_added : (old new : Caller) (asked : Event) (given : Answer)
    → (a : AddsEntry old asked given new) → Adds old (a.entry ∷ []) new
entry_added old new asked given a =
    let own : of_seat seat_of old.seat (a.entry ∷ []) ≡ a.entry ∷ [] =
    ap (λ b. cond b (a.entry ∷ []) []) (eq-eqb a.entry.line.seat old.seat a.records.seat_is) in
    record {
      more = a.others ++ a.entry ∷ [];
      new_is = a.new_is ∙ (λ i. record {
        opening = old.opening;
        seat = old.seat;
        seen = append_assoc old.seen a.others (a.entry ∷ []) i;
        mine = old.mine ++ a.entry ∷ [];
        left = new.left;
      });
      own = filter-append (λ (x : Entry). seat_of x == old.seat) a.others (a.entry ∷ [])
          ∙ (λ i. a.apart i ++ own i);
      left_is = omega (arith, a.left_is);
    }

both_added : (old middle new : Caller) (first second : List Entry) → Adds old first middle
    → Adds middle second new → Adds old (first ++ second) new
both_added old middle new first second a b =
    let seat : middle.seat ≡ old.seat = ap (λ (c : Caller). c.seat) a.new_is in
    let own : of_seat seat_of old.seat b.more ≡ second =
    subst (λ n. of_seat seat_of n b.more ≡ second) seat b.own in
    record {
      more = a.more ++ b.more;
      new_is = b.new_is ∙ ap (λ (c : Caller). behind c) a.new_is ∙ (λ i. record {
        opening = old.opening;
        seat = old.seat;
        seen = append_assoc old.seen a.more b.more i;
        mine = append_assoc old.mine first second i;
        left = new.left;
      });
      own = filter-append (λ (x : Entry). seat_of x == old.seat) a.more b.more
          ∙ (λ i. a.own i ++ own i);
      left_is = omega (arith, a.left_is, b.left_is, length-append first second);
    }
  where
    behind : Caller → Caller
    behind c = record {
      opening = c.opening;
      seat = c.seat;
      seen = c.seen ++ b.more;
      mine = c.mine ++ second;
      left = new.left;
    }

pub parts_follow : PartsFollow
parts_follow = record { none = none_added; one = entry_added; both = both_added }

-- ---- what is counted

puts_more : (first second : List Entry)
    → written_puts (first ++ second) ≡ written_puts first ++ written_puts second
puts_more [] second = refl
puts_more (e ∷ first) second =
    ap (λ puts. written_put e.line.gave e.line.did ++ puts) (puts_more first second)
    ∙ sym (append_assoc (written_put e.line.gave e.line.did) (written_puts first)
    (written_puts second))

pub parts_sum_to_whole : PartsAddUp
parts_sum_to_whole = record { reloads = reloads_more; puts = puts_more }

-- ---- bounds

none_within : (entries reloads : ℕ) (puts : List Did) → IsPartWithin entries reloads puts []
none_within entries reloads puts = record {
  few = omega arith;
  brings_few = omega arith;
  puts_are = inl refl;
}

pub nothing_within : (entries reloads : ℕ) (puts : List Did) (c : Caller)
    → AddsWithin entries reloads puts c c
nothing_within entries reloads puts c =
    ([], none_added c, none_within entries reloads puts)

-- where the caller is as it was
pub same_within : (entries reloads : ℕ) (puts : List Did) (old new : Caller) → new ≡ old
    → AddsWithin entries reloads puts old new
same_within entries reloads puts old new same =
    subst (λ (c : Caller). AddsWithin entries reloads puts old c) (sym same)
    (nothing_within entries reloads puts old)

written_or_not : (gave : Gave) (done : Did)
    → (written_put gave done ≡ []) ⊎ (written_put gave done ≡ put_by done)
written_or_not (Written n) done = inr refl
written_or_not other done = inl refl

one_put : (e : Entry) (done : Did) → e.line.did ≡ done
    → (written_puts (e ∷ []) ≡ []) ⊎ (written_puts (e ∷ []) ≡ put_by done)
one_put e done is = subst
    (λ d. (written_puts (e ∷ []) ≡ []) ⊎ (written_puts (e ∷ []) ≡ put_by d)) is
    (subst (λ puts. (puts ≡ []) ⊎ (puts ≡ put_by e.line.did))
    (sym (append-nil (written_put e.line.gave e.line.did)))
    (written_or_not e.line.gave e.line.did))

one_brought : (e : Entry) (done : Did) → e.line.did ≡ done
    → reloads_in (e ∷ []) ≤ cond (brings_settings done) 1 0
one_brought e done is =
    subst (λ d. reloads_in (e ∷ []) ≤ cond (brings_settings d) 1 0) is (omega arith)

pub entry_within : (old new : Caller) (asked : Event) (given : Answer)
    → AddsEntry old asked given new
    → AddsWithin 1 (cond (brings_settings (did_of asked)) 1 0) (put_by (did_of asked)) old new
entry_within old new asked given a = (
  a.entry ∷ [],
  entry_added old new asked given a,
  record {
    few = omega arith;
    brings_few = one_brought a.entry (did_of asked) a.records.did_is;
    puts_are = one_put a.entry (did_of asked) a.records.did_is;
  },
)

no_puts : (puts : List Did) → (puts ≡ []) ⊎ (puts ≡ []) → puts ≡ []
no_puts puts (inl e) = e
no_puts puts (inr e) = e

puts_behind : (first second : List Entry) (puts : List Did) → written_puts first ≡ []
    → (written_puts second ≡ []) ⊎ (written_puts second ≡ puts)
    → (written_puts (first ++ second) ≡ []) ⊎ (written_puts (first ++ second) ≡ puts)
puts_behind first second puts none (inl e) =
    inl (puts_more first second ∙ (λ i. none i ++ e i))
puts_behind first second puts none (inr e) =
    inr (puts_more first second ∙ (λ i. none i ++ e i))

puts_before : (first second : List Entry) (puts : List Did) → written_puts second ≡ []
    → (written_puts first ≡ []) ⊎ (written_puts first ≡ puts)
    → (written_puts (first ++ second) ≡ []) ⊎ (written_puts (first ++ second) ≡ puts)
puts_before first second puts none (inl e) =
    inl (puts_more first second ∙ (λ i. e i ++ none i))
puts_before first second puts none (inr e) =
    inr (puts_more first second ∙ (λ i. e i ++ none i) ∙ append-nil puts)

few_puts : (of puts : List Did) → (of ≡ []) ⊎ (of ≡ []) → (of ≡ []) ⊎ (of ≡ puts)
few_puts of puts e = inl (no_puts of e)

pub within_more : (entries more reloads brought : ℕ) (puts : List Did) (old new : Caller)
    → entries ≤ more → reloads ≤ brought → AddsWithin entries reloads [] old new
    → AddsWithin more brought puts old new
within_more entries more reloads brought puts old new l m a = (
  a.0,
  a.1,
  record {
    few = omega (arith, l, a.2.few);
    brings_few = omega (arith, m, a.2.brings_few);
    puts_are = few_puts (written_puts a.0) puts a.2.puts_are;
  },
)

module _ (entries more reloads brought : ℕ) (puts : List Did) (old middle new : Caller) where
  both_within : (first second : List Did) (a : AddsWithin entries reloads first old middle)
      (b : AddsWithin more brought second middle new)
      → (written_puts (a.0 ++ b.0) ≡ []) ⊎ (written_puts (a.0 ++ b.0) ≡ puts)
      → AddsWithin (entries + more) (reloads + brought) puts old new
  both_within first second a b puts_are = (
    a.0 ++ b.0,
    both_added old middle new a.0 b.0 a.1 b.1,
    record {
      few = omega (arith, a.2.few, b.2.few, length-append a.0 b.0);
      brings_few = omega (arith, a.2.brings_few, b.2.brings_few, reloads_more a.0 b.0);
      puts_are = puts_are;
    },
  )

  pub within_behind : AddsWithin entries reloads [] old middle
      → AddsWithin more brought puts middle new
      → AddsWithin (entries + more) (reloads + brought) puts old new
  within_behind a b = both_within [] puts a b
      (puts_behind a.0 b.0 puts (no_puts (written_puts a.0) a.2.puts_are) b.2.puts_are)

  pub within_before : AddsWithin entries reloads puts old middle
      → AddsWithin more brought [] middle new
      → AddsWithin (entries + more) (reloads + brought) puts old new
  within_before a b = both_within puts [] a b
      (puts_before a.0 b.0 puts (no_puts (written_puts b.0) b.2.puts_are) a.2.puts_are)

pub bounds_follow : BoundsFollow
bounds_follow = record {
  none = nothing_within;
  one = entry_within;
  weaker = within_more;
  behind = within_behind;
  before = within_before;
}

-- an Adopt, one event, a LetGo
pub held_within : (reloads : ℕ) (puts : List Did) (old adopted acted new : Caller)
    → AddsWithin 1 0 [] old adopted → AddsWithin 1 reloads puts adopted acted
    → AddsWithin 1 0 [] acted new → AddsWithin 3 reloads puts old new
held_within reloads puts old adopted acted new a b c =
    let first = within_behind 1 1 0 reloads puts old adopted acted a b in
    let all = within_before (1 + 1) 1 (0 + reloads) 0 puts old acted new first c in (
      all.0,
      all.1,
      record {
        few = omega (arith, all.2.few);
        brings_few = omega (arith, all.2.brings_few);
        puts_are = all.2.puts_are;
      },
    )
