-- An object that is out, and the counts that go back with it.
use Rattle.std.proofs.Common.{Option, ◌≡◌, ℕ, ◌<◌, List, cond, refl, sym, ◌∙◌, ap, subst, arith}
use Rattle.kr_kms.specs.Calls.{Link}
use Rattle.kr_kms.specs.Outside.{Objects, HandsOut, TakesBack, at_key, same_link, same_name, same_seat, link_at}
use Rattle.kr_kms.specs.declared.plugin.Status.{Status}
use Rattle.kr_kms.proofs.Lent.{links_decide, names_decide, seats_decide}

-- one of the name
own : (name : List ℕ) → at_key same_name name 1 name ≡ 1
own name = ap (λ q. cond q 1 0) ((names_decide name name).1 refl)

-- what was handed out is out
pub is_out : {V : Type 0} {old new : Objects (List ℕ) V} {name : List ℕ} {count : ℕ}
    → HandsOut same_name old new name count → 0 < new.out name
is_out {V} {old} {new} {name} given = omega (arith, given.out name, own name)

-- also once another count was told
pub is_still_out : {V : Type 0} {old new : Objects (List ℕ) V} {name : List ℕ} {count : ℕ}
    (later : ℕ) → HandsOut same_name old new name count → later ≡ new.out name → 0 < later
is_still_out {V} {old} {new} {name} later given same = omega (arith, given.out name, own name, same)

-- one that goes back leaves as many as there were
pub goes_back : {V : Type 0} {old mid new : Objects (List ℕ) V} {name : List ℕ} {count after : ℕ}
    → HandsOut same_name old mid name count → TakesBack same_name mid new name after
    → new.out name ≡ old.out name
goes_back {V} {old} {mid} {new} {name} given back =
    omega (arith, given.out name, back.out name, own name)

pub stays : {V : Type 0} {old new : Objects (List ℕ) V} {name : List ℕ} → new ≡ old
    → new.out name ≡ old.out name
stays {V} {old} {new} {name} same = ap (λ (o : Objects (List ℕ) V). o.out name) same

own_seat : (seat : ℕ) → at_key same_seat seat 1 seat ≡ 1
own_seat seat = ap (λ q. cond q 1 0) ((seats_decide seat seat).1 refl)

-- the same of a random source, by its seat
pub seat_is_out : {V : Type 0} {old new : Objects ℕ V} {seat : ℕ} {count : ℕ}
    → HandsOut same_seat old new seat count → 0 < new.out seat
seat_is_out {V} {old} {new} {seat} given = omega (arith, given.out seat, own_seat seat)

-- a link that was handed out is out by the name that it has still
pub link_is_out : {old new : Objects (ℕ × List ℕ) (Option Status)} {seat : ℕ} {plugin now : List ℕ}
    {count : ℕ} (link : Link) → HandsOut same_link old new (seat, plugin) count
    → link ≡ link_at old seat plugin → now ≡ link.name → 0 < new.out (seat, now)
link_is_out {old} {new} {seat} {plugin} {now} link given is same =
    subst (λ name. 0 < new.out (seat, name)) (sym (same ∙ ap (λ (l : Link). l.name) is))
    (omega (arith, given.out (seat, plugin), one))
  where
    one : at_key same_link (seat, plugin) 1 (seat, plugin) ≡ 1
    one = ap (λ q. cond q 1 0) ((links_decide (seat, plugin) (seat, plugin)).1 refl)
