-- A tape that is made where none of its name is here or out.
use Rattle.std.proofs.Common.{◌≡◌, ℕ, List, [], ◌∷◌, ◌++◌, Bool, true, None, Some, option_map, Result, Ok, Err, ◌⊎◌, inl, inr, refl, sym, ap, subst}
use Rattle.std.specs.Prelude.{count_by, IfOk, IfErr}
use Rattle.kr_base.specs.Faults.{counted}
use Rattle.kr_base.specs.InMemory.{TapeState, faults_of}
use Rattle.kr_kms.specs.MemWorld.{TapeShelf, first_tape, place_of, objects_by, tape_name, new_tape, GivesTape}
use Rattle.kr_kms.specs.Outside.{HandsOut, IsTape, has_failed, same_name}
use Rattle.kr_kms.specs.declared.world.FileNo.{FileNo}
use Rattle.kr_kms.specs.declared.world.FileNo.TheVariants.{NoMemory}
use Rattle.kr_kms.proofs.Lent.{made, names_decide, no_place}

module _ (old new : TapeShelf) (name : List ℕ) (make : Bool) (room faults : ℕ)
    (place : place_of same_name tape_name old.items name ≡ None) where
  none_here : first_tape old.items name ≡ None
  none_here = no_place (λ entry. same_name (tape_name entry) name) old.items place

  pub made_gives : (result : Result TapeState FileNo)
      → count_by (λ other. same_name other name) old.out ≡ 0 → make ≡ true
      → IfOk result (λ tape. tape ≡ new_tape room) → IfErr result (λ why. why ≡ NoMemory)
      → GivesTape (option_map (λ entry. entry.1) (first_tape old.items name))
      (count_by (λ other. same_name other name) old.out) make room faults result faults
  made_gives (Ok tape) out m is why =
      (out, inr (ap (option_map (λ entry. entry.1)) none_here, m, is), refl)
  made_gives (Err w) out m is why =
      subst (λ w. GivesTape (option_map (λ entry. entry.1) (first_tape old.items name))
      (count_by (λ other. same_name other name) old.out) make room faults (Err w) faults) (sym why)
      (out, inr m, refl)

  pub made_out : (result : Result TapeState FileNo)
      → IfOk result (λ tape. tape ≡ new_tape room)
      → IfOk result (λ tape. new ≡ record { items = old.items; out = old.out ++ name ∷ [] })
      → IfOk result (λ tape. HandsOut same_name
      (objects_by same_name tape_name (λ first. Some (option_map (λ entry. entry.1.bytes) first))
      (λ entry. faults_of entry.1) old)
      (objects_by same_name tape_name (λ first. Some (option_map (λ entry. entry.1.bytes) first))
      (λ entry. faults_of entry.1) new) name (faults_of tape))
  made_out (Ok tape) is gone =
      made same_name tape_name (λ first. Some (option_map (λ entry. entry.1.bytes) first))
      (λ entry. faults_of entry.1) names_decide old new name place gone refl (ap faults_of is)
  made_out (Err why) is gone = tt

  pub made_empty : (result : Result TapeState FileNo) → make ≡ true
      → IfOk result (λ tape. tape ≡ new_tape room)
      → IfOk result (λ tape. IsTape
      (Some (option_map (λ entry. entry.1.bytes) (first_tape old.items name))) make
      (Some tape.bytes))
  made_empty (Ok tape) m is =
      subst (λ f. IsTape (Some (option_map (λ entry. entry.1.bytes) f)) make (Some tape.bytes))
      (sym none_here) (m, ap (λ (t : TapeState). Some t.bytes) is)
  made_empty (Err why) m is = tt

-- there is no memory to lend the one that is here
pub starved : {Out There Make Same : Type 0} → Out → There × Same → Out × (There ⊎ Make) × Same
starved out (there, same) = (out, inl there, same)

pub alone_if : {T E : Type 0} (result : Result T E) (count : ℕ) → count ≡ 0
    → IfOk result (λ t. count ≡ 0)
alone_if (Ok t) count e = e
alone_if (Err e) count none = tt

-- want of memory counts as no fault
pub not_counted : {T : Type 0} (result : Result T FileNo) (count : ℕ)
    → IfErr result (λ why. why ≡ NoMemory) → count ≡ counted (has_failed result) count
not_counted (Ok t) count e = refl
not_counted {T} (Err why) count e =
    subst (λ w. count ≡ counted (has_failed {T = T} (Err w)) count) (sym e) refl
