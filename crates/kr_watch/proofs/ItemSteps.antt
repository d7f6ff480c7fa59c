-- What the methods of the list of items do, as their calls tell it.
use Rattle.std.proofs.Common.{◌≡◌, ℕ, List, Some, Result, Ok, Err, sym, subst, OnOk}
use Rattle.std.specs.Option.{option_map}
use Rattle.kr_watch.specs.declared.item.Item.{Item}
use Rattle.kr_watch.specs.Shown.{ChangesItem, item_at}
use Rattle.kr_watch.specs.Noting.{at_revision}
use Rattle.kr_watch.proofs.Items.{path_found}

-- what holds where a call was done, holds of more
pub ok_then : {T E : Type 0} (r : Result T E) (P Q : Type 0) → (P → Q) → OnOk r P → OnOk r Q
ok_then (Ok x) P Q f h = f h
ok_then (Err e) P Q f h = tt

-- ---- revise

pub revised_told : (old new : List Item) (path : List ℕ) (revision : ℕ) (was item : Item)
    → Some was ≡ item_at old path → item ≡ at_revision revision was
    → ChangesItem item.path (Some item) old new
    → ChangesItem path (option_map (at_revision revision) (item_at old path)) old new
revised_told old new path revision was item found is h =
    let own : was.path ≡ path = path_found old path was (sym found) in
    subst (λ o. ChangesItem path (option_map (at_revision revision) o) old new) found
    (subst (λ p. ChangesItem p (Some (at_revision revision was)) old new) own
    (subst (λ (i : Item). ChangesItem i.path (Some i) old new) is h))
