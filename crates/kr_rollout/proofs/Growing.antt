-- What holds of a rollout holds after a write to the store.
use Rattle.std.proofs.Common.{◌≡◌, ℕ, ◌≤◌, ◌+◌, ◌++◌, Bool, List, [], ◌∷◌, length, Option, None, Some, Result, Ok, Err, sym, ap, ◌∙◌, arith, append-nil, length-append}
use Rattle.std.specs.Prelude.{sum}
use Rattle.kr_store.specs.declared.answers.PutNo.{PutNo}
use Rattle.kr_store.specs.declared.answers.PutNo.TheVariants as no
use Rattle.kr_store.specs.declared.rows.LogRow.{LogRow}
use Rattle.kr_store.specs.Rows.{put_of, delete_of}
use Rattle.kr_store.specs.Stores.{Kept, Wrote, Fails, Puts, Deletes}
use Rattle.kr_provider.specs.Publication.{Publication, list_at}
use Rattle.kr_provider.specs.Readers.{writer_of}
use Rattle.kr_judge.specs.declared.need.Need.{Need}
use Rattle.kr_judge.specs.Boards.{BoardState, set_need}
use Rattle.kr_opening.specs.declared.generation.Generation.{Generation}
use Rattle.kr_opening.specs.Checks.{written_check}
use Rattle.kr_rollout.specs.inner.Rollouts.{opening_of, state_with, IsRollout}
use Rattle.kr_rollout.specs.inner.Writing.{needs_without, sealed_over, StaysBy, PutsBy, ReplacesBy}
use Rattle.kr_rollout.proofs.Storing.{same_rollout}

-- ---- rows

abbrev Grows : Kept → Kept → Type 0
Grows store next = (more : List LogRow) × (next.rows ≡ store.rows ++ more)
    × (next.limit ≡ store.limit) × (next.format ≡ store.format)

wrote_grows : (store next : Kept) (row : LogRow) (revision : ℕ) → Wrote store next row revision
    → Grows store next
wrote_grows store next row revision w = (row ∷ [], w.rows, w.limit, w.format)

failed_grows : (store next : Kept) (row : LogRow) → Fails store next row → Grows store next
failed_grows store next row f =
    ([], f.rows ∙ sym (append-nil store.rows), f.limit, f.format)

same_grows : (store next : Kept) → next ≡ store → Grows store next
same_grows store next e = (
  [],
  ap (λ (s : Kept). s.rows) e ∙ sym (append-nil store.rows),
  ap (λ (s : Kept). s.limit) e,
  ap (λ (s : Kept). s.format) e,
)

puts_grow : (store next : Kept) (row : LogRow) (result : Result ℕ PutNo)
    → Puts store next row result → Grows store next
puts_grow store next row (Ok revision) w = wrote_grows store next row revision w
puts_grow store next row (Err no.Failed) f = failed_grows store next row f
puts_grow store next row (Err (no.Full needed)) r = same_grows store next r.0
puts_grow store next row (Err (no.Changed last)) r = absurd r
puts_grow store next row (Err no.NoMemory) r = same_grows store next r

deletes_grow : (store next : Kept) (path : List ℕ) (result : Result (Option ℕ) PutNo)
    → Deletes store next path result → Grows store next
deletes_grow store next path (Ok None) d = same_grows store next d.1
deletes_grow store next path (Ok (Some revision)) d =
    wrote_grows store next (delete_of path) revision d.1
deletes_grow store next path (Err no.Failed) d = failed_grows store next (delete_of path) d.1
deletes_grow store next path (Err (no.Full needed)) d = same_grows store next d.1.0
deletes_grow store next path (Err (no.Changed last)) d = absurd d
deletes_grow store next path (Err no.NoMemory) d = same_grows store next d

stays_grow : (p : Publication) (store next : Kept) (path : List ℕ)
    (revision : ℕ) (stored : List ℕ) (why : PutNo) → StaysBy p store next path revision stored why
    → Grows store next
stays_grow p store next path revision stored no.NoMemory r = same_grows store next r
stays_grow p store next path revision stored no.Failed r =
    failed_grows store next (sealed_over store p r.0 path stored) r.2
stays_grow p store next path revision stored (no.Full needed) r = same_grows store next r.2.0
stays_grow p store next path revision stored (no.Changed to) r = same_grows store next r.1

replaces_grow : (p : Publication) (store next : Kept) (path : List ℕ) (revision : ℕ)
    (stored : List ℕ) (kept later : BoardState) (result : Result ℕ PutNo)
    → ReplacesBy p store next path revision stored kept later result → Grows store next
replaces_grow p store next path revision stored kept later (Ok to) r =
    wrote_grows store next (sealed_over store p r.0 path stored) to r.2
replaces_grow p store next path revision stored kept later (Err why) r =
    stays_grow p store next path revision stored why r.0

replaced_needs : (p : Publication) (store next : Kept) (path : List ℕ) (revision : ℕ)
    (stored : List ℕ) (kept later : BoardState) (result : Result ℕ PutNo)
    → ReplacesBy p store next path revision stored kept later result
    → (needs : List Need) × (later ≡ record kept { needs = needs })
replaced_needs p store next path revision stored kept later (Ok to) r = (
  set_need kept.needs (record {
    path = path;
    resource = r.0.resource;
    who = writer_of (list_at p r.0.resource);
  }),
  r.3,
)
replaced_needs p store next path revision stored kept later (Err why) r = (kept.needs, r.1)

-- ---- the rollout

-- what holds of a rollout, over its fields
abbrev HoldsOver : Kept → BoardState → List Generation → (current held : List (Option ℕ))
    → (first : ℕ) → List (Option Publication) → List (List ℕ) → (reloads : List ℕ) → (count : ℕ)
    → (torn : Bool) → (spare : ℕ) → Type 0
HoldsOver store kept generations current held first rs names reloads count torn spare =
    IsRollout (opening_of store first rs names reloads count torn)
    (state_with store kept generations current held) kept × (first ≤ length store.rows)
    × (length rs + sum reloads ≤ length generations + spare)

module _ (store next : Kept) (kept later : BoardState) {generations : List Generation}
    {current held : List (Option ℕ)} (first : ℕ) {rs : List (Option Publication)}
    {names : List (List ℕ)} {reloads : List ℕ} {count : ℕ} {torn : Bool} (spare : ℕ)
    (k : HoldsOver store kept generations current held first rs names reloads count torn spare) where
  grown_by : (needs : List Need) → Grows store next → later ≡ record kept { needs = needs }
      → HoldsOver next later generations current held first rs names reloads count torn spare
  grown_by needs g later_is = (
    same_rollout store next kept later generations current held first rs names reloads count torn
        g.0 needs k.1 g.1 g.2 g.3 later_is k.0,
    omega (
      arith,
      k.1,
      ap (λ (rows : List LogRow). length rows) g.1,
      length-append store.rows g.0,
    ),
    k.2,
  )

  pub grown_put : (p : Publication) (path resource stored : List ℕ) (result : Result ℕ PutNo)
      → PutsBy p store next path resource stored kept later result
      → HoldsOver next later generations current held first rs names reloads count torn spare
  grown_put p path resource stored result w =
      let row = put_of path resource stored (written_check store.format p resource) in
      grown_by _ (puts_grow store next row result w.0) w.1

  pub grown_delete : (path : List ℕ) (result : Result (Option ℕ) PutNo)
      → Deletes store next path result
      → later ≡ record kept { needs = needs_without result path kept.needs }
      → HoldsOver next later generations current held first rs names reloads count torn spare
  grown_delete path result d later_is =
      grown_by (needs_without result path kept.needs) (deletes_grow store next path result d)
      later_is

  pub grown_replace : (p : Publication) (path : List ℕ) (revision : ℕ) (stored : List ℕ)
      (result : Result ℕ PutNo)
      → ReplacesBy p store next path revision stored kept later result
      → HoldsOver next later generations current held first rs names reloads count torn spare
  grown_replace p path revision stored result r =
      let n = replaced_needs p store next path revision stored kept later result r in
      grown_by n.0 (replaces_grow p store next path revision stored kept later result r) n.1
