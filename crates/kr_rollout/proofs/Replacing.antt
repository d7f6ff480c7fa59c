-- What the store answers to a replacement, with the check of the writer of the row's resource.
use Rattle.std.proofs.Common.{◌≡◌, ℕ, List, Some, Result, Ok, Err, sym, ap, subst, ◌∙◌}
use Rattle.std.proofs.lemmas.Option.{same_Some}
use Rattle.kr_store.specs.declared.answers.PutNo.{PutNo}
use Rattle.kr_store.specs.declared.answers.PutNo.TheVariants as no
use Rattle.kr_store.specs.declared.format.Check.{Check}
use Rattle.kr_store.specs.declared.rows.LogRow.{LogRow}
use Rattle.kr_store.specs.declared.rows.Row.{Row}
use Rattle.kr_base.specs.Rules.{IsPath}
use Rattle.kr_store.specs.declared.format.Format.{Format}
use Rattle.kr_store.specs.Rows.{IsRow, live, put_of, check_in}
use Rattle.kr_store.proofs.Places.{live_at_revision}
use Rattle.kr_store.specs.Stores.{Kept, IsLatestPut, Wrote, Fails, Refusal, Puts, Replaces, put_over}
use Rattle.kr_config.specs.declared.who.Who.{Who}
use Rattle.kr_provider.specs.Publication.{Publication, list_at}
use Rattle.kr_provider.specs.Readers.{writer_of}
use Rattle.kr_judge.specs.Boards.{BoardState, set_need}
use Rattle.kr_rollout.specs.Answers.{IsStill}
use Rattle.kr_opening.specs.Checks.{store_check, written_check}
use Rattle.kr_rollout.specs.inner.Writing.{needs_with, sealed_over, StaysBy, PutsBy, ReplacesBy}

-- what isn't the path's last put isn't replaced, whatever its check
pub stays_by : (p : Publication) (old new : Kept) (path : List ℕ) (revision : ℕ)
    (stored : List ℕ) (check : Check) (why : PutNo) → (IsStill old.rows path revision → ⊥)
    → Replaces old new path revision stored check (Err why)
    → StaysBy p old new path revision stored why
stays_by p old new path revision stored check (no.Changed to) n r = r
stays_by p old new path revision stored check no.NoMemory n r = r
stays_by p old new path revision stored check other n r = absurd (n (r.0, r.1))

-- a put by the writer of its resource, at the path that was copied
pub put_by : (p : Publication) (old new : Kept) (path own resource stored : List ℕ) (who : Who)
    (before after : BoardState) (result : Result ℕ PutNo) → own ≡ path
    → who ≡ writer_of (list_at p resource)
    → Puts old new (put_of own resource stored (check_in old.format (store_check who))) result
    → after ≡ record before {
      needs = needs_with result
          (record { path = own; resource = resource; who = who }) before.needs;
    }
    → PutsBy p old new path resource stored before after result
put_by p old new path own resource stored who before after result own_is who_is w b = (
  subst (λ q. Puts old new (put_of q resource stored (written_check old.format p resource)) result)
      own_is
      (subst (λ w. Puts old new (put_of own resource stored (check_in old.format (store_check w)))
      result) who_is w),
  b ∙ (λ i. record before {
    needs = needs_with result
        (record { path = own_is i; resource = resource; who = who_is i }) before.needs;
  }),
)

module _ (p : Publication) (old new : Kept) (path : List ℕ) (revision : ℕ) (stored : List ℕ)
    (own : Row) (who : Who) (there : live old.rows path ≡ Some own)
    (who_is : who ≡ writer_of (list_at p own.resource)) where
  same_own : (row : Row) → IsLatestPut old.rows path revision row → row ≡ own
  same_own row latest = same_Some row own (sym latest.is ∙ there)

  writer_is : (row : Row) → IsLatestPut old.rows path revision row
      → who ≡ writer_of (list_at p row.resource)
  writer_is row latest =
      who_is ∙ ap (λ (x : Row). writer_of (list_at p x.resource)) (sym (same_own row latest))

  over_is : (row : Row) → IsLatestPut old.rows path revision row
      → ◌≡◌ {A = LogRow} (put_over old row path stored (store_check who))
      (sealed_over old p row path stored)
  over_is row latest = ap (λ (w : Who). put_over old row path stored (store_check w))
      (writer_is row latest)

  pub replaced_by : (resource : List ℕ) (before after : BoardState) (result : Result ℕ PutNo)
      → resource ≡ own.resource
      → Replaces old new path revision stored (store_check who) result
      → after ≡ record before {
        needs = needs_with result
            (record { path = path; resource = resource; who = who }) before.needs;
      }
      → ReplacesBy p old new path revision stored before after result
  replaced_by resource before after (Ok to) resource_is r b =
      let resources : resource ≡ r.0.resource =
      resource_is ∙ ap (λ (x : Row). x.resource) (sym (same_own r.0 r.1)) in
      let writers = writer_is r.0 r.1 in (
        r.0,
        r.1,
        subst (λ row. Wrote old new row to) (over_is r.0 r.1) r.2,
        b ∙ (λ i. record before {
          needs = set_need before.needs
              (record { path = path; resource = resources i; who = writers i });
        }),
      )
  replaced_by resource before after (Err no.Failed) resource_is r b =
      ((r.0, r.1, subst (λ row. Fails old new row) (over_is r.0 r.1) r.2), b)
  replaced_by resource before after (Err (no.Full needed)) resource_is r b =
      ((r.0, r.1, subst (λ row. Refusal old new row (no.Full needed)) (over_is r.0 r.1) r.2), b)
  replaced_by resource before after (Err (no.Changed to)) resource_is r b = (r, b)
  replaced_by resource before after (Err no.NoMemory) resource_is r b = (r, b)

  -- the same, of what was told of a path that is the row's own
  pub replaced_here : (resource at : List ℕ) (before after : BoardState)
      (result : Result ℕ PutNo) → resource ≡ own.resource → at ≡ own.path
      → Replaces old new at revision stored (store_check who) result
      → after ≡ record before {
        needs = needs_with result
            (record { path = at; resource = resource; who = who }) before.needs;
      }
      → ReplacesBy p old new path revision stored before after result
  replaced_here resource at before after result resource_is at_is r b =
      let same : at ≡ path = at_is ∙ (live_at_revision old.rows path own there).1 in
      replaced_by resource before after result resource_is
      (subst (λ q. Replaces old new q revision stored (store_check who) result) same r)
      (subst (λ q. after ≡ record before {
        needs = needs_with result
            (record { path = q; resource = resource; who = who }) before.needs;
      }) same b)

pub own_path : (format : Format) (row : Row) (path : List ℕ) → path ≡ row.path → IsRow format row
    → IsPath path
own_path format row path is rules = subst IsPath (sym is) rules.0
