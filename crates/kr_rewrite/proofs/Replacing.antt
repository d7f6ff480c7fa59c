-- A row that is replaced: what its seat may ask, what becomes of the row, and that its data stay.
use Rattle.std.specs.Prelude.{IfOk, IfSome}
use Rattle.std.proofs.Common.{◌≡◌, inl, inr, ℕ, List, ◌++◌, Option, Some, Result, Ok, Err, refl, sym, ap, subst, ◌∙◌}
use Rattle.std.specs.Option.{option_map}
use Rattle.std.proofs.lemmas.Option.{same_Some}
use Rattle.kr_base.specs.Rules.{IsPath}
use Rattle.kr_kms.specs.Opens.{OpenAll, Opens}
use Rattle.kr_provider.specs.Publication.{Publication, list_at, writer_at}
use Rattle.kr_provider.specs.Reading.{HasReading, HasSomeReading, data_of}
use Rattle.kr_provider.specs.Sealing.{IsSealing, Seals}
use Rattle.kr_provider.specs.declared.refusal.SealNo.{SealNo}
use Rattle.kr_provider.specs.declared.refusal.SealNo.TheVariants as sealing
use Rattle.kr_store.specs.declared.rows.Row.{Row}
use Rattle.kr_rollout.specs.declared.answer.Answer.{Answer}
use Rattle.kr_rollout.specs.declared.answer.Answer.TheVariants as answer
use Rattle.kr_history.specs.declared.call.CallNo.{CallNo}
use Rattle.kr_history.specs.declared.call.CallNo.TheVariants as refusal
use Rattle.kr_history.specs.declared.outcome.Replacing.{Replacing}
use Rattle.kr_history.specs.declared.outcome.Replacing.TheVariants as replacing
use Rattle.kr_rollout.specs.declared.event.Event.TheVariants as event
use Rattle.kr_rollout.specs.declared.line.Did.TheVariants as did
use Rattle.kr_rollout.specs.declared.opening.Entry.{Entry}
use Rattle.kr_rollout.specs.declared.opening.Opening.{Opening}
use Rattle.kr_history.specs.Acting.{Caller, AddsEntry, IsCaller}
use Rattle.kr_rollout.specs.Callers.{Allows, found_in, gave_of, holding}
use Rattle.kr_history.specs.Asking.{AsksReplace}
use Rattle.kr_history.specs.Calls.{HoldsAdopted, KeepsHonestBy}
use Rattle.kr_history.specs.Honesty.{HonestBy, IsHonest, KeepsData}
use Rattle.kr_history.proofs.FoundRows.{replaced_is_live}
use Rattle.kr_history.proofs.HeldFacts.{found_is_named, held_is_named, held_opens}
use Rattle.kr_history.proofs.KeptHonest.{honesty_follows}
use Rattle.kr_history.proofs.Nexts.{front_own, legal_now}
use Rattle.kr_rewrite.proofs.Options.{holds_at, holds_of}
use Rattle.kr_rewrite.specs.declared.outcome.Step.{Step}
use Rattle.kr_rewrite.specs.Rewrites.{IsStepTo, ResealsBy, unsealed_step}
use Rattle.kr_rewrite.specs.inner.Stages.{ResealsRow, replaced_step}

-- ---- what may be asked

pub may_replace : (o : Opening) (seat : ℕ) (own : List Entry) (number : ℕ) (p : Publication)
    (row : Row) (plain copy stored : List ℕ) → IsPath row.path
    → holding own ≡ Some (number, p) → found_in own ≡ Some row → copy ≡ row.path
    → HasSomeReading (list_at p row.resource) row.path row.stored (data_of plain)
    → IsSealing p row.resource row.path plain stored
    → Allows o seat own (event.Replace copy row.revision stored)
may_replace o seat own number p row plain copy stored path held found is reads sealing =
    subst (λ (q : List ℕ). Allows o seat own (event.Replace q row.revision stored)) (sym is) (
      path,
      (number, p),
      held,
      row,
      found,
      refl,
      refl,
      record { plain = plain; reads = reads; sealing = sealing },
    )

-- ---- that the data stay

-- where the configuration's seeds open, the row reads as the data
abbrev pub ReadsWhereOpen : Opens → Publication → Row → (plain : List ℕ) → Type 0
ReadsWhereOpen opens p row plain = OpenAll opens p.seeds
    → HasReading opens (list_at p row.resource) row.path row.stored (data_of plain)

module _ (opens : Opens) (old new : Caller) (number : ℕ) (p : Publication) (row : Row)
    (plain stored : List ℕ) (k : IsCaller old) (held : holding old.mine ≡ Some (number, p))
    (found : found_in old.mine ≡ Some row) (reads : ReadsWhereOpen opens p row plain)
    (sealing : IsSealing p row.resource row.path plain stored) where
  data_kept : (revision : ℕ)
      → (a : AddsEntry old (event.Replace row.path row.revision stored) (answer.Written revision)
      new)
      → IsHonest opens old.opening (old.seen ++ a.others)
      → KeepsData opens row.path a.entry
  data_kept revision a honest =
      let asked = event.Replace row.path row.revision stored in
      let given = answer.Written revision in
      let s = replaced_is_live old.opening (old.seen ++ a.others) a.entry row.path row.revision
      revision (legal_now old new asked given a) a.records.did_is a.records.gave_is in
      let n = held_is_named old new asked given number p k a held in
      let same = same_Some s.new.stored stored
      (sym (ap (option_map (λ (r : Row). r.stored)) s.written) ∙ a.records.stores) in
      let front : Caller = record old { seen = old.seen ++ a.others } in
      let front_is : IsCaller front = record {
        legal = a.legal;
        own = front_own old new asked given a k;
        seat_in = k.seat_in;
      } in
      record {
        p = p;
        old = row;
        new = s.new;
        plain = plain;
        held = n.published;
        replaced = found_is_named old new row.path row.revision stored given row k a found refl;
        written = s.written;
        reads = reads (held_opens opens front number p front_is honest held);
        sealing = subst (λ v. IsSealing p row.resource row.path plain v) (sym same) sealing;
      }

  honest_entry : (given : Answer)
      → (a : AddsEntry old (event.Replace row.path row.revision stored) given new)
      → IsHonest opens old.opening (old.seen ++ a.others)
      → HonestBy (gave_of given) (did.Replace row.path row.revision) opens a.entry
  honest_entry (answer.Written revision) a front = data_kept revision a front
  honest_entry other a front = tt

pub keeps_replace : (opens : Opens) (old new : Caller) (number : ℕ) (p : Publication) (row : Row)
    (plain copy stored : List ℕ) (given : Answer) → IsCaller old
    → holding old.mine ≡ Some (number, p) → found_in old.mine ≡ Some row
    → ReadsWhereOpen opens p row plain → IsSealing p row.resource row.path plain stored
    → copy ≡ row.path → AddsEntry old (event.Replace copy row.revision stored) given new
    → KeepsHonestBy opens old new
keeps_replace opens old new number p row plain copy stored given k held found reads sealing is a =
    let b = subst (λ q. AddsEntry old (event.Replace q row.revision stored) given new) is a in
    honesty_follows opens old new (event.Replace row.path row.revision stored) given b
    (honest_entry opens old new number p row plain stored k held found reads sealing given b)

-- ---- what becomes of the row

replaced_to : (path : List ℕ) (done : Result Replacing CallNo) → IsPath path
    → IfOk (replaced_step path done) IsStepTo
replaced_to path (Ok (replacing.Written revision)) is = is
replaced_to path (Ok (replacing.Changed last)) is = is
replaced_to path (Err why) is = tt

pub replaces_to : (path own : List ℕ) (done : Result Replacing CallNo) (result : Result Step CallNo)
    → path ≡ own → IsPath own → result ≡ replaced_step path done → IfOk result IsStepTo
replaces_to path own done result same is d =
    subst (λ r. IfOk r IsStepTo) (sym d) (replaced_to path done (subst IsPath (sym same) is))

unsealed_at : (path : List ℕ) (why : SealNo) → IsPath path
    → IfOk (unsealed_step path why) IsStepTo
unsealed_at path sealing.LooksEncrypted is = is
unsealed_at path (sealing.TooLarge size) is = is
unsealed_at path sealing.DiceFailed is = tt
unsealed_at path sealing.NoMemory is = tt

pub unsealed_to : (path own : List ℕ) (why : SealNo) (result : Result Step CallNo)
    → path ≡ own → IsPath own → result ≡ unsealed_step path why → IfOk result IsStepTo
unsealed_to path own why result same is d =
    subst (λ r. IfOk r IsStepTo) (sym d) (unsealed_at path why (subst IsPath (sym same) is))

-- the sealing was offered in the row's place, or no line may be added
offered : (p : Publication) (row : Row) (plain stored : List ℕ) (old new : Caller)
    (done : Result Replacing CallNo) → IsSealing p row.resource row.path plain stored
    → AsksReplace row.path row.revision stored old done new
    → ResealsBy p row plain (Ok stored) old (replaced_step row.path done) new
offered p row plain stored old new (Ok (replacing.Written revision)) t a =
    inl (record { given = answer.Written revision; sealing = t; replaces = a; answers = refl })
offered p row plain stored old new (Ok (replacing.Changed last)) t a =
    inl (record { given = answer.Changed last; sealing = t; replaces = a; answers = refl })
offered p row plain stored old new (Err refusal.StoreFailed) t a =
    inl (record { given = answer.StoreFailed; sealing = t; replaces = a; answers = refl })
offered p row plain stored old new (Err (refusal.StoreFull needed)) t a =
    inl (record { given = answer.StoreFull needed; sealing = t; replaces = a; answers = refl })
offered p row plain stored old new (Err refusal.NoMemory) t a =
    inl (record { given = answer.NoMemory; sealing = t; replaces = a; answers = refl })
offered p row plain stored old new (Err refusal.Spent) t a = inr (a, refl)
offered p row plain stored old new (Err other) t a = absurd a

-- ---- by the configuration that the bench adopted

module _ {D : Type 0} {published : Option Publication} {own : List Entry}
    (h : HoldsAdopted published own) (left : D → Option (List ℕ)) (count : D → ℕ) (row : Row)
    (path plain : List ℕ) (path_is : path ≡ row.path) (old new : Caller) (dice after : D) where
  abbrev IsSealed : Result (List ℕ) SealNo → Publication → Type 0
  IsSealed sealed q =
      Seals left count q.seeds (writer_at q row.resource) row.path plain dice after sealed

  abbrev IsResealed : Result Step CallNo → Publication → Type 0
  IsResealed result q = ResealsRow left count q row plain old dice result new after

  pub reseals_done : (copy stored : List ℕ) (done : Result Replacing CallNo)
      (result : Result Step CallNo) → IfSome published (IsSealed (Ok stored))
      → IfSome published (λ q. IsSealing q row.resource row.path plain stored) → copy ≡ row.path
      → AsksReplace copy row.revision stored old done new → result ≡ replaced_step path done
      → IfSome published (IsResealed result)
  reseals_done copy stored done result s t is a d =
      holds_at (IsResealed result) published h.p h.adopted (inl (record {
        sealed = Ok stored;
        seals = holds_of (IsSealed (Ok stored)) published h.p h.adopted s;
        reseals = subst (λ r. ResealsBy h.p row plain (Ok stored) old r new)
            (sym (d ∙ ap (λ q. replaced_step q done) path_is))
            (offered h.p row plain stored old new done
            (holds_of (λ q. IsSealing q row.resource row.path plain stored) published h.p h.adopted
            t)
            (subst (λ q. AsksReplace q row.revision stored old done new) is a));
      }))

  pub reseals_nothing : (why : SealNo) (result : Result Step CallNo)
      → IfSome published (IsSealed (Err why)) → result ≡ unsealed_step path why → new ≡ old
      → IfSome published (IsResealed result)
  reseals_nothing why result s d same =
      holds_at (IsResealed result) published h.p h.adopted (inl (record {
        sealed = Err why;
        seals = holds_of (IsSealed (Err why)) published h.p h.adopted s;
        reseals = (d ∙ ap (λ q. unsealed_step q why) path_is, same);
      }))
