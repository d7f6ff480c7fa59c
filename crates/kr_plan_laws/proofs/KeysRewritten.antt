-- A drive that left no row, once all live configurations have refreshed, leaves no old key.
use Rattle.std.proofs.Common.{◌≡◌, ℕ, false, List, [], ◌∷◌, ◌++◌, Option, Some, Ok, refl, sym, ap, subst, ◌∙◌, inl, inr, ◌⊎◌, append_assoc}
use Rattle.std.specs.Prelude.{IsSome}
use Rattle.std.specs.Cmp.Lexicographic.{slice_cmp}
use Rattle.std.specs.Ordering.{nat_cmp}
use Rattle.std.specs.declared.cmp.Ordering.TheVariants.{Less}
use Rattle.std.proofs.lemmas.Option.{none-some, same_Some}
use Rattle.kr_kms.specs.Calls.{Link}
use Rattle.kr_store.specs.Rows.{live}
use Rattle.kr_store.specs.declared.rows.Row.{Row}
use Rattle.kr_config.specs.Kept.{ConfigEntry}
use Rattle.kr_config.specs.Lists.{list_of}
use Rattle.kr_provider.specs.Publication.{Publication}
use Rattle.kr_provider.specs.Readers.{writer_of}
use Rattle.kr_provider.specs.declared.refusal.Opened.{Opened}
use Rattle.kr_rollout.specs.declared.opening.Entry.{Entry}
use Rattle.kr_rollout.specs.declared.opening.Opening.{Opening}
use Rattle.kr_rollout.specs.Openings.{start_of}
use Rattle.kr_rollout.specs.Histories.{state_from, state_of, IsLegal}
use Rattle.kr_rollout.specs.States.{State}
use Rattle.kr_rollout.specs.Steps.{after}
use Rattle.kr_rollout.proofs.Appending.{state_more}
use Rattle.kr_history.proofs.Judging.{next_step}
use Rattle.kr_rewrite.specs.Rewrites.{UnsealsRow}
use Rattle.kr_plan_laws.specs.Refreshed.{Keys, LiveUse, AllUse, IsUnder, IsUnderAt, RewriteLeavesKeys}
use Rattle.kr_plan_laws.specs.Settled.{LiveWrite, AllWrite}
use Rattle.kr_plan_laws.proofs.Keyed.{NotStale, GoesOnSo, so_on, so_front, stays_or_under, under_stays, goes_from, live_under, wrote_under}
use Rattle.kr_plan_laws.proofs.NoEmptyPath.{none_there}
use Rattle.kr_plan_laws.proofs.Rewriting.{IsWithin, WasPassed, was_absent, was_fresh, was_written, was_changed, cancelled, drive_passes}
use Rattle.kr_plan_laws.proofs.Runs.{more_state, legal_front}

module _ (o : Opening) (keys : Keys) (to : List ConfigEntry) (start m : List Entry)
    (legal : IsLegal o (start ++ m)) (write : LiveWrite to (state_of o start))
    (all : AllWrite to m) (used : LiveUse keys (state_of o start)) (uses : AllUse keys m) where
  -- what holds at a moment of the drive, and of what comes behind it
  so_at : (h : List Entry) (w : IsWithin start m h)
      → GoesOnSo o keys to (state_of o h) (w.up_to).0
  so_at h w =
      let mid = (w.from).0 in
      let rest = (w.up_to).0 in
      let m_is : m ≡ mid ++ rest = cancelled start m (mid ++ rest)
      ((w.up_to).1 ∙ ap (λ s. s ++ rest) (w.from).1 ∙ append_assoc start mid rest) in
      let is : state_of o h ≡ state_from (state_of o start) mid =
      ap (state_of o) (w.from).1 ∙ more_state (start_of o) start mid in
      subst (λ (s : State). GoesOnSo o keys to s rest) (sym is)
      (so_on o keys to (state_of o start) mid rest
      (subst (GoesOnSo o keys to (state_of o start)) m_is
      (goes_from o start m keys to legal write all used uses)))

  to_end : (h : List Entry) (w : IsWithin start m h) (path : List ℕ)
      → IsUnderAt keys to (state_of o h) path → IsUnderAt keys to (state_of o (start ++ m)) path
  to_end h w path under = subst (λ (s : State). IsUnderAt keys to s path)
      (sym (ap (state_of o) (w.up_to).1 ∙ more_state (start_of o) h (w.up_to).0))
      (under_stays o keys to path (state_of o h) (w.up_to).0 (so_at h w) under)

  under_changed : (h : List Entry) (w : IsWithin start m h) (path : List ℕ) (row : Row)
      → live (state_of o h).rows path ≡ Some row → (front x : List Entry)
      → (v : IsWithin start m front) → front ≡ h ++ x
      → (live (state_from (state_of o h) x).rows path ≡ live (state_of o h).rows path)
      ⊎ IsUnderAt keys to (state_from (state_of o h) x) path
      → (live (state_of o front).rows path ≡ Some row → ⊥)
      → IsUnderAt keys to (state_of o (start ++ m)) path
  under_changed h w path row there front x v is (inl same) changed = absurd (changed
      (ap (λ s. live (state_of o s).rows path) is
      ∙ ap (λ (s : State). live s.rows path) (more_state (start_of o) h x) ∙ same ∙ there))
  under_changed h w path row there front x v is (inr under) changed = to_end front v path
      (subst (λ (s : State). IsUnderAt keys to s path)
      (sym (ap (state_of o) is ∙ more_state (start_of o) h x)) under)

  passed_under : (path : List ℕ) → WasPassed o start m NotStale path
      → IsUnderAt keys to (state_of o (start ++ m)) path
  passed_under path (was_absent h w none) = to_end h w path
      (λ row at. absurd (none (subst (λ x. IsSome x) (sym at) refl)))
  passed_under path (was_fresh h w p row lives there is fresh) =
      let g = so_at h w in
      to_end h w path (λ own at.
      subst (λ (x : Row). IsUnder keys (writer_of (list_of to x.resource)) x.stored)
      (same_Some row own (sym there ∙ at))
      (live_under o (state_of o h) g.sound keys to g.write g.used p lives row fresh))
  passed_under path (was_written front e w v written is) =
      let g = so_at front w in
      let next = legal_front o (front ++ e ∷ []) (v.up_to).0
      (subst (IsLegal o) (v.up_to).1 legal) in
      let n = next_step o front e next in
      to_end (front ++ e ∷ []) v path
      (subst (λ (s : State). IsUnderAt keys to s path) (sym (state_more (start_of o) front e))
      (subst (λ q. IsUnderAt keys to (after (state_of o front) e) q) is
      (wrote_under o (state_of o front) g.sound keys to g.write g.used e n.step written)))
  passed_under path (was_changed h w row there front v (x, front_is) changed) =
      let y = (v.up_to).0 in
      let rest_is : (w.up_to).0 ≡ x ++ y = cancelled h (w.up_to).0 (x ++ y)
      (sym (w.up_to).1 ∙ (v.up_to).1 ∙ ap (λ s. s ++ y) front_is ∙ append_assoc h x y) in
      let g = so_front o keys to (state_of o h) x y
      (subst (GoesOnSo o keys to (state_of o h)) rest_is (so_at h w)) in
      under_changed h w path row there front x v front_is
      (stays_or_under o keys to path (state_of o h) x g)
      (λ still. changed (row, record { is = still; revision_is = refl }))

not_stale_tells : {L : Type 0} (link : L → Link) (p : Publication) (row : Row) (from to : List L)
    (opened : Opened) → UnsealsRow link p row from (Ok opened) to → opened.stale ≡ false
    → NotStale p row
not_stale_tells link p row from to opened r fresh =
    (r.envelope, r.object, sym (r.is).1 ∙ fresh)

each_under : (o : Opening) (keys : Keys) (to : List ConfigEntry) (h : List Entry) → IsLegal o h
    → ((path : List ℕ) → slice_cmp nat_cmp [] path ≡ Less → IsUnderAt keys to (state_of o h) path)
    → (path : List ℕ) → IsUnderAt keys to (state_of o h) path
each_under o keys to h legal above [] = λ row at.
    absurd (none-some row (sym (none_there o h legal) ∙ at))
each_under o keys to h legal above (byte ∷ path) = above (byte ∷ path) refl

pub rewrite_leaves_keys : {L D : Type 0} (link : L → Link) (left : D → Option (List ℕ))
    (count : D → ℕ) → RewriteLeavesKeys link left count
rewrite_leaves_keys link left count replica old olds dice report new news after keys to more k drive
    none_left seen write all used uses path =
    let o : Opening = old.opening in
    let passes = drive_passes link left count NotStale (not_stale_tells link) replica old olds dice
    report new news after more k drive none_left seen in
    subst (λ s. IsUnderAt keys to (state_of o s) path) (sym seen)
    (each_under o keys to (old.seen ++ more) passes.legal
    (λ q less. passed_under o keys to old.seen more passes.legal write all used uses q
    (passes.each q less)) path)
