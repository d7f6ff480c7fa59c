-- Each end by the calls that led to it.
use Rattle.std.proofs.Common.{◌≡◌, ℕ, List, [], ◌∷◌, Bool, true, false, Err, Option, refl, sym, ◌∙◌, ap}
use Rattle.std.specs.declared.fs.options.OpenOptions.{OpenOptions}
use Rattle.kr_kms.specs.Outside.{makes}
use Rattle.kr_kms.specs.declared.world.Access.{Access}
use Rattle.kr_edge.specs.Stores.{ChoosesOptions, OpensStore, folder_calls, parent_folder, only_reads}
use Rattle.kr_edge.specs.SystemCalls.{noted, with_note}
use Rattle.kr_edge.specs.declared.placed.DiskFile.{DiskFile}
use Rattle.kr_edge.specs.declared.system.Found.{Found}
use Rattle.kr_edge.specs.declared.system.OpenNo.{OpenNo}
use Rattle.kr_edge.specs.declared.system.OpenNo.TheVariants as why
use Rattle.kr_edge.specs.declared.system.SystemCall.{SystemCall}
use Rattle.kr_edge.specs.declared.system.SystemCall.TheVariants.{Look, Open, Lock, LookAt, SyncFolder}
use Rattle.kr_edge.proofs.opening.open_store.Goals as goal
use Rattle.kr_edge.proofs.opening.open_store.Goals.{else-makes-via-then-makes+else-not-sync_folder, else-makes-via-else-makes}

-- the calls so far, where the name is shown, and the file has it
module _ (name shown own : List ℕ) (access : Access) (old : Option (List SystemCall))
    (is : shown ≡ name) where
  looked : (found : Found) (new : Option (List SystemCall)) → new ≡ with_note (Look shown found) old
      → new ≡ with_note (Look name found) old
  looked found new e = e ∙ ap (λ n. with_note (Look n found) old) is

  opened : (found : Found) (options : OpenOptions) (done : Bool) (mid new : Option (List SystemCall))
      → mid ≡ with_note (Look shown found) old → new ≡ with_note (Open name options 0o600 done) mid
      → new ≡ noted (Look name found ∷ Open name options 0o600 done ∷ []) old
  opened found options done mid new e f =
      f ∙ ap (with_note (Open name options 0o600 done)) (looked found mid e)

  unlocked : (found : Found) (options : OpenOptions) (mid last new : Option (List SystemCall))
      → own ≡ name → mid ≡ with_note (Look shown found) old
      → last ≡ with_note (Open name options 0o600 true) mid
      → new ≡ with_note (Lock own (only_reads access) false) last
      → new ≡ noted (Look name found ∷ Open name options 0o600 true
      ∷ Lock name (only_reads access) false ∷ []) old
  unlocked found options mid last new own_is e f l =
      l ∙ (λ i. with_note (Lock (own_is i) (only_reads access) false)
      (opened found options true mid last e f i))

  locked : (found at : Found) (options : OpenOptions) (mid last new : Option (List SystemCall))
      → own ≡ name → mid ≡ with_note (Look shown found) old
      → last ≡ with_note (Open name options 0o600 true) mid
      → new ≡ noted (Lock own (only_reads access) true ∷ LookAt own at ∷ []) last
      → new ≡ noted (Look name found ∷ Open name options 0o600 true
      ∷ Lock name (only_reads access) true ∷ LookAt name at ∷ []) old
  locked found at options mid last new own_is e f l =
      l ∙ (λ i. noted (Lock (own_is i) (only_reads access) true ∷ LookAt (own_is i) at ∷ [])
      (opened found options true mid last e f i))

-- what was found is a reason to open nothing
refused : (name : List ℕ) (access : Access) (found : Found)
    (old new : Option (List SystemCall)) (no : OpenNo) → ChoosesOptions access found (Err no)
    → new ≡ with_note (Look name found) old → OpensStore {F = DiskFile} name access old new (Err no)
refused name access found old new why.Absent chosen look =
    (chosen.1, look ∙ ap (λ at. with_note (Look name at) old) chosen.0)
refused name access found old new why.Failed chosen look = ([], Look name found, chosen, look)

pub returns-in-Err-clause-calls : goal.returns-in-Err-clause-calls
returns-in-Err-clause-calls g c =
    let old = g.S.System.calls c.args.system.now in
    let mid = g.S.System.calls c.look.new.self in
    refused c.args.name c.args.access c.look.result old mid c.in-Err.why c.in-Err.ensures
    (looked c.args.name c.as_str.result.now c.args.name c.args.access old c.as_str.ensures
    c.look.result mid c.look.ensures.noted)

pub returns-in_default-clause-calls : goal.returns-in_default-clause-calls
returns-in_default-clause-calls g c = (
  Look c.args.name c.look.result ∷ [],
  Open c.args.name c.in-Ok.options 0o600 false,
  refl,
  opened c.args.name c.as_str.result.now c.args.name c.args.access
      (g.S.System.calls c.args.system.now) c.as_str.ensures c.look.result c.in-Ok.options false
      (g.S.System.calls c.look.new.self) (g.S.System.calls c.open.new.self) c.look.ensures.noted
      c.in_default.ensures.noted,
)

pub returns-in_default-look_locked-clause-calls : goal.returns-in_default-look_locked-clause-calls
returns-in_default-look_locked-clause-calls g c = (
  Look c.args.name c.look.result ∷ Open c.args.name c.in-Ok.options 0o600 true ∷ [],
  Lock c.args.name (only_reads c.args.access) false,
  refl,
  unlocked c.args.name c.as_str.result.now c.in-Some.file.name c.args.access
      (g.S.System.calls c.args.system.now) c.as_str.ensures c.look.result c.in-Ok.options
      (g.S.System.calls c.look.new.self) (g.S.System.calls c.open.new.self)
      (g.S.System.calls c.look_locked.new.system) c.in-Some.ensures.name c.look.ensures.noted
      c.in-Some.ensures.noted c.in_default-look_locked.ensures.calls,
)

pub returns-then-not-sync_folder-clause-calls : goal.returns-then-not-sync_folder-clause-calls
returns-then-not-sync_folder-clause-calls g c =
    let at = c.in-Some-look_locked.at in
    let name = c.args.name in (
      Look name c.look.result ∷ Open name c.in-Ok.options 0o600 true
          ∷ Lock name (only_reads c.args.access) true ∷ LookAt name at ∷ [],
      SyncFolder c.parent_folder.result.now false,
      refl,
      c.if-not-sync_folder.ensures.noted ∙ ap (with_note (SyncFolder c.parent_folder.result.now false))
          (locked name c.as_str.result.now c.in-Some.file.name c.args.access
          (g.S.System.calls c.args.system.now) c.as_str.ensures c.look.result at c.in-Ok.options
          (g.S.System.calls c.look.new.self) (g.S.System.calls c.open.new.self)
          (g.S.System.calls c.look_locked.new.system) c.in-Some.ensures.name c.look.ensures.noted
          c.in-Some.ensures.noted c.in-Some-look_locked.ensures.calls),
    )

pub returns-in-Filled-clause-calls : goal.returns-in-Filled-clause-calls
returns-in-Filled-clause-calls g c =
    let at = c.in-Some-look_locked.at in
    let name = c.args.name in (
      Look name c.look.result ∷ Open name c.in-Ok.options 0o600 true
          ∷ Lock name (only_reads c.args.access) true ∷ LookAt name at ∷ [],
      (
        c.look.result,
        at,
        c.in-Ok.options,
        [],
        c.in-Ok.ensures,
        ap (folder_calls name (makes c.args.access)) c.in-Filled.is,
        refl,
      ),
      locked name c.as_str.result.now c.in-Some.file.name c.args.access
          (g.S.System.calls c.args.system.now) c.as_str.ensures c.look.result at c.in-Ok.options
          (g.S.System.calls c.look.new.self) (g.S.System.calls c.open.new.self)
          (g.S.System.calls c.look_locked.new.system) c.in-Some.ensures.name c.look.ensures.noted
          c.in-Some.ensures.noted c.in-Some-look_locked.ensures.calls,
    )

pub returns-else-makes-clause-calls : goal.returns-else-makes-clause-calls
returns-else-makes-clause-calls g c =
    let name = c.args.name in
    let at = c.in-Some-look_locked.at in
    let all = locked name c.as_str.result.now c.in-Some.file.name c.args.access
    (g.S.System.calls c.args.system.now) c.as_str.ensures c.look.result at c.in-Ok.options
    (g.S.System.calls c.look.new.self) (g.S.System.calls c.open.new.self)
    (g.S.System.calls c.look_locked.new.system) c.in-Some.ensures.name c.look.ensures.noted
    c.in-Some.ensures.noted c.in-Some-look_locked.ensures.calls in
    elim c.else-makes.branch [
      | else-makes-via-then-makes+else-not-sync_folder w ↦ (
        Look name c.look.result ∷ Open name c.in-Ok.options 0o600 true
            ∷ Lock name (only_reads c.args.access) true ∷ LookAt name at
            ∷ SyncFolder (parent_folder name) true ∷ [],
        (
          c.look.result,
          at,
          c.in-Ok.options,
          SyncFolder (parent_folder name) true ∷ [],
          c.in-Ok.ensures,
          (λ i. folder_calls name ((sym c.makes.ensures ∙ w.if-makes.true) i) (c.in-Empty.is i)),
          refl,
        ),
        ap g.S.System.calls w.system-is ∙ w.if-not-sync_folder.ensures.noted
            ∙ (λ i. with_note (SyncFolder ((w.parent_folder.ensures
            ∙ ap parent_folder (w.name.ensures ∙ c.in-Some.ensures.name)) i) true) (all i)),
      )
      | else-makes-via-else-makes w ↦ (
        Look name c.look.result ∷ Open name c.in-Ok.options 0o600 true
            ∷ Lock name (only_reads c.args.access) true ∷ LookAt name at ∷ [],
        (
          c.look.result,
          at,
          c.in-Ok.options,
          [],
          c.in-Ok.ensures,
          (λ i. folder_calls name ((sym c.makes.ensures ∙ w.if-makes.false) i) (c.in-Empty.is i)),
          refl,
        ),
        ap g.S.System.calls w.system-is ∙ all,
      )
    ]

pub returns-in-Absent : goal.returns-in-Absent
returns-in-Absent g c =
    let at = c.in-Some-look_locked.at in
    let name = c.args.name in
    record {
      calls = (
        Look name c.look.result ∷ Open name c.in-Ok.options 0o600 true
            ∷ Lock name (only_reads c.args.access) true ∷ [],
        LookAt name at,
        c.in-Absent.is,
        locked name c.as_str.result.now c.in-Some.file.name c.args.access
            (g.S.System.calls c.args.system.now) c.as_str.ensures c.look.result at c.in-Ok.options
            (g.S.System.calls c.look.new.self) (g.S.System.calls c.open.new.self)
            (g.S.System.calls c.look_locked.new.system) c.in-Some.ensures.name c.look.ensures.noted
            c.in-Some.ensures.noted c.in-Some-look_locked.ensures.calls,
      );
      same = c.in-Some-look_locked.ensures.same ∙ c.in-Some.ensures.same ∙ c.look.ensures.same;
    }
