-- The calls of the system by which a store is lent, and a link.
use Rattle.std.proofs.Common.{◌≡◌, Bool, true, List, ℕ, Option, sym, ◌∙◌, ap, subst}
use Rattle.std.specs.Prelude.{Ok, Err}
use Rattle.kr_kms.specs.declared.world.Access.{Access}
use Rattle.kr_edge.specs.SystemCalls.{with_note}
use Rattle.kr_edge.specs.Stores.{OpensStore, plugin_start}
use Rattle.kr_edge.specs.declared.placed.DiskFile.{DiskFile}
use Rattle.kr_edge.specs.declared.system.OpenNo.{OpenNo}
use Rattle.kr_edge.specs.declared.system.SystemCall.{SystemCall}

-- a store that was opened by a copy of its name, and one that was refused so
pub opened_as : (name opened : List ℕ) (access : Access) (old new : Option (List SystemCall))
    (file : DiskFile) → opened ≡ name → OpensStore opened access old new (Ok file)
    → OpensStore name access old new (Ok file)
opened_as name opened access old new file is h =
    subst (λ n. OpensStore n access old new (Ok file)) is h

pub refused_as : (name opened : List ℕ) (access : Access) (old new : Option (List SystemCall))
    (why wanted : OpenNo) → opened ≡ name → why ≡ wanted
    → OpensStore {F = DiskFile} opened access old new (Err why)
    → OpensStore {F = DiskFile} name access old new (Err wanted)
refused_as name opened access old new why wanted is same h =
    subst (λ n. OpensStore {F = DiskFile} n access old new (Err wanted)) is
    (subst (λ w. OpensStore {F = DiskFile} opened access old new (Err w)) same h)

-- a program that was started has pipes, or hasn't
pub started_so : (program : List ℕ) (old new : Option (List SystemCall)) (has ends piped : Bool)
    → new ≡ with_note (plugin_start program true ends) old → has ≡ ends → has ≡ piped
    → new ≡ with_note (plugin_start program true piped) old
started_so program old new has ends piped h same is =
    h ∙ ap (λ e. with_note (plugin_start program true e) old) (sym same ∙ is)
