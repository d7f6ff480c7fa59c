-- The worker of a seat.
use Rattle.std.proofs.Common.{◌≡◌, ℕ, zero, suc, ◌<◌, ◌≤◌, List, [], ◌∷◌, length, map, get_or}
use Rattle.std.proofs.Common.{refl, arith}
use Rattle.kr_script.specs.declared.script.Part.{Part}
use Rattle.kr_script.specs.Fleets.{worker_of}
use Rattle.kr_script.specs.Output.{seat_worker}

pub worker_there : (parts : List Part) (i : ℕ) (d : Part) → i < length parts
    → (get_or parts i d).name ≡ seat_worker (map worker_of parts) i
worker_there [] i d h = absurd (omega (arith, h))
worker_there (part ∷ parts) zero d h = refl
worker_there (part ∷ parts) (suc i) d h = worker_there parts i d (omega (arith, h))

pub worker_missing : (parts : List Part) (i : ℕ) → length parts ≤ i
    → [] ≡ seat_worker (map worker_of parts) i
worker_missing [] zero h = refl
worker_missing [] (suc i) h = refl
worker_missing (part ∷ parts) zero h = absurd (omega (arith, h))
worker_missing (part ∷ parts) (suc i) h = worker_missing parts i (omega (arith, h))
