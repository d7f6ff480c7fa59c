-- Workers of a fleet, before and after they worked.
use Rattle.std.specs.Prelude.{◌≡◌, ◌≤◌, ℕ, List, [], length, None}
use Rattle.kr_kms.specs.Calls.{Link}
use Rattle.kr_provider.specs.KeyPages.{size_of}
use Rattle.kr_provider.specs.Names.{names_of}
use Rattle.kr_history.specs.Calls.{AreServed}
use Rattle.kr_script.specs.declared.script.Part.{Part}
use Rattle.kr_workers.specs.declared.worker.Worker.{Worker}

-- the worker has no seat yet, has told nothing and has room for a reply of each line; each plugin
-- has a link, and the bench pages enough
pub record MayBegin {T L D : Type 0} (link : L → Link) (names : List (List ℕ)) (part : Part)
    (worker : Worker T L D) : Type 0 where
  pub no_seat : worker.seat ≡ None
  pub none_told : worker.told.0 ≡ []
  pub room : length part.lines.0 ≤ worker.told.1
  pub links : AreServed names (names_of link worker.bench.links)
  pub pages : 64 ≤ size_of worker.bench.pages
