-- What the links of a seat were asked while they were out.
use Rattle.std.specs.Prelude.{◌≡◌, ℕ, List, ◌++◌, All, map}
use Rattle.std.specs.Option.{option_map}
use Rattle.kr_base.specs.Walks.{Talk}
use Rattle.kr_kms.specs.Calls.{Link}
use Rattle.kr_kms.specs.Exchanges.{Exchange}
use Rattle.kr_kms.specs.Outside.{Outside}
use Rattle.kr_provider.specs.AskedLinks.{Among}

-- from these links of the seat, and all others that were handed out meanwhile, to those, and others
-- that came back, by exchanges of which this holds; each of them is one call on one of the links
pub record Heard {L : Type 0} (link : L → Link) (lent took : ℕ → L → Type 0)
    (step : L → Exchange → L → Type 0) (seat : ℕ) (old new : Outside) (olds news : List L)
    (Are : List Exchange → Type 0) : Type 0 where
  pub firsts : List L
  pub lasts : List L
  pub handed : new.links.handed
      ≡ option_map (λ keys. keys ++ map (λ l. (seat, (link l).name)) firsts) old.links.handed
  pub lent_are : All (lent seat) firsts
  pub took_are : All (took seat) lasts
  pub talk : Talk (Among step) (olds ++ firsts) (news ++ lasts) Are
