-- A watch that is handed a history line by line, and pages that are taken meanwhile.
use Rattle.std.proofs.Common.{◌≡◌, ℕ, List, [], ◌∷◌, ◌++◌, refl, sym, ◌∙◌, subst, append-nil}
use Rattle.std.specs.declared.cmp.Ordering.TheVariants.{Less}
use Rattle.std.proofs.lemmas.List.{append_assoc}
use Rattle.std.proofs.lemmas.List.Elements.{All-head, All-weaker}
use Rattle.std.proofs.lemmas.Option.{none-some}
use Rattle.kr_rollout.specs.Histories.{IsLegal}
use Rattle.kr_rollout.specs.declared.opening.Opening.{Opening}
use Rattle.kr_rollout.proofs.Appending.{front_law}
use Rattle.kr_history.specs.Contents.{last_change}
use Rattle.kr_watch.specs.declared.item.Item.{Item}
use Rattle.kr_watch.specs.Laws.{FollowsAll, IsLiveThen, IsThere, LiveIsListed}
use Rattle.kr_watch.specs.Pages.{Taken}
use Rattle.kr_watch.specs.Shown.{IsItemFor, item_at, plain_at, plain_then}
use Rattle.kr_watch.specs.Watches.{Follows}
use Rattle.kr_watch.proofs.Following.{goes_on}
use Rattle.kr_watch.proofs.Orders.{path_cmp}
use Rattle.kr_watch.proofs.PagesTaken.{once}
use Rattle.kr_watch.proofs.ShownPages.{none_at_empty}

pub follows_all : FollowsAll
follows_all first o history [] old new l f n =
    subst (λ h. Follows first o h new) (sym (append-nil history))
    (subst (Follows first o history) (sym n) f)
follows_all first o history (e ∷ more) old new l f (next, own, rest) =
    let apart : (history ++ e ∷ []) ++ more ≡ history ++ e ∷ more =
    append_assoc history (e ∷ []) more in
    let whole : IsLegal o ((history ++ e ∷ []) ++ more) = subst (IsLegal o) (sym apart) l in
    let now = (goes_on e.line old next own).follows first o history e
    (front_law o (history ++ e ∷ []) more whole) refl f in
    subst (λ h. Follows first o h new) apart
    (follows_all first o (history ++ e ∷ []) more next new whole now rest)

-- ---- pages

is_there : (first : List Item) (o : Opening) (resource path : List ℕ) (taken : Taken)
    → IsLiveThen first o resource path taken → IsThere resource path taken
is_there first o resource path taken t =
    let plain = plain_then (last_change t.history path) (plain_at first path) in (
      record {
        path = path;
        resource = t.row.resource;
        revision = t.row.revision;
        plain = plain;
      },
      subst (λ r. IsItemFor path r plain (item_at taken.items path)) t.lives (t.shown.each path),
      t.own,
    )

-- no live row has the empty path
above_nothing : (first : List Item) (o : Opening) (resource path : List ℕ) (taken : Taken)
    → IsLiveThen first o resource path taken → path_cmp [] path ≡ Less
above_nothing first o resource [] taken t =
    absurd (none-some t.row (sym (none_at_empty o t.history t.legal) ∙ t.lives))
above_nothing first o resource (byte ∷ bytes) taken t = refl

pub live_is_listed : LiveIsListed
live_is_listed first o resource path [] t there = absurd t
live_is_listed first o resource path (taken ∷ more) t there =
    once resource path [] (taken ∷ more)
    (above_nothing first o resource path taken
    (All-head (IsLiveThen first o resource path) taken more there)) t
    (All-weaker (IsLiveThen first o resource path) (IsThere resource path)
    (is_there first o resource path) (taken ∷ more) there)
