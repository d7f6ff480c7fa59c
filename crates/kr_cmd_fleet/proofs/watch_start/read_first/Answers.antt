-- `read_first`: the first outfit is taken out for the reading, and put back.
use Rattle.std.proofs.Common.{◌≡◌, ◌∷◌, Err, Ok, Result, refl, subst}
use Rattle.std.specs.Prelude.{reverse}
use Rattle.kr_base.specs.Walks.{Talk}
use Rattle.kr_provider.specs.AskedLinks.{Among}
use Rattle.kr_cmd_messages.specs.declared.refusal.Stop.{Stop}
use Rattle.kr_cmd_fleet.specs.declared.watch_start.WatchStart.{WatchStart}
use Rattle.kr_cmd_fleet.specs.inner.Outfits.{AreLater}
use Rattle.kr_cmd_fleet.proofs.FirstReads.{IsReadAs, ReadsLive, first_back, first_out, is_first, lacks_live_rows, reads_later, reads_none, reads_so}
use Rattle.kr_cmd_fleet.proofs.Outfits.{later_refl}
use Rattle.kr_cmd_fleet.proofs.RowReads.{Leaves}
use Rattle.kr_cmd_fleet.proofs.watch_start.read_first.Given.{Over}
use Rattle.kr_cmd_fleet.proofs.watch_start.read_first.Goals.{After-in_turn-outfits-2, In-Some, Start}
use Rattle.kr_cmd_fleet.proofs.watch_start.read_first.Goals as goal

-- the first outfit, and the others
taken : (g : Over) (c : In-Some g)
    → c.args.outfits.0 ≡ c.in-Some.outfit ∷ reverse c.pop.new.self.0
taken g c = first_out c.args.outfits.0 c.in_turn-outfits.result.0 c.pop.new.self.0
    c.in-Some.outfit c.in_turn-outfits.ensures c.in-Some.ensures.items

unread : (g : Over) (c : Start g) → AreLater g.L.Kms.link g.D.Dice.count c.args.outfits.0
    c.args.outfits.0
unread g c = later_refl g.L.Kms.link g.D.Dice.left g.D.Dice.count c.args.outfits.0

-- behind the reading
module _ (g : Over) (c : After-in_turn-outfits-2 g)
    (is : c.args.outfits.0 ≡ c.in-Some.outfit ∷ reverse c.pop.new.self.0) where
  returned : c.in_turn-outfits-2.result.0
      ≡ c.read_start_rows-read.result.1 ∷ reverse c.pop.new.self.0
  returned = first_back c.in_turn-outfits-2.result.0 c.pop.new.self.0 c.push_in_room.new.self.0
      c.read_start_rows-read.result.1 c.push_in_room.ensures.items c.in_turn-outfits-2.ensures

  later : AreLater g.L.Kms.link g.D.Dice.count c.args.outfits.0 c.in_turn-outfits-2.result.0
  later = reads_later g.L.Kms.link g.L.Kms.step g.D.Dice.left g.D.Dice.count c.args.outfits.0
      c.in_turn-outfits-2.result.0 (reverse c.pop.new.self.0) c.in-Some.outfit
      c.read_start_rows-read.result.1 is returned c.read_start_rows-read.ensures.dice
      c.read_start_rows-read.ensures.asked

  does : (result : Result WatchStart Stop) → IsReadAs c.read_start_rows-read.result.0 result
      → ReadsLive g.L.Kms.link g.L.Kms.step g.D.Dice.left g.D.Dice.count c.args.watched
      c.args.store.now.rows c.args.replicas.now c.args.outfits.0 c.in_turn-outfits-2.result.0 result
  does result read =
      let first = c.first_published-published.result.now in
      let out = c.in-Some.outfit in
      let back = c.read_start_rows-read.result.1 in
      reads_so g.L.Kms.link g.L.Kms.step g.D.Dice.left g.D.Dice.count c.args.outfits.0
      c.in_turn-outfits-2.result.0 (reverse c.pop.new.self.0) out back is returned
      c.read_start_rows-read.ensures.dice c.args.watched c.if-not-watched.false
      c.args.store.now.rows c.args.replicas.now first
      (is_first c.args.replicas.now first c.first_published-published.ensures)
      c.in-Ok.rows.0 c.in-Ok.ensures.lists c.read_start_rows-read.result.0
      (subst (λ rows. Talk (Among g.L.Kms.step) out.links back.links
      (Leaves g.L.Kms.link g.L.Kms.step first rows out.links (g.D.Dice.left out.dice)
      (g.D.Dice.count out.dice) back.links c.read_start_rows-read.result.0))
      c.as_slice.ensures c.read_start_rows-read.ensures.does) result read

pub returns-then-not-watched-clause-does : goal.returns-then-not-watched-clause-does
returns-then-not-watched-clause-does g c = reads_none g.L.Kms.link g.L.Kms.step g.D.Dice.left
    g.D.Dice.count c.args.watched c.if-not-watched.true c.args.store.now.rows c.args.replicas.now
    c.args.outfits.0 c.requires.some c.unread.result c.unread.ensures.items

pub returns-then-not-watched-clause-later : goal.returns-then-not-watched-clause-later
returns-then-not-watched-clause-later g c =
    unread g (goal.at.returns-then-not-watched-clause-later g c).Start

pub returns-in-Err-clause-does : goal.returns-in-Err-clause-does
returns-in-Err-clause-does g c =
    let p = c.first_published-published.result.now in
    lacks_live_rows g.L.Kms.link g.L.Kms.step g.D.Dice.left g.D.Dice.count c.args.watched
    c.if-not-watched.false c.args.store.now.rows c.args.replicas.now p
    (is_first c.args.replicas.now p c.first_published-published.ensures) c.args.outfits.0
    c.requires.some

pub returns-in-Err-clause-later : goal.returns-in-Err-clause-later
returns-in-Err-clause-later g c = unread g (goal.at.returns-in-Err-clause-later g c).Start

pub read_start_rows-read-requires-clause-links : goal.read_start_rows-read-requires-clause-links
read_start_rows-read-requires-clause-links g c =
    let first = is_first c.args.replicas.now c.first_published-published.result.now
    c.first_published-published.ensures in
    c.requires.links c.first_published-published.result.now first.0 c.in-Some.outfit
    (reverse c.pop.new.self.0) first.1
    (taken g (goal.at.read_start_rows-read-requires-clause-links g c).In-Some)

pub returns-in-Ok-read-clause-does : goal.returns-in-Ok-read-clause-does
returns-in-Ok-read-clause-does g c =
    let here = goal.at.returns-in-Ok-read-clause-does g c in
    does g here.After-in_turn-outfits-2 (taken g here.In-Some)
    (Ok (record { items = c.in-Ok-read.items; revision = c.revision.result }))
    (c.in-Ok-read.items, c.in-Ok-read.is, refl)

pub returns-in-Ok-read-clause-later : goal.returns-in-Ok-read-clause-later
returns-in-Ok-read-clause-later g c = let here = goal.at.returns-in-Ok-read-clause-later g c in
    later g here.After-in_turn-outfits-2 (taken g here.In-Some)

pub returns-in-Err-read-clause-does : goal.returns-in-Err-read-clause-does
returns-in-Err-read-clause-does g c =
    let here = goal.at.returns-in-Err-read-clause-does g c in
    does g here.After-in_turn-outfits-2 (taken g here.In-Some) (Err c.in-Err-read.stop)
    c.in-Err-read.is

pub returns-in-Err-read-clause-later : goal.returns-in-Err-read-clause-later
returns-in-Err-read-clause-later g c = let here = goal.at.returns-in-Err-read-clause-later g c in
    later g here.After-in_turn-outfits-2 (taken g here.In-Some)
