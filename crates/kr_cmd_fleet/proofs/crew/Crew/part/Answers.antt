-- `Crew::part`: no outfit stands behind those of the workers.
use Rattle.std.proofs.Common.{◌≡◌, ◌∙◌, ◌++◌, None, ap, append-nil, arith, length, map, reverse, subst, sym}
use Rattle.std.specs.Prelude.{All}
use Rattle.kr_cmd_fleet.specs.inner.Crews.{outfits_of}
use Rattle.kr_cmd_fleet.proofs.Crews.{none_long}
use Rattle.kr_cmd_fleet.proofs.crew.Crew.part.Goals as goal

pub let_go-requires : goal.let_go-requires
let_go-requires g c = record {
  seats = subst (λ ws. All (λ w. w.seat ≡ None) ws) (sym c.from_vec.ensures) c.requires;
  none_told = c.args.self.none_told;
  room = omega (arith, ap length c.from_vec.ensures, c.args.self.room);
  room_for_replies = omega (arith, ap length c.from_vec.ensures, c.args.self.room_for_replies);
}

pub returns-clause-outfits : goal.returns-clause-outfits
returns-clause-outfits g c = c.let_go.ensures.outfits
    ∙ ap (λ l. outfits_of c.from_vec.result.0 ++ reverse l)
    (none_long c.args.self.outfits.0 c.args.self.none_left)
    ∙ append-nil (outfits_of c.from_vec.result.0)
    ∙ ap (λ ws. outfits_of ws) c.from_vec.ensures

pub returns-clause-replies : goal.returns-clause-replies
returns-clause-replies g c = c.let_go.ensures.replies
    ∙ ap (λ ws. map (λ w. w.told) ws) c.from_vec.ensures
