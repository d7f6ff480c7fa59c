use Rattle.std.proofs.Common.{◌++◌, ◌∷◌, [], length, sym, ◌∙◌}
use Rattle.std.specs.Str.{chars}
use Rattle.std.proofs.lemmas.List.{length-append}
use Rattle.std.proofs.lemmas.Iterator.{YieldsList-from_chars}
use Rattle.std.proofs.lemmas.Iterator.Consumers.{YieldsList-turn, YieldsList-end}
use Rattle.kr_yaml.specs.Characters.{is_allowed}
use Rattle.kr_yaml.proofs.Allowed.{all_more, all_stops, all_ends}
use Rattle.kr_yaml.proofs.characters.are_allowed.Goals as goal

pub returns-then-not-is_allowed : goal.returns-then-not-is_allowed
returns-then-not-is_allowed c =
    let t = YieldsList-turn (YieldsList-from_chars c.args.line.now c.utf8.line cc)
    c.loop-character.yielded c.loop-character.character-iterator c.loop-character.yielded_by
    c.next.result c.next.new.self c.in-Some.character c.in-Some.is c.next.ensures.steps in
    sym (all_stops is_allowed (chars c.args.line.now) (length c.loop-character.yielded)
    c.in-Some.character t.0 t.1 (sym c.is_allowed.ensures ∙ c.if-not-is_allowed.true))

pub loop-character-preserved : goal.loop-character-preserved
loop-character-preserved c =
    let t = YieldsList-turn (YieldsList-from_chars c.args.line.now c.utf8.line cc)
    c.loop-character.yielded c.loop-character.character-iterator c.loop-character.yielded_by
    c.next.result c.next.new.self c.in-Some.character c.in-Some.is c.next.ensures.steps in
    all_more is_allowed (chars c.args.line.now) (length c.loop-character.yielded)
    (length (c.loop-character.yielded ++ c.in-Some.character ∷ [])) c.in-Some.character
    c.loop-character.invariant t.0 t.1 (length-append c.loop-character.yielded
    (c.in-Some.character ∷ [])) (sym c.is_allowed.ensures ∙ c.if-not-is_allowed.false)

pub returns : goal.returns
returns c =
    let t = YieldsList-end (YieldsList-from_chars c.args.line.now c.utf8.line cc)
    c.loop-character.yielded c.loop-character.character-iterator c.loop-character.yielded_by
    c.next.result c.next.new.self c.in-None.is c.next.ensures.steps in
    sym (all_ends is_allowed (chars c.args.line.now) (length c.loop-character.yielded)
    c.loop-character.invariant t.1)
