-- `words_behind`: the first word is the name, or another one.
use Rattle.kr_cmd_messages.proofs.NoneAsked.{begin_otherwise, begin_with}
use Rattle.kr_cmd_messages.proofs.reading.words_behind.Goals as goal

pub returns-then-ne : goal.returns-then-ne
returns-then-ne c = begin_otherwise c.args.words.now c.in-Some.ensures.value
    c.as_str.ensures.value c.args.name.now c.ne.ensures c.if-ne.true

pub returns-in-Ok : goal.returns-in-Ok
returns-in-Ok c = (
  begin_with c.args.words.now c.in-Some.ensures.value c.as_str.ensures.value c.args.name.now
      c.ne.ensures c.if-ne.false,
  c.in-Ok.ensures,
)

pub returns-in-Err : goal.returns-in-Err
returns-in-Err c = (
  begin_with c.args.words.now c.in-Some.ensures.value c.as_str.ensures.value c.args.name.now
      c.ne.ensures c.if-ne.false,
  c.in-Err.ensures,
)
