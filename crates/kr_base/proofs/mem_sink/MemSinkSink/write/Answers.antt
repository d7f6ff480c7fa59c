-- What the tactic finds late of `write`.
use Rattle.std.proofs.Common.{◌++◌, length, sym, ◌∙◌, ap, arith}
use Rattle.std.proofs.lemmas.List.{take_all}
use Rattle.kr_base.proofs.mem_sink.MemSinkSink.write.Goals as goal

pub returns-clause-bytes : goal.returns-clause-bytes
returns-clause-bytes c = rw (sym c.self.view_is) (c.in-Ok.ensures.items
    ∙ ap (λ l. c.self.inside.bytes.items ++ l)
    (sym (take_all (length c.args.bytes.now) c.args.bytes.now (omega arith))))
