-- A reply of another kind, and none.
use Rattle.std.proofs.Common.{rules}
use Rattle.std.specs.Prelude.{⊤}
use Rattle.kr_kms_wire.specs.declared.replies.Asked.TheVariants as call
use Rattle.kr_kms_wire.specs.declared.replies.Reply.TheVariants as reply
use Rattle.kr_kms_wire.specs.declared.requests.Request.TheVariants as request
use Rattle.kr_edge.specs.Lines.{ends_of}
use Rattle.kr_edge.proofs.Asking.{counts_behind, other_kind, passes_on}
use Rattle.kr_edge.proofs.plugin_lines.PluginLines.status.Goals as goal

pub returns-in-Ok : goal.returns-in-Ok
returns-in-Ok g c =
    record {
      later = search rules;
      failed = search rules;
      once = counts_behind c.args.self.now.faults c.ask.new.self.faults _
          (search rules) (search rules);
      answers = other_kind reply.Status (λ _. ⊤)
          (ends_of g.W.Write.contents g.R.Read.remaining c.args.self.now.exchange)
          (ends_of g.W.Write.contents g.R.Read.remaining c.ask.new.self.exchange) _ call.Status
          request.Status c.in-Ok.other (search rules) (search rules) (search rules);
      uid = search rules;
      wiped = search rules;
    }

pub returns-in-Err-clause-answers : goal.returns-in-Err-clause-answers
returns-in-Err-clause-answers g c = passes_on reply.Status (λ _. ⊤) _ _ call.Status request.Status
    c.in-Err.why (search rules)
