-- A wrap above the limits is a reply that can't be used, and so is one of another kind.
use Rattle.std.proofs.Common.{ap, inl, rules, refl, ◌∙◌}
use Rattle.kr_base.specs.Numbering.{next_number}
use Rattle.kr_kms.specs.Limits.{IsWithinLimits}
use Rattle.kr_kms_wire.specs.declared.replies.Asked.TheVariants as call
use Rattle.kr_kms_wire.specs.declared.replies.Reply.TheVariants as reply
use Rattle.kr_kms_wire.specs.declared.requests.Request.TheVariants as request
use Rattle.kr_edge.specs.Lines.{ends_of}
use Rattle.kr_edge.proofs.Asking.{counts_behind, other_kind, passes_on, unusable}
use Rattle.kr_edge.proofs.plugin_lines.PluginLines.wrap.Goals as goal

pub returns-else-is_within_limits-clause-answers :
    goal.returns-else-is_within_limits-clause-answers
returns-else-is_within_limits-clause-answers g c = unusable reply.Encrypt IsWithinLimits
    (ends_of g.W.Write.contents g.R.Read.remaining c.args.self.now.exchange)
    (ends_of g.W.Write.contents g.R.Read.remaining c.ask-answered.new.self.exchange) call.Encrypt
    (request.Encrypt c.args.plain.now (next_number c.args.self.now.uid))
    (reply.Encrypt c.in-Ok-Encrypt.wrapped) c.in-Ok-Encrypt.wrapped (search rules) refl
    (search rules)

pub returns-else-is_within_limits-clause-once : goal.returns-else-is_within_limits-clause-once
returns-else-is_within_limits-clause-once g c = counts_behind c.args.self.now.faults
    c.ask-answered.new.self.faults _ (search rules) (search rules)

pub returns-in-Ok-answered : goal.returns-in-Ok-answered
returns-in-Ok-answered g c =
    record {
      later = search rules;
      failed = search rules;
      once = counts_behind c.args.self.now.faults
          c.ask-answered.new.self.faults _ (search rules) (search rules);
      answers = other_kind reply.Encrypt IsWithinLimits
          (ends_of g.W.Write.contents g.R.Read.remaining c.args.self.now.exchange)
          (ends_of g.W.Write.contents g.R.Read.remaining c.ask-answered.new.self.exchange) _ call.Encrypt
          (request.Encrypt c.args.plain.now (next_number c.args.self.now.uid)) c.in-Ok-answered.other
          (search rules) (search rules) (search rules);
      uid = search rules;
      wiped = search rules;
    }

pub returns-in-Err-clause-answers : goal.returns-in-Err-clause-answers
returns-in-Err-clause-answers g c = passes_on reply.Encrypt IsWithinLimits _ _ call.Encrypt
    (request.Encrypt c.args.plain.now (next_number c.args.self.now.uid)) c.in-Err.why (search rules)

-- nothing was asked
pub returns-in_default-clause-answers : goal.returns-in_default-clause-answers
returns-in_default-clause-answers g c = inl (c.wipe.ensures.ends
    ∙ ap (ends_of g.W.Write.contents g.R.Read.remaining) c.next_uid-uid.ensures.exchange)
