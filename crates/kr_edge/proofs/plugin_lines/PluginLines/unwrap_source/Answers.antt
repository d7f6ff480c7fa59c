-- A reply of another kind, and none.
use Rattle.std.proofs.Common.{ap, inl, rules, ◌∙◌}
use Rattle.std.specs.Prelude.{⊤}
use Rattle.kr_base.specs.Numbering.{next_number}
use Rattle.kr_kms_wire.specs.declared.replies.Asked.TheVariants as call
use Rattle.kr_kms_wire.specs.declared.replies.Reply.TheVariants as reply
use Rattle.kr_kms_wire.specs.declared.requests.Request.TheVariants as request
use Rattle.kr_edge.specs.Lines.{ends_of}
use Rattle.kr_edge.proofs.Asking.{counts_behind, other_kind, passes_on}
use Rattle.kr_edge.proofs.plugin_lines.PluginLines.unwrap_source.Goals as goal

pub returns-in-Ok-answered : goal.returns-in-Ok-answered
returns-in-Ok-answered g c =
    let wrapped = c.args.wrapped.now in
    record {
      later = search rules;
      failed = search rules;
      once = counts_behind c.args.self.now.faults
          c.ask-answered.new.self.faults _ (search rules) (search rules);
      answers = other_kind reply.Decrypt (λ _. ⊤)
          (ends_of g.W.Write.contents g.R.Read.remaining c.args.self.now.exchange)
          (ends_of g.W.Write.contents g.R.Read.remaining c.ask-answered.new.self.exchange) _ call.Decrypt
          (request.Decrypt wrapped.cipher.now wrapped.key_id.now wrapped.annotations.now
          (next_number c.args.self.now.uid)) c.in-Ok-answered.other (search rules) (search rules)
          (search rules);
      uid = search rules;
      wiped = search rules;
    }

pub returns-in-Err-clause-answers : goal.returns-in-Err-clause-answers
returns-in-Err-clause-answers g c = let wrapped = c.args.wrapped.now in
    passes_on reply.Decrypt (λ _. ⊤) _ _ call.Decrypt
    (request.Decrypt wrapped.cipher.now wrapped.key_id.now wrapped.annotations.now
    (next_number c.args.self.now.uid)) c.in-Err.why (search rules)

-- nothing was asked
pub returns-in_default-clause-answers : goal.returns-in_default-clause-answers
returns-in_default-clause-answers g c = inl (c.wipe.ensures.ends
    ∙ ap (ends_of g.W.Write.contents g.R.Read.remaining) c.next_uid-uid.ensures.exchange)
