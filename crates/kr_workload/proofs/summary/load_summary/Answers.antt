-- `load_summary`: the digest, and the text by it.
use Rattle.std.proofs.Common.{◌∙◌}
use Rattle.kr_workload.specs.Summaries.{summary_text}
use Rattle.kr_workload.proofs.summary.load_summary.Goals as goal

pub returns : goal.returns
returns c = record {
  digest = c.in_ok-digest.digest;
  over = c.in_ok-digest.ensures;
  text_is = c.in_ok-text.ensures ∙ (λ i. summary_text c.args.seed c.args.size
      (c.count_puts-puts.ensures i) (c.count_gets-gets.ensures i) c.in_ok-digest.digest);
}
