-- The check value and the blocks are what is wrapped.
use Rattle.std.proofs.Common.{◌∙◌}
use Rattle.kr_aes.specs.Cipher.{cipher}
use Rattle.kr_keywrap.proofs.Blocks.{wrap_whole}
use Rattle.kr_keywrap.proofs.key_wrap.wrap.Goals as goal

pub returns : goal.returns
returns c =
    wrap_whole (cipher c.args.words.now c.args.rounds) c.args.plain.now c.copy_from_slice.new.self c.copy_from_slice-2.new.self c.wrap_blocks-a.new.blocks c.wrap_blocks-a.result
    c.copy_from_slice.ensures.after c.wrap_blocks-a.ensures (c.copy_from_slice-2.ensures.after ∙ c.to_be_bytes.ensures)
