use Rattle.std.proofs.Common.{◌∙◌}
use Rattle.irc_names.specs.Lemmas.CleanNames.{clean_name, clean_whole}
use Rattle.irc_names.proofs.user_name.UserName.clean.Goals as goal

pub invariant_of-result : goal.invariant_of-result
invariant_of-result c =
    clean_name _ _ _ c.loop-byte.byte-index (c.as_slice-byte-items.ensures.value
    ∙ c.cut_copy-kept.ensures) c.loop-byte.invariant

pub returns : goal.returns
returns c =
    clean_whole _ _ _ c.loop-byte.byte-index (c.as_slice-byte-items.ensures.value
    ∙ c.cut_copy-kept.ensures) c.loop-byte.invariant c.loop-byte-test.false
