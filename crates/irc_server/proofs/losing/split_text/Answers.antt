use Rattle.std.proofs.Common.{◌≡◌, ◌++◌, arith, codes, ◌∙◌, ap}
use Rattle.std.proofs.lemmas.Grind.{common_steps}
use Rattle.irc_channels.specs.Texts.{cut_words}
use Rattle.irc_server.proofs.SplitTexts.{whole_words}
use Rattle.irc_server.proofs.losing.split_text.Goals as goal

pub returns : goal.returns
returns c =
    let pushed : c.try_extend_from_slice-3.new.self.items ≡ c.args.near.now
    ++ (codes " " ++ c.args.far.now) = grind (arith, common_steps) in
    c.cut.ensures ∙ ap cut_words (c.as_slice.ensures.value ∙ pushed)
    ∙ whole_words _ (grind (arith, common_steps))
