use Rattle.std.proofs.Common.{[], ◌++◌, ◌∙◌, ap, codes}
use Rattle.irc_line.specs.Bytes.{cut}
use Rattle.irc_line.specs.Lemmas.CutLaws.{cut_two}
use Rattle.irc_link_writer.proofs.cutting.push_head.Goals as goal

pub returns-clause-head : goal.returns-clause-head
returns-clause-head c =
    let name = c.args.name.now in
    let command = c.args.command.now in
    let channel = c.args.channel.now in
    let one = c.push_cut.ensures.appended ∙ ap (λ old. cut (old ++ codes ":")) c.requires in
    let two = cut_two [] _ _ (codes ":") name one c.push_cut-2.ensures.appended in
    let three = cut_two [] _ _ (codes ":" ++ name) command two c.push_cut-3.ensures.appended in
    let four =
    cut_two [] _ _ (codes ":" ++ name ++ command) channel three c.push_cut-4.ensures.appended in
    cut_two [] _ _ (codes ":" ++ name ++ command ++ channel)
    (codes " ") four c.push_cut-5.ensures.appended
