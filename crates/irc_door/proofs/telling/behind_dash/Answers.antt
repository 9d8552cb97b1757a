use Rattle.std.proofs.Common.{◌∙◌, ◌++◌, ap, codes}
use Rattle.irc_line.specs.Bytes.{cut}
use Rattle.irc_door.proofs.CutTexts.{three_pieces}
use Rattle.irc_door.proofs.telling.behind_dash.Goals as goal

pub returns : goal.returns
returns c = three_pieces (codes "- ") c.args.words.now c.args.more.now c.push_cut.new.line.items
    c.push_cut-2.new.line.items c.push_cut-3.new.line.items
    (c.push_cut.ensures.appended ∙ ap (λ t. cut (t ++ codes "- ")) c.new-text.ensures)
    c.push_cut-2.ensures.appended c.push_cut-3.ensures.appended
