use Rattle.std.proofs.Common.{◌≤◌, length, arith}
use Rattle.std.proofs.lemmas.Grind.{common_steps}
use Rattle.irc_line.specs.Limits.{max_line}
use Rattle.irc_line.specs.Lemmas.CutLaws.{cut-append}
use Rattle.irc_numerics.proofs.writing.push.Goals as goal

pub returns : goal.returns
returns c =
    let fits : length c.args.text.now.items ≤ max_line = omega arith in
    let kept = cut-append c.args.text.now.items c.args.bytes.now fits in
    grind (arith, common_steps, kept)
