use Rattle.std.proofs.Common.{◌∙◌, ap, not}
use Rattle.irc_names.specs.Fold.{key}
use Rattle.irc_room.specs.Indexes.{is_alone}
use Rattle.irc_room.proofs.Alone.{alone_told}
use Rattle.irc_room.proofs.gone.is_alone.Goals as goal

pub returns : goal.returns
returns c =
    ap not c.has_another.ensures
    ∙ alone_told c.as_bytes.result.now c.args.channel.now c.as_slice.result.now c.as_slice.ensures
    ∙ ap (λ n. is_alone (key n) c.args.channel.now) c.as_bytes.ensures.value
