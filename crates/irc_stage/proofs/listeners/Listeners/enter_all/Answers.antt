use Rattle.std.proofs.Common.{◌∙◌, ap}
use Rattle.irc_tables.specs.Lemmas.RowsAsTable.{ok_also}
use Rattle.irc_room.specs.Readers.{names_of}
use Rattle.irc_stage.specs.Loops.Listening.{is_named}
use Rattle.irc_stage.proofs.ListsKept.{named_in, sets_alike}
use Rattle.irc_stage.proofs.listeners.Listeners.enter_all.Goals as goal

pub returns : goal.returns
returns c =
    ok_also c.put_each.result
    (sets_alike _ _ _ _ _ _
    (λ q. ap (λ names. is_named names q) (c.names_of.ensures
    ∙ ap (names_of c.args.room.now.room) c.as_bytes.ensures.value)
    ∙ named_in c.args.room.now.room c.args.nick.now q))
    c.put_each.ensures
