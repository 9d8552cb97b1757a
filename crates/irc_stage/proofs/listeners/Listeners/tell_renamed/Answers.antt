use Rattle.std.proofs.Common.{map, ap, sym, ◌∙◌}
use Rattle.irc_names.specs.Fold.{key}
use Rattle.irc_tables.specs.Lemmas.RowsAsTable.{ok_also}
use Rattle.irc_room.specs.Readers.{names_of}
use Rattle.irc_room.specs.effect.Effect.TheVariants.{Rename}
use Rattle.irc_stage.specs.Loops.Hearing.{conns_who, hearers, is_beside, told_to}
use Rattle.irc_stage.proofs.Hearing.{no_rows, renamed_alone, renamed_some, sent_to}
use Rattle.irc_stage.proofs.listeners.Listeners.tell_renamed.Goals as goal

pub returns-then-is_empty : goal.returns-then-is_empty
returns-then-is_empty c = λ new.
    ok_also c.tell_one.result
    (λ is. is
    ∙ ap (λ conns. told_to c.args.line.now.items conns c.args.out.now)
    (renamed_alone c.args.room.now.room c.own.ensures.well_formed c.args.clients.now.by_nick
    c.args.nick.now new c.requires.there
    (sym (c.names_of.ensures ∙ ap (names_of c.args.room.now.room) c.as_bytes.ensures.value)
    ∙ ap (map (λ row. key row.name.items))
    (no_rows c.names_of.result.now c.is_empty.result c.is_empty.ensures c.if-is_empty.true))))
    c.tell_one.ensures

pub returns : goal.returns
returns c = λ new.
    ok_also c.tell_beside.result
    (sent_to c.args.line.now.items c.args.out.now c.tell_beside.new.out
    (conns_who c.args.room.now.room c.args.clients.now.by_nick
    (is_beside c.args.room.now.room c.args.nick.now))
    (hearers c.args.room.now.room c.args.clients.now.by_nick (Rename c.args.nick.now new))
    (renamed_some c.args.room.now.room c.own.ensures.well_formed c.args.clients.now.by_nick
    c.args.nick.now new c.names_of.result.now c.is_empty.result
    c.is_empty.ensures c.if-is_empty.false (c.names_of.ensures
    ∙ ap (names_of c.args.room.now.room) c.as_bytes.ensures.value)))
    (c.tell_beside.ensures c.args.clients.now.by_nick c.requires.so)
