use Rattle.std.proofs.Common.{map, ap, sym, [], ◌∙◌}
use Rattle.irc_names.specs.Fold.{key}
use Rattle.irc_tables.specs.Lemmas.RowsAsTable.{ok_also}
use Rattle.irc_room.specs.Readers.{names_of}
use Rattle.irc_stage.specs.Loops.Hearing.{others_of, told_to}
use Rattle.irc_stage.specs.Loops.Listening.{conns_at}
use Rattle.irc_stage.specs.Loops.Merging.{Entry, entries_now, with_lists}
use Rattle.irc_stage.proofs.Hearing.{beside_all, beside_one, one_row}
use Rattle.irc_stage.proofs.MergedLists.{values_now}
use Rattle.irc_stage.proofs.listeners.Listeners.tell_beside.Goals as goal

pub returns-in-len1 : goal.returns-in-len1
returns-in-len1 c = λ by_nick so.
    ok_also c.tell.result
    (λ is. is
    ∙ ap (λ conns. told_to c.args.line.now.items (others_of c.args.one conns) c.args.out.now)
    (ap (λ name. conns_at c.args.self.now.lists (key name)) c.as_slice.ensures.value
    ∙ beside_one c.args.room.now.room c.own.ensures.well_formed by_nick c.args.self.now.lists so
    c.args.nick.now (key c.name-item.result.name.items)
    (sym (c.names_of-names.ensures ∙ ap (names_of c.args.room.now.room) c.as_bytes.ensures.value)
    ∙ ap (map (λ row. key row.name.items)) (one_row c.names_of-names.result.now c.name-item.result
    c.in-len1.len_at_least c.in-len1.len_below c.name-item.is))))
    c.tell.ensures

pub returns : goal.returns
returns c = λ by_nick so.
    ok_also c.tell_all_others.result
    (λ is. is
    ∙ ap (λ conns. told_to c.args.line.now.items (others_of c.args.one conns) c.args.out.now)
    (values_now c.as_slice-2.result.now
    ∙ ap (λ rows. map (λ (e : Entry). e.1) (entries_now rows)) c.as_slice-2.ensures.value
    ∙ ap (map (λ (e : Entry). e.1)) c.in_ok-rows.ensures
    ∙ ap (λ names. map (λ (e : Entry). e.1) (with_lists c.args.self.now.lists names []))
    (c.names_of-names.ensures ∙ ap (names_of c.args.room.now.room) c.as_bytes.ensures.value)
    ∙ beside_all c.args.room.now.room c.own.ensures.well_formed by_nick c.args.self.now.lists so
    c.args.nick.now))
    c.tell_all_others.ensures
