use Rattle.std.proofs.Common.{◌∷◌, ◌++◌, ◌∙◌, List, map, sym, ap, subst, take, ℕ}
use Rattle.std.proofs.lemmas.List.{take_rest}
use Rattle.irc_names.specs.Fold.{key}
use Rattle.irc_tables.specs.declared.table.Row.{Row}
use Rattle.irc_tables.specs.FoldedRows.{StandsAt, BelongsAt}
use Rattle.irc_tables.specs.RowViews.{row_entry}
use Rattle.irc_channels.specs.declared.flags.Flags.{Flags}
use Rattle.irc_acts.proofs.JoinersPlace.{rows_in_order, nowhere, put_at_place}
use Rattle.irc_acts.proofs.name_lines.parted_at.Goals as goal

pub place_of-requires : goal.place_of-requires
place_of-requires c =
    rows_in_order c.args.channel.now.members c.as_slice-rows.result.now c.as_slice-rows.ensures

pub unreachable-requires : goal.unreachable-requires
unreachable-requires c =
    nowhere c.args.channel.now.members c.as_slice-rows.result.now
    (key c.args.nick.now) c.in-Ok.field-0 c.as_slice-rows.ensures c.requires
    (subst (λ (name : List ℕ). StandsAt row_entry c.as_slice-rows.result.now
    (key name) c.in-Ok.field-0) c.as_bytes.ensures.value c.in-Ok.ensures)

pub returns : goal.returns
returns c = λ flags.
    let rows = c.as_slice-rows.result.now in
    put_at_place c.args.channel.now.members rows
    (key c.args.nick.now) c.in-Err.place c.as_slice-rows.ensures
    (subst (λ (name : List ℕ). BelongsAt row_entry rows (key name) c.in-Err.place)
    c.as_bytes.ensures.value c.in-Err.ensures) flags
    ∙ ap (λ (rest : List (Row Flags)). map row_entry (take c.in-Err.place rows)
    ++ (key c.args.nick.now, flags) ∷ map row_entry rest)
    (sym (take_rest rows c.in-Err.place))
