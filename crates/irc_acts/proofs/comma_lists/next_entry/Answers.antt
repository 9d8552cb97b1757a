use Rattle.std.proofs.Common.{◌∙◌, sym}
use Rattle.irc_acts.proofs.EntriesFromTheFront.{entry_taken, none_behind}
use Rattle.irc_acts.proofs.comma_lists.next_entry.Goals as goal

pub returns-then-is_empty : goal.returns-then-is_empty
returns-then-is_empty c =
    none_behind _ _ c.skip_commas-behind.ensures.same (sym c.is_empty.ensures ∙ c.if-is_empty.true)

pub returns : goal.returns
returns c =
    entry_taken c.args.list.now c.skip_commas-behind.result.now c.entry_length-end.result
    c.skip_commas-behind.ensures.same c.skip_commas-behind.ensures.entry
    c.skip_commas-behind.ensures.shorter (sym c.is_empty.ensures
    ∙ c.if-is_empty.false) c.entry_length-end.ensures.no_comma c.entry_length-end.ensures.ends
