use Rattle.irc_acts.proofs.EntriesFromTheFront.{one_piece, more_pieces}
use Rattle.irc_acts.proofs.comma_lists.first_piece.Goals as goal

pub returns-then-end-list-clause-parted : goal.returns-then-end-list-clause-parted
returns-then-end-list-clause-parted c =
    one_piece c.args.list.now c.entry_length-end.result c.if-end-list.true
    c.entry_length-end.ensures.no_comma

pub returns-else-end-list-clause-parted : goal.returns-else-end-list-clause-parted
returns-else-end-list-clause-parted c =
    more_pieces c.args.list.now c.entry_length-end.result c.entry_length-end.ensures.fits
    c.if-end-list.false c.entry_length-end.ensures.no_comma c.entry_length-end.ensures.ends
