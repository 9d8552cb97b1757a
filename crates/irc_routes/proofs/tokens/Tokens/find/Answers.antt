use Rattle.std.proofs.Common.{ap, sym}
use Rattle.std.specs.Option.{option_map}
use Rattle.irc_tables.specs.Lemmas.RowsAsTable.{row-stands, row-absent}
use Rattle.irc_routes.specs.Loops.Tokens.{TokenRow, token_entry}
use Rattle.irc_routes.proofs.tokens.Tokens.find.Goals as goal

pub returns-in-Ok : goal.returns-in-Ok
returns-in-Ok c = ap (option_map (λ (t : TokenRow). t.name)) (sym
    (row-stands token_entry _ _ c.in-Ok.place _ c.requires c.in-Ok.ensures.place c.index.ensures))

pub returns-in-Err : goal.returns-in-Err
returns-in-Err c = ap (option_map (λ (t : TokenRow). t.name))
    (sym (row-absent token_entry _ _ _ c.in-Err.ensures.place))
