-- What is said of what is found of some members, a member at a time.
use Rattle.std.proofs.Common.{◌≡◌, ℕ, ◌+◌, ◌<◌, Option, List, [], ◌∷◌, ◌++◌, length, map, take}
use Rattle.std.proofs.Common.{get_or, sym, ◌∙◌, ap, append_assoc}
use Rattle.std.proofs.lemmas.Grind.{flat_map-append}
use Rattle.std.specs.List.{filter_map, flat_map}
use Rattle.irc_batch.specs.Batches.{Sent}
use Rattle.irc_batch.specs.Growing.{Grew}
use Rattle.irc_tables.specs.declared.table.Row.{Row}
use Rattle.irc_tables.specs.RowViews.{row_entry}
use Rattle.irc_channels.specs.declared.flags.Flags.{Flags}
use Rattle.irc_acts.specs.declared.act.Act.{Act}
use Rattle.irc_acts.specs.Lemmas.CameLines.{rows_more}

-- what is said of some rows, and of the next
pub said_more : (say : Act → List Sent) (find : List ℕ × Flags → Option Act)
    (rows : List (Row Flags)) (i : ℕ) (row : Row Flags) → i < length rows
    → row ≡ get_or rows i row → (before so_far after : List Sent)
    → so_far ≡ before ++ flat_map say (filter_map find (map row_entry (take i rows)))
    → after ≡ so_far ++ flat_map say (filter_map find (row_entry row ∷ []))
    → after ≡ before ++ flat_map say (filter_map find (map row_entry (take (i + 1) rows)))
said_more say find rows i row within is before so_far after first then =
    let now = filter_map find (map row_entry (take i rows)) in
    let next = filter_map find (row_entry row ∷ []) in
    then
    ∙ ap (λ outs. outs ++ flat_map say next) first
    ∙ append_assoc before (flat_map say now) (flat_map say next)
    ∙ ap (λ outs. before ++ outs) (sym (flat_map-append say now next))
    ∙ ap (λ acts. before ++ flat_map say acts) (sym (rows_more find row_entry rows i row within is))

pub grew_on : (before between after : List Sent) → Grew before between → Grew between after
    → Grew before after
grew_on before between after first then = record {
  more = first.more ++ then.more;
  new_is = then.new_is ∙ ap (λ outs. outs ++ then.more) first.new_is
      ∙ append_assoc before first.more then.more;
}
