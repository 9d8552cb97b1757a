-- Lists in folded order of names, put together in that order: who is in both stands once.
use Rattle.std.specs.Prelude.{ℕ, List, [], ◌∷◌, ◌++◌, map}
use Rattle.std.specs.Borrow.{Bor}
use Rattle.std.specs.declared.cmp.Ordering.{Ordering}
use Rattle.std.specs.declared.cmp.Ordering.TheVariants.{Less, Equal, Greater}
use Rattle.irc_names.specs.Tables.{fold_cmp, row}
use Rattle.irc_tables.specs.declared.table.Row.{Row}
use Rattle.irc_tables.specs.RowViews.{row_entry}
use Rattle.irc_stage.specs.Loops.Listening.{Lists, conns_in}

-- a connection under the fold of a nickname
abbrev pub Entry : Type 0
Entry = List ℕ × ℕ

abbrev pub entries_now : List (Bor (Row ℕ)) → List Entry
entries_now rows = map (λ row. row_entry row.now) rows

-- an entry more, where it stands below
abbrev pub below_if : Ordering → Entry → List Entry → List Entry
below_if Less e es = e ∷ es
below_if other e es = []

-- of entries in folded order those that stand below a fold ..
abbrev pub below : List ℕ → List Entry → List Entry
below fold [] = []
below fold (e ∷ es) = below_if (fold_cmp e.0 fold) e (below fold es)

-- those from an entry on that stand behind
abbrev pub behind_if : Ordering → Entry → List Entry → List Entry → List Entry
behind_if Less e es more = more
behind_if Equal e es more = es
behind_if Greater e es more = e ∷ es

-- .. and those that stand behind it
abbrev pub behind : List ℕ → List Entry → List Entry
behind fold [] = []
behind fold (e ∷ es) = behind_if (fold_cmp e.0 fold) e es (behind fold es)

-- two lists in one; what both have is there as the first has it
abbrev pub merged : List Entry → List Entry → List Entry
merged [] found = found
merged (e ∷ es) found = below e.0 found ++ (e ∷ merged es (behind e.0 found))

-- and those of the lists of some channels
abbrev pub with_lists : Lists → List (List ℕ) → List Entry → List Entry
with_lists lists [] found = found
with_lists lists (c ∷ cs) found = with_lists lists cs (merged (conns_in (row lists c)) found)
