-- A room as what the ends of links edit.
use Rattle.std.specs.Prelude.{List, [], ◌∷◌}
use Rattle.std.proofs.Common.{refl}
use Rattle.irc_documents.specs.Editing.{DoTheSame, Editing}
use Rattle.irc_edited_rooms.specs.Documents.{Nick, Document, Edit, edited, blank_document}
use Rattle.irc_edited_rooms.specs.Crossing.{MayBeMade, crossed}

-- an edit is passed on as it is
abbrev pub as_it_is : {Place : Type 0} → Edit Place → List (Edit Place)
as_it_is edit = edit ∷ []

pub as_it_is_whole : {Place : Type 0} (names : List Nick) (room : Document Place)
    (edit : Edit Place) → MayBeMade names room edit
    → DoTheSame (edited names) (MayBeMade names) room edit (as_it_is edit)
as_it_is_whole names room edit may = record { same = refl; may_all = (may, tt) }

abbrev pub edited_rooms : {Place : Type 0} → (names : List Nick)
    → Editing (Document Place) (Edit Place)
edited_rooms names = record {
  blank = blank_document;
  done = edited names;
  may = MayBeMade names;
  crossed = crossed names;
  told_as = as_it_is;
  told_whole = as_it_is_whole names;
}
