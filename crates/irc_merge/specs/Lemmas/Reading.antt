-- Lines that are read one after another, and what they leave.
use Rattle.std.proofs.Common.{◌≡◌, ℕ, Bool, List, [], ◌∷◌, ◌++◌, refl, sym, ◌∙◌, ap}
use Rattle.irc_room.specs.Room.{Room}
use Rattle.irc_merge.specs.Deeds.{Deed, after_deed, after_deeds}
use Rattle.irc_merge.specs.BurstRead.{read_deed, read_all}

pub after_deeds-append : (room : Room) (a b : List Deed)
    → after_deeds room (a ++ b) ≡ after_deeds (after_deeds room a) b
after_deeds-append room [] b = refl
after_deeds-append room (deed ∷ a) b = after_deeds-append (after_deed room deed) a b

-- the room after one line was read, and after several
abbrev pub read_one : List ℕ → (List ℕ → Bool) → Room → Deed → Room
read_one own far room deed = after_deeds room (read_deed own far room deed)

abbrev pub reads : List ℕ → (List ℕ → Bool) → Room → List Deed → Room
reads own far room deeds = after_deeds room (read_all own far room deeds)

pub reads-one : (own : List ℕ) (far : List ℕ → Bool) (room : Room) (deed : Deed) (deeds : List Deed)
    → reads own far room (deed ∷ deeds) ≡ reads own far (read_one own far room deed) deeds
reads-one own far room deed deeds =
    after_deeds-append room (read_deed own far room deed)
    (read_all own far (read_one own far room deed) deeds)

pub reads-append : (own : List ℕ) (far : List ℕ → Bool) (room : Room) (a b : List Deed)
    → reads own far room (a ++ b) ≡ reads own far (reads own far room a) b
reads-append own far room [] b = refl
reads-append own far room (deed ∷ a) b =
    reads-one own far room deed (a ++ b)
    ∙ reads-append own far (read_one own far room deed) a b
    ∙ ap (λ r. reads own far r b) (sym (reads-one own far room deed a))
