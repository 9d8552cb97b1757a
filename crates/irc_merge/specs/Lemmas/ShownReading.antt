-- What a user is shown by lines that are read one after another.
use Rattle.std.proofs.Common.{◌≡◌, ℕ, Bool, List, [], ◌∷◌, ◌++◌, refl, sym, ◌∙◌, ap}
use Rattle.std.proofs.lemmas.List.{append_assoc}
use Rattle.irc_room.specs.Room.{Room}
use Rattle.irc_merge.specs.Deeds.{Deed, after_deed, after_deeds, shown_by, shown_by_all}
use Rattle.irc_merge.specs.BurstRead.{read_deed, read_all}
use Rattle.irc_merge.specs.Lemmas.Reading.{read_one, reads, reads-one}

shown_all-append : (viewer : List ℕ) (room : Room) (a b : List Deed) → shown_by_all viewer room
    (a ++ b) ≡ shown_by_all viewer room a ++ shown_by_all viewer (after_deeds room a) b
shown_all-append viewer room [] b = refl
shown_all-append viewer room (deed ∷ a) b =
    ap (λ rest. shown_by viewer room deed ++ rest)
    (shown_all-append viewer (after_deed room deed) a b)
    ∙ sym (append_assoc (shown_by viewer room deed) (shown_by_all viewer (after_deed room deed) a)
    (shown_by_all viewer (after_deeds (after_deed room deed) a) b))

-- what one line shows when it is read, and what several show
abbrev pub shown_one : List ℕ → List ℕ → (List ℕ → Bool) → Room → Deed → List (List ℕ)
shown_one viewer own far room deed = shown_by_all viewer room (read_deed own far room deed)

abbrev pub shown_reads : List ℕ → List ℕ → (List ℕ → Bool) → Room → List Deed → List (List ℕ)
shown_reads viewer own far room deeds = shown_by_all viewer room (read_all own far room deeds)

pub shown_reads-one : (viewer own : List ℕ) (far : List ℕ → Bool) (room : Room) (deed : Deed)
    (deeds : List Deed) → shown_reads viewer own far room (deed ∷ deeds) ≡ shown_one viewer own far
    room deed ++ shown_reads viewer own far (read_one own far room deed) deeds
shown_reads-one viewer own far room deed deeds =
    shown_all-append viewer room (read_deed own far room deed)
    (read_all own far (read_one own far room deed) deeds)

pub shown_reads-append : (viewer own : List ℕ) (far : List ℕ → Bool) (room : Room) (a b : List Deed)
    → shown_reads viewer own far room (a ++ b) ≡ shown_reads viewer own far room a
    ++ shown_reads viewer own far (reads own far room a) b
shown_reads-append viewer own far room [] b = refl
shown_reads-append viewer own far room (deed ∷ a) b =
    shown_reads-one viewer own far room deed (a ++ b)
    ∙ ap (λ rest. shown_one viewer own far room deed ++ rest)
    (shown_reads-append viewer own far (read_one own far room deed) a b)
    ∙ sym (append_assoc (shown_one viewer own far room deed)
    (shown_reads viewer own far (read_one own far room deed) a)
    (shown_reads viewer own far (reads own far (read_one own far room deed) a) b))
    ∙ (λ i. sym (shown_reads-one viewer own far room deed a) i
    ++ shown_reads viewer own far (sym (reads-one own far room deed a) i) b)
