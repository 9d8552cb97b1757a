-- Lines put behind others, one after another.
use Rattle.std.proofs.Common.{◌≡◌, ℕ, ◌+◌, ◌<◌, Option, Some, None, List, [], ◌∷◌, ◌++◌, map}
use Rattle.std.proofs.Common.{filter_map, length, get_or, take, drop, option_to_list, refl, sym}
use Rattle.std.proofs.Common.{◌∙◌, ap, append_assoc, append-nil}
use Rattle.std.proofs.lemmas.List.{map-append, take_more}
use Rattle.std.proofs.lemmas.List.Elements.{filter_map-append}
use Rattle.std.specs.List.{flat_map, cons_option}
use Rattle.std.specs.FinMap.{entries, values}
use Rattle.arrayvec.specs.ArrayVec.{ArrayVec}
use Rattle.irc_names.specs.Tables.{Table}
use Rattle.irc_tables.specs.declared.table.Row.{Row}
use Rattle.irc_tables.specs.RowViews.{row_entry}
use Rattle.irc_channels.specs.declared.flags.Flags.{Flags}
use Rattle.irc_channels.specs.declared.channel.Channel.{Channel}
use Rattle.irc_line.specs.Messages.{Written, text}
use Rattle.irc_merge.specs.Bursts.{in_lines}
use Rattle.irc_burst_lines.specs.Loops.Telling.{lines_now, Writes}
use Rattle.irc_burst_lines.proofs.Chunks.{lines_on, no_lines}

-- what was told so far, and what the rest tells, are what all tells
abbrev pub Completes : List (List ℕ) → List (ArrayVec ℕ) → List Written → Type 0
Completes whole lines rest = lines_now lines ++ map text rest ≡ whole

-- one line more
pub one_line : (lines new : List (ArrayVec ℕ)) (line : ArrayVec ℕ) (parts : Written)
    → new ≡ lines ++ line ∷ [] → line.items ≡ text parts → Writes (parts ∷ []) lines new
one_line lines new line parts is written =
    ap lines_now is ∙ map-append (λ (l : ArrayVec ℕ). l.items) lines (line ∷ [])
    ∙ ap (λ t. lines_now lines ++ t ∷ []) written

-- some parts were told, of which the rest begins with
pub told_some : (whole : List (List ℕ)) (lines new : List (ArrayVec ℕ)) (parts rest : List Written)
    → Writes parts lines new → Completes whole lines (parts ++ rest) → Completes whole new rest
told_some whole lines new parts rest writes so_far =
    ap (λ ls. ls ++ map text rest) writes
    ∙ append_assoc (lines_now lines) (map text parts) (map text rest)
    ∙ ap (λ ls. lines_now lines ++ ls) (sym (map-append text parts rest))
    ∙ so_far

pub told_one : (whole : List (List ℕ)) (lines new : List (ArrayVec ℕ)) (line : ArrayVec ℕ)
    (parts : Written) (rest : List Written) → new ≡ lines ++ line ∷ [] → line.items ≡ text parts
    → Completes whole lines (parts ∷ rest) → Completes whole new rest
told_one whole lines new line parts rest is written so_far =
    told_some whole lines new (parts ∷ []) rest (one_line lines new line parts is written) so_far

pub told_all : (whole : List (List ℕ)) (lines : List (ArrayVec ℕ)) → Completes whole lines []
    → lines_now lines ≡ whole
told_all whole lines so_far = sym (append-nil (lines_now lines)) ∙ so_far

-- one part after another
pub two_told : (one other : List Written) (a b d : List (ArrayVec ℕ)) → Writes one a b
    → Writes other b d → Writes (one ++ other) a d
two_told one other a b d first second =
    second ∙ ap (λ ls. ls ++ map text other) first
    ∙ append_assoc (lines_now a) (map text one) (map text other)
    ∙ ap (λ ls. lines_now a ++ ls) (sym (map-append text one other))

pub nothing_told : (a : List (ArrayVec ℕ)) → Writes [] a a
nothing_told a = sym (append-nil (lines_now a))

-- lines of so many
pub lines_told : {X : Type 0} (f : List X → Written) (n : ℕ) (whole : List (List ℕ))
    (lines new : List (ArrayVec ℕ)) (line : ArrayVec ℕ) (xs first rest : List X) → 0 < n
    → 0 < length xs → first ≡ take n xs → rest ≡ drop n xs → new ≡ lines ++ line ∷ []
    → line.items ≡ text (f first) → Completes whole lines (map f (in_lines n xs))
    → Completes whole new (map f (in_lines n rest))
lines_told f n whole lines new line xs first rest some more first_is rest_is is written so_far =
    ap (λ ys. lines_now new ++ map text (map f (in_lines n ys))) rest_is
    ∙ told_one whole lines new line (f (take n xs)) (map f (in_lines n (drop n xs))) is
    (written ∙ ap (λ ys. text (f ys)) first_is)
    (ap (λ parts. lines_now lines ++ map text parts) (sym (lines_on f n xs some more)) ∙ so_far)

pub lines_done : {X : Type 0} (f : List X → Written) (n : ℕ) (whole : List (List ℕ))
    (lines : List (ArrayVec ℕ)) (xs : List X) → length xs ≡ 0
    → Completes whole lines (map f (in_lines n xs)) → lines_now lines ≡ whole
lines_done f n whole lines xs none so_far = told_all whole lines
    (ap (λ parts. lines_now lines ++ map text parts) (sym (no_lines f n xs none)) ∙ so_far)

-- the rows of a table, one after another
pub rows_told : (f : Channel → List Written) (rows : List (Row Channel)) (table : Table Channel)
    → map (row_entry {V = Channel}) rows ≡ entries table
    → flat_map (λ (r : Row Channel). f r.value) rows ≡ flat_map f (values table)
rows_told f rows table are =
    by_rows rows ∙ ap (λ es. flat_map f (map (λ (e : List ℕ × Channel). e.1) es)) are
  where
    by_rows : (rs : List (Row Channel)) → flat_map (λ (r : Row Channel). f r.value) rs
        ≡ flat_map f (map (λ (e : List ℕ × Channel). e.1) (map (row_entry {V = Channel}) rs))
    by_rows [] = refl
    by_rows (r ∷ rs) = ap (λ more. f r.value ++ more) (by_rows rs)

-- what one row more gives
pub one_more_row : (f : List ℕ × Flags → Option (List ℕ × Flags)) (rows : List (Row Flags))
    (i : ℕ) (d : Row Flags) (so_far : List (List ℕ × Flags)) → i < length rows
    → so_far ≡ filter_map f (map (row_entry {V = Flags}) (take i rows))
    → so_far ++ option_to_list (f (row_entry (get_or rows i d))) ≡ filter_map f
    (map (row_entry {V = Flags}) (take (i + 1) rows))
one_more_row f rows i d so_far within are =
    ap (λ ms. ms ++ option_to_list (f (row_entry (get_or rows i d)))) are
    ∙ ap (λ ms. filter_map f (map (row_entry {V = Flags}) (take i rows)) ++ ms)
    (one (f (row_entry (get_or rows i d))))
    ∙ sym (ap (λ rs. filter_map f (map (row_entry {V = Flags}) rs)) (take_more rows i d within)
    ∙ ap (filter_map f) (map-append (row_entry {V = Flags}) (take i rows) (get_or rows i d ∷ []))
    ∙ filter_map-append f (map (row_entry {V = Flags}) (take i rows))
    (row_entry (get_or rows i d) ∷ []))
  where
    one : (o : Option (List ℕ × Flags)) → option_to_list o ≡ cons_option o []
    one None = refl
    one (Some member) = refl
