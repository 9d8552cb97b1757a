-- A joiner's place among the members, and the names that it is sent.
use Rattle.std.proofs.Common.{◌≡◌, ℕ, Bool, true, false, Some, None, List, [], ◌∷◌, ◌++◌, map, take}
use Rattle.std.proofs.Common.{drop, sym, ◌∙◌, ap, is_some, if◌then◌else◌}
use Rattle.std.proofs.lemmas.List.{map-append, take-append-drop}
use Rattle.std.proofs.lemmas.List.Folds.{list_all-map}
use Rattle.std.proofs.lemmas.List.Elements.{filter_map-append}
use Rattle.std.specs.List.{filter_map}
use Rattle.std.specs.Ordering.{is_lt}
use Rattle.std.specs.Cmp.Lexicographic.{nat_list_cmp_total}
use Rattle.std.specs.FinMap.{entries, entries_sorted, entries-insert, get-entries, is_sorted}
use Rattle.std.specs.FinMap.Entries.{put as put_entry, find}
use Rattle.std.proofs.lemmas.Bool.{true≢false}
use Rattle.irc_names.specs.Lemmas.PlainFacts.{is_true}
use Rattle.irc_names.specs.Fold.{key}
use Rattle.irc_names.specs.Tables.{Table, alter, fold_cmp, row}
use Rattle.irc_names.specs.TableLaws.{row-alter_same}
use Rattle.irc_tables.specs.declared.table.Row.{Row}
use Rattle.irc_tables.specs.FoldedRows.{IsInFoldedOrder, StandsAt, BelongsAt}
use Rattle.irc_tables.specs.RowViews.{row_entry}
use Rattle.irc_tables.specs.Lemmas.OrderedEntries.{put-between}
use Rattle.irc_tables.specs.Lemmas.RowsAsTable.{row-table_of, stands-present}
use Rattle.irc_users.specs.declared.user.User.{User}
use Rattle.irc_channels.specs.declared.flags.Flags.{Flags}
use Rattle.irc_channels.specs.declared.channel.Channel.{Channel}
use Rattle.irc_channels.specs.Channels.{has_member, joined}
use Rattle.irc_numerics.specs.Limits.{max_names}
use Rattle.irc_numerics.specs.declared.replies.Listed.{Listed}
use Rattle.irc_acts.specs.declared.act.Act.{Act}
use Rattle.irc_acts.specs.Names.{listed, name_line, name_lines, names_of}
use Rattle.irc_acts.specs.Loops.FilledLines.{Came}
use Rattle.irc_acts.specs.Loops.NameLines.{is_shown}
use Rattle.irc_acts.specs.Lemmas.CameLines.{more_came, all_came}

-- a table's rows are in order
pub rows_in_order : (members : Table Flags) (rows : List (Row Flags))
    → map row_entry rows ≡ entries members → IsInFoldedOrder row_entry rows
unfolding IsInFoldedOrder
rows_in_order members rows same = ap (is_sorted fold_cmp) same ∙ is_true _ (entries_sorted members)

-- no row has the nickname of one who is no member
pub nowhere : (members : Table Flags) (rows : List (Row Flags)) (fold : List ℕ) (place : ℕ)
    → map row_entry rows ≡ entries members → is_some (row members fold) ≡ false
    → StandsAt row_entry rows fold place → ⊥
nowhere members rows fold place same absent at =
    true≢false (sym (stands-present row_entry rows fold place (rows_in_order members rows same) at)
    ∙ ap is_some (row-table_of row_entry rows fold ∙ ap (find fold_cmp fold) same
    ∙ sym (get-entries members fold))
    ∙ absent)

-- the rows with one between those before its place and those behind
pub put_at_place : (members : Table Flags) (rows : List (Row Flags)) (fold : List ℕ) (place : ℕ)
    → map row_entry rows ≡ entries members → BelongsAt row_entry rows fold place → (flags : Flags)
    → entries (alter fold (λ _. Some flags) members) ≡ map row_entry (take place rows)
    ++ (fold, flags) ∷ map row_entry (drop place rows)
unfolding alter
put_at_place members rows fold place same gap flags =
    entries-insert nat_list_cmp_total members fold flags
    ∙ ap (put_entry fold_cmp fold flags)
    (sym same ∙ ap (map row_entry) (sym (take-append-drop place rows))
    ∙ map-append row_entry (take place rows) (drop place rows))
    ∙ put-between nat_list_cmp_total fold flags (map row_entry (take place rows))
    (map row_entry (drop place rows))
    (list_all-map (λ e. is_lt (fold_cmp e.0 fold)) row_entry (take place rows) ∙ gap.before)
    (list_all-map (λ e. is_lt (fold_cmp fold e.0)) row_entry (drop place rows) ∙ gap.after)

abbrev new_flags : Bool → Flags
new_flags op = record { op = op; voice = false }

abbrev with_joiner : List ℕ → Bool → Channel → Channel
with_joiner nick op channel = record channel {
  members = alter nick (λ _. Some (new_flags op)) channel.members;
  invited = alter nick (λ _. None) channel.invited;
}

-- to one who has joined, all members are named, and it among them
joiner_among : (users : Table User) (me : User) (op : Bool) (channel : Channel)
    (front back : List (List ℕ × Flags)) → has_member (key me.nick) channel ≡ false
    → ((flags : Flags) → entries (alter (key me.nick) (λ _. Some flags) channel.members) ≡ front
    ++ (key me.nick, flags) ∷ back) → name_lines channel
    (filter_map (listed users (is_shown true)) (front ++ (key me.nick, new_flags op) ∷ back))
    ≡ names_of users me (joined (key me.nick) op channel)
joiner_among users me op channel front back outside parted =
    let nick = key me.nick in
    sym (ap (names_of users me)
    (ap (λ b. if b then channel else with_joiner nick op channel) outside)
    ∙ ap (λ b. name_lines channel (filter_map (listed users (is_shown b))
    (entries (alter nick (λ _. Some (new_flags op)) channel.members))))
    (ap is_some (row-alter_same nick (λ _. Some (new_flags op)) channel.members))
    ∙ ap (λ es. name_lines channel (filter_map (listed users (is_shown true)) es))
    (parted (new_flags op)))

-- the names before it, its own, and those behind, and then the last line
pub joiner_came : (users : Table User) (me : User) (op : Bool) (channel : Channel)
    (front back : List (List ℕ × Flags)) → has_member (key me.nick) channel ≡ false
    → ((flags : Flags) → entries (alter (key me.nick) (λ _. Some flags) channel.members) ≡ front
    ++ (key me.nick, flags) ∷ back) → (nick : List ℕ) (before first second third done : List Act)
    (none one two three : List Listed) → nick ≡ me.nick → none ≡ [] → Came max_names
    (name_line channel) before none (filter_map (listed users (is_shown true)) front) first one
    → Came max_names (name_line channel) first one
    (filter_map (listed users (is_shown true)) ((key nick, new_flags op) ∷ [])) second two
    → Came max_names (name_line channel) second two (filter_map
    (listed users (is_shown true)) back) third three → done ≡ third ++ name_lines channel three
    → done ≡ before ++ names_of users me (joined (key me.nick) op channel)
joiner_came users me op channel front back outside parted nick before first second third done none
    one two three nick_is empty came_first came_joiner came_behind sent =
    let shown = listed users (is_shown true) in
    let own = (key nick, new_flags op) ∷ [] in
    all_came max_names (name_line channel) before third done none
    (filter_map shown front ++ (filter_map shown own ++ filter_map shown back)) three empty
    (more_came max_names (name_line channel) before first third none one three
    (filter_map shown front) (filter_map shown own ++ filter_map shown back) came_first
    (more_came max_names (name_line channel) first second third one two three (filter_map shown own)
    (filter_map shown back) came_joiner came_behind)) sent
    ∙ ap (λ names. before ++ name_lines channel (filter_map shown front ++ names))
    (sym (filter_map-append shown own back))
    ∙ ap (λ names. before ++ name_lines channel names)
    (sym (filter_map-append shown front (own ++ back)))
    ∙ ap (λ n. before ++ name_lines channel
    (filter_map shown (front ++ (key n, new_flags op) ∷ back))) nick_is
    ∙ ap (λ steps. before ++ steps) (joiner_among users me op channel front back outside parted)
