-- The channels that a user is in, by the rows of the code's table.
use Rattle.std.proofs.Common.{◌≡◌, ℕ, Bool, cond, true, false, List, [], ◌∷◌, filter, length, map}
use Rattle.std.proofs.Common.{refl, sym, ◌∙◌, ap}
use Rattle.std.proofs.lemmas.List.{length-map}
use Rattle.std.specs.Borrow.{Bor}
use Rattle.std.specs.FinMap.{entries}
use Rattle.irc_names.specs.Fold.{key}
use Rattle.irc_tables.specs.declared.table.Row.{Row}
use Rattle.irc_tables.specs.RowViews.{row_entry}
use Rattle.irc_users.specs.declared.user.User.{User}
use Rattle.irc_channels.specs.declared.channel.Channel.{Channel}
use Rattle.irc_channels.specs.Channels.{has_member}
use Rattle.irc_room.specs.Room.{Room}
use Rattle.irc_acts.specs.Moves.{own_channels}

kept_entries : (p : Channel → Bool) (es : List (List ℕ × Channel))
    → filter p (map (λ e. e.1) es) ≡ map (λ e. e.1) (filter (λ e. p e.1) es)
kept_entries p [] = refl
kept_entries p (e ∷ es) = by_test (p e.1) (kept_entries p es)
  where
    by_test : (b : Bool) → filter p (map (λ e. e.1) es) ≡ map (λ e. e.1) (filter (λ e. p e.1) es)
        → cond b (e.1 ∷ filter p (map (λ e. e.1) es)) (filter p (map (λ e. e.1) es))
        ≡ map (λ e. e.1) (cond b (e ∷ filter (λ e. p e.1) es) (filter (λ e. p e.1) es))
    by_test true later = ap (λ cs. e.1 ∷ cs) later
    by_test false later = later

pub count_of_entries : (room : Room) (me : User)
    → length (filter (λ e. has_member (key me.nick) e.1) (entries room.channels))
    ≡ length (own_channels room me)
count_of_entries room me =
    sym
    (length-map (filter (λ e. has_member (key me.nick) e.1) (entries room.channels)) (λ e. e.1))
    ∙ ap length (sym (kept_entries (has_member (key me.nick)) (entries room.channels)))

values_of_entries : (rows : List (Bor (Row Channel)))
    → map (λ (row : Bor (Row Channel)). row.now.value) rows
    ≡ map (λ e. e.1) (map (λ (row : Bor (Row Channel)). row_entry row.now) rows)
values_of_entries [] = refl
values_of_entries (row ∷ rows) = ap (λ values. row.now.value ∷ values) (values_of_entries rows)

pub own_of_rows : (room : Room) (user : User) (rows : List (Bor (Row Channel)))
    → map (λ (row : Bor (Row Channel)). row_entry row.now) rows
    ≡ filter (λ e. has_member (key user.nick) e.1) (entries room.channels)
    → map (λ (row : Bor (Row Channel)). row.now.value) rows ≡ own_channels room user
own_of_rows room user rows are =
    values_of_entries rows
    ∙ ap (λ es. map (λ (e : List ℕ × Channel). e.1) es) are
    ∙ sym (kept_entries (has_member (key user.nick)) (entries room.channels))
