-- What can come of a line of a connection that is not registered, case by case, and that it depends
-- on nothing of the room but its users. A case for each row that is served before registration.
use Rattle.std.proofs.Common.{◌≡◌, ℕ, not, cond, Option, Some, None, List, [], ◌∷◌, refl, true}
use Rattle.std.proofs.Common.{false, is_some, if◌then◌else◌, ap}
use Rattle.std.specs.Prelude.{⊤}
use Rattle.std.proofs.lemmas.Bool.{not-false}
use Rattle.arrayvec.specs.ArrayVec.{ArrayVec}
use Rattle.irc_names.specs.Names.{is_nick}
use Rattle.irc_names.specs.UserTexts.{clean_user, cut_real}
use Rattle.irc_names.specs.Fold.{key}
use Rattle.irc_names.specs.Tables.{Table, row}
use Rattle.irc_line.specs.Messages.{Parsed}
use Rattle.irc_users.specs.declared.user.User.{User}
use Rattle.irc_numerics.specs.declared.replies.Reply.{Reply}
use Rattle.irc_numerics.specs.declared.replies.Reply.TheVariants.{ErroneousNickname, NicknameInUse}
use Rattle.irc_room.specs.Effects.{has_user}
use Rattle.irc_room.specs.Room.{Room}
use Rattle.irc_routes.specs.Place.{Place}
use Rattle.irc_acts.specs.declared.act.Act.TheVariants.{Answer, Raw}
use Rattle.irc_acts.specs.Acts.{client_words}
use Rattle.irc_acts.specs.ByTest.{by_test}
use Rattle.irc_commands.specs.declared.pending.Pending.{Pending}
use Rattle.irc_commands.specs.declared.command_names.Command.{Command}
use Rattle.irc_commands.specs.CommandNames.{command_of}
use Rattle.irc_commands.specs.OwnLines.{is_from}
use Rattle.irc_commands.specs.Ping.{ping_steps}
use Rattle.irc_commands.specs.Register.{replies, user_of, welcomed, completed, complete}
use Rattle.irc_commands.specs.Register.{nick_chosen, nick_row, user_row, pending_row_of, register}
use Rattle.irc_commands.specs.Register.{Registered}
use Rattle.irc_commands.specs.AtHome.{RegisteringByUsers}
use Rattle.irc_commands.specs.declared.command_names.Command.TheVariants as command

-- what was so of what a connection had given is so of what it has given by its line
pub record IsKeptGiving (params : List (List ℕ)) (P : Pending → Type 0) : Type 0 where
  pub chosen : (pending : Pending) (nickname : List ℕ) → P pending → is_nick nickname ≡ true
      → P (record pending { nick = Some nickname })
  pub lost : (pending : Pending) → P pending → P (record pending { nick = None })
  pub named : (pending : Pending) (username mode unused real : List ℕ) (more : List (List ℕ))
      → P pending → params ≡ username ∷ mode ∷ unused ∷ real ∷ more
      → P (record pending { user = Some (clean_user username); real = cut_real real })

-- so it is in each case, whatever the connection has given by then
pub record IsSoRegistering (room : Room) (place : Place) (P : Pending → Type 0)
    (Q : Registered → Type 0) : Type 0 where
  pub silent : (pending : Pending) → P pending → Q (replies pending [])
  pub answered : (pending : Pending) → P pending → (reply : Reply)
      → Q (replies pending (Answer reply ∷ []))
  pub told : (pending : Pending) → P pending → (line : ArrayVec ℕ)
      → Q (replies pending (Raw line ∷ []))
  pub closed : (pending : Pending) → P pending → (line : ArrayVec ℕ)
      → Q (record { pending = pending; steps = Raw line ∷ []; registered = false; close = true })
  pub added : (pending : Pending) → P pending → (nickname username : List ℕ)
      → pending.nick ≡ Some nickname → pending.user ≡ Some username
      → has_user room nickname ≡ false → Q (record {
        pending = pending;
        steps = welcomed place
            (user_of place pending nickname username);
        registered = true;
        close = false;
      })

module _ (room : Room) (place : Place) (P : Pending → Type 0) (Q : Registered → Type 0)
    (so : IsSoRegistering room place P Q) (params : List (List ℕ))
    (keeps : IsKeptGiving params P) where
  by_names : (pending : Pending) → P pending → (nickname username : Option (List ℕ))
      → pending.nick ≡ nickname → pending.user ≡ username
      → Q (completed room place pending nickname username)
  by_names pending given None username is named = so.silent pending given
  by_names pending given (Some nickname) None is named = so.silent pending given
  by_names pending given (Some nickname) (Some username) is named =
      by_test Q (has_user room nickname)
      (replies (record pending { nick = None }) (Answer (NicknameInUse nickname) ∷ []))
      (record {
        pending = pending;
        steps = welcomed place (user_of place pending nickname username);
        registered = true;
        close = false;
      })
      (λ taken. so.answered (record pending { nick = None }) (keeps.lost pending given) _)
      (λ free. so.added pending given nickname username is named free)

  completing : (pending : Pending) → P pending → Q (complete room place pending)
  completing pending given = by_names pending given pending.nick pending.user refl refl

  choosing : (pending : Pending) → P pending → (nickname : List ℕ)
      → Q (nick_chosen room place pending nickname)
  choosing pending given nickname =
      let in_use = replies pending (Answer (NicknameInUse nickname) ∷ []) in
      let chosen = complete room place (record pending { nick = Some nickname }) in
      by_test Q (not (is_nick nickname))
      (replies pending (Answer (ErroneousNickname (client_words nickname)) ∷ []))
      (cond (has_user room nickname) in_use chosen) (λ erroneous. so.answered pending given _)
      (λ fine. by_test Q (has_user room nickname) in_use chosen
      (λ taken. so.answered pending given _)
      (λ free. completing (record pending { nick = Some nickname })
      (keeps.chosen pending nickname given (not-false (is_nick nickname) fine))))

  by_nick : (pending : Pending) → P pending → (words : List (List ℕ))
      → Q (nick_row room place pending words)
  by_nick pending given [] = so.answered pending given _
  by_nick pending given ([] ∷ more) = so.answered pending given _
  by_nick pending given ((b ∷ bytes) ∷ more) = choosing pending given (b ∷ bytes)

  by_user : (pending : Pending) → P pending → (words : List (List ℕ)) → params ≡ words
      → Q (user_row room place pending words)
  by_user pending given [] is = so.answered pending given _
  by_user pending given (username ∷ []) is = so.answered pending given _
  by_user pending given (username ∷ mode ∷ []) is = so.answered pending given _
  by_user pending given (username ∷ mode ∷ unused ∷ []) is = so.answered pending given _
  by_user pending given (username ∷ mode ∷ unused ∷ real ∷ more) is =
      completing (record pending { user = Some (clean_user username); real = cut_real real })
      (keeps.named pending username mode unused real more given is)

  pinged : (pending : Pending) → P pending → (words : List (List ℕ))
      → Q (replies pending (ping_steps place words))
  unfolding ping_steps
  pinged pending given [] = so.answered pending given _
  pinged pending given (word ∷ more) = so.told pending given _

  by_row : (pending : Pending) → P pending → (which : Option Command)
      → Q (pending_row_of room place pending params which)
  by_row pending given (Some command.Pass) = so.silent pending given
  by_row pending given (Some command.Pong) = so.silent pending given
  by_row pending given (Some command.Nick) = by_nick pending given params
  by_row pending given (Some command.User) = by_user pending given params refl
  by_row pending given (Some command.Ping) = pinged pending given params
  by_row pending given (Some command.Quit) = so.closed pending given _
  by_row pending given (Some other) = so.answered pending given _
  by_row pending given None = so.answered pending given _

pub registering_within : (room : Room) (place : Place) (pending : Pending) (message : Parsed)
    (P : Pending → Type 0) (Q : Registered → Type 0) → IsSoRegistering room place P Q
    → IsKeptGiving message.params P → P pending → Q (register room place pending message)
unfolding register
registering_within room place pending message P Q so keeps given =
    by_test Q (is_from message.prefix pending.nick) (pending_row_of room place pending
    message.params (command_of place.about.programs message.command)) (replies pending [])
    (λ own. by_row room place P Q so message.params keeps pending given
    (command_of place.about.programs message.command))
    (λ foreign. so.silent pending given)

-- where nothing is asked of what was given
pub registering_so : (room : Room) (place : Place) (pending : Pending) (message : Parsed)
    (Q : Registered → Type 0) → IsSoRegistering room place (λ given. ⊤) Q
    → Q (register room place pending message)
registering_so room place pending message Q so =
    registering_within room place pending message (λ given. ⊤) Q so (record {
      chosen = λ pending nickname given is. tt;
      lost = λ pending given. tt;
      named = λ pending username mode unused real more given is. tt;
    }) tt

-- ---- it depends on nothing of the room but its users

module _ (room other : Room) (place : Place) (same : room.users ≡ other.users) where
  completed_same : (pending : Pending) (nick user : Option (List ℕ))
      → completed room place pending nick user ≡ completed other place pending nick user
  completed_same pending None user = refl
  completed_same pending (Some nick) None = refl
  completed_same pending (Some nick) (Some user) =
      ap (λ (users : Table User). if is_some (row users (key nick))
      then replies (record pending { nick = None }) (Answer (NicknameInUse nick) ∷ [])
      else record {
        pending = pending;
        steps = welcomed place (user_of place pending nick user);
        registered = true;
        close = false;
      }) same

  complete_same : (pending : Pending) → complete room place pending ≡ complete other place pending
  complete_same pending = completed_same pending pending.nick pending.user

  chosen_same : (pending : Pending) (nick : List ℕ)
      → nick_chosen room place pending nick ≡ nick_chosen other place pending nick
  chosen_same pending nick = λ i.
      if not (is_nick nick)
      then replies pending (Answer (ErroneousNickname (client_words nick)) ∷ [])
      else if is_some (row (same i) (key nick))
      then replies pending (Answer (NicknameInUse nick) ∷ [])
      else complete_same (record pending { nick = Some nick }) i

  nick_same : (pending : Pending) (params : List (List ℕ))
      → nick_row room place pending params ≡ nick_row other place pending params
  nick_same pending [] = refl
  nick_same pending ([] ∷ more) = refl
  nick_same pending ((b ∷ bytes) ∷ more) = chosen_same pending (b ∷ bytes)

  user_same : (pending : Pending) (params : List (List ℕ))
      → user_row room place pending params ≡ user_row other place pending params
  user_same pending [] = refl
  user_same pending (name ∷ []) = refl
  user_same pending (name ∷ mode ∷ []) = refl
  user_same pending (name ∷ mode ∷ unused ∷ []) = refl
  user_same pending (name ∷ mode ∷ unused ∷ real ∷ more) =
      complete_same (record pending { user = Some (clean_user name); real = cut_real real })

  row_same : (pending : Pending) (params : List (List ℕ)) (which : Option Command) → pending_row_of
      room place pending params which ≡ pending_row_of other place pending params which
  row_same pending params (Some command.Nick) = nick_same pending params
  row_same pending params (Some command.User) = user_same pending params
  row_same pending params (Some which) = refl
  row_same pending params None = refl

pub registering_by_users : RegisteringByUsers
unfolding register
registering_by_users room other place pending message same =
    ap (λ row. if is_from message.prefix pending.nick then row else replies pending [])
    (row_same room other place same pending message.params
    (command_of place.about.programs message.command))
