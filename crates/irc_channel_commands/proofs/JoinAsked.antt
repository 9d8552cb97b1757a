-- The channels that a JOIN asks for, read from the front of its two lists.
use Rattle.std.proofs.Common.{◌≡◌, ℕ, Bool, true, false, not, Option, Some, None, List, [], ◌∷◌}
use Rattle.std.proofs.Common.{◌++◌, filter, length, map, eqb, refl, sym, ◌∙◌, ap, subst}
use Rattle.std.proofs.Common.{if◌then◌else◌}
use Rattle.irc_users.specs.declared.user.User.{User}
use Rattle.irc_modes.specs.Modes.{is_nil}
use Rattle.irc_room.specs.Room.{Room}
use Rattle.irc_acts.specs.declared.act.Act.{Act}
use Rattle.irc_acts.specs.Ahead.{ahead, in_turn}
use Rattle.irc_acts.specs.CommaLists.{pieces_left}
use Rattle.irc_acts.specs.Moves.{AreOwnJoins, own_channels}
use Rattle.irc_channel_commands.specs.Join.{JoinEntry, asks, with_keys, asked_for, is_zero}
use Rattle.irc_channel_commands.specs.Join.{join_one, join_steps, leaves}
use Rattle.irc_channel_commands.specs.Loops.JoinList.{IsNextKey}
use Rattle.irc_acts.specs.AheadLaws.{one_served}

-- the channels of what is left of the lists
abbrev pub asked_left : Option (List ℕ) → Option (List ℕ) → List JoinEntry
asked_left names keys =
    filter (λ asked. not (is_nil asked.channel)) (with_keys (pieces_left names) (pieces_left keys))

all_asked : (names keys : List ℕ) → asked_for names keys ≡ asked_left (Some names) (Some keys)
unfolding asked_for
all_asked names keys = refl

keys_more : (name : List ℕ) (names : List (List ℕ)) (keys more : Option (List ℕ)) (given : List ℕ)
    → IsNextKey keys given more → with_keys (name ∷ names) (pieces_left keys)
    ≡ asks name given ∷ with_keys names (pieces_left more)
keys_more name names None more given next =
    ap (λ k. asks name k ∷ with_keys names []) (sym next.0)
    ∙ ap (λ left. asks name given ∷ with_keys names (pieces_left left)) (sym next.1)
keys_more name names (Some keys) more given next = ap (with_keys (name ∷ names)) next

asked_more : (names keys more_names more_keys : Option (List ℕ)) (name given : List ℕ)
    → pieces_left names ≡ name ∷ pieces_left more_names
    → IsNextKey keys given more_keys → asked_left names keys ≡ (if not (is_nil name)
    then asks name given ∷ asked_left more_names more_keys else asked_left more_names more_keys)
asked_more names keys more_names more_keys name given parted next =
    ap (filter (λ asked. not (is_nil asked.channel)))
    (ap (λ cs. with_keys cs (pieces_left keys)) parted
    ∙ keys_more name (pieces_left more_names) keys more_keys given next)

module _ (me : User) (room : Room) (names keys more_names more_keys : Option (List ℕ))
    (name given : List ℕ) (total acts : List Act)
    (parted : pieces_left names ≡ name ∷ pieces_left more_names)
    (next : IsNextKey keys given more_keys)
    (so_far : acts ++ in_turn (join_one me) (ahead room acts) (asked_left names keys) ≡ total) where
  abbrev rest : List JoinEntry
  rest = asked_left more_names more_keys

  -- another is served
  pub served : (new : List Act) → is_nil name ≡ false → new ≡ acts ++ join_one me (ahead room acts)
      (asks name given) → new ++ in_turn (join_one me) (ahead room new) rest ≡ total
  served new some new_is =
      one_served (join_one me) room (asks name given) rest acts new new_is
      ∙ ap (λ asked. acts ++ in_turn (join_one me) (ahead room acts) asked)
      (sym (asked_more names keys more_names more_keys name given parted next
      ∙ ap (λ b. if not b then asks name given ∷ rest else rest) some))
      ∙ so_far

-- nothing is decided yet
pub none_so_far : (me : User) (room : Room) (steps : List Act) → steps ≡ []
    → AreOwnJoins me.nick room steps
none_so_far me room steps none = subst (AreOwnJoins me.nick room) (sym none) tt

pub all_to_serve : (me : User) (room : Room) (names keys : List ℕ) (steps : List Act) → steps ≡ []
    → steps ++ in_turn (join_one me) (ahead room steps) (asked_left (Some names) (Some keys))
    ≡ in_turn (join_one me) room (asked_for names keys)
all_to_serve me room names keys steps none =
    ap (λ acts. acts ++ in_turn (join_one me) (ahead room acts)
    (asked_left (Some names) (Some keys))) none
    ∙ ap (in_turn (join_one me) room) (sym (all_asked names keys))

pub some_name : (name : List ℕ) (b : Bool) → b ≡ eqb (length name) 0 → b ≡ false
    → is_nil name ≡ false
some_name [] b is some = sym is ∙ some
some_name (x ∷ name) b is some = refl

-- `0` leaves all channels
pub all_left : (room : Room) (me : User) (list keys : List ℕ) → is_zero list ≡ true
    → map (leaves me) (own_channels room me) ≡ join_steps room me list keys
unfolding join_steps
all_left room me list keys zero =
    sym (ap (λ b. if b then map (leaves me) (own_channels room me)
    else in_turn (join_one me) room (asked_for list keys)) zero)
