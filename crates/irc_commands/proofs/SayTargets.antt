-- The targets of a message, served one after another.
use Rattle.std.proofs.Common.{◌≡◌, ℕ, ◌+◌, ◌-◌, ◌<◌, not, List, ◌∷◌, ◌++◌, take, drop, suc}
use Rattle.std.proofs.Common.{refl, sym, ◌∙◌, ap, append_assoc, arith}
use Rattle.std.specs.List.{flat_map}
use Rattle.std.proofs.lemmas.List.Elements.{filter-append}
use Rattle.irc_users.specs.declared.user.User.{User}
use Rattle.irc_room.specs.Room.{Room}
use Rattle.irc_routes.specs.declared.programs.Programs.{Programs}
use Rattle.irc_commands.specs.declared.TheConstants.{MAX_TARGETS}
use Rattle.irc_acts.specs.declared.act.Act.{Act}
use Rattle.irc_acts.specs.CommaLists.{entries}
use Rattle.irc_commands.specs.declared.say.Verb.{Verb}
use Rattle.irc_commands.specs.declared.say.Verb.TheVariants as verb
use Rattle.irc_commands.specs.Say.{to_one, too_many, is_answer, unless_notice}

-- what is said to these entries, where room is left for so many
abbrev pub to_entries : Room → Programs → User → Verb → List ℕ → ℕ → List (List ℕ) → List Act
to_entries room programs me which words n es =
    flat_map (to_one room programs me which words) (take n es) ++ too_many (drop n es)

pub unless-append : (which : Verb) (a b : List Act)
    → unless_notice which (a ++ b) ≡ unless_notice which a ++ unless_notice which b
unless-append verb.Notice a b = filter-append (λ step. not (is_answer step)) a b
unless-append verb.Privmsg a b = refl

one_served : (room : Room) (programs : Programs) (me : User) (which : Verb) (words : List ℕ) (n : ℕ)
    (e : List ℕ) (es : List (List ℕ))
    → to_entries room programs me which words (suc n) (e ∷ es)
    ≡ to_one room programs me which words e ++ to_entries room programs me which words n es
one_served room programs me which words n e es =
    append_assoc (to_one room programs me which words e)
    (flat_map (to_one room programs me which words) (take n es)) (too_many (drop n es))

-- a target more
pub target_more : (room : Room) (programs : Programs) (me : User) (which : Verb)
    (words list rest target : List ℕ) (served : ℕ) (before after total : List Act)
    → served < MAX_TARGETS → entries list ≡ target ∷ entries rest
    → before ++ unless_notice which
    (to_entries room programs me which words (MAX_TARGETS - served) (entries list)) ≡ total
    → after ≡ before ++ unless_notice which (to_one room programs me which words target)
    → after ++ unless_notice which
    (to_entries room programs me which words (MAX_TARGETS - (served + 1)) (entries rest)) ≡ total
target_more room programs me which words list rest target served before after total room_left
    list_is so_far after_is =
    let left : MAX_TARGETS - served ≡ suc (MAX_TARGETS - (served + 1)) = omega arith in
    let n = MAX_TARGETS - (served + 1) in
    let acts = to_one room programs me which words target in
    let later = to_entries room programs me which words n (entries rest) in
    ap (λ a. a ++ unless_notice which later) after_is
    ∙ append_assoc before (unless_notice which acts) (unless_notice which later)
    ∙ ap (λ a. before ++ a) (sym (unless-append which acts later) ∙ ap (unless_notice which)
    (sym (ap (λ m. to_entries room programs me which words m (entries list)) left
    ∙ ap (to_entries room programs me which words (suc n)) list_is
    ∙ one_served room programs me which words n target (entries rest))))
    ∙ so_far
