-- What is said in two stretches is said; and what is told is said.
use Rattle.std.proofs.Common.{ℕ, Option, Some, None, List, [], ◌∷◌, ◌++◌, refl, subst}
use Rattle.irc_journal.specs.declared.journal.Journal.{Journal}
use Rattle.irc_journal.specs.declared.tidings.Tidings.{Tidings}
use Rattle.irc_journal.specs.Saying.{AreSaid, AreSomeSaid, AreTold, IsFrontSaid, IsJournalLine}
use Rattle.irc_journal.specs.Saying.{IsSaid, IsSaidIf, of_link}

pub said_both : (one other : List (List ℕ)) (old mid new : Option (List ℕ)) → AreSaid one old mid
    → AreSaid other mid new → AreSaid (one ++ other) old new
said_both [] other old mid new first then =
    subst (λ (held : Option (List ℕ)). AreSaid other held new) first then
said_both (line ∷ one) other old mid new first then =
    record {
      is_line = first.is_line;
      between = first.between;
      is_said = first.is_said;
      rest_is = said_both one other first.between mid new first.rest_is then;
    }

pub some_said_both : (old mid new : Option (List ℕ)) → AreSomeSaid old mid → AreSomeSaid mid new
    → AreSomeSaid old new
some_said_both old mid new first then =
    (first.0 ++ then.0, said_both first.0 then.0 old mid new first.1 then.1)

-- one line
pub line_said : (line : List ℕ) (old new : Option (List ℕ)) → IsJournalLine line
    → IsFrontSaid line old new → AreSomeSaid old new
line_said line old new is said =
    (line ∷ [], record { is_line = is; between = new; is_said = said; rest_is = refl })

-- one that tells something of a link
pub link_said : (told : Tidings) (host : Option (List ℕ)) (more : ℕ) (old new : Option (List ℕ))
    → IsSaid told host more old new → AreSomeSaid old new
link_said told host more old new said =
    line_said said.line old new (of_link told host more said.is_line) said.is_said

said_if : (count : Option ℕ) (told : Tidings) (host old new : Option (List ℕ))
    → IsSaidIf count told host old new → AreSomeSaid old new
said_if None told host old new said = ([], said)
said_if (Some more) told host old new said = link_said told host more old new said

-- whatever is told
pub told_said : (moment : ℕ) (all : List Tidings) (old new : Journal)
    (held after : Option (List ℕ)) → AreTold moment all old new held after → AreSomeSaid held after
told_said moment [] old new held after told = ([], told.1)
told_said moment (first ∷ others) old new held after told =
    some_said_both held told.then after (said_if _ first _ held told.then
    told.tells_one.is_told.said)
    (told_said moment others told.between new told.then after told.rest_is)
