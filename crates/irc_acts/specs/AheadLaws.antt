-- What holds of entries that are served one after another.
use Rattle.std.proofs.Common.{◌≡◌, ℕ, List, [], ◌∷◌, ◌++◌, refl, sym, ◌∙◌, ap, subst, append_assoc}
use Rattle.std.specs.List.{flat_map}
use Rattle.irc_room.specs.effect.Effect.{Effect}
use Rattle.irc_room.specs.Room.{Room}
use Rattle.irc_room.specs.InTurn.{after_all, EachInTurn}
use Rattle.irc_room.specs.InTurnLaws.{after_all-append, each-append}
use Rattle.irc_acts.specs.declared.act.Act.{Act}
use Rattle.irc_acts.specs.declared.act.Act.TheVariants.{Answer, Raw, Do}
use Rattle.irc_acts.specs.Acts.{effects_among}
use Rattle.irc_acts.specs.Ahead.{ahead, in_turn}
use Rattle.irc_acts.specs.CommaLists.{entries}

pub among-append : (a b : List Act) → effects_among (a ++ b) ≡ effects_among a ++ effects_among b
among-append [] b = refl
among-append (Answer reply ∷ a) b = among-append a b
among-append (Raw line ∷ a) b = among-append a b
among-append (Do effect ∷ a) b = ap (λ effects. effect ∷ effects) (among-append a b)

-- steps are looked past one after another
pub ahead-append : (room : Room) (a b : List Act) → ahead room (a ++ b) ≡ ahead (ahead room a) b
ahead-append room a b =
    ap (after_all room) (among-append a b)
    ∙ after_all-append room (effects_among a) (effects_among b)

-- what each effect of some steps is, and of the steps behind them, each of all is
pub each-both : (Q : Room → Effect → Type 0) (room : Room) (a b : List Act)
    → EachInTurn Q room (effects_among a)
    → EachInTurn Q (ahead room a) (effects_among b)
    → EachInTurn Q room (effects_among (a ++ b))
each-both Q room a b one other =
    subst (EachInTurn Q room) (sym (among-append a b))
    (each-append Q room (effects_among a) (effects_among b) one other)

pub each-in_turn : {E : Type 0} (Q : Room → Effect → Type 0) (serve : Room → E → List Act)
    → ((room : Room) (entry : E) → EachInTurn Q room (effects_among (serve room entry)))
    → (room : Room) (entries : List E)
    → EachInTurn Q room (effects_among (in_turn serve room entries))
each-in_turn Q serve each room [] = tt
each-in_turn Q serve each room (entry ∷ entries) =
    each-both Q room (serve room entry) (in_turn serve (ahead room (serve room entry)) entries)
    (each room entry)
    (each-in_turn Q serve each (ahead room (serve room entry)) entries)

-- what the rest of a list is served when its first entry was
pub in_turn-more : {E : Type 0} (serve : Room → E → List Act) (room : Room)
    (before acts : List Act) (entry : E) (rest : List E)
    → serve (ahead room before) entry ≡ acts
    → before ++ in_turn serve (ahead room before) (entry ∷ rest)
    ≡ (before ++ acts) ++ in_turn serve (ahead room (before ++ acts)) rest
in_turn-more serve room before acts entry rest is =
    ap (λ a. before ++ (a ++ in_turn serve (ahead (ahead room before) a) rest)) is
    ∙ sym (append_assoc before acts (in_turn serve (ahead (ahead room before) acts) rest))
    ∙ ap (λ r. (before ++ acts) ++ in_turn serve r rest) (sym (ahead-append room before acts))

-- the same, once the steps of an entry were appended
pub one_served : {E : Type 0} (serve : Room → E → List Act) (room : Room) (entry : E)
    (rest : List E) (before after : List Act)
    → after ≡ before ++ serve (ahead room before) entry
    → after ++ in_turn serve (ahead room after) rest
    ≡ before ++ in_turn serve (ahead room before) (entry ∷ rest)
one_served serve room entry rest before after is =
    ap (λ acts. acts ++ in_turn serve (ahead room acts) rest) is
    ∙ sym (in_turn-more serve room before (serve (ahead room before) entry) entry rest refl)

-- and so with the entries of a comma list
pub entry_served : (serve : Room → List ℕ → List Act) (room : Room) (list rest entry : List ℕ)
    (before acts after total : List Act)
    → entries list ≡ entry ∷ entries rest
    → serve (ahead room before) entry ≡ acts
    → before ++ in_turn serve (ahead room before) (entries list) ≡ total → after ≡ before ++ acts
    → after ++ in_turn serve (ahead room after) (entries rest) ≡ total
entry_served serve room list rest entry before acts after total list_is is so_far after_is =
    ap (λ a. a ++ in_turn serve (ahead room a) (entries rest)) after_is
    ∙ sym (in_turn-more serve room before acts entry (entries rest) is)
    ∙ ap (λ es. before ++ in_turn serve (ahead room before) es) (sym list_is)
    ∙ so_far

-- steps without an effect

pub none-both : (a b : List Act) → effects_among a ≡ [] → effects_among b ≡ []
    → effects_among (a ++ b) ≡ []
none-both a b one other = among-append a b ∙ ap (λ effects. effects ++ effects_among b) one ∙ other

pub none-flat : {E : Type 0} (steps : E → List Act)
    → ((entry : E) → effects_among (steps entry) ≡ []) → (entries : List E)
    → effects_among (flat_map steps entries) ≡ []
none-flat steps each [] = refl
none-flat steps each (entry ∷ entries) =
    none-both (steps entry) (flat_map steps entries) (each entry) (none-flat steps each entries)
