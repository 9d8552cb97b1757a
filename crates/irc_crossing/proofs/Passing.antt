-- A change that passes the entries of a log one after another.
use Rattle.std.proofs.Common.{◌≡◌, ℕ, Option, Some, None, List, [], ◌∷◌, ◌++◌, take, drop, refl}
use Rattle.std.proofs.Common.{sym, ap, ◌∙◌, Bool, true, false, not, ◌&&◌, true≢false, if◌then◌else◌}
use Rattle.irc_names.specs.Fold.{same}
use Rattle.irc_crossing.specs.declared.change.Change.TheVariants.{Come, Rename, Go, Out, Join, Set}
use Rattle.irc_crossing.specs.Changes.{behind, both_go, crossed}
use Rattle.irc_crossing.specs.Loops.Comers.{are_comers}
use Rattle.irc_crossing.specs.declared.change.Change.{Change}
use Rattle.irc_crossing.specs.declared.log.Entry.{Entry}
use Rattle.irc_crossing.specs.Logs.{crossed_if, log_behind, through}

-- where there is none, it stays none, and the log stays
pub none_through : (log : List Entry) → None ≡ through None log
none_through [] = refl
none_through (entry ∷ log) = none_through log

same_change : (change : Option Change) → crossed_if change None ≡ change
same_change None = refl
same_change (Some change) = refl

pub none_behind : (log : List Entry) → log ≡ log_behind None log
none_behind [] = refl
none_behind (entry ∷ log) =
    λ i. record entry { change = sym (same_change entry.change) i } ∷ none_behind log i

-- the same where it is known by an equation
pub still_none : (theirs : Option Change) (log : List Entry) → theirs ≡ None
    → None ≡ through theirs log
still_none theirs log is = none_through log ∙ ap (λ it. through it log) (sym is)

pub still_there : (theirs : Option Change) (log : List Entry) → theirs ≡ None
    → log ≡ log_behind theirs log
still_there theirs log is = none_behind log ∙ ap (λ it. log_behind it log) (sym is)

-- ---- entry by entry

-- what passes the rest of a log is what passed all of it
pub record IsPassing (start : Option Change) (log : List Entry) (place : ℕ)
    (theirs : Option Change) (now : List Entry) : Type 0 where
  pub became : through theirs (drop place now) ≡ through start log
  pub behind : take place now ++ log_behind theirs (drop place now) ≡ log_behind start log

-- ---- two who come under two nicknames

first_not : (x y : Bool) → (not x && not y) ≡ true → x ≡ false
first_not true y is = sym is
first_not false y is = refl

second_not : (x y : Bool) → (not x && not y) ≡ true → y ≡ false
second_not true y is = absurd (true≢false (sym is))
second_not false true is = sym is
second_not false false is = refl

stays_come : (a b : List ℕ) → same a b ≡ false → Some (Come a) ≡ crossed (Come a) (Come b)
stays_come a b apart =
    sym (ap (λ t. if t then Some (both_go (Come a)) else behind (Come a) (Come b)) apart)

pub comers_pass : (theirs ours : Option Change) → are_comers theirs ours ≡ true
    → theirs ≡ crossed_if theirs ours
comers_pass None ours is = refl
comers_pass (Some (Come a)) None is = refl
comers_pass (Some (Come a)) (Some (Come b)) is =
    stays_come a b (first_not (same a b) (same b a) is)
comers_pass (Some (Come a)) (Some (Rename o w)) is = absurd (true≢false (sym is))
comers_pass (Some (Come a)) (Some (Go x y)) is = absurd (true≢false (sym is))
comers_pass (Some (Come a)) (Some (Out u c)) is = absurd (true≢false (sym is))
comers_pass (Some (Come a)) (Some (Join c b)) is = absurd (true≢false (sym is))
comers_pass (Some (Come a)) (Some (Set s)) is = absurd (true≢false (sym is))
comers_pass (Some (Rename o w)) ours is = absurd (true≢false (sym is))
comers_pass (Some (Go x y)) ours is = absurd (true≢false (sym is))
comers_pass (Some (Out u c)) ours is = absurd (true≢false (sym is))
comers_pass (Some (Join c b)) ours is = absurd (true≢false (sym is))
comers_pass (Some (Set s)) ours is = absurd (true≢false (sym is))

pub comers_stay : (theirs ours : Option Change) → are_comers theirs ours ≡ true
    → ours ≡ crossed_if ours theirs
comers_stay None ours is = absurd (true≢false (sym is))
comers_stay (Some (Come a)) None is = refl
comers_stay (Some (Come a)) (Some (Come b)) is =
    stays_come b a (second_not (same a b) (same b a) is)
comers_stay (Some (Come a)) (Some (Rename o w)) is = absurd (true≢false (sym is))
comers_stay (Some (Come a)) (Some (Go x y)) is = absurd (true≢false (sym is))
comers_stay (Some (Come a)) (Some (Out u c)) is = absurd (true≢false (sym is))
comers_stay (Some (Come a)) (Some (Join c b)) is = absurd (true≢false (sym is))
comers_stay (Some (Come a)) (Some (Set s)) is = absurd (true≢false (sym is))
comers_stay (Some (Rename o w)) ours is = absurd (true≢false (sym is))
comers_stay (Some (Go x y)) ours is = absurd (true≢false (sym is))
comers_stay (Some (Out u c)) ours is = absurd (true≢false (sym is))
comers_stay (Some (Join c b)) ours is = absurd (true≢false (sym is))
comers_stay (Some (Set s)) ours is = absurd (true≢false (sym is))
